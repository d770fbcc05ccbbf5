use Rattle.std.proofs.Common.{◌≡◌, take, map, []}
use Rattle.sil_grammar_names.specs.NameScopes.Names.{field_name}
use Rattle.sil_grammar_names.specs.NameScopes.inner.Symbols.{unnumbered_after}
use Rattle.sil_grammar_names.proofs.name_scopes.defining.names_of_fields.Given as goal

abbrev pub invariant-loop-field : goal.invariant-loop-field
invariant-loop-field l = l.table ≡ unnumbered_after [] (map field_name (take l.field-index l.fields))
