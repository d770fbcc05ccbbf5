use Rattle.std.proofs.Common.{◌≡◌, take, map, []}
use Rattle.std.specs.List.{flat_map}
use Rattle.sil_grammar_names.specs.NameScopes.Names.{vtable_name, vtables_of}
use Rattle.sil_grammar_names.specs.NameScopes.inner.Symbols.{unnumbered_after}
use Rattle.sil_grammar_names.proofs.name_scopes.defining.classes_of_vtables.Given as goal

abbrev pub invariant-loop-item : goal.invariant-loop-item
invariant-loop-item l = l.table ≡ unnumbered_after [] (map vtable_name (flat_map vtables_of (take l.item-index l.items)))
