use Rattle.std.proofs.Common.{◌≡◌, take, map, []}
use Rattle.sil_grammar_names.specs.NameScopes.Names.{case_name}
use Rattle.sil_grammar_names.specs.NameScopes.inner.Symbols.{unnumbered_after}
use Rattle.sil_grammar_names.proofs.name_scopes.defining.names_of_cases.Given as goal

abbrev pub invariant-loop-case : goal.invariant-loop-case
invariant-loop-case l = l.table ≡ unnumbered_after [] (map case_name (take l.case-index l.cases))
