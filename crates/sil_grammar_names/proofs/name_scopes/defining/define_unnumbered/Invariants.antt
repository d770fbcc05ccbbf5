use Rattle.std.proofs.Common.{◌≡◌, take, map}
use Rattle.sil_grammar_names.specs.NameScopes.inner.Symbols.{unnumbered, with_definitions}
use Rattle.sil_grammar_names.proofs.name_scopes.defining.define_unnumbered.Given as goal

abbrev pub invariant-loop-token : goal.invariant-loop-token
invariant-loop-token l = l.table ≡ with_definitions l.initial.table (map unnumbered (take l.token-index l.tokens))
