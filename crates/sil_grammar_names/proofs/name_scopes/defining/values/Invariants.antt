use Rattle.std.proofs.Common.{◌≡◌, take}
use Rattle.sil_grammar_names.specs.NameScopes.inner.Symbols.{values_in}
use Rattle.sil_grammar_names.proofs.name_scopes.defining.values.Given as goal

abbrev pub invariant-loop-block : goal.invariant-loop-block
invariant-loop-block l = l.table ≡ values_in (take l.block-index l.blocks)
