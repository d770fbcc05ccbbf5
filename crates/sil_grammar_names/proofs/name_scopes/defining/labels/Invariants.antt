use Rattle.std.proofs.Common.{◌≡◌, take}
use Rattle.sil_grammar_names.specs.NameScopes.inner.Symbols.{labels_in}
use Rattle.sil_grammar_names.proofs.name_scopes.defining.labels.Given as goal

abbrev pub invariant-loop-block : goal.invariant-loop-block
invariant-loop-block l = l.table ≡ labels_in (take l.block-index l.blocks)
