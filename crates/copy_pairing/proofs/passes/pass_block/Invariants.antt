use Rattle.sil_cfg.specs.Items.{point_at}
use Rattle.copy_pairing.specs.inner.Passes.{ArePassed}
use Rattle.copy_pairing.specs.inner.Surveys.{IsKeptIn}
use Rattle.copy_pairing.proofs.passes.pass_block.Given as goal

abbrev pub invariant-loop-index : goal.invariant-loop-index
invariant-loop-index l = record {
  passed : ArePassed l.initial.m l.function (point_at l.block.0 0) l.m l.function (point_at l.block.0 l.index);
  kept : IsKeptIn l.types l.m l.function l.kept;
}
