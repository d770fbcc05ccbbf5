use Rattle.sil_cfg.specs.Items.{point_at}
use Rattle.copy_pairing.specs.inner.Passes.{ArePassed}
use Rattle.copy_pairing.specs.inner.Surveys.{IsKeptIn}
use Rattle.copy_pairing.proofs.passes.pass_function.Given as goal

abbrev pub invariant-loop-b : goal.invariant-loop-b
invariant-loop-b l = record {
  passed : ArePassed l.initial.m l.function (point_at 0 0) l.m l.function (point_at l.b 0);
  kept : IsKeptIn l.types l.m l.function l.kept;
}
