use Rattle.sil_cfg.specs.Items.{point_at}
use Rattle.copy_pairing.specs.inner.Passes.{ArePassed}
use Rattle.copy_pairing.proofs.passes.pass_module.Given as goal

abbrev pub invariant-loop-n : goal.invariant-loop-n
invariant-loop-n l = ArePassed l.initial.m 0 (point_at 0 0) l.m l.n (point_at 0 0)
