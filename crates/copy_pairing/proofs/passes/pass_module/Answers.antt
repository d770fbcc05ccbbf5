use Rattle.std.proofs.Common.{◌≡◌, ◌+◌, length, sym, ◌∙◌, subst, arith}
use Rattle.sil_cfg.specs.Items.{point_at}
use Rattle.copy_pairing.specs.inner.Passes.{ArePassed}
use Rattle.copy_pairing.proofs.Passed.{passed_on, passed_same}
use Rattle.copy_pairing.proofs.passes.pass_module.Goals as goal

pub loop-n-init : goal.loop-n-init
loop-n-init c = passed_same c.args.m.now 0 (point_at 0 0) c.requires.verified

pub pass_function-requires-clause-verified : goal.pass_function-requires-clause-verified
pass_function-requires-clause-verified c = c.loop-n.invariant.verified

pub pass_function-requires-clause-types : goal.pass_function-requires-clause-types
pass_function-requires-clause-types c = c.requires.types ∙ sym c.loop-n.invariant.declarations

pub loop-n-preserved : goal.loop-n-preserved
loop-n-preserved c =
    passed_on c.args.m.now c.loop-n.m c.pass_function.new.m 0 c.loop-n.n (c.loop-n.n + 1) (point_at 0 0) (point_at 0 0) (point_at 0 0) c.loop-n.invariant c.in_ok-pass_function.ensures

pub returns : goal.returns
returns c =
    let all : c.loop-n.n ≡ length c.args.m.now.functions = omega arith in
    subst (λ n. ArePassed c.args.m.now 0 (point_at 0 0) c.loop-n.m n (point_at 0 0)) all c.loop-n.invariant
