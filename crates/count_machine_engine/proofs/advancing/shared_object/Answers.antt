use Rattle.std.proofs.Common.{arith, drop, sym, ◌+◌, ◌∙◌}
use Rattle.count_machine_engine.proofs.SharedDrops.{alone}
use Rattle.count_machine_engine.proofs.advancing.shared_object.Goals as goal

pub returns : goal.returns
returns c =
    let leaves = drop (c.args.frame.now.leaves + c.args.operand.at) c.args.machine.now.leaves in (
      sym c.is_there.ensures ∙ c.if-not-is_there.false,
      alone c.args.operand.size leaves c.in_ok-object.object c.if-operand-ne1.false c.in_ok-object.ensures,
      sym c.is_dead.ensures ∙ c.if-is_dead.false,
      omega (arith, c.if-strong-lt2.false, c.strong.ensures),
    )
