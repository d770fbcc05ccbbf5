use Rattle.std.proofs.Common.{ap, ◌∷◌}
use Rattle.std.specs.Option.{option_copied}
use Rattle.sil_rules.specs.declared.limits.TheConstants.{DEPTH}
use Rattle.sil_types_declarations.specs.TypeDefinitions.Declarations.{ancestors_of}
use Rattle.count_machine_layouts.proofs.ReachedFunctions.ClassLines.{line_begun, line_next}
use Rattle.count_machine_layouts.proofs.reached_functions.classes.class_chain.Goals as goal

pub loop-init : goal.loop-init
loop-init c =
    line_begun c.args.table.now c.push.new.self.items c.new-chain.result.items c.args.class (option_copied c.superclass-above.result)
    c.in_ok-push.ensures.items c.new-chain.ensures.items c.superclass-above.ensures

pub loop-preserved : goal.loop-preserved
loop-preserved c =
    let class = c.args.class.now in
    line_next c.args.table.now DEPTH c.loop.counter c.loop-test.true c.loop.chain.items c.push-in-loop.new.self.items c.in-Some.class
    (option_copied c.loop.above)
    (option_copied c.superclass-above-in-loop.result) (class ∷ ancestors_of c.args.table.now class) (ap option_copied c.in-Some.is) c.in_ok-push-2.ensures.items
    c.superclass-above-in-loop.ensures c.loop.invariant
