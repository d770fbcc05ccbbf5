-- None of the instructions so far has a fault.
use Rattle.std.proofs.Common.{◌≡◌, drop}
use Rattle.type_check.specs.inner.FirstFault.{fault_of_inst}
use Rattle.type_check.specs.inner.Firsts.{first_from}
use Rattle.type_check.proofs.points.first_in_insts.Given as goal

abbrev pub invariant-loop-inst : goal.invariant-loop-inst
invariant-loop-inst l =
    (l.index ≡ l.inst-index)
    × (first_from (fault_of_inst l.body.module.now l.body.number l.body.function.now l.block) 0 l.insts
    ≡ first_from (fault_of_inst l.body.module.now l.body.number l.body.function.now l.block) l.index (drop l.inst-index l.insts))
