use Rattle.std.proofs.Common.{◌≡◌, ◌==◌, true, List, [], ◌∷◌, length, sym, subst, ◌∙◌}
use Rattle.std.proofs.lemmas.Bool.{eqb-true}
use Rattle.std.proofs.lemmas.List.{nil_from_length}
use Rattle.count_machine_model.specs.declared.ready_code.local.Local.{Local}
use Rattle.count_machine_model.specs.declared.ready_code.op.ReadyOp.TheVariants as op
use Rattle.count_machine_rows.specs.Performing.{Performs}
use Rattle.count_machine_rows.proofs.group_rows.group.Goals as goal

pub returns : goal.returns
returns c =
    subst (λ (ls : List Local). Performs c.args.machine.now c.args.frame.now (op.Group ls c.args.to) c.group_of.result c.group_of.new.machine)
    c.as_slice-operands.ensures c.group_of.ensures

pub returns-then-is_empty : goal.returns-then-is_empty
returns-then-is_empty c =
    subst (λ (ls : List Local). Performs c.args.machine.now c.args.frame.now (op.Group ls c.args.to) c.give_nothing.result c.give_nothing.new.machine)
    (sym (nil_from_length c.as_slice-operands.result.now (eqb-true (length c.as_slice-operands.result.now) 0 (sym c.is_empty.ensures ∙ c.if-is_empty.true)))
    ∙ c.as_slice-operands.ensures) (λ ready bound. c.give_nothing.ensures)
