use Rattle.std.proofs.Common.{sym, ◌∙◌}
use Rattle.instruction_table.specs.declared.builtin_names.names.Operation.TheVariants.{AddWithOverflow}
use Rattle.sil_types.specs.Typing.Builtins.{at_widths, is_named}
use Rattle.type_check_rows.specs.inner.BuiltinViews.{builtin_told}
use Rattle.type_check_rows.proofs.Finding.{found_here, not_found_here}
use Rattle.type_check_rows.proofs.builtins.named_among.Goals as goal

pub returns-in-Some : goal.returns-in-Some
returns-in-Some c =
    found_here (is_named c.args.name.now) at_widths c.args.operations.now c.loop-operation.operation-index AddWithOverflow (builtin_told c.in-Some.found) c.loop-operation-test.true c.in-Some.ensures
    ∙ sym c.loop-operation.invariant

pub loop-operation-preserved : goal.loop-operation-preserved
loop-operation-preserved c =
    c.loop-operation.invariant
    ∙ not_found_here (is_named c.args.name.now) at_widths c.args.operations.now c.loop-operation.operation-index AddWithOverflow c.loop-operation-test.true c.in_default.ensures
