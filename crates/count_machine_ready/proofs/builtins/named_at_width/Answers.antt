use Rattle.std.proofs.Common.{◌∙◌}
use Rattle.instruction_table.specs.BuiltinNames.BuiltinNames.{widths}
use Rattle.sil_types.specs.Typing.Builtins.{at_width, is_named}
use Rattle.count_machine_ready.specs.inner.BuiltinsTold.{is_spelled_by}
use Rattle.count_machine_ready.proofs.Finding.{find_alike, find_none}
use Rattle.count_machine_ready.proofs.builtins.named_at_width.Goals as goal

pub returns-in_default : goal.returns-in_default
returns-in_default c = find_none (is_named c.args.name.now) (at_width c.args.operation) c.in_default.ensures widths

pub returns : goal.returns
returns c =
    c.spelled_at.ensures
    ∙ find_alike (is_spelled_by c.in-Some.text.now) (is_named c.args.name.now) (at_width c.args.operation) c.in-Some.ensures widths
