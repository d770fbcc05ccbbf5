use Rattle.std.proofs.Common.{ap, ◌∙◌}
use Rattle.std.specs.List.{list_any}
use Rattle.copy_pairing_model.specs.Removable.{concerns}
use Rattle.copy_pairing.proofs.moves.is_concerned_at.Goals as goal

pub returns : goal.returns
returns c = c.concern_one.ensures ∙ ap (list_any (concerns c.args.copied.value c.args.copied.operand)) (c.as_slice.ensures.value ∙ c.in_ok-marks.ensures)
