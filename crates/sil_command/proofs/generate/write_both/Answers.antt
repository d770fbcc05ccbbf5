-- The lines are on a run of the optimised module.
use Rattle.std.proofs.Common.{◌∙◌, ap}
use Rattle.sil_command_lines.specs.Summaries.{summary_text}
use Rattle.sil_command.proofs.GeneratedRuns.{both_kept}
use Rattle.sil_command.proofs.generate.write_both.Goals as goal

pub returns : goal.returns
returns c =
    let second = c.in_ok-optimised.ensures in
    both_kept c.write_lines.result _ _ _
    (λ a text done. (second.0, second.1, text ∙ ap (summary_text c.args.functions c.args.before c.args.after c.args.plain.now) second.2, done))
    c.write_lines.ensures.text c.write_lines.ensures.status
