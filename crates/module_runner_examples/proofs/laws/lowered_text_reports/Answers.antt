-- For the law `lowered_text_reports`.
use Rattle.module_runner_examples.proofs.LoweredRetainedWithoutARelease.{lowered_retained_without_a_release_proved}
use Rattle.module_runner_examples.proofs.LoweredUnwrittenFieldIsSkipped.{lowered_unwritten_field_is_skipped_proved}
use Rattle.module_runner_examples.proofs.laws.lowered_text_reports.Goals as goal

pub returns : goal.returns
returns c = record {
  lowered_retained_without_a_release = lowered_retained_without_a_release_proved;
  lowered_unwritten_field_is_skipped = lowered_unwritten_field_is_skipped_proved;
}
