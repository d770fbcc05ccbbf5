-- The clauses of the public call, from the one relation of `run`.
use Rattle.sil_command.proofs.EndLemmas.{whole_answers, four_is_read_fault, five_is_write_fault, read_fault_ends, write_fault_ends, five_writes_front, nine_keeps, ends_status}
use Rattle.sil_command.proofs.top_call.command.Goals as goal

pub returns : goal.returns
returns g c = record {
  answers = whole_answers _ _ c.run.ensures.ends;
  source_untouched = c.run.ensures.source_untouched;
  takes = c.run.ensures.takes;
  read_fault_cause = four_is_read_fault _ _ c.run.ensures.ends;
  read_fault = read_fault_ends _ _ c.run.ensures.ends;
  write_fault_cause = five_is_write_fault _ _ c.run.ensures.ends;
  write_fault = write_fault_ends _ _ c.run.ensures.ends;
  written_front = five_writes_front _ _ c.run.ensures.ends;
  exhausted = nine_keeps _ _ c.run.ensures.ends;
  statuses = ends_status _ _ c.run.ensures.ends;
  ends = c.run.ensures.ends;
}
