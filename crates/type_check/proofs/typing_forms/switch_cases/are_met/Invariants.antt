use Rattle.std.proofs.Common.{◌≡◌, ◌-◌, false}
use Rattle.std.specs.Prelude.{slice_index_or}
use Rattle.std.specs.List.{list_all, range_with_len}
use Rattle.type_check.proofs.typing_forms.switch_cases.are_met.Given as goal

abbrev pub invariant-loop-place : goal.invariant-loop-place
invariant-loop-place l = list_all (λ k. slice_index_or l.met k false) (range_with_len l.place (l.count - l.place)) ≡ list_all (λ k. slice_index_or l.met k false) (range_with_len 0 l.count)
