use Rattle.std.proofs.Common.{false, sym, ◌∙◌}
use Rattle.std.specs.Prelude.{slice_index_or}
use Rattle.type_check.proofs.TypingForms.MetCases.{all_more}
use Rattle.type_check.proofs.typing_forms.switch_cases.are_met.Goals as goal

pub loop-place-preserved : goal.loop-place-preserved
loop-place-preserved c = sym (all_more (λ k. slice_index_or c.args.met.now k false) c.loop-place.place c.args.count c.loop-place-test.true c.if-not-met-place.false) ∙ c.loop-place.invariant
