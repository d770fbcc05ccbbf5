-- The `?` that are left make of the type what all of them make of the first one.
use Rattle.std.proofs.Common.{◌≡◌, drop}
use Rattle.sil_grammar_values.specs.Types.{with_questions}
use Rattle.sil_grammar_types.proofs.build_types.with_questions.Given as goal

abbrev pub invariant-loop-question : goal.invariant-loop-question
invariant-loop-question l = with_questions l.ty (drop l.question-index l.question-items) ≡ with_questions l.fn.inner l.fn.questions
