-- Words that are no command line, and want of memory before they are read.
use Rattle.std.proofs.Common.{Bor, List, ℕ, map, refl, rules}
use Rattle.sil_io.specs.Reading.{nothing, stopped}
use Rattle.sil_command.specs.Ends.{answered, exhausted}
use Rattle.sil_command.proofs.AnswerLemmas.{usage_answer}
use Rattle.sil_command.proofs.top_call.run.Goals as goal

pub answer_asked-requires : goal.answer_asked-requires
answer_asked-requires g c = (map {A = Bor (List ℕ)} (λ w. w.now) c.args.words.now, rw c.in-Ok-Some.field-0-is at c.in-Ok-Some.ensures)

pub returns-in-Ok-Some-clause-source_untouched : goal.returns-in-Ok-Some-clause-source_untouched
returns-in-Ok-Some-clause-source_untouched g c = λ none.
    c.answer_asked.ensures.source_untouched (λ takes. none (c.in-Ok-Some.mode, rw c.in-Ok-Some.field-0-is at c.in-Ok-Some.ensures, takes))

pub returns-in-Ok-None-clause-ends : goal.returns-in-Ok-None-clause-ends
returns-in-Ok-None-clause-ends g c =
    answered _ _ _ (usage_answer _ _ _ (rw c.in-Ok-None.field-0-is at c.in-Ok-None.ensures)) refl
    (rw c.usage.ensures at c.finish.ensures)

pub returns-in-Ok-None-clause-takes : goal.returns-in-Ok-None-clause-takes
returns-in-Ok-None-clause-takes g c = stopped _ (search rules) nothing

pub returns-in-Err-clause-ends : goal.returns-in-Err-clause-ends
returns-in-Err-clause-ends g c = rw c.code.ensures (exhausted refl refl)

pub returns-in-Err-clause-takes : goal.returns-in-Err-clause-takes
returns-in-Err-clause-takes g c = stopped _ (search rules) nothing
