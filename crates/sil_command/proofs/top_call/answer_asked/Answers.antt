-- Which text is answered, and that a generated one needs no source.
use Rattle.std.proofs.Common.{refl, rules, subst}
use Rattle.sil_io.specs.Reading.{nothing, stopped}
use Rattle.sil_command.specs.Ends.{answered, exhausted}
use Rattle.sil_command.specs.Words.{AsksFor, IsAskedFor}
use Rattle.sil_command.proofs.GeneratedLemmas.{generated_answer}
use Rattle.sil_command.proofs.top_call.answer_asked.Goals as goal

pub answer_to_size-requires : goal.answer_to_size-requires
answer_to_size-requires g c = subst IsAskedFor (rw c.in-Some.is at c.size_of.ensures) c.requires

pub returns-in-Ok-clause-ends : goal.returns-in-Ok-clause-ends
returns-in-Ok-clause-ends g c = λ words asks.
    answered _ _ _
    (generated_answer c.command_lines_say_one_thing.ensures words c.in-Some.size (subst (AsksFor words) (rw c.in-Some.is at c.size_of.ensures) asks) _ _ _ _ c.in-Ok.ensures)
    refl
    (rw c.as_slice.ensures.value at c.finish.ensures)

pub returns-in-Ok-clause-takes : goal.returns-in-Ok-clause-takes
returns-in-Ok-clause-takes g c = stopped _ (search rules) nothing

pub returns-in-Some-clause-ends : goal.returns-in-Some-clause-ends
returns-in-Some-clause-ends g c = λ words asks. rw c.code.ensures (exhausted refl refl)

pub returns-in-Some-clause-takes : goal.returns-in-Some-clause-takes
returns-in-Some-clause-takes g c = stopped _ (search rules) nothing

pub answer_in-requires : goal.answer_in-requires
answer_in-requires g c = record { asked = c.requires; takes = rw c.in-None.is at c.size_of.ensures }

pub returns-clause-source_untouched : goal.returns-clause-source_untouched
returns-clause-source_untouched g c = λ none. absurd (none (rw c.in-None.is at c.size_of.ensures))
