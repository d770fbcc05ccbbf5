-- The text spells the generated module, which has a `@main`.
use Rattle.std.proofs.Common.{◌≡◌, ◌≤◌, ◌∙◌, length, subst, sym}
use Rattle.std.specs.Prelude.{codes}
use Rattle.module_runner.specs.Entries.{HasEntry}
use Rattle.sil_command_generator.specs.GeneratedModules.{generated, generated_module}
use Rattle.sil_grammar.specs.Refusals.{IsRefusalOf}
use Rattle.sil_grammar.specs.Spells.{Spells}
use Rattle.sil_rules.specs.declared.limits.TheConstants.{TEXT_BYTES}
use Rattle.sil_command.specs.Statuses.{code_of}
use Rattle.sil_command.specs.declared.words.Mode.TheVariants.{Generate}
use Rattle.sil_command.proofs.AnswerLemmas.{read_answer, unread_answer}
use Rattle.sil_command.proofs.GeneratedLemmas.{size_asked}
use Rattle.sil_command.proofs.given_text.answer_to_size.Goals as goal

pub generated_text-requires : goal.generated_text-requires
generated_text-requires c = size_asked c.args.size c.requires

pub read_owned-requires : goal.read_owned-requires
read_owned-requires c =
    let size = c.args.size in
    let is : c.in_ok-text.text.items ≡ generated size = c.in_ok-text.ensures ∙ c.in_ok-generated_text.ensures in
    subst (λ t. length t ≤ TEXT_BYTES) (sym is) (c.generated_texts_are_short.ensures size (size_asked size c.requires).1)

pub answer_generated-requires : goal.answer_generated-requires
answer_generated-requires c =
    let size = c.args.size in
    let is : c.in_ok-text.text.items ≡ generated size = c.in_ok-text.ensures ∙ c.in_ok-generated_text.ensures in
    let spells : Spells (generated_module size) (generated size) =
    c.printed_modules_are_spelled.ensures (generated_module size) (c.generated_modules_are_numbered.ensures size (size_asked size c.requires).1) in
    let same : generated_module size ≡ c.in-Ok.«module» =
    c.in-Ok.ensures.only (generated_module size) (subst (λ t. Spells (generated_module size) t) (sym is) spells) in
    record { numbered = c.in-Ok.ensures.numbered; main = subst (λ m. HasEntry m (codes "main")) same (c.generated_modules_have_main.ensures size) }

pub returns-in-Ok : goal.returns-in-Ok
returns-in-Ok c =
    let size = c.args.size in
    let is : c.in_ok-text.text.items ≡ generated size = c.in_ok-text.ensures ∙ c.in_ok-generated_text.ensures in
    let within = c.generated_texts_are_short.ensures size (size_asked size c.requires).1 in
    read_answer c.answer_generated.result (λ a. a.text.items) (λ a. code_of a.status) (Generate size) within
    (subst (λ t. Spells c.in-Ok.«module» t) is c.in-Ok.ensures.found) c.answer_generated.ensures

pub returns-in-Err : goal.returns-in-Err
returns-in-Err c =
    let size = c.args.size in
    let is : c.in_ok-text.text.items ≡ generated size = c.in_ok-text.ensures ∙ c.in_ok-generated_text.ensures in
    let within = c.generated_texts_are_short.ensures size (size_asked size c.requires).1 in
    unread_answer c.answer_refusal.result (λ a. a.text.items) (λ a. code_of a.status) (Generate size) within
    (subst (λ t. IsRefusalOf t c.in-Err.reason) is c.in-Err.ensures.refused) c.answer_refusal.ensures
