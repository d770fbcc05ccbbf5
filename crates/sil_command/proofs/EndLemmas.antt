-- What follows from how a call of the command ends: the clauses of the public call.
use Rattle.std.proofs.Common.{◌≡◌, ◌⊎◌, inl, inr, ℕ, ◌<◌, Bool, true, List, refl, sym, subst, arith}
use Rattle.sil_verifier.specs.holder_model.States as ending
use Rattle.sil_verifier.specs.holder_model.States.{Ending}
use Rattle.sil_verifier.specs.holder_model.Faults.{HolderFault}
use Rattle.sil_ast.specs.declared.module.Module.{Module}
use Rattle.sil_io.specs.Count.{MayFail}
use Rattle.sil_command.specs.declared.status.Status.{Status}
use Rattle.sil_command.specs.declared.status.Status.TheVariants.{Done, Refused, Usage, NotAModule, ReadFault, WriteFault, Trapped, OutOfTurns, Limit, OutOfMemory, NoEntry}
use Rattle.sil_command.specs.Statuses.{code_of}
use Rattle.sil_command_lines.specs.Texts.{read_fault_text}
use Rattle.sil_command.specs.declared.words.Mode.{Mode}
use Rattle.sil_command.specs.declared.words.Mode.TheVariants.{Check, Generate, Lower, Optimize, Print, Run}
use Rattle.sil_command.specs.Answers.{Answers, usage, in_mode, AnswersText, too_long, unread, spelled, AnswersModule, AnswersChecked, AnswersRun, AnswersWrong, limit_passed, refused, wrong, accepted}
use Rattle.sil_command.specs.Answers.{HasStatus, Writes, WritesOf, written, no_entry, ran}
use Rattle.sil_command.specs.Generated.{AnswersGenerated, both_ran}
use Rattle.sil_command.specs.GivenTexts.{text_for}
use Rattle.sil_command.specs.Ends.{Call, Ends, answered, read_failed, exhausted, whole, front, WritesAnswer, Exhausts, WritesWhole, WritesFrontOfAnswer, IsStatus}
use Rattle.sil_command.proofs.Unread.{unread_status}

-- the statuses of answers: no failed read or write, and not want of memory
abbrev IsAnswerStatus : ℕ → Type 0
IsAnswerStatus status =
    (status ≡ code_of Done) ⊎ (status ≡ code_of Refused) ⊎ (status ≡ code_of Usage) ⊎ (status ≡ code_of NotAModule) ⊎ (status ≡ code_of Limit)
    ⊎ (status ≡ code_of Trapped) ⊎ (status ≡ code_of OutOfTurns) ⊎ (status ≡ code_of NoEntry)

zero_is : IsAnswerStatus (code_of Done)
zero_is = inl refl

one_is : IsAnswerStatus (code_of Refused)
one_is = inr (inl refl)

two_is : IsAnswerStatus (code_of Usage)
two_is = inr (inr (inl refl))

eight_is : IsAnswerStatus (code_of Limit)
eight_is = inr (inr (inr (inr (inl refl))))

six_is : IsAnswerStatus (code_of Trapped)
six_is = inr (inr (inr (inr (inr (inl refl)))))

seven_is : IsAnswerStatus (code_of OutOfTurns)
seven_is = inr (inr (inr (inr (inr (inr (inl refl))))))

ten_is : IsAnswerStatus (code_of NoEntry)
ten_is = inr (inr (inr (inr (inr (inr (inr refl))))))

wrong_status : (m : Module) (answer : List ℕ) (status : ℕ) → AnswersWrong m answer status → IsAnswerStatus status
wrong_status m _ _ (refused x first rule) = one_is
wrong_status m _ _ (limit_passed what first) = eight_is

written_status : (text answer : List ℕ) (status : ℕ) → Writes text answer status → IsAnswerStatus status
written_status text _ _ written = zero_is

of_status : (text : Module → List ℕ) (optimises : Bool) (m : Module) (answer : List ℕ) (status : ℕ) → WritesOf text optimises m answer status → IsAnswerStatus status
of_status text optimises m answer status (k, left, writes) = written_status (text k) answer status writes

checked_status : (m : Module) (AnswersAccepted : List ℕ → ℕ → Type 0) → ((answer : List ℕ) (status : ℕ) → AnswersAccepted answer status → IsAnswerStatus status)
    → (answer : List ℕ) (status : ℕ) → AnswersChecked m AnswersAccepted answer status → IsAnswerStatus status
checked_status m A of_accepted answer status (wrong _ _ answers) = wrong_status m answer status answers
checked_status m A of_accepted answer status (accepted _ _ all answers) = of_accepted answer status answers

ending_status : (x : Ending HolderFault) (s : Status) → HasStatus x s → IsAnswerStatus (code_of s)
ending_status (ending.Returned x) s is = subst (λ t. IsAnswerStatus (code_of t)) (sym is) zero_is
ending_status (ending.Trapped t) s is = subst (λ t. IsAnswerStatus (code_of t)) (sym is) six_is
ending_status ending.OutOfTurns s is = subst (λ t. IsAnswerStatus (code_of t)) (sym is) seven_is
ending_status (ending.Faulted x) s is = absurd is

run_status : (m : Module) (name : List ℕ) (bound : ℕ) (optimises : Bool) (answer : List ℕ) (status : ℕ) → AnswersRun m name bound optimises answer status
    → IsAnswerStatus status
run_status m name bound optimises _ _ (no_entry none) = ten_is
run_status m name bound optimises _ _ (ran k e f x s left entry ends has never) = ending_status x.ending s has

generated_status : (m : Module) (answer : List ℕ) (status : ℕ) → AnswersGenerated m answer status → IsAnswerStatus status
generated_status m _ _ (both_ran k x y left plain optimised) = zero_is

module_status : (mode : Mode) (m : Module) (answer : List ℕ) (status : ℕ) → AnswersModule mode m answer status → IsAnswerStatus status
module_status Check m = checked_status m _ (written_status _)
module_status Print m = written_status _
module_status (Lower optimises) m = checked_status m _ (of_status _ optimises m)
module_status Optimize m = checked_status m _ (of_status _ true m)
module_status (Run entry turns optimises) m = checked_status m _ (run_status m entry turns optimises)
module_status (Generate size) m = checked_status m _ (generated_status m)

unread_is : (status : ℕ) → (status ≡ code_of NotAModule) ⊎ (status ≡ code_of Limit) → IsAnswerStatus status
unread_is status (inl three) = inr (inr (inr (inl three)))
unread_is status (inr eight) = inr (inr (inr (inr (inl eight))))

text_status : (mode : Mode) (text answer : List ℕ) (status : ℕ) → AnswersText mode text answer status → IsAnswerStatus status
text_status mode text _ _ (too_long long) = eight_is
text_status mode text answer status (unread reason _ _ within refusal line) = unread_is status (unread_status reason answer status line)
text_status mode text answer status (spelled m _ _ within spells answers) = module_status mode m answer status answers

answer_status : (words : List (List ℕ)) (text answer : List ℕ) (status : ℕ) → Answers words text answer status → IsAnswerStatus status
answer_status words text _ _ (usage none) = two_is
answer_status words text answer status (in_mode mode _ _ asks answers) = text_status mode (text_for mode text) answer status answers

-- an answer's status is one of all
all_statuses : (status : ℕ) → IsAnswerStatus status → IsStatus status
all_statuses status (inl zero) = (Done, zero)
all_statuses status (inr (inl one)) = (Refused, one)
all_statuses status (inr (inr (inl two))) = (Usage, two)
all_statuses status (inr (inr (inr (inl three)))) = (NotAModule, three)
all_statuses status (inr (inr (inr (inr (inl eight))))) = (Limit, eight)
all_statuses status (inr (inr (inr (inr (inr (inl six)))))) = (Trapped, six)
all_statuses status (inr (inr (inr (inr (inr (inr (inl seven))))))) = (OutOfTurns, seven)
all_statuses status (inr (inr (inr (inr (inr (inr (inr ten))))))) = (NoEntry, ten)

four_is : IsStatus (code_of ReadFault)
four_is = (ReadFault, refl)

five_is : IsStatus (code_of WriteFault)
five_is = (WriteFault, refl)

-- a count that stays may not have risen
rose_not : (old new : ℕ) → new ≡ old → old < new → ⊥
rose_not old new e h = omega arith

-- an answer is finished whole, or not at all
pub whole_answers : (call : Call) (status : ℕ) → Ends call status
    → (MayFail call.read_faults call.new_read_faults → ⊥) → (MayFail call.write_faults call.new_write_faults → ⊥)
    → WritesAnswer call.words call.left call.Takes call.Gains status ⊎ Exhausts call.IsUntouched status
whole_answers call status (answered answer wanted _ allowed calm (whole gained same)) reads writes =
    inl (record { answer = answer; allowed = allowed; gained = gained })
whole_answers call status (answered answer wanted _ allowed calm (front gained fault)) reads writes = absurd (writes fault)
whole_answers call status (read_failed _ fault finished) reads writes = absurd (reads fault)
whole_answers call _ (exhausted untouched same) reads writes = inr (record { status_is = refl; untouched = untouched })

pub four_is_read_fault : (call : Call) (status : ℕ) → Ends call status → status ≡ code_of ReadFault → MayFail call.read_faults call.new_read_faults
four_is_read_fault call status (answered answer wanted _ allowed calm (whole gained same)) four =
    let s = answer_status call.words allowed.text answer wanted allowed.allowed in
    absurd (omega (arith, s))
four_is_read_fault call status (answered answer wanted _ allowed calm (front gained fault)) four = absurd (omega arith)
four_is_read_fault call status (read_failed _ fault finished) four = fault
four_is_read_fault call _ (exhausted untouched same) four = absurd (omega arith)

pub five_is_write_fault : (call : Call) (status : ℕ) → Ends call status → status ≡ code_of WriteFault → MayFail call.write_faults call.new_write_faults
five_is_write_fault call status (answered answer wanted _ allowed calm (whole gained same)) five =
    let s = answer_status call.words allowed.text answer wanted allowed.allowed in
    absurd (omega (arith, s))
five_is_write_fault call status (answered answer wanted _ allowed calm (front gained fault)) five = fault
five_is_write_fault call status (read_failed _ read (whole gained same)) five = absurd (omega arith)
five_is_write_fault call status (read_failed _ read (front gained fault)) five = fault
five_is_write_fault call _ (exhausted untouched same) five = absurd (omega arith)

pub read_fault_ends : (call : Call) (status : ℕ) → Ends call status → call.read_faults < call.new_read_faults
    → (MayFail call.write_faults call.new_write_faults → ⊥)
    → WritesWhole call.Gains read_fault_text (code_of ReadFault) status ⊎ Exhausts call.IsUntouched status
read_fault_ends call status (answered answer wanted _ allowed calm finished) rose writes = absurd (rose_not _ _ calm rose)
read_fault_ends call status (read_failed _ read (whole gained same)) rose writes = inl (record { status_is = refl; gained = gained })
read_fault_ends call status (read_failed _ read (front gained fault)) rose writes = absurd (writes fault)
read_fault_ends call _ (exhausted untouched same) rose writes = inr (record { status_is = refl; untouched = untouched })

pub write_fault_ends : (call : Call) (status : ℕ) → Ends call status → call.write_faults < call.new_write_faults → status ≡ code_of WriteFault
write_fault_ends call status (answered answer wanted _ allowed calm (whole gained same)) rose = absurd (rose_not _ _ same rose)
write_fault_ends call status (answered answer wanted _ allowed calm (front gained fault)) rose = refl
write_fault_ends call status (read_failed _ read (whole gained same)) rose = absurd (rose_not _ _ same rose)
write_fault_ends call status (read_failed _ read (front gained fault)) rose = refl
write_fault_ends call _ (exhausted untouched same) rose = absurd (rose_not _ _ same rose)

pub five_writes_front : (call : Call) (status : ℕ) → Ends call status → status ≡ code_of WriteFault
    → WritesFrontOfAnswer call.words call.left call.Takes call.GainsFront
    ⊎ (MayFail call.read_faults call.new_read_faults × call.GainsFront read_fault_text)
five_writes_front call status (answered answer wanted _ allowed calm (whole gained same)) five =
    let s = answer_status call.words allowed.text answer wanted allowed.allowed in
    absurd (omega (arith, s))
five_writes_front call status (answered answer wanted _ allowed calm (front gained fault)) five =
    inl (record { answer = answer; status = wanted; allowed = allowed; gained = gained })
five_writes_front call status (read_failed _ read (whole gained same)) five = absurd (omega arith)
five_writes_front call status (read_failed _ read (front gained fault)) five = inr (read, gained)
five_writes_front call _ (exhausted untouched same) five = absurd (omega arith)

pub nine_keeps : (call : Call) (status : ℕ) → Ends call status → status ≡ code_of OutOfMemory → call.IsUntouched
nine_keeps call status (answered answer wanted _ allowed calm (whole gained same)) nine =
    let s = answer_status call.words allowed.text answer wanted allowed.allowed in
    absurd (omega (arith, s))
nine_keeps call status (answered answer wanted _ allowed calm (front gained fault)) nine = absurd (omega arith)
nine_keeps call status (read_failed _ read (whole gained same)) nine = absurd (omega arith)
nine_keeps call status (read_failed _ read (front gained fault)) nine = absurd (omega arith)
nine_keeps call _ (exhausted untouched same) nine = untouched

pub ends_status : (call : Call) (status : ℕ) → Ends call status → IsStatus status
ends_status call status (answered answer wanted _ allowed calm (whole gained same)) =
    all_statuses status (answer_status call.words allowed.text answer wanted allowed.allowed)
ends_status call status (answered answer wanted _ allowed calm (front gained fault)) = five_is
ends_status call status (read_failed _ read (whole gained same)) = four_is
ends_status call status (read_failed _ read (front gained fault)) = five_is
ends_status call _ (exhausted untouched same) = (OutOfMemory, refl)
