-- What an answer to a text that isn't read tells: its status, and that the text spells no module.
use Rattle.std.proofs.Common.{◌≡◌, ◌⊎◌, inl, inr, ℕ, List, refl}
use Rattle.sil_grammar.specs.declared.refusal.ReadRefusal.{ReadRefusal}
use Rattle.sil_grammar.specs.declared.refusal.ReadRefusal.TheVariants.{Memory}
use Rattle.sil_grammar.specs.Refusals.{IsRefusalOf, SpellsNone, shapeless, faulty, misnamed, exhausted}
use Rattle.sil_command.specs.declared.status.Status.TheVariants.{NotAModule, Limit}
use Rattle.sil_command.specs.Statuses.{code_of}
use Rattle.sil_command.specs.Reading.{AnswersRefusal, bad_byte, unclosed_text, long_name, unexpected, unsupported, number_range, limit, twice, unknown_name}

pub unread_status : (reason : ReadRefusal) (answer : List ℕ) (status : ℕ) → AnswersRefusal reason answer status → (status ≡ code_of NotAModule) ⊎ (status ≡ code_of Limit)
unread_status _ _ _ (bad_byte place) = inl refl
unread_status _ _ _ (unclosed_text place) = inl refl
unread_status _ _ _ (long_name place) = inr refl
unread_status _ _ _ (unexpected place) = inl refl
unread_status _ _ _ (unsupported place) = inl refl
unread_status _ _ _ (number_range place) = inl refl
unread_status _ _ _ (limit what place) = inr refl
unread_status _ _ _ (twice place) = inl refl
unread_status _ _ _ (unknown_name place) = inl refl

refusal_none : (text : List ℕ) (reason : ReadRefusal) → IsRefusalOf text reason → (reason ≡ Memory → ⊥) → SpellsNone text
refusal_none text _ (shapeless place none first) known = none
refusal_none text _ (faulty found none first) known = none
refusal_none text _ (misnamed found none first) known = none
refusal_none text _ exhausted known = absurd (known refl)

not_memory : (reason : ReadRefusal) (answer : List ℕ) (status : ℕ) → AnswersRefusal reason answer status → reason ≡ Memory → ⊥
not_memory _ _ _ (bad_byte place) e = cc
not_memory _ _ _ (unclosed_text place) e = cc
not_memory _ _ _ (long_name place) e = cc
not_memory _ _ _ (unexpected place) e = cc
not_memory _ _ _ (unsupported place) e = cc
not_memory _ _ _ (number_range place) e = cc
not_memory _ _ _ (limit what place) e = cc
not_memory _ _ _ (twice place) e = cc
not_memory _ _ _ (unknown_name place) e = cc

pub unread_none : (text : List ℕ) (reason : ReadRefusal) (answer : List ℕ) (status : ℕ) → IsRefusalOf text reason → AnswersRefusal reason answer status → SpellsNone text
unread_none text reason answer status refusal told = refusal_none text reason refusal (not_memory reason answer status told)
