-- What an operation at an operand's place does to the places of the frame.
use Rattle.std.proofs.Common.{◌≡◌, ◌⊎◌, inl, inr, List, Bool, true, false, cond, not, refl}
use Rattle.std.specs.Prelude.{unwrap_or}
use Rattle.std.proofs.lemmas.Bool.{false≢true}
use Rattle.holder_model_laws.specs.memory_rules_accesses.Rows.{has_by, shared_has, slot_has}
use Rattle.holder_model_laws.specs.memory_rules_accesses.declared.access.Operation.{Operation}
use Rattle.holder_model_laws.specs.memory_rules_accesses.declared.access.Operation.TheVariants.{FirstWrite, Read, Lend, Write, TrivialStore, Take}
use Rattle.holder_model_laws.specs.memory_rules_accesses.declared.source.Source.{Source}
use Rattle.holder_model_laws.specs.memory_rules_parts.Contents.{operation_mark}
use Rattle.sil_verifier_trails.specs.RunTrails.inner.Switched.{finds}
use Rattle.sil_verifier_frames.specs.inner.Placed.Roots.{is_shared_source}
use Rattle.sil_verifier_frames.proofs.Placed.Contents.{IsOnStack}

-- an operation that puts a value at its place
pub data Fills : Operation → Type 0 where
  first : Fills FirstWrite
  write : Fills Write
  store : Fills TrivialStore

-- at a slot or an argument: what may be done there alone isn't shared
own_row : (sources : List Source) (s : Source) → IsOnStack s → (part : Bool) (o : Operation) → (shared_has o ≡ true → ⊥) → has_by sources s part o ≡ true
    → (is_shared_source s ≡ false) × (slot_has part o ≡ true)
own_row sources _ (IsOnStack.a_slot trivial) part o never has = (refl, has)
own_row sources _ (IsOnStack.an_argument row trivial) part o never has = at row.shared has
  where
    at : (b : Bool) → cond b (shared_has o) (slot_has part o) ≡ true → (b ≡ false) × (slot_has part o ≡ true)
    at true e = absurd (never e)
    at false e = (refl, e)

never_shared : (o : Operation) → Fills o → shared_has o ≡ true → ⊥
never_shared _ Fills.first e = false≢true e
never_shared _ Fills.write e = false≢true e
never_shared _ Fills.store e = false≢true e

off_by_not : (b : Bool) → not b ≡ true → b ≡ false
off_by_not true e = absurd (false≢true e)
off_by_not false e = refl

filled_behind : (trivial part on : Bool) (o : Operation) → Fills o → slot_has part o ≡ true → finds (operation_mark trivial part o).needs on ≡ true
    → (unwrap_or (operation_mark trivial part o).turns on ≡ true) × ((part ≡ false) ⊎ (on ≡ true))
filled_behind trivial part on _ Fills.first has found = (refl, inl (off_by_not part has))
filled_behind trivial part on _ Fills.write has found = (found, inr found)
filled_behind trivial true on _ Fills.store has found = (found, inr found)
filled_behind trivial false on _ Fills.store has found = (refl, inl refl)

-- what is filled isn't shared, is full behind, and was full where it is a part
pub record LeavesFull (s : Source) (trivial part : Bool) (o : Operation) (on : Bool) : Type 0 where
  pub alone : is_shared_source s ≡ false
  pub full : unwrap_or (operation_mark trivial part o).turns on ≡ true
  pub how : (part ≡ false) ⊎ (on ≡ true)

pub leaves_full : (sources : List Source) (s : Source) → IsOnStack s → (trivial part on : Bool) (o : Operation) → Fills o → has_by sources s part o ≡ true
    → finds (operation_mark trivial part o).needs on ≡ true → LeavesFull s trivial part o on
leaves_full sources s here trivial part on o fills has found =
    let own = own_row sources s here part o (never_shared o fills) has in
    let behind = filled_behind trivial part on o fills own.1 found in
    record { alone = own.0; full = behind.0; how = behind.1 }

-- what is taken isn't shared, is a whole, and is empty behind
pub record LeavesEmpty (s : Source) (trivial part on : Bool) : Type 0 where
  pub alone : is_shared_source s ≡ false
  pub empty : unwrap_or (operation_mark trivial part Take).turns on ≡ false
  pub whole : part ≡ false

pub leaves_empty : (sources : List Source) (s : Source) → IsOnStack s → (trivial part on : Bool) → has_by sources s part Take ≡ true → LeavesEmpty s trivial part on
leaves_empty sources s here trivial part on has =
    let own = own_row sources s here part Take (λ e. false≢true e) has in
    record { alone = own.0; empty = refl; whole = off_by_not part own.1 }

-- what reads leaves the place as it is
pub data Looks : Operation → Type 0 where
  read : Looks Read
  lend : Looks Lend

pub leaves_same : (trivial part on : Bool) (o : Operation) → Looks o → unwrap_or (operation_mark trivial part o).turns on ≡ on
leaves_same trivial part on _ Looks.read = refl
leaves_same trivial part on _ Looks.lend = refl
