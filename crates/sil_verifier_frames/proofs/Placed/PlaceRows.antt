-- Rows that do something at a place: which operand names it, and whether the operation looks, fills or empties.
use Rattle.std.proofs.Common.{◌≡◌, ◌⊎◌, inl, inr, List, [], ◌∷◌, ◌++◌, true, false, cond, Some, refl, sym, ap, subst}
use Rattle.std.proofs.lemmas.Bool.{false≢true}
use Rattle.std.proofs.lemmas.Option.{same_Some}
use Rattle.holder_model_laws.specs.holder_model.Data.{AddressOf, Datum}
use Rattle.holder_model_laws.specs.holder_model.Effects.{effect_of}
use Rattle.holder_model_laws.specs.holder_model.Frames.{Entry}
use Rattle.holder_model_laws.specs.holder_model.MemoryEffects.{takes}
use Rattle.holder_model_laws.specs.holder_model.declared.row_effect.RowEffect.{RowEffect}
use Rattle.holder_model_laws.specs.holder_model.declared.row_effect.RowEffect.TheVariants as row
use Rattle.holder_model_laws.specs.memory_rules_accesses.Operations.{access_kind_of, load_operation, operated, operation_by, operations_of, store_operation}
use Rattle.holder_model_laws.specs.memory_rules_accesses.declared.access.Operation.{Operation}
use Rattle.holder_model_laws.specs.memory_rules_accesses.declared.access.Operation.TheVariants.{Lend, Take}
use Rattle.sil_verifier_trails.specs.AcceptedPlaces.inner.Stacks.{keeps_slots_by}
use Rattle.instruction_table.specs.declared.op.Op.{Op}
use Rattle.instruction_table.specs.declared.op.Op.TheVariants as op
use Rattle.sil_cfg_items.specs.Roles.{taken_by}
use Rattle.sil_cfg_items.specs.declared.taken.Taken.{Taken}
use Rattle.holder_model_values.specs.RunValues.Memory.{Memory}
use Rattle.holder_model_values.specs.RunValues.Places.{Place, emptied}
use Rattle.sil_ast.specs.declared.inst.Inst.{Inst}
use Rattle.sil_ast.specs.declared.inst.Qualifier.{Qualifier}
use Rattle.sil_ast.specs.declared.inst.Qualifier.TheVariants as word
use Rattle.sil_verifier_frames.specs.inner.Placed.FramePlaces.{Names}
use Rattle.sil_verifier_frames.specs.inner.Placed.TakenPlaces.{AreNamedBy}
use Rattle.sil_verifier_frames.proofs.Placed.EffectsAt.{is_at_place, is_reading}
use Rattle.sil_verifier_frames.proofs.Placed.Operating.{Fills, Looks}
use Rattle.sil_verifier_frames.proofs.Placed.RowsAt.{is_at_one, is_quiet, is_removal, is_store, one_operation, store_operation as one_store, takes_one, takes_second}

-- ---- by its row

pub reads_one : (r : RowEffect) → is_reading r ≡ true → is_at_one r ≡ true
reads_one row.LoadsValue e = refl
reads_one row.LoadsName e = refl
reads_one row.DestroysPlace e = refl
reads_one _ e = absurd (false≢true e)

pub place_kept : (r : RowEffect) → is_at_place r ≡ true → is_removal r ≡ false
place_kept row.RemovesSlot e = absurd (false≢true e)
place_kept _ e = refl

pub quiet_kept : (r : RowEffect) → is_quiet r ≡ true → is_removal r ≡ false
quiet_kept row.RemovesSlot e = absurd (false≢true e)
quiet_kept _ e = refl

pub place_slots : (o : Op) → is_at_place (effect_of o) ≡ true → keeps_slots_by (access_kind_of o) ≡ true
place_slots op.AllocStack e = absurd (false≢true e)
place_slots op.DeallocStack e = absurd (false≢true e)
place_slots _ e = refl

-- ---- what is done there

loads : (q : Qualifier) (w : Operation) → load_operation q ≡ w → Looks w ⊎ (w ≡ Take)
loads word.Plain w e = inl (subst Looks e Looks.read)
loads word.Copy w e = inl (subst Looks e Looks.read)
loads word.Take w e = inr (sym e)
loads word.Trivial w e = inl (subst Looks e Looks.read)
loads word.Init w e = inl (subst Looks e Looks.read)
loads word.Assign w e = inl (subst Looks e Looks.read)

-- what reads either looks or takes
pub reading_done : (o : Op) (q : Qualifier) (w : Operation) → is_reading (effect_of o) ≡ true → operation_by (access_kind_of o) q ≡ Some w → Looks w ⊎ (w ≡ Take)
reading_done op.Load q w is e = loads q w (same_Some (load_operation q) w e)
reading_done op.LoadBorrow q w is e = inl (subst Looks (same_Some Lend w e) Looks.lend)
reading_done op.LoadWeak q w is e = loads q w (same_Some (load_operation q) w e)
reading_done op.LoadUnowned q w is e = loads q w (same_Some (load_operation q) w e)
reading_done op.DestroyAddr q w is e = inr (sym (same_Some Take w e))
reading_done _ q w is e = absurd (false≢true is)

stores : (q : Qualifier) (w : Operation) → store_operation q ≡ w → Fills w
stores word.Plain w e = subst Fills e Fills.write
stores word.Copy w e = subst Fills e Fills.write
stores word.Take w e = subst Fills e Fills.write
stores word.Trivial w e = subst Fills e Fills.store
stores word.Init w e = subst Fills e Fills.first
stores word.Assign w e = subst Fills e Fills.write

-- and what stores fills
pub storing_done : (o : Op) (q : Qualifier) (w : Operation) → is_store (effect_of o) ≡ true → operation_by (access_kind_of o) q ≡ Some w → Fills w
storing_done op.Store q w is e = stores q w (same_Some (store_operation q) w e)
storing_done op.StoreWeak q w is e = stores q w (same_Some (store_operation q) w e)
storing_done op.StoreUnowned q w is e = stores q w (same_Some (store_operation q) w e)
storing_done _ q w is e = absurd (false≢true is)

-- what looks leaves memory, and what takes leaves the place empty
pub looked_after : (w : Operation) → Looks w → (m : Memory) (p : Place) → cond (takes w) (emptied m p) m ≡ m
looked_after _ Looks.read m p = refl
looked_after _ Looks.lend m p = refl

pub taken_after : (w : Operation) → w ≡ Take → (m : Memory) (p : Place) → cond (takes w) (emptied m p) m ≡ emptied m p
taken_after w e m p = ap (λ o. cond (takes o) (emptied m p) m) e

-- ---- at which operand

-- the instruction does one thing, at the place of the operand
pub record DoesOne (x : Inst) (entries : List Entry) (o : Operation) (p : Place) : Type 0 where
  pub taken : Taken
  pub front : List Taken
  pub operands : taken_by x ≡ front ++ taken ∷ []
  pub operations : operations_of x ≡ operated taken.value o ∷ []
  pub names : Names entries taken.value p

one_taken : (entries : List Entry) (y : Datum) (ts : List Taken) → AreNamedBy entries ts (y ∷ []) → (t : Taken) × (ts ≡ t ∷ [])
one_taken entries y [] h = absurd h
one_taken entries y (t ∷ []) h = (t, refl)
one_taken entries y (t ∷ u ∷ ts) h = absurd h.1

two_taken : (entries : List Entry) (y z : Datum) (ts : List Taken) → AreNamedBy entries ts (y ∷ z ∷ []) → (s t : Taken) × (ts ≡ s ∷ t ∷ [])
two_taken entries y z [] h = absurd h
two_taken entries y z (s ∷ []) h = absurd h.1
two_taken entries y z (s ∷ t ∷ []) h = (s, t, refl)
two_taken entries y z (s ∷ t ∷ u ∷ ts) h = absurd (h.1).1

module _ (x : Inst) (entries : List Entry) (p : Place) (o : Operation) where
  -- the address of the one operand
  pub named_first : is_at_one (effect_of x.op) ≡ true → AreNamedBy entries (taken_by x) (AddressOf p ∷ [])
      → (t : Taken) × (taken_by x ≡ t ∷ []) × Names entries t.value p
  named_first is h =
      let t = one_taken entries (AddressOf p) (taken_by x) h in
      (t.0, t.1, (subst (λ ts. AreNamedBy entries ts (AddressOf p ∷ [])) t.1 h).0 (takes_one x t.0 is t.1).role_is p refl)

  pub does_first : is_at_one (effect_of x.op) ≡ true → operation_by (access_kind_of x.op) x.qualifier ≡ Some o → AreNamedBy entries (taken_by x) (AddressOf p ∷ [])
      → DoesOne x entries o p
  does_first is done h =
      let t = named_first is h in
      record { taken = t.0; front = []; operands = t.1; operations = one_operation x t.0 o is t.1 done; names = t.2 }

  pub does_second : is_store (effect_of x.op) ≡ true → operation_by (access_kind_of x.op) x.qualifier ≡ Some o → (y : Datum)
      → AreNamedBy entries (taken_by x) (y ∷ AddressOf p ∷ []) → DoesOne x entries o p
  does_second is done y h =
      let t = two_taken entries y (AddressOf p) (taken_by x) h in
      record {
        taken = t.1;
        front = t.0 ∷ [];
        operands = t.2;
        operations = one_store x t.0 t.1 o is t.2 done;
        names = ((subst (λ ts. AreNamedBy entries ts (y ∷ AddressOf p ∷ [])) t.2 h).1).0 (takes_second x t.0 t.1 is t.2).role_is p refl;
      }
