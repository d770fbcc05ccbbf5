-- What a store does at its place: it leaves its cell full, makes no object, and changes no other object.
use Rattle.std.proofs.Common.{◌≡◌, ◌⊎◌, inl, inr, ℕ, List, [], ◌∷◌, refl, sym, ap, ◌∙◌, subst, Bool, true, false, Option, Some, Ok, eq-eqb}
use Rattle.std.specs.Prelude.{◌==◌}
use Rattle.std.proofs.lemmas.Bool.{eqb-true, false≢true, true≢false}
use Rattle.argument_conventions.specs.declared.row.Content.TheVariants as content
use Rattle.instruction_table.specs.declared.op.Op.{Op}
use Rattle.instruction_table.specs.declared.op.Op.TheVariants as op
use Rattle.sil_verifier_frames.specs.holder_model.Effects.{effect_of}
use Rattle.sil_verifier_frames.specs.holder_model.Frames.{Entry, results_put}
use Rattle.sil_verifier_frames.specs.holder_model.MemoryEffects.{asked_before}
use Rattle.sil_verifier_frames.specs.memory_rules_accesses.Operations.{access_kind_of, store_operation}
use Rattle.sil_verifier_frames.specs.memory_rules_accesses.Rows.{field_has}
use Rattle.sil_verifier_frames.specs.memory_rules_accesses.declared.access.Operation.{Operation}
use Rattle.sil_verifier_frames.specs.memory_rules_accesses.declared.access.Operation.TheVariants as operation
use Rattle.sil_verifier_frames.specs.memory_rules_accesses.declared.columns.AccessKind.TheVariants as access
use Rattle.sil_verifier_frames.specs.memory_rules_parts.Contents.{operation_mark}
use Rattle.sil_verifier_frames.specs.sil_verifier_trails.RunTrails.inner.Switched.{finds}
use Rattle.sil_verifier_frames.proofs.holder_model_laws.HolderLaws.Cells.Writes.{object_other}
use Rattle.sil_verifier_frames.specs.ownership_kinds_chains.OwnershipChains.Facts.{value_of}
use Rattle.sil_verifier_frames.specs.ownership_kinds_chains.declared.ownership_chains.facts.Facts.{Facts}
use Rattle.holder_model_values.specs.RunValues.Cells.{in_cells}
use Rattle.holder_model_values.specs.RunValues.Memory.{Memory, object_at, put_cells}
use Rattle.holder_model_values.specs.RunValues.Places.{Inside, Place, filled, home_cells, with_home_cells}
use Rattle.holder_model_values.specs.RunValues.Values.{Value}
use Rattle.sil_ast.specs.declared.inst.Qualifier.{Qualifier}
use Rattle.sil_ast.specs.declared.inst.Qualifier.TheVariants as word
use Rattle.sil_ast.specs.declared.place.ObjectId.{ObjectId}
use Rattle.sil_ast.specs.declared.place.ValueId.{ValueId}
use Rattle.sil_verifier_runs.specs.inner.Built.Laws.{LeavesFull}
use Rattle.sil_verifier_runs.proofs.Built.ItemsDone.{makes_object}
use Rattle.sil_verifier_runs.proofs.Built.PlaceRows.{is_store}

-- ---- the row

pub record StoringRow (o : Op) : Type 0 where
  pub kind : access_kind_of o ≡ access.Stores
  pub makes : makes_object (access_kind_of o) ≡ false

pub storing_row : (o : Op) → is_store (effect_of o) ≡ true → StoringRow o
storing_row op.Store e = record { kind = refl; makes = refl }
storing_row op.StoreWeak e = record { kind = refl; makes = refl }
storing_row op.StoreUnowned e = record { kind = refl; makes = refl }
storing_row _ e = absurd (false≢true e)

-- an operation that puts a value at its place
pub data Fills : Operation → Type 0 where
  first : Fills operation.FirstWrite
  write : Fills operation.Write
  trivial : Fills operation.TrivialStore

pub store_fills : (q : Qualifier) → Fills (store_operation q)
store_fills word.Plain = write
store_fills word.Copy = write
store_fills word.Take = write
store_fills word.Trivial = trivial
store_fills word.Init = first
store_fills word.Assign = write

-- it leaves its cell full
pub leaves_full : (t part : Bool) (o : Operation) → Fills o → LeavesFull (operation_mark t part o)
leaves_full t part _ first on found = refl
leaves_full t part _ write on found = at on found
  where
    at : (on : Bool) → finds (operation_mark t part operation.Write).needs on ≡ true → on ≡ true
    at true e = refl
    at false e = absurd (false≢true e)
leaves_full t true _ trivial on found = at on found
  where
    at : (on : Bool) → finds (operation_mark t true operation.TrivialStore).needs on ≡ true → on ≡ true
    at true e = refl
    at false e = absurd (false≢true e)
leaves_full t false _ trivial on found = refl

-- a part is written where its field was written before
pub part_was_full : (o : Operation) → Fills o → (building : Bool) → field_has true building o ≡ true → asked_before true o ≡ Some content.Full
part_was_full _ first building has = absurd (false≢true has)
part_was_full _ write building has = refl
part_was_full _ trivial building has = refl

-- nothing is put
pub none_put : (facts : ValueId → Option Facts) (vs : List ValueId) (left behind : List Entry) → results_put facts vs [] left ≡ Ok behind → (vs ≡ []) × (left ≡ behind)
none_put facts [] left behind is = let same : left ≡ behind = cc in (refl, same)
none_put facts (v ∷ vs) left behind is = absurd (cc)

pub same_object : (p q : ObjectId) → p.0 ≡ q.0 → p ≡ q
same_object p q e = ap (λ (n : ℕ). record { 0 = n }) e

-- no other object changes where a place in one is filled
pub filled_other : (memory : Memory) (q : Place) (x : Value) (o other : ObjectId) → q.home ≡ Inside o → (other.0 ≡ o.0 → ⊥)
    → object_at (filled memory q x) other ≡ object_at memory other
filled_other memory q x o other home differ =
    subst (λ h. object_at (with_home_cells memory h (put_cells (home_cells memory h) q.first ((in_cells q.shape).cells x))) other ≡ object_at memory other) (sym home)
    (object_other memory o other _ differ)

-- two values are the same or not
pub same_or_not : (v w : ValueId) → (v ≡ w) ⊎ (v ≡ w → ⊥)
same_or_not v w = at (v.0 == w.0) refl
  where
    at : (b : Bool) → (v.0 == w.0) ≡ b → (v ≡ w) ⊎ (v ≡ w → ⊥)
    at true e = inl (ap value_of (eqb-true v.0 w.0 e))
    at false e = inr (λ same. true≢false (sym (eq-eqb v.0 w.0 (ap (λ (u : ValueId). u.0) same)) ∙ e))

-- two numbers are the same or not
pub number_or_not : (j k : ℕ) → (j ≡ k) ⊎ (j ≡ k → ⊥)
number_or_not j k = at (j == k) refl
  where
    at : (b : Bool) → (j == k) ≡ b → (j ≡ k) ⊎ (j ≡ k → ⊥)
    at true e = inl (eqb-true j k e)
    at false e = inr (λ same. true≢false (sym (eq-eqb j k same) ∙ e))
