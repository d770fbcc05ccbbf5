-- What is known of the frames of the function: an Owned value's entry is gone or held, and a frame that waits stands at a call.
use Rattle.std.proofs.Common.{◌≡◌, ◌⊎◌, inl, inr, ℕ, ◌<◌, ◌≤◌, List, [], ◌∷◌, length, refl, sym, ap, ◌∙◌, subst, arith, true, Option, Some}
use Rattle.std.specs.Prelude.{slice_get, unwrap_or}
use Rattle.std.proofs.lemmas.Bool.{cases_lt}
use Rattle.std.proofs.lemmas.Option.{same_Some, slice_get_past}
use Rattle.sil_verifier_runs.specs.sil_verifier_values.inner.Known.{facts_at, kind_at}
use Rattle.sil_verifier_runs.proofs.sil_verifier_values.Facts.{value_or_none}
use Rattle.holder_model_laws.specs.holder_model.RunTyping.Forms.{Form, form_of}
use Rattle.sil_verifier_runs.specs.sil_verifier_accepted.AcceptedModules.inner.Checked.{IsVerified}
use Rattle.holder_model_laws.specs.ownership_kinds_origins.Facts.{facts_in}
use Rattle.instruction_table.specs.declared.op.Op.TheVariants as op
use Rattle.sil_cfg_items.specs.Parts.{inst_at}
use Rattle.numbered_form.specs.Numbering.{values_of}
use Rattle.ownership_kinds_chains.specs.OwnershipChains.Facts.{facts_with, is_owned, known_or}
use Rattle.ownership_kinds_chains.specs.declared.ownership_chains.facts.Facts.{Facts}
use Rattle.holder_model_values.specs.RunValues.Places.{Place}
use Rattle.sil_ast.specs.declared.function.Function.{Function}
use Rattle.sil_ast.specs.declared.inst.Inst.{Inst}
use Rattle.sil_ast.specs.declared.module.Module.{Module}
use Rattle.sil_ast.specs.declared.place.FuncId.{FuncId}
use Rattle.sil_ast.specs.declared.place.PointId.{PointId}
use Rattle.sil_ast.specs.declared.place.ValueId.{ValueId}
use Rattle.sil_cfg.specs.declared.item.Item.{Item}
use Rattle.sil_types_declarations.specs.TypeDefinitions.Declarations.{declarations_of}
use Rattle.sil_types_declarations.specs.declared.type_definitions.kind.Kind.{Kind}
use Rattle.sil_types_declarations.specs.declared.type_definitions.kind.Kind.TheVariants as kind
use Rattle.holder_model_laws.specs.holder_model.declared.row_effect.RowEffect.TheVariants.{CallsFunction, CopiesOperand}
use Rattle.holder_model_laws.specs.holder_model.Calling.{value_count}
use Rattle.holder_model_laws.specs.holder_model.Data.{Datum}
use Rattle.holder_model_laws.specs.holder_model.Effects.{effect_of}
use Rattle.holder_model_laws.specs.holder_model.Frames.{Entry, Frame, Gone, Held, LentPlace, entry_at, made_entry}
use Rattle.holder_model_laws.specs.holder_model.HolderStates.{HolderState}
use Rattle.holder_model_laws.specs.holder_model.Standing.{stands_at}
use Rattle.holder_model_laws.specs.holder_model.States.{Runs, Task}
use Rattle.sil_verifier_runs.specs.sil_verifier_frames.inner.Placed.PlaceStates.{AreSlotsRight, TasksPlaced}
use Rattle.holder_model_laws.specs.LockstepRuns.inner.Lockstep.{frame_at}
use Rattle.sil_verifier_runs.proofs.holder_model_typing.RunTypingLaws.ItemFacts.{values_counted}
use Rattle.sil_verifier_runs.specs.sil_verifier_frames.inner.Typed.TypedStates.{EntryIs, IsTypedState, TasksAre}
use Rattle.sil_verifier_runs.specs.holder_model_typing.TypedMemory.inner.Worlds.{World}
use Rattle.copy_pairing_acceptance.proofs.MovedFunctions.Marks.{known}
use Rattle.copy_pairing_acceptance.proofs.MovedFunctions.Places.{after, copy_stood}
use Rattle.copy_pairing_acceptance.proofs.MovedFunctions.SameFacts.{copy_owned}
use Rattle.copy_pairing_acceptance.proofs.MovedFunctions.Split.{IsSplit}
use Rattle.copy_pairing_acceptance.proofs.MovedFunctions.TheCopy.{copy_op}
use Rattle.copy_pairing_runs.specs.MovedRuns.inner.MovedFrames.{KnowsFrames}
use Rattle.copy_pairing_runs.proofs.MovedRuns.ClearedEntries.{same_ok}

abbrev IsGoneOrHeld : Entry → Type 0
IsGoneOrHeld e = (e ≡ Gone) ⊎ ((y : Datum) × (e ≡ Held y))

gone_or_held : (m : Module) (w : World) (k : Kind) (form : Form) (e : Entry) → k ≡ kind.Owned → EntryIs m w k form e → IsGoneOrHeld e
gone_or_held m w k form _ is EntryIs.gone = inl refl
gone_or_held m w k form _ is (EntryIs.made x e made typed) = inr (x, sym (same_ok (Held x) e (sym (ap (λ z. made_entry z x) is) ∙ made)))

module _ (m : Module) (n : ℕ) (f : Function) (verified : IsVerified m) (in_module : slice_get m.functions n ≡ Some f) {p : PointId} {last : ℕ}
    {c v : ValueId} (s : IsSplit f p last c v)
    (owned : is_owned (known_or (facts_in (declarations_of m) f) v).kind ≡ true)
    (First : HolderState → Type 0) (typed : (h : HolderState) → First h → IsTypedState m h) (placed : (h : HolderState) → First h → AreSlotsRight m h) where
  v_kind : kind_at (declarations_of m) f v ≡ kind.Owned
  v_kind =
      let k = known (facts_in (declarations_of m) f v) owned in
      ap (λ (o : Option Facts). (unwrap_or o (facts_with kind.Plain [])).kind) k.1 ∙ k.2

  c_within : c.0 < value_count f
  c_within = by (value_or_none (declarations_of m) f c)
    where
      by : (c.0 < length (values_of f.blocks)) ⊎ (facts_at (declarations_of m) f c ≡ facts_with kind.Plain []) → c.0 < value_count f
      by (inl lt) = let count = values_counted f in omega (arith, count, lt)
      by (inr plain) =
          let k : kind.Owned ≡ kind.Plain =
          sym (ap (λ (o : Option Facts). (unwrap_or o (facts_with kind.Plain [])).kind) (copy_owned m n f verified in_module s)) ∙ ap (λ (x : Facts). x.kind) plain in
          absurd (cc)

  one_function : (g : FuncId) (k : Function) → g.0 ≡ n → slice_get m.functions g.0 ≡ Some k → k ≡ f
  one_function g k is there = same_Some k f (sym there ∙ ap (slice_get m.functions) is ∙ in_module)

  module _ (h : HolderState) (first : First h) (g : FuncId) (g_is : g.0 ≡ n) (slots : List Place) (lent : List LentPlace) (trail : List Item) (entries : List Entry)
      (rest : List (Task Frame)) where
    held : h.tasks ≡ Runs (frame_at g slots lent trail entries) ∷ rest → IsGoneOrHeld (entry_at entries v) × (c.0 < length entries) × (lent ≡ [])
    held tasks =
        let t = typed h first in
        let top = subst (TasksAre m t.world) tasks t.tasks in
        let place = subst (TasksPlaced m h.memory) tasks (placed h first) in
        let one : top.0.0 ≡ f = one_function g top.0.0 g_is top.0.1.is in
        let count : value_count top.0.0 ≡ value_count f = ap value_count one in
        let size : length entries ≡ value_count top.0.0 = top.0.1.entries.size in
        let within = c_within in (
          by (cases_lt v.0 (value_count top.0.0)) (λ lt. gone_or_held m t.world (kind_at (declarations_of m) top.0.0 v) (form_of (declarations_of m) top.0.0 v) (entry_at entries v)
              (ap (λ k. kind_at (declarations_of m) k v) one ∙ v_kind) (top.0.1.entries.each v lt)) size,
          omega (arith, count, size, within),
          place.0.none_lent,
        )
      where
        by : {k : ℕ} → (v.0 < k) ⊎ (k ≤ v.0) → (v.0 < k → IsGoneOrHeld (entry_at entries v)) → length entries ≡ k → IsGoneOrHeld (entry_at entries v)
        by (inl lt) there size = there lt
        by (inr le) there size = inl (ap (λ o. unwrap_or o Gone) (slice_get_past entries v.0 (omega (arith, le, size))))

    waits : (callee : Frame) → h.tasks ≡ Runs callee ∷ Runs (frame_at g slots lent trail entries) ∷ rest → stands_at f trail ≡ p → ⊥
    waits callee tasks at =
        let place = subst (TasksPlaced m h.memory) tasks (placed h first) in
        let w = place.1.0 in
        let one : w.f ≡ f = one_function g w.f g_is w.is in
        let copy : w.call ≡ s.copy = same_Some w.call s.copy (sym w.stands ∙ ap (λ k. inst_at k (stands_at k trail)) one ∙ ap (inst_at f) at ∙ copy_stood s) in
        calls_none (sym (ap (λ (i : Inst). effect_of i.op) copy ∙ ap effect_of (copy_op s)) ∙ w.calls)
      where
        calls_none : effect_of op.CopyValue ≡ CallsFunction → ⊥
        calls_none e = let no_call : CopiesOperand ≡ CallsFunction = e in cc

  pub known_frames : KnowsFrames p c v last n f (after s) First
  known_frames = record {
    held = λ h first g is slots lent trail entries rest tasks. held h first g is slots lent trail entries rest tasks;
    waits = λ h first callee g is slots lent trail entries rest tasks at. waits h first g is slots lent trail entries rest callee tasks at;
  }
