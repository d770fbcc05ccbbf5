-- A function returns: what it gives is typed as the result of the call that waits, or leaves the run.
use Rattle.std.proofs.Common.{◌≡◌, ◌∙◌, ◌⊎◌, inl, inr, ℕ, List, [], ◌∷◌, map, refl, sym, ap, subst, true, Some, None}
use Rattle.std.specs.Prelude.{Ok, slice_get}
use Rattle.std.proofs.lemmas.Option.{none-some, same_Some}
use Rattle.sil_verifier_trails.specs.sil_verifier_values.inner.Known.{kind_at}
use Rattle.holder_model_laws.specs.holder_model.RunTyping.CallForms.{IsOf}
use Rattle.holder_model_laws.specs.holder_model.RunTyping.EndForms.{EndForms, operand_forms, value_in}
use Rattle.holder_model_laws.specs.holder_model.RunTyping.Forms.{OfValue, form_of, given_shape}
use Rattle.sil_verifier_trails.specs.sil_verifier_accepted.AcceptedModules.inner.Checked.{IsVerified}
use Rattle.holder_model_laws.specs.HolderLaws.inner.Steps.Ways.{GoesBehind, Leaves, Reaches, StandsAtEnd, operands_in}
use Rattle.instruction_table.specs.Forms.{ending_of}
use Rattle.instruction_table.specs.declared.entries.Ending.TheVariants as ending
use Rattle.sil_cfg_items.specs.Items.{item_taken}
use Rattle.numbered_form.specs.Lists.{Each}
use Rattle.sil_verifier_trails.specs.holder_model_typing.OwnedRunTyping.inner.OwnedEnds.{OwnedEndForms}
use Rattle.holder_model_laws.specs.holder_model.Data.{Datum, as_value}
use Rattle.holder_model_laws.specs.holder_model.Effects.{only, unchanged}
use Rattle.holder_model_laws.specs.holder_model.Faults.{LeavesHeld, LeavesPlace, LeavesSlot}
use Rattle.holder_model_laws.specs.holder_model.Frames.{Frame, Operands}
use Rattle.holder_model_laws.specs.holder_model.HolderStates.{HolderNext, HolderState}
use Rattle.holder_model_laws.specs.holder_model.ModuleFacts.{facts_of, facts_told}
use Rattle.holder_model_laws.specs.holder_model.Standing.{stands_at}
use Rattle.holder_model_laws.specs.holder_model.States.{Returned, Task}
use Rattle.holder_model_values.specs.RunValues.Trivial.{is_trivial}
use Rattle.sil_ast.specs.declared.function.Function.{Function}
use Rattle.sil_ast.specs.declared.inst.Inst.{Inst}
use Rattle.sil_ast.specs.declared.module.Module.{Module}
use Rattle.sil_ast.specs.declared.place.ValueId.{ValueId}
use Rattle.sil_cfg.specs.declared.item.Item.TheVariants as item
use Rattle.sil_types_declarations.specs.TypeDefinitions.Declarations.{declarations_of}
use Rattle.sil_types_declarations.specs.declared.type_definitions.kind.Kind.TheVariants as kind
use Rattle.sil_verifier_trails.specs.holder_model_typing.TypedMemory.inner.Worlds.{DatumIs, IsWorldOf, MemoryIs, World}
use Rattle.sil_verifier_frames.specs.inner.Typed.TypedStates.{WaitsTyped}
use Rattle.sil_verifier_frames.proofs.Typed.Data.{IsBare, bare_where, read_value}
use Rattle.sil_verifier_frames.proofs.Typed.Edges.{end_forms, exit_takes, one_operand, operands_are_of}
use Rattle.sil_verifier_frames.proofs.Typed.Entries.{FitEach, Fits, operands_fit}
use Rattle.sil_verifier_frames.proofs.Typed.GoesOn.{NextTyped, Running, goes, goes_behind, other_fault}
use Rattle.sil_verifier_frames.proofs.Typed.GoesOn as go
use Rattle.sil_verifier_frames.proofs.Typed.Performs.{defines_results}
use Rattle.sil_verifier_frames.proofs.Typed.Stacks.{BelowTyped}

-- what the callee gives fits the result of the call
result_fits : (m : Module) (w : World) (f body : Function) (u : ValueId) (x : Datum) → DatumIs m w (OfValue (given_shape (declarations_of m) body)) x
    → form_of (declarations_of m) f u ≡ OfValue (given_shape (declarations_of m) body)
    → (kind_at (declarations_of m) f u ≡ kind.Owned) ⊎ ((kind_at (declarations_of m) f u ≡ kind.Plain) × (is_trivial (given_shape (declarations_of m) body) ≡ true)) → Fits m w f u x
result_fits m w f body u x is form taken = record {
  is = subst (λ y. DatumIs m w y x) (sym form) is;
  bare = λ plain. by plain taken;
}
  where
    by : kind_at (declarations_of m) f u ≡ kind.Plain
        → (kind_at (declarations_of m) f u ≡ kind.Owned) ⊎ ((kind_at (declarations_of m) f u ≡ kind.Plain) × (is_trivial (given_shape (declarations_of m) body) ≡ true)) → IsBare x
    by plain (inl owned) = let no : kind.Owned ≡ kind.Plain = sym owned ∙ plain in absurd (cc)
    by plain (inr trivial) = bare_where m w is (λ s e. let same : given_shape (declarations_of m) body ≡ s = cc in subst (λ t. is_trivial t ≡ true) same trivial.1)

module _ (m : Module) (v : IsVerified m) (bound : ℕ) where
  -- it reaches the task below
  pub reaches : (w : World) → IsWorldOf m w → (s : HolderState) → MemoryIs m w s.memory → (callee : Frame) (f : Function) → slice_get m.functions callee.function.0 ≡ Some f
      → (rest : List (Task Frame)) → BelowTyped m w callee rest → (x : Datum) → DatumIs m w (OfValue (given_shape (declarations_of m) f)) x
      → (n : HolderNext) → Reaches m (facts_of m) bound s x rest n → NextTyped m n
  reaches w of s memory callee f there _ below x is _ (Reaches.ends y e) = go.ends (Returned y) (record s { tasks = [] }) (λ e. cc)
  reaches w of s memory callee f there _ below x is _ (Reaches.resumes frame rest other n at way) =
      let waits : WaitsTyped m w callee frame rest = below.0 in
      let body : waits.body ≡ f = same_Some waits.body f (sym waits.there ∙ there) in
      let same : other ≡ waits.f = same_Some other waits.f (sym at ∙ waits.of.is) in
      goes_behind m v bound w of s rest frame waits.f waits.of below.1 (item.Inst (stands_at waits.f frame.trail))
      (refl, waits.call, waits.stands) (λ t. tt) (record (unchanged s.memory) { results = x ∷ [] }) memory
      (subst (λ vs. FitEach m w waits.f vs (x ∷ [])) (sym (defines_results waits.f (stands_at waits.f frame.trail) waits.call waits.stands ∙ waits.results))
      (FitEach.more waits.result x [] [] (result_fits m w waits.f waits.body waits.result x
      (subst (λ (g : Function). DatumIs m w (OfValue (given_shape (declarations_of m) g)) x) (sym body) is) waits.form waits.taken) FitEach.none)) tt n
      (subst (λ (g : Function). GoesBehind m (facts_of m) bound s rest frame g (item.Inst (stands_at g frame.trail)) (record (unchanged s.memory) { results = x ∷ [] }) n) same way)
  reaches w of s memory callee f there _ below x is _ (Reaches.finishes deinits o rest) = goes _ (record { world = w; of = of; memory = memory; tasks = (below.1, below.2) })
  reaches w of s memory callee f there _ below x is _ (Reaches.no_value none) =
      let y = read_value m w is (given_shape (declarations_of m) f) refl in
      absurd (none-some y.0 (sym none ∙ ap as_value y.1))
  reaches w of s memory callee f there _ below x is _ (Reaches.no_function frame rest none) =
      let waits : WaitsTyped m w callee frame rest = below.0 in
      absurd (none-some waits.f (sym none ∙ waits.of.is))
  reaches w of s memory callee f there _ below x is _ (Reaches.on_drops os rest) = absurd below

  module _ (s : HolderState) (rest : List (Task Frame)) (frame : Frame) (f : Function) (r : Running m s rest frame f) where
    leaves : (other : Frame) → other.function ≡ frame.function → (x : Datum) → DatumIs m r.w (OfValue (given_shape (declarations_of m) f)) x
        → (n : HolderNext) → Leaves m (facts_of m) bound s rest other f x n → NextTyped m n
    leaves other same x is _ (Leaves.leaves n held slots places way) =
        reaches r.w r.of s r.memory frame f r.typed.is rest r.below x is n way
    leaves other same x is _ (Leaves.holds held) = other_fault m s LeavesHeld (λ e. cc)
    leaves other same x is _ (Leaves.has_slot slot) = other_fault m s LeavesSlot (λ e. cc)
    leaves other same x is _ (Leaves.wrong_place places) = other_fault m s LeavesPlace (λ e. cc)

    module _ (i : Inst) (stands : StandsAtEnd m (facts_of m) bound frame f i) (is : ending_of i.op ≡ ending.Return) where
      -- what is returned has the shape that the function gives
      return_forms : OwnedEndForms (declarations_of m) f i → operand_forms (declarations_of m) f i ≡ OfValue (given_shape (declarations_of m) f) ∷ []
      return_forms (OwnedEndForms.also_lowered other (EndForms.returns is' operands)) = operands
      return_forms (OwnedEndForms.also_lowered other (EndForms.branch e is' bare at forms)) = absurd (cc)
      return_forms (OwnedEndForms.also_lowered other (EndForms.branches set clear is' operands set_is clear_is set_forms clear_forms)) = absurd (cc)
      return_forms (OwnedEndForms.also_lowered other (EndForms.cases s is' operands is_enum all)) = absurd (cc)
      return_forms (OwnedEndForms.also_lowered other (EndForms.unreachable is')) = absurd (cc)
      return_forms (OwnedEndForms.cases s is' operands is_enum all) = absurd (cc)

      pub returned : (ops : Operands) → operands_in m (facts_of m) bound s frame f (item.Exit (stands_at f frame.trail)) ≡ Ok ops
          → (x : Datum) × (ops.given ≡ x ∷ []) × DatumIs m r.w (OfValue (given_shape (declarations_of m) f)) x
      returned ops ok =
          let one = one_operand (declarations_of m) f i (OfValue (given_shape (declarations_of m) f)) (return_forms (end_forms m v bound s rest frame f r i stands)) in
          let takes = exit_takes m v bound s rest frame f r i stands in
          let fits = (operands_fit m r.w f (facts_told (facts_of m) frame.function) s.memory (item_taken f (item.Exit (stands_at f frame.trail))) frame.entries ops r.typed.entries
          (subst (Each (IsOf f)) (sym takes) (operands_are_of m v bound s rest frame f r i stands)) ok).0 in
          by one.0.value one.2 (subst (λ vs. FitEach m r.w f vs ops.given) (takes ∙ ap (map value_in) one.1) fits)
        where
          by : (u : ValueId) → form_of (declarations_of m) f u ≡ OfValue (given_shape (declarations_of m) f) → {xs : List Datum} → FitEach m r.w f (u ∷ []) xs
              → (x : Datum) × (xs ≡ x ∷ []) × DatumIs m r.w (OfValue (given_shape (declarations_of m) f)) x
          by u form (FitEach.more _ x _ _ fit FitEach.none) = (x, refl, subst (λ y. DatumIs m r.w y x) form fit.is)

      pub return_typed : (ops : Operands) → operands_in m (facts_of m) bound s frame f (item.Exit (stands_at f frame.trail)) ≡ Ok ops → (x : Datum) → only ops.given ≡ Some x
          → (other : Frame) → other.function ≡ frame.function → (n : HolderNext) → Leaves m (facts_of m) bound s rest other f x n → NextTyped m n
      return_typed ops ok x alone other same n way =
          let y = returned ops ok in
          let eq : y.0 ≡ x = same_Some y.0 x (sym (ap only y.1) ∙ alone) in
          leaves other same x (subst (DatumIs m r.w (OfValue (given_shape (declarations_of m) f))) eq y.2) n way

      pub one_returned : (ops : Operands) → operands_in m (facts_of m) bound s frame f (item.Exit (stands_at f frame.trail)) ≡ Ok ops → only ops.given ≡ None → ⊥
      one_returned ops ok none = let y = returned ops ok in none-some y.0 (sym none ∙ ap only y.1)
