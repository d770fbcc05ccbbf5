-- What an instruction's effect leads to: a typed state, be it behind the instruction or in a callee.
use Rattle.std.proofs.Common.{◌≡◌, ◌∙◌, ◌⊎◌, inl, inr, ℕ, List, [], ◌∷◌, ◌++◌, append-nil, map, refl, sym, ap, subst, Option, Some, None}
use Rattle.std.specs.Prelude.{Contains, drop, slice_get}
use Rattle.std.proofs.lemmas.Bool.{true≢false}
use Rattle.std.proofs.lemmas.Option.{same_Some}
use Rattle.sil_verifier_trails.specs.sil_verifier_values.inner.Known.{IsAcceptedBody}
use Rattle.holder_model_laws.specs.holder_model.RunTyping.CallForms.{IsOf}
use Rattle.holder_model_laws.specs.holder_model.RunTyping.Forms.{Form, OfValue, form_of, forms_of, given_shape}
use Rattle.sil_verifier_trails.specs.sil_verifier_accepted.AcceptedModules.inner.Checked.{IsVerified}
use Rattle.numbered_form.proofs.Lists.{contained}
use Rattle.argument_conventions.specs.declared.row.AddressRow.{AddressRow}
use Rattle.argument_conventions.specs.declared.row.Content.{Content}
use Rattle.argument_conventions.specs.declared.row.Content.TheVariants as content
use Rattle.holder_model_laws.specs.HolderLaws.inner.Steps.Ways.{Enters, Performs, lent_at}
use Rattle.instruction_table.specs.Forms.{result_kind_of}
use Rattle.instruction_table.specs.declared.entries.ResultKind.TheVariants.{OwnedResult}
use Rattle.sil_cfg_items.specs.Items.{item_defined, item_taken}
use Rattle.sil_cfg_items.specs.Parts.{inst_at, results_in}
use Rattle.sil_cfg_items.specs.declared.taken.Taken.{Taken}
use Rattle.numbered_form.specs.Lists.{Each}
use Rattle.holder_model_laws.specs.holder_model.Calling.{as_argument, handed_over, emptied_for, lent_places, lent_with}
use Rattle.holder_model_laws.specs.holder_model.Data.{Datum, ValueOf, as_place}
use Rattle.holder_model_laws.specs.holder_model.Effects.{Calls, Effect, unchanged}
use Rattle.holder_model_laws.specs.holder_model.Faults.{HolderFault, PlaceNotAsAsked}
use Rattle.holder_model_laws.specs.holder_model.Frames.{Frame, LentPlace, has_any}
use Rattle.holder_model_laws.specs.holder_model.HolderStates.{HolderNext, HolderState}
use Rattle.holder_model_laws.specs.holder_model.ModuleFacts.{facts_of}
use Rattle.holder_model_laws.specs.holder_model.Standing.{stands_at}
use Rattle.holder_model_laws.specs.holder_model.States.{OutOfTurns, Runs, Task, Trapped}
use Rattle.holder_model_values.specs.RunValues.Memory.{Memory}
use Rattle.holder_model_values.specs.RunValues.Shapes.{NoMember, Tuple}
use Rattle.holder_model_values.specs.RunValues.Values as value
use Rattle.sil_ast.specs.declared.function.Function.{Function}
use Rattle.sil_ast.specs.declared.inst.Inst.{Inst}
use Rattle.sil_ast.specs.declared.module.Module.{Module}
use Rattle.sil_ast.specs.declared.place.FuncId.{FuncId}
use Rattle.sil_ast.specs.declared.place.PointId.{PointId}
use Rattle.sil_cfg.specs.declared.item.Item.TheVariants as item
use Rattle.sil_types_declarations.specs.TypeDefinitions.Declarations.{declarations_of}
use Rattle.numbered_form.specs.ValueTables.FirstValue.{value_of}
use Rattle.sil_verifier_trails.specs.holder_model_typing.TypedMemory.inner.Worlds.{DatumIs, MemoryIs, PlaceIs, World}
use Rattle.sil_verifier_trails.proofs.holder_model_typing.TypedMemory.Homes.{place_emptied}
use Rattle.sil_verifier_frames.proofs.Typed.Data.{DataAre, IsBare, arguments_are}
use Rattle.sil_verifier_frames.proofs.Typed.Effects.{EffectFits}
use Rattle.sil_verifier_frames.proofs.Typed.Entries.{FitEach, fit_bare}
use Rattle.sil_verifier_frames.proofs.Typed.GoesOn.{NextTyped, Running, accepted_body, enters, goes_behind, other_fault, typed_module}
use Rattle.sil_verifier_frames.proofs.Typed.GoesOn as next
use Rattle.sil_verifier_frames.proofs.Typed.WithoutOwner.{IsOwningRow, KeepsBare, owned_or_trivial, results_fit}
use Rattle.sil_verifier_frames.proofs.Typed.Stacks.{BelowTyped, below_grows, below_same, frame_grows}

-- ---- the places that a call lends

module _ (m : Module) (w : World) where
  abbrev IsLent : LentPlace → Type 0
  IsLent l = PlaceIs m w l.place

  one_lent : (row : Option AddressRow) (form : Form) (x : Datum) → DatumIs m w form x → Each IsLent (lent_with row (as_place x))
  one_lent None form x is = tt
  one_lent (Some row) _ _ (DatumIs.value s v good) = tt
  one_lent (Some row) _ _ (DatumIs.place p at) = (at, tt)
  one_lent (Some row) _ _ (DatumIs.function g) = tt

  each_both : (xs ys : List LentPlace) → Each IsLent xs → Each IsLent ys → Each IsLent (xs ++ ys)
  each_both [] ys h k = k
  each_both (x ∷ xs) ys h k = (h.0, each_both xs ys h.1 k)

  are_lent : (ts : List Taken) {forms : List Form} {xs : List Datum} → DataAre m w forms xs → Each IsLent (lent_places ts xs)
  are_lent [] typed_as = tt
  are_lent (t ∷ ts) DataAre.none = tt
  are_lent (t ∷ ts) (DataAre.more form x forms xs is rest) = each_both (lent_with t.handed (as_place x)) (lent_places ts xs) (one_lent t.handed form x is) (are_lent ts rest)

  handed_typed : (ls : List LentPlace) (memory : Memory) → Each IsLent ls → MemoryIs m w memory → MemoryIs m w (handed_over memory ls)
  handed_typed [] memory lent typed = typed
  handed_typed (l ∷ ls) memory lent typed = handed_typed ls (emptied_for memory l l.row.before) lent.1 (by l.row.before)
    where
      by : (c : Content) → MemoryIs m w (emptied_for memory l c)
      by content.Empty = place_emptied m w memory typed l.place lent.0
      by content.Full = typed

-- ---- one result

one_of : {A B : Type 0} (g : A → B) (xs : List A) (y : B) → map g xs ≡ y ∷ [] → (x : A) × (xs ≡ x ∷ []) × (g x ≡ y)
one_of g [] y e = absurd (cc)
one_of g (x ∷ []) y e = (x, refl, cc)
one_of g (x ∷ z ∷ xs) y e = absurd (cc)

pub defines_results : (f : Function) (p : PointId) (i : Inst) → inst_at f p ≡ Some i → item_defined f (item.Inst p) ≡ i.results
defines_results f p i e = ap (λ o. results_in o ++ []) e ∙ append-nil i.results

module _ (m : Module) (v : IsVerified m) (bound : ℕ) (s : HolderState) (rest : List (Task Frame)) (frame : Frame) (f : Function) (r : Running m s rest frame f) (i : Inst)
    (there : inst_at f (stands_at f frame.trail) ≡ Some i) where
  abbrev p : PointId
  p = stands_at f frame.trail

  accepted : IsAcceptedBody m frame.function.0 f
  accepted = accepted_body m v frame.function f r.typed.is r.typed.bodied

  results_of : Each (IsOf f) i.results
  results_of = subst (Each (IsOf f)) (defines_results f p i there) (((typed_module m v).functions frame.function.0 f r.typed.is).items (item.Inst p)).defined

  defined_fit : (w : World) (xs : List Datum) → FitEach m w f i.results xs → FitEach m w f (item_defined f (item.Inst p)) xs
  defined_fit w xs fits = subst (λ vs. FitEach m w f vs xs) (sym (defines_results f p i there)) fits

  -- the frame that waits for the callee
  waits : (g : FuncId) (callee : Function) (lent : List LentPlace) → slice_get m.functions g.0 ≡ Some callee
      → forms_of (declarations_of m) f i.results ≡ OfValue (given_shape (declarations_of m) callee) ∷ [] → result_kind_of i.op ≡ OwnedResult
      → (top : Frame) → top.function ≡ g → BelowTyped m r.w top (Runs (record frame { lent = lent }) ∷ rest)
  waits g callee lent called form owned top same =
      let one = one_of (form_of (declarations_of m) f) i.results (OfValue (given_shape (declarations_of m) callee)) form in
      let gives : Contains i.results one.0 = contained i.results 0 one.0 (ap (λ vs. slice_get vs 0) one.1) in (
        record {
          f = f;
          of = record { is = r.typed.is; bodied = r.typed.bodied; trail = r.typed.trail; goes = r.typed.goes; entries = r.typed.entries };
          call = i;
          stands = there;
          result = one.0;
          results = one.1;
          body = callee;
          there = ap (λ (h : FuncId). slice_get m.functions h.0) same ∙ called;
          form = one.2;
          taken = owned_or_trivial m frame.function.0 f accepted r.w p i there one.0 gives owned (given_shape (declarations_of m) callee) one.2;
        },
        below_same m r.w frame (record frame { lent = lent }) rest refl r.below,
      )

  pub performs : (xs : List Datum) → FitEach m r.w f (map value_of i.operands) xs → (e : Effect HolderFault) → EffectFits m r.w i.op xs (forms_of (declarations_of m) f i.results) e
      → (n : HolderNext) → Performs m (facts_of m) bound s rest frame f (item.Inst p) e n → NextTyped m n
  performs xs operands _ (EffectFits.makes c changed keeps) _ (Performs.makes _ n way) =
      goes_behind m v bound changed.later changed.of s rest frame f (frame_grows m r.w changed.later changed.grows f frame r.typed)
      (below_grows m r.w changed.later changed.grows frame rest r.below) (item.Inst p) (refl, i, there) (λ t. tt) c changed.memory
      (defined_fit changed.later c.results (results_fit m frame.function.0 f accepted changed.later p i there results_of changed.results (how keeps))) changed.dropped n way
    where
      how : (Each IsBare xs → Each IsBare c.results) ⊎ IsOwningRow i.op → KeepsBare m frame.function.0 f accepted changed.later p i there c.results
      how (inl bare) = inl (λ plain. bare (fit_bare m r.w f operands plain))
      how (inr owning) = inr owning
  performs xs operands _ (EffectFits.calls g args callee called bodied typed_as form owned) n way = by n way
    where
      lent : List LentPlace
      lent = lent_at m (facts_of m) bound f (item.Inst p) args

      by : (n : HolderNext) → Performs m (facts_of m) bound s rest frame f (item.Inst p) (Calls g args) n → NextTyped m n
      by _ (Performs.calls _ _ other n there' bodied' before way) =
          let same : other ≡ callee = same_Some other callee (sym there' ∙ called) in
          enters m v bound r.w r.of (record s { memory = handed_over s.memory lent })
          (handed_typed m r.w lent s.memory (are_lent m r.w (drop 1 (item_taken f (item.Inst p))) typed_as) r.memory)
          (Runs (record frame { lent = lent }) ∷ rest) g callee called bodied (map as_argument args) (arguments_are m r.w typed_as) (waits g callee lent called form owned) n
          (subst (λ (c : Function). Enters m (facts_of m) bound (record s { memory = handed_over s.memory lent }) (Runs (record frame { lent = lent }) ∷ rest) g c (map as_argument args) n) same way)
      by _ (Performs.calls_out _ _ other numbers n there' bodiless turns turn way) =
          absurd (true≢false (sym bodied ∙ ap (λ (c : Function). has_any c.blocks) (same_Some callee other (sym called ∙ there')) ∙ bodiless))
      by _ (Performs.no_turn _ _ other numbers there' bodiless turns turn) = next.ends OutOfTurns s (λ e. cc)
      by _ (Performs.no_callee _ _ none) = absurd (cc)
      by _ (Performs.no_numbers _ _ other there' bodiless none) =
          absurd (true≢false (sym bodied ∙ ap (λ (c : Function). has_any c.blocks) (same_Some callee other (sym called ∙ there')) ∙ bodiless))
      by _ (Performs.wrong_place _ _ other there' bodied' before) = other_fault m s PlaceNotAsAsked (λ e. cc)
  performs xs operands _ (EffectFits.calls_out g args callee ns called bodiless numbers form) n way = by n way
    where
      given : FitEach m r.w f i.results (ValueOf (value.Group value.NoValue) ∷ [])
      given = results_fit m frame.function.0 f accepted r.w p i there results_of
          (subst (λ forms. DataAre m r.w forms (ValueOf (value.Group value.NoValue) ∷ [])) (sym form)
          (DataAre.more (OfValue (Tuple NoMember)) (ValueOf (value.Group value.NoValue)) [] [] (DatumIs.value (Tuple NoMember) (value.Group value.NoValue) refl) DataAre.none))
          (inl (λ plain. (refl, tt)))

      by : (n : HolderNext) → Performs m (facts_of m) bound s rest frame f (item.Inst p) (Calls g args) n → NextTyped m n
      by _ (Performs.calls _ _ other n there' bodied before way) =
          absurd (true≢false (sym bodied ∙ ap (λ (c : Function). has_any c.blocks) (same_Some other callee (sym there' ∙ called)) ∙ bodiless))
      by _ (Performs.calls_out _ _ other numbers' n there' bodiless' turns turn way) =
          goes_behind m v bound r.w r.of _ rest frame f r.typed r.below (item.Inst p) (refl, i, there) (λ t. tt)
          (record (unchanged s.memory) { results = ValueOf (value.Group value.NoValue) ∷ [] }) r.memory
          (defined_fit r.w (ValueOf (value.Group value.NoValue) ∷ []) given) tt n way
      by _ (Performs.no_turn _ _ other numbers' there' bodiless' turns turn) = next.ends OutOfTurns s (λ e. cc)
      by _ (Performs.no_callee _ _ none) = absurd (cc)
      by _ (Performs.no_numbers _ _ other there' bodiless' none) = absurd (cc)
      by _ (Performs.wrong_place _ _ other there' bodied before) = other_fault m s PlaceNotAsAsked (λ e. cc)
  performs xs operands _ (EffectFits.traps t) _ (Performs.traps _) = next.ends (Trapped t) s (λ e. cc)
  performs xs operands _ (EffectFits.faults x other) _ (Performs.faults _) = other_fault m s x other
