-- An edge is taken: what it carries is typed as the arguments of its block. A terminator that chooses among edges finds one by its operand's value.
use Rattle.std.proofs.Common.{◌≡◌, ◌∙◌, ◌⊎◌, inl, inr, ℕ, suc, List, [], ◌∷◌, ◌++◌, append-nil, drop, length, map, refl, sym, ap, subst, arith, Bool, true, false, Option, Some}
use Rattle.std.specs.Prelude.{◌==◌, Ok, cond, option_and_then, option_map, slice_get, unwrap_or}
use Rattle.std.proofs.lemmas.Bool.{eqb-true}
use Rattle.std.proofs.lemmas.List.{length-map, map-append}
use Rattle.std.proofs.lemmas.Option.{none-some, same_Some, slice_get_within}
use Rattle.holder_model_laws.specs.holder_model.RunTyping.CallForms.{IsOf}
use Rattle.holder_model_laws.specs.holder_model.RunTyping.EndForms.{EdgeForms, EndForms, arguments_at, handed_over, operand_forms, payload_forms, value_in}
use Rattle.holder_model_laws.specs.holder_model.RunTyping.Forms.{Form, OfValue, form_of, forms_of}
use Rattle.holder_model_laws.specs.holder_model.RunTyping.RowForms.{IsEnum, bit}
use Rattle.holder_model_laws.specs.holder_model.LoweredRun.LowStepParts.{taken_value, values_taken}
use Rattle.sil_verifier_trails.specs.sil_verifier_accepted.AcceptedModules.inner.Checked.{IsVerified}
use Rattle.holder_model_laws.specs.HolderLaws.inner.Steps.Ways.{Chooses, StandsAtEnd, TakesEdge, left_with, operands_in, turned}
use Rattle.instruction_table.specs.Forms.{ending_of}
use Rattle.instruction_table.specs.declared.entries.Ending.TheVariants as ending
use Rattle.sil_cfg_items.specs.Items.{arg_value, item_defined, item_taken, taken_along_in, taken_in}
use Rattle.sil_cfg_items.specs.Parts.{args_behind, edge_at, edge_in, item_operands, operands_in as inst_operands}
use Rattle.sil_cfg_items.specs.Roles.{consumed, taken_along, taken_by}
use Rattle.sil_cfg_items.specs.declared.taken.Taken.{Taken}
use Rattle.numbered_form.specs.Lists.{Each}
use Rattle.sil_verifier_trails.specs.holder_model_typing.OwnedRunTyping.inner.OwnedEnds.{OwnedCase, OwnedEndForms}
use Rattle.sil_verifier_trails.specs.holder_model_typing.OwnedRunTyping.inner.OwnedTyped.{OwnedFunction}
use Rattle.holder_model_laws.specs.ownership_kinds_chains.declared.ownership_chains.facts.Facts.{Facts}
use Rattle.holder_model_laws.specs.holder_model.Builtins.{is_set}
use Rattle.holder_model_laws.specs.holder_model.Data.{Datum, ValueOf}
use Rattle.holder_model_laws.specs.holder_model.Edges.{branch_of, carried_along, carried_by, case_edge, edge_for, edge_of, is_default, payload_data, switched_data}
use Rattle.holder_model_laws.specs.holder_model.Effects.{unchanged}
use Rattle.holder_model_laws.specs.holder_model.Frames.{Frame, Operands, datum_in, entry_at, operands_of}
use Rattle.holder_model_laws.specs.holder_model.HolderStates.{HolderNext, HolderState}
use Rattle.holder_model_laws.specs.holder_model.ModuleFacts.{facts_of, facts_told}
use Rattle.holder_model_laws.specs.holder_model.ModuleShapes.{shape_at, shapes_in, shapes_of}
use Rattle.holder_model_laws.specs.holder_model.Standing.{stands_at}
use Rattle.holder_model_laws.specs.holder_model.StepParts.{switched_shape}
use Rattle.holder_model_laws.specs.holder_model.States.{OutOfTurns, Task}
use Rattle.holder_model_laws.specs.holder_model.Steps.{switch_edge}
use Rattle.sil_verifier_trails.specs.RunTrails.inner.RunTrails.{ComesAt}
use Rattle.holder_model_values.specs.RunValues.Layers.{CaseLayer}
use Rattle.holder_model_values.specs.RunValues.Shapes.{Shape, Unknown, case_shapes}
use Rattle.holder_model_values.specs.RunValues.Values.{Value}
use Rattle.sil_ast.specs.Blocks.{args_of}
use Rattle.sil_ast.specs.declared.function.BlockArg.{BlockArg}
use Rattle.sil_ast.specs.declared.function.Function.{Function}
use Rattle.sil_ast.specs.declared.inst.Edge.{Edge}
use Rattle.sil_ast.specs.declared.inst.Inst.{Inst}
use Rattle.sil_ast.specs.declared.module.Module.{Module}
use Rattle.sil_ast.specs.declared.operands.Operand.{Operand}
use Rattle.sil_ast.specs.declared.place.EdgeId.{EdgeId}
use Rattle.sil_ast.specs.declared.place.PointId.{PointId}
use Rattle.sil_ast.specs.declared.place.ValueId.{ValueId}
use Rattle.sil_cfg.specs.Items.{ends_function, leaves_function}
use Rattle.sil_cfg.specs.declared.item.Item.TheVariants as item
use Rattle.sil_types_declarations.specs.TypeDefinitions.Declarations.{Declarations, declarations_of}
use Rattle.holder_model_values.specs.ValueParts.inner.Choices.{IsChoice}
use Rattle.holder_model_values.proofs.ValueParts.Plain.{suits_integer}
use Rattle.sil_verifier_trails.specs.holder_model_typing.TypedMemory.inner.Worlds.{DatumIs, Suits, World, names}
use Rattle.sil_verifier_trails.proofs.holder_model_typing.TypedMemory.Grouped.{enum_choice}
use Rattle.sil_verifier_frames.specs.inner.Typed.TypedStates.{EntriesAre, FrameIs}
use Rattle.sil_verifier_frames.proofs.Typed.Data.{DataAre}
use Rattle.sil_verifier_frames.proofs.Typed.Entries.{FitEach, fit_data, operands_fit}
use Rattle.sil_verifier_frames.proofs.Typed.GoesOn.{NextTyped, Running, accepted_body, goes_behind, other_fault, typed_module}
use Rattle.sil_verifier_frames.proofs.Typed.GoesOn as go
use Rattle.sil_verifier_frames.proofs.Typed.WithoutOwner.{arguments_fit}
use Rattle.sil_verifier_frames.proofs.Typed.Operands.{one_read, operands_other}
use Rattle.sil_verifier_frames.proofs.Typed.ShapesTold.{shape_in, shape_told}
use Rattle.sil_verifier_frames.proofs.Typed.Stacks.{below_same}

-- ---- lists of operands

one_taken : (ts : List Taken) (v : ValueId) → map taken_value ts ≡ v ∷ [] → (t : Taken) × (ts ≡ t ∷ []) × (t.value ≡ v)
one_taken [] v e = absurd (cc)
one_taken (t ∷ []) v e = (t, refl, cc)
one_taken (t ∷ u ∷ ts) v e = absurd (cc)

pub one_operand : (d : Declarations) (f : Function) (i : Inst) (form : Form) → operand_forms d f i ≡ form ∷ [] → (o : Operand) × (i.operands ≡ o ∷ []) × (form_of d f o.value ≡ form)
one_operand d f i form e = at i.operands refl e
  where
    at : (os : List Operand) → i.operands ≡ os → forms_of d f (map value_in os) ≡ form ∷ [] → (o : Operand) × (i.operands ≡ o ∷ []) × (form_of d f o.value ≡ form)
    at [] is h = absurd (cc)
    at (o ∷ []) is h = (o, is, cc)
    at (o ∷ q ∷ os) is h = absurd (cc)

consumed_values : (os : List Operand) → map taken_value (map consumed os) ≡ map value_in os
consumed_values [] = refl
consumed_values (o ∷ os) = ap (λ vs. o.value ∷ vs) (consumed_values os)

module _ (m : Module) (w : World) (f : Function) where
  fit_behind : (us vs : List ValueId) {xs : List Datum} → FitEach m w f (us ++ vs) xs → FitEach m w f vs (drop (length us) xs)
  fit_behind [] vs fits = fits
  fit_behind (u ∷ us) vs (FitEach.more _ x _ xs fit rest) = fit_behind us vs rest

some_counted : (n : ℕ) → (suc n == 0) ≡ false
some_counted n = at (suc n == 0) refl
  where
    at : (b : Bool) → (suc n == 0) ≡ b → (suc n == 0) ≡ false
    at true e = let zero_is : suc n ≡ 0 = eqb-true (suc n) 0 e in absurd (omega arith)
    at false e = e

-- ---- the cases of a value

-- which case it is, and what it carries
record CaseIs (m : Module) (w : World) (s : Shape) (x : Value) : Type 0 where
  place : ℕ
  c : CaseLayer Shape
  there : slice_get (case_shapes s) place ≡ Some c
  chosen : (edges : List Edge) → case_edge s edges x ≡ edge_for s edges place
  payload : DataAre m w (payload_forms c.payload) (payload_data x)

case_is : (m : Module) (w : World) (s : Shape) (x : Value) → IsChoice (names m w) (case_shapes s) x → CaseIs m w s x
case_is m w s _ (IsChoice.plain k c there bare) = record {
  place = k;
  c = c;
  there = there;
  chosen = λ edges. refl;
  payload = subst (λ p. DataAre m w (payload_forms p) []) (sym bare) DataAre.none;
}
case_is m w s _ (IsChoice.full k y c t there has good) = record {
  place = k;
  c = c;
  there = there;
  chosen = λ edges. refl;
  payload = subst (λ p. DataAre m w (payload_forms p) (ValueOf y ∷ [])) (sym has) (DataAre.more (OfValue t) (ValueOf y) [] [] (DatumIs.value t y good) DataAre.none);
}

module _ (m : Module) (v : IsVerified m) (bound : ℕ) (s : HolderState) (rest : List (Task Frame)) (frame : Frame) (f : Function) (r : Running m s rest frame f) where
  abbrev d : Declarations
  d = declarations_of m

  abbrev p : PointId
  p = stands_at f frame.trail

  abbrev facts : ValueId → Option Facts
  facts = facts_told (facts_of m) frame.function

  typed : OwnedFunction m f
  typed = (typed_module m v).functions frame.function.0 f r.typed.is

  -- without the operands that ended
  pub left_is : (entries : List _) → EntriesAre m r.w f entries → FrameIs m r.w f (record frame { entries = entries })
  left_is entries are = record { is = r.typed.is; bodied = r.typed.bodied; trail = r.typed.trail; goes = r.typed.goes; entries = are }

  module _ (i : Inst) (stands : StandsAtEnd m (facts_of m) bound frame f i) where
    pub end_forms : OwnedEndForms d f i
    end_forms = typed.ends p.block.0 i stands.terminator

    -- the operands of the terminator

    pub exit_takes : values_taken f (item.Exit p) ≡ map value_in i.operands
    exit_takes =
        ap (λ t. map taken_value (taken_in t ++ [])) stands.terminator ∙ ap (map taken_value) (append-nil (taken_by i)) ∙ typed.ends_take p.block.0 i stands.terminator

    pub operands_are_of : Each (IsOf f) (map value_in i.operands)
    operands_are_of = subst (Each (IsOf f)) exit_takes (typed.items (item.Exit p)).taken

    -- the edge with this number
    module _ (k : ℕ) (e : Edge) (at : slice_get i.edges k ≡ Some e) where
      abbrev eid : EdgeId
      eid = edge_of p k

      edge_is : edge_at f eid ≡ Some e
      edge_is = ap (λ t. edge_in t k) stands.terminator ∙ at

      edge_takes : values_taken f (item.Edge eid) ≡ map value_in i.operands ++ handed_over e
      edge_takes =
          ap (λ t. map taken_value (taken_in t ++ taken_along_in (edge_at f eid))) stands.terminator
          ∙ ap (λ x. map taken_value (taken_by i ++ taken_along_in x)) edge_is
          ∙ map-append taken_value (taken_by i) (taken_along e)
          ∙ ap (λ vs. vs ++ map taken_value (taken_along e)) (typed.ends_take p.block.0 i stands.terminator)
          ∙ ap (λ vs. map value_in i.operands ++ vs) (consumed_values e.args)

      edge_defines : item_defined f (item.Edge eid) ≡ arguments_at f e
      edge_defines = ap (λ x. map arg_value (args_behind f x)) edge_is

      -- what the edge carries is typed
      abbrev Carries : Type 0
      Carries = (ops : Operands) → operands_in m (facts_of m) bound s frame f (item.Edge eid) ≡ Ok ops
          → (xs : List Datum) × (carried_along f eid ops.given ≡ Some xs) × DataAre m r.w (forms_of d f (arguments_at f e)) xs

      taken_fit : (ops : Operands) → operands_in m (facts_of m) bound s frame f (item.Edge eid) ≡ Ok ops
          → FitEach m r.w f (values_taken f (item.Edge eid)) ops.given × EntriesAre m r.w f ops.left
      taken_fit ops ok = operands_fit m r.w f facts s.memory (item_taken f (item.Edge eid)) frame.entries ops r.typed.entries (typed.items (item.Edge eid)).taken ok

      defined_fit : (xs : List Datum) → DataAre m r.w (forms_of d f (arguments_at f e)) xs → FitEach m r.w f (item_defined f (item.Edge eid)) xs
      defined_fit xs typed_as =
          subst (λ vs. FitEach m r.w f vs xs) (sym edge_defines)
          (arguments_fit m frame.function.0 f (accepted_body m v frame.function f r.typed.is r.typed.bodied) r.w e.block.0
          (subst (Each (IsOf f)) edge_defines (typed.items (item.Edge eid)).defined) typed_as)

      edge_comes : ends_function i.op ≡ false → ComesAt f p (item.Edge eid)
      edge_comes goes_on = (
        refl,
        record {
          at_end = record { terminator = i; behind_insts = stands.behind; there = stands.terminator };
          goes_on = goes_on;
          has_edge = slice_get_within i.edges k e at;
        },
      )

      pub takes_edge : ends_function i.op ≡ false → Carries → (n : HolderNext) → TakesEdge m (facts_of m) bound s rest frame f eid n → NextTyped m n
      takes_edge goes_on carries _ (TakesEdge.takes ops carried n ok is turn way) =
          let xs = carries ops ok in
          let same : xs.0 ≡ carried = same_Some xs.0 carried (sym xs.1 ∙ is) in
          goes_behind m v bound r.w r.of (turned s) rest (left_with m (facts_of m) bound frame ops) f (left_is ops.left (taken_fit ops ok).1)
          (below_same m r.w frame (left_with m (facts_of m) bound frame ops) rest refl r.below) (item.Edge eid) (edge_comes goes_on) (λ t. tt)
          (record (unchanged s.memory) { results = carried }) r.memory
          (defined_fit carried (subst (λ ys. DataAre m r.w (forms_of d f (arguments_at f e)) ys) same xs.2)) tt n way
      takes_edge goes_on carries _ (TakesEdge.no_turn ops carried ok is turn) = go.ends OutOfTurns s (λ e. cc)
      takes_edge goes_on carries _ (TakesEdge.wrong_operand x is) = other_fault m s x (operands_other facts s.memory (item_taken f (item.Edge eid)) frame.entries x is)
      takes_edge goes_on carries _ (TakesEdge.not_carried ops ok none) = let xs = carries ops ok in absurd (none-some xs.0 (sym none ∙ xs.1))

      carried_so : (xs : List Datum) → carried_along f eid xs ≡ carried_by (ending_of i.op) f eid e xs
      carried_so xs =
          ap (option_and_then (λ j. option_and_then (λ taken. carried_by (ending_of j.op) f eid taken xs) (edge_at f eid))) stands.terminator
          ∙ ap (option_and_then (λ taken. carried_by (ending_of i.op) f eid taken xs)) edge_is

      -- an edge that hands over operands
      pub branch_carries : EdgeForms d f e → ((xs : List Datum) → carried_by (ending_of i.op) f eid e xs ≡ Some (drop (length (item_operands f (item.Edge eid))) xs)) → Carries
      branch_carries forms rest_is ops ok = (
        drop (length (map value_in i.operands)) ops.given,
        carried_so ops.given ∙ rest_is ops.given ∙ ap (λ n. Some (drop n ops.given)) (ap (λ t. length (inst_operands t)) stands.terminator ∙ sym (length-map i.operands value_in)),
        subst (λ fs. DataAre m r.w fs (drop (length (map value_in i.operands)) ops.given)) (forms.given ∙ sym forms.taken)
            (fit_data m r.w f (fit_behind m r.w f (map value_in i.operands) (handed_over e) (subst (λ vs. FitEach m r.w f vs ops.given) edge_takes (taken_fit ops ok).0))),
      )

    -- ---- a value chooses

    -- wherever the operand's value leads, there is an edge, and it can be taken
    pub record ChoosesTyped (choose : Value → Option ℕ) : Type 0 where
      pub shape : Shape
      pub operand : operand_forms d f i ≡ OfValue shape ∷ []
      pub leads : (o : Operand) → i.operands ≡ o ∷ [] → (x : Datum) → datum_in (entry_at frame.entries o.value) ≡ Some x → (y : Value) → x ≡ ValueOf y → Suits m r.w shape y
          → (k : ℕ) × (choose y ≡ Some k) × ((n : HolderNext) → TakesEdge m (facts_of m) bound s rest frame f (edge_of p k) n → NextTyped m n)

    goes_on_with : (x : _) → ending_of i.op ≡ x → leaves_function x ≡ false → ends_function i.op ≡ false
    goes_on_with x is stays = ap leaves_function is ∙ stays

    -- by its bit
    by_bit : ending_of i.op ≡ ending.TwoBranches → OwnedEndForms d f i → ChoosesTyped branch_of
    by_bit is (OwnedEndForms.also_lowered other (EndForms.branches set clear is' operands set_is clear_is set_forms clear_forms)) = record {
      shape = bit;
      operand = operands;
      leads = λ o first x there y value good.
          let n = suits_integer (names m r.w) 1 y good in
          subst (λ z. (k : ℕ) × (branch_of z ≡ Some k) × ((n : HolderNext) → TakesEdge m (facts_of m) bound s rest frame f (edge_of p k) n → NextTyped m n)) (sym n.1) (leads (is_set n.0));
    }
      where
        carries : (k : ℕ) (e : Edge) (at : slice_get i.edges k ≡ Some e) → EdgeForms d f e → Carries k e at
        carries k e at forms = branch_carries k e at forms (λ xs. ap (λ x. carried_by x f (edge_of p k) e xs) is)

        goes_on : ends_function i.op ≡ false
        goes_on = goes_on_with ending.TwoBranches is refl

        leads : (b : Bool) → (k : ℕ) × (Some (cond b 0 1) ≡ Some k) × ((n : HolderNext) → TakesEdge m (facts_of m) bound s rest frame f (edge_of p k) n → NextTyped m n)
        leads true = (0, refl, takes_edge 0 set set_is goes_on (carries 0 set set_is set_forms))
        leads false = (1, refl, takes_edge 1 clear clear_is goes_on (carries 1 clear clear_is clear_forms))
    by_bit is (OwnedEndForms.also_lowered other (EndForms.branch e is' bare at forms)) = absurd (cc)
    by_bit is (OwnedEndForms.also_lowered other (EndForms.cases s is' operands is_enum all)) = absurd (cc)
    by_bit is (OwnedEndForms.also_lowered other (EndForms.returns is' operands)) = absurd (cc)
    by_bit is (OwnedEndForms.also_lowered other (EndForms.unreachable is')) = absurd (cc)
    by_bit is (OwnedEndForms.cases s is' operands is_enum all) = absurd (cc)

    -- by its case
    module _ (shape : Shape) (is : ending_of i.op ≡ ending.Cases) (operands : operand_forms d f i ≡ OfValue shape ∷ []) (is_enum : IsEnum shape)
        (all : (k : ℕ) (c : CaseLayer Shape) → slice_get (case_shapes shape) k ≡ Some c → OwnedCase d f i shape k c) where
      -- the shape of what is switched
      shape_found : (o : Operand) → i.operands ≡ o ∷ [] → switched_shape (shapes_in (shapes_of m) frame.function) i ≡ shape
      shape_found o first =
          let one = one_operand d f i (OfValue shape) operands in
          let same : one.0 ≡ o = let two = one.1 in cc in
          let form : form_of d f o.value ≡ OfValue shape = ap (λ (q : Operand). form_of d f q.value) (sym same) ∙ one.2 in
          ap (λ os. unwrap_or (option_map (λ q. shape_at (shapes_in (shapes_of m) frame.function) q.value) (slice_get os 0)) Unknown) first
          ∙ shape_told m frame.function f r.typed.is o.value ∙ ap shape_in form

      module _ (o : Operand) (first : i.operands ≡ o ∷ []) (x : Datum) (there : datum_in (entry_at frame.entries o.value) ≡ Some x) (y : Value) (value : x ≡ ValueOf y)
          (good : Suits m r.w shape y) where
        case : CaseIs m r.w shape y
        case = case_is m r.w shape y (enum_choice (names m r.w) shape is_enum y good)

        to : OwnedCase d f i shape case.place case.c
        to = all case.place case.c case.there

        -- the whole, where a default takes it
        whole_data : (args : List BlockArg) → (args ≡ []) ⊎ (forms_of d f (map arg_value args) ≡ OfValue shape ∷ [])
            → DataAre m r.w (forms_of d f (map arg_value args)) (cond (length args == 0) [] (ValueOf y ∷ []))
        whole_data [] (inl e) = DataAre.none
        whole_data [] (inr e) = absurd (cc)
        whole_data (a ∷ args) (inl e) = absurd (cc)
        whole_data (a ∷ args) (inr e) =
            subst (λ b. DataAre m r.w (forms_of d f (map arg_value (a ∷ args))) (cond b [] (ValueOf y ∷ []))) (sym (some_counted (length args)))
            (subst (λ fs. DataAre m r.w fs (ValueOf y ∷ [])) (sym e) (DataAre.more (OfValue shape) (ValueOf y) [] [] (DatumIs.value shape y good) DataAre.none))

        switched_typed : DataAre m r.w (forms_of d f (arguments_at f to.to)) (switched_data to.to (length (args_of f to.to.block.0)) y)
        switched_typed = by (is_default to.to) refl
          where
            by : (b : Bool) → is_default to.to ≡ b
                → DataAre m r.w (forms_of d f (arguments_at f to.to)) (cond b (cond (length (args_of f to.to.block.0) == 0) [] (ValueOf y ∷ [])) (payload_data y))
            by true default = whole_data (args_of f to.to.block.0) (to.forms.whole default)
            by false named = subst (λ fs. DataAre m r.w fs (payload_data y)) (sym (to.forms.payload named)) case.payload

        -- the one operand is the value that chose
        switch_takes : values_taken f (item.Edge (edge_of p to.edge)) ≡ o.value ∷ []
        switch_takes =
            edge_takes to.edge to.to to.there ∙ ap (λ os. map value_in os ++ handed_over to.to) first ∙ ap (λ args. o.value ∷ map value_in args) to.forms.bare

        given_by : (t : Taken) → item_taken f (item.Edge (edge_of p to.edge)) ≡ t ∷ [] → t.value ≡ o.value → (ops : Operands)
            → operands_in m (facts_of m) bound s frame f (item.Edge (edge_of p to.edge)) ≡ Ok ops → ops.given ≡ x ∷ []
        given_by t alone same ops ok =
            let read = one_read facts s.memory t frame.entries ops (subst (λ ts. operands_of facts s.memory frame.entries ts ≡ Ok ops) alone ok) in
            let here : datum_in (entry_at frame.entries t.value) ≡ Some x = ap (λ (u : ValueId). datum_in (entry_at frame.entries u)) same ∙ there in
            by read.0 read.1 read.2 here
          where
            by : (y : Datum) → ops.given ≡ y ∷ [] → datum_in (entry_at frame.entries t.value) ≡ Some y → datum_in (entry_at frame.entries t.value) ≡ Some x → ops.given ≡ x ∷ []
            by y given is here = let same : y ≡ x = same_Some y x (sym is ∙ here) in given ∙ ap (λ z. z ∷ []) same

        given_is : (ops : Operands) → operands_in m (facts_of m) bound s frame f (item.Edge (edge_of p to.edge)) ≡ Ok ops → ops.given ≡ x ∷ []
        given_is =
            let one = one_taken (item_taken f (item.Edge (edge_of p to.edge))) o.value switch_takes in
            given_by one.0 one.1 one.2

        switch_carries : Carries to.edge to.to to.there
        switch_carries ops ok = (
          switched_data to.to (length (args_of f to.to.block.0)) y,
          ap (carried_along f (edge_of p to.edge)) (given_is ops ok ∙ ap (λ z. z ∷ []) value)
              ∙ carried_so to.edge to.to to.there (ValueOf y ∷ [])
              ∙ ap (λ z. carried_by z f (edge_of p to.edge) to.to (ValueOf y ∷ [])) is,
          switched_typed,
        )

        case_leads : (k : ℕ) × (switch_edge m (facts_of m) bound frame i y ≡ Some k) × ((n : HolderNext) → TakesEdge m (facts_of m) bound s rest frame f (edge_of p k) n → NextTyped m n)
        case_leads = (
          to.edge,
          ap (λ z. case_edge z i.edges y) (shape_found o first) ∙ case.chosen i.edges ∙ to.chosen,
          takes_edge to.edge to.to to.there (goes_on_with ending.Cases is refl) switch_carries,
        )

      cases_typed : ChoosesTyped (switch_edge m (facts_of m) bound frame i)
      cases_typed = record { shape = shape; operand = operands; leads = case_leads }

    by_case : ending_of i.op ≡ ending.Cases → OwnedEndForms d f i → ChoosesTyped (switch_edge m (facts_of m) bound frame i)
    by_case is (OwnedEndForms.cases shape is' operands is_enum all) = cases_typed shape is operands is_enum all
    by_case is (OwnedEndForms.also_lowered other forms) = absurd (other is)

    pub chooses_typed : (choose : Value → Option ℕ) → Chooses m (facts_of m) bound frame i choose → ChoosesTyped choose
    chooses_typed _ (Chooses.by_bit is) = by_bit is end_forms
    chooses_typed _ (Chooses.by_case is) = by_case is end_forms

    -- a jump
    pub jumps : ending_of i.op ≡ ending.OneBranch → (n : HolderNext) → TakesEdge m (facts_of m) bound s rest frame f (edge_of p 0) n → NextTyped m n
    jumps is n way = by end_forms
      where
        by : OwnedEndForms d f i → NextTyped m n
        by (OwnedEndForms.also_lowered other (EndForms.branch e is' bare at forms)) =
            takes_edge 0 e at (goes_on_with ending.OneBranch is refl) (branch_carries 0 e at forms (λ xs. ap (λ x. carried_by x f (edge_of p 0) e xs) is)) n way
        by (OwnedEndForms.also_lowered other (EndForms.branches set clear is' operands set_is clear_is set_forms clear_forms)) = absurd (cc)
        by (OwnedEndForms.also_lowered other (EndForms.cases s is' operands is_enum all)) = absurd (cc)
        by (OwnedEndForms.also_lowered other (EndForms.returns is' operands)) = absurd (cc)
        by (OwnedEndForms.also_lowered other (EndForms.unreachable is')) = absurd (cc)
        by (OwnedEndForms.cases s is' operands is_enum all) = absurd (cc)
