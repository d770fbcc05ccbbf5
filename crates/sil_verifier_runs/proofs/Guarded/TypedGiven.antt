-- The operands of an instruction are as its row asks, where entries and memory are typed; and what an edge carries are values.
use Rattle.std.proofs.Common.{◌≡◌, ◌<◌, ℕ, zero, suc, List, [], ◌∷◌, ◌++◌, drop, length, map, refl, sym, ap, ◌∙◌, subst, arith, Bool, true, false, Option, Some, None, Ok}
use Rattle.std.specs.Prelude.{◌==◌, cond, option_and_then, option_map, slice_get, unwrap_or}
use Rattle.std.specs.List.{AllZip, list_all}
use Rattle.std.proofs.lemmas.Bool.{and_parts, eqb-true}
use Rattle.std.proofs.lemmas.List.{length-map, map-append}
use Rattle.std.proofs.lemmas.Option.{same_Some, slice_get_within}
use Rattle.instruction_table.specs.Forms.{ending_of}
use Rattle.instruction_table.specs.declared.entries.Ending.{Ending}
use Rattle.instruction_table.specs.declared.entries.Ending.TheVariants as ending
use Rattle.sil_cfg_items.specs.Items.{item_taken, taken_along_in, taken_in}
use Rattle.sil_cfg_items.specs.Parts.{args_behind, edge_at, edge_in, inst_at, item_operands, operands_in, terminator_of}
use Rattle.sil_cfg_items.specs.Roles.{consumed, taken_along, taken_by}
use Rattle.numbered_form.specs.inner.Parts.{are_edges_by, is_branch}
use Rattle.sil_ast.specs.declared.function.Function.{Function}
use Rattle.sil_ast.specs.declared.inst.Edge.{Edge}
use Rattle.sil_ast.specs.declared.inst.Inst.{Inst}
use Rattle.sil_ast.specs.declared.module.Module.{Module}
use Rattle.sil_ast.specs.declared.operands.Operand.{Operand}
use Rattle.sil_ast.specs.declared.place.EdgeId.{EdgeId}
use Rattle.sil_ast.specs.declared.place.PointId.{PointId}
use Rattle.sil_ast.specs.declared.place.ValueId.{ValueId}
use Rattle.sil_cfg.specs.declared.item.Item.TheVariants as item
use Rattle.sil_types_declarations.specs.TypeDefinitions.Declarations.{Declarations, declarations_of}
use Rattle.holder_model_values.specs.RunValues.Memory.{Memory}
use Rattle.holder_model_values.specs.RunValues.Shapes.{Shape}
use Rattle.holder_model_values.specs.RunValues.Values.{ChosenCase, Value, case_of}
use Rattle.sil_verifier_frames.specs.sil_verifier_values.inner.Known.{IsAcceptedBody}
use Rattle.sil_verifier_frames.specs.holder_model.RunTyping.EndForms.{EdgeForms, EndForms, handed_over, value_in}
use Rattle.sil_verifier_frames.specs.holder_model.RunTyping.Forms.{Form, OfValue, forms_of}
use Rattle.sil_verifier_frames.specs.holder_model.LoweredRun.LowStepParts.{taken_value}
use Rattle.sil_verifier_frames.specs.ownership_kinds_origins.Facts.{facts_in}
use Rattle.sil_verifier_frames.proofs.sil_verifier_values.Branches.{known_end}
use Rattle.sil_verifier_frames.proofs.holder_model_typing.RunTypingLaws.Rows.Finding.{found_behind}
use Rattle.numbered_form.proofs.Lists.{mapped_from}
use Rattle.sil_verifier_frames.specs.holder_model_typing.OwnedRunTyping.inner.OwnedEnds.{OwnedEndForms}
use Rattle.sil_verifier_frames.specs.holder_model_typing.OwnedRunTyping.inner.OwnedTyped.{OwnedFunction}
use Rattle.sil_verifier_frames.specs.holder_model_typing.TypedMemory.inner.Worlds.{DatumIs, MemoryIs, World}
use Rattle.sil_verifier_frames.specs.inner.Typed.TypedStates.{EntriesAre}
use Rattle.sil_verifier_frames.proofs.Typed.Data.{DataAre, read_value}
use Rattle.sil_verifier_frames.proofs.Typed.Entries.{FitEach, fit_data, operands_fit}
use Rattle.sil_verifier_frames.proofs.Typed.GoesOn.{typed_module}
use Rattle.sil_verifier_frames.specs.holder_model.Data.{Datum, ValueOf}
use Rattle.sil_verifier_frames.specs.holder_model.Edges.{carried_by, first_value_of, is_default, payload_data, switched_data}
use Rattle.sil_verifier_frames.specs.holder_model.Frames.{Entry, Operands, operands_of}
use Rattle.sil_verifier_frames.specs.holder_model_laws.HolderLaws.inner.Counts.Naming.{LoadsStrongly}
use Rattle.sil_verifier_runs.specs.inner.Guarded.EdgesLend.{CarriesValues}
use Rattle.sil_verifier_runs.specs.inner.Guarded.Rows.{HandsValues}
use Rattle.sil_verifier_runs.specs.inner.Guarded.Premises.{AreTypedForRows, CarryTypedValues}
use Rattle.sil_verifier_runs.proofs.Guarded.Changing.{given_alive}
use Rattle.sil_verifier_runs.proofs.Guarded.Given.{hand_typed_values}
use Rattle.sil_verifier_runs.proofs.Guarded.TypedLoads.{load_typed_strongly}

-- ---- lists of data

zipped : (m : Module) (w : World) {forms : List Form} {xs : List Datum} → DataAre m w forms xs → AllZip (DatumIs m w) forms xs
zipped m w DataAre.none = tt
zipped m w (DataAre.more form x forms xs is rest) = (is, zipped m w rest)

no_values : CarriesValues []
no_values k x e = absurd (cc)

more_values : (v : Value) (xs : List Datum) → CarriesValues xs → CarriesValues (ValueOf v ∷ xs)
more_values v xs rest zero x e = (v, cc)
more_values v xs rest (suc k) x e = rest k x e

one_value : (v : Value) → CarriesValues (ValueOf v ∷ [])
one_value v = more_values v [] no_values

-- data of values are values
are_values : (m : Module) (w : World) (ss : List Shape) {forms : List Form} {xs : List Datum} → forms ≡ map OfValue ss → DataAre m w forms xs → CarriesValues xs
are_values m w ss e DataAre.none = no_values
are_values m w [] e (DataAre.more form x forms xs is rest) = absurd (cc)
are_values m w (s ∷ ss) e (DataAre.more form x forms xs is rest) =
    let first : form ≡ OfValue s = cc in
    let others : forms ≡ map OfValue ss = cc in
    let v = read_value m w is s first in
    subst (λ y. CarriesValues (y ∷ xs)) (sym v.1) (more_values v.0 xs (are_values m w ss others rest))

-- what is switched is handed on as values
payload_values : (x : Value) → CarriesValues (payload_data x)
payload_values x = at (case_of x)
  where
    of_payload : (o : Option Value) → CarriesValues (unwrap_or (option_map (λ v. ValueOf v ∷ []) o) [])
    of_payload None = no_values
    of_payload (Some v) = one_value v

    at : (o : Option ChosenCase) → CarriesValues (unwrap_or (option_map (λ c. unwrap_or (option_map (λ v. ValueOf v ∷ []) c.payload) []) o) [])
    at None = no_values
    at (Some c) = of_payload c.payload

switched_values : (e : Edge) (count : ℕ) (x : Value) → CarriesValues (switched_data e count x)
switched_values e count x = at (is_default e) (count == 0)
  where
    at : (default none : Bool) → CarriesValues (cond default (cond none [] (ValueOf x ∷ [])) (payload_data x))
    at true true = no_values
    at true false = one_value x
    at false none = payload_values x

consumed_values : (os : List Operand) → map taken_value (map consumed os) ≡ map value_in os
consumed_values [] = refl
consumed_values (o ∷ os) = ap (λ vs. o.value ∷ vs) (consumed_values os)

module _ (m : Module) (w : World) (f : Function) where
  fit_behind : (us vs : List ValueId) {xs : List Datum} → FitEach m w f (us ++ vs) xs → FitEach m w f vs (drop (length us) xs)
  fit_behind [] vs fits = fits
  fit_behind (u ∷ us) vs (FitEach.more _ x _ xs fit rest) = fit_behind us vs rest

module _ (m : Module) (n : ℕ) (f : Function) (a : IsAcceptedBody m n f) (w : World) (memory : Memory) (entries : List Entry) (ops : Operands)
    (entries_are : EntriesAre m w f entries) where
  abbrev d : Declarations
  d = declarations_of m

  typed : OwnedFunction m f
  typed = (typed_module m a.verified).functions n f a.body.there

  -- ---- an instruction

  module _ (p : PointId) (i : Inst) (there : inst_at f p ≡ Some i) (memory_is : MemoryIs m w memory)
      (ops_are : operands_of (facts_in d f) memory entries (item_taken f (item.Inst p)) ≡ Ok ops) where
    given_are : AllZip (DatumIs m w) (forms_of d f (map value_in i.operands)) ops.given
    given_are =
        let fits = (operands_fit m w f (facts_in d f) memory (item_taken f (item.Inst p)) entries ops entries_are (typed.items (item.Inst p)).taken ops_are).0 in
        zipped m w (fit_data m w f (subst (λ vs. FitEach m w f vs ops.given) (typed.insts p i there).takes fits))

    for_row : HandsValues i ops.given × LoadsStrongly memory i ops.given
    for_row =
        let forms = (typed.insts p i there).row in (
          hand_typed_values m w i _ _ ops.given forms given_are,
          load_typed_strongly m w memory i _ _ ops.given memory_is forms given_are
              (given_alive (facts_in d f) memory entries (item_taken f (item.Inst p)) ops ops_are),
        )

  -- ---- an edge

  module _ (e : EdgeId) (ops_are : operands_of (facts_in d f) memory entries (item_taken f (item.Edge e)) ≡ Ok ops) (carried : List Datum)
      (i : Inst) (ends : terminator_of f e.block.0 ≡ Some i) (to : Edge) (edge_is : edge_at f e ≡ Some to) where
    at_index : slice_get i.edges e.index ≡ Some to
    at_index = ap (λ t. edge_in t e.index) (sym ends) ∙ edge_is

    edge_takes : map taken_value (item_taken f (item.Edge e)) ≡ map value_in i.operands ++ handed_over to
    edge_takes =
        ap (λ t. map taken_value (taken_in t ++ taken_along_in (edge_at f e))) ends
        ∙ ap (λ x. map taken_value (taken_by i ++ taken_along_in x)) edge_is
        ∙ map-append taken_value (taken_by i) (taken_along to)
        ∙ ap (λ vs. vs ++ map taken_value (taken_along to)) (typed.ends_take e.block.0 i ends)
        ∙ ap (λ vs. map value_in i.operands ++ vs) (consumed_values to.args)

    -- what is handed over are values
    handed_values : EdgeForms d f to → CarriesValues (drop (length (item_operands f (item.Edge e))) ops.given)
    handed_values forms =
        let fits = (operands_fit m w f (facts_in d f) memory (item_taken f (item.Edge e)) entries ops entries_are (typed.items (item.Edge e)).taken ops_are).0 in
        let behind = fit_data m w f (fit_behind m w f (map value_in i.operands) (handed_over to) (subst (λ vs. FitEach m w f vs ops.given) edge_takes fits)) in
        let many : length (map value_in i.operands) ≡ length (item_operands f (item.Edge e)) = length-map i.operands value_in ∙ sym (ap (λ t. length (operands_in t)) ends) in
        subst (λ k. CarriesValues (drop k ops.given)) many (are_values m w forms.shapes forms.given behind)

    edges_by : (x : Ending) → ending_of i.op ≡ x → are_edges_by x i.edges ≡ true
    edges_by x is = ap (λ y. are_edges_by y i.edges) (sym is) ∙ (known_end m n f a e.block.0 i ends).parts.edges

    within : e.index < length i.edges
    within = slice_get_within i.edges e.index to at_index

    same_edge : (k : ℕ) (x : Edge) → e.index ≡ k → slice_get i.edges k ≡ Some x → EdgeForms d f x → EdgeForms d f to
    same_edge k x index is forms = subst (EdgeForms d f) (same_Some x to (sym is ∙ ap (λ j. slice_get i.edges j) (sym index) ∙ at_index)) forms

    -- of a `br`, or a `cond_br`
    one_branch : ending_of i.op ≡ ending.OneBranch → OwnedEndForms d f i → EdgeForms d f to
    one_branch is (OwnedEndForms.also_lowered other (EndForms.branch x is' bare at forms)) =
        let one : length i.edges ≡ 1 = eqb-true (length i.edges) 1 (and_parts (length i.edges == 1) (list_all is_branch i.edges) (edges_by ending.OneBranch is)).0 in
        same_edge 0 x (omega (arith, one, within)) at forms
    one_branch is (OwnedEndForms.also_lowered other (EndForms.branches set clear is' operands set_is clear_is set_forms clear_forms)) = absurd (cc)
    one_branch is (OwnedEndForms.also_lowered other (EndForms.cases s is' operands is_enum all)) = absurd (cc)
    one_branch is (OwnedEndForms.also_lowered other (EndForms.returns is' operands)) = absurd (cc)
    one_branch is (OwnedEndForms.also_lowered other (EndForms.unreachable is')) = absurd (cc)
    one_branch is (OwnedEndForms.cases s is' operands is_enum all) = absurd (cc)

    two_branches : ending_of i.op ≡ ending.TwoBranches → OwnedEndForms d f i → EdgeForms d f to
    two_branches is (OwnedEndForms.also_lowered other (EndForms.branches set clear is' operands set_is clear_is set_forms clear_forms)) =
        by e.index refl
      where
        two : length i.edges ≡ 2
        two = eqb-true (length i.edges) 2 (and_parts (length i.edges == 2) (list_all is_branch i.edges) (edges_by ending.TwoBranches is)).0

        by : (k : ℕ) → e.index ≡ k → EdgeForms d f to
        by zero index = same_edge 0 set index set_is set_forms
        by (suc zero) index = same_edge 1 clear index clear_is clear_forms
        by (suc (suc k)) index = absurd (omega (arith, two, within, index))
    two_branches is (OwnedEndForms.also_lowered other (EndForms.branch x is' bare at forms)) = absurd (cc)
    two_branches is (OwnedEndForms.also_lowered other (EndForms.cases s is' operands is_enum all)) = absurd (cc)
    two_branches is (OwnedEndForms.also_lowered other (EndForms.returns is' operands)) = absurd (cc)
    two_branches is (OwnedEndForms.also_lowered other (EndForms.unreachable is')) = absurd (cc)
    two_branches is (OwnedEndForms.cases s is' operands is_enum all) = absurd (cc)

    carried_values : (x : Ending) → ending_of i.op ≡ x → carried_by x f e to ops.given ≡ Some carried → CarriesValues carried
    carried_values ending.Inside is h = absurd (cc)
    carried_values ending.OneBranch is h =
        subst CarriesValues (same_Some _ carried h) (handed_values (one_branch is (typed.ends e.block.0 i ends)))
    carried_values ending.TwoBranches is h =
        subst CarriesValues (same_Some _ carried h) (handed_values (two_branches is (typed.ends e.block.0 i ends)))
    carried_values ending.Cases is h =
        let from = mapped_from (switched_data to (length (args_behind f (Some to)))) (first_value_of ops.given) carried h in
        subst CarriesValues from.2 (switched_values to (length (args_behind f (Some to))) from.0)
    carried_values ending.Return is h = absurd (cc)
    carried_values ending.Unreachable is h = absurd (cc)

pub typed_for_rows : AreTypedForRows
typed_for_rows m n f a w memory p i entries ops there memory_is entries_are ops_are = for_row m n f a w memory entries ops entries_are p i there memory_is ops_are

pub carry_typed_values : CarryTypedValues
carry_typed_values m n f a w memory e entries ops carried entries_are ops_are is =
    let end = found_behind (λ (i : Inst). option_and_then (λ to. carried_by (ending_of i.op) f e to ops.given) (edge_at f e)) (terminator_of f e.block.0) carried is in
    let to = found_behind (λ to. carried_by (ending_of end.0.op) f e to ops.given) (edge_at f e) carried end.2 in
    carried_values m n f a w memory entries ops entries_are e ops_are carried end.0 end.1 to.0 to.1 (ending_of end.0.op) refl to.2
