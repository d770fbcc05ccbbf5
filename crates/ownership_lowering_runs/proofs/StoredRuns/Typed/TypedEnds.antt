-- Terminators of typed frames: what their items take is no address.
use Rattle.std.proofs.Common.{◌≡◌, ℕ, zero, suc, ◌<◌, List, [], ◌∷◌, ◌++◌, append-nil, length, map, arith, refl, sym, ap, ◌∙◌, subst, Bool, true, false, Some, None}
use Rattle.std.specs.Prelude.{◌==◌, ◌&&◌, if◌then◌else◌, is_none, is_some, not, slice_get}
use Rattle.std.specs.List.{list_all}
use Rattle.std.proofs.lemmas.Bool.{and_parts, eqb-true, false≢true}
use Rattle.std.proofs.lemmas.List.{map-append}
use Rattle.std.proofs.lemmas.Option.{none-some, same_Some, slice_get_within}
use Rattle.instruction_table.specs.Forms.{ending_of}
use Rattle.instruction_table.specs.declared.entries.Ending.{Ending}
use Rattle.instruction_table.specs.declared.entries.Ending.TheVariants as ending
use Rattle.instruction_table.specs.declared.op.Op.{Op}
use Rattle.instruction_table.specs.declared.op.Op.TheVariants as op
use Rattle.sil_cfg_items.specs.Items.{item_taken, taken_along_in, taken_in}
use Rattle.sil_cfg_items.specs.Parts.{edge_at, edge_in, inst_at, terminator_of}
use Rattle.sil_cfg_items.specs.Roles.{consumed, taken_along, taken_by}
use Rattle.numbered_form.specs.Lists.{Each, is_empty}
use Rattle.numbered_form.proofs.Lists.{empty_is}
use Rattle.numbered_form.specs.inner.Parts.{are_cases, are_edges_by, has_operands, is_branch, is_case, is_default}
use Rattle.holder_model_values.specs.RunValues.Shapes.{Shape}
use Rattle.sil_ast.specs.declared.function.Function.{Function}
use Rattle.sil_ast.specs.declared.inst.Edge.{Edge}
use Rattle.sil_ast.specs.declared.inst.Inst.{Inst}
use Rattle.sil_ast.specs.declared.module.Module.{Module}
use Rattle.sil_ast.specs.declared.operands.Operand.{Operand}
use Rattle.sil_ast.specs.declared.place.EdgeId.{EdgeId}
use Rattle.sil_ast.specs.declared.place.PointId.{PointId}
use Rattle.sil_ast.specs.declared.place.ValueId.{ValueId}
use Rattle.sil_cfg.specs.declared.item.Item.{Item}
use Rattle.sil_cfg.specs.declared.item.Item.TheVariants as item
use Rattle.sil_types_declarations.specs.TypeDefinitions.Declarations.{Declarations, declarations_of}
use Rattle.sil_verifier_runs.specs.sil_verifier_trails.RunTrails.inner.RunTrails.{ComesAt}
use Rattle.sil_verifier_runs.proofs.sil_verifier_trails.AcceptedTrails.Unbroken.{are_accepted}
use Rattle.sil_verifier_runs.proofs.sil_verifier_trails.RunTrails.RunPaths.{are_trails}
use Rattle.sil_verifier_runs.proofs.sil_verifier_trails.RunTrails.WalkEdges.{are_next}
use Rattle.sil_verifier_runs.specs.sil_verifier_values.inner.Known.{IsAcceptedBody}
use Rattle.sil_verifier_runs.proofs.sil_verifier_values.Branches.{known_end}
use Rattle.sil_verifier_runs.proofs.sil_verifier_values.Made.{items_of}
use Rattle.ownership_lowering_laws.proofs.holder_model_typing.RunTypingLaws.ListFacts.{get_below}
use Rattle.ownership_lowering_laws.specs.holder_model_typing.OwnedRunTyping.inner.OwnedEnds.{OwnedEndForms}
use Rattle.ownership_lowering_laws.specs.holder_model_typing.OwnedRunTyping.inner.OwnedTyped.{OwnedFunction}
use Rattle.sil_verifier_runs.specs.holder_model.RunTyping.EndForms.{EdgeForms, EndForms, handed_over, value_in}
use Rattle.sil_verifier_runs.specs.holder_model.RunTyping.Forms.{Form, OfValue, form_of, forms_of}
use Rattle.sil_verifier_runs.specs.holder_model.Data.{Datum}
use Rattle.sil_verifier_runs.specs.holder_model.Frames.{Frame}
use Rattle.sil_verifier_runs.specs.holder_model.HolderStates.{HolderState}
use Rattle.sil_verifier_runs.specs.holder_model.ModuleFacts.{facts_of, facts_told}
use Rattle.sil_verifier_runs.specs.holder_model.Standing.{stands_at}
use Rattle.sil_verifier_runs.specs.holder_model.LoweredRun.LowStepParts.{taken_value}
use Rattle.sil_verifier_runs.specs.sil_verifier_frames.inner.Typed.TypedStates.{FrameIs}
use Rattle.ownership_lowering_laws.specs.holder_model_typing.TypedMemory.inner.Worlds.{DatumIs, World}
use Rattle.sil_verifier_runs.proofs.sil_verifier_frames.Typed.Entries.{FitEach, operands_fit}
use Rattle.sil_verifier_runs.proofs.sil_verifier_frames.Typed.GoesOn.{typed_module}
use Rattle.ownership_lowering_runs.specs.StoredRuns.inner.EndsAlong.{ComesPlain}
use Rattle.ownership_lowering_runs.specs.StoredRuns.inner.Frames.{IsNoAddress}
use Rattle.ownership_lowering_runs.specs.StoredRuns.inner.TypedEnds.{AreEndsPlain}

-- ---- values by their forms

module _ (m : Module) (f : Function) where
  -- a value of an object type
  abbrev pub IsOfValue : ValueId → Type 0
  IsOfValue v = (s : Shape) × (form_of (declarations_of m) f v ≡ OfValue s)

  of_shapes : (vs : List ValueId) (shapes : List Shape) → forms_of (declarations_of m) f vs ≡ map OfValue shapes → Each IsOfValue vs
  of_shapes [] shapes e = tt
  of_shapes (v ∷ vs) [] e = absurd (cc)
  of_shapes (v ∷ vs) (s ∷ shapes) e = ((s, cc), of_shapes vs shapes (cc))

  module _ (w : World) where
    datum_plain : (form : Form) (x : Datum) (s : Shape) → DatumIs m w form x → form ≡ OfValue s → IsNoAddress x
    datum_plain _ _ s (DatumIs.value t x suits) e = refl
    datum_plain _ _ s (DatumIs.place p at) e = absurd (cc)
    datum_plain _ _ s (DatumIs.function g) e = refl

    all_plain : {vs : List ValueId} {xs : List Datum} → FitEach m w f vs xs → Each IsOfValue vs → Each IsNoAddress xs
    all_plain FitEach.none h = tt
    all_plain (FitEach.more v x vs xs fit rest) h = (datum_plain (form_of (declarations_of m) f v) x h.0.0 fit.is h.0.1, all_plain rest h.1)

no_operands : (o : Op) (os : List Operand) → ending_of o ≡ ending.Unreachable → has_operands o os ≡ true → os ≡ []
no_operands op.Unreachable [] h e = refl
no_operands op.Unreachable (x ∷ os) h e = absurd (cc)
no_operands _ os h e = absurd (cc)

none_behind : (es : List Edge) → is_empty es ≡ true → (k : ℕ) (y : Edge) → slice_get es k ≡ Some y → y.args ≡ []
none_behind [] g k y is = absurd (none-some y is)
none_behind (e ∷ es) g k y is = absurd (false≢true g)

-- a `switch_enum` hands over nothing by its edges' own arguments
pub case_bare : (es : List Edge) → are_cases es ≡ true → (k : ℕ) (y : Edge) → slice_get es k ≡ Some y → y.args ≡ []
case_bare [] e k y is = absurd (none-some y is)
case_bare (x ∷ es) e k y is = at (is_case x) refl e k is (λ h. case_bare es h)
  where
    bare_here : (b : Bool) → (b && is_empty x.args) ≡ true → x ≡ y → y.args ≡ []
    bare_here b h same = ap (λ (z : Edge). z.args) (sym same) ∙ empty_is x.args (and_parts b (is_empty x.args) h).1

    at : (b : Bool) → is_case x ≡ b → (if b then are_cases es else (is_default x && is_empty es)) ≡ true → (k : ℕ) → slice_get (x ∷ es) k ≡ Some y
        → (are_cases es ≡ true → (k : ℕ) (z : Edge) → slice_get es k ≡ Some z → z.args ≡ []) → y.args ≡ []
    at true c h zero g more = bare_here (is_some x.case_of) c (same_Some x y g)
    at true c h (suc k) g more = more h k y g
    at false c h zero g more = bare_here (is_none x.case_of) (and_parts (is_default x) (is_empty es) h).0 (same_Some x y g)
    at false c h (suc k) g more = none_behind es (and_parts (is_default x) (is_empty es) h).1 k y g

module _ (m : Module) (n : ℕ) (f : Function) (a : IsAcceptedBody m n f) (b : ℕ) (t : Inst) (ends : terminator_of f b ≡ Some t) where
  abbrev d : Declarations
  d = declarations_of m

  typed : OwnedFunction m f
  typed = (typed_module m a.verified).functions n f a.body.there

  pub edges_by : (e : Ending) → ending_of t.op ≡ e → are_edges_by e t.edges ≡ true
  edges_by e is = ap (λ x. are_edges_by x t.edges) (sym is) ∙ (known_end m n f a b t ends).parts.edges

  operands_plain : Each (IsOfValue m f) (map value_in t.operands)
  operands_plain = at (typed.ends b t ends)
    where
      forms : EndForms d f t → Each (IsOfValue m f) (map value_in t.operands)
      forms (EndForms.branch e one none first edge) = subst (λ os. Each (IsOfValue m f) (map value_in os)) (sym none) tt
      forms (EndForms.branches set clear two operands first second one other) = of_shapes m f (map value_in t.operands) (_ ∷ []) operands
      forms (EndForms.cases s cases operands is_enum taken) = of_shapes m f (map value_in t.operands) (s ∷ []) operands
      forms (EndForms.returns is operands) = of_shapes m f (map value_in t.operands) (_ ∷ []) operands
      forms (EndForms.unreachable is) =
          subst (λ os. Each (IsOfValue m f) (map value_in os)) (sym (no_operands t.op t.operands is (known_end m n f a b t ends).parts.operands)) tt

      at : OwnedEndForms d f t → Each (IsOfValue m f) (map value_in t.operands)
      at (OwnedEndForms.also_lowered others h) = forms h
      at (OwnedEndForms.cases s cases operands is_enum taken) = of_shapes m f (map value_in t.operands) (s ∷ []) operands

  args_plain : (k : ℕ) (y : Edge) → slice_get t.edges k ≡ Some y → Each (IsOfValue m f) (handed_over y)
  args_plain k y is = at (typed.ends b t ends)
    where
      within : k < length t.edges
      within = slice_get_within t.edges k y is

      given : (e : Edge) → EdgeForms d f e → e ≡ y → Each (IsOfValue m f) (handed_over y)
      given e forms same = subst (λ z. Each (IsOfValue m f) (handed_over z)) same (of_shapes m f (handed_over e) forms.shapes forms.given)

      bare : y.args ≡ [] → Each (IsOfValue m f) (handed_over y)
      bare none = subst (λ os. Each (IsOfValue m f) (map value_in os)) (sym none) tt

      only_first : (k : ℕ) → slice_get t.edges k ≡ Some y → k < 1 → (e : Edge) → slice_get t.edges 0 ≡ Some e → e ≡ y
      only_first zero g lt e first = same_Some e y (sym first ∙ g)
      only_first (suc k) g lt e first = absurd (omega arith)

      first_or_second : (k : ℕ) → slice_get t.edges k ≡ Some y → k < 2 → (set clear : Edge) → EdgeForms d f set → EdgeForms d f clear → slice_get t.edges 0 ≡ Some set
          → slice_get t.edges 1 ≡ Some clear → Each (IsOfValue m f) (handed_over y)
      first_or_second zero g lt set clear one other first second = given set one (same_Some set y (sym first ∙ g))
      first_or_second (suc zero) g lt set clear one other first second = given clear other (same_Some clear y (sym second ∙ g))
      first_or_second (suc (suc k)) g lt set clear one other first second = absurd (omega arith)

      none_there : (e : Ending) → ending_of t.op ≡ e → are_edges_by e t.edges ≡ is_empty t.edges → Each (IsOfValue m f) (handed_over y)
      none_there e is row = none t.edges (sym row ∙ edges_by e is) within
        where
          none : (es : List Edge) → is_empty es ≡ true → k < length es → Each (IsOfValue m f) (handed_over y)
          none [] h lt = absurd (omega arith)
          none (x ∷ es) h lt = absurd (cc)

      cases_bare : ending_of t.op ≡ ending.Cases → Each (IsOfValue m f) (handed_over y)
      cases_bare cases = bare (case_bare t.edges (and_parts (not (is_empty t.edges)) (are_cases t.edges) (edges_by ending.Cases cases)).1 k y is)

      forms : EndForms d f t → Each (IsOfValue m f) (handed_over y)
      forms (EndForms.branch e one none first edge) =
          let size : length t.edges ≡ 1 = eqb-true (length t.edges) 1 (and_parts (length t.edges == 1) (list_all is_branch t.edges) (edges_by ending.OneBranch one)).0 in
          given e edge (only_first k is (subst (λ j. k < j) size within) e first)
      forms (EndForms.branches set clear two operands first second one other) =
          let size : length t.edges ≡ 2 = eqb-true (length t.edges) 2 (and_parts (length t.edges == 2) (list_all is_branch t.edges) (edges_by ending.TwoBranches two)).0 in
          first_or_second k is (subst (λ j. k < j) size within) set clear one other first second
      forms (EndForms.cases s cases operands is_enum taken) = cases_bare cases
      forms (EndForms.returns is operands) = none_there ending.Return is refl
      forms (EndForms.unreachable is) = none_there ending.Unreachable is refl

      at : OwnedEndForms d f t → Each (IsOfValue m f) (handed_over y)
      at (OwnedEndForms.also_lowered others h) = forms h
      at (OwnedEndForms.cases s cases operands is_enum taken) = cases_bare cases

  each_both : (P : ValueId → Type 0) (us vs : List ValueId) → Each P us → Each P vs → Each P (us ++ vs)
  each_both P [] vs h k = k
  each_both P (u ∷ us) vs h k = (h.0, each_both P us vs h.1 k)

  along_values : (os : List Operand) → map taken_value (map consumed os) ≡ map value_in os
  along_values [] = refl
  along_values (o ∷ os) = ap (λ vs. o.value ∷ vs) (along_values os)

  operands_are : map taken_value (taken_by t) ≡ map value_in t.operands
  operands_are = typed.ends_take b t ends

  exit_plain : (p : PointId) → p.block.0 ≡ b → Each (IsOfValue m f) (map taken_value (item_taken f (item.Exit p)))
  exit_plain p same =
      subst (Each (IsOfValue m f))
      (sym (ap (λ o. map taken_value (taken_in o ++ [])) (ap (terminator_of f) same ∙ ends) ∙ ap (map taken_value) (append-nil (taken_by t)) ∙ operands_are)) operands_plain

  edge_plain : (e : EdgeId) → e.block.0 ≡ b → (y : Edge) → edge_at f e ≡ Some y → Each (IsOfValue m f) (map taken_value (item_taken f (item.Edge e)))
  edge_plain e same y is =
      let there : terminator_of f e.block.0 ≡ Some t = ap (terminator_of f) same ∙ ends in
      subst (Each (IsOfValue m f))
      (sym (ap (λ o. map taken_value (taken_in o ++ taken_along_in (edge_at f e))) there
      ∙ ap (λ o. map taken_value (taken_by t ++ taken_along_in o)) is
      ∙ map-append taken_value (taken_by t) (taken_along y)
      ∙ ap (λ vs. vs ++ map taken_value (taken_along y)) operands_are
      ∙ ap (λ vs. map value_in t.operands ++ vs) (along_values y.args)))
      (each_both (IsOfValue m f) (map value_in t.operands) (handed_over y) operands_plain
      (args_plain e.index y (ap (λ o. edge_in o e.index) (sym there) ∙ is)))

module _ (m : Module) (s : HolderState) (w : World) (frame : Frame) (f : Function) (a : IsAcceptedBody m frame.function.0 f) (is : FrameIs m w f frame)
    (at_end : inst_at f (stands_at f frame.trail) ≡ None) where
  pub takes_values : (i : Item) → ComesAt f (stands_at f frame.trail) i → Each (IsOfValue m f) (map taken_value (item_taken f i))
  takes_values item.Entry h = absurd h
  takes_values (item.Inst q) h = absurd (none-some h.1 (sym at_end ∙ h.2))
  takes_values (item.Edge e) h =
      let end = h.1.at_end in
      let y = get_below end.terminator.edges e.index h.1.has_edge in
      edge_plain m frame.function.0 f a (stands_at f frame.trail).block.0 end.terminator end.there e (ap (λ (k : _). k.0) h.0) y.0
      (ap (λ o. edge_in o e.index) (ap (λ (k : _). terminator_of f k.0) h.0 ∙ end.there) ∙ y.1)
  takes_values (item.Exit q) h =
      exit_plain m frame.function.0 f a (stands_at f frame.trail).block.0 h.1.at_end.terminator h.1.at_end.there q (ap (λ (k : PointId). k.block.0) h.0)

  comes_plain : (i : Item) → ComesAt f (stands_at f frame.trail) i → ComesPlain m s frame f i
  comes_plain i comes = record {
    trail = are_trails f (are_accepted m frame.function.0 f a.verified a.body).once (i ∷ frame.trail) (are_next f frame.trail i is.goes comes, is.trail);
    plain = λ ops found.
        all_plain m f w
        (operands_fit m w f (λ v. facts_told (facts_of m) frame.function v) s.memory (item_taken f i) frame.entries ops is.entries (items_of m frame.function.0 f a i).taken found).0
        (takes_values i comes);
  }

pub are_ends_plain : AreEndsPlain
are_ends_plain m s w frame f a is at_end i comes = comes_plain m s w frame f a is at_end i comes
