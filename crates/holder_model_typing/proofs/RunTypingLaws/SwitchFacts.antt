-- Each case of an enum has its edge in a `switch_enum`, and the edge's block takes the payload.
use Rattle.std.proofs.Common.{◌≡◌, ℕ, zero, suc, ◌<◌, ◌≤◌, List, [], ◌∷◌, length, map, get_or, zero-add, refl, sym, ap, ap₂, ◌∙◌, subst, arith, Bool, true, false, ◌⊎◌, inl, inr, Option, Some, None}
use Rattle.std.specs.Prelude.{◌&&◌, ◌||◌, ◌==◌, cond, is_none, is_some, nat_lt, option_and_then, option_map, position, slice_get, unwrap_or, if◌then◌else◌}
use Rattle.std.specs.List.{cons_option, filter_map, list_all, list_any, position_or_len, range_with_len}
use Rattle.std.specs.Option.{option_or, option_to_list}
use Rattle.std.proofs.lemmas.Bool.{eq-eqb, eqb-true, ltb-false}
use Rattle.std.proofs.lemmas.List.Folds.{list_any_none}
use Rattle.std.proofs.lemmas.List.Sums.{fails_before_first}
use Rattle.std.proofs.lemmas.List.FromFn.{get_or-range_with_len, length-range_with_len}
use Rattle.std.proofs.lemmas.List.Quantifiers.{position-Some}
use Rattle.std.proofs.lemmas.Option.{slice_get-get_or}
use Rattle.holder_model.specs.Edges.{edge_for, is_at, is_default, is_for}
use Rattle.holder_model.specs.ModuleShapes.{case_place}
use Rattle.numbered_form.specs.Lists.{is_empty}
use Rattle.numbered_form.specs.inner.Parts.{are_cases, is_case, is_default as is_default_edge}
use Rattle.holder_model.specs.holder_model_values.RunValues.Layers.{CaseLayer}
use Rattle.holder_model.specs.holder_model_values.RunValues.Shapes.{Shape, case_shapes, shape_of}
use Rattle.sil_ast.specs.Blocks.{args_of}
use Rattle.sil_ast.specs.declared.function.BlockArg.{BlockArg}
use Rattle.sil_ast.specs.declared.function.Form.TheVariants as form
use Rattle.sil_ast.specs.declared.function.Function.{Function}
use Rattle.sil_ast.specs.declared.inst.Edge.{Edge}
use Rattle.sil_ast.specs.declared.inst.Inst.{Inst}
use Rattle.sil_ast.specs.declared.member.Member.{Member}
use Rattle.sil_ast.specs.declared.module.Module.{Module}
use Rattle.sil_ast.specs.declared.type_name.TypeName.{TypeName}
use Rattle.holder_model.specs.sil_types.Typing.Same.{are_same_types}
use Rattle.holder_model.specs.sil_types.Typing.Shapes.{case_count, case_in, is_enum}
use Rattle.holder_model.specs.sil_types.Typing.SwitchRules.{are_all_there, case_of_edge, fits_case, fits_default, fits_payload, has_number, is_default_argument, is_of_enum, leaves_out_case}
use Rattle.holder_model.specs.sil_types.Typing.SwitchRules.{misfits_default, misfits_payload, names_other_case, place_in_enum, places_of, repeats_case, shares_block, switches_wrongly}
use Rattle.holder_model.specs.sil_types.Typing.Values.{arg_type}
use Rattle.holder_model.specs.sil_types_declarations.TypeDefinitions.Declarations.{Declarations, declarations_of}
use Rattle.holder_model.specs.sil_types_declarations.TypeDefinitions.Lookups.{Payload}
use Rattle.holder_model.specs.RunTyping.EndForms.{CaseForms, TakenCase, arguments_at, payload_forms}
use Rattle.holder_model.specs.RunTyping.Forms.{OfValue, forms_of}
use Rattle.holder_model_typing.specs.RunTypingLaws.inner.WellTyped.{IsWellTyped}
use Rattle.holder_model_typing.proofs.RunTypingLaws.BlockFacts.{block_forms, block_there}
use Rattle.holder_model_typing.proofs.RunTypingLaws.FunctionFacts.{TypedFunction, TypedInst}
use Rattle.holder_model_typing.proofs.RunTypingLaws.Found.{both_first, both_second, neither_first, neither_second, not_false}
use Rattle.holder_model_typing.proofs.RunTypingLaws.ListFacts.{or_second}
use Rattle.numbered_form.proofs.Lists.{empty_is}
use Rattle.holder_model_typing.proofs.RunTypingLaws.MemberFacts.{case_found, cases_counted}
use Rattle.holder_model_typing.proofs.RunTypingLaws.Rows.Finding.{fails_at, passes_at, some_of}
use Rattle.holder_model_typing.proofs.RunTypingLaws.SameFacts.{same_type_lists}

-- what is found in lists

-- the first that passes, or none does
pub data Found {A : Type 0} (test : A → Bool) (xs : List A) : Type 0 where
  found : (j : ℕ) (x : A) → position test xs ≡ Some j → slice_get xs j ≡ Some x → test x ≡ true → Found test xs
  missed : position test xs ≡ None → list_any test xs ≡ false → Found test xs

not_found : {A : Type 0} (test : A → Bool) (xs : List A) → position test xs ≡ None → list_any test xs ≡ false
not_found {A} test xs e = at (nat_lt (position_or_len test xs) (length xs)) refl e
  where
    at : (b : Bool) → nat_lt (position_or_len test xs) (length xs) ≡ b → cond b (Some (position_or_len test xs)) None ≡ None → list_any test xs ≡ false
    at true is e = cc
    at false is e =
        let past : length xs ≤ position_or_len test xs = ltb-false (position_or_len test xs) (length xs) is in
        list_any_none test xs (λ k d lt. fails_before_first test xs k d (omega arith))

pub look_for : {A : Type 0} (test : A → Bool) (xs : List A) → Found test xs
look_for test [] = missed refl refl
look_for {A} test (x ∷ xs) = at (position test (x ∷ xs)) refl
  where
    at : (o : Option ℕ) → position test (x ∷ xs) ≡ o → Found test (x ∷ xs)
    at None e = missed e (not_found test (x ∷ xs) e)
    at (Some j) e =
        let there = position-Some test (x ∷ xs) j x e in
        found j (get_or (x ∷ xs) j x) e (slice_get-get_or (x ∷ xs) j x there.0) there.1

-- what passes among those that are kept is made of an element
pub kept_from : {A B : Type 0} (g : A → Option B) (test : B → Bool) (xs : List A) → list_any test (filter_map g xs) ≡ true →
    (j : ℕ) × (x : A) × (y : B) × (slice_get xs j ≡ Some x) × (g x ≡ Some y) × (test y ≡ true)
kept_from g test [] e = cc
kept_from {A} {B} g test (x ∷ xs) e = at (g x) refl e (λ h. kept_from g test xs h)
  where
    at : (o : Option B) → g x ≡ o → list_any test (cons_option o (filter_map g xs)) ≡ true
        → (list_any test (filter_map g xs) ≡ true → (j : ℕ) × (z : A) × (y : B) × (slice_get xs j ≡ Some z) × (g z ≡ Some y) × (test y ≡ true))
        → (j : ℕ) × (z : A) × (y : B) × (slice_get (x ∷ xs) j ≡ Some z) × (g z ≡ Some y) × (test y ≡ true)
    at None is e behind = let h = behind e in (suc h.0, h.1, h.2, h.3, h.4, h.5)
    at (Some y) is e behind = by (test y) refl e
      where
        by : (b : Bool) → test y ≡ b → (b || list_any test (filter_map g xs)) ≡ true → (j : ℕ) × (z : A) × (y : B) × (slice_get (x ∷ xs) j ≡ Some z) × (g z ≡ Some y) × (test y ≡ true)
        by true t e = (0, x, y, refl, is, t)
        by false t e = let h = behind e in (suc h.0, h.1, h.2, h.3, h.4, h.5)

-- edges

-- a case or a default hands nothing over
pub bare_at : (es : List Edge) (j : ℕ) (e : Edge) → are_cases es ≡ true → slice_get es j ≡ Some e → e.args ≡ []
bare_at [] j e cases is = cc
bare_at (x ∷ es) j e cases is = at (is_case x) refl cases j is (λ k more at. bare_at es k e more at)
  where
    same_args : x ≡ e → is_empty x.args ≡ true → e.args ≡ []
    same_args same none = ap (λ y. y.args) (sym same) ∙ empty_is x.args none

    at : (b : Bool) → is_case x ≡ b → (if b then are_cases es else (is_default_edge x && is_empty es)) ≡ true → (j : ℕ) → slice_get (x ∷ es) j ≡ Some e →
        ((k : ℕ) → are_cases es ≡ true → slice_get es k ≡ Some e → e.args ≡ []) → e.args ≡ []
    at true case more zero is behind = same_args (cc) (both_second (is_some x.case_of) (is_empty x.args) case)
    at true case more (suc k) is behind = behind k more is
    at false case more zero is behind = same_args (cc) (both_second (is_none x.case_of) (is_empty x.args) (both_first (is_default_edge x) (is_empty es) more))
    at false case more (suc k) is behind =
        let none : slice_get es k ≡ None = ap (λ ys. slice_get ys k) (empty_is es (both_second (is_default_edge x) (is_empty es) more)) in
        cc

-- 209, part by part
pub record SwitchKept (m : Module) (f : Function) (t : TypeName) (es : List Edge) : Type 0 where
  pub of_enum : list_all (is_of_enum (declarations_of m) t) es ≡ true
  pub all_there : are_all_there (declarations_of m) t es ≡ true
  pub cases : list_all (fits_case (declarations_of m) f t) es ≡ true
  pub defaults : list_all (fits_default f t) es ≡ true

pub switch_kept : (m : Module) (f : Function) (t : TypeName) (es : List Edge) → switches_wrongly (declarations_of m) f es (Some t) ≡ false → SwitchKept m f t es
switch_kept m f t es right =
    let five = neither_first _ (misfits_default f t es) right in
    let four = neither_first _ (misfits_payload (declarations_of m) f t es) five in
    let three = neither_first _ (shares_block f es) four in
    let two = neither_first _ (leaves_out_case (declarations_of m) t es) three in
    record {
      of_enum = not_false _ (neither_first _ (repeats_case (declarations_of m) t es) two);
      all_there = not_false _ (neither_second (names_other_case (declarations_of m) t es || repeats_case (declarations_of m) t es) _ three);
      cases = not_false _ (neither_second (names_other_case (declarations_of m) t es || repeats_case (declarations_of m) t es || leaves_out_case (declarations_of m) t es || shares_block f es) _ five);
      defaults = not_false _ (neither_second (names_other_case (declarations_of m) t es || repeats_case (declarations_of m) t es || leaves_out_case (declarations_of m) t es || shares_block f es
          || misfits_payload (declarations_of m) f t es) _ right);
    }

payload_forms_of : (d : Declarations) (t : Option TypeName) → map OfValue (map (shape_of d) (option_to_list t)) ≡ payload_forms (option_map (shape_of d) t)
payload_forms_of d None = refl
payload_forms_of d (Some t) = refl

-- an edge whose member is a case of the enum: the place by name is that of the type's case
record IsEdgeOf (m : Module) (t : TypeName) (e : Edge) (k : ℕ) : Type 0 where
  payload : Payload
  case_is : case_of_edge (declarations_of m) t e ≡ Some payload
  place : case_place (shape_of (declarations_of m) t) e.case_of ≡ Some k
  layer : CaseLayer Shape
  there : slice_get (case_shapes (shape_of (declarations_of m) t)) k ≡ Some layer
  holds : layer.payload ≡ option_map (shape_of (declarations_of m)) payload.ty

edge_of_case : (m : Module) → IsWellTyped m → (t : TypeName) (e : Edge) (p : Payload) → case_of_edge (declarations_of m) t e ≡ Some p → IsEdgeOf m t e p.place
edge_of_case m r t e p is = at e.case_of refl is
  where
    at : (named : Option Member) → e.case_of ≡ named → option_and_then (λ n. case_in (declarations_of m) n t) named ≡ Some p → IsEdgeOf m t e p.place
    at None names h = cc
    at (Some named) names h =
        let found = case_found m r named t p h in
        record {
          payload = p;
          case_is = is;
          place = ap (case_place (shape_of (declarations_of m) t)) names ∙ found.1;
          layer = found.0;
          there = found.2;
          holds = found.3;
        }

-- the edge of a default, whose block takes nothing, or the enum where its form allows it
pub record DefaultEdge (m : Module) (f : Function) (t : TypeName) (e : Edge) : Type 0 where
  pub default : is_default e ≡ true
  pub block : e.block.0 < length f.blocks
  pub bare : e.args ≡ []
  pub forms : forms_of (declarations_of m) f (arguments_at f e) ≡ map OfValue (map (shape_of (declarations_of m)) (map arg_type (args_of f e.block.0)))
  pub takes : is_default_argument f.form t (args_of f e.block.0) ≡ true

module _ (m : Module) (r : IsWellTyped m) (f : Function) (typed : TypedFunction m f) (i : Inst) (here : TypedInst m f i) (t : TypeName)
    (cases : are_cases i.edges ≡ true) (kept : SwitchKept m f t i.edges) (enum : is_enum (declarations_of m) t ≡ true) where
  -- the edge that a case of the enum takes: its own, or the default
  pub record ChosenEdge (k : ℕ) (c : CaseLayer Shape) : Type 0 where
    pub edge : ℕ
    pub chosen : edge_for (shape_of (declarations_of m) t) i.edges k ≡ Some edge
    pub to : Edge
    pub there : slice_get i.edges edge ≡ Some to
    pub how : CaseForms (declarations_of m) f c to ⊎ DefaultEdge m f t to

  -- the edge of a case
  case_forms : (k j : ℕ) (e : Edge) (c : CaseLayer Shape) → slice_get i.edges j ≡ Some e → slice_get (case_shapes (shape_of (declarations_of m) t)) k ≡ Some c → IsEdgeOf m t e k →
      CaseForms (declarations_of m) f c e
  case_forms k j e c at there of_case =
      let same : of_case.layer ≡ c = let one = of_case.there in cc in
      let fits : are_same_types (map arg_type (args_of f e.block.0)) (option_to_list of_case.payload.ty) ≡ true =
      both_first _ true (ap (λ o. list_all (fits_payload f e) (option_to_list o)) (sym of_case.case_is) ∙ passes_at (fits_case (declarations_of m) f t) i.edges j e kept.cases at) in
      let types : map arg_type (args_of f e.block.0) ≡ option_to_list of_case.payload.ty = same_type_lists _ _ fits in
      record {
        block = block_there m f typed i here j e at;
        bare = bare_at i.edges j e cases at;
        payload = λ other.
            block_forms m f typed i here j e at
            ∙ ap (λ ts. map OfValue (map (shape_of (declarations_of m)) ts)) types
            ∙ payload_forms_of (declarations_of m) of_case.payload.ty
            ∙ ap payload_forms (sym of_case.holds ∙ ap (λ l. l.payload) same);
        nothing = λ default. absurd (named_is e of_case default);
      }
    where
      named_is : (e : Edge) → IsEdgeOf m t e k → is_default e ≡ true → ⊥
      named_is e of_case default = by e.case_of default of_case.place
        where
          by : (o : Option Member) → is_none o ≡ true → case_place (shape_of (declarations_of m) t) o ≡ Some k → ⊥
          by None none place = cc
          by (Some named) none place = cc

  default_edge : (j : ℕ) (e : Edge) → slice_get i.edges j ≡ Some e → is_default e ≡ true → DefaultEdge m f t e
  default_edge j e at default = record {
    default = default;
    block = block_there m f typed i here j e at;
    bare = bare_at i.edges j e cases at;
    forms = block_forms m f typed i here j e at;
    takes = or_second (is_some e.case_of) _ (names_none e.case_of default) (passes_at (fits_default f t) i.edges j e kept.defaults at);
  }
    where
      names_none : (o : Option Member) → is_none o ≡ true → is_some o ≡ false
      names_none None h = refl
      names_none (Some x) h = cc

  -- an edge that is found by the case's name
  named_edge : (k j : ℕ) (e : Edge) → slice_get i.edges j ≡ Some e → is_for (shape_of (declarations_of m) t) k e ≡ true → IsEdgeOf m t e k
  named_edge k j e at is = of_name e.case_of refl
    where
      of_enum : is_of_enum (declarations_of m) t e ≡ true
      of_enum = passes_at (is_of_enum (declarations_of m) t) i.edges j e kept.of_enum at

      at_place : (p : Payload) → case_of_edge (declarations_of m) t e ≡ Some p → IsEdgeOf m t e k
      at_place p case =
          let found = edge_of_case m r t e p case in
          let same : k ≡ p.place = eqb-true k p.place (ap (is_at k) (sym found.place) ∙ is) in
          subst (IsEdgeOf m t e) (sym same) found

      of_name : (o : Option Member) → e.case_of ≡ o → IsEdgeOf m t e k
      of_name None names = let none : false ≡ true = ap (λ o. is_at k (case_place (shape_of (declarations_of m) t) o)) (sym names) ∙ is in cc
      of_name (Some named) names =
          let other : is_default e ≡ false = ap is_none names in
          let case = some_of (case_of_edge (declarations_of m) t e) (or_second (is_default e) _ other of_enum) in
          at_place case.0 case.1

  -- a case that no edge names has a default
  has_default : (k : ℕ) (c : CaseLayer Shape) → slice_get (case_shapes (shape_of (declarations_of m) t)) k ≡ Some c → list_any (is_for (shape_of (declarations_of m) t) k) i.edges ≡ false →
      list_any is_default i.edges ≡ true
  has_default k c there unnamed = at (list_any is_default i.edges) refl kept.all_there
    where
      met : has_number (places_of (declarations_of m) t i.edges) k ≡ true → ⊥
      met h =
          let from = kept_from (place_in_enum (declarations_of m) t) (λ q. q == k) i.edges h in
          at_edge from.0 from.1 from.2 from.3 (eqb-true from.2 k from.5) (case_of_edge (declarations_of m) t from.1) refl from.4
        where
          at_edge : (j : ℕ) (e : Edge) (q : ℕ) → slice_get i.edges j ≡ Some e → q ≡ k → (o : Option Payload) → case_of_edge (declarations_of m) t e ≡ o → option_map (λ p. p.place) o ≡ Some q → ⊥
          at_edge j e q at same None case place = cc
          at_edge j e q at same (Some p) case place =
              let found = edge_of_case m r t e p case in
              let here : p.place ≡ k = let one : p.place ≡ q = cc in one ∙ same in
              let hit : is_for (shape_of (declarations_of m) t) k e ≡ true = ap (is_at k) (found.place ∙ ap (λ n. Some n) here) ∙ eq-eqb k k refl in
              let miss : is_for (shape_of (declarations_of m) t) k e ≡ false = fails_at (is_for (shape_of (declarations_of m) t) k) i.edges j e unnamed at in
              cc

      counted : list_all (has_number (places_of (declarations_of m) t i.edges)) (range_with_len 0 (unwrap_or (case_count (declarations_of m) t) 0)) ≡ true → ⊥
      counted all =
          let n = some_of (case_count (declarations_of m) t) enum in
          let more = cases_counted m r t n.0 k c n.1 there in
          let lt : k < n.0 = let size = more.1 in omega (arith, size) in
          let long = length-range_with_len 0 n.0 in
          let stands : slice_get (range_with_len 0 n.0) k ≡ Some k =
          slice_get-get_or (range_with_len 0 n.0) k 0 (omega (arith, long, lt)) ∙ ap (λ x. Some x) (get_or-range_with_len 0 n.0 k 0 lt ∙ zero-add k) in
          let all_numbers : list_all (has_number (places_of (declarations_of m) t i.edges)) (range_with_len 0 n.0) ≡ true =
          ap (λ o. list_all (has_number (places_of (declarations_of m) t i.edges)) (range_with_len 0 (unwrap_or o 0))) (sym n.1) ∙ all in
          met (passes_at (has_number (places_of (declarations_of m) t i.edges)) (range_with_len 0 n.0) k k all_numbers stands)

      at : (b : Bool) → list_any is_default i.edges ≡ b → are_all_there (declarations_of m) t i.edges ≡ true → b ≡ true
      at true is all = refl
      at false is all = absurd (counted (or_second (list_any is_default i.edges) _ is all))

  pub edge_chosen : (k : ℕ) (c : CaseLayer Shape) → slice_get (case_shapes (shape_of (declarations_of m) t)) k ≡ Some c → ChosenEdge k c
  edge_chosen k c there = at (look_for (is_for (shape_of (declarations_of m) t) k) i.edges)
    where
      by_default : Found is_default i.edges → position (is_for (shape_of (declarations_of m) t) k) i.edges ≡ None → list_any is_default i.edges ≡ true → ChosenEdge k c
      by_default (missed none fails) first passes = cc
      by_default (found j e is stands default) first passes = record {
        edge = j;
        chosen = ap₂ option_or first is;
        to = e;
        there = stands;
        how = inr (default_edge j e stands default);
      }

      at : Found (is_for (shape_of (declarations_of m) t) k) i.edges → ChosenEdge k c
      at (found j e is stands passes) = record {
        edge = j;
        chosen = ap (λ o. option_or o (position is_default i.edges)) is;
        to = e;
        there = stands;
        how = inl (case_forms k j e c stands there (named_edge k j e stands passes));
      }
      at (missed none fails) = by_default (look_for is_default i.edges) none (has_default k c there fails)

  -- a default takes nothing in lowered code
  pub case_taken : f.form ≡ form.Lowered → (k : ℕ) (c : CaseLayer Shape) → slice_get (case_shapes (shape_of (declarations_of m) t)) k ≡ Some c
      → TakenCase (declarations_of m) f i (shape_of (declarations_of m) t) k c
  case_taken lowered k c there =
      let it = edge_chosen k c there in
      record { edge = it.edge; chosen = it.chosen; to = it.to; there = it.there; forms = by it.to it.how }
    where
      no_args : (args : List BlockArg) → is_default_argument form.Lowered t args ≡ true → args ≡ []
      no_args [] h = refl
      no_args (a ∷ []) h = cc
      no_args (a ∷ b ∷ more) h = cc

      by : (e : Edge) → CaseForms (declarations_of m) f c e ⊎ DefaultEdge m f t e → CaseForms (declarations_of m) f c e
      by e (inl forms) = forms
      by e (inr d) = record {
        block = d.block;
        bare = d.bare;
        payload = λ other. let one = d.default in cc;
        nothing = λ again. no_args (args_of f e.block.0) (ap (λ x. is_default_argument x t (args_of f e.block.0)) (sym lowered) ∙ d.takes);
      }
