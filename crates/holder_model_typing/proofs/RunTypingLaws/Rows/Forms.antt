-- The forms of operands and of results, by the types that are written or asked at the one and given to the other.
use Rattle.std.proofs.Common.{◌≡◌, ℕ, suc, List, [], ◌∷◌, ◌++◌, length, map, refl, sym, ap, ap₂, ◌∙◌, subst, true, Option, Some, None}
use Rattle.std.specs.Prelude.{slice_get}
use Rattle.std.specs.List.{list_all, range_with_len}
use Rattle.std.specs.Option.{option_to_list}
use Rattle.std.proofs.lemmas.Bool.{and_parts}
use Rattle.std.proofs.lemmas.List.{length-map, length-replicate}
use Rattle.std.proofs.lemmas.List.FromFn.{length-map-range_with_len}
use Rattle.sil_ast.specs.declared.function.Function.{Function}
use Rattle.sil_ast.specs.declared.inst.Inst.{Inst}
use Rattle.sil_ast.specs.declared.operands.Operand.{Operand}
use Rattle.sil_ast.specs.declared.place.FuncId.{FuncId}
use Rattle.sil_ast.specs.declared.place.ValueId.{ValueId}
use Rattle.sil_ast.specs.declared.type_name.TypeName.{TypeName}
use Rattle.numbered_form.specs.Numbering.{AreCountedFrom, values_of}
use Rattle.numbered_form.specs.inner.Parts.{is_typed}
use Rattle.numbered_form.specs.PointChecks.Points.{IsAt}
use Rattle.holder_model.specs.sil_types_declarations.TypeDefinitions.Declarations.{Declarations}
use Rattle.holder_model.specs.sil_types.Typing.OperandTypes.{are_as_written, has_type, is_as_written, is_as_written_by}
use Rattle.holder_model.specs.sil_types.Typing.RowTypes.{all_written, made_types}
use Rattle.holder_model.specs.sil_types.Typing.Same.{all_pairs, is_same_type}
use Rattle.holder_model.specs.sil_types.Typing.Shapes.{target}
use Rattle.holder_model.specs.sil_types.Typing.Values.{arg_functions, arg_has, arg_types, function_at, functions_by, result_functions, result_types, type_of_value, value_functions, value_types}
use Rattle.holder_model.specs.holder_model_values.RunValues.Shapes.{shape_of}
use Rattle.holder_model.specs.RunTyping.EndForms.{value_in}
use Rattle.holder_model.specs.RunTyping.Forms.{Form, OfPlace, OfValue, form_by, form_of, form_with, forms_of}
use Rattle.holder_model_typing.proofs.RunTypingLaws.ListFacts.{slices}
use Rattle.holder_model_typing.proofs.RunTypingLaws.ShapeFacts.{same_types}
use Rattle.holder_model_typing.proofs.RunTypingLaws.Rows.Finding.{passed, some_of}
use Rattle.holder_model_typing.proofs.RunTypingLaws.Rows.Tables.{row_at, told_of_results}

-- the form of a value of this type
abbrev pub typed_form : Declarations → TypeName → Form
typed_form d t = form_with d t (target t)

pub value_form : (d : Declarations) (t : TypeName) → target t ≡ None → typed_form d t ≡ OfValue (shape_of d t)
value_form d t e = ap (form_with d t) e

pub place_form : (d : Declarations) (t inner : TypeName) → target t ≡ Some inner → typed_form d t ≡ OfPlace (shape_of d inner)
place_form d t inner e = ap (form_with d t) e

module _ (d : Declarations) (f : Function) where
  -- ---- operands

  pub asked_form : (o : Operand) (t : TypeName) → has_type (value_types d f) o t ≡ true → form_of d f (value_in o) ≡ typed_form d t
  asked_form o t e =
      let it = passed (is_same_type t) (type_of_value (value_types d f) o) e in
      ap (λ x. form_by d x (function_at (value_functions f) o.value.0)) (it.1 ∙ ap Some (sym (same_types t it.0 it.2)))

  pub written_form : (o : Operand) (t : TypeName) → o.ty ≡ Some t → is_as_written (value_types d f) o ≡ true → form_of d f (value_in o) ≡ typed_form d t
  written_form o t e h = asked_form o t (subst (λ x. is_as_written_by (value_types d f) o x ≡ true) e h)

  pub written_forms : (os : List Operand) → list_all is_typed os ≡ true → are_as_written (value_types d f) os ≡ true
      → forms_of d f (map value_in os) ≡ map (typed_form d) (all_written os)
  written_forms [] typed h = refl
  written_forms (o ∷ os) typed h =
      let all = and_parts (is_typed o) (list_all is_typed os) typed in
      let kept = and_parts (is_as_written (value_types d f) o) (are_as_written (value_types d f) os) h in
      let it = some_of o.ty all.0 in
      ap₂ (λ x y. x ∷ y) (written_form o it.0 it.1 kept.0) (written_forms os all.1 kept.1)
      ∙ ap (λ x. map (typed_form d) (option_to_list x ++ all_written os)) (sym it.1)

  pub asked_forms : (os : List Operand) (ts : List TypeName) → all_pairs (has_type (value_types d f)) os ts ≡ true → forms_of d f (map value_in os) ≡ map (typed_form d) ts
  asked_forms [] [] h = refl
  asked_forms [] (t ∷ ts) h = absurd (cc)
  asked_forms (o ∷ os) [] h = absurd (cc)
  asked_forms (o ∷ os) (t ∷ ts) h =
      let both = and_parts (has_type (value_types d f) o t) (all_pairs (has_type (value_types d f)) os ts) h in
      ap₂ (λ x y. x ∷ y) (asked_form o t both.0) (asked_forms os ts both.1)

  -- ---- results

  pub functions_level : (g : Option FuncId) (vs : List ValueId) → length (functions_by g vs) ≡ length vs
  functions_level g [] = refl
  functions_level g (v ∷ vs) = ap suc (length-replicate (length vs) None)

  module _ (counted : AreCountedFrom 0 (values_of f.blocks)) where
    pub types_of_results : (block index : ℕ) (i : Inst) → IsAt f block index i → map (row_at None (value_types d f)) i.results ≡ result_types d i
    types_of_results =
        told_of_results arg_types (result_types d) (λ n xs. length-map xs arg_has) (λ i. length-map-range_with_len (slice_get (made_types d i)) 0 (length i.results)) None f counted

    pub functions_of_results : (block index : ℕ) (i : Inst) → IsAt f block index i → map (row_at None (value_functions f)) i.results ≡ result_functions i
    functions_of_results = told_of_results arg_functions result_functions (λ n xs. length-replicate (length xs) None) (λ i. functions_level i.function i.results) None f counted

    -- the form of the one result, by the types that the row gives
    pub one_form : (block index : ℕ) (i : Inst) → IsAt f block index i → (v : ValueId) → i.results ≡ v ∷ []
        → forms_of d f i.results ≡ form_by d (slice_get (made_types d i) 0) i.function ∷ []
    one_form block index i here v e = at i.results e (types_of_results block index i here) (functions_of_results block index i here)
      where
        of_one : map (row_at None (value_types d f)) (v ∷ []) ≡ map (slice_get (made_types d i)) (range_with_len 0 1)
            → map (row_at None (value_functions f)) (v ∷ []) ≡ functions_by i.function (v ∷ [])
            → forms_of d f (v ∷ []) ≡ form_by d (slice_get (made_types d i) 0) i.function ∷ []
        of_one t g =
            let ty : row_at None (value_types d f) v ≡ slice_get (made_types d i) 0 = cc in
            let function : row_at None (value_functions f) v ≡ i.function = cc in
            ap₂ (λ x y. form_by d x y ∷ []) ty function

        at : (vs : List ValueId) → vs ≡ v ∷ [] → map (row_at None (value_types d f)) vs ≡ map (slice_get (made_types d i)) (range_with_len 0 (length vs))
            → map (row_at None (value_functions f)) vs ≡ functions_by i.function vs → forms_of d f vs ≡ form_by d (slice_get (made_types d i) 0) i.function ∷ []
        at vs e t g =
            subst (λ x. forms_of d f x ≡ form_by d (slice_get (made_types d i) 0) i.function ∷ []) (sym e)
            (of_one (subst (λ x. map (row_at None (value_types d f)) x ≡ map (slice_get (made_types d i)) (range_with_len 0 (length x))) e t)
            (subst (λ x. map (row_at None (value_functions f)) x ≡ functions_by i.function x) e g))

    -- the forms of all results, where there are as many as types that the row gives
    pub list_forms : (block index : ℕ) (i : Inst) → IsAt f block index i → (ts : List TypeName) → made_types d i ≡ ts → length i.results ≡ length ts
        → forms_of d f i.results ≡ map (typed_form d) ts
    list_forms block index i here ts made count =
        by_types i.results ts
        (types_of_results block index i here ∙ ap₂ (λ us n. map (slice_get us) (range_with_len 0 n)) made count ∙ slices [] ts)
      where
        by_types : (vs : List ValueId) (us : List TypeName) → map (row_at None (value_types d f)) vs ≡ map (λ t. Some t) us → forms_of d f vs ≡ map (typed_form d) us
        by_types [] [] e = refl
        by_types [] (u ∷ us) e = absurd (cc)
        by_types (v ∷ vs) [] e = absurd (cc)
        by_types (v ∷ vs) (u ∷ us) e =
            let first : row_at None (value_types d f) v ≡ Some u = cc in
            let rest : map (row_at None (value_types d f)) vs ≡ map (λ t. Some t) us = cc in
            ap₂ (λ x y. x ∷ y) (ap (λ x. form_by d x (function_at (value_functions f) v.0)) first) (by_types vs us rest)
