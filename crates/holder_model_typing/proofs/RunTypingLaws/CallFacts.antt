-- Calls: the operands of an `apply` are a function and what the function's entry takes, and its result is what the function gives.
use Rattle.std.proofs.Common.{◌≡◌, append-nil, ℕ, zero, suc, ◌+◌, ◌<◌, List, [], ◌∷◌, ◌++◌, length, map, replicate, refl, sym, ap, ap₂, ◌∙◌, subst, arith, Bool, true, false, Option, Some, None}
use Rattle.std.specs.Prelude.{◌&&◌, ◌||◌, ◌==◌, drop, is_none, is_some, option_and_then, option_map, slice_get, unwrap_or}
use Rattle.std.specs.List.{flat_map, list_all, range_with_len}
use Rattle.std.specs.Option.{option_to_list}
use Rattle.std.proofs.lemmas.Bool.{eqb-true}
use Rattle.instruction_table.specs.Forms.{bare_operands_of, results_of}
use Rattle.instruction_table.specs.declared.op.Op.{Op}
use Rattle.instruction_table.specs.declared.op.Op.TheVariants as op
use Rattle.holder_model.specs.Effects.{effect_of}
use Rattle.holder_model.specs.Frames.{has_any}
use Rattle.numbered_form.specs.Insts.{insts_of}
use Rattle.numbered_form.specs.Lists.{is_empty}
use Rattle.numbered_form.specs.inner.Parts.{first_then, has_operands, is_bare, is_callee, is_signature, row_has}
use Rattle.numbered_form.specs.PointChecks.Points.{IsAt}
use Rattle.holder_model.specs.holder_model_values.RunValues.Shapes.{Integer, NoMember, Tuple, shape_of}
use Rattle.sil_ast.specs.declared.function.Block.{Block}
use Rattle.sil_ast.specs.declared.function.BlockArg.{BlockArg}
use Rattle.sil_ast.specs.declared.function.Function.{Function}
use Rattle.sil_ast.specs.declared.inst.Inst.{Inst}
use Rattle.sil_ast.specs.declared.module.Module.{Module}
use Rattle.sil_ast.specs.declared.operands.Operand.{Operand}
use Rattle.sil_ast.specs.declared.place.FuncId.{FuncId}
use Rattle.sil_ast.specs.declared.place.ValueId.{ValueId}
use Rattle.sil_ast.specs.declared.type_name.TypeName.{TypeName}
use Rattle.sil_ast.specs.declared.type_name.TypeName.TheVariants as type
use Rattle.holder_model.specs.sil_types.Typing.OperandTypes.{are_as_asked_by, argument_types, has_type}
use Rattle.holder_model.specs.sil_types.Typing.ResultCounts.{is_count_by}
use Rattle.holder_model.specs.sil_types.Typing.RowTypes.{given_by, gives, made_types, row_types}
use Rattle.holder_model.specs.sil_types.Typing.Same.{all_pairs}
use Rattle.holder_model.specs.sil_types.Typing.SignatureRules.{callee, callee_value, calls_no_function, calls_none_by}
use Rattle.holder_model.specs.sil_types.Typing.SignatureRules.{differs_by, differs_from_signature, has_signature_of, is_signature_of, signature_of}
use Rattle.holder_model.specs.sil_types.Typing.Values.{arg_functions, arg_has, arg_types, function_at, functions_by, result_functions, result_types, type_at, value_functions, value_types}
use Rattle.holder_model.specs.sil_types_declarations.TypeDefinitions.Declarations.{Declarations, declarations_of}
use Rattle.holder_model.specs.sil_types_declarations.TypeDefinitions.Mentions.{direct_type, given_type}
use Rattle.numbered_form.specs.ValueTables.ValueRows.{rows_from}
use Rattle.holder_model.specs.RunTyping.EndForms.{value_in}
use Rattle.holder_model.specs.RunTyping.Forms.{OfFunction, OfValue, form_by, form_of, forms_of, given_shape}
use Rattle.holder_model.specs.RunTyping.RowForms.{RowForms, calls, calls_out}
use Rattle.holder_model_typing.specs.RunTypingLaws.inner.WellTyped.{IsWellTyped}
use Rattle.holder_model_typing.proofs.RunTypingLaws.FunctionFacts.{TypedFunction, TypedInst, typed_function}
use Rattle.holder_model_typing.proofs.RunTypingLaws.Found.{both_first, not_false}
use Rattle.holder_model_typing.proofs.RunTypingLaws.ListFacts.{get_below, map_twice, maps_alike}
use Rattle.holder_model_typing.proofs.RunTypingLaws.Rows.Finding.{if_some, some_of}
use Rattle.holder_model_typing.proofs.RunTypingLaws.Rows.Layers.{target-Int}
use Rattle.holder_model_typing.proofs.RunTypingLaws.SameFacts.{same_signatures}
use Rattle.holder_model_typing.proofs.RunTypingLaws.ShapeFacts.{int_shape, tuple_shape}
use Rattle.holder_model_typing.proofs.RunTypingLaws.SignatureFacts.{entry_forms_are, given_is_value, integers_taken, nothing_given, outer_form}
use Rattle.holder_model_typing.proofs.RunTypingLaws.Rows.Forms.{asked_forms, one_form, typed_form, value_form}
use Rattle.holder_model_typing.proofs.RunTypingLaws.ValueForms.{operands_asked}

-- a value that stands for a function has no type, and the function is there

-- lists of one length that are related one by one
data Pairwise {A B : Type 0} (R : A → B → Type 0) : List A → List B → Type 0 where
  ends : Pairwise R [] []
  pair : (x : A) (y : B) (xs : List A) (ys : List B) → R x y → Pairwise R xs ys → Pairwise R (x ∷ xs) (y ∷ ys)

pair_append : {A B : Type 0} (R : A → B → Type 0) (xs us : List A) (ys vs : List B) → Pairwise R xs ys → Pairwise R us vs → Pairwise R (xs ++ us) (ys ++ vs)
pair_append R _ us _ vs ends p = p
pair_append R _ us _ vs (pair x y xs ys h rest) p = pair x y (xs ++ us) (ys ++ vs) h (pair_append R xs us ys vs rest p)

-- of a module of this many functions
abbrev IsFunctionOnly : ℕ → Option TypeName → Option FuncId → Type 0
IsFunctionOnly functions t named = (g : FuncId) → named ≡ Some g → (t ≡ None) × (g.0 < functions)

no_function : (functions : ℕ) (t : Option TypeName) → IsFunctionOnly functions t None
no_function functions t g e = cc

-- only a `function_ref` names a function
names_function : (o : Op) (d : Declarations) (i : Inst) → row_has is_callee o ≡ true → given_by o d i ≡ Some []
names_function op.FunctionRef d i e = refl
names_function _ d i e = absurd (cc)

module _ (m : Module) (f : Function) where
  first_named : (i : Inst) → TypedInst m f i → (k : ℕ) → IsFunctionOnly (length m.functions) (slice_get (made_types (declarations_of m) i) k) i.function
  first_named i typed k g e =
      let named : row_has is_callee i.op ≡ true = sym typed.parts.function ∙ ap is_some e in
      let made : made_types (declarations_of m) i ≡ [] = ap (λ o. unwrap_or o []) (names_function i.op (declarations_of m) i named) in
      (ap (λ ts. slice_get ts k) made, if_some (λ g. g.0 < length m.functions) i.function g e typed.range.function)

  others : (made : List TypeName) (from : ℕ) (vs : List ValueId) →
      Pairwise (IsFunctionOnly (length m.functions)) (map (slice_get made) (range_with_len from (length vs))) (replicate (length vs) None)
  others made from [] = ends
  others made from (v ∷ vs) = pair (slice_get made from) None _ _ (no_function (length m.functions) (slice_get made from)) (others made (from + 1) vs)

  of_results : (i : Inst) → TypedInst m f i → Pairwise (IsFunctionOnly (length m.functions)) (result_types (declarations_of m) i) (result_functions i)
  of_results i typed = at i.results
    where
      at : (vs : List ValueId) → Pairwise (IsFunctionOnly (length m.functions)) (map (slice_get (made_types (declarations_of m) i)) (range_with_len 0 (length vs))) (functions_by i.function vs)
      at [] = ends
      at (v ∷ vs) = pair (slice_get (made_types (declarations_of m) i) 0) i.function _ _ (first_named i typed 0) (others (made_types (declarations_of m) i) (0 + 1) vs)

  of_args : (n : ℕ) (args : List BlockArg) → Pairwise (IsFunctionOnly (length m.functions)) (arg_types n args) (arg_functions n args)
  of_args n [] = ends
  of_args n (a ∷ args) = pair (arg_has a) None _ _ (no_function (length m.functions) (arg_has a)) (of_args n args)

  of_insts : (is : List Inst) → ((j : ℕ) (i : Inst) → slice_get is j ≡ Some i → TypedInst m f i) →
      Pairwise (IsFunctionOnly (length m.functions)) (flat_map (result_types (declarations_of m)) is) (flat_map result_functions is)
  of_insts [] typed = ends
  of_insts (i ∷ is) typed =
      pair_append (IsFunctionOnly (length m.functions)) (result_types (declarations_of m) i) (flat_map (result_types (declarations_of m)) is) (result_functions i) (flat_map result_functions is)
      (of_results i (typed 0 i refl)) (of_insts is (λ j x at. typed (suc j) x at))

  of_blocks : (n : ℕ) (bs : List Block) → ((b : ℕ) (x : Block) → slice_get bs b ≡ Some x → (j : ℕ) (i : Inst) → slice_get (insts_of x) j ≡ Some i → TypedInst m f i) →
      Pairwise (IsFunctionOnly (length m.functions)) (rows_from arg_types (result_types (declarations_of m)) n bs) (rows_from arg_functions result_functions n bs)
  of_blocks n [] typed = ends
  of_blocks n (b ∷ bs) typed =
      pair_append (IsFunctionOnly (length m.functions)) _ _ _ _
      (pair_append (IsFunctionOnly (length m.functions)) _ _ _ _ (of_args n b.args) (of_insts (insts_of b) (typed 0 b refl)))
      (of_blocks (n + 1) bs (λ k x at. typed (suc k) x at))

  at_number : (ts : List (Option TypeName)) (gs : List (Option FuncId)) → Pairwise (IsFunctionOnly (length m.functions)) ts gs → (v : ℕ) (g : FuncId) → function_at gs v ≡ Some g
      → (type_at ts v ≡ None) × (g.0 < length m.functions)
  at_number _ _ ends v g e = cc
  at_number _ _ (pair t x ts gs h rest) zero g e = h g e
  at_number _ _ (pair t x ts gs h rest) (suc v) g e = at_number ts gs rest v g e

  pub function_only : TypedFunction m f → (v : ℕ) (g : FuncId) → function_at (value_functions f) v ≡ Some g → (type_at (value_types (declarations_of m) f) v ≡ None) × (g.0 < length m.functions)
  function_only typed v g e = at_number (value_types (declarations_of m) f) (value_functions f)
      (of_blocks 0 f.blocks (λ b x is j i at. typed.insts b j i (record { within = x; is_block = is; is_inst = at }))) v g e

-- the row of an `apply`

first_operand : (os : List Operand) → (first_then is_bare (list_all is_bare) os || (false && is_empty os)) ≡ true → (o : Operand) × (more : List Operand) × (os ≡ o ∷ more)
first_operand [] e = cc
first_operand (o ∷ os) e = (o, os, refl)

only_result : (vs : List ValueId) → (length vs == 1) ≡ true → (v : ValueId) × (vs ≡ v ∷ [])
only_result [] e = cc
only_result (v ∷ []) e = (v, refl)
only_result (v ∷ w ∷ vs) e = let none : length (v ∷ w ∷ vs) ≡ 1 = eqb-true (length (v ∷ w ∷ vs)) 1 e in absurd (omega arith)

module _ (m : Module) (r : IsWellTyped m) (n : ℕ) (f : Function) (is_function : slice_get m.functions n ≡ Some f) (block index : ℕ) (i : Inst) (at : IsAt f block index i)
    (call : i.op ≡ op.Apply) where
  typed : TypedFunction m f
  typed = typed_function m r n f is_function

  here : TypedInst m f i
  here = typed.insts block index i at

  -- what is called, and how
  pub record Called : Type 0 where
    pub value : Operand
    pub handed : List Operand
    pub operands : i.operands ≡ value ∷ handed
    pub named : FuncId
    pub stands_for : function_at (value_functions f) value.value.0 ≡ Some named
    pub body : Function
    pub there : slice_get m.functions named.0 ≡ Some body
    pub told : i.signature ≡ Some body.signature

  pub called : Called
  unfolding calls_no_function differs_from_signature
  called =
      let os = first_operand i.operands (ap (λ x. has_operands x i.operands) (sym call) ∙ here.parts.operands) in
      let first : slice_get i.operands 0 ≡ Some os.0 = ap (λ xs. slice_get xs 0) os.2 in
      let calls_one : is_none (callee (value_functions f) i) ≡ false = ap (λ x. calls_none_by x (value_functions f) i) (sym call) ∙ here.callee in
      let found = not_none (callee (value_functions f) i) calls_one in
      let stands : function_at (value_functions f) os.0.value.0 ≡ Some found.0 = ap (option_and_then (callee_value (value_functions f))) (sym first) ∙ found.1 in
      let body = get_below m.functions found.0.0 (function_only m f typed os.0.value.0 found.0 stands).1 in
      let signature = some_of i.signature (here.parts.signature ∙ ap (row_has is_signature) call) in
      let kept : has_signature_of m (callee (value_functions f) i) i ≡ true =
      not_false _ (ap (λ x. differs_by x m f (value_functions f) i) (sym call) ∙ here.signature) in
      let tests : (is_signature_of (Some body.0.signature) signature.0 && true) ≡ true =
      ap (λ o. is_signature_of (option_map (λ g. g.signature) o) signature.0 && true) (sym body.1)
      ∙ ap₂ (λ o s. list_all (is_signature_of (option_and_then (signature_of m) o)) (option_to_list s)) (sym found.1) (sym signature.1)
      ∙ kept in
      let same : signature.0 ≡ body.0.signature = same_signatures signature.0 body.0.signature (both_first _ true tests) in
      record {
        value = os.0;
        handed = os.1;
        operands = os.2;
        named = found.0;
        stands_for = stands;
        body = body.0;
        there = body.1;
        told = signature.1 ∙ ap (λ s. Some s) same;
      }
    where
      not_none : {A : Type 0} (o : Option A) → is_none o ≡ false → (x : A) × (o ≡ Some x)
      not_none None e = cc
      not_none (Some x) e = (x, refl)

  body_typed : TypedFunction m called.body
  body_typed = typed_function m r called.named.0 called.body called.there

  operand_forms_are : forms_of (declarations_of m) f (map value_in i.operands) ≡ OfFunction called.named ∷ map (typed_form (declarations_of m)) (argument_types called.body.signature)
  operand_forms_are =
      let asked : all_pairs (has_type (value_types (declarations_of m) f)) called.handed (argument_types called.body.signature ++ []) ≡ true =
      ap₂ (λ os s. all_pairs (has_type (value_types (declarations_of m) f)) (drop 1 os) (flat_map argument_types (option_to_list s))) (sym called.operands) (sym called.told)
      ∙ ap (λ x. are_as_asked_by (bare_operands_of x) (value_types (declarations_of m) f) i) (sym call)
      ∙ operands_asked m f i here in
      let first : form_of (declarations_of m) f called.value.value ≡ OfFunction called.named =
      ap₂ (form_by (declarations_of m)) (function_only m f typed called.value.value.0 called.named called.stands_for).0 called.stands_for in
      ap (λ os. forms_of (declarations_of m) f (map value_in os)) called.operands
      ∙ ap₂ (λ x xs. x ∷ xs) first
      (asked_forms (declarations_of m) f called.handed (argument_types called.body.signature ++ []) asked
      ∙ ap (map (typed_form (declarations_of m))) (append-nil (argument_types called.body.signature)))

  result_forms_are : forms_of (declarations_of m) f i.results ≡ OfValue (given_shape (declarations_of m) called.body) ∷ []
  result_forms_are =
      let one = only_result i.results (ap (λ x. is_count_by (results_of x) (row_types (declarations_of m) i) (length i.results)) (sym call) ∙ here.results) in
      let made : slice_get (made_types (declarations_of m) i) 0 ≡ Some (given_type called.body.signature) =
      ap (λ x. slice_get (unwrap_or (given_by x (declarations_of m) i) []) 0) call
      ∙ ap (λ s. slice_get (unwrap_or (gives (option_map given_type s)) []) 0) called.told in
      one_form (declarations_of m) f typed.numbered.values block index i at one.0 one.1
      ∙ ap (λ t. form_by (declarations_of m) t i.function ∷ []) made
      ∙ ap (λ x. x ∷ []) (value_form (declarations_of m) (given_type called.body.signature) (given_is_value m called.body body_typed))

  integer_forms : (widths : List ℕ) → map (typed_form (declarations_of m)) (map type.Int widths) ≡ map (λ w. OfValue (Integer w)) widths
  integer_forms widths =
      map_twice (typed_form (declarations_of m)) type.Int widths
      ∙ maps_alike (λ w. typed_form (declarations_of m) (type.Int w)) (λ w. OfValue (Integer w)) widths
      (λ k w at. value_form (declarations_of m) (type.Int w) (target-Int w) ∙ ap OfValue (int_shape m w))

  pub call_row : RowForms m i (forms_of (declarations_of m) f (map value_in i.operands)) (forms_of (declarations_of m) f i.results)
  call_row =
      subst (λ xs. RowForms m i xs (forms_of (declarations_of m) f i.results)) (sym operand_forms_are)
      (subst (λ ys. RowForms m i (OfFunction called.named ∷ map (typed_form (declarations_of m)) (argument_types called.body.signature)) ys) (sym result_forms_are)
      (by (has_any called.body.blocks) refl))
    where
      by : (some : Bool) → has_any called.body.blocks ≡ some
          → RowForms m i (OfFunction called.named ∷ map (typed_form (declarations_of m)) (argument_types called.body.signature)) (OfValue (given_shape (declarations_of m) called.body) ∷ [])
      by true some =
          subst (λ xs. RowForms m i (OfFunction called.named ∷ xs) (OfValue (given_shape (declarations_of m) called.body) ∷ [])) (entry_forms_are m called.body body_typed some)
          (calls called.named called.body (ap effect_of call) called.there some)
      by false none =
          let outer = outer_form m called.body body_typed none in
          let taken = integers_taken m called.body body_typed outer in
          let gives_none : shape_of (declarations_of m) (given_type called.body.signature) ≡ Tuple NoMember =
          ap (λ results. shape_of (declarations_of m) (direct_type results)) (nothing_given m called.body body_typed outer) ∙ tuple_shape m [] in
          subst (λ xs. RowForms m i (OfFunction called.named ∷ xs) (OfValue (given_shape (declarations_of m) called.body) ∷ []))
          (sym (integer_forms taken.0) ∙ ap (map (typed_form (declarations_of m))) (sym taken.1))
          (subst (λ s. RowForms m i (OfFunction called.named ∷ map (λ w. OfValue (Integer w)) taken.0) (OfValue s ∷ [])) (sym gives_none)
          (calls_out called.named called.body taken.0 (ap effect_of call) called.there none))
