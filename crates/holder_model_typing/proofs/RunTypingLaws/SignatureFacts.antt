-- What a function's signature says of its entry, and of what it gives.
use Rattle.std.proofs.Common.{◌≡◌, ℕ, List, [], ◌∷◌, ◌++◌, map, cond, refl, sym, ap, ap₂, ◌∙◌, subst, Bool, true, false, not, Option, None, Some}
use Rattle.std.specs.Prelude.{◌&&◌, filter}
use Rattle.std.specs.List.{flat_map, list_all}
use Rattle.argument_conventions.specs.Arguments.{Told, argument_type, arguments_of, convention_of, is_direct, out_argument, param_argument}
use Rattle.argument_conventions.specs.declared.convention.ArgumentConvention.{ArgumentConvention}
use Rattle.argument_conventions.specs.declared.convention.ArgumentConvention.TheVariants as convention
use Rattle.holder_model.specs.Frames.{has_any}
use Rattle.sil_ast.specs.Blocks.{args_of}
use Rattle.sil_ast.specs.declared.function.Block.{Block}
use Rattle.sil_ast.specs.declared.function.BlockArg.{BlockArg}
use Rattle.sil_ast.specs.declared.function.Form.{Form}
use Rattle.sil_ast.specs.declared.function.Form.TheVariants.{Ossa, Lowered, External}
use Rattle.sil_ast.specs.declared.function.Function.{Function}
use Rattle.sil_ast.specs.declared.module.Module.{Module}
use Rattle.sil_ast.specs.declared.signature.Given.{Given}
use Rattle.sil_ast.specs.declared.signature.Param.{Param}
use Rattle.sil_ast.specs.declared.type_name.TypeName.{TypeName}
use Rattle.sil_ast.specs.declared.type_name.TypeName.TheVariants as type
use Rattle.holder_model.specs.sil_types.Typing.OperandTypes.{argument_types}
use Rattle.holder_model.specs.sil_types.Typing.Same.{all_pairs, is_same_type}
use Rattle.holder_model.specs.sil_types.Typing.Shapes.{is_integer, is_object, target}
use Rattle.holder_model.specs.sil_types.Typing.SignatureRules.{fits_param, fits_result, gives_nothing, has_entry_arguments, has_fitting_conventions, has_wrong_signature}
use Rattle.holder_model.specs.sil_types.Typing.SignatureRules.{is_annotated_for, is_argument_for, is_external}
use Rattle.holder_model.specs.sil_types.Typing.SignatureRules.{is_no_output_call, is_plain, is_plain_integer}
use Rattle.holder_model.specs.sil_types.Typing.Values.{arg_type}
use Rattle.holder_model.specs.sil_types_declarations.TypeDefinitions.Declarations.{Declarations, declarations_of}
use Rattle.holder_model.specs.sil_types_declarations.TypeDefinitions.Mentions.{direct_types, given_type, result_type, together}
use Rattle.numbered_form.specs.Lists.{Each}
use Rattle.holder_model.specs.RunTyping.Forms.{IsCarried, entry_forms, form_with}
use Rattle.holder_model_typing.proofs.RunTypingLaws.FunctionFacts.{TypedFunction}
use Rattle.holder_model_typing.proofs.RunTypingLaws.Found.{both_first, both_second, not_false}
use Rattle.holder_model_typing.proofs.RunTypingLaws.ListFacts.{or_second}
use Rattle.holder_model_typing.proofs.RunTypingLaws.Rows.Layers.{integer_type, object_target, target-Tuple}
use Rattle.holder_model_typing.proofs.RunTypingLaws.ShapeFacts.{same_types}
use Rattle.holder_model_typing.proofs.RunTypingLaws.Rows.Forms.{typed_form}
use Rattle.holder_model_typing.proofs.RunTypingLaws.ValueForms.{args_forms}

-- what it gives is no address

together_target : (ts : List TypeName) → list_all is_object ts ≡ true → target (together ts) ≡ None
together_target [] e = target-Tuple []
together_target (t ∷ []) e = object_target t (both_first (is_object t) true e)
together_target (t ∷ u ∷ ts) e = target-Tuple (t ∷ u ∷ ts)

direct_objects : (d : Declarations) (results : List Given) → list_all (fits_result d) results ≡ true → list_all is_object (direct_types results) ≡ true
direct_objects d [] e = refl
direct_objects d (x ∷ xs) e = at (is_direct x) (direct_objects d xs (both_second (fits_result d x) (list_all (fits_result d) xs) e))
  where
    object : is_object x.ty ≡ true
    object = both_first (is_object x.ty) _ (both_first (fits_result d x) (list_all (fits_result d) xs) e)

    at : (b : Bool) → list_all is_object (direct_types xs) ≡ true → list_all is_object (map result_type (cond b (x ∷ filter is_direct xs) (filter is_direct xs))) ≡ true
    at true rest = ap₂ (λ a b. a && b) object rest
    at false rest = rest

module _ (m : Module) (f : Function) (typed : TypedFunction m f) where
  pub conventions_and_entry : (has_fitting_conventions (declarations_of m) f.signature && has_entry_arguments f) ≡ true
  unfolding has_wrong_signature
  conventions_and_entry = not_false _ typed.signature

  pub given_is_value : target (given_type f.signature) ≡ None
  given_is_value =
      let conventions = both_first (has_fitting_conventions (declarations_of m) f.signature) (has_entry_arguments f) conventions_and_entry in
      together_target (direct_types f.signature.results)
      (direct_objects (declarations_of m) f.signature.results (both_second (list_all (fits_param (declarations_of m)) f.signature.params) _ conventions))

  -- with blocks or without

  pub inner_form : has_any f.blocks ≡ true → is_external f.form ≡ false
  inner_form some = at f.form refl
    where
      at : (x : Form) → f.form ≡ x → is_external x ≡ false
      at Ossa e = refl
      at Lowered e = refl
      at External e = let none : has_any f.blocks ≡ false = ap has_any (typed.formed.external.0 e) in cc

  pub outer_form : has_any f.blocks ≡ false → f.form ≡ External
  outer_form none = typed.formed.external.1 (at f.blocks none)
    where
      at : (blocks : List Block) → has_any blocks ≡ false → blocks ≡ []
      at [] e = refl
      at (b ∷ bs) e = cc

  -- the arguments of its entry have the types that its signature tells of

  arguments_told : (form : Form) (args : List BlockArg) (told : List Told) → all_pairs (is_argument_for form) args told ≡ true → map arg_type args ≡ map argument_type told
  arguments_told form [] [] e = refl
  arguments_told form [] (a ∷ told) e = cc
  arguments_told form (b ∷ bs) [] e = cc
  arguments_told form (b ∷ bs) (a ∷ told) e =
      let here = both_first (is_argument_for form b a) (all_pairs (is_argument_for form) bs told) e in
      ap₂ (λ t ts. t ∷ ts)
      (same_types b.ty (argument_type a) (both_first (is_same_type b.ty (argument_type a)) (is_annotated_for form b a.convention) here))
      (arguments_told form bs told (both_second (is_argument_for form b a) (all_pairs (is_argument_for form) bs told) e))

  pub entry_types : has_any f.blocks ≡ true → map arg_type (args_of f 0) ≡ argument_types f.signature
  entry_types some =
      let entry = both_second (has_fitting_conventions (declarations_of m) f.signature) (has_entry_arguments f) conventions_and_entry in
      arguments_told f.form (args_of f 0) (arguments_of f.signature) (or_second (is_external f.form) _ (inner_form some) entry)

  pub entry_forms_are : has_any f.blocks ≡ true → entry_forms (declarations_of m) f ≡ map (typed_form (declarations_of m)) (argument_types f.signature)
  entry_forms_are some = args_forms m f typed 0 ∙ ap (map (typed_form (declarations_of m))) (entry_types some)

  carried_with : (t : TypeName) (inner : Option TypeName) → IsCarried (form_with (declarations_of m) t inner)
  carried_with t None = refl
  carried_with t (Some inner) = refl

  carried_each : (ts : List TypeName) → Each IsCarried (map (typed_form (declarations_of m)) ts)
  carried_each [] = tt
  carried_each (t ∷ ts) = (carried_with t (target t), carried_each ts)

  -- its arguments are values and addresses
  pub entry_carried : Each IsCarried (entry_forms (declarations_of m) f)
  entry_carried = subst (Each IsCarried) (sym (args_forms m f typed 0)) (carried_each (map arg_type (args_of f 0)))

  -- without blocks it takes integers and gives nothing

  integers_and_nothing : f.form ≡ External → (list_all is_plain_integer f.signature.params && gives_nothing f.signature.results) ≡ true
  unfolding is_no_output_call
  integers_and_nothing outer = not_false _ (ap (λ x. is_external x && not (list_all is_plain_integer f.signature.params && gives_nothing f.signature.results)) (sym outer) ∙ typed.external)

  pub nothing_given : f.form ≡ External → f.signature.results ≡ []
  nothing_given outer = at f.signature.results (both_second (list_all is_plain_integer f.signature.params) (gives_nothing f.signature.results) (integers_and_nothing outer))
    where
      at : (results : List Given) → gives_nothing results ≡ true → results ≡ []
      at [] e = refl
      at (x ∷ xs) e = cc

  plain_handed : (p : Param) → is_plain_integer p ≡ true → (w : ℕ) × (argument_type (param_argument p) ≡ type.Int w)
  plain_handed p e = at (convention_of p.passing) (both_first (is_plain (convention_of p.passing)) (is_integer p.ty) e)
    where
      int : (w : ℕ) × (p.ty ≡ type.Int w)
      int = integer_type p.ty (both_second (is_plain (convention_of p.passing)) (is_integer p.ty) e)

      at : (c : ArgumentConvention) → is_plain c ≡ true → (w : ℕ) × (argument_type (record { convention = c; ty = p.ty }) ≡ type.Int w)
      at convention.Plain h = int
      at convention.Owned h = cc
      at convention.Guaranteed h = cc
      at (convention.Address c) h = cc

  integers : (params : List Param) → list_all is_plain_integer params ≡ true → (widths : List ℕ) × (map argument_type (map param_argument params) ≡ map type.Int widths)
  integers [] e = ([], refl)
  integers (p ∷ ps) e =
      let first = plain_handed p (both_first (is_plain_integer p) (list_all is_plain_integer ps) e) in
      let rest = integers ps (both_second (is_plain_integer p) (list_all is_plain_integer ps) e) in
      (first.0 ∷ rest.0, ap₂ (λ t ts. t ∷ ts) first.1 rest.1)

  pub integers_taken : f.form ≡ External → (widths : List ℕ) × (argument_types f.signature ≡ map type.Int widths)
  integers_taken outer =
      let all = integers f.signature.params (both_first (list_all is_plain_integer f.signature.params) (gives_nothing f.signature.results) (integers_and_nothing outer)) in
      (all.0, ap (λ results. map argument_type (flat_map out_argument results ++ map param_argument f.signature.params)) (nothing_given outer) ∙ all.1)
