-- The arguments of the entry are those of the signature, each of the kind that its convention says.
use Rattle.std.proofs.Common.{◌≡◌, ℕ, zero, suc, List, [], ◌∷◌, ◌++◌, length, map, refl, sym, ap, ap₂, ◌∙◌, subst, Bool, true, false, not, cond, Option, Some}
use Rattle.std.specs.Prelude.{◌&&◌, ◌||◌, slice_get}
use Rattle.std.specs.List.{AllZip, flat_map, list_all}
use Rattle.std.proofs.lemmas.Bool.{and_parts, not-true}
use Rattle.argument_conventions.specs.Arguments.{Told, argument_type, arguments_of, out_argument, out_place, param_argument}
use Rattle.argument_conventions.specs.declared.convention.ArgumentConvention.{ArgumentConvention}
use Rattle.argument_conventions.specs.declared.convention.ArgumentConvention.TheVariants as convention
use Rattle.holder_model_typing.specs.ownership_kinds_chains.OwnershipChains.Chains.{operands_at}
use Rattle.holder_model_typing.specs.ownership_kinds_chains.OwnershipChains.Facts.{told_by}
use Rattle.holder_model_typing.specs.ownership_kinds_chains.declared.ownership_chains.definition.Origin.{Origin}
use Rattle.holder_model_typing.specs.ownership_kinds_chains.declared.ownership_chains.definition.Origin.TheVariants as origin
use Rattle.holder_model_typing.specs.ownership_kinds_chains.declared.ownership_chains.facts.Facts.{Facts}
use Rattle.holder_model_typing.specs.ownership_kinds_origins.Origins.{arg_definition_by, definitions_of}
use Rattle.holder_model_typing.specs.ownership_kinds_origins.Switched.{switch_to}
use Rattle.holder_model_typing.specs.ownership_kinds_origins.declared.switched.Switched.{Switched}
use Rattle.holder_model_typing.proofs.RunTypingLaws.FunctionFacts.{TypedFunction}
use Rattle.holder_model_typing.proofs.RunTypingLaws.ListFacts.{or_second}
use Rattle.holder_model_typing.proofs.RunTypingLaws.Rows.Finding.{passes_at}
use Rattle.holder_model_typing.proofs.RunTypingLaws.ShapeFacts.{same_types}
use Rattle.holder_model_typing.proofs.RunTypingLaws.SignatureFacts.{conventions_and_entry}
use Rattle.sil_ast.specs.Blocks.{args_of}
use Rattle.sil_ast.specs.declared.function.ArgKind.{ArgKind}
use Rattle.sil_ast.specs.declared.function.ArgKind.TheVariants as annotation
use Rattle.sil_ast.specs.declared.function.BlockArg.{BlockArg}
use Rattle.sil_ast.specs.declared.function.Form.TheVariants.{Ossa}
use Rattle.sil_ast.specs.declared.function.Function.{Function}
use Rattle.sil_ast.specs.declared.module.Module.{Module}
use Rattle.sil_ast.specs.declared.place.ValueId.{ValueId}
use Rattle.sil_ast.specs.declared.signature.Given.{Given}
use Rattle.sil_ast.specs.declared.signature.Param.{Param}
use Rattle.sil_ast.specs.declared.type_name.TypeName.{TypeName}
use Rattle.holder_model_typing.specs.sil_types.Typing.Same.{all_pairs, is_same_type}
use Rattle.holder_model_typing.specs.sil_types.Typing.Shapes.{is_nontrivial, is_object}
use Rattle.holder_model_typing.specs.sil_types.Typing.SignatureRules.{annotation_of, fits_by, fits_param, fits_result, has_entry_arguments, has_fitting_conventions}
use Rattle.holder_model_typing.specs.sil_types.Typing.SignatureRules.{is_annotated_for, is_argument_for, is_external, is_same_kind}
use Rattle.holder_model_typing.specs.sil_types_declarations.TypeDefinitions.Declarations.{Declarations, declarations_of}
use Rattle.holder_model_typing.specs.sil_types_declarations.TypeDefinitions.Measures.{is_trivial}
use Rattle.holder_model_typing.specs.sil_types_declarations.declared.type_definitions.kind.Kind.{Kind}
use Rattle.holder_model_typing.specs.sil_types_declarations.declared.type_definitions.kind.Kind.TheVariants as kind
use Rattle.sil_verifier_values.specs.inner.Handed.{AreEntryTold, IsToldOf, kind_told}
use Rattle.sil_verifier_values.specs.inner.Known.{IsAcceptedBody, facts_at, kind_at}
use Rattle.sil_verifier_values.proofs.Accepted.{counted, in_ownership_form, typed}
use Rattle.sil_verifier_values.proofs.Facts.{facts_so}
use Rattle.sil_verifier_values.proofs.Places.{argument_is_value}
use Rattle.sil_verifier_values.proofs.TableRows.{argument_rows}

-- ---- pairs

-- what holds of the elements that stand at one place in two lists
pub zip_by_place : {A B : Type 0} (R : A → B → Type 0) (test : B → A → Bool) (xs : List A) (ys : List B) → all_pairs test ys xs ≡ true
    → ((k : ℕ) (x : A) (y : B) → slice_get xs k ≡ Some x → slice_get ys k ≡ Some y → test y x ≡ true → R x y) → AllZip R xs ys
zip_by_place R test [] [] e h = tt
zip_by_place R test [] (y ∷ ys) e h = cc
zip_by_place R test (x ∷ xs) [] e h = cc
zip_by_place R test (x ∷ xs) (y ∷ ys) e h =
    let both = and_parts (test y x) (all_pairs test ys xs) e in
    (h 0 x y refl refl both.0, zip_by_place R test xs ys both.1 (λ k. h (suc k)))

-- each element of the first list has one at its place in the second
pub pair_at : {A B : Type 0} (test : A → B → Bool) (xs : List A) (ys : List B) (k : ℕ) (x : A) → all_pairs test xs ys ≡ true → slice_get xs k ≡ Some x
    → (y : B) × (slice_get ys k ≡ Some y) × (test x y ≡ true)
pair_at test [] ys k x e at = cc
pair_at test (z ∷ xs) [] k x e at = cc
pair_at test (z ∷ xs) (y ∷ ys) zero x e at =
    let same : z ≡ x = cc in
    (y, refl, ap (λ w. test w y) (sym same) ∙ (and_parts (test z y) (all_pairs test xs ys) e).0)
pair_at test (z ∷ xs) (y ∷ ys) (suc k) x e at = pair_at test xs ys k x (and_parts (test z y) (all_pairs test xs ys) e).1 at

-- ---- conventions fit their types

module _ (d : Declarations) where
  abbrev pub fits : Told → Bool
  fits t = fits_by d t.convention t.ty

  all_both : (test : Told → Bool) (xs ys : List Told) → list_all test xs ≡ true → list_all test ys ≡ true → list_all test (xs ++ ys) ≡ true
  all_both test [] ys e h = h
  all_both test (x ∷ xs) ys e h =
      let both = and_parts (test x) (list_all test xs) e in
      ap₂ (λ a b. a && b) both.0 (all_both test xs ys both.1 h)

  outs_fit : (rs : List Given) → list_all (fits_result d) rs ≡ true → list_all fits (flat_map out_argument rs) ≡ true
  outs_fit [] e = refl
  outs_fit (r ∷ rs) e =
      let both = and_parts (fits_result d r) (list_all (fits_result d) rs) e in
      all_both fits (out_argument r) (flat_map out_argument rs) (one r.out (and_parts (is_object r.ty) _ both.0).0) (outs_fit rs both.1)
    where
      one : (out : Bool) → is_object r.ty ≡ true → list_all fits (cond out (out_place r ∷ []) []) ≡ true
      one true object = ap (λ b. b && true) object
      one false object = refl

  params_fit : (ps : List Param) → list_all (fits_param d) ps ≡ true → list_all fits (map param_argument ps) ≡ true
  params_fit [] e = refl
  params_fit (p ∷ ps) e =
      let both = and_parts (fits_param d p) (list_all (fits_param d) ps) e in
      ap₂ (λ a b. a && b) both.0 (params_fit ps both.1)

-- of each argument that the signature tells of
pub told_fits : (m : Module) (f : Function) → TypedFunction m f → (k : ℕ) (t : Told) → slice_get (arguments_of f.signature) k ≡ Some t → fits (declarations_of m) t ≡ true
told_fits m f typed k t at =
    let d = declarations_of m in
    let both = and_parts (list_all (fits_param d) f.signature.params) (list_all (fits_result d) f.signature.results)
    (and_parts (has_fitting_conventions d f.signature) (has_entry_arguments f) (conventions_and_entry m f typed)).0 in
    passes_at (fits d) (arguments_of f.signature) k t
    (all_both d (fits d) (flat_map out_argument f.signature.results) (map param_argument f.signature.params) (outs_fit d f.signature.results both.1) (params_fit d f.signature.params both.0))
    at

-- ---- kinds

same_annotation : (a b : ArgKind) → is_same_kind a b ≡ true → a ≡ b
same_annotation annotation.Plain annotation.Plain e = refl
same_annotation annotation.Plain annotation.Owned e = cc
same_annotation annotation.Plain annotation.Guaranteed e = cc
same_annotation annotation.Owned annotation.Plain e = cc
same_annotation annotation.Owned annotation.Owned e = refl
same_annotation annotation.Owned annotation.Guaranteed e = cc
same_annotation annotation.Guaranteed annotation.Plain e = cc
same_annotation annotation.Guaranteed annotation.Owned e = cc
same_annotation annotation.Guaranteed annotation.Guaranteed e = refl

abbrev kind_of_origin : Origin → Kind
kind_of_origin origin.Owned = kind.Owned
kind_of_origin origin.Lender = kind.Guaranteed
kind_of_origin origin.Plain = kind.Plain
kind_of_origin origin.Forward = kind.Plain
kind_of_origin origin.Same = kind.Plain
kind_of_origin origin.Lent = kind.Guaranteed
kind_of_origin origin.Address = kind.Plain

nontrivial_so : (d : Declarations) (t : TypeName) → is_nontrivial d t ≡ true → is_trivial d t ≡ false
nontrivial_so d t e = not-true (is_trivial d t) (and_parts (is_object t) (not (is_trivial d t)) e).1

module _ (m : Module) (n : ℕ) (f : Function) (a : IsAcceptedBody m n f) where
  abbrev d : Declarations
  d = declarations_of m

  -- a value whose origin tells its kind by itself
  abbrev TellsKind : Origin → Type 0
  TellsKind o = (count : ℕ) (v : ValueId) (vs : List ValueId) → (told_by count v (facts_at d f) vs o).kind ≡ kind_of_origin o

  tells : (s : Option Switched) (k : ArgKind) (trivial : Bool) → TellsKind (arg_definition_by true s k trivial).origin
  tells s annotation.Plain trivial count v vs = refl
  tells s annotation.Owned true count v vs = refl
  tells s annotation.Owned false count v vs = refl
  tells s annotation.Guaranteed true count v vs = refl
  tells s annotation.Guaranteed false count v vs = refl

  argument_kind : (k : ℕ) (x : BlockArg) → slice_get (args_of f 0) k ≡ Some x
      → kind_at d f x.value ≡ kind_of_origin (arg_definition_by true (switch_to f 0) x.kind (is_trivial d x.ty)).origin
  argument_kind k x at =
      let row = argument_rows m n f a 0 k x at in
      let defs = definitions_of d f in
      ap (λ (y : Facts). y.kind) (facts_so m n f a x.value (argument_is_value f (counted m n f a) 0 k x at))
      ∙ ap (λ o. (told_by (length defs) x.value (facts_at d f) (operands_at defs x.value) o).kind) row.defined.origin
      ∙ tells (switch_to f 0) x.kind (is_trivial d x.ty) (length defs) x.value (operands_at defs x.value)

  pub told_of : (k : ℕ) (t : Told) (x : BlockArg) → slice_get (arguments_of f.signature) k ≡ Some t → slice_get (args_of f 0) k ≡ Some x
      → is_argument_for Ossa x t ≡ true → IsToldOf d f t x
  told_of k t x is at e =
      let both = and_parts (is_same_type x.ty (argument_type t)) (is_annotated_for Ossa x t.convention) e in
      let ty : x.ty ≡ argument_type t = same_types x.ty (argument_type t) both.0 in
      let annotated : x.kind ≡ annotation_of t.convention = same_annotation x.kind (annotation_of t.convention) both.1 in
      record {
        typed = ty;
        has_kind = argument_kind k x at
            ∙ ap (λ w. kind_of_origin (arg_definition_by true (switch_to f 0) w (is_trivial d x.ty)).origin) annotated
            ∙ ap (λ u. kind_of_origin (arg_definition_by true (switch_to f 0) (annotation_of t.convention) (is_trivial d u)).origin) ty
            ∙ by t.convention t.ty (told_fits m f (typed m n f a) k t is);
      }
    where
      by : (c : ArgumentConvention) (u : TypeName) → fits_by d c u ≡ true
          → kind_of_origin (arg_definition_by true (switch_to f 0) (annotation_of c) (is_trivial d (argument_type (record { convention = c; ty = u })))).origin ≡ kind_told c
      by convention.Plain u e = refl
      by convention.Owned u e = ap (λ b. kind_of_origin (arg_definition_by true (switch_to f 0) annotation.Owned b).origin) (nontrivial_so d u e)
      by convention.Guaranteed u e = ap (λ b. kind_of_origin (arg_definition_by true (switch_to f 0) annotation.Guaranteed b).origin) (nontrivial_so d u e)
      by (convention.Address c) u e = refl

  pub entry_pairs : all_pairs (is_argument_for Ossa) (args_of f 0) (arguments_of f.signature) ≡ true
  entry_pairs =
      let entry = (and_parts (has_fitting_conventions d f.signature) (has_entry_arguments f) (conventions_and_entry m f (typed m n f a))).1 in
      or_second (is_external Ossa) _ refl
      (subst (λ o. (is_external o || all_pairs (is_argument_for o) (args_of f 0) (arguments_of f.signature)) ≡ true) (in_ownership_form m n f a) entry)

pub entry_told : AreEntryTold
entry_told m n f a =
    zip_by_place (IsToldOf (declarations_of m) f) (is_argument_for Ossa) (arguments_of f.signature) (args_of f 0) (entry_pairs m n f a)
    (λ k t x is at e. told_of m n f a k t x is at e)
