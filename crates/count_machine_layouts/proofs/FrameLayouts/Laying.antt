-- One more value behind those that are laid out, and that none has more leaves than the limit.
use Rattle.std.proofs.Common.{◌≡◌, ℕ, ◌+◌, ◌≤◌, List, [], ◌∷◌, ◌++◌, length, map, refl, sym, ap, ap₂, ◌∙◌, subst, arith, Option, Some, None, get_or}
use Rattle.std.specs.Prelude.{sum}
use Rattle.std.specs.List.{range_with_len}
use Rattle.std.proofs.lemmas.List.FromFn.{length-map-range_with_len, map-range_with_len_more}
use Rattle.std.proofs.lemmas.List.Sums.{sum_by-append}
use Rattle.std.proofs.lemmas.Option.{unwrap_or-slice_get}
use Rattle.holder_model_typing.specs.holder_model.Calling.{value_count}
use Rattle.sil_ast.specs.declared.function.Function.{Function}
use Rattle.sil_ast.specs.declared.place.FuncId.{FuncId}
use Rattle.sil_ast.specs.declared.type_name.TypeName.{TypeName}
use Rattle.sil_rules.specs.declared.limits.TheConstants.{LEAVES}
use Rattle.sil_types.specs.Typing.Shapes.{target}
use Rattle.sil_types.specs.Typing.Values.{function_at, type_at, value_functions, value_types}
use Rattle.sil_types_declarations.specs.TypeDefinitions.Declarations.{Declarations}
use Rattle.holder_model_typing.specs.holder_model.RunTyping.Forms.{Form, OfFunction, OfNothing, OfPlace, OfValue, form_by, form_with}
use Rattle.count_machine_model.specs.ReadyCode.Layout.{addresses_in, leaves_in}
use Rattle.count_machine_layouts.specs.declared.frame_layouts.layout.Kept.{Kept}
use Rattle.count_machine_layouts.specs.declared.frame_layouts.layout.Kept.TheVariants as kept
use Rattle.count_machine_layouts.specs.declared.frame_layouts.layout.Layout.{Layout}
use Rattle.count_machine_layouts.specs.declared.frame_layouts.layout.Spot.{Spot}
use Rattle.count_machine_layouts.specs.FrameLayouts.inner.Layouts.{addresses_kept, addresses_to, form_at, kept_of, layout_of, layout_to, leaves_kept, leaves_to, spot_at, with_value}
use Rattle.count_machine_layouts.specs.FrameLayouts.inner.Sized.{HasSize, HaveSizes}
use Rattle.count_machine_layouts.proofs.FrameLayouts.Targets.{of_other}

pub leaves_of_kept : (x : Form) → leaves_kept (kept_of x) ≡ leaves_in x
leaves_of_kept (OfValue s) = refl
leaves_of_kept (OfPlace s) = refl
leaves_of_kept (OfFunction g) = refl
leaves_of_kept OfNothing = refl

pub addresses_of_kept : (x : Form) → addresses_kept (kept_of x) ≡ addresses_in x
addresses_of_kept (OfValue s) = refl
addresses_of_kept (OfPlace s) = refl
addresses_of_kept (OfFunction g) = refl
addresses_of_kept OfNothing = refl

sum_more : (xs : List ℕ) (n : ℕ) → sum (xs ++ n ∷ []) ≡ sum xs + n
sum_more xs n = let e : sum (xs ++ n ∷ []) ≡ sum xs + (0 + n) = sum_by-append (λ x. x) xs (n ∷ []) in omega (arith, e)

pub sum_to : (f : ℕ → ℕ) (n : ℕ) → sum (map f (range_with_len 0 (n + 1))) ≡ sum (map f (range_with_len 0 n)) + f n
sum_to f n = ap sum (map-range_with_len_more f 0 n n (omega arith)) ∙ sum_more (map f (range_with_len 0 n)) (f n)

module _ (d : Declarations) (types : List (Option TypeName)) (functions : List (Option FuncId)) where
  abbrev made : List Spot → ℕ → ℕ → Layout
  made spots leaves addresses = record { spots = spots; leaves = leaves; addresses = addresses }

  one_more : (n : ℕ) → with_value (layout_to d types functions n) (kept_of (form_at d types functions n)) ≡ layout_to d types functions (n + 1)
  one_more n =
      let x = form_at d types functions n in
      ap₂ (λ a b. made (map (spot_at d types functions) (range_with_len 0 n) ++ spot_at d types functions n ∷ [])
      (leaves_to d types functions n + a) (addresses_to d types functions n + b))
      (leaves_of_kept x) (addresses_of_kept x)
      ∙ ap (λ s. made s (leaves_to d types functions n + leaves_in x) (addresses_to d types functions n + addresses_in x))
      (sym (map-range_with_len_more (spot_at d types functions) 0 n n (omega arith)))
      ∙ ap₂ (λ a b. made (map (spot_at d types functions) (range_with_len 0 (n + 1))) a b)
      (sym (sum_to (λ k. leaves_in (form_at d types functions k)) n)) (sym (sum_to (λ k. addresses_in (form_at d types functions k)) n))

  pub laid_further : (n : ℕ) (layout further : Layout) (k : Kept) → layout ≡ layout_to d types functions n
      → k ≡ kept_of (form_by d (type_at types n) (get_or functions n None))
      → further ≡ with_value layout k → further ≡ layout_to d types functions (n + 1)
  laid_further n layout further k so_far here e =
      let own : get_or functions n None ≡ function_at functions n = sym (unwrap_or-slice_get functions n None) in
      e ∙ ap₂ with_value so_far (here ∙ ap (λ g. kept_of (form_by d (type_at types n) g)) own) ∙ one_more n

pub few_leaves : (d : Declarations) (types : List (Option TypeName)) (n : ℕ) (g : Option FuncId) → HaveSizes d types
    → leaves_kept (kept_of (form_by d (type_at types n) g)) ≤ LEAVES
few_leaves d types n g sizes = at (type_at types n) refl g
  where
    of : (t : TypeName) (o : Option TypeName) → target t ≡ o → type_at types n ≡ Some t → leaves_kept (kept_of (form_with d t o)) ≤ LEAVES
    of t None e there =
        let size : HasSize d t = subst (HasSize d) (of_other t e) (sizes n t there) in
        let measured = size.measured in let within = size.within in omega arith
    of t (Some inner) e there = omega arith

    at : (o : Option TypeName) → type_at types n ≡ o → (g : Option FuncId) → leaves_kept (kept_of (form_by d o g)) ≤ LEAVES
    at None e None = omega arith
    at None e (Some g) = omega arith
    at (Some t) e g = of t (target t) refl e

pub few_addresses : (k : Kept) → addresses_kept k ≤ 1
few_addresses (kept.Leaves n) = omega arith
few_addresses (kept.Address n s) = omega arith
few_addresses (kept.Function g) = omega arith
few_addresses kept.Nothing = omega arith

-- each value has its place
pub spots_counted : (d : Declarations) (f : Function) → length (layout_of d f).spots ≡ value_count f
spots_counted d f = length-map-range_with_len (spot_at d (value_types d f) (value_functions f)) 0 (value_count f)
