-- In the run data are put one after another: as if the values among them came first, and then the addresses.
use Rattle.std.proofs.Common.{◌≡◌, ◌≢◌, List, [], ◌∷◌, true, Some, Option, length, map, refl, sym, ap, ◌∙◌, arith}
use Rattle.std.specs.Prelude.{drop, set}
use Rattle.std.proofs.lemmas.Bool.{false≢true}
use Rattle.std.proofs.lemmas.List.{set_comm}
use Rattle.count_machine_model.specs.holder_model.Data.{Datum}
use Rattle.count_machine_model.specs.holder_model.LoweredRun.LowFrames.{put_all}
use Rattle.numbered_form.specs.Lists.{Each}
use Rattle.count_machine_model.specs.ReadyCode.Layout.{value_number}
use Rattle.count_machine_model.specs.holder_model.RunTyping.Forms.{Form, IsCarried, OfFunction, OfNothing, OfPlace, OfValue, form_of, forms_of, is_carried}
use Rattle.holder_model_values.specs.RunValues.Shapes.{Shape}
use Rattle.sil_ast.specs.declared.function.Function.{Function}
use Rattle.sil_ast.specs.declared.place.ValueId.{ValueId}
use Rattle.sil_types_declarations.specs.TypeDefinitions.Declarations.{Declarations}
use Rattle.count_machine_laws.proofs.Operands.{kind_of}
use Rattle.count_machine_laws.proofs.PushesAddresses.{address_put, addresses_put}
use Rattle.count_machine_laws.proofs.PushesCarried.{head_form, value_put, values_put}

-- values and addresses alone are carried
abbrev pub AreCarried : List Form → Type 0
AreCarried forms = Each IsCarried forms

module _ (d : Declarations) (g : Function) where
  -- values are put beside an address

  apart : (w w' : ValueId) (s s' : Shape) → form_of d g w ≡ OfPlace s → form_of d g w' ≡ OfValue s' → w.0 ≢ w'.0
  apart w w' s s' e e' same = absurd (omega (arith, ap kind_of (sym e ∙ ap (form_of d g) (ap value_number same) ∙ e')))

  value_beside : (w w' : ValueId) (s : Shape) → form_of d g w ≡ OfPlace s → (x : Option Datum) (y : Datum) (values : List (Option Datum)) (form : Form) → form_of d g w' ≡ form
      → value_put form w' y (set values w.0 x) ≡ set (value_put form w' y values) w.0 x
  value_beside w w' s e x y values (OfValue s') e' = set_comm values w.0 w'.0 x (Some y) (apart w w' s s' e e')
  value_beside w w' s e x y values (OfPlace s') e' = refl
  value_beside w w' s e x y values (OfFunction h) e' = refl
  value_beside w w' s e x y values OfNothing e' = refl

  values_beside : (ws : List ValueId) (xs : List Datum) (w : ValueId) (s : Shape) → form_of d g w ≡ OfPlace s → (x : Option Datum) (values : List (Option Datum))
      → values_put d g ws xs (set values w.0 x) ≡ set (values_put d g ws xs values) w.0 x
  values_beside [] xs w s e x values = refl
  values_beside (w' ∷ ws) [] w s e x values = refl
  values_beside (w' ∷ ws) (y ∷ xs) w s e x values =
      ap (values_put d g ws xs) (value_beside w w' s e x y values (form_of d g w') refl)
      ∙ values_beside ws xs w s e x (value_put (form_of d g w') w' y values)

  one_put : (w : ValueId) (x : Datum) (ws : List ValueId) (xs : List Datum) (values : List (Option Datum)) (form : Form) → form_of d g w ≡ form → is_carried form ≡ true
      → addresses_put d g ws xs (values_put d g ws xs (set values w.0 (Some x))) ≡ addresses_put d g ws xs (address_put form w x (values_put d g ws xs (value_put form w x values)))
  one_put w x ws xs values (OfValue s) e carried = refl
  one_put w x ws xs values (OfPlace s) e carried = ap (addresses_put d g ws xs) (values_beside ws xs w s e (Some x) values)
  one_put w x ws xs values (OfFunction h) e carried = absurd (false≢true carried)
  one_put w x ws xs values OfNothing e carried = absurd (false≢true carried)

  pub all_put : (ws : List ValueId) (xs : List Datum) → AreCarried (forms_of d g ws) → length xs ≡ length ws → (values : List (Option Datum))
      → put_all ws xs values ≡ Some (addresses_put d g ws xs (values_put d g ws xs values))
  all_put [] [] carried same values = refl
  all_put [] (x ∷ xs) carried same values = absurd (omega (arith, same))
  all_put (w ∷ ws) [] carried same values = absurd (omega (arith, same))
  all_put (w ∷ ws) (x ∷ xs) carried same values =
      all_put ws xs carried.1 (omega (arith, same)) (set values w.0 (Some x)) ∙ ap Some (one_put w x ws xs values (form_of d g w) refl carried.0)

  -- where all are values
  pub values_alone : (ws : List ValueId) (xs : List Datum) (shapes : List Shape) → forms_of d g ws ≡ map OfValue shapes → length xs ≡ length ws → (values : List (Option Datum))
      → put_all ws xs values ≡ Some (values_put d g ws xs values)
  values_alone [] [] shapes forms same values = refl
  values_alone [] (x ∷ xs) shapes forms same values = absurd (omega (arith, same))
  values_alone (w ∷ ws) [] shapes forms same values = absurd (omega (arith, same))
  values_alone (w ∷ ws) (x ∷ xs) [] forms same values = absurd (omega (arith, ap length forms))
  values_alone (w ∷ ws) (x ∷ xs) (s ∷ shapes) forms same values =
      let form : form_of d g w ≡ OfValue s = ap (head_form OfNothing) forms in
      values_alone ws xs shapes (ap (drop 1) forms) (omega (arith, same)) (set values w.0 (Some x))
      ∙ ap (λ φ. Some (values_put d g ws xs (value_put φ w x values))) (sym form)
