-- Each row of an instruction in ownership form, on operands of its forms, does what leaves all typed.
use Rattle.std.proofs.Common.{◌≡◌, ◌∙◌, ℕ, List, [], ◌∷◌, map, refl, sym, ap, subst, Some}
use Rattle.std.specs.Prelude.{option_and_then, slice_get}
use Rattle.holder_model_laws.specs.holder_model.RunTyping.Classes.{ClassesAreSound}
use Rattle.holder_model_laws.specs.holder_model.RunTyping.Forms.{Form, OfFunction, OfValue}
use Rattle.holder_model_laws.specs.holder_model.RunTyping.RowForms as lowered
use Rattle.holder_model_laws.specs.holder_model.RunTyping.RowForms.{RowForms}
use Rattle.sil_verifier_trails.specs.holder_model_typing.OwnedRunTyping.inner.OwnedRows as owned
use Rattle.sil_verifier_trails.specs.holder_model_typing.OwnedRunTyping.inner.OwnedRows.{OwnedRowForms}
use Rattle.holder_model_laws.specs.holder_model.Data.{Datum, all_of}
use Rattle.holder_model_laws.specs.holder_model.Effects.{Calls, effect_of}
use Rattle.holder_model_laws.specs.holder_model.ModuleShapes.{field_shapes, shapes_of}
use Rattle.holder_model_laws.specs.holder_model.declared.row_effect.RowEffect.TheVariants as row
use Rattle.holder_model_values.specs.RunValues.Shapes.{Integer, Reference}
use Rattle.holder_model_values.specs.RunValues.Values.{integer_of}
use Rattle.sil_ast.specs.declared.module.Module.{Module}
use Rattle.sil_ast.specs.declared.place.FuncId.{FuncId}
use Rattle.sil_verifier_trails.specs.holder_model_typing.TypedMemory.inner.Worlds.{DatumIs, names}
use Rattle.sil_verifier_trails.proofs.holder_model_typing.TypedMemory.Computed.{integers_in}
use Rattle.sil_verifier_frames.proofs.Typed.Data.{DataAre, more, none, read_function}
use Rattle.sil_verifier_frames.proofs.Typed.Effects.{Done, EffectFits, Fitting, by_row, effect_at, result_shape}
use Rattle.sil_verifier_frames.proofs.Typed.RowPlaces as places
use Rattle.sil_verifier_frames.proofs.Typed.RowValues as values
use Rattle.sil_verifier_frames.proofs.Typed.ShapesTold.{first_shape}

module _ {m : Module} (x : Done m) (sound : ClassesAreSound m) where
  abbrev Does : List Form → List Datum → Type 0
  Does ys xs = Fitting x xs ys (effect_at x (effect_of x.i.op) xs)

  -- a call names its callee
  called : (g : FuncId) (c : Datum) (args : List Datum) (ys : List Form) → effect_of x.i.op ≡ row.CallsFunction → DatumIs m x.w (OfFunction g) c
      → Fitting x (c ∷ args) ys (Calls g args) → Does ys (c ∷ args)
  called g c args ys is typed_as fits =
      by_row x row.CallsFunction is (c ∷ args) ys
      (subst (λ z. Fitting x (c ∷ args) ys (effect_at x row.CallsFunction (z ∷ args))) (sym (read_function m x.w typed_as g refl)) fits)

  lowered_row : {ins ys : List Form} → RowForms m x.i ins ys → {xs : List Datum} → DataAre m x.w ins xs → first_shape ys ≡ result_shape x → Does ys xs
  lowered_row (lowered.looks form is) {xs = xs} typed_as told = values.looks_fits x xs is
  lowered_row (lowered.literal n w is number within) none told = values.literal_fits x n w is number within
  lowered_row (lowered.function g is function) none told = values.function_fits x g is function
  lowered_row (lowered.computes b is named) {xs = xs} typed_as told = values.computes_fits x b xs is named typed_as
  lowered_row (lowered.traps text is named) (more _ y _ _ typed_as none) told = values.traps_fits x y is typed_as
  lowered_row (lowered.object class is declared) none told = places.object_fits x sound class is declared told
  lowered_row (lowered.slot w s is shape) none told = places.slot_fits x s is told
  lowered_row (lowered.removes s is) (more _ y _ _ typed_as none) told = places.removes_fits x s y is typed_as
  lowered_row (lowered.upcast class above is below) (more _ y _ _ typed_as none) told = values.upcast_fits x sound class above y is below typed_as
  lowered_row (lowered.retains s is bare) (more _ y _ _ typed_as none) told = values.retains_fits x y is
  lowered_row (lowered.drops s is bare) (more _ y _ _ typed_as none) told = values.drops_fits x y (OfValue s) is typed_as
  lowered_row (lowered.loads s is done bare) (more _ y _ _ typed_as none) told = places.loads_fits x s _ y is done owned.reads typed_as
  lowered_row (lowered.stores s is done bare) (more _ y _ _ typed_as (more _ z _ _ there none)) told = places.stores_fits x s s _ y z is done (λ v good. good) typed_as there
  lowered_row (lowered.loads_name how s o is named done read) (more _ y _ _ typed_as none) told = places.loads_name_fits x how s o y is named done read typed_as
  lowered_row (lowered.stores_name how s o is named done write) (more _ y _ _ typed_as (more _ z _ _ there none)) told = places.stores_name_fits x how s o y z is named done typed_as there
  lowered_row (lowered.destroys_name how s is named done) (more _ y _ _ typed_as none) told = places.destroys_fits x _ _ y is done typed_as
  lowered_row (lowered.groups s ss is group) {xs = xs} typed_as told = values.groups_fits x s ss xs is group typed_as
  lowered_row (lowered.chooses_plain s k c is of_enum at there no_payload) none told = values.plain_case_fits x s k c is at there no_payload told
  lowered_row (lowered.chooses_full s payload k c is of_enum at there has) (more _ y _ _ typed_as none) told = values.full_case_fits x s payload k c y is at there has told typed_as
  lowered_row (lowered.member s part k is number there) (more _ y _ _ typed_as none) told = values.member_fits x s part k y is number there typed_as
  lowered_row (lowered.member_address s part k is number there) (more _ y _ _ typed_as none) told = places.member_address_fits x s part k y is number there typed_as
  lowered_row (lowered.field_address class named s k is member owner number there) (more _ y _ _ typed_as none) told =
      places.field_address_fits x sound named s k y is member number (subst (λ c. slice_get (field_shapes (shapes_of m) c) k ≡ Some s) (sym owner) there)
      (subst (λ c. DatumIs m x.w (OfValue (Reference c)) y) (sym owner) typed_as)
  lowered_row (lowered.calls g callee is there bodied) (more _ c _ args typed_as rest) told =
      called g c args _ is typed_as (EffectFits.calls g args callee there bodied rest refl (places.calls_own x.i.op is))
  lowered_row (lowered.calls_out g callee widths is there bodiless) (more _ c _ args typed_as rest) told =
      let vs = values.values_read m x.w (map Integer widths) (map_twice widths) rest in
      let ns = integers_in (names m x.w) widths vs.values vs.fit in
      called g c args _ is typed_as (EffectFits.calls_out g args callee ns.0 there bodiless (ap (option_and_then (all_of integer_of)) vs.read ∙ ns.1) refl)
    where
      map_twice : (widths : List ℕ) → map (λ w. OfValue (Integer w)) widths ≡ map OfValue (map Integer widths)
      map_twice [] = refl
      map_twice (w ∷ widths) = ap (λ fs. OfValue (Integer w) ∷ fs) (map_twice widths)

  pub row_fits : {ins ys : List Form} → OwnedRowForms m x.i ins ys → {xs : List Datum} → DataAre m x.w ins xs → first_shape ys ≡ result_shape x → Does ys xs
  row_fits (owned.also_lowered ins ys forms) typed_as told = lowered_row forms typed_as told
  row_fits (owned.gives s is bare) (more _ y _ _ typed_as none) told = values.operand_fits x y (OfValue s) is typed_as
  row_fits (owned.copies s is bare) (more _ y _ _ typed_as none) told = values.copies_fits x y (OfValue s) is typed_as
  row_fits (owned.loads s o is done read bare) (more _ y _ _ typed_as none) told = places.loads_fits x s o y is done read typed_as
  row_fits (owned.stores s o is done write bare) (more _ y _ _ typed_as (more _ z _ _ there none)) told = places.stores_fits x s s o y z is done (λ v good. good) typed_as there
  row_fits (owned.destroys s is done bare) (more _ y _ _ typed_as none) told = places.destroys_fits x s _ y is done typed_as
  row_fits (owned.members s ss is group) (more _ y _ _ typed_as none) told = values.members_fits x s ss y is group typed_as
