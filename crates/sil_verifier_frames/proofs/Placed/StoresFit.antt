-- What an instruction stores fits the place.
use Rattle.std.proofs.Common.{◌≡◌, ℕ, List, [], ◌∷◌, map, refl, sym, ap, ◌∙◌, subst, true, Option, Some}
use Rattle.holder_model_laws.specs.holder_model.Data.{AddressOf, Datum, ValueOf}
use Rattle.holder_model_laws.specs.holder_model.Effects.{effect_of}
use Rattle.holder_model_laws.specs.holder_model.Frames.{Entry, Operands}
use Rattle.sil_verifier_trails.specs.holder_model_typing.OwnedRunTyping.inner.OwnedTyped.{OwnedFunction, OwnedInst}
use Rattle.holder_model_laws.specs.holder_model.RunTyping.EndForms.{value_in}
use Rattle.holder_model_laws.specs.holder_model.RunTyping.Forms.{Form, OfPlace, OfValue, forms_of}
use Rattle.sil_cfg_items.specs.Items.{item_taken}
use Rattle.sil_cfg_items.specs.Parts.{inst_at}
use Rattle.holder_model_laws.specs.ownership_kinds_chains.declared.ownership_chains.facts.Facts.{Facts}
use Rattle.holder_model_values.specs.RunValues.inner.Fits.{fits}
use Rattle.holder_model_values.specs.RunValues.Memory.{Memory}
use Rattle.holder_model_values.specs.RunValues.Places.{Place}
use Rattle.holder_model_values.specs.RunValues.Values.{Value}
use Rattle.sil_ast.specs.declared.function.Function.{Function}
use Rattle.sil_ast.specs.declared.inst.Inst.{Inst}
use Rattle.sil_ast.specs.declared.module.Module.{Module}
use Rattle.sil_ast.specs.declared.place.PointId.{PointId}
use Rattle.sil_ast.specs.declared.place.ValueId.{ValueId}
use Rattle.sil_cfg.specs.declared.item.Item.TheVariants as item
use Rattle.sil_types_declarations.specs.TypeDefinitions.Declarations.{declarations_of}
use Rattle.sil_verifier_frames.proofs.Typed.Data.{DataAre, read_place, read_value}
use Rattle.sil_verifier_frames.proofs.Typed.Data as data_are
use Rattle.sil_verifier_frames.proofs.Typed.Entries.{FitEach, fit_data, operands_fit}
use Rattle.sil_verifier_frames.proofs.Typed.GoesOn.{typed_module}
use Rattle.sil_verifier_trails.specs.holder_model_typing.TypedMemory.inner.Worlds.{World, names}
use Rattle.sil_verifier_frames.specs.inner.Placed.Premises.{AreStoresFit, ReadsOperands}
use Rattle.sil_verifier_frames.proofs.Placed.RowsTyped.{Says, StoresForms, row_says}

module _ (m : Module) (number : ℕ) (f : Function) (w : World) (facts : ValueId → Option Facts) (memory : Memory) (entries : List Entry) (p : PointId) (ops : Operands)
    (s : ReadsOperands m number f w facts memory entries (item.Inst p) ops) (x : Inst) (there : inst_at f p ≡ Some x) where
  typed : OwnedFunction m f
  typed = (typed_module m s.body.verified).functions number f s.body.body.there

  inst : OwnedInst m f p x
  inst = typed.insts p x there

  -- the operands are of the forms of the row
  pub given_typed : DataAre m w (forms_of (declarations_of m) f (map value_in x.operands)) ops.given
  given_typed =
      fit_data m w f (subst (λ vs. FitEach m w f vs ops.given) inst.takes
      (operands_fit m w f facts memory (item_taken f (item.Inst p)) entries ops s.typed (typed.items (item.Inst p)).taken s.read).0)

  pub forms_say : Says m x (effect_of x.op) (forms_of (declarations_of m) f (map value_in x.operands)) (forms_of (declarations_of m) f x.results)
  forms_say = row_says m x inst.row

-- a value and the address of a place, of forms that fit
stored_fits : (m : Module) (w : World) (forms : List Form) (xs : List Datum) → DataAre m w forms xs → StoresForms forms → (y : Value) (q : Place)
    → xs ≡ ValueOf y ∷ AddressOf q ∷ [] → fits q.shape y ≡ true
stored_fits m w forms xs are says y q is = at (subst (λ ys. DataAre m w (OfValue says.value ∷ OfPlace says.place ∷ []) ys) is (subst (λ fs. DataAre m w fs xs) says.are are))
  where
    at : DataAre m w (OfValue says.value ∷ OfPlace says.place ∷ []) (ValueOf y ∷ AddressOf q ∷ []) → fits q.shape y ≡ true
    at (data_are.more _ _ _ _ given (data_are.more _ _ _ _ at_place data_are.none)) =
        let v = read_value m w given says.value refl in
        let r = read_place m w at_place says.place refl in
        let same_value : v.0 ≡ y = same_datum_value v.0 y v.1 in
        let same_place : r.0 ≡ q = same_datum_place r.0 q r.1 in
        ap (λ (z : Place). fits z.shape y) (sym same_place) ∙ ap (λ u. fits u y) r.2 ∙ ap (fits says.place) (sym same_value) ∙ says.fit (names m w) v.0 v.2
      where
        same_datum_value : (a b : Value) → ValueOf b ≡ ValueOf a → a ≡ b
        same_datum_value a b e = cc

        same_datum_place : (a b : Place) → AddressOf b ≡ AddressOf a → a ≡ b
        same_datum_place a b e = cc

pub stores_fit : AreStoresFit
stores_fit m n f w facts memory entries p ops s x there is y q given =
    stored_fits m w (forms_of (declarations_of m) f (map value_in x.operands)) ops.given
    (given_typed m n f w facts memory entries p ops s x there)
    (subst (λ r. Says m x r (forms_of (declarations_of m) f (map value_in x.operands)) (forms_of (declarations_of m) f x.results)) is
    (forms_say m n f w facts memory entries p ops s x there))
    y q given
