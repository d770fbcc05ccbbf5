-- What the forms of an instruction say by its row: of an operand that is a value, of an address that is made, and of what is stored.
use Rattle.std.proofs.Common.{◌≡◌, List, [], ◌∷◌, refl, sym, subst, true}
use Rattle.sil_verifier_frames.specs.holder_model.Effects.{effect_of}
use Rattle.sil_verifier_frames.specs.holder_model.declared.row_effect.RowEffect.{RowEffect}
use Rattle.sil_verifier_frames.specs.holder_model.declared.row_effect.RowEffect.TheVariants as row
use Rattle.sil_verifier_frames.specs.holder_model.RunTyping.Forms.{Form, OfPlace, OfValue}
use Rattle.sil_verifier_frames.specs.holder_model.RunTyping.RowForms.{RowForms}
use Rattle.sil_verifier_frames.specs.holder_model.RunTyping.RowForms as rows
use Rattle.sil_verifier_frames.specs.holder_model_typing.OwnedRunTyping.inner.OwnedRows.{OwnedRowForms}
use Rattle.sil_verifier_frames.specs.holder_model_typing.OwnedRunTyping.inner.OwnedRows as owned
use Rattle.holder_model_values.specs.RunValues.inner.Fits.{fits}
use Rattle.holder_model_values.specs.RunValues.Shapes.{Reference, Shape, Stored}
use Rattle.holder_model_values.specs.RunValues.Values.{Value}
use Rattle.sil_ast.specs.declared.inst.Inst.{Inst}
use Rattle.sil_ast.specs.declared.module.Module.{Module}
use Rattle.sil_verifier_frames.proofs.holder_model_typing.TypedMemory.StoredValues.{named_suits_storage}
use Rattle.holder_model_values.proofs.ValueParts.Suiting.{suits_fits}
use Rattle.holder_model_values.specs.ValueParts.inner.Suits.{ClassTest, suits}

-- one form, of a value or of a place
abbrev pub OneValue : List Form → Type 0
OneValue xs = (s : Shape) × (xs ≡ OfValue s ∷ [])

abbrev pub OnePlace : List Form → Type 0
OnePlace ys = (s : Shape) × (ys ≡ OfPlace s ∷ [])

-- a value and the place that it is stored at, which it fits
pub record StoresForms (xs : List Form) : Type 0 where
  pub value : Shape
  pub place : Shape
  pub are : xs ≡ OfValue value ∷ OfPlace place ∷ []
  pub fit : (test : ClassTest) (v : Value) → suits test value v ≡ true → fits place v ≡ true

abbrev pub Says : RowEffect → List Form → List Form → Type 0
Says row.GivesOperand xs ys = OneValue xs
Says row.CopiesOperand xs ys = OneValue xs
Says row.RetainsOperand xs ys = OneValue xs
Says row.DropsOperand xs ys = OneValue xs
Says row.StoresValue xs ys = StoresForms xs
Says row.AddressesMember xs ys = OnePlace ys
Says row.AddressesField xs ys = OnePlace ys
Says _ xs ys = Unit {0}

module _ (m : Module) (x : Inst) where
  by : (e : RowEffect) (xs ys : List Form) → effect_of x.op ≡ e → Says e xs ys → Says (effect_of x.op) xs ys
  by e xs ys is h = subst (λ r. Says r xs ys) (sym is) h

  lowered_says : (xs ys : List Form) → RowForms m x xs ys → Says (effect_of x.op) xs ys
  lowered_says xs ys (rows.looks form e) = by row.NoEffect xs ys e tt
  lowered_says xs ys (rows.literal n w e num res) = by row.GivesLiteral xs ys e tt
  lowered_says xs ys (rows.function g e is) = by row.GivesFunction xs ys e tt
  lowered_says xs ys (rows.computes b e is) = by row.Computes xs ys e tt
  lowered_says xs ys (rows.traps text e is) = by row.TrapsWhereSet xs ys e tt
  lowered_says xs ys (rows.object class e is) = by row.MakesObject xs ys e tt
  lowered_says xs ys (rows.slot w t e is) = by row.MakesSlot xs ys e tt
  lowered_says xs ys (rows.removes t e) = by row.RemovesSlot xs ys e tt
  lowered_says xs ys (rows.upcast class above e is) = by row.GivesOperand xs ys e (Reference class, refl)
  lowered_says xs ys (rows.retains t e none) = by row.RetainsOperand xs ys e (t, refl)
  lowered_says xs ys (rows.drops t e none) = by row.DropsOperand xs ys e (t, refl)
  lowered_says xs ys (rows.loads t e done none) = by row.LoadsValue xs ys e tt
  lowered_says xs ys (rows.stores t e done none) =
      by row.StoresValue xs ys e (record { value = t; place = t; are = refl; fit = λ test v good. suits_fits test t v good })
  lowered_says xs ys (rows.loads_name w t o e named done is) = by row.LoadsName xs ys e tt
  lowered_says xs ys (rows.stores_name w t o e named done is) = by row.StoresValue xs ys e (record {
    value = t;
    place = Stored w t;
    are = refl;
    fit = λ test v good. suits_fits test (Stored w t) v (named_suits_storage test w t v named good);
  })
  lowered_says xs ys (rows.destroys_name w t e named done) = by row.DestroysPlace xs ys e tt
  lowered_says xs ys (rows.groups t ss e is) = by row.Groups xs ys e tt
  lowered_says xs ys (rows.chooses_plain t j c e is place there none) = by row.ChoosesCase xs ys e tt
  lowered_says xs ys (rows.chooses_full t payload j c e is place there full) = by row.ChoosesCase xs ys e tt
  lowered_says xs ys (rows.member t part j e number there) = by row.GivesMember xs ys e tt
  lowered_says xs ys (rows.member_address t part j e number there) = by row.AddressesMember xs ys e (part, refl)
  lowered_says xs ys (rows.field_address class named t j e is owner number there) = by row.AddressesField xs ys e (t, refl)
  lowered_says xs ys (rows.calls g callee e there some) = by row.CallsFunction xs ys e tt
  lowered_says xs ys (rows.calls_out g callee widths e there none) = by row.CallsFunction xs ys e tt

  pub row_says : (xs ys : List Form) → OwnedRowForms m x xs ys → Says (effect_of x.op) xs ys
  row_says xs ys (owned.also_lowered _ _ r) = lowered_says xs ys r
  row_says xs ys (owned.gives t e none) = by row.GivesOperand xs ys e (t, refl)
  row_says xs ys (owned.copies t e none) = by row.CopiesOperand xs ys e (t, refl)
  row_says xs ys (owned.loads t o e done is none) = by row.LoadsValue xs ys e tt
  row_says xs ys (owned.stores t o e done is none) =
      by row.StoresValue xs ys e (record { value = t; place = t; are = refl; fit = λ test v good. suits_fits test t v good })
  row_says xs ys (owned.destroys t e done none) = by row.DestroysPlace xs ys e tt
  row_says xs ys (owned.members t ss e is) = by row.GivesMembers xs ys e tt

  -- by what the row does
  pub says_by : (e : RowEffect) → effect_of x.op ≡ e → (xs ys : List Form) → OwnedRowForms m x xs ys → Says e xs ys
  says_by e is xs ys r = subst (λ q. Says q xs ys) is (row_says xs ys r)
