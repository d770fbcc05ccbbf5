-- What typing says of the operands and results of rows that name places, store, or call.
use Rattle.std.proofs.Common.{◌≡◌, ℕ, List, [], ◌∷◌, refl, sym, subst, true, Some, slice_get}
use Rattle.holder_model_laws.specs.holder_model.Effects.{effect_of, part_number}
use Rattle.holder_model_laws.specs.holder_model.declared.row_effect.RowEffect.{RowEffect}
use Rattle.holder_model_laws.specs.holder_model.declared.row_effect.RowEffect.TheVariants as row
use Rattle.sil_verifier_trails.specs.holder_model_typing.OwnedRunTyping.inner.OwnedRows.{OwnedRowForms}
use Rattle.holder_model_laws.specs.holder_model.RunTyping.Forms.{Form, OfFunction, OfPlace, OfValue}
use Rattle.holder_model_laws.specs.holder_model.RunTyping.RowForms.{RowForms}
use Rattle.holder_model_values.specs.RunValues.inner.Fits.{fits}
use Rattle.holder_model_values.specs.RunValues.Shapes.{Shape, Stored, member_shapes}
use Rattle.holder_model_values.specs.RunValues.Values.{Value}
use Rattle.sil_ast.specs.declared.inst.Inst.{Inst}
use Rattle.sil_ast.specs.declared.module.Module.{Module}
use Rattle.sil_ast.specs.declared.place.FuncId.{FuncId}
use Rattle.sil_types_declarations.specs.TypeDefinitions.Declarations.{declarations_of}
use Rattle.sil_verifier_trails.proofs.holder_model_typing.TypedMemory.StoredValues.{named_suits_storage}
use Rattle.holder_model_values.proofs.ValueParts.Suiting.{suits_fits}
use Rattle.holder_model_values.specs.ValueParts.inner.Suits.{ClassTest, suits}

-- what is stored fits the place
pub record StoresForms (xs : List Form) : Type 0 where
  pub value : Shape
  pub place : Shape
  pub are : xs ≡ OfValue value ∷ OfPlace place ∷ []
  pub fit : (test : ClassTest) (v : Value) → suits test value v ≡ true → fits place v ≡ true

-- a member of what is at an address is at one
pub record MemberForms (m : Module) (i : Inst) (xs ys : List Form) : Type 0 where
  pub whole : Shape
  pub part : Shape
  pub number : ℕ
  pub are : xs ≡ OfPlace whole ∷ []
  pub give : ys ≡ OfPlace part ∷ []
  pub number_is : part_number (declarations_of m) i ≡ Some number
  pub member : slice_get (member_shapes whole) number ≡ Some part

-- a function is called
pub record CallForms (xs : List Form) : Type 0 where
  pub callee : FuncId
  pub others : List Form
  pub are : xs ≡ OfFunction callee ∷ others

module _ (m : Module) (i : Inst) where
  abbrev pub Says : RowEffect → List Form → List Form → Type 0
  Says row.StoresValue xs ys = StoresForms xs
  Says row.AddressesMember xs ys = MemberForms m i xs ys
  Says row.CallsFunction xs ys = CallForms xs
  Says r xs ys = Unit {0}

  by : (r : RowEffect) (xs ys : List Form) → effect_of i.op ≡ r → Says r xs ys → Says (effect_of i.op) xs ys
  by r xs ys e h = subst (λ q. Says q xs ys) (sym e) h

  lowered_says : {xs ys : List Form} → RowForms m i xs ys → Says (effect_of i.op) xs ys
  lowered_says {xs = xs} {ys = ys} (RowForms.looks form e) = by row.NoEffect xs ys e tt
  lowered_says {xs = xs} {ys = ys} (RowForms.literal n w e number residue) = by row.GivesLiteral xs ys e tt
  lowered_says {xs = xs} {ys = ys} (RowForms.function g e is) = by row.GivesFunction xs ys e tt
  lowered_says {xs = xs} {ys = ys} (RowForms.computes b e named) = by row.Computes xs ys e tt
  lowered_says {xs = xs} {ys = ys} (RowForms.traps text e is) = by row.TrapsWhereSet xs ys e tt
  lowered_says {xs = xs} {ys = ys} (RowForms.object class e is) = by row.MakesObject xs ys e tt
  lowered_says {xs = xs} {ys = ys} (RowForms.slot w s e is) = by row.MakesSlot xs ys e tt
  lowered_says {xs = xs} {ys = ys} (RowForms.removes s e) = by row.RemovesSlot xs ys e tt
  lowered_says {xs = xs} {ys = ys} (RowForms.upcast class above e is) = by row.GivesOperand xs ys e tt
  lowered_says {xs = xs} {ys = ys} (RowForms.retains s e bare) = by row.RetainsOperand xs ys e tt
  lowered_says {xs = xs} {ys = ys} (RowForms.drops s e bare) = by row.DropsOperand xs ys e tt
  lowered_says {xs = xs} {ys = ys} (RowForms.loads s e done bare) = by row.LoadsValue xs ys e tt
  lowered_says {xs = xs} {ys = ys} (RowForms.stores s e done bare) =
      by row.StoresValue xs ys e (record { value = s; place = s; are = refl; fit = λ test v good. suits_fits test s v good })
  lowered_says {xs = xs} {ys = ys} (RowForms.loads_name w s o e named done is) = by row.LoadsName xs ys e tt
  lowered_says {xs = xs} {ys = ys} (RowForms.stores_name w s o e named done is) =
      by row.StoresValue xs ys e (record {
        value = s;
        place = Stored w s;
        are = refl;
        fit = λ test v good. suits_fits test (Stored w s) v (named_suits_storage test w s v named good);
      })
  lowered_says {xs = xs} {ys = ys} (RowForms.destroys_name w s e named done) = by row.DestroysPlace xs ys e tt
  lowered_says {xs = xs} {ys = ys} (RowForms.groups s ss e is) = by row.Groups xs ys e tt
  lowered_says {xs = xs} {ys = ys} (RowForms.chooses_plain s k c e is place there none) = by row.ChoosesCase xs ys e tt
  lowered_says {xs = xs} {ys = ys} (RowForms.chooses_full s payload k c e is place there some) = by row.ChoosesCase xs ys e tt
  lowered_says {xs = xs} {ys = ys} (RowForms.member s part k e number there) = by row.GivesMember xs ys e tt
  lowered_says {xs = xs} {ys = ys} (RowForms.member_address s part k e number there) =
      by row.AddressesMember xs ys e (record { whole = s; part = part; number = k; are = refl; give = refl; number_is = number; member = there })
  lowered_says {xs = xs} {ys = ys} (RowForms.field_address class named s k e is owner number there) = by row.AddressesField xs ys e tt
  lowered_says {xs = xs} {ys = ys} (RowForms.calls g callee e there bodied) = by row.CallsFunction xs ys e (record { callee = g; others = _; are = refl })
  lowered_says {xs = xs} {ys = ys} (RowForms.calls_out g callee widths e there bare) = by row.CallsFunction xs ys e (record { callee = g; others = _; are = refl })

  pub row_says : {xs ys : List Form} → OwnedRowForms m i xs ys → Says (effect_of i.op) xs ys
  row_says (OwnedRowForms.also_lowered xs ys r) = lowered_says r
  row_says {xs = xs} {ys = ys} (OwnedRowForms.gives s e bare) = by row.GivesOperand xs ys e tt
  row_says {xs = xs} {ys = ys} (OwnedRowForms.copies s e bare) = by row.CopiesOperand xs ys e tt
  row_says {xs = xs} {ys = ys} (OwnedRowForms.loads s o e done is bare) = by row.LoadsValue xs ys e tt
  row_says {xs = xs} {ys = ys} (OwnedRowForms.stores s o e done is bare) =
      by row.StoresValue xs ys e (record { value = s; place = s; are = refl; fit = λ test v good. suits_fits test s v good })
  row_says {xs = xs} {ys = ys} (OwnedRowForms.destroys s e done bare) = by row.DestroysPlace xs ys e tt
  row_says {xs = xs} {ys = ys} (OwnedRowForms.members s ss e is) = by row.GivesMembers xs ys e tt
