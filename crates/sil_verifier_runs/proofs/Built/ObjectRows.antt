-- The rows of the instructions that make an object, hand one on, or name a field of one: the classes of what they take and give.
use Rattle.std.proofs.Common.{◌≡◌, ℕ, zero, suc, List, [], ◌∷◌, refl, sym, ap, ◌∙◌, subst, Bool, true, false, Some}
use Rattle.std.specs.Prelude.{slice_get}
use Rattle.std.proofs.lemmas.Bool.{false≢true}
use Rattle.std.proofs.lemmas.Option.{same_Some}
use Rattle.numbered_form.specs.Names.{Name}
use Rattle.sil_verifier_frames.specs.holder_model.Effects.{effect_of, part_number}
use Rattle.sil_verifier_frames.specs.holder_model.ModuleShapes.{field_shapes, shapes_of}
use Rattle.sil_verifier_frames.specs.holder_model.declared.row_effect.RowEffect.{RowEffect}
use Rattle.sil_verifier_frames.specs.holder_model.declared.row_effect.RowEffect.TheVariants as row
use Rattle.sil_verifier_frames.specs.holder_model_typing.OwnedRunTyping.inner.OwnedRows as owned
use Rattle.sil_verifier_frames.specs.holder_model_typing.OwnedRunTyping.inner.OwnedRows.{OwnedRowForms}
use Rattle.sil_verifier_frames.specs.holder_model.RunTyping.Classes.{ClassesAreSound, is_a}
use Rattle.sil_verifier_frames.specs.holder_model.RunTyping.Forms.{Form, OfPlace, OfValue}
use Rattle.sil_verifier_frames.specs.holder_model.RunTyping.RowForms as rows
use Rattle.sil_verifier_frames.specs.holder_model.RunTyping.RowForms.{RowForms}
use Rattle.holder_model_values.specs.RunValues.Shapes.{Reference, Shape}
use Rattle.sil_ast.specs.declared.inst.Inst.{Inst}
use Rattle.sil_ast.specs.declared.member.Member.{Member}
use Rattle.sil_ast.specs.declared.module.Module.{Module}
use Rattle.sil_types_declarations.specs.TypeDefinitions.Declarations.{Declarations, declarations_of, is_class}

-- what a row does with objects
abbrev pub of_objects : RowEffect → Bool
of_objects row.MakesObject = true
of_objects row.GivesOperand = true
of_objects row.AddressesField = true
of_objects _ = false

module _ (m : Module) (i : Inst) where
  abbrev d : Declarations
  d = declarations_of m

  pub data ObjectRow : List Form → List Form → Type 0 where
    makes : (class : Name) → effect_of i.op ≡ row.MakesObject → is_class d class ≡ true → ObjectRow [] (OfValue (Reference class) ∷ [])
    gives : (s : Shape) → effect_of i.op ≡ row.GivesOperand → ObjectRow (OfValue s ∷ []) (OfValue s ∷ [])
    upcasts : (class above : Name) → effect_of i.op ≡ row.GivesOperand → is_a d class above ≡ true
        → ObjectRow (OfValue (Reference class) ∷ []) (OfValue (Reference above) ∷ [])
    names : (class : Name) (member : Member) (s : Shape) (k : ℕ) → effect_of i.op ≡ row.AddressesField → i.member ≡ Some member → member.owner ≡ class
        → part_number d i ≡ Some k → slice_get (field_shapes (shapes_of m) class) k ≡ Some s → ObjectRow (OfValue (Reference class) ∷ []) (OfPlace s ∷ [])

  abbrev IsOfObjects : Type 0
  IsOfObjects = of_objects (effect_of i.op) ≡ true

  other : {P : Type 0} (e : RowEffect) → effect_of i.op ≡ e → of_objects e ≡ false → IsOfObjects → P
  other e is off h = absurd (false≢true (sym off ∙ sym (ap of_objects is) ∙ h))

  of_lowered : (xs ys : List Form) → RowForms m i xs ys → IsOfObjects → ObjectRow xs ys
  of_lowered _ _ (rows.looks form e) h = other row.NoEffect e refl h
  of_lowered _ _ (rows.literal n w e num res) h = other row.GivesLiteral e refl h
  of_lowered _ _ (rows.function g e is) h = other row.GivesFunction e refl h
  of_lowered _ _ (rows.computes b e is) h = other row.Computes e refl h
  of_lowered _ _ (rows.traps text e is) h = other row.TrapsWhereSet e refl h
  of_lowered _ _ (rows.object class e is) h = makes class e is
  of_lowered _ _ (rows.slot w t e is) h = other row.MakesSlot e refl h
  of_lowered _ _ (rows.removes t e) h = other row.RemovesSlot e refl h
  of_lowered _ _ (rows.upcast class above e is) h = upcasts class above e is
  of_lowered _ _ (rows.retains t e none) h = other row.RetainsOperand e refl h
  of_lowered _ _ (rows.drops t e none) h = other row.DropsOperand e refl h
  of_lowered _ _ (rows.loads t e done none) h = other row.LoadsValue e refl h
  of_lowered _ _ (rows.stores t e done none) h = other row.StoresValue e refl h
  of_lowered _ _ (rows.loads_name w t o e named done is) h = other row.LoadsName e refl h
  of_lowered _ _ (rows.stores_name w t o e named done is) h = other row.StoresValue e refl h
  of_lowered _ _ (rows.destroys_name w t e named done) h = other row.DestroysPlace e refl h
  of_lowered _ _ (rows.groups t ss e is) h = other row.Groups e refl h
  of_lowered _ _ (rows.chooses_plain t j c e is place there none) h = other row.ChoosesCase e refl h
  of_lowered _ _ (rows.chooses_full t payload j c e is place there full) h = other row.ChoosesCase e refl h
  of_lowered _ _ (rows.member t part j e number there) h = other row.GivesMember e refl h
  of_lowered _ _ (rows.member_address t part j e number there) h = other row.AddressesMember e refl h
  of_lowered _ _ (rows.field_address class named t j e is owner number there) h = names class named t j e is owner number there
  of_lowered _ _ (rows.calls g callee e there some) h = other row.CallsFunction e refl h
  of_lowered _ _ (rows.calls_out g callee widths e there none) h = other row.CallsFunction e refl h

  pub object_row : (xs ys : List Form) → OwnedRowForms m i xs ys → IsOfObjects → ObjectRow xs ys
  object_row _ _ (owned.also_lowered xs ys r) h = of_lowered xs ys r h
  object_row _ _ (owned.gives t e none) h = gives t e
  object_row _ _ (owned.copies t e none) h = other row.CopiesOperand e refl h
  object_row _ _ (owned.loads t o e done is none) h = other row.LoadsValue e refl h
  object_row _ _ (owned.stores t o e done is none) h = other row.StoresValue e refl h
  object_row _ _ (owned.destroys t e done none) h = other row.DestroysPlace e refl h
  object_row _ _ (owned.members t ss e is) h = other row.GivesMembers e refl h

  -- ---- by what they do

  -- the first operand and a result, where an object is handed on
  pub handed : ClassesAreSound m → (xs ys : List Form) → ObjectRow xs ys → effect_of i.op ≡ row.GivesOperand
      → (class : Name) → slice_get xs 0 ≡ Some (OfValue (Reference class)) → (k : ℕ) (form : Form) → slice_get ys k ≡ Some form
      → (above : Name) × (form ≡ OfValue (Reference above)) × (is_a d class above ≡ true)
  handed sound _ _ (makes own e is) effect class first k form at = cc
  handed sound _ _ (gives s e) effect class first zero form at =
      let same : form ≡ OfValue (Reference class) = cc in (class, same, sound.itself class)
  handed sound _ _ (gives s e) effect class first (suc k) form at = cc
  handed sound _ _ (upcasts own above e is) effect class first zero form at =
      let same : own ≡ class = cc in
      let given : form ≡ OfValue (Reference above) = cc in
      (above, given, subst (λ c. is_a d c above ≡ true) same is)
  handed sound _ _ (upcasts own above e is) effect class first (suc k) form at = cc
  handed sound _ _ (names own member s k e is owner number there) effect class first j form at = cc

  -- an object that is made is the one result
  pub made : (xs ys : List Form) → ObjectRow xs ys → effect_of i.op ≡ row.MakesObject → (k : ℕ) (form : Form) → slice_get ys k ≡ Some form → k ≡ 0
  made _ _ (makes class e is) effect zero form at = refl
  made _ _ (makes class e is) effect (suc k) form at = cc
  made _ _ (gives s e) effect k form at = cc
  made _ _ (upcasts own above e is) effect k form at = cc
  made _ _ (names own member s j e is owner number there) effect k form at = cc

  -- a field that is named is one of the class of the first operand
  pub named : (xs ys : List Form) → ObjectRow xs ys → effect_of i.op ≡ row.AddressesField → (class : Name) → slice_get xs 0 ≡ Some (OfValue (Reference class))
      → (s : Shape) × (k : ℕ) × (part_number d i ≡ Some k) × (slice_get (field_shapes (shapes_of m) class) k ≡ Some s)
  named _ _ (makes own e is) effect class first = cc
  named _ _ (gives s e) effect class first = cc
  named _ _ (upcasts own above e is) effect class first = cc
  named _ _ (names own member s k e is owner number there) effect class first =
      let same : own ≡ class = cc in (s, k, number, subst (λ c. slice_get (field_shapes (shapes_of m) c) k ≡ Some s) same there)

  -- and that class declares it
  pub declared : (xs ys : List Form) → ObjectRow xs ys → effect_of i.op ≡ row.AddressesField → (member : Member) → i.member ≡ Some member
      → (form : Form) → slice_get xs 0 ≡ Some form → form ≡ OfValue (Reference member.owner)
  declared _ _ (makes own e is) effect member at form first = cc
  declared _ _ (gives s e) effect member at form first = cc
  declared _ _ (upcasts own above e is) effect member at form first = cc
  declared _ _ (names own other s k e is owner number there) effect member at form first =
      let given : form ≡ OfValue (Reference own) = cc in
      let same : other ≡ member = same_Some other member (sym is ∙ at) in
      given ∙ ap (λ c. OfValue (Reference c)) (sym owner ∙ ap (λ (x : Member). x.owner) same)
