-- What typing says of an instruction, by what its row does: the forms of its operands, and of its results.
use Rattle.std.proofs.Common.{◌≡◌, ℕ, ℤ, List, [], ◌∷◌, true, None, Some, map, refl, sym, subst}
use Rattle.std.specs.Prelude.{option_and_then, slice_get}
use Rattle.count_machine_model.specs.holder_model.Effects.{effect_of, part_number}
use Rattle.count_machine_model.specs.holder_model.ModuleShapes.{case_place, field_shapes, shapes_of}
use Rattle.count_machine_model.specs.holder_model.declared.row_effect.RowEffect.{RowEffect}
use Rattle.count_machine_model.specs.holder_model.declared.row_effect.RowEffect.TheVariants as row
use Rattle.count_machine_model.specs.memory_rules_accesses.declared.access.Operation.{Operation}
use Rattle.count_machine_model.specs.memory_rules_accesses.declared.access.Operation.TheVariants as operation
use Rattle.numbered_form.specs.Names.{Name}
use Rattle.numbered_form.specs.inner.Literals.{is_residue}
use Rattle.count_machine_model.specs.holder_model.RunTyping.Classes.{is_a}
use Rattle.count_machine_model.specs.holder_model.RunTyping.Forms.{Form, OfFunction, OfPlace, OfValue, has_no_storage}
use Rattle.count_machine_model.specs.holder_model.RunTyping.RowForms as forms
use Rattle.count_machine_model.specs.holder_model.RunTyping.RowForms.{IsEnum, IsGroup, IsLoadOf, IsStoreOf, RowForms, bit, computed_shape, operand_shapes, operation_done}
use Rattle.count_machine_model.specs.holder_model.RunTyping.StorageForms.{FieldShapeIs, IsNamed}
use Rattle.holder_model_values.specs.RunValues.Layers.{CaseLayer}
use Rattle.holder_model_values.specs.RunValues.Shapes.{Integer, Reference, Shape, Stored, case_shapes, member_shapes}
use Rattle.sil_ast.specs.declared.decl.Storage.{Storage}
use Rattle.sil_ast.specs.declared.inst.Inst.{Inst}
use Rattle.sil_ast.specs.declared.member.Member.{Member}
use Rattle.sil_ast.specs.declared.module.Module.{Module}
use Rattle.sil_ast.specs.declared.place.FuncId.{FuncId}
use Rattle.sil_types.specs.Typing.Builtins.{Builtin, builtin_named}
use Rattle.sil_types_declarations.specs.TypeDefinitions.Declarations.{declarations_of, is_class}

module _ (m : Module) (i : Inst) where
  -- a value is stored in a place without storage, or in storage
  pub data StoreForms : List Form → List Form → Type 0 where
    plain : (s : Shape) → operation_done i ≡ Some operation.Write → has_no_storage s ≡ true → StoreForms (OfValue s ∷ OfPlace s ∷ []) []
    named : (w : Storage) (s : Shape) (o : Operation) → IsNamed w s → operation_done i ≡ Some o → IsStoreOf o → StoreForms (OfValue s ∷ OfPlace (Stored w s) ∷ []) []

  -- a case has no payload, or one
  pub data ChoiceForms : List Form → List Form → Type 0 where
    plain : (s : Shape) (k : ℕ) (c : CaseLayer Shape) → IsEnum s → case_place s i.member ≡ Some k → slice_get (case_shapes s) k ≡ Some c → c.payload ≡ None
        → ChoiceForms [] (OfValue s ∷ [])
    full : (s payload : Shape) (k : ℕ) (c : CaseLayer Shape) → IsEnum s → case_place s i.member ≡ Some k → slice_get (case_shapes s) k ≡ Some c
        → c.payload ≡ Some payload → ChoiceForms (OfValue payload ∷ []) (OfValue s ∷ [])

  abbrev pub FormsAt : RowEffect → List Form → List Form → Type 0
  FormsAt row.NoEffect ins outs = (outs ≡ [])
  FormsAt row.GivesLiteral ins outs = (n : ℤ) × (w : ℕ) × (i.number ≡ Some n) × (is_residue w n ≡ true) × (ins ≡ []) × (outs ≡ OfValue (Integer w) ∷ [])
  FormsAt row.GivesFunction ins outs = (g : FuncId) × (i.function ≡ Some g) × (ins ≡ []) × (outs ≡ OfFunction g ∷ [])
  FormsAt row.Computes ins outs =
      (b : Builtin) × (option_and_then builtin_named i.text ≡ Some b) × (ins ≡ map OfValue (operand_shapes b)) × (outs ≡ OfValue (computed_shape b) ∷ [])
  FormsAt row.TrapsWhereSet ins outs = (text : List ℕ) × (i.text ≡ Some text) × (ins ≡ OfValue bit ∷ []) × (outs ≡ [])
  FormsAt row.MakesObject ins outs = (class : Name) × (is_class (declarations_of m) class ≡ true) × (ins ≡ []) × (outs ≡ OfValue (Reference class) ∷ [])
  FormsAt row.MakesSlot ins outs = (w : Storage) × (s : Shape) × FieldShapeIs w s × (ins ≡ []) × (outs ≡ OfPlace s ∷ [])
  FormsAt row.RemovesSlot ins outs = (s : Shape) × (ins ≡ OfPlace s ∷ []) × (outs ≡ [])
  FormsAt row.GivesOperand ins outs =
      (class : Name) × (above : Name) × (is_a (declarations_of m) class above ≡ true) × (ins ≡ OfValue (Reference class) ∷ []) × (outs ≡ OfValue (Reference above) ∷ [])
  FormsAt row.CopiesOperand ins outs = ⊥
  FormsAt row.RetainsOperand ins outs = (s : Shape) × (ins ≡ OfValue s ∷ []) × (outs ≡ [])
  FormsAt row.DropsOperand ins outs = (s : Shape) × (ins ≡ OfValue s ∷ []) × (outs ≡ [])
  FormsAt row.LoadsValue ins outs =
      (s : Shape) × (operation_done i ≡ Some operation.Read) × (has_no_storage s ≡ true) × (ins ≡ OfPlace s ∷ []) × (outs ≡ OfValue s ∷ [])
  FormsAt row.StoresValue ins outs = StoreForms ins outs
  FormsAt row.DestroysPlace ins outs = (w : Storage) × (s : Shape) × IsNamed w s × (operation_done i ≡ Some operation.Take) × (ins ≡ OfPlace (Stored w s) ∷ []) × (outs ≡ [])
  FormsAt row.LoadsName ins outs =
      (w : Storage) × (s : Shape) × (o : Operation) × IsNamed w s × (operation_done i ≡ Some o) × IsLoadOf o × (ins ≡ OfPlace (Stored w s) ∷ []) × (outs ≡ OfValue s ∷ [])
  FormsAt row.Groups ins outs = (s : Shape) × (ss : List Shape) × IsGroup s ss × (ins ≡ map OfValue ss) × (outs ≡ OfValue s ∷ [])
  FormsAt row.ChoosesCase ins outs = ChoiceForms ins outs
  FormsAt row.GivesMember ins outs = (s : Shape) × (part : Shape) × (k : ℕ) × (part_number (declarations_of m) i ≡ Some k) × (slice_get (member_shapes s) k ≡ Some part)
      × (ins ≡ OfValue s ∷ []) × (outs ≡ OfValue part ∷ [])
  FormsAt row.GivesMembers ins outs = ⊥
  FormsAt row.AddressesMember ins outs = (s : Shape) × (part : Shape) × (k : ℕ) × (part_number (declarations_of m) i ≡ Some k) × (slice_get (member_shapes s) k ≡ Some part)
      × (ins ≡ OfPlace s ∷ []) × (outs ≡ OfPlace part ∷ [])
  FormsAt row.AddressesField ins outs = (named : Member) × (s : Shape) × (k : ℕ) × (i.member ≡ Some named) × (part_number (declarations_of m) i ≡ Some k)
      × (slice_get (field_shapes (shapes_of m) named.owner) k ≡ Some s) × (ins ≡ OfValue (Reference named.owner) ∷ []) × (outs ≡ OfPlace s ∷ [])
  FormsAt row.CallsFunction ins outs = Unit {0}

  pub forms_at : {ins outs : List Form} → RowForms m i ins outs → FormsAt (effect_of i.op) ins outs
  forms_at {ins = ins} {outs = outs} (forms.looks form e) = subst (λ r. FormsAt r ins outs) (sym e) refl
  forms_at {ins = ins} {outs = outs} (forms.literal n w e number within) = subst (λ r. FormsAt r ins outs) (sym e) (n, w, number, within, refl, refl)
  forms_at {ins = ins} {outs = outs} (forms.function g e is) = subst (λ r. FormsAt r ins outs) (sym e) (g, is, refl, refl)
  forms_at {ins = ins} {outs = outs} (forms.computes b e is) = subst (λ r. FormsAt r ins outs) (sym e) (b, is, refl, refl)
  forms_at {ins = ins} {outs = outs} (forms.traps text e is) = subst (λ r. FormsAt r ins outs) (sym e) (text, is, refl, refl)
  forms_at {ins = ins} {outs = outs} (forms.object class e is) = subst (λ r. FormsAt r ins outs) (sym e) (class, is, refl, refl)
  forms_at {ins = ins} {outs = outs} (forms.slot w s e is) = subst (λ r. FormsAt r ins outs) (sym e) (w, s, is, refl, refl)
  forms_at {ins = ins} {outs = outs} (forms.removes s e) = subst (λ r. FormsAt r ins outs) (sym e) (s, refl, refl)
  forms_at {ins = ins} {outs = outs} (forms.upcast class above e is) = subst (λ r. FormsAt r ins outs) (sym e) (class, above, is, refl, refl)
  forms_at {ins = ins} {outs = outs} (forms.retains s e bare) = subst (λ r. FormsAt r ins outs) (sym e) (s, refl, refl)
  forms_at {ins = ins} {outs = outs} (forms.drops s e bare) = subst (λ r. FormsAt r ins outs) (sym e) (s, refl, refl)
  forms_at {ins = ins} {outs = outs} (forms.loads s e done bare) = subst (λ r. FormsAt r ins outs) (sym e) (s, done, bare, refl, refl)
  forms_at {ins = ins} {outs = outs} (forms.stores s e done bare) = subst (λ r. FormsAt r ins outs) (sym e) (StoreForms.plain s done bare)
  forms_at {ins = ins} {outs = outs} (forms.loads_name w s o e is done load) = subst (λ r. FormsAt r ins outs) (sym e) (w, s, o, is, done, load, refl, refl)
  forms_at {ins = ins} {outs = outs} (forms.stores_name w s o e is done store) = subst (λ r. FormsAt r ins outs) (sym e) (StoreForms.named w s o is done store)
  forms_at {ins = ins} {outs = outs} (forms.destroys_name w s e is done) = subst (λ r. FormsAt r ins outs) (sym e) (w, s, is, done, refl, refl)
  forms_at {ins = ins} {outs = outs} (forms.groups s ss e is) = subst (λ r. FormsAt r ins outs) (sym e) (s, ss, is, refl, refl)
  forms_at {ins = ins} {outs = outs} (forms.chooses_plain s k c e is at there none) = subst (λ r. FormsAt r ins outs) (sym e) (ChoiceForms.plain s k c is at there none)
  forms_at {ins = ins} {outs = outs} (forms.chooses_full s payload k c e is at there has) =
      subst (λ r. FormsAt r ins outs) (sym e) (ChoiceForms.full s payload k c is at there has)
  forms_at {ins = ins} {outs = outs} (forms.member s part k e at there) = subst (λ r. FormsAt r ins outs) (sym e) (s, part, k, at, there, refl, refl)
  forms_at {ins = ins} {outs = outs} (forms.member_address s part k e at there) = subst (λ r. FormsAt r ins outs) (sym e) (s, part, k, at, there, refl, refl)
  forms_at {ins = ins} {outs = outs} (forms.field_address class told s k e is owner at there) =
      subst (λ r. FormsAt r ins outs) (sym e) (
        told,
        s,
        k,
        is,
        at,
        subst (λ c. slice_get (field_shapes (shapes_of m) c) k ≡ Some s) (sym owner) there,
        subst (λ c. OfValue (Reference class) ∷ [] ≡ OfValue (Reference c) ∷ []) (sym owner) refl,
        refl,
      )
  forms_at {ins = ins} {outs = outs} (forms.calls g callee e there bodied) = subst (λ r. FormsAt r ins outs) (sym e) tt
  forms_at {ins = ins} {outs = outs} (forms.calls_out g callee widths e there bodiless) = subst (λ r. FormsAt r ins outs) (sym e) tt
