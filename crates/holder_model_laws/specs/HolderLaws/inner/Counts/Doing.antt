-- What an instruction leaves where it leaves something: row by row, with the operands that it was given.
use Rattle.std.specs.Prelude.{◌≡◌, ℕ, List, [], ◌∷◌, true, cond, map, Some}
use Rattle.numbered_form.specs.Names.{Name}
use Rattle.sil_ast.specs.declared.inst.Inst.{Inst}
use Rattle.sil_ast.specs.declared.place.ObjectId.{ObjectId}
use Rattle.sil_types_declarations.specs.TypeDefinitions.Declarations.{Declarations}
use Rattle.holder_model.specs.holder_model_values.RunValues.Memory.{Memory, new_object}
use Rattle.holder_model.specs.holder_model_values.RunValues.Places.{Inside, OnStack, Place, filled, member_place, removed, value_at}
use Rattle.holder_model.specs.holder_model_values.RunValues.Shapes.{Shape}
use Rattle.holder_model.specs.holder_model_values.RunValues.Values as value
use Rattle.holder_model.specs.holder_model_values.RunValues.Values.{Value, grouped, members_of, object_of, references_of}
use Rattle.memory_rules_parts.specs.memory_rules_accesses.declared.access.Operation.{Operation}
use Rattle.holder_model.specs.declared.row_effect.RowEffect.TheVariants as row
use Rattle.holder_model.specs.Data.{AddressOf, Datum, ValueOf, references_in, values_of}
use Rattle.holder_model.specs.Effects as effects
use Rattle.holder_model.specs.Effects.{Change, ClosesSlot, OpensSlot, effect_of, member_of, unchanged}
use Rattle.holder_model.specs.MemoryEffects.{after, all_live, copies_with, effect, operation_done, references_at}
use Rattle.holder_model.specs.ModuleShapes.{ModuleShapes, field_shapes}
use Rattle.holder_model_laws.specs.HolderLaws.inner.Counts.Keeping.{with_new_object, with_new_slot}

-- results, and nothing else
abbrev pub giving : Memory → List Datum → Change
giving m xs = record (unchanged m) { results = xs }

module _ (d : Declarations) (shapes : ModuleShapes) (values : List Shape) (m : Memory) (i : Inst) (xs : List Datum) where
  pub data Leaves : Change → Type 0 where
    nothing : Leaves (unchanged m)
    -- a value that names no object
    bare : (x : Datum) → references_in x ≡ [] → Leaves (giving m (x ∷ []))
    object : (class : Name) → effect_of i.op ≡ row.MakesObject
        → Leaves (record (unchanged m) { results = ValueOf (value.Object (new_object m)) ∷ []; memory = with_new_object m class (field_shapes shapes class) })
    slot : (s : Shape) (p : Place) → effect_of i.op ≡ row.MakesSlot → p.home ≡ OnStack
        → Leaves (record (unchanged m) { results = AddressOf p ∷ []; memory = with_new_slot m s; slots = OpensSlot p })
    removes : (p : Place) → effect_of i.op ≡ row.RemovesSlot → xs ≡ AddressOf p ∷ []
        → Leaves (record (unchanged (removed m p)) { slots = ClosesSlot p })
    gives : (x : Datum) → effect_of i.op ≡ row.GivesOperand → xs ≡ x ∷ [] → Leaves (giving m (x ∷ []))
    copies : (x : Datum) → effect_of i.op ≡ row.CopiesOperand → xs ≡ x ∷ [] → Leaves (record (unchanged m) { results = x ∷ []; retained = references_in x })
    retains : (x : Datum) → effect_of i.op ≡ row.RetainsOperand → xs ≡ x ∷ [] → Leaves (record (unchanged m) { retained = references_in x })
    drops : (x : Datum) → effect_of i.op ≡ row.DropsOperand → xs ≡ x ∷ [] → Leaves (record (unchanged m) { dropped = references_in x })
    loads : (o : Operation) (p : Place) (x : Value) → effect_of i.op ≡ row.LoadsValue → operation_done d shapes values m i ≡ Some o → xs ≡ AddressOf p ∷ []
        → value_at m p ≡ Some x
        → Leaves (record (unchanged (after d shapes values m i o p)) {
          results = ValueOf x ∷ [];
          retained = cond (copies_with i.qualifier) (references_of x) [];
        })
    names : (o : Operation) (p : Place) (x : Value) → effect_of i.op ≡ row.LoadsName → operation_done d shapes values m i ≡ Some o → xs ≡ AddressOf p ∷ []
        → value_at m p ≡ Some x → all_live m (references_of x) ≡ true
        → Leaves (record (unchanged (after d shapes values m i o p)) { results = ValueOf x ∷ []; retained = references_of x })
    names_none : (o : Operation) (p : Place) → effect_of i.op ≡ row.LoadsName → operation_done d shapes values m i ≡ Some o → xs ≡ AddressOf p ∷ []
        → Leaves (giving (after d shapes values m i o p) (ValueOf (value.Case 0) ∷ []))
    stores : (o : Operation) (x : Value) (p : Place) → effect_of i.op ≡ row.StoresValue → operation_done d shapes values m i ≡ Some o
        → xs ≡ ValueOf x ∷ AddressOf p ∷ []
        → Leaves (record (unchanged (filled m p x)) { dropped = references_at m p })
    destroys : (o : Operation) (p : Place) → effect_of i.op ≡ row.DestroysPlace → operation_done d shapes values m i ≡ Some o → xs ≡ AddressOf p ∷ []
        → Leaves (record (unchanged (after d shapes values m i o p)) { dropped = references_at m p })
    groups : (vs : List Value) → effect_of i.op ≡ row.Groups → values_of xs ≡ Some vs → Leaves (giving m (ValueOf (grouped vs) ∷ []))
    chooses : (k : ℕ) (x : Value) → effect_of i.op ≡ row.ChoosesCase → xs ≡ ValueOf x ∷ [] → Leaves (giving m (ValueOf (value.Full k x) ∷ []))
    member : (k : ℕ) (x y : Value) → effect_of i.op ≡ row.GivesMember → xs ≡ ValueOf x ∷ [] → member_of d shapes values m i k x ≡ Some y
        → Leaves (giving m (ValueOf y ∷ []))
    members : (x : Value) (ys : List Value) → effect_of i.op ≡ row.GivesMembers → xs ≡ ValueOf x ∷ [] → members_of x ≡ Some ys
        → Leaves (giving m (map ValueOf ys))
    part : (k : ℕ) (p q : Place) → effect_of i.op ≡ row.AddressesMember → xs ≡ AddressOf p ∷ [] → member_place p k ≡ Some q
        → Leaves (giving m (AddressOf q ∷ []))
    field : (x : Value) (o : ObjectId) (q : Place) → effect_of i.op ≡ row.AddressesField → xs ≡ ValueOf x ∷ [] → object_of x ≡ Some o → q.home ≡ Inside o
        → Leaves (giving m (AddressOf q ∷ []))

-- each change that an instruction makes is one of these
abbrev pub AreChangesTold : Type 0
AreChangesTold = (d : Declarations) (shapes : ModuleShapes) (values : List Shape) (m : Memory) (i : Inst) (xs : List Datum) (c : Change)
    → effect d shapes values m i xs ≡ effects.Makes c → Leaves d shapes values m i xs c
