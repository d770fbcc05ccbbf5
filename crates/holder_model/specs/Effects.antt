-- What an instruction does beside memory: its results, references that are made or dropped, new objects, calls and traps. Both runs read this.
use Rattle.std.specs.Prelude.{ℕ, ℤ, List, [], ◌∷◌, ◌++◌, false, cond, map, Option, Some, None, option_and_then}
use Rattle.std.specs.Prelude.{length, slice_get, slice_index_or, unwrap_or}
use Rattle.instruction_table.specs.Forms.{detail_of, number_of}
use Rattle.instruction_table.specs.declared.entries.Detail.{Detail}
use Rattle.instruction_table.specs.declared.entries.Detail.TheVariants as detail
use Rattle.instruction_table.specs.declared.op.Op.{Op}
use Rattle.sil_ast.specs.declared.inst.Inst.{Inst}
use Rattle.sil_ast.specs.declared.member.Member.{Member}
use Rattle.sil_ast.specs.declared.place.FuncId.{FuncId}
use Rattle.sil_ast.specs.declared.place.ObjectId.{ObjectId}
use Rattle.sil_ast.specs.declared.place.ValueId.{ValueId}
use Rattle.holder_model_values.specs.sil_types_declarations.TypeDefinitions.Declarations.{Declarations}
use Rattle.memory_rules_accesses.specs.Sources.{element_place, member_place}
use Rattle.holder_model_values.specs.declared.run_values.phase.Phase.TheVariants.{Live}
use Rattle.holder_model_values.specs.RunValues.Memory.{Memory, new_object}
use Rattle.holder_model_values.specs.RunValues.Places as places
use Rattle.holder_model_values.specs.RunValues.Places.{OnStack, Place, empty_fields, empty_slot, field_place}
use Rattle.holder_model_values.specs.RunValues.Shapes.{Shape, Unknown, class_in}
use Rattle.holder_model_values.specs.RunValues.Values as value
use Rattle.holder_model_values.specs.RunValues.Values.{Value, grouped, integer_of, members_of, object_of}
use Rattle.holder_model.specs.declared.columns.TheConstants.{EFFECTS}
use Rattle.holder_model.specs.declared.row_effect.RowEffect.{RowEffect}
use Rattle.holder_model.specs.declared.row_effect.RowEffect.TheVariants as row
use Rattle.holder_model.specs.declared.trap.Trap.{Trap}
use Rattle.holder_model.specs.declared.trap.Trap.TheVariants as trap
use Rattle.holder_model.specs.Builtins.{builtin_value, is_set}
use Rattle.holder_model.specs.ModuleShapes.{ModuleShapes, case_place, field_shapes, shape_at}
use Rattle.holder_model.specs.Data.{Datum, ValueOf, AddressOf, FunctionOf, all_of, as_function, as_place, as_value, references_in, values_of}

-- what becomes of the slots of the frame
pub data SlotChange : Type 0 where
  SameSlots : SlotChange
  OpensSlot : (slot : Place) → SlotChange
  ClosesSlot : (slot : Place) → SlotChange

-- what an instruction leaves: its results, the references that it drops and those that it makes, memory and slots
pub record Change : Type 0 where
  pub results : List Datum
  pub dropped : List ObjectId
  pub retained : List ObjectId
  pub memory : Memory
  pub slots : SlotChange

-- it leaves a change; it calls a function; the program traps; a fault of the run; or the operands aren't what the row needs
pub data Effect (X : Type 0) : Type 0 where
  Makes : (c : Change) → Effect X
  Calls : (g : FuncId) (args : List Datum) → Effect X
  Traps : (t : Trap) → Effect X
  Faults : (x : X) → Effect X
  Unfit : Effect X

-- what the instruction's row does in a run
abbrev pub effect_of : Op → RowEffect
effect_of o = slice_index_or EFFECTS (number_of o) row.NoEffect

abbrev pub unchanged : Memory → Change
unchanged m = record { results = []; dropped = []; retained = []; memory = m; slots = SameSlots }

abbrev pub gives : {X : Type 0} → Memory → List Datum → Effect X
gives m xs = Makes (record (unchanged m) { results = xs })

abbrev pub gives_value : {X : Type 0} → Memory → Value → Effect X
gives_value m x = gives m (ValueOf x ∷ [])

-- where there is something to go on with
abbrev pub with_some : {X A : Type 0} → (A → Effect X) → Option A → Effect X
with_some go None = Unfit
with_some go (Some x) = go x

abbrev pub only : {A : Type 0} → List A → Option A
only [] = None
only (x ∷ []) = Some x
only (x ∷ y ∷ ys) = None

-- the number of the member that the instruction names: a field's by its name, an element's as it is written
abbrev pub part_number_by : Detail → Declarations → Inst → Option ℕ
part_number_by detail.NoDetail d i = None
part_number_by detail.Literal d i = None
part_number_by detail.Element d i = element_place i.number
part_number_by detail.Operation d i = None
part_number_by detail.Message d i = None
part_number_by detail.Field d i = member_place d i.member
part_number_by detail.Case d i = None

abbrev pub part_number : Declarations → Inst → Option ℕ
part_number d i = part_number_by (detail_of i.op) d i

-- the shapes of all fields, and of the values of the function, are those that a run has
module _ (d : Declarations) (shapes : ModuleShapes) (values : List Shape) (m : Memory) (i : Inst) where
  abbrev pub result_shape_of : List ValueId → Shape
  result_shape_of [] = Unknown
  result_shape_of (v ∷ vs) = shape_at values v

  -- the shape of the first result
  abbrev pub result_shape : Shape
  result_shape = result_shape_of i.results

  abbrev pub traps_where : {X : Type 0} → ℤ → Effect X
  traps_where n = cond (is_set n) (Traps (trap.CondFail (unwrap_or i.text []))) (gives m [])

  abbrev pub makes_object : {X : Type 0} → List ℕ → Effect X
  makes_object class = Makes (record (unchanged m) {
    results = ValueOf (value.Object (new_object m)) ∷ [];
    memory = record m { objects = m.objects ++ record { class = class; phase = Live; cells = empty_fields (field_shapes shapes class) } ∷ [] };
  })

  abbrev pub new_slot : Place
  new_slot = record { home = OnStack; first = length m.stack; shape = result_shape; is_part = false }

  abbrev pub makes_slot : {X : Type 0} → Effect X
  makes_slot = Makes (record (unchanged m) {
    results = AddressOf new_slot ∷ [];
    memory = record m { stack = m.stack ++ empty_slot result_shape };
    slots = OpensSlot new_slot;
  })

  abbrev pub copies : {X : Type 0} → Datum → Effect X
  copies x = Makes (record (unchanged m) { results = x ∷ []; retained = references_in x })

  abbrev pub retains : {X : Type 0} → Datum → Effect X
  retains x = Makes (record (unchanged m) { retained = references_in x })

  abbrev pub drops : {X : Type 0} → Datum → Effect X
  drops x = Makes (record (unchanged m) { dropped = references_in x })

  -- the case without a payload, or with the one operand as its payload
  abbrev pub chooses : {X : Type 0} → ℕ → List Value → Effect X
  chooses k [] = gives_value m (value.Case k)
  chooses k (x ∷ []) = gives_value m (value.Full k x)
  chooses k (x ∷ y ∷ ys) = Unfit

  abbrev pub the_value : {X : Type 0} → (Value → Effect X) → List Datum → Effect X
  the_value go xs = with_some go (option_and_then as_value (only xs))

  abbrev pub the_place : {X : Type 0} → (Place → Effect X) → List Datum → Effect X
  the_place go xs = with_some go (option_and_then as_place (only xs))

  abbrev pub member_of : ℕ → Value → Option Value
  member_of k x = option_and_then (λ members. slice_get members k) (members_of x)

  abbrev pub gives_member : {X : Type 0} → Option ℕ → Value → Effect X
  gives_member k x = with_some (gives_value m) (option_and_then (λ k. member_of k x) k)

  abbrev pub gives_members : {X : Type 0} → Value → Effect X
  gives_members x = with_some (λ members. gives m (map ValueOf members)) (members_of x)

  abbrev pub names_member : {X : Type 0} → Option ℕ → Place → Effect X
  names_member k p = with_some (λ q. gives m (AddressOf q ∷ [])) (option_and_then (places.member_place p) k)

  abbrev pub field_of_object : Member → ObjectId → ℕ → Option Place
  field_of_object named o k = field_place (field_shapes shapes named.owner) o k

  abbrev pub names_field_of : {X : Type 0} → Option Member → Option ℕ → ObjectId → Effect X
  names_field_of None k o = Unfit
  names_field_of (Some named) k o = with_some (λ q. gives m (AddressOf q ∷ [])) (option_and_then (field_of_object named o) k)

  abbrev pub names_field : {X : Type 0} → Value → Effect X
  names_field x = with_some (names_field_of i.member (part_number d i)) (object_of x)

  abbrev pub calls : {X : Type 0} → List Datum → Effect X
  calls [] = Unfit
  calls (f ∷ args) = with_some (λ g. Calls g args) (as_function f)

  -- by what the row does and its operands. What is done at places is said by `at_places`
  abbrev pub effect_by : {X : Type 0} → (RowEffect → List Datum → Effect X) → RowEffect → List Datum → Effect X
  effect_by at_places row.NoEffect xs = gives m []
  effect_by at_places row.GivesLiteral xs = with_some (λ n. gives_value m (value.Int n)) i.number
  effect_by at_places row.GivesFunction xs = with_some (λ g. gives m (FunctionOf g ∷ [])) i.function
  effect_by at_places row.Computes xs =
      with_some (gives_value m) (option_and_then (builtin_value i.text) (option_and_then (all_of integer_of) (values_of xs)))
  effect_by at_places row.TrapsWhereSet xs = the_value (λ x. with_some traps_where (integer_of x)) xs
  effect_by at_places row.MakesObject xs = with_some makes_object (class_in result_shape)
  effect_by at_places row.MakesSlot xs = makes_slot
  effect_by at_places row.RemovesSlot xs = at_places row.RemovesSlot xs
  effect_by at_places row.GivesOperand xs = with_some (λ x. gives m (x ∷ [])) (only xs)
  effect_by at_places row.CopiesOperand xs = with_some copies (only xs)
  effect_by at_places row.RetainsOperand xs = with_some retains (only xs)
  effect_by at_places row.DropsOperand xs = with_some drops (only xs)
  effect_by at_places row.LoadsValue xs = at_places row.LoadsValue xs
  effect_by at_places row.StoresValue xs = at_places row.StoresValue xs
  effect_by at_places row.DestroysPlace xs = at_places row.DestroysPlace xs
  effect_by at_places row.LoadsName xs = at_places row.LoadsName xs
  effect_by at_places row.Groups xs = with_some (λ vs. gives_value m (grouped vs)) (values_of xs)
  effect_by at_places row.ChoosesCase xs =
      with_some (λ k. with_some (chooses k) (values_of xs)) (case_place result_shape i.member)
  effect_by at_places row.GivesMember xs = the_value (gives_member (part_number d i)) xs
  effect_by at_places row.GivesMembers xs = the_value gives_members xs
  effect_by at_places row.AddressesMember xs = the_place (names_member (part_number d i)) xs
  effect_by at_places row.AddressesField xs = the_value names_field xs
  effect_by at_places row.CallsFunction xs = calls xs
