-- What an instruction of lowered code does at places and to objects, and what becomes of the numbers of those that weak and unowned storage names.
use Rattle.std.specs.Prelude.{◌||◌, List, [], ◌∷◌, ◌++◌, Bool, true, false, not, cond, is_some, Option, Some, None, find, option_and_then}
use Rattle.std.specs.List.{flat_map}
use Rattle.sil_ast.specs.declared.inst.Inst.{Inst}
use Rattle.sil_ast.specs.declared.place.ObjectId.{ObjectId}
use Rattle.memory_rules_accesses.specs.Operations.{access_kind_of, operation_by}
use Rattle.memory_rules_accesses.specs.declared.access.Operation.{Operation}
use Rattle.memory_rules_accesses.specs.declared.access.Operation.TheVariants as operation
use Rattle.holder_model_values.specs.sil_types_declarations.TypeDefinitions.Declarations.{Declarations}
use Rattle.holder_model_values.specs.RunValues.Cells.{in_cells}
use Rattle.holder_model_values.specs.RunValues.Memory.{Memory, is_dead}
use Rattle.holder_model_values.specs.RunValues.Places.{Place, cells_at, emptied, filled, is_there_at, removed, value_at}
use Rattle.holder_model_values.specs.RunValues.Shapes.{Shape, storage_in}
use Rattle.holder_model_values.specs.RunValues.Values.{Value, references_of}
use Rattle.holder_model.specs.ModuleShapes.{ModuleShapes}
use Rattle.holder_model.specs.declared.row_effect.RowEffect.{RowEffect}
use Rattle.holder_model.specs.declared.row_effect.RowEffect.TheVariants as row
use Rattle.holder_model.specs.Data.{Datum, ValueOf, as_place, as_value, home_references, references_in}
use Rattle.holder_model.specs.Effects.{ClosesSlot, Effect, Faults, Makes, Unfit, effect_by, effect_of, only, unchanged, with_some}
use Rattle.holder_model.specs.MemoryEffects.{loaded_name, takes, two, value_and_place}
use Rattle.holder_model.specs.Outcomes.{Numbers}
use Rattle.holder_model.specs.declared.lowered_run.low_fault.LowFault.{LowFault}
use Rattle.holder_model.specs.declared.lowered_run.low_fault.LowFault.TheVariants as fault
use Rattle.holder_model.specs.LoweredRun.Stored.{named, unnamed}

-- a write for the first time takes no old name away
abbrev pub is_first_write : Operation → Bool
is_first_write operation.FirstWrite = true
is_first_write operation.Read = false
is_first_write operation.Lend = false
is_first_write operation.Write = false
is_first_write operation.TrivialStore = false
is_first_write (operation.Handed r) = false
is_first_write operation.Take = false

module _ (d : Declarations) (shapes : ModuleShapes) (values : List Shape) (m : Memory) (i : Inst) where
  abbrev pub operation_done : Option Operation
  operation_done = operation_by (access_kind_of i.op) i.qualifier

  -- the first of the objects that is dead, if one is
  abbrev pub first_dead : List ObjectId → Option ObjectId
  first_dead os = find (is_dead m) os

  abbrev pub dead_or : Effect LowFault → Option ObjectId → Effect LowFault
  dead_or e None = e
  dead_or e (Some o) = Faults (fault.Dead o)

  abbrev pub unless_dead : List ObjectId → Effect LowFault → Effect LowFault
  unless_dead os e = dead_or e (first_dead os)

  -- an access to a place: its slot is there, these objects and its own aren't dead, and it is full where it has to be
  abbrev pub accessed : Place → List ObjectId → Bool → Effect LowFault → Effect LowFault
  accessed p os full e =
      cond (is_there_at m p) (unless_dead (os ++ home_references p.home) (cond (not full || is_some (value_at m p)) e (Faults fault.Empty)))
      (Faults fault.Slot)

  abbrev pub after : Operation → Place → Memory
  after o p = cond (takes o) (emptied m p) m

  abbrev pub loads_by : Operation → Place → Effect LowFault
  loads_by o p = accessed p [] true (with_some (λ x. Makes (record (unchanged (after o p)) { results = ValueOf x ∷ [] })) (value_at m p))

  abbrev pub names_by : Operation → Place → Effect LowFault
  names_by o p = accessed p [] true (with_some (loaded_name (storage_in p.shape) m (after o p)) (value_at m p))

  -- the objects that weak or unowned storage is to name
  abbrev pub to_name : Value → Place → List ObjectId
  to_name x p = cond (is_some (storage_in p.shape)) (references_of x) []

  -- a part is written in a full place alone, and so is storage but for the first time
  abbrev pub has_to_be_full : Operation → Place → Bool
  has_to_be_full o p = cond (is_some (storage_in p.shape)) (not (is_first_write o)) p.is_part

  abbrev pub stores_by : Operation → Value → Place → Effect LowFault
  stores_by o x p = accessed p (to_name x p) (has_to_be_full o p) (Makes (unchanged (filled m p x)))

  abbrev pub destroys_by : Operation → Place → Effect LowFault
  destroys_by o p = accessed p [] true (Makes (unchanged (after o p)))

  abbrev pub removes : Place → Effect LowFault
  removes p = Makes (record (unchanged (removed m p)) { slots = ClosesSlot p })

  abbrev pub at_place : (Operation → Place → Effect LowFault) → List Datum → Effect LowFault
  at_place go xs = with_some (λ o. with_some (go o) (option_and_then as_place (only xs))) operation_done

  abbrev pub at_places : RowEffect → List Datum → Effect LowFault
  at_places row.RemovesSlot xs = with_some removes (option_and_then as_place (only xs))
  at_places row.LoadsValue xs = at_place loads_by xs
  at_places row.LoadsName xs = at_place names_by xs
  at_places row.StoresValue xs = with_some (λ o. two (value_and_place (stores_by o)) xs) operation_done
  at_places row.DestroysPlace xs = at_place destroys_by xs
  at_places row.NoEffect xs = Unfit
  at_places row.GivesLiteral xs = Unfit
  at_places row.GivesFunction xs = Unfit
  at_places row.Computes xs = Unfit
  at_places row.TrapsWhereSet xs = Unfit
  at_places row.MakesObject xs = Unfit
  at_places row.MakesSlot xs = Unfit
  at_places row.GivesOperand xs = Unfit
  at_places row.CopiesOperand xs = Unfit
  at_places row.RetainsOperand xs = Unfit
  at_places row.DropsOperand xs = Unfit
  at_places row.Groups xs = Unfit
  at_places row.ChoosesCase xs = Unfit
  at_places row.GivesMember xs = Unfit
  at_places row.GivesMembers xs = Unfit
  at_places row.AddressesMember xs = Unfit
  at_places row.AddressesField xs = Unfit
  at_places row.CallsFunction xs = Unfit

  -- the objects on which the row operates, but for those at places and those that are counted
  abbrev pub operated_on : RowEffect → List Datum → List ObjectId
  operated_on row.AddressesField xs = flat_map references_in xs
  operated_on row.NoEffect xs = []
  operated_on row.GivesLiteral xs = []
  operated_on row.GivesFunction xs = []
  operated_on row.Computes xs = []
  operated_on row.TrapsWhereSet xs = []
  operated_on row.MakesObject xs = []
  operated_on row.MakesSlot xs = []
  operated_on row.RemovesSlot xs = []
  operated_on row.GivesOperand xs = []
  operated_on row.CopiesOperand xs = []
  operated_on row.RetainsOperand xs = []
  operated_on row.DropsOperand xs = []
  operated_on row.LoadsValue xs = []
  operated_on row.StoresValue xs = []
  operated_on row.DestroysPlace xs = []
  operated_on row.LoadsName xs = []
  operated_on row.Groups xs = []
  operated_on row.ChoosesCase xs = []
  operated_on row.GivesMember xs = []
  operated_on row.GivesMembers xs = []
  operated_on row.AddressesMember xs = []
  operated_on row.CallsFunction xs = []

  -- what the instruction does, by its operands
  abbrev pub low_effect : List Datum → Effect LowFault
  low_effect xs = unless_dead (operated_on (effect_of i.op) xs) (effect_by d shapes values m i at_places (effect_of i.op) xs)

  -- the stored numbers of the objects that storage names

  abbrev pub stored_at : Operation → Value → Place → List Numbers → List Numbers
  stored_at o x p stored = named ((in_cells p.shape).cells x) (cond (is_first_write o) stored (unnamed (cells_at m p) stored))

  abbrev pub taken_at : Operation → Place → List Numbers → List Numbers
  taken_at o p stored = cond (takes o) (unnamed (cells_at m p) stored) stored

  abbrev pub place_taken : Option Operation → Option Place → List Numbers → List Numbers
  place_taken None p stored = stored
  place_taken (Some o) None stored = stored
  place_taken (Some o) (Some p) stored = taken_at o p stored

  abbrev pub value_stored : Option Operation → Option Value → Option Place → List Numbers → List Numbers
  value_stored None x p stored = stored
  value_stored (Some o) None p stored = stored
  value_stored (Some o) (Some x) None stored = stored
  value_stored (Some o) (Some x) (Some p) stored = stored_at o x p stored

  abbrev pub both_stored : List Datum → List Numbers → List Numbers
  both_stored [] stored = stored
  both_stored (x ∷ []) stored = stored
  both_stored (x ∷ y ∷ rest) stored = value_stored operation_done (as_value x) (as_place y) stored

  abbrev pub stored_by : RowEffect → List Datum → List Numbers → List Numbers
  stored_by row.StoresValue xs stored = both_stored xs stored
  stored_by row.LoadsName xs stored = place_taken operation_done (option_and_then as_place (only xs)) stored
  stored_by row.DestroysPlace xs stored = place_taken operation_done (option_and_then as_place (only xs)) stored
  stored_by row.NoEffect xs stored = stored
  stored_by row.GivesLiteral xs stored = stored
  stored_by row.GivesFunction xs stored = stored
  stored_by row.Computes xs stored = stored
  stored_by row.TrapsWhereSet xs stored = stored
  stored_by row.MakesObject xs stored = stored
  stored_by row.MakesSlot xs stored = stored
  stored_by row.RemovesSlot xs stored = stored
  stored_by row.GivesOperand xs stored = stored
  stored_by row.CopiesOperand xs stored = stored
  stored_by row.RetainsOperand xs stored = stored
  stored_by row.DropsOperand xs stored = stored
  stored_by row.LoadsValue xs stored = stored
  stored_by row.Groups xs stored = stored
  stored_by row.ChoosesCase xs stored = stored
  stored_by row.GivesMember xs stored = stored
  stored_by row.GivesMembers xs stored = stored
  stored_by row.AddressesMember xs stored = stored
  stored_by row.AddressesField xs stored = stored
  stored_by row.CallsFunction xs stored = stored

  -- what the instruction makes of the stored numbers, but for references that are counted
  abbrev pub stored_behind : List Datum → List Numbers → List Numbers
  stored_behind xs stored = stored_by (effect_of i.op) xs stored
