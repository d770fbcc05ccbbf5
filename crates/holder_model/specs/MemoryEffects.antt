-- What an instruction does at places, in a run by holders: which of these it does is its access, and its word in brackets.
use Rattle.std.specs.Prelude.{List, [], ◌∷◌, Bool, true, false, cond, ◌||◌, is_some, Option, Some, None, option_and_then}
use Rattle.std.specs.List.{flat_map, list_all}
use Rattle.memory_rules_accesses.specs.argument_conventions.declared.row.Content.{Content}
use Rattle.memory_rules_accesses.specs.argument_conventions.declared.row.Content.TheVariants as content
use Rattle.sil_ast.specs.declared.decl.Storage.{Storage}
use Rattle.sil_ast.specs.declared.decl.Storage.TheVariants as storage
use Rattle.sil_ast.specs.declared.inst.Inst.{Inst}
use Rattle.sil_ast.specs.declared.inst.Qualifier.{Qualifier}
use Rattle.sil_ast.specs.declared.inst.Qualifier.TheVariants as word
use Rattle.sil_ast.specs.declared.place.ObjectId.{ObjectId}
use Rattle.memory_rules_accesses.specs.Operations.{access_kind_of, operation_by}
use Rattle.memory_rules_accesses.specs.declared.access.Operation.{Operation}
use Rattle.memory_rules_accesses.specs.declared.access.Operation.TheVariants as operation
use Rattle.holder_model_values.specs.sil_types_declarations.TypeDefinitions.Declarations.{Declarations}
use Rattle.holder_model_values.specs.RunValues.Memory.{Memory, is_live}
use Rattle.holder_model_values.specs.RunValues.Places.{Place, cells_at, emptied, filled, is_empty_at, is_there_at, removed, value_at}
use Rattle.holder_model_values.specs.RunValues.Shapes.{Shape, storage_in}
use Rattle.holder_model_values.specs.RunValues.Values as value
use Rattle.holder_model_values.specs.RunValues.Values.{Value, references_of}
use Rattle.holder_model.specs.ModuleShapes.{ModuleShapes}
use Rattle.holder_model_values.specs.RunValues.Trivial.{is_trivial}
use Rattle.holder_model.specs.declared.row_effect.RowEffect.{RowEffect}
use Rattle.holder_model.specs.declared.row_effect.RowEffect.TheVariants as row
use Rattle.holder_model.specs.declared.trap.Trap.TheVariants as trap
use Rattle.holder_model.specs.Data.{Datum, ValueOf, as_place, as_value}
use Rattle.holder_model.specs.Effects.{ClosesSlot, Effect, Faults, Makes, Traps, Unfit, effect_by, effect_of, gives_value, only, unchanged, with_some}
use Rattle.holder_model.specs.Faults.{HolderFault, EmptyPlace, FullPlace, NotLastSlot}
use Rattle.holder_model.specs.Holders.{kept_references}

-- the place holds what is asked: an empty place that is asked for may be in any state where its type is trivial
abbrev pub holds : Memory → Content → Place → Bool
holds m content.Empty p = is_trivial p.shape || is_empty_at m p
holds m content.Full p = is_some (value_at m p)

-- what a place is asked to hold before the operation, if anything: a part is written in a full place alone
abbrev pub asked_before : Bool → Operation → Option Content
asked_before part operation.FirstWrite = Some content.Empty
asked_before part operation.Read = Some content.Full
asked_before part operation.Lend = Some content.Full
asked_before part operation.Write = Some content.Full
asked_before part operation.TrivialStore = cond part (Some content.Full) None
asked_before part (operation.Handed r) = Some r.before
asked_before part operation.Take = Some content.Full

abbrev pub fault_of : Content → HolderFault
fault_of content.Empty = FullPlace
fault_of content.Full = EmptyPlace

-- whether the operation leaves the place empty
abbrev pub takes : Operation → Bool
takes operation.FirstWrite = false
takes operation.Read = false
takes operation.Lend = false
takes operation.Write = false
takes operation.TrivialStore = false
takes (operation.Handed r) = false
takes operation.Take = true

-- `[copy]` makes the references anew that it reads
abbrev pub copies_with : Qualifier → Bool
copies_with word.Plain = false
copies_with word.Copy = true
copies_with word.Take = false
copies_with word.Trivial = false
copies_with word.Init = false
copies_with word.Assign = false

-- the references that the place holds
abbrev pub references_at : Memory → Place → List ObjectId
references_at m p = flat_map (kept_references storage.Strong) (cells_at m p)

abbrev pub all_live : Memory → List ObjectId → Bool
all_live m os = list_all (is_live m) os

abbrev pub named_again : {X : Type 0} → Memory → Value → Effect X
named_again after x = Makes (record (unchanged after) { results = ValueOf x ∷ []; retained = references_of x })

-- what weak or unowned storage gives of the value that it keeps: where the object isn't live, `none` or the trap
abbrev pub loaded_name : {X : Type 0} → Option Storage → Memory → Memory → Value → Effect X
loaded_name None m after x = Unfit
loaded_name (Some storage.Strong) m after x = Unfit
loaded_name (Some storage.Weak) m after x = cond (all_live m (references_of x)) (named_again after x) (gives_value after (value.Case 0))
loaded_name (Some storage.Unowned) m after x = cond (all_live m (references_of x)) (named_again after x) (Traps trap.Unowned)

abbrev pub two : {X A : Type 0} → (A → A → Effect X) → List A → Effect X
two go [] = Unfit
two go (x ∷ []) = Unfit
two go (x ∷ y ∷ []) = go x y
two go (x ∷ y ∷ z ∷ rest) = Unfit

-- a value and the address of a place
abbrev pub value_and_place : {X : Type 0} → (Value → Place → Effect X) → Datum → Datum → Effect X
value_and_place go x y = with_some (λ v. with_some (go v) (as_place y)) (as_value x)

module _ (d : Declarations) (shapes : ModuleShapes) (values : List Shape) (m : Memory) (i : Inst) where
  abbrev pub operation_done : Option Operation
  operation_done = operation_by (access_kind_of i.op) i.qualifier

  -- the slot is there, and the place holds what is asked
  abbrev pub where_held : Place → Option Content → Effect HolderFault → Effect HolderFault
  where_held p None e = cond (is_there_at m p) e (Faults NotLastSlot)
  where_held p (Some c) e = cond (is_there_at m p) (cond (holds m c p) e (Faults (fault_of c))) (Faults NotLastSlot)

  abbrev pub after : Operation → Place → Memory
  after o p = cond (takes o) (emptied m p) m

  abbrev pub loads_by : Operation → Place → Effect HolderFault
  loads_by o p = where_held p (asked_before p.is_part o) (with_some (λ x. Makes (record (unchanged (after o p)) {
    results = ValueOf x ∷ [];
    retained = cond (copies_with i.qualifier) (references_of x) [];
  })) (value_at m p))

  abbrev pub names_by : Operation → Place → Effect HolderFault
  names_by o p = where_held p (asked_before p.is_part o) (with_some (loaded_name (storage_in p.shape) m (after o p)) (value_at m p))

  -- the new value is in place before the old one's references are dropped
  abbrev pub stores_by : Operation → Value → Place → Effect HolderFault
  stores_by o x p = where_held p (asked_before p.is_part o) (Makes (record (unchanged (filled m p x)) { dropped = references_at m p }))

  abbrev pub destroys_by : Operation → Place → Effect HolderFault
  destroys_by o p = where_held p (asked_before p.is_part o) (Makes (record (unchanged (after o p)) { dropped = references_at m p }))

  abbrev pub removes : Place → Effect HolderFault
  removes p = where_held p (Some content.Empty) (Makes (record (unchanged (removed m p)) { slots = ClosesSlot p }))

  abbrev pub at_place : (Operation → Place → Effect HolderFault) → List Datum → Effect HolderFault
  at_place go xs = with_some (λ o. with_some (go o) (option_and_then as_place (only xs))) operation_done

  abbrev pub at_places : RowEffect → List Datum → Effect HolderFault
  at_places row.RemovesSlot xs = with_some removes (option_and_then as_place (only xs))
  at_places row.LoadsValue xs = at_place loads_by xs
  at_places row.LoadsName xs = at_place names_by xs
  at_places row.StoresValue xs = with_some (λ o. two (value_and_place (stores_by o)) xs) operation_done
  at_places row.DestroysPlace xs = at_place destroys_by xs
  at_places row.NoEffect xs = Unfit
  at_places row.GivesLiteral xs = Unfit
  at_places row.GivesFunction xs = Unfit
  at_places row.Computes xs = Unfit
  at_places row.TrapsWhereSet xs = Unfit
  at_places row.MakesObject xs = Unfit
  at_places row.MakesSlot xs = Unfit
  at_places row.GivesOperand xs = Unfit
  at_places row.CopiesOperand xs = Unfit
  at_places row.RetainsOperand xs = Unfit
  at_places row.DropsOperand xs = Unfit
  at_places row.Groups xs = Unfit
  at_places row.ChoosesCase xs = Unfit
  at_places row.GivesMember xs = Unfit
  at_places row.GivesMembers xs = Unfit
  at_places row.AddressesMember xs = Unfit
  at_places row.AddressesField xs = Unfit
  at_places row.CallsFunction xs = Unfit

  -- what the instruction does, by its operands
  abbrev pub effect : List Datum → Effect HolderFault
  effect xs = effect_by d shapes values m i at_places (effect_of i.op) xs
