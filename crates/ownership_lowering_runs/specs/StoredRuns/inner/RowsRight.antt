-- What each row of the run by holders found where it made a change, so that the lowered run does the same: of operands, of places and of values.
use Rattle.sil_verifier_runs.specs.holder_model.declared.trap.Trap.{Trap}
use Rattle.sil_verifier_runs.specs.holder_model.Effects.{Traps, Change, ClosesSlot, Effect, Makes, effect_of, unchanged}
use Rattle.sil_verifier_runs.specs.holder_model.States.{Ends, Trapped, Task}
use Rattle.ownership_lowering_runs.specs.StoredRuns.inner.FrameSteps.{StepsAlong}
use Rattle.std.specs.Prelude.{◌≡◌, ◌⊎◌, ℕ, List, [], ◌∷◌, ◌==◌, Bool, false, true, cond, is_some, length, map, Some, None, Ok, slice_get, Option}
use Rattle.std.specs.List.{flat_map, list_any}
use Rattle.std.specs.Option.{option_to_list}
use Rattle.instruction_table.specs.declared.op.Op.TheVariants as op
use Rattle.numbered_form.specs.Lists.{Each}
use Rattle.sil_ast.specs.declared.function.Function.{Function}
use Rattle.sil_ast.specs.declared.inst.Inst.{Inst}
use Rattle.sil_ast.specs.declared.inst.Qualifier.TheVariants as word
use Rattle.sil_ast.specs.declared.member.Member.{Member}
use Rattle.sil_ast.specs.declared.module.Module.{Module}
use Rattle.sil_ast.specs.declared.operands.Operand.{Operand}
use Rattle.sil_ast.specs.declared.place.ValueId.{ValueId}
use Rattle.sil_cfg.specs.declared.item.Item.TheVariants as item
use Rattle.sil_cfg_items.specs.Items.{item_defined}
use Rattle.sil_types_declarations.specs.TypeDefinitions.Declarations.{declarations_of}
use Rattle.holder_model_values.specs.RunValues.Cells.{in_cells}
use Rattle.holder_model_values.specs.RunValues.Memory.{Memory, is_dead}
use Rattle.holder_model_values.specs.RunValues.Places.{Place, cells_at, emptied, filled, is_there_at, removed, value_at}
use Rattle.holder_model_values.specs.RunValues.Shapes.{storage_in}
use Rattle.holder_model_values.specs.RunValues.Values.{Value, members_of, references_of}
use Rattle.sil_verifier_runs.specs.sil_verifier_trails.AcceptedTrails.inner.Defined.{makes}
use Rattle.sil_verifier_runs.specs.holder_model.Data.{AddressOf, ValueOf}
use Rattle.sil_verifier_runs.specs.holder_model.Faults.{HolderFault}
use Rattle.sil_verifier_runs.specs.holder_model.Frames.{Entry, Frame, Operands, results_put}
use Rattle.sil_verifier_runs.specs.holder_model.HolderStates.{HolderState}
use Rattle.sil_verifier_runs.specs.holder_model.MemoryEffects.{copies_with, loaded_name, references_at, takes}
use Rattle.sil_verifier_runs.specs.holder_model.MemoryEffects as holder_effects
use Rattle.sil_verifier_runs.specs.holder_model.ModuleFacts.{facts_of, facts_told}
use Rattle.sil_verifier_runs.specs.holder_model.ModuleShapes.{shapes_in, shapes_of}
use Rattle.sil_verifier_runs.specs.holder_model.Standing.{stands_at}
use Rattle.sil_verifier_runs.specs.holder_model.StepParts as parts
use Rattle.sil_verifier_runs.specs.holder_model.declared.row_effect.RowEffect.{RowEffect}
use Rattle.sil_verifier_runs.specs.holder_model.declared.row_effect.RowEffect.TheVariants as row
use Rattle.memory_rules_accesses.specs.Operations.{access_kind_of, operation_by}
use Rattle.memory_rules_accesses.specs.Sources.{member_place}
use Rattle.memory_rules_accesses.specs.declared.access.Operation.{Operation}
use Rattle.sil_verifier_runs.specs.holder_model.LoweredRun.LowEffects.{is_first_write}
use Rattle.sil_verifier_runs.specs.holder_model.LoweredRun.LowStepParts.{LowState}
use Rattle.ownership_lowering_laws.specs.ownership_lowering_model.Extracts.{members_of_struct}
use Rattle.ownership_lowering_laws.specs.ownership_lowering_model.LoweredInsts.{lowering_of}
use Rattle.ownership_lowering_laws.specs.ownership_lowering_model.declared.lowering.Lowering.TheVariants as lowering
use Rattle.sil_verifier_runs.specs.ownership_kinds_origins.Renamings.{renames}
use Rattle.sil_types.specs.Typing.FormRules.{is_at_storage}
use Rattle.sil_verifier_runs.specs.holder_model_laws.HolderLaws.inner.Steps.Ways as holder
use Rattle.ownership_lowering_runs.specs.StoredRuns.inner.Frames.{HasFullParts, IsNoAddress}
use Rattle.ownership_lowering_runs.specs.StoredRuns.inner.Memories.{MayBeTaken}
use Rattle.ownership_lowering_runs.specs.StoredRuns.inner.Names.{lowered_number}
use Rattle.ownership_lowering_runs.specs.StoredRuns.inner.PlaceRows.{GoesAlong, StandsAt, stored_for}
use Rattle.ownership_lowering_runs.specs.StoredRuns.inner.Spares.{AreSparesApart}

-- the row does something at a place
abbrev pub is_place_row : RowEffect → Bool
is_place_row row.NoEffect = false
is_place_row row.GivesLiteral = false
is_place_row row.GivesFunction = false
is_place_row row.Computes = false
is_place_row row.TrapsWhereSet = false
is_place_row row.MakesObject = false
is_place_row row.MakesSlot = false
is_place_row row.RemovesSlot = true
is_place_row row.GivesOperand = false
is_place_row row.CopiesOperand = false
is_place_row row.RetainsOperand = false
is_place_row row.DropsOperand = false
is_place_row row.LoadsValue = true
is_place_row row.StoresValue = true
is_place_row row.DestroysPlace = true
is_place_row row.LoadsName = true
is_place_row row.Groups = false
is_place_row row.ChoosesCase = false
is_place_row row.GivesMember = false
is_place_row row.GivesMembers = false
is_place_row row.AddressesMember = false
is_place_row row.AddressesField = false
is_place_row row.CallsFunction = false

module _ (m : Module) (s : HolderState) (l : LowState) (frame : Frame) (f : Function) (i : Inst) (ops : Operands) where
  -- what the instruction does in the run by holders
  abbrev pub held_effect : Effect HolderFault
  held_effect = holder_effects.effect (declarations_of m) (shapes_of m) (shapes_in (shapes_of m) frame.function) s.memory i ops.given

  abbrev pub operation_done : Option Operation
  operation_done = operation_by (access_kind_of i.op) i.qualifier

  abbrev pub memory_after : Operation → Place → Memory
  memory_after o y = cond (takes o) (emptied s.memory y) s.memory

  -- the parts that frames were given are full in this memory of the lowered run
  abbrev pub ArePartsFull : Memory → Type 0
  ArePartsFull memory = Each (HasFullParts m memory) l.tasks

  -- the operand, and the place at its address, which is there
  pub record AtPlace (o : Operand) (y : Place) : Type 0 where
    pub one : i.operands ≡ o ∷ []
    pub given : ops.given ≡ AddressOf y ∷ []
    pub there : is_there_at s.memory y ≡ true

  -- a place with no storage in it, and what it holds
  pub record Holds (y : Place) (z : Value) : Type 0 where
    pub held : value_at s.memory y ≡ Some z
    pub strong : Each MayBeTaken (cells_at s.memory y)
    pub references : references_of z ≡ references_at s.memory y

  pub record Stores (a b : Operand) (w : Value) (y : Place) : Type 0 where
    pub both : i.operands ≡ a ∷ b ∷ []
    pub given : ops.given ≡ ValueOf w ∷ AddressOf y ∷ []
    pub there : is_there_at s.memory y ≡ true

  -- a value is stored in a place with no storage in it
  pub record StoresStrong (a b : Operand) (w : Value) (y : Place) : Type 0 where
    pub at : Stores a b w y
    pub none : i.results ≡ []
    pub is_op : i.op ≡ op.Store
    pub bare : storage_in y.shape ≡ None
    pub part : y.is_part ≡ true → is_some (value_at s.memory y) ≡ true
    pub new : Each MayBeTaken ((in_cells y.shape).cells w)
    pub old : Each MayBeTaken (cells_at s.memory y)

  -- a struct or tuple is taken apart
  pub record TakesApart (o : Operand) (w : Value) (ys : List Value) : Type 0 where
    pub one : i.operands ≡ o ∷ []
    pub given : ops.given ≡ ValueOf w ∷ []
    pub members : members_of w ≡ Some ys
    pub as_many : length ys ≡ length i.results
    -- no member has the number of the whole
    pub others : Each (λ r. ((lowered_number (declarations_of m) f o.value).0 == (lowered_number (declarations_of m) f r).0) ≡ false) i.results

  abbrev pub struct_members : Operand → List Member
  struct_members o = flat_map (members_of_struct (declarations_of m)) (option_to_list o.ty)

  pub data RowRight : Change → Type 0 where
    -- lowered to itself, and at no place
    plain : (c : Change) → held_effect ≡ Makes c → lowering_of i.op ≡ lowering.Stays → renames i.op ≡ false → is_place_row (effect_of i.op) ≡ false
        → Each IsNoAddress ops.given → RowRight c
    looks : (c : Change) → held_effect ≡ Makes c → lowering_of i.op ≡ lowering.Stays → renames i.op ≡ false → effect_of i.op ≡ row.NoEffect → RowRight c
    member : (c : Change) (o : Operand) (y : Place) → held_effect ≡ Makes c → lowering_of i.op ≡ lowering.Stays → renames i.op ≡ false
        → effect_of i.op ≡ row.AddressesMember → i.operands ≡ o ∷ [] → ops.given ≡ AddressOf y ∷ [] → RowRight c
    -- other names, copies and ends of values
    ends : effect_of i.op ≡ row.NoEffect → lowering_of i.op ≡ lowering.Vanishes → i.results ≡ [] → RowRight (unchanged s.memory)
    renaming : (o : Operand) (w : Value) (r : ValueId) → effect_of i.op ≡ row.GivesOperand → lowering_of i.op ≡ lowering.Vanishes → renames i.op ≡ true
        → i.operands ≡ o ∷ [] → ops.given ≡ ValueOf w ∷ [] → i.results ≡ r ∷ [] → RowRight (record (unchanged s.memory) { results = ValueOf w ∷ [] })
    copies : (o : Operand) (w : Value) (r : ValueId) → effect_of i.op ≡ row.CopiesOperand → lowering_of i.op ≡ lowering.Retains → renames i.op ≡ true
        → i.operands ≡ o ∷ [] → ops.given ≡ ValueOf w ∷ [] → i.results ≡ r ∷ []
        → RowRight (record (unchanged s.memory) { results = ValueOf w ∷ []; retained = references_of w })
    drops : (o : Operand) (w : Value) → effect_of i.op ≡ row.DropsOperand → lowering_of i.op ≡ lowering.Releases
        → i.operands ≡ o ∷ [] → ops.given ≡ ValueOf w ∷ [] → i.results ≡ [] → RowRight (record (unchanged s.memory) { dropped = references_of w })
    -- loads
    loads : (o : Operand) (y : Place) (r : ValueId) (done : Operation) (z : Value) → effect_of i.op ≡ row.LoadsValue
        → lowering_of i.op ≡ lowering.Loads → renames i.op ≡ false
        → AtPlace o y → i.results ≡ r ∷ [] → value_at s.memory y ≡ Some z → (takes done ≡ true → Each MayBeTaken (cells_at s.memory y))
        → RowRight (record (unchanged (memory_after done y)) { results = ValueOf z ∷ []; retained = cond (copies_with i.qualifier) (references_of z) [] })
    -- stores: the place held nothing, or what it held is dropped
    fills : (a b : Operand) (w : Value) (y : Place) → StoresStrong a b w y → (i.qualifier ≡ word.Init) ⊎ (i.qualifier ≡ word.Trivial)
        → references_at s.memory y ≡ []
        → RowRight (record (unchanged (filled s.memory y w)) { dropped = references_at s.memory y })
    assigns : (a b : Operand) (w : Value) (y : Place) (z : Value) → StoresStrong a b w y → i.qualifier ≡ word.Assign → Holds y z
        → RowRight (record (unchanged (filled s.memory y w)) { dropped = references_at s.memory y })
    destroys : (o : Operand) (y : Place) (z : Value) → effect_of i.op ≡ row.DestroysPlace → lowering_of i.op ≡ lowering.Destroys → renames i.op ≡ false
        → is_at_storage i ≡ false → i.results ≡ [] → AtPlace o y → Holds y z
        → RowRight (record (unchanged (emptied s.memory y)) { dropped = references_at s.memory y })
    -- weak and unowned storage
    names : (c : Change) (o : Operand) (y : Place) (done : Operation) (z : Value) → effect_of i.op ≡ row.LoadsName
        → lowering_of i.op ≡ lowering.Stays → renames i.op ≡ false
        → AtPlace o y → operation_done ≡ Some done → value_at s.memory y ≡ Some z
        → ◌≡◌ {A = Effect HolderFault} (loaded_name (storage_in y.shape) s.memory (memory_after done y) z) (Makes c)
        → ArePartsFull (cond (takes done) (emptied l.memory y) l.memory) → RowRight c
    stores_name : (a b : Operand) (w : Value) (y : Place) (done : Operation) → effect_of i.op ≡ row.StoresValue → lowering_of i.op ≡ lowering.Stays
        → renames i.op ≡ false
        → Stores a b w y → operation_done ≡ Some done → is_some (storage_in y.shape) ≡ true → (is_first_write done ≡ false
        → is_some (value_at s.memory y) ≡ true)
        → references_at s.memory y ≡ [] → RowRight (record (unchanged (filled s.memory y w)) { dropped = references_at s.memory y })
    destroys_storage : (o : Operand) (y : Place) (done : Operation) (z : Value) → effect_of i.op ≡ row.DestroysPlace
        → lowering_of i.op ≡ lowering.Destroys → renames i.op ≡ false
        → is_at_storage i ≡ true → AtPlace o y → operation_done ≡ Some done → value_at s.memory y ≡ Some z → references_at s.memory y ≡ []
        → ArePartsFull (cond (takes done) (emptied l.memory y) l.memory)
        → RowRight (record (unchanged (memory_after done y)) { dropped = references_at s.memory y })
    -- slots that go
    removes : (o : Operand) (y : Place) → effect_of i.op ≡ row.RemovesSlot → lowering_of i.op ≡ lowering.Stays → renames i.op ≡ false → AtPlace o y
        → makes f o.value item.Entry ≡ false → ArePartsFull (removed l.memory y) → RowRight (record (unchanged (removed s.memory y)) { slots = ClosesSlot y })
    -- structs and tuples that are taken apart
    struct_apart : (o : Operand) (w : Value) (ys : List Value) → effect_of i.op ≡ row.GivesMembers → renames i.op ≡ false → TakesApart o w ys
        → lowering_of i.op ≡ lowering.ExtractsFields → length i.results ≡ length (struct_members o)
        → ((k : ℕ) (named : Member) → slice_get (struct_members o) k ≡ Some named → member_place (declarations_of m) (Some named) ≡ Some k)
        → RowRight (record (unchanged s.memory) { results = map ValueOf ys })
    tuple_apart : (o : Operand) (w : Value) (ys : List Value) → effect_of i.op ≡ row.GivesMembers → renames i.op ≡ false → TakesApart o w ys
        → lowering_of i.op ≡ lowering.ExtractsElements → RowRight (record (unchanged s.memory) { results = map ValueOf ys })

-- where a row finds what it needs, the lowered run does the same: to a state that goes along, with parts that stay full, and the stored numbers are
-- those of the row
abbrev pub AreRowsAlong : Type 0
AreRowsAlong = (m : Module) (bound : ℕ) (s : HolderState) (l : LowState) (frame : Frame) (rest : List (Task Frame)) (f : Function) (i : Inst) (ops : Operands)
    (c : Change) (slots : List Place) (entries : List Entry) → StandsAt m s l frame rest f i ops → AreSparesApart (declarations_of m) f
    → RowRight m s l frame f i ops c → list_any (is_dead s.memory) c.retained ≡ false → parts.slots_behind c.slots frame.slots ≡ Ok slots
    → results_put (facts_told (facts_of m) frame.function) (item_defined f (item.Inst (stands_at f frame.trail))) c.results ops.left ≡ Ok entries
    → GoesAlong m bound l (holder.moved m (facts_of m) bound s rest (record frame { entries = ops.left }) (item.Inst (stands_at f frame.trail)) c slots entries)
    (stored_for m s frame i ops.given c l.numbers)

-- the same of a row that traps
pub data TrapRight (m : Module) (s : HolderState) (frame : Frame) (i : Inst) (ops : Operands) : Trap → Type 0 where
  plain : (t : Trap)
      → holder_effects.effect (declarations_of m) (shapes_of m) (shapes_in (shapes_of m) frame.function) s.memory i ops.given ≡ Traps t
      → lowering_of i.op ≡ lowering.Stays → renames i.op ≡ false → is_place_row (effect_of i.op) ≡ false → Each IsNoAddress ops.given
      → TrapRight m s frame i ops t
  name : (t : Trap) (o : Operand) (y : Place) (done : Operation) (z : Value) → effect_of i.op ≡ row.LoadsName → lowering_of i.op ≡ lowering.Stays
      → renames i.op ≡ false
      → i.operands ≡ o ∷ [] → ops.given ≡ AddressOf y ∷ [] → is_there_at s.memory y ≡ true → operation_by (access_kind_of i.op) i.qualifier ≡ Some done
      → value_at s.memory y ≡ Some z
      → ◌≡◌ {A = Effect HolderFault} (loaded_name (storage_in y.shape) s.memory (cond (takes done) (emptied s.memory y) s.memory) z) (Traps t)
      → TrapRight m s frame i ops t

abbrev pub AreTrapsAlong : Type 0
AreTrapsAlong = (m : Module) (bound : ℕ) (s : HolderState) (l : LowState) (frame : Frame) (rest : List (Task Frame)) (f : Function) (i : Inst)
    (ops : Operands) (t : Trap)
    → StandsAt m s l frame rest f i ops → TrapRight m s frame i ops t → StepsAlong m bound l (Ends (Trapped t) s)
