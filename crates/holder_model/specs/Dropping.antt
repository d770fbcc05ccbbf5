-- How references are dropped and objects are deinitialised, by whichever number of strong holders.
use Rattle.std.specs.Prelude.{ℕ, zero, suc, List, [], ◌∷◌, ◌++◌, cond}
use Rattle.std.specs.List.{flat_map}
use Rattle.std.specs.Option.{option_to_list}
use Rattle.sil_ast.specs.declared.decl.Storage.TheVariants as storage
use Rattle.sil_ast.specs.declared.place.FuncId.{FuncId}
use Rattle.sil_ast.specs.declared.place.ObjectId.{ObjectId}
use Rattle.ownership_kinds_origins.specs.numbered_form.Names.{Name}
use Rattle.holder_model_values.specs.sil_types_declarations.TypeDefinitions.Declarations.{Declarations, ancestors_of}
use Rattle.holder_model_values.specs.sil_types_declarations.TypeDefinitions.Lookups.{deinit_of}
use Rattle.holder_model_values.specs.declared.run_values.phase.Phase.{Phase}
use Rattle.holder_model_values.specs.declared.run_values.phase.Phase.TheVariants.{Deiniting, Dead}
use Rattle.holder_model_values.specs.RunValues.Memory.{Memory, Object, is_live, object_at, with_object}
use Rattle.holder_model.specs.declared.event.Event.TheVariants as event
use Rattle.holder_model.specs.declared.trap.Trap.TheVariants as trap
use Rattle.holder_model.specs.Holders.{kept_references}
use Rattle.holder_model.specs.States.{Finishes, Goes, Ends, Next, State, Trapped, dropping, turn}

abbrev pub deinits_of_class : Declarations → Name → List FuncId
deinits_of_class d class = option_to_list (deinit_of d class)

-- the deinitialisers of a class and its ancestors, those that there are, the most derived first
abbrev pub deinits_of : Declarations → Name → List FuncId
deinits_of d class = flat_map (deinits_of_class d) (class ∷ ancestors_of d class)

abbrev pub in_phase : Phase → Memory → ObjectId → Memory
in_phase phase m o = with_object m o (record (object_at m o) { phase = phase })

-- the object starts to deinitialise: a turn and an event, and its deinitialisers wait above its finish
abbrev pub deinitialises : {F N X : Type 0} → Declarations → ℕ → State F N → ObjectId → Next X (State F N)
deinitialises d bound s o = turn bound s (λ s'. Goes (record s' {
  tasks = Finishes (deinits_of d (object_at s'.memory o).class) o ∷ s'.tasks;
  memory = in_phase Deiniting s'.memory o;
  events = s'.events ++ event.Deinit (object_at s'.memory o).class o ∷ [];
}))

-- a reference was dropped, and so many strong holders are left
abbrev pub drop_with : {F N X : Type 0} → Declarations → ℕ → State F N → ObjectId → ℕ → Next X (State F N)
drop_with d bound s o zero = cond (is_live s.memory o) (deinitialises d bound s o) (Goes s)
drop_with d bound s o (suc left) = Goes s

abbrev pub field_references : Object → List ObjectId
field_references x = flat_map (kept_references storage.Strong) x.cells

-- a dead object keeps its class alone
abbrev pub ended : Object → Object
ended x = record x { phase = Dead; cells = [] }

-- the object's deinitialisers have returned, and it has so many strong holders: where it has none, its fields' references wait to be dropped,
-- the root's fields first
abbrev pub finish_with : {F N X : Type 0} → State F N → ObjectId → ℕ → Next X (State F N)
finish_with s o zero = Goes (record s {
  tasks = dropping (field_references (object_at s.memory o)) s.tasks;
  memory = with_object s.memory o (ended (object_at s.memory o));
})
finish_with s o (suc left) = Ends (Trapped trap.Escaped) s
