-- What storage holds: the leaf that keeps its object.
use Rattle.std.specs.Prelude.{◌≡◌, Bool, false, Option, find}
use Rattle.count_heap.specs.HeapModel.HeapViews.{HeapView, is_dead_in, phase_in}
use Rattle.count_machine_model.specs.MachineSteps.Held.{Empty, Full, Gone, Held, OfDead}
use Rattle.count_machine_model.specs.MachineSteps.Operands.{first_leaf, object_in_leaf}
use Rattle.count_machine_model.specs.declared.machine_steps.address.Home.{Home}
use Rattle.count_machine_model.specs.declared.machine_steps.address.Home.TheVariants as home
use Rattle.holder_model_values.specs.RunValues.Memory.{is_live_phase}
use Rattle.holder_model_values.specs.declared.run_values.leaf.Leaf.{Leaf}
use Rattle.sil_ast.specs.declared.place.ObjectId.{ObjectId}
use Rattle.count_machine_state.specs.declared.held.NameHeld.{NameHeld}
use Rattle.count_machine_state.specs.declared.held.NameHeld.TheVariants as name

abbrev pub as_name : Held → NameHeld
as_name Gone = name.Gone
as_name (OfDead o) = name.OfDead o
as_name Empty = name.Empty
as_name (Full ls) = name.Full (first_leaf ls)

-- the object in whose field a place lies isn't dead
abbrev pub LiesAlive : HeapView → Home → Type 0
LiesAlive h (home.Slot index serial) = Unit {0}
LiesAlive h (home.Field o k) = is_dead_in h o ≡ false

-- so where the storage isn't that of a dead object
abbrev pub UnlessDead : NameHeld → Type 0 → Type 0
UnlessDead name.Gone P = Unit {0}
UnlessDead (name.OfDead o) P = Unit {0}
UnlessDead name.Empty P = P
UnlessDead (name.Full l) P = P

abbrev pub is_live_in : HeapView → ObjectId → Bool
is_live_in h o = is_live_phase (phase_in h o)

-- the object of a leaf, if it is live
abbrev pub live_of : HeapView → Leaf → Option ObjectId
live_of h l = find (is_live_in h) (object_in_leaf l)
