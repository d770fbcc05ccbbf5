-- The frames of a run of lowered code, and those of the machine.
use Rattle.std.proofs.Common.{◌≡◌, ◌≤◌, ◌<◌, ◌+◌, ◌-◌, ℕ, List, Bool, true, false, Option, Some, None, length, map}
use Rattle.std.specs.Prelude.{drop, reverse, slice_get, take}
use Rattle.count_machine_model.specs.holder_model.Calling.{value_count}
use Rattle.count_machine_model.specs.holder_model.Data.{AddressOf, Datum, FunctionOf, ValueOf}
use Rattle.count_machine_model.specs.holder_model.LoweredRun.LowFrames.{LowFrame, value_at}
use Rattle.count_machine_model.specs.declared.machine_steps.address.Address.{Address}
use Rattle.count_machine_model.specs.declared.machine_steps.address.OpenSlot.{OpenSlot}
use Rattle.count_machine_model.specs.declared.machine_steps.frame.Frame.{Frame}
use Rattle.count_machine_model.specs.MachineSteps.Operands.{address_in, contents, is_there_in}
use Rattle.count_machine_model.specs.MachineSteps.Views.{MachineView}
use Rattle.count_machine_model.specs.ReadyCode.Layout.{addresses_before, leaves_before, local, local_address}
use Rattle.count_machine_model.specs.holder_model.RunTyping.Forms.{Form, OfFunction, OfPlace, OfValue, form_of}
use Rattle.holder_model_values.specs.RunValues.Leaves.{leaves_of}
use Rattle.holder_model_values.specs.RunValues.Memory.{Memory}
use Rattle.holder_model_values.specs.RunValues.Places.{Place}
use Rattle.holder_model_values.specs.RunValues.Shapes.{Shape}
use Rattle.holder_model_values.specs.RunValues.Values.{Value}
use Rattle.holder_model_values.specs.declared.run_values.leaf.Leaf.{Leaf}
use Rattle.sil_ast.specs.declared.function.Block.{Block}
use Rattle.sil_ast.specs.declared.function.Function.{Function}
use Rattle.sil_ast.specs.declared.module.Module.{Module}
use Rattle.sil_ast.specs.declared.place.FuncId.{FuncId}
use Rattle.sil_ast.specs.declared.place.ValueId.{ValueId}
use Rattle.sil_types_declarations.specs.TypeDefinitions.Declarations.{declarations_of}
use Rattle.holder_model_values.specs.ValueParts.inner.Suits.{suits}
use Rattle.count_machine_laws.proofs.Memories.{NamesPlace}
use Rattle.count_machine_laws.proofs.Objects.{is_of_class}
use Rattle.count_machine_laws.proofs.Slots.{Made, slot_place}

-- a value of a form: as the run has it, and as the machine has it, by whether it is there, its leaves and its address
pub data EntryAgrees (m : Module) (made : List Made) (mem : Memory) (st : MachineView) (form : Form) : Option Datum → Bool → List Leaf → Address → Type 0 where
  absent : (ls : List Leaf) (a : Address) → EntryAgrees m made mem st form None false ls a
  value : (s : Shape) (x : Value) (ls : List Leaf) (a : Address) → form ≡ OfValue s → suits (is_of_class m mem) s x ≡ true → ls ≡ leaves_of s x
      → EntryAgrees m made mem st form (Some (ValueOf x)) true ls a
  place : (p : Place) (ls : List Leaf) (a : Address) → form ≡ OfPlace p.shape → NamesPlace m made st.slots mem a p
      → EntryAgrees m made mem st form (Some (AddressOf p)) true ls a
  function : (g : FuncId) (ls : List Leaf) (a : Address) → form ≡ OfFunction g → EntryAgrees m made mem st form (Some (FunctionOf g)) true ls a

-- where a frame's values, leaves, addresses and slots end in the machine's stacks, and the references that wait
pub record Ends : Type 0 where
  pub values : ℕ
  pub leaves : ℕ
  pub addresses : ℕ
  pub slots : ℕ
  pub waiting : ℕ

-- the slots of the machine from one on, up to another one
abbrev pub slots_between : MachineView → ℕ → ℕ → List OpenSlot
slots_between st from to = take (to - from) (drop from st.slots)

-- a frame of the function f that begins at some ends, and has its slots up to `slots`
pub record FrameAgrees (m : Module) (made : List Made) (mem : Memory) (st : MachineView) (f : Function) (lf : LowFrame) (mf : Frame) (below above : Ends) : Type 0 where
  pub there : slice_get m.functions lf.function.0 ≡ Some f
  pub same : mf.function ≡ lf.function
  pub at_block : mf.block ≡ lf.at.block.0
  pub at_index : mf.index ≡ lf.at.index
  pub block : Block
  pub block_there : slice_get f.blocks mf.block ≡ Some block
  pub in_block : mf.index ≤ length block.insts
  pub count : length lf.values ≡ value_count f
  pub entries : (v : ValueId) → v.0 < value_count f → EntryAgrees m made mem st (form_of (declarations_of m) f v) (value_at lf.values v) (is_there_in st mf v)
      (contents st mf (local (declarations_of m) f v)) (address_in st mf (local_address (declarations_of m) f v))
  pub values : mf.values ≡ below.values
  pub leaves : mf.leaves ≡ below.leaves
  pub addresses : mf.addresses ≡ below.addresses
  pub slots : mf.slots ≡ below.slots
  pub values_end : above.values ≡ below.values + value_count f
  pub leaves_end : above.leaves ≡ below.leaves + leaves_before (declarations_of m) f (value_count f)
  pub addresses_end : above.addresses ≡ below.addresses + addresses_before (declarations_of m) f (value_count f)
  pub slots_end : below.slots ≤ above.slots
  pub waiting_end : above.waiting ≡ below.waiting
  pub own_slots : lf.slots ≡ reverse (map (slot_place made) (slots_between st below.slots above.slots))
