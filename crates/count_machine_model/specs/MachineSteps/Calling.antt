-- How frames come and go.
use Rattle.std.specs.Prelude.{ℕ, List, [], ◌∷◌, ◌++◌, false, cond, length, map, nat_lt, replicate, take}
use Rattle.holder_model.specs.declared.limits.TheConstants.{FRAMES}
use Rattle.holder_model.specs.holder_model_values.declared.run_values.leaf.Leaf.{Leaf}
use Rattle.holder_model.specs.holder_model_values.declared.run_values.leaf.Leaf.TheVariants as leaf
use Rattle.count_machine_model.specs.declared.ready_code.function.ReadyFunction.{ReadyFunction}
use Rattle.count_machine_model.specs.declared.ready_code.local.Carry.{Carry}
use Rattle.count_machine_model.specs.declared.ready_code.local.CarryAddress.{CarryAddress}
use Rattle.sil_ast.specs.declared.place.FuncId.{FuncId}
use Rattle.count_machine_model.specs.declared.machine_steps.frame.Frame.{Frame}
use Rattle.count_machine_model.specs.declared.machine_steps.frame.Task.{Task}
use Rattle.count_machine_model.specs.declared.machine_steps.frame.Task.TheVariants as task
use Rattle.count_machine_model.specs.declared.machine_steps.run_end.RunEnd.TheVariants as end
use Rattle.count_machine_model.specs.MachineSteps.Operands.{address_in, contents, no_address, put, put_address}
use Rattle.count_machine_model.specs.MachineSteps.Turning.{frames_in, turn}
use Rattle.count_machine_model.specs.MachineSteps.Views.{MachineView, Stops, Went}

-- the frame of a function that is called now
abbrev pub new_frame : MachineView → FuncId → Frame
new_frame st g = record {
  function = g;
  block = 0;
  index = 0;
  values = length st.there;
  leaves = length st.leaves;
  addresses = length st.addresses;
  slots = length st.slots;
}

-- room for the values of the function, none of which is there yet
abbrev pub with_frame : MachineView → FuncId → ReadyFunction → MachineView
with_frame st g f = record st {
  tasks = task.Runs (new_frame st g) ∷ st.tasks;
  there = st.there ++ replicate f.values false;
  leaves = st.leaves ++ replicate f.leaves leaf.Blank;
  addresses = st.addresses ++ replicate f.addresses no_address;
}

-- values of a frame become values of another one, or of itself, all at once: what they are is read before

abbrev pub put_all : MachineView → Frame → List Carry → List (List Leaf) → MachineView
put_all st to [] lss = st
put_all st to (c ∷ cs) [] = st
put_all st to (c ∷ cs) (ls ∷ lss) = put_all (put st to c.to ls) to cs lss

abbrev pub carried : MachineView → Frame → Frame → List Carry → MachineView
carried st from to cs = put_all st to cs (map (λ c. contents st from c.from) cs)

abbrev pub addresses_carried : MachineView → Frame → Frame → List CarryAddress → MachineView
addresses_carried st from to [] = st
addresses_carried st from to (c ∷ cs) = addresses_carried (put_address st to c.to (address_in st from c.from)) from to cs

-- a call makes a frame, where there may be one more, and enters its first block
abbrev pub enter : ℕ → MachineView → (MachineView → Went) → Went
enter bound st go = cond (nat_lt (frames_in st.tasks) FRAMES) (turn bound st go) (Stops end.Depth st)

-- the frame is gone, with its values
abbrev pub without_frame : MachineView → Frame → List Task → MachineView
without_frame st fr rest = record st {
  tasks = rest;
  there = take fr.values st.there;
  leaves = take fr.leaves st.leaves;
  addresses = take fr.addresses st.addresses;
}
