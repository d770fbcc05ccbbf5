-- Values that are carried change what frames hold, and nothing else.
use Rattle.std.proofs.Common.{◌≡◌, ◌∙◌, ℕ, List, [], ◌∷◌, refl, map, ap}
use Rattle.count_machine_model.specs.holder_model.Data.{Datum}
use Rattle.count_machine_model.specs.holder_model.LoweredRun.LowStepParts.{LowState}
use Rattle.count_machine_model.specs.declared.machine_steps.frame.Frame.{Frame}
use Rattle.count_machine_model.specs.MachineSteps.Calling.{addresses_carried, carried, put_all}
use Rattle.count_machine_model.specs.MachineSteps.Operands.{address_in, contents, put, put_address}
use Rattle.count_machine_model.specs.MachineSteps.Views.{MachineView}
use Rattle.count_machine_model.specs.declared.ready_code.local.Carry.{Carry}
use Rattle.count_machine_model.specs.declared.ready_code.local.CarryAddress.{CarryAddress}
use Rattle.holder_model_values.specs.RunValues.Memory.{Memory}
use Rattle.holder_model_values.specs.declared.run_values.leaf.Leaf.{Leaf}
use Rattle.sil_ast.specs.declared.function.Function.{Function}
use Rattle.sil_ast.specs.declared.module.Module.{Module}
use Rattle.sil_ast.specs.declared.place.ValueId.{ValueId}
use Rattle.count_machine_laws.proofs.Agreement.{PartsAgree}
use Rattle.count_machine_laws.proofs.Ending.{memory_moves}
use Rattle.count_machine_laws.proofs.Grows.{WereMade}
use Rattle.count_machine_laws.proofs.GrowsSame.{grows_same}
use Rattle.count_machine_laws.proofs.GrowsTasks.{entry_grows}
use Rattle.count_machine_laws.proofs.Operands.{AllRead, more, none}
use Rattle.count_machine_laws.proofs.Slots.{Made}

-- all but which values are there, leaves and addresses
pub record OnlyValues (st st' : MachineView) : Type 0 where
  pub tasks : st'.tasks ≡ st.tasks
  pub slots : st'.slots ≡ st.slots
  pub slot_leaves : st'.slot_leaves ≡ st.slot_leaves
  pub waiting : st'.waiting ≡ st.waiting
  pub heap : st'.heap ≡ st.heap
  pub events : st'.events ≡ st.events
  pub turns : st'.turns ≡ st.turns
  pub serials : st'.serials ≡ st.serials

pub only_then : {st st' st'' : MachineView} → OnlyValues st st' → OnlyValues st' st'' → OnlyValues st st''
only_then first then = record {
  tasks = then.tasks ∙ first.tasks;
  slots = then.slots ∙ first.slots;
  slot_leaves = then.slot_leaves ∙ first.slot_leaves;
  waiting = then.waiting ∙ first.waiting;
  heap = then.heap ∙ first.heap;
  events = then.events ∙ first.events;
  turns = then.turns ∙ first.turns;
  serials = then.serials ∙ first.serials;
}

pub only_put : (st : MachineView) (there : _) (leaves : _) (addresses : _) → OnlyValues st (record st { there = there; leaves = leaves; addresses = addresses })
only_put st there leaves addresses =
    record { tasks = refl; slots = refl; slot_leaves = refl; waiting = refl; heap = refl; events = refl; turns = refl; serials = refl }

only_put_all : (st : MachineView) (to : Frame) (cs : List Carry) (lss : List (List Leaf)) → OnlyValues st (put_all st to cs lss)
only_put_all st to [] lss = only_put st st.there st.leaves st.addresses
only_put_all st to (c ∷ cs) [] = only_put st st.there st.leaves st.addresses
only_put_all st to (c ∷ cs) (ls ∷ lss) =
    let one = put st to c.to ls in only_then {st = st} {st' = one} (only_put st one.there one.leaves one.addresses) (only_put_all one to cs lss)

pub only_carried : (st : MachineView) (from to : Frame) (cs : List Carry) → OnlyValues st (carried st from to cs)
only_carried st from to cs = only_put_all st to cs (map (λ c. contents st from c.from) cs)

pub only_addresses : (st : MachineView) (from to : Frame) (cs : List CarryAddress) → OnlyValues st (addresses_carried st from to cs)
only_addresses st from to [] = only_put st st.there st.leaves st.addresses
only_addresses st from to (c ∷ cs) =
    let one = put_address st to c.to (address_in st from c.from) in
    only_then {st = st} {st' = one} (only_put st one.there one.leaves one.addresses) (only_addresses one from to cs)

pub parts_values : {m : Module} {made : List Made} {s : LowState} {st st' : MachineView} → PartsAgree m made s st → OnlyValues st st' → PartsAgree m made s st'
parts_values parts only = record {
  memory = memory_moves parts.memory only.slots only.slot_leaves only.heap only.serials;
  events = only.events ∙ parts.events;
  turns = only.turns ∙ parts.turns;
  retains = ap (λ h. h.retains) only.heap ∙ parts.retains;
  releases = ap (λ h. h.releases) only.heap ∙ parts.releases;
}

-- what was read stands as it was when a turn begins
pub read_turned : {m : Module} {made : List Made} {mem : Memory} {st : MachineView} {f : Function} {mf : Frame} {vs : List ValueId} {xs : List Datum} → WereMade made st.slots → (n : ℕ)
    → AllRead m made mem st f mf vs xs → AllRead m made mem (record st { turns = n }) f mf vs xs
read_turned were n none = none
read_turned {st = st} were n (more v x vs xs is all) = more v x vs xs (entry_grows {st = st} {st' = record st { turns = n }} (grows_same were refl) is) (read_turned were n all)
