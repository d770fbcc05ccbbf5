-- Memory has changed at a place, and the instruction goes on.
use Rattle.std.proofs.Common.{◌≡◌, List, [], Some}
use Rattle.count_machine_model.specs.holder_model.Effects.{Makes, unchanged}
use Rattle.count_machine_model.specs.holder_model.Outcomes.{Numbers}
use Rattle.sil_cfg_items.specs.Parts.{inst_at}
use Rattle.count_machine_model.specs.holder_model.LoweredRun.LowStepParts.{numbers_for}
use Rattle.count_machine_model.specs.MachineSteps.Operands.{go_on}
use Rattle.count_machine_model.specs.MachineSteps.Views.{MachineView}
use Rattle.count_machine_model.specs.declared.machine_steps.address.Address.{Address}
use Rattle.count_machine_model.specs.declared.machine_steps.address.OpenSlot.{OpenSlot}
use Rattle.holder_model_values.specs.RunValues.Memory.{Memory}
use Rattle.holder_model_values.specs.RunValues.Places.{Place}
use Rattle.sil_ast.specs.declared.module.Module.{Module}
use Rattle.count_machine_laws.proofs.Changes.{HasChanged}
use Rattle.count_machine_laws.proofs.Ending.{Alike}
use Rattle.count_machine_laws.proofs.FrameSteps.{Running}
use Rattle.count_machine_laws.proofs.Memories.{NamesPlace}
use Rattle.count_machine_laws.proofs.Numbers.{numbers_stay}
use Rattle.count_machine_laws.proofs.Objects.{is_of_class}
use Rattle.count_machine_laws.proofs.Rows.Effects.{Runs, performed}
use Rattle.count_machine_laws.proofs.Rows.Makes.{nothing_given}
use Rattle.count_machine_laws.proofs.Rows.Steps.{memory_changes}
use Rattle.count_machine_laws.proofs.Slots.{Made}
use Rattle.count_machine_laws.proofs.Tasks.{Beginning}

-- an address names a part where its place is one
pub address_part : {m : Module} {made : List Made} {slots : List OpenSlot} {mem : Memory} {a : Address} {p : Place} → NamesPlace m made slots mem a p → a.is_part ≡ p.is_part
address_part (NamesPlace.in_slot index serial at names) = names.parts
address_part (NamesPlace.in_field o k at names) = names.parts

module _ {m : Module} {entry : Beginning} (r : Runs m entry) {mem' : Memory} {ns : List Numbers} {st' : MachineView} (has : HasChanged m r.made r.s.memory r.st mem' ns st') where
  pub still_running : Running m entry has.changes.made' (record r.s { memory = mem'; numbers = ns }) st' r.f r.lf r.mf r.below r.rest r.rest'
  still_running = memory_changes r.running has.changes has.slots

  pub same_numbers : numbers_for mem' ns ≡ ns
  same_numbers = numbers_stay m (is_of_class m mem') mem' ns st'.heap has.changes.agrees.objects

  -- and gives nothing
  pub changed_alike : inst_at r.f r.lf.at ≡ Some r.i → r.i.results ≡ []
      → Alike m entry (performed r (record r.s { numbers = ns }) (Makes (unchanged mem'))) (go_on st' r.mf r.rest')
  changed_alike there results =
      nothing_given m entry r.bound r.f r.lf r.mf r.below r.rest r.rest' r.i there (record r.s { numbers = ns }) same_numbers still_running results
