-- Writing a place in the machine is filling it in the run.
use Rattle.std.proofs.Common.{◌≡◌, List, true, sym, subst}
use Rattle.std.specs.Prelude.{is_some}
use Rattle.count_machine_model.specs.holder_model.Outcomes.{Numbers}
use Rattle.count_machine_model.specs.declared.machine_steps.address.Address.{Address}
use Rattle.count_machine_model.specs.MachineSteps.Held.{write_at, write_by}
use Rattle.count_machine_model.specs.MachineSteps.Views.{MachineView}
use Rattle.count_machine_model.specs.holder_model.RunTyping.RunTyped.{RunTyped}
use Rattle.holder_model_values.specs.RunValues.Leaves.{leaves_of}
use Rattle.holder_model_values.specs.RunValues.Memory.{Memory}
use Rattle.holder_model_values.specs.RunValues.Places.{Place, filled, value_at}
use Rattle.holder_model_values.specs.RunValues.Values.{Value}
use Rattle.sil_ast.specs.declared.module.Module.{Module}
use Rattle.holder_model_values.specs.ValueParts.inner.Suits.{suits}
use Rattle.count_machine_laws.proofs.Changes.{HasChanged}
use Rattle.count_machine_laws.proofs.Held.{IsReachable}
use Rattle.count_machine_laws.proofs.Memories.{MemoryAgrees, NamesPlace}
use Rattle.count_machine_laws.proofs.Objects.{is_of_class}
use Rattle.count_machine_laws.proofs.Slots.{Made}
use Rattle.count_machine_laws.proofs.WritingInFields.{write_field_agrees}
use Rattle.count_machine_laws.proofs.WritingInSlots.{write_slot_agrees}

module _ (m : Module) (typed : RunTyped m) {made : List Made} {mem : Memory} {numbers : List Numbers} {st : MachineView} (agrees : MemoryAgrees m made mem numbers st) where
  pub write_agrees : (a : Address) (p : Place) (x : Value) → NamesPlace m made st.slots mem a p → IsReachable mem p → (p.is_part ≡ true → is_some (value_at mem p) ≡ true)
      → suits (is_of_class m mem) p.shape x ≡ true → HasChanged m made mem st (filled mem p x) numbers (write_at st a (leaves_of p.shape x))
  write_agrees a p x (NamesPlace.in_slot index serial at names) reached full good =
      subst (λ h. HasChanged m made mem st (filled mem p x) numbers (write_by st a (leaves_of p.shape x) h)) (sym at) (write_slot_agrees m agrees a p x reached full good index serial names)
  write_agrees a p x (NamesPlace.in_field o k at names) reached full good =
      subst (λ h. HasChanged m made mem st (filled mem p x) numbers (write_by st a (leaves_of p.shape x) h)) (sym at) (write_field_agrees m typed agrees a p x reached full good o k names)
