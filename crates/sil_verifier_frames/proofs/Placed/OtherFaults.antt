-- Faults of operands and of results are none of places.
use Rattle.std.proofs.Common.{◌≡◌, false, refl}
use Rattle.holder_model_laws.specs.holder_model.Faults.{HolderFault}
use Rattle.holder_model_laws.proofs.HolderLaws.Steps.WhichFaults.{IsOperandFault, IsResultFault}
use Rattle.sil_verifier_frames.specs.inner.Placed.Items.{is_place_fault}

pub operand_fault : (x : HolderFault) → IsOperandFault x → is_place_fault x ≡ false
operand_fault _ IsOperandFault.no_entry = refl
operand_fault _ IsOperandFault.consumes_lent = refl
operand_fault _ IsOperandFault.names_dead = refl

pub result_fault : (x : HolderFault) → IsResultFault x → is_place_fault x ≡ false
result_fault _ IsResultFault.overwrites_held = refl
result_fault _ IsResultFault.wrong_shape = refl
