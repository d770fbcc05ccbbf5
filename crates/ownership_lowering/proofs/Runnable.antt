-- What lowering makes of an accepted module can be run.
use Rattle.std.proofs.Common.{◌≡◌, ℕ, [], Some, None, refl}
use Rattle.std.specs.Prelude.{slice_get}
use Rattle.sil_ast.specs.declared.function.Function.{Function}
use Rattle.sil_ast.specs.declared.module.Module.{Module}
use Rattle.sil_rules.specs.declared.rule_faults.fault.RuleFault.{RuleFault}
use Rattle.ownership_lowering_laws.specs.LoweredNumberingLaws.inner.Laws.{AreTypesKept, DeclaresTheSame, IsLoweredNumbered}
use Rattle.ownership_lowering_laws.specs.LoweredTypingLaws.inner.LoweredTyped.{LoweredIsTyped}
use Rattle.ownership_lowering_laws.specs.LoweringLaws.inner.Laws.{HaveNoRings}
use Rattle.ownership_lowering_laws.specs.ownership_lowering_model.LoweredModules.{lowered}
use Rattle.ownership_lowering_laws.specs.ownership_kinds.Statics.{HasKinds}
use Rattle.sil_verifier.specs.holder_model.RunTyping.Runnable.{IsRunnable}
use Rattle.sil_cfg.specs.Items.{HasBlocks}
use Rattle.sil_verifier.specs.sil_verifier_accepted.AcceptedModules.Shown.IsShownIn.{kind}
use Rattle.sil_verifier.specs.sil_verifier_accepted.AcceptedModules.inner.Checked.{IsVerified}
use Rattle.sil_types_declarations.specs.TypeDefinitions.Declarations.{declarations_of}
use Rattle.ownership_lowering.specs.inner.Laws.{AcceptedLowersRunnable}

module _ (m : Module) (verified : IsVerified m) where
  pub have_kinds : (n : ℕ) (f : Function) → slice_get m.functions n ≡ Some f → HasBlocks f → HasKinds (declarations_of m) f
  have_kinds n f there body r v b k broken = verified.accepted.values (record { function = n; showing = fault }) (record {
    within = f;
    is_body = record { there = there; body = body };
    shown = kind refl refl broken;
  })
    where
      fault : RuleFault
      fault = record { rule = r; subject = v; other = None; point = record { block = record { 0 = b }; index = k }; walk = [] }

  module _ (rings : HaveNoRings) (numbering : IsLoweredNumbered) (types : AreTypesKept) (typing : LoweredIsTyped) where
    runnable : IsRunnable (lowered m)
    runnable =
        let typed = verified.accepted.types.typed in
        let none = rings m verified.numbered have_kinds in
        let form = numbering m verified.numbered typed none in
        let declared = verified.accepted.types.declared in
        let kept = types m verified.numbered typed none declared.0 declared.1 in
        record { numbered = form.0; declared = kept.0; limits = kept.1; typed = typing m verified.numbered typed none; lowered = form.1 }

pub accepted_lowers_runnable : HaveNoRings → IsLoweredNumbered → AreTypesKept → LoweredIsTyped → DeclaresTheSame → AcceptedLowersRunnable
accepted_lowers_runnable rings numbering types typing declares m verified = (runnable m verified rings numbering types typing, declares m)
