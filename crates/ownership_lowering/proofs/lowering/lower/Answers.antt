use Rattle.std.proofs.Common.{◌∙◌, ap, subst, sym}
use Rattle.sil_types_declarations.specs.TypeDefinitions.Declarations.{declarations_of}
use Rattle.sil_verifier.specs.sil_verifier_accepted.AcceptedModules.inner.Checked.{IsVerifiedWith}
use Rattle.ownership_lowering_laws.specs.ownership_lowering_model.LoweredModules.{lowered}
use Rattle.ownership_lowering.proofs.lowering.lower.Goals as goal

pub lower_in_place-requires : goal.lower_in_place-requires
lower_in_place-requires c =
    subst (λ m. IsVerifiedWith m c.table.result.now) (sym (c.in_ok-m.ensures ∙ c.module.ensures.value))
    (record { verified = c.module.ensures.verified; declarations = c.table.ensures })

pub returns-clause-value : goal.returns-clause-value
returns-clause-value c = c.in_ok-lower_in_place.ensures.value ∙ ap lowered (c.in_ok-m.ensures ∙ c.module.ensures.value)

pub returns-clause-runnable : goal.returns-clause-runnable
returns-clause-runnable c = c.in_ok-lower_in_place.ensures.runnable

pub returns-clause-declarations : goal.returns-clause-declarations
returns-clause-declarations c = c.in_ok-lower_in_place.ensures.declarations ∙ ap declarations_of (c.in_ok-m.ensures ∙ c.module.ensures.value)
