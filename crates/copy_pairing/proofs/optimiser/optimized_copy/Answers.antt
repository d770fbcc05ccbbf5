use Rattle.std.proofs.Common.{sym, ap, ◌∙◌, subst}
use Rattle.sil_types_declarations.specs.TypeDefinitions.Declarations.{declarations_of}
use Rattle.copy_pairing_model.specs.Optimised.{IsOptimised, LosesCopies}
use Rattle.sil_verifier.specs.sil_verifier_accepted.AcceptedModules.inner.Checked.{IsVerifiedWith}
use Rattle.copy_pairing_runs.specs.holder_model_laws.LockstepRuns.inner.Agreeing.{RunsAsItDid}
use Rattle.copy_pairing.proofs.optimiser.optimized_copy.Goals as goal

pub optimize_in_place-requires : goal.optimize_in_place-requires
optimize_in_place-requires c =
    subst (λ m. IsVerifiedWith m c.table.result.now) (sym (c.in_ok-m.ensures ∙ c.module.ensures.value))
    (record { verified = c.module.ensures.verified; declarations = c.table.ensures })

pub returns-clause-optimised : goal.returns-clause-optimised
returns-clause-optimised c =
    subst (λ m. IsOptimised m c.optimize_in_place.new.m) (c.in_ok-m.ensures ∙ c.module.ensures.value) c.in_ok-optimize_in_place.ensures.optimised

pub returns-clause-none_removable : goal.returns-clause-none_removable
returns-clause-none_removable c = c.in_ok-optimize_in_place.ensures.none_removable

pub returns-clause-fewer : goal.returns-clause-fewer
returns-clause-fewer c =
    subst (λ m. LosesCopies m c.optimize_in_place.new.m) (c.in_ok-m.ensures ∙ c.module.ensures.value) c.in_ok-optimize_in_place.ensures.fewer

pub returns-clause-runs : goal.returns-clause-runs
returns-clause-runs c =
    subst (λ m. RunsAsItDid m c.optimize_in_place.new.m) (c.in_ok-m.ensures ∙ c.module.ensures.value) c.in_ok-optimize_in_place.ensures.runs

pub returns-clause-verified : goal.returns-clause-verified
returns-clause-verified c = c.in_ok-optimize_in_place.ensures.verified.verified

pub returns-clause-declarations : goal.returns-clause-declarations
returns-clause-declarations c =
    sym c.in_ok-optimize_in_place.ensures.verified.declarations.copied ∙ c.table.ensures.copied
