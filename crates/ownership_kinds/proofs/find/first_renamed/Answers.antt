use Rattle.std.proofs.Common.{◌∙◌, subst, sym}
use Rattle.std.specs.Prelude.{IfNone, IfOk, IfSome}
use Rattle.ownership_kinds_chains.specs.OwnershipChains.Chains.{HasNoRing, IsFirstCyclic, IsInRange}
use Rattle.ownership_kinds.proofs.find.first_renamed.Goals as goal

pub first_cyclic-requires : goal.first_cyclic-requires
first_cyclic-requires c = subst IsInRange (sym (c.as_slice.ensures ∙ c.in_ok-renamings.ensures)) c.requires.range

pub returns-clause-some : goal.returns-clause-some
returns-clause-some c = subst (λ ds. IfOk c.first_cyclic.result (λ o. IfSome o (IsFirstCyclic ds))) (c.as_slice.ensures ∙ c.in_ok-renamings.ensures) c.first_cyclic.ensures.some

pub returns-clause-none : goal.returns-clause-none
returns-clause-none c = subst (λ ds. IfOk c.first_cyclic.result (λ o. IfNone o (HasNoRing ds))) (c.as_slice.ensures ∙ c.in_ok-renamings.ensures) c.first_cyclic.ensures.none
