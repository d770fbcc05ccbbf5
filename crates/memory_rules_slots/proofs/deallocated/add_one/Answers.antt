use Rattle.std.proofs.Common.{◌≡◌, sym, ap, ◌∙◌, subst}
use Rattle.std.specs.Prelude.{unwrap_or}
use Rattle.memory_rules_slots.specs.inner.Touched.{slot_in}
use Rattle.memory_rules_slots.specs.inner.Trust.{IsTrusted}
use Rattle.memory_rules_slots.proofs.SlotsListed.{same_value}
use Rattle.memory_rules_slots.proofs.deallocated.add_one.Goals as goal

pub returns-in-Deallocates-clause-added : goal.returns-in-Deallocates-clause-added
returns-in-Deallocates-clause-added c = λ v t e.
    let same : c.in-Deallocates.slot ≡ v = same_value c.in-Deallocates.slot v (ap (λ o. unwrap_or o 0) (ap slot_in (sym c.in-Deallocates.is ∙ e))) in
    c.add.ensures.added (subst (IsTrusted c.add.new.self) (sym same) t)
