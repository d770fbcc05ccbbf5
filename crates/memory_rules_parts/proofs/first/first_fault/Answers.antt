use Rattle.std.proofs.Common.{List, take, None, sym, ◌∙◌, subst}
use Rattle.std.proofs.lemmas.Result.{IfOk-weaker}
use Rattle.ownership_kinds_chains.specs.OwnershipChains.Facts.{known_or}
use Rattle.ownership_kinds_chains.specs.OwnershipMarks.Known.{facts_of}
use Rattle.sil_rules.specs.Order.{IsFirst}
use Rattle.memory_rules_parts.specs.inner.Batches.{AreRising, IsFirstAmong}
use Rattle.sil_rules.specs.RuleFaults.Keys.{fault_key}
use Rattle.memory_rules_parts.specs.Shown.{IsFirstFinding, IsShown}
use Rattle.memory_rules_parts.specs.declared.part.Part.{Part}
use Rattle.memory_rules_parts.proofs.Joint.{parts_same}
use Rattle.memory_rules_parts.proofs.Ordered.{parts_rising}
use Rattle.memory_rules_parts.proofs.first.first_fault.Goals as goal

pub returns : goal.returns
returns c =
    IfOk-weaker c.first_from.result
    (IsFirstAmong c.args.m.now c.args.f.now c.args.g.now c.args.k.now c.deref-4.result.now)
    (IsFirstFinding c.args.m.now c.args.f.now c.args.g.now c.args.k.now)
    (λ r h count facts by.
    let P : List Part → Type 0 = λ ps. IsFirst fault_key (IsShown c.args.m.now facts c.args.f.now ps) r in
    subst P (c.deref-4.ensures.value ∙ c.in_ok-parts.ensures ∙ parts_same c.args.m.now (facts_of c.args.k.now) (known_or facts) by.facts_are) (h count facts by))
    c.first_from.ensures

pub first_from-requires-clause-rising : goal.first_from-requires-clause-rising
first_from-requires-clause-rising c = subst AreRising (sym (c.deref-4.ensures.value ∙ c.in_ok-parts.ensures)) (parts_rising c.args.m.now (facts_of c.args.k.now))

pub first_from-requires-clause-clean : goal.first_from-requires-clause-clean
first_from-requires-clause-clean c =
    let P : List Part → Type 0 = λ v. IsFirstAmong c.args.m.now c.args.f.now c.args.g.now c.args.k.now (take c.in_ok-start.start v) None in
    subst P (c.deref-2.ensures.value ∙ sym c.deref-4.ensures.value) c.in_ok-start.ensures.clean
