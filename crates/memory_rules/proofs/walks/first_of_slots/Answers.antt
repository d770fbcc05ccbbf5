use Rattle.std.proofs.Common.{◌∙◌, List, sym, subst, ap, Some, None}
use Rattle.std.specs.List.{list_any}
use Rattle.memory_rules_accesses.specs.reach_engine_marks.PathPatterns.inner.Reads.{AgreesWith, accesses_at}
use Rattle.memory_rules_accesses.specs.Accesses.{accesses_of}
use Rattle.memory_rules_accesses.specs.declared.access.Access.{Access}
use Rattle.memory_rules_accesses.specs.declared.source.Source.{Source}
use Rattle.memory_rules_accesses.specs.Sources.{is_slot_source}
use Rattle.memory_rules_slots.specs.Pairs.{IsFirstCrossing}
use Rattle.memory_rules.specs.inner.Reports.{IsFirstShown, IsOrderBreak}
use Rattle.memory_rules.proofs.FirstShown.{first_order, no_crossing, no_order}
use Rattle.memory_rules.proofs.walks.first_of_slots.Goals as goal

pub first_crossing-requires-clause-accesses : goal.first_crossing-requires-clause-accesses
first_crossing-requires-clause-accesses c = λ count facts by.
    subst (λ (s : List Source). AgreesWith c.args.g.now (accesses_at c.deref.result.now) (accesses_of s facts c.args.f.now)) (sym c.sources-sources.ensures)
    (subst (λ v. AgreesWith c.args.g.now (accesses_at {A = Access} v) (accesses_of c.args.m.now facts c.args.f.now)) (sym c.deref.ensures.value) (c.in_ok-accesses.ensures.accesses count facts by))

pub returns-then-not-has_slots : goal.returns-then-not-has_slots
returns-then-not-has_slots c =
    no_order c.args.m.now c.args.f.now c.args.g.now c.args.k.now
    (no_crossing c.args.m.now c.args.f.now c.args.g.now c.args.k.now (ap (list_any is_slot_source) (sym c.sources-sources.ensures) ∙ sym c.has_slots.ensures ∙ c.if-not-has_slots.true))

pub returns-in-None : goal.returns-in-None
returns-in-None c =
    no_order c.args.m.now c.args.f.now c.args.g.now c.args.k.now
    (subst (λ s. IsFirstCrossing s c.args.f.now c.args.g.now c.args.k.now None) c.sources-sources.ensures
    (subst (IsFirstCrossing c.sources-sources.result.now c.args.f.now c.args.g.now c.args.k.now) c.in-None.is c.in_ok-first_crossing.ensures))

pub returns : goal.returns
returns c =
    subst (λ x. IsFirstShown (IsOrderBreak c.args.m.now c.args.f.now) c.args.f.now c.args.g.now c.args.k.now (Some x)) (sym c.crossing_report.ensures)
    (first_order c.args.m.now c.args.f.now c.args.g.now c.args.k.now c.in-Some.crossing
    (subst (λ s. IsFirstCrossing s c.args.f.now c.args.g.now c.args.k.now (Some c.in-Some.crossing)) c.sources-sources.ensures
    (subst (IsFirstCrossing c.sources-sources.result.now c.args.f.now c.args.g.now c.args.k.now) c.in-Some.is c.in_ok-first_crossing.ensures)))
