use Rattle.std.proofs.Common.{◌≡◌, ◌<◌, ◌==◌, ◌∙◌, List, [], ◌∷◌, get_or, sym, subst, true, arith}
use Rattle.std.specs.Prelude.{All, AllPairs, length}
use Rattle.std.proofs.lemmas.Bool.{eqb-true}
use Rattle.std.proofs.lemmas.List.{nil_from_length, take_all}
use Rattle.std.proofs.lemmas.List.Elements.{All-from_get_or, All-get_or, All-weaker}
use Rattle.sil_ast.specs.declared.place.ValueId.{ValueId}
use Rattle.memory_rules_accesses.specs.reach_engine_marks.PathPatterns.inner.Reads.{accesses_at}
use Rattle.memory_rules_slots.specs.Pairs.{IsSlot}
use Rattle.memory_rules_slots.specs.inner.Searches.{AreSlots, IsUncrossed}
use Rattle.memory_rules_slots.proofs.FirstCrossing.{found_first, clean_more, none_first}
use Rattle.memory_rules_slots.proofs.NeverOut.{never_out}
use Rattle.memory_rules_slots.proofs.first.first_crossing.Goals as goal

pub loop-first-preserved : goal.loop-first-preserved
loop-first-preserved c =
    let slots = c.as_slice-slots.result.now in
    let are : AreSlots c.args.sources.now (length c.args.sources.now) slots =
    subst (AreSlots c.args.sources.now (length c.args.sources.now)) (sym c.as_slice-slots.ensures.value) c.in_ok-listed.ensures in
    clean_more c.args.g.now c.args.f.now c.requires.graph (accesses_at c.args.accesses.now) c.args.sources.now slots are c.args.k.now c.requires.accesses c.loop-first.first-index
    _ c.in_ok-crossing.field-0
    c.loop-first-test.true c.loop-first.invariant c.in_ok-crossing.ensures c.in_default.is

pub returns-in-Some : goal.returns-in-Some
returns-in-Some c =
    let slots = c.as_slice-slots.result.now in
    let are : AreSlots c.args.sources.now (length c.args.sources.now) slots =
    subst (AreSlots c.args.sources.now (length c.args.sources.now)) (sym c.as_slice-slots.ensures.value) c.in_ok-listed.ensures in
    found_first c.args.g.now c.args.f.now c.requires.graph (accesses_at c.args.accesses.now) c.args.sources.now slots are c.args.k.now c.requires.accesses c.loop-first.first-index _
    c.in_ok-crossing.field-0 c.in-Some.crossing
    c.loop-first-test.true c.loop-first.invariant c.in_ok-crossing.ensures c.in-Some.is

pub returns : goal.returns
returns c =
    let slots = c.as_slice-slots.result.now in
    let are : AreSlots c.args.sources.now (length c.args.sources.now) slots =
    subst (AreSlots c.args.sources.now (length c.args.sources.now)) (sym c.as_slice-slots.ensures.value) c.in_ok-listed.ensures in
    let clean : All (λ a. All (IsUncrossed c.args.g.now (accesses_at c.args.accesses.now) a) slots) slots = subst (λ (v : List ValueId).
    All (λ a. All (IsUncrossed c.args.g.now (accesses_at c.args.accesses.now) a) slots) v) (take_all c.loop-first.first-index slots (omega arith)) c.loop-first.invariant in
    none_first c.args.g.now c.args.f.now c.requires.graph (accesses_at c.args.accesses.now) c.args.sources.now slots are c.args.k.now c.requires.accesses clean

pub crossing_in_doubt-requires-clause-trusted : goal.crossing_in_doubt-requires-clause-trusted
crossing_in_doubt-requires-clause-trusted c = λ trusted.
    let slots = c.as_slice-slots.result.now in
    let are : AreSlots c.args.sources.now (length c.args.sources.now) slots =
    subst (AreSlots c.args.sources.now (length c.args.sources.now)) (sym c.as_slice-slots.ensures.value) c.in_ok-listed.ensures in
    let Uncrossed : ValueId → Type 0 = IsUncrossed c.args.g.now (accesses_at c.args.accesses.now) (get_or slots c.loop-first.first-index _) in
    All-weaker (IsSlot c.args.sources.now) Uncrossed (λ b sb. c.in_ok-doubts.ensures (get_or slots c.loop-first.first-index _) trusted
    (All-get_or (IsSlot c.args.sources.now) slots c.loop-first.first-index _ c.loop-first-test.true are.each) b sb) slots are.each

pub crossing_in_doubt-requires-clause-ascending : goal.crossing_in_doubt-requires-clause-ascending
crossing_in_doubt-requires-clause-ascending c = subst (λ (l : List ValueId). AllPairs (λ a b. a.0 < b.0) l) (sym c.as_slice-slots.ensures.value) c.in_ok-listed.ensures.ascending

pub crossing_in_doubt-requires-clause-never : goal.crossing_in_doubt-requires-clause-never
crossing_in_doubt-requires-clause-never c = λ trusted.
    let slots = c.as_slice-slots.result.now in
    let first : ValueId = get_or slots c.loop-first.first-index _ in
    All-from_get_or (IsUncrossed c.args.g.now (accesses_at c.args.accesses.now) first) slots first
    (λ i lt. never_out c.args.g.now (accesses_at c.args.accesses.now) first (get_or slots i first) (c.in_ok-deallocated.ensures first trusted))

pub returns-then-is_empty : goal.returns-then-is_empty
returns-then-is_empty c =
    let slots = c.as_slice-slots.result.now in
    let are : AreSlots c.args.sources.now (length c.args.sources.now) slots =
    subst (AreSlots c.args.sources.now (length c.args.sources.now)) (sym c.as_slice-slots.ensures.value) c.in_ok-listed.ensures in
    let empty : slots ≡ [] = nil_from_length slots (eqb-true (length slots) 0 (sym c.is_empty.ensures ∙ c.if-is_empty.true)) in
    let clean : All (λ a. All (IsUncrossed c.args.g.now (accesses_at c.args.accesses.now) a) slots) slots =
    subst (λ (v : List ValueId). All (λ a. All (IsUncrossed c.args.g.now (accesses_at c.args.accesses.now) a) slots) v) (sym empty) (λ k d lt. absurd (omega (arith, lt))) in
    none_first c.args.g.now c.args.f.now c.requires.graph (accesses_at c.args.accesses.now) c.args.sources.now slots are c.args.k.now c.requires.accesses clean
