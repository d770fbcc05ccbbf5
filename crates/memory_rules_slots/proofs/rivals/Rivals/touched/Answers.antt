use Rattle.std.proofs.Common.{◌≡◌, ◌<◌, ℕ, List, length, get_or, false, sym, ap, ◌∙◌, subst, All, arith}
use Rattle.std.specs.Prelude.{Contains}
use Rattle.std.specs.List.Sorted.{IsStrictlyIncreasing}
use Rattle.std.specs.declared.alloc.Global.{Global}
use Rattle.std.specs.declared.vec.Vec.{Vec}
use Rattle.memory_rules_accesses.specs.reach_engine_marks.PathPatterns.inner.Reads.{accesses_at}
use Rattle.memory_rules_accesses.proofs.reach_engine_marks.PathChecks.Accesses.{accesses_there}
use Rattle.memory_rules_accesses.specs.declared.access.Access.{Access}
use Rattle.memory_rules_slots.specs.inner.Touched.{has_slot}
use Rattle.memory_rules_slots.proofs.SlotsTouched.{quiet_pair, not_in}
use Rattle.memory_rules_slots.proofs.rivals.Rivals.touched.Goals as goal

pub returns-then-has_slot-clause-others : goal.returns-then-has_slot-clause-others
returns-then-has_slot-clause-others c = λ u s lu none.
    let P : List ℕ → Type 0 = λ v. Contains v u in
    absurd (c.args.self.now.of.all u lu (λ x. none (subst P (sym c.as_slice-then-has_slot.ensures.value) x)))

pub returns-else-has_slot-clause-ascending : goal.returns-else-has_slot-clause-ascending
returns-else-has_slot-clause-ascending c =
    let same : accesses_at c.args.self.now.chunk.now.touched.items c.args.item ≡ c.as_slice-else-has_slot.result.now =
    accesses_there c.args.self.now.chunk.now.touched.items c.args.item c.index.result.now (omega (arith, c.args.self.now.of.size)) c.index.ensures ∙ sym c.as_slice-else-has_slot.ensures.value in
    subst IsStrictlyIncreasing same (c.args.self.now.of.rising c.args.item).ascending

pub returns-else-has_slot-clause-below : goal.returns-else-has_slot-clause-below
returns-else-has_slot-clause-below c =
    let same : accesses_at c.args.self.now.chunk.now.touched.items c.args.item ≡ c.as_slice-else-has_slot.result.now =
    accesses_there c.args.self.now.chunk.now.touched.items c.args.item c.index.result.now (omega (arith, c.args.self.now.of.size)) c.index.ensures ∙ sym c.as_slice-else-has_slot.ensures.value in
    let P : List ℕ → Type 0 = λ v. All (λ u. u < length c.args.self.now.chunk.now.slots.items) v in
    subst P same (c.args.self.now.of.rising c.args.item).below

pub returns-else-has_slot-clause-others : goal.returns-else-has_slot-clause-others
returns-else-has_slot-clause-others c = λ u s lu none.
    let same : accesses_at c.args.self.now.chunk.now.touched.items c.args.item ≡ c.as_slice-else-has_slot.result.now =
    accesses_there c.args.self.now.chunk.now.touched.items c.args.item c.index.result.now (omega (arith, c.args.self.now.of.size)) c.index.ensures ∙ sym c.as_slice-else-has_slot.ensures.value in
    let own : accesses_at c.args.self.now.accesses.now c.args.item ≡ c.as_slice.result.now =
    accesses_there c.args.self.now.accesses.now c.args.item c.index-self-item.result (omega arith) c.index-self-item.is ∙ ap (λ (v : Vec Access Global). v.items) c.index-self-item.is
    ∙ sym c.as_slice.ensures.value in
    let outside : has_slot c.args.self.now.first (accesses_at c.args.self.now.accesses.now c.args.item) ≡ false =
    ap (has_slot c.args.self.now.first) own ∙ sym c.has_slot.ensures ∙ c.if-has_slot.false in
    let P : List ℕ → Type 0 = λ v. Contains v u in
    quiet_pair c.args.self.now.first (get_or c.args.self.now.chunk.now.slots.items u c.args.self.now.first) (accesses_at c.args.self.now.accesses.now c.args.item) s
    (not_in c.args.self.now.first (accesses_at c.args.self.now.accesses.now c.args.item) outside)
    (c.args.self.now.of.touched c.args.item u c.args.self.now.first lu (λ x. none (subst P same x)))
