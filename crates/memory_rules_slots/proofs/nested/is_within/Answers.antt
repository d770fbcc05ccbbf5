use Rattle.std.proofs.Common.{◌≡◌, ◌+◌, ◌<◌, ℕ, List, length, get_or, take, All, sym, subst, arith}
use Rattle.std.specs.Prelude.{Contains}
use Rattle.std.proofs.lemmas.Bool.{eqb-true}
use Rattle.std.proofs.lemmas.List.{take_all}
use Rattle.sil_ast.specs.declared.place.ValueId.{ValueId}
use Rattle.std.proofs.lemmas.List.Elements.{All-more, Contains-get_or}
use Rattle.memory_rules_slots.proofs.SlotsListed.{same_value}
use Rattle.memory_rules_slots.proofs.nested.is_within.Goals as goal
use Rattle.memory_rules_slots.proofs.nested.is_within.Goals.{then-found-stack+then-stack-found, else-found-stack}

one_found : (stack other : List ValueId) (n i m : ℕ) (d e : ValueId) → n < length stack → i < length other → (get_or stack n d).0 ≡ (get_or other i e).0 → m ≡ n + 1
    → All (λ u. Contains other u) (take n stack) → All (λ u. Contains other u) (take m stack)
one_found stack other n i m d e ln li same more h =
    subst (λ (k : ℕ). All (λ u. Contains other u) (take k stack)) (sym more)
    (All-more (λ u. Contains other u) stack n d ln h (subst (Contains other) (sym (same_value (get_or stack n d) (get_or other i e) same)) (Contains-get_or other i e li)))

pub returns : goal.returns
returns c = λ told.
    let whole : c.loop-slot.found ≡ length c.args.stack.now = eqb-true c.loop-slot.found (length c.args.stack.now) told in
    subst (λ (l : List ValueId). All (λ u. Contains c.args.other.now u) l) (take_all c.loop-slot.found c.args.stack.now (omega arith)) c.loop-slot.invariant.all

pub loop-slot-preserved : goal.loop-slot-preserved
loop-slot-preserved c = elim c.if-found-stack.branch [
  | then-found-stack+then-stack-found w ↦ record {
    within = omega (arith, w.found-is, w.if-found-stack.true);
    all = one_found c.args.stack.now c.args.other.now c.loop-slot.found c.loop-slot.slot-index c.if-found-stack.found _ _ w.if-found-stack.true c.loop-slot-test.true w.if-stack-found.true w.found-is
        c.loop-slot.invariant.all;
  }
  | else-found-stack w ↦ record {
    within = omega (arith, w.found-is, c.loop-slot.invariant.within);
    all = subst (λ (n : ℕ). All (λ u. Contains c.args.other.now u) (take n c.args.stack.now)) (sym w.found-is) c.loop-slot.invariant.all;
  }
]
