use Rattle.std.proofs.Common.{◌≡◌, List, length, subst, take, arith}
use Rattle.std.proofs.lemmas.List.{take_all}
use Rattle.std.specs.Prelude.{eqb}
use Rattle.std.proofs.lemmas.List.Filters.{dedup_is}
use Rattle.memory_rules_slots.proofs.Rising.{rising_sorted}
use Rattle.memory_rules_accesses.specs.declared.access.Access.{Access}
use Rattle.memory_rules_slots.specs.inner.Touched.{HasTouched}
use Rattle.memory_rules_slots.proofs.SlotsTouched.{touched_put, below_put, touched_sorted}
use Rattle.memory_rules_slots.proofs.touched.touched_by.Goals as goal

pub loop-access-preserved : goal.loop-access-preserved
loop-access-preserved c = record {
  below = below_put c.args.slots.now _ c.loop-access.places.items c.put_in.new.places.items c.loop-access.invariant.below c.in_ok-put_in.ensures;
  all = touched_put c.args.slots.now c.args.accesses.now c.loop-access.access-index _ c.loop-access.places.items c.put_in.new.places.items c.loop-access-test.true
      c.loop-access.invariant.all c.in_ok-put_in.ensures;
}

pub returns-clause-rising : goal.returns-clause-rising
returns-clause-rising c =
    rising_sorted (length c.args.slots.now) c.loop-access.places.items c.sort.new.self.items c.dedup.new.self.items c.loop-access.invariant.below c.in_ok-sort.ensures.permutation
    c.in_ok-sort.ensures.sorted (dedup_is eqb c.sort.new.self.items c.dedup.new.self.items c.dedup.ensures.filtered)

pub returns-clause-all : goal.returns-clause-all
returns-clause-all c =
    let whole : take c.loop-access.access-index c.args.accesses.now ≡ c.args.accesses.now = take_all c.loop-access.access-index c.args.accesses.now (omega arith) in
    touched_sorted c.args.slots.now c.args.accesses.now c.loop-access.places.items c.sort.new.self.items c.dedup.new.self.items
    (subst (λ (v : List Access). HasTouched c.args.slots.now v c.loop-access.places.items) whole c.loop-access.invariant.all) c.in_ok-sort.ensures.permutation
    (dedup_is eqb c.sort.new.self.items c.dedup.new.self.items c.dedup.ensures.filtered)
