use Rattle.std.proofs.Common.{◌≢◌}
use Rattle.std.proofs.lemmas.List.Elements.{All-more}
use Rattle.memory_rules_accesses.specs.declared.access.Access.TheVariants.{Deallocates}
use Rattle.memory_rules_slots.proofs.deallocated.add_deallocated.Goals as goal

pub loop-access-preserved : goal.loop-access-preserved
loop-access-preserved c = record {
  keeps = λ v t. c.loop-access.invariant.keeps v (c.add_one.ensures.keeps v t);
  added = λ v t. All-more (λ x. x ≢ Deallocates v) c.args.accesses.now c.loop-access.access-index _ c.loop-access-test.true (c.loop-access.invariant.added v (c.add_one.ensures.keeps v t))
      (c.add_one.ensures.added v t);
}
