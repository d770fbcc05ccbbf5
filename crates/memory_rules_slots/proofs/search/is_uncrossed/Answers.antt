use Rattle.std.proofs.Common.{ℕ, ◌<◌, length, get_or, All, sym, subst}
use Rattle.std.specs.Prelude.{IfOk, IfNone, IsTrue}
use Rattle.std.proofs.lemmas.List.Elements.{All-from_get_or}
use Rattle.memory_rules_accesses.specs.reach_engine_marks.PathPatterns.inner.Reads.{accesses_at}
use Rattle.memory_rules_slots.specs.inner.Searches.{IsUncrossed}
use Rattle.memory_rules_slots.proofs.search.is_uncrossed.Goals as goal
use Rattle.memory_rules_slots.proofs.search.is_uncrossed.Goals.{in-None, in-Some}

pub returns : goal.returns
returns c = elim c.match-branch-2.branch [
  | in-None w ↦
      subst (λ r. IfOk r (λ clean. IsTrue clean → All (IsUncrossed c.args.g.now (accesses_at c.args.accesses.now) c.args.first) c.args.chunk.now.slots.items)) (sym w.result-is)
      (λ told. All-from_get_or (IsUncrossed c.args.g.now (accesses_at c.args.accesses.now) c.args.first)
      c.args.chunk.now.slots.items c.args.first (subst (λ o. IfNone o ((u : ℕ) → u < length c.args.chunk.now.slots.items
      → IsUncrossed c.args.g.now (accesses_at c.args.accesses.now) c.args.first (get_or c.args.chunk.now.slots.items u c.args.first))) w.in-None.is c.in_ok-first_broken.ensures.none))
  | in-Some w ↦
      subst (λ r. IfOk r (λ clean. IsTrue clean → All (IsUncrossed c.args.g.now (accesses_at c.args.accesses.now) c.args.first) c.args.chunk.now.slots.items)) (sym w.result-is)
      (λ told. cc)
]
