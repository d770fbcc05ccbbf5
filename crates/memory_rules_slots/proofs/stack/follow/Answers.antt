use Rattle.std.proofs.Common.{[], ◌∷◌, sym, subst}
use Rattle.memory_rules_accesses.specs.declared.access.Access.{Access}
use Rattle.memory_rules_slots.specs.inner.Followed.{AreFollowed}
use Rattle.memory_rules_slots.proofs.stack.follow.Goals as goal

pub returns-in-Deallocates : goal.returns-in-Deallocates
returns-in-Deallocates c =
    subst (λ (x : Access). AreFollowed c.args.sources.now c.args.ranks.now c.args.stack.now.items (x ∷ []) c.leave.new.stack.items c.args.doubts.now c.leave.new.doubts) (sym c.in-Deallocates.is)
    (c.leave.ensures c.args.sources.now c.args.ranks.now)
