use Rattle.std.proofs.Common.{List, All, subst}
use Rattle.sil_ast.specs.declared.place.ValueId.{ValueId}
use Rattle.memory_rules_accesses.specs.reach_engine_marks.PathPatterns.inner.Reads.{accesses_at}
use Rattle.memory_rules_slots.specs.inner.Searches.{IsUncrossed}
use Rattle.memory_rules_slots.proofs.search.crossing_of_first.Goals as goal

pub returns-then-clean : goal.returns-then-clean
returns-then-clean c = subst (λ (l : List ValueId). All (IsUncrossed c.args.g.now (accesses_at c.args.accesses.now) c.args.first) l) c.requires.slots (c.in_ok-clean.ensures c.if-clean.true)
