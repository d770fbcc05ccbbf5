-- To which rules the table belongs.
use Rattle.std.specs.Prelude.{ℕ, Option}
use Rattle.sil_ast.specs.declared.function.Function.{Function}
use Rattle.sil_ast.specs.declared.place.ValueId.{ValueId}
use Rattle.sil_rules.specs.declared.group.Group.TheVariants as group
use Rattle.reach_engine_marks.specs.PathChecks.inner.Groups.{ShowsOnly}
use Rattle.ownership_kinds_chains.specs.declared.ownership_chains.facts.Facts.{Facts}
use Rattle.lifetime_worklist.specs.Lives.{lives_of}

-- what walks show of the lives breaks a rule on lifetimes
abbrev pub AreOnLifetimes : Type 0
AreOnLifetimes = (count : ℕ) (facts : ValueId → Option Facts) (f : Function) → ShowsOnly group.Lifetimes f (lives_of count facts f)
