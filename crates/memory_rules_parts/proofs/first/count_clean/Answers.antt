use Rattle.std.proofs.Common.{◌≡◌, take, drop, ℕ, ◌+◌, ◌-◌, List, refl, ap, subst, arith, Option}
use Rattle.reach_engine_marks.specs.PathChecks.First.{IsFirst}
use Rattle.reach_engine_marks.specs.declared.path_checks.fault.PathFault.{PathFault}
use Rattle.memory_rules_parts.specs.inner.Batches.{batch_table}
use Rattle.memory_rules_parts.specs.declared.part.Part.{Part}
use Rattle.memory_rules_parts.proofs.CleanFront.{clean_batch, clean_before}
use Rattle.memory_rules_parts.proofs.first.count_clean.Goals as goal

pub returns-in-Some-clause-clean : goal.returns-in-Some-clause-clean
returns-in-Some-clause-clean c = λ count facts by.
    let many : ℕ = c.loop-first.first + c.min-count.result - c.loop-first.first in
    let batch : List Part = take many (drop c.loop-first.first c.args.parts.now) in
    let P : Option PathFault → Type 0 = λ o. IsFirst c.args.f.now (batch_table c.args.m.now facts c.args.f.now batch) o in
    let same : many ≡ c.min-count.result = omega arith in
    clean_before c.args.m.now facts c.args.f.now c.args.parts.now c.loop-first.first c.min-count.result (c.loop-first.first + c.min.result) batch c.in-Some.fault
    (ap (λ n. c.loop-first.first + n) c.min.ensures) (ap (λ n. take n (drop c.loop-first.first c.args.parts.now)) same)
    (c.loop-first.invariant.clean count facts by) (subst P c.in-Some.is (c.in_ok-fault.ensures count facts by))

pub loop-first-preserved : goal.loop-first-preserved
loop-first-preserved c = record {
  within = omega arith;
  clean = λ count facts by.
      let many : ℕ = c.loop-first.first + c.min-count.result - c.loop-first.first in
      let batch : List Part = take many (drop c.loop-first.first c.args.parts.now) in
      let P : Option PathFault → Type 0 = λ o. IsFirst c.args.f.now (batch_table c.args.m.now facts c.args.f.now batch) o in
      let same : many ≡ c.min-count.result = omega arith in
      clean_batch c.args.m.now facts c.args.f.now c.args.parts.now c.loop-first.first c.min-count.result (c.loop-first.first + c.min-count.result) batch
      refl (ap (λ n. take n (drop c.loop-first.first c.args.parts.now)) same)
      (c.loop-first.invariant.clean count facts by) (subst P c.in_default.is (c.in_ok-fault.ensures count facts by));
}
