-- The parts in front at which nothing is shown, batch by batch.
use Rattle.std.proofs.Common.{◌≡◌, ℕ, ◌+◌, ◌<◌, ◌≤◌, List, ◌++◌, length, take, drop, refl, sym, ap, ap₂, ◌∙◌, subst, ◌⊎◌, inl, inr, Option, Some, None, arith}
use Rattle.std.specs.Prelude.{min}
use Rattle.std.proofs.lemmas.Bool.{cases_lt}
use Rattle.std.proofs.lemmas.List.{drop-take, length-take, take-append-drop, take-take}
use Rattle.std.proofs.lemmas.Option.{slice_get_past}
use Rattle.sil_ast.specs.declared.function.Function.{Function}
use Rattle.sil_ast.specs.declared.place.ValueId.{ValueId}
use Rattle.sil_rules.specs.Order.{IsFirst}
use Rattle.ownership_kinds_chains.specs.declared.ownership_chains.facts.Facts.{Facts}
use Rattle.reach_engine_marks.specs.PathChecks.First as paths
use Rattle.reach_engine_marks.specs.declared.path_checks.fault.PathFault.{PathFault}
use Rattle.memory_rules_accesses.specs.declared.source.Source.{Source}
use Rattle.memory_rules_parts.specs.inner.Batches.{batch_table}
use Rattle.sil_rules.specs.RuleFaults.Keys.{fault_key}
use Rattle.memory_rules_parts.specs.Shown.{IsShown}
use Rattle.memory_rules_parts.specs.declared.part.Part.{Part}
use Rattle.memory_rules_parts.proofs.AtOnePart.{none_among, none_before, past_unshown}
use Rattle.memory_rules_parts.proofs.FirstAmong.{among_more}

take_further : {X : Type 0} (xs : List X) (first j n : ℕ) → n ≡ first + j → take n xs ≡ take first xs ++ take j (drop first xs)
take_further xs first j n e =
    ap (λ i. take i xs) e ∙ sym (take-append-drop first (take (first + j) xs)) ∙ ap₂ (λ u v. u ++ v) (take-take first (first + j) xs (omega arith)) (drop-take first j xs)

module _ (sources : List Source) (facts : ValueId → Option Facts) (f : Function) (parts : List Part) where
  abbrev IsClean : List Part → Type 0
  IsClean ps = IsFirst fault_key (IsShown sources facts f ps) None

  clean_further : (first j n : ℕ) (more : List Part) → n ≡ first + j → more ≡ take j (drop first parts) → IsClean (take first parts) → IsClean more → IsClean (take n parts)
  clean_further first j n more e is before here =
      subst IsClean (ap (λ v. take first parts ++ v) is ∙ sym (take_further parts first j n e)) (among_more sources facts f (take first parts) more None None None before here refl)

  -- a whole batch more
  pub clean_batch : (first count n : ℕ) (batch : List Part) → n ≡ first + count → batch ≡ take count (drop first parts) → IsClean (take first parts)
      → paths.IsFirst f (batch_table sources facts f batch) None → IsClean (take n parts)
  clean_batch first count n batch e is before none = clean_further first count n batch e is before (none_among sources facts f batch none)

  within : (batch : List Part) (fault : PathFault) → paths.IsFirst f (batch_table sources facts f batch) (Some fault) → (fault.subject < length batch) ⊎ (length batch ≤ fault.subject)
      → fault.subject < length batch
  within batch fault h (inl lt) = lt
  within batch fault h (inr le) = absurd (past_unshown sources facts f batch fault.subject (slice_get_past batch fault.subject le) fault.rule fault.walk fault.point fault.item h.0)

  -- the part of a batch before its first fault
  pub clean_before : (first count n : ℕ) (batch : List Part) (fault : PathFault) → n ≡ first + min count fault.subject → batch ≡ take count (drop first parts) → IsClean (take first parts) →
      paths.IsFirst f (batch_table sources facts f batch) (Some fault) → IsClean (take n parts)
  clean_before first count n batch fault e is before h =
      let lt : fault.subject < length batch = within batch fault h (cases_lt fault.subject (length batch)) in
      let size : length batch ≡ min count (length (drop first parts)) = ap length is ∙ length-take count (drop first parts) in
      clean_further first fault.subject n (take fault.subject batch) (omega arith) (ap (take fault.subject) is ∙ take-take fault.subject count (drop first parts) (omega arith)) before
      (none_before sources facts f batch fault h (omega arith))
