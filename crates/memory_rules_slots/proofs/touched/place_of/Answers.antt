use Rattle.std.proofs.Common.{◌≡◌, ◌≢◌, ◌<◌, ◌≤◌, ℕ, List, get_or, true, false, ltb, ap, ◌∙◌, rules, arith}
use Rattle.std.specs.List.Sorted.{IsPartitionPoint}
use Rattle.std.proofs.lemmas.Bool.{ltb-true, ltb-false}
use Rattle.std.proofs.lemmas.List.Sorted.{IsPartitionedBy-ltb, IsPartitionPoint-from_clause}
use Rattle.sil_ast.specs.declared.place.ValueId.{ValueId}
use Rattle.memory_rules_slots.proofs.SlotsTouched.{no_place, nondecreasing, same_read}
use Rattle.memory_rules_slots.proofs.touched.place_of.Goals as goal
use Rattle.memory_rules_slots.proofs.touched.place_of.Goals.{else-place-slots-via-then-place-slots+else-slots-place, else-place-slots-via-else-place-slots}

pub returns-else-place-slots : goal.returns-else-place-slots
returns-else-place-slots c =
    let slots : List ValueId = c.args.slots.now in
    let value : ℕ = c.args.value in
    let place : ℕ = c.partition_point-place.result in
    let parts : IsPartitionPoint (λ (v : ValueId). ltb v.0 value ≡ true) (λ (v : ValueId). ltb v.0 value ≡ false) slots place =
    IsPartitionPoint-from_clause (λ (v : ValueId). ltb v.0 value) slots place c.partition_point-place.ensures.partitioned
    (IsPartitionedBy-ltb (λ (v : ValueId). v.0) slots value (nondecreasing slots value c.requires)) (λ a r q k. search rules) in
    let low : (k : ℕ) (d : ValueId) → k < place → (get_or slots k d).0 < value = λ k d lt. ltb-true (get_or slots k d).0 value (parts.0 k d (omega arith) lt) in
    elim c.else-place-slots.branch [
      | else-place-slots-via-then-place-slots+else-slots-place w ↦
          no_place slots value c.requires place low (λ lt d.
          let least : value ≤ (get_or slots place d).0 = ltb-false (get_or slots place d).0 value (parts.1 place d (omega arith) lt) in
          let here : (get_or slots place d).0 ≢ value = λ e. w.if-slots-place.false (ap (λ (v : ValueId). v.0) (same_read slots place _ d lt) ∙ e) in
          omega (arith, least, here))
      | else-place-slots-via-else-place-slots w ↦ no_place slots value c.requires place low (λ lt d. absurd (omega (arith, lt, w.if-place-slots.false)))
    ]
