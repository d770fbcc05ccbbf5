use Rattle.std.proofs.Common.{◌≡◌, ◌≤◌, ◌<◌, ℕ, List, length, sym, subst}
use Rattle.std.specs.Prelude.{Contains}
use Rattle.memory_rules_accesses.specs.reach_engine_marks.PathPatterns.inner.Reads.{accesses_at}
use Rattle.memory_rules_slots.specs.inner.Touched.{IsRising}
use Rattle.sil_ast.specs.declared.place.ValueId.{ValueId}
use Rattle.memory_rules_slots.specs.inner.Touched.{HasTouched}
use Rattle.memory_rules_slots.proofs.chunk.chunk_of.Goals as goal

pub returns-clause-chunk : goal.returns-clause-chunk
returns-clause-chunk c =
    let same : c.in_ok-slots.slots.items ≡ c.args.slots.now = c.in_ok-slots.ensures.items in
    let Few : List ValueId → Type 0 = λ l. length l ≤ 1024 in
    let Rising : List ValueId → Type 0 = λ l. (i : ℕ) → IsRising (length l) (accesses_at c.in_ok-touched.touched.items i) in
    let Touched : List ValueId → Type 0 = λ l. (i : ℕ) → HasTouched l (accesses_at c.args.accesses.now i) (accesses_at c.in_ok-touched.touched.items i) in
    let Every : List ValueId → Type 0 = λ l. IsRising (length l) c.in_ok-all.all.items in
    let All : List ValueId → Type 0 = λ l. (u : ℕ) → u < length l → (Contains c.in_ok-all.all.items u → ⊥) → ⊥ in
    record {
      few = subst Few (sym same) c.requires.few;
      size = c.in_ok-touched.ensures.size;
      rising = subst Rising (sym same) c.in_ok-touched.ensures.rising;
      touched = subst Touched (sym same) c.in_ok-touched.ensures.all;
      all_rising = subst Every (sym same) c.in_ok-all.ensures.rising;
      all = subst All (sym same) c.in_ok-all.ensures.all;
    }
