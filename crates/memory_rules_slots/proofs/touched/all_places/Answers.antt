use Rattle.std.proofs.Common.{◌≡◌, ◌+◌, ◌<◌, ◌≤◌, ℕ, List, [], ◌∷◌, ◌++◌, length, get_or, ap, ◌∙◌, ◌⊎◌, inl, inr, arith}
use Rattle.std.proofs.Math.ListN.{get_or-append}
use Rattle.std.proofs.Math.Seq.{get_or-append_seam}
use Rattle.std.proofs.lemmas.Bool.{cases_lt}
use Rattle.sil_cfg.proofs.Gets.{length_push}
use Rattle.memory_rules_slots.specs.inner.Touched.{IsRising}
use Rattle.memory_rules_slots.proofs.touched.all_places.Goals as goal

one_more : (xs new : List ℕ) (x n : ℕ) → new ≡ xs ++ x ∷ [] → x ≡ n → length xs ≡ n → ((k d : ℕ) → k < n → get_or xs k d ≡ k) → (k d : ℕ) → k < n + 1 → get_or new k d ≡ k
one_more xs new x n is same size h k d lt = at (cases_lt k n)
  where
    at : (k < n) ⊎ (n ≤ k) → get_or new k d ≡ k
    at (inl l) = ap (λ v. get_or v k d) is ∙ get_or-append xs (x ∷ []) d k (omega arith) ∙ h k d l
    at (inr l) = let e : k ≡ length xs = omega arith in ap (λ v. get_or v k d) is ∙ ap (λ i. get_or (xs ++ x ∷ []) i d) e ∙ get_or-append_seam xs x [] d ∙ omega arith

pub loop-place-preserved : goal.loop-place-preserved
loop-place-preserved c = record {
  size = ap length c.in_ok-push.ensures.items ∙ length_push c.loop-place.places.items _ ∙ ap (λ n. n + 1) c.loop-place.invariant.size;
  each = one_more c.loop-place.places.items c.push.new.self.items _ c.loop-place.place c.in_ok-push.ensures.items (omega arith) c.loop-place.invariant.size c.loop-place.invariant.each;
}

rising : (xs : List ℕ) (n : ℕ) → length xs ≡ n → ((k d : ℕ) → k < n → get_or xs k d ≡ k) → IsRising n xs
rising xs n size h = record {
  ascending = λ k lt. let a = h k 0 (omega arith) in let b = h (k + 1) 0 (omega arith) in omega arith;
  below = λ k d lt. let a = h k d (omega arith) in omega arith;
}

pub returns-clause-rising : goal.returns-clause-rising
returns-clause-rising c = rising c.loop-place.places.items c.args.count (c.loop-place.invariant.size ∙ omega arith) (λ k d lt. c.loop-place.invariant.each k d (omega arith))

pub returns-clause-all : goal.returns-clause-all
returns-clause-all c = λ u lu none. none (u, (let size = c.loop-place.invariant.size in omega arith), c.loop-place.invariant.each u u (omega arith))
