-- Subjects that entries move.
use Rattle.std.proofs.Common.{◌≡◌, ◌≢◌, ℕ, zero, suc, ◌+◌, ◌*◌, ◌<◌, ◌≤◌, List, [], ◌∷◌, ◌++◌, length, get_or, refl, sym, ap, ◌∙◌, arith}
use Rattle.std.specs.Prelude.{Contains}
use Rattle.std.specs.List.Sorted.{IsStrictlyIncreasing}
use Rattle.reach_engine.specs.inner.Bits.{bit_in}
use Rattle.reach_engine.specs.declared.scan.Step.{Step}
use Rattle.reach_engine.specs.declared.scan.Step.TheVariants.{Go, Bad}
use Rattle.reach_engine.specs.inner.Columns.{Blamed, Moved, OthersStay}
use Rattle.reach_engine.specs.inner.Run.{after, run}
use Rattle.reach_engine.proofs.Runs.{run-append, run_bad}
use Rattle.reach_engine.proofs.SubjectsMoved.{AllMoved_as, AllMoved_none, AllMoved_then, Blamed_as, Moved_as, turned_all, turned_more, turned_none}
use Rattle.reach_engine_marks.specs.PathPatterns.inner.Reads.{read_step, step_in}
use Rattle.reach_engine_marks.specs.PathPatterns.inner.Automaton.{mark_step}
use Rattle.reach_engine_marks.specs.declared.path_checks.entry.Entry.{Entry}
use Rattle.reach_engine_marks.specs.PathChecks.inner.Chunks.{ArePassed}
use Rattle.reach_engine_marks.specs.PathChecks.Entries.{means}
use Rattle.reach_engine_marks.proofs.PathChecks.OtherSubjects.{no_mark, own_mark}

abbrev passes : ℕ → List Entry → ℕ → ℕ → ℕ → Step
passes first entries u s k = run (read_step mark_step (means (first + u))) (Go s) entries

module _ (first count width : ℕ) where
  pub passed_none : (old bad : List ℕ) → ArePassed first count width [] old old bad bad
  passed_none old bad = AllMoved_as (passes first []) (passes first []) 2 count width [] (0 ∷ []) old old bad bad (λ u s lu ls. refl) (AllMoved_none (passes first []) 2 count width old bad)

  -- entries, and then more entries
  pub passed_then : (xs ys : List Entry) (old mid new before bad after : List ℕ) → length mid ≡ 2 * width → ArePassed first count width xs old mid before bad →
      ArePassed first count width ys mid new bad after →
      ArePassed first count width (xs ++ ys) old new before after
  passed_then xs ys old mid new before bad end size a b =
      AllMoved_as f (passes first (xs ++ ys)) 2 count width (0 ∷ (1 ∷ [])) (0 ∷ []) old new before end (λ u s lu ls. same u s)
      (AllMoved_then f 2 count width (0 ∷ []) (1 ∷ []) old mid new before bad end size
      (AllMoved_as (passes first xs) f 2 count width (0 ∷ []) (0 ∷ []) old mid before bad (λ u s lu ls. refl) a)
      (AllMoved_as (passes first ys) f 2 count width (0 ∷ []) (1 ∷ []) mid new bad end (λ u s lu ls. refl) b))
    where
      part : ℕ → List Entry
      part zero = xs
      part (suc k) = ys

      f : ℕ → ℕ → ℕ → Step
      f u s k = run (read_step mark_step (means (first + u))) (Go s) (part k)

      one : (u : ℕ) (r : Step) → after (f u) r 1 ≡ run (read_step mark_step (means (first + u))) r ys
      one u (Go t) = refl
      one u (Bad c) = sym (run_bad (read_step mark_step (means (first + u))) c ys)

      same : (u s : ℕ) → run (f u) (Go s) (0 ∷ (1 ∷ [])) ≡ run (read_step mark_step (means (first + u))) (Go s) (xs ++ ys)
      same u s = one u (run (read_step mark_step (means (first + u))) (Go s) xs) ∙ sym (run-append (read_step mark_step (means (first + u))) (Go s) xs ys)

  stays : (e : Entry) (u : ℕ) → (e.subject ≡ first + u → ⊥) → (s : ℕ) → step_in mark_step s (means (first + u) e) ≡ Go s
  stays e u other s = ap (step_in mark_step s) (no_mark (first + u) e other)

  -- an entry of another subject
  pub passed_other : (e : Entry) (old bad : List ℕ) → ((u : ℕ) → u < count → e.subject ≡ first + u → ⊥) → ArePassed first count width (e ∷ []) old old bad bad
  passed_other e old bad other =
      AllMoved_as (passes first []) (passes first (e ∷ [])) 2 count width (0 ∷ []) (0 ∷ []) old old bad bad (λ u s lu ls. sym (stays e u (other u lu) s)) (passed_none old bad)

  -- the entry of a subject of the chunk, which is moved by its mark
  pub passed_one : (e : Entry) (u : ℕ) (old new before end : List ℕ) → count ≤ 64 * width → u < count → e.subject ≡ first + u → length old ≡ 2 * width → length before ≡ width →
      length new ≡ length old → length end ≡ length before →
      Moved (λ s _. mark_step s e.mark) 2 width u (0 ∷ []) old new → OthersStay 2 width u old new → Blamed (λ s _. mark_step s e.mark) 2 width u (0 ∷ []) old before end →
      ((v : ℕ) → v ≢ u → bit_in end v ≡ bit_in before v) →
      ArePassed first count width (e ∷ []) old new before end
  passed_one e u old new before end fits lu own size bad_size same_size same_bad moved others blamed innocent =
      turned_all f 2 count width 0 ts old new before end 1 (omega arith) (omega arith) fits below quiet size
      (turned_more f 2 width 0 ts old old new before before end 0 u refl up (omega arith) (λ i l. let b : get_or ts i 0 < count = below i l in
      omega arith) same_size same_bad (turned_none f 2 width 0 ts old before size bad_size)
      (Moved_as (λ s _. mark_step s e.mark) (f u) 2 width u (0 ∷ []) (0 ∷ []) old new (λ s ls. marked s) moved) others
      (Blamed_as (λ s _. mark_step s e.mark) (f u) 2 width u (0 ∷ []) (0 ∷ []) old before end (λ s ls. marked s) blamed) innocent)
    where
      f : ℕ → ℕ → ℕ → Step
      f = passes first (e ∷ [])

      ts : List ℕ
      ts = u ∷ []

      up : IsStrictlyIncreasing ts
      up = λ k lt. absurd (let n : length ts ≡ 1 = refl in omega arith)

      below : (i : ℕ) → i < length ts → get_or ts i 0 < count
      below zero lt = lu
      below (suc i) lt = absurd (let n : length ts ≡ 1 = refl in omega arith)

      marked : (s : ℕ) → mark_step s e.mark ≡ step_in mark_step s (means (first + u) e)
      marked s = sym (ap (step_in mark_step s) (own_mark (first + u) e own))

      quiet : (v s : ℕ) → v < count → s < 2 → (Contains ts v → ⊥) → f v s 0 ≡ Go s
      quiet v s lv ls out = stays e v (λ same. out (0, (omega arith), (let e2 : u ≡ v = omega arith in e2))) s
