-- The switch of a value that is held reads exactly its runs.
use Rattle.std.proofs.Common.{◌≡◌, ℕ, zero, suc, List, [], ◌∷◌, ◌++◌, map, replicate, refl, sym, ap, ◌∙◌, subst, Bool, true, false}
use Rattle.std.specs.Prelude.{◌↔◌}
use Rattle.std.proofs.lemmas.List.{map-append}
use Rattle.reach_engine.specs.declared.scan.Step.TheVariants.{Go, Bad}
use Rattle.reach_engine.specs.inner.Run.{run}
use Rattle.sil_rules.specs.Rules.{index_of}
use Rattle.sil_rules.specs.declared.rule.Rule.{Rule}
use Rattle.reach_engine.proofs.Runs.{run_bad, run_join, run_split, go-bad, same_Go}
use Rattle.reach_engine_marks.specs.PathPatterns.Lawful.{AreLawful}
use Rattle.reach_engine_marks.specs.PathPatterns.Marks.{needs_off}
use Rattle.reach_engine_marks.specs.PathPatterns.Switch.{IsInPlace, code_of}
use Rattle.reach_engine_marks.specs.PathPatterns.inner.Automaton.{mark_step}
use Rattle.reach_engine_marks.proofs.PathPatterns.PatternsDecided.{read_lawful, lawful_read}
use Rattle.reach_engine_marks.proofs.PathPatterns.SwitchDecided.{switch_decides}
use Rattle.reach_engine_marks.specs.PathPatterns.inner.Runs as runs
use Rattle.reach_engine_marks.specs.PathPatterns.inner.Runs.{Sort, End, Use, Begin, held_mark, AreRuns}

-- what follows a begin in runs
data AreRest : Bool → List Sort → Type 0 where
  open_rest : (uses : ℕ) → AreRest false (replicate uses Use)
  ended_rest : (uses : ℕ) (ended : Bool) (rest : List Sort) → AreRuns ended rest → AreRest ended (replicate uses Use ++ End ∷ rest)

begin_rest : (ended : Bool) (sorts : List Sort) → AreRest ended sorts → AreRuns ended (Begin ∷ sorts)
begin_rest _ _ (open_rest uses) = runs.unended uses
begin_rest _ _ (ended_rest uses ended rest r) = runs.run uses ended rest r

use_rest : (ended : Bool) (sorts : List Sort) → AreRest ended sorts → AreRest ended (Use ∷ sorts)
use_rest _ _ (open_rest uses) = open_rest (suc uses)
use_rest _ _ (ended_rest uses ended rest r) = ended_rest (suc uses) ended rest r

-- whether the state is that behind ended runs
ended_at : ℕ → Bool
ended_at zero = true
ended_at (suc s) = false

state_of : Bool → ℕ
state_of true = 0
state_of false = 1

module _ (rules : Sort → Rule) where
  spoilt : {P : Type 0} (c s : ℕ) (sorts : List Sort) → run mark_step (Bad c) (map (held_mark rules) sorts) ≡ Go s → P
  spoilt c s sorts h = absurd (go-bad s c (sym h ∙ run_bad mark_step c (map (held_mark rules) sorts)))

  reads : (sorts : List Sort) (s : ℕ) → (run mark_step (Go 0) (map (held_mark rules) sorts) ≡ Go s → AreRuns (ended_at s) sorts)
      × (run mark_step (Go 1) (map (held_mark rules) sorts) ≡ Go s → AreRest (ended_at s) sorts)
  unfolding ended_at
  reads [] s = (λ h. subst (λ n. AreRuns (ended_at n) []) (same_Go 0 s h) runs.none, λ h. subst (λ n. AreRest (ended_at n) []) (same_Go 1 s h) (open_rest 0))
  reads (End ∷ sorts) s = (λ h. spoilt (index_of (rules End)) s sorts h, λ h. ended_rest 0 (ended_at s) sorts ((reads sorts s).0 h))
  reads (Use ∷ sorts) s = (λ h. spoilt (index_of (rules Use)) s sorts h, λ h. use_rest (ended_at s) sorts ((reads sorts s).1 h))
  reads (Begin ∷ sorts) s = (λ h. begin_rest (ended_at s) sorts ((reads sorts s).1 h), λ h. spoilt (index_of (rules Begin)) s sorts h)

  uses_read : (uses : ℕ) → run mark_step (Go 1) (map (held_mark rules) (replicate uses Use)) ≡ Go 1
  uses_read zero = refl
  uses_read (suc uses) = uses_read uses

  runs_read : (ended : Bool) (sorts : List Sort) → AreRuns ended sorts → run mark_step (Go 0) (map (held_mark rules) sorts) ≡ Go (state_of ended)
  unfolding state_of
  runs_read _ _ runs.none = refl
  runs_read _ _ (runs.unended uses) = uses_read uses
  runs_read _ _ (runs.run uses ended rest r) =
      ap (run mark_step (Go 1)) (map-append (held_mark rules) (replicate uses Use) (End ∷ rest)) ∙
      run_join mark_step (Go 1) (map (held_mark rules) (replicate uses Use)) (map (held_mark rules) (End ∷ rest)) 1 (Go (state_of ended)) (uses_read uses) (runs_read ended rest r)

  pub reads_runs : (sorts : List Sort) → AreLawful IsInPlace (map (held_mark rules) sorts) ↔ ((ended : Bool) × AreRuns ended sorts)
  reads_runs sorts = (into, out)
    where
      into : AreLawful IsInPlace (map (held_mark rules) sorts) → (ended : Bool) × AreRuns ended sorts
      into h = let r = lawful_read mark_step IsInPlace code_of switch_decides (map (held_mark rules) sorts) h in (ended_at r.0, (reads sorts r.0).0 r.1)

      out : (ended : Bool) × AreRuns ended sorts → AreLawful IsInPlace (map (held_mark rules) sorts)
      out p = read_lawful mark_step IsInPlace code_of switch_decides (map (held_mark rules) sorts) (state_of p.0) (runs_read p.0 sorts p.1)

  pub reads_ended_runs : (left : Rule) (sorts : List Sort) → AreLawful IsInPlace (map (held_mark rules) sorts ++ needs_off left ∷ []) ↔ AreRuns true sorts
  unfolding ended_at state_of
  reads_ended_runs left sorts = (into, out)
    where
      at_end : (t : ℕ) (s : ℕ) → run mark_step (Go t) (needs_off left ∷ []) ≡ Go s → run mark_step (Go 0) (map (held_mark rules) sorts) ≡ Go t → AreRuns true sorts
      at_end zero s h e = (reads sorts 0).0 e
      at_end (suc t) s h e = absurd (go-bad s (index_of left) (sym h))

      into : AreLawful IsInPlace (map (held_mark rules) sorts ++ needs_off left ∷ []) → AreRuns true sorts
      into h =
          let r = lawful_read mark_step IsInPlace code_of switch_decides (map (held_mark rules) sorts ++ needs_off left ∷ []) h in
          let p = run_split mark_step (Go 0) (map (held_mark rules) sorts) (needs_off left ∷ []) r.0 r.1 in
          at_end p.0 r.0 p.2 p.1

      out : AreRuns true sorts → AreLawful IsInPlace (map (held_mark rules) sorts ++ needs_off left ∷ [])
      out p =
          read_lawful mark_step IsInPlace code_of switch_decides (map (held_mark rules) sorts ++ needs_off left ∷ []) 0
          (run_join mark_step (Go 0) (map (held_mark rules) sorts) (needs_off left ∷ []) 0 (Go 0) (runs_read true sorts p) refl)
