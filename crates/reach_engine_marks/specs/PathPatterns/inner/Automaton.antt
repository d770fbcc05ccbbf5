-- The automaton of a switch, in state 1 where the switch is on, and in state 0 where it is off.
use Rattle.std.specs.Prelude.{ℕ, zero, suc, Bool, true, false, cond, Option, Some, None}
use Rattle.reach_engine.specs.declared.scan.Step.{Step}
use Rattle.reach_engine.specs.declared.scan.Step.TheVariants.{Go, Bad}
use Rattle.reach_engine_marks.specs.declared.path_patterns.mark.Mark.{Mark}
use Rattle.reach_engine_marks.specs.PathPatterns.Switch.{code_of}

abbrev pub fits : ℕ → Option Bool → Bool
fits s None = true
fits zero (Some true) = false
fits zero (Some false) = true
fits (suc s) (Some true) = true
fits (suc s) (Some false) = false

abbrev pub turned : ℕ → Option Bool → ℕ
turned s None = s
turned s (Some true) = 1
turned s (Some false) = 0

abbrev pub mark_step : ℕ → Mark → Step
mark_step s mark = cond (fits s mark.needs) (Go (turned s mark.turns)) (Bad (code_of mark))
