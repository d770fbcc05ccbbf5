-- The marks of a value that is held from a begin to its end, as runs.
use Rattle.std.specs.Prelude.{◌≡◌, ◌↔◌, ℕ, List, [], ◌∷◌, ◌++◌, All, filter_map, replicate, Bool, true, false, Option, Some, None}
use Rattle.sil_rules.specs.declared.rule.Rule.{Rule}
use Rattle.reach_engine_marks.specs.declared.path_patterns.mark.Mark.{Mark}
use Rattle.reach_engine_marks.specs.PathPatterns.Marks.{needs_off_turns_on, needs_on, needs_on_turns_off}
use Rattle.reach_engine_marks.specs.PathPatterns.Switch.{IsOn}

-- what an item does to the value
pub data Sort : Type 0 where
  End : Sort
  Use : Sort
  Begin : Sort

-- the switch is on while the value is held: a use and an end need it on, and a begin needs it off
abbrev pub held_mark : (Sort → Rule) → Sort → Mark
held_mark rules Use = needs_on (rules Use)
held_mark rules End = needs_on_turns_off (rules End)
held_mark rules Begin = needs_off_turns_on (rules Begin)

-- runs of a begin, any number of uses, and an end; the flag says whether the last run, too, has its end
pub data AreRuns : Bool → List Sort → Type 0 where
  none : AreRuns true []
  unended : (uses : ℕ) → AreRuns false (Begin ∷ replicate uses Use)
  run : (uses : ℕ) (ended : Bool) (rest : List Sort) → AreRuns ended rest → AreRuns ended (Begin ∷ (replicate uses Use ++ End ∷ rest))

-- the value is held: it began, and since then it has only been used
pub record IsHeld (sorts : List Sort) : Type 0 where
  pub before : List Sort
  pub since : List Sort
  pub parts : sorts ≡ before ++ Begin ∷ since
  pub used : All (λ s. s ≡ Use) since

abbrev pub turned_by : Sort → Option Bool
turned_by End = Some false
turned_by Use = None
turned_by Begin = Some true

-- the marks turn the switch as these begins and ends do; marks that turn nothing may stand between
abbrev pub TurnAlike : List Mark → List Sort → Type 0
TurnAlike marks sorts = filter_map (λ m. m.turns) marks ≡ filter_map turned_by sorts

-- then the switch is on just while the value is held
abbrev pub IsOnWhileHeld : Type 0
IsOnWhileHeld = (marks : List Mark) (sorts : List Sort) → TurnAlike marks sorts → IsOn marks ↔ IsHeld sorts
