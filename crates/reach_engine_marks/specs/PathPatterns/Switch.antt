-- The pattern of a switch: it is off at first; a mark may need it on or off, and may turn it on or off.
use Rattle.std.specs.Prelude.{◌≡◌, ℕ, List, ◌∷◌, ◌++◌, All, Bool, true, false, Option, Some, None}
use Rattle.sil_rules.specs.Rules.{index_of}
use Rattle.reach_engine_marks.specs.declared.path_patterns.mark.Mark.{Mark}

-- the last mark that turns the switch turned it on
pub record IsOn (marks : List Mark) : Type 0 where
  pub before : List Mark
  pub mark : Mark
  pub since : List Mark
  pub parts : marks ≡ before ++ mark ∷ since
  pub turned_on : mark.turns ≡ Some true
  pub unturned : All (λ m. m.turns ≡ None) since

-- behind the marks the switch is as the need says
abbrev pub Finds : Option Bool → List Mark → Type 0
Finds None before = Unit {0}
Finds (Some true) before = IsOn before
Finds (Some false) before = IsOn before → ⊥

abbrev pub IsInPlace : List Mark → Mark → Type 0
IsInPlace before mark = Finds mark.needs before

-- the code of its break
abbrev pub code_of : Mark → ℕ
code_of mark = index_of mark.rule
