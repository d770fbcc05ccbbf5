-- The pattern of two slots: the first isn't deallocated while the second, allocated after it, still is allocated.
use Rattle.std.specs.Prelude.{◌≡◌, ◌≢◌, ℕ, List, ◌∷◌, ◌++◌, All}
use Rattle.sil_rules.specs.Rules.{index_of}
use Rattle.sil_rules.specs.declared.rule.Rule.TheVariants as rule
use Rattle.memory_rules_slots.specs.declared.mark.SlotMark.{SlotMark}
use Rattle.memory_rules_slots.specs.declared.mark.SlotMark.TheVariants.{FirstIn, FirstOut, SecondIn, SecondOut}

-- a slot was allocated, and hasn't been deallocated since
pub record IsIn (enters leaves : SlotMark) (marks : List SlotMark) : Type 0 where
  pub before : List SlotMark
  pub since : List SlotMark
  pub parts : marks ≡ before ++ enters ∷ since
  pub stays : All (λ m. m ≢ leaves) since

-- the second was allocated while the first was allocated and it wasn't, and neither has been deallocated since
pub record IsAfter (marks : List SlotMark) : Type 0 where
  pub before : List SlotMark
  pub since : List SlotMark
  pub parts : marks ≡ before ++ SecondIn ∷ since
  pub first_in : IsIn FirstIn FirstOut before
  pub second_out : IsIn SecondIn SecondOut before → ⊥
  pub first_stays : All (λ m. m ≢ FirstOut) since
  pub second_stays : All (λ m. m ≢ SecondOut) since

-- only the first's deallocation may be out of place
abbrev pub IsOrdered : List SlotMark → SlotMark → Type 0
IsOrdered before FirstIn = Unit {0}
IsOrdered before FirstOut = IsAfter before → ⊥
IsOrdered before SecondIn = Unit {0}
IsOrdered before SecondOut = Unit {0}

-- the code of a break
abbrev pub crossing_code : ℕ
crossing_code = index_of rule.StackOrder

abbrev pub code_of : SlotMark → ℕ
code_of mark = crossing_code
