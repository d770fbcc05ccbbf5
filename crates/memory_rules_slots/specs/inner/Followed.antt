-- What following a stack along accesses gives.
use Rattle.std.specs.Prelude.{◌≡◌, ℕ, ◌-◌, ◌<◌, List, ◌∷◌, [], ◌++◌, length, get_or, take}
use Rattle.sil_ast.specs.declared.place.ValueId.{ValueId}
use Rattle.memory_rules_accesses.specs.declared.access.Access.{Access}
use Rattle.memory_rules_accesses.specs.declared.source.Source.{Source}
use Rattle.memory_rules_slots.specs.declared.doubts.Doubts.{Doubts}
use Rattle.memory_rules_slots.specs.inner.Nesting.{AreRising, Follows, Passes}
use Rattle.memory_rules_slots.specs.inner.Trust.{IsTrusted, Keeps}

-- doubts are kept, ranks go on to rise, and the new stack covers each slot that isn't in doubt wherever the old one does
pub record AreFollowed (sources : List Source) (ranks : List ℕ) (old : List ValueId) (accesses : List Access) (new : List ValueId)
    (was is : Doubts) : Type 0 where
  pub keeps : Keeps was is
  pub rising : AreRising ranks old → AreRising ranks new
  pub follows : AreRising ranks old → (a : ValueId) → IsTrusted is a → Follows sources ranks old accesses new a

-- the same along items
pub record ArePassed (sources : List Source) (ranks : List ℕ) (accesses : ℕ → List Access) (old : List ValueId) (items : List ℕ) (new : List ValueId)
    (was is : Doubts) : Type 0 where
  pub keeps : Keeps was is
  pub rising : AreRising ranks old → AreRising ranks new
  pub passes : AreRising ranks old → (a : ValueId) → IsTrusted is a → Passes sources ranks accesses old items new a

-- the slot is the last of the stack
abbrev pub IsTop : List ValueId → ValueId → Type 0
IsTop stack slot = stack ≡ take (length stack - 1) stack ++ slot ∷ []

-- the slot is the stack's one with this number
abbrev pub StandsAt : List ValueId → ValueId → ℕ → Type 0
StandsAt stack slot place = (place < length stack) × ((d : ValueId) → (get_or stack place d).0 ≡ slot.0)
