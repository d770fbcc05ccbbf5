-- What is known of copies: whether they can be borrows.
use Rattle.std.specs.Prelude.{◌≡◌, ◌↔◌, ◌⊎◌, ℕ, ◌<◌, List, Bool, true, IsSomeAnd, IsTrue, Option, Some, None, slice_index_or, slice_set}
use Rattle.sil_ast.specs.declared.function.Function.{Function}
use Rattle.sil_ast.specs.declared.place.PointId.{PointId}
use Rattle.sil_ast.specs.declared.place.ValueId.{ValueId}
use Rattle.ownership_kinds_chains.specs.declared.ownership_chains.facts.Facts.{Facts}
use Rattle.copy_pairing_model.specs.Copies.{IsCopy}
use Rattle.copy_pairing_model.specs.Removable.{IsBorrowable}
use Rattle.copy_pairing_search.specs.declared.borrowable_copies.answers.Answer.{Answer}
use Rattle.copy_pairing_search.specs.BorrowableCopies.inner.Together.{operand_in}

-- what is known of the value with a number
abbrev pub answer_in : List (Option Answer) → ℕ → Option Answer
answer_in answers c = slice_index_or answers c None

module _ (facts : ValueId → Option Facts) (f : Function) where
  -- the answer tells whether c can be a borrow, wherever it is a copy of v
  abbrev pub IsToldOf : ValueId → ValueId → Bool → Type 0
  IsToldOf c v borrowable = (q : PointId) → IsCopy f q c v → IsTrue borrowable ↔ IsBorrowable facts f c v

  -- each answer that is known does
  abbrev pub AreAnswers : List (Option Answer) → Type 0
  AreAnswers answers = (c : ValueId) (x : Answer) → answer_in answers c.0 ≡ Some x → IsToldOf c x.operand x.borrowable

-- each copy has an answer, about what a copy of the same value copies, if the value is one of the first 1,024 and of those that are counted
abbrev pub AreAnswered : Function → ℕ → List (Option Answer) → Type 0
AreAnswered f count answers = (q : PointId) (c v : ValueId) → IsCopy f q c v → c.0 < 1024 → c.0 < count
    → (x : Answer) × (answer_in answers c.0 ≡ Some x) × (p : PointId) × IsCopy f p c x.operand

-- of each value before a number the answer tells what is copied, if a copy makes the value
abbrev pub AreToldBefore : ℕ → List (Option ValueId) → List (Option Answer) → Type 0
AreToldBefore n copied answers = (c w : ValueId) → c.0 < n → operand_in copied c.0 ≡ Some w → IsSomeAnd (answer_in answers c.0) (λ x. x.operand ≡ w)

-- with the answer to the copy c of v
abbrev pub noted : ValueId → ValueId → Bool → List (Option Answer) → List (Option Answer)
noted c v borrowable answers = slice_set answers c.0 (Some (record { operand = v; borrowable = borrowable }))

-- the same if c is a copy
abbrev pub noted_of : ValueId → Option ValueId → Bool → List (Option Answer) → List (Option Answer)
noted_of c None borrowable answers = answers
noted_of c (Some v) borrowable answers = noted c v borrowable answers

-- the answer is that the value, or a copy of it, can be a borrow
abbrev pub IsDoubtful : ValueId → ℕ → Answer → Type 0
IsDoubtful v c x = (x.borrowable ≡ true) × ((c ≡ v.0) ⊎ (x.operand.0 ≡ v.0))

-- no answer is new, and none is doubtful
abbrev pub AreSpared : ValueId → List (Option Answer) → List (Option Answer) → Type 0
AreSpared v old new = (c : ValueId) (x : Answer) → answer_in new c.0 ≡ Some x → (answer_in old c.0 ≡ Some x) × ¬ IsDoubtful v c.0 x

-- and those that aren't doubtful are there
abbrev pub AreKept : ValueId → List (Option Answer) → List (Option Answer) → Type 0
AreKept v old new = (c : ValueId) (x : Answer) → answer_in old c.0 ≡ Some x → ¬ IsDoubtful v c.0 x → answer_in new c.0 ≡ Some x
