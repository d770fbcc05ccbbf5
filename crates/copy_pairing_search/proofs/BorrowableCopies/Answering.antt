-- What is known of copies.
use Rattle.std.proofs.Common.{◌≡◌, ◌≢◌, ◌⊎◌, inl, inr, ℕ, zero, suc, ◌+◌, ◌<◌, ◌≤◌, set, List, length, refl, sym, ap, ◌∙◌, subst, Bool, true, false, Option, Some, None, arith}
use Rattle.std.specs.Prelude.{IfSome, IsSome, IsSomeAnd, replicate}
use Rattle.std.proofs.lemmas.Bool.{cases_eq, cases_lt}
use Rattle.std.proofs.lemmas.List.{get_or-set_other, get_or-set_same, length-set, set_past}
use Rattle.std.proofs.lemmas.Option.{same_Some}
use Rattle.sil_ast.specs.declared.function.Function.{Function}
use Rattle.sil_ast.specs.declared.place.PointId.{PointId}
use Rattle.sil_ast.specs.declared.place.ValueId.{ValueId}
use Rattle.ownership_kinds_chains.specs.declared.ownership_chains.facts.Facts.{Facts}
use Rattle.copy_pairing_model.specs.Copies.{IsCopy}
use Rattle.copy_pairing_search.specs.declared.borrowable_copies.answers.Answer.{Answer}
use Rattle.copy_pairing_search.specs.BorrowableCopies.inner.Answers.{AreAnswered, AreAnswers, AreToldBefore, IsDoubtful, IsToldOf, answer_in, noted, noted_of}
use Rattle.copy_pairing_search.specs.BorrowableCopies.inner.Together.{AreCopies, operand_in}
use Rattle.copy_pairing_search.proofs.BorrowableCopies.FoundTogether.{operand_below}

same_value : (a b : ValueId) → a.0 ≡ b.0 → a ≡ b
same_value a b e = ap (λ (n : ℕ). let v : ValueId = record { 0 = n } in v) e

-- at first nothing is known

none_in : (n i : ℕ) → answer_in (replicate n None) i ≡ None
none_in zero i = refl
none_in (suc n) zero = refl
none_in (suc n) (suc i) = none_in n i

pub none_known : (facts : ValueId → Option Facts) (f : Function) (n : ℕ) → AreAnswers facts f (replicate n None)
none_known facts f n c x known = absurd (let wrong : None ≡ Some x = sym (none_in n c.0) ∙ known in cc)

-- one answer more

-- an answer that is known then was known, or is the new one
noted_there : (old : List (Option Answer)) (c v : ValueId) (b : Bool) (d : ValueId) (x : Answer) → answer_in (noted c v b old) d.0 ≡ Some x
    → (answer_in old d.0 ≡ Some x) ⊎ ((d ≡ c) × (x.operand ≡ v) × (x.borrowable ≡ b))
noted_there old c v b d x known = at (cases_eq d.0 c.0) (cases_lt c.0 (length old))
  where
    new : Answer
    new = record { operand = v; borrowable = b }

    at : (d.0 ≡ c.0) ⊎ (d.0 ≢ c.0) → (c.0 < length old) ⊎ (length old ≤ c.0) → (answer_in old d.0 ≡ Some x) ⊎ ((d ≡ c) × (x.operand ≡ v) × (x.borrowable ≡ b))
    at (inl same) (inl room) =
        let is : new ≡ x = same_Some new x (sym (get_or-set_same old c.0 (Some new) None room) ∙ ap (answer_in (set old c.0 (Some new))) (sym same) ∙ known) in
        inr (same_value d c same, ap (λ (a : Answer). a.operand) (sym is), ap (λ (a : Answer). a.borrowable) (sym is))
    at (inl same) (inr past) = inl (ap (λ xs. answer_in xs d.0) (sym (set_past old c.0 (Some new) past)) ∙ known)
    at (inr other) room = inl (sym (get_or-set_other old c.0 d.0 (Some new) None other) ∙ known)

module _ (facts : ValueId → Option Facts) (f : Function) (old : List (Option Answer)) where
  pub answers_more : (c v : ValueId) (b : Bool) → IsToldOf facts f c v b → AreAnswers facts f old → AreAnswers facts f (noted c v b old)
  answers_more c v b told are d x known = at (noted_there old c v b d x known)
    where
      at : (answer_in old d.0 ≡ Some x) ⊎ ((d ≡ c) × (x.operand ≡ v) × (x.borrowable ≡ b)) → IsToldOf facts f d x.operand x.borrowable
      at (inl was) = are d x was
      at (inr is) =
          subst (λ e. IsToldOf facts f e x.operand x.borrowable) (sym is.0)
          (subst (λ w. IsToldOf facts f c w x.borrowable) (sym is.1) (subst (λ k. IsToldOf facts f c v k) (sym is.2) told))

-- the answers tell what copies copy

pub size_noted : (c : ValueId) (o : Option ValueId) (b : Bool) (old : List (Option Answer)) → length (noted_of c o b old) ≡ length old
size_noted c None b old = refl
size_noted c (Some v) b old = length-set old c.0 (Some (record { operand = v; borrowable = b }))

module _ (copied : List (Option ValueId)) (old : List (Option Answer)) (size : length copied ≡ length old) where
  pub told_more : (n : ℕ) (o : Option ValueId) (b : Bool) → o ≡ operand_in copied n → AreToldBefore n copied old
      → AreToldBefore (n + 1) copied (noted_of (record { 0 = n }) o b old)
  told_more n None b is told c w lt here = at (cases_lt c.0 n)
    where
      at : (c.0 < n) ⊎ (n ≤ c.0) → IsSomeAnd (answer_in old c.0) (λ x. x.operand ≡ w)
      at (inl before) = told c w before here
      at (inr le) =
          let same : c.0 ≡ n = omega arith in
          absurd (let wrong : None ≡ Some w = is ∙ ap (operand_in copied) (sym same) ∙ here in cc)
  told_more n (Some v) b is told c w lt here = at (cases_eq c.0 n)
    where
      new : Answer
      new = record { operand = v; borrowable = b }

      at : (c.0 ≡ n) ⊎ (c.0 ≢ n) → IsSomeAnd (answer_in (set old n (Some new)) c.0) (λ x. x.operand ≡ w)
      at (inl same) =
          let under : c.0 < length copied = operand_below copied c.0 w here in
          let room : n < length old = omega arith in
          let own : v ≡ w = same_Some v w (is ∙ ap (operand_in copied) (sym same) ∙ here) in
          subst (λ (o : Option Answer). IsSomeAnd o (λ x. x.operand ≡ w)) (sym (ap (answer_in (set old n (Some new))) same ∙ get_or-set_same old n (Some new) None room)) own
      at (inr other) =
          let before : c.0 < n = omega arith in
          subst (λ (o : Option Answer). IsSomeAnd o (λ x. x.operand ≡ w)) (sym (get_or-set_other old n c.0 (Some new) None other)) (told c w before here)

-- so that each copy is answered
pub all_answered : (f : Function) (count : ℕ) (copied : List (Option ValueId)) (answers : List (Option Answer)) → AreCopies f copied
    → ((p : PointId) (c w : ValueId) → IsCopy f p c w → c.0 < count → IsSome (operand_in copied c.0)) → AreToldBefore 1024 copied answers → AreAnswered f count answers
all_answered f count copied answers copies each told q c v copy low lt = by_operand (operand_in copied c.0) refl (each q c v copy lt)
  where
    by_answer : (w : ValueId) (p : PointId) → IsCopy f p c w → (o : Option Answer) → answer_in answers c.0 ≡ o → IsSomeAnd o (λ x. x.operand ≡ w)
        → (x : Answer) × (answer_in answers c.0 ≡ Some x) × (p : PointId) × IsCopy f p c x.operand
    by_answer w p stands None is h = absurd h
    by_answer w p stands (Some x) is h = (x, is, p, subst (IsCopy f p c) (sym h) stands)

    by_operand : (o : Option ValueId) → operand_in copied c.0 ≡ o → IsSome o → (x : Answer) × (answer_in answers c.0 ≡ Some x) × (p : PointId) × IsCopy f p c x.operand
    by_operand None is h = absurd (let wrong : false ≡ true = h in cc)
    by_operand (Some w) is h = let one = copies c w is in by_answer w one.0 one.1 (answer_in answers c.0) refl (told c w low is)

-- those that are forgotten

-- up to a number none is doubtful, and none is new
abbrev pub AreSparedBefore : ValueId → ℕ → List (Option Answer) → List (Option Answer) → Type 0
AreSparedBefore v n old new = (c : ValueId) (x : Answer) → answer_in new c.0 ≡ Some x → (answer_in old c.0 ≡ Some x) × (c.0 < n → IsDoubtful v c.0 x → ⊥)

-- an answer of the same operand

pub answer_told : (facts : ValueId → Option Facts) (f : Function) (answers : List (Option Answer)) (c v : ValueId) (x : Answer) → answer_in answers c.0 ≡ Some x → x.operand.0 ≡ v.0
    → AreAnswers facts f answers → IsToldOf facts f c v x.borrowable
answer_told facts f answers c v x known same are = subst (λ w. IsToldOf facts f c w x.borrowable) (same_value x.operand v same) (are c x known)

pub answer_known : (answers : List (Option Answer)) (c v : ValueId) (x : Answer) (b : Bool) → answer_in answers c.0 ≡ Some x
    → answer_in answers c.0 ≡ Some (record { operand = v; borrowable = b }) → (x.operand.0 ≡ v.0) × (x.borrowable ≡ b)
answer_known answers c v x b known other =
    let same : x ≡ record { operand = v; borrowable = b } = same_Some x (record { operand = v; borrowable = b }) (sym known ∙ other) in
    (ap (λ (y : Answer). y.operand.0) same, ap (λ (y : Answer). y.borrowable) same)

pub told_some : (answers : List (Option Answer)) (c v : ValueId) (o : Option Bool) (b : Bool) → o ≡ Some b
    → IfSome o (λ k. (facts : ValueId → Option Facts) (f : Function) → AreAnswers facts f answers → IsToldOf facts f c v k)
    → (facts : ValueId → Option Facts) (f : Function) → AreAnswers facts f answers → IsToldOf facts f c v b
told_some answers c v o b is h =
    subst (λ (x : Option Bool). IfSome x (λ k. (facts : ValueId → Option Facts) (f : Function) → AreAnswers facts f answers → IsToldOf facts f c v k)) is h
