-- When a copy can become a borrow.
use Rattle.std.proofs.Common.{◌≡◌, ℕ, List, [], ◌∷◌, refl, sym, ap, ◌∙◌, subst, Bool, true, false, Option, eq-eqb}
use Rattle.std.specs.Prelude.{◌||◌, ◌==◌, ◌↔◌, IsTrue}
use Rattle.std.proofs.lemmas.Bool.{eqb-true}
use Rattle.sil_ast.specs.declared.function.Function.{Function}
use Rattle.sil_ast.specs.declared.place.ValueId.{ValueId}
use Rattle.ownership_kinds_chains.specs.OwnershipChains.Facts.{known_or}
use Rattle.ownership_kinds_chains.specs.declared.ownership_chains.facts.Facts.{Facts}
use Rattle.ownership_kinds_chains.specs.declared.ownership_marks.mark.MarkSort.{MarkSort}
use Rattle.ownership_kinds_chains.specs.declared.ownership_marks.mark.MarkSort.TheVariants.{End}
use Rattle.copy_pairing_model.specs.Removable.{IsBorrowable, IsFreeAt, IsOnlyDestroyed}
use Rattle.copy_pairing_search.specs.BorrowableCopies.inner.Asked.{AreFreeAt}

same_value : (a b : ValueId) → a.0 ≡ b.0 → a ≡ b
same_value a b e = ap (λ (n : ℕ). let v : ValueId = record { 0 = n } in v) e

one_of : (a : Bool) → (a || false) ≡ true → a ≡ true
one_of true e = refl
one_of false e = e

-- of one value
pub one_free : (facts : ValueId → Option Facts) (f : Function) (sort : MarkSort) (values : List ValueId) (c : ValueId) → AreFreeAt facts f sort values (c ∷ []) ↔ IsFreeAt facts f sort values c
one_free facts f sort values c = (
  λ all. all c (ap (λ b. b || false) (eq-eqb c.0 c.0 refl)),
  λ free h among. subst (IsFreeAt facts f sort values) (same_value c h (eqb-true c.0 h.0 (one_of (c.0 == h.0) among))) free,
)

-- where only destroys end the copy, the bases alone decide
pub borrowable_by : (facts : ValueId → Option Facts) (f : Function) (c v : ValueId) (bases : List ValueId) → bases ≡ (known_or facts v).bases → (only : Bool) → only ≡ true
    → IsTrue only ↔ IsOnlyDestroyed facts f c → (r : Bool) → IsTrue r ↔ AreFreeAt facts f End bases (c ∷ []) → IsTrue r ↔ IsBorrowable facts f c v
borrowable_by facts f c v bases are only so destroyed r free = (
  λ t. record { destroyed = destroyed.0 so; bases_stay = subst (λ b. IsFreeAt facts f End b c) are ((one_free facts f End bases c).0 (free.0 t)) },
  λ h. free.1 ((one_free facts f End bases c).1 (subst (λ b. IsFreeAt facts f End b c) (sym are) h.bases_stay)),
)

-- else it can't
pub not_borrowable : (facts : ValueId → Option Facts) (f : Function) (c v : ValueId) (only : Bool) → only ≡ false → IsTrue only ↔ IsOnlyDestroyed facts f c → IsTrue false ↔ IsBorrowable facts f c v
not_borrowable facts f c v only not_so destroyed = (
  λ t. absurd (let wrong : false ≡ true = t in cc),
  λ h. absurd (let so : only ≡ true = destroyed.1 h.destroyed in let wrong : true ≡ false = sym so ∙ not_so in cc),
)
