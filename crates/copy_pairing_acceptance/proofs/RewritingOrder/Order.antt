-- What can go behind the rewriting of the first copy that can go, where the function's other copies could go before if they can behind it.
use Rattle.std.proofs.Common.{◌≡◌, ◌≢◌, ◌⊎◌, inl, inr, ℕ, ◌<◌, sym, ap, ◌∙◌, subst, arith, Some}
use Rattle.std.specs.Prelude.{option_map, slice_get}
use Rattle.std.proofs.lemmas.Option.{same_Some}
use Rattle.sil_ast.specs.declared.function.Function.{Function}
use Rattle.sil_ast.specs.declared.module.Module.{Module}
use Rattle.sil_ast.specs.declared.place.PointId.{PointId}
use Rattle.sil_ast.specs.declared.place.ValueId.{ValueId}
use Rattle.sil_rules.specs.Order.{NotAfter}
use Rattle.copy_pairing_model.specs.Copies.{IsCopy}
use Rattle.copy_pairing_model.specs.Optimised.{Rewrites, facts_of, lends, moves, text_key}
use Rattle.copy_pairing_model.specs.Removable.{IsBorrowable, IsMovable}
use Rattle.copy_pairing_model.specs.Rewritten.{lent, moved, with_function}
use Rattle.copy_pairing_acceptance.proofs.MovedFunctions.Lists.{changed_elsewhere, changed_there}

-- the point comes before the other one in the text of their function
abbrev pub IsBefore : PointId → PointId → Type 0
IsBefore q p = (q.block.0 < p.block.0) ⊎ ((q.block.0 ≡ p.block.0) × (q.index < p.index))

-- what comes before it, or is it
record IsSplitKey (n : ℕ) (q : PointId) (k : ℕ) (p : PointId) : Type 0 where
  place : (n < k) ⊎ ((n ≡ k) × (IsBefore q p ⊎ (q ≡ p)))

pub same_point : (q p : PointId) → q.block.0 ≡ p.block.0 → q.index ≡ p.index → q ≡ p
same_point q p e h = λ i. record { block = record { 0 = e i }; index = h i }

split_key : (n : ℕ) (q : PointId) (k : ℕ) (p : PointId) → NotAfter (text_key n q) (text_key k p) → IsSplitKey n q k p
split_key n q k p (inl lt) = record { place = inl lt }
split_key n q k p (inr (e, inl lt)) = record { place = inr (e, inl (inl lt)) }
split_key n q k p (inr (e, inr (h, inl lt))) = record { place = inr (e, inl (inr (h, lt))) }
split_key n q k p (inr (e, inr (h, inr (i, tt)))) = record { place = inr (e, inr (same_point q p h i)) }

not_below : (n k : ℕ) (q p : PointId) → n < k → NotAfter (text_key k p) (text_key n q) → ⊥
not_below n k q p lt (inl h) = omega arith
not_below n k q p lt (inr (h, rest)) = omega arith

not_before : (k : ℕ) (q p : PointId) → IsBefore q p → NotAfter (text_key k p) (text_key k q) → ⊥
not_before k q p b (inl h) = omega arith
not_before k q p (inl lt) (inr (e, inl h)) = omega arith
not_before k q p (inl lt) (inr (e, inr (h, rest))) = omega arith
not_before k q p (inr (same, lt)) (inr (e, inl h)) = omega arith
not_before k q p (inr (same, lt)) (inr (e, inr (h, inl under))) = omega arith
not_before k q p (inr (same, lt)) (inr (e, inr (h, inr (i, rest)))) = omega arith

-- what one function's rewriting keeps
pub record KeepsBefore (m : Module) (p : PointId) (f g : Function) : Type 0 where
  pub none_there : (e w : ValueId) → IsCopy g p e w → ⊥
  pub copies : (q : PointId) (e w : ValueId) → IsBefore q p → IsCopy g q e w → IsCopy f q e w
  pub borrowable : (q : PointId) (e w : ValueId) → IsBefore q p → IsCopy g q e w → IsBorrowable (facts_of m g) g e w → IsBorrowable (facts_of m f) f e w
  pub movable : (q : PointId) (e w : ValueId) → IsBefore q p → IsCopy g q e w → IsMovable (facts_of m g) g q e w → IsMovable (facts_of m f) f q e w

module _ (m : Module) (k : ℕ) (p : PointId) (change : Function → Function) (f : Function) (there : slice_get m.functions k ≡ Some f)
    (first : (n : ℕ) (q : PointId) (other : Module) → Rewrites m n q other → NotAfter (text_key k p) (text_key n q)) (kept : KeepsBefore m p f (change f)) where
  abbrev next : Module
  next = with_function k change m

  is_changed : (g : Function) → slice_get next.functions k ≡ Some g → g ≡ change f
  is_changed g e = same_Some g (change f) (sym e ∙ changed_there change k m.functions ∙ ap (option_map change) there)

  elsewhere : (n : ℕ) (g : Function) → n ≢ k → slice_get next.functions n ≡ Some g → slice_get m.functions n ≡ Some g
  elsewhere n g ne e = sym (changed_elsewhere change k n m.functions ne) ∙ e

  -- nothing before it can go
  not_lent : (q : PointId) (e w : ValueId) → IsBefore q p → IsCopy f q e w → IsBorrowable (facts_of m f) f e w → ⊥
  not_lent q e w before copy b = not_before k q p before (first k q (with_function k (lent e) m) (lends f e w there copy b))

  not_moved : (q : PointId) (e w : ValueId) → IsBefore q p → IsCopy f q e w → IsMovable (facts_of m f) f q e w → ⊥
  not_moved q e w before copy h =
      not_before k q p before (first k q (with_function k (moved q h.last) m) (moves f e w there copy (λ b. not_lent q e w before copy b) h))

  pub none_before : (n : ℕ) (q : PointId) (other : Module) → Rewrites next n q other → ¬ NotAfter (text_key n q) (text_key k p)
  none_before n q _ (lends g e w here copy b) before = at (split_key n q k p before).place
    where
      at : (n < k) ⊎ ((n ≡ k) × (IsBefore q p ⊎ (q ≡ p))) → ⊥
      at (inl lt) = not_below n k q p lt (first n q (with_function n (lent e) m) (lends g e w (elsewhere n g (λ same. let no : ⊥ = omega arith in no) here) copy b))
      at (inr (same, place)) = in_function place
        where
          is : g ≡ change f
          is = is_changed g (ap (slice_get next.functions) (sym same) ∙ here)

          copy_there : IsCopy (change f) q e w
          copy_there = subst (λ x. IsCopy x q e w) is copy

          in_function : IsBefore q p ⊎ (q ≡ p) → ⊥
          in_function (inl sooner) =
              not_lent q e w sooner (kept.copies q e w sooner copy_there)
              (kept.borrowable q e w sooner copy_there (subst (λ x. IsBorrowable (facts_of m x) x e w) is b))
          in_function (inr point) = kept.none_there e w (subst (λ x. IsCopy (change f) x e w) point copy_there)
  none_before n q _ (moves g e w here copy never h) before = at (split_key n q k p before).place
    where
      at : (n < k) ⊎ ((n ≡ k) × (IsBefore q p ⊎ (q ≡ p))) → ⊥
      at (inl lt) =
          not_below n k q p lt (first n q (with_function n (moved q h.last) m) (moves g e w (elsewhere n g (λ same. let no : ⊥ = omega arith in no) here) copy never h))
      at (inr (same, place)) = in_function place
        where
          is : g ≡ change f
          is = is_changed g (ap (slice_get next.functions) (sym same) ∙ here)

          copy_there : IsCopy (change f) q e w
          copy_there = subst (λ x. IsCopy x q e w) is copy

          in_function : IsBefore q p ⊎ (q ≡ p) → ⊥
          in_function (inl sooner) =
              not_moved q e w sooner (kept.copies q e w sooner copy_there)
              (kept.movable q e w sooner copy_there (subst (λ x. IsMovable (facts_of m x) x q e w) is h))
          in_function (inr point) = kept.none_there e w (subst (λ x. IsCopy (change f) x e w) point copy_there)
