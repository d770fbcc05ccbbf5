-- A module has one optimised module at most.
use Rattle.std.proofs.Common.{◌≡◌, ◌⊎◌, inl, inr, ℕ, ◌<◌, ◌≤◌, List, [], ◌∷◌, refl, sym, ap, ap₂, ◌∙◌, subst, true, false, Some, arith}
use Rattle.std.specs.List.{list_any, slice_get}
use Rattle.std.proofs.lemmas.Bool.{cases_lt}
use Rattle.std.proofs.lemmas.Option.{same_Some}
use Rattle.sil_ast.specs.declared.function.Function.{Function}
use Rattle.sil_ast.specs.declared.inst.Inst as inst
use Rattle.sil_ast.specs.declared.module.Module.{Module}
use Rattle.sil_ast.specs.declared.operands.Operand.{Operand}
use Rattle.sil_ast.specs.declared.place.PointId.{PointId}
use Rattle.sil_ast.specs.declared.place.ValueId.{ValueId}
use Rattle.sil_cfg.specs.Items.{point_at}
use Rattle.sil_cfg.specs.declared.item.Item.TheVariants.{Inst}
use Rattle.sil_rules.specs.Order.{NotAfter}
use Rattle.ownership_kinds_origins.specs.ownership_kinds_chains.OwnershipMarks.Marks.{marks_of}
use Rattle.copy_pairing_model.specs.Copies.{IsCopy}
use Rattle.copy_pairing_model.specs.Removable.{IsBorrowable, IsMovable, concerns}
use Rattle.copy_pairing_model.specs.Rewritten.{lent, moved, with_function}
use Rattle.copy_pairing_model.specs.Optimised.{IsOptimised, Rewrites, RewritesFirst, done, facts_of, lends, more, moves, text_key}
use Rattle.copy_pairing_model.specs.inner.Laws.{AreUnique}
use Rattle.copy_pairing_model.proofs.DestroyShown.{destroy_shown}
use Rattle.copy_pairing_model.proofs.NoneLeft.{none_rewritten}

same_numbers : (xs ys : List ℕ) → NotAfter xs ys → NotAfter ys xs → xs ≡ ys
same_numbers [] [] a b = refl
same_numbers [] (y ∷ ys) a b = absurd b
same_numbers (x ∷ xs) [] a b = absurd a
same_numbers (x ∷ xs) (y ∷ ys) (inl lt) (inl gt) = absurd (omega arith)
same_numbers (x ∷ xs) (y ∷ ys) (inl lt) (inr b) = absurd (let e : y ≡ x = b.0 in omega arith)
same_numbers (x ∷ xs) (y ∷ ys) (inr a) (inl gt) = absurd (let e : x ≡ y = a.0 in omega arith)
same_numbers (x ∷ xs) (y ∷ ys) (inr a) (inr b) = ap₂ (λ n ns. n ∷ ns) a.0 (same_numbers xs ys a.1 b.1)

abbrev point_with : ℕ → ℕ → PointId
point_with b k = record { block = record { 0 = b }; index = k }

same_point : (p q : PointId) → p.block.0 ≡ q.block.0 → p.index ≡ q.index → p ≡ q
same_point p q a b = ap₂ point_with a b

pub record SameCopy (c d v w : ValueId) : Type 0 where
  pub result : c ≡ d
  pub operand : v ≡ w

pub same_copy : (f : Function) (p : PointId) (c d v w : ValueId) → IsCopy f p c v → IsCopy f p d w → SameCopy c d v w
same_copy f p c d v w one other =
    let same : one.inst ≡ other.inst = same_Some one.inst other.inst (sym one.stands ∙ other.stands) in
    let results : c ∷ [] ≡ d ∷ [] = sym one.copies.result ∙ ap (λ (i : inst.Inst). i.results) same ∙ other.copies.result in
    let operands : one.copies.operand ∷ [] ≡ other.copies.operand ∷ [] = sym one.copies.operands ∙ ap (λ (i : inst.Inst). i.operands) same ∙ other.copies.operands in
    let operand : one.copies.operand ≡ other.copies.operand = cc in
    record { result = cc; operand = sym one.copies.copied ∙ ap (λ (o : Operand). o.value) operand ∙ other.copies.copied }

module _ (m : Module) (f : Function) (p : PointId) (c v : ValueId) where
  -- a place before that of the destroy is quiet, and a destroy isn't
  not_earlier : (one other : IsMovable (facts_of m f) f p c v) → one.last < other.last → ⊥
  not_earlier one other lt =
      let shown : list_any (concerns c v) (marks_of (facts_of m f) f (Inst (point_at p.block.0 one.last))) ≡ true =
      destroy_shown (facts_of m f) f (point_at p.block.0 one.last) c v one.owned one.next.destroyed in
      let quiet : list_any (concerns c v) (marks_of (facts_of m f) f (Inst (point_at p.block.0 one.last))) ≡ false = other.next.quiet one.last one.next.behind lt in
      cc

  same_last : (one other : IsMovable (facts_of m f) f p c v) → one.last ≡ other.last
  same_last one other = at (cases_lt one.last other.last) (cases_lt other.last one.last)
    where
      at : (one.last < other.last) ⊎ (other.last ≤ one.last) → (other.last < one.last) ⊎ (one.last ≤ other.last) → one.last ≡ other.last
      at (inl lt) h = absurd (not_earlier one other lt)
      at (inr le) (inl lt) = absurd (not_earlier other one lt)
      at (inr le) (inr ge) = omega arith

-- the same copy is moved to the same destroy, whatever its function and values are called
moved_same : (m : Module) (f g : Function) (p : PointId) (c d v w : ValueId) → f ≡ g → c ≡ d → v ≡ w → (one : IsMovable (facts_of m f) f p c v) (other : IsMovable (facts_of m g) g p d w)
    → one.last ≡ other.last
moved_same m f g p c d v w same_f same_c same_v one other =
    let H : Function → Type 0 = λ x. (h : IsMovable (facts_of m x) x p d w) → one.last ≡ h.last in
    let I : ValueId → Type 0 = λ x. (h : IsMovable (facts_of m f) f p x w) → one.last ≡ h.last in
    let J : ValueId → Type 0 = λ x. (h : IsMovable (facts_of m f) f p c x) → one.last ≡ h.last in
    subst H same_f (subst I same_c (subst J same_v (same_last m f p c v one))) other

module _ (m : Module) (n : ℕ) (p : PointId) where
  -- a function that can become a borrow doesn't become a move
  borrowed_moved : (f g : Function) (c d v w : ValueId) → f ≡ g → c ≡ d → v ≡ w → IsBorrowable (facts_of m f) f c v → (IsBorrowable (facts_of m g) g d w → ⊥) → ⊥
  borrowed_moved f g c d v w same_f same_c same_v h not =
      let H : Function → Type 0 = λ x. IsBorrowable (facts_of m x) x d w in
      let I : ValueId → Type 0 = λ x. IsBorrowable (facts_of m f) f x w in
      let J : ValueId → Type 0 = λ x. IsBorrowable (facts_of m f) f c x in
      not (subst H same_f (subst I same_c (subst J same_v h)))

  same_function : (f g : Function) → slice_get m.functions n ≡ Some f → slice_get m.functions n ≡ Some g → f ≡ g
  same_function f g a b = same_Some f g (sym a ∙ b)

  copy_of : (f g : Function) (c d v w : ValueId) → f ≡ g → IsCopy f p c v → IsCopy g p d w → SameCopy c d v w
  copy_of f g c d v w same one other = same_copy f p c d v w one (subst (λ (x : Function). IsCopy x p d w) (sym same) other)

  same_next : (one other : Module) → Rewrites m n p one → Rewrites m n p other → one ≡ other
  same_next _ _ (lends f c v a copy h) (lends g d w b copied k) =
      let same = copy_of f g c d v w (same_function f g a b) copy copied in
      ap (λ x. with_function n (lent x) m) same.result
  same_next _ _ (lends f c v a copy h) (moves g d w b copied not k) =
      let same = copy_of f g c d v w (same_function f g a b) copy copied in
      absurd (borrowed_moved f g c d v w (same_function f g a b) same.result same.operand h not)
  same_next _ _ (moves f c v a copy not h) (lends g d w b copied k) =
      let same = copy_of g f d c w v (same_function g f b a) copied copy in
      absurd (borrowed_moved g f d c w v (same_function g f b a) same.result same.operand k not)
  same_next _ _ (moves f c v a copy not h) (moves g d w b copied never k) =
      let same = copy_of f g c d v w (same_function f g a b) copy copied in
      ap (λ last. with_function n (moved p last) m) (moved_same m f g p c d v w (same_function f g a b) same.result same.operand h k)

first_next : (m one other : Module) → RewritesFirst m one → RewritesFirst m other → one ≡ other
first_next m one other a b =
    let keys : a.function ∷ (a.point.block.0 ∷ (a.point.index ∷ [])) ≡ b.function ∷ (b.point.block.0 ∷ (b.point.index ∷ [])) =
    same_numbers (text_key a.function a.point) (text_key b.function b.point) (a.first b.function b.point other b.rewrites) (b.first a.function a.point one a.rewrites) in
    let function : a.function ≡ b.function = cc in
    let block : a.point.block.0 ≡ b.point.block.0 = cc in
    let index : a.point.index ≡ b.point.index = cc in
    let moved_there : Rewrites m b.function b.point one =
    subst (λ n. Rewrites m n b.point one) function (subst (λ p. Rewrites m a.function p one) (same_point a.point b.point block index) a.rewrites) in
    same_next m b.function b.point one other moved_there b.rewrites

pub unique : AreUnique
unique _ _ _ (done m none) (done _ never) = refl
unique _ _ _ (done m none) (more _ next last h rest) = absurd (none_rewritten m none h.function h.point next h.rewrites)
unique _ _ _ (more m next last h rest) (done _ none) = absurd (none_rewritten m none h.function h.point next h.rewrites)
unique _ _ _ (more m next last h rest) (more _ later end k further) =
    unique next last end rest (subst (λ x. IsOptimised x end) (sym (first_next m next later h k)) further)
