-- What the rewriting of one copy changes for the other copies of an accepted module.
use Rattle.std.specs.Prelude.{◌≡◌, ◌≢◌, ◌↔◌, ℕ, Some, slice_get}
use Rattle.sil_ast.specs.declared.function.Function.{Function}
use Rattle.sil_ast.specs.declared.module.Module.{Module}
use Rattle.sil_ast.specs.declared.place.PointId.{PointId}
use Rattle.sil_ast.specs.declared.place.ValueId.{ValueId}
use Rattle.sil_rules.specs.Order.{NotAfter}
use Rattle.numbered_form.specs.Numbering.{values_of}
use Rattle.numbered_form.specs.ValueTables.Borrows.{borrows_of}
use Rattle.copy_pairing_model.specs.Copies.{IsCopy}
use Rattle.copy_pairing_model.specs.Removable.{IsBorrowable, IsMovable}
use Rattle.copy_pairing_model.specs.Rewritten.{lent, moved}
use Rattle.copy_pairing_model.specs.Optimised.{Rewrites, RewritesFirst, facts_of, text_key}
use Rattle.sil_verifier_trails.specs.sil_verifier_accepted.AcceptedModules.inner.Checked.{IsVerified}

-- behind the rewriting of the first copy that can go, each copy that can go comes later in the text
abbrev pub LaterOnesAreLeft : Type 0
LaterOnesAreLeft = (m next other : Module) → IsVerified m → (h : RewritesFirst m next) → (n : ℕ) (p : PointId) → Rewrites next n p other
    → ¬ NotAfter (text_key n p) (text_key h.function h.point)

-- a function of an accepted module
pub record IsVerifiedIn (m : Module) (f : Function) : Type 0 where
  pub verified : IsVerified m
  pub number : ℕ
  pub there : slice_get m.functions number ≡ Some f

-- a borrow changes for no other copy whether it can be a borrow
abbrev pub LendingKeepsBorrowable : Type 0
LendingKeepsBorrowable = (m : Module) (f : Function) (p q : PointId) (c v d w : ValueId) → IsVerifiedIn m f → IsCopy f p c v
    → IsBorrowable (facts_of m f) f c v
    → let g : Function = lent c f in IsCopy g q d w → IsBorrowable (facts_of m g) g d w ↔ IsBorrowable (facts_of m f) f d w

-- a move of a copy of v changes that at most for v itself, which the move ends, and for the other copies of v
abbrev pub MovingKeepsBorrowable : Type 0
MovingKeepsBorrowable = (m : Module) (f : Function) (p q : PointId) (c v d w : ValueId) → IsVerifiedIn m f → IsCopy f p c v
    → ¬ IsBorrowable (facts_of m f) f c v → (h : IsMovable (facts_of m f) f p c v)
    → let g : Function = moved p h.last f in IsCopy g q d w → d.0 ≢ v.0 → w.0 ≢ v.0
    → IsBorrowable (facts_of m g) g d w ↔ IsBorrowable (facts_of m f) f d w

-- and no copy can be a borrow behind it that couldn't before
abbrev pub MovingLetsNoneBorrow : Type 0
MovingLetsNoneBorrow = (m : Module) (f : Function) (p q : PointId) (c v d w : ValueId) → IsVerifiedIn m f → IsCopy f p c v
    → ¬ IsBorrowable (facts_of m f) f c v → (h : IsMovable (facts_of m f) f p c v)
    → let g : Function = moved p h.last f in IsCopy g q d w → IsBorrowable (facts_of m g) g d w → IsBorrowable (facts_of m f) f d w

-- what is a copy where one is lent was one before
abbrev pub LendingMakesNoCopy : Type 0
LendingMakesNoCopy = (f : Function) (q : PointId) (c d w : ValueId) → IsCopy (lent c f) q d w → IsCopy f q d w

-- and where one is moved
abbrev pub MovingMakesNoCopy : Type 0
MovingMakesNoCopy = (m : Module) (f : Function) (p q : PointId) (c v d w : ValueId) → IsVerifiedIn m f → IsCopy f p c v
    → (h : IsMovable (facts_of m f) f p c v) → IsCopy (moved p h.last f) q d w → (o : PointId) × IsCopy f o d w

-- the second function has the values of the first one, with the same kinds, bases and borrows
pub record HasValuesOf (m : Module) (f g : Function) : Type 0 where
  pub values : values_of g.blocks ≡ values_of f.blocks
  pub facts : facts_of m g ≡ facts_of m f
  pub borrows : borrows_of g ≡ borrows_of f

-- all values stay as they are
abbrev pub MovingKeepsValues : Type 0
MovingKeepsValues = (m : Module) (f : Function) (p : PointId) (c v : ValueId) → IsVerifiedIn m f → IsCopy f p c v → (h : IsMovable (facts_of m f) f p c v)
    → HasValuesOf m f (moved p h.last f)
