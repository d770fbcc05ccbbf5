-- The optimised module: the first copy that can go, in the order of the text, is rewritten, until none can.
use Rattle.std.specs.Prelude.{◌≡◌, ℕ, ◌<◌, List, [], ◌∷◌, Option, Some, slice_get, MatchOption}
use Rattle.sil_ast.specs.declared.function.Function.{Function}
use Rattle.sil_ast.specs.declared.module.Module.{Module}
use Rattle.sil_ast.specs.declared.place.PointId.{PointId}
use Rattle.sil_ast.specs.declared.place.ValueId.{ValueId}
use Rattle.sil_rules.specs.Order.{NotAfter}
use Rattle.ownership_kinds_origins.specs.ownership_kinds_chains.declared.ownership_chains.facts.Facts.{Facts}
use Rattle.ownership_kinds_origins.specs.Facts.{facts_in}
use Rattle.sil_types_declarations.specs.TypeDefinitions.Declarations.{declarations_of}
use Rattle.copy_pairing_model.specs.Copies.{IsCopy}
use Rattle.copy_pairing_model.specs.Counts.{copies_of}
use Rattle.copy_pairing_model.specs.Removable.{IsBorrowable, IsMovable, IsRemovalIn}
use Rattle.copy_pairing_model.specs.Rewritten.{lent, moved, with_function}
use Rattle.copy_pairing_model.specs.declared.removal.Removal.{Removal}
use Rattle.copy_pairing_model.specs.declared.removal.Removal.TheVariants.{No}

-- by the facts that the module tells of the function's values
abbrev pub facts_of : Module → Function → ValueId → Option Facts
facts_of m f = facts_in (declarations_of m) f

-- a copy at a point of the function with this number is rewritten as it can go
pub data Rewrites (m : Module) (n : ℕ) (p : PointId) : Module → Type 0 where
  lends : (f : Function) (c v : ValueId) → slice_get m.functions n ≡ Some f → IsCopy f p c v → IsBorrowable (facts_of m f) f c v
      → Rewrites m n p (with_function n (lent c) m)
  moves : (f : Function) (c v : ValueId) → slice_get m.functions n ≡ Some f → IsCopy f p c v → ¬ IsBorrowable (facts_of m f) f c v
      → (h : IsMovable (facts_of m f) f p c v) → Rewrites m n p (with_function n (moved p h.last) m)

-- the place of a copy in the text
abbrev pub text_key : ℕ → PointId → List ℕ
text_key n p = n ∷ p.block.0 ∷ p.index ∷ []

-- the first copy that can go is rewritten
pub record RewritesFirst (m next : Module) : Type 0 where
  pub function : ℕ
  pub point : PointId
  pub rewrites : Rewrites m function point next
  pub first : (n : ℕ) (p : PointId) (other : Module) → Rewrites m n p other → NotAfter (text_key function point) (text_key n p)

-- how what stands at the point of the function with this number can go: not at all where there is no such function
abbrev pub IsRemovalAt : Module → ℕ → PointId → Removal → Type 0
IsRemovalAt m n p how = MatchOption (slice_get m.functions n) (how ≡ No) (λ f. IsRemovalIn (facts_of m f) f p how)

-- no copy can go
abbrev pub HasNoRemovable : Module → Type 0
HasNoRemovable m = (n : ℕ) (p : PointId) → IsRemovalAt m n p No

-- the second module is what is left of the first one
pub data IsOptimised : Module → Module → Type 0 where
  done : (m : Module) → HasNoRemovable m → IsOptimised m m
  more : (m next last : Module) → RewritesFirst m next → IsOptimised next last → IsOptimised m last

-- the second module has fewer copies where a copy of the first one can go, and else it is the first one
pub record LosesCopies (old new : Module) : Type 0 where
  pub fewer : ¬ HasNoRemovable old → copies_of new < copies_of old
  pub same : HasNoRemovable old → new ≡ old
