-- What is done to a copy: it stays, or it is rewritten as it can go.
use Rattle.std.specs.Prelude.{◌≡◌, ℕ, ◌<◌, true, length, slice_get, IsSomeAnd, Option, Some}
use Rattle.sil_ast.specs.declared.function.Function.{Function}
use Rattle.sil_ast.specs.declared.module.Module.{Module}
use Rattle.sil_ast.specs.declared.place.PointId.{PointId}
use Rattle.sil_ast.specs.declared.place.ValueId.{ValueId}
use Rattle.ownership_kinds_chains.specs.OwnershipChains.Facts.{is_owned, told_at}
use Rattle.ownership_kinds_chains.specs.declared.ownership_chains.facts.Facts.{Facts}
use Rattle.ownership_kinds.specs.ownership_kinds_origins.Facts.{facts_in}
use Rattle.ownership_kinds_chains.specs.OwnershipMarks.Known as known
use Rattle.ownership_kinds_chains.specs.OwnershipMarks.Known.{Known}
use Rattle.sil_types_declarations.specs.TypeDefinitions.Declarations.{Declarations}
use Rattle.copy_pairing_model.specs.Copies.{IsCopy}
use Rattle.copy_pairing_model.specs.Optimised.{Rewrites}
use Rattle.copy_pairing_model.specs.Removable.{IsBorrowable, IsDestroyedNext, IsMovable}
use Rattle.copy_pairing_model.specs.Rewritten.{lent, moved, with_function}
use Rattle.copy_pairing.specs.declared.turns.Turn.{Turn}
use Rattle.copy_pairing.specs.declared.turns.Turn.TheVariants.{Stay, Lend, Move}

-- the copy can become a move, up to the destroy at this index
pub record IsMovableTo (facts : ValueId → Option Facts) (f : Function) (p : PointId) (c v : ValueId) (last : ℕ) : Type 0 where
  pub movable : IsMovable facts f p c v
  pub there : movable.last ≡ last

-- by what is known, v is Owned, and its next destroy behind the copy c of it is at this index
pub record IsOwnedUpTo (k : Known) (f : Function) (p : PointId) (c v : ValueId) (last : ℕ) : Type 0 where
  pub owned : is_owned (known.facts_of k v).kind ≡ true
  pub next : IsDestroyedNext (told_at k.table) f p c v last

module _ (facts : ValueId → Option Facts) (f : Function) where
  -- of the copy c of v at the point
  abbrev pub IsTurnOf : PointId → ValueId → ValueId → Turn → Type 0
  IsTurnOf p c v Stay = (¬ IsBorrowable facts f c v) × (¬ IsMovable facts f p c v)
  IsTurnOf p c v (Lend value) = (value ≡ c) × IsBorrowable facts f c v
  IsTurnOf p c v (Move last operand) = (operand ≡ v) × (¬ IsBorrowable facts f c v) × IsMovableTo facts f p c v last

  -- of the copy at the point, if one stands there
  abbrev pub IsTurnIn : PointId → Turn → Type 0
  IsTurnIn p Stay = (c v : ValueId) → IsCopy f p c v → (¬ IsBorrowable facts f c v) × (¬ IsMovable facts f p c v)
  IsTurnIn p (Lend c) = (v : ValueId) × IsCopy f p c v × IsBorrowable facts f c v
  IsTurnIn p (Move last v) = (c : ValueId) × IsCopy f p c v × (¬ IsBorrowable facts f c v) × IsMovableTo facts f p c v last

-- the instruction with this index stands behind the point, in its block of the function with this number
pub record StandsBehind (m : Module) (n : ℕ) (p : PointId) (last : ℕ) : Type 0 where
  pub behind : p.index < last
  pub there : IsSomeAnd (slice_get m.functions n) (λ f. IsSomeAnd (slice_get f.blocks p.block.0) (λ block. last < length block.insts))

-- of the copy at the point of the function with this number, if one stands there
abbrev pub IsTurn : Module → ℕ → PointId → Turn → Type 0
IsTurn m n p Stay = (next : Module) → ¬ Rewrites m n p next
IsTurn m n p (Lend c) = (n < length m.functions) × Rewrites m n p (with_function n (lent c) m)
IsTurn m n p (Move last v) = StandsBehind m n p last × Rewrites m n p (with_function n (moved p last) m)

-- and in that function
abbrev pub IsTurnThere : Declarations → Module → ℕ → PointId → Turn → Type 0
IsTurnThere types m n p turn = (f : Function) → slice_get m.functions n ≡ Some f → IsTurnIn (facts_in types f) f p turn

-- the copy at the point is rewritten, if it can go
pub data Turned (m : Module) (n : ℕ) (p : PointId) : Module → Type 0 where
  stays : ((next : Module) → ¬ Rewrites m n p next) → Turned m n p m
  turns : (next : Module) → Rewrites m n p next → Turned m n p next
