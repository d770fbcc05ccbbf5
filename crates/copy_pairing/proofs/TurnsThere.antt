-- What is done to a copy of a function is what is done in its module.
use Rattle.std.proofs.Common.{◌≡◌, ℕ, ◌<◌, length, sym, ◌∙◌, subst, Option, Some, None}
use Rattle.std.specs.Prelude.{IsSomeAnd}
use Rattle.std.specs.List.{slice_get}
use Rattle.std.proofs.lemmas.Option.{same_Some, slice_get_within}
use Rattle.sil_ast.specs.declared.function.Block.{Block}
use Rattle.sil_ast.specs.declared.function.Function.{Function}
use Rattle.sil_ast.specs.declared.inst.Inst.{Inst}
use Rattle.sil_ast.specs.declared.module.Module.{Module}
use Rattle.sil_ast.specs.declared.place.PointId.{PointId}
use Rattle.sil_ast.specs.declared.place.ValueId.{ValueId}
use Rattle.sil_cfg_items.specs.Parts.{inst_in}
use Rattle.ownership_kinds_chains.specs.declared.ownership_chains.facts.Facts.{Facts}
use Rattle.ownership_kinds.specs.ownership_kinds_origins.Facts.{facts_in}
use Rattle.sil_types_declarations.specs.TypeDefinitions.Declarations.{Declarations, declarations_of}
use Rattle.copy_pairing_model.specs.Copies.{IsCopy}
use Rattle.copy_pairing_model.specs.Optimised.{Rewrites, facts_of, lends, moves}
use Rattle.copy_pairing_model.proofs.Unique.{same_copy}
use Rattle.copy_pairing_model.specs.Removable.{IsBorrowable, IsMovable, IsRemoval}
use Rattle.copy_pairing_model.specs.declared.removal.Removal.TheVariants as removal
use Rattle.copy_pairing_model.specs.Rewritten.{moved, with_function}
use Rattle.copy_pairing.specs.declared.turns.Turn.{Turn}
use Rattle.copy_pairing.specs.declared.turns.Turn.TheVariants.{Lend, Move, Stay}
use Rattle.copy_pairing.specs.inner.Turns.{IsMovableTo, IsTurn, IsTurnIn, IsTurnOf, IsTurnThere, StandsBehind}

within_block : (bs : Option Block) (k : ℕ) (i : Inst) → inst_in bs k ≡ Some i → IsSomeAnd bs (λ block. k < length block.insts)
within_block None k i e = absurd (let wrong : None ≡ Some i = e in cc)
within_block (Some block) k i e = slice_get_within block.insts k i e

module _ (m : Module) (n : ℕ) (f : Function) (p : PointId) (there : slice_get m.functions n ≡ Some f) where
  -- no copy is rewritten there where none of the function's can go there
  none_there : ((c v : ValueId) → IsCopy f p c v → (IsBorrowable (facts_of m f) f c v → ⊥) × (IsMovable (facts_of m f) f p c v → ⊥)) → (next : Module) → Rewrites m n p next → ⊥
  none_there none _ (lends g c v at copy h) =
      let same : f ≡ g = same_Some f g (sym there ∙ at) in
      subst (λ (x : Function). IsCopy x p c v → IsBorrowable (facts_of m x) x c v → ⊥) same (λ own. (none c v own).0) copy h
  none_there none _ (moves g c v at copy not h) =
      let same : f ≡ g = same_Some f g (sym there ∙ at) in
      subst (λ (x : Function). IsCopy x p c v → IsMovable (facts_of m x) x p c v → ⊥) same (λ own. (none c v own).1) copy h

  stands_behind : (c v : ValueId) (last : ℕ) → IsMovableTo (facts_of m f) f p c v last → StandsBehind m n p last
  stands_behind c v last h =
      let within : IsSomeAnd (slice_get f.blocks p.block.0) (λ (block : Block). h.movable.last < length block.insts) =
      within_block (slice_get f.blocks p.block.0) h.movable.last h.movable.next.destroyed.inst h.movable.next.destroyed.stands in
      let here : IsSomeAnd (slice_get f.blocks p.block.0) (λ (block : Block). last < length block.insts) =
      subst (λ x. IsSomeAnd (slice_get f.blocks p.block.0) (λ (block : Block). x < length block.insts)) h.there within in
      record {
        behind = subst (λ x. p.index < x) h.there h.movable.next.behind;
        there = subst (λ o. IsSomeAnd o (λ (g : Function). IsSomeAnd (slice_get g.blocks p.block.0) (λ (block : Block). last < length block.insts))) (sym there) here;
      }

  turn_by : (t : Turn) → IsTurnIn (facts_of m f) f p t → IsTurn m n p t
  turn_by Stay h = none_there h
  turn_by (Lend c) h = (slice_get_within m.functions n f there, lends f c h.0 there h.1 h.2)
  turn_by (Move last v) h = (
    stands_behind h.0 v last h.3,
    subst (λ x. Rewrites m n p (with_function n (moved p x) m)) h.3.there (moves f h.0 v there h.1 h.2 h.3.movable),
  )

pub turn_there : (m : Module) (types : Declarations) (n : ℕ) (f : Function) (p : PointId) (t : Turn) → types ≡ declarations_of m → slice_get m.functions n ≡ Some f
    → IsTurnIn (facts_in types f) f p t → IsTurn m n p t
turn_there m types n f p t declared there h = turn_by m n f p there t (subst (λ d. IsTurnIn (facts_in d f) f p t) declared h)

pub turns_there : (m : Module) (types : Declarations) (n : ℕ) (f : Function) (p : PointId) (t : Turn) → slice_get m.functions n ≡ Some f → IsTurnIn (facts_in types f) f p t
    → IsTurnThere types m n p t
turns_there m types n f p t there h g at = subst (λ x. IsTurnIn (facts_in types x) x p t) (same_Some f g (sym there ∙ at)) h

pub no_turn_there : (m : Module) (types : Declarations) (n : ℕ) (p : PointId) → slice_get m.functions n ≡ None → IsTurnThere types m n p Stay
no_turn_there m types n p none f at = absurd (let wrong : None ≡ Some f = sym none ∙ at in cc)

pub no_turn : (m : Module) (n : ℕ) (p : PointId) → slice_get m.functions n ≡ None → (next : Module) → Rewrites m n p next → ⊥
no_turn m n p none _ (lends g c v at copy h) = absurd (let wrong : None ≡ Some g = sym none ∙ at in cc)
no_turn m n p none _ (moves g c v at copy not h) = absurd (let wrong : None ≡ Some g = sym none ∙ at in cc)

module _ (facts : ValueId → Option Facts) (f : Function) (p : PointId) where
  -- what is done to the copy that stands there
  pub turn_of_copy : (c v : ValueId) → IsCopy f p c v → (t : Turn) → IsTurnOf facts f p c v t → IsTurnIn facts f p t
  turn_of_copy c v copy Stay h = λ d w other.
      let same = same_copy f p c d v w copy other in
      subst (λ x. (IsBorrowable facts f x w → ⊥) × (IsMovable facts f p x w → ⊥)) same.result (subst (λ x. (IsBorrowable facts f c x → ⊥) × (IsMovable facts f p c x → ⊥)) same.operand h)
  turn_of_copy c v copy (Lend value) h = (v, subst (λ x. IsCopy f p x v) (sym h.0) copy, subst (λ x. IsBorrowable facts f x v) (sym h.0) h.1)
  turn_of_copy c v copy (Move last w) h = (
    c,
    subst (λ x. IsCopy f p c x) (sym h.0) copy,
    subst (λ x. IsBorrowable facts f c x → ⊥) (sym h.0) h.1,
    subst (λ x. IsMovableTo facts f p c x last) (sym h.0) h.2,
  )

  -- how it can go

  module _ (c v : ValueId) where
    pub stay_removal : IsTurnOf facts f p c v Stay → IsRemoval facts f p c v removal.No
    stay_removal h = h

    pub lend_removal : (value : ValueId) → IsTurnOf facts f p c v (Lend value) → IsRemoval facts f p c v removal.Borrow
    lend_removal value h = h.1

    pub move_removal : (last : ℕ) (operand : ValueId) → IsTurnOf facts f p c v (Move last operand) → IsRemoval facts f p c v removal.Move
    move_removal last operand h = (h.1, h.2.movable)
