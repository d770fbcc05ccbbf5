-- How a copy can go, by what the items of its function do to values along all walks.
use Rattle.std.specs.Prelude.{◌≡◌, ℕ, ◌<◌, List, [], ◌∷◌, Bool, true, false, ◌&&◌, ◌||◌, ◌==◌, filter_map, Option, Some, None}
use Rattle.std.specs.List.{list_any}
use Rattle.instruction_table.specs.declared.op.Op.TheVariants as op
use Rattle.sil_ast.specs.declared.function.Function.{Function}
use Rattle.sil_ast.specs.declared.inst.Inst as inst
use Rattle.sil_ast.specs.declared.place.PointId.{PointId}
use Rattle.sil_ast.specs.declared.place.ValueId.{ValueId}
use Rattle.sil_cfg.specs.Items.{IsItem, flow_of, point_at}
use Rattle.sil_cfg.specs.declared.item.Item.{Item}
use Rattle.sil_cfg.specs.declared.item.Item.TheVariants.{Inst}
use Rattle.sil_cfg_items.specs.Parts.{item_inst}
use Rattle.reach_engine_marks.specs.PathPatterns.Along.{IsKept}
use Rattle.reach_engine_marks.specs.PathPatterns.inner.Runs.{IsHeld}
use Rattle.ownership_kinds_origins.specs.ownership_kinds_chains.OwnershipChains.Facts.{has, is_owned, known_or}
use Rattle.ownership_kinds_origins.specs.ownership_kinds_chains.declared.ownership_chains.facts.Facts.{Facts}
use Rattle.ownership_kinds_origins.specs.ownership_kinds_chains.OwnershipMarks.Marks.{marks_of}
use Rattle.ownership_kinds_origins.specs.ownership_kinds_chains.declared.ownership_marks.mark.Mark.{Mark}
use Rattle.ownership_kinds_origins.specs.ownership_kinds_chains.declared.ownership_marks.mark.MarkSort.{MarkSort}
use Rattle.ownership_kinds_origins.specs.ownership_kinds_chains.declared.ownership_marks.mark.MarkSort.TheVariants.{End, Use, Begin}
use Rattle.borrow_scopes.specs.Scopes.{lent_bases}
use Rattle.borrow_scopes.specs.inner.Runs.{sort_for}
use Rattle.copy_pairing_model.specs.Copies.{IsCopy, IsDestroy, is_op}
use Rattle.copy_pairing_model.specs.declared.removal.Removal.{Removal}
use Rattle.copy_pairing_model.specs.declared.removal.Removal.TheVariants.{No, Borrow, Move}

abbrev pub is_sort : MarkSort → MarkSort → Bool
is_sort End End = true
is_sort End Use = false
is_sort End Begin = false
is_sort Use End = false
is_sort Use Use = true
is_sort Use Begin = false
is_sort Begin End = false
is_sort Begin Use = false
is_sort Begin Begin = true

-- the mark is of this sort, and of one of these values
abbrev pub is_mark : MarkSort → List ValueId → Mark → Bool
is_mark sort values m = is_sort sort m.sort && has values m.subject.0

-- the mark is one of v, or the end of c
abbrev pub concerns : ValueId → ValueId → Mark → Bool
concerns c v m = (m.subject.0 == v.0) || is_mark End (c ∷ []) m

abbrev pub is_destroy : Option inst.Inst → Bool
is_destroy None = false
is_destroy (Some i) = is_op op.DestroyValue i

module _ (facts : ValueId → Option Facts) (f : Function) where
  -- each item of the function that ends the value is a `destroy_value`
  abbrev pub IsOnlyDestroyed : ValueId → Type 0
  IsOnlyDestroyed c = (item : Item) → IsItem f item → list_any (is_mark End (c ∷ [])) (marks_of facts f item) ≡ true → is_destroy (item_inst f item) ≡ true

  -- on no walk is the value held where one of these values has a mark of this sort: none comes between a begin of the value and its next end
  abbrev pub IsFreeAt : MarkSort → List ValueId → ValueId → Type 0
  IsFreeAt sort values h = IsKept (flow_of f) (marks_of facts f) (λ before m. is_mark sort values m ≡ true → IsHeld (filter_map (sort_for h) before) → ⊥)

  -- The copy c of v can become a borrow: only destroys end it, and while it is held no base of v ends.
  pub record IsBorrowable (c v : ValueId) : Type 0 where
    pub destroyed : IsOnlyDestroyed c
    pub bases_stay : IsFreeAt End (known_or facts v).bases c

  -- behind the point, in its block, a `destroy_value` of v stands at this index, and before it no mark of v and no end of c comes
  pub record IsDestroyedNext (p : PointId) (c v : ValueId) (last : ℕ) : Type 0 where
    pub behind : p.index < last
    pub destroyed : IsDestroy f (point_at p.block.0 last) v
    pub quiet : (k : ℕ) → p.index < k → k < last → list_any (concerns c v) (marks_of facts f (Inst (point_at p.block.0 k))) ≡ false

  -- no scope that borrows from v is open where c begins
  abbrev pub IsUnlent : ValueId → ValueId → Type 0
  IsUnlent c v = (s : ValueId) → has (lent_bases f (known_or facts) s.0) v.0 ≡ true → IsFreeAt Begin (c ∷ []) s

  -- The copy c of v at the point can become a move: v is Owned and not lent there, and the next that is done to v is its destroy in the same
  -- block, before c ends.
  pub record IsMovable (p : PointId) (c v : ValueId) : Type 0 where
    pub owned : is_owned (known_or facts v).kind ≡ true
    pub unlent : IsUnlent c v
    pub last : ℕ
    pub next : IsDestroyedNext p c v last

  -- how the copy can go: as a borrow where it can be one, and else as a move
  abbrev pub IsRemoval : PointId → ValueId → ValueId → Removal → Type 0
  IsRemoval p c v No = (¬ IsBorrowable c v) × (¬ IsMovable p c v)
  IsRemoval p c v Borrow = IsBorrowable c v
  IsRemoval p c v Move = (¬ IsBorrowable c v) × IsMovable p c v

  -- how what stands at the point can go: a copy as that copy can, and what is no copy not at all
  abbrev pub IsRemovalIn : PointId → Removal → Type 0
  IsRemovalIn p No = (c v : ValueId) → IsCopy f p c v → IsRemoval p c v No
  IsRemovalIn p Borrow = (c : ValueId) × (v : ValueId) × IsCopy f p c v × IsRemoval p c v Borrow
  IsRemovalIn p Move = (c : ValueId) × (v : ValueId) × IsCopy f p c v × IsRemoval p c v Move
