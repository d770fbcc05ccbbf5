-- What is told to be a copy is one, and each copy of a function is told.
use Rattle.std.proofs.Common.{◌≡◌, ◌≢◌, ◌⊎◌, inl, inr, ℕ, ◌+◌, ◌<◌, ◌≤◌, set, List, [], ◌∷◌, length, refl, sym, ap, ◌∙◌, subst, Option, Some, None, arith}
use Rattle.std.specs.Prelude.{IfNone, IfSome, IsSome, IsSomeAnd, is_some}
use Rattle.std.specs.List.{slice_get}
use Rattle.std.proofs.lemmas.Bool.{cases_eq, cases_lt}
use Rattle.std.proofs.lemmas.List.{get_or-set_other, get_or-set_same, length-set, set_past}
use Rattle.std.proofs.lemmas.Option.{same_Some, slice_get_within}
use Rattle.sil_ast.specs.declared.function.Block.{Block}
use Rattle.sil_ast.specs.declared.function.Function.{Function}
use Rattle.sil_ast.specs.declared.inst.Inst as inst
use Rattle.sil_ast.specs.declared.place.PointId.{PointId}
use Rattle.sil_ast.specs.declared.place.ValueId.{ValueId}
use Rattle.sil_cfg.specs.Items.{IsItem}
use Rattle.sil_cfg.specs.Layout.{Layout, item_at, item_count}
use Rattle.sil_cfg.specs.declared.item.Item.{Item}
use Rattle.sil_cfg.specs.declared.item.Item.TheVariants.{Inst}
use Rattle.sil_cfg.specs.inner.Build.{IsGraphOf}
use Rattle.sil_cfg_items.specs.Parts.{inst_in}
use Rattle.copy_pairing_model.specs.Copies.{Copies, IsCopy}
use Rattle.copy_pairing_search.specs.declared.borrowable_copies.copies.Copied.{Copied}
use Rattle.copy_pairing_search.specs.BorrowableCopies.inner.Together.{AreCopies, operand_in, with_copied}
use Rattle.copy_pairing_search.proofs.BorrowableCopies.ItemNumbers.{item_numbered}

same_value : (a b : ValueId) → a.0 ≡ b.0 → a ≡ b
same_value a b e = ap (λ (n : ℕ). let v : ValueId = record { 0 = n } in v) e

-- an instruction copies one value, into one

head_is : (a b : ValueId) (rest others : List ValueId) → a ∷ rest ≡ b ∷ others → a ≡ b
head_is a b rest others e = cc

copied_once : (i j : inst.Inst) (c d v w : ValueId) → i ≡ j → Copies i c v → Copies j d w → c ≡ d
copied_once i j c d v w same a b = head_is c d [] [] (sym a.result ∙ ap (λ (x : inst.Inst). x.results) same ∙ b.result)

pub one_copy : (f : Function) (p : PointId) (c d v w : ValueId) → IsCopy f p c v → IsCopy f p d w → c ≡ d
one_copy f p c d v w a b = copied_once a.inst b.inst c d v w (same_Some a.inst b.inst (sym a.stands ∙ b.stands)) a.copies b.copies

same_inst : (p q : PointId) → Inst p ≡ Inst q → p ≡ q
same_inst p q e = cc

module _ (f : Function) (item : Item) (p : PointId) (is : item ≡ Inst p) where
  at_point : (q : PointId) (c w : ValueId) → item ≡ Inst q → IsCopy f q c w → IsCopy f p c w
  at_point q c w other copy = subst (λ r. IsCopy f r c w) (same_inst q p (sym other ∙ is)) copy

  pub some_of : (o : Option Copied) → IfSome o (λ x. IsCopy f p x.value x.operand) → IfSome o (λ x. (q : PointId) × IsCopy f q x.value x.operand)
  some_of None h = tt
  some_of (Some x) h = (p, h)

  pub none_of : (o : Option Copied) → IfNone o ((c w : ValueId) → IsCopy f p c w → ⊥) → IfNone o ((q : PointId) (c w : ValueId) → item ≡ Inst q → IsCopy f q c w → ⊥)
  none_of None none = λ q c w other copy. none c w (at_point q c w other copy)
  none_of (Some x) none = tt

  pub own_of : (o : Option Copied) → IfSome o (λ x. IsCopy f p x.value x.operand)
      → IfSome o (λ x. (q : PointId) (c w : ValueId) → item ≡ Inst q → IsCopy f q c w → x.value ≡ c)
  own_of None h = tt
  own_of (Some x) h = λ q c w other copy. one_copy f p x.value c x.operand w h (at_point q c w other copy)

-- it stands at an item

standing : (f : Function) (p : PointId) (i : inst.Inst) (o : Option Block) → slice_get f.blocks p.block.0 ≡ o → inst_in o p.index ≡ Some i → IsSomeAnd o (λ block. p.index < length block.insts)
standing f p i None there e = absurd (let wrong : None ≡ Some i = e in cc)
standing f p i (Some block) there e = slice_get_within block.insts p.index i e

copy_item : (f : Function) (p : PointId) (c v : ValueId) → IsCopy f p c v → IsItem f (Inst p)
copy_item f p c v h = standing f p h.inst (slice_get f.blocks p.block.0) refl h.stands

-- one copy more

some_is : (o : Option ValueId) (w : ValueId) → o ≡ Some w → IsSome o
some_is o w e = ap is_some e

module _ (f : Function) (copied : List (Option ValueId)) where
  pub copies_more : (o : Option Copied) → IfSome o (λ x. (p : PointId) × IsCopy f p x.value x.operand) → AreCopies f copied → AreCopies f (with_copied o copied)
  copies_more None h are c w told = are c w told
  copies_more (Some x) h are c w told = at (cases_eq c.0 x.value.0) (cases_lt x.value.0 (length copied))
    where
      at : (c.0 ≡ x.value.0) ⊎ (c.0 ≢ x.value.0) → (x.value.0 < length copied) ⊎ (length copied ≤ x.value.0) → (p : PointId) × IsCopy f p c w
      at (inl same) (inl room) =
          let is : x.operand ≡ w =
          same_Some x.operand w (sym (get_or-set_same copied x.value.0 (Some x.operand) None room) ∙ ap (operand_in (set copied x.value.0 (Some x.operand))) (sym same) ∙ told) in
          (h.0, subst (λ v. IsCopy f h.0 v w) (sym (same_value c x.value same)) (subst (IsCopy f h.0 x.value) is h.1))
      at (inl same) (inr past) = are c w (ap (λ xs. operand_in xs c.0) (sym (set_past copied x.value.0 (Some x.operand) past)) ∙ told)
      at (inr other) room = are c w (sym (get_or-set_other copied x.value.0 c.0 (Some x.operand) None other) ∙ told)

  some_kept : (o : Option Copied) (n : ℕ) → IsSome (operand_in copied n) → IsSome (operand_in (with_copied o copied) n)
  some_kept None n is = is
  some_kept (Some x) n is = at (cases_eq n x.value.0) (cases_lt x.value.0 (length copied))
    where
      at : (n ≡ x.value.0) ⊎ (n ≢ x.value.0) → (x.value.0 < length copied) ⊎ (length copied ≤ x.value.0) → IsSome (operand_in (set copied x.value.0 (Some x.operand)) n)
      at (inl same) (inl room) =
          some_is (operand_in (set copied x.value.0 (Some x.operand)) n) x.operand
          (ap (operand_in (set copied x.value.0 (Some x.operand))) same ∙ get_or-set_same copied x.value.0 (Some x.operand) None room)
      at (inl same) (inr past) = subst (λ xs. IsSome (operand_in xs n)) (sym (set_past copied x.value.0 (Some x.operand) past)) is
      at (inr other) room = subst IsSome (sym (get_or-set_other copied x.value.0 n (Some x.operand) None other)) is

  pub size_kept : (o : Option Copied) → length (with_copied o copied) ≡ length copied
  size_kept None = refl
  size_kept (Some x) = length-set copied x.value.0 (Some x.operand)

-- the copies of the items before a number are told
abbrev pub AreTold : Layout → Function → ℕ → List (Option ValueId) → Type 0
AreTold g f n copied = (i : ℕ) (p : PointId) (c w : ValueId) → i < n → item_at g i ≡ Some (Inst p) → IsCopy f p c w → c.0 < length copied → IsSome (operand_in copied c.0)

module _ (g : Layout) (f : Function) (copied : List (Option ValueId)) where
  pub told_more : (n : ℕ) (item : Item) (o : Option Copied) → item_at g n ≡ Some item → IfNone o ((p : PointId) (c w : ValueId) → item ≡ Inst p → IsCopy f p c w → ⊥)
      → IfSome o (λ x. (p : PointId) (c w : ValueId) → item ≡ Inst p → IsCopy f p c w → x.value ≡ c) → AreTold g f n copied → AreTold g f (n + 1) (with_copied o copied)
  told_more n item o here none own told i p c w lt there copy room = at (cases_lt i n)
    where
      old_room : c.0 < length copied
      old_room = subst (λ k. c.0 < k) (size_kept f copied o) room

      own_told : (o : Option Copied) → IfNone o ((p : PointId) (c w : ValueId) → item ≡ Inst p → IsCopy f p c w → ⊥)
          → IfSome o (λ x. (p : PointId) (c w : ValueId) → item ≡ Inst p → IsCopy f p c w → x.value ≡ c) → item ≡ Inst p → IsSome (operand_in (with_copied o copied) c.0)
      own_told None none own is = absurd (none p c w is copy)
      own_told (Some x) none own is =
          let same : x.value ≡ c = own p c w is copy in
          subst (λ v. IsSome (operand_in (set copied x.value.0 (Some x.operand)) v.0)) same
          (some_is (operand_in (set copied x.value.0 (Some x.operand)) x.value.0) x.operand
          (get_or-set_same copied x.value.0 (Some x.operand) None (subst (λ v. v.0 < length copied) (sym same) old_room)))

      at : (i < n) ⊎ (n ≤ i) → IsSome (operand_in (with_copied o copied) c.0)
      at (inl before) = some_kept f copied o c.0 (told i p c w before there copy old_room)
      at (inr le) =
          let same : i ≡ n = omega arith in
          own_told o none own (same_Some item (Inst p) (sym here ∙ ap (item_at g) (sym same) ∙ there))

  pub all_told : (count : ℕ) → IsGraphOf g f → length copied ≡ count → (n : ℕ) → item_count g ≤ n → AreTold g f n copied
      → (p : PointId) (c w : ValueId) → IsCopy f p c w → c.0 < count → IsSome (operand_in copied c.0)
  all_told count is size n end told p c w copy lt =
      let number = item_numbered g f is (Inst p) (copy_item f p c w copy) in
      let below : number.0 < item_count g = slice_get_within g.kinds number.0 (Inst p) number.1 in
      told number.0 p c w (omega arith) number.1 copy (omega arith)
