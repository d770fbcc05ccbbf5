-- Trails of a function, turned round: without their newest item, and of which items they are.
use Rattle.std.proofs.Common.{◌≡◌, ℕ, zero, suc, ◌+◌, ◌<◌, List, [], ◌∷◌, ◌++◌, length, reverse, refl, sym, subst, arith, inl, inr, Bool, true, false, Option, Some, None, slice_get}
use Rattle.std.proofs.lemmas.List.{reverse-append}
use Rattle.std.proofs.lemmas.Option.{none-some, same_Some}
use Rattle.sil_ast.specs.declared.function.Block.{Block}
use Rattle.sil_ast.specs.declared.function.Function.{Function}
use Rattle.sil_ast.specs.declared.inst.Inst.{Inst}
use Rattle.sil_cfg.specs.Items.{IsItem, ends_function, exit_of, flow_of, insts_from, items_in, own_items, point_at}
use Rattle.sil_cfg.specs.Walk.{IsTrail}
use Rattle.sil_cfg.specs.declared.item.Item.{Item}
use Rattle.sil_cfg.specs.declared.item.Item.TheVariants as item
use Rattle.sil_cfg.specs.inner.Laying.{IsItemOf}
use Rattle.sil_cfg.proofs.Blocks.{item_of_block}
use Rattle.sil_cfg.proofs.Paths.{Moves, Path-from_trail, Path-split, Spot, Trail-front, entry, some_pushed}
use Rattle.sil_verifier_trails.specs.RunTrails.inner.RunTrails.{IsTurnedTrail}
use Rattle.sil_verifier_trails.specs.RunTrails.inner.Laws.{AreOfItems}

-- without its newest item it is one still
pub turned_older : (f : Function) (i : Item) (t : List Item) → IsTurnedTrail f (i ∷ t) → IsTurnedTrail f t
turned_older f i [] h = tt
turned_older f i (j ∷ t) h =
    Trail-front (flow_of f) h.0 (reverse t ++ j ∷ []) (i ∷ []) (some_pushed (reverse t) j)
    (subst (λ v. IsTrail (flow_of f) h.0 (v ++ i ∷ [])) (reverse-append (j ∷ []) t) h.1)

module _ (b : ℕ) (block : Block) where
  behind_entry : (j : ℕ) (insts : List Inst) (ends : Bool) (k : ℕ) (i : Item) → j + length insts ≡ length block.insts → ends_function block.terminator.op ≡ ends →
      slice_get (insts_from b j insts ++ exit_of (point_at b (length block.insts)) ends) k ≡ Some i → IsItemOf b block i
  behind_entry j [] true zero i size ends e = subst (IsItemOf b block) (same_Some _ i e) (refl, (refl, ends))
  behind_entry j [] true (suc k) i size ends e = absurd (none-some i e)
  behind_entry j [] false k i size ends e = absurd (none-some i e)
  behind_entry j (x ∷ insts) ends zero i size same e = let lt : j < length block.insts = omega arith in subst (IsItemOf b block) (same_Some _ i e) (refl, lt)
  behind_entry j (x ∷ insts) ends (suc k) i size same e = behind_entry (suc j) insts ends k i (omega arith) same e

own_item : (b : ℕ) (block : Block) (k : ℕ) (i : Item) → slice_get (own_items b block) k ≡ Some i → IsItemOf b block i
own_item zero block zero i e = subst (IsItemOf 0 block) (same_Some item.Entry i e) refl
own_item zero block (suc k) i e = behind_entry 0 block 0 block.insts (ends_function block.terminator.op) k i (omega arith) refl e
own_item (suc b) block k i e = behind_entry (suc b) block 0 block.insts (ends_function block.terminator.op) k i (omega arith) refl e

module _ (f : Function) where
  block_item : (b : ℕ) (o : Option Block) → slice_get f.blocks b ≡ o → (k : ℕ) (i : Item) → slice_get (items_in b o) k ≡ Some i → IsItem f i
  block_item b None there k i e = absurd (none-some i e)
  block_item b (Some block) there k i e = item_of_block f b block there i (own_item b block k i e)

  moved_item : (p q : Spot) (i : Item) → Moves (flow_of f) p i q → IsItem f i
  moved_item p q i (inl s) = block_item p.block (slice_get f.blocks p.block) refl p.done i s.next
  moved_item p q i (inr l) = subst (IsItem f) (sym l.next) l.is_edge

  pub turned_item : (i : Item) (t : List Item) → IsTurnedTrail f (i ∷ t) → IsItem f i
  turned_item i t h =
      let path = Path-from_trail (flow_of f) h.0 (reverse t ++ i ∷ []) h.1 in
      let last = Path-split (flow_of f) (reverse t) (i ∷ []) entry path.0 path.1 in
      moved_item last.0 last.2.0 i last.2.1

pub are_of_items : AreOfItems
are_of_items f [] h = tt
are_of_items f (i ∷ t) h = (turned_item f i t h, are_of_items f t (turned_older f i t h))
