-- An item that is no edge has one place among a block's items.
use Rattle.std.proofs.Common.{◌≡◌, ℕ, zero, suc, ◌+◌, List, [], ◌∷◌, ◌++◌, length, refl, sym, ap, ◌∙◌, subst, Bool, true, false, Some, None, Option, arith}
use Rattle.std.specs.Prelude.{◌==◌, ◌&&◌}
use Rattle.std.specs.List.{slice_get}
use Rattle.std.proofs.lemmas.Bool.{eqb-true}
use Rattle.std.proofs.lemmas.Option.{none-some, same_Some}
use Rattle.sil_ast.specs.declared.place.EdgeId.{EdgeId}
use Rattle.sil_ast.specs.declared.place.PointId.{PointId}
use Rattle.sil_ast.specs.declared.inst.Inst as inst
use Rattle.sil_ast.specs.declared.function.Function.{Function}
use Rattle.sil_ast.specs.declared.function.Block.{Block}
use Rattle.sil_cfg.specs.declared.item.Item.{Item}
use Rattle.sil_cfg.specs.declared.item.Item.TheVariants.{Entry, Inst, Edge, Exit}
use Rattle.sil_cfg.specs.Flow.{Flow, items_at, edge_item}
use Rattle.sil_cfg.specs.Items.{flow_of, items_in, own_items, insts_from, exit_of, point_at, ends_function}
use Rattle.sil_cfg.specs.inner.Splice.{same_item}

-- in the entry block the entry item is first
abbrev place_in : ℕ → ℕ → ℕ × ℕ
place_in zero k = (0, suc k)
place_in (suc b) k = (suc b, k)

-- the block and the place among its items
abbrev pub place_of : Item → Option (ℕ × ℕ)
place_of Entry = Some (0, 0)
place_of (Inst p) = Some (place_in p.block.0 p.index)
place_of (Edge e) = None
place_of (Exit p) = Some (place_in p.block.0 p.index)

pub record IsPlaced (g : Flow Item) : Type 0 where
  pub place : (b k : ℕ) (i : Item) → slice_get (items_at g b) k ≡ Some i → place_of i ≡ Some (b, k)
  pub edge : (e : EdgeId) → edge_item g e ≡ Edge e

-- the instructions and the exit item stand at their indices
place_behind : (b j : ℕ) (insts : List inst.Inst) (ends : Bool) (k : ℕ) (i : Item) → slice_get (insts_from b j insts ++ exit_of (point_at b (j + length insts)) ends) k ≡ Some i
    → place_of i ≡ Some (place_in b (j + k))
place_behind b j [] true zero i h = subst (λ v. place_of v ≡ Some (place_in b (j + 0))) (same_Some _ i h) refl
place_behind b j [] true (suc k) i h = absurd (none-some i h)
place_behind b j [] false k i h = absurd (none-some i h)
place_behind b j (x ∷ insts) ends zero i h = let e : j ≡ j + 0 = omega arith in subst (λ v. place_of v ≡ Some (place_in b (j + 0))) (same_Some _ i h) (ap (λ n. Some (place_in b n)) e)
place_behind b j (x ∷ insts) ends (suc k) i h =
    let e : j + length (x ∷ insts) ≡ suc j + length insts = omega arith in
    let d : suc j + k ≡ j + suc k = omega arith in
    place_behind b (suc j) insts ends k i (ap (λ n. slice_get (insts_from b (suc j) insts ++ exit_of (point_at b n) ends) k) (sym e) ∙ h) ∙ ap (λ n. Some (place_in b n)) d

place_own : (b : ℕ) (block : Block) (k : ℕ) (i : Item) → slice_get (own_items b block) k ≡ Some i → place_of i ≡ Some (b, k)
place_own zero block zero i h = subst (λ v. place_of v ≡ Some (0, 0)) (same_Some Entry i h) refl
place_own zero block (suc k) i h =
    let e : 0 + length block.insts ≡ length block.insts = omega arith in
    let d : 0 + k ≡ k = omega arith in
    place_behind 0 0 block.insts (ends_function block.terminator.op) k i (ap (λ n. slice_get (insts_from 0 0 block.insts ++ exit_of (point_at 0 n) (ends_function block.terminator.op)) k) e ∙ h)
    ∙ ap (λ n. Some (place_in 0 n)) d
place_own (suc b) block k i h =
    let e : 0 + length block.insts ≡ length block.insts = omega arith in
    let d : 0 + k ≡ k = omega arith in
    place_behind (suc b) 0 block.insts (ends_function block.terminator.op) k i
    (ap (λ n. slice_get (insts_from (suc b) 0 block.insts ++ exit_of (point_at (suc b) n) (ends_function block.terminator.op)) k) e ∙ h) ∙ ap (λ n. Some (place_in (suc b) n)) d

place_at : (b : ℕ) (o : Option Block) (k : ℕ) (i : Item) → slice_get (items_in b o) k ≡ Some i → place_of i ≡ Some (b, k)
place_at b None k i h = absurd (none-some i h)
place_at b (Some block) k i h = place_own b block k i h

pub flow_placed : (f : Function) → IsPlaced (flow_of f)
flow_placed f = record { place = λ b k i h. place_at b (slice_get f.blocks b) k i h; edge = λ e. refl }

both : (a b : Bool) → (a && b) ≡ true → (a ≡ true) × (b ≡ true)
both true b h = (refl, h)
both false b h = cc

same_point : (p q : PointId) → ((p.block.0 == q.block.0) && (p.index == q.index)) ≡ true → p ≡ q
same_point p q h =
    let parts = both (p.block.0 == q.block.0) (p.index == q.index) h in
    let block = eqb-true p.block.0 q.block.0 parts.0 in
    let index = eqb-true p.index q.index parts.1 in
    λ t. record { block = record { 0 = block t }; index = index t }

same_id : (d e : EdgeId) → ((d.block.0 == e.block.0) && (d.index == e.index)) ≡ true → d ≡ e
same_id d e h =
    let parts = both (d.block.0 == e.block.0) (d.index == e.index) h in
    let block = eqb-true d.block.0 e.block.0 parts.0 in
    let index = eqb-true d.index e.index parts.1 in
    λ t. record { block = record { 0 = block t }; index = index t }

-- items that are told to be one are one
pub same_item-true : (i j : Item) → same_item i j ≡ true → i ≡ j
same_item-true Entry Entry h = refl
same_item-true Entry (Inst q) h = cc
same_item-true Entry (Edge d) h = cc
same_item-true Entry (Exit q) h = cc
same_item-true (Inst p) Entry h = cc
same_item-true (Inst p) (Inst q) h = ap Inst (same_point p q h)
same_item-true (Inst p) (Edge d) h = cc
same_item-true (Inst p) (Exit q) h = cc
same_item-true (Edge e) Entry h = cc
same_item-true (Edge e) (Inst q) h = cc
same_item-true (Edge e) (Edge d) h = ap Edge (same_id e d h)
same_item-true (Edge e) (Exit q) h = cc
same_item-true (Exit p) Entry h = cc
same_item-true (Exit p) (Inst q) h = cc
same_item-true (Exit p) (Edge d) h = cc
same_item-true (Exit p) (Exit q) h = ap Exit (same_point p q h)
