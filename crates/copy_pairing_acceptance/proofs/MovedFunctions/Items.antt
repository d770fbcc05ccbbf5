-- The items of blocks, in order: without the gone destroy those of the block of the copy, and the same in each other block. Walks are the same.
use Rattle.std.proofs.Common.{◌≡◌, ◌≢◌, ℕ, zero, suc, ◌+◌, ◌<◌, ◌≤◌, List, [], ◌∷◌, ◌++◌, length, refl}
use Rattle.std.proofs.Common.{sym, ap, ap₂, ◌∙◌, subst, append_assoc, Bool, true, false, Option, Some, None, arith, length-append}
use Rattle.std.specs.Prelude.{unwrap_or}
use Rattle.std.specs.List.{flat_map, slice_get}
use Rattle.std.proofs.lemmas.Grind.{flat_map-append}
use Rattle.sil_ast.specs.declared.function.Block.{Block}
use Rattle.sil_ast.specs.declared.function.Function.{Function}
use Rattle.sil_ast.specs.declared.inst.Inst.{Inst}
use Rattle.sil_ast.specs.declared.place.EdgeId.{EdgeId}
use Rattle.sil_ast.specs.declared.place.PointId.{PointId}
use Rattle.sil_ast.specs.declared.place.ValueId.{ValueId}
use Rattle.sil_cfg.specs.Flow.{IsEdge, edge_to, items_at}
use Rattle.sil_cfg.specs.Items.{ends_function, entry_of, exit_of, flow_of, insts_from, items_in, own_items, point_at, targets_in}
use Rattle.sil_cfg.specs.Walk.{IsWalkFrom, end_from}
use Rattle.sil_cfg.specs.declared.item.Item.{Item}
use Rattle.sil_cfg.specs.declared.item.Item.TheVariants as item
use Rattle.copy_pairing_acceptance.specs.MovedFunctions.inner.Structure.{old_item}
use Rattle.copy_pairing_acceptance.proofs.MovedFunctions.Lists.{stood_before, stood_behind}
use Rattle.copy_pairing_acceptance.proofs.MovedFunctions.Split.{IsSplit, insts_moved, move_of, moved_insts}
use Rattle.copy_pairing_acceptance.proofs.MovedFunctions.Places.{after, block_elsewhere, block_there, new_block, old_elsewhere, old_here, told_of_block}

insts_append : (b k j : ℕ) (xs ys : List Inst) → k + length xs ≡ j → insts_from b k (xs ++ ys) ≡ insts_from b k xs ++ insts_from b j ys
insts_append b k j [] ys e = ap (λ n. insts_from b n ys) (let same : k ≡ j = omega arith in same)
insts_append b k j (x ∷ xs) ys e = ap (λ v. item.Inst (point_at b k) ∷ v) (insts_append b (suc k) j xs ys (omega arith))

regroup : {X : Type 0} (e front middle back exit : List X) (x y : X) → e ++ ((front ++ x ∷ (middle ++ y ∷ back)) ++ exit) ≡ (e ++ front) ++ x ∷ (middle ++ y ∷ (back ++ exit))
regroup e front middle back exit x y =
    ap (λ v. e ++ v) (append_assoc front (x ∷ (middle ++ y ∷ back)) exit ∙ ap (λ v. front ++ x ∷ v) (append_assoc middle (y ∷ back) exit))
    ∙ sym (append_assoc e front (x ∷ (middle ++ y ∷ (back ++ exit))))

regroup_short : {X : Type 0} (e front middle back exit : List X) (x : X) → e ++ ((front ++ x ∷ (middle ++ back)) ++ exit) ≡ (e ++ front) ++ x ∷ (middle ++ (back ++ exit))
regroup_short e front middle back exit x =
    ap (λ v. e ++ v) (append_assoc front (x ∷ (middle ++ back)) exit ∙ ap (λ v. front ++ x ∷ v) (append_assoc middle back exit))
    ∙ sym (append_assoc e front (x ∷ (middle ++ (back ++ exit))))

module _ {f : Function} {p : PointId} {last : ℕ} {c v : ValueId} (s : IsSplit f p last c v) where
  -- the items of the copy's block before the copy, between it and the destroy, and behind, as they were and are
  abbrev pub head : List Item
  head = entry_of p.block.0 ++ insts_from p.block.0 0 s.front

  abbrev pub inside : List Item
  inside = insts_from p.block.0 (suc p.index) s.middle

  abbrev pub gone : Item
  gone = item.Inst (point_at p.block.0 last)

  abbrev pub exit_at : ℕ → List Item
  exit_at n = exit_of (point_at p.block.0 n) (ends_function s.block.terminator.op)

  abbrev pub old_tail : List Item
  old_tail = insts_from p.block.0 (suc last) s.back ++ exit_at (length s.block.insts)

  abbrev pub new_tail : List Item
  new_tail = insts_from p.block.0 last s.back ++ exit_at (length (new_block s).insts)

  pub old_items : items_at (flow_of f) p.block.0 ≡ head ++ item.Inst p ∷ (inside ++ gone ∷ old_tail)
  old_items =
      ap (items_in p.block.0) s.there
      ∙ ap (λ xs. entry_of p.block.0 ++ (insts_from p.block.0 0 xs ++ exit_at (length s.block.insts))) s.insts
      ∙ ap (λ xs. entry_of p.block.0 ++ (xs ++ exit_at (length s.block.insts))) insts
      ∙ regroup (entry_of p.block.0) (insts_from p.block.0 0 s.front) inside (insts_from p.block.0 (suc last) s.back) (exit_at (length s.block.insts)) (item.Inst p) gone
    where
      insts : insts_from p.block.0 0 (s.front ++ s.copy ∷ (s.middle ++ s.destroy ∷ s.back))
          ≡ insts_from p.block.0 0 s.front ++ item.Inst p ∷ (inside ++ gone ∷ insts_from p.block.0 (suc last) s.back)
      insts =
          let first : length s.front ≡ p.index = s.at_copy in
          let second : length s.front + suc (length s.middle) ≡ last = s.at_destroy in
          insts_append p.block.0 0 p.index s.front (s.copy ∷ (s.middle ++ s.destroy ∷ s.back)) (omega arith)
          ∙ ap (λ xs. insts_from p.block.0 0 s.front ++ item.Inst p ∷ xs) (insts_append p.block.0 (suc p.index) last s.middle (s.destroy ∷ s.back) (omega arith))

  pub new_items : items_at (flow_of (after s)) p.block.0 ≡ head ++ item.Inst p ∷ (inside ++ new_tail)
  new_items =
      ap (items_in p.block.0) (block_there s)
      ∙ ap (λ xs. entry_of p.block.0 ++ (insts_from p.block.0 0 xs ++ exit_at (length (new_block s).insts))) (insts_moved s)
      ∙ ap (λ xs. entry_of p.block.0 ++ (xs ++ exit_at (length (new_block s).insts))) insts
      ∙ regroup_short (entry_of p.block.0) (insts_from p.block.0 0 s.front) inside (insts_from p.block.0 last s.back) (exit_at (length (new_block s).insts)) (item.Inst p)
    where
      insts : insts_from p.block.0 0 (moved_insts s) ≡ insts_from p.block.0 0 s.front ++ item.Inst p ∷ (inside ++ insts_from p.block.0 last s.back)
      insts =
          let first : length s.front ≡ p.index = s.at_copy in
          let second : length s.front + suc (length s.middle) ≡ last = s.at_destroy in
          insts_append p.block.0 0 p.index s.front (move_of s.copy ∷ (s.middle ++ s.back)) (omega arith)
          ∙ ap (λ xs. insts_from p.block.0 0 s.front ++ item.Inst p ∷ xs) (insts_append p.block.0 (suc p.index) last s.middle s.back (omega arith))

  pub items_elsewhere : (n : ℕ) → n ≢ p.block.0 → items_at (flow_of (after s)) n ≡ items_at (flow_of f) n
  items_elsewhere n ne = ap (items_in n) (block_elsewhere s n ne)

  pub size_before : suc (length (new_block s).insts) ≡ length s.block.insts
  size_before =
      let first : length s.front + suc (length s.middle) ≡ last = s.at_destroy in
      let old : length s.block.insts ≡ length s.front + suc (length (s.middle ++ s.destroy ∷ s.back)) = ap length s.insts ∙ length-append s.front (s.copy ∷ (s.middle ++ s.destroy ∷ s.back)) in
      let more : length (s.middle ++ s.destroy ∷ s.back) ≡ length s.middle + suc (length s.back) = length-append s.middle (s.destroy ∷ s.back) in
      let new : length (new_block s).insts ≡ length s.front + suc (length (s.middle ++ s.back)) = ap length (insts_moved s) ∙ length-append s.front (move_of s.copy ∷ (s.middle ++ s.back)) in
      let rest : length (s.middle ++ s.back) ≡ length s.middle + length s.back = length-append s.middle s.back in
      omega arith

  pub size_behind : last ≤ length (new_block s).insts
  size_behind =
      let first : length s.front + suc (length s.middle) ≡ last = s.at_destroy in
      let new : length (new_block s).insts ≡ length s.front + suc (length (s.middle ++ s.back)) = ap length (insts_moved s) ∙ length-append s.front (move_of s.copy ∷ (s.middle ++ s.back)) in
      let rest : length (s.middle ++ s.back) ≡ length s.middle + length s.back = length-append s.middle s.back in
      omega arith

  -- ---- walks

  pub same_targets : (n : ℕ) → (flow_of (after s)).targets n ≡ (flow_of f).targets n
  same_targets n = told_of_block s targets_in refl n

  pub same_edge_to : (e : EdgeId) → edge_to (flow_of (after s)) e ≡ edge_to (flow_of f) e
  same_edge_to e = ap (λ ts. unwrap_or (slice_get ts e.index) 0) (same_targets e.block.0)

  pub old_edge : (e : EdgeId) → IsEdge (flow_of (after s)) e → IsEdge (flow_of f) e
  old_edge e h = subst (λ (ts : List ℕ). e.index < length ts) (same_targets e.block.0) h

  pub old_walk : (b : ℕ) (w : List EdgeId) → IsWalkFrom (flow_of (after s)) b w → IsWalkFrom (flow_of f) b w
  old_walk b [] h = tt
  old_walk b (e ∷ w) h = (h.0, old_edge e h.1, old_walk (edge_to (flow_of f) e) w (subst (λ n. IsWalkFrom (flow_of (after s)) n w) (same_edge_to e) h.2))

  pub same_end : (b : ℕ) (w : List EdgeId) → end_from (flow_of (after s)) b w ≡ end_from (flow_of f) b w
  same_end b [] = refl
  same_end b (e ∷ w) = ap (λ n. end_from (flow_of (after s)) n w) (same_edge_to e) ∙ same_end (edge_to (flow_of f) e) w

  -- ---- what items have, where each but the move has what the old one had

  module _ {M : Type 0} (old new : Item → List M) (same : (i : Item) → i ≢ item.Inst p → new i ≡ old (old_item p last i)) where
    along : (b shift : ℕ) (xs : List Inst) (k k' : ℕ) → k' ≡ shift + k
        → ((j j' : ℕ) → k ≤ j → j < k + length xs → j' ≡ shift + j → new (item.Inst (point_at b j)) ≡ old (item.Inst (point_at b j')))
        → flat_map new (insts_from b k xs) ≡ flat_map old (insts_from b k' xs)
    along b shift [] k k' e h = refl
    along b shift (x ∷ xs) k k' e h =
        ap₂ (λ u w. u ++ w) (h k k' (omega arith) (omega arith) e)
        (along b shift xs (suc k) (suc k') (omega arith) (λ j j' le lt is. h j j' (omega arith) (omega arith) is))

    apart : (q : PointId) → q.index ≢ p.index → item.Inst q ≢ item.Inst p
    apart q ne e = ne (ap index e)
      where
        index : Item → ℕ
        index item.Entry = 0
        index (item.Inst x) = x.index
        index (item.Edge x) = 0
        index (item.Exit x) = 0

    away : (q : PointId) → q.block.0 ≢ p.block.0 → item.Inst q ≢ item.Inst p
    away q ne e = ne (ap block e)
      where
        block : Item → ℕ
        block item.Entry = p.block.0
        block (item.Inst x) = x.block.0
        block (item.Edge x) = 0
        block (item.Exit x) = 0

    no_inst : (q : PointId) → item.Exit q ≢ item.Inst p
    no_inst q e = cc

    at_entry : (b : ℕ) → flat_map new (entry_of b) ≡ flat_map old (entry_of b)
    at_entry zero = ap (λ u. u ++ []) (same item.Entry (λ e. cc))
    at_entry (suc b) = refl

    stayed : (j j' : ℕ) → j ≢ p.index → j < last → j' ≡ 0 + j → new (item.Inst (point_at p.block.0 j)) ≡ old (item.Inst (point_at p.block.0 j'))
    stayed j j' ne lt is =
        same (item.Inst (point_at p.block.0 j)) (apart (point_at p.block.0 j) ne)
        ∙ ap (λ q. old (item.Inst q)) (old_here s (point_at p.block.0 j) refl)
        ∙ ap (λ k. old (item.Inst (point_at p.block.0 k))) (stood_before last j lt ∙ (let e : j ≡ j' = omega arith in e))

    moved_on : (j j' : ℕ) → last ≤ j → j' ≡ 1 + j → new (item.Inst (point_at p.block.0 j)) ≡ old (item.Inst (point_at p.block.0 j'))
    moved_on j j' le is =
        let first : length s.front ≡ p.index = s.at_copy in
        let second : length s.front + suc (length s.middle) ≡ last = s.at_destroy in
        same (item.Inst (point_at p.block.0 j)) (apart (point_at p.block.0 j) (λ e. let no : ⊥ = omega arith in no))
        ∙ ap (λ q. old (item.Inst q)) (old_here s (point_at p.block.0 j) refl)
        ∙ ap (λ k. old (item.Inst (point_at p.block.0 k))) (stood_behind last j le ∙ (let e : suc j ≡ j' = omega arith in e))

    pub head_alike : flat_map new head ≡ flat_map old head
    head_alike =
        let first : length s.front ≡ p.index = s.at_copy in
        let second : length s.front + suc (length s.middle) ≡ last = s.at_destroy in
        flat_map-append new (entry_of p.block.0) (insts_from p.block.0 0 s.front)
        ∙ ap₂ (λ u w. u ++ w) (at_entry p.block.0)
        (along p.block.0 0 s.front 0 0 refl (λ j j' le lt is. stayed j j' (λ e. let no : ⊥ = omega arith in no) (omega arith) is))
        ∙ sym (flat_map-append old (entry_of p.block.0) (insts_from p.block.0 0 s.front))

    pub inside_alike : flat_map new inside ≡ flat_map old inside
    inside_alike =
        let first : length s.front ≡ p.index = s.at_copy in
        let second : length s.front + suc (length s.middle) ≡ last = s.at_destroy in
        along p.block.0 0 s.middle (suc p.index) (suc p.index) (omega arith) (λ j j' le lt is. stayed j j' (λ e. let no : ⊥ = omega arith in no) (omega arith) is)

    exit_alike : (ends : Bool) → flat_map new (exit_of (point_at p.block.0 (length (new_block s).insts)) ends) ≡ flat_map old (exit_of (point_at p.block.0 (length s.block.insts)) ends)
    exit_alike false = refl
    exit_alike true =
        let q : PointId = point_at p.block.0 (length (new_block s).insts) in
        ap (λ u. u ++ []) (same (item.Exit q) (no_inst q)
        ∙ ap (λ x. old (item.Exit x)) (old_here s q refl)
        ∙ ap (λ k. old (item.Exit (point_at p.block.0 k))) (stood_behind last (length (new_block s).insts) size_behind ∙ size_before))

    pub tail_alike : flat_map new new_tail ≡ flat_map old old_tail
    tail_alike =
        flat_map-append new (insts_from p.block.0 last s.back) (exit_at (length (new_block s).insts))
        ∙ ap₂ (λ u w. u ++ w) (along p.block.0 1 s.back last (suc last) (omega arith) (λ j j' le lt is. moved_on j j' le is)) (exit_alike (ends_function s.block.terminator.op))
        ∙ sym (flat_map-append old (insts_from p.block.0 (suc last) s.back) (exit_at (length s.block.insts)))

    exit_elsewhere : (q : PointId) → q.block.0 ≢ p.block.0 → (ends : Bool) → flat_map new (exit_of q ends) ≡ flat_map old (exit_of q ends)
    exit_elsewhere q ne false = refl
    exit_elsewhere q ne true = ap (λ u. u ++ []) (same (item.Exit q) (no_inst q) ∙ ap (λ x. old (item.Exit x)) (old_elsewhere s q ne))

    own_alike : (n : ℕ) (b : Block) → n ≢ p.block.0 → flat_map new (own_items n b) ≡ flat_map old (own_items n b)
    own_alike n b ne =
        let exit = exit_of (point_at n (length b.insts)) (ends_function b.terminator.op) in
        flat_map-append new (entry_of n) (insts_from n 0 b.insts ++ exit)
        ∙ ap₂ (λ u w. u ++ w) (at_entry n)
        (flat_map-append new (insts_from n 0 b.insts) exit
        ∙ ap₂ (λ u w. u ++ w) (along n 0 b.insts 0 0 refl (λ j j' le lt is. there j j' is)) (exit_elsewhere (point_at n (length b.insts)) ne (ends_function b.terminator.op))
        ∙ sym (flat_map-append old (insts_from n 0 b.insts) exit))
        ∙ sym (flat_map-append old (entry_of n) (insts_from n 0 b.insts ++ exit))
      where
        there : (j j' : ℕ) → j' ≡ 0 + j → new (item.Inst (point_at n j)) ≡ old (item.Inst (point_at n j'))
        there j j' is =
            same (item.Inst (point_at n j)) (away (point_at n j) ne) ∙ ap (λ x. old (item.Inst x)) (old_elsewhere s (point_at n j) ne)
            ∙ ap (λ k. old (item.Inst (point_at n k))) (let e : j ≡ j' = omega arith in e)

    pub elsewhere_alike : (n : ℕ) → n ≢ p.block.0 → flat_map new (items_at (flow_of (after s)) n) ≡ flat_map old (items_at (flow_of f) n)
    elsewhere_alike n ne = ap (flat_map new) (items_elsewhere n ne) ∙ at (slice_get f.blocks n)
      where
        at : (o : Option Block) → flat_map new (items_in n o) ≡ flat_map old (items_in n o)
        at None = refl
        at (Some b) = own_alike n b ne

    pub edge_alike : (e : EdgeId) → new (item.Edge e) ≡ old (item.Edge e)
    edge_alike e = same (item.Edge e) (λ x. cc)
