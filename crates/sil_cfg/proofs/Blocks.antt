-- Blocks that are laid out one after another are the function's.
use Rattle.std.proofs.Common.{◌≡◌, ◌≢◌, ℕ, zero, suc, ◌+◌, ◌<◌, ◌≤◌, ◌^◌, List, [], ◌∷◌, ◌++◌, length, get_or, map, refl, sym, ap, ◌∙◌, subst, inl, inr, ◌⊎◌, Option, Some, None, All, arith}
use Rattle.std.specs.Prelude.{IsSomeAnd, unwrap_or, option_map}
use Rattle.std.specs.List.{slice_get}
use Rattle.std.proofs.lemmas.Bool.{cases_eq, cases_lt}
use Rattle.std.proofs.lemmas.List.{length-map, length-append}
use Rattle.std.proofs.lemmas.List.Elements.{All-append, All-weaker, All-map}
use Rattle.std.proofs.lemmas.Option.{slice_get-get_or, slice_get_within, slice_get_past, get_or_from_slice_get, slice_get-map, same_Some}
use Rattle.sil_ast.specs.declared.place.EdgeId.{EdgeId}
use Rattle.sil_ast.specs.declared.inst.Edge as edge
use Rattle.sil_ast.specs.declared.function.Function.{Function}
use Rattle.sil_ast.specs.declared.function.Block.{Block}
use Rattle.sil_cfg.specs.declared.item.Item.{Item}
use Rattle.sil_cfg.specs.declared.item.Item.TheVariants.{Entry, Inst, Edge, Exit}
use Rattle.sil_cfg.specs.declared.layout.EdgeFlow.{EdgeFlow}
use Rattle.sil_cfg.specs.Layout.{BlockLayout, no_block, no_edge, IsEdgeSound, IsBlockSound, IsSound}
use Rattle.sil_cfg.specs.Items.{items_in, targets_in, last_in, IsItem, IsExit}
use Rattle.sil_cfg.specs.inner.Build.{AreItems, HasGraph, IsBlockLinked, IsGraphOf}
use Rattle.sil_cfg.specs.Flow.{edge_id}
use Rattle.sil_cfg.specs.inner.Laying.{IsItemOf, IsLaid, LaysBlock, IsLaidAt, AreLaid}
use Rattle.sil_cfg.proofs.Gets.{kept_get, last_get}
use Rattle.sil_cfg.proofs.Numbers.{AreItems-more}

pub all_from_gets : {A : Type 0} (P : A → Type 0) (xs : List A) → ((k : ℕ) (x : A) → slice_get xs k ≡ Some x → P x) → All P xs
all_from_gets P xs h = λ k d lt. h k (get_or xs k d) (slice_get-get_or xs k d lt)

pub all_get : {A : Type 0} (P : A → Type 0) (xs : List A) (k : ℕ) (x : A) → All P xs → slice_get xs k ≡ Some x → P x
all_get P xs k x h e = subst P (get_or_from_slice_get xs k x x e) (h k x (slice_get_within xs k x e))

-- an item of one block is an item of the function
pub item_of_block : (f : Function) (b : ℕ) (block : Block) → slice_get f.blocks b ≡ Some block → (item : Item) → IsItemOf b block item → IsItem f item
item_of_block f b block e Entry h = let within : b < length f.blocks = slice_get_within f.blocks b block e in omega arith
item_of_block f b block e (Inst p) h =
    let P : Option Block → Type 0 = λ o. IsSomeAnd o (λ x. p.index < length x.insts) in
    subst P (sym (ap (slice_get f.blocks) h.0 ∙ e)) h.1
item_of_block f b block e (Edge d) h =
    let P : Option Block → Type 0 = λ o. d.index < length (targets_in o) in
    let same : length (targets_in (Some block)) ≡ length block.terminator.edges = simp length-map in
    subst P (sym (ap (slice_get f.blocks) h.0 ∙ e)) (subst (λ n. d.index < n) (sym same) h.1)
item_of_block f b block e (Exit p) h =
    let P : Option Block → Type 0 = λ o. IsSomeAnd o (IsExit p) in
    subst P (sym (ap (slice_get f.blocks) h.0 ∙ e)) h.1

IsLaid-more : (kinds more : List Item) (b : ℕ) (block : Block) (x : BlockLayout) → IsLaid kinds b block x → IsLaid (kinds ++ more) b block x
IsLaid-more kinds more b block x h = record {
  items = AreItems-more kinds more x.items _ h.items;
  edges = record { targets = h.edges.targets; items = λ j y e. kept_get kinds more y.item (Edge (edge_id b j)) (h.edges.items j y e) };
  last = h.last;
}

-- one block more
pub laid_more : (f : Function) (kinds new : List Item) (blocks : List BlockLayout) (n : ℕ) (block : Block) (x : BlockLayout) → AreLaid f kinds blocks n → slice_get f.blocks n ≡ Some block →
    LaysBlock n block kinds new x → AreLaid f new (blocks ++ x ∷ []) (n + 1)
laid_more f kinds new blocks n block x h there lays = record {
  size = let s : length blocks ≡ n = h.size in omega (arith, length-append blocks (x ∷ []));
  blocks_laid = λ b other lt e. at b other lt e (cases_eq b n);
  known = let all = All-append (IsItem f) kinds lays.adds.more h.known (All-weaker (IsItemOf n block) (IsItem f) (item_of_block f n block there) lays.adds.more lays.adds.known) in
      subst (λ (v : List Item). All (IsItem f) v) (sym lays.adds.kinds) all;
}
  where
    at : (b : ℕ) (other : Block) → b < n + 1 → slice_get f.blocks b ≡ Some other → (b ≡ n) ⊎ (b ≢ n) → IsLaidAt f new (blocks ++ x ∷ []) b other
    at b other lt e (inl same) =
        let block_same : block ≡ other = same_Some block other (sym there ∙ ap (slice_get f.blocks) (sym same) ∙ e) in
        let P : ℕ → Type 0 = λ m. IsLaid new m other x in
        let Q : Block → Type 0 = λ y. IsLaid new n y x in
        record {
          layout = x;
          there = ap (slice_get (blocks ++ x ∷ [])) (same ∙ sym h.size) ∙ last_get blocks x;
          laid = subst P (sym same) (subst Q block_same lays.laid);
        }
    at b other lt e (inr ne) =
        let old = h.blocks_laid b other (omega arith) e in
        let P : List Item → Type 0 = λ v. IsLaid v b other old.layout in
        record { layout = old.layout; there = kept_get blocks (x ∷ []) b old.layout old.there; laid = subst P (sym lays.adds.kinds) (IsLaid-more kinds lays.adds.more b other old.layout old.laid) }

-- a block of the function is laid out, or there is none with that number in the function and in the graph
abbrev LaidOrNone : Function → List Item → List BlockLayout → ℕ → Type 0
LaidOrNone f kinds blocks b = ((slice_get f.blocks b ≡ None) × (slice_get blocks b ≡ None)) ⊎ ((block : Block) × (slice_get f.blocks b ≡ Some block) × IsLaidAt f kinds blocks b block)

laid_or_none : (f : Function) (kinds : List Item) (blocks : List BlockLayout) (n : ℕ) → AreLaid f kinds blocks n → n ≡ length f.blocks → (b : ℕ) → LaidOrNone f kinds blocks b
laid_or_none f kinds blocks n h all b = at (slice_get f.blocks b) refl
  where
    at : (o : Option Block) → slice_get f.blocks b ≡ o → LaidOrNone f kinds blocks b
    at None e = inl (e, slice_get_past blocks b (past (cases_lt b (length f.blocks))))
      where
        past : (b < length f.blocks) ⊎ (length f.blocks ≤ b) → length blocks ≤ b
        past (inr le) = let s : length blocks ≡ n = h.size in omega arith
        past (inl lt) = absurd (within f.blocks b lt e)
          where
            within : (xs : List Block) (k : ℕ) → k < length xs → slice_get xs k ≡ None → ⊥
            within [] k l q = absurd (omega arith)
            within (x ∷ xs) zero l q = cc
            within (x ∷ xs) (suc k) l q = within xs k (omega arith) q
    at (Some block) e = let w : b < length f.blocks = slice_get_within f.blocks b block e in inr (block, e, h.blocks_laid b block (omega arith) e)

AreItems-below : (kinds : List Item) (numbers : List ℕ) (items : List Item) → AreItems kinds numbers items → (k i : ℕ) → slice_get numbers k ≡ Some i → i < length kinds
AreItems-below kinds [] items h k i e = cc
AreItems-below kinds (j ∷ numbers) [] h k i e = absurd h
AreItems-below kinds (j ∷ numbers) (x ∷ items) h zero i e = subst (λ m. m < length kinds) (same_Some j i e) (slice_get_within kinds j x h.0)
AreItems-below kinds (j ∷ numbers) (x ∷ items) h (suc k) i e = AreItems-below kinds numbers items h.1 k i e

-- when all blocks are laid out, the graph is the function's
pub laid_graph : (f : Function) (kinds : List Item) (blocks : List BlockLayout) (n : ℕ) → AreLaid f kinds blocks n → n ≡ length f.blocks → IsGraphOf (record { blocks = blocks; kinds = kinds }) f
laid_graph f kinds blocks n h all = record {
  blocks = h.size ∙ all;
  items = λ b. items_at_block b (laid_or_none f kinds blocks n h all b);
  targets = λ b. targets_at b (laid_or_none f kinds blocks n h all b);
  last = λ b. last_at b (laid_or_none f kinds blocks n h all b);
  edges = λ e is. edge_at e is (laid_or_none f kinds blocks n h all e.block.0);
  known = λ i item e. all_get (IsItem f) kinds i item h.known e;
}
  where
    items_at_block : (b : ℕ) → LaidOrNone f kinds blocks b → AreItems kinds (unwrap_or (slice_get blocks b) no_block).items (items_in b (slice_get f.blocks b))
    items_at_block b (inl e) =
        let P : Option BlockLayout → Type 0 = λ o. AreItems kinds (unwrap_or o no_block).items (items_in b (slice_get f.blocks b)) in
        let Q : Option Block → Type 0 = λ o. AreItems kinds [] (items_in b o) in
        subst P (sym e.1) (subst Q (sym e.0) tt)
    items_at_block b (inr r) =
        let P : Option BlockLayout → Type 0 = λ o. AreItems kinds (unwrap_or o no_block).items (items_in b (slice_get f.blocks b)) in
        let Q : Option Block → Type 0 = λ o. AreItems kinds r.2.layout.items (items_in b o) in
        subst P (sym r.2.there) (subst Q (sym r.1) r.2.laid.items)

    targets_at : (b : ℕ) → LaidOrNone f kinds blocks b → map (λ (x : EdgeFlow). x.target) (unwrap_or (slice_get blocks b) no_block).edges ≡ targets_in (slice_get f.blocks b)
    targets_at b (inl e) = ap (λ (o : Option BlockLayout). map (λ (x : EdgeFlow). x.target) (unwrap_or o no_block).edges) e.1 ∙ sym (ap targets_in e.0)
    targets_at b (inr r) = ap (λ (o : Option BlockLayout). map (λ (x : EdgeFlow). x.target) (unwrap_or o no_block).edges) r.2.there ∙ r.2.laid.edges.targets ∙ sym (ap targets_in r.1)

    last_at : (b : ℕ) → LaidOrNone f kinds blocks b → (unwrap_or (slice_get blocks b) no_block).last ≡ last_in (slice_get f.blocks b)
    last_at b (inl e) = ap (λ (o : Option BlockLayout). (unwrap_or o no_block).last) e.1 ∙ sym (ap last_in e.0)
    last_at b (inr r) = ap (λ (o : Option BlockLayout). (unwrap_or o no_block).last) r.2.there ∙ r.2.laid.last ∙ sym (ap last_in r.1)

    edge_at : (e : EdgeId) → e.index < length (targets_in (slice_get f.blocks e.block.0)) → LaidOrNone f kinds blocks e.block.0 →
        slice_get kinds (unwrap_or (slice_get (unwrap_or (slice_get blocks e.block.0) no_block).edges e.index) no_edge).item ≡ Some (Edge e)
    edge_at e is (inl r) = let n0 : length (targets_in (slice_get f.blocks e.block.0)) ≡ 0 = ap (λ o. length (targets_in o)) r.0 in absurd (omega arith)
    edge_at e is (inr r) =
        let n1 : length (targets_in (slice_get f.blocks e.block.0)) ≡ length (targets_in (Some r.0)) = ap (λ o. length (targets_in o)) r.1 in
        let n2 : length (map (λ (x : EdgeFlow). x.target) r.2.layout.edges) ≡ length (targets_in (Some r.0)) = ap length r.2.laid.edges.targets in
        let n3 : length (map (λ (x : EdgeFlow). x.target) r.2.layout.edges) ≡ length r.2.layout.edges = simp length-map in
        let within : e.index < length r.2.layout.edges = omega arith in
        let there : slice_get r.2.layout.edges e.index ≡ Some (get_or r.2.layout.edges e.index no_edge) = slice_get-get_or r.2.layout.edges e.index no_edge within in
        ap (λ (o : Option BlockLayout). slice_get kinds (unwrap_or (slice_get (unwrap_or o no_block).edges e.index) no_edge).item) r.2.there
        ∙ ap (λ (o : Option EdgeFlow). slice_get kinds (unwrap_or o no_edge).item) there
        ∙ r.2.laid.edges.items e.index (get_or r.2.layout.edges e.index no_edge) there

-- and its numbers are in range
pub laid_sound : (f : Function) (kinds : List Item) (blocks : List BlockLayout) (n : ℕ) → HasGraph f → AreLaid f kinds blocks n → n ≡ length f.blocks
    → IsSound (record { blocks = blocks; kinds = kinds })
laid_sound f kinds blocks n has h all = record {
  some_block = let s : length blocks ≡ n = h.size in let b : 0 < length f.blocks = has.body in omega arith;
  few_blocks = let s : length blocks ≡ n = h.size in let b : length f.blocks < 2 ^ 32 = has.few_blocks in omega arith;
  blocks = all_from_gets _ blocks (λ b x e. sound_at b x e (laid_or_none f kinds blocks n h all b));
}
  where
    sound_at : (b : ℕ) (x : BlockLayout) → slice_get blocks b ≡ Some x → LaidOrNone f kinds blocks b → IsBlockSound (record { blocks = blocks; kinds = kinds }) x
    sound_at b x e (inl r) = let no : None ≡ Some x = sym r.1 ∙ e in cc
    sound_at b x e (inr r) =
        let same : r.2.layout ≡ x = same_Some r.2.layout x (sym r.2.there ∙ e) in
        let linked : IsBlockLinked f r.0 = all_get (IsBlockLinked f) f.blocks b r.0 has.blocks r.1 in
        let n2 : length (map (λ (y : EdgeFlow). y.target) r.2.layout.edges) ≡ length (targets_in (Some r.0)) = ap length r.2.laid.edges.targets in
        let n3 : length (map (λ (y : EdgeFlow). y.target) r.2.layout.edges) ≡ length r.2.layout.edges = simp length-map in
        let n4 : length (targets_in (Some r.0)) ≡ length r.0.terminator.edges = simp length-map in
        let few : length r.0.terminator.edges < 2 ^ 32 = linked.few_edges in
        let short : length r.0.insts < 2 ^ 32 = linked.short in
        let last : r.2.layout.last ≡ length r.0.insts = r.2.laid.last in
        let size : length blocks ≡ length f.blocks = h.size ∙ all in
        let P : BlockLayout → Type 0 = λ y. IsBlockSound (record { blocks = blocks; kinds = kinds }) y in
        subst P same (record {
          items = all_from_gets _ r.2.layout.items (λ k i q. AreItems-below kinds r.2.layout.items _ r.2.laid.items k i q);
          edges = all_from_gets (IsEdgeSound (record { blocks = blocks; kinds = kinds })) r.2.layout.edges (λ j y q.
              let target : slice_get (map (λ (z : EdgeFlow). z.target) r.2.layout.edges) j ≡ Some y.target =
              slice_get-map (λ (z : EdgeFlow). z.target) r.2.layout.edges j ∙ ap (option_map (λ (z : EdgeFlow). z.target)) q in
              let goes : slice_get (targets_in (Some r.0)) j ≡ Some y.target = ap (λ v. slice_get v j) (sym r.2.laid.edges.targets) ∙ target in
              let within : y.target < length f.blocks =
              all_get (λ t. t < length f.blocks) (targets_in (Some r.0)) j y.target (All-map (λ t. t < length f.blocks) (λ (z : edge.Edge). z.block.0) r.0.terminator.edges linked.targets) goes in
              (subst (λ m. y.target < m) (sym size) within, slice_get_within kinds y.item (Edge (edge_id b j)) (r.2.laid.edges.items j y q)));
          few_edges = omega arith;
          last = omega arith;
        })
