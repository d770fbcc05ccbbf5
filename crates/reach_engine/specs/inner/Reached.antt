-- What moving rows along edges keeps.
use Rattle.std.specs.Prelude.{◌≡◌, ◌↔◌, ◌⊎◌, ℕ, suc, ◌+◌, ◌-◌, ◌*◌, ◌^◌, ◌<◌, ◌≤◌, List, [], ◌∷◌, ◌++◌}
use Rattle.std.specs.Prelude.{length, sum, count_by, slice_index_or, Bool, true, false, not}
use Rattle.sil_ast.specs.declared.place.EdgeId.{EdgeId}
use Rattle.sil_cfg.specs.Flow.{Flow, block_count, items_at, IsEdge, edge_to, edge_item, edge_id}
use Rattle.reach_engine.specs.declared.scan.Step.TheVariants.{Go, Bad}
use Rattle.reach_engine.specs.declared.scan.Step.{Step}
use Rattle.reach_engine.specs.inner.Run.{run}
use Rattle.reach_engine.specs.inner.Reach.{Enters, ReachesFirst}
use Rattle.reach_engine.specs.inner.Search.{IsClean}
use Rattle.reach_engine.specs.inner.Bits.{bit_in}
use Rattle.reach_engine.specs.inner.Columns.{Has, cell, Blamed}

-- the row of block b and state s has subject u
abbrev pub RowHas : List ℕ → ℕ → ℕ → ℕ → ℕ → ℕ → Type 0
RowHas words states width b s u = Has words width (b * states + s) u

-- the rows have exactly the subjects that some walk brings there, and the unused bits are clear
pub record AreExact (g : Flow ℕ) (f : ℕ → ℕ → ℕ → Step) (states subjects width : ℕ) (rows : List ℕ) : Type 0 where
  pub size : length rows ≡ block_count g * (states * width)
  pub entered : (b s u : ℕ) → b < block_count g → s < states → u < subjects → RowHas rows states width b s u ↔ ((w : List EdgeId) × Enters g (f u) w b s)
  pub unused : (b s u : ℕ) → b < block_count g → s < states → subjects ≤ u → u < 64 * width → bit_in rows (cell width (b * states + s) u) ≡ 0

-- exactly the subjects are marked that some walk brings to a bad item
pub record AreBad (g : Flow ℕ) (f : ℕ → ℕ → ℕ → Step) (subjects width : ℕ) (bad : List ℕ) : Type 0 where
  pub size : length bad ≡ width
  pub reached : (u : ℕ) → u < subjects → bit_in bad u ≡ 1 → IsClean g (f u) → ⊥
  pub clean : (u : ℕ) → u < subjects → (bit_in bad u ≡ 1 → ⊥) → IsClean g (f u)

-- what one edge did: the bundle's subjects, behind the block's items, were moved over the edge's item and put into the target's rows
pub record EdgeTaken (g : Flow ℕ) (f : ℕ → ℕ → ℕ → Step) (states subjects width : ℕ) (e : EdgeId) (bundle old new before after : List ℕ)
    (is_new : Bool) : Type 0 where
  pub grows : (k : ℕ) → bit_in old k ≡ 1 → bit_in new k ≡ 1
  pub sound : (c t u : ℕ) → t < states → u < subjects → RowHas new states width c t u
      → RowHas old states width c t u ⊎ ((c ≡ edge_to g e) × ((m : ℕ) × (m < states) × Has bundle width m u × (f u m (edge_item g e) ≡ Go t)))
  pub unused : (c t v : ℕ) → t < states → subjects ≤ v → v < 64 * width → RowHas new states width c t v → RowHas old states width c t v ⊎ Has bundle width t v
  pub goes : (m t u : ℕ) → m < states → u < subjects → Has bundle width m u → f u m (edge_item g e) ≡ Go t
      → (t < states) × RowHas new states width (edge_to g e) t u
  pub blamed : (u : ℕ) → u < subjects → Blamed (f u) states width u (edge_item g e ∷ []) bundle before after
  pub none : is_new ≡ false → new ≡ old
  pub some : is_new ≡ true → sum old < sum new

-- what the first i edges of the block did
pub record EdgesTaken (g : Flow ℕ) (f : ℕ → ℕ → ℕ → Step) (states subjects width b : ℕ) (bundle old new before after : List ℕ) (i : ℕ)
    (is_new : Bool) : Type 0 where
  pub grows : (k : ℕ) → bit_in old k ≡ 1 → bit_in new k ≡ 1
  pub sound : (c t u : ℕ) → t < states → u < subjects → RowHas new states width c t u → RowHas old states width c t u
      ⊎ ((e : EdgeId) × (m : ℕ) × IsEdge g e × (e.block.0 ≡ b) × (edge_to g e ≡ c) × (m < states) × Has bundle width m u × (f u m (edge_item g e) ≡ Go t))
  pub unused : (c t v : ℕ) → t < states → subjects ≤ v → v < 64 * width → RowHas new states width c t v → RowHas old states width c t v ⊎ Has bundle width t v
  pub goes : (j m t u : ℕ) → j < i → m < states → u < subjects → Has bundle width m u → f u m (edge_item g (edge_id b j)) ≡ Go t
      → (t < states) × RowHas new states width (edge_to g (edge_id b j)) t u
  pub kept : (u : ℕ) → u < subjects → bit_in before u ≡ 1 → bit_in after u ≡ 1
  pub blamed : (u : ℕ) → u < subjects → bit_in after u ≡ 1 → (bit_in before u ≡ 1)
      ⊎ ((e : EdgeId) × (m : ℕ) × (code : ℕ) × IsEdge g e × (e.block.0 ≡ b) × (m < states) × Has bundle width m u × (f u m (edge_item g e) ≡ Bad code))
  pub breaks : (j m code u : ℕ) → j < i → m < states → u < subjects → Has bundle width m u → f u m (edge_item g (edge_id b j)) ≡ Bad code → bit_in after u ≡ 1
  pub none : is_new ≡ false → new ≡ old
  pub some : is_new ≡ true → sum old < sum new

-- what a subject's row gained along an edge of block b
pub record Gains (g : Flow ℕ) (f : ℕ → ℕ → Step) (states width b u : ℕ) (old : List ℕ) (c t : ℕ) : Type 0 where
  pub edge : EdgeId
  pub from : ℕ
  pub is_edge : IsEdge g edge
  pub leaves : edge.block.0 ≡ b
  pub to : edge_to g edge ≡ c
  pub within : from < states
  pub there : RowHas old states width b from u
  pub runs : run f (Go from) (items_at g b ++ edge_item g edge ∷ []) ≡ Go t

-- how a subject breaks in block b or at one of its edges
pub record BreaksIn (g : Flow ℕ) (f : ℕ → ℕ → Step) (states width b u : ℕ) (old : List ℕ) : Type 0 where
  pub from : ℕ
  pub code : ℕ
  pub within : from < states
  pub there : RowHas old states width b from u
  pub runs : (run f (Go from) (items_at g b) ≡ Bad code)
      ⊎ ((e : EdgeId) × IsEdge g e × (e.block.0 ≡ b) × (m : ℕ) × (run f (Go from) (items_at g b) ≡ Go m) × (f m (edge_item g e) ≡ Bad code))

-- what exploring block b did
pub record BlockTaken (g : Flow ℕ) (f : ℕ → ℕ → ℕ → Step) (states subjects width b : ℕ) (old new before after : List ℕ) (is_new : Bool) : Type 0 where
  pub grows : (k : ℕ) → bit_in old k ≡ 1 → bit_in new k ≡ 1
  pub sound : (c t u : ℕ) → t < states → u < subjects → RowHas new states width c t u → RowHas old states width c t u ⊎ Gains g (f u) states width b u old c t
  pub unused : (c t v : ℕ) → t < states → subjects ≤ v → v < 64 * width → RowHas new states width c t v
      → RowHas old states width c t v ⊎ RowHas old states width b t v
  pub kept : (u : ℕ) → u < subjects → bit_in before u ≡ 1 → bit_in after u ≡ 1
  pub blamed : (u : ℕ) → u < subjects → bit_in after u ≡ 1 → (bit_in before u ≡ 1) ⊎ BreaksIn g (f u) states width b u old
  pub block : (s code u : ℕ) → s < states → u < subjects → RowHas old states width b s u → run (f u) (Go s) (items_at g b) ≡ Bad code → bit_in after u ≡ 1
  pub goes : (e : EdgeId) (s t u : ℕ) → IsEdge g e → e.block.0 ≡ b → s < states → u < subjects → RowHas old states width b s u
      → run (f u) (Go s) (items_at g b ++ edge_item g e ∷ []) ≡ Go t → (t < states) × RowHas new states width (edge_to g e) t u
  pub breaks : (e : EdgeId) (s m code u : ℕ) → IsEdge g e → e.block.0 ≡ b → s < states → u < subjects → RowHas old states width b s u
      → run (f u) (Go s) (items_at g b) ≡ Go m → f u m (edge_item g e) ≡ Bad code → bit_in after u ≡ 1
  pub none : is_new ≡ false → new ≡ old
  pub some : is_new ≡ true → sum old < sum new

-- all that the rows and the bad bits say is so
pub record IsSoFar (g : Flow ℕ) (f : ℕ → ℕ → ℕ → Step) (states subjects width : ℕ) (rows bad : List ℕ) : Type 0 where
  pub size : length rows ≡ block_count g * (states * width)
  pub bad_size : length bad ≡ width
  pub entry : (u : ℕ) → u < subjects → RowHas rows states width 0 0 u
  pub entered : (b s u : ℕ) → s < states → u < subjects → RowHas rows states width b s u → (w : List EdgeId) × Enters g (f u) w b s
  pub unused : (b s v : ℕ) → s < states → subjects ≤ v → v < 64 * width → RowHas rows states width b s v → ⊥
  pub reached : (u : ℕ) → u < subjects → bit_in bad u ≡ 1 → (w : List EdgeId) × (code : ℕ) × (item : ℕ) × ReachesFirst g (f u) w code item

-- what block b's rows had before is taken on along its edges
pub record IsBlockDone (g : Flow ℕ) (f : ℕ → ℕ → ℕ → Step) (states subjects width : ℕ) (old new bad : List ℕ) (b : ℕ) : Type 0 where
  pub block : (s code u : ℕ) → s < states → u < subjects → RowHas old states width b s u → run (f u) (Go s) (items_at g b) ≡ Bad code → bit_in bad u ≡ 1
  pub goes : (e : EdgeId) (s t u : ℕ) → IsEdge g e → e.block.0 ≡ b → s < states → u < subjects → RowHas old states width b s u
      → run (f u) (Go s) (items_at g b ++ edge_item g e ∷ []) ≡ Go t → (t < states) × RowHas new states width (edge_to g e) t u
  pub breaks : (e : EdgeId) (s m code u : ℕ) → IsEdge g e → e.block.0 ≡ b → s < states → u < subjects → RowHas old states width b s u
      → run (f u) (Go s) (items_at g b) ≡ Go m → f u m (edge_item g e) ≡ Bad code → bit_in bad u ≡ 1

-- the block is marked as dirty
abbrev pub is_dirty : List Bool → ℕ → Bool
is_dirty dirty b = slice_index_or dirty b false

-- each block whose rows gain a subject is marked, and no mark is lost
pub record MarksGains (states subjects width : ℕ) (old new : List ℕ) (before after : List Bool) (is_new : Bool) : Type 0 where
  pub stays : (c t u : ℕ) → t < states → u < subjects → is_dirty after c ≡ false → RowHas new states width c t u → RowHas old states width c t u
  pub kept : (c : ℕ) → is_dirty after c ≡ false → is_dirty before c ≡ false
  pub none : is_new ≡ false → after ≡ before

-- what a block that isn't dirty has is taken on along its edges
pub record IsSettled (g : Flow ℕ) (f : ℕ → ℕ → ℕ → Step) (states subjects width : ℕ) (rows bad : List ℕ) (dirty : List Bool) : Type 0 where
  pub so_far : IsSoFar g f states subjects width rows bad
  pub size : length dirty ≡ block_count g
  pub done : (b : ℕ) → b < block_count g → is_dirty dirty b ≡ false → IsBlockDone g f states subjects width rows rows bad b

-- what is left to do at most: each word may still grow, and then each block is dirty again
abbrev pub work_left : ℕ → ℕ → List ℕ → List Bool → ℕ
work_left cap blocks rows dirty = (cap - sum rows) * suc blocks + (blocks - count_by not dirty)

-- the greatest sum of the rows' words
abbrev pub cap_of : Flow ℕ → ℕ → ℕ → ℕ
cap_of g states width = (block_count g * (states * width)) * 2 ^ 64

-- the block isn't dirty, and nothing changed; or it was taken
pub record DirtyTaken (g : Flow ℕ) (f : ℕ → ℕ → ℕ → Step) (states subjects width b : ℕ) (old new bad : List ℕ) (before after : List Bool)
    (taken : Bool) : Type 0 where
  pub settled : IsSettled g f states subjects width new bad after
  pub rows_same : taken ≡ false → new ≡ old
  pub dirty_same : taken ≡ false → after ≡ before
  pub clean : taken ≡ false → is_dirty after b ≡ false
  pub less : taken ≡ true → work_left (cap_of g states width) (block_count g) new after < work_left (cap_of g states width) (block_count g) old before

-- what a sweep over the first i blocks did
pub record Swept (g : Flow ℕ) (f : ℕ → ℕ → ℕ → Step) (states subjects width : ℕ) (old new bad : List ℕ) (before after : List Bool) (i : ℕ)
    (changed : Bool) : Type 0 where
  pub settled : IsSettled g f states subjects width new bad after
  pub rows_same : changed ≡ false → new ≡ old
  pub dirty_same : changed ≡ false → after ≡ before
  pub clean : changed ≡ false → (b : ℕ) → b < i → is_dirty after b ≡ false
  pub less : changed ≡ true → work_left (cap_of g states width) (block_count g) new after < work_left (cap_of g states width) (block_count g) old before

-- nothing more comes of what the rows have
pub record IsClosed (g : Flow ℕ) (f : ℕ → ℕ → ℕ → Step) (states subjects width : ℕ) (rows bad : List ℕ) : Type 0 where
  pub so_far : IsSoFar g f states subjects width rows bad
  pub done : (b : ℕ) → b < block_count g → IsBlockDone g f states subjects width rows rows bad b
