-- What the search keeps: its invariant, over plain lists.
use Rattle.std.specs.Prelude.{◌≡◌, ◌⊎◌, ℕ, suc, ◌+◌, ◌*◌, ◌<◌, ◌≤◌, List, [], ◌∷◌, ◌++◌, length, take}
use Rattle.std.specs.Prelude.{Bool, true, not, Option, Some, None, slice_get, count_by, IfSome}
use Rattle.sil_ast.specs.declared.place.EdgeId.{EdgeId}
use Rattle.sil_cfg.specs.Flow.{Flow, block_count, items_at, IsEdge, edge_to, edge_item}
use Rattle.sil_cfg.specs.Walk.{IsWalkFrom, end_from, passed}
use Rattle.reach_engine.specs.declared.scan.Step.{Step}
use Rattle.reach_engine.specs.declared.scan.Step.TheVariants.{Go, Bad}
use Rattle.reach_engine.specs.declared.frontier.Visit.{Visit}
use Rattle.reach_engine.specs.declared.frontier.Fault.{Fault}
use Rattle.reach_engine.specs.declared.frontier.Frontier.{Frontier}
use Rattle.reach_engine.specs.inner.Run.{run}
use Rattle.reach_engine.specs.inner.Table.{mark_at}

-- a fault at least as good as this one is known
abbrev pub Noted : Option Fault → ℕ → ℕ → Type 0
Noted None code n = ⊥
Noted (Some b) code n = (b.code < code) ⊎ ((b.code ≡ code) × (b.length ≤ n))

-- some visit has this block and state, after at most n edges
pub record IsQueued (q : List Visit) (block state n : ℕ) : Type 0 where
  pub at : ℕ
  pub visit : Visit
  pub there : slice_get q at ≡ Some visit
  pub block_is : visit.block ≡ block
  pub state_is : visit.state ≡ state
  pub near : visit.depth ≤ n

-- what is known of the edge e behind the visit v
pub record EdgeDone (g : Flow ℕ) (f : ℕ → ℕ → Step) (q : List Visit) (best : Option Fault) (v : Visit) (e : EdgeId) : Type 0 where
  pub goes : (t : ℕ) → run f (Go v.state) (items_at g v.block ++ edge_item g e ∷ []) ≡ Go t → IsQueued q (edge_to g e) t (suc v.depth)
  pub breaks : (m code : ℕ) → run f (Go v.state) (items_at g v.block) ≡ Go m → f m (edge_item g e) ≡ Bad code → Noted best code (suc v.depth)

-- what is known once the visit v was explored
pub record VisitDone (g : Flow ℕ) (f : ℕ → ℕ → Step) (q : List Visit) (best : Option Fault) (v : Visit) : Type 0 where
  pub block : (code : ℕ) → run f (Go v.state) (items_at g v.block) ≡ Bad code → Noted best code v.depth
  pub edges : (e : EdgeId) → IsEdge g e → e.block.0 ≡ v.block → EdgeDone g f q best v e

-- the visit v came from the visit u, by its edge
pub record IsNext (g : Flow ℕ) (f : ℕ → ℕ → Step) (u v : Visit) : Type 0 where
  pub is_edge : IsEdge g v.edge
  pub from : v.edge.block.0 ≡ u.block
  pub to : edge_to g v.edge ≡ v.block
  pub runs : run f (Go u.state) (items_at g u.block ++ edge_item g v.edge ∷ []) ≡ Go v.state
  pub deeper : v.depth ≡ suc u.depth

pub record IsRoot (k : ℕ) (v : Visit) : Type 0 where
  pub first : k ≡ 0
  pub block : v.block ≡ 0
  pub state : v.state ≡ 0
  pub depth : v.depth ≡ 0

pub record HasParent (g : Flow ℕ) (f : ℕ → ℕ → Step) (q : List Visit) (k : ℕ) (v : Visit) : Type 0 where
  pub parent : Visit
  pub there : slice_get q v.parent ≡ Some parent
  pub earlier : v.parent < k
  pub next : IsNext g f parent v

abbrev pub IsReached : Flow ℕ → (ℕ → ℕ → Step) → List Visit → ℕ → Visit → Type 0
IsReached g f q k v = IsRoot k v ⊎ HasParent g f q k v

-- each visit but the first names an earlier one as its parent
abbrev pub ParentsFirst : List Visit → Type 0
ParentsFirst q = (k : ℕ) (v : Visit) → slice_get q k ≡ Some v → 0 < k → v.parent < k

-- the edges lead from one visit to another, each by the edge that it names
abbrev pub Climbs : List Visit → ℕ → List EdgeId → ℕ → Type 0
Climbs q from [] to = from ≡ to
Climbs q from (e ∷ w) to = (k : ℕ) × (v : Visit) × (0 < k) × (slice_get q k ≡ Some v) × (v.parent ≡ from) × (v.edge ≡ e) × Climbs q k w to

abbrev pub edge_list : Option EdgeId → List EdgeId
edge_list None = []
edge_list (Some e) = e ∷ []

-- along the walk from the block, begun in state s, the item is the first bad one
pub record ReachesFrom (g : Flow ℕ) (f : ℕ → ℕ → Step) (block s : ℕ) (w : List EdgeId) (code item : ℕ) : Type 0 where
  pub walk : IsWalkFrom g block w
  pub count : ℕ
  pub before : List ℕ
  pub state : ℕ
  pub parts : passed g w ++ take count (items_at g (end_from g block w)) ≡ before ++ item ∷ []
  pub clean : run f (Go s) before ≡ Go state
  pub breaks : f state item ≡ Bad code

-- the fault is one behind its visit
pub record IsFault (g : Flow ℕ) (f : ℕ → ℕ → Step) (q : List Visit) (b : Fault) : Type 0 where
  pub visit : Visit
  pub there : slice_get q b.visit ≡ Some visit
  pub reaches : ReachesFrom g f visit.block visit.state (edge_list b.edge) b.code b.item
  pub length_is : b.length ≡ visit.depth + length (edge_list b.edge)

-- the search when all visits before the one at `next` are done
pub record IsFront (g : Flow ℕ) (f : ℕ → ℕ → Step) (states : ℕ) (q : List Visit) (seen : List Bool) (best : Option Fault) (next : ℕ) : Type 0 where
  pub reached : (k : ℕ) (v : Visit) → slice_get q k ≡ Some v → IsReached g f q k v
  pub block_in : (k : ℕ) (v : Visit) → slice_get q k ≡ Some v → v.block < block_count g
  pub state_in : (k : ℕ) (v : Visit) → slice_get q k ≡ Some v → v.state < states
  pub shallow : (k : ℕ) (v : Visit) → slice_get q k ≡ Some v → v.depth ≤ k
  pub sorted : (i j : ℕ) (u v : Visit) → i ≤ j → slice_get q i ≡ Some u → slice_get q j ≡ Some v → u.depth ≤ v.depth
  pub near : (j : ℕ) (u v : Visit) → slice_get q next ≡ Some v → slice_get q j ≡ Some u → u.depth ≤ suc v.depth
  pub marked : (k : ℕ) (v : Visit) → slice_get q k ≡ Some v → mark_at seen states v.block v.state ≡ true
  pub queued : (b s : ℕ) → b < block_count g → s < states → mark_at seen states b s ≡ true → (n : ℕ) × IsQueued q b s n
  pub size : length seen ≡ block_count g * states
  pub room : length q + count_by not seen ≡ length seen
  pub first : 0 < length q
  pub done : (k : ℕ) (v : Visit) → k < next → slice_get q k ≡ Some v → VisitDone g f q best v
  pub fault : IfSome best (IsFault g f q)

abbrev pub FrontOf : Flow ℕ → (ℕ → ℕ → Step) → ℕ → Frontier → ℕ → Type 0
FrontOf g f states front next = IsFront g f states front.queue.items front.seen.items front.best next

-- visits were only added, and the best fault only became better
pub record Grows (old new : Frontier) : Type 0 where
  pub more : List Visit
  pub queue : new.queue.items ≡ old.queue.items ++ more
  pub best : (code n : ℕ) → Noted old.best code n → Noted new.best code n

-- the walk to the fault's visit, and then the fault's edge
pub record IsWalkOf (q : List Visit) (fault : Fault) (walk : List EdgeId) : Type 0 where
  pub climb : List EdgeId
  pub climbs : Climbs q 0 climb fault.visit
  pub parts : walk ≡ climb ++ edge_list fault.edge
