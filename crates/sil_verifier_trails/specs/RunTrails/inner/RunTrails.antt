-- Trails as the frames of a run have them: the newest item first.
use Rattle.std.specs.Prelude.{◌≡◌, ℕ, ◌<◌, List, [], ◌∷◌, ◌++◌, All, None, Some, false, true, length, reverse, Option}
use Rattle.sil_ast.specs.declared.function.Function.{Function}
use Rattle.sil_ast.specs.declared.inst.Inst.{Inst}
use Rattle.sil_ast.specs.declared.place.EdgeId.{EdgeId}
use Rattle.sil_ast.specs.declared.place.PointId.{PointId}
use Rattle.sil_cfg.specs.Items.{HasBlocks, ends_function, flow_of}
use Rattle.sil_cfg.specs.Walk.{IsTrail}
use Rattle.sil_cfg.specs.declared.item.Item.{Item}
use Rattle.sil_cfg.specs.declared.item.Item.TheVariants as item
use Rattle.sil_cfg_items.specs.Parts.{inst_at, terminator_of}
use Rattle.sil_verifier_values.specs.sil_verifier_accepted.TypedGraphLaws.inner.Ready.{AvoidsEntry}
use Rattle.sil_verifier_values.specs.holder_model.Standing.{behind}

-- the point is behind the instructions of its block, which has a terminator
pub record IsAtEnd (f : Function) (p : PointId) : Type 0 where
  pub terminator : Inst
  pub behind_insts : inst_at f p ≡ None
  pub there : terminator_of f p.block.0 ≡ Some terminator

-- the terminator goes on by the edge with this index
pub record TakesEdge (f : Function) (p : PointId) (index : ℕ) : Type 0 where
  pub at_end : IsAtEnd f p
  pub goes_on : ends_function at_end.terminator.op ≡ false
  pub has_edge : index < length at_end.terminator.edges

-- the terminator leaves the function
pub record LeavesFunction (f : Function) (p : PointId) : Type 0 where
  pub at_end : IsAtEnd f p
  pub leaves : ends_function at_end.terminator.op ≡ true

-- what may come at a point: the instruction there, or an edge or the exit of the block's terminator
abbrev pub ComesAt : Function → PointId → Item → Type 0
ComesAt f p item.Entry = ⊥
ComesAt f p (item.Inst q) = (q ≡ p) × (i : Inst) × (inst_at f p ≡ Some i)
ComesAt f p (item.Edge e) = (e.block ≡ p.block) × TakesEdge f p e.index
ComesAt f p (item.Exit q) = (q ≡ p) × LeavesFunction f p

-- a function with a body begins with its entry item
abbrev pub ComesFirst : Function → Item → Type 0
ComesFirst f item.Entry = HasBlocks f
ComesFirst f (item.Inst p) = ⊥
ComesFirst f (item.Edge e) = ⊥
ComesFirst f (item.Exit p) = ⊥

-- the item may come where the trail stands: first of all the entry item, and nothing behind an exit
abbrev pub IsNext : Function → List Item → Item → Type 0
IsNext f [] i = ComesFirst f i
IsNext f (item.Entry ∷ older) i = ComesAt f (behind f item.Entry) i
IsNext f (item.Inst p ∷ older) i = ComesAt f (behind f (item.Inst p)) i
IsNext f (item.Edge e ∷ older) i = ComesAt f (behind f (item.Edge e)) i
IsNext f (item.Exit p ∷ older) i = ⊥

-- the trail has begun, and its newest item is no exit
abbrev pub GoesOn : List Item → Type 0
GoesOn [] = ⊥
GoesOn (item.Entry ∷ older) = Unit {0}
GoesOn (item.Inst p ∷ older) = Unit {0}
GoesOn (item.Edge e ∷ older) = Unit {0}
GoesOn (item.Exit p ∷ older) = ⊥

-- each item may come where those before it lead
abbrev pub IsRunTrail : Function → List Item → Type 0
IsRunTrail f [] = Unit {0}
IsRunTrail f (i ∷ t) = IsNext f t i × IsRunTrail f t

-- the edge that an item takes
abbrev pub edge_taken : Item → Option EdgeId
edge_taken item.Entry = None
edge_taken (item.Inst p) = None
edge_taken (item.Edge e) = Some e
edge_taken (item.Exit p) = None

-- a trail of the function along some walk, turned round
abbrev pub IsTurnedTrail : Function → List Item → Type 0
IsTurnedTrail f [] = Unit {0}
IsTurnedTrail f (i ∷ t) = (w : List EdgeId) × IsTrail (flow_of f) w (reverse t ++ i ∷ [])

-- no edge goes back to the entry block
abbrev pub IsEnteredOnce : Function → Type 0
IsEnteredOnce f = All (λ b. All AvoidsEntry b.terminator.edges) f.blocks
