-- What shows that a slot is never deallocated before a later one: a rank for each slot, and for each block a stack of those that may be allocated at its entry.
use Rattle.std.specs.Prelude.{◌≡◌, ℕ, zero, suc, ◌<◌, List, [], ◌∷◌, All, Contains, AllPairs, slice_get, unwrap_or, Option, Some, None}
use Rattle.std.specs.declared.alloc.Global.{Global}
use Rattle.std.specs.declared.vec.Vec.{Vec}
use Rattle.sil_ast.specs.declared.place.EdgeId.{EdgeId}
use Rattle.sil_ast.specs.declared.place.ValueId.{ValueId}
use Rattle.sil_cfg.specs.Flow.{Flow, items_at, IsEdge, edge_to, edge_item, edge_id}
use Rattle.reach_engine.specs.declared.scan.Step.{Step}
use Rattle.reach_engine.specs.declared.scan.Step.TheVariants.{Go, Bad}
use Rattle.reach_engine.specs.inner.Run.{run}
use Rattle.memory_rules_accesses.specs.reach_engine_marks.PathPatterns.inner.Reads.{read_step}
use Rattle.memory_rules_accesses.specs.declared.access.Access.{Access}
use Rattle.memory_rules_accesses.specs.declared.source.Source.{Source}
use Rattle.memory_rules_slots.specs.Marks.{pair_mark}
use Rattle.memory_rules_slots.specs.inner.Automaton.{pair_step}
use Rattle.memory_rules_slots.specs.inner.Automaton.{order_step}
use Rattle.memory_rules_slots.specs.Pairs.{IsSlot}

abbrev pub rank_at : List ℕ → ValueId → ℕ
rank_at ranks v = unwrap_or (slice_get ranks v.0) 0

-- each slot has a lesser rank than those that stand higher
abbrev pub AreRising : List ℕ → List ValueId → Type 0
AreRising ranks stack = AllPairs (λ u v. rank_at ranks u < rank_at ranks v) stack

-- the stack has the first slot if it is allocated, and a second one that is later than it with a greater rank
abbrev pub Covers : List ℕ → List ValueId → ValueId → ValueId → ℕ → Type 0
Covers ranks stack a b zero = Unit {0}
Covers ranks stack a b (suc zero) = Contains stack a
Covers ranks stack a b (suc (suc zero)) = Unit {0}
Covers ranks stack a b (suc (suc (suc zero))) = Contains stack a × Contains stack b × (rank_at ranks a < rank_at ranks b)
Covers ranks stack a b (suc (suc (suc (suc s)))) = Contains stack a

-- the automaton goes on, to a state with the property
abbrev pub GoesTo : (ℕ → Type 0) → Step → Type 0
GoesTo P (Go s) = P s
GoesTo P (Bad code) = ⊥

-- from each state that the one stack covers the accesses lead to one that the other covers, whichever slot the second is
abbrev pub Follows : List Source → List ℕ → List ValueId → List Access → List ValueId → ValueId → Type 0
Follows sources ranks old accesses new a =
    IsSlot sources a → (b : ValueId) → IsSlot sources b → (s : ℕ) → Covers ranks old a b s
    → GoesTo (Covers ranks new a b) (run (read_step order_step (pair_mark a b)) (Go s) accesses)

-- so do the items
abbrev pub Passes : List Source → List ℕ → (ℕ → List Access) → List ValueId → List ℕ → List ValueId → ValueId → Type 0
Passes sources ranks accesses old items new a = IsSlot sources a → (b : ValueId) → IsSlot sources b → (s : ℕ) → Covers ranks old a b s
    → GoesTo (Covers ranks new a b) (run (pair_step accesses a b) (Go s) items)

-- the stack at a block's entry, where it is known
abbrev pub items_in : Option (Vec ValueId Global) → Option (List ValueId)
items_in None = None
items_in (Some v) = Some v.items

abbrev pub stack_at : List (Option (Vec ValueId Global)) → ℕ → Option (List ValueId)
stack_at stacks b = items_in (unwrap_or (slice_get stacks b) None)

-- the stack at an edge's target is known, and has all slots of this one if it has the first
abbrev pub Meets : List ValueId → Option (List ValueId) → ValueId → Type 0
Meets stack None a = ⊥
Meets stack (Some target) a = Contains stack a → All (λ u. Contains target u) stack

module _ (sources : List Source) (ranks : List ℕ) (accesses : ℕ → List Access) (g : Flow ℕ) (stacks : ℕ → Option (List ValueId)) where
  -- the edge leads from the stack to that of its target
  pub record IsEdgeNested (stack : List ValueId) (e : EdgeId) (a : ValueId) : Type 0 where
    pub target : List ValueId
    pub known : stacks (edge_to g e) ≡ Some target
    pub passes : Passes sources ranks accesses stack (edge_item g e ∷ []) target a

  -- the block's items lead from this stack to one from which each of its edges leads to that of its target
  pub record IsStackNested (b : ℕ) (stack : List ValueId) (a : ValueId) : Type 0 where
    pub last : List ValueId
    pub passes : Passes sources ranks accesses stack (items_at g b) last a
    pub edges : (i : ℕ) → IsEdge g (edge_id b i) → IsEdgeNested last (edge_id b i) a

  -- the block's stack isn't known, or its items and edges lead from it to those of its targets
  abbrev pub IsBlockNested : ℕ → ValueId → Type 0
  IsBlockNested b a = (stack : List ValueId) → stacks b ≡ Some stack → IsStackNested b stack a
