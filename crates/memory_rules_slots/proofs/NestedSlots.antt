-- A slot that isn't in doubt is never deallocated before a later one.
use Rattle.std.proofs.Common.{◌≡◌, ℕ, ◌<◌, ◌≤◌, List, [], ◌∷◌, ◌++◌, length, take, drop, refl, sym, ap, ◌∙◌, subst, ◌⊎◌, inl, inr, true, false, Option, Some, None, append_assoc, arith}
use Rattle.std.specs.Prelude.{IsSome, unwrap_or}
use Rattle.std.proofs.lemmas.Bool.{cases_lt}
use Rattle.std.proofs.lemmas.List.{take-append-drop}
use Rattle.std.proofs.lemmas.Option.{none-some, slice_get_past}
use Rattle.std.specs.declared.alloc.Global.{Global}
use Rattle.std.specs.declared.vec.Vec.{Vec}
use Rattle.sil_ast.specs.declared.place.EdgeId.{EdgeId}
use Rattle.sil_ast.specs.declared.place.ValueId.{ValueId}
use Rattle.sil_cfg.specs.Flow.{Flow, numbered, block_count, items_at, IsEdge, edge_to, edge_item, edge_id}
use Rattle.sil_cfg.specs.Layout.{Layout}
use Rattle.sil_cfg.specs.Walk.{IsWalkFrom, end_from, passed}
use Rattle.reach_engine.specs.declared.scan.Step.{Step}
use Rattle.reach_engine.specs.declared.scan.Step.TheVariants.{Go, Bad}
use Rattle.reach_engine.specs.inner.Run.{run}
use Rattle.reach_engine.proofs.Runs.{run_breaks, run_end_bad}
use Rattle.memory_rules_accesses.specs.declared.access.Access.{Access}
use Rattle.memory_rules_accesses.specs.declared.source.Source.{Source}
use Rattle.memory_rules_slots.specs.inner.Automaton.{pair_step}
use Rattle.memory_rules_slots.specs.inner.Nesting.{Covers, GoesTo, Meets, Passes, stack_at, items_in, IsEdgeNested, IsStackNested, IsBlockNested}
use Rattle.memory_rules_slots.specs.Pairs.{IsSlot}
use Rattle.memory_rules_slots.specs.inner.Searches.{IsUncrossed}
use Rattle.memory_rules_slots.proofs.StacksFollowed.{none_passed, more_passed, passed_within}

bad_goes : (P : ℕ → Type 0) (r : Step) (code : ℕ) → r ≡ Bad code → GoesTo P r → ⊥
bad_goes P r code e h = subst (GoesTo P) e h

module _ (sources : List Source) (ranks : List ℕ) (accesses : ℕ → List Access) (g : Flow ℕ) (stacks : ℕ → Option (List ValueId)) (a : ValueId)
    (nested : (b : ℕ) → IsBlockNested sources ranks accesses g stacks b a) where
  -- along a walk from a known stack
  walk_passed : (b : ℕ) (w : List EdgeId) (stack : List ValueId) → stacks b ≡ Some stack → IsWalkFrom g b w
      → (last : List ValueId) × (stacks (end_from g b w) ≡ Some last) × Passes sources ranks accesses stack (passed g w) last a
  walk_passed b [] stack known h = (stack, known, none_passed ranks sources accesses stack a)
  walk_passed b (e ∷ w) stack known h =
      let s = nested e.block.0 stack (ap stacks h.0 ∙ known) in
      let t = s.edges e.index h.1 in
      let r = walk_passed (edge_to g e) w t.target t.known h.2 in (
        r.0,
        r.1,
        more_passed ranks sources accesses stack s.last r.0 (items_at g e.block.0) (edge_item g e ∷ passed g w) a s.passes
            (more_passed ranks sources accesses s.last t.target r.0 (edge_item g e ∷ []) (passed g w) a t.passes r.2),
      )

  pub nested_clean : (first : List ValueId) → stacks 0 ≡ Some first → (b : ValueId) → IsSlot sources a → IsSlot sources b → (w : List EdgeId) (before : List ℕ) (item code k s : ℕ) → IsWalkFrom g 0 w →
      before ++ item ∷ [] ≡ passed g w ++ take k (items_at g (end_from g 0 w)) → run (pair_step accesses a b) (Go 0) before ≡ Go s → pair_step accesses a b s item ≡ Bad code → ⊥
  nested_clean first start b sa sb w before item code k s walk parts clean breaks =
      let r = walk_passed 0 w first start walk in
      let own = items_at g (end_from g 0 w) in
      let n = nested (end_from g 0 w) r.0 r.1 in
      let whole = more_passed ranks sources accesses first r.0 n.last (passed g w) own a r.2 n.passes sa b sb 0 tt in
      let split : passed g w ++ own ≡ (before ++ item ∷ []) ++ drop k own =
      ap (λ l. passed g w ++ l) (sym (take-append-drop k own)) ∙ sym (append_assoc (passed g w) (take k own) (drop k own)) ∙ ap (λ l. l ++ drop k own) (sym parts) in
      let bad : run (pair_step accesses a b) (Go 0) (before ++ item ∷ []) ≡ Bad code = run_breaks (pair_step accesses a b) (Go 0) before [] item s code clean breaks in
      bad_goes (Covers ranks n.last a b) (run (pair_step accesses a b) (Go 0) (passed g w ++ own)) code
      (ap (run (pair_step accesses a b) (Go 0)) split ∙ run_end_bad (pair_step accesses a b) (Go 0) (before ++ item ∷ []) (drop k own) code bad) whole

some_is : {A : Type 0} (o : Option A) → IsSome o → (x : A) × (o ≡ Some x)
some_is None h = absurd (no h)
  where
    no : false ≡ true → ⊥
    no e = cc
some_is (Some x) h = (x, refl)

pub nested_uncrossed : (sources : List Source) (ranks : List ℕ) (accesses : ℕ → List Access) (g : Layout) (stacks : List (Option (Vec ValueId Global))) → length stacks ≤ block_count (numbered g) →
    IsSome (stack_at stacks 0) → (a : ValueId) →
    ((b : ℕ) → b < block_count (numbered g) → IsBlockNested sources ranks accesses (numbered g) (stack_at stacks) b a) → IsSlot sources a → (b : ValueId) → IsSlot sources b
    → IsUncrossed g accesses a b
nested_uncrossed sources ranks accesses g stacks few some a nested sa b sb w code item h =
    let start = some_is (stack_at stacks 0) some in
    nested_clean sources ranks accesses (numbered g) (stack_at stacks) a (λ n. everywhere n (cases_lt n (block_count (numbered g)))) start.0 start.1 b sa sb w h.before item code h.trail.count h.state
    h.trail.walk h.trail.items h.clean h.breaks
  where
    everywhere : (n : ℕ) → (n < block_count (numbered g)) ⊎ (block_count (numbered g) ≤ n) → IsBlockNested sources ranks accesses (numbered g) (stack_at stacks) n a
    everywhere n (inl lt) = nested n lt
    everywhere n (inr le) = λ stack known. absurd (none-some stack (sym (ap (λ o. items_in (unwrap_or o None)) (slice_get_past stacks n (omega arith))) ∙ known))

pub edge_nested : (sources : List Source) (ranks : List ℕ) (accesses : ℕ → List Access) (g : Flow ℕ) (stacks : ℕ →
    Option (List ValueId)) (stack last : List ValueId) (e : EdgeId) (a : ValueId) (o : Option (List ValueId)) → o ≡ stacks (edge_to g e) →
    Meets last o a → Passes sources ranks accesses stack (edge_item g e ∷ []) last a → IsEdgeNested sources ranks accesses g stacks stack e a
edge_nested sources ranks accesses g stacks stack last e a None known meets h = absurd meets
edge_nested sources ranks accesses g stacks stack last e a (Some target) known meets h = record {
  target = target;
  known = sym known;
  passes = passed_within ranks sources accesses stack last target (edge_item g e ∷ []) a meets h;
}

pub block_nested : (sources : List Source) (ranks : List ℕ) (accesses : ℕ → List Access) (g : Flow ℕ) (stacks : ℕ → Option (List ValueId)) (b : ℕ) (stack last : List ValueId) (a : ValueId) →
    Some stack ≡ stacks b → Passes sources ranks accesses stack (items_at g b) last a →
    ((i : ℕ) → IsEdge g (edge_id b i) → IsEdgeNested sources ranks accesses g stacks last (edge_id b i) a) → IsBlockNested sources ranks accesses g stacks b a
block_nested sources ranks accesses g stacks b stack last a here passes edges other known =
    subst (λ l. IsStackNested sources ranks accesses g stacks b l a) (ap (λ o. unwrap_or o []) (here ∙ known)) (record { last = last; passes = passes; edges = edges })
