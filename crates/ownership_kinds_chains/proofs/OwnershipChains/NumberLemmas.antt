-- Chains of values are chains of their numbers.
use Rattle.std.proofs.Common.{◌≡◌, ℕ, zero, suc, ◌<◌, ◌≤◌, List, [], ◌∷◌, length, map, get_or, refl, sym, ap, ◌∙◌, subst, arith, Option, Some, None}
use Rattle.std.specs.Prelude.{◌^◌, All, Contains, IfNone, IfSome, option_map, slice_get, slice_index_or, unwrap_or}
use Rattle.std.proofs.lemmas.List.{get_or-map, length-map}
use Rattle.std.proofs.lemmas.List.Elements.{All-map}
use Rattle.sil_ast.specs.declared.place.ValueId.{ValueId}
use Rattle.number_tables.specs.ContainmentOrder.Chains as graph
use Rattle.ownership_kinds_chains.specs.declared.ownership_chains.definition.Definition.{Definition}
use Rattle.ownership_kinds_chains.specs.OwnershipChains.Chains.{operands_at, Chain, one, more, IsInRange, IsFirstCyclic, HasNoRing}
use Rattle.ownership_kinds_chains.specs.OwnershipChains.Facts.{value_of}
use Rattle.ownership_kinds_chains.specs.OwnershipChains.inner.Numbers.{number_of, numbers_of, operand_numbers}

pub has_number : (xs : List ValueId) (w : ValueId) → Contains xs w → Contains (map number_of xs) w.0
has_number xs w c =
    (c.0, let long : length (map number_of xs) ≡ length xs = length-map xs number_of in let lt : c.0 < length xs = c.1 in omega arith, get_or-map number_of xs c.0 w w.0 c.1 ∙ ap number_of c.2)

pub has_value : (xs : List ValueId) (n : ℕ) → Contains (map number_of xs) n → Contains xs (value_of n)
has_value xs n c =
    let long : length (map number_of xs) ≡ length xs = length-map xs number_of in
    let lt : c.0 < length (map number_of xs) = c.1 in
    let inside : c.0 < length xs = omega arith in
    (c.0, inside, ap value_of (sym (get_or-map number_of xs c.0 (value_of n) n inside) ∙ c.2))

-- the numbers of the operands stand at the value's number
pub parts_are : (defs : List Definition) (v : ValueId) → graph.parts_of (numbers_of defs) v.0 ≡ map number_of (operands_at defs v)
parts_are defs v = at defs v.0
  where
    at : (defs : List Definition) (n : ℕ) → slice_index_or (map operand_numbers defs) n [] ≡ map number_of (unwrap_or (slice_get (map (λ x. x.operands) defs) n) [])
    at [] zero = refl
    at [] (suc n) = refl
    at (d ∷ defs) zero = refl
    at (d ∷ defs) (suc n) = at defs n

module _ (defs : List Definition) where
  pub part_of : (v w : ValueId) → Contains (operands_at defs v) w → Contains (graph.parts_of (numbers_of defs) v.0) w.0
  part_of v w c = subst (λ xs. Contains xs w.0) (sym (parts_are defs v)) (has_number (operands_at defs v) w c)

  pub operand_of : (n m : ℕ) → Contains (graph.parts_of (numbers_of defs) n) m → Contains (operands_at defs (value_of n)) (value_of m)
  operand_of n m c = has_value (operands_at defs (value_of n)) m (subst (λ xs. Contains xs m) (parts_are defs (value_of n)) c)

  pub chain_number : (v w : ValueId) → Chain defs v w → graph.Chain (numbers_of defs) v.0 w.0
  chain_number v w (one _ _ c) = graph.one v.0 w.0 (part_of v w c)
  chain_number v w (more _ u _ c h) = graph.more v.0 u.0 w.0 (part_of v u c) (chain_number u w h)

  pub chain_value : (n m : ℕ) → graph.Chain (numbers_of defs) n m → Chain defs (value_of n) (value_of m)
  chain_value n m (graph.one _ _ c) = one (value_of n) (value_of m) (operand_of n m c)
  chain_value n m (graph.more _ k _ c h) = more (value_of n) (value_of k) (value_of m) (operand_of n k c) (chain_value k m h)

  pub numbers_in_range : IsInRange defs → graph.IsInRange (numbers_of defs)
  numbers_in_range range n lt =
      let long : length (numbers_of defs) ≡ length defs = length-map defs operand_numbers in
      subst (All (λ w. w < length (numbers_of defs))) (sym (parts_are defs (value_of n)))
      (subst (λ k. All (λ w. w < k) (map number_of (operands_at defs (value_of n)))) (sym long)
      (All-map (λ w. w < length defs) number_of (operands_at defs (value_of n)) (range.inside (value_of n) (omega arith))))

  -- a graph that is that of the values' numbers
  module _ (g : graph.Graph) (is : g ≡ numbers_of defs) where
    pub graph_in_range : IsInRange defs → graph.IsInRange g
    graph_in_range range = subst graph.IsInRange (sym is) (numbers_in_range range)

    as_long : length g ≡ length defs
    as_long = ap length is ∙ length-map defs operand_numbers

    pub first_fits : IsInRange defs → (o : Option ℕ) → IfSome o (graph.IsFirstCyclic g) → IfSome o (λ n. n < 2 ^ 32)
    first_fits range None f = tt
    first_fits range (Some n) f = let lt : n < length g = f.inside in let few : length defs ≤ 2 ^ 32 = range.few in let long : length g ≡ length defs = as_long in omega arith

    pub first_value : (o : Option ℕ) → IfSome o (graph.IsFirstCyclic g) → IfSome (option_map value_of o) (IsFirstCyclic defs)
    first_value None f = tt
    first_value (Some n) f = record {
      inside = (let lt : n < length g = f.inside in let long : length g ≡ length defs = as_long in omega arith);
      cyclic = chain_value n n (subst (λ x. graph.Chain x n n) is f.cyclic);
      first = λ w lt h. f.first w.0 lt (subst (λ x. graph.Chain x w.0 w.0) (sym is) (chain_number w w h));
    }

    pub no_value : (o : Option ℕ) → IfNone o (graph.HasNoRing g) → IfNone (option_map value_of o) (HasNoRing defs)
    no_value None none = λ v h. none v.0 (subst (λ x. graph.Chain x v.0 v.0) (sym is) (chain_number v v h))
    no_value (Some n) none = tt

pub chain_push : (defs : List Definition) (v w u : ValueId) → Chain defs v w → Contains (operands_at defs w) u → Chain defs v u
chain_push defs v w u (one _ _ c) d = more v w u c (one w u d)
chain_push defs v w u (more _ x _ c h) d = more v x u c (chain_push defs x w u h d)

-- the operands of a value stand at its place
pub operands_are : (defs : List Definition) (v : ValueId) (d : Definition) → v.0 < length defs → (get_or defs v.0 d).operands ≡ operands_at defs v
operands_are defs v d lt = at defs v.0 lt
  where
    at : (defs : List Definition) (n : ℕ) → n < length defs → (get_or defs n d).operands ≡ unwrap_or (slice_get (map (λ x. x.operands) defs) n) []
    at [] n lt = absurd (omega arith)
    at (x ∷ defs) zero lt = refl
    at (x ∷ defs) (suc n) lt = at defs n (omega arith)
