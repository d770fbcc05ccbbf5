-- Where no value is on a ring of operands, facts are told of each.
use Rattle.std.proofs.Common.{◌≡◌, ℕ, zero, suc, ◌<◌, ◌≤◌, List, [], ◌∷◌, length, map, refl, sym, ap, ◌∙◌, subst, arith, Bool, true, false, Option, Some, None}
use Rattle.std.specs.Prelude.{◌&&◌, Contains, is_some, slice_get, unwrap_or}
use Rattle.std.specs.List.{list_all}
use Rattle.std.proofs.lemmas.Bool.{false≢true}
use Rattle.std.proofs.lemmas.List.{get_or-map, length-map}
use Rattle.std.proofs.lemmas.List.Sums.{AllPass-from_list_all}
use Rattle.std.proofs.lemmas.List.Elements.{All-contains, Contains-append_right}
use Rattle.std.proofs.lemmas.Option.{none-some}
use Rattle.sil_ast.specs.declared.place.ValueId.{ValueId}
use Rattle.number_tables.proofs.ContainmentOrder.RingLemmas.{Ring, some_ring}
use Rattle.number_tables.specs.ContainmentOrder.Chains as graph
use Rattle.number_tables.specs.ContainmentOrder.Chains.{parts_of}
use Rattle.sil_types_declarations.specs.declared.type_definitions.kind.Kind.TheVariants as kind
use Rattle.ownership_kinds_chains.proofs.OwnershipChains.Enough.{told_in_time}
use Rattle.ownership_kinds_chains.specs.OwnershipChains.Chains.{Chain, HasNoRing, IsInRange, more, one, operands_at}
use Rattle.ownership_kinds_chains.specs.OwnershipChains.Facts.{AreFactsOf, facts_with, is_known, known_or, origin_at, told, told_by, value_of}
use Rattle.ownership_kinds_chains.specs.OwnershipChains.Steps.{told_in}
use Rattle.ownership_kinds_chains.specs.declared.ownership_chains.definition.Definition.{Definition}
use Rattle.ownership_kinds_chains.specs.declared.ownership_chains.facts.Facts.{Facts}
use Rattle.ownership_kinds_chains.specs.OwnershipChains.inner.Numbers.{number_of, numbers_of, operand_numbers}

-- ---- one of several operands

some_unknown : (known : ValueId → Option Facts) (ops : List ValueId) → list_all (is_known known) ops ≡ false → (w : ValueId) × Contains ops w × (known w ≡ None)
some_unknown known [] h = absurd (cc)
some_unknown known (x ∷ ops) h = at (known x) refl (λ e. some_unknown known ops (sym (ap (λ b. b && list_all (is_known known) ops) e) ∙ h))
  where
    at : (o : Option Facts) → known x ≡ o → (is_known known x ≡ true → (w : ValueId) × Contains ops w × (known w ≡ None))
        → (w : ValueId) × Contains (x ∷ ops) w × (known w ≡ None)
    at None e rest = (x, (0, omega arith, refl), e)
    at (Some f) e rest = let it = rest (ap is_some e) in (it.0, Contains-append_right (x ∷ []) ops it.0 it.1, it.2)

-- ---- operands as numbers

has_number : (xs : List ValueId) (w : ValueId) → Contains xs w → Contains (map number_of xs) w.0
has_number xs w c =
    let long : length (map number_of xs) ≡ length xs = length-map xs number_of in
    let lt : c.0 < length xs = c.1 in
    (c.0, omega arith, get_or-map number_of xs c.0 w w.0 c.1 ∙ ap number_of c.2)

has_value : (xs : List ValueId) (n : ℕ) → Contains (map number_of xs) n → Contains xs (value_of n)
has_value xs n c =
    let long : length (map number_of xs) ≡ length xs = length-map xs number_of in
    let lt : c.0 < length (map number_of xs) = c.1 in
    let inside : c.0 < length xs = omega arith in
    (c.0, inside, ap value_of (sym (get_or-map number_of xs c.0 (value_of n) n inside) ∙ c.2))

parts_are : (defs : List Definition) (n : ℕ) → parts_of (numbers_of defs) n ≡ map number_of (operands_at defs (value_of n))
parts_are [] zero = refl
parts_are [] (suc n) = refl
parts_are (d ∷ defs) zero = refl
parts_are (d ∷ defs) (suc n) = parts_are defs n

chain_value : (defs : List Definition) (n m : ℕ) → graph.Chain (numbers_of defs) n m → Chain defs (value_of n) (value_of m)
chain_value defs n m (graph.one _ _ c) =
    one (value_of n) (value_of m) (has_value (operands_at defs (value_of n)) m (subst (λ xs. Contains xs m) (parts_are defs n) c))
chain_value defs n m (graph.more _ k _ c h) =
    more (value_of n) (value_of k) (value_of m) (has_value (operands_at defs (value_of n)) k (subst (λ xs. Contains xs k) (parts_are defs n) c))
    (chain_value defs k m h)

module _ (defs : List Definition) (range : IsInRange defs) (none : HasNoRing defs) where
  abbrev pub known : ValueId → Option Facts
  known = told_in defs (length defs)

  -- ---- facts are told of each value

  abbrev IsLeft : ℕ → Type 0
  IsLeft n = (n < length defs) × (known (value_of n) ≡ None)

  -- where all operands are known, so is the value
  all_known_so : (v : ValueId) → v.0 < length defs → list_all (is_known known) (operands_at defs v) ≡ true → (f : Facts) × (known v ≡ Some f)
  all_known_so v lt e = (it, (told_in_time defs v it range lt).0 (told v (known_or known) operand))
    where
      it : Facts
      it = told_by (length defs) v (known_or known) (operands_at defs v) (origin_at defs v)

      operand : (w : ValueId) → Contains (operands_at defs v) w → AreFactsOf defs w (known_or known w)
      operand w c = at (known w) refl
        where
          on : is_known known w ≡ true
          on = All-contains (λ x. is_known known x ≡ true) (operands_at defs v) w (AllPass-from_list_all (is_known known) (operands_at defs v) e) c

          at : (o : Option Facts) → known w ≡ o → AreFactsOf defs w (known_or known w)
          at None is = absurd (false≢true (sym (ap is_some is) ∙ on))
          at (Some f) is =
              subst (AreFactsOf defs w) (sym (ap (λ o. unwrap_or o (facts_with kind.Plain [])) is))
              ((told_in_time defs w f range (All-contains (λ x. x.0 < length defs) (operands_at defs v) w (range.inside v lt) c)).1 is)

  not_all : (v : ValueId) → v.0 < length defs → known v ≡ None → list_all (is_known known) (operands_at defs v) ≡ false
  not_all v lt unknown = at (list_all (is_known known) (operands_at defs v)) refl
    where
      at : (b : Bool) → list_all (is_known known) (operands_at defs v) ≡ b → list_all (is_known known) (operands_at defs v) ≡ false
      at true e = let f = all_known_so v lt e in absurd (none-some f.0 (sym unknown ∙ f.1))
      at false e = e

  next : (n : ℕ) → IsLeft n → (m : ℕ) × Contains (parts_of (numbers_of defs) n) m × (m < length (numbers_of defs)) × IsLeft m
  next n left =
      let w = some_unknown known (operands_at defs (value_of n)) (not_all (value_of n) left.0 left.1) in
      let lt : w.0.0 < length defs = All-contains (λ x. x.0 < length defs) (operands_at defs (value_of n)) w.0 (range.inside (value_of n) left.0) w.1 in
      let long : length (numbers_of defs) ≡ length defs = length-map defs operand_numbers in
      let part = subst (λ xs. Contains xs w.0.0) (sym (parts_are defs n)) (has_number (operands_at defs (value_of n)) w.0 w.1) in
      (w.0.0, part, omega arith, (lt, w.2))

  pub facts_of : (v : ValueId) → v.0 < length defs → (f : Facts) × (known v ≡ Some f)
  facts_of v lt = at (known v) refl
    where
      ring : Ring (numbers_of defs) IsLeft → ⊥
      ring r = none (value_of r.0) (chain_value defs r.0 r.0 r.2)

      at : (o : Option Facts) → known v ≡ o → (f : Facts) × (known v ≡ Some f)
      at None e = absurd (ring (some_ring (numbers_of defs) IsLeft next v.0 (lt, e)))
      at (Some f) e = (f, e)

-- ---- values beyond the list

-- a value beyond the list has no operands
pub no_operands : (defs : List Definition) (v : ValueId) → length defs ≤ v.0 → operands_at defs v ≡ []
no_operands defs v le = at defs v.0 le
  where
    at : (defs : List Definition) (n : ℕ) → length defs ≤ n → unwrap_or (slice_get (map (λ x. x.operands) defs) n) [] ≡ []
    at [] zero le = refl
    at [] (suc n) le = refl
    at (x ∷ defs) zero le = absurd (omega arith)
    at (x ∷ defs) (suc n) le = at defs n (omega arith)

none_in_nothing : (vs : List ValueId) (w : ValueId) → vs ≡ [] → Contains vs w → ⊥
none_in_nothing vs w e c = let here : Contains [] w = subst (λ xs. Contains xs w) e c in let lt : here.0 < 0 = here.1 in omega arith

pub ring_inside : (defs : List Definition) (v w : ValueId) → Chain defs v w → length defs ≤ v.0 → ⊥
ring_inside defs v w (one _ _ c) le = none_in_nothing (operands_at defs v) w (no_operands defs v le) c
ring_inside defs v w (more _ u _ c h) le = none_in_nothing (operands_at defs v) u (no_operands defs v le) c
