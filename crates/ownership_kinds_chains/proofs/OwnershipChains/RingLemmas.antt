-- Values with facts are on no ring, and from the others chains lead into one.
use Rattle.std.proofs.Common.{◌≡◌, ℕ, zero, suc, ◌<◌, ◌≤◌, List, [], ◌∷◌, length, refl, sym, ap, ◌∙◌, subst, arith, Bool, true, false, ◌⊎◌, inl, inr, Option, Some, None}
use Rattle.std.specs.Prelude.{All, Contains, map, slice_get, unwrap_or, ◌&&◌, is_some, IsSomeAnd, IfNone}
use Rattle.std.specs.List.{list_all}
use Rattle.std.proofs.lemmas.Bool.{cases_lt}
use Rattle.std.proofs.lemmas.Option.{none-some}
use Rattle.std.proofs.lemmas.List.{length-map}
use Rattle.std.proofs.lemmas.List.Elements.{All-contains, Contains-append_right}
use Rattle.number_tables.specs.ContainmentOrder.Chains.{parts_of}
use Rattle.number_tables.proofs.ContainmentOrder.RingLemmas.{Ring, some_ring}
use Rattle.sil_ast.specs.declared.place.ValueId.{ValueId}
use Rattle.ownership_kinds_chains.specs.declared.ownership_chains.definition.Definition.{Definition}
use Rattle.ownership_kinds_chains.specs.declared.ownership_chains.facts.Facts.{Facts}
use Rattle.ownership_kinds_chains.specs.OwnershipChains.Chains.{operands_at, Chain, one, more, IsCyclic, IsInRange, HasNoRing, LeadsIntoRing}
use Rattle.ownership_kinds_chains.specs.OwnershipChains.Facts.{AreFactsOf, is_known, told_at, value_of}
use Rattle.ownership_kinds_chains.specs.OwnershipChains.inner.Outcome.{IsExact, AreAll, KnowsAllButRings}
use Rattle.ownership_kinds_chains.specs.OwnershipChains.inner.Numbers.{numbers_of, operand_numbers}
use Rattle.ownership_kinds_chains.specs.OwnershipChains.inner.Settling.{AreStuck}
use Rattle.ownership_kinds_chains.proofs.OwnershipChains.Depths.{all_from}
use Rattle.ownership_kinds_chains.proofs.OwnershipChains.FactLemmas.{end_at_rings}
use Rattle.ownership_kinds_chains.proofs.OwnershipChains.NumberLemmas.{chain_push, chain_value, part_of}

-- an operand of which nothing is known
some_unknown : (known : ValueId → Option Facts) (ops : List ValueId) → list_all (is_known known) ops ≡ false → (w : ValueId) × Contains ops w × (known w ≡ None)
some_unknown known [] h = absurd (cc)
some_unknown known (x ∷ ops) h = at (known x) refl (λ e. some_unknown known ops (sym (ap (λ b. b && list_all (is_known known) ops) e) ∙ h))
  where
    at : (o : Option Facts) → known x ≡ o → (is_known known x ≡ true → (w : ValueId) × Contains ops w × (known w ≡ None)) → (w : ValueId) × Contains (x ∷ ops) w × (known w ≡ None)
    at None e rest = (x, (0, omega arith, refl), e)
    at (Some f) e rest = let m = rest (ap is_some e) in (m.0, Contains-append_right (x ∷ []) ops m.0 m.1, m.2)

-- nothing is known of the value, and it is where a chain from the first one leads
abbrev IsLeft : List Definition → (ValueId → Option Facts) → ValueId → ValueId → Type 0
IsLeft defs known first v = (v.0 < length defs) × (known v ≡ None) × ((first ≡ v) ⊎ Chain defs first v)

leads_on : (defs : List Definition) (first v w : ValueId) → (first ≡ v) ⊎ Chain defs first v → Contains (operands_at defs v) w → (first ≡ w) ⊎ Chain defs first w
leads_on defs first v w (inl e) c = inr (subst (λ x. Chain defs x w) (sym e) (one v w c))
leads_on defs first v w (inr h) c = inr (chain_push defs first v w h c)

stuck_next : (defs : List Definition) (known : ValueId → Option Facts) (first : ValueId) → IsInRange defs → AreStuck defs known (length defs) →
    (v : ValueId) → IsLeft defs known first v → (w : ValueId) × Contains (operands_at defs v) w × (w.0 < length defs) × IsLeft defs known first w
stuck_next defs known first range stuck v p = at (list_all (is_known known) (operands_at defs v)) refl
  where
    found : (w : ValueId) × Contains (operands_at defs v) w × (known w ≡ None) → (w : ValueId) × Contains (operands_at defs v) w × (w.0 < length defs) × IsLeft defs known first w
    found u =
        let lt = All-contains (λ w. w.0 < length defs) (operands_at defs v) u.0 (range.inside v p.0) u.1 in
        (u.0, u.1, lt, (lt, u.2, leads_on defs first v u.0 p.2 u.1))

    at : (b : Bool) → list_all (is_known known) (operands_at defs v) ≡ b → (w : ValueId) × Contains (operands_at defs v) w × (w.0 < length defs) × IsLeft defs known first w
    at true e = absurd (none-some _ (sym (stuck v p.0 p.1) ∙ all_from defs known v e))
    at false e = found (some_unknown known (operands_at defs v) e)

-- from an unknown value a chain leads into a ring
unknown_leads : (defs : List Definition) (table : List (Option Facts)) → IsInRange defs → AreStuck defs (told_at table) (length defs) → (v : ValueId) → v.0 < length defs
    → told_at table v ≡ None → LeadsIntoRing defs v
unknown_leads defs table range stuck v lt none = found (some_ring (numbers_of defs) Left next v.0 (lt, none, inl refl))
  where
    Left : ℕ → Type 0
    Left n = IsLeft defs (told_at table) v (value_of n)

    next : (n : ℕ) → IsLeft defs (told_at table) v (value_of n) → (m : ℕ) × Contains (parts_of (numbers_of defs) n) m × (m < length (numbers_of defs)) × IsLeft defs (told_at table) v (value_of m)
    next n left =
        let w = stuck_next defs (told_at table) v range stuck (value_of n) left in
        let long : length (numbers_of defs) ≡ length defs = length-map defs operand_numbers in
        let inside : w.0.0 < length defs = w.2 in
        (w.0.0, part_of defs (value_of n) w.0 w.1, omega arith, w.3)

    found : Ring (numbers_of defs) (λ n. IsLeft defs (told_at table) v (value_of n)) → LeadsIntoRing defs v
    found r = (value_of r.0, at r.3.2, ring)
      where
        ring : IsCyclic defs (value_of r.0)
        ring = chain_value defs r.0 r.0 r.2

        at : (v ≡ value_of r.0) ⊎ Chain defs v (value_of r.0) → Chain defs v (value_of r.0)
        at (inl e) = subst (λ x. Chain defs x (value_of r.0)) (sym e) (chain_value defs r.0 r.0 r.2)
        at (inr h) = h

-- without a ring each value has facts
all_known : (defs : List Definition) (table : List (Option Facts)) → IsInRange defs → IsExact defs (told_at table) → AreStuck defs (told_at table) (length defs) → HasNoRing defs → AreAll defs table
all_known defs table range exact stuck none v lt = at (told_at table v) refl
  where
    at : (o : Option Facts) → told_at table v ≡ o → IsSomeAnd (told_at table v) (AreFactsOf defs v)
    at None e = let r = unknown_leads defs table range stuck v lt e in absurd (none r.0 r.2)
    at (Some f) e = subst (λ o. IsSomeAnd o (AreFactsOf defs v)) (sym e) ((exact v f lt).0 e)

pub just_unknown : (defs : List Definition) (table : List (Option Facts)) → IsInRange defs → IsExact defs (told_at table) → AreStuck defs (told_at table) (length defs) → KnowsAllButRings defs table
just_unknown defs table range exact stuck v lt = (unknown_leads defs table range stuck v lt, λ h. at h (told_at table v) refl)
  where
    at : LeadsIntoRing defs v → (o : Option Facts) → told_at table v ≡ o → told_at table v ≡ None
    at h None e = e
    at h (Some f) e = absurd (end_at_rings defs v f ((exact v f lt).0 e) h)

pub all_unless : (defs : List Definition) (table : List (Option Facts)) (o : Option ValueId) → IsInRange defs → IsExact defs (told_at table) → AreStuck defs (told_at table) (length defs) →
    IfNone o (HasNoRing defs) → IfNone o (AreAll defs table)
all_unless defs table None range exact stuck none = all_known defs table range exact stuck none
all_unless defs table (Some v) range exact stuck none = tt

-- beyond the function nothing has operands
no_operands : (defs : List Definition) (v : ValueId) → length defs ≤ v.0 → operands_at defs v ≡ []
no_operands defs v le = at defs v.0 le
  where
    at : (defs : List Definition) (n : ℕ) → length defs ≤ n → unwrap_or (slice_get (map (λ x. x.operands) defs) n) [] ≡ []
    at [] zero le = refl
    at [] (suc n) le = refl
    at (x ∷ defs) zero le = absurd (omega arith)
    at (x ∷ defs) (suc n) le = at defs n (omega arith)

no_chain : (defs : List Definition) (v w : ValueId) → operands_at defs v ≡ [] → Chain defs v w → ⊥
no_chain defs v w e (one _ _ c) = let c' : Contains [] w = subst (λ xs. Contains xs w) e c in let lt : c'.0 < 0 = c'.1 in omega arith
no_chain defs v w e (more _ u _ c h) = let c' : Contains [] u = subst (λ xs. Contains xs u) e c in let lt : c'.0 < 0 = c'.1 in omega arith

-- where each value has its operands before it, a chain only leads back, and to no ring
module _ (defs : List Definition) (ordered : (v : ValueId) → v.0 < length defs → All (λ w. w.0 < v.0) (operands_at defs v)) where
  operand_before : (v w : ValueId) → Contains (operands_at defs v) w → w.0 < v.0
  operand_before v w c = at (cases_lt v.0 (length defs))
    where
      at : (v.0 < length defs) ⊎ (length defs ≤ v.0) → w.0 < v.0
      at (inl lt) = All-contains (λ x. x.0 < v.0) (operands_at defs v) w (ordered v lt) c
      at (inr le) = absurd (no_chain defs v w (no_operands defs v le) (one v w c))

  leads_back : (v w : ValueId) → Chain defs v w → w.0 < v.0
  leads_back v w (one _ _ c) = operand_before v w c
  leads_back v w (more _ u _ c h) =
      let a : u.0 < v.0 = operand_before v u c in
      let b : w.0 < u.0 = leads_back u w h in
      omega arith

  pub ordered_off : HasNoRing defs
  ordered_off v h = let lt : v.0 < v.0 = leads_back v v h in omega arith
