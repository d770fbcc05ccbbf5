-- The kinds and bases of the values of a function in which a copy is lent: those of the function's, but that the copy is Guaranteed.
use Rattle.std.proofs.Common.{◌≡◌, ℕ, ◌<◌, ◌≤◌, List, [], ◌∷◌, length, take, refl, sym, ap, ap₂, ◌∙◌, subst, arith, Bool, Option, Some, None, true, false, ◌⊎◌, inl, inr}
use Rattle.std.specs.Prelude.{◌==◌, ◌^◌, All, Contains, cond, if◌then◌else◌, option_map, unwrap_or}
use Rattle.std.specs.List.{list_any}
use Rattle.std.proofs.lemmas.Bool.{cases_lt, eq-eqb, eqb-true, le-ltb, lt-ltb}
use Rattle.std.proofs.lemmas.List.Elements.{All-contains}
use Rattle.numbered_form.specs.Lists.{Each}
use Rattle.numbered_form.specs.Numbering.{values_of}
use Rattle.ownership_kinds_chains.proofs.OwnershipChains.Enough.{told_in_time}
use Rattle.ownership_kinds_chains.specs.OwnershipChains.Chains.{IsInRange, operands_at}
use Rattle.ownership_kinds_chains.specs.OwnershipChains.Facts.{AreFactsOf, bases_together, by_kind, by_operands, facts_with, forwarded, handed_on, has, is_guaranteed, is_owned, known_or, listed}
use Rattle.ownership_kinds_chains.specs.OwnershipChains.Facts.{origin_at, told, told_by}
use Rattle.ownership_kinds_chains.specs.OwnershipChains.Steps.{told_in}
use Rattle.ownership_kinds_chains.specs.declared.ownership_chains.definition.Definition.{Definition}
use Rattle.ownership_kinds_chains.specs.declared.ownership_chains.definition.Origin.{Origin}
use Rattle.ownership_kinds_chains.specs.declared.ownership_chains.definition.Origin.TheVariants as origin
use Rattle.ownership_kinds_chains.specs.declared.ownership_chains.facts.Facts.{Facts}
use Rattle.copy_pairing_model.specs.ownership_kinds_origins.Facts.{facts_in}
use Rattle.copy_pairing_model.proofs.ownership_kinds_origins.Counts.{are_of_values}
use Rattle.copy_pairing_model.specs.ownership_kinds_origins.Origins.{definitions_of}
use Rattle.sil_ast.specs.declared.function.Function.{Function}
use Rattle.sil_ast.specs.declared.place.PointId.{PointId}
use Rattle.sil_ast.specs.declared.place.ValueId.{ValueId}
use Rattle.sil_types_declarations.specs.TypeDefinitions.Declarations.{Declarations}
use Rattle.sil_types_declarations.specs.declared.type_definitions.kind.Kind.{Kind}
use Rattle.sil_types_declarations.specs.declared.type_definitions.kind.Kind.TheVariants as kind
use Rattle.copy_pairing_model.specs.Rewritten.{lent}
use Rattle.copy_pairing_acceptance.proofs.LentFunctions.Avoided.{Avoids, IsOther, avoided}
use Rattle.copy_pairing_acceptance.proofs.LentFunctions.Lists.{any_each, each_contained, each_weaker}
use Rattle.copy_pairing_acceptance.proofs.LentFunctions.Parts.{values_lent}
use Rattle.copy_pairing_acceptance.proofs.LentFunctions.Ready.{IsValue, Ready}
use Rattle.copy_pairing_acceptance.proofs.LentFunctions.Rows.{operands_lent}
use Rattle.copy_pairing_acceptance.proofs.LentFunctions.ValueRows.{lent_origin, origin_kept, owned_origin, same_value}

abbrev pub lent_if : Bool → Facts → Facts
lent_if true x = facts_with kind.Guaranteed x.bases
lent_if false x = x

-- the copy is Guaranteed, and each value has the bases that it had
abbrev pub as_lent : ValueId → ValueId → Facts → Facts
as_lent c w x = lent_if (w.0 == c.0) x

same_bases : (b : Bool) (x : Facts) → (lent_if b x).bases ≡ x.bases
same_bases true x = refl
same_bases false x = refl

module _ (d : Declarations) (f : Function) (p : PointId) (c v : ValueId) (r : Ready d f p c v) where
  abbrev defs : List Definition
  defs = definitions_of d f

  abbrev lent_defs : List Definition
  lent_defs = definitions_of d (lent c f)

  -- ---- what is told by facts of which only the copy's differ

  module _ (n : ℕ) (w : ValueId) (at : ValueId → Facts) where
    abbrev lent_at : ValueId → Facts
    lent_at u = as_lent c u (at u)

    unchanged : (u : ValueId) → IsOther c u → lent_at u ≡ at u
    unchanged u e = ap (λ b. lent_if b (at u)) e

    kinds_same : (ops : List ValueId) → Each (IsOther c) ops → forwarded lent_at ops ≡ forwarded at ops
    kinds_same ops h =
        ap₂ (λ a b. cond a kind.Owned (cond b kind.Guaranteed kind.Plain))
        (any_each (λ u. is_owned (lent_at u).kind) (λ u. is_owned (at u).kind) ops
        (each_weaker (IsOther c) (λ u. is_owned (lent_at u).kind ≡ is_owned (at u).kind) (λ u e. ap (λ (x : Facts). is_owned x.kind) (unchanged u e)) ops h))
        (any_each (λ u. is_guaranteed (lent_at u).kind) (λ u. is_guaranteed (at u).kind) ops
        (each_weaker (IsOther c) (λ u. is_guaranteed (lent_at u).kind ≡ is_guaranteed (at u).kind) (λ u e. ap (λ (x : Facts). is_guaranteed x.kind) (unchanged u e)) ops h))

    together_same : (only : Bool) (ops : List ValueId) → Each (λ u. handed_on only (lent_at u) ≡ handed_on only (at u)) ops
        → bases_together n only lent_at ops ≡ bases_together n only at ops
    together_same only ops h = ap (listed n) (λ i b. each_base b i)
      where
        each_base : (b : ℕ) → list_any (λ u. has (handed_on only (lent_at u)) b) ops ≡ list_any (λ u. has (handed_on only (at u)) b) ops
        each_base b =
            any_each (λ u. has (handed_on only (lent_at u)) b) (λ u. has (handed_on only (at u)) b) ops
            (each_weaker (λ u. handed_on only (lent_at u) ≡ handed_on only (at u)) (λ u. has (handed_on only (lent_at u)) b ≡ has (handed_on only (at u)) b)
            (λ u e. ap (λ xs. has xs b) e) ops h)

    together_of_others : (ops : List ValueId) → Each (IsOther c) ops → bases_together n true lent_at ops ≡ bases_together n true at ops
    together_of_others ops h =
        together_same true ops
        (each_weaker (IsOther c) (λ u. handed_on true (lent_at u) ≡ handed_on true (at u)) (λ u e. ap (handed_on true) (unchanged u e)) ops h)

    by_kind_same : (k : Kind) (ops : List ValueId) → Each (IsOther c) ops → by_kind n w lent_at ops k ≡ by_kind n w at ops k
    by_kind_same kind.Owned ops h = refl
    by_kind_same kind.Guaranteed ops h = ap (facts_with kind.Guaranteed) (together_of_others ops h)
    by_kind_same kind.Plain ops h = refl

    by_operands_same : (ops : List ValueId) → Each (IsOther c) ops → by_operands n w lent_at ops ≡ by_operands n w at ops
    by_operands_same ops h = by_kind_same (forwarded lent_at ops) ops h ∙ ap (by_kind n w at ops) (kinds_same ops h)

    first_one : (ops : List ValueId) → Each (IsOther c) ops → Each (IsOther c) (take 1 ops)
    first_one [] h = tt
    first_one (u ∷ ops) h = (h.0, tt)

    told_same : (o : Origin) (ops : List ValueId) → Avoids d f p c v r o ops → told_by n w lent_at ops o ≡ told_by n w at ops o
    told_same origin.Owned ops h = refl
    told_same origin.Lender ops h = refl
    told_same origin.Plain ops h = refl
    told_same origin.Forward ops h = by_operands_same ops h
    told_same origin.Same ops h = by_operands_same (take 1 ops) (first_one ops h)
    told_same origin.Lent ops h = ap (facts_with kind.Guaranteed) (together_of_others ops h)
    told_same origin.Address ops h =
        ap (facts_with kind.Plain)
        (together_same false ops (each_contained (λ u. handed_on false (lent_at u) ≡ handed_on false (at u)) ops (λ u k. same_bases (u.0 == c.0) (at u))))

  -- ---- the facts of each value

  count_same : length lent_defs ≡ length defs
  count_same = (are_of_values d (lent c f)).0 ∙ ap length (values_lent c f) ∙ sym (are_of_values d f).0

  is_in : (w : ValueId) → IsValue f w → w.0 < length defs
  is_in w lt = let level : length defs ≡ length (values_of f.blocks) = (are_of_values d f).0 in omega arith

  operand_inside : (w u : ValueId) → IsValue f w → Contains (operands_at defs w) u → IsValue f u
  operand_inside w u lt k =
      let inside : u.0 < length defs = All-contains (λ x. x.0 < length defs) (operands_at defs w) u (r.facts.ranged.inside w (is_in w lt)) k in
      let level : length defs ≡ length (values_of f.blocks) = (are_of_values d f).0 in
      omega arith

  abbrev old : ValueId → (ValueId → Facts) → Facts
  old w at = told_by (length defs) w at (operands_at defs w) (origin_at defs w)

  told_lent : (w : ValueId) (at : ValueId → Facts) → IsValue f w
      → told_by (length lent_defs) w (λ u. as_lent c u (at u)) (operands_at lent_defs w) (origin_at lent_defs w) ≡ as_lent c w (old w at)
  told_lent w at lt = by (w.0 == c.0) refl
    where
      there : ValueId → Facts
      there u = as_lent c u (at u)

      by : (b : Bool) → (w.0 == c.0) ≡ b
          → told_by (length lent_defs) w (λ u. as_lent c u (at u)) (operands_at lent_defs w) (origin_at lent_defs w) ≡ as_lent c w (old w at)
      by false e =
          ap (λ k. told_by k w (λ u. as_lent c u (at u)) (operands_at lent_defs w) (origin_at lent_defs w)) count_same
          ∙ ap (λ os. told_by (length defs) w (λ u. as_lent c u (at u)) os (origin_at lent_defs w)) (operands_lent c d f w)
          ∙ ap (λ o. told_by (length defs) w (λ u. as_lent c u (at u)) (operands_at defs w) o)
          (origin_kept d f p c v r w lt (λ same. let wrong : false ≡ true = sym e ∙ eq-eqb w.0 c.0 same in absurd (cc)))
          ∙ told_same (length defs) w at (origin_at defs w) (operands_at defs w) (avoided d f p c v r w lt)
          ∙ sym (ap (λ b. lent_if b (old w at)) e)
      by true e =
          let is : w ≡ c = same_value w c (eqb-true w.0 c.0 e) in
          ap (λ o. told_by (length lent_defs) w (λ u. as_lent c u (at u)) (operands_at lent_defs w) o) (ap (origin_at lent_defs) is ∙ lent_origin d f p c v r)
          ∙ sym (ap₂ (λ b o. lent_if b (told_by (length defs) w at (operands_at defs w) o)) e (ap (origin_at defs) is ∙ owned_origin d f p c v r))

  facts_told : (w : ValueId) (x : Facts) → IsValue f w → AreFactsOf defs w x → AreFactsOf lent_defs w (as_lent c w x)
  facts_told w _ lt (told _ at sub) =
      subst (AreFactsOf lent_defs w) (told_lent w at lt)
      (told w (λ u. as_lent c u (at u))
      (λ u k.
      facts_told u (at u) (operand_inside w u lt (subst (λ os. Contains os u) (operands_lent c d f w) k)) (sub u (subst (λ os. Contains os u) (operands_lent c d f w) k))))

  pub ranged_lent : IsInRange lent_defs
  ranged_lent = record {
    few = subst (λ n. n ≤ 2 ^ 32) (sym count_same) r.facts.ranged.few;
    inside = λ w lt. subst (λ n. All (λ x. x.0 < n) (operands_at lent_defs w)) (sym count_same)
        (subst (All (λ x. x.0 < length defs)) (sym (operands_lent c d f w)) (r.facts.ranged.inside w (subst (λ n. w.0 < n) count_same lt)));
  }

  pub facts_lent : (w : ValueId) → facts_in d (lent c f) w ≡ option_map (as_lent c w) (facts_in d f w)
  facts_lent w = by (cases_lt w.0 (length defs))
    where
      by : (w.0 < length defs) ⊎ (length defs ≤ w.0) → facts_in d (lent c f) w ≡ option_map (as_lent c w) (facts_in d f w)
      by (inl lt) =
          let level : length defs ≡ length (values_of f.blocks) = (are_of_values d f).0 in
          let value : IsValue f w = omega arith in
          let x = r.facts.known w value in
          let within : w.0 < length lent_defs = subst (λ n. w.0 < n) (sym count_same) lt in
          ap (λ b. if b then told_in lent_defs (length lent_defs) w else None) (lt-ltb w.0 (length lent_defs) within)
          ∙ (told_in_time lent_defs w (as_lent c w x.0) ranged_lent within).0 (facts_told w x.0 value x.2)
          ∙ sym (ap (option_map (as_lent c w)) x.1)
      by (inr le) =
          let past : length lent_defs ≤ w.0 = subst (λ n. n ≤ w.0) (sym count_same) le in
          ap (λ b. if b then told_in lent_defs (length lent_defs) w else None) (le-ltb w.0 (length lent_defs) past)
          ∙ sym (ap (λ b. option_map (as_lent c w) (if b then told_in defs (length defs) w else None)) (le-ltb w.0 (length defs) le))

  pub other_facts : (w : ValueId) → IsOther c w → facts_in d (lent c f) w ≡ facts_in d f w
  other_facts w e = facts_lent w ∙ at (facts_in d f w)
    where
      at : (o : Option Facts) → option_map (as_lent c w) o ≡ o
      at None = refl
      at (Some x) = ap (λ b. Some (lent_if b x)) e

  pub copy_facts : facts_in d (lent c f) c ≡ Some (facts_with kind.Guaranteed (c ∷ []))
  copy_facts = facts_lent c ∙ ap (option_map (as_lent c c)) r.owned ∙ ap (λ b. Some (lent_if b (facts_with kind.Owned (c ∷ [])))) (eq-eqb c.0 c.0 refl)

  pub bases_lent : (w : ValueId) → (known_or (facts_in d (lent c f)) w).bases ≡ (known_or (facts_in d f) w).bases
  bases_lent w = ap (λ (o : Option Facts). (unwrap_or o (facts_with kind.Plain [])).bases) (facts_lent w) ∙ at (facts_in d f w)
    where
      at : (o : Option Facts) → (unwrap_or (option_map (as_lent c w) o) (facts_with kind.Plain [])).bases ≡ (unwrap_or o (facts_with kind.Plain [])).bases
      at None = refl
      at (Some x) = same_bases (w.0 == c.0) x
