-- The bases of values: which values are their own, and from which operands the others have theirs.
use Rattle.std.proofs.Common.{◌≡◌, ℕ, ◌<◌, ◌≤◌, List, [], ◌∷◌, length, map, sym, ap, ◌∙◌, arith, true, false, ◌⊎◌, inl, inr, Some}
use Rattle.std.specs.Prelude.{Contains, unwrap_or}
use Rattle.std.proofs.lemmas.Bool.{cases_lt}
use Rattle.std.proofs.lemmas.List.{length-map}
use Rattle.std.proofs.lemmas.Option.{slice_get_past}
use Rattle.sil_ast.specs.declared.function.Function.{Function}
use Rattle.sil_ast.specs.declared.module.Module.{Module}
use Rattle.sil_ast.specs.declared.place.ValueId.{ValueId}
use Rattle.numbered_form.specs.Numbering.{values_of}
use Rattle.holder_model_typing.specs.ownership_kinds_chains.OwnershipChains.Chains.{operands_at}
use Rattle.holder_model_typing.specs.ownership_kinds_chains.OwnershipChains.Facts.{AreFactsOf, facts_with, has, origin_at, told, told_by, value_of}
use Rattle.holder_model_typing.specs.ownership_kinds_chains.declared.ownership_chains.definition.Definition.{Definition}
use Rattle.holder_model_typing.specs.ownership_kinds_chains.declared.ownership_chains.definition.Origin.TheVariants as origin
use Rattle.holder_model_typing.specs.ownership_kinds_chains.declared.ownership_chains.facts.Facts.{Facts}
use Rattle.holder_model_typing.specs.ownership_kinds_origins.Facts.{facts_in}
use Rattle.holder_model_typing.specs.ownership_kinds_origins.Origins.{definitions_of}
use Rattle.holder_model_typing.specs.sil_types_declarations.TypeDefinitions.Declarations.{Declarations, declarations_of}
use Rattle.holder_model_typing.specs.sil_types_declarations.declared.type_definitions.kind.Kind.{Kind}
use Rattle.holder_model_typing.specs.sil_types_declarations.declared.type_definitions.kind.Kind.TheVariants as kind
use Rattle.sil_verifier_values.specs.inner.Bases.{AreBasesOfAddresses, AreFromOperands, AreHandedOn, AreLendersOwnBases, AreLentByLenders, AreOwnedOwnBases, IsBaseOf, IsLender}
use Rattle.sil_verifier_values.specs.inner.Known.{IsAcceptedBody, IsValue, facts_at, kind_at, told_in_function}
use Rattle.sil_verifier_values.proofs.Accepted.{as_many}
use Rattle.sil_verifier_values.proofs.Borrowed.{lends, opened}
use Rattle.sil_verifier_values.proofs.Extracts.{one_of_extract}
use Rattle.sil_verifier_values.proofs.Facts.{facts_so, known, told_so, value_or_none}
use Rattle.sil_verifier_values.proofs.Told.{BaseFrom, addressed, base_from, into_together, itself, lent, lent_on, owned_told}

-- ---- a Guaranteed value is lent by what lends itself

pub lent_so : (defs : List Definition) (v : ValueId) (x : Facts) → AreFactsOf defs v x → x.kind ≡ kind.Guaranteed → (b : ℕ) → has x.bases b ≡ true
    → origin_at defs (value_of b) ≡ origin.Lender
lent_so defs v _ (told _ at below) e b h =
    by (base_from (length defs) v at (operands_at defs v) (origin_at defs v) b h) (λ w c. lent_so defs w (at w) (below w c))
  where
    by : BaseFrom (length defs) v at (operands_at defs v) (origin_at defs v) (told_by (length defs) v at (operands_at defs v) (origin_at defs v)).kind b
        → ((w : ValueId) → Contains (operands_at defs v) w → (at w).kind ≡ kind.Guaranteed → (c : ℕ) → has (at w).bases c ≡ true → origin_at defs (value_of c) ≡ origin.Lender)
        → origin_at defs (value_of b) ≡ origin.Lender
    by (itself same (inl o)) rest = ap (λ k. origin_at defs (value_of k)) same ∙ o
    by (itself same (inr owned)) rest = cc
    by (lent lt g w c k h) rest = rest w c k b h
    by (addressed lt o w c h) rest = absurd (no_kind o)
      where
        no_kind : origin_at defs v ≡ origin.Address → ⊥
        no_kind o = let plain : (told_by (length defs) v at (operands_at defs v) (origin_at defs v)).kind ≡ kind.Plain =
            ap (λ o. (told_by (length defs) v at (operands_at defs v) o).kind) o in cc

-- a number that is no value's doesn't lend
beyond_all : (defs : List Definition) (v : ValueId) → length defs ≤ v.0 → origin_at defs v ≡ origin.Plain
beyond_all defs v le =
    let long : length (map (λ (x : Definition). x.origin) defs) ≡ length defs = length-map defs (λ (x : Definition). x.origin) in
    ap (λ o. unwrap_or o origin.Plain) (slice_get_past (map (λ (x : Definition). x.origin) defs) v.0 (omega arith))

module _ (m : Module) (n : ℕ) (f : Function) (a : IsAcceptedBody m n f) where
  abbrev d : Declarations
  d = declarations_of m

  abbrev defs : List Definition
  defs = definitions_of d f

  -- ---- values that have kinds, or bases

  kinded : (v : ValueId) (k : Kind) → kind_at d f v ≡ k → (k ≡ kind.Plain → ⊥) → IsValue f v
  kinded v k e some = at (value_or_none d f v)
    where
      at : IsValue f v ⊎ (facts_at d f v ≡ facts_with kind.Plain []) → IsValue f v
      at (inl lt) = lt
      at (inr none) = absurd (some (sym e ∙ ap (λ (x : Facts). x.kind) none))

  pub based : (v b : ValueId) → IsBaseOf d f b v → IsValue f v
  based v b h = at (value_or_none d f v)
    where
      at : IsValue f v ⊎ (facts_at d f v ≡ facts_with kind.Plain []) → IsValue f v
      at (inl lt) = lt
      at (inr none) = let no : false ≡ true = ap (λ (x : Facts). has x.bases b.0) (sym none) ∙ h in cc

  pub owned_value : (v : ValueId) → kind_at d f v ≡ kind.Owned → IsValue f v
  owned_value v e = kinded v kind.Owned e (λ h. cc)

  pub guaranteed_value : (v : ValueId) → kind_at d f v ≡ kind.Guaranteed → IsValue f v
  guaranteed_value v e = kinded v kind.Guaranteed e (λ h. cc)

  lender_value : (v : ValueId) → origin_at defs v ≡ origin.Lender → IsValue f v
  lender_value v e = at (cases_lt v.0 (length (values_of f.blocks)))
    where
      at : (v.0 < length (values_of f.blocks)) ⊎ (length (values_of f.blocks) ≤ v.0) → IsValue f v
      at (inl lt) = lt
      at (inr le) =
          let level : length defs ≡ length (values_of f.blocks) = as_many m n f a in
          let none : origin_at defs v ≡ origin.Plain = beyond_all defs v (omega arith) in
          cc

  -- ---- what is its own base

  owned_itself : (v : ValueId) → kind_at d f v ≡ kind.Owned → facts_in d f v ≡ Some (facts_with kind.Owned (v ∷ []))
  owned_itself v e =
      let lt = owned_value v e in
      let so : (told_in_function d f v).kind ≡ kind.Owned = ap (λ (x : Facts). x.kind) (sym (facts_so m n f a v lt)) ∙ e in
      told_so m n f a v lt ∙ ap (λ x. Some x) (owned_told (length defs) v (facts_at d f) (operands_at defs v) (origin_at defs v) so)

  pub lender : (v : ValueId) → origin_at defs v ≡ origin.Lender → IsLender d f v
  lender v e =
      let lt = lender_value v e in
      record {
        lends = e;
        facts = told_so m n f a v lt ∙ ap (λ o. Some (told_by (length defs) v (facts_at d f) (operands_at defs v) o)) e;
        opened = opened m n f a v lt e;
      }

  -- ---- the bases of others

  told_base : (v b : ValueId) → IsBaseOf d f b v
      → BaseFrom (length defs) v (facts_at d f) (operands_at defs v) (origin_at defs v) (told_in_function d f v).kind b.0
  told_base v b h =
      base_from (length defs) v (facts_at d f) (operands_at defs v) (origin_at defs v) b.0
      (ap (λ (x : Facts). has x.bases b.0) (sym (facts_so m n f a v (based v b h))) ∙ h)

  pub inside : (v b : ValueId) → IsBaseOf d f b v → b.0 < length defs
  inside v b h = by (told_base v b h)
    where
      by : {k : Kind} → BaseFrom (length defs) v (facts_at d f) (operands_at defs v) (origin_at defs v) k b.0 → b.0 < length defs
      by (itself same e) =
          let lt : v.0 < length (values_of f.blocks) = based v b h in
          let level : length defs ≡ length (values_of f.blocks) = as_many m n f a in
          omega arith
      by (lent lt e w c g k) = lt
      by (addressed lt e w c k) = lt

  from_operand : (v b : ValueId) → IsBaseOf d f b v → (b ≡ v) ⊎ ((w : ValueId) × Contains (operands_at defs v) w × IsBaseOf d f b w)
  from_operand v b h = by (told_base v b h)
    where
      by : {k : Kind} → BaseFrom (length defs) v (facts_at d f) (operands_at defs v) (origin_at defs v) k b.0
          → (b ≡ v) ⊎ ((w : ValueId) × Contains (operands_at defs v) w × IsBaseOf d f b w)
      by (itself same e) = inl (ap value_of same)
      by (lent lt e w c g k) = inr (w, c, k)
      by (addressed lt e w c k) = inr (w, c, k)

  on_to : (v w b : ValueId) → kind_at d f v ≡ kind.Guaranteed → (origin_at defs v ≡ origin.Lender → ⊥) → Contains (operands_at defs v) w
      → kind_at d f w ≡ kind.Guaranteed → IsBaseOf d f b w → IsBaseOf d f b v
  on_to v w b e other c g h =
      let lt = guaranteed_value v e in
      let so : (told_in_function d f v).kind ≡ kind.Guaranteed = ap (λ (x : Facts). x.kind) (sym (facts_so m n f a v lt)) ∙ e in
      ap (λ (x : Facts). has x.bases b.0) (facts_so m n f a v lt)
      ∙ lent_on (length defs) v (facts_at d f) (operands_at defs v) (origin_at defs v) b.0 w (inside w b h) other so c
      (λ same. one_of_extract m n f a v w lt same c) g h

  to_address : (v w b : ValueId) → IsValue f v → origin_at defs v ≡ origin.Address → Contains (operands_at defs v) w → IsBaseOf d f b w → IsBaseOf d f b v
  to_address v w b lt e c h =
      ap (λ (x : Facts). has x.bases b.0) (facts_so m n f a v lt)
      ∙ ap (λ o. has (told_by (length defs) v (facts_at d f) (operands_at defs v) o).bases b.0) e
      ∙ into_together (length defs) v (facts_at d f) false (operands_at defs v) b.0 (inside w b h) w c h

pub owned_own_bases : AreOwnedOwnBases
owned_own_bases m n f a v e = owned_itself m n f a v e

pub lenders_own_bases : AreLendersOwnBases
lenders_own_bases m n f a v (inl e) = lender m n f a v e
lenders_own_bases m n f a v (inr e) = lender m n f a v (lends m n f a v e)

pub lent_by_lenders : AreLentByLenders
lent_by_lenders m n f a v b e h =
    lender m n f a b (lent_so (definitions_of (declarations_of m) f) v (facts_at (declarations_of m) f v) (known m n f a v (guaranteed_value m n f a v e)) e b.0 h)

pub from_operands : AreFromOperands
from_operands m n f a v b h = from_operand m n f a v b h

pub handed_on : AreHandedOn
handed_on m n f a v w b e other c g h = on_to m n f a v w b e other c g h

pub bases_of_addresses : AreBasesOfAddresses
bases_of_addresses m n f a v w b lt e c h = to_address m n f a v w b lt e c h
