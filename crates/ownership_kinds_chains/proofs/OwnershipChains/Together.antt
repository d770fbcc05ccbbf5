-- The bases that operands hand on, one operand after another.
use Rattle.std.proofs.Common.{◌≡◌, ℕ, ◌+◌, ◌<◌, ◌≤◌, List, [], length, get_or, take, refl, sym, ap, ◌∙◌, subst, Bool, true, false, cond, Option, Some, None}
use Rattle.std.specs.Prelude.{unwrap_or, ◌||◌, not}
use Rattle.std.specs.List.{list_any}
use Rattle.std.proofs.lemmas.List.{take_all}
use Rattle.std.proofs.lemmas.List.Folds.{list_any_more}
use Rattle.sil_ast.specs.declared.place.ValueId.{ValueId}
use Rattle.sil_types_declarations.specs.declared.type_definitions.kind.Kind.TheVariants as kind
use Rattle.ownership_kinds_chains.specs.declared.ownership_chains.facts.Facts.{Facts}
use Rattle.ownership_kinds_chains.specs.OwnershipChains.Facts.{bases_together, facts_with, handed_on, has, is_guaranteed, known_or, listed}
use Rattle.ownership_kinds_chains.specs.OwnershipChains.inner.Settling.{IsListed, AreListed}
use Rattle.ownership_kinds_chains.proofs.OwnershipChains.Listed.{listed_same, none_listed}

none_is_listed : (count : ℕ) → IsListed count []
none_is_listed count = none_listed count (λ _. false) (λ _. refl)

either_listed : (count : ℕ) (b : Bool) (bases : List ValueId) → IsListed count bases → IsListed count (cond b bases [])
either_listed count true bases h = h
either_listed count false bases h = none_is_listed count

pub handed_listed : (count : ℕ) (known : ValueId → Option Facts) (only : Bool) (w : ValueId) → AreListed count known → IsListed count (handed_on only (known_or known w))
handed_listed count known only w h = by (known w) refl
  where
    by : (o : Option Facts) → known w ≡ o → IsListed count (handed_on only (known_or known w))
    by None e =
        subst (λ (f : Facts). IsListed count (handed_on only f)) (sym (ap (λ (o : Option Facts). unwrap_or o (facts_with kind.Plain [])) e))
        (either_listed count (not only || false) [] (none_is_listed count))
    by (Some f) e =
        subst (λ (g : Facts). IsListed count (handed_on only g)) (sym (ap (λ (o : Option Facts). unwrap_or o (facts_with kind.Plain [])) e))
        (either_listed count (not only || is_guaranteed f.kind) f.bases (h w f e))

-- one operand more
pub together_more : (count : ℕ) (known : ValueId → Option Facts) (only : Bool) (ops : List ValueId) (i : ℕ) (d : ValueId) (so_far handed all : List ValueId) → i < length ops →
    AreListed count known → handed ≡ handed_on only (known_or known (get_or ops i d)) → so_far ≡ bases_together count only (known_or known) (take i ops) →
    ((p q : ℕ → Bool) → so_far ≡ listed count p → handed ≡ listed count q → all ≡ listed count (λ b. p b || q b)) →
    all ≡ bases_together count only (known_or known) (take (i + 1) ops)
together_more count known only ops i d so_far handed all lt ok is before union =
    union (λ b. list_any (λ w. has (handed_on only (known_or known w)) b) (take i ops)) (has (handed_on only (known_or known (get_or ops i d)))) before (is
    ∙ handed_listed count known only (get_or ops i d) ok) ∙
    listed_same (λ b. list_any (λ w. has (handed_on only (known_or known w)) b) (take i ops) || has (handed_on only (known_or known (get_or ops i d))) b)
    (λ b. list_any (λ w. has (handed_on only (known_or known w)) b) (take (i + 1) ops)) count
    (λ b _. sym (list_any_more (λ w. has (handed_on only (known_or known w)) b) ops i d lt))

pub together_none : (count : ℕ) (known : ValueId → Option Facts) (only : Bool) → [] ≡ bases_together count only (known_or known) []
together_none count known only = none_is_listed count

pub together_all : (count : ℕ) (known : ValueId → Option Facts) (only : Bool) (ops : List ValueId) (i : ℕ) (all : List ValueId) → length ops ≤ i
    → all ≡ bases_together count only (known_or known) (take i ops) → all ≡ bases_together count only (known_or known) ops
together_all count known only ops i all le h = h ∙ ap (bases_together count only (known_or known)) (take_all i ops le)
