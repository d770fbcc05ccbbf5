-- Facts that are told by those of operands: each value has one, and what is known at one depth is known at each greater one.
use Rattle.std.proofs.Common.{◌≡◌, ℕ, zero, suc, ◌+◌, ◌<◌, List, [], ◌∷◌, length, take, refl, sym, ap, ap₂, ◌∙◌, subst, arith, Bool, true, false, cond, Option, Some, None}
use Rattle.std.specs.Prelude.{All, Contains, is_some, unwrap_or, slice_get, ◌&&◌, ◌||◌}
use Rattle.std.specs.List.{list_any, list_all}
use Rattle.std.proofs.lemmas.Option.{none-some, same_Some}
use Rattle.std.proofs.lemmas.List.Sums.{AllPass-from_list_all}
use Rattle.std.proofs.lemmas.List.Elements.{All-contains, All-head, All-tail, Contains-append_right}
use Rattle.ownership_kinds_chains.specs.declared.ownership_chains.definition.Definition.{Definition}
use Rattle.sil_types_declarations.specs.declared.type_definitions.kind.Kind.{Kind}
use Rattle.sil_types_declarations.specs.declared.type_definitions.kind.Kind.TheVariants as kind
use Rattle.ownership_kinds_chains.specs.declared.ownership_chains.definition.Origin.{Origin}
use Rattle.ownership_kinds_chains.specs.declared.ownership_chains.definition.Origin.TheVariants.{Owned, Lender, Plain, Forward, Same, Lent, Address}
use Rattle.ownership_kinds_chains.specs.declared.ownership_chains.facts.Facts.{Facts}
use Rattle.sil_ast.specs.declared.place.ValueId.{ValueId}
use Rattle.ownership_kinds_chains.specs.OwnershipChains.Chains.{operands_at, IsInRange}
use Rattle.ownership_kinds_chains.specs.OwnershipChains.Facts.{origin_at, facts_with, forwarded, bases_together, by_kind, by_operands, told_by, is_known}
use Rattle.ownership_kinds_chains.specs.OwnershipChains.Facts.{known_or, told_at, AreFactsOf, told, is_owned, is_guaranteed, has, handed_on}
use Rattle.ownership_kinds_chains.specs.OwnershipChains.Steps.{told_from, told_in}
use Rattle.ownership_kinds_chains.specs.OwnershipChains.inner.Outcome.{IsExact}
use Rattle.ownership_kinds_chains.specs.OwnershipChains.inner.Settling.{IsBelow, IsSound, AreStuck, IsListed, AreListed}
use Rattle.ownership_kinds_chains.proofs.OwnershipChains.Listed.{listed_same, listed_listed, alone_listed, none_listed}

-- two tellings agree on the operands
abbrev pub Agree : (ValueId → Facts) → (ValueId → Facts) → List ValueId → Type 0
Agree at to [] = Unit {0}
Agree at to (w ∷ ops) = (at w ≡ to w) × Agree at to ops

any_agree : (test : Facts → Bool) (at to : ValueId → Facts) (ops : List ValueId) → Agree at to ops → list_any (λ w. test (at w)) ops ≡ list_any (λ w. test (to w)) ops
any_agree test at to [] h = refl
any_agree test at to (w ∷ ops) h = ap₂ (λ a b. a || b) (ap test h.0) (any_agree test at to ops h.1)

together_agree : (count : ℕ) (only : Bool) (at to : ValueId → Facts) (ops : List ValueId) → Agree at to ops → bases_together count only at ops ≡ bases_together count only to ops
together_agree count only at to ops h =
    listed_same (λ b. list_any (λ w. has (handed_on only (at w)) b) ops) (λ b. list_any (λ w. has (handed_on only (to w)) b) ops) count (λ b _. any_agree (λ f. has (handed_on only f) b) at to ops h)

forwarded_agree : (at to : ValueId → Facts) (ops : List ValueId) → Agree at to ops → forwarded at ops ≡ forwarded to ops
forwarded_agree at to ops h =
    ap₂ (λ a b. cond a kind.Owned (cond b kind.Guaranteed kind.Plain)) (any_agree (λ f. is_owned f.kind) at to ops h) (any_agree (λ f. is_guaranteed f.kind) at to ops h)

by_kind_agree : (count : ℕ) (v : ValueId) (at to : ValueId → Facts) (ops : List ValueId) (k : Kind) → Agree at to ops → by_kind count v at ops k ≡ by_kind count v to ops k
by_kind_agree count v at to ops kind.Owned h = refl
by_kind_agree count v at to ops kind.Guaranteed h = ap (facts_with kind.Guaranteed) (together_agree count true at to ops h)
by_kind_agree count v at to ops kind.Plain h = refl

by_operands_agree : (count : ℕ) (v : ValueId) (at to : ValueId → Facts) (ops : List ValueId) → Agree at to ops → by_operands count v at ops ≡ by_operands count v to ops
by_operands_agree count v at to ops h = by_kind_agree count v at to ops (forwarded at ops) h ∙ ap (by_kind count v to ops) (forwarded_agree at to ops h)

first_agree : (at to : ValueId → Facts) (ops : List ValueId) → Agree at to ops → Agree at to (take 1 ops)
first_agree at to [] h = tt
first_agree at to (w ∷ ops) h = (h.0, tt)

told_agree : (count : ℕ) (v : ValueId) (at to : ValueId → Facts) (ops : List ValueId) (o : Origin) → Agree at to ops → told_by count v at ops o ≡ told_by count v to ops o
told_agree count v at to ops Owned h = refl
told_agree count v at to ops Lender h = refl
told_agree count v at to ops Plain h = refl
told_agree count v at to ops Forward h = by_operands_agree count v at to ops h
told_agree count v at to ops Same h = by_operands_agree count v at to (take 1 ops) (first_agree at to ops h)
told_agree count v at to ops Lent h = ap (facts_with kind.Guaranteed) (together_agree count true at to ops h)
told_agree count v at to ops Address h = ap (facts_with kind.Plain) (together_agree count false at to ops h)

both_true : (a b : Bool) → (a && b) ≡ true → (a ≡ true) × (b ≡ true)
both_true true b h = (refl, h)
both_true false b h = absurd (cc)

-- what is known of all operands, one that knows more knows too
all_agree : (known more : ValueId → Option Facts) (ops : List ValueId) → IsBelow known more → list_all (is_known known) ops ≡ true →
    (list_all (is_known more) ops ≡ true) × Agree (known_or known) (known_or more) ops
all_agree known more [] below h = (refl, tt)
all_agree known more (w ∷ ops) below h = at (known w) refl (all_agree known more ops below parts.1)
  where
    parts : (is_some (known w) ≡ true) × (list_all (is_known known) ops ≡ true)
    parts = both_true (is_some (known w)) (list_all (is_known known) ops) h

    at : (o : Option Facts) → known w ≡ o → (list_all (is_known more) ops ≡ true) × Agree (known_or known) (known_or more) ops
        → (list_all (is_known more) (w ∷ ops) ≡ true) × Agree (known_or known) (known_or more) (w ∷ ops)
    at None e rest = absurd (let off : is_some (known w) ≡ false = ap is_some e in let on : is_some (known w) ≡ true = parts.0 in cc (off, on))
    at (Some f) e rest =
        let m : more w ≡ Some f = below w f e in
        (ap₂ (λ a b. a && b) (ap is_some m) rest.0, (ap (λ o. unwrap_or o (facts_with kind.Plain [])) (e ∙ sym m), rest.1))

-- the facts come from operands that are all known
from_all : (defs : List Definition) (known : ValueId → Option Facts) (v : ValueId) (f : Facts) → told_from defs known v ≡ Some f →
    (list_all (is_known known) (operands_at defs v) ≡ true) × (told_by (length defs) v (known_or known) (operands_at defs v) (origin_at defs v) ≡ f)
from_all defs known v f h = at (list_all (is_known known) (operands_at defs v)) refl
  where
    it : Facts
    it = told_by (length defs) v (known_or known) (operands_at defs v) (origin_at defs v)

    at : (b : Bool) → list_all (is_known known) (operands_at defs v) ≡ b → (list_all (is_known known) (operands_at defs v) ≡ true) × (it ≡ f)
    at true e = (e, same_Some it f (sym (ap (λ b. cond b (Some it) None) e) ∙ h))
    at false e = absurd (none-some f (sym (ap (λ b. cond b (Some it) None) e) ∙ h))

pub all_from : (defs : List Definition) (known : ValueId → Option Facts) (v : ValueId) → list_all (is_known known) (operands_at defs v) ≡ true →
    told_from defs known v ≡ Some (told_by (length defs) v (known_or known) (operands_at defs v) (origin_at defs v))
all_from defs known v h = ap (λ b. cond b (Some (told_by (length defs) v (known_or known) (operands_at defs v) (origin_at defs v))) None) h

pub from_more : (defs : List Definition) (known more : ValueId → Option Facts) → IsBelow known more → IsBelow (told_from defs known) (told_from defs more)
from_more defs known more below v f h =
    let a = from_all defs known v f h in
    let b = all_agree known more (operands_at defs v) below a.0 in
    all_from defs more v b.0 ∙ ap Some (sym (told_agree (length defs) v (known_or known) (known_or more) (operands_at defs v) (origin_at defs v) b.1) ∙ a.1)

pub deeper : (defs : List Definition) (n : ℕ) → IsBelow (told_in defs n) (told_in defs (suc n))
deeper defs zero v f h = absurd (none-some f h)
deeper defs (suc n) v f h = from_more defs (told_in defs n) (told_in defs (suc n)) (deeper defs n) v f h

pub deeper_by : (defs : List Definition) (n k : ℕ) → IsBelow (told_in defs n) (told_in defs (n + k))
deeper_by defs n zero v f h = let e : n ≡ n + 0 = omega arith in subst (λ m. told_in defs m v ≡ Some f) e h
deeper_by defs n (suc k) v f h =
    let e : suc (n + k) ≡ n + suc k = omega arith in
    subst (λ m. told_in defs m v ≡ Some f) e (deeper defs (n + k) v f (deeper_by defs n k v f h))

-- the operands that are all known have facts
all_at : (known : ValueId → Option Facts) (ops : List ValueId) (w : ValueId) → list_all (is_known known) ops ≡ true → Contains ops w → (f : Facts) × (known w ≡ Some f)
all_at known ops w h c = at (known w) refl
  where
    on : is_known known w ≡ true
    on = All-contains (λ x. is_known known x ≡ true) ops w (AllPass-from_list_all (is_known known) ops h) c

    at : (o : Option Facts) → known w ≡ o → (f : Facts) × (known w ≡ Some f)
    at None e = absurd (let off : is_known known w ≡ false = ap is_some e in cc (off, on))
    at (Some f) e = (f, e)

-- what is told by facts that are so is so
pub from_sound : (defs : List Definition) (known : ValueId → Option Facts) → IsSound defs known → IsSound defs (told_from defs known)
from_sound defs known sound v f e =
    let from = from_all defs known v f e in
    subst (AreFactsOf defs v) from.1 (told v (known_or known) (λ w c.
    let g = all_at known (operands_at defs v) w from.0 c in
    subst (AreFactsOf defs w) (sym (ap (λ o. unwrap_or o (facts_with kind.Plain [])) g.1)) (sound w g.0 g.1)))

pub steps_sound : (defs : List Definition) (n : ℕ) → IsSound defs (told_in defs n)
steps_sound defs zero v f e = absurd (none-some f e)
steps_sound defs (suc n) v f e = from_sound defs (told_in defs n) (steps_sound defs n) v f e

agree_on : (at to : ValueId → Facts) (ops : List ValueId) → ((w : ValueId) → Contains ops w → at w ≡ to w) → Agree at to ops
agree_on at to [] h = tt
agree_on at to (w ∷ ops) h = (h w (0, omega arith, refl), agree_on at to ops (λ u c. h u (Contains-append_right (w ∷ []) ops u c)))

-- a value has one kind and one list of bases
pub determined : (defs : List Definition) (v : ValueId) (f g : Facts) → AreFactsOf defs v f → AreFactsOf defs v g → f ≡ g
determined defs v _ _ (told _ at below) (told _ to under) =
    told_agree (length defs) v at to (operands_at defs v) (origin_at defs v) (agree_on at to (operands_at defs v) (λ w c. determined defs w (at w) (to w) (below w c) (under w c)))

-- operands of which none is unknown are all known
all_unless_unknown : (known : ValueId → Option Facts) (count : ℕ) (ops : List ValueId) → All (λ w. w.0 < count) ops →
    ((w : ValueId) → w.0 < count → Contains ops w → known w ≡ None → ⊥) → list_all (is_known known) ops ≡ true
all_unless_unknown known count [] range none = refl
all_unless_unknown known count (w ∷ ops) range none =
    at (known w) refl (all_unless_unknown known count ops (All-tail (λ x. x.0 < count) w ops range) (λ u lt c e. none u lt (Contains-append_right (w ∷ []) ops u c) e))
  where
    at : (o : Option Facts) → known w ≡ o → list_all (is_known known) ops ≡ true → list_all (is_known known) (w ∷ ops) ≡ true
    at None e rest = absurd (none w (All-head (λ x. x.0 < count) w ops range) (0, omega arith, refl) e)
    at (Some f) e rest = ap₂ (λ a b. a && b) (ap is_some e) rest

-- where nothing can be found of any value that isn't known, none of these has facts
stuck_none : (defs : List Definition) (known : ValueId → Option Facts) → IsInRange defs → AreStuck defs known (length defs) →
    (v : ValueId) (f : Facts) → v.0 < length defs → AreFactsOf defs v f → known v ≡ None → ⊥
stuck_none defs known range stuck v _ lt (told _ at below) none =
    none-some _ (sym (stuck v lt none) ∙ all_from defs known v (all_unless_unknown known (length defs) (operands_at defs v) (range.inside v lt)
    (λ w less c unknown. stuck_none defs known range stuck w (at w) less (below w c) unknown)))

pub stuck_exact : (defs : List Definition) (known : ValueId → Option Facts) → IsInRange defs → IsSound defs known → AreStuck defs known (length defs) → IsExact defs known
stuck_exact defs known range sound stuck v f lt = (sound v f, λ h. at h (known v) refl)
  where
    at : AreFactsOf defs v f → (o : Option Facts) → known v ≡ o → known v ≡ Some f
    at h None e = absurd (stuck_none defs known range stuck v f lt h e)
    at h (Some g) e = e ∙ ap Some (determined defs v g f (sound v g e) h)

-- bases are in ascending order
by_kind_listed : (count : ℕ) (v : ValueId) (at : ValueId → Facts) (ops : List ValueId) (k : Kind) → v.0 < count → IsListed count (by_kind count v at ops k).bases
by_kind_listed count v at ops kind.Owned lt = alone_listed v count lt
by_kind_listed count v at ops kind.Guaranteed lt = listed_listed (λ b. list_any (λ w. has (handed_on true (at w)) b) ops) count
by_kind_listed count v at ops kind.Plain lt = none_listed count (λ _. false) (λ _. refl)

told_listed : (count : ℕ) (v : ValueId) (at : ValueId → Facts) (ops : List ValueId) (o : Origin) → v.0 < count → IsListed count (told_by count v at ops o).bases
told_listed count v at ops Owned lt = alone_listed v count lt
told_listed count v at ops Lender lt = alone_listed v count lt
told_listed count v at ops Plain lt = none_listed count (λ _. false) (λ _. refl)
told_listed count v at ops Forward lt = by_kind_listed count v at ops (forwarded at ops) lt
told_listed count v at ops Same lt = by_kind_listed count v at (take 1 ops) (forwarded at (take 1 ops)) lt
told_listed count v at ops Lent lt = listed_listed (λ b. list_any (λ w. has (handed_on true (at w)) b) ops) count
told_listed count v at ops Address lt = listed_listed (λ b. list_any (λ w. has (handed_on false (at w)) b) ops) count

in_listed : (defs : List Definition) (v : ValueId) (f : Facts) → v.0 < length defs → AreFactsOf defs v f → IsListed (length defs) f.bases
in_listed defs v _ lt (told _ at below) = told_listed (length defs) v at (operands_at defs v) (origin_at defs v) lt

told_lt : (table : List (Option Facts)) (v : ValueId) (f : Facts) → told_at table v ≡ Some f → v.0 < length table
told_lt table v f h = at table v.0 h
  where
    at : (table : List (Option Facts)) (n : ℕ) → unwrap_or (slice_get table n) None ≡ Some f → n < length table
    at [] zero h = absurd (none-some f h)
    at [] (suc n) h = absurd (none-some f h)
    at (x ∷ table) zero h = omega arith
    at (x ∷ table) (suc n) h = let lt : n < length table = at table n h in omega arith

pub sound_listed : (defs : List Definition) (table : List (Option Facts)) → length table ≡ length defs → IsSound defs (told_at table) → AreListed (length defs) (told_at table)
sound_listed defs table size sound v f h = in_listed defs v f (let lt : v.0 < length table = told_lt table v f h in omega arith) (sound v f h)
