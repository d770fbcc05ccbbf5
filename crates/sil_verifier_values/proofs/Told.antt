-- What is told of a value by its origin and the facts of its operands: which bases it has, and which of theirs are its own.
use Rattle.std.proofs.Common.{◌≡◌, ◌≢◌, ℕ, zero, suc, ◌+◌, ◌<◌, ◌≤◌, List, [], ◌∷◌, map, take, refl, sym, ap, ◌∙◌, subst, arith, Bool, true, false, cond, ◌⊎◌, inl, inr}
use Rattle.std.specs.Prelude.{◌==◌, ◌||◌, Contains, filter}
use Rattle.std.specs.List.{list_any, range_with_len}
use Rattle.std.proofs.lemmas.Bool.{cases_eq, eqb-false, eqb-true, or_left, or_right}
use Rattle.std.proofs.lemmas.List.Elements.{Contains-append_left, Contains-append_right}
use Rattle.std.proofs.lemmas.List.Folds.{list_any_at}
use Rattle.sil_ast.specs.declared.place.ValueId.{ValueId}
use Rattle.holder_model_typing.specs.ownership_kinds_chains.OwnershipChains.Facts.{bases_together, by_kind, facts_with, forwarded, handed_on, has, is_guaranteed, told_by, value_of}
use Rattle.holder_model_typing.specs.ownership_kinds_chains.declared.ownership_chains.definition.Origin.{Origin}
use Rattle.holder_model_typing.specs.ownership_kinds_chains.declared.ownership_chains.definition.Origin.TheVariants.{Owned, Lender, Plain, Forward, Same, Lent, Address}
use Rattle.holder_model_typing.specs.ownership_kinds_chains.declared.ownership_chains.facts.Facts.{Facts}
use Rattle.holder_model_typing.specs.sil_types_declarations.declared.type_definitions.kind.Kind.{Kind}
use Rattle.holder_model_typing.specs.sil_types_declarations.declared.type_definitions.kind.Kind.TheVariants as kind

-- ---- tests of lists

pub any_from : {A : Type 0} (test : A → Bool) (xs : List A) → list_any test xs ≡ true → (x : A) × Contains xs x × (test x ≡ true)
any_from test [] e = cc
any_from {A} test (x ∷ xs) e = at (test x) refl e (any_from test xs)
  where
    at : (b : Bool) → test x ≡ b → (b || list_any test xs) ≡ true → (list_any test xs ≡ true → (y : A) × Contains xs y × (test y ≡ true))
        → (y : A) × Contains (x ∷ xs) y × (test y ≡ true)
    at true is e rest = (x, (0, omega arith, refl), is)
    at false is e rest = let r = rest e in (r.0, Contains-append_right (x ∷ []) xs r.0 r.1, r.2)

pub any_of : {A : Type 0} (test : A → Bool) (xs : List A) (x : A) → Contains xs x → test x ≡ true → list_any test xs ≡ true
any_of test xs x c e = list_any_at test xs c.0 x c.1 (ap test c.2 ∙ e)

-- the number is among these
abbrev IsAmong : ℕ → List ℕ → Type 0
IsAmong b ns = list_any (λ n. n == b) ns ≡ true

listed_so : (test : ℕ → Bool) (ns : List ℕ) (b : ℕ) → has (map value_of (filter test ns)) b ≡ true → (test b ≡ true) × IsAmong b ns
listed_so test [] b e = cc
listed_so test (n ∷ ns) b e = at (test n) refl e (listed_so test ns b)
  where
    at : (t : Bool) → test n ≡ t → has (map value_of (cond t (n ∷ filter test ns) (filter test ns))) b ≡ true
        → (has (map value_of (filter test ns)) b ≡ true → (test b ≡ true) × IsAmong b ns) → (test b ≡ true) × IsAmong b (n ∷ ns)
    at true is e rest = by (n == b) refl e
      where
        by : (c : Bool) → (n == b) ≡ c → (c || has (map value_of (filter test ns)) b) ≡ true → (test b ≡ true) × ((c || list_any (λ k. k == b) ns) ≡ true)
        by true same h = (ap test (sym (eqb-true n b same)) ∙ is, refl)
        by false same h = rest h
    at false is e rest = let r = rest e in (r.0, or_right (n == b) (list_any (λ k. k == b) ns) r.1)

is_listed : (test : ℕ → Bool) (ns : List ℕ) (b : ℕ) → IsAmong b ns → test b ≡ true → has (map value_of (filter test ns)) b ≡ true
is_listed test [] b among e = cc
is_listed test (n ∷ ns) b among e = at (n == b) refl among (λ h. is_listed test ns b h e)
  where
    rest : List ValueId
    rest = map value_of (filter test ns)

    kept : (t : Bool) → has rest b ≡ true → has (map value_of (cond t (n ∷ filter test ns) (filter test ns))) b ≡ true
    kept true h = or_right (n == b) (has rest b) h
    kept false h = h

    at : (c : Bool) → (n == b) ≡ c → (c || list_any (λ k. k == b) ns) ≡ true → (IsAmong b ns → has rest b ≡ true)
        → has (map value_of (cond (test n) (n ∷ filter test ns) (filter test ns))) b ≡ true
    at true same h behind =
        let passes : test n ≡ true = ap test (eqb-true n b same) ∙ e in
        subst (λ t. has (map value_of (cond t (n ∷ filter test ns) (filter test ns))) b ≡ true) (sym passes) (or_left (n == b) (has rest b) same)
    at false same h behind = kept (test n) (behind h)

below : (a n b : ℕ) → IsAmong b (range_with_len a n) → b < a + n
below a zero b e = cc
below a (suc n) b e = at (a == b) refl e (below (a + 1) n b)
  where
    at : (c : Bool) → (a == b) ≡ c → (c || list_any (λ k. k == b) (range_with_len (a + 1) n)) ≡ true → (IsAmong b (range_with_len (a + 1) n) → b < (a + 1) + n) → b < a + suc n
    at true same h rest = let number : a ≡ b = eqb-true a b same in omega arith
    at false same h rest = let lt : b < (a + 1) + n = rest h in omega arith

among_all : (a n b : ℕ) → a ≤ b → b < a + n → IsAmong b (range_with_len a n)
among_all a zero b le lt = absurd (omega arith)
among_all a (suc n) b le lt = at (a == b) refl (among_all (a + 1) n b)
  where
    at : (c : Bool) → (a == b) ≡ c → (a + 1 ≤ b → b < (a + 1) + n → IsAmong b (range_with_len (a + 1) n)) → (c || list_any (λ k. k == b) (range_with_len (a + 1) n)) ≡ true
    at true same rest = refl
    at false same rest = let other : a ≡ b → ⊥ = eqb-false a b same in rest (later other) (omega arith)
      where
        later : (a ≡ b → ⊥) → a + 1 ≤ b
        later other = by (cases_eq a b)
          where
            by : (a ≡ b) ⊎ (a ≢ b) → a + 1 ≤ b
            by (inl e) = absurd (other e)
            by (inr d) = omega arith

-- ---- what an operand hands on

guaranteed_so : (k : Kind) → is_guaranteed k ≡ true → k ≡ kind.Guaranteed
guaranteed_so kind.Owned e = cc
guaranteed_so kind.Guaranteed e = refl
guaranteed_so kind.Plain e = cc

handed_so : (x : Facts) (b : ℕ) → has (handed_on true x) b ≡ true → (x.kind ≡ kind.Guaranteed) × (has x.bases b ≡ true)
handed_so x b h = at (is_guaranteed x.kind) refl h
  where
    at : (c : Bool) → is_guaranteed x.kind ≡ c → has (cond c x.bases []) b ≡ true → (x.kind ≡ kind.Guaranteed) × (has x.bases b ≡ true)
    at true e h = (guaranteed_so x.kind e, h)
    at false e h = cc

is_handed : (x : Facts) (b : ℕ) → x.kind ≡ kind.Guaranteed → has x.bases b ≡ true → has (handed_on true x) b ≡ true
is_handed x b e h = subst (λ (k : Kind). has (cond (is_guaranteed k) x.bases []) b ≡ true) (sym e) h

-- ---- what is told

module _ (count : ℕ) (v : ValueId) (at : ValueId → Facts) where
  -- an operand that hands on the base
  record Hands (only : Bool) (ops : List ValueId) (b : ℕ) : Type 0 where
    operand : ValueId
    among : Contains ops operand
    hands : has (handed_on only (at operand)) b ≡ true

  together_from : (only : Bool) (ops : List ValueId) (b : ℕ) → has (bases_together count only at ops) b ≡ true → (b < count) × Hands only ops b
  together_from only ops b h =
      let both = listed_so (λ k. list_any (λ w. has (handed_on only (at w)) k) ops) (range_with_len 0 count) b h in
      let it = any_from (λ w. has (handed_on only (at w)) b) ops both.0 in
      let lt : b < 0 + count = below 0 count b both.1 in
      (omega arith, record { operand = it.0; among = it.1; hands = it.2 })

  pub into_together : (only : Bool) (ops : List ValueId) (b : ℕ) → b < count → (w : ValueId) → Contains ops w → has (handed_on only (at w)) b ≡ true
      → has (bases_together count only at ops) b ≡ true
  into_together only ops b lt w c h =
      is_listed (λ k. list_any (λ w. has (handed_on only (at w)) k) ops) (range_with_len 0 count) b (among_all 0 count b (omega arith) (omega arith))
      (any_of (λ w. has (handed_on only (at w)) b) ops w c h)

  -- ---- the kind

  by_kind_owned : (ops : List ValueId) (k : Kind) → (by_kind count v at ops k).kind ≡ kind.Owned → by_kind count v at ops k ≡ facts_with kind.Owned (v ∷ [])
  by_kind_owned ops kind.Owned e = refl
  by_kind_owned ops kind.Guaranteed e = cc
  by_kind_owned ops kind.Plain e = cc

  pub owned_told : (ops : List ValueId) (o : Origin) → (told_by count v at ops o).kind ≡ kind.Owned → told_by count v at ops o ≡ facts_with kind.Owned (v ∷ [])
  owned_told ops Owned e = refl
  owned_told ops Lender e = cc
  owned_told ops Plain e = cc
  owned_told ops Forward e = by_kind_owned ops (forwarded at ops) e
  owned_told ops Same e = by_kind_owned (take 1 ops) (forwarded at (take 1 ops)) e
  owned_told ops Lent e = cc
  owned_told ops Address e = cc

  -- ---- where a base comes from

  pub data BaseFrom (ops : List ValueId) (o : Origin) (k : Kind) (b : ℕ) : Type 0 where
    itself : b ≡ v.0 → (o ≡ Lender) ⊎ (k ≡ kind.Owned) → BaseFrom ops o k b
    lent : b < count → k ≡ kind.Guaranteed → (w : ValueId) → Contains ops w → (at w).kind ≡ kind.Guaranteed → has (at w).bases b ≡ true → BaseFrom ops o k b
    addressed : b < count → o ≡ Address → (w : ValueId) → Contains ops w → has (at w).bases b ≡ true → BaseFrom ops o k b

  alone : (b : ℕ) → has (v ∷ []) b ≡ true → b ≡ v.0
  alone b h = by (v.0 == b) refl h
    where
      by : (c : Bool) → (v.0 == b) ≡ c → (c || false) ≡ true → b ≡ v.0
      by true e h = sym (eqb-true v.0 b e)
      by false e h = cc

  lent_by : (ops : List ValueId) (o : Origin) (k : Kind) (b : ℕ) → k ≡ kind.Guaranteed → has (bases_together count true at ops) b ≡ true → BaseFrom ops o k b
  lent_by ops o k b e h =
      let it = together_from true ops b h in
      let so = handed_so (at it.1.operand) b it.1.hands in
      lent it.0 e it.1.operand it.1.among so.0 so.1

  by_kind_from : (ops : List ValueId) (o : Origin) (k : Kind) (b : ℕ) → has (by_kind count v at ops k).bases b ≡ true → BaseFrom ops o (by_kind count v at ops k).kind b
  by_kind_from ops o kind.Owned b h = itself (alone b h) (inr refl)
  by_kind_from ops o kind.Guaranteed b h = lent_by ops o kind.Guaranteed b refl h
  by_kind_from ops o kind.Plain b h = cc

  of_first : (ops : List ValueId) (w : ValueId) → Contains (take 1 ops) w → Contains ops w
  of_first [] w c = c
  of_first (x ∷ ops) w c = Contains-append_left (x ∷ []) ops w c

  pub base_from : (ops : List ValueId) (o : Origin) (b : ℕ) → has (told_by count v at ops o).bases b ≡ true → BaseFrom ops o (told_by count v at ops o).kind b
  base_from ops Owned b h = itself (alone b h) (inr refl)
  base_from ops Lender b h = itself (alone b h) (inl refl)
  base_from ops Plain b h = cc
  base_from ops Forward b h = by_kind_from ops Forward (forwarded at ops) b h
  base_from ops Same b h = from (by_kind_from (take 1 ops) Same (forwarded at (take 1 ops)) b h)
    where
      from : {k : Kind} → BaseFrom (take 1 ops) Same k b → BaseFrom ops Same k b
      from (itself e h) = itself e h
      from (lent lt e w c g h) = lent lt e w (of_first ops w c) g h
      from (addressed lt e w c h) = addressed lt e w (of_first ops w c) h
  base_from ops Lent b h = lent_by ops Lent kind.Guaranteed b refl h
  base_from ops Address b h =
      let it = together_from false ops b h in
      addressed it.0 refl it.1.operand it.1.among it.1.hands

  -- ---- which bases are handed on

  by_kind_lent : (ops : List ValueId) (k : Kind) (b : ℕ) (w : ValueId) → b < count → (by_kind count v at ops k).kind ≡ kind.Guaranteed → Contains ops w
      → (at w).kind ≡ kind.Guaranteed → has (at w).bases b ≡ true → has (by_kind count v at ops k).bases b ≡ true
  by_kind_lent ops kind.Owned b w lt e c g h = cc
  by_kind_lent ops kind.Guaranteed b w lt e c g h = into_together true ops b lt w c (is_handed (at w) b g h)
  by_kind_lent ops kind.Plain b w lt e c g h = cc

  -- an extract has one operand
  abbrev HasFirst : List ValueId → Origin → ValueId → Type 0
  HasFirst ops o w = o ≡ Same → Contains (take 1 ops) w

  pub lent_on : (ops : List ValueId) (o : Origin) (b : ℕ) (w : ValueId) → b < count → (o ≡ Lender → ⊥) → (told_by count v at ops o).kind ≡ kind.Guaranteed
      → Contains ops w → HasFirst ops o w → (at w).kind ≡ kind.Guaranteed → has (at w).bases b ≡ true → has (told_by count v at ops o).bases b ≡ true
  lent_on ops Owned b w lt not e c first g h = cc
  lent_on ops Lender b w lt not e c first g h = absurd (not refl)
  lent_on ops Plain b w lt not e c first g h = cc
  lent_on ops Forward b w lt not e c first g h = by_kind_lent ops (forwarded at ops) b w lt e c g h
  lent_on ops Same b w lt not e c first g h = by_kind_lent (take 1 ops) (forwarded at (take 1 ops)) b w lt e (first refl) g h
  lent_on ops Lent b w lt not e c first g h = into_together true ops b lt w c (is_handed (at w) b g h)
  lent_on ops Address b w lt not e c first g h = cc
