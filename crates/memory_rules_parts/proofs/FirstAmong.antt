-- What is shown first at some parts and at further ones, together.
use Rattle.std.proofs.Common.{◌≡◌, ℕ, ◌+◌, ◌<◌, ◌≤◌, List, [], ◌∷◌, ◌++◌, length, get_or, take, drop, sym, ap, subst, ◌⊎◌, inl, inr, true, Option, Some, None, All, arith, true≢false, ltb-true}
use Rattle.std.specs.Prelude.{Contains}
use Rattle.std.proofs.lemmas.List.Elements.{All-contains, All-weaker, Contains-append_cases, Contains-append_left, Contains-append_right}
use Rattle.std.proofs.lemmas.List.{take-append-drop, take_more}
use Rattle.sil_ast.specs.declared.function.Function.{Function}
use Rattle.sil_ast.specs.declared.place.ValueId.{ValueId}
use Rattle.sil_rules.proofs.Firsts.{first_earlier, first_same, first_some}
use Rattle.sil_rules.specs.Order.{Either, IsEarlier, IsFirst}
use Rattle.ownership_kinds_chains.specs.declared.ownership_chains.facts.Facts.{Facts}
use Rattle.memory_rules_accesses.specs.declared.source.Source.{Source}
use Rattle.memory_rules_parts.specs.inner.Batches.{AreRising, is_behind}
use Rattle.memory_rules_parts.specs.Parts.{subject_of}
use Rattle.sil_rules.specs.RuleFaults.Keys.{fault_key}
use Rattle.memory_rules_parts.specs.Shown.{IsShown}
use Rattle.sil_rules.specs.declared.rule_faults.fault.RuleFault.{RuleFault}
use Rattle.memory_rules_parts.specs.declared.part.Part.{Part}
use Rattle.memory_rules_parts.proofs.Ordered.{rising_behind}

module _ (sources : List Source) (facts : ValueId → Option Facts) (f : Function) (parts more : List Part) where
  abbrev Shown : List Part → RuleFault → Type 0
  Shown ps s = IsShown sources facts f ps s

  moved : (ps qs : List Part) (s : RuleFault) → ((p : Part) → Contains ps p → Contains qs p) → Shown ps s → Shown qs s
  moved ps qs s to h = record { part = h.part; there = to h.part h.there; subject = h.subject; item = h.item; shown = h.shown; other = h.other }

  together : (s : RuleFault) → Either (Shown parts) (Shown more) s → Shown (parts ++ more) s
  together s (inl h) = moved parts (parts ++ more) s (Contains-append_left parts more) h
  together s (inr h) = moved more (parts ++ more) s (Contains-append_right parts more) h

  apart : (s : RuleFault) → Shown (parts ++ more) s → Either (Shown parts) (Shown more) s
  apart s h = at (Contains-append_cases parts more h.part h.there)
    where
      at : Contains parts h.part ⊎ Contains more h.part → Either (Shown parts) (Shown more) s
      at (inl c) = inl (record { part = h.part; there = c; subject = h.subject; item = h.item; shown = h.shown; other = h.other })
      at (inr c) = inr (record { part = h.part; there = c; subject = h.subject; item = h.item; shown = h.shown; other = h.other })

  -- the earlier of the two that come first
  pub among_more : (a b r : Option RuleFault) → IsFirst fault_key (Shown parts) a → IsFirst fault_key (Shown more) b → IsEarlier fault_key a b r → IsFirst fault_key (Shown (parts ++ more)) r
  among_more a b r first second e =
      first_same fault_key (Either (Shown parts) (Shown more)) (Shown (parts ++ more)) together apart r (first_earlier fault_key (Shown parts) (Shown more) a b r first second e)

  -- nothing that is shown at parts of greater subjects comes before
  pub among_behind : (s : RuleFault) → IsFirst fault_key (Shown parts) (Some s) → All (λ q. s.subject.0 < (subject_of q).0) more → IsFirst fault_key (Shown (parts ++ more)) (Some s)
  among_behind s first behind =
      first_same fault_key (Either (Shown parts) (Shown more)) (Shown (parts ++ more)) together apart (Some s)
      (first_some fault_key (Shown parts) (Shown more) s first
      (λ t h. inl (subst (λ v. s.subject.0 < v.0) h.subject (All-contains (λ q. s.subject.0 < (subject_of q).0) more h.part behind h.there))))

-- one part more
pub among_one_more : (sources : List Source) (facts : ValueId → Option Facts) (f : Function) (parts : List Part) (n : ℕ) (d : Part) (best next r : Option RuleFault) → n < length parts →
    IsFirst fault_key (IsShown sources facts f (take n parts)) best → IsFirst fault_key (IsShown sources facts f (get_or parts n d ∷ [])) next → IsEarlier fault_key best next r
    → IsFirst fault_key (IsShown sources facts f (take (n + 1) parts)) r
among_one_more sources facts f parts n d best next r lt before here e =
    let P : List Part → Type 0 = λ v. IsFirst fault_key (IsShown sources facts f v) r in
    subst P (sym (take_more parts n d lt)) (among_more sources facts f (take n parts) (get_or parts n d ∷ []) best next r before here e)

-- a fault comes first of all, where all further parts have greater subjects
pub behind_all : (sources : List Source) (facts : ValueId → Option Facts) (f : Function) (parts : List Part) (n : ℕ) (d : Part) (best : Option RuleFault) (v : ValueId) → n < length parts →
    AreRising parts → v ≡ subject_of (get_or parts n d) →
    is_behind best v ≡ true → IsFirst fault_key (IsShown sources facts f (take n parts)) best → IsFirst fault_key (IsShown sources facts f parts) best
behind_all sources facts f parts n d None v lt rising is e first = absurd (true≢false (sym e))
behind_all sources facts f parts n d (Some s) v lt rising is e first =
    let less : s.subject.0 < v.0 = ltb-true s.subject.0 v.0 e in
    let same : v.0 ≡ (subject_of (get_or parts n d)).0 = ap (λ x. x.0) is in
    let P : List Part → Type 0 = λ v. IsFirst fault_key (IsShown sources facts f v) (Some s) in
    subst P (take-append-drop n parts)
    (among_behind sources facts f (take n parts) (drop n parts) s first
    (All-weaker (λ q. (subject_of (get_or parts n d)).0 ≤ (subject_of q).0) (λ q. s.subject.0 < (subject_of q).0) (λ q h. omega arith) (drop n parts) (rising_behind parts n d lt rising)))
