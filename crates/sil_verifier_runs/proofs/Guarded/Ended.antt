-- Which entries ends leave: those of values that no operand ends, and none of those that one ends.
use Rattle.std.proofs.Common.{◌≡◌, ℕ, zero, suc, List, [], ◌∷◌, set, refl, sym, ap, ◌∙◌, subst, Bool, true, false, cond, ◌&&◌, ◌||◌, ⊎_elim, Option, Ok, eq-eqb}
use Rattle.std.specs.Prelude.{◌==◌, slice_get, unwrap_or}
use Rattle.std.specs.List.{list_any}
use Rattle.std.proofs.lemmas.Bool.{and_parts, cases_Bool, eqb-true, false≢true, or_cases, true≢false}
use Rattle.sil_cfg_items.specs.declared.taken.Taken.{Taken}
use Rattle.sil_verifier_frames.specs.sil_verifier_trails.AcceptedTrails.inner.Passing.{is_end}
use Rattle.sil_verifier_frames.specs.ownership_kinds_chains.declared.ownership_chains.facts.Facts.{Facts}
use Rattle.sil_ast.specs.declared.place.ValueId.{ValueId}
use Rattle.sil_verifier_frames.specs.holder_model.Data.{Datum}
use Rattle.sil_verifier_frames.specs.holder_model.Frames.{Entry, Gone, Held, Lent, Plain, ended_entry, ends, entry_at, with_ok, without_ended}
use Rattle.sil_verifier_frames.proofs.holder_model_laws.HolderLaws.Counts.Entries.{left_of}

or_first : (a b : Bool) → (a || b) ≡ false → a ≡ false
or_first true b h = h
or_first false b h = refl

or_second : (a b : Bool) → (a || b) ≡ false → b ≡ false
or_second true b h = absurd (true≢false h)
or_second false b h = h

set_other : (entries : List Entry) (n k : ℕ) → (n == k) ≡ false → unwrap_or (slice_get (set entries n Gone) k) Gone ≡ unwrap_or (slice_get entries k) Gone
set_other [] n k other = refl
set_other (x ∷ xs) zero zero other = absurd (true≢false (sym (eq-eqb zero zero refl) ∙ other))
set_other (x ∷ xs) zero (suc k) other = refl
set_other (x ∷ xs) (suc n) zero other = refl
set_other (x ∷ xs) (suc n) (suc k) other = set_other xs n k (at (n == k) refl)
  where
    at : (b : Bool) → (n == k) ≡ b → (n == k) ≡ false
    at true same = absurd (true≢false (sym (eq-eqb (suc n) (suc k) (ap suc (eqb-true n k same))) ∙ other))
    at false no_more = no_more

set_gone_here : (entries : List Entry) (n : ℕ) → unwrap_or (slice_get (set entries n Gone) n) Gone ≡ Gone
set_gone_here [] n = refl
set_gone_here (x ∷ xs) zero = refl
set_gone_here (x ∷ xs) (suc n) = set_gone_here xs n

module _ (facts : ValueId → Option Facts) (v : ValueId) where
  abbrev Unended : List Taken → Type 0
  Unended ts = (entries left : List Entry) → list_any (is_end facts v) ts ≡ false → without_ended facts ts entries ≡ Ok left → entry_at left v ≡ entry_at entries v

  -- a value that no operand ends stays
  pub unended_stays : (ts : List Taken) → Unended ts
  unended_stays [] entries left none h = let same : entries ≡ left = cc in sym (ap (λ (es : List Entry). entry_at es v) same)
  unended_stays (t ∷ ts) entries left none h = at (unended_stays ts) (ends facts t) refl h
    where
      later : list_any (is_end facts v) ts ≡ false
      later = or_second (is_end facts v t) (list_any (is_end facts v) ts) none

      other : ends facts t ≡ true → (t.value.0 == v.0) ≡ false
      other is = sym (ap (λ b. b && (t.value.0 == v.0)) is) ∙ or_first (is_end facts v t) (list_any (is_end facts v) ts) none

      of_entry : Unended ts → ends facts t ≡ true → (c : Entry) → with_ok (without_ended facts ts) (ended_entry t.value entries c) ≡ Ok left → entry_at left v ≡ entry_at entries v
      of_entry more is Gone e = cc
      of_entry more is (Held x) e = more (set entries t.value.0 Gone) left later e ∙ set_other entries t.value.0 v.0 (other is)
      of_entry more is (Lent x) e = more (set entries t.value.0 Gone) left later e ∙ set_other entries t.value.0 v.0 (other is)
      of_entry more is (Plain x) e = more entries left later e

      at : Unended ts → (b : Bool) → ends facts t ≡ b
          → cond b (with_ok (without_ended facts ts) (ended_entry t.value entries (entry_at entries t.value))) (without_ended facts ts entries) ≡ Ok left
          → entry_at left v ≡ entry_at entries v
      at more true is e = of_entry more is (entry_at entries t.value) e
      at more false is e = more entries left later e

  abbrev Ended : List Taken → Type 0
  Ended ts = (entries left : List Entry) (x : Datum) → entry_at entries v ≡ Lent x → list_any (is_end facts v) ts ≡ true → without_ended facts ts entries ≡ Ok left → entry_at left v ≡ Gone

  -- a lent value that one ends is gone
  pub ended_gone : (ts : List Taken) → Ended ts
  ended_gone [] entries left x is any h = absurd (false≢true any)
  ended_gone (t ∷ ts) entries left x is any h = at (ended_gone ts) (ends facts t) refl h
    where
      gone_stays : (now : List Entry) → entry_at now v ≡ Gone → without_ended facts ts now ≡ Ok left → entry_at left v ≡ Gone
      gone_stays now gone e = ⊎_elim (λ same. same ∙ gone) (λ none. none) (left_of facts ts now left e v)

      cut : Ended ts → without_ended facts ts (set entries t.value.0 Gone) ≡ Ok left → entry_at left v ≡ Gone
      cut more e = ⊎_elim
          (λ same.
          let number : t.value.0 ≡ v.0 = eqb-true t.value.0 v.0 same in
          gone_stays (set entries t.value.0 Gone) (subst (λ n. unwrap_or (slice_get (set entries t.value.0 Gone) n) Gone ≡ Gone) number (set_gone_here entries t.value.0)) e)
          (λ other. more (set entries t.value.0 Gone) left x (set_other entries t.value.0 v.0 other ∙ is) (later other) e)
          (cases_Bool (t.value.0 == v.0))
        where
          later : (t.value.0 == v.0) ≡ false → list_any (is_end facts v) ts ≡ true
          later other = ⊎_elim (λ here. absurd (true≢false (sym (and_parts (ends facts t) (t.value.0 == v.0) here).1 ∙ other))) (λ more. more)
              (or_cases (is_end facts v t) (list_any (is_end facts v) ts) any)

      of_entry : Ended ts → (c : Entry) → entry_at entries t.value ≡ c → with_ok (without_ended facts ts) (ended_entry t.value entries c) ≡ Ok left → entry_at left v ≡ Gone
      of_entry more Gone was e = cc
      of_entry more (Held y) was e = cut more e
      of_entry more (Lent y) was e = cut more e
      of_entry more (Plain y) was e = more entries left x is (⊎_elim (λ here. absurd (never here)) (λ later. later) (or_cases (is_end facts v t) (list_any (is_end facts v) ts) any)) e
        where
          never : is_end facts v t ≡ true → ⊥
          never here =
              let number : t.value.0 ≡ v.0 = eqb-true t.value.0 v.0 (and_parts (ends facts t) (t.value.0 == v.0) here).1 in
              let same : entry_at entries t.value ≡ entry_at entries v = ap (λ n. unwrap_or (slice_get entries n) Gone) number in
              cc

      at : Ended ts → (b : Bool) → ends facts t ≡ b
          → cond b (with_ok (without_ended facts ts) (ended_entry t.value entries (entry_at entries t.value))) (without_ended facts ts entries) ≡ Ok left → entry_at left v ≡ Gone
      at more true ends_it e = of_entry more (entry_at entries t.value) refl e
      at more false ends_it e =
          more entries left x is
          (⊎_elim (λ here. absurd (true≢false (sym (and_parts (ends facts t) (t.value.0 == v.0) here).0 ∙ ends_it))) (λ later. later)
          (or_cases (is_end facts v t) (list_any (is_end facts v) ts) any)) e
