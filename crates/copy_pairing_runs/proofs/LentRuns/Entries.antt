-- Entries of which one that is held is lent: what stands there, what is set there, and what they hold.
use Rattle.std.proofs.Common.{◌≡◌, ℕ, zero, suc, ◌+◌, List, [], ◌∷◌, set, replicate, refl, sym, ap, ◌∙◌, arith, Bool, true, false, ◌⊎◌, inl, inr}
use Rattle.std.specs.Prelude.{◌||◌, ◌==◌, slice_get, unwrap_or}
use Rattle.std.specs.List.{list_any}
use Rattle.std.proofs.lemmas.Bool.{eq-eqb, eqb-true, true≢false}
use Rattle.sil_ast.specs.declared.place.ObjectId.{ObjectId}
use Rattle.sil_ast.specs.declared.place.ValueId.{ValueId}
use Rattle.copy_pairing_acceptance.specs.copy_pairing_model.Rewritten.{changed_at}
use Rattle.holder_model_laws.specs.holder_model.Calling.{holds_something}
use Rattle.holder_model_laws.specs.holder_model.Frames.{Entry, Gone, Held, Lent, Plain, datum_in, entry_at, is_held, no_entries}
use Rattle.holder_model_laws.specs.holder_model.HolderStates.{in_entry}
use Rattle.holder_model_laws.specs.HolderLaws.inner.Counts.Taking.{in_entries}
use Rattle.holder_model_laws.proofs.HolderLaws.Counts.Sums.{total_cons}
use Rattle.copy_pairing_runs.specs.LentRuns.inner.LentEntries.{lent_entries, lent_entry}

-- ---- one entry

datum_same : (e : Entry) → datum_in (lent_entry e) ≡ datum_in e
datum_same Gone = refl
datum_same (Held x) = refl
datum_same (Lent x) = refl
datum_same (Plain x) = refl

lent_free : (e : Entry) → is_held (lent_entry e) ≡ false
lent_free Gone = refl
lent_free (Held x) = refl
lent_free (Lent x) = refl
lent_free (Plain x) = refl

lent_holds_none : (weight : ObjectId → ℕ) (e : Entry) → in_entry weight (lent_entry e) ≡ 0
lent_holds_none weight Gone = refl
lent_holds_none weight (Held x) = refl
lent_holds_none weight (Lent x) = refl
lent_holds_none weight (Plain x) = refl

-- ---- by places

abbrev at : List Entry → ℕ → Entry
at es k = unwrap_or (slice_get es k) Gone

abbrev lent_list : ℕ → List Entry → List Entry
lent_list n es = changed_at n lent_entry es

at_copy : (n : ℕ) (es : List Entry) → at (lent_list n es) n ≡ lent_entry (at es n)
at_copy n [] = refl
at_copy zero (e ∷ es) = refl
at_copy (suc n) (e ∷ es) = at_copy n es

at_other : (n k : ℕ) (es : List Entry) → (k ≡ n → ⊥) → at (lent_list n es) k ≡ at es k
at_other n k [] other = refl
at_other zero zero (e ∷ es) other = absurd (other refl)
at_other zero (suc k) (e ∷ es) other = refl
at_other (suc n) zero (e ∷ es) other = refl
at_other (suc n) (suc k) (e ∷ es) other = at_other n k es (λ same. other (ap suc same))

set_copy : (n : ℕ) (es : List Entry) (e : Entry) → lent_list n (set es n e) ≡ set (lent_list n es) n (lent_entry e)
set_copy n [] e = refl
set_copy zero (x ∷ es) e = refl
set_copy (suc n) (x ∷ es) e = ap (λ l. x ∷ l) (set_copy n es e)

set_other : (n k : ℕ) (es : List Entry) (e : Entry) → (k ≡ n → ⊥) → lent_list n (set es k e) ≡ set (lent_list n es) k e
set_other n k [] e other = refl
set_other zero zero (x ∷ es) e other = absurd (other refl)
set_other zero (suc k) (x ∷ es) e other = refl
set_other (suc n) zero (x ∷ es) e other = refl
set_other (suc n) (suc k) (x ∷ es) e other = ap (λ l. x ∷ l) (set_other n k es e (λ same. other (ap suc same)))

set_at : (n : ℕ) (es : List Entry) (e : Entry) → (at (set es n e) n ≡ e) ⊎ (at (set es n e) n ≡ Gone)
set_at n [] e = inr refl
set_at zero (x ∷ es) e = inl refl
set_at (suc n) (x ∷ es) e = set_at n es e

set_apart : (n k : ℕ) (es : List Entry) (e : Entry) → (k ≡ n → ⊥) → at (set es k e) n ≡ at es n
set_apart n k [] e other = refl
set_apart zero zero (x ∷ es) e other = absurd (other refl)
set_apart zero (suc k) (x ∷ es) e other = refl
set_apart (suc n) zero (x ∷ es) e other = refl
set_apart (suc n) (suc k) (x ∷ es) e other = set_apart n k es e (λ same. other (ap suc same))

none_lent : (n k : ℕ) → lent_list n (replicate k Gone) ≡ replicate k Gone
none_lent n zero = refl
none_lent zero (suc k) = refl
none_lent (suc n) (suc k) = ap (λ l. Gone ∷ l) (none_lent n k)

none_at : (n k : ℕ) → at (replicate n Gone) k ≡ Gone
none_at zero k = refl
none_at (suc n) zero = refl
none_at (suc n) (suc k) = none_at n k

or_false : (a b : Bool) → (a || b) ≡ false → (a ≡ false) × (b ≡ false)
or_false true b e = absurd (true≢false e)
or_false false b e = (refl, e)

holds_none : (n : ℕ) (es : List Entry) → list_any is_held es ≡ false → list_any is_held (lent_list n es) ≡ false
holds_none n [] e = refl
holds_none zero (x ∷ es) e = ap (λ b. b || list_any is_held es) (lent_free x) ∙ (or_false (is_held x) (list_any is_held es) e).1
holds_none (suc n) (x ∷ es) e =
    let both = or_false (is_held x) (list_any is_held es) e in
    ap (λ b. b || list_any is_held (lent_list n es)) both.0 ∙ holds_none n es both.1

module _ (weight : ObjectId → ℕ) where
  lent_total : (n : ℕ) (es : List Entry) → in_entries weight es ≡ in_entries weight (lent_list n es) + in_entry weight (at es n)
  lent_total n [] = refl
  lent_total zero (x ∷ es) =
      let whole : in_entries weight (x ∷ es) ≡ in_entry weight x + in_entries weight es = total_cons (in_entry weight) x es in
      let now : in_entries weight (lent_entry x ∷ es) ≡ in_entry weight (lent_entry x) + in_entries weight es = total_cons (in_entry weight) (lent_entry x) es in
      let none : in_entry weight (lent_entry x) ≡ 0 = lent_holds_none weight x in
      omega (arith, whole, now, none)
  lent_total (suc n) (x ∷ es) =
      let whole : in_entries weight (x ∷ es) ≡ in_entry weight x + in_entries weight es = total_cons (in_entry weight) x es in
      let now : in_entries weight (x ∷ lent_list n es) ≡ in_entry weight x + in_entries weight (lent_list n es) = total_cons (in_entry weight) x (lent_list n es) in
      let rest : in_entries weight es ≡ in_entries weight (lent_list n es) + in_entry weight (at es n) = lent_total n es in
      omega (arith, whole, now, rest)

  gone_total : (n : ℕ) (es : List Entry) → in_entries weight (set es n Gone) ≡ in_entries weight (lent_list n es)
  gone_total n [] = refl
  gone_total zero (x ∷ es) =
      let gone : in_entries weight (Gone ∷ es) ≡ in_entry weight Gone + in_entries weight es = total_cons (in_entry weight) Gone es in
      let now : in_entries weight (lent_entry x ∷ es) ≡ in_entry weight (lent_entry x) + in_entries weight es = total_cons (in_entry weight) (lent_entry x) es in
      let none : in_entry weight (lent_entry x) ≡ 0 = lent_holds_none weight x in
      omega (arith, gone, now, none)
  gone_total (suc n) (x ∷ es) =
      let was : in_entries weight (x ∷ set es n Gone) ≡ in_entry weight x + in_entries weight (set es n Gone) = total_cons (in_entry weight) x (set es n Gone) in
      let now : in_entries weight (x ∷ lent_list n es) ≡ in_entry weight x + in_entries weight (lent_list n es) = total_cons (in_entry weight) x (lent_list n es) in
      let rest : in_entries weight (set es n Gone) ≡ in_entries weight (lent_list n es) = gone_total n es in
      omega (arith, was, now, rest)

-- ---- by values

module _ (c : ValueId) where
  pub entry_copy : (v : ValueId) (es : List Entry) → v.0 ≡ c.0 → entry_at (lent_entries c es) v ≡ lent_entry (entry_at es v)
  entry_copy v es same = ap (λ k. at (lent_list c.0 es) k) same ∙ at_copy c.0 es ∙ ap (λ k. lent_entry (at es k)) (sym same)

  pub entry_other : (v : ValueId) (es : List Entry) → (v.0 ≡ c.0 → ⊥) → entry_at (lent_entries c es) v ≡ entry_at es v
  entry_other v es other = at_other c.0 v.0 es other

  pub put_copy : (v : ValueId) (es : List Entry) (e : Entry) → v.0 ≡ c.0 → lent_entries c (set es v.0 e) ≡ set (lent_entries c es) v.0 (lent_entry e)
  put_copy v es e same =
      ap (λ k. lent_list c.0 (set es k e)) same ∙ set_copy c.0 es e ∙ ap (λ k. set (lent_list c.0 es) k (lent_entry e)) (sym same)

  pub put_other : (v : ValueId) (es : List Entry) (e : Entry) → (v.0 ≡ c.0 → ⊥) → lent_entries c (set es v.0 e) ≡ set (lent_entries c es) v.0 e
  put_other v es e other = set_other c.0 v.0 es e other

  pub set_there : (es : List Entry) (e : Entry) → (entry_at (set es c.0 e) c ≡ e) ⊎ (entry_at (set es c.0 e) c ≡ Gone)
  set_there es e = set_at c.0 es e

  pub set_elsewhere : (v : ValueId) (es : List Entry) (e : Entry) → (v.0 ≡ c.0 → ⊥) → entry_at (set es v.0 e) c ≡ entry_at es c
  set_elsewhere v es e other = set_apart c.0 v.0 es e other

  -- none is there
  pub none_there : (n : ℕ) → entry_at (no_entries n) c ≡ Gone
  none_there n = none_at n c.0

  -- what stands there is as it was, but that it isn't held
  pub copy_free : (v : ValueId) (es : List Entry) → v.0 ≡ c.0 → is_held (entry_at (lent_entries c es) v) ≡ false
  copy_free v es same = ap is_held (entry_copy v es same) ∙ lent_free (entry_at es v)

  pub datum_lent : (v : ValueId) (es : List Entry) → datum_in (entry_at (lent_entries c es) v) ≡ datum_in (entry_at es v)
  datum_lent v es = by (v.0 == c.0) refl
    where
      by : (b : Bool) → (v.0 == c.0) ≡ b → datum_in (entry_at (lent_entries c es) v) ≡ datum_in (entry_at es v)
      by true e = ap datum_in (entry_copy v es (eqb-true v.0 c.0 e)) ∙ datum_same (entry_at es v)
      by false e = ap datum_in (entry_other v es (λ same. let wrong : true ≡ false = sym (eq-eqb v.0 c.0 same) ∙ e in cc))

  pub no_entries_lent : (n : ℕ) → lent_entries c (no_entries n) ≡ no_entries n
  no_entries_lent n = none_lent c.0 n

  pub holds_nothing : (es : List Entry) → holds_something es ≡ false → holds_something (lent_entries c es) ≡ false
  holds_nothing es e = holds_none c.0 es e

  pub lent_holds : (weight : ObjectId → ℕ) (es : List Entry) → in_entries weight es ≡ in_entries weight (lent_entries c es) + in_entry weight (entry_at es c)
  lent_holds weight es = lent_total weight c.0 es

  -- where the copy's entry is gone they hold as much as where it is lent
  pub gone_holds : (weight : ObjectId → ℕ) (es : List Entry) → in_entries weight (set es c.0 Gone) ≡ in_entries weight (lent_entries c es)
  gone_holds weight es = gone_total weight c.0 es
