-- Marks that items share, one for each value of a range that passes a test: they need the switch off, and turn nothing.
use Rattle.std.proofs.Common.{◌≡◌, ◌≢◌, ℕ, zero, suc, ◌+◌, ◌<◌, ◌≤◌, List, [], ◌∷◌, ◌++◌, refl, sym, ap, ◌∙◌, arith, Bool, true, false, cond, ◌⊎◌, inl, inr, Some, None}
use Rattle.std.specs.Prelude.{◌==◌, filter_map, flat_map}
use Rattle.std.specs.List.{cons_option, range_with_len}
use Rattle.std.proofs.lemmas.Bool.{cases_eq, eq-eqb, false≢true}
use Rattle.std.proofs.lemmas.List.Elements.{filter_map-append}
use Rattle.std.proofs.lemmas.Option.{none-some, same_Some}
use Rattle.sil_rules.specs.declared.rule.Rule.{Rule}
use Rattle.sil_verifier_values.specs.reach_engine_marks.PathChecks.Entries.{means}
use Rattle.sil_verifier_values.specs.reach_engine_marks.declared.path_checks.entry.Entry.{Entry}
use Rattle.sil_verifier_values.specs.reach_engine_marks.PathPatterns.Marks.{needs_off}
use Rattle.sil_verifier_trails.specs.RunTrails.inner.Switched.{switched_by, switched_over}
use Rattle.sil_verifier_trails.proofs.RunTrails.AfterEach.{after_split}

-- marks of two parts of a table
pub entries_split : (subject : ℕ) (xs ys : List Entry) (on c : Bool) → switched_over (filter_map (means subject) (xs ++ ys)) on ≡ Some c →
    (b : Bool) × (switched_over (filter_map (means subject) xs) on ≡ Some b) × (switched_over (filter_map (means subject) ys) b ≡ Some c)
entries_split subject xs ys on c h =
    after_split switched_by (filter_map (means subject) xs) (filter_map (means subject) ys) on c
    (ap (λ ms. switched_over ms on) (sym (filter_map-append (means subject) xs ys)) ∙ h)

abbrev free : Rule → ℕ → Entry
free r n = record { subject = n; mark = needs_off r }

abbrev free_if : Rule → (ℕ → Bool) → ℕ → List Entry
free_if r test n = cond (test n) (free r n ∷ []) []

own_free : (r : Rule) (there own on c : Bool) → switched_over (cond there (cons_option (cond own (Some (needs_off r)) None) []) []) on ≡ Some c →
    (c ≡ on) × (own ≡ true → there ≡ true → on ≡ false)
own_free r false own on c h = (sym (same_Some on c h), λ e d. absurd (false≢true d))
own_free r true false on c h = (sym (same_Some on c h), λ e d. absurd (false≢true e))
own_free r true true true c h = absurd (none-some c h)
own_free r true true false c h = (sym (same_Some false c h), λ e d. refl)

read_free : (r : Rule) (subject n : ℕ) (there : Bool) →
    filter_map (means subject) (cond there (free r n ∷ []) []) ≡ cond there (cons_option (cond (n == subject) (Some (needs_off r)) None) []) []
read_free r subject n true = refl
read_free r subject n false = refl

pub range_free : (r : Rule) (test : ℕ → Bool) (subject n k : ℕ) (on c : Bool) →
    switched_over (filter_map (means subject) (flat_map (λ m. cond (test m) (record { subject = m; mark = needs_off r } ∷ []) []) (range_with_len n k))) on ≡ Some c →
    (c ≡ on) × (n ≤ subject → subject < n + k → test subject ≡ true → on ≡ false)
range_free r test subject n zero on c h = (sym (same_Some on c h), λ le lt e. absurd (omega arith))
range_free r test subject n (suc k) on c h =
    let s = entries_split subject (free_if r test n) (flat_map (free_if r test) (range_with_len (n + 1) k)) on c h in
    let one = own_free r (test n) (n == subject) on s.0 (ap (λ ms. switched_over ms on) (sym (read_free r subject n (test n))) ∙ s.1) in
    let more = range_free r test subject (n + 1) k s.0 c s.2 in
    (more.0 ∙ one.0, λ le lt e. at one more le lt e (cases_eq n subject))
  where
    at : {b d : Bool} → (b ≡ on) × ((n == subject) ≡ true → test n ≡ true → on ≡ false) → (d ≡ b) × ((n + 1) ≤ subject → subject < (n + 1) + k → test subject ≡ true → b ≡ false)
        → n ≤ subject → subject < n + suc k → test subject ≡ true → (n ≡ subject) ⊎ (n ≢ subject) → on ≡ false
    at one more le lt e (inl same) = one.1 (eq-eqb n subject same) (ap test same ∙ e)
    at one more le lt e (inr other) = sym one.0 ∙ more.1 (omega arith) (omega arith) e
