-- Operands that find their entries end.
use Rattle.std.proofs.Common.{◌≡◌, ℕ, ◌<◌, List, [], ◌∷◌, length, set, refl, sym, ap, ◌∙◌, subst, true, false, cond, ◌&&◌, Option, Some, None, Ok, eq-eqb}
use Rattle.std.specs.Prelude.{◌==◌, slice_get, unwrap_or}
use Rattle.std.specs.List.{list_any}
use Rattle.std.proofs.lemmas.Bool.{and_parts, cases_Bool, eqb-false, eqb-true, false≢true, or_cases, true≢false}
use Rattle.std.proofs.lemmas.List.{get_or-set_other, get_or-set_same, length-set}
use Rattle.std.proofs.lemmas.Option.{slice_get_within, unwrap_or-slice_get}
use Rattle.sil_verifier_trails.specs.AcceptedTrails.inner.Passing.{is_end}
use Rattle.sil_verifier_trails.proofs.AcceptedTrails.Tests.{either, or_first, or_second}
use Rattle.sil_verifier_values.specs.holder_model.Frames.{Entry, Gone, Held, Lent, Plain, ended_entry, ends, entry_at, with_ok, without_ended}
use Rattle.sil_cfg_items.specs.declared.taken.Taken.{Taken}
use Rattle.sil_verifier_values.specs.ownership_kinds_chains.declared.ownership_chains.facts.Facts.{Facts}
use Rattle.sil_ast.specs.declared.place.ValueId.{ValueId}
use Rattle.sil_verifier_trails.specs.HeldEntries.inner.Entries.{CanEnd, End, EndWhereTheyMay, MayEnd}

pub other_way : (a b : ℕ) → (a == b) ≡ false → (b == a) ≡ false
other_way a b other = either (λ same. absurd (true≢false (sym (eq-eqb a b (sym (eqb-true b a same))) ∙ other))) (λ no. no) (cases_Bool (b == a))

pub entry_set_same : (entries : List Entry) (v : ValueId) (e : Entry) → v.0 < length entries → entry_at (set entries v.0 e) v ≡ e
entry_set_same entries v e lt = unwrap_or-slice_get (set entries v.0 e) v.0 Gone ∙ get_or-set_same entries v.0 e Gone lt

pub entry_set_other : (entries : List Entry) (v w : ValueId) (e : Entry) → (w.0 == v.0) ≡ false → entry_at (set entries v.0 e) w ≡ entry_at entries w
entry_set_other entries v w e other =
    unwrap_or-slice_get (set entries v.0 e) w.0 Gone ∙ get_or-set_other entries v.0 w.0 e Gone (eqb-false w.0 v.0 other)
    ∙ sym (unwrap_or-slice_get entries w.0 Gone)

there_within : (entries : List Entry) (v : ValueId) → CanEnd (entry_at entries v) → v.0 < length entries
there_within entries v can = at (slice_get entries v.0) refl can
  where
    at : (o : Option Entry) → slice_get entries v.0 ≡ o → CanEnd (unwrap_or o Gone) → v.0 < length entries
    at None e h = absurd h
    at (Some x) e h = slice_get_within entries v.0 x e

ended_there : (v : ValueId) (entries : List Entry) (e : Entry) → CanEnd e → ended_entry v entries e ≡ Ok (set entries v.0 Gone)
ended_there v entries Gone h = absurd h
ended_there v entries (Held x) h = refl
ended_there v entries (Lent x) h = refl
ended_there v entries (Plain x) h = absurd h

module _ (facts : ValueId → Option Facts) where
  -- the value of another operand, where the one that ends is of none of these
  not_same : (x : Taken) (v : ValueId) → ends facts x ≡ true → is_end facts v x ≡ false → (x.value.0 == v.0) ≡ false
  not_same x v e h = sym (ap (λ b. b && (x.value.0 == v.0)) e) ∙ h

  none_ended : (x : Taken) (xs : List Taken) (entries : List Entry) → ends facts x ≡ false → MayEnd facts (x ∷ xs) entries → (MayEnd facts xs entries → End facts xs entries)
      → End facts (x ∷ xs) entries
  none_ended x xs entries e may more =
      let r = more (λ front rest y parts there. let m = may (x ∷ front) rest y (ap (λ l. x ∷ l) parts) there in
      (m.0, or_second (is_end facts y.value x) (list_any (is_end facts y.value) front) m.1)) in
      record {
        left = r.left;
        is_left = ap (λ b. cond b (with_ok (without_ended facts xs) (ended_entry x.value entries (entry_at entries x.value))) (without_ended facts xs entries)) e ∙ r.is_left;
        ended = record {
          size = r.ended.size;
          gone = λ v h. either (λ here. absurd (true≢false (sym (and_parts (ends facts x) (x.value.0 == v.0) here).0 ∙ e))) (λ later. r.ended.gone v later)
              (or_cases (is_end facts v x) (list_any (is_end facts v) xs) h);
          others = λ v h. r.ended.others v (or_second (is_end facts v x) (list_any (is_end facts v) xs) h);
        };
      }

  one_ended : (x : Taken) (xs : List Taken) (entries : List Entry) → ends facts x ≡ true → MayEnd facts (x ∷ xs) entries
      → (MayEnd facts xs (set entries x.value.0 Gone) → End facts xs (set entries x.value.0 Gone)) → End facts (x ∷ xs) entries
  one_ended x xs entries e may more = record {
    left = r.left;
    is_left = ap (λ b. cond b (with_ok (without_ended facts xs) (ended_entry x.value entries (entry_at entries x.value))) (without_ended facts xs entries)) e
        ∙ ap (with_ok (without_ended facts xs)) (ended_there x.value entries (entry_at entries x.value) can) ∙ r.is_left;
    ended = record {
      size = r.ended.size ∙ length-set entries x.value.0 Gone;
      gone = gone;
      others = λ v h. r.ended.others v (or_second (is_end facts v x) (list_any (is_end facts v) xs) h)
          ∙ entry_set_other entries x.value v Gone (other_way x.value.0 v.0 (not_same x v e (or_first (is_end facts v x) (list_any (is_end facts v) xs) h)));
    };
  }
    where
      can : CanEnd (entry_at entries x.value)
      can = (may [] xs x refl e).0

      r : End facts xs (set entries x.value.0 Gone)
      r = more (λ front rest y parts there. let m = may (x ∷ front) rest y (ap (λ l. x ∷ l) parts) there in (
        subst CanEnd (sym (entry_set_other entries x.value y.value Gone
            (other_way x.value.0 y.value.0 (not_same x y.value e (or_first (is_end facts y.value x) (list_any (is_end facts y.value) front) m.1))))) m.0,
        or_second (is_end facts y.value x) (list_any (is_end facts y.value) front) m.1,
      ))

      gone_here : (v : ValueId) → x.value.0 ≡ v.0 → entry_at (set entries x.value.0 Gone) v ≡ Gone
      gone_here v same =
          ap (λ n. unwrap_or (slice_get (set entries x.value.0 Gone) n) Gone) (sym same)
          ∙ entry_set_same entries x.value Gone (there_within entries x.value can)

      gone : (v : ValueId) → list_any (is_end facts v) (x ∷ xs) ≡ true → entry_at r.left v ≡ Gone
      gone v h = either (λ later. r.ended.gone v later)
          (λ none. either
          (λ here. r.ended.others v none ∙ gone_here v (eqb-true x.value.0 v.0 (and_parts (ends facts x) (x.value.0 == v.0) here).1))
          (λ later. absurd (true≢false (sym later ∙ none)))
          (or_cases (is_end facts v x) (list_any (is_end facts v) xs) h))
          (cases_Bool (list_any (is_end facts v) xs))

  pub end_all : (xs : List Taken) (entries : List Entry) → MayEnd facts xs entries → End facts xs entries
  end_all [] entries may = record {
    left = entries;
    is_left = refl;
    ended = record { size = refl; gone = λ v h. absurd (false≢true h); others = λ v h. refl };
  }
  end_all (x ∷ xs) entries may =
      either (λ e. one_ended x xs entries e may (end_all xs (set entries x.value.0 Gone))) (λ e. none_ended x xs entries e may (end_all xs entries))
      (cases_Bool (ends facts x))

pub end_where_they_may : EndWhereTheyMay
end_where_they_may facts xs entries may = end_all facts xs entries may
