-- Results begin where nothing is held.
use Rattle.std.proofs.Common.{◌≡◌, ◌<◌, List, [], ◌∷◌, ◌++◌, set, refl, sym, ap, ◌∙◌, subst, true, false, cond, Option, Ok, Err}
use Rattle.std.specs.Prelude.{◌==◌}
use Rattle.std.proofs.lemmas.Bool.{cases_Bool, true≢false}
use Rattle.std.proofs.lemmas.List.{length-set}
use Rattle.sil_verifier_trails.proofs.AcceptedTrails.Tests.{either, first_of, or_first, or_second}
use Rattle.sil_verifier_values.specs.holder_model.Data.{Datum}
use Rattle.sil_verifier_values.specs.holder_model.Faults.{OverwritesHeld}
use Rattle.sil_verifier_values.specs.holder_model.Frames.{Entry, entry_at, is_held, made_entry, put_entry, result_put, results_put, with_ok}
use Rattle.sil_verifier_values.specs.ownership_kinds_chains.OwnershipChains.Facts.{has, known_or}
use Rattle.sil_verifier_values.specs.ownership_kinds_chains.declared.ownership_chains.facts.Facts.{Facts}
use Rattle.sil_ast.specs.declared.place.ValueId.{ValueId}
use Rattle.sil_verifier_trails.specs.HeldEntries.inner.Entries.{AreMade, Begin, MayBegin, PutWhereTheyMay}
use Rattle.sil_verifier_trails.proofs.HeldEntries.EntriesEnded.{entry_set_other, entry_set_same, other_way}

module _ (facts : ValueId → Option Facts) where
  module _ (v : ValueId) (vs : List ValueId) (x : Datum) (e : Entry) (entries : List Entry) (made : made_entry (known_or facts v).kind x ≡ Ok e) (may : MayBegin facts (v ∷ vs) entries) where
    abbrev behind_one : List Entry
    behind_one = set entries v.0 e

    put_one : result_put facts v x entries ≡ Ok behind_one
    put_one =
        ap (with_ok (put_entry entries v)) made
        ∙ ap (λ b. cond b (Err OverwritesHeld) (Ok behind_one)) (may [] vs v refl).0

    -- a value that begins later is another one
    later_other : (front rest : List ValueId) (w : ValueId) → vs ≡ front ++ w ∷ rest → (w.0 == v.0) ≡ false
    later_other front rest w parts = other_way v.0 w.0 (or_first (v.0 == w.0) (has front w.0) (may (v ∷ front) rest w (ap (λ l. v ∷ l) parts)).1)

    may_later : MayBegin facts vs behind_one
    may_later front rest w parts =
        let m = may (v ∷ front) rest w (ap (λ l. v ∷ l) parts) in
        let same = entry_set_other entries v w e (later_other front rest w parts) in (
          ap is_held same ∙ m.0,
          or_second (v.0 == w.0) (has front w.0) m.1,
          subst (λ n. w.0 < n) (sym (length-set entries v.0 e)) m.2,
        )

    not_later : has vs v.0 ≡ false
    not_later = either (λ again. absurd (at again)) (λ no. no) (cases_Bool (has vs v.0))
      where
        at : has vs v.0 ≡ true → ⊥
        at again =
            let r = first_of (λ (w : ValueId). w.0 == v.0) vs again in
            true≢false (sym r.passes ∙ later_other r.front r.rest r.here r.parts)

    put_here : entry_at behind_one v ≡ e
    put_here = entry_set_same entries v e (may [] vs v refl).2

    others_here : (w : ValueId) → (v.0 == w.0) ≡ false → entry_at behind_one w ≡ entry_at entries w
    others_here w other = entry_set_other entries v w e (other_way v.0 w.0 other)

  pub put_all : (vs : List ValueId) (xs : List Datum) (es entries : List Entry) → AreMade facts vs xs es → MayBegin facts vs entries → Begin facts vs xs es entries
  put_all [] [] [] entries made may = record { behind = entries; is_behind = refl; size = refl; made = tt; others = λ v h. refl }
  put_all [] [] (e ∷ es) entries made may = absurd made
  put_all [] (x ∷ xs) es entries made may = absurd made
  put_all (v ∷ vs) [] es entries made may = absurd made
  put_all (v ∷ vs) (x ∷ xs) [] entries made may = absurd made
  put_all (v ∷ vs) (x ∷ xs) (e ∷ es) entries made may =
      let r = put_all vs xs es (set entries v.0 e) made.1 (may_later v vs x e entries made.0 may) in
      record {
        behind = r.behind;
        is_behind = ap (with_ok (results_put facts vs xs)) (put_one v vs x e entries made.0 may) ∙ r.is_behind;
        size = r.size ∙ length-set entries v.0 e;
        made = (r.others v (not_later v vs x e entries made.0 may) ∙ put_here v vs x e entries made.0 may, r.made);
        others = λ w h. r.others w (or_second (v.0 == w.0) (has vs w.0) h) ∙ others_here v vs x e entries made.0 may w (or_first (v.0 == w.0) (has vs w.0) h);
      }

pub put_where_they_may : PutWhereTheyMay
put_where_they_may facts vs xs es entries made may = put_all facts vs xs es entries made may
