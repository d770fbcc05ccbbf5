-- Lent entries are guarded behind the ends of an item, and behind its results.
use Rattle.std.proofs.Common.{◌≡◌, ◌∷◌, refl, sym, ap, ◌∙◌, subst, Bool, true, false, not, ◌&&◌, ◌||◌, inl, inr, ⊎_elim, Some, Ok}
use Rattle.std.proofs.lemmas.Bool.{cases_Bool, false≢true, true≢false}
use Rattle.sil_verifier_frames.specs.sil_verifier_trails.AcceptedTrails.inner.Defined.{makes}
use Rattle.sil_verifier_frames.specs.ownership_kinds_origins.Facts.{facts_in}
use Rattle.sil_verifier_frames.specs.sil_verifier_trails.RunTrails.inner.Since.{is_none_since}
use Rattle.sil_cfg_items.specs.Items.{item_defined}
use Rattle.sil_ast.specs.declared.place.ObjectId.{ObjectId}
use Rattle.sil_ast.specs.declared.place.ValueId.{ValueId}
use Rattle.sil_verifier_frames.specs.sil_verifier_values.inner.Known.{kind_at}
use Rattle.sil_verifier_frames.specs.holder_model.Data.{Datum, references_in}
use Rattle.sil_verifier_frames.specs.holder_model.Frames.{Entry, Held, Lent, entry_at, made_entry}
use Rattle.sil_verifier_frames.proofs.holder_model_laws.HolderLaws.Counts.Entries.{IsLeftOf, left_of, was_there}
use Rattle.sil_verifier_runs.specs.inner.Guarded.Guards.{AreLentGuarded, AreOfKinds, Guard, IsGuarded, IsNamed, IsThere, argument, loan, scope}
use Rattle.sil_verifier_runs.specs.inner.Guarded.Kept.{AreGuardedBehind, AreGuardedLeft, IsAnchor, IsNewlyGuarded, StayAnchored, borrows, by_base, by_caller, lends_cell}
use Rattle.sil_verifier_runs.proofs.Guarded.Entries.{made_lent_same, results_either, results_held, results_made, results_others, results_there}
use Rattle.sil_verifier_runs.proofs.Guarded.Guards.{guard_there, guards_kept}

pub lent_there : (e : Entry) (x : Datum) → e ≡ Lent x → IsThere e
lent_there e x h gone = cc

-- ---- behind the ends

pub guarded_left : AreGuardedLeft
guarded_left d f lends m entries left t ts kinds lent ends borrowed = (kinds_left, lent_left)
  where
    from : IsLeftOf entries left
    from = left_of (facts_in d f) ts entries left ends

    before : (v : ValueId) → IsThere (entry_at left v) → entry_at entries v ≡ entry_at left v
    before v there = was_there entries left v from there

    there_before : (v : ValueId) → IsThere (entry_at left v) → IsThere (entry_at entries v)
    there_before v there = subst IsThere (sym (before v there)) there

    kinds_left : AreOfKinds d f left
    kinds_left v = ⊎_elim (λ same. ⊎_elim (λ gone. inl (same ∙ gone)) (λ made. inr (made.0, made.1 ∙ ap Ok (sym same))) (kinds v)) (λ gone. inl gone) (from v)

    stay : StayAnchored d f lends lends m m entries left
    stay = record {
      held = λ v x e there. sym (before v there) ∙ e;
      lent = λ v x anchor e there. sym (before v there) ∙ e;
      borrowed = borrowed;
      lending = λ s x k y is e there l keeps. (l, keeps);
    }

    lent_left : AreLentGuarded d f lends m left t
    lent_left v x e current o n =
        let g = lent v x (before v (lent_there (entry_at left v) x e) ∙ e) (λ b base. (there_before b (current b base).0, (current b base).1)) o n in
        record { base = g.base; is_base = g.is_base; guard = guards_kept d f lends lends m m entries left stay o g.base g.guard (current g.base g.is_base).0 }

-- ---- behind the results

since_parts : (p q rest : Bool) → q ≡ false → (q || (not p && rest)) ≡ true → (p ≡ false) × (rest ≡ true)
since_parts true true rest e h = absurd (true≢false e)
since_parts true false rest e h = absurd (false≢true h)
since_parts false true rest e h = absurd (true≢false e)
since_parts false false rest e h = (refl, h)

pub guarded_behind : AreGuardedBehind
guarded_behind d f lends lends' m m' left behind t i xs kinds lent put right = (kinds_behind, lent_behind)
  where
    others : (v : ValueId) → makes f v i ≡ false → entry_at behind v ≡ entry_at left v
    others v none = results_others (facts_in d f) (item_defined f i) xs left behind put v none

    kinds_behind : AreOfKinds d f behind
    kinds_behind v =
        ⊎_elim (λ same. ⊎_elim (λ gone. inl (same ∙ gone)) (λ made. inr (made.0, made.1 ∙ ap Ok (sym same))) (kinds v)) (λ r. inr (r.datum, r.made))
        (results_either (facts_in d f) (item_defined f i) xs left behind put v)

    held_stays : (v : ValueId) (x : Datum) → entry_at left v ≡ Held x → entry_at behind v ≡ Held x
    held_stays v x e = results_held (facts_in d f) (item_defined f i) xs left behind put v x e

    lent_stays : (v : ValueId) (x : Datum) → IsAnchor f v → entry_at left v ≡ Lent x → entry_at behind v ≡ Lent x
    lent_stays v x anchor e = others v (right.anchors v x anchor e) ∙ e

    stay : StayAnchored d f lends lends' m m' left behind
    stay = record {
      held = λ v x e there. held_stays v x e;
      lent = λ v x anchor e there. lent_stays v x anchor e;
      borrowed = λ s b x is e there from there_b. results_there (facts_in d f) (item_defined f i) xs left behind put b there_b;
      lending = λ s x k y is e there l keeps. right.lending s x k y is e l keeps;
    }

    guard_stays : (o : ObjectId) (b : ValueId) → Guard d f lends m left o b → Guard d f lends' m' behind o b
    guard_stays o b g =
        guards_kept d f lends lends' m m' left behind stay o b g
        (results_there (facts_in d f) (item_defined f i) xs left behind put b (guard_there d f lends m left o b g))

    new_guarded : (v : ValueId) (x : Datum) (o : ObjectId) → entry_at behind v ≡ Lent x → IsNamed o (references_in x) → IsNewlyGuarded d f lends lends' m m' left o v
        → IsGuarded d f lends' m' behind o v
    new_guarded v x o e n (by_caller a base) = record { base = v; is_base = base; guard = argument v x a e n }
    new_guarded v x o e n (borrows b is base from g) = record { base = v; is_base = base; guard = scope v b x is e from (guard_stays o b g) }
    new_guarded v x o e n (lends_cell k y is base l keeps named) = record { base = v; is_base = base; guard = loan v x k y is e l keeps named }
    new_guarded v x o e n (by_base b base g) = record { base = b; is_base = base; guard = guard_stays o b g }

    lent_behind : AreLentGuarded d f lends' m' behind (i ∷ t)
    lent_behind v x e current o n = ⊎_elim made old (cases_Bool (makes f v i))
      where
        made : makes f v i ≡ true → IsGuarded d f lends' m' behind o v
        made it =
            let r = results_made (facts_in d f) (item_defined f i) xs left behind put v it (lent_there (entry_at behind v) x e) in
            let same : r.datum ≡ x = made_lent_same (kind_at d f v) r.datum x (r.made ∙ ap Ok e) in
            new_guarded v x o e n
            (right.made r.n v x o r.value_is (r.datum_is ∙ ap Some same)
            (subst (λ (y : Datum). made_entry (kind_at d f v) y ≡ Ok (Lent x)) same (r.made ∙ ap Ok e)) n)

        old : makes f v i ≡ false → IsGuarded d f lends' m' behind o v
        old none =
            let g = lent v x (sym (others v none) ∙ e) (λ b base.
            let z = current b base in
            let since = since_parts (makes f b i) (makes f v i) (is_none_since (makes f b) (makes f v) t) none z.1 in
            (subst IsThere (others b since.0) z.0, since.1)) o n in
            record { base = g.base; is_base = g.is_base; guard = guard_stays o g.base g.guard }
