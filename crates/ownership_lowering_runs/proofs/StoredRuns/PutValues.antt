-- Values that are put in a lowered frame: what stays under other numbers, and what holds of all that is put.
use Rattle.std.proofs.Common.{◌≡◌, ℕ, zero, suc, List, [], ◌∷◌, length, set, arith, refl, sym, ap, ◌∙◌, subst, false, Option, Some, None}
use Rattle.std.specs.Prelude.{◌==◌, slice_get, unwrap_or}
use Rattle.std.proofs.lemmas.Option.{none-some, same_Some}
use Rattle.numbered_form.specs.Lists.{Each}
use Rattle.sil_ast.specs.declared.place.ValueId.{ValueId}
use Rattle.sil_verifier_runs.specs.holder_model.Data.{Datum}
use Rattle.sil_verifier_runs.specs.holder_model.Frames.{Gone, entry_at, no_entries}
use Rattle.sil_verifier_runs.specs.holder_model.LoweredRun.LowFrames.{no_values, put_all, value_at}
use Rattle.ownership_lowering_runs.proofs.StoredRuns.ValuesFor.{value_other}

-- ---- none of so many is there

pub no_entry : (n : ℕ) (v : ValueId) → entry_at (no_entries n) v ≡ Gone
no_entry n v = at n v.0
  where
    at : (n k : ℕ) → unwrap_or (slice_get (no_entries n) k) Gone ≡ Gone
    at zero k = refl
    at (suc n) zero = refl
    at (suc n) (suc k) = at n k

pub no_value : (n : ℕ) (v : ValueId) → value_at (no_values n) v ≡ None
no_value n v = at n v.0
  where
    at : (n k : ℕ) → unwrap_or (slice_get (no_values n) k) None ≡ None
    at zero k = refl
    at (suc n) zero = refl
    at (suc n) (suc k) = at n k

-- ---- what is put

-- as many as there are values
pub put_total : (vs : List ValueId) (ys : List Datum) (values : List (Option Datum)) → length ys ≡ length vs → (values' : List (Option Datum)) × (put_all vs ys values ≡ Some values')
put_total [] [] values e = (values, refl)
put_total [] (y ∷ ys) values e = absurd (omega arith)
put_total (v ∷ vs) [] values e = absurd (omega arith)
put_total (v ∷ vs) (y ∷ ys) values e = put_total vs ys (set values v.0 (Some y)) (omega arith)

-- under other numbers all stays
pub put_other : (vs : List ValueId) (ys : List Datum) (values values' : List (Option Datum)) (w : ValueId) → put_all vs ys values ≡ Some values'
    → Each (λ r. (w.0 == r.0) ≡ false) vs → value_at values' w ≡ value_at values w
put_other [] [] values values' w e h = ap (λ us. value_at us w) (sym (same_Some values values' e))
put_other [] (y ∷ ys) values values' w e h = absurd (none-some values' e)
put_other (v ∷ vs) [] values values' w e h = absurd (none-some values' e)
put_other (v ∷ vs) (y ∷ ys) values values' w e h = put_other vs ys (set values v.0 (Some y)) values' w e h.1 ∙ value_other values v w y h.0

module _ (P : Datum → Type 0) where
  set_holds : (values : List (Option Datum)) (k : ℕ) (y : Datum) (n : ℕ) (z : Datum) → P y → ((u : Datum) → unwrap_or (slice_get values n) None ≡ Some u → P u)
      → unwrap_or (slice_get (set values k (Some y)) n) None ≡ Some z → P z
  set_holds [] k y n z p h e = absurd (none-some z e)
  set_holds (a ∷ values) zero y zero z p h e = subst P (same_Some y z e) p
  set_holds (a ∷ values) zero y (suc n) z p h e = h z e
  set_holds (a ∷ values) (suc k) y zero z p h e = h z e
  set_holds (a ∷ values) (suc k) y (suc n) z p h e = set_holds values k y n z p h e

  -- what holds of all that is put and of what was there holds of what is there then
  pub put_holds : (vs : List ValueId) (ys : List Datum) (values values' : List (Option Datum)) (w : ValueId) → put_all vs ys values ≡ Some values' → Each P ys
      → ((u : Datum) → value_at values w ≡ Some u → P u) → (z : Datum) → value_at values' w ≡ Some z → P z
  put_holds [] [] values values' w e each h z is = h z (ap (λ us. value_at us w) (same_Some values values' e) ∙ is)
  put_holds [] (y ∷ ys) values values' w e each h z is = absurd (none-some values' e)
  put_holds (v ∷ vs) [] values values' w e each h z is = absurd (none-some values' e)
  put_holds (v ∷ vs) (y ∷ ys) values values' w e each h z is =
      put_holds vs ys (set values v.0 (Some y)) values' w e each.1 (λ u k. set_holds values v.0 y w.0 u each.0 h k) z is
