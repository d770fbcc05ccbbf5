-- What a look at one value, or at all, leaves of a table of facts.
use Rattle.std.proofs.Common.{◌++◌, take, drop, ◌≡◌, ◌≢◌, ℕ, zero, suc, ◌+◌, ◌<◌, ◌≤◌, List, [], ◌∷◌, length, get_or, set, replicate}
use Rattle.std.proofs.Common.{refl, sym, ap, ◌∙◌, subst, arith, false, cond, ◌⊎◌, inl, inr, Option, Some, None}
use Rattle.std.specs.Prelude.{is_none, is_some, slice_get, unwrap_or}
use Rattle.std.proofs.lemmas.Option.{same_Some}
use Rattle.std.proofs.lemmas.Bool.{cases_eq}
use Rattle.std.proofs.Math.Seq.{drop-length}
use Rattle.std.proofs.lemmas.List.{append-nil, take_all}
use Rattle.std.proofs.lemmas.List.Sums.{sum_by-set}
use Rattle.sil_ast.specs.declared.place.ValueId.{ValueId}
use Rattle.ownership_kinds_chains.specs.declared.ownership_chains.definition.Definition.{Definition}
use Rattle.ownership_kinds_chains.specs.declared.ownership_chains.facts.Facts.{Facts}
use Rattle.ownership_kinds_chains.specs.OwnershipChains.Facts.{AreFactsOf, told_at, value_of}
use Rattle.ownership_kinds_chains.specs.OwnershipChains.Steps.{told_from}
use Rattle.ownership_kinds_chains.specs.OwnershipChains.inner.Settling.{IsSound, unknown}
use Rattle.ownership_kinds_chains.proofs.OwnershipChains.Depths.{from_sound}

abbrev entry : List (Option Facts) → ℕ → Option Facts
entry table n = unwrap_or (slice_get table n) None

set_same : (table : List (Option Facts)) (i : ℕ) (f : Facts) → i < length table → entry (set table i (Some f)) i ≡ Some f
set_same [] i f lt = absurd (omega arith)
set_same (x ∷ table) zero f lt = refl
set_same (x ∷ table) (suc i) f lt = set_same table i f (omega arith)

set_other : (table : List (Option Facts)) (i j : ℕ) (f : Facts) → j ≢ i → entry (set table i (Some f)) j ≡ entry table j
set_other [] i j f n = refl
set_other (x ∷ table) zero zero f n = absurd (n refl)
set_other (x ∷ table) zero (suc j) f n = refl
set_other (x ∷ table) (suc i) zero f n = refl
set_other (x ∷ table) (suc i) (suc j) f n = set_other table i j f (λ e. n (ap suc e))

none_at : (table : List (Option Facts)) (i : ℕ) → i < length table → entry table i ≡ None → get_or table i None ≡ None
none_at [] i lt e = refl
none_at (x ∷ table) zero lt e = e
none_at (x ∷ table) (suc i) lt e = none_at table i (omega arith) e

-- the facts of one value more
module _ (defs : List Definition) (table : List (Option Facts)) (v : ValueId) (f : Facts) (inside : v.0 < length table) (none : told_at table v ≡ None) where
  pub fewer : unknown (set table v.0 (Some f)) < unknown table
  fewer =
      let sum : unknown (set table v.0 (Some f)) + cond {A = ℕ} (is_none (get_or table v.0 None)) 1 0 ≡ unknown table + 0 =
      sum_by-set (λ (o : Option Facts). cond (is_none o) 1 0) table v.0 (Some f) None inside in
      let one : cond {A = ℕ} (is_none (get_or table v.0 None)) 1 0 ≡ 1 = ap (λ (o : Option Facts). cond {A = ℕ} (is_none o) 1 0) (none_at table v.0 inside none) in
      omega arith

  pub stays_sound : told_from defs (told_at table) v ≡ Some f → IsSound defs (told_at table) → IsSound defs (told_at (set table v.0 (Some f)))
  stays_sound from s w g h = at w g h (cases_eq w.0 v.0)
    where
      at : (w : ValueId) (g : Facts) → told_at (set table v.0 (Some f)) w ≡ Some g → (w.0 ≡ v.0) ⊎ (w.0 ≢ v.0) → AreFactsOf defs w g
      at w g h (inl e) =
          let here : AreFactsOf defs v f = from_sound defs (told_at table) s v f from in
          let same : entry (set table v.0 (Some f)) v.0 ≡ Some g = ap (entry (set table v.0 (Some f))) (sym e) ∙ h in
          subst (λ n. AreFactsOf defs (value_of n) g) (sym e) (subst (AreFactsOf defs v) (same_Some f g (sym (set_same table v.0 f inside) ∙ same)) here)
      at w g h (inr n) = s w g (sym (set_other table v.0 w.0 f n) ∙ h)

pub unknown_none : (o : Option Facts) → is_some o ≡ false → o ≡ None
unknown_none None h = refl
unknown_none (Some f) h = absurd (cc)

pub nothing_at : (n k : ℕ) → entry (replicate n None) k ≡ None
nothing_at zero zero = refl
nothing_at zero (suc k) = refl
nothing_at (suc n) zero = refl
nothing_at (suc n) (suc k) = nothing_at n k

-- a slice written back over a whole list
pub written_back : {A : Type 0} (len : ℕ) (new old : List A) → length new ≡ length old → len ≡ length old → take len (new ++ drop (length new) old) ≡ new
written_back len new old same all =
    let none : drop (length new) old ≡ [] = ap (λ n. drop n old) same ∙ drop-length old in
    let le : length new ≤ len = omega arith in
    ap (λ v. take len (new ++ v)) none ∙ ap (take len) (append-nil new) ∙ take_all len new le
