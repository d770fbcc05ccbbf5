-- What changes of stored numbers make of the numbers of each object, by the weight of that object alone.
use Rattle.std.proofs.Common.{◌≡◌, ℕ, zero, suc, ◌+◌, ◌-◌, ◌<◌, List, [], ◌∷◌, ◌++◌, map, length, arith, refl, sym, ap, ◌∙◌, subst, Bool, true, false, cond}
use Rattle.std.specs.Prelude.{◌==◌, slice_get, unwrap_or}
use Rattle.std.specs.List.{flat_map}
use Rattle.std.proofs.lemmas.Bool.{eqb-false, eqb-true}
use Rattle.std.proofs.lemmas.List.{get_or-set_other, get_or-set_same, length-set}
use Rattle.std.proofs.lemmas.List.Sums.{sum_by-cons}
use Rattle.std.proofs.lemmas.Option.{unwrap_or-slice_get}
use Rattle.numbered_form.specs.Lists.{Each}
use Rattle.sil_ast.specs.declared.decl.Storage.{Storage}
use Rattle.sil_ast.specs.declared.decl.Storage.TheVariants as storage
use Rattle.sil_ast.specs.declared.place.ObjectId.{ObjectId}
use Rattle.holder_model.specs.holder_model_values.RunValues.Cells.{Cell}
use Rattle.holder_model.specs.Holders.{in_cell, in_cells, kept_references, of_references, one_object}
use Rattle.holder_model.specs.Outcomes.{Numbers}
use Rattle.holder_model.specs.LoweredRun.Stored.{changed, each_changed, less_unowned, less_weak, more_unowned, more_weak, named}
use Rattle.holder_model.specs.LoweredRun.Stored.{new_numbers, no_numbers, numbers_of, one_less, one_more, unnamed, unowned_named, weakly_named}
use Rattle.holder_model_laws.specs.StoredCounts.inner.Numbers.{AreNamesStored, IsStoredOf}

pub references_more : (weight : ObjectId → ℕ) (o : ObjectId) (os : List ObjectId) → of_references weight (o ∷ os) ≡ weight o + of_references weight os
references_more weight o os = sum_by-cons (λ n. n) (weight o) (map weight os)

-- ---- one object's numbers are changed

pub changed_length : (f : Numbers → Numbers) (stored : List Numbers) (o : ObjectId) → length (changed f stored o) ≡ length stored
changed_length f stored o = length-set stored o.0 (f (numbers_of stored o))

same_id : (o p : ObjectId) → o.0 ≡ p.0 → o ≡ p
same_id o p e = ap (λ n. record { 0 = n }) e

module _ (f : Numbers → Numbers) (stored : List Numbers) (o : ObjectId) (within : IsStoredOf stored o) where
  changed_here : numbers_of (changed f stored o) o ≡ f (numbers_of stored o)
  changed_here =
      unwrap_or-slice_get (changed f stored o) o.0 no_numbers ∙ get_or-set_same stored o.0 (f (numbers_of stored o)) no_numbers within

  changed_other : (p : ObjectId) → (p.0 == o.0) ≡ false → numbers_of (changed f stored o) p ≡ numbers_of stored p
  changed_other p other =
      unwrap_or-slice_get (changed f stored o) p.0 no_numbers ∙ get_or-set_other stored o.0 p.0 (f (numbers_of stored o)) no_numbers (eqb-false p.0 o.0 other)
      ∙ sym (unwrap_or-slice_get stored p.0 no_numbers)

  pub changed_at : (p : ObjectId) → numbers_of (changed f stored o) p ≡ cond (p.0 == o.0) (f (numbers_of stored p)) (numbers_of stored p)
  changed_at p = at (p.0 == o.0) refl
    where
      at : (b : Bool) → (p.0 == o.0) ≡ b → numbers_of (changed f stored o) p ≡ cond b (f (numbers_of stored p)) (numbers_of stored p)
      at true e = subst (λ q. numbers_of (changed f stored o) q ≡ f (numbers_of stored q)) (same_id o p (sym (eqb-true p.0 o.0 e))) changed_here
      at false e = changed_other p e

-- what each kind of change does

abbrev pub more_strong_by : ℕ → Numbers → Numbers
more_strong_by k n = record n { strong = n.strong + k }

abbrev pub less_strong_by : ℕ → Numbers → Numbers
less_strong_by k n = record n { strong = n.strong - k }

abbrev pub more_weak_by : ℕ → Numbers → Numbers
more_weak_by k n = record n { weak = n.weak + k }

abbrev pub less_weak_by : ℕ → Numbers → Numbers
less_weak_by k n = record n { weak = n.weak - k }

abbrev pub more_unowned_by : ℕ → Numbers → Numbers
more_unowned_by k n = record n { unowned = n.unowned + k }

abbrev pub less_unowned_by : ℕ → Numbers → Numbers
less_unowned_by k n = record n { unowned = n.unowned - k }

-- a change by one, and by any number of ones
pub record ByOnes (f : Numbers → Numbers) (by : ℕ → Numbers → Numbers) : Type 0 where
  pub none : (n : Numbers) → n ≡ by 0 n
  pub one : (n : Numbers) → f n ≡ by 1 n
  pub more : (k j : ℕ) (n : Numbers) → by k (by j n) ≡ by (j + k) n

pub strong_more : ByOnes one_more more_strong_by
strong_more = record {
  none = λ n. ap (λ k. record n { strong = k }) (omega arith);
  one = λ n. refl;
  more = λ k j n. ap (λ k. record n { strong = k }) (omega arith);
}

pub strong_less : ByOnes one_less less_strong_by
strong_less = record {
  none = λ n. ap (λ k. record n { strong = k }) (omega arith);
  one = λ n. refl;
  more = λ k j n. ap (λ k. record n { strong = k }) (omega arith);
}

pub weak_more : ByOnes more_weak more_weak_by
weak_more = record {
  none = λ n. ap (λ k. record n { weak = k }) (omega arith);
  one = λ n. refl;
  more = λ k j n. ap (λ k. record n { weak = k }) (omega arith);
}

pub weak_less : ByOnes less_weak less_weak_by
weak_less = record {
  none = λ n. ap (λ k. record n { weak = k }) (omega arith);
  one = λ n. refl;
  more = λ k j n. ap (λ k. record n { weak = k }) (omega arith);
}

pub unowned_more : ByOnes more_unowned more_unowned_by
unowned_more = record {
  none = λ n. ap (λ k. record n { unowned = k }) (omega arith);
  one = λ n. refl;
  more = λ k j n. ap (λ k. record n { unowned = k }) (omega arith);
}

pub unowned_less : ByOnes less_unowned less_unowned_by
unowned_less = record {
  none = λ n. ap (λ k. record n { unowned = k }) (omega arith);
  one = λ n. refl;
  more = λ k j n. ap (λ k. record n { unowned = k }) (omega arith);
}

module _ (f : Numbers → Numbers) (by : ℕ → Numbers → Numbers) (ones : ByOnes f by) where
  pub one_changed : (stored : List Numbers) (o : ObjectId) → IsStoredOf stored o → (p : ObjectId)
      → numbers_of (changed f stored o) p ≡ by (one_object p o) (numbers_of stored p)
  one_changed stored o within p = changed_at f stored o within p ∙ at (p.0 == o.0)
    where
      at : (b : Bool) → cond b (f (numbers_of stored p)) (numbers_of stored p) ≡ by (cond b 1 0) (numbers_of stored p)
      at true = ones.one (numbers_of stored p)
      at false = ones.none (numbers_of stored p)

  -- the numbers of many objects are changed, one after another
  pub each_length : (os : List ObjectId) (stored : List Numbers) → length (each_changed f os stored) ≡ length stored
  each_length [] stored = refl
  each_length (o ∷ os) stored = each_length os (changed f stored o) ∙ changed_length f stored o

  pub each_at : (os : List ObjectId) (stored : List Numbers) → Each (IsStoredOf stored) os → (p : ObjectId)
      → numbers_of (each_changed f os stored) p ≡ by (of_references (one_object p) os) (numbers_of stored p)
  each_at [] stored within p = ones.none (numbers_of stored p)
  each_at (o ∷ os) stored within p =
      each_at os (changed f stored o) (subst (λ n. Each (λ (q : ObjectId). q.0 < n) os) (sym (changed_length f stored o)) within.1) p
      ∙ ap (by (of_references (one_object p) os)) (one_changed stored o within.0 p)
      ∙ ones.more (of_references (one_object p) os) (one_object p o) (numbers_of stored p)
      ∙ ap (λ k. by k (numbers_of stored p)) (sym (references_more (one_object p) o os))

-- ---- what storage names

pub references_joined : (weight : ObjectId → ℕ) (os ps : List ObjectId) → of_references weight (os ++ ps) ≡ of_references weight os + of_references weight ps
references_joined weight [] ps = omega arith
references_joined weight (o ∷ os) ps =
    let whole = references_more weight o (os ++ ps) in
    let first = references_more weight o os in
    let rest = references_joined weight os ps in
    omega (arith, whole, first, rest)

-- the references that cells keep in one way weigh what the cells hold so
pub kept_counted : (weight : ObjectId → ℕ) (s : Storage) (cells : List Cell) → of_references weight (flat_map (kept_references s) cells) ≡ in_cells weight s cells
kept_counted weight s [] = refl
kept_counted weight s (c ∷ cells) =
    references_joined weight (kept_references s c) (flat_map (kept_references s) cells)
    ∙ ap (λ n. of_references weight (kept_references s c) + n) (kept_counted weight s cells)
    ∙ sym (sum_by-cons (λ n. n) (of_references weight (kept_references s c)) (map (in_cell weight s) cells))

module _ (stored : List Numbers) (cells : List Cell) where
  pub named_length : length (named cells stored) ≡ length stored
  named_length =
      each_length more_weak more_weak_by weak_more (weakly_named cells) (each_changed more_unowned (unowned_named cells) stored)
      ∙ each_length more_unowned more_unowned_by unowned_more (unowned_named cells) stored

  pub unnamed_length : length (unnamed cells stored) ≡ length stored
  unnamed_length =
      each_length less_weak less_weak_by weak_less (weakly_named cells) (each_changed less_unowned (unowned_named cells) stored)
      ∙ each_length less_unowned less_unowned_by unowned_less (unowned_named cells) stored

  module _ (within : AreNamesStored stored cells) (p : ObjectId) where
    pub named_at : numbers_of (named cells stored) p
        ≡ more_weak_by (in_cells (one_object p) storage.Weak cells) (more_unowned_by (in_cells (one_object p) storage.Unowned cells) (numbers_of stored p))
    named_at =
        each_at more_weak more_weak_by weak_more (weakly_named cells) (each_changed more_unowned (unowned_named cells) stored)
        (subst (λ n. Each (λ (q : ObjectId). q.0 < n) (weakly_named cells)) (sym (each_length more_unowned more_unowned_by unowned_more (unowned_named cells) stored)) within.weakly) p
        ∙ ap (more_weak_by (of_references (one_object p) (weakly_named cells)))
        (each_at more_unowned more_unowned_by unowned_more (unowned_named cells) stored within.unowned p
        ∙ ap (λ k. more_unowned_by k (numbers_of stored p)) (kept_counted (one_object p) storage.Unowned cells))
        ∙ ap (λ k. more_weak_by k (more_unowned_by (in_cells (one_object p) storage.Unowned cells) (numbers_of stored p))) (kept_counted (one_object p) storage.Weak cells)

    pub unnamed_at : numbers_of (unnamed cells stored) p
        ≡ less_weak_by (in_cells (one_object p) storage.Weak cells) (less_unowned_by (in_cells (one_object p) storage.Unowned cells) (numbers_of stored p))
    unnamed_at =
        each_at less_weak less_weak_by weak_less (weakly_named cells) (each_changed less_unowned (unowned_named cells) stored)
        (subst (λ n. Each (λ (q : ObjectId). q.0 < n) (weakly_named cells)) (sym (each_length less_unowned less_unowned_by unowned_less (unowned_named cells) stored)) within.weakly) p
        ∙ ap (less_weak_by (of_references (one_object p) (weakly_named cells)))
        (each_at less_unowned less_unowned_by unowned_less (unowned_named cells) stored within.unowned p
        ∙ ap (λ k. less_unowned_by k (numbers_of stored p)) (kept_counted (one_object p) storage.Unowned cells))
        ∙ ap (λ k. less_weak_by k (less_unowned_by (in_cells (one_object p) storage.Unowned cells) (numbers_of stored p))) (kept_counted (one_object p) storage.Weak cells)

-- ---- a new object

get_joined : (stored : List Numbers) (k : ℕ) → k ≡ length stored → unwrap_or (slice_get (stored ++ new_numbers ∷ []) k) no_numbers ≡ new_numbers
get_joined [] zero e = refl
get_joined [] (suc k) e = absurd (omega arith)
get_joined (n ∷ stored) zero e = absurd (omega arith)
get_joined (n ∷ stored) (suc k) e = get_joined stored k (omega arith)

get_others : (stored : List Numbers) (k : ℕ) → ¬ (k ≡ length stored) → unwrap_or (slice_get (stored ++ new_numbers ∷ []) k) no_numbers ≡ unwrap_or (slice_get stored k) no_numbers
get_others [] zero e = absurd (e refl)
get_others [] (suc k) e = refl
get_others (n ∷ stored) zero e = refl
get_others (n ∷ stored) (suc k) e = get_others stored k (λ q. e (ap suc q))

none_past : (stored : List Numbers) (k : ℕ) → k ≡ length stored → unwrap_or (slice_get stored k) no_numbers ≡ no_numbers
none_past [] k e = refl
none_past (n ∷ stored) zero e = absurd (omega arith)
none_past (n ∷ stored) (suc k) e = none_past stored k (omega arith)

-- it has one strong reference more, and the others have what they had
pub new_at : (stored : List Numbers) (o p : ObjectId) → o.0 ≡ length stored → numbers_of (stored ++ new_numbers ∷ []) p ≡ more_strong_by (one_object p o) (numbers_of stored p)
new_at stored o p is = at (p.0 == o.0) refl
  where
    at : (b : Bool) → (p.0 == o.0) ≡ b → numbers_of (stored ++ new_numbers ∷ []) p ≡ more_strong_by (cond b 1 0) (numbers_of stored p)
    at true e =
        let here : p.0 ≡ length stored = eqb-true p.0 o.0 e ∙ is in
        get_joined stored p.0 here ∙ sym (ap (more_strong_by 1) (none_past stored p.0 here))
    at false e = get_others stored p.0 (λ q. eqb-false p.0 o.0 e (q ∙ sym is)) ∙ strong_more.none (numbers_of stored p)
