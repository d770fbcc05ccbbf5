-- The first edge of each case, noted edge by edge.
use Rattle.std.proofs.Common.{◌≡◌, ℕ, zero, suc, ◌+◌, ◌<◌, ◌≤◌, List, [], ◌∷◌, ◌++◌, length, take, set, get_or, refl, sym, ap, ap₂, ◌∙◌, subst, arith}
use Rattle.std.proofs.Common.{Bool, true, false, Option, Some, None, eqb, inl, inr}
use Rattle.std.specs.Prelude.{◌==◌, ◌⊎◌, cond, is_some, position, slice_get}
use Rattle.std.specs.List.{position_from}
use Rattle.std.specs.Option.{option_or}
use Rattle.std.proofs.lemmas.Bool.Decides.{eqb_tells}
use Rattle.std.proofs.lemmas.Iterator.Adapters.{position_from-zero}
use Rattle.std.proofs.lemmas.List.{length-take-le}
use Rattle.holder_model.specs.Edges.{is_at, is_for}
use Rattle.holder_model.specs.ModuleShapes.{case_place}
use Rattle.holder_model_values.specs.RunValues.Shapes.{Shape}
use Rattle.sil_ast.specs.declared.inst.Edge.{Edge}
use Rattle.count_machine_ready.specs.inner.Cases.{AreByCase, noted, or_noted}

-- what is noted at a place

pub noted_new : (cs : List (Option ℕ)) (p e : ℕ) → p < length cs → is_some (get_or cs p None) ≡ false → set cs p (Some e) ≡ noted cs p e
noted_new [] p e lt none = absurd (omega arith)
noted_new (None ∷ cs) zero e lt none = refl
noted_new (Some c ∷ cs) zero e lt none = absurd (cc)
noted_new (c ∷ cs) (suc p) e lt none = ap (λ xs. c ∷ xs) (noted_new cs p e (omega arith) none)

pub noted_old : (cs : List (Option ℕ)) (p e : ℕ) → is_some (get_or cs p None) ≡ true → cs ≡ noted cs p e
noted_old [] p e some = refl
noted_old (None ∷ cs) zero e some = absurd (cc)
noted_old (Some c ∷ cs) zero e some = refl
noted_old (c ∷ cs) (suc p) e some = ap (λ xs. c ∷ xs) (noted_old cs p e some)

pub noted_past : (cs : List (Option ℕ)) (p e : ℕ) → length cs ≤ p → cs ≡ noted cs p e
noted_past [] p e le = refl
noted_past (c ∷ cs) zero e le = absurd (omega arith)
noted_past (c ∷ cs) (suc p) e le = ap (λ xs. c ∷ xs) (noted_past cs p e (omega arith))

noted_length : (cs : List (Option ℕ)) (p e : ℕ) → length (noted cs p e) ≡ length cs
noted_length [] p e = refl
noted_length (c ∷ cs) zero e = refl
noted_length (c ∷ cs) (suc p) e = ap suc (noted_length cs p e)

noted_there : (cs : List (Option ℕ)) (p e : ℕ) (c : Option ℕ) → slice_get cs p ≡ Some c → slice_get (noted cs p e) p ≡ Some (or_noted c e)
noted_there [] p e c at = absurd (cc)
noted_there (x ∷ cs) zero e c at = let same : x ≡ c = cc in ap (λ y. Some (or_noted y e)) same
noted_there (x ∷ cs) (suc p) e c at = noted_there cs p e c at

noted_elsewhere : (cs : List (Option ℕ)) (p e k : ℕ) → (k ≡ p → ⊥) → slice_get (noted cs p e) k ≡ slice_get cs k
noted_elsewhere [] p e k ne = refl
noted_elsewhere (x ∷ cs) zero e zero ne = absurd (ne refl)
noted_elsewhere (x ∷ cs) zero e (suc k) ne = refl
noted_elsewhere (x ∷ cs) (suc p) e zero ne = refl
noted_elsewhere (x ∷ cs) (suc p) e (suc k) ne = noted_elsewhere cs p e k (λ same. ne (ap suc same))

noted_at : (cs : List (Option ℕ)) (p e k : ℕ) (c : Option ℕ) → slice_get cs k ≡ Some c → slice_get (noted cs p e) k ≡ Some (cond (eqb k p) (or_noted c e) c)
noted_at cs p e k c at = by (eqb_tells k p)
  where
    by : ((eqb k p ≡ true) × (k ≡ p)) ⊎ ((eqb k p ≡ false) × (k ≡ p → ⊥)) → slice_get (noted cs p e) k ≡ Some (cond (eqb k p) (or_noted c e) c)
    by (inl (test, same)) =
        subst (λ j. slice_get (noted cs p e) j ≡ Some (or_noted c e)) (sym same) (noted_there cs p e c (subst (λ j. slice_get cs j ≡ Some c) same at))
        ∙ ap (λ b. Some (cond b (or_noted c e) c)) (sym test)
    by (inr (test, ne)) = noted_elsewhere cs p e k ne ∙ at ∙ ap (λ b. Some (cond b (or_noted c e) c)) (sym test)

-- the first that passes, among one more

first_more : {A : Type 0} (test : A → Bool) (i : ℕ) (xs : List A) (x : A)
    → position_from test i (xs ++ x ∷ []) ≡ option_or (position_from test i xs) (cond (test x) (Some (i + length xs)) None)
first_more test i [] x = let e : i ≡ i + 0 = omega arith in ap (λ n. cond (test x) (Some n) None) e
first_more test i (y ∷ xs) x = at (test y) (first_more test (i + 1) xs x)
  where
    at : (b : Bool) → position_from test (i + 1) (xs ++ x ∷ []) ≡ option_or (position_from test (i + 1) xs) (cond (test x) (Some ((i + 1) + length xs)) None)
        → cond b (Some i) (position_from test (i + 1) (xs ++ x ∷ [])) ≡ option_or (cond b (Some i) (position_from test (i + 1) xs))
        (cond (test x) (Some (i + suc (length xs))) None)
    at true h = refl
    at false h = let e : (i + 1) + length xs ≡ i + suc (length xs) = omega arith in h
        ∙ ap (λ n. option_or (position_from test (i + 1) xs) (cond (test x) (Some n) None)) e

position_more : {A : Type 0} (test : A → Bool) (xs : List A) (x : A)
    → position test (xs ++ x ∷ []) ≡ option_or (position test xs) (cond (test x) (Some (length xs)) None)
position_more test xs x =
    position_from-zero test (xs ++ x ∷ []) ∙ first_more test 0 xs x
    ∙ ap₂ (λ o n. option_or o (cond (test x) (Some n) None)) (sym (position_from-zero test xs)) (let e : 0 + length xs ≡ length xs = omega arith in e)

module _ (s : Shape) (edges : List Edge) (count : ℕ) where
  abbrev By : ℕ → List (Option ℕ) → Type 0
  By j chosen = AreByCase s (take j edges) count chosen

  module _ (j : ℕ) (e : Edge) (more : take (j + 1) edges ≡ take j edges ++ e ∷ []) (inside : j < length edges)
      (chosen : List (Option ℕ)) (by : By j chosen) where
    long : length (take j edges) ≡ j
    long = length-take-le j edges (omega arith)

    further : (k : ℕ) (o : Option ℕ) → case_place s e.case_of ≡ o
        → position (is_for s k) (take (j + 1) edges) ≡ option_or (position (is_for s k) (take j edges)) (cond (is_at k o) (Some j) None)
    further k o is =
        ap (position (is_for s k)) more ∙ position_more (is_for s k) (take j edges) e
        ∙ ap₂ (λ x n. option_or (position (is_for s k) (take j edges)) (cond (is_at k x) (Some n) None)) is long

    pub noted_more : (p : ℕ) → case_place s e.case_of ≡ Some p → By (j + 1) (noted chosen p j)
    noted_more p is = record { all = noted_length chosen p j ∙ by.all; each = each }
      where
        join : (b : Bool) (c : Option ℕ) → cond b (or_noted c j) c ≡ option_or c (cond b (Some j) None)
        join true None = refl
        join true (Some x) = refl
        join false None = refl
        join false (Some x) = refl

        each : (k : ℕ) → k < count → slice_get (noted chosen p j) k ≡ Some (position (is_for s k) (take (j + 1) edges))
        each k lt =
            noted_at chosen p j k (position (is_for s k) (take j edges)) (by.each k lt)
            ∙ ap Some (join (k == p) (position (is_for s k) (take j edges)) ∙ sym (further k (Some p) is))

    pub same_more : case_place s e.case_of ≡ None → By (j + 1) chosen
    same_more is = record { all = by.all; each = λ k lt. by.each k lt ∙ ap Some (or_none (position (is_for s k) (take j edges)) ∙ sym (further k None is)) }
      where
        or_none : (o : Option ℕ) → o ≡ option_or o None
        or_none None = refl
        or_none (Some x) = refl
