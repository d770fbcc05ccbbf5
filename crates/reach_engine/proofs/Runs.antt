use Rattle.std.proofs.Common.{◌≡◌, ℕ, List, [], ◌∷◌, ◌++◌, refl, sym, ap, ◌∙◌, ◌⊎◌, inl, inr}
use Rattle.std.proofs.lemmas.List.Sums.{fold-append}
use Rattle.std.proofs.lemmas.List.Folds.{fold_stays}
use Rattle.reach_engine.specs.declared.scan.Step.{Step}
use Rattle.reach_engine.specs.declared.scan.Step.TheVariants.{Go, Bad}
use Rattle.reach_engine.specs.inner.Run.{run, after, BreaksAt}

pub run-append : {A : Type 0} (f : ℕ → A → Step) (r : Step) (u v : List A) → run f r (u ++ v) ≡ run f (run f r u) v
run-append f r u v = fold-append (after f) r u v

pub run_bad : {A : Type 0} (f : ℕ → A → Step) (c : ℕ) (u : List A) → run f (Bad c) u ≡ Bad c
run_bad f c u = fold_stays (after f) (Bad c) (λ x. refl) u

pub go-bad : (s c : ℕ) → Go s ≡ Bad c → ⊥
go-bad s c h = cc

pub same_Go : (s t : ℕ) → Go s ≡ Go t → s ≡ t
same_Go s t h = cc

pub same_Bad : (s t : ℕ) → Bad s ≡ Bad t → s ≡ t
same_Bad s t h = cc

-- a run that comes to a state was in a state before
pub run_split : {A : Type 0} (f : ℕ → A → Step) (r : Step) (u v : List A) (s : ℕ) → run f r (u ++ v) ≡ Go s →
    (t : ℕ) × (run f r u ≡ Go t) × (run f (Go t) v ≡ Go s)
run_split f r u v s h = at (run f r u) refl
  where
    at : (m : Step) → run f r u ≡ m → (t : ℕ) × (run f r u ≡ Go t) × (run f (Go t) v ≡ Go s)
    at (Go t) e = (t, e, ap (λ x. run f x v) (sym e) ∙ sym (run-append f r u v) ∙ h)
    at (Bad c) e = absurd (go-bad s c (sym h ∙ run-append f r u v ∙ ap (λ x. run f x v) e ∙ run_bad f c v))

pub run_join : {A : Type 0} (f : ℕ → A → Step) (r : Step) (u v : List A) (t : ℕ) (m : Step) → run f r u ≡ Go t → run f (Go t) v ≡ m → run f r (u ++ v) ≡ m
run_join f r u v t m a b = run-append f r u v ∙ ap (λ x. run f x v) a ∙ b

-- a bad item spoils the run
pub run_breaks : {A : Type 0} (f : ℕ → A → Step) (r : Step) (u v : List A) (x : A) (t c : ℕ) → run f r u ≡ Go t → f t x ≡ Bad c → run f r (u ++ x ∷ v) ≡ Bad c
run_breaks f r u v x t c a b = run_join f r u (x ∷ v) t (Bad c) a (ap (λ y. run f y v) b ∙ run_bad f c v)

pub run_breaks_at : (f : ℕ → ℕ → Step) (s : ℕ) (items : List ℕ) (c i : ℕ) → BreaksAt f s items c i → run f (Go s) items ≡ Bad c
run_breaks_at f s items c i h = ap (run f (Go s)) h.parts ∙ run_breaks f (Go s) h.before h.behind i h.state c h.clean h.breaks

pub run_end_bad : {A : Type 0} (f : ℕ → A → Step) (r : Step) (u v : List A) (c : ℕ) → run f r u ≡ Bad c → run f r (u ++ v) ≡ Bad c
run_end_bad f r u v c h = run-append f r u v ∙ ap (λ x. run f x v) h ∙ run_bad f c v

-- a list is empty, or has a last element
pub end_cases : {A : Type 0} (xs : List A) → (xs ≡ []) ⊎ ((front : List A) × (last : A) × (xs ≡ front ++ last ∷ []))
end_cases [] = inl refl
end_cases (x ∷ xs) = at (end_cases xs)
  where
    at : (xs ≡ []) ⊎ ((front : List _) × (last : _) × (xs ≡ front ++ last ∷ [])) → (x ∷ xs ≡ []) ⊎ ((front : List _) × (last : _) × (x ∷ xs ≡ front ++ last ∷ []))
    at (inl e) = inr ([], x, ap (λ v. x ∷ v) e)
    at (inr r) = inr (x ∷ r.0, r.1, ap (λ v. x ∷ v) r.2)

-- where a run ends bad, at its first bad element
pub record BadAt {A : Type 0} (f : ℕ → A → Step) (s : ℕ) (xs : List A) (c : ℕ) : Type 0 where
  pub front : List A
  pub here : A
  pub rest : List A
  pub state : ℕ
  pub parts : xs ≡ front ++ here ∷ rest
  pub clean : run f (Go s) front ≡ Go state
  pub breaks : f state here ≡ Bad c

pub bad_at : {A : Type 0} (f : ℕ → A → Step) (s : ℕ) (xs : List A) (c : ℕ) → run f (Go s) xs ≡ Bad c → BadAt f s xs c
bad_at f s [] c h = absurd (go-bad s c h)
bad_at f s (x ∷ xs) c h = at (f s x) refl (λ t e. bad_at f t xs c (ap (λ y. run f y xs) (sym e) ∙ h))
  where
    at : (r : Step) → f s x ≡ r → ((t : ℕ) → f s x ≡ Go t → BadAt f t xs c) → BadAt f s (x ∷ xs) c
    at (Go t) e more = let r = more t e in
        record { front = x ∷ r.front; here = r.here; rest = r.rest; state = r.state; parts = ap (λ v. x ∷ v) r.parts; clean = ap (λ y. run f y r.front) e ∙ r.clean; breaks = r.breaks }
    at (Bad d) e more =
        let same : d ≡ c = same_Bad d c (sym (run_bad f d xs) ∙ ap (λ y. run f y xs) (sym e) ∙ h) in
        record { front = []; here = x; rest = xs; state = s; parts = refl; clean = refl; breaks = e ∙ ap Bad same }
