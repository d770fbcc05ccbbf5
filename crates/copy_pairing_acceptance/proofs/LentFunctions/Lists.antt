-- Lists: what holds of each element, and of what is made of each.
use Rattle.std.proofs.Common.{◌≡◌, ℕ, zero, suc, ◌<◌, List, [], ◌∷◌, ◌++◌, length, map, get_or, Some, None, refl, sym, ap, ap₂, ◌∙◌, subst, arith, Bool, true, false, append_assoc}
use Rattle.std.specs.Prelude.{◌||◌, Contains, slice_get}
use Rattle.std.specs.List.{flat_map, list_any}
use Rattle.std.proofs.lemmas.List.Folds.{list_any-append}
use Rattle.numbered_form.specs.Lists.{Each}

module _ {A : Type 0} where
  pub each_append : (P : A → Type 0) (xs ys : List A) → Each P xs → Each P ys → Each P (xs ++ ys)
  each_append P [] ys h k = k
  each_append P (x ∷ xs) ys h k = (h.0, each_append P xs ys h.1 k)

  pub each_front : (P : A → Type 0) (xs ys : List A) → Each P (xs ++ ys) → Each P xs
  each_front P [] ys h = tt
  each_front P (x ∷ xs) ys h = (h.0, each_front P xs ys h.1)

  pub each_behind : (P : A → Type 0) (xs ys : List A) → Each P (xs ++ ys) → Each P ys
  each_behind P [] ys h = h
  each_behind P (x ∷ xs) ys h = each_behind P xs ys h.1

  pub each_both : (P Q R : A → Type 0) → ((x : A) → P x → Q x → R x) → (xs : List A) → Each P xs → Each Q xs → Each R xs
  each_both P Q R both [] h k = tt
  each_both P Q R both (x ∷ xs) h k = (both x h.0 k.0, each_both P Q R both xs h.1 k.1)

  pub each_weaker : (P Q : A → Type 0) → ((x : A) → P x → Q x) → (xs : List A) → Each P xs → Each Q xs
  each_weaker P Q weaker [] h = tt
  each_weaker P Q weaker (x ∷ xs) h = (weaker x h.0, each_weaker P Q weaker xs h.1)

  contains_later : (x y : A) (xs : List A) → Contains xs y → Contains (x ∷ xs) y
  contains_later x y xs c = (suc c.0, omega (arith, c.1), c.2)

  pub each_contained : (P : A → Type 0) (xs : List A) → ((x : A) → Contains xs x → P x) → Each P xs
  each_contained P [] h = tt
  each_contained P (x ∷ xs) h = (h x (0, omega arith, refl), each_contained P xs (λ y c. h y (contains_later x y xs c)))

  each_at_place : (P : A → Type 0) (xs : List A) (x : A) → Each P xs → (k : ℕ) → k < length xs → get_or xs k x ≡ x → P x
  each_at_place P [] x h k lt e = absurd (omega arith)
  each_at_place P (y ∷ xs) x h zero lt e = subst P e h.0
  each_at_place P (y ∷ xs) x h (suc k) lt e = each_at_place P xs x h.1 k (omega arith) e

  pub each_in : (P : A → Type 0) (xs : List A) (x : A) → Each P xs → Contains xs x → P x
  each_in P xs x h c = each_at_place P xs x h c.0 c.1 c.2

  pub each_got : (P : A → Type 0) (xs : List A) (k : ℕ) (x : A) → Each P xs → slice_get xs k ≡ Some x → P x
  each_got P [] k x h e = absurd (let wrong : None ≡ Some x = e in cc)
  each_got P (y ∷ xs) zero x h e = let same : y ≡ x = cc in subst P same h.0
  each_got P (y ∷ xs) (suc k) x h e = each_got P xs k x h.1 e

  -- what holds of what stands at each place holds of each
  pub each_place : (P : A → Type 0) (xs : List A) → ((k : ℕ) (x : A) → slice_get xs k ≡ Some x → P x) → Each P xs
  each_place P [] h = tt
  each_place P (x ∷ xs) h = (h zero x refl, each_place P xs (λ k y e. h (suc k) y e))

  pub nothing_in : {B : Type 0} (front rest : List A) (x : A) → [] ≡ front ++ x ∷ rest → B
  nothing_in [] rest x e = absurd (cc)
  nothing_in (y ∷ front) rest x e = absurd (cc)

pub any_each : {A : Type 0} (p q : A → Bool) (xs : List A) → Each (λ x. p x ≡ q x) xs → list_any p xs ≡ list_any q xs
any_each p q [] h = refl
any_each p q (x ∷ xs) h = ap₂ (λ a b. a || b) h.0 (any_each p q xs h.1)

pub any_parts : {A : Type 0} (test : A → Bool) (xs ys : List A) → list_any test (xs ++ ys) ≡ false → (list_any test xs ≡ false) × (list_any test ys ≡ false)
any_parts test xs ys e = at (list_any test xs) (list_any test ys) (sym (list_any-append test xs ys) ∙ e)
  where
    at : (a b : Bool) → (a || b) ≡ false → (a ≡ false) × (b ≡ false)
    at true b e = absurd (let wrong : true ≡ false = e in cc)
    at false b e = (refl, e)

module _ {B : Type 0} where
  -- the element of two lists together is in the first one or in the second one
  data Halves (xs ys front rest : List B) (y : B) : Type 0 where
    first : (more : List B) → xs ≡ front ++ y ∷ more → Halves xs ys front rest y
    second : (less : List B) → front ≡ xs ++ less → ys ≡ less ++ y ∷ rest → Halves xs ys front rest y

  halves : (xs ys front rest : List B) (y : B) → xs ++ ys ≡ front ++ y ∷ rest → Halves xs ys front rest y
  halves [] ys front rest y e = second front refl e
  halves (x ∷ xs) ys [] rest y e =
      let same : x ≡ y = cc in
      first xs (ap (λ z. z ∷ xs) same)
  halves (x ∷ xs) ys (z ∷ front) rest y e =
      let same : x ≡ z = cc in
      let later : xs ++ ys ≡ front ++ y ∷ rest = cc in
      at same (halves xs ys front rest y later)
    where
      at : x ≡ z → Halves xs ys front rest y → Halves (x ∷ xs) ys (z ∷ front) rest y
      at same (first more p) = first more (ap₂ (λ a b. a ∷ b) same p)
      at same (second less p q) = second less (ap₂ (λ a b. a ∷ b) (sym same) p) q

module _ {A B : Type 0} where
  pub each_map : (P : B → Type 0) (g : A → B) (xs : List A) → Each (λ x. P (g x)) xs → Each P (map g xs)
  each_map P g [] h = tt
  each_map P g (x ∷ xs) h = (h.0, each_map P g xs h.1)

  pub each_unmap : (P : B → Type 0) (g : A → B) (xs : List A) → Each P (map g xs) → Each (λ x. P (g x)) xs
  each_unmap P g [] h = tt
  each_unmap P g (x ∷ xs) h = (h.0, each_unmap P g xs h.1)

  pub each_flat : (P : B → Type 0) (g : A → List B) (xs : List A) → Each (λ x. Each P (g x)) xs → Each P (flat_map g xs)
  each_flat P g [] h = tt
  each_flat P g (x ∷ xs) h = each_append P (g x) (flat_map g xs) h.0 (each_flat P g xs h.1)

  pub each_unflat : (P : B → Type 0) (g : A → List B) (xs : List A) → Each P (flat_map g xs) → Each (λ x. Each P (g x)) xs
  each_unflat P g [] h = tt
  each_unflat P g (x ∷ xs) h = (each_front P (g x) (flat_map g xs) h, each_unflat P g xs (each_behind P (g x) (flat_map g xs) h))

  pub same_each : (p q : A → B) (xs : List A) → map p xs ≡ map q xs → Each (λ x. p x ≡ q x) xs
  same_each p q [] e = tt
  same_each p q (x ∷ xs) e =
      let here : p x ≡ q x = cc in
      let later : map p xs ≡ map q xs = cc in
      (here, same_each p q xs later)

  pub flat_map_each : (p q : A → List B) (xs : List A) → Each (λ x. p x ≡ q x) xs → flat_map p xs ≡ flat_map q xs
  flat_map_each p q [] h = refl
  flat_map_each p q (x ∷ xs) h = ap₂ (λ a b. a ++ b) h.0 (flat_map_each p q xs h.1)

  pub flat_map_all : (p q : A → List B) → ((x : A) → p x ≡ q x) → (xs : List A) → flat_map p xs ≡ flat_map q xs
  flat_map_all p q h [] = refl
  flat_map_all p q h (x ∷ xs) = ap₂ (λ a b. a ++ b) (h x) (flat_map_all p q h xs)

  -- where an element of what is made of each stands
  pub record Placed (make : A → List B) (xs : List A) (front rest : List B) (y : B) : Type 0 where
    pub before : List A
    pub here : A
    pub after : List A
    pub inner : List B
    pub outer : List B
    pub parts : xs ≡ before ++ here ∷ after
    pub made : make here ≡ inner ++ y ∷ outer
    pub behind : front ≡ flat_map make before ++ inner

  pub placed : (make : A → List B) (xs : List A) (front rest : List B) (y : B) → flat_map make xs ≡ front ++ y ∷ rest → Placed make xs front rest y
  placed make [] front rest y e = nothing_in front rest y e
  placed make (x ∷ xs) front rest y e = at (λ less k. placed make xs less rest y k) (halves (make x) (flat_map make xs) front rest y e)
    where
      at : ((less : List B) → flat_map make xs ≡ less ++ y ∷ rest → Placed make xs less rest y) → Halves (make x) (flat_map make xs) front rest y
          → Placed make (x ∷ xs) front rest y
      at go (first more p) = record { before = []; here = x; after = xs; inner = front; outer = more; parts = refl; made = p; behind = refl }
      at go (second less p q) =
          let r = go less q in
          record {
            before = x ∷ r.before;
            here = r.here;
            after = r.after;
            inner = r.inner;
            outer = r.outer;
            parts = ap (λ l. x ∷ l) r.parts;
            made = r.made;
            behind = p ∙ ap (λ l. make x ++ l) r.behind ∙ sym (append_assoc (make x) (flat_map make r.before) r.inner);
          }
