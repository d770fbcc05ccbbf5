-- What a list has, part by part.
use Rattle.std.proofs.Common.{◌≡◌, ℕ, zero, suc, ◌+◌, ◌<◌, List, [], ◌∷◌, ◌++◌, length, refl, sym, ap, subst, arith, ◌⊎◌, inl, inr, Bool, true, false, Option, Some, None}
use Rattle.std.specs.Prelude.{Contains, slice_get, slice_index_or, map}
use Rattle.std.specs.List.{flat_map}
use Rattle.std.specs.Option.{option_to_list}
use Rattle.numbered_form.specs.PointChecks.inner.Faults.{fault_where, numbered}
use Rattle.numbered_form.specs.declared.point_checks.fault.PointFault.{PointFault}

abbrev pub Among : {A : Type 0} → A → List A → Type 0
Among y [] = ⊥
Among y (x ∷ xs) = (y ≡ x) ⊎ Among y xs

pub among_left : {A : Type 0} (y : A) (xs ys : List A) → Among y xs → Among y (xs ++ ys)
among_left y [] ys h = absurd h
among_left y (x ∷ xs) ys (inl e) = inl e
among_left y (x ∷ xs) ys (inr h) = inr (among_left y xs ys h)

pub among_right : {A : Type 0} (y : A) (xs ys : List A) → Among y ys → Among y (xs ++ ys)
among_right y [] ys h = h
among_right y (x ∷ xs) ys h = inr (among_right y xs ys h)

pub among_either : {A : Type 0} (y : A) (xs ys : List A) → Among y (xs ++ ys) → Among y xs ⊎ Among y ys
among_either y [] ys h = inr h
among_either y (x ∷ xs) ys (inl e) = inl (inl e)
among_either y (x ∷ xs) ys (inr h) = further (among_either y xs ys h)
  where
    further : Among y xs ⊎ Among y ys → Among y (x ∷ xs) ⊎ Among y ys
    further (inl a) = inl (inr a)
    further (inr b) = inr b

pub among_flat : {A B : Type 0} (g : A → List B) (y : B) (x : A) (xs : List A) → Among x xs → Among y (g x) → Among y (flat_map g xs)
among_flat g y x [] h a = absurd h
among_flat g y x (z ∷ xs) (inl e) a = among_left y (g z) (flat_map g xs) (subst (λ w. Among y (g w)) e a)
among_flat g y x (z ∷ xs) (inr h) a = among_right y (g z) (flat_map g xs) (among_flat g y x xs h a)

pub flat_among : {A B : Type 0} (g : A → List B) (y : B) (xs : List A) → Among y (flat_map g xs) → (x : A) × Among x xs × Among y (g x)
flat_among g y [] h = absurd h
flat_among {A} g y (z ∷ xs) h = split (λ b. flat_among g y xs b) (among_either y (g z) (flat_map g xs) h)
  where
    further : (x : A) × Among x xs × Among y (g x) → (x : A) × Among x (z ∷ xs) × Among y (g x)
    further r = (r.0, inr r.1, r.2)

    split : (Among y (flat_map g xs) → (x : A) × Among x xs × Among y (g x)) → Among y (g z) ⊎ Among y (flat_map g xs) → (x : A) × Among x (z ∷ xs) × Among y (g x)
    split rest (inl a) = (z, inl refl, a)
    split rest (inr b) = further (rest b)

pub among_map : {A B : Type 0} (g : A → B) (x : A) (xs : List A) → Among x xs → Among (g x) (map g xs)
among_map g x [] h = absurd h
among_map g x (z ∷ xs) (inl e) = inl (ap g e)
among_map g x (z ∷ xs) (inr h) = inr (among_map g x xs h)

pub map_among : {A B : Type 0} (g : A → B) (y : B) (xs : List A) → Among y (map g xs) → (x : A) × Among x xs × (y ≡ g x)
map_among g y [] h = absurd h
map_among g y (x ∷ xs) (inl e) = (x, inl refl, e)
map_among {A} g y (x ∷ xs) (inr h) = further (map_among g y xs h)
  where
    further : (z : A) × Among z xs × (y ≡ g z) → (z : A) × Among z (x ∷ xs) × (y ≡ g z)
    further r = (r.0, inr r.1, r.2)

-- at a place

pub place_among : {A : Type 0} (x : A) (xs : List A) → Among x xs → (k : ℕ) × (slice_get xs k ≡ Some x)
place_among x [] h = absurd h
place_among x (z ∷ xs) (inl e) = (0, ap Some (sym e))
place_among {A} x (z ∷ xs) (inr h) = further (place_among x xs h)
  where
    further : (k : ℕ) × (slice_get xs k ≡ Some x) → (k : ℕ) × (slice_get (z ∷ xs) k ≡ Some x)
    further r = (suc r.0, r.1)

pub among_contained : {A : Type 0} (x : A) (xs : List A) → Contains xs x → Among x xs
among_contained x xs c = at xs c.0 c.1 c.2
  where
    at : (xs : List _) (k : ℕ) → k < length xs → slice_index_or xs k x ≡ x → Among x xs
    at [] k lt e = absurd (omega arith)
    at (z ∷ xs) zero lt e = inl (sym e)
    at (z ∷ xs) (suc k) lt e = inr (at xs k (omega arith) e)

pub contained_among : {A : Type 0} (x : A) (xs : List A) → Among x xs → Contains xs x
contained_among x [] h = absurd h
contained_among x (z ∷ xs) (inl e) = (0, omega arith, sym e)
contained_among x (z ∷ xs) (inr h) = further (contained_among x xs h)
  where
    further : Contains xs x → Contains (z ∷ xs) x
    further c = (suc c.0, let lt : c.0 < length xs = c.1 in omega arith, c.2)

-- of what is numbered

pub among_numbered : {A : Type 0} (g : ℕ → A → List PointFault) (y : PointFault) (xs : List A) (n k m : ℕ) (x : A) → slice_get xs k ≡ Some x → m ≡ n + k → Among y (g m x) → Among y (numbered g n xs)
among_numbered g y [] n k m x at e a = absurd cc
among_numbered g y (z ∷ xs) n zero m x at e a =
    let same : m ≡ n = omega arith in
    let is : z ≡ x = cc in
    among_left y (g n z) (numbered g (n + 1) xs) (subst (λ w. Among y (g n w)) (sym is) (subst (λ i. Among y (g i x)) same a))
among_numbered g y (z ∷ xs) n (suc k) m x at e a =
    among_right y (g n z) (numbered g (n + 1) xs) (among_numbered g y xs (n + 1) k m x at (omega arith) a)

pub record IsNumberedAt {A : Type 0} (g : ℕ → A → List PointFault) (y : PointFault) (xs : List A) (n : ℕ) : Type 0 where
  pub place : ℕ
  pub number : ℕ
  pub element : A
  pub at : slice_get xs place ≡ Some element
  pub counts : number ≡ n + place
  pub among : Among y (g number element)

pub numbered_among : {A : Type 0} (g : ℕ → A → List PointFault) (y : PointFault) (xs : List A) (n : ℕ) → Among y (numbered g n xs) → IsNumberedAt g y xs n
numbered_among g y [] n h = absurd h
numbered_among {A} g y (z ∷ xs) n h = split (λ b. numbered_among g y xs (n + 1) b) (among_either y (g n z) (numbered g (n + 1) xs) h)
  where
    further : IsNumberedAt g y xs (n + 1) → IsNumberedAt g y (z ∷ xs) n
    further r = record {
      place = suc r.place;
      number = r.number;
      element = r.element;
      at = r.at;
      counts = let e : r.number ≡ n + 1 + r.place = r.counts in omega arith;
      among = r.among;
    }

    split : (Among y (numbered g (n + 1) xs) → IsNumberedAt g y xs (n + 1)) → Among y (g n z) ⊎ Among y (numbered g (n + 1) xs) → IsNumberedAt g y (z ∷ xs) n
    split rest (inl a) = record { place = 0; number = n; element = z; at = refl; counts = omega arith; among = a }
    split rest (inr b) = further (rest b)

-- of one fault or none

pub where_among : (b : Bool) (x y : PointFault) → Among y (fault_where b x) → (b ≡ true) × (y ≡ x)
where_among true x y (inl e) = (refl, e)
where_among true x y (inr h) = absurd h
where_among false x y h = absurd h

pub among_where : (b : Bool) (x : PointFault) → b ≡ true → Among x (fault_where b x)
among_where true x e = inl refl
among_where false x e = absurd cc

pub option_among : {A : Type 0} (o : Option A) (x : A) → Among x (option_to_list o) → o ≡ Some x
option_among None x h = absurd h
option_among (Some z) x (inl e) = ap Some (sym e)
option_among (Some z) x (inr h) = absurd h

pub among_option : {A : Type 0} (o : Option A) (x : A) → o ≡ Some x → Among x (option_to_list o)
among_option None x e = absurd cc
among_option (Some z) x e = inl (let is : z ≡ x = cc in sym is)
