-- Two lists side by side: joined, parted, one of the second put, the second all the same, and a part of the first read and written in the second.
use Rattle.std.proofs.Common.{◌≡◌, ◌+◌, ◌++◌, ℕ, zero, suc, List, [], ◌∷◌, Some, length, take, drop, set, replicate, refl, sym, ap, ◌∙◌, subst, append_assoc, arith}
use Rattle.std.specs.Prelude.{slice_get}
use Rattle.std.specs.List.{AllZip}
use Rattle.std.proofs.lemmas.List.{append-nil, length-append}
use Rattle.std.proofs.lemmas.Option.{none-some, same_Some}
use Rattle.std.proofs.lemmas.Slice.Zip.{AllZip-long}
use Rattle.holder_model.specs.holder_model_values.RunValues.Cells.{Cell}
use Rattle.holder_model.specs.holder_model_values.RunValues.Memory.{put_cells}
use Rattle.holder_model.proofs.holder_model_values.ValueParts.Splices.{put_middle, read_middle}

-- the list has a part so many places behind its beginning
pub record Within {A : Type 0} (whole : List A) (first : ℕ) (part : List A) : Type 0 where
  pub before : List A
  pub behind : List A
  pub count : length before ≡ first
  pub splits : whole ≡ before ++ (part ++ behind)

pub within_itself : {A : Type 0} (xs : List A) → Within xs 0 xs
within_itself xs = record { before = []; behind = []; count = refl; splits = sym (append-nil xs) }

regroup : {A : Type 0} (a b m c d : List A) → a ++ ((b ++ (m ++ c)) ++ d) ≡ (a ++ b) ++ (m ++ (c ++ d))
regroup a b m c d = simp append_assoc

-- a part of a part
pub within_part : {A : Type 0} {whole part inner : List A} {i j : ℕ} → Within whole i part → Within part j inner → Within whole (i + j) inner
within_part {inner = inner} {i = i} {j = j} outer deeper = record {
  before = outer.before ++ deeper.before;
  behind = deeper.behind ++ outer.behind;
  count = length-append outer.before deeper.before ∙ omega (arith, outer.count, deeper.count);
  splits = outer.splits ∙ ap (λ xs. outer.before ++ (xs ++ outer.behind)) deeper.splits ∙ regroup outer.before deeper.before inner deeper.behind outer.behind;
}

module _ {A B : Type 0} (R : A → B → Type 0) where
  pub zip_append : (xs us : List A) (ys vs : List B) → AllZip R xs ys → AllZip R us vs → AllZip R (xs ++ us) (ys ++ vs)
  zip_append [] us [] vs h more = more
  zip_append [] us (y ∷ ys) vs h more = absurd h
  zip_append (x ∷ xs) us [] vs h more = absurd h
  zip_append (x ∷ xs) us (y ∷ ys) vs h more = (h.0, zip_append xs us ys vs h.1 more)

  pub record Parted (xs us : List A) (ys : List B) : Type 0 where
    pub front : List B
    pub back : List B
    pub is : ys ≡ front ++ back
    pub fronts : AllZip R xs front
    pub backs : AllZip R us back

  pub zip_parted : (xs us : List A) (ys : List B) → AllZip R (xs ++ us) ys → Parted xs us ys
  zip_parted [] us ys h = record { front = []; back = ys; is = refl; fronts = tt; backs = h }
  zip_parted (x ∷ xs) us [] h = absurd h
  zip_parted (x ∷ xs) us (y ∷ ys) h =
      let rest = zip_parted xs us ys h.1 in
      record { front = y ∷ rest.front; back = rest.back; is = ap (λ zs. y ∷ zs) rest.is; fronts = (h.0, rest.fronts); backs = rest.backs }

  -- the one beside the one at a place
  pub zip_at : (xs : List A) (ys : List B) (k : ℕ) (x : A) → AllZip R xs ys → slice_get xs k ≡ Some x → (y : B) × (slice_get ys k ≡ Some y) × R x y
  zip_at [] ys k x h e = absurd (none-some x e)
  zip_at (a ∷ xs) [] k x h e = absurd h
  zip_at (a ∷ xs) (y ∷ ys) zero x h e = (y, refl, subst (λ z. R z y) (same_Some a x e) h.0)
  zip_at (a ∷ xs) (y ∷ ys) (suc k) x h e = zip_at xs ys k x h.1 e

  pub zip_set : (xs : List A) (ys : List B) (k : ℕ) (y : B) → AllZip R xs ys → ((x : A) → slice_get xs k ≡ Some x → R x y) → AllZip R xs (set ys k y)
  zip_set [] [] k y h new = tt
  zip_set [] (b ∷ ys) k y h new = absurd h
  zip_set (a ∷ xs) [] k y h new = absurd h
  zip_set (a ∷ xs) (b ∷ ys) zero y h new = (new a refl, h.1)
  zip_set (a ∷ xs) (b ∷ ys) (suc k) y h new = (h.0, zip_set xs ys k y h.1 new)

  pub zip_replicate : (xs : List A) (n : ℕ) (y : B) → length xs ≡ n → ((x : A) → R x y) → AllZip R xs (replicate n y)
  zip_replicate [] zero y e h = tt
  zip_replicate [] (suc n) y e h = absurd (omega arith)
  zip_replicate (x ∷ xs) zero y e h = absurd (omega arith)
  zip_replicate (x ∷ xs) (suc n) y e h = (h x, zip_replicate xs n y (omega arith) h)

  -- what stands beside a part
  pub record Beside (part : List A) (first : ℕ) (ys : List B) : Type 0 where
    pub before : List B
    pub own : List B
    pub behind : List B
    pub count : length before ≡ first
    pub size : length own ≡ length part
    pub splits : ys ≡ before ++ (own ++ behind)
    pub along : AllZip R part own

  pub zip_beside : {whole part : List A} {first : ℕ} → Within whole first part → (ys : List B) → AllZip R whole ys
      → (at : Beside part first ys) × ((new : List B) → AllZip R part new → AllZip R whole (at.before ++ (new ++ at.behind)))
  zip_beside {whole = whole} {part = part} within ys h =
      let outer = zip_parted within.before (part ++ within.behind) ys (subst (λ xs. AllZip R xs ys) within.splits h) in
      let inner = zip_parted part within.behind outer.back outer.backs in (
        record {
          before = outer.front;
          own = inner.front;
          behind = inner.back;
          count = AllZip-long R within.before outer.front outer.fronts ∙ within.count;
          size = AllZip-long R part inner.front inner.fronts;
          splits = outer.is ∙ ap (λ zs. outer.front ++ zs) inner.is;
          along = inner.fronts;
        },
        λ new along. subst (λ xs. AllZip R xs (outer.front ++ (new ++ inner.back))) (sym within.splits)
            (zip_append within.before (part ++ within.behind) outer.front (new ++ inner.back) outer.fronts (zip_append part within.behind new inner.back along inner.backs)),
      )

  pub zip_read : {whole part : List A} {first : ℕ} → Within whole first part → (n : ℕ) → length part ≡ n → (ys : List B) → AllZip R whole ys
      → AllZip R part (take n (drop first ys))
  zip_read {part = part} {first = first} within n e ys h =
      let at = (zip_beside within ys h).0 in
      subst (AllZip R part) (sym (ap (λ zs. take n (drop first zs)) at.splits ∙ read_middle at.before at.own at.behind first n at.count (at.size ∙ e))) at.along

pub zip_follows : {A B : Type 0} (R Q : A → B → Type 0) → ((x : A) (y : B) → R x y → Q x y) → (xs : List A) (ys : List B) → AllZip R xs ys → AllZip Q xs ys
zip_follows R Q follows [] [] h = tt
zip_follows R Q follows [] (y ∷ ys) h = absurd h
zip_follows R Q follows (x ∷ xs) [] h = absurd h
zip_follows R Q follows (x ∷ xs) (y ∷ ys) h = (follows x y h.0, zip_follows R Q follows xs ys h.1)

-- cells that are put where a part has its own
pub zip_put : {A : Type 0} (R : A → Cell → Type 0) {whole part : List A} {first : ℕ} → Within whole first part → (cells new : List Cell) → AllZip R whole cells → AllZip R part new
    → AllZip R whole (put_cells cells first new)
zip_put R {whole = whole} {part = part} {first = first} within cells new h along =
    let around = zip_beside R within cells h in
    let at = around.0 in
    subst (AllZip R whole)
    (sym (ap (λ zs. put_cells zs first new) at.splits ∙ put_middle at.before at.own at.behind new first at.count (AllZip-long R part new along ∙ sym at.size)))
    (around.1 new along)
