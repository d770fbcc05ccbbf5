-- Lists that match element by element, built one by one.
use Rattle.std.proofs.Common.{◌≡◌, ℕ, ◌+◌, ◌<◌, ◌≤◌, List, [], ◌∷◌, ◌++◌, length, take, get_or, sym, subst}
use Rattle.count_machine_model.specs.ReadyCode.Matched.{Matched, none, both}
use Rattle.count_machine_layouts.proofs.FrameLayouts.Lists.{further}

module _ {A B : Type 0} (match_ : A → B → Type 0) where
  matched_more : (xs : List A) (ys : List B) (x : A) (y : B) → Matched match_ xs ys → match_ x y → Matched match_ (xs ++ x ∷ []) (ys ++ y ∷ [])
  matched_more [] [] x y none holds = both x y [] [] holds none
  matched_more [] (b ∷ ys) x y at holds = elim at [ ]
  matched_more (a ∷ xs) [] x y at holds = elim at [ ]
  matched_more (a ∷ xs) (b ∷ ys) x y (both _ _ _ _ here rest) holds = both a b (xs ++ x ∷ []) (ys ++ y ∷ []) here (matched_more xs ys x y rest holds)

  -- so far matched, and one more
  pub matched_further : (xs items : List A) (k : ℕ) (x : A) (ys more : List B) (y : B) → items ≡ xs → k < length items → x ≡ get_or items k x
      → Matched match_ (take k xs) ys → more ≡ ys ++ y ∷ [] → match_ x y → Matched match_ (take (k + 1) xs) more
  matched_further xs items k x ys more y same lt is so_far next holds =
      subst (λ zs. Matched match_ zs more) (sym (further xs items k x same lt is))
      (subst (Matched match_ (take k xs ++ x ∷ [])) (sym next) (matched_more (take k xs) ys x y so_far holds))

  pub matched_none : (xs : List A) (ys : List B) → ys ≡ [] → Matched match_ (take 0 xs) ys
  matched_none xs ys is = subst (Matched match_ []) (sym is) none
