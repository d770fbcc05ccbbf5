-- The objects that are left, one number after another.
use Rattle.std.proofs.Common.{◌≡◌, ◌+◌, ◌∙◌, ◌++◌, ℕ, zero, suc, List, [], ◌∷◌, true, false, cond, Some, None, sym, ap, add-one, add-zero, arith, append-nil}
use Rattle.std.specs.List.{cons_option, filter_map, range_with_len}
use Rattle.std.proofs.lemmas.List.Elements.{filter_map-append}
use Rattle.count_heap.specs.HeapModel.HeapViews.{HeapView, is_unfreed}
use Rattle.holder_model.specs.declared.left_object.LeftObject.{LeftObject}
use Rattle.holder_model.specs.Outcomes.{object_number}
use Rattle.count_machine_laws.specs.inner.Told.{left_in, left_of}

range_more : (a n j : ℕ) → a + n ≡ j → range_with_len a (suc n) ≡ range_with_len a n ++ j ∷ []
range_more a zero j is = ap (λ k. k ∷ []) (sym (add-zero a) ∙ is)
range_more a (suc n) j is = ap (λ ks. a ∷ ks) (range_more (a + 1) n j (omega arith))

-- those whose numbers are below this one
abbrev pub left_below : HeapView → ℕ → List LeftObject
left_below h n = filter_map (λ k. left_in h (object_number k)) (range_with_len 0 n)

-- what one number adds
abbrev left_at : HeapView → ℕ → List LeftObject
left_at h n = filter_map (λ k. left_in h (object_number k)) (n ∷ [])

left_more : (h : HeapView) (n : ℕ) → left_below h n ++ left_at h n ≡ left_below h (n + 1)
left_more h n =
    sym (filter_map-append (λ k. left_in h (object_number k)) (range_with_len 0 n) (n ∷ []))
    ∙ ap (filter_map (λ k. left_in h (object_number k))) (sym (range_more 0 n n (omega arith))) ∙ ap (left_below h) (sym (add-one n))

pub left_next : (h : HeapView) (n : ℕ) (left more : List LeftObject) (x : LeftObject) → left ≡ left_below h n → is_unfreed h (object_number n) ≡ true
    → x ≡ left_of h (object_number n) → more ≡ left ++ x ∷ [] → more ≡ left_below h (n + 1)
left_next h n left more x so_far unfreed is one =
    one ∙ ap (λ xs. xs ++ x ∷ []) so_far ∙ ap (λ y. left_below h n ++ y ∷ []) is
    ∙ ap (λ b. left_below h n ++ cons_option (cond b (Some (left_of h (object_number n))) None) []) (sym unfreed) ∙ left_more h n

pub freed_next : (h : HeapView) (n : ℕ) (left more : List LeftObject) → left ≡ left_below h n → is_unfreed h (object_number n) ≡ false
    → more ≡ left → more ≡ left_below h (n + 1)
freed_next h n left more so_far freed same =
    same ∙ so_far ∙ sym (append-nil (left_below h n))
    ∙ ap (λ b. left_below h n ++ cons_option (cond b (Some (left_of h (object_number n))) None) []) (sym freed) ∙ left_more h n
