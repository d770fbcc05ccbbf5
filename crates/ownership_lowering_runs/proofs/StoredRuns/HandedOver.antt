-- What a call hands over in both runs: places that are to be filled keep their values in the lowered run, and arguments are the same but for parts.
use Rattle.std.proofs.Common.{◌≡◌, ◌⊎◌, inl, inr, ℕ, zero, suc, List, [], ◌∷◌, length, map, take, drop, set, replicate, refl, sym, ap, ◌∙◌, subst, true, Option, Some, None}
use Rattle.std.specs.Prelude.{is_some, slice_get, unwrap_or}
use Rattle.std.specs.List.{AllZip}
use Rattle.std.proofs.lemmas.Option.{none-some}
use Rattle.argument_conventions.specs.declared.row.Content.{Content}
use Rattle.argument_conventions.specs.declared.row.Content.TheVariants as content
use Rattle.numbered_form.specs.Lists.{Each}
use Rattle.sil_ast.specs.declared.function.Function.{Function}
use Rattle.sil_ast.specs.declared.place.ObjectId.{ObjectId}
use Rattle.sil_ast.specs.declared.place.ValueId.{ValueId}
use Rattle.sil_cfg_items.specs.declared.taken.Taken as taken
use Rattle.sil_types_declarations.specs.TypeDefinitions.Declarations.{Declarations}
use Rattle.holder_model_values.specs.RunValues.Cells.{Cell, Empty, cell_count}
use Rattle.holder_model_values.specs.RunValues.Memory.{Memory, Object, no_object, object_at, put_cells, with_object}
use Rattle.holder_model_values.specs.RunValues.Places.{Home, Inside, OnStack, Place, cells_at, emptied, home_cells, value_at, with_home_cells}
use Rattle.holder_model_values.specs.RunValues.Values.{Value}
use Rattle.sil_verifier_runs.specs.holder_model.Calling.{as_argument, emptied_for, handed_over}
use Rattle.sil_verifier_runs.specs.holder_model.Data.{AddressOf, Datum, FunctionOf, ValueOf, as_place, as_value, values_of, with_first}
use Rattle.sil_verifier_runs.specs.holder_model.Frames.{LentPlace}
use Rattle.sil_verifier_runs.specs.holder_model.LoweredRun.LowFrames as low_frames
use Rattle.ownership_lowering_runs.specs.StoredRuns.inner.CallsAlong.{MayBeHandedOver}
use Rattle.ownership_lowering_runs.specs.StoredRuns.inner.Entering.{IsAddressFor, IsArgumentFor, IsFullPart}
use Rattle.ownership_lowering_runs.specs.StoredRuns.inner.Frames.{AreGivenPartsFull, IsDatumFor}
use Rattle.ownership_lowering_runs.specs.StoredRuns.inner.Memories.{IsMemoryFor, MayBeTaken}
use Rattle.ownership_lowering_runs.specs.StoredRuns.inner.Names.{AreNamed, lowered_number}
use Rattle.ownership_lowering_runs.proofs.StoredRuns.MemoriesFor.{place_read, place_taken}
use Rattle.ownership_lowering_runs.proofs.StoredRuns.Reading.{AreReadAs, like_exact}

-- ---- places

-- cells that may be taken are so behind others that are emptied
each_put : (cells : List Cell) (i n : ℕ) (k w : ℕ) → Each MayBeTaken (take w (drop k cells)) → Each MayBeTaken (take w (drop k (put_cells cells i (replicate n Empty))))
each_put cells zero zero k w h = h
each_put cells (suc i) zero k w h = h
each_put [] zero (suc n) k w h = h
each_put [] (suc i) (suc n) k w h = h
each_put (c ∷ cells) zero (suc n) zero zero h = tt
each_put (c ∷ cells) zero (suc n) zero (suc w) h = (MayBeTaken.empty, each_put cells zero n zero w h.1)
each_put (c ∷ cells) zero (suc n) (suc k) w h = each_put cells zero n k w h
each_put (c ∷ cells) (suc i) (suc n) zero zero h = tt
each_put (c ∷ cells) (suc i) (suc n) zero (suc w) h = (h.0, each_put cells i (suc n) zero w h.1)
each_put (c ∷ cells) (suc i) (suc n) (suc k) w h = each_put cells i (suc n) k w h

pub set_cases : (xs : List Object) (k j : ℕ) (x : Object)
    → (unwrap_or (slice_get (set xs k x) j) no_object ≡ unwrap_or (slice_get xs j) no_object) ⊎ ((j ≡ k) × (unwrap_or (slice_get (set xs k x) j) no_object ≡ x))
set_cases [] k j x = inl refl
set_cases (y ∷ xs) zero zero x = inr (refl, refl)
set_cases (y ∷ xs) zero (suc j) x = inl refl
set_cases (y ∷ xs) (suc k) zero x = inl refl
set_cases (y ∷ xs) (suc k) (suc j) x = at (set_cases xs k j x)
  where
    at : (unwrap_or (slice_get (set xs k x) j) no_object ≡ unwrap_or (slice_get xs j) no_object) ⊎ ((j ≡ k) × (unwrap_or (slice_get (set xs k x) j) no_object ≡ x))
        → (unwrap_or (slice_get (set xs k x) j) no_object ≡ unwrap_or (slice_get xs j) no_object) ⊎ ((suc j ≡ suc k) × (unwrap_or (slice_get (set xs k x) j) no_object ≡ x))
    at (inl e) = inl e
    at (inr (e, g)) = inr (ap suc e, g)

module _ (m : Memory) (p q : Place) where
  abbrev Taken : List Cell → Type 0
  Taken cells = Each MayBeTaken (take (cell_count q.shape) (drop q.first cells))

  abbrev put : List Cell → List Cell
  put cells = put_cells cells p.first (replicate (cell_count p.shape) Empty)

  put_so : (cells : List Cell) → Taken cells → Taken (put cells)
  put_so cells k = each_put cells p.first (cell_count p.shape) q.first (cell_count q.shape) k

  abbrev emptied_object : ObjectId → Object
  emptied_object o = record (object_at m o) { cells = put (object_at m o).cells }

  inside : (o u : ObjectId) → Taken (object_at m u).cells → Taken (object_at (with_object m o (emptied_object o)) u).cells
  inside o u k = at (set_cases m.objects o.0 u.0 (emptied_object o))
    where
      at : (object_at (with_object m o (emptied_object o)) u ≡ object_at m u) ⊎ ((u.0 ≡ o.0) × (object_at (with_object m o (emptied_object o)) u ≡ emptied_object o))
          → Taken (object_at (with_object m o (emptied_object o)) u).cells
      at (inl same) = subst (λ (x : Object). Taken x.cells) (sym same) k
      at (inr (is, same)) =
          subst (λ (x : Object). Taken x.cells) (sym same)
          (put_so (object_at m o).cells (subst (λ n. Taken (unwrap_or (slice_get m.objects n) no_object).cells) is k))

  homes : (home other : Home) → Taken (home_cells m other) → Taken (home_cells (with_home_cells m home (put (home_cells m home))) other)
  homes OnStack OnStack k = put_so m.stack k
  homes OnStack (Inside u) k = k
  homes (Inside o) OnStack k = k
  homes (Inside o) (Inside u) k = inside o u k

  -- the cells of a place may be taken as well when another one is emptied
  still_taken : Each MayBeTaken (cells_at m q) → Each MayBeTaken (cells_at (emptied m p) q)
  still_taken h = homes p.home q.home h

module _ (low : Memory) where
  each_still : (m : Memory) (x : LentPlace) (c : Content) (xs : List LentPlace) → Each (MayBeHandedOver m) xs → Each (MayBeHandedOver (emptied_for m x c)) xs
  each_still m x c [] h = tt
  each_still m x content.Empty (y ∷ xs) h = ((λ e. still_taken m x.place y.place (h.0 e)), each_still m x content.Empty xs h.1)
  each_still m x content.Full (y ∷ xs) h = (h.0, each_still m x content.Full xs h.1)

  -- what is handed over to be filled counts as empty, and stays in the lowered run
  pub handed_for : (m : Memory) (xs : List LentPlace) → IsMemoryFor m low → Each (MayBeHandedOver m) xs → IsMemoryFor (handed_over m xs) low
  handed_for m [] h k = h
  handed_for m (x ∷ xs) h k = handed_for (emptied_for m x x.row.before) xs (one x.row.before refl) (each_still m x x.row.before xs k.1)
    where
      one : (c : Content) → x.row.before ≡ c → IsMemoryFor (emptied_for m x c) low
      one content.Empty e = place_taken m low h x.place (k.0 e)
      one content.Full e = h

-- ---- arguments

address_of : (x y : Datum) → as_argument y ≡ as_argument x → (p : Place) → y ≡ AddressOf p → (q : Place) × (x ≡ AddressOf q)
address_of (ValueOf v) y e p is = absurd (none-some _ (sym (ap as_place (ap as_argument (sym is) ∙ e))))
address_of (AddressOf q) y e p is = (q, refl)
address_of (FunctionOf g) y e p is = absurd (none-some _ (sym (ap as_place (ap as_argument (sym is) ∙ e))))

-- what stands for an address in the lowered run is one for the callee too
pub addresses_for : (d : Declarations) (f : Function) (vs : List ValueId) (xs ys : List Datum) → AllZip IsArgumentFor (map as_argument xs) ys
    → AllZip (IsAddressFor d f) vs xs → AllZip (IsAddressFor d f) vs ys
addresses_for d f [] [] [] h k = tt
addresses_for d f [] [] (y ∷ ys) h k = absurd h
addresses_for d f [] (x ∷ xs) ys h k = absurd k
addresses_for d f (v ∷ vs) [] ys h k = absurd k
addresses_for d f (v ∷ vs) (x ∷ xs) [] h k = absurd h
addresses_for d f (v ∷ vs) (x ∷ xs) (y ∷ ys) h k =
    (λ p is. let q = address_of x y h.0 p is in k.0 q.0 q.1, addresses_for d f vs xs ys h.1 k.1)

whole_twice : (y : Datum) → as_argument (as_argument y) ≡ as_argument y
whole_twice (ValueOf v) = refl
whole_twice (AddressOf p) = refl
whole_twice (FunctionOf g) = refl

module _ (d : Declarations) (f : Function) (named : AreNamed d f) (values : List (Option Datum)) (m low : Memory) (memory : IsMemoryFor m low)
    (given : AreGivenPartsFull d f values low) where
  one_argument : (v : ValueId) (x y : Datum) → IsDatumFor d f v x y → as_argument y ≡ as_argument x
  one_argument v x y (inl same) = ap as_argument same
  one_argument v x y (inr (made, whole)) = sym (whole_twice y) ∙ ap as_argument whole

  pub arguments_for : (ts : List taken.Taken) (xs ys : List Datum) → AreReadAs d f named values ts xs ys → AllZip IsArgumentFor (map as_argument xs) ys
  arguments_for [] [] [] h = tt
  arguments_for [] [] (y ∷ ys) h = absurd h
  arguments_for [] (x ∷ xs) ys h = absurd h
  arguments_for (t ∷ ts) [] ys h = absurd h
  arguments_for (t ∷ ts) (x ∷ xs) [] h = absurd h
  arguments_for (t ∷ ts) (x ∷ xs) (y ∷ ys) h = (one_argument t.value x y h.0.1, arguments_for ts xs ys h.1)

  full_in_both : (o : Option Value) (p : Place) → value_at m p ≡ o → is_some o ≡ true → is_some (value_at low p) ≡ true
  full_in_both None p e h = absurd (cc)
  full_in_both (Some x) p e h = ap is_some (place_read m low memory p x e)

  one_full : (v : ValueId) (x y : Datum) → low_frames.value_at values (lowered_number d f v) ≡ Some y → IsDatumFor d f v x y → IsFullPart m x → IsFullPart low y
  one_full v x y at (inl same) full p is part = full_in_both (value_at m p) p refl (full p (sym same ∙ is) part)
  one_full v x y at (inr (made, whole)) full p is part = given v p made (at ∙ ap Some is) part

  pub parts_full_for : (ts : List taken.Taken) (xs ys : List Datum) → AreReadAs d f named values ts xs ys → Each (IsFullPart m) xs → Each (IsFullPart low) ys
  parts_full_for [] [] [] h k = tt
  parts_full_for [] [] (y ∷ ys) h k = absurd h
  parts_full_for [] (x ∷ xs) ys h k = absurd h
  parts_full_for (t ∷ ts) [] ys h k = absurd h
  parts_full_for (t ∷ ts) (x ∷ xs) [] h k = absurd h
  parts_full_for (t ∷ ts) (x ∷ xs) (y ∷ ys) h k = (one_full t.value x y h.0.0 h.0.1 k.0, parts_full_for ts xs ys h.1 k.1)

  pub as_many_read : (ts : List taken.Taken) (xs ys : List Datum) → AreReadAs d f named values ts xs ys → length ys ≡ length xs
  as_many_read [] [] [] h = refl
  as_many_read [] [] (y ∷ ys) h = absurd h
  as_many_read [] (x ∷ xs) ys h = absurd h
  as_many_read (t ∷ ts) [] ys h = absurd h
  as_many_read (t ∷ ts) (x ∷ xs) [] h = absurd h
  as_many_read (t ∷ ts) (x ∷ xs) (y ∷ ys) h = ap suc (as_many_read ts xs ys h.1)

  -- values are the same
  more_values : (o : Option Value) (r : Option (List Value)) (vs : List Value) → with_first o r ≡ Some vs → (v : Value) × (ws : List Value) × (o ≡ Some v) × (r ≡ Some ws)
  more_values None r vs e = absurd (none-some vs e)
  more_values (Some v) None vs e = absurd (none-some vs e)
  more_values (Some v) (Some ws) vs e = (v, ws, refl, refl)

  value_exact : (v : ValueId) (x y : Datum) (z : Value) → as_value x ≡ Some z → IsDatumFor d f v x y → y ≡ x
  value_exact v (ValueOf u) y z e h = like_exact d f named v (ValueOf u) y refl h
  value_exact v (AddressOf p) y z e h = absurd (none-some z e)
  value_exact v (FunctionOf g) y z e h = absurd (none-some z e)

  pub values_read : (ts : List taken.Taken) (xs ys : List Datum) (vs : List Value) → values_of xs ≡ Some vs → AreReadAs d f named values ts xs ys → ys ≡ xs
  values_read [] [] [] vs e h = refl
  values_read [] [] (y ∷ ys) vs e h = absurd h
  values_read [] (x ∷ xs) ys vs e h = absurd h
  values_read (t ∷ ts) [] ys vs e h = absurd h
  values_read (t ∷ ts) (x ∷ xs) [] vs e h = absurd h
  values_read (t ∷ ts) (x ∷ xs) (y ∷ ys) vs e h =
      let parts = more_values (as_value x) (values_of xs) vs e in
      ap (λ z. z ∷ ys) (value_exact t.value x y parts.0 parts.2 h.0.1) ∙ ap (λ zs. x ∷ zs) (values_read ts xs ys parts.1 parts.3 h.1)
