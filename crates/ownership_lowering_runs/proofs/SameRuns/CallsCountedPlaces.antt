-- Places that a call hands over: those that the callee is to fill held nothing, so behind the hand-over memory holds what it held.
use Rattle.std.proofs.Common.{◌≡◌, ◌⊎◌, inl, inr, ℕ, zero, suc, List, [], ◌∷◌, ◌++◌, length, take, drop, replicate, arith, refl, sym, ap, ◌∙◌, subst, true, Option, Some, None}
use Rattle.std.specs.List.{list_all}
use Rattle.std.proofs.lemmas.Bool.{and_from, and_parts, or_cases, or_left, or_right}
use Rattle.argument_conventions.specs.declared.row.AddressRow.{AddressRow}
use Rattle.argument_conventions.specs.declared.row.Content.{Content}
use Rattle.argument_conventions.specs.declared.row.Content.TheVariants as content
use Rattle.sil_cfg_items.specs.declared.taken.Taken.{Taken}
use Rattle.numbered_form.specs.Lists.{Each}
use Rattle.numbered_form.proofs.PointChecks.Among.{Among}
use Rattle.holder_model_values.specs.RunValues.Cells.{Cell, Empty, cell_count}
use Rattle.holder_model_values.specs.RunValues.Memory.{Memory, put_cells}
use Rattle.holder_model_values.specs.RunValues.Places.{Home, Inside, OnStack, Place, cells_at, emptied, home_cells, is_empty_at, is_empty_cell, is_there_at, with_home_cells}
use Rattle.holder_model_values.specs.RunValues.Trivial.{is_trivial}
use Rattle.sil_ast.specs.declared.decl.Storage.{Storage}
use Rattle.sil_ast.specs.declared.module.Module.{Module}
use Rattle.sil_ast.specs.declared.place.ObjectId.{ObjectId}
use Rattle.sil_verifier_runs.specs.holder_model.RunTyping.Forms.{Form}
use Rattle.sil_verifier_runs.specs.holder_model_laws.HolderLaws.inner.Counts.Keeping.{IsAliveAt}
use Rattle.sil_verifier_runs.proofs.holder_model_laws.HolderLaws.Counts.Places.{emptied_counted}
use Rattle.sil_verifier_runs.specs.holder_model.Calling.{are_as_before, emptied_for, handed_over, is_as_before, lent_places, lent_with}
use Rattle.sil_verifier_runs.specs.holder_model.Data.{Datum, as_place}
use Rattle.sil_verifier_runs.specs.holder_model.Frames.{LentPlace}
use Rattle.sil_verifier_runs.specs.holder_model.Holders.{in_memory}
use Rattle.sil_verifier_runs.specs.holder_model.MemoryEffects.{holds}
use Rattle.ownership_lowering_runs.proofs.OwnedCounts.TypedCells.{empty_place}
use Rattle.ownership_lowering_runs.proofs.OwnedCounts.TypedPlaces.{typed_within}
use Rattle.ownership_lowering_laws.specs.holder_model_typing.TypedMemory.inner.Worlds.{DatumIs, MemoryIs, PlaceIs, World}
use Rattle.sil_verifier_runs.proofs.sil_verifier_frames.Typed.Data.{DataAre}
use Rattle.ownership_lowering_laws.proofs.holder_model_typing.TypedMemory.Homes.{place_cells, place_emptied}

-- ---- empty cells stay empty where others are emptied

empty_put : (cells : List Cell) (i n k w : ℕ) → list_all is_empty_cell (take w (drop k cells)) ≡ true
    → list_all is_empty_cell (take w (drop k (put_cells cells i (replicate n Empty)))) ≡ true
empty_put cells zero zero k w h = h
empty_put cells (suc i) zero k w h = h
empty_put [] zero (suc n) k w h = h
empty_put [] (suc i) (suc n) k w h = h
empty_put (c ∷ cells) zero (suc n) zero zero h = refl
empty_put (c ∷ cells) zero (suc n) zero (suc w) h =
    empty_put cells zero n zero w (and_parts (is_empty_cell c) (list_all is_empty_cell (take w cells)) h).1
empty_put (c ∷ cells) zero (suc n) (suc k) w h = empty_put cells zero n k w h
empty_put (c ∷ cells) (suc i) (suc n) zero zero h = refl
empty_put (c ∷ cells) (suc i) (suc n) zero (suc w) h =
    let parts = and_parts (is_empty_cell c) (list_all is_empty_cell (take w cells)) h in
    and_from (is_empty_cell c) (list_all is_empty_cell (take w (put_cells cells i (replicate (suc n) Empty)))) parts.0 (empty_put cells i (suc n) zero w parts.1)
empty_put (c ∷ cells) (suc i) (suc n) (suc k) w h = empty_put cells i (suc n) k w h

module _ (memory : Memory) (p q : Place) where
  cells_empty : p.home ≡ OnStack → q.home ≡ OnStack → is_empty_at memory q ≡ true → is_empty_at (emptied memory p) q ≡ true
  cells_empty p_on q_on h = by p.home q.home p_on q_on h
    where
      by : (home other : Home) → home ≡ OnStack → other ≡ OnStack → list_all is_empty_cell (take (cell_count q.shape) (drop q.first (home_cells memory other))) ≡ true
          → list_all is_empty_cell (take (cell_count q.shape)
          (drop q.first (home_cells (with_home_cells memory home (put_cells (home_cells memory home) p.first (replicate (cell_count p.shape) Empty))) other))) ≡ true
      by OnStack OnStack a b k = empty_put memory.stack p.first (cell_count p.shape) q.first (cell_count q.shape) k
      by OnStack (Inside o) a b k = absurd (cc)
      by (Inside o) other a b k = absurd (cc)

  still_empty : p.home ≡ OnStack → q.home ≡ OnStack → holds memory content.Empty q ≡ true → holds (emptied memory p) content.Empty q ≡ true
  still_empty p_on q_on h = at (or_cases (is_trivial q.shape) (is_empty_at memory q) h)
    where
      at : (is_trivial q.shape ≡ true) ⊎ (is_empty_at memory q ≡ true) → holds (emptied memory p) content.Empty q ≡ true
      at (inl trivial) = or_left (is_trivial q.shape) (is_empty_at (emptied memory p) q) trivial
      at (inr empty) = or_right (is_trivial q.shape) (is_empty_at (emptied memory p) q) (cells_empty p_on q_on empty)

objects_stay : (memory : Memory) (p : Place) → p.home ≡ OnStack → length (emptied memory p).objects ≡ length memory.objects
objects_stay memory p on = by p.home on
  where
    by : (home : Home) → home ≡ OnStack
        → length (with_home_cells memory home (put_cells (home_cells memory home) p.first (replicate (cell_count p.shape) Empty))).objects ≡ length memory.objects
    by OnStack e = refl
    by (Inside o) e = absurd (cc)

-- what memory holds, and how many objects it has, stays
pub record HoldsTheSame (memory later : Memory) : Type 0 where
  pub size : length later.objects ≡ length memory.objects
  pub held : (weight : ObjectId → ℕ) (how : Storage) → in_memory weight how later ≡ in_memory weight how memory

module _ (m : Module) (w : World) where
  -- a place on the stack, which is empty where the callee is to fill it
  pub record MayBeHanded (memory : Memory) (l : LentPlace) : Type 0 where
    pub typed : PlaceIs m w l.place
    pub home : l.place.home ≡ OnStack
    pub empty : l.row.before ≡ content.Empty → holds memory content.Empty l.place ≡ true

  handed_still : (memory : Memory) (l : LentPlace) (c : Content) → l.place.home ≡ OnStack → (ls : List LentPlace) → Each (MayBeHanded memory) ls
      → Each (MayBeHanded (emptied_for memory l c)) ls
  handed_still memory l content.Full on ls h = h
  handed_still memory l content.Empty on [] h = tt
  handed_still memory l content.Empty on (k ∷ ls) h = (
    record { typed = h.0.typed; home = h.0.home; empty = λ asked. still_empty memory l.place k.place on h.0.home (h.0.empty asked) },
    handed_still memory l content.Empty on ls h.1,
  )

  typed_still : (memory : Memory) (l : LentPlace) (c : Content) → MemoryIs m w memory → PlaceIs m w l.place → MemoryIs m w (emptied_for memory l c)
  typed_still memory l content.Full typed at = typed
  typed_still memory l content.Empty typed at = place_emptied m w memory typed l.place at

  one_same : (memory : Memory) (l : LentPlace) (c : Content) → l.row.before ≡ c → MemoryIs m w memory → MayBeHanded memory l → HoldsTheSame memory (emptied_for memory l c)
  one_same memory l content.Full e typed h = record { size = refl; held = λ weight how. refl }
  one_same memory l content.Empty e typed h = record {
    size = objects_stay memory l.place h.home;
    held = λ weight how.
        let taken = (emptied_counted weight how memory l.place
        (typed_within m w memory typed l.place h.typed (subst (IsAliveAt memory) (sym h.home) tt))).0 in
        let none = empty_place m w how l.place.shape (cells_at memory l.place) (h.empty e) (place_cells m w memory typed l.place h.typed) weight in
        omega (arith, taken, none);
  }

  pub handed_same : (ls : List LentPlace) (memory : Memory) → MemoryIs m w memory → Each (MayBeHanded memory) ls → HoldsTheSame memory (handed_over memory ls)
  handed_same [] memory typed h = record { size = refl; held = λ weight how. refl }
  handed_same (l ∷ ls) memory typed h =
      let first = one_same memory l l.row.before refl typed h.0 in
      let rest = handed_same ls (emptied_for memory l l.row.before) (typed_still memory l l.row.before typed h.0.typed) (handed_still memory l l.row.before h.0.home ls h.1) in
      record { size = rest.size ∙ first.size; held = λ weight how. rest.held weight how ∙ first.held weight how }

  -- ---- the places that a call lends

  abbrev IsTyped : LentPlace → Type 0
  IsTyped l = PlaceIs m w l.place

  each_both : (xs ys : List LentPlace) → Each IsTyped xs → Each IsTyped ys → Each IsTyped (xs ++ ys)
  each_both [] ys h k = k
  each_both (x ∷ xs) ys h k = (h.0, each_both xs ys h.1 k)

  one_typed : (row : Option AddressRow) (form : Form) (x : Datum) → DatumIs m w form x → Each IsTyped (lent_with row (as_place x))
  one_typed None form x is = tt
  one_typed (Some row) _ _ (DatumIs.value s v good) = tt
  one_typed (Some row) _ _ (DatumIs.place p at) = (at, tt)
  one_typed (Some row) _ _ (DatumIs.function g) = tt

  pub lent_typed : (ts : List Taken) {forms : List Form} {xs : List Datum} → DataAre m w forms xs → Each IsTyped (lent_places ts xs)
  lent_typed [] typed_as = tt
  lent_typed (t ∷ ts) DataAre.none = tt
  lent_typed (t ∷ ts) (DataAre.more form x forms xs is rest) =
      each_both (lent_with t.handed (as_place x)) (lent_places ts xs) (one_typed t.handed form x is) (lent_typed ts rest)

  -- they hold what is asked of them
  pub may_be_handed : (memory : Memory) (ls : List LentPlace) → Each IsTyped ls → ((l : LentPlace) → Among l ls → l.place.home ≡ OnStack)
      → are_as_before memory ls ≡ true → Each (MayBeHanded memory) ls
  may_be_handed memory [] typed on before = tt
  may_be_handed memory (l ∷ ls) typed on before =
      let parts = and_parts (is_as_before memory l) (are_as_before memory ls) before in
      let held = and_parts (is_there_at memory l.place) (holds memory l.row.before l.place) parts.0 in (
        record { typed = typed.0; home = on l (inl refl); empty = λ asked. ap (λ c. holds memory c l.place) (sym asked) ∙ held.1 },
        may_be_handed memory ls typed.1 (λ k c. on k (inr c)) parts.1,
      )
