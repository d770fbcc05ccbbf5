-- Full places stay full where a place is filled, and where memory grows.
use Rattle.std.proofs.Common.{◌≡◌, ◌⊎◌, inl, inr, ℕ, zero, suc, List, [], ◌∷◌, ◌++◌, refl, sym, ap, subst, true, Option, Some, None}
use Rattle.std.specs.Prelude.{is_some, slice_get, unwrap_or}
use Rattle.std.specs.List.{AllByRecursion}
use Rattle.std.proofs.lemmas.Option.{none-some}
use Rattle.numbered_form.specs.Lists.{Each}
use Rattle.sil_ast.specs.declared.decl.Storage.{Storage}
use Rattle.sil_ast.specs.declared.place.ObjectId.{ObjectId}
use Rattle.holder_model_values.specs.RunValues.Cells.{Cell, Keeps, cells_each, cells_layer, in_cells}
use Rattle.holder_model_values.specs.RunValues.Memory.{Memory, Object, no_object, object_at, put_cells, with_object}
use Rattle.holder_model_values.specs.RunValues.Places.{Home, Inside, OnStack, Place, filled, home_cells, value_at, with_home_cells}
use Rattle.holder_model_values.specs.RunValues.Shapes.{Shape, Shapes, NoMember, Member, Integer, Reference, Struct, Tuple, Enum, Stored, Unknown, each_by_layers, listed}
use Rattle.holder_model_values.specs.RunValues.Values.{Value, members_of}
use Rattle.holder_model_values.proofs.ValueParts.Inductions.{InParts, by_parts}
use Rattle.sil_verifier_runs.specs.holder_model_laws.HolderLaws.inner.Cells.Cells.{IsFullCell, cell_at}
use Rattle.sil_verifier_runs.proofs.holder_model_laws.HolderLaws.Cells.PlaceCells.{full_cells, full_value}
use Rattle.ownership_lowering_runs.proofs.StoredRuns.HandedOver.{set_cases}
use Rattle.ownership_lowering_runs.proofs.StoredRuns.RowSteps.{KeepsFull}

-- ---- the cells of a value are full

pub data IsKept : Cell → Type 0 where
  kept : (how : Storage) (x : Value) → IsKept (Keeps how x)

both_kept : (xs ys : List Cell) → Each IsKept xs → Each IsKept ys → Each IsKept (xs ++ ys)
both_kept [] ys h k = k
both_kept (c ∷ xs) ys h k = (h.0, both_kept xs ys h.1 k)

abbrev AllKept : Shape → Type 0
AllKept s = (x : Value) → Each IsKept ((in_cells s).cells x)

each_kept : (ss : Shapes) → AllByRecursion AllKept (listed ss) → (xs : List Value) → Each IsKept (cells_each (each_by_layers cells_layer ss) xs)
each_kept NoMember hs xs = tt
each_kept (Member s ss) hs [] = tt
each_kept (Member s ss) hs (x ∷ xs) = both_kept ((in_cells s).cells x) (cells_each (each_by_layers cells_layer ss) xs) (hs.0 x) (each_kept ss hs.1 xs)

shape_kept : (s : Shape) → InParts AllKept s → AllKept s
shape_kept (Integer width) hs x = (IsKept.kept _ x, tt)
shape_kept (Reference class) hs x = (IsKept.kept _ x, tt)
shape_kept (Struct name NoMember) hs x = (IsKept.kept _ x, tt)
shape_kept (Struct name (Member s ss)) hs x = each_kept (Member s ss) hs (unwrap_or (members_of x) [])
shape_kept (Tuple NoMember) hs x = (IsKept.kept _ x, tt)
shape_kept (Tuple (Member s ss)) hs x = each_kept (Member s ss) hs (unwrap_or (members_of x) [])
shape_kept (Enum name cases) hs x = (IsKept.kept _ x, tt)
shape_kept (Stored storage inner) hs x = (IsKept.kept _ x, tt)
shape_kept Unknown hs x = (IsKept.kept _ x, tt)

pub cells_kept : (s : Shape) → AllKept s
cells_kept = by_parts AllKept shape_kept

-- ---- full cells stay full

abbrev IsFullIn : List Cell → ℕ → Type 0
IsFullIn cells n = IsFullCell (slice_get cells n)

full_of : (c : Cell) → IsKept c → IsFullCell (Some c)
full_of _ (IsKept.kept how x) = (how, x, refl)

none_full : IsFullCell None → ⊥
none_full (how, x, e) = none-some _ e

put_full : (cells new : List Cell) (i n : ℕ) → Each IsKept new → IsFullIn cells n → IsFullIn (put_cells cells i new) n
put_full cells [] zero n h k = k
put_full cells [] (suc i) n h k = k
put_full [] (c ∷ new) zero n h k = k
put_full [] (c ∷ new) (suc i) n h k = k
put_full (x ∷ cells) (c ∷ new) zero zero h k = full_of c h.0
put_full (x ∷ cells) (c ∷ new) zero (suc n) h k = put_full cells new zero n h.1 k
put_full (x ∷ cells) (c ∷ new) (suc i) zero h k = k
put_full (x ∷ cells) (c ∷ new) (suc i) (suc n) h k = put_full cells (c ∷ new) i n h k

added_full : (cells more : List Cell) (n : ℕ) → IsFullIn cells n → IsFullIn (cells ++ more) n
added_full [] more n k = absurd (none_full k)
added_full (x ∷ cells) more zero k = k
added_full (x ∷ cells) more (suc n) k = added_full cells more n k

-- ---- the cells of one home change

module _ (m : Memory) (P : List Cell → Type 0) (change : List Cell → List Cell) (keeps : (cells : List Cell) → P cells → P (change cells)) where
  abbrev changed_object : ObjectId → Object
  changed_object o = record (object_at m o) { cells = change (object_at m o).cells }

  inside : (o u : ObjectId) → P (object_at m u).cells → P (object_at (with_object m o (changed_object o)) u).cells
  inside o u k = at (set_cases m.objects o.0 u.0 (changed_object o))
    where
      at : (object_at (with_object m o (changed_object o)) u ≡ object_at m u) ⊎ ((u.0 ≡ o.0) × (object_at (with_object m o (changed_object o)) u ≡ changed_object o))
          → P (object_at (with_object m o (changed_object o)) u).cells
      at (inl same) = subst (λ (x : Object). P x.cells) (sym same) k
      at (inr (is, same)) =
          subst (λ (x : Object). P x.cells) (sym same)
          (keeps (object_at m o).cells (subst (λ n. P (unwrap_or (slice_get m.objects n) no_object).cells) is k))

  pub homes_keep : (home other : Home) → P (home_cells m other) → P (home_cells (with_home_cells m home (change (home_cells m home))) other)
  homes_keep OnStack OnStack k = keeps m.stack k
  homes_keep OnStack (Inside u) k = k
  homes_keep (Inside o) OnStack k = k
  homes_keep (Inside o) (Inside u) k = inside o u k

-- ---- full places stay full

full_again : (low low' : Memory) → ((home : Home) (n : ℕ) → IsFullCell (cell_at low home n) → IsFullCell (cell_at low' home n)) → KeepsFull low low'
full_again low low' keeps p h = at (value_at low p) refl h
  where
    at : (o : Option Value) → value_at low p ≡ o → is_some o ≡ true → is_some (value_at low' p) ≡ true
    at None e g = absurd (cc)
    at (Some x) e g = ap is_some (full_value low' p (λ n has. keeps p.home n (full_cells low p x e n has))).1

pub filling_keeps : (low : Memory) (p : Place) (x : Value) → KeepsFull low (filled low p x)
filling_keeps low p x =
    full_again low (filled low p x)
    (λ home n k. homes_keep low (λ cells. IsFullIn cells n) (λ cells. put_cells cells p.first ((in_cells p.shape).cells x))
    (λ cells full. put_full cells ((in_cells p.shape).cells x) p.first n (cells_kept p.shape x) full) p.home home k)

pub growing_keeps : (low : Memory) (cells : List Cell) → KeepsFull low (record low { stack = low.stack ++ cells })
growing_keeps low cells = full_again low (record low { stack = low.stack ++ cells }) by
  where
    by : (home : Home) (n : ℕ) → IsFullCell (cell_at low home n) → IsFullCell (cell_at (record low { stack = low.stack ++ cells }) home n)
    by OnStack n k = added_full low.stack cells n k
    by (Inside o) n k = k

pub same_keeps : (low : Memory) → KeepsFull low low
same_keeps low p h = h

grown : (xs more : List Object) (k n : ℕ) → IsFullIn (unwrap_or (slice_get xs k) no_object).cells n → IsFullIn (unwrap_or (slice_get (xs ++ more) k) no_object).cells n
grown [] more k n h = absurd (none_full h)
grown (x ∷ xs) more zero n h = h
grown (x ∷ xs) more (suc k) n h = grown xs more k n h

pub making_keeps : (low : Memory) (more : List Object) → KeepsFull low (record low { objects = low.objects ++ more })
making_keeps low more = full_again low (record low { objects = low.objects ++ more }) by
  where
    by : (home : Home) (n : ℕ) → IsFullCell (cell_at low home n) → IsFullCell (cell_at (record low { objects = low.objects ++ more }) home n)
    by OnStack n k = k
    by (Inside o) n k = grown low.objects more o.0 n k
