-- Cells of the lowered run beside those of the run by holders: what is put and read keeps them so.
use Rattle.std.proofs.Common.{◌≡◌, ℕ, zero, suc, List, [], ◌∷◌, ◌++◌, take, drop, replicate, refl, ap, ◌∙◌, true, Option, Some, None}
use Rattle.std.specs.Prelude.{option_map}
use Rattle.std.specs.List.{AllByRecursion, list_all}
use Rattle.std.proofs.lemmas.Bool.{and_parts, and_from}
use Rattle.std.proofs.lemmas.Option.{none-some}
use Rattle.numbered_form.specs.Lists.{Each}
use Rattle.sil_ast.specs.declared.decl.Storage.TheVariants as storage
use Rattle.holder_model_values.specs.RunValues.Cells.{Cell, Empty, Keeps, cells_layer, in_cells, kept, kept_each, kept_first}
use Rattle.holder_model_values.specs.RunValues.Leaves.{with_more}
use Rattle.holder_model_values.specs.RunValues.Memory.{put_cells}
use Rattle.holder_model_values.specs.RunValues.Places.{is_there}
use Rattle.holder_model_values.specs.RunValues.Shapes.{Shape, Shapes, NoMember, Member, Integer, Reference, Struct, Tuple, Enum, Stored, Unknown, each_by_layers, listed}
use Rattle.holder_model_values.specs.RunValues.Values.{Value, grouped}
use Rattle.holder_model_values.proofs.ValueParts.Inductions.{InParts, by_parts}
use Rattle.ownership_lowering_runs.specs.StoredRuns.inner.Memories.{AreCellsFor, IsCellFor, MayBeTaken}

-- ---- the same cells

pub same_cells : (cells : List Cell) → AreCellsFor cells cells
same_cells [] = tt
same_cells (c ∷ cells) = (IsCellFor.same c, same_cells cells)

pub joined_for : (cells low cs ls : List Cell) → AreCellsFor cells low → AreCellsFor cs ls → AreCellsFor (cells ++ cs) (low ++ ls)
joined_for [] [] cs ls h k = k
joined_for [] (l ∷ low) cs ls h k = absurd h
joined_for (c ∷ cells) [] cs ls h k = absurd h
joined_for (c ∷ cells) (l ∷ low) cs ls h k = (h.0, joined_for cells low cs ls h.1 k)

pub taken_front : (n : ℕ) (cells low : List Cell) → AreCellsFor cells low → AreCellsFor (take n cells) (take n low)
taken_front n [] [] h = same_cells (take n [])
taken_front n [] (l ∷ low) h = absurd h
taken_front n (c ∷ cells) [] h = absurd h
taken_front zero (c ∷ cells) (l ∷ low) h = tt
taken_front (suc n) (c ∷ cells) (l ∷ low) h = (h.0, taken_front n cells low h.1)

pub dropped_front : (n : ℕ) (cells low : List Cell) → AreCellsFor cells low → AreCellsFor (drop n cells) (drop n low)
dropped_front n [] [] h = same_cells (drop n [])
dropped_front n [] (l ∷ low) h = absurd h
dropped_front n (c ∷ cells) [] h = absurd h
dropped_front zero (c ∷ cells) (l ∷ low) h = h
dropped_front (suc n) (c ∷ cells) (l ∷ low) h = dropped_front n cells low h.1

-- ---- cells that are put

pub put_for : (cells low : List Cell) (i : ℕ) (cs ls : List Cell) → AreCellsFor cells low → AreCellsFor cs ls → AreCellsFor (put_cells cells i cs) (put_cells low i ls)
put_for cells low zero [] [] h k = h
put_for cells low (suc i) [] [] h k = h
put_for cells low i [] (l ∷ ls) h k = absurd k
put_for cells low i (c ∷ cs) [] h k = absurd k
put_for [] [] zero (c ∷ cs) (l ∷ ls) h k = tt
put_for [] [] (suc i) (c ∷ cs) (l ∷ ls) h k = tt
put_for [] (y ∷ low) i (c ∷ cs) (l ∷ ls) h k = absurd h
put_for (x ∷ cells) [] i (c ∷ cs) (l ∷ ls) h k = absurd h
put_for (x ∷ cells) (y ∷ low) zero (c ∷ cs) (l ∷ ls) h k = (k.0, put_for cells low zero cs ls h.1 k.1)
put_for (x ∷ cells) (y ∷ low) (suc i) (c ∷ cs) (l ∷ ls) h k = (h.0, put_for cells low i (c ∷ cs) (l ∷ ls) h.1 k)

emptied_cell : (c low : Cell) → MayBeTaken c → IsCellFor c low → IsCellFor Empty low
emptied_cell _ _ MayBeTaken.empty (IsCellFor.same Empty) = IsCellFor.same Empty
emptied_cell _ _ MayBeTaken.empty (IsCellFor.taken x) = IsCellFor.taken x
emptied_cell _ _ (MayBeTaken.keeps x) (IsCellFor.same (Keeps storage.Strong x')) = IsCellFor.taken x'

-- what is taken stays in the lowered run
pub emptied_for : (cells low : List Cell) (i n : ℕ) → AreCellsFor cells low → Each MayBeTaken (take n (drop i cells)) → AreCellsFor (put_cells cells i (replicate n Empty)) low
emptied_for cells low zero zero h k = h
emptied_for cells low (suc i) zero h k = h
emptied_for [] [] zero (suc n) h k = tt
emptied_for [] [] (suc i) (suc n) h k = tt
emptied_for [] (y ∷ low) i (suc n) h k = absurd h
emptied_for (x ∷ cells) [] i (suc n) h k = absurd h
emptied_for (x ∷ cells) (y ∷ low) zero (suc n) h k = (emptied_cell x y k.0 h.0, emptied_front cells low n h.1 k.1)
  where
    emptied_front : (cells low : List Cell) (n : ℕ) → AreCellsFor cells low → Each MayBeTaken (take n cells) → AreCellsFor (put_cells cells zero (replicate n Empty)) low
    emptied_front cells low zero h k = h
    emptied_front [] [] (suc n) h k = tt
    emptied_front [] (y ∷ low) (suc n) h k = absurd h
    emptied_front (x ∷ cells) [] (suc n) h k = absurd h
    emptied_front (x ∷ cells) (y ∷ low) (suc n) h k = (emptied_cell x y k.0 h.0, emptied_front cells low n h.1 k.1)
emptied_for (x ∷ cells) (y ∷ low) (suc i) (suc n) h k = (h.0, emptied_for cells low i (suc n) h.1 k)

-- ---- what is read

there_cell : (c low : Cell) → IsCellFor c low → is_there c ≡ true → is_there low ≡ true
there_cell _ _ (IsCellFor.same c) e = e
there_cell _ _ (IsCellFor.taken x) e = refl

pub there_for : (cells low : List Cell) → AreCellsFor cells low → list_all is_there cells ≡ true → list_all is_there low ≡ true
there_for [] [] h e = refl
there_for [] (l ∷ low) h e = absurd h
there_for (c ∷ cells) [] h e = absurd h
there_for (c ∷ cells) (l ∷ low) h e =
    let parts = and_parts (is_there c) (list_all is_there cells) e in
    and_from (is_there l) (list_all is_there low) (there_cell c l h.0 parts.0) (there_for cells low h.1 parts.1)

kept_cell : (c low : Cell) (x : Value) → IsCellFor c low → kept c ≡ Some x → kept low ≡ Some x
kept_cell _ _ x (IsCellFor.same c) e = e
kept_cell _ _ x (IsCellFor.taken y) e = absurd (none-some x e)

-- the value that full cells keep is kept by those of the lowered run
abbrev KeepsFor : Shape → Type 0
KeepsFor s = (cells low : List Cell) (x : Value) → AreCellsFor cells low → (in_cells s).value cells ≡ Some x → (in_cells s).value low ≡ Some x

first_kept : (cells low : List Cell) (x : Value) → AreCellsFor cells low → kept_first cells ≡ Some x → kept_first low ≡ Some x
first_kept [] [] x h e = e
first_kept [] (l ∷ low) x h e = absurd h
first_kept (c ∷ cells) [] x h e = absurd h
first_kept (c ∷ cells) (l ∷ low) x h e = kept_cell c l x h.0 e

more_kept : (o p : Option Value) (q r : Option (List Value)) (xs : List Value) → with_more o q ≡ Some xs → ((x : Value) → o ≡ Some x → p ≡ Some x)
    → ((ys : List Value) → q ≡ Some ys → r ≡ Some ys) → with_more p r ≡ Some xs
more_kept None p q r xs e h k = absurd (none-some xs e)
more_kept (Some x) p None r xs e h k = absurd (none-some xs e)
more_kept (Some x) p (Some ys) r xs e h k = ap (λ p. with_more p r) (h x refl) ∙ ap (with_more (Some x)) (k ys refl) ∙ e

each_kept : (ss : Shapes) → AllByRecursion KeepsFor (listed ss) → (cells low : List Cell) (xs : List Value) → AreCellsFor cells low
    → kept_each (each_by_layers cells_layer ss) cells ≡ Some xs → kept_each (each_by_layers cells_layer ss) low ≡ Some xs
each_kept NoMember hs cells low xs h e = e
each_kept (Member s ss) hs cells low xs h e =
    let n = (in_cells s).width in
    more_kept ((in_cells s).value (take n cells)) ((in_cells s).value (take n low)) (kept_each (each_by_layers cells_layer ss) (drop n cells))
    (kept_each (each_by_layers cells_layer ss) (drop n low)) xs e
    (λ x is. hs.0 (take n cells) (take n low) x (taken_front n cells low h) is)
    (λ ys is. each_kept ss hs.1 (drop n cells) (drop n low) ys (dropped_front n cells low h) is)

grouped_kept : (o p : Option (List Value)) (x : Value) → option_map grouped o ≡ Some x → ((xs : List Value) → o ≡ Some xs → p ≡ Some xs) → option_map grouped p ≡ Some x
grouped_kept None p x e h = absurd (none-some x e)
grouped_kept (Some xs) p x e h = ap (option_map grouped) (h xs refl) ∙ e

group_kept : (s : Shape) (ss : Shapes) → AllByRecursion KeepsFor (listed (Member s ss)) → KeepsFor (Tuple (Member s ss))
group_kept s ss hs cells low x h e =
    grouped_kept (kept_each (each_by_layers cells_layer (Member s ss)) cells) (kept_each (each_by_layers cells_layer (Member s ss)) low) x e
    (λ xs is. each_kept (Member s ss) hs cells low xs h is)

shape_kept : (s : Shape) → InParts KeepsFor s → KeepsFor s
shape_kept (Integer width) hs cells low x h e = first_kept cells low x h e
shape_kept (Reference class) hs cells low x h e = first_kept cells low x h e
shape_kept (Struct name NoMember) hs cells low x h e = first_kept cells low x h e
shape_kept (Struct name (Member s ss)) hs cells low x h e = group_kept s ss hs cells low x h e
shape_kept (Tuple NoMember) hs cells low x h e = first_kept cells low x h e
shape_kept (Tuple (Member s ss)) hs cells low x h e = group_kept s ss hs cells low x h e
shape_kept (Enum name cases) hs cells low x h e = first_kept cells low x h e
shape_kept (Stored storage inner) hs cells low x h e = first_kept cells low x h e
shape_kept Unknown hs cells low x h e = first_kept cells low x h e

pub value_for : (s : Shape) (cells low : List Cell) (x : Value) → AreCellsFor cells low → (in_cells s).value cells ≡ Some x → (in_cells s).value low ≡ Some x
value_for = by_parts KeepsFor shape_kept
