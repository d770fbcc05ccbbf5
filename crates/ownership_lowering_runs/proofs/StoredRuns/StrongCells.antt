-- Cells that are no weak or unowned storage: they name no objects that are counted so, and the value that they keep has the references that they hold.
use Rattle.std.proofs.Common.{◌≡◌, ℕ, zero, suc, ◌+◌, List, [], ◌∷◌, ◌++◌, length, take, drop, map, arith, refl, sym, ap, ap₂, ◌∙◌, Option, Some, None}
use Rattle.std.specs.Prelude.{option_map, sum}
use Rattle.std.specs.List.{AllByRecursion, flat_map}
use Rattle.std.proofs.lemmas.List.{append-nil}
use Rattle.std.proofs.lemmas.List.Sums.{sum_by-cons}
use Rattle.std.proofs.lemmas.Option.{none-some, same_Some}
use Rattle.numbered_form.specs.Lists.{Each}
use Rattle.sil_ast.specs.declared.decl.Storage.TheVariants as storage
use Rattle.sil_ast.specs.declared.place.ObjectId.{ObjectId}
use Rattle.holder_model_values.specs.RunValues.Cells.{Cell, cell_count, cells_layer, in_cells, kept, kept_each, kept_first, width_of}
use Rattle.holder_model_values.specs.RunValues.Leaves.{with_more}
use Rattle.holder_model_values.specs.RunValues.Shapes.{Shape, Shapes, NoMember, Member, Integer, Reference, Struct, Tuple, Enum, Stored, Unknown, each_by_layers, listed}
use Rattle.holder_model_values.specs.RunValues.Values.{Value, grouped, references_of}
use Rattle.holder_model_values.proofs.ValueParts.Inductions.{InParts, by_parts}
use Rattle.sil_verifier_runs.specs.holder_model.Holders.{kept_references}
use Rattle.sil_verifier_runs.specs.holder_model.Outcomes.{Numbers}
use Rattle.sil_verifier_runs.specs.holder_model.LoweredRun.Stored.{each_changed, less_unowned, less_weak, more_unowned, more_weak, named, unnamed, unowned_named, weakly_named}
use Rattle.ownership_lowering_runs.specs.StoredRuns.inner.Memories.{AreCellsFor, IsCellFor, MayBeTaken}
use Rattle.ownership_lowering_laws.proofs.holder_model_typing.TypedMemory.Grouped.{group_references}

-- ---- names

pub none_weakly : (cells : List Cell) → Each MayBeTaken cells → weakly_named cells ≡ []
none_weakly [] h = refl
none_weakly (c ∷ cells) h = at c h.0 (none_weakly cells h.1)
  where
    at : (c : Cell) → MayBeTaken c → weakly_named cells ≡ [] → kept_references storage.Weak c ++ weakly_named cells ≡ []
    at _ MayBeTaken.empty e = e
    at _ (MayBeTaken.keeps x) e = e

pub none_unowned : (cells : List Cell) → Each MayBeTaken cells → unowned_named cells ≡ []
none_unowned [] h = refl
none_unowned (c ∷ cells) h = at c h.0 (none_unowned cells h.1)
  where
    at : (c : Cell) → MayBeTaken c → unowned_named cells ≡ [] → kept_references storage.Unowned c ++ unowned_named cells ≡ []
    at _ MayBeTaken.empty e = e
    at _ (MayBeTaken.keeps x) e = e

pub none_named : (cells : List Cell) (stored : List Numbers) → Each MayBeTaken cells → named cells stored ≡ stored
none_named cells stored h =
    ap₂ (λ ws us. each_changed more_weak ws (each_changed more_unowned us stored)) (none_weakly cells h) (none_unowned cells h)

pub none_unnamed : (cells : List Cell) (stored : List Numbers) → Each MayBeTaken cells → unnamed cells stored ≡ stored
none_unnamed cells stored h =
    ap₂ (λ ws us. each_changed less_weak ws (each_changed less_unowned us stored)) (none_weakly cells h) (none_unowned cells h)

-- what the lowered run has in such cells is no storage either
pub strong_low : (cells low : List Cell) → AreCellsFor cells low → Each MayBeTaken cells → Each MayBeTaken low
strong_low [] [] h k = tt
strong_low [] (c ∷ low) h k = absurd h
strong_low (c ∷ cells) [] h k = absurd h
strong_low (c ∷ cells) (b ∷ low) h k = (at c b h.0 k.0, strong_low cells low h.1 k.1)
  where
    at : (c b : Cell) → IsCellFor c b → MayBeTaken c → MayBeTaken b
    at _ _ (IsCellFor.same c) k = k
    at _ _ (IsCellFor.taken x) k = MayBeTaken.keeps x

-- both runs name the same objects in cells
same_cell : (c low : Cell) → IsCellFor c low → (kept_references storage.Weak low ≡ kept_references storage.Weak c) × (kept_references storage.Unowned low ≡ kept_references storage.Unowned c)
same_cell _ _ (IsCellFor.same c) = (refl, refl)
same_cell _ _ (IsCellFor.taken x) = (refl, refl)

pub weakly_same : (cells low : List Cell) → AreCellsFor cells low → weakly_named low ≡ weakly_named cells
weakly_same [] [] h = refl
weakly_same [] (c ∷ low) h = absurd h
weakly_same (c ∷ cells) [] h = absurd h
weakly_same (c ∷ cells) (b ∷ low) h = ap₂ (λ xs ys. xs ++ ys) (same_cell c b h.0).0 (weakly_same cells low h.1)

pub unowned_same : (cells low : List Cell) → AreCellsFor cells low → unowned_named low ≡ unowned_named cells
unowned_same [] [] h = refl
unowned_same [] (c ∷ low) h = absurd h
unowned_same (c ∷ cells) [] h = absurd h
unowned_same (c ∷ cells) (b ∷ low) h = ap₂ (λ xs ys. xs ++ ys) (same_cell c b h.0).1 (unowned_same cells low h.1)

pub unnamed_same : (cells low : List Cell) (stored : List Numbers) → AreCellsFor cells low → unnamed low stored ≡ unnamed cells stored
unnamed_same cells low stored h =
    ap₂ (λ ws us. each_changed less_weak ws (each_changed less_unowned us stored)) (weakly_same cells low h) (unowned_same cells low h)

-- ---- references

abbrev pub held : List Cell → List ObjectId
held cells = flat_map (kept_references storage.Strong) cells

held_joined : (cells more : List Cell) → held (cells ++ more) ≡ held cells ++ held more
held_joined [] more = refl
held_joined (c ∷ cells) more =
    ap (λ os. kept_references storage.Strong c ++ os) (held_joined cells more) ∙ joined (kept_references storage.Strong c) (held cells) (held more)
  where
    joined : (xs ys zs : List ObjectId) → xs ++ (ys ++ zs) ≡ (xs ++ ys) ++ zs
    joined [] ys zs = refl
    joined (x ∷ xs) ys zs = ap (λ l. x ∷ l) (joined xs ys zs)

parted : (n : ℕ) (cells : List Cell) → take n cells ++ drop n cells ≡ cells
parted zero [] = refl
parted (suc n) [] = refl
parted zero (c ∷ cells) = refl
parted (suc n) (c ∷ cells) = ap (λ l. c ∷ l) (parted n cells)

taken_long : (n k : ℕ) (cells : List Cell) → length cells ≡ n + k → length (take n cells) ≡ n
taken_long zero k [] e = refl
taken_long zero k (c ∷ cells) e = refl
taken_long (suc n) k [] e = absurd (omega arith)
taken_long (suc n) k (c ∷ cells) e = ap suc (taken_long n k cells (omega arith))

dropped_long : (n k : ℕ) (cells : List Cell) → length cells ≡ n + k → length (drop n cells) ≡ k
dropped_long zero k [] e = omega arith
dropped_long zero k (c ∷ cells) e = omega arith
dropped_long (suc n) k [] e = absurd (omega arith)
dropped_long (suc n) k (c ∷ cells) e = dropped_long n k cells (omega arith)

front_may : (n : ℕ) (cells : List Cell) → Each MayBeTaken cells → Each MayBeTaken (take n cells)
front_may zero [] h = tt
front_may zero (c ∷ cells) h = tt
front_may (suc n) [] h = tt
front_may (suc n) (c ∷ cells) h = (h.0, front_may n cells h.1)

behind_may : (n : ℕ) (cells : List Cell) → Each MayBeTaken cells → Each MayBeTaken (drop n cells)
behind_may zero [] h = tt
behind_may zero (c ∷ cells) h = h
behind_may (suc n) [] h = tt
behind_may (suc n) (c ∷ cells) h = behind_may n cells h.1

-- the value that these cells keep has the references that they hold
abbrev HoldsIts : Shape → Type 0
HoldsIts s = (cells : List Cell) (x : Value) → Each MayBeTaken cells → length cells ≡ cell_count s → (in_cells s).value cells ≡ Some x → held cells ≡ references_of x

one_holds : (cells : List Cell) (x : Value) → Each MayBeTaken cells → length cells ≡ 1 → kept_first cells ≡ Some x → held cells ≡ references_of x
one_holds [] x h long e = absurd (none-some x e)
one_holds (c ∷ d ∷ cells) x h long e = absurd (omega arith)
one_holds (c ∷ []) x h long e = at c h.0 e
  where
    at : (c : Cell) → MayBeTaken c → kept c ≡ Some x → kept_references storage.Strong c ++ [] ≡ references_of x
    at _ MayBeTaken.empty g = absurd (none-some x g)
    at _ (MayBeTaken.keeps y) g = append-nil (references_of y) ∙ ap references_of (same_Some y x g)

more_parts : (o : Option Value) (q : Option (List Value)) (xs : List Value) → with_more o q ≡ Some xs → (y : Value) × (ys : List Value) × (o ≡ Some y) × (q ≡ Some ys) × (y ∷ ys ≡ xs)
more_parts None q xs e = absurd (none-some xs e)
more_parts (Some y) None xs e = absurd (none-some xs e)
more_parts (Some y) (Some ys) xs e = (y, ys, refl, refl, same_Some (y ∷ ys) xs e)

each_holds : (ss : Shapes) → AllByRecursion HoldsIts (listed ss) → (cells : List Cell) (xs : List Value) → Each MayBeTaken cells
    → length cells ≡ sum (map width_of (each_by_layers cells_layer ss)) → kept_each (each_by_layers cells_layer ss) cells ≡ Some xs
    → held cells ≡ flat_map references_of xs
each_holds NoMember hs [] xs h long e = ap (flat_map references_of) (same_Some [] xs e)
each_holds NoMember hs (c ∷ cells) xs h long e = absurd (omega arith)
each_holds (Member s ss) hs cells xs h long e =
    let n = (in_cells s).width in
    let rest = sum (map width_of (each_by_layers cells_layer ss)) in
    let sized : length cells ≡ n + rest = long ∙ sum_by-cons (λ k. k) (width_of (in_cells s)) (map width_of (each_by_layers cells_layer ss)) in
    let parts = more_parts ((in_cells s).value (take n cells)) (kept_each (each_by_layers cells_layer ss) (drop n cells)) xs e in
    ap held (sym (parted n cells)) ∙ held_joined (take n cells) (drop n cells)
    ∙ ap₂ (λ os ps. os ++ ps) (hs.0 (take n cells) parts.0 (front_may n cells h) (taken_long n rest cells sized) parts.2)
    (each_holds ss hs.1 (drop n cells) parts.1 (behind_may n cells h) (dropped_long n rest cells sized) parts.3)
    ∙ ap (flat_map references_of) parts.4

group_holds : (o : Option (List Value)) (cells : List Cell) (x : Value) → option_map grouped o ≡ Some x → ((xs : List Value) → o ≡ Some xs → held cells ≡ flat_map references_of xs)
    → held cells ≡ references_of x
group_holds None cells x e h = absurd (none-some x e)
group_holds (Some xs) cells x e h = h xs refl ∙ sym (group_references xs) ∙ ap references_of (same_Some (grouped xs) x e)

members_hold : (s : Shape) (ss : Shapes) → AllByRecursion HoldsIts (listed (Member s ss)) → HoldsIts (Tuple (Member s ss))
members_hold s ss hs cells x h long e =
    group_holds (kept_each (each_by_layers cells_layer (Member s ss)) cells) cells x e (λ xs is. each_holds (Member s ss) hs cells xs h long is)

shape_holds : (s : Shape) → InParts HoldsIts s → HoldsIts s
shape_holds (Integer width) hs = one_holds
shape_holds (Reference class) hs = one_holds
shape_holds (Struct name NoMember) hs = one_holds
shape_holds (Struct name (Member s ss)) hs = members_hold s ss hs
shape_holds (Tuple NoMember) hs = one_holds
shape_holds (Tuple (Member s ss)) hs = members_hold s ss hs
shape_holds (Enum name cases) hs = one_holds
shape_holds (Stored how inner) hs = one_holds
shape_holds Unknown hs = one_holds

pub value_holds : (s : Shape) (cells : List Cell) (x : Value) → Each MayBeTaken cells → length cells ≡ cell_count s → (in_cells s).value cells ≡ Some x
    → held cells ≡ references_of x
value_holds = by_parts HoldsIts shape_holds
