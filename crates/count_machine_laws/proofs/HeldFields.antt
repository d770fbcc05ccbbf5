-- The cells of an object: those of one field lie behind those of the fields before it, and others may take their place.
use Rattle.std.proofs.Common.{◌≡◌, ◌+◌, ◌++◌, ℕ, zero, suc, List, [], ◌∷◌, Option, Some, None, length, map, take, sum, refl, sym, ap, ◌∙◌, subst, append_assoc, arith}
use Rattle.std.specs.Prelude.{set, slice_get, replicate}
use Rattle.std.proofs.lemmas.List.{length-append, length-replicate, replicate-append-replicate}
use Rattle.std.proofs.lemmas.List.Sums.{sum_by-cons}
use Rattle.std.proofs.lemmas.Option.{none-some, same_Some}
use Rattle.holder_model_values.specs.RunValues.Cells.{Cell, Empty, cell_count}
use Rattle.holder_model_values.specs.RunValues.Places.{offset}
use Rattle.holder_model_values.specs.RunValues.Shapes.{Shape}
use Rattle.holder_model_values.specs.declared.run_values.leaf.Leaf.{Leaf}
use Rattle.holder_model_values.specs.ValueParts.inner.Suits.{ClassTest}
use Rattle.holder_model_values.proofs.ValueParts.CellParts.{suits_cells_length}
use Rattle.count_machine_laws.proofs.Objects.{FieldHolds, FieldsHold}

module _ (test : ClassTest) where
  pub field_length : (s : Shape) {own : List Cell} {x : Option (List Leaf)} → FieldHolds test s own x → length own ≡ cell_count s
  field_length s FieldHolds.unwritten = length-replicate _ _
  field_length s (FieldHolds.written v h) = suits_cells_length test s v h

  -- a field with its cells, those before and those behind
  pub record FieldAround (ss : List Shape) (k : ℕ) (s : Shape) (cells : List Cell) (xs : List (Option (List Leaf))) : Type 0 where
    pub before : List Cell
    pub own : List Cell
    pub behind : List Cell
    pub x : Option (List Leaf)
    pub count : length before ≡ offset ss k
    pub now : cells ≡ before ++ (own ++ behind)
    pub has : slice_get xs k ≡ Some x
    pub holds : FieldHolds test s own x
    pub with_ : (new : List Cell) (y : Option (List Leaf)) → FieldHolds test s new y → FieldsHold test ss (before ++ (new ++ behind)) (set xs k y)

  pub field_around : (ss : List Shape) (k : ℕ) (s : Shape) (cells : List Cell) (xs : List (Option (List Leaf))) → FieldsHold test ss cells xs → slice_get ss k ≡ Some s
      → FieldAround ss k s cells xs
  field_around _ k s _ _ FieldsHold.none e = absurd (none-some s e)
  field_around _ zero s _ _ (FieldsHold.more t ss own rest x xs held others) e =
      let same = same_Some t s e in record {
        before = [];
        own = own;
        behind = rest;
        x = x;
        count = refl;
        now = refl;
        has = refl;
        holds = subst (λ u. FieldHolds test u own x) same held;
        with_ = λ new y holds. FieldsHold.more t ss new rest y xs (subst (λ u. FieldHolds test u new y) (sym same) holds) others;
      }
  field_around _ (suc k) s _ _ (FieldsHold.more t ss own rest x xs held others) e =
      let deeper = field_around ss k s rest xs others e in
      let all_before : offset (t ∷ ss) (suc k) ≡ cell_count t + offset ss k = sum_by-cons (λ n. n) (cell_count t) (map cell_count (take k ss)) in
      let mine : length own ≡ cell_count t = field_length t held in
      record {
        before = own ++ deeper.before;
        own = deeper.own;
        behind = deeper.behind;
        x = deeper.x;
        count = length-append own deeper.before ∙ omega (arith, mine, deeper.count, all_before);
        now = ap (λ cs. own ++ cs) deeper.now ∙ sym (append_assoc own deeper.before _);
        has = deeper.has;
        holds = deeper.holds;
        with_ = λ new y holds. subst (λ cs. FieldsHold test (t ∷ ss) cs (x ∷ set xs k y)) (sym (append_assoc own deeper.before _))
            (FieldsHold.more t ss own _ x _ held (deeper.with_ new y holds));
      }

-- no field of a new object is written
pub none_written : (test : ClassTest) (ss : List Shape) (n : ℕ) → length ss ≡ n → FieldsHold test ss (replicate (sum (map cell_count ss)) Empty) (replicate n None)
none_written test [] zero e = FieldsHold.none
none_written test [] (suc n) e = absurd (omega arith)
none_written test (s ∷ ss) zero e = absurd (omega arith)
none_written test (s ∷ ss) (suc n) e =
    let all : sum (map cell_count (s ∷ ss)) ≡ cell_count s + sum (map cell_count ss) = sum_by-cons (λ k. k) (cell_count s) (map cell_count ss) in
    subst (λ cs. FieldsHold test (s ∷ ss) cs (None ∷ replicate n None))
    (replicate-append-replicate (cell_count s) (sum (map cell_count ss)) Empty ∙ ap (λ k. replicate k Empty) (sym all))
    (FieldsHold.more s ss _ _ None (replicate n None) FieldHolds.unwritten (none_written test ss n (omega arith)))
