-- The cells of all slots: those of one slot lie behind those of the slots before it, and others may take their place.
use Rattle.std.proofs.Common.{◌≡◌, ◌+◌, ◌++◌, ℕ, zero, suc, List, [], ◌∷◌, Some, true, length, map, take, refl, sym, ap, ◌∙◌, append_assoc, arith}
use Rattle.std.specs.Prelude.{set, slice_get}
use Rattle.std.proofs.lemmas.List.{length-append, length-replicate}
use Rattle.std.proofs.lemmas.List.Sums.{sum_by-cons}
use Rattle.std.proofs.lemmas.Option.{none-some, same_Some}
use Rattle.holder_model_values.specs.RunValues.Cells.{Cell, cell_count}
use Rattle.holder_model_values.specs.RunValues.Shapes.{Shape}
use Rattle.holder_model_values.specs.RunValues.Values.{Value}
use Rattle.holder_model_values.specs.ValueParts.inner.Suits.{ClassTest, suits}
use Rattle.holder_model_values.proofs.ValueParts.CellParts.{suits_cells_length}
use Rattle.count_machine_laws.proofs.Slots.{Content, Empty, Full, Gone, Made, cells_in, first_cell, made_cells, made_width, stack_of}

-- what a slot has suits its shape
abbrev pub ContentSuits : ClassTest → Shape → Content → Type 0
ContentSuits test s c = (v : Value) → c ≡ Full v → suits test s v ≡ true

abbrev pub AllSuit : ClassTest → List Made → Type 0
AllSuit test made = (k : ℕ) (x : Made) → slice_get made k ≡ Some x → ContentSuits test x.shape x.content

pub content_length : (test : ClassTest) (s : Shape) (c : Content) → ContentSuits test s c → length (cells_in s c) ≡ cell_count s
content_length test s Gone h = length-replicate _ _
content_length test s Empty h = length-replicate _ _
content_length test s (Full v) h = suits_cells_length test s v (h v refl)

-- the cells before those of a slot, and those behind
pub record StackAround (made : List Made) (k : ℕ) (x : Made) : Type 0 where
  pub before : List Cell
  pub behind : List Cell
  pub count : length before ≡ first_cell made k
  pub now : stack_of made ≡ before ++ (made_cells x ++ behind)
  pub with_ : (y : Made) → stack_of (set made k y) ≡ before ++ (made_cells y ++ behind)

pub stack_around : (test : ClassTest) (made : List Made) (k : ℕ) (x : Made) → AllSuit test made → slice_get made k ≡ Some x → StackAround made k x
stack_around test [] k x all e = absurd (none-some x e)
stack_around test (y ∷ made) zero x all e = record {
  before = [];
  behind = stack_of made;
  count = refl;
  now = ap (λ z. made_cells z ++ stack_of made) (same_Some y x e);
  with_ = λ z. refl;
}
stack_around test (y ∷ made) (suc k) x all e =
    let others = stack_around test made k x (λ j. all (suc j)) e in
    let mine : length (made_cells y) ≡ made_width y = content_length test y.shape y.content (all 0 y refl) in
    let all_before : first_cell (y ∷ made) (suc k) ≡ made_width y + first_cell made k = sum_by-cons (λ n. n) (made_width y) (map made_width (take k made)) in
    record {
      before = made_cells y ++ others.before;
      behind = others.behind;
      count = length-append (made_cells y) others.before ∙ omega (arith, mine, others.count, all_before);
      now = ap (λ cs. made_cells y ++ cs) others.now ∙ sym (append_assoc (made_cells y) others.before _);
      with_ = λ z. ap (λ cs. made_cells y ++ cs) (others.with_ z) ∙ sym (append_assoc (made_cells y) others.before _);
    }
