-- A value that is read from cells which keep strongly: what it names one of the cells keeps.
use Rattle.std.proofs.Common.{◌≡◌, ℕ, zero, suc, ◌+◌, ◌<◌, ◌≤◌, List, [], ◌∷◌, length, drop, true, Some, refl, sym, ap, ◌∙◌, slice_get, arith}
use Rattle.std.proofs.lemmas.List.{length-drop, length-take-le}
use Rattle.std.proofs.lemmas.Option.{slice_get_within}
use Rattle.numbered_form.specs.Lists.{Each}
use Rattle.sil_verifier_frames.proofs.holder_model_laws.HolderLaws.Counts.Sums.{total_cons}
use Rattle.sil_verifier_frames.proofs.holder_model_laws.HolderLaws.Counts.Values.{read_counted}
use Rattle.sil_verifier_frames.specs.holder_model.Holders.{in_cell, in_cells, of_references}
use Rattle.sil_verifier_frames.specs.holder_model_laws.HolderLaws.inner.Counts.Keeping.{KeepsStrongly}
use Rattle.sil_verifier_frames.specs.holder_model_laws.HolderLaws.inner.Counts.Naming.{IsReadStrongly}
use Rattle.sil_verifier_frames.specs.holder_model_laws.HolderLaws.inner.Cells.Cells.{cell_at, has_cell}
use Rattle.sil_verifier_frames.proofs.holder_model_laws.HolderLaws.Cells.PlaceCells.{cell_number, get_cell}
use Rattle.holder_model_values.specs.RunValues.Cells.{Cell, Gone, Empty, Keeps, cell_count}
use Rattle.holder_model_values.specs.RunValues.Memory.{Memory}
use Rattle.holder_model_values.specs.RunValues.Places.{Place, cells_at, home_cells, value_at}
use Rattle.holder_model_values.specs.RunValues.Values.{Value, references_of}
use Rattle.sil_ast.specs.declared.decl.Storage.TheVariants as storage
use Rattle.sil_ast.specs.declared.place.ObjectId.{ObjectId}

module _ (weight : ObjectId → ℕ) where
  -- one of the cells keeps something that weighs
  pub record HoldsOne (cells : List Cell) : Type 0 where
    pub number : ℕ
    pub value : Value
    pub there : slice_get cells number ≡ Some (Keeps storage.Strong value)
    pub weighs : 0 < of_references weight (references_of value)

  first_holds : (c : Cell) (cs : List Cell) (n : ℕ) → KeepsStrongly c → in_cell weight storage.Strong c ≡ suc n → HoldsOne (c ∷ cs)
  first_holds Gone cs n k e = absurd (cc)
  first_holds Empty cs n k e = absurd (cc)
  first_holds (Keeps how y) cs n k e =
      let heavy : of_references weight (references_of y) ≡ suc n = ap (λ h. in_cell weight storage.Strong (Keeps h y)) (sym k) ∙ e in
      record { number = 0; value = y; there = ap (λ h. Some (Keeps h y)) k; weighs = omega (arith, heavy) }

  pub holds_one : (cs : List Cell) → Each KeepsStrongly cs → 0 < in_cells weight storage.Strong cs → HoldsOne cs
  holds_one [] k lt = absurd (omega (arith, lt))
  holds_one (c ∷ cs) k lt = at (in_cell weight storage.Strong c) refl (λ more. holds_one cs k.1 more)
    where
      at : (n : ℕ) → in_cell weight storage.Strong c ≡ n → (0 < in_cells weight storage.Strong cs → HoldsOne cs) → HoldsOne (c ∷ cs)
      at zero none more =
          let all : in_cells weight storage.Strong (c ∷ cs) ≡ in_cell weight storage.Strong c + in_cells weight storage.Strong cs = total_cons (in_cell weight storage.Strong) c cs in
          let y = more (omega (arith, lt, all, none)) in
          record { number = suc y.number; value = y.value; there = y.there; weighs = y.weighs }
      at (suc n) some more = first_holds c cs n k.0 some

  -- a cell of the place keeps it
  pub record KeptAt (m : Memory) (p : Place) : Type 0 where
    pub number : ℕ
    pub value : Value
    pub of_place : has_cell p number ≡ true
    pub there : cell_at m p.home number ≡ Some (Keeps storage.Strong value)
    pub weighs : 0 < of_references weight (references_of value)

  pub kept_at : (m : Memory) (p : Place) (x : Value) → IsReadStrongly m p → value_at m p ≡ Some x → 0 < of_references weight (references_of x) → KeptAt m p
  kept_at m p x read at heavy =
      let fits : cell_count p.shape ≤ length (drop p.first (home_cells m p.home)) = omega (arith, length-drop p.first (home_cells m p.home), read.within.inside) in
      let count : length (cells_at m p) ≡ cell_count p.shape = length-take-le (cell_count p.shape) (drop p.first (home_cells m p.home)) fits in
      let same = read_counted weight p.shape (cells_at m p) x read.strongly count at in
      let y = holds_one (cells_at m p) read.strongly (omega (arith, heavy, same)) in
      let early = slice_get_within (cells_at m p) y.number (Keeps storage.Strong y.value) y.there in
      let lt : y.number < cell_count p.shape = omega (arith, early, count) in
      record {
        number = p.first + y.number;
        value = y.value;
        of_place = cell_number p y.number lt;
        there = sym (get_cell m p y.number lt) ∙ y.there;
        weighs = y.weighs;
      }
