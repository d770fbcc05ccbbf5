-- Where a path leads in a place: to the part there, and nowhere else.
use Rattle.std.proofs.Common.{◌≡◌, ◌+◌, ◌&&◌, ℕ, List, [], ◌∷◌, true, Option, Some, None, refl, ap, ◌∙◌, subst, arith}
use Rattle.std.specs.Prelude.{nat_le, nat_lt, option_and_then, option_map, slice_get, unwrap_or}
use Rattle.std.proofs.lemmas.Option.{none-some, same_Some}
use Rattle.sil_verifier_frames.specs.holder_model_laws.HolderLaws.inner.Cells.Cells.{has_cell}
use Rattle.sil_verifier_frames.proofs.holder_model_laws.HolderLaws.Cells.PlaceCells.{cell_from, cell_within}
use Rattle.holder_model_values.specs.RunValues.Cells.{cell_count}
use Rattle.holder_model_values.specs.RunValues.Places.{Place, offset, part_of}
use Rattle.holder_model_values.specs.RunValues.Shapes.{Shape, Unknown, member_shapes}
use Rattle.sil_verifier_frames.proofs.holder_model_typing.TypedMemory.Parts.{member_there}
use Rattle.holder_model_values.specs.ValueParts.inner.Paths.{IsPart, before_along, cells_before, here, inside}
use Rattle.holder_model_values.proofs.ValueParts.Paths.{part_cells_fit}
use Rattle.sil_verifier_runs.specs.inner.Loans.Loans.{reached}

-- a part of a place, by its shape and its cells
pub record LiesAt (whole : Place) (path : List ℕ) (q : Place) : Type 0 where
  pub part : IsPart whole.shape path q.shape
  pub first : q.first ≡ whole.first + cells_before whole.shape path
  pub home : q.home ≡ whole.home

along : (s t : Shape) (k : ℕ) (path : List ℕ) → slice_get (member_shapes s) k ≡ Some t → cells_before s (k ∷ path) ≡ offset (member_shapes s) k + cells_before t path
along s t k path e = ap (λ o. offset (member_shapes s) k + before_along offset (unwrap_or o Unknown) path) e

pub record Reaches (whole : Place) (path : List ℕ) (u : Shape) : Type 0 where
  pub place : Place
  pub is : reached whole path ≡ Some place
  pub lies : LiesAt whole path place
  pub shape : place.shape ≡ u

-- where there is a part, the path leads to it
pub reaches : (path : List ℕ) (whole : Place) (s u : Shape) → whole.shape ≡ s → IsPart s path u → Reaches whole path u
reaches _ whole s _ e here = record {
  place = whole;
  is = refl;
  lies = record { part = here; first = omega arith; home = refl };
  shape = e;
}
reaches _ whole s u e (inside {t = t} {k = k} {path = path} at part) =
    let there : slice_get (member_shapes whole.shape) k ≡ Some t = ap (λ z. slice_get (member_shapes z) k) e ∙ at in
    let deeper = reaches path (part_of whole (member_shapes whole.shape) k t) t u refl part in
    let from = deeper.lies.first in
    let before = along whole.shape t k path there in
    record {
      place = deeper.place;
      is = ap (option_and_then (λ q. reached q path)) (member_there whole k t there) ∙ deeper.is;
      lies = record { part = inside there deeper.lies.part; first = omega (arith, from, before); home = deeper.lies.home };
      shape = deeper.shape;
    }

-- and what it leads to is a part
pub lies_at : (path : List ℕ) (whole q : Place) → reached whole path ≡ Some q → LiesAt whole path q
lies_at [] whole q is = subst (LiesAt whole []) (same_Some whole q is) (record { part = here; first = omega arith; home = refl })
lies_at (k ∷ path) whole q is = at (λ r h. lies_at path r q h) (slice_get (member_shapes whole.shape) k) refl is
  where
    at : ((r : Place) → reached r path ≡ Some q → LiesAt r path q) → (o : Option Shape) → slice_get (member_shapes whole.shape) k ≡ o
        → option_and_then (λ r. reached r path) (option_map (part_of whole (member_shapes whole.shape) k) o) ≡ Some q → LiesAt whole (k ∷ path) q
    at more None e h = absurd (none-some q h)
    at more (Some t) e h =
        let deeper = more (part_of whole (member_shapes whole.shape) k t) h in
        let from = deeper.first in
        let before = along whole.shape t k path e in
        record { part = inside e deeper.part; first = omega (arith, from, before); home = deeper.home }

-- its cells are those of the whole
pub lies_within : (whole q : Place) (path : List ℕ) → LiesAt whole path q → (n : ℕ) → has_cell q n ≡ true → has_cell whole n ≡ true
lies_within whole q path x n has =
    let fits = part_cells_fit x.part in
    let at = cell_within q n has in
    let from = at.0 in
    let below = at.1 in
    let first = x.first in
    cell_from whole n (omega (arith, from, first)) (omega (arith, below, first, fits))

-- places of one shape that begin alike have the same cells
pub same_cells : (p q : Place) → p.first ≡ q.first → p.shape ≡ q.shape → (n : ℕ) → has_cell p n ≡ has_cell q n
same_cells p q first shape n =
    ap (λ a. nat_le a n && nat_lt n (a + cell_count p.shape)) first
    ∙ ap (λ s. nat_le q.first n && nat_lt n (q.first + cell_count s)) shape
