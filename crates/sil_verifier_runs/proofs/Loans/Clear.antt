-- A place and a loan's cell: apart where their roots are, and where their locations don't overlap.
use Rattle.std.proofs.Common.{◌≡◌, ◌⊎◌, inl, inr, ◌==◌, ◌&&◌, ◌||◌, ℕ, List, [], ◌∷◌, Bool, true, false, Some, refl, sym, ap, ◌∙◌, subst, arith, eqb-true}
use Rattle.std.specs.List.{starts_with}
use Rattle.std.proofs.lemmas.Bool.{or_parts, true≢false}
use Rattle.sil_verifier_frames.specs.sil_verifier_trails.AcceptedTrails.inner.Bases.{IsAsMade}
use Rattle.sil_verifier_frames.specs.holder_model.Frames.{Frame}
use Rattle.sil_verifier_frames.specs.holder_model.States.{Task}
use Rattle.sil_verifier_frames.specs.memory_rules_accesses.Locations.{do_overlap, location_of, meet, same_step}
use Rattle.sil_verifier_frames.specs.memory_rules_accesses.Rows.{has_steps}
use Rattle.sil_verifier_frames.specs.memory_rules_accesses.Sources.{sources_of}
use Rattle.sil_verifier_frames.specs.memory_rules_accesses.declared.location.Location.{Location}
use Rattle.sil_verifier_frames.specs.sil_verifier_trails.AcceptedPlaces.inner.Loans.{AreApartByCells, IsBefore}
use Rattle.sil_verifier_frames.specs.holder_model_laws.HolderLaws.inner.Cells.Cells.{has_cell}
use Rattle.sil_verifier_frames.proofs.holder_model_laws.HolderLaws.Cells.PlaceCells.{cell_within}
use Rattle.holder_model_values.specs.RunValues.Memory.{Memory}
use Rattle.holder_model_values.specs.RunValues.Places.{Place}
use Rattle.sil_ast.specs.declared.function.Function.{Function}
use Rattle.sil_ast.specs.declared.module.Module.{Module}
use Rattle.sil_ast.specs.declared.place.ValueId.{ValueId}
use Rattle.sil_types_declarations.specs.TypeDefinitions.Declarations.{declarations_of}
use Rattle.sil_verifier_frames.specs.inner.Placed.FramePlaces.{HoldsPlaces, Names}
use Rattle.sil_verifier_frames.specs.inner.Placed.Roots.{IsThere, is_shared}
use Rattle.sil_verifier_frames.proofs.Placed.Reading.{operand_within}
use Rattle.sil_verifier_runs.proofs.Loans.LoanAt.{LendsCell}
use Rattle.sil_verifier_runs.proofs.Loans.Reached.{LiesAt, lies_at, lies_within}

pub same_root : (v w : ValueId) → (v.0 == w.0) ≡ true → v ≡ w
same_root v w e = ap (λ (k : ℕ). record { 0 = k }) (eqb-true v.0 w.0 e)

-- parts of a place of which neither is within the other
parts_clear : AreApartByCells → (whole p q : Place) (a b : List ℕ) → LiesAt whole a p → LiesAt whole b q → starts_with same_step a b ≡ false → starts_with same_step b a ≡ false
    → (n : ℕ) → has_cell p n ≡ true → has_cell q n ≡ true → ⊥
parts_clear law whole p q a b one other no_b no_a n in_p in_q = at (law whole.shape p.shape q.shape a b one.part other.part no_b no_a)
  where
    at : IsBefore whole.shape a p.shape b ⊎ IsBefore whole.shape b q.shape a → ⊥
    at (inl before) =
        let up = (cell_within p n in_p).1 in
        let uq = (cell_within q n in_q).0 in
        let fp = one.first in
        let fq = other.first in
        omega (arith, up, uq, fp, fq, before)
    at (inr before) =
        let up = (cell_within p n in_p).0 in
        let uq = (cell_within q n in_q).1 in
        let fp = one.first in
        let fq = other.first in
        omega (arith, up, uq, fp, fq, before)

-- a path that no other one starts leads somewhere
leads_on : (a b : List ℕ) → starts_with same_step a b ≡ false → starts_with same_step b a ≡ false → has_steps a ≡ true
leads_on [] [] one two = absurd (true≢false one)
leads_on [] (k ∷ b) one two = absurd (true≢false two)
leads_on (j ∷ a) b one two = refl

module _ (m : Module) (f : Function) (memory : Memory) (frame : Frame) (rest : List (Task Frame)) (h : HoldsPlaces m memory f frame rest)
    (s : ValueId) (n : ℕ) (x : LendsCell m f frame s n) where
  lies : LiesAt x.whole x.location.path x.place
  lies = lies_at x.location.path x.whole x.place x.leads

  -- the cell is one of the root's
  pub in_root : has_cell x.whole n ≡ true
  in_root = lies_within x.whole x.place x.location.path lies n x.has

  -- a place within that of another root
  pub other_root : (root : ValueId) → IsThere (declarations_of m) f frame.trail root → (root.0 == x.location.root.0) ≡ false
      → (is_shared (declarations_of m) f root && is_shared (declarations_of m) f x.location.root) ≡ false
      → (whole : Place) → Names frame.entries root whole → has_cell whole n ≡ true → ⊥
  other_root root there differ own whole names has =
      true≢false (sym in_root ∙ h.apart root x.location.root there x.root.there differ own whole x.whole names x.names n has)

  -- a place at a location that doesn't overlap
  pub other_location : AreApartByCells → (v : ValueId) (l : Location) → location_of (sources_of (declarations_of m) f) v ≡ Some l
      → IsThere (declarations_of m) f frame.trail l.root → IsAsMade f frame.trail l.root v → is_shared (declarations_of m) f l.root ≡ false
      → (p : Place) → Names frame.entries v p → do_overlap (sources_of (declarations_of m) f) v x.address ≡ false → has_cell p n ≡ true → ⊥
  other_location law v l is there made own p names clear has = by (l.root.0 == x.location.root.0) refl
    where
      meets : meet (Some l) (Some x.location) ≡ false
      meets = sym (ap (λ o. meet o (location_of (sources_of (declarations_of m) f) x.address)) is ∙ ap (meet (Some l)) x.at) ∙ clear

      by : (b : Bool) → (l.root.0 == x.location.root.0) ≡ b → ⊥
      by false differ =
          let w = operand_within m memory f frame rest h v l is there made p names in
          other_root l.root there differ (ap (λ b. b && is_shared (declarations_of m) f x.location.root) own) w.whole w.names (w.within n has)
      by true same = paths (or_parts (starts_with same_step l.path x.location.path) (starts_with same_step x.location.path l.path)
          (sym (ap (λ b. b && (starts_with same_step l.path x.location.path || starts_with same_step x.location.path l.path)) same) ∙ meets))
        where
          paths : (starts_with same_step l.path x.location.path ≡ false) × (starts_with same_step x.location.path l.path ≡ false) → ⊥
          paths apart =
              let root : l.root ≡ x.location.root = same_root l.root x.location.root same in
              let part = h.parts v l is (leads_on l.path x.location.path apart.0 apart.1) made x.whole p (subst (λ r. Names frame.entries r x.whole) (sym root) x.names) names in
              parts_clear law x.whole p x.place l.path x.location.path (record { part = part.shape; first = part.first; home = part.home }) lies apart.0 apart.1 n has x.has
