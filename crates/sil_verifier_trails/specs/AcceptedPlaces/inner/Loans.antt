-- What an open loan lends, on the trails of an accepted function: it stays full, and nothing that overlaps it is written, emptied or deallocated.
use Rattle.std.specs.Prelude.{◌≡◌, ℕ, ◌+◌, ◌≤◌, ◌⊎◌, List, ◌∷◌, Bool, true, false, Contains, Option, Some}
use Rattle.std.specs.List.{list_any, starts_with}
use Rattle.argument_conventions.specs.declared.row.Content.{Content}
use Rattle.sil_verifier_trails.specs.AcceptedTrails.inner.Passing.{is_end}
use Rattle.sil_verifier_values.specs.memory_rules_accesses.Locations.{cell_of, do_overlap, location_of, same_step}
use Rattle.sil_verifier_values.specs.memory_rules_accesses.Operations.{addresses_of, deallocates}
use Rattle.sil_verifier_values.specs.memory_rules_accesses.Rows.{is_part}
use Rattle.sil_verifier_values.specs.memory_rules_accesses.Sources.{source_at, sources_of}
use Rattle.sil_verifier_values.specs.memory_rules_accesses.declared.access.Operated.{Operated}
use Rattle.sil_verifier_values.specs.memory_rules_accesses.declared.location.Location.{Location}
use Rattle.sil_verifier_values.specs.memory_rules_accesses.declared.source.Source.TheVariants.{Loan}
use Rattle.sil_verifier_values.specs.memory_rules_parts.Loans.{writes}
use Rattle.sil_verifier_values.specs.memory_rules_parts.declared.part.Part.TheVariants.{Contents, Lent}
use Rattle.sil_verifier_values.specs.ownership_kinds_origins.Facts.{facts_in}
use Rattle.sil_verifier_trails.specs.RunTrails.inner.RunTrails.{IsRunTrail}
use Rattle.sil_verifier_trails.specs.AcceptedMemory.inner.PartTrails.{IsPartOf, is_on}
use Rattle.sil_verifier_values.specs.inner.Known.{InAccepted}
use Rattle.sil_verifier_values.specs.holder_model_values.ValueParts.inner.Paths.{IsPart, cells_before}
use Rattle.sil_cfg_items.specs.Items.{item_taken}
use Rattle.sil_cfg_items.specs.Parts.{item_inst}
use Rattle.sil_verifier_values.specs.holder_model_values.RunValues.Cells.{cell_count}
use Rattle.sil_verifier_values.specs.holder_model_values.RunValues.Shapes.{Shape}
use Rattle.sil_ast.specs.declared.function.Function.{Function}
use Rattle.sil_ast.specs.declared.inst.Inst.{Inst}
use Rattle.sil_ast.specs.declared.place.PointId.{PointId}
use Rattle.sil_ast.specs.declared.place.ValueId.{ValueId}
use Rattle.sil_cfg.specs.declared.item.Item.{Item}
use Rattle.sil_cfg.specs.declared.item.Item.TheVariants as item
use Rattle.sil_verifier_values.specs.sil_types_declarations.TypeDefinitions.Declarations.{Declarations}
use Rattle.sil_verifier_trails.specs.AcceptedPlaces.inner.Cells.{IsDoneAt}

-- what a scope borrows of a location is followed
abbrev pub AreLoansFollowed : Type 0
AreLoansFollowed = InAccepted (λ d f. (scope address : ValueId) → source_at (sources_of d f) scope ≡ Loan address → IsPartOf d f (Lent scope address))

-- what is lent where the trail has come to, and isn't given back by the next item
pub record IsLentOn (d : Declarations) (f : Function) (t : List Item) (i : Item) (scope address : ValueId) : Type 0 where
  pub there : IsPartOf d f (Lent scope address)
  pub lent : is_on d f (Lent scope address) t ≡ Some true
  pub stays : list_any (is_end (facts_in d f) scope) (item_taken f i) ≡ false

-- no operation of the item that writes or empties overlaps it
abbrev pub AreLoansUnwritten : Type 0
AreLoansUnwritten = InAccepted (λ d f. (t : List Item) (p : PointId) → IsRunTrail f (item.Inst p ∷ t) → (scope address : ValueId)
    → IsLentOn d f t (item.Inst p) scope address → (o : Operated) (l : Location) → IsDoneAt d f p o l
    → writes (is_part l) o.operation ≡ true → do_overlap (sources_of d f) o.address address ≡ false)

-- nor is its slot deallocated
abbrev pub AreLoansThere : Type 0
AreLoansThere = InAccepted (λ d f. (t : List Item) (i : Item) → IsRunTrail f (i ∷ t) → (scope address : ValueId) → IsLentOn d f t i scope address
    → (x : Inst) (slot : ValueId) → item_inst f i ≡ Some x → deallocates x ≡ true → Contains (addresses_of x) slot
    → do_overlap (sources_of d f) slot address ≡ false)

-- it is full as long
abbrev pub AreLoansFull : Type 0
AreLoansFull = InAccepted (λ d f. (t : List Item) → IsRunTrail f t → (scope address : ValueId) → IsPartOf d f (Lent scope address)
    → is_on d f (Lent scope address) t ≡ Some true → (l : Location) → location_of (sources_of d f) address ≡ Some l
    → (trivial : Bool) (left : Option Content) → IsPartOf d f (Contents (cell_of (sources_of d f) l.root) trivial left)
    → is_on d f (Contents (cell_of (sources_of d f) l.root) trivial left) t ≡ Some true)

-- ---- cells

-- the cells of one part of a shape end before those of another begin
abbrev pub IsBefore : Shape → List ℕ → Shape → List ℕ → Type 0
IsBefore s a part b = cells_before s a + cell_count part ≤ cells_before s b

-- two parts of a shape of which neither is within the other have no cell in common
abbrev pub AreApartByCells : Type 0
AreApartByCells = (s p q : Shape) (a b : List ℕ) → IsPart s a p → IsPart s b q → starts_with same_step a b ≡ false → starts_with same_step b a ≡ false
    → IsBefore s a p b ⊎ IsBefore s b q a
