-- A cell that a scope lends: the location of its loan, whose root is there, and the place at it.
use Rattle.std.proofs.Common.{◌≡◌, ℕ, List, Bool, true, false, not, Option, Some, None, refl, sym, ap, ◌∙◌}
use Rattle.std.specs.Prelude.{option_and_then}
use Rattle.std.proofs.lemmas.Bool.{and_from, and_parts, false≢true}
use Rattle.std.proofs.lemmas.Option.{none-some, same_Some}
use Rattle.sil_verifier_frames.specs.holder_model.Calling.{place_in}
use Rattle.sil_verifier_frames.specs.holder_model.Data.{AddressOf, Datum, FunctionOf, ValueOf}
use Rattle.sil_verifier_frames.specs.holder_model.Frames.{Entry, Frame, datum_in, entry_at}
use Rattle.sil_verifier_frames.specs.memory_rules_accesses.Locations.{location_of}
use Rattle.sil_verifier_frames.specs.memory_rules_accesses.Sources.{is_trivial_at, is_trivial_source, source_at, sources_of}
use Rattle.sil_verifier_frames.specs.memory_rules_accesses.declared.location.Location.{Location}
use Rattle.sil_verifier_frames.specs.memory_rules_accesses.declared.source.Source.{Source}
use Rattle.sil_verifier_frames.specs.memory_rules_accesses.declared.source.Source.TheVariants as source
use Rattle.sil_verifier_frames.specs.sil_verifier_trails.AcceptedPlaces.inner.Stacks.{slots_on}
use Rattle.sil_verifier_frames.specs.holder_model_laws.HolderLaws.inner.Cells.Cells.{has_cell}
use Rattle.sil_verifier_frames.specs.ownership_kinds_chains.OwnershipChains.Facts.{has}
use Rattle.holder_model_values.specs.RunValues.Places.{Place}
use Rattle.sil_ast.specs.declared.function.Function.{Function}
use Rattle.sil_ast.specs.declared.module.Module.{Module}
use Rattle.sil_ast.specs.declared.place.ValueId.{ValueId}
use Rattle.sil_cfg.specs.declared.item.Item.{Item}
use Rattle.sil_types_declarations.specs.TypeDefinitions.Declarations.{Declarations, declarations_of}
use Rattle.sil_verifier_frames.specs.inner.Placed.FramePlaces.{Names}
use Rattle.sil_verifier_frames.specs.inner.Placed.Roots.{IsThere, argument, slot}
use Rattle.sil_verifier_runs.specs.inner.Loans.Loans.{has_cell_in, lends_at, lends_by, loans_of, may_lend, place_at, reached}

-- ---- roots

not_off : (b : Bool) → not b ≡ true → b ≡ false
not_off true e = absurd (false≢true e)
not_off false e = refl

-- a root that may lend is there, and isn't trivial
pub record MayLend (d : Declarations) (f : Function) (t : List Item) (root : ValueId) : Type 0 where
  pub there : IsThere d f t root
  pub nontrivial : is_trivial_at (sources_of d f) root ≡ false

pub may_lend_there : (d : Declarations) (f : Function) (t : List Item) (root : ValueId) → may_lend (slots_on d f t) root (source_at (sources_of d f) root) ≡ true → MayLend d f t root
may_lend_there d f t root e = at (source_at (sources_of d f) root) refl e
  where
    at : (s : Source) → source_at (sources_of d f) root ≡ s → may_lend (slots_on d f t) root s ≡ true → MayLend d f t root
    at (source.Slot trivial) is h =
        let parts = and_parts (has (slots_on d f t) root.0) (not trivial) h in
        record { there = slot trivial is parts.0; nontrivial = ap is_trivial_source is ∙ not_off trivial parts.1 }
    at (source.Argument row trivial) is h = record { there = argument row trivial is; nontrivial = ap is_trivial_source is ∙ not_off trivial h }
    at (source.Object fields) is h = absurd (false≢true h)
    at (source.Borrow of) is h = absurd (false≢true h)
    at (source.Upcast of) is h = absurd (false≢true h)
    at (source.Loan of) is h = absurd (false≢true h)
    at (source.Field of k trivial) is h = absurd (false≢true h)
    at (source.Part of k) is h = absurd (false≢true h)
    at source.Other is h = absurd (false≢true h)

pub there_may_lend : (d : Declarations) (f : Function) (t : List Item) (root : ValueId) → MayLend d f t root → may_lend (slots_on d f t) root (source_at (sources_of d f) root) ≡ true
there_may_lend d f t root x = by x.there
  where
    by : IsThere d f t root → may_lend (slots_on d f t) root (source_at (sources_of d f) root) ≡ true
    by (slot trivial is there) =
        ap (may_lend (slots_on d f t) root) is
        ∙ and_from (has (slots_on d f t) root.0) (not trivial) there (ap not (sym (ap is_trivial_source is) ∙ x.nontrivial))
    by (argument row trivial is) = ap (may_lend (slots_on d f t) root) is ∙ ap not (sym (ap is_trivial_source is) ∙ x.nontrivial)

-- ---- places

named_place : (entries : List Entry) (v : ValueId) (p : Place) → place_in (datum_in (entry_at entries v)) ≡ Some p → Names entries v p
named_place entries v p e = at (datum_in (entry_at entries v)) e
  where
    of : (x : Datum) → place_in (Some x) ≡ Some p → Some x ≡ Some (AddressOf p)
    of (ValueOf y) h = absurd (none-some p h)
    of (AddressOf q) h = ap (λ z. Some (AddressOf z)) (same_Some q p h)
    of (FunctionOf g) h = absurd (none-some p h)

    at : (o : Option Datum) → place_in o ≡ Some p → o ≡ Some (AddressOf p)
    at None h = absurd (none-some p h)
    at (Some x) h = of x h

module _ (m : Module) (f : Function) (frame : Frame) (s : ValueId) (n : ℕ) where
  -- the scope lends the cell: it is one of the place at its loan's location
  pub record LendsCell : Type 0 where
    pub address : ValueId
    pub source : source_at (sources_of (declarations_of m) f) s ≡ source.Loan address
    pub location : Location
    pub at : location_of (sources_of (declarations_of m) f) address ≡ Some location
    pub root : MayLend (declarations_of m) f frame.trail location.root
    pub whole : Place
    pub names : Names frame.entries location.root whole
    pub place : Place
    pub leads : reached whole location.path ≡ Some place
    pub has : has_cell place n ≡ true

  cell_of : (o : Option Place) → has_cell_in o n ≡ true → (p : Place) × (o ≡ Some p) × (has_cell p n ≡ true)
  cell_of None e = absurd (false≢true e)
  cell_of (Some p) e = (p, refl, e)

  whole_of : (l : Location) (q : Place) (o : Option Place) → place_in (datum_in (entry_at frame.entries l.root)) ≡ o → option_and_then (λ p. reached p l.path) o ≡ Some q
      → (p : Place) × (Names frame.entries l.root p) × (reached p l.path ≡ Some q)
  whole_of l q None is e = absurd (none-some q e)
  whole_of l q (Some p) is e = (p, named_place frame.entries l.root p is, e)

  pub lends_cell : loans_of m f frame s n ≡ true → LendsCell
  lends_cell e = at (source_at (sources_of (declarations_of m) f) s) refl e
    where
      by_location : (address : ValueId) → source_at (sources_of (declarations_of m) f) s ≡ source.Loan address → (o : Option Location)
          → location_of (sources_of (declarations_of m) f) address ≡ o → lends_at m f frame o n ≡ true → LendsCell
      by_location address is None at h = absurd (false≢true h)
      by_location address is (Some l) at h =
          let parts = and_parts (may_lend (slots_on (declarations_of m) f frame.trail) l.root (source_at (sources_of (declarations_of m) f) l.root)) (has_cell_in (place_at m f frame l) n) h in
          let cell = cell_of (place_at m f frame l) parts.1 in
          let place = whole_of l cell.0 (place_in (datum_in (entry_at frame.entries l.root))) refl cell.1 in
          record {
            address = address;
            source = is;
            location = l;
            at = at;
            root = may_lend_there (declarations_of m) f frame.trail l.root parts.0;
            whole = place.0;
            names = place.1;
            place = cell.0;
            leads = place.2;
            has = cell.2;
          }

      at : (x : Source) → source_at (sources_of (declarations_of m) f) s ≡ x → lends_by m f frame x n ≡ true → LendsCell
      at (source.Slot trivial) is h = absurd (false≢true h)
      at (source.Argument row trivial) is h = absurd (false≢true h)
      at (source.Object fields) is h = absurd (false≢true h)
      at (source.Borrow of) is h = absurd (false≢true h)
      at (source.Upcast of) is h = absurd (false≢true h)
      at (source.Loan of) is h = by_location of is (location_of (sources_of (declarations_of m) f) of) refl h
      at (source.Field of k trivial) is h = absurd (false≢true h)
      at (source.Part of k) is h = absurd (false≢true h)
      at source.Other is h = absurd (false≢true h)

  -- and what lies so is lent
  pub cell_lent : LendsCell → loans_of m f frame s n ≡ true
  cell_lent x =
      ap (λ y. lends_by m f frame y n) x.source
      ∙ ap (λ o. lends_at m f frame o n) x.at
      ∙ and_from (may_lend (slots_on (declarations_of m) f frame.trail) x.location.root (source_at (sources_of (declarations_of m) f) x.location.root))
      (has_cell_in (place_at m f frame x.location) n)
      (there_may_lend (declarations_of m) f frame.trail x.location.root x.root)
      (ap (λ o. has_cell_in (option_and_then (λ p. reached p x.location.path) (place_in o)) n) x.names
      ∙ ap (λ o. has_cell_in o n) x.leads
      ∙ x.has)

-- it is lent behind an item still, where its root is there and names what it named
pub lent_still : (m : Module) (f : Function) (frame next : Frame) (s : ValueId) (n : ℕ) (x : LendsCell m f frame s n) → IsThere (declarations_of m) f next.trail x.location.root
    → Names next.entries x.location.root x.whole → loans_of m f next s n ≡ true
lent_still m f frame next s n x there names = cell_lent m f next s n (record {
  address = x.address;
  source = x.source;
  location = x.location;
  at = x.at;
  root = record { there = there; nontrivial = x.root.nontrivial };
  whole = x.whole;
  names = names;
  place = x.place;
  leads = x.leads;
  has = x.has;
})
