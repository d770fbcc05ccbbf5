-- Which cells the open scopes of a frame lend: those of the place that a scope's load named, found by its location in the place of the root.
use Rattle.std.specs.Prelude.{ℕ, List, [], ◌∷◌, Bool, false, not, ◌&&◌, Option, Some, None, option_and_then}
use Rattle.sil_verifier_frames.specs.memory_rules_accesses.Locations.{location_of}
use Rattle.sil_verifier_frames.specs.memory_rules_accesses.Sources.{source_at, sources_of}
use Rattle.sil_verifier_frames.specs.memory_rules_accesses.declared.location.Location.{Location}
use Rattle.sil_verifier_frames.specs.memory_rules_accesses.declared.source.Source.{Source}
use Rattle.sil_verifier_frames.specs.memory_rules_accesses.declared.source.Source.TheVariants as source
use Rattle.sil_verifier_frames.specs.holder_model.Calling.{place_in}
use Rattle.sil_verifier_frames.specs.holder_model.Frames.{Frame, datum_in, entry_at}
use Rattle.sil_verifier_frames.specs.sil_verifier_trails.AcceptedPlaces.inner.Stacks.{slots_on}
use Rattle.sil_verifier_runs.specs.inner.Guarded.GuardedStates.{Loans}
use Rattle.sil_verifier_frames.specs.holder_model_laws.HolderLaws.inner.Cells.Cells.{has_cell}
use Rattle.sil_verifier_frames.specs.ownership_kinds_chains.OwnershipChains.Facts.{has}
use Rattle.holder_model_values.specs.RunValues.Places.{Place, member_place}
use Rattle.sil_ast.specs.declared.function.Function.{Function}
use Rattle.sil_ast.specs.declared.module.Module.{Module}
use Rattle.sil_ast.specs.declared.place.ValueId.{ValueId}
use Rattle.sil_types_declarations.specs.TypeDefinitions.Declarations.{declarations_of}

-- the part of a place to which a path leads
abbrev pub reached : Place → List ℕ → Option Place
reached p [] = Some p
reached p (k ∷ path) = option_and_then (λ q. reached q path) (member_place p k)

-- the root is there, and isn't of a trivial type
abbrev pub may_lend : List ValueId → ValueId → Source → Bool
may_lend slots v (source.Slot trivial) = has slots v.0 && not trivial
may_lend slots v (source.Argument row trivial) = not trivial
may_lend slots v (source.Object fields) = false
may_lend slots v (source.Borrow of) = false
may_lend slots v (source.Upcast of) = false
may_lend slots v (source.Loan of) = false
may_lend slots v (source.Field of k trivial) = false
may_lend slots v (source.Part of k) = false
may_lend slots v source.Other = false

abbrev pub has_cell_in : Option Place → ℕ → Bool
has_cell_in None n = false
has_cell_in (Some p) n = has_cell p n

module _ (m : Module) (f : Function) (frame : Frame) where
  -- what is at a location
  abbrev pub place_at : Location → Option Place
  place_at l = option_and_then (λ p. reached p l.path) (place_in (datum_in (entry_at frame.entries l.root)))

  abbrev pub lends_at : Option Location → ℕ → Bool
  lends_at None n = false
  lends_at (Some l) n =
      may_lend (slots_on (declarations_of m) f frame.trail) l.root (source_at (sources_of (declarations_of m) f) l.root) && has_cell_in (place_at l) n

  abbrev pub lends_by : Source → ℕ → Bool
  lends_by (source.Slot trivial) n = false
  lends_by (source.Argument row trivial) n = false
  lends_by (source.Object fields) n = false
  lends_by (source.Borrow of) n = false
  lends_by (source.Upcast of) n = false
  lends_by (source.Loan of) n = lends_at (location_of (sources_of (declarations_of m) f) of) n
  lends_by (source.Field of k trivial) n = false
  lends_by (source.Part of k) n = false
  lends_by source.Other n = false

-- a scope that was opened over a place lends the cells of this place, where its root is there
abbrev pub loans_of : Module → Loans
loans_of m f frame s n = lends_by m f frame (source_at (sources_of (declarations_of m) f) s) n
