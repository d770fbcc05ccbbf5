-- The roots of a frame on the stack: its slots that are allocated, and the arguments that were handed over by their addresses.
use Rattle.std.specs.Prelude.{◌≡◌, List, Bool, true, false, Option, Some, None}
use Rattle.sil_verifier_trails.specs.AcceptedMemory.inner.PartTrails.{is_on}
use Rattle.holder_model_laws.specs.memory_rules_accesses.Sources.{source_at, sources_of}
use Rattle.holder_model_laws.specs.memory_rules_accesses.declared.source.Source.{Source}
use Rattle.holder_model_laws.specs.memory_rules_accesses.declared.source.Source.TheVariants as source
use Rattle.holder_model_laws.specs.memory_rules_parts.declared.part.Part.{Part}
use Rattle.sil_verifier_trails.specs.AcceptedPlaces.inner.Cells.{part_at}
use Rattle.sil_verifier_trails.specs.AcceptedPlaces.inner.Stacks.{slots_on}
use Rattle.argument_conventions.specs.declared.row.AddressRow.{AddressRow}
use Rattle.holder_model_laws.specs.ownership_kinds_chains.OwnershipChains.Facts.{has}
use Rattle.sil_ast.specs.declared.function.Function.{Function}
use Rattle.sil_ast.specs.declared.place.ValueId.{ValueId}
use Rattle.sil_cfg.specs.declared.item.Item.{Item}
use Rattle.sil_types_declarations.specs.TypeDefinitions.Declarations.{Declarations}

-- an argument that others may be handed too
abbrev pub is_shared_source : Source → Bool
is_shared_source (source.Slot trivial) = false
is_shared_source (source.Argument row trivial) = row.shared
is_shared_source (source.Object fields) = false
is_shared_source (source.Borrow of) = false
is_shared_source (source.Upcast of) = false
is_shared_source (source.Loan of) = false
is_shared_source (source.Field of k trivial) = false
is_shared_source (source.Part of k) = false
is_shared_source source.Other = false

module _ (d : Declarations) (f : Function) where
  abbrev pub is_shared : ValueId → Bool
  is_shared v = is_shared_source (source_at (sources_of d f) v)

  -- a root that is there where the trail has come to
  pub data IsThere (t : List Item) (v : ValueId) : Type 0 where
    slot : (trivial : Bool) → source_at (sources_of d f) v ≡ source.Slot trivial → has (slots_on d f t) v.0 ≡ true → IsThere t v
    argument : (row : AddressRow) (trivial : Bool) → source_at (sources_of d f) v ≡ source.Argument row trivial → IsThere t v

  -- whether what is at a root is full, as the trail says. Where nothing follows it, it is
  abbrev pub full_by : List Item → Option Part → Option Bool
  full_by t None = Some true
  full_by t (Some p) = is_on d f p t

  abbrev pub is_full_on : ValueId → List Item → Option Bool
  is_full_on v t = full_by t (part_at d f v)
