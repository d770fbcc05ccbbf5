-- Arguments of the entry that are addresses: what the signature tells of them, and that one of a trivial type stays full.
use Rattle.std.specs.Prelude.{◌≡◌, ℕ, List, Bool, true, false, Some, slice_get}
use Rattle.sil_verifier_values.specs.memory_rules_accesses.Locations.{location_of}
use Rattle.sil_verifier_values.specs.memory_rules_accesses.Rows.{is_part}
use Rattle.sil_verifier_values.specs.memory_rules_accesses.Sources.{argument_source, result_source, source_at, sources_of}
use Rattle.sil_verifier_values.specs.memory_rules_accesses.declared.location.Location.{Location}
use Rattle.sil_verifier_values.specs.memory_rules_accesses.declared.source.Source.{Source}
use Rattle.sil_verifier_values.specs.memory_rules_accesses.declared.source.Source.TheVariants as source
use Rattle.sil_verifier_values.specs.memory_rules_parts.Parts.{whole_cell}
use Rattle.sil_verifier_values.specs.memory_rules_parts.declared.part.Part.TheVariants.{Contents}
use Rattle.sil_verifier_trails.specs.RunTrails.inner.RunTrails.{GoesOn, IsRunTrail}
use Rattle.sil_verifier_trails.specs.AcceptedMemory.inner.PartTrails.{is_on}
use Rattle.sil_verifier_values.specs.sil_types.Typing.Shapes.{is_trivial_object, target}
use Rattle.sil_verifier_values.specs.inner.Known.{InAccepted, type_in}
use Rattle.argument_conventions.specs.Arguments.{Told, arguments_of}
use Rattle.argument_conventions.specs.Rows.{address_row}
use Rattle.argument_conventions.specs.declared.row.AddressRow.{AddressRow}
use Rattle.argument_conventions.specs.declared.row.Content.TheVariants.{Full}
use Rattle.sil_cfg_items.specs.Items.{item_defined}
use Rattle.sil_cfg_items.specs.Parts.{inst_at}
use Rattle.sil_verifier_values.specs.ownership_kinds_chains.OwnershipChains.Facts.{has}
use Rattle.sil_ast.specs.declared.function.Function.{Function}
use Rattle.sil_ast.specs.declared.inst.Inst.{Inst}
use Rattle.sil_ast.specs.declared.place.EdgeId.{EdgeId}
use Rattle.sil_ast.specs.declared.place.PointId.{PointId}
use Rattle.sil_ast.specs.declared.place.ValueId.{ValueId}
use Rattle.sil_ast.specs.declared.type_name.TypeName.{TypeName}
use Rattle.sil_cfg.specs.declared.item.Item.{Item}
use Rattle.sil_cfg.specs.declared.item.Item.TheVariants as item
use Rattle.sil_verifier_values.specs.sil_types_declarations.TypeDefinitions.Declarations.{Declarations}

-- an argument that is an address, by its number among those of the entry and of the signature
pub record IsTold (d : Declarations) (f : Function) (v : ValueId) (row : AddressRow) (trivial : Bool) : Type 0 where
  pub number : ℕ
  pub told : Told
  pub is : slice_get (item_defined f item.Entry) number ≡ Some v
  pub told_is : slice_get (arguments_of f.signature) number ≡ Some told
  pub row_is : address_row told.convention ≡ Some row
  pub trivial_is : trivial ≡ is_trivial_object d told.ty

abbrev pub AreArgumentsTold : Type 0
AreArgumentsTold = InAccepted (λ d f. (v : ValueId) (row : AddressRow) (trivial : Bool) → source_at (sources_of d f) v ≡ source.Argument row trivial
    → IsTold d f v row trivial)

-- and back: what the signature tells of an argument of the entry is its source
abbrev pub AreToldArguments : Type 0
AreToldArguments = InAccepted (λ d f. (k : ℕ) (v : ValueId) (a : Told) → slice_get (item_defined f item.Entry) k ≡ Some v
    → slice_get (arguments_of f.signature) k ≡ Some a
    → source_at (sources_of d f) v ≡ argument_source d a)

-- no argument of the entry is a part of another one
abbrev pub AreArgumentsWhole : Type 0
AreArgumentsWhole = InAccepted (λ d f. (v : ValueId) → has (item_defined f item.Entry) v.0 ≡ true → (l : Location) → location_of (sources_of d f) v ≡ Some l
    → is_part l ≡ false)

-- where an argument of a trivial type was given full it stays so
abbrev pub AreTrivialFull : Type 0
AreTrivialFull = InAccepted (λ d f. (t : List Item) → IsRunTrail f t → GoesOn t → (v : ValueId) (row : AddressRow)
    → source_at (sources_of d f) v ≡ source.Argument row true → row.before ≡ Full → row.shared ≡ false
    → is_on d f (Contents (whole_cell v) true (Some row.after)) t ≡ Some true)

-- ---- what values are to memory, by what makes them

-- results of an instruction are what its row says
abbrev pub AreResultsTold : Type 0
AreResultsTold = InAccepted (λ d f. (p : PointId) (x : Inst) → inst_at f p ≡ Some x → (v : ValueId) → has (item_defined f (item.Inst p)) v.0 ≡ true
    → source_at (sources_of d f) v ≡ result_source d x)

-- and what begins along an edge is nothing to memory
abbrev pub AreBegunTold : Type 0
AreBegunTold = InAccepted (λ d f. (e : EdgeId) (v : ValueId) → has (item_defined f (item.Edge e)) v.0 ≡ true → source_at (sources_of d f) v ≡ source.Other)

-- a place on the stack: a slot or an argument
pub data IsStackRoot (trivial : Bool) : Source → Type 0 where
  slot : IsStackRoot trivial (source.Slot trivial)
  argument : (row : AddressRow) → IsStackRoot trivial (source.Argument row trivial)

-- it is told to be trivial as the type at its address is
abbrev pub AreRootsTrivial : Type 0
AreRootsTrivial = InAccepted (λ d f. (v : ValueId) (trivial : Bool) → IsStackRoot trivial (source_at (sources_of d f) v)
    → (ty t : TypeName) → type_in d f v ≡ Some ty → target ty ≡ Some t → trivial ≡ is_trivial_object d t)
