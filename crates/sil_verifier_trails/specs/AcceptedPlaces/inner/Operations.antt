-- What an item does at locations: each operation is one that the location's row has, and what a call is handed doesn't overlap.
use Rattle.std.specs.Prelude.{◌≡◌, List, ◌∷◌, ◌++◌, true, false, ◌&&◌, Contains, Some}
use Rattle.argument_conventions.specs.declared.row.AddressRow.{AddressRow}
use Rattle.sil_cfg_items.specs.Parts.{item_inst}
use Rattle.sil_verifier_values.specs.memory_rules_accesses.Locations.{do_overlap, location_of}
use Rattle.sil_verifier_values.specs.memory_rules_accesses.Operations.{addresses_of, deallocates, operations_of}
use Rattle.sil_verifier_values.specs.memory_rules_accesses.Rows.{has_operation}
use Rattle.sil_verifier_values.specs.memory_rules_accesses.Sources.{is_slot, sources_of}
use Rattle.sil_verifier_values.specs.memory_rules_accesses.declared.access.Operated.{Operated}
use Rattle.sil_verifier_values.specs.memory_rules_accesses.declared.access.Operation.TheVariants.{Handed}
use Rattle.sil_verifier_values.specs.memory_rules_accesses.declared.location.Location.{Location}
use Rattle.sil_ast.specs.declared.function.Function.{Function}
use Rattle.sil_ast.specs.declared.inst.Inst.{Inst}
use Rattle.sil_ast.specs.declared.place.ValueId.{ValueId}
use Rattle.sil_cfg.specs.declared.item.Item.{Item}
use Rattle.sil_verifier_values.specs.sil_types_declarations.TypeDefinitions.Declarations.{Declarations}
use Rattle.sil_verifier_trails.specs.AcceptedTrails.inner.Accepted.{IsAcceptedIn}

-- the location's row has the operation
abbrev pub AreRowsRight : Type 0
AreRowsRight = (d : Declarations) (f : Function) → IsAcceptedIn d f → (item : Item) (i : Inst) → item_inst f item ≡ Some i
    → (x : Operated) → Contains (operations_of i) x → (l : Location) → location_of (sources_of d f) x.address ≡ Some l
    → has_operation (sources_of d f) l x.operation ≡ true

-- what is deallocated is a slot
abbrev pub AreOfSlots : Type 0
AreOfSlots = (d : Declarations) (f : Function) → IsAcceptedIn d f → (item : Item) (i : Inst) → item_inst f item ≡ Some i
    → deallocates i ≡ true → (v : ValueId) → Contains (addresses_of i) v → is_slot (sources_of d f) v ≡ true

-- of two addresses that are handed over, and which aren't both shared, the locations don't overlap
abbrev pub AreApart : Type 0
AreApart = (d : Declarations) (f : Function) → IsAcceptedIn d f → (item : Item) (i : Inst) → item_inst f item ≡ Some i
    → (before between rest : List Operated) (x y : Operated) (one other : AddressRow) → operations_of i ≡ before ++ x ∷ (between ++ y ∷ rest)
    → x.operation ≡ Handed one → y.operation ≡ Handed other → (one.shared && other.shared) ≡ false
    → do_overlap (sources_of d f) x.address y.address ≡ false
