-- Addresses on the trails of an accepted function: each has a location, whose root is as it was when the address was named.
use Rattle.std.specs.Prelude.{◌≡◌, ℕ, List, ◌∷◌, Bool, Contains, Some, true, false}
use Rattle.sil_verifier_trails.specs.AcceptedTrails.inner.Bases.{IsAsMade, IsBaseOf}
use Rattle.sil_verifier_trails.specs.AcceptedTrails.inner.Defined.{IsDefinedOn}
use Rattle.sil_verifier_values.specs.memory_rules_accesses.Locations.{extended, location_of, whole}
use Rattle.sil_verifier_values.specs.memory_rules_accesses.Operations.{deallocates}
use Rattle.sil_verifier_values.specs.memory_rules_accesses.Sources.{is_slot, source_at, sources_of}
use Rattle.sil_verifier_values.specs.memory_rules_accesses.declared.location.Location.{Location}
use Rattle.sil_verifier_values.specs.memory_rules_accesses.declared.source.Source.{Source}
use Rattle.sil_verifier_values.specs.memory_rules_accesses.declared.source.Source.TheVariants.{Argument, Field, Part, Slot}
use Rattle.sil_verifier_values.specs.memory_rules_parts.Parts.{is_scope}
use Rattle.sil_verifier_values.specs.memory_rules_parts.declared.part.Part.TheVariants.{Allocation, InScope}
use Rattle.sil_verifier_trails.specs.RunTrails.inner.RunTrails.{IsRunTrail}
use Rattle.sil_verifier_trails.specs.AcceptedMemory.inner.PartTrails.{is_on}
use Rattle.sil_verifier_values.specs.inner.Known.{InAccepted}
use Rattle.sil_verifier_values.specs.holder_model.RunTyping.Forms.{OfPlace, form_of}
use Rattle.argument_conventions.specs.declared.row.AddressRow.{AddressRow}
use Rattle.sil_cfg_items.specs.Items.{item_taken}
use Rattle.sil_cfg_items.specs.Parts.{item_inst}
use Rattle.sil_cfg_items.specs.declared.taken.Taken.{Taken}
use Rattle.sil_verifier_values.specs.holder_model_values.RunValues.Shapes.{Shape}
use Rattle.sil_ast.specs.declared.function.Function.{Function}
use Rattle.sil_ast.specs.declared.inst.Inst.{Inst}
use Rattle.sil_ast.specs.declared.place.ValueId.{ValueId}
use Rattle.sil_cfg.specs.declared.item.Item.{Item}
use Rattle.sil_verifier_values.specs.sil_types_declarations.TypeDefinitions.Declarations.{Declarations}

-- the value is an address
pub record IsAddress (d : Declarations) (f : Function) (v : ValueId) : Type 0 where
  pub shape : Shape
  pub is : form_of d f v ≡ OfPlace shape

-- a value at which a location begins: a slot, an argument of the entry, or the field of an object
pub data IsRoot : Source → Type 0 where
  slot : {trivial : Bool} → IsRoot (Slot trivial)
  argument : {row : AddressRow} {trivial : Bool} → IsRoot (Argument row trivial)
  field : {of : ValueId} {k : ℕ} {trivial : Bool} → IsRoot (Field of k trivial)

-- an address is a root, or a member of what is at another address
pub data IsNamed (sources : List Source) (v : ValueId) : Type 0 where
  root : IsRoot (source_at sources v) → IsNamed sources v
  member : (of : ValueId) (k : ℕ) → source_at sources v ≡ Part of k → IsNamed sources v

abbrev pub AreAddressesNamed : Type 0
AreAddressesNamed = InAccepted (λ d f. (t : List Item) → IsRunTrail f t → (v : ValueId) → IsDefinedOn f t v → IsAddress d f v → IsNamed (sources_of d f) v)

-- a member's location is one step behind that of the address that it is named at
pub record IsMemberOf (d : Declarations) (f : Function) (t : List Item) (v of : ValueId) (k : ℕ) : Type 0 where
  pub defined : IsDefinedOn f t of
  pub address : IsAddress d f of
  pub location : Location
  pub at : location_of (sources_of d f) of ≡ Some location
  pub is : location_of (sources_of d f) v ≡ Some (extended k location)

-- each address that is defined on a trail has a location: a root itself is one, and a member is a member of another that is defined
abbrev pub AreRootsLocated : Type 0
AreRootsLocated = InAccepted (λ d f. (t : List Item) → IsRunTrail f t → (v : ValueId) → IsDefinedOn f t v → IsRoot (source_at (sources_of d f) v)
    → location_of (sources_of d f) v ≡ Some (whole v))

abbrev pub AreMembersLocated : Type 0
AreMembersLocated = InAccepted (λ d f. (t : List Item) → IsRunTrail f t → (v : ValueId) → IsDefinedOn f t v → IsAddress d f v
    → (of : ValueId) (k : ℕ) → source_at (sources_of d f) v ≡ Part of k → IsMemberOf d f t v of k)

-- an address's location, whose root was made when the address was or before, and not anew since
pub record IsLocated (d : Declarations) (f : Function) (t : List Item) (v : ValueId) : Type 0 where
  pub location : Location
  pub is : location_of (sources_of d f) v ≡ Some location
  pub rooted : IsRoot (source_at (sources_of d f) location.root)
  pub root : IsAsMade f t location.root v

-- so has each address that the next item takes
abbrev pub AreOperandsLocated : Type 0
AreOperandsLocated = InAccepted (λ d f. (t : List Item) (i : Item) → IsRunTrail f (i ∷ t) → (x : Taken) → Contains (item_taken f i) x
    → IsAddress d f x.value → IsLocated d f t x.value)

-- its slot is allocated
abbrev pub AreInAllocated : Type 0
AreInAllocated = InAccepted (λ d f. (t : List Item) (i : Item) → IsRunTrail f (i ∷ t) → (x : Taken) → Contains (item_taken f i) x
    → (l : Location) → location_of (sources_of d f) x.value ≡ Some l → is_slot (sources_of d f) l.root ≡ true → is_on d f (Allocation l.root) t ≡ Some true)

-- and the scopes among its bases are open: those of the address of a field, and of what lies in it
abbrev pub AreInOpenScopes : Type 0
AreInOpenScopes = InAccepted (λ d f. (t : List Item) (i : Item) → IsRunTrail f (i ∷ t) → (x : Inst) → item_inst f i ≡ Some x → deallocates x ≡ false
    → (y : Taken) → Contains (item_taken f i) y → IsNamed (sources_of d f) y.value
    → ((row : AddressRow) (trivial : Bool) → source_at (sources_of d f) y.value ≡ Argument row trivial → ⊥)
    → (b : ValueId) → IsBaseOf d f b y.value → is_scope (sources_of d f) b ≡ true → is_on d f (InScope y.value b) t ≡ Some true)
