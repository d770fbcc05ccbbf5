-- Scopes among the bases of addresses: those of a field of an object, and of what lies in it. They are open where the address is taken.
use Rattle.std.specs.Prelude.{◌≡◌, List, ◌∷◌, Bool, true, Contains, Some}
use Rattle.argument_conventions.specs.declared.row.AddressRow.{AddressRow}
use Rattle.sil_cfg_items.specs.Items.{item_taken}
use Rattle.sil_cfg_items.specs.declared.taken.Taken.{Taken}
use Rattle.sil_ast.specs.declared.function.Function.{Function}
use Rattle.sil_ast.specs.declared.place.ValueId.{ValueId}
use Rattle.sil_cfg.specs.declared.item.Item.{Item}
use Rattle.sil_verifier_values.specs.sil_types_declarations.TypeDefinitions.Declarations.{Declarations}
use Rattle.sil_verifier_values.specs.sil_types_declarations.declared.type_definitions.kind.Kind.TheVariants as kind
use Rattle.numbered_form.specs.ValueTables.Borrows.{is_borrow}
use Rattle.sil_verifier_trails.specs.AcceptedTrails.inner.Bases.{IsBaseOf}
use Rattle.sil_verifier_trails.specs.AcceptedTrails.inner.Lives.{is_open}
use Rattle.sil_verifier_values.specs.memory_rules_accesses.Sources.{is_slot, source_at, sources_of}
use Rattle.sil_verifier_values.specs.memory_rules_accesses.declared.source.Source.TheVariants.{Argument}
use Rattle.sil_verifier_values.specs.memory_rules_parts.Parts.{is_scope}
use Rattle.sil_verifier_trails.specs.RunTrails.inner.RunTrails.{IsRunTrail}
use Rattle.sil_verifier_trails.specs.HeldEntries.inner.Tracked.{IsOwnScope}
use Rattle.sil_verifier_trails.specs.AcceptedPlaces.inner.Located.{IsNamed}
use Rattle.sil_verifier_values.specs.inner.Known.{InAccepted, kind_at}

-- what borrows is a scope of its own
abbrev pub AreBorrowsOwnScopes : Type 0
AreBorrowsOwnScopes = InAccepted (λ d f. (s : ValueId) → is_borrow f s ≡ true → IsOwnScope d f s)

-- and a scope to memory too
abbrev pub AreBorrowsScopes : Type 0
AreBorrowsScopes = InAccepted (λ d f. (b : ValueId) → is_borrow f b ≡ true → is_scope (sources_of d f) b ≡ true)

-- a Plain value with bases names a place, and is no argument
abbrev pub ArePlainInScopesNamed : Type 0
ArePlainInScopesNamed = InAccepted (λ d f. (v b : ValueId) → kind_at d f v ≡ kind.Plain → IsBaseOf d f b v
    → IsNamed (sources_of d f) v × ((row : AddressRow) (trivial : Bool) → source_at (sources_of d f) v ≡ Argument row trivial → ⊥))

-- a slot has none
abbrev pub HaveSlotsNoBases : Type 0
HaveSlotsNoBases = InAccepted (λ d f. (v b : ValueId) → is_slot (sources_of d f) v ≡ true → kind_at d f v ≡ kind.Plain → IsBaseOf d f b v → ⊥)

-- scopes among the bases of an address are open where the next item takes the address
abbrev pub TakesAddressesInScopes : Declarations → Function → List Item → Item → Type 0
TakesAddressesInScopes d f t i = (x : Taken) (s : ValueId) → Contains (item_taken f i) x → kind_at d f x.value ≡ kind.Plain → IsBaseOf d f s x.value
    → is_borrow f s ≡ true → is_open d f s t ≡ Some true

-- so it is in each run
abbrev pub AreAddressesInScopes : Type 0
AreAddressesInScopes = InAccepted (λ d f. (t : List Item) (i : Item) → IsRunTrail f (i ∷ t) → TakesAddressesInScopes d f t i)
