-- New objects on the trails of an accepted function: which of their fields are unwritten, and what is done with an object that has such a field.
use Rattle.std.specs.Prelude.{◌≡◌, ◌<◌, ℕ, List, ◌∷◌, Bool, true, false, not, Contains, None, Some}
use Rattle.sil_verifier_trails.specs.AcceptedTrails.inner.Defined.{IsDefinedOn, makes}
use Rattle.sil_verifier_values.specs.memory_rules_accesses.Accesses.{allowance_of}
use Rattle.sil_verifier_values.specs.memory_rules_accesses.Operations.{deallocates}
use Rattle.sil_verifier_values.specs.memory_rules_accesses.Sources.{source_at, sources_of}
use Rattle.sil_verifier_values.specs.memory_rules_accesses.declared.source.Source.TheVariants.{Object}
use Rattle.sil_verifier_values.specs.memory_rules_parts.Building.{is_forbidden}
use Rattle.sil_verifier_values.specs.memory_rules_parts.declared.part.Part.TheVariants.{Building, Contents}
use Rattle.sil_verifier_values.specs.ownership_kinds_origins.Facts.{facts_in}
use Rattle.sil_verifier_trails.specs.RunTrails.inner.RunTrails.{IsRunTrail}
use Rattle.sil_verifier_trails.specs.AcceptedMemory.inner.PartTrails.{IsPartOf, is_on}
use Rattle.sil_verifier_values.specs.inner.Known.{InAccepted}
use Rattle.sil_cfg_items.specs.Items.{item_taken}
use Rattle.sil_cfg_items.specs.Parts.{item_inst}
use Rattle.sil_cfg_items.specs.declared.taken.Taken.{Taken}
use Rattle.sil_verifier_values.specs.ownership_kinds_chains.OwnershipChains.Facts.{known_or}
use Rattle.sil_ast.specs.declared.function.Function.{Function}
use Rattle.sil_ast.specs.declared.inst.Inst.{Inst}
use Rattle.sil_ast.specs.declared.place.ValueId.{ValueId}
use Rattle.sil_cfg.specs.declared.item.Item.{Item}
use Rattle.sil_verifier_values.specs.sil_types_declarations.TypeDefinitions.Declarations.{Declarations}

-- the field of the object is still to be written where the trail has come to
abbrev pub IsUnwritten : Declarations → Function → List Item → ValueId → ℕ → Type 0
IsUnwritten d f t object k = is_on d f (Building object k) t ≡ Some true

-- of each field of a new object it is followed whether it is to be written
abbrev pub AreFieldsBuilt : Type 0
AreFieldsBuilt = InAccepted (λ d f. (object : ValueId) (k fields : ℕ) → source_at (sources_of d f) object ≡ Object fields → k < fields
    → IsPartOf d f (Building object k))

-- once the object is made, a field is to be written just while it is empty
abbrev pub AreUnwrittenEmpty : Type 0
AreUnwrittenEmpty = InAccepted (λ d f. (object : ValueId) (k : ℕ) → IsPartOf d f (Building object k) → (t : List Item) → IsRunTrail f t → IsDefinedOn f t object
    → (on : Bool) × (is_on d f (Building object k) t ≡ Some on)
    × (is_on d f (Contents (record { subject = object; field = Some k }) false None) t ≡ Some (not on)))

-- what makes the object leaves all its fields to be written
abbrev pub AreMadeUnwritten : Type 0
AreMadeUnwritten = InAccepted (λ d f. (object : ValueId) (k : ℕ) → IsPartOf d f (Building object k) → (t : List Item) (i : Item) → IsRunTrail f (i ∷ t)
    → makes f object i ≡ true → IsUnwritten d f (i ∷ t) object k)

-- a field that was written stays written until the object is made anew
abbrev pub AreWrittenOnce : Type 0
AreWrittenOnce = InAccepted (λ d f. (object : ValueId) (k : ℕ) → IsPartOf d f (Building object k) → (t : List Item) (i : Item) → IsRunTrail f (i ∷ t)
    → makes f object i ≡ false → IsUnwritten d f (i ∷ t) object k → IsUnwritten d f t object k)

-- while a field is to be written, the next item takes the object, and what goes by a borrow of it, only where the item's row allows it
abbrev pub AreUnfinishedAllowed : Type 0
AreUnfinishedAllowed = InAccepted (λ d f. (object : ValueId) (k : ℕ) → IsPartOf d f (Building object k) → (t : List Item) (i : Item) → IsRunTrail f (i ∷ t)
    → IsUnwritten d f t object k → (x : Inst) → item_inst f i ≡ Some x → deallocates x ≡ false → (y : Taken) → Contains (item_taken f i) y
    → is_forbidden (sources_of d f) (known_or (facts_in d f)) object y.value (allowance_of x.op) ≡ false)
