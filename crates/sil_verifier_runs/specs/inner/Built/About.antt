-- Values that are about a new object: what makes one takes another, and the object is as it was when it was made.
use Rattle.std.specs.Prelude.{◌≡◌, ◌⊎◌, List, ◌∷◌, true, Contains}
use Rattle.sil_verifier_frames.specs.sil_verifier_trails.AcceptedTrails.inner.Bases.{IsAsMade}
use Rattle.sil_verifier_frames.specs.sil_verifier_trails.AcceptedTrails.inner.Defined.{makes}
use Rattle.sil_verifier_frames.specs.memory_rules_accesses.Sources.{sources_of}
use Rattle.sil_verifier_frames.specs.sil_verifier_trails.RunTrails.inner.RunTrails.{IsRunTrail}
use Rattle.sil_verifier_frames.specs.sil_verifier_values.inner.Known.{InAccepted}
use Rattle.sil_verifier_frames.specs.holder_model_laws.HolderLaws.inner.Built.Building.{IsAbout}
use Rattle.sil_cfg_items.specs.Items.{item_taken}
use Rattle.sil_cfg_items.specs.declared.taken.Taken.{Taken}
use Rattle.sil_ast.specs.declared.function.Function.{Function}
use Rattle.sil_ast.specs.declared.place.ValueId.{ValueId}
use Rattle.sil_cfg.specs.declared.item.Item.{Item}
use Rattle.sil_types_declarations.specs.TypeDefinitions.Declarations.{Declarations}

-- the value is the object, or the item takes one that is about it
abbrev pub IsAboutTaken : Declarations → Function → Item → ValueId → ValueId → Type 0
IsAboutTaken d f i object v = (v ≡ object) ⊎ ((y : Taken) × Contains (item_taken f i) y × IsAbout (sources_of d f) object y.value)

-- so it is with what the item makes that is about an object
abbrev pub AreAboutTaken : Type 0
AreAboutTaken = InAccepted (λ d f. (i : Item) (object v : ValueId) → makes f v i ≡ true → IsAbout (sources_of d f) object v → IsAboutTaken d f i object v)

-- of what the next item takes that is about an object, the object was made before, and not anew since
abbrev pub AreAboutAsMade : Type 0
AreAboutAsMade = InAccepted (λ d f. (t : List Item) (i : Item) → IsRunTrail f (i ∷ t) → (y : Taken) → Contains (item_taken f i) y
    → (object : ValueId) → IsAbout (sources_of d f) object y.value → IsAsMade f t object y.value)
