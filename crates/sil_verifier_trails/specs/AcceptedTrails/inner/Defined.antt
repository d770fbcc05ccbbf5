-- Values are defined where they are operands.
use Rattle.std.specs.Prelude.{◌≡◌, List, ◌∷◌, Bool, true}
use Rattle.std.specs.List.{list_any}
use Rattle.sil_cfg_items.specs.Items.{item_defined, item_taken}
use Rattle.sil_cfg_items.specs.declared.taken.Taken.{Taken}
use Rattle.numbered_form.specs.Lists.{Each}
use Rattle.sil_verifier_values.specs.ownership_kinds_chains.OwnershipChains.Facts.{has}
use Rattle.sil_ast.specs.declared.function.Function.{Function}
use Rattle.sil_ast.specs.declared.place.ValueId.{ValueId}
use Rattle.sil_cfg.specs.declared.item.Item.{Item}
use Rattle.sil_verifier_values.specs.sil_types_declarations.TypeDefinitions.Declarations.{Declarations}
use Rattle.sil_verifier_trails.specs.RunTrails.inner.RunTrails.{IsTurnedTrail}
use Rattle.sil_verifier_trails.specs.AcceptedTrails.inner.Accepted.{IsAcceptedIn}

-- the item makes the value
abbrev pub makes : Function → ValueId → Item → Bool
makes f v i = has (item_defined f i) v.0

-- an item of the trail made it
abbrev pub IsDefinedOn : Function → List Item → ValueId → Type 0
IsDefinedOn f t v = list_any (makes f v) t ≡ true

abbrev pub IsTakenFrom : Function → List Item → Taken → Type 0
IsTakenFrom f t x = IsDefinedOn f t x.value

-- what the next item takes is defined
abbrev pub AreOperandsDefined : Type 0
AreOperandsDefined = (d : Declarations) (f : Function) → IsAcceptedIn d f → (t : List Item) (i : Item) → IsTurnedTrail f (i ∷ t)
    → Each (IsTakenFrom f t) (item_taken f i)
