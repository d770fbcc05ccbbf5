-- Parts that are on together: an address and its slot; an address or a loan and its scope.
use Rattle.std.specs.Prelude.{◌≡◌, List}
use Rattle.sil_verifier_values.specs.memory_rules_parts.declared.part.Part.TheVariants.{Allocation, InScope, InSlot, Lent}
use Rattle.sil_ast.specs.declared.function.Function.{Function}
use Rattle.sil_ast.specs.declared.place.ValueId.{ValueId}
use Rattle.sil_cfg.specs.declared.item.Item.{Item}
use Rattle.sil_verifier_values.specs.sil_types_declarations.TypeDefinitions.Declarations.{Declarations}
use Rattle.sil_verifier_trails.specs.RunTrails.inner.RunTrails.{IsRunTrail}
use Rattle.sil_verifier_trails.specs.AcceptedTrails.inner.Accepted.{IsAcceptedIn}
use Rattle.sil_verifier_trails.specs.AcceptedTrails.inner.Lives.{IsScopeIn, is_open}
use Rattle.sil_verifier_trails.specs.AcceptedMemory.inner.PartTrails.{IsPartOf, is_on}

-- an address lies in its slot while the slot is allocated
abbrev pub AreInSlots : Type 0
AreInSlots = (d : Declarations) (f : Function) → IsAcceptedIn d f → (address slot : ValueId)
    → IsPartOf d f (InSlot address slot) → IsPartOf d f (Allocation slot)
    → (t : List Item) → IsRunTrail f t → is_on d f (InSlot address slot) t ≡ is_on d f (Allocation slot) t

-- an address lies in a scope while the scope is open
abbrev pub AreInScopes : Type 0
AreInScopes = (d : Declarations) (f : Function) → IsAcceptedIn d f → (address scope : ValueId) → IsPartOf d f (InScope address scope) → IsScopeIn d f scope
    → (t : List Item) → IsRunTrail f t → is_on d f (InScope address scope) t ≡ is_open d f scope t

-- what a scope borrows of memory is lent while the scope is open
abbrev pub AreLentInScopes : Type 0
AreLentInScopes = (d : Declarations) (f : Function) → IsAcceptedIn d f → (scope address : ValueId) → IsPartOf d f (Lent scope address) → IsScopeIn d f scope
    → (t : List Item) → IsRunTrail f t → is_on d f (Lent scope address) t ≡ is_open d f scope t
