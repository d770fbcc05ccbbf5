-- The bases of the values of an accepted function: Owned values, borrows and `@guaranteed` arguments of the entry are their own,
-- and others have theirs from operands.
use Rattle.std.specs.Prelude.{◌≡◌, ◌⊎◌, ◌<◌, [], ◌∷◌, Contains, Some, true, length}
use Rattle.holder_model_typing.specs.ownership_kinds_chains.OwnershipChains.Chains.{operands_at}
use Rattle.holder_model_typing.specs.ownership_kinds_chains.OwnershipChains.Facts.{facts_with, has, origin_at}
use Rattle.holder_model_typing.specs.ownership_kinds_chains.declared.ownership_chains.definition.Origin.TheVariants as origin
use Rattle.holder_model_typing.specs.ownership_kinds_origins.Facts.{facts_in}
use Rattle.holder_model_typing.specs.ownership_kinds_origins.Origins.{definitions_of}
use Rattle.sil_ast.specs.Blocks.{args_of}
use Rattle.sil_ast.specs.declared.function.Function.{Function}
use Rattle.sil_ast.specs.declared.place.ValueId.{ValueId}
use Rattle.holder_model_typing.specs.sil_types_declarations.TypeDefinitions.Declarations.{Declarations}
use Rattle.holder_model_typing.specs.sil_types_declarations.declared.type_definitions.kind.Kind.TheVariants as kind
use Rattle.numbered_form.specs.ValueTables.Borrows.{is_borrow}
use Rattle.sil_verifier_values.specs.inner.Known.{InAccepted, IsValue, facts_at, kind_at}

-- the one is a base of the other
abbrev pub IsBaseOf : Declarations → Function → ValueId → ValueId → Type 0
IsBaseOf d f b v = has (facts_at d f v).bases b.0 ≡ true

-- a scope, which a borrow opens, or a `@guaranteed` argument of the entry
pub record IsLender (d : Declarations) (f : Function) (b : ValueId) : Type 0 where
  pub lends : origin_at (definitions_of d f) b ≡ origin.Lender
  pub facts : facts_in d f b ≡ Some (facts_with kind.Guaranteed (b ∷ []))
  -- only an argument of the entry is no scope
  pub opened : (is_borrow f b ≡ true) ⊎ (b.0 < length (args_of f 0))

-- an Owned value is its own base, and has no other
abbrev pub AreOwnedOwnBases : Type 0
AreOwnedOwnBases = InAccepted (λ d f. (v : ValueId) → kind_at d f v ≡ kind.Owned → facts_in d f v ≡ Some (facts_with kind.Owned (v ∷ [])))

-- what lends itself is Guaranteed and its own one base; every borrow does
abbrev pub AreLendersOwnBases : Type 0
AreLendersOwnBases = InAccepted (λ d f. (v : ValueId) → ((origin_at (definitions_of d f) v ≡ origin.Lender) ⊎ (is_borrow f v ≡ true)) → IsLender d f v)

-- the bases of a Guaranteed value lend themselves: no Owned value is among them
abbrev pub AreLentByLenders : Type 0
AreLentByLenders = InAccepted (λ d f. (v b : ValueId) → kind_at d f v ≡ kind.Guaranteed → IsBaseOf d f b v → IsLender d f b)

-- so do those of a Plain value, which then is an address
abbrev pub AreAddressesOfLenders : Type 0
AreAddressesOfLenders = InAccepted (λ d f. (v b : ValueId) → kind_at d f v ≡ kind.Plain → IsBaseOf d f b v → IsLender d f b)

-- a base is the value itself, or a base of one of its operands
abbrev pub AreFromOperands : Type 0
AreFromOperands = InAccepted (λ d f. (v b : ValueId) → IsBaseOf d f b v
    → (b ≡ v) ⊎ ((w : ValueId) × Contains (operands_at (definitions_of d f) v) w × IsBaseOf d f b w))

-- a Guaranteed value that doesn't lend itself has the bases of its Guaranteed operands
abbrev pub AreHandedOn : Type 0
AreHandedOn = InAccepted (λ d f. (v w b : ValueId) → kind_at d f v ≡ kind.Guaranteed → (origin_at (definitions_of d f) v ≡ origin.Lender → ⊥)
    → Contains (operands_at (definitions_of d f) v) w → kind_at d f w ≡ kind.Guaranteed → IsBaseOf d f b w → IsBaseOf d f b v)

-- an address has the bases of its operands
abbrev pub AreBasesOfAddresses : Type 0
AreBasesOfAddresses = InAccepted (λ d f. (v w b : ValueId) → IsValue f v → origin_at (definitions_of d f) v ≡ origin.Address
    → Contains (operands_at (definitions_of d f) v) w → IsBaseOf d f b w → IsBaseOf d f b v)
