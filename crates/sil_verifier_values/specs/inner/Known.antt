-- The facts of the values of an accepted function: each value has a kind and bases, told by its origin from those of its operands.
use Rattle.std.specs.Prelude.{◌≡◌, ◌<◌, ℕ, Option, Some, length, slice_get}
use Rattle.sil_ast.specs.declared.function.Function.{Function}
use Rattle.sil_ast.specs.declared.module.Module.{Module}
use Rattle.sil_ast.specs.declared.place.FuncId.{FuncId}
use Rattle.sil_ast.specs.declared.place.ValueId.{ValueId}
use Rattle.sil_ast.specs.declared.type_name.TypeName.{TypeName}
use Rattle.holder_model_typing.specs.holder_model.ModuleFacts.{facts_of, facts_told}
use Rattle.numbered_form.specs.Numbering.{values_of}
use Rattle.holder_model_typing.specs.ownership_kinds_chains.OwnershipChains.Chains.{operands_at}
use Rattle.holder_model_typing.specs.ownership_kinds_chains.OwnershipChains.Facts.{known_or, origin_at, told_by}
use Rattle.holder_model_typing.specs.ownership_kinds_chains.declared.ownership_chains.facts.Facts.{Facts}
use Rattle.holder_model_typing.specs.ownership_kinds_origins.Facts.{facts_in}
use Rattle.holder_model_typing.specs.ownership_kinds_origins.Origins.{definitions_of}
use Rattle.holder_model_typing.specs.RunTypingLaws.inner.WellTyped.{IsWellTyped}
use Rattle.holder_model_typing.specs.sil_types.Typing.Values.{type_at, value_types}
use Rattle.sil_verifier_accepted.specs.AcceptedModules.Values.{IsBody}
use Rattle.sil_verifier_accepted.specs.AcceptedModules.inner.Checked.{IsVerified}
use Rattle.holder_model_typing.specs.sil_types_declarations.TypeDefinitions.Declarations.{Declarations, declarations_of}
use Rattle.holder_model_typing.specs.sil_types_declarations.declared.type_definitions.kind.Kind.{Kind}

-- the function with this number, which has a body, of a module that was read and accepted
pub record IsAcceptedBody (m : Module) (n : ℕ) (f : Function) : Type 0 where
  pub verified : IsVerified m
  pub body : IsBody m n f

-- the value is one of the function's
abbrev pub IsValue : Function → ValueId → Type 0
IsValue f v = v.0 < length (values_of f.blocks)

-- a value's kind and bases; a number that is no value's is Plain and has no bases
abbrev pub facts_at : Declarations → Function → ValueId → Facts
facts_at d f v = known_or (facts_in d f) v

abbrev pub kind_at : Declarations → Function → ValueId → Kind
kind_at d f v = (facts_at d f v).kind

-- the type of a value, where it has one
abbrev pub type_in : Declarations → Function → ValueId → Option TypeName
type_in d f v = type_at (value_types d f) v.0

-- what its origin tells of a value by the facts of its operands
abbrev pub told_in_function : Declarations → Function → ValueId → Facts
told_in_function d f v =
    told_by (length (definitions_of d f)) v (facts_at d f) (operands_at (definitions_of d f) v) (origin_at (definitions_of d f) v)

-- so it is in each function with a body of each accepted module
abbrev pub InAccepted : (Declarations → Function → Type 0) → Type 0
InAccepted P = (m : Module) (n : ℕ) (f : Function) → IsAcceptedBody m n f → P (declarations_of m) f

-- each value has facts, and just those
abbrev pub AreFactsKnown : Type 0
AreFactsKnown = InAccepted (λ d f. (v : ValueId) → IsValue f v → facts_in d f v ≡ Some (told_in_function d f v))

-- what a run is told of the values of a function are their facts
abbrev pub AreRunFacts : Type 0
AreRunFacts = (m : Module) (g : FuncId) (f : Function) → slice_get m.functions g.0 ≡ Some f
    → facts_told (facts_of m) g ≡ facts_in (declarations_of m) f

-- the rules on types that an accepted module keeps are those that a run relies on
abbrev pub AreWellTyped : Type 0
AreWellTyped = (m : Module) → IsVerified m → IsWellTyped m
