-- Laws of the names and numbers of lowered functions.
use Rattle.std.specs.Prelude.{◌≡◌, ◌<◌, ℕ, List, Some, None, length, slice_get}
use Rattle.sil_ast.specs.declared.function.Function.{Function}
use Rattle.sil_ast.specs.declared.module.Module.{Module}
use Rattle.sil_ast.specs.declared.place.ValueId.{ValueId}
use Rattle.ownership_lowering_model.specs.LoweredBlocks.{lowered_blocks, value_with}
use Rattle.ownership_lowering_model.specs.LoweredModules.{lowered_body}
use Rattle.ownership_lowering_model.specs.Names.{renamed_from, stands_for}
use Rattle.ownership_lowering_model.specs.Numbers.{new_number, numbering_of}
use Rattle.numbered_form.specs.Numbering.{AreCountedFrom, values_of}
use Rattle.numbered_form.specs.inner.NumberedForm.{IsNumbered}
use Rattle.ownership_kinds.specs.Statics.{HasKinds}
use Rattle.ownership_kinds.specs.ownership_kinds_origins.Renamings.{renamings_of}
use Rattle.sil_cfg.specs.Items.{HasBlocks}
use Rattle.holder_model_typing.specs.sil_types.Typing.Typed.{Typed}
use Rattle.sil_types_declarations.specs.TypeDefinitions.Declarations.{Declarations, declarations_of}
use Rattle.ownership_lowering_laws.specs.LoweringLaws.inner.Lowerable.{HasNoRings, HaveEnds, IsLowerable}

-- in a module that was read and typed, and in which no value is another name of itself, each function has what lowering asks
abbrev pub AreLowerable : Type 0
AreLowerable = (m : Module) (n : ℕ) (f : Function) → IsNumbered m → Typed m → HasNoRings m → slice_get m.functions n ≡ Some f
    → IsLowerable (length m.functions) (declarations_of m) f

-- no value is another name of itself where no rule on kinds is broken
abbrev pub HaveNoRings : Type 0
HaveNoRings = (m : Module) → IsNumbered m
    → ((n : ℕ) (f : Function) → slice_get m.functions n ≡ Some f → HasBlocks f → HasKinds (declarations_of m) f) → HasNoRings m

-- what a value stands for has a name of its own
abbrev pub NamesEnd : Type 0
NamesEnd = (f : Function) (v : ValueId) → HaveEnds f → v.0 < length (renamings_of f)
    → ((stands_for (renamings_of f) v).0 < length (renamings_of f)) × (renamed_from (renamings_of f) (stands_for (renamings_of f) v) ≡ None)

-- the values that the lowered blocks define, in their old names
abbrev pub defined_by : Declarations → Function → List ValueId
defined_by d f = values_of (lowered_blocks d f)

-- each of these stands for itself, and its new number is its place
abbrev pub AreDefinedPlaced : Type 0
AreDefinedPlaced = (functions : ℕ) (d : Declarations) (f : Function) (k : ℕ) (v : ValueId) → IsLowerable functions d f → slice_get (defined_by d f) k ≡ Some v
    → (stands_for (renamings_of f) v ≡ v) × (new_number (numbering_of d f) v ≡ value_with k)

-- what an old value stands for is one of these, and its place is the new number
abbrev pub AreOldPlaced : Type 0
AreOldPlaced = (functions : ℕ) (d : Declarations) (f : Function) (v : ValueId) → IsLowerable functions d f → v.0 < length (values_of f.blocks)
    → (k : ℕ) × (slice_get (defined_by d f) k ≡ Some (stands_for (renamings_of f) v)) × (new_number (numbering_of d f) v ≡ value_with k)

-- new numbers are in order of definition
abbrev pub AreNewCounted : Type 0
AreNewCounted = (functions : ℕ) (d : Declarations) (f : Function) → IsLowerable functions d f → AreCountedFrom 0 (values_of (lowered_body d f).blocks)
