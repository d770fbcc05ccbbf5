-- Laws of definitions and renamings.
use Rattle.std.specs.Prelude.{◌≡◌, length, Contains}
use Rattle.sil_ast.specs.declared.function.Function.{Function}
use Rattle.sil_ast.specs.declared.module.Module.{Module}
use Rattle.numbered_form.specs.inner.NumberedForm.{IsNumbered}
use Rattle.numbered_form.specs.Numbering.{values_of}
use Rattle.ownership_kinds_chains.specs.OwnershipChains.Chains.{IsInRange}
use Rattle.sil_types.specs.sil_types_declarations.TypeDefinitions.Declarations.{Declarations}
use Rattle.ownership_kinds_origins.specs.Origins.{definitions_of}
use Rattle.ownership_kinds_origins.specs.Renamings.{renamings_of}

-- there is one of each for each value
abbrev pub AreOfValues : Type 0
AreOfValues = (d : Declarations) (f : Function) → (length (definitions_of d f) ≡ length (values_of f.blocks))
    × (length (renamings_of f) ≡ length (values_of f.blocks))

-- in a module that was read, what a value is made from or another name of is a value of the function
abbrev pub AreInRange : Type 0
AreInRange = (d : Declarations) (m : Module) (f : Function) → IsNumbered m → Contains m.functions f
    → IsInRange (definitions_of d f) × IsInRange (renamings_of f)
