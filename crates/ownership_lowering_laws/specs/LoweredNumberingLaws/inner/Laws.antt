-- What a lowered module keeps of the module that it was lowered from.
use Rattle.std.specs.Prelude.{◌≡◌}
use Rattle.sil_ast.specs.declared.module.Module.{Module}
use Rattle.ownership_lowering_laws.specs.LoweringLaws.inner.Lowerable.{HasNoRings}
use Rattle.ownership_lowering_model.specs.LoweredModules.{lowered}
use Rattle.numbered_form.specs.Lists.{Each}
use Rattle.numbered_form.specs.inner.NumberedForm.{IsNumbered}
use Rattle.holder_model_typing.specs.holder_model.RunTyping.Runnable.{IsNearlyNumbered, IsNotOwned}
use Rattle.holder_model_typing.specs.sil_types.Typing.Typed.{Typed}
use Rattle.sil_types_declarations.specs.TypeDefinitions.Declarations.{declarations_of}
use Rattle.sil_types_declarations.specs.TypeDefinitions.Rules.{Declared, InLimits}

-- of a typed module in numbered form, in which no value is another name of itself, the lowered module is in numbered form but for the limit
-- on instructions, and no function of it is in ownership form
abbrev pub IsLoweredNumbered : Type 0
IsLoweredNumbered = (m : Module) → IsNumbered m → Typed m → HasNoRings m → IsNearlyNumbered (lowered m) × Each IsNotOwned (lowered m).functions

-- it declares the same
abbrev pub DeclaresTheSame : Type 0
DeclaresTheSame = (m : Module) → declarations_of (lowered m) ≡ declarations_of m

-- its types are declared and within the limits where the module's are
abbrev pub AreTypesKept : Type 0
AreTypesKept = (m : Module) → IsNumbered m → Typed m → HasNoRings m → Declared m → InLimits m → Declared (lowered m) × InLimits (lowered m)
