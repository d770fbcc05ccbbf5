-- Lowering keeps a module typed.
use Rattle.numbered_form.specs.inner.NumberedForm.{IsNumbered}
use Rattle.sil_ast.specs.declared.module.Module.{Module}
use Rattle.holder_model_typing.specs.sil_types.Typing.Typed.{Typed}
use Rattle.ownership_lowering_model.specs.LoweredModules.{lowered}
use Rattle.ownership_lowering_laws.specs.LoweringLaws.inner.Lowerable.{HasNoRings}

-- what lowering makes of a typed module is typed, where no value is another name of itself
abbrev pub LoweredIsTyped : Type 0
LoweredIsTyped = (m : Module) → IsNumbered m → Typed m → HasNoRings m → Typed (lowered m)
