-- Modules of either form of which a run may be asked: declared, within the limits, typed, and in numbered form but for the limit on instructions.
use Rattle.sil_ast.specs.declared.module.Module.{Module}
use Rattle.holder_model.specs.RunTyping.Runnable.{IsNearlyNumbered}
use Rattle.holder_model.specs.sil_types.Typing.Typed.{Typed}
use Rattle.holder_model.specs.sil_types_declarations.TypeDefinitions.Rules.{Declared, InLimits}

pub record IsWellTyped (m : Module) : Type 0 where
  pub numbered : IsNearlyNumbered m
  pub declared : Declared m
  pub limits : InLimits m
  pub typed : Typed m
