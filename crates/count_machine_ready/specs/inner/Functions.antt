-- The code of functions by their numbers, where these are reached.
use Rattle.std.specs.Prelude.{◌≡◌, ℕ, List, Bool, true, Some, length, slice_get}
use Rattle.sil_ast.specs.declared.function.Function.{Function}
use Rattle.sil_ast.specs.declared.module.Module.{Module}
use Rattle.count_machine_model.specs.ReadyCode.ReadyModules.{IsReadyFunction}
use Rattle.count_machine_model.specs.declared.ready_code.function.ReadyFunction.{ReadyFunction}
use Rattle.count_machine_layouts.specs.FrameLayouts.inner.Laid.{ByNumber}

module _ (m : Module) (reached : List Bool) where
  -- it is the code of the function with this number, if that one is reached
  abbrev pub IsReadyAt : ℕ → ReadyFunction → Type 0
  IsReadyAt n code = (f : Function) → slice_get reached n ≡ Some true → slice_get m.functions n ≡ Some f → IsReadyFunction m f code

  -- the code of the functions
  abbrev pub AreReady : List ReadyFunction → Type 0
  AreReady = ByNumber IsReadyAt (length m.functions)
