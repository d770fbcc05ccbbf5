-- The functions with which a run may begin.
use Rattle.std.specs.Prelude.{◌≡◌, true, Some, slice_get}
use Rattle.holder_model.specs.Outcomes.{may_start}
use Rattle.numbered_form.specs.Names.{Name}
use Rattle.sil_ast.specs.declared.function.Function.{Function}
use Rattle.sil_ast.specs.declared.module.Module.{Module}
use Rattle.sil_ast.specs.declared.place.FuncId.{FuncId}

-- the function with this number has this name, a body and no arguments
pub record IsEntry (m : Module) (name : Name) (e : FuncId) (f : Function) : Type 0 where
  pub there : slice_get m.functions e.0 ≡ Some f
  pub named : f.name ≡ name
  pub starts : may_start f ≡ true

-- the module has a function with this name, a body and no arguments
abbrev pub HasEntry : Module → Name → Type 0
HasEntry m name = (e : FuncId) × (f : Function) × IsEntry m name e f
