-- Functions of modules in numbered form.
use Rattle.std.specs.Prelude.{Contains}
use Rattle.sil_ast.specs.declared.function.Function.{Function}
use Rattle.sil_ast.specs.declared.module.Module.{Module}
use Rattle.numbered_form.specs.inner.NumberedForm.{IsNumbered}

-- the function is one of a module in numbered form
abbrev pub IsOfNumberedModule : Function → Type 0
IsOfNumberedModule f = (m : Module) × IsNumbered m × Contains m.functions f
