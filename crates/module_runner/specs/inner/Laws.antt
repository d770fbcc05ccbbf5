-- What holds of the functions with which a run may begin, and of what is lowered and run.
use Rattle.std.specs.Prelude.{◌≡◌, Bool}
use Rattle.numbered_form.specs.Names.{Name}
use Rattle.numbered_form.specs.inner.NumberedForm.{IsNumbered}
use Rattle.sil_ast.specs.declared.function.Function.{Function}
use Rattle.sil_ast.specs.declared.module.Module.{Module}
use Rattle.sil_ast.specs.declared.place.FuncId.{FuncId}
use Rattle.module_runner.specs.Entries.{IsEntry}
use Rattle.module_runner.specs.Optimising.{IsOptimisedIf}

-- two entry functions with one name are the same
abbrev pub HaveOneEntry : Type 0
HaveOneEntry = (m : Module) (name : Name) (e other : FuncId) (f g : Function) → IsNumbered m → IsEntry m name e f → IsEntry m name other g
    → (other ≡ e) × (g ≡ f)

-- one module is lowered and run
abbrev pub IsOne : Type 0
IsOne = (optimises : Bool) (m k other : Module) → IsOptimisedIf optimises m k → IsOptimisedIf optimises m other → k ≡ other
