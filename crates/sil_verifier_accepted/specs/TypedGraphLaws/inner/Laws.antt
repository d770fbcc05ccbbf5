-- The law that the functions of a typed module have graphs.
use Rattle.std.specs.Prelude.{◌≡◌, ℕ, Some, length, slice_get}
use Rattle.sil_ast.specs.declared.function.Function.{Function}
use Rattle.sil_ast.specs.declared.module.Module.{Module}
use Rattle.numbered_form.specs.inner.NumberedForm.{IsNumbered}
use Rattle.type_check.specs.sil_types.Typing.Typed.{Typed}
use Rattle.sil_verifier_accepted.specs.TypedGraphLaws.inner.Ready.{IsReadyForGraph}

-- in a typed module in numbered form, each function with a body, told so, is ready for its graph
abbrev pub HaveGraphsWhere : (Function → Type 0) → Type 0
HaveGraphsWhere HasBody = (m : Module) (n : ℕ) (f : Function)
    → IsNumbered m → Typed m → slice_get m.functions n ≡ Some f → HasBody f → IsReadyForGraph (length m.functions) f
