-- The name of a function of the module, by its place.
use Rattle.std.proofs.Common.{◌≡◌, ℕ, zero, suc, ◌<◌, List, [], ◌∷◌, length, IsTrue, refl, arith}
use Rattle.sil_ast.specs.declared.function.Function.{Function}
use Rattle.sil_ast.specs.declared.place.FuncId.{FuncId}
use Rattle.sil_printer.specs.CanonicalInsts.{function_name}
use Rattle.numbered_form.specs.Lists.{Each}
use Rattle.numbered_form.specs.Names.{IsFunctionSpelled, is_at_name}
use Rattle.sil_printer_laws.proofs.Written.{name_in}

-- `@` and the name
pub record IsNameAt (functions : List Function) (f : FuncId) : Type 0 where
  pub text : function_name functions f ≡ 64 ∷ name_in functions f
  pub spelled : IsTrue (is_at_name (name_in functions f))

name_at : (functions : List Function) (k : ℕ) → k < length functions → Each IsFunctionSpelled functions → IsNameAt functions (record { 0 = k })
name_at [] k inside names = absurd (omega arith)
name_at (f ∷ functions) zero inside names = record { text = refl; spelled = names.0.name }
name_at (f ∷ functions) (suc k) inside names =
    let there = name_at functions k (omega arith) names.1 in
    record { text = there.text; spelled = there.spelled }

pub is_name_at : (functions : List Function) (f : FuncId) → f.0 < length functions → Each IsFunctionSpelled functions → IsNameAt functions f
is_name_at functions f inside names = name_at functions f.0 inside names
