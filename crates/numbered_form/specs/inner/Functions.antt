-- What a function's attributes and its form say.
use Rattle.std.specs.Prelude.{◌≡◌, ◌≢◌, ◌↔◌, ℕ, List, [], codes}
use Rattle.sil_ast.specs.declared.function.Form.TheVariants.{External}
use Rattle.sil_ast.specs.declared.function.Function.{Function}
use Rattle.sil_ast.specs.declared.module.Module.{Module}
use Rattle.numbered_form.specs.Lists.{Each}

-- `ossa` tells a form and is no attribute
abbrev pub IsAttribute : List ℕ → Type 0
IsAttribute word = word ≢ codes "ossa"

pub record IsFormed (f : Function) : Type 0 where
  pub attributes : Each IsAttribute f.attributes
  pub external : (f.form ≡ External) ↔ (f.blocks ≡ [])

abbrev pub AreFunctionsFormed : Module → Type 0
AreFunctionsFormed m = Each IsFormed m.functions
