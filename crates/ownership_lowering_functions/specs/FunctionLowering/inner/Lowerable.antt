-- What lowering asks of functions.
use Rattle.std.specs.Prelude.{List, ⊤}
use Rattle.sil_ast.specs.declared.function.Form.{Form}
use Rattle.sil_ast.specs.declared.function.Form.TheVariants.{Ossa, Lowered, External}
use Rattle.sil_ast.specs.declared.function.Function.{Function}
use Rattle.numbered_form.specs.Lists.{Each}
use Rattle.numbered_form.specs.inner.Limits.{IsFunctionInLimits}
use Rattle.ownership_kinds_chains.specs.OwnershipChains.Chains.{HasNoRing, IsInRange}
use Rattle.ownership_kinds_origins.specs.Renamings.{renamings_of}

-- its names for other values end, and it keeps the limits on reading
pub record IsLowerable (f : Function) : Type 0 where
  pub range : IsInRange (renamings_of f)
  pub ends : HasNoRing (renamings_of f)
  pub limits : IsFunctionInLimits f

abbrev pub IsLowerableByForm : Form → Function → Type 0
IsLowerableByForm Ossa f = IsLowerable f
IsLowerableByForm Lowered f = ⊤
IsLowerableByForm External f = ⊤

-- a function of another form stays
abbrev pub IsLowerableFunction : Function → Type 0
IsLowerableFunction f = IsLowerableByForm f.form f

abbrev pub AreLowerable : List Function → Type 0
AreLowerable fs = Each IsLowerableFunction fs
