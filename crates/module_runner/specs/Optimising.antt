-- The module that is lowered and run.
use Rattle.std.specs.Prelude.{◌≡◌, Bool, true, false}
use Rattle.copy_pairing_model.specs.Optimised.{IsOptimised}
use Rattle.sil_ast.specs.declared.module.Module.{Module}

-- the second module is the optimised first one where that is asked for, and else the first one itself
abbrev pub IsOptimisedIf : Bool → Module → Module → Type 0
IsOptimisedIf true m k = IsOptimised m k
IsOptimisedIf false m k = k ≡ m
