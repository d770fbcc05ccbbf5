-- The law of memory of moved functions.
use Rattle.std.specs.Prelude.{◌≡◌, ℕ, Some, slice_get}
use Rattle.copy_pairing_model.specs.Copies.{IsCopy}
use Rattle.copy_pairing_model.specs.Optimised.{facts_of}
use Rattle.copy_pairing_model.specs.Removable.{IsMovable}
use Rattle.copy_pairing_model.specs.Rewritten.{moved}
use Rattle.sil_verifier_trails.specs.memory_rules_accesses.Sources.{sources_of}
use Rattle.sil_verifier_trails.specs.memory_rules.Broken.{IsBroken}
use Rattle.copy_pairing_model.specs.ownership_kinds_origins.Facts.{facts_in}
use Rattle.sil_rules.specs.declared.rule_faults.fault.RuleFault.{RuleFault}
use Rattle.sil_ast.specs.declared.function.Function.{Function}
use Rattle.sil_ast.specs.declared.module.Module.{Module}
use Rattle.sil_ast.specs.declared.place.PointId.{PointId}
use Rattle.sil_ast.specs.declared.place.ValueId.{ValueId}
use Rattle.sil_types_declarations.specs.TypeDefinitions.Declarations.{Declarations, declarations_of}
use Rattle.sil_verifier_trails.specs.sil_verifier_accepted.AcceptedModules.inner.Checked.{IsVerified}

-- no rule on memory is broken in the function
abbrev pub IsMemoryClean : Declarations → Function → Type 0
IsMemoryClean d f = (s : RuleFault) → IsBroken (sources_of d f) (facts_in d f) f s → ⊥

-- so it is where a copy of an accepted function becomes a move
abbrev pub MovedMemoryIsClean : Type 0
MovedMemoryIsClean =
    (m : Module) (n : ℕ) (f : Function) (p : PointId) (c v : ValueId) → IsVerified m → slice_get m.functions n ≡ Some f → IsCopy f p c v
    → (h : IsMovable (facts_of m f) f p c v) → IsMemoryClean (declarations_of m) (moved p h.last f)
