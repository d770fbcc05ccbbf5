-- What is refused before any value is looked at.
use Rattle.std.specs.Prelude.{◌≡◌, ℕ, ⊤, Some, slice_get}
use Rattle.sil_ast.specs.declared.function.Form.TheVariants.{Lowered}
use Rattle.sil_ast.specs.declared.function.Function.{Function}
use Rattle.sil_ast.specs.declared.module.Module.{Module}
use Rattle.sil_rules.specs.Order.{Either, IsLeast}
use Rattle.sil_rules.specs.declared.rule.Rule.TheVariants as rule
use Rattle.type_check.specs.sil_types.Refusals as types
use Rattle.type_check.specs.sil_types.Typing.Typed.{Typed, at_function}
use Rattle.type_check.specs.sil_types.declared.refusal.TypeRefusal.TheVariants as type_refusal
use Rattle.type_check.specs.Refusals.{IsBroken, fault_at, fault_key}
use Rattle.type_check.specs.declared.fault.TypingFault.{TypingFault}
use Rattle.ownership_kinds.specs.sil_types_declarations.TypeDefinitions.Rules.{Declared, InLimits}
use Rattle.sil_verifier_accepted.specs.declared.accepted_modules.refusals.StaticRefusal.{StaticRefusal}
use Rattle.sil_verifier_accepted.specs.declared.accepted_modules.refusals.StaticRefusal.TheVariants as refusal

-- 207 here too: a function has a body and no `[ossa]`
pub data IsLowered (m : Module) : TypingFault → Type 0 where
  lowered : (n : ℕ) (f : Function) → slice_get m.functions n ≡ Some f → f.form ≡ Lowered → IsLowered m (fault_at (at_function n) rule.MixedForms)

-- every function with a body is in ownership form
abbrev pub IsOwned : Module → Type 0
IsOwned m = (f : TypingFault) → IsLowered m f → ⊥

-- the module keeps 101 to 104 and the limits on types
abbrev pub HasDeclaredTypes : Module → Type 0
HasDeclaredTypes m = Declared m × InLimits m

-- it keeps 201 to 212 too, and every function with a body is in ownership form
pub record HasTypes (m : Module) : Type 0 where
  pub declared : HasDeclaredTypes m
  pub typed : Typed m
  pub owned : IsOwned m

-- one of 201 to 212 is broken, or a function has a body and no `[ossa]`
abbrev pub IsWrong : Module → TypingFault → Type 0
IsWrong m = Either (IsBroken m) (IsLowered m)

-- the first that is wrong with the module's items and types, and behind these with its typing; unless memory ran out
abbrev pub IsRefusal : Module → StaticRefusal → Type 0
IsRefusal m (refusal.Item r item) = types.IsRefusal m (type_refusal.Rule r item)
IsRefusal m (refusal.Limit what) = types.IsRefusal m (type_refusal.Limit what)
IsRefusal m (refusal.Typing fault) = HasDeclaredTypes m × IsLeast fault_key (IsWrong m) fault
IsRefusal m refusal.Memory = ⊤
