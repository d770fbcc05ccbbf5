-- What may be wrong with a module, one case for each stage of the checks, and the first of all that is wrong.
use Rattle.std.specs.Prelude.{ℕ, ◌+◌, List, length, ⊤}
use Rattle.sil_ast.specs.declared.module.Module.{Module}
use Rattle.sil_rules.specs.Order.{IsLeast, item_key}
use Rattle.sil_rules.specs.declared.limit_word.LimitWord.{LimitWord}
use Rattle.sil_rules.specs.declared.rule.Rule.{Rule}
use Rattle.sil_rules.specs.declared.rule_faults.fault.RuleFault.{RuleFault}
use Rattle.type_check.specs.sil_types.Refusals as types
use Rattle.type_check.specs.sil_types.declared.refusal.TypeRefusal.TheVariants as type_refusal
use Rattle.type_check.specs.Refusals.{fault_key}
use Rattle.type_check.specs.declared.fault.TypingFault.{TypingFault}
use Rattle.sil_verifier_accepted.specs.AcceptedModules.Refusals.{HasTypes, IsWrong}
use Rattle.sil_verifier_accepted.specs.AcceptedModules.Values.{AcceptedValues, IsShown, showing_key}

-- an item breaks one of 101 to 104; a type exceeds a limit; one of 201 to 212 is broken; or one of 301 to 611, in the function with this number
pub data Finding : Type 0 where
  item : Rule → ℕ → Finding
  limit : LimitWord → Finding
  typing : TypingFault → Finding
  value : ℕ → RuleFault → Finding

-- the number of a vtable among declarations, functions and vtables
abbrev pub vtable_item : Module → ℕ → ℕ
vtable_item m v = length m.decls + (length m.functions + v)

-- it is wrong with the module
abbrev pub IsFound : Module → Finding → Type 0
IsFound m (item r n) = types.ShownIn m (type_refusal.Rule r n)
IsFound m (limit what) = types.ShownIn m (type_refusal.Limit what)
IsFound m (typing fault) = IsWrong m fault
IsFound m (value n s) = IsShown m (record { function = n; showing = s })

abbrev pub finding_key : Finding → List ℕ
finding_key (item r n) = item_key n r
finding_key (limit what) = types.limit_key what
finding_key (typing fault) = fault_key fault
finding_key (value n s) = showing_key (record { function = n; showing = s })

-- the first of all that is wrong with the module
abbrev pub Refusal : Module → Finding → Type 0
Refusal m x = IsLeast finding_key (IsFound m) x

-- it is a limit that is exceeded, and no rule that is broken
abbrev pub IsLimit : Finding → Type 0
IsLimit (item r n) = ⊥
IsLimit (limit what) = ⊤
IsLimit (typing fault) = ⊥
IsLimit (value n s) = ⊥

-- the module keeps every rule and the limits on types
pub record Accepted (m : Module) : Type 0 where
  pub types : HasTypes m
  pub values : AcceptedValues m
