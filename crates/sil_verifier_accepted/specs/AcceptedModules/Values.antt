-- Modules of which no rule on values is broken, and why another is refused.
use Rattle.std.specs.Prelude.{◌≡◌, ℕ, List, ◌++◌, Some, slice_get, ⊤}
use Rattle.sil_ast.specs.declared.function.Function.{Function}
use Rattle.sil_ast.specs.declared.module.Module.{Module}
use Rattle.sil_rules.specs.declared.rule_faults.fault.RuleEnd.{RuleEnd}
use Rattle.sil_rules.specs.declared.rule_faults.fault.RuleEnd.TheVariants as end
use Rattle.sil_rules.specs.declared.rule_faults.fault.RuleFault.{RuleFault}
use Rattle.sil_rules.specs.Order.{IsLeast, subject_key}
use Rattle.sil_rules.specs.Rules.{group_of}
use Rattle.ownership_kinds.specs.sil_types_declarations.TypeDefinitions.Declarations.{Declarations, declarations_of}
use Rattle.sil_cfg.specs.Items.{HasBlocks}
use Rattle.sil_verifier_accepted.specs.AcceptedModules.Shown.{IsShownIn, inner_key, last_key}
use Rattle.sil_verifier_accepted.specs.declared.accepted_modules.refusals.ValueRefusal.{ValueRefusal}
use Rattle.sil_verifier_accepted.specs.declared.accepted_modules.refusals.ValueRefusal.TheVariants as refusal

-- the function with this number, which has a body
pub record IsBody (m : Module) (n : ℕ) (f : Function) : Type 0 where
  pub there : slice_get m.functions n ≡ Some f
  pub body : HasBlocks f

-- a broken rule, and in which function
pub record ModuleShowing : Type 0 where
  pub function : ℕ
  pub showing : RuleFault

-- the rule is broken in a function of the module
pub record IsShown (m : Module) (p : ModuleShowing) : Type 0 where
  pub within : Function
  pub is_body : IsBody m p.function within
  pub shown : IsShownIn (declarations_of m) within p.showing

-- function by function, by group, by value, by rule, and of one of these by the point or by the number of edges
abbrev pub showing_key : ModuleShowing → List ℕ
showing_key p = subject_key p.function p.showing.subject.0 p.showing.rule ++ last_key (group_of p.showing.rule) p.showing

-- no rule on values is broken in any function
abbrev pub AcceptedValues : Module → Type 0
AcceptedValues m = (p : ModuleShowing) → IsShown m p → ⊥

-- the fault is what is shown first in the function
abbrev pub IsFirstIn : Declarations → Function → RuleFault → Type 0
IsFirstIn d f x = IsLeast inner_key (IsShownIn d f) x

abbrev pub IsCleanIn : Declarations → Function → Type 0
IsCleanIn d f = (s : RuleFault) → IsShownIn d f s → ⊥

abbrev pub IsEndIn : Declarations → Function → RuleEnd → Type 0
IsEndIn d f (end.Fault x) = IsFirstIn d f x
IsEndIn d f end.Memory = ⊤

-- what is shown first in the function with this number, unless memory ran out
abbrev pub IsRefusalIn : Declarations → ℕ → Function → ValueRefusal → Type 0
IsRefusalIn d n f (refusal.Rule function fault) = (function.0 ≡ n) × HasBlocks f × IsFirstIn d f fault
IsRefusalIn d n f refusal.Memory = ⊤

-- the fault is what is shown first in the module
abbrev pub IsFirstOf : Module → ℕ → RuleFault → Type 0
IsFirstOf m n x = IsLeast showing_key (IsShown m) (record { function = n; showing = x })

-- the first of what is shown, unless memory ran out
abbrev pub IsValueRefusal : Module → ValueRefusal → Type 0
IsValueRefusal m (refusal.Rule function fault) = IsFirstOf m function.0 fault
IsValueRefusal m refusal.Memory = ⊤
