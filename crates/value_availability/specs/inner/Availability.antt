-- Rule 301.
use Rattle.std.specs.Prelude.{◌≡◌, ⊤, Some, None}
use Rattle.sil_ast.specs.declared.function.Function.{Function}
use Rattle.sil_cfg.specs.declared.item.Item.{Item}
use Rattle.sil_rules.specs.declared.rule_faults.fault.RuleFault.{RuleFault}
use Rattle.sil_rules.specs.declared.rule_faults.fault.RuleEnd.{RuleEnd}
use Rattle.sil_rules.specs.declared.rule_faults.fault.RuleEnd.TheVariants.{Fault, Memory}
use Rattle.reach_engine_marks.specs.PathChecks.First.{IsFirst}
use Rattle.reach_engine_marks.specs.PathChecks.inner.Reported.{found_at}
use Rattle.value_availability.specs.Accesses.{accesses_of}

-- no walk shows a value that is an operand before its definition
abbrev pub IsAvailable : Function → Type 0
IsAvailable f = IsFirst f (accesses_of f) None

-- the walk shows such a value at the point, and nothing that is shown comes before it: by value, and then with fewer edges
pub record IsFirstUndefined (f : Function) (fault : RuleFault) : Type 0 where
  pub item : Item
  pub first : IsFirst f (accesses_of f) (Some (found_at fault item))
  pub other : fault.other ≡ None

abbrev pub IsUndefined : Function → RuleEnd → Type 0
IsUndefined f (Fault fault) = IsFirstUndefined f fault
IsUndefined f Memory = ⊤
