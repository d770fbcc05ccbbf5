-- To which rules the parts belong.
use Rattle.std.specs.Prelude.{◌≡◌, List, Option}
use Rattle.sil_ast.specs.declared.function.Function.{Function}
use Rattle.sil_ast.specs.declared.place.ValueId.{ValueId}
use Rattle.sil_rules.specs.Rules.{group_of}
use Rattle.sil_rules.specs.declared.group.Group.TheVariants as group
use Rattle.sil_rules.specs.declared.rule_faults.fault.RuleFault.{RuleFault}
use Rattle.ownership_kinds_chains.specs.declared.ownership_chains.facts.Facts.{Facts}
use Rattle.memory_rules_accesses.specs.declared.source.Source.{Source}
use Rattle.memory_rules_parts.specs.Shown.{IsShown}
use Rattle.memory_rules_parts.specs.declared.part.Part.{Part}

-- what walks show at a part breaks a rule on memory
abbrev pub AreOnMemory : Type 0
AreOnMemory =
    (sources : List Source) (facts : ValueId → Option Facts) (f : Function) (parts : List Part) (s : RuleFault) → IsShown sources facts f parts s
    → group_of s.rule ≡ group.Memory
