-- What breaks a rule on memory breaks one of that group.
use Rattle.std.proofs.Common.{◌≡◌, ℕ, List, refl, ap, Option}
use Rattle.sil_ast.specs.declared.function.Function.{Function}
use Rattle.sil_ast.specs.declared.place.ValueId.{ValueId}
use Rattle.sil_rules.specs.declared.rule_faults.fault.RuleFault.{RuleFault}
use Rattle.sil_rules.specs.Rules.{group_of}
use Rattle.sil_rules.specs.declared.group.Group.TheVariants as group
use Rattle.sil_rules.specs.declared.rule.Rule.{Rule}
use Rattle.ownership_kinds_chains.specs.OwnershipChains.Facts.{known_or}
use Rattle.ownership_kinds_chains.specs.declared.ownership_chains.facts.Facts.{Facts}
use Rattle.memory_rules_accesses.specs.declared.source.Source.{Source}
use Rattle.memory_rules_parts.specs.Parts.{parts_of}
use Rattle.memory_rules_parts.proofs.RulesOf.{on_memory as part_on_memory}
use Rattle.memory_rules.specs.Broken.{IsBroken}
use Rattle.memory_rules.specs.Broken.IsBroken.{at_part, crossing, static}
use Rattle.memory_rules.specs.Statics.{IsBrokenAt}
use Rattle.memory_rules.specs.Statics.IsBrokenAt.{overlapping, lacking}

static_on_memory : (sources : List Source) (f : Function) (r : Rule) (v : ValueId) (o : Option ValueId) (n k : ℕ) → IsBrokenAt sources f r v o n k →
    group_of r ≡ group.Memory
static_on_memory sources f _ _ _ _ _ (overlapping n k i a b at e) = refl
static_on_memory sources f _ _ _ _ _ (lacking n k i a at c) = refl

pub on_memory : (sources : List Source) (facts : ValueId → Option Facts) (f : Function) (x : RuleFault) → IsBroken sources facts f x → group_of x.rule ≡ group.Memory
on_memory sources facts f x (at_part shown) = part_on_memory sources facts f (parts_of sources (known_or facts)) x shown
on_memory sources facts f x (crossing later is_order is_other shown) = ap group_of is_order
on_memory sources facts f x (static walk at) = static_on_memory sources f x.rule x.subject x.other x.point.block.0 x.point.index at
