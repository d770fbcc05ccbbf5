-- The rules, with their numbers, names and groups, and the groups in order.
use Rattle.std.specs.Prelude.{ℕ, List, [], slice_index_or}
use Rattle.sil_rules.specs.declared.group.Group.{Group}
use Rattle.sil_rules.specs.declared.group.Group.TheVariants as group
use Rattle.sil_rules.specs.declared.rule.Rule.{Rule}
use Rattle.sil_rules.specs.declared.rule.Rule.TheVariants as rule
use Rattle.sil_rules.specs.declared.rule.TheConstants.{RULES, NUMBERS, NAMES, GROUPS}

-- the place of a rule in the order, from 0
abbrev pub index_of : Rule → ℕ
index_of rule.UnknownType = 0
index_of rule.InfiniteType = 1
index_of rule.BadMember = 2
index_of rule.WeakOrUnownedOutsideStorage = 3
index_of rule.OperandType = 4
index_of rule.ResultCount = 5
index_of rule.EdgeArguments = 6
index_of rule.Callee = 7
index_of rule.External = 8
index_of rule.Signature = 9
index_of rule.MixedForms = 10
index_of rule.DeinitSignature = 11
index_of rule.SwitchCases = 12
index_of rule.AddressEscapes = 13
index_of rule.EntryHasPredecessor = 14
index_of rule.Qualifier = 15
index_of rule.Undefined = 16
index_of rule.CyclicForwarding = 17
index_of rule.MixedForwarding = 18
index_of rule.KindMismatch = 19
index_of rule.ArgumentKind = 20
index_of rule.UseAfterConsume = 21
index_of rule.DoubleConsume = 22
index_of rule.Leak = 23
index_of rule.Overwritten = 24
index_of rule.UseOutsideScope = 25
index_of rule.EndTwice = 26
index_of rule.ScopeLeft = 27
index_of rule.ConsumedWhileBorrowed = 28
index_of rule.ScopeOverwritten = 29
index_of rule.LoadUninitialised = 30
index_of rule.InitTwice = 31
index_of rule.LeftInitialised = 32
index_of rule.StackOrder = 33
index_of rule.StackLeft = 34
index_of rule.WriteWhileBorrowed = 35
index_of rule.FieldNotBuilt = 36
index_of rule.InoutOverlap = 37
index_of rule.InoutLeftUninitialised = 38
index_of rule.AddressOutsideScope = 39
index_of rule.PartialAccess = 40

-- the rule at a place in the order
abbrev pub rule_at : ℕ → Rule
rule_at n = slice_index_or RULES n rule.UnknownType

-- the number that a refusal prints
abbrev pub number_of : Rule → ℕ
number_of r = slice_index_or NUMBERS (index_of r) 0

-- the name that a refusal prints
abbrev pub name_of : Rule → List ℕ
name_of r = (slice_index_or NAMES (index_of r) (record { now = [] })).now

-- the group with which it is looked for
abbrev pub group_of : Rule → Group
group_of r = slice_index_or GROUPS (index_of r) group.Declarations

-- the place of a group in the order, from 0
abbrev pub group_number : Group → ℕ
group_number group.Declarations = 0
group_number group.Finiteness = 1
group_number group.Typing = 2
group_number group.Deinitialisers = 3
group_number group.Definitions = 4
group_number group.Kinds = 5
group_number group.Lifetimes = 6
group_number group.Scopes = 7
group_number group.Memory = 8
