-- What orders faults: the subject, then the rule, then the number of edges.
use Rattle.std.specs.Prelude.{ℕ, List, [], ◌∷◌, length}
use Rattle.sil_ast.specs.declared.place.EdgeId.{EdgeId}
use Rattle.sil_rules.specs.Rules.{number_of}
use Rattle.sil_rules.specs.declared.rule.Rule.{Rule}
use Rattle.sil_rules.specs.declared.rule_faults.fault.RuleFault.{RuleFault}

abbrev pub key : ℕ → Rule → List EdgeId → List ℕ
key subject rule walk = subject ∷ number_of rule ∷ length walk ∷ []

abbrev pub fault_key : RuleFault → List ℕ
fault_key fault = key fault.subject.0 fault.rule fault.walk
