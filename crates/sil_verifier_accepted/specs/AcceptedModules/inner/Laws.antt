-- What the definitions keep.
use Rattle.std.specs.Prelude.{◌≡◌, ◌↔◌, ◌≤◌, ℕ, length, true}
use Rattle.sil_ast.specs.declared.module.Module.{Module}
use Rattle.sil_rules.specs.declared.rule_faults.fault.RuleFault.{RuleFault}
use Rattle.sil_verifier_accepted.specs.AcceptedModules.Findings.{Accepted, Finding, IsFound, Refusal, value}
use Rattle.sil_verifier_accepted.specs.AcceptedModules.Shown.{has_walk}
use Rattle.sil_verifier_accepted.specs.AcceptedModules.Values.{IsShown}

-- a module is accepted just where nothing is wrong with it
abbrev pub AreAcceptedWhereNothingIsFound : Type 0
AreAcceptedWhereNothingIsFound = (m : Module) → Accepted m ↔ ((x : Finding) → IsFound m x → ⊥)

-- the walk that a refusal shows has the fewest edges of all that show its rule of its value
abbrev pub AreWalksShortest : Type 0
AreWalksShortest = (m : Module) (n : ℕ) (s other : RuleFault) → Refusal m (value n s) → has_walk s.rule ≡ true
    → IsShown m (record { function = n; showing = other }) → other.rule ≡ s.rule → other.subject ≡ s.subject → length s.walk ≤ length other.walk
