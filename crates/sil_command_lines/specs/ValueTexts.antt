-- The lines of a broken rule on values.
use Rattle.std.specs.Prelude.{ℕ, List, [], ◌∷◌, ◌++◌, cond, Option, Some, None, slice_get, codes, decimal}
use Rattle.sil_ast.specs.declared.function.Function.{Function}
use Rattle.sil_ast.specs.declared.module.Module.{Module}
use Rattle.sil_ast.specs.declared.place.EdgeId.{EdgeId}
use Rattle.sil_ast.specs.declared.place.ValueId.{ValueId}
use Rattle.sil_cfg.specs.Flow.{edge_to}
use Rattle.sil_cfg.specs.Items.{flow_of}
use Rattle.sil_rules.specs.declared.rule.Rule.{Rule}
use Rattle.sil_rules.specs.declared.rule_faults.fault.RuleFault.{RuleFault}
use Rattle.type_check.specs.Refusals.{function_id}
use Rattle.sil_verifier_accepted.specs.AcceptedModules.Shown.{has_walk}
use Rattle.sil_command_lines.specs.Texts.{line, rule_words, site_words}

-- the rule, the function and the point
abbrev pub first_line : Module → ℕ → RuleFault → List ℕ
first_line m n s = line (rule_words s.rule ++ site_words m (Some (function_id n)) None (Some s.point))

abbrev pub subject_line : ValueId → List ℕ
subject_line v = line (codes "subject %" ++ decimal v.0)

abbrev pub other_lines : Option ValueId → List ℕ
other_lines None = []
other_lines (Some v) = line (codes "other %" ++ decimal v.0)

-- the blocks to which the edges of a walk go
abbrev pub walk_words : Function → List EdgeId → List ℕ
walk_words f [] = []
walk_words f (e ∷ es) = codes " bb" ++ decimal (edge_to (flow_of f) e) ++ walk_words f es

abbrev pub walk_in : Option Function → List EdgeId → List ℕ
walk_in None es = []
walk_in (Some f) es = walk_words f es

-- the blocks that a walk visits, the entry first
abbrev pub walk_line : Option Function → List EdgeId → List ℕ
walk_line f es = line (codes "walk bb0" ++ walk_in f es)

abbrev pub walk_lines : Rule → Option Function → List EdgeId → List ℕ
walk_lines r f es = cond (has_walk r) (walk_line f es) []

-- the value, then another one that takes part, then the walk
abbrev pub shown_lines : ValueId → Option ValueId → Rule → Option Function → List EdgeId → List ℕ
shown_lines v other r f es = subject_line v ++ (other_lines other ++ walk_lines r f es)

-- the rule and the point, and behind it what is shown
abbrev pub value_text : Module → ℕ → RuleFault → List ℕ
value_text m n s = first_line m n s ++ shown_lines s.subject s.other s.rule (slice_get m.functions n) s.walk
