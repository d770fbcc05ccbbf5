-- The switch of some marks, followed along a run trail.
use Rattle.std.specs.Prelude.{◌≡◌, List, [], ◌∷◌, Bool, true, false, not, cond, Option, Some, None, option_and_then, unwrap_or}
use Rattle.sil_ast.specs.declared.function.Function.{Function}
use Rattle.sil_ast.specs.declared.place.EdgeId.{EdgeId}
use Rattle.sil_ast.specs.declared.place.PointId.{PointId}
use Rattle.sil_cfg.specs.declared.item.Item.{Item}
use Rattle.sil_rules.specs.declared.rule.Rule.{Rule}
use Rattle.sil_verifier_values.specs.reach_engine_marks.declared.path_patterns.mark.Mark.{Mark}
use Rattle.sil_verifier_values.specs.reach_engine_marks.PathChecks.First.{IsBreakShown}

-- the switch is as the mark needs it
abbrev pub finds : Option Bool → Bool → Bool
finds None on = true
finds (Some true) on = on
finds (Some false) on = not on

-- how a mark leaves the switch; None where it doesn't find what it needs
abbrev pub switched_by : Mark → Bool → Option Bool
switched_by mark on = cond (finds mark.needs on) (Some (unwrap_or mark.turns on)) None

-- how steps leave it, one after another, where none breaks it
abbrev pub after_each : {X : Type 0} → (X → Bool → Option Bool) → List X → Bool → Option Bool
after_each step [] on = Some on
after_each step (x ∷ xs) on = option_and_then (after_each step xs) (step x on)

abbrev pub switched_over : List Mark → Bool → Option Bool
switched_over marks on = after_each switched_by marks on

-- how the marks of a trail's items leave it: it is off at first, and None where a mark broke it
abbrev pub switched : (Item → List Mark) → List Item → Option Bool
switched marks [] = Some false
switched marks (i ∷ t) = option_and_then (switched_over (marks i)) (switched marks t)

-- no mark broke it
abbrev pub IsFollowed : (Item → List Mark) → List Item → Type 0
IsFollowed marks t = (on : Bool) × (switched marks t ≡ Some on)

-- no walk shows that the marks break it
abbrev pub IsUnbroken : Function → (Item → List Mark) → Type 0
IsUnbroken f marks = (rule : Rule) (walk : List EdgeId) (point : PointId) (item : Item) → IsBreakShown f marks rule walk point item → ⊥
