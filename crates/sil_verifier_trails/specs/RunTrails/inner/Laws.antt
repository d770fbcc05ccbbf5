-- The laws of run trails.
use Rattle.std.specs.Prelude.{◌≡◌, ◌↔◌, ℕ, List, ◌∷◌, filter_map, flat_map, reverse, true, Some}
use Rattle.numbered_form.specs.Lists.{Each}
use Rattle.sil_ast.specs.declared.function.Function.{Function}
use Rattle.sil_ast.specs.declared.place.EdgeId.{EdgeId}
use Rattle.sil_cfg.specs.Items.{IsItem, flow_of}
use Rattle.sil_cfg.specs.Walk.{IsTrail}
use Rattle.sil_cfg.specs.inner.Splice.{Precedes, Stop, is_at}
use Rattle.sil_cfg.specs.declared.item.Item.{Item}
use Rattle.sil_verifier_values.specs.reach_engine_marks.PathPatterns.Switch.{IsOn}
use Rattle.sil_verifier_values.specs.reach_engine_marks.declared.path_patterns.mark.Mark.{Mark}
use Rattle.sil_verifier_values.specs.holder_model.Standing.{stands_at}
use Rattle.sil_verifier_values.specs.sil_verifier_accepted.TypedGraphLaws.inner.Ready.{IsReadyForGraph}
use Rattle.sil_verifier_trails.specs.RunTrails.inner.RunTrails.{ComesAt, GoesOn, IsEnteredOnce, IsNext, IsRunTrail, IsTurnedTrail, edge_taken}
use Rattle.sil_verifier_trails.specs.RunTrails.inner.Since.{is_none_since}
use Rattle.sil_verifier_trails.specs.RunTrails.inner.Switched.{IsFollowed, IsUnbroken, switched}

abbrev pub AreEnteredOnce : Type 0
AreEnteredOnce = (functions : ℕ) (f : Function) → IsReadyForGraph functions f → IsEnteredOnce f

-- what comes at the point where a trail stands comes next
abbrev pub AreNext : Type 0
AreNext = (f : Function) (t : List Item) (i : Item) → GoesOn t → ComesAt f (stands_at f t) i → IsNext f t i

-- the walk of a trail is of the edges that its items take
abbrev pub AreAlongEdges : Type 0
AreAlongEdges = (f : Function) (w : List EdgeId) (items : List Item) → IsTrail (flow_of f) w items → filter_map edge_taken items ≡ w

-- the trails of frames are trails of their functions
abbrev pub AreTrails : Type 0
AreTrails = (f : Function) → IsEnteredOnce f → (t : List Item) → IsRunTrail f t → IsTurnedTrail f t

-- of items of their functions
abbrev pub AreOfItems : Type 0
AreOfItems = (f : Function) (t : List Item) → IsTurnedTrail f t → Each (IsItem f) t

-- where nothing is shown no mark breaks the switch, on any trail
abbrev pub AreFollowedTurned : Type 0
AreFollowedTurned = (f : Function) (marks : Item → List Mark) → IsUnbroken f marks → (t : List Item) → IsTurnedTrail f t → IsFollowed marks t

-- and so on the trails of frames
abbrev pub AreFollowed : Type 0
AreFollowed = (f : Function) → IsEnteredOnce f → (marks : Item → List Mark) → IsUnbroken f marks → (t : List Item) → IsRunTrail f t → IsFollowed marks t

-- a switch that no mark broke is on where the marks turned it on
abbrev pub AreOnWhereTurned : Type 0
AreOnWhereTurned = (marks : Item → List Mark) (t : List Item) → IsFollowed marks t → IsOn (flat_map marks (reverse t)) ↔ (switched marks t ≡ Some true)

-- where an a precedes each b and a b each c, no a has come since the last b where a c comes next
abbrev pub AreSpliced : Type 0
AreSpliced = (f : Function) (a b c : Stop) → Precedes (flow_of f) a b → Precedes (flow_of f) b c
    → (t : List Item) (i : Item) → IsTurnedTrail f (i ∷ t) → is_at (flow_of f) c i ≡ true → is_none_since (is_at (flow_of f) a) (is_at (flow_of f) b) t ≡ true
