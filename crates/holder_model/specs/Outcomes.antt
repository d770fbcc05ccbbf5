-- How a run by holders ends.
use Rattle.std.specs.Prelude.{◌≡◌, ℕ, zero, suc, ◌+◌, ◌==◌, List, [], ◌∷◌, Bool, ◌||◌, ◌&&◌, not, cond, length, slice_get}
use Rattle.std.specs.Prelude.{Option, Some, None, option_and_then}
use Rattle.std.specs.List.{filter_map, range_with_len}
use Rattle.sil_ast.specs.declared.function.Function.{Function}
use Rattle.sil_ast.specs.declared.module.Module.{Module}
use Rattle.sil_ast.specs.declared.place.FuncId.{FuncId}
use Rattle.sil_ast.specs.declared.place.ObjectId.{ObjectId}
use Rattle.holder_model_values.specs.RunValues.Memory.{Memory, is_dead, object_at}
use Rattle.holder_model_values.specs.RunValues.Values.{references_of}
use Rattle.holder_model.specs.declared.event.Event.{Event}
use Rattle.holder_model.specs.declared.left_object.LeftObject.{LeftObject}
use Rattle.holder_model.specs.Calling.{value_count}
use Rattle.holder_model.specs.Faults.{HolderFault}
use Rattle.memory_rules_accesses.specs.argument_conventions.Arguments.{arguments_of}
use Rattle.holder_model.specs.Frames.{has_any, no_entries}
use Rattle.holder_model.specs.Holders.{of_references, one_object, unowned_holders, weak_holders}
use Rattle.holder_model.specs.ModuleFacts.{ModuleFacts, facts_of}
use Rattle.holder_model.specs.States.{Ending, Ends, Faulted, Goes, Next, OutOfTurns, Returned, Runs, Trapped, step_on}
use Rattle.holder_model.specs.HolderStates.{HolderNext, HolderState, strong_holders}
use Rattle.holder_model.specs.StepParts.{new_frame}
use Rattle.holder_model.specs.Steps.{step}

-- what a run shows when it has ended. After any ending but a return no objects are told
pub record Outcome (X : Type 0) : Type 0 where
  pub events : List Event
  pub ending : Ending X
  pub left : List LeftObject
  pub retains : ℕ
  pub releases : ℕ

-- the three numbers of an object
pub record Numbers : Type 0 where
  pub strong : ℕ
  pub unowned : ℕ
  pub weak : ℕ

abbrev pub left_object : Memory → ObjectId → Numbers → LeftObject
left_object m o n = record {
  object = o;
  class_name = (object_at m o).class;
  live = not (is_dead m o);
  strong = n.strong;
  unowned = n.unowned;
  weak = n.weak;
}

abbrev pub is_named : Numbers → Bool
is_named n = not (n.unowned == 0) || not (n.weak == 0)

-- an object isn't freed while it isn't dead, or weak or unowned storage names it
abbrev pub unfreed : Memory → ObjectId → Numbers → Option LeftObject
unfreed m o n = cond (not (is_dead m o) || is_named n) (Some (left_object m o n)) None

abbrev pub object_number : ℕ → ObjectId
object_number n = record { 0 = n }

-- the unfreed objects, in the order of their numbers
abbrev pub left_objects : Memory → (ObjectId → Numbers) → List LeftObject
left_objects m numbers = filter_map (λ n. unfreed m (object_number n) (numbers (object_number n))) (range_with_len 0 (length m.objects))

-- after a return the value that was returned holds its references
abbrev pub returned_holders : HolderState → List ObjectId → ObjectId → Numbers
returned_holders s returned o = record {
  strong = strong_holders s o + of_references (one_object o) returned;
  unowned = unowned_holders s.memory o;
  weak = weak_holders s.memory o;
}

abbrev pub left_by : HolderState → Ending HolderFault → List LeftObject
left_by s (Returned x) = left_objects s.memory (returned_holders s (references_of x))
left_by s (Trapped t) = []
left_by s OutOfTurns = []
left_by s (Faulted x) = []

abbrev pub outcome_at : Ending HolderFault → HolderState → Outcome HolderFault
outcome_at e s = record { events = s.events; ending = e; left = left_by s e; retains = s.retains; releases = s.releases }

-- at most so many steps
abbrev pub run : {X S : Type 0} → (S → Next X S) → ℕ → S → Next X S
run step zero s = Goes s
run step (suc k) s = step_on (run step k) (step s)

-- the entry function begins: the first turn is the entry of its first block
abbrev pub begins : FuncId → Function → HolderState
begins e f = record {
  tasks = Runs (new_frame e (no_entries (value_count f))) ∷ [];
  memory = record { stack = []; objects = [] };
  numbers = tt;
  events = [];
  turns = 1;
  retains = 0;
  releases = 0;
}

abbrev pub outcome_after : HolderNext → Option (Outcome HolderFault)
outcome_after (Goes s) = None
outcome_after (Ends e s) = Some (outcome_at e s)

abbrev pub outcome_with : Module → ModuleFacts → FuncId → ℕ → ℕ → Option (Outcome HolderFault)
outcome_with m told e bound steps = option_and_then (λ f. outcome_after (run (step m told bound) steps (begins e f))) (slice_get m.functions e.0)

-- the outcome of the run from the entry function, where so many steps lead to its end
abbrev pub outcome_within : Module → FuncId → ℕ → ℕ → Option (Outcome HolderFault)
outcome_within m e bound steps = outcome_with m (facts_of m) e bound steps

-- a run may start at a function that has a body and no arguments, the places of `@out` results counted
abbrev pub may_start : Function → Bool
may_start f = has_any f.blocks && not (has_any (arguments_of f.signature))

-- the run from the entry function ends so, for this bound on turns, which is at least 1
abbrev pub EndsSo : Module → FuncId → ℕ → Outcome HolderFault → Type 0
EndsSo m e bound outcome = (steps : ℕ) × (outcome_within m e bound steps ≡ Some outcome)
