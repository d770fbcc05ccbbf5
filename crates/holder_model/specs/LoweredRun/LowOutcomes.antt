-- How a run of lowered code ends.
use Rattle.std.specs.Prelude.{◌≡◌, ℕ, List, [], ◌∷◌, Option, Some, None, option_and_then, slice_get}
use Rattle.sil_ast.specs.declared.function.Function.{Function}
use Rattle.sil_ast.specs.declared.module.Module.{Module}
use Rattle.sil_ast.specs.declared.place.FuncId.{FuncId}
use Rattle.holder_model.specs.declared.left_object.LeftObject.{LeftObject}
use Rattle.holder_model.specs.Calling.{value_count}
use Rattle.holder_model.specs.ModuleShapes.{ModuleShapes, shapes_of}
use Rattle.holder_model.specs.Outcomes.{Outcome, left_objects, run}
use Rattle.holder_model.specs.States.{Ending, Ends, Faulted, Goes, OutOfTurns, Returned, Runs, Trapped}
use Rattle.holder_model.specs.declared.lowered_run.low_fault.LowFault.{LowFault}
use Rattle.holder_model.specs.LoweredRun.LowFrames.{no_values}
use Rattle.holder_model.specs.LoweredRun.LowStepParts.{LowNext, LowState, new_frame}
use Rattle.holder_model.specs.LoweredRun.LowSteps.{low_step}
use Rattle.holder_model.specs.LoweredRun.Stored.{numbers_of}

abbrev pub low_left_by : LowState → Ending LowFault → List LeftObject
low_left_by s (Returned x) = left_objects s.memory (numbers_of s.numbers)
low_left_by s (Trapped t) = []
low_left_by s OutOfTurns = []
low_left_by s (Faulted x) = []

abbrev pub low_outcome_at : Ending LowFault → LowState → Outcome LowFault
low_outcome_at e s = record { events = s.events; ending = e; left = low_left_by s e; retains = s.retains; releases = s.releases }

abbrev pub low_begins : FuncId → Function → LowState
low_begins e f = record {
  tasks = Runs (new_frame e (no_values (value_count f))) ∷ [];
  memory = record { stack = []; objects = [] };
  numbers = [];
  events = [];
  turns = 1;
  retains = 0;
  releases = 0;
}

abbrev pub low_outcome_after : LowNext → Option (Outcome LowFault)
low_outcome_after (Goes s) = None
low_outcome_after (Ends e s) = Some (low_outcome_at e s)

abbrev pub low_outcome_with : Module → ModuleShapes → FuncId → ℕ → ℕ → Option (Outcome LowFault)
low_outcome_with m told e bound steps =
    option_and_then (λ f. low_outcome_after (run (low_step m told bound) steps (low_begins e f))) (slice_get m.functions e.0)

-- the outcome of the run from the entry function of a lowered module, where so many steps lead to its end
abbrev pub low_outcome_within : Module → FuncId → ℕ → ℕ → Option (Outcome LowFault)
low_outcome_within m e bound steps = low_outcome_with m (shapes_of m) e bound steps

-- the run of the lowered module ends so, for this bound on turns
abbrev pub LowEndsSo : Module → FuncId → ℕ → Outcome LowFault → Type 0
LowEndsSo m e bound outcome = (steps : ℕ) × (low_outcome_within m e bound steps ≡ Some outcome)
