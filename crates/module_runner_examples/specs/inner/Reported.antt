-- What a run of an example shows, computed.
use Rattle.std.specs.Prelude.{◌≡◌, ℕ, List, Option, Some, option_map, slice_get, unwrap_or}
use Rattle.std.specs.List.{flat_map}
use Rattle.sil_ast.specs.declared.function.Function.{Function}
use Rattle.sil_ast.specs.declared.module.Module.{Module}
use Rattle.sil_ast.specs.declared.place.FuncId.{FuncId}
use Rattle.sil_printer.specs.Words.{line}
use Rattle.sil_types_declarations.specs.TypeDefinitions.Declarations.{declarations_of}
use Rattle.sil_types_declarations.specs.TypeDefinitions.Mentions.{given_type}
use Rattle.holder_model_values.specs.RunValues.Shapes.{Shape, Unknown, shape_of}
use Rattle.holder_model.specs.Faults.{HolderFault}
use Rattle.holder_model.specs.Outcomes.{Outcome, outcome_within}
use Rattle.holder_model.specs.States.{Ending, Faulted}
use Rattle.ownership_lowering_model.specs.LoweredModules.{lowered}
use Rattle.holder_model.specs.LoweredRun.LowOutcomes.{low_outcome_within}
use Rattle.holder_model.specs.declared.lowered_run.low_fault.LowFault.{LowFault}
use Rattle.holder_model.specs.RunReport.ReportLines.{report}

-- the shape of what the entry function gives
abbrev pub shape_given : Module → Function → Shape
shape_given m f = shape_of (declarations_of m) (given_type f.signature)

abbrev pub returned_shape : Module → FuncId → Shape
returned_shape m e = unwrap_or (option_map (shape_given m) (slice_get m.functions e.0)) Unknown

-- there is an outcome, and its report has these lines
abbrev pub HasReport : {X : Type 0} → Module → Shape → Option (Outcome X) → List (List ℕ) → Type 0
HasReport m s outcome answer = option_map (report m s) outcome ≡ Some (flat_map line answer)

abbrev pub ending_in : {X : Type 0} → Outcome X → Ending X
ending_in outcome = outcome.ending

-- there is an outcome, and it is this fault
abbrev pub HasFault : {X : Type 0} → Option (Outcome X) → X → Type 0
HasFault outcome fault = option_map ending_in outcome ≡ Some (Faulted fault)

-- the run of a module of lowered text ends in as many steps, for this bound on turns, with this report
abbrev pub ReportsLowered : Module → FuncId → ℕ → ℕ → List (List ℕ) → Type 0
ReportsLowered m e bound steps answer = HasReport m (returned_shape m e) (low_outcome_within m e bound steps) answer

-- so does the run of the lowered module by stored numbers
abbrev pub ReportsWhenLowered : Module → FuncId → ℕ → ℕ → List (List ℕ) → Type 0
ReportsWhenLowered m e bound steps answer = HasReport m (returned_shape m e) (low_outcome_within (lowered m) e bound steps) answer

-- the run by holders of a module that isn't accepted ends in this fault
abbrev pub FaultsByHolders : Module → FuncId → ℕ → ℕ → HolderFault → Type 0
FaultsByHolders m e bound steps fault = HasFault (outcome_within m e bound steps) fault

-- the run of lowered code ends in this fault
abbrev pub FaultsLowered : Module → FuncId → ℕ → ℕ → LowFault → Type 0
FaultsLowered l e bound steps fault = HasFault (low_outcome_within l e bound steps) fault
