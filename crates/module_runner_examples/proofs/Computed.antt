-- Reports and faults, from what is told of types once.
use Rattle.std.proofs.Common.{◌≡◌, ℕ, List, ◌∷◌, Option, ap, ap₂, ◌∙◌}
use Rattle.std.specs.Prelude.{map, option_map}
use Rattle.std.specs.List.{flat_map}
use Rattle.ownership_kinds_chains.specs.declared.ownership_chains.facts.Facts.{Facts}
use Rattle.sil_ast.specs.declared.module.Module.{Module}
use Rattle.sil_ast.specs.declared.place.FuncId.{FuncId}
use Rattle.sil_types_declarations.specs.TypeDefinitions.Declarations.{declarations_of}
use Rattle.holder_model_values.specs.RunValues.Shapes.{Shape}
use Rattle.holder_model.specs.RunReport.ReportLines.{report}
use Rattle.holder_model.specs.Faults.{HolderFault}
use Rattle.holder_model.specs.ModuleFacts.{ModuleFacts, facts_of, function_facts}
use Rattle.holder_model.specs.ModuleShapes.{ClassShape, ModuleShapes, class_shape, function_shapes, shapes_of}
use Rattle.holder_model.specs.Outcomes.{outcome_with}
use Rattle.ownership_lowering_model.specs.LoweredModules.{lowered, lowered_function}
use Rattle.holder_model.specs.LoweredRun.LowOutcomes.{low_outcome_with, low_outcome_within}
use Rattle.holder_model.specs.declared.lowered_run.low_fault.LowFault.{LowFault}
use Rattle.sil_ast.specs.declared.function.Function.{Function}
use Rattle.module_runner_examples.specs.Parts.{shapes_with, facts_with}
use Rattle.module_runner_examples.specs.inner.Reported.{HasReport, HasFault, ReportsLowered, ReportsWhenLowered, FaultsByHolders, FaultsLowered, ending_in, returned_shape}

pub both : {A : Type 0} {x y : A} {xs ys : List A} → x ≡ y → xs ≡ ys → x ∷ xs ≡ y ∷ ys
both e es = ap₂ (λ x xs. x ∷ xs) e es

pub lowered_with : (m : Module) {fs : List Function} → map (lowered_function (declarations_of m)) m.functions ≡ fs → lowered m ≡ record m { functions = fs }
lowered_with m e = ap (λ fs. record m { functions = fs }) e

pub shapes_told : (m : Module) {cs : List ClassShape} {fs : List (List Shape)} → flat_map (class_shape (declarations_of m)) m.decls ≡ cs
    → map (function_shapes (declarations_of m)) m.functions ≡ fs → shapes_of m ≡ shapes_with cs fs
shapes_told m c f = ap₂ shapes_with c f

pub facts_told : (m : Module) {s : ModuleShapes} {fs : List (List (Option Facts))} → shapes_of m ≡ s
    → map (function_facts (declarations_of m)) m.functions ≡ fs → facts_of m ≡ facts_with s fs
facts_told m s f = ap₂ facts_with s f

-- the reports, of runs that are given what is told

pub of_lowered_text : (m : Module) (e : FuncId) (bound steps : ℕ) (answer : List (List ℕ)) {s : Shape} {told : ModuleShapes} → returned_shape m e ≡ s
    → shapes_of m ≡ told → HasReport m s (low_outcome_with m told e bound steps) answer → ReportsLowered m e bound steps answer
of_lowered_text m e bound steps answer shape told c = ap₂ (λ s told. option_map (report m s) (low_outcome_with m told e bound steps)) shape told ∙ c

pub of_lowered : (m : Module) (e : FuncId) (bound steps : ℕ) (answer : List (List ℕ)) {s : Shape} {low : Module} {told : ModuleShapes} → returned_shape m e ≡ s
    → lowered m ≡ low → shapes_of low ≡ told → HasReport m s (low_outcome_with low told e bound steps) answer
    → ReportsWhenLowered m e bound steps answer
of_lowered m e bound steps answer {s} {low} shape lowers told c =
    ap₂ (λ s l. option_map (report m s) (low_outcome_within l e bound steps)) shape lowers
    ∙ ap (λ told. option_map (report m s) (low_outcome_with low told e bound steps)) told
    ∙ c

-- the faults

pub fault_by_holders : (m : Module) (e : FuncId) (bound steps : ℕ) (fault : HolderFault) {told : ModuleFacts} → facts_of m ≡ told
    → HasFault (outcome_with m told e bound steps) fault → FaultsByHolders m e bound steps fault
fault_by_holders m e bound steps fault told c = ap (λ told. option_map ending_in (outcome_with m told e bound steps)) told ∙ c

pub fault_of_lowered_text : (m : Module) (e : FuncId) (bound steps : ℕ) (fault : LowFault) {told : ModuleShapes} → shapes_of m ≡ told
    → HasFault (low_outcome_with m told e bound steps) fault → FaultsLowered m e bound steps fault
fault_of_lowered_text m e bound steps fault told c = ap (λ told. option_map ending_in (low_outcome_with m told e bound steps)) told ∙ c

pub fault_of_lowered : (m : Module) (e : FuncId) (bound steps : ℕ) (fault : LowFault) {low : Module} {told : ModuleShapes} → lowered m ≡ low → shapes_of low ≡ told
    → HasFault (low_outcome_with low told e bound steps) fault → FaultsLowered (lowered m) e bound steps fault
fault_of_lowered m e bound steps fault {low} lowers told c =
    ap (λ l. option_map ending_in (low_outcome_within l e bound steps)) lowers
    ∙ ap (λ told. option_map ending_in (low_outcome_with low told e bound steps)) told
    ∙ c
