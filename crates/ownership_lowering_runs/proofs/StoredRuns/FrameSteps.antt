-- Steps of a state's first frame at terminators and calls, in both runs: states go along but for counts.
use Rattle.std.proofs.Common.{◌≡◌, ℕ, List, ◌∷◌, sym, ap, ◌∙◌, subst, Some}
use Rattle.std.specs.Prelude.{slice_get}
use Rattle.numbered_form.specs.Lists.{Each}
use Rattle.sil_ast.specs.declared.function.Function.{Function}
use Rattle.sil_ast.specs.declared.module.Module.{Module}
use Rattle.sil_ast.specs.declared.place.FuncId.{FuncId}
use Rattle.sil_types_declarations.specs.TypeDefinitions.Declarations.{declarations_of}
use Rattle.sil_verifier_runs.specs.holder_model.Frames.{Frame}
use Rattle.sil_verifier_runs.specs.holder_model.HolderStates.{HolderNext, HolderState}
use Rattle.sil_verifier_runs.specs.holder_model.ModuleShapes.{shapes_of}
use Rattle.sil_verifier_runs.specs.holder_model.States.{Runs, Task}
use Rattle.sil_verifier_runs.specs.holder_model.LoweredRun.LowStepParts.{LowNext, LowState}
use Rattle.ownership_lowering_laws.specs.ownership_lowering_model.LoweredModules.{lowered, lowered_body}
use Rattle.sil_verifier_runs.specs.holder_model_laws.LoweredSteps.inner.LowWays as ways
use Rattle.sil_verifier_runs.proofs.holder_model_laws.LoweredSteps.LowTaken.{told_taken}
use Rattle.ownership_lowering_runs.specs.StoredRuns.inner.Along.{AreTotalsFor, IsNextAlong}
use Rattle.ownership_lowering_runs.specs.StoredRuns.inner.FrameSteps.{CallsStep, EndsStep, StepsAlong}
use Rattle.ownership_lowering_runs.specs.StoredRuns.inner.Frames.{HasFullParts, IsFrameAt}
use Rattle.ownership_lowering_runs.specs.StoredRuns.inner.Lowering.{LowersSo}
use Rattle.ownership_lowering_runs.specs.StoredRuns.inner.States.{IsStateFor}
use Rattle.ownership_lowering_runs.proofs.StoredRuns.Along.CallsAlong.{are_calls_along}
use Rattle.ownership_lowering_runs.proofs.StoredRuns.Along.EndsAlong.{are_ends_along}
use Rattle.ownership_lowering_runs.proofs.StoredRuns.StayingSteps.{LowTop, function_there, low_top}
use Rattle.std.proofs.lemmas.Option.{same_Some}

module _ (m : Module) (bound : ℕ) (s : HolderState) (l : LowState) (frame : Frame) (rest : List (Task Frame)) (f : Function)
    (related : IsStateFor m s l) (is : s.tasks ≡ Runs frame ∷ rest) (there : slice_get m.functions frame.function.0 ≡ Some f) (lowers : LowersSo m frame.function f) where
  pub top : LowTop m frame rest l
  top = low_top m frame rest s.tasks l related.tasks is

  pub totals : AreTotalsFor s l
  totals = record { events = related.events; turns = related.turns; retains = related.retains; releases = related.releases }

  pub frames : IsFrameAt (declarations_of m) f frame top.low
  frames = subst (λ g. IsFrameAt (declarations_of m) g frame top.low) (same_Some top.of.f f (sym top.of.there ∙ there)) top.of.frames

  pub full : Each (HasFullParts m l.memory) (Runs top.low ∷ top.others)
  full = subst (Each (HasFullParts m l.memory)) top.is_top related.parts

  pub stepped : (next : HolderNext) (low_next : LowNext) → ways.Acts (lowered m) (shapes_of (lowered m)) bound l top.others top.low (lowered_body (declarations_of m) f) low_next
      → IsNextAlong m l.numbers next low_next → StepsAlong m bound l next
  stepped next low_next way along = record {
    low_next = low_next;
    step =
        told_taken (lowered m) (shapes_of (lowered m)) bound l low_next
        (ways.StepsBy.runs top.low top.others (lowered_body (declarations_of m) f) low_next top.is_top
        (ap (λ (g : FuncId). slice_get (lowered m).functions g.0) frames.function ∙ function_there m bound frame.function.0 f there lowers.form) way);
    for = along;
  }

pub ends_step : EndsStep
ends_step m bound s l frame rest f next related is there lowers at_end comes below way none =
    let t = top m bound s l frame rest f related is there lowers in
    let a = are_ends_along m bound s l frame rest f t.low t.others next (totals m bound s l frame rest f related is there lowers) related.memory related.counts.size there lowers
    (frames m bound s l frame rest f related is there lowers) t.rest_for (full m bound s l frame rest f related is there lowers) at_end comes below way none in
    stepped m bound s l frame rest f related is there lowers next a.0 a.1 a.2

pub calls_step : CallsStep
calls_step m bound s l frame rest f i ops next related is there lowers here apply is_item trail found right way none =
    let t = top m bound s l frame rest f related is there lowers in
    let a = are_calls_along m bound s l frame rest f t.low t.others i ops next (totals m bound s l frame rest f related is there lowers) related.memory related.counts.size there lowers
    (frames m bound s l frame rest f related is there lowers) t.rest_for (full m bound s l frame rest f related is there lowers) here apply is_item trail found right way none in
    stepped m bound s l frame rest f related is there lowers next a.0 a.1 a.2
