-- Both runs begin in states that go along.
use Rattle.std.proofs.Common.{◌≡◌, [], arith, refl, sym, ap, ◌∙◌, true, Some, None}
use Rattle.std.specs.Prelude.{slice_get}
use Rattle.std.proofs.lemmas.List.{length-replicate}
use Rattle.std.proofs.lemmas.Bool.{and_parts}
use Rattle.std.proofs.lemmas.Option.{none-some}
use Rattle.ownership_lowering_laws.proofs.holder_model_typing.RunTypingLaws.ItemFacts.{values_counted}
use Rattle.sil_ast.specs.declared.function.Function.{Function}
use Rattle.sil_ast.specs.declared.module.Module.{Module}
use Rattle.sil_ast.specs.declared.place.FuncId.{FuncId}
use Rattle.sil_ast.specs.declared.place.ObjectId.{ObjectId}
use Rattle.sil_types_declarations.specs.TypeDefinitions.Declarations.{Declarations, declarations_of}
use Rattle.sil_verifier_runs.specs.sil_verifier_accepted.AcceptedModules.inner.Checked.{IsVerified}
use Rattle.sil_verifier_runs.specs.sil_verifier_values.inner.Known.{IsAcceptedBody}
use Rattle.sil_verifier_runs.specs.holder_model.Calling.{value_count}
use Rattle.sil_verifier_runs.specs.holder_model.Frames.{Frame, Gone, datum_in, has_any, no_entries}
use Rattle.sil_verifier_runs.specs.holder_model.HolderStates.{in_entry, strong_holders}
use Rattle.sil_verifier_runs.specs.holder_model.Holders.{one_object}
use Rattle.sil_verifier_runs.specs.holder_model.Outcomes.{begins, may_start}
use Rattle.sil_verifier_runs.specs.holder_model.StepParts as parts
use Rattle.sil_verifier_runs.specs.holder_model.LoweredRun.LowFrames.{LowFrame, no_values}
use Rattle.sil_verifier_runs.specs.holder_model.LoweredRun.LowOutcomes.{low_begins}
use Rattle.sil_verifier_runs.specs.holder_model.LoweredRun.LowStepParts.{new_frame}
use Rattle.ownership_lowering_laws.specs.ownership_lowering_model.LoweredModules.{lowered_body}
use Rattle.sil_verifier_runs.proofs.holder_model_laws.HolderLaws.Counts.Sums.{total_none}
use Rattle.sil_verifier_runs.specs.holder_model_laws.StoredCounts.inner.Numbers.{AreCounts, holders_of}
use Rattle.sil_verifier_runs.proofs.holder_model_laws.StoredCounts.Turns.{same_numbers}
use Rattle.sil_verifier_runs.proofs.sil_verifier_frames.Typed.GoesOn.{accepted_body}
use Rattle.sil_verifier_runs.proofs.sil_verifier_frames.Typed.TypedSteps.{begin_typed}
use Rattle.ownership_lowering_runs.specs.StoredRuns.inner.Frames.{IsFrameFor, IsTaskFor}
use Rattle.ownership_lowering_runs.specs.StoredRuns.inner.Lowering.{LowersSo}
use Rattle.ownership_lowering_runs.specs.StoredRuns.inner.Names.{lowered_number}
use Rattle.ownership_lowering_runs.specs.StoredRuns.inner.States.{IsStateFor}
use Rattle.ownership_lowering_runs.proofs.StoredRuns.Awaited.{begin_awaited}
use Rattle.ownership_lowering_runs.proofs.StoredRuns.Lowered.LoweredCode.{first_lowered}
use Rattle.ownership_lowering_runs.proofs.StoredRuns.Lowered.LoweredSo.{are_lowered_so}
use Rattle.ownership_lowering_runs.proofs.StoredRuns.PutValues.{no_entry, no_value}
use Rattle.ownership_lowering_runs.specs.SameRuns.inner.Laws.{BeginTypedFor}

module _ (m : Module) (e : FuncId) (f : Function) (verified : IsVerified m) (there : slice_get m.functions e.0 ≡ Some f) (may : may_start f ≡ true) where
  abbrev d : Declarations
  d = declarations_of m

  abbrev lf : Function
  lf = lowered_body d f

  pub bodied : has_any f.blocks ≡ true
  bodied = (and_parts (has_any f.blocks) _ may).0

  pub accepted : IsAcceptedBody m e.0 f
  accepted = accepted_body m verified e f there bodied

  pub lowers : LowersSo m e f
  lowers = are_lowered_so m e f accepted

  abbrev frame : Frame
  frame = parts.new_frame e (no_entries (value_count f))

  abbrev low : LowFrame
  low = new_frame e (no_values (value_count lf))

  frame_for : IsFrameFor m frame low
  frame_for = record {
    f = f;
    there = there;
    frames = record {
      function = refl;
      at = first_lowered d f 0;
      slots = refl;
      size = length-replicate (value_count lf) None ∙ values_counted lf;
      values = λ v x is ok. absurd (none-some x (sym (ap datum_in (no_entry (value_count f) v)) ∙ is));
    };
  }

  -- nothing is held
  none_held : (o : ObjectId) → strong_holders (begins e f) o ≡ 0
  none_held o = let none = total_none (in_entry (one_object o)) (value_count f) Gone refl in omega (arith, none)

  counts : AreCounts (begins e f) []
  counts = record {
    size = refl;
    each = λ o. sym (same_numbers (holders_of (begins e f) o) (record { strong = 0; unowned = 0; weak = 0 }) (none_held o) refl refl);
  }

  begun : IsStateFor m (begins e f) (low_begins e lf)
  begun = record {
    tasks = (IsTaskFor.runs frame low frame_for, tt);
    memory = record { stack = tt; objects = tt };
    parts = ((λ g is v p given at part. absurd (none-some _ (sym (no_value (value_count lf) (lowered_number d g v)) ∙ at))), tt);
    counts = counts;
    events = refl;
    turns = refl;
    retains = refl;
    releases = refl;
  }

pub begin_typed_for : BeginTypedFor
begin_typed_for m e f verified there may = record {
  verified = verified;
  related = begun m e f verified there may;
  typed = begin_typed m e f verified there may;
  awaited = begin_awaited m e f;
}
