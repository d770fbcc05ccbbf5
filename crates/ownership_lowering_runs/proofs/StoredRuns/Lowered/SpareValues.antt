-- The spare value under its number, while it waits to be released: all that was under other numbers stays there.
use Rattle.ownership_lowering_runs.specs.StoredRuns.inner.Names.{IsOld}
use Rattle.ownership_lowering_runs.proofs.StoredRuns.Lowered.SparesApart.{defined_there}
use Rattle.ownership_lowering_runs.specs.StoredRuns.inner.Spares.{AreSparesApart}
use Rattle.ownership_lowering_laws.specs.LoweringLaws.inner.Laws.{defined_by}
use Rattle.ownership_lowering_runs.specs.StoredRuns.inner.Frames.{AreValuesFor, AreGivenPartsFull, IsShownAs}
use Rattle.std.proofs.Common.{◌≡◌, ◌<◌, ℕ, ◌+◌, List, refl, sym, ap, ◌∙◌, subst, true, false, Option, Some, set, ◌||◌, eq-eqb}
use Rattle.std.specs.Prelude.{slice_get}
use Rattle.std.specs.List.{list_any}
use Rattle.sil_ast.specs.declared.function.Function.{Function}
use Rattle.sil_ast.specs.declared.inst.Inst.{Inst}
use Rattle.sil_ast.specs.declared.module.Module.{Module}
use Rattle.sil_ast.specs.declared.operands.Operand.{Operand}
use Rattle.sil_ast.specs.declared.place.ValueId.{ValueId}
use Rattle.sil_types_declarations.specs.TypeDefinitions.Declarations.{Declarations, declarations_of}
use Rattle.holder_model_values.specs.RunValues.Memory.{Memory}
use Rattle.holder_model_values.specs.RunValues.Values.{Value}
use Rattle.sil_verifier_runs.specs.holder_model.Data.{Datum, ValueOf}
use Rattle.sil_verifier_runs.specs.holder_model.Frames.{Entry, Frame, Operands}
use Rattle.sil_verifier_runs.specs.holder_model.HolderStates.{HolderState}
use Rattle.sil_verifier_runs.specs.holder_model.Standing.{stands_at}
use Rattle.sil_verifier_runs.specs.holder_model.States.{Task}
use Rattle.sil_verifier_runs.specs.holder_model.LoweredRun.LowFrames as low_frames
use Rattle.sil_verifier_runs.specs.holder_model.LoweredRun.LowStepParts.{LowState}
use Rattle.ownership_lowering_laws.specs.ownership_lowering_model.LoweredBlocks.{value_with}
use Rattle.ownership_lowering_laws.specs.ownership_lowering_model.NewInsts.{load}
use Rattle.numbered_form.specs.Numbering.{is_value}
use Rattle.ownership_lowering_runs.specs.StoredRuns.inner.PlaceRows.{StandsAt}
use Rattle.ownership_lowering_runs.proofs.StoredRuns.RowSteps.{KeepsFull}
use Rattle.ownership_lowering_runs.proofs.StoredRuns.RowsBehind.{begin, lowered_to, made, num}
use Rattle.ownership_lowering_runs.proofs.StoredRuns.StandsThere.{given_parts}
use Rattle.ownership_lowering_runs.proofs.StoredRuns.ValuesFor.{value_set, value_other}
use Rattle.sil_cfg.specs.declared.item.Item.{Item}

module _ (m : Module) (bound : ℕ) (s : HolderState) (l : LowState) (frame : Frame) (rest : List (Task Frame)) (f : Function) (i : Inst) (ops : Operands)
    (x : StandsAt m s l frame rest f i ops) where
  abbrev d : Declarations
  d = declarations_of m

  abbrev number : ValueId → ValueId
  number v = num m bound s l frame rest f i ops x v

  -- the spare value of the instruction
  abbrev pub spare : ValueId
  spare = value_with (lowered_to m bound s l frame rest f i ops x).spare

  -- it is loaded by the first of the lowered instructions
  module _ (spares : AreSparesApart d f) (place : Operand) (is_first : slice_get (made m bound s l frame rest f i ops x) 0 ≡ Some (load place spare)) (z : Value) where
    defined : list_any (is_value spare) (defined_by d f) ≡ true
    defined =
        let at = (lowered_to m bound s l frame rest f i ops x).among 0 (load place spare) is_first in
        defined_there d f (stands_at f frame.trail).block.0 (begin m bound s l frame rest f i ops x + 0) at.0 (load place spare) spare at.1 at.2
        (ap (λ c. c || false) (eq-eqb spare.0 spare.0 refl))

    abbrev pub with_spare : List (Option Datum)
    with_spare = set x.low.values (number spare).0 (Some (ValueOf z))

    pub stays_under : (v : ValueId) → IsOld f v → low_frames.value_at with_spare (number v) ≡ low_frames.value_at x.low.values (number v)
    stays_under v old_v =
        value_other x.low.values (number spare) (number v) (ValueOf z) (spares.apart spare v (lowered_to m bound s l frame rest f i ops x).beyond defined old_v)

    pub spare_under : low_frames.value_at with_spare (number spare) ≡ Some (ValueOf z)
    spare_under =
        value_set x.low.values (number spare) (ValueOf z)
        (subst (λ n. (number spare).0 < n) (sym x.frames.size) (spares.few spare (lowered_to m bound s l frame rest f i ops x).beyond defined))

    pub shown_still : (t : List Item) (entries : List Entry) → AreValuesFor d f t entries x.low.values → AreValuesFor d f t entries with_spare
    shown_still t entries shown v dat is ok = subst (IsShownAs d f v dat) (sym (stays_under v ok.0)) (shown v dat is ok)

    pub parts_still : (memory : Memory) → KeepsFull l.memory memory → AreGivenPartsFull d f with_spare memory
    parts_still memory keeps v p arg at is_part =
        keeps p (given_parts m s l frame rest f i ops x v p arg (sym (stays_under v (x.lowers.given v arg.made).0) ∙ at) is_part)
