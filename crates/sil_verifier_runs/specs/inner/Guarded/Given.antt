-- What tracked entries and typing give to guards.
use Rattle.std.specs.Prelude.{List}
use Rattle.std.specs.List.{AllZip}
use Rattle.sil_ast.specs.declared.function.Function.{Function}
use Rattle.sil_ast.specs.declared.inst.Inst.{Inst}
use Rattle.sil_ast.specs.declared.module.Module.{Module}
use Rattle.sil_types_declarations.specs.TypeDefinitions.Declarations.{Declarations}
use Rattle.sil_verifier_frames.specs.holder_model.RunTyping.Forms.{Form}
use Rattle.sil_verifier_frames.specs.holder_model_typing.OwnedRunTyping.inner.OwnedRows.{OwnedRowForms}
use Rattle.sil_verifier_frames.specs.holder_model_typing.TypedMemory.inner.Worlds.{DatumIs, World}
use Rattle.sil_verifier_frames.specs.inner.Tracked.TrackedStates.{GoesAlong}
use Rattle.sil_verifier_frames.specs.holder_model.Data.{Datum}
use Rattle.sil_verifier_frames.specs.holder_model.Frames.{Frame}
use Rattle.sil_verifier_runs.specs.inner.Guarded.Following.{GoAlong}
use Rattle.sil_verifier_runs.specs.inner.Guarded.Rows.{HandsValues}

-- in a tracked frame the entries go along with the trail
abbrev pub AreTrackedAlong : Type 0
AreTrackedAlong = (d : Declarations) (f : Function) (frame : Frame) → GoesAlong d f frame → GoAlong d f frame.trail frame.entries

-- where the operands are of the forms of the row, what is handed on or copied as a whole is a value
abbrev pub HandTypedValues : Type 0
HandTypedValues = (m : Module) (w : World) (i : Inst) (ins outs : List Form) (xs : List Datum) → OwnedRowForms m i ins outs → AllZip (DatumIs m w) ins xs
    → HandsValues i xs
