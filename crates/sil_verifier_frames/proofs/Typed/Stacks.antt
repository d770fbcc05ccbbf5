-- Tasks that are typed stay so while the world grows, and while the frame on top changes but its function.
use Rattle.std.proofs.Common.{◌≡◌, ◌∙◌, List, sym, ap}
use Rattle.std.specs.Prelude.{slice_get}
use Rattle.numbered_form.proofs.Lists.{each_weaker}
use Rattle.holder_model_laws.specs.holder_model.RunTyping.Forms.{Form}
use Rattle.holder_model_laws.specs.HolderLaws.inner.Steps.Stacks.{Below}
use Rattle.holder_model_laws.proofs.HolderLaws.Steps.TaskStacks.{below_another, below_over, going_dropping}
use Rattle.numbered_form.specs.Lists.{Each}
use Rattle.holder_model_laws.specs.holder_model.Frames.{Entry, Frame}
use Rattle.holder_model_laws.specs.holder_model.States.{Task, dropping}
use Rattle.sil_ast.specs.declared.function.Function.{Function}
use Rattle.sil_ast.specs.declared.module.Module.{Module}
use Rattle.sil_ast.specs.declared.place.FuncId.{FuncId}
use Rattle.sil_ast.specs.declared.place.ObjectId.{ObjectId}
use Rattle.sil_types_declarations.specs.declared.type_definitions.kind.Kind.{Kind}
use Rattle.sil_verifier_trails.specs.holder_model_typing.TypedMemory.inner.Worlds.{Grows, World}
use Rattle.sil_verifier_trails.proofs.holder_model_typing.TypedMemory.Growth.{class_grows, datum_grows, names_grow}
use Rattle.sil_verifier_frames.specs.inner.Typed.TypedStates.{DeinitsClass, DeinitsTyped, DroppedTyped, EntriesAre, EntryIs, FinishedTyped, FrameIs, GoesTyped, IsMade, TasksAre, WaitsTyped}

-- what waits below a frame that runs
abbrev pub BelowTyped : Module → World → Frame → List (Task Frame) → Type 0
BelowTyped m w callee rest = Below (GoesTyped m w) (WaitsTyped m w) (DeinitsTyped m w) (DroppedTyped m w) (FinishedTyped m w) callee rest

module _ (m : Module) (w v : World) (grows : Grows w v) where
  entry_grows : (k : Kind) (form : Form) (e : Entry) → EntryIs m w k form e → EntryIs m v k form e
  entry_grows k form _ EntryIs.gone = EntryIs.gone
  entry_grows k form _ (EntryIs.made x e made is) = EntryIs.made x e made (datum_grows m w v grows form x is)

  pub entries_grow : (f : Function) (entries : List Entry) → EntriesAre m w f entries → EntriesAre m v f entries
  entries_grow f entries is = record { size = is.size; each = λ u of. entry_grows _ _ _ (is.each u of) }

  pub frame_grows : (f : Function) (frame : Frame) → FrameIs m w f frame → FrameIs m v f frame
  frame_grows f frame is = record { is = is.is; bodied = is.bodied; trail = is.trail; goes = is.goes; entries = entries_grow f frame.entries is.entries }

  pub made_grows : (o : ObjectId) → IsMade m w o → IsMade m v o
  made_grows o made = (made.0, class_grows m w v grows o.0 made.0 made.1)

  deinit_grows : (o : ObjectId) (g : FuncId) → DeinitsClass m w o g → DeinitsClass m v o g
  deinit_grows o g is = record { class = is.class; is = is.is; names = names_grow m w v grows is.class o is.names }

  finished_grows : (deinits : List FuncId) (o : ObjectId) → FinishedTyped m w deinits o → FinishedTyped m v deinits o
  finished_grows deinits o is = (made_grows o is.0, each_weaker (DeinitsClass m w o) (DeinitsClass m v o) (deinit_grows o) deinits is.1)

  waits_grows : (callee frame : Frame) (rest : List (Task Frame)) → WaitsTyped m w callee frame rest → WaitsTyped m v callee frame rest
  waits_grows callee frame rest is = record {
    f = is.f;
    of = frame_grows is.f frame is.of;
    call = is.call;
    stands = is.stands;
    result = is.result;
    results = is.results;
    body = is.body;
    there = is.there;
    form = is.form;
    taken = is.taken;
  }

  pub below_grows : (callee : Frame) (rest : List (Task Frame)) → BelowTyped m w callee rest → BelowTyped m v callee rest
  below_grows callee rest = below_over (GoesTyped m w) (GoesTyped m v) (WaitsTyped m w) (WaitsTyped m v) (DeinitsTyped m w) (DeinitsTyped m v) (DroppedTyped m w) (DroppedTyped m v)
      (FinishedTyped m w) (FinishedTyped m v) (λ frame rest is. (is.0, frame_grows is.0 frame is.1)) waits_grows (λ callee o is. tt)
      (each_weaker (IsMade m w) (IsMade m v) made_grows) finished_grows rest callee

module _ (m : Module) (w : World) where
  -- a frame of the same function
  pub below_same : (callee other : Frame) (rest : List (Task Frame)) → callee.function ≡ other.function → BelowTyped m w callee rest → BelowTyped m w other rest
  below_same callee other rest same = below_another (GoesTyped m w) (WaitsTyped m w) (DeinitsTyped m w) (DroppedTyped m w) (FinishedTyped m w) callee other rest
      (λ frame rest is. record {
        f = is.f;
        of = is.of;
        call = is.call;
        stands = is.stands;
        result = is.result;
        results = is.results;
        body = is.body;
        there = ap (λ (g : FuncId). slice_get m.functions g.0) (sym same) ∙ is.there;
        form = is.form;
        taken = is.taken;
      }) (λ o is. tt)

  -- references wait to be dropped first
  pub dropping_typed : (os : List ObjectId) (tasks : List (Task Frame)) → Each (IsMade m w) os → TasksAre m w tasks → TasksAre m w (dropping os tasks)
  dropping_typed = going_dropping (GoesTyped m w) (WaitsTyped m w) (DeinitsTyped m w) (DroppedTyped m w) (FinishedTyped m w)
