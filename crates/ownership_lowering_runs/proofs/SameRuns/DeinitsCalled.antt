-- What runs over the deinitialisation of an object is a deinitialiser, in each state of a run by holders.
use Rattle.std.proofs.Common.{◌≡◌, ℕ, List, [], ◌∷◌, refl, sym, ap, ◌∙◌, subst, Some}
use Rattle.std.specs.Prelude.{slice_get}
use Rattle.sil_ast.specs.declared.function.Function.{Function}
use Rattle.sil_ast.specs.declared.inst.Inst.{Inst}
use Rattle.sil_ast.specs.declared.module.Module.{Module}
use Rattle.sil_ast.specs.declared.place.EdgeId.{EdgeId}
use Rattle.sil_ast.specs.declared.place.FuncId.{FuncId}
use Rattle.sil_ast.specs.declared.place.ObjectId.{ObjectId}
use Rattle.sil_cfg.specs.declared.item.Item.{Item}
use Rattle.sil_cfg.specs.declared.item.Item.TheVariants as item
use Rattle.sil_cfg_items.specs.Parts.{inst_at}
use Rattle.sil_types_declarations.specs.TypeDefinitions.Declarations.{declarations_of}
use Rattle.holder_model_values.specs.RunValues.Memory.{object_at}
use Rattle.sil_verifier_runs.specs.holder_model.Data.{Datum}
use Rattle.sil_verifier_runs.specs.holder_model.Dropping.{field_references}
use Rattle.sil_verifier_runs.specs.holder_model.Effects as effects
use Rattle.sil_verifier_runs.specs.holder_model.Effects.{Change}
use Rattle.sil_verifier_runs.specs.holder_model.Faults.{HolderFault}
use Rattle.sil_verifier_runs.specs.holder_model.Frames.{Frame}
use Rattle.sil_verifier_runs.specs.holder_model.HolderStates.{HolderNext, HolderState}
use Rattle.sil_verifier_runs.specs.holder_model.ModuleFacts.{ModuleFacts, facts_of}
use Rattle.sil_verifier_runs.specs.holder_model.Standing.{stands_at}
use Rattle.sil_verifier_runs.specs.holder_model.States.{Ends, Goes, Runs, Task, dropping}
use Rattle.sil_verifier_runs.specs.holder_model.Steps as steps
use Rattle.sil_verifier_runs.specs.holder_model_laws.HolderLaws.inner.Steps.Ways.{Acts, DropsOne, Enters, FinishesOne, GoesBehind, Leaves, Performs, Reaches, StepsBy, TakesEdge, left_with, lent_at}
use Rattle.sil_verifier_runs.proofs.holder_model_laws.HolderLaws.Steps.StepsTold.{steps_told}
use Rattle.sil_verifier_runs.proofs.holder_model_laws.HolderLaws.Steps.TaskStacks.{below_another, going_dropping}
use Rattle.sil_verifier_runs.specs.sil_verifier_frames.inner.Typed.TypedStates.{IsTypedState, TasksAre}
use Rattle.sil_verifier_runs.specs.holder_model_laws.HolderLaws.inner.Steps.Stacks.{Below, Going}
use Rattle.sil_verifier_runs.specs.holder_model.Outcomes.{begins}
use Rattle.sil_verifier_runs.specs.holder_model.StepParts.{new_frame}
use Rattle.numbered_form.specs.Names.{Name}
use Rattle.sil_types_declarations.specs.TypeDefinitions.Lookups.{deinit_of}

-- the frame's function is the deinitialiser of a class
abbrev pub IsDeinitCalled : Module → Frame → ObjectId → Type 0
IsDeinitCalled m callee o = (class : Name) × (deinit_of (declarations_of m) class ≡ Some callee.function)

-- nothing is said of other frames, of drops and of deinitialisations
abbrev pub AreCalled : Module → List (Task Frame) → Type 0
AreCalled m tasks =
    Going (λ frame rest. Unit {0}) (λ callee frame rest. Unit {0}) (IsDeinitCalled m) (λ references. Unit {0}) (λ deinits o. Unit {0}) tasks

abbrev pub AreCalledBelow : Module → Frame → List (Task Frame) → Type 0
AreCalledBelow m callee tasks =
    Below (λ frame rest. Unit {0}) (λ callee frame rest. Unit {0}) (IsDeinitCalled m) (λ references. Unit {0}) (λ deinits o. Unit {0}) callee tasks

abbrev CalledNext : Module → HolderNext → Type 0
CalledNext m (Goes s) = AreCalled m s.tasks
CalledNext m (Ends e s) = Unit {0}

module _ (m : Module) (bound : ℕ) where
  abbrev told : ModuleFacts
  told = facts_of m

  dropping_called : (os : List ObjectId) (tasks : List (Task Frame)) → AreCalled m tasks → AreCalled m (dropping os tasks)
  dropping_called os tasks h =
      going_dropping (λ frame rest. Unit {0}) (λ callee frame rest. Unit {0}) (IsDeinitCalled m) (λ references. Unit {0}) (λ deinits o. Unit {0}) os tasks tt h

  -- of a callee its function is looked at alone
  below_other : (callee other : Frame) → callee.function ≡ other.function → (tasks : List (Task Frame)) → AreCalledBelow m callee tasks → AreCalledBelow m other tasks
  below_other callee other same tasks h =
      below_another (λ frame rest. Unit {0}) (λ callee frame rest. Unit {0}) (IsDeinitCalled m) (λ references. Unit {0}) (λ deinits o. Unit {0}) callee other tasks
      (λ frame rest x. x) (λ o x. (x.0, x.1 ∙ ap (λ (g : FuncId). Some g) same)) h

  behind_called : (s : HolderState) (rest : List (Task Frame)) (frame : Frame) (f : Function) (i : Item) (c : Change) → AreCalledBelow m frame rest
      → (next : HolderNext) → GoesBehind m told bound s rest frame f i c next → CalledNext m next
  behind_called s rest frame f i c below _ (GoesBehind.goes slots entries is put) =
      let behind : Frame = record frame { trail = i ∷ frame.trail; entries = entries; slots = slots; lent = [] } in
      dropping_called c.dropped (Runs behind ∷ rest) (tt, below_other frame behind refl rest below)
  behind_called s rest frame f i c below _ (GoesBehind.wrong_slot x e) = tt
  behind_called s rest frame f i c below _ (GoesBehind.wrong_result slots x is put) = tt

  enters_called : (s : HolderState) (rest : List (Task Frame)) (g : FuncId) (callee : Function) (args : List Datum) → ((new : Frame) → new.function ≡ g → AreCalledBelow m new rest)
      → (next : HolderNext) → Enters m told bound s rest g callee args next → CalledNext m next
  enters_called s rest g callee args below _ (Enters.enters entries put deep turn) = (tt, below (new_frame g entries) refl)
  enters_called s rest g callee args below _ (Enters.wrong_argument x put) = tt
  enters_called s rest g callee args below _ (Enters.too_deep deep) = tt
  enters_called s rest g callee args below _ (Enters.no_turn deep turn) = tt

  reaches_called : (s : HolderState) (x : Datum) (callee : Frame) (rest : List (Task Frame)) → AreCalledBelow m callee rest
      → (next : HolderNext) → Reaches m told bound s x rest next → CalledNext m next
  reaches_called s x callee _ below _ (Reaches.ends v is) = tt
  reaches_called s x callee _ below next (Reaches.resumes frame rest f n there moves) =
      behind_called s rest frame f (item.Inst (stands_at f frame.trail)) _ below.1 next moves
  reaches_called s x callee _ below _ (Reaches.finishes deinits o rest) = (below.1, below.2)
  reaches_called s x callee _ below _ (Reaches.no_value is) = tt
  reaches_called s x callee _ below _ (Reaches.no_function frame rest there) = tt
  reaches_called s x callee _ below _ (Reaches.on_drops os rest) = tt

  module _ (s : HolderState) (rest : List (Task Frame)) (frame : Frame) (f : Function) (there : slice_get m.functions frame.function.0 ≡ Some f)
      (below : AreCalledBelow m frame rest) where
    takes_called : (e : EdgeId) (next : HolderNext) → TakesEdge m told bound s rest frame f e next → CalledNext m next
    takes_called e next (TakesEdge.takes ops carried n found is turn moves) =
        behind_called _ rest (left_with m told bound frame ops) f (item.Edge e) _ (below_other frame (left_with m told bound frame ops) refl rest below) next moves
    takes_called e _ (TakesEdge.no_turn ops carried found is turn) = tt
    takes_called e _ (TakesEdge.wrong_operand x found) = tt
    takes_called e _ (TakesEdge.not_carried ops found is) = tt

    -- the frame waits at the instruction that called
    module _ (i : Inst) (here : inst_at f (stands_at f frame.trail) ≡ Some i) (xs : List Datum) where
      performs_called : (left : Frame) → frame.function ≡ left.function → (e : effects.Effect HolderFault)
          → steps.effect_in m told bound s frame i xs ≡ e → (next : HolderNext)
          → Performs m told bound s rest left f (item.Inst (stands_at f frame.trail)) e next → CalledNext m next
      performs_called left same _ is next (Performs.makes c n moves) =
          behind_called s rest left f (item.Inst (stands_at f frame.trail)) c (below_other frame left same rest below) next moves
      performs_called left same _ is next (Performs.calls g args callee n called bodied before entering) =
          let waiting : Frame = record left { lent = lent_at m told bound f (item.Inst (stands_at f frame.trail)) args } in
          enters_called _ (Runs waiting ∷ rest) g callee _ (λ new called_so. (tt, below_other frame waiting same rest below)) next entering
      performs_called left same _ is next (Performs.calls_out g args callee numbers n called bare counted turn moves) =
          behind_called _ rest left f (item.Inst (stands_at f frame.trail)) _ (below_other frame left same rest below) next moves
      performs_called left same _ is _ (Performs.no_turn g args callee numbers called bare counted turn) = tt
      performs_called left same _ is _ (Performs.traps t) = tt
      performs_called left same _ is _ (Performs.no_callee g args called) = tt
      performs_called left same _ is _ (Performs.no_numbers g args callee called bare counted) = tt
      performs_called left same _ is _ (Performs.wrong_place g args callee called bodied before) = tt
      performs_called left same _ is _ (Performs.faults x) = tt
      performs_called left same _ is _ Performs.unfit = tt

    leaves_called : (left : Frame) (x : Datum) (next : HolderNext) → Leaves m told bound s rest left f x next → CalledNext m next
    leaves_called left x next (Leaves.leaves n held slots places reaches) = reaches_called s x frame rest below next reaches
    leaves_called left x _ (Leaves.holds held) = tt
    leaves_called left x _ (Leaves.has_slot slots) = tt
    leaves_called left x _ (Leaves.wrong_place places) = tt

    acts_called : (next : HolderNext) → Acts m told bound s rest frame f next → CalledNext m next
    acts_called next (Acts.does i ops n here found performed) =
        performs_called i here ops.given (left_with m told bound frame ops) refl (steps.effect_in m told bound s frame i ops.given) refl next performed
    acts_called next (Acts.branches i n stands one along_edge) = takes_called _ next along_edge
    acts_called next (Acts.chooses i choose x v k n stands how by worth chosen along_edge) = takes_called _ next along_edge
    acts_called next (Acts.returns i ops x n stands return found one leaving) = leaves_called _ x next leaving
    acts_called _ (Acts.unreachable i stands e) = tt
    acts_called _ (Acts.wrong_operand i x here found) = tt
    acts_called _ (Acts.no_operand i choose stands how none) = tt
    acts_called _ (Acts.no_entry i choose stands how by) = tt
    acts_called _ (Acts.no_value i choose x stands how by none) = tt
    acts_called _ (Acts.no_choice i choose x v stands how by worth none) = tt
    acts_called _ (Acts.wrong_returned i x stands return found) = tt
    acts_called _ (Acts.not_one_returned i ops stands return found none) = tt
    acts_called _ (Acts.no_ending i stands e) = tt
    acts_called _ (Acts.no_terminator behind none) = tt

  drops_called : (s : HolderState) (o : ObjectId) → AreCalled m s.tasks → (next : HolderNext) → DropsOne m told bound s o next → CalledNext m next
  drops_called s o h _ (DropsOne.held_still left is) = h
  drops_called s o h _ (DropsOne.not_live none dead) = h
  drops_called s o h _ (DropsOne.deinitialises none live turn) = (tt, h)
  drops_called s o h _ (DropsOne.no_turn none live turn) = tt

  finishes_called : (s : HolderState) (o : ObjectId) → AreCalled m s.tasks → (next : HolderNext) → FinishesOne m told bound s o next → CalledNext m next
  finishes_called s o h _ (FinishesOne.finishes none) = dropping_called (field_references (object_at s.memory o)) s.tasks h
  finishes_called s o h _ (FinishesOne.escapes left is) = tt

  ways_called : (s : HolderState) → IsTypedState m s → AreCalled m s.tasks → (next : HolderNext) → StepsBy m told bound s next → CalledNext m next
  ways_called s typed h next (StepsBy.runs frame rest f n is there acts) = let k = subst (AreCalled m) is h in acts_called s rest frame f there k.1 next acts
  ways_called s typed h _ (StepsBy.dropped rest is) = (subst (AreCalled m) is h).1
  ways_called s typed h next (StepsBy.drops o os rest n is dropping_one) = drops_called _ o (tt, (subst (AreCalled m) is h).1) next dropping_one
  ways_called s typed h next (StepsBy.finishes o rest n is finishing) = finishes_called _ o (subst (AreCalled m) is h).1 next finishing
  ways_called s typed h next (StepsBy.calls_deinit g gs o rest f n is there entering) =
      let k = subst (AreCalled m) is h in
      let first = (subst (TasksAre m typed.world) is typed.tasks).0.1.0 in
      enters_called _ _ g f _ (λ new same. ((first.class, first.is ∙ ap (λ (x : FuncId). Some x) (sym same)), tt, k.1)) next entering
  ways_called s typed h _ (StepsBy.no_task is) = tt
  ways_called s typed h _ (StepsBy.no_function frame rest is there) = tt
  ways_called s typed h _ (StepsBy.no_deinit g gs o rest is there) = tt

pub begin_called : (m : Module) (e : FuncId) (f : Function) → AreCalled m (begins e f).tasks
begin_called m e f = (tt, tt)

pub steps_called : (m : Module) (bound : ℕ) (s next : HolderState) → IsTypedState m s → AreCalled m s.tasks → steps.step m (facts_of m) bound s ≡ Goes next → AreCalled m next.tasks
steps_called m bound s next typed h is =
    subst (CalledNext m) is (ways_called m bound s typed h (steps.step m (facts_of m) bound s) (steps_told m (facts_of m) bound s))
