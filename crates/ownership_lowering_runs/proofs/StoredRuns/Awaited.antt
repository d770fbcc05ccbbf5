-- Frames of a run by holders that wait for a callee stand at calls.
use Rattle.std.proofs.Common.{◌≡◌, ℕ, List, [], ◌∷◌, refl, sym, ap, ◌∙◌, subst, Some}
use Rattle.std.specs.Prelude.{slice_get}
use Rattle.std.proofs.lemmas.Option.{same_Some}
use Rattle.sil_ast.specs.declared.function.Function.{Function}
use Rattle.sil_ast.specs.declared.inst.Inst.{Inst}
use Rattle.sil_ast.specs.declared.module.Module.{Module}
use Rattle.sil_ast.specs.declared.place.EdgeId.{EdgeId}
use Rattle.sil_ast.specs.declared.place.FuncId.{FuncId}
use Rattle.sil_ast.specs.declared.place.ObjectId.{ObjectId}
use Rattle.sil_cfg.specs.declared.item.Item.{Item}
use Rattle.sil_cfg.specs.declared.item.Item.TheVariants as item
use Rattle.sil_cfg_items.specs.Parts.{inst_at}
use Rattle.sil_types_declarations.specs.TypeDefinitions.Declarations.{declarations_of}
use Rattle.holder_model_values.specs.RunValues.Memory.{object_at}
use Rattle.sil_verifier_runs.specs.holder_model.Data.{Datum}
use Rattle.sil_verifier_runs.specs.holder_model.Dropping.{field_references}
use Rattle.sil_verifier_runs.specs.holder_model.Effects as effects
use Rattle.sil_verifier_runs.specs.holder_model.Effects.{Change}
use Rattle.sil_verifier_runs.specs.holder_model.Faults.{HolderFault}
use Rattle.sil_verifier_runs.specs.holder_model.Frames.{Frame}
use Rattle.sil_verifier_runs.specs.holder_model.HolderStates.{HolderNext, HolderState}
use Rattle.sil_verifier_runs.specs.holder_model.ModuleFacts.{ModuleFacts, facts_of}
use Rattle.sil_verifier_runs.specs.holder_model.ModuleShapes.{shapes_in, shapes_of}
use Rattle.sil_verifier_runs.specs.holder_model.Standing.{stands_at}
use Rattle.sil_verifier_runs.specs.holder_model.States.{Ends, Goes, Runs, Task, dropping}
use Rattle.sil_verifier_runs.specs.holder_model.Steps as steps
use Rattle.sil_verifier_runs.specs.holder_model_laws.HolderLaws.inner.Steps.Ways.{Acts, DropsOne, Enters, FinishesOne, GoesBehind, Leaves, Performs, Reaches, StepsBy, TakesEdge, left_with, lent_at}
use Rattle.sil_verifier_runs.proofs.holder_model_laws.HolderLaws.Steps.StepsTold.{steps_told}
use Rattle.sil_verifier_runs.proofs.holder_model_laws.HolderLaws.Steps.TaskStacks.{below_another, going_dropping}
use Rattle.ownership_lowering_runs.specs.StoredRuns.inner.Awaited.{AreAwaited, AreAwaitedBelow, AreStepsAwaited, AwaitsCall, BeginAwaited}
use Rattle.ownership_lowering_runs.specs.StoredRuns.inner.Returned.{WaitsAtCall}
use Rattle.ownership_lowering_runs.proofs.StoredRuns.CallsAlone.{calls_alone}

abbrev AwaitedNext : Module → HolderNext → Type 0
AwaitedNext m (Goes s) = AreAwaited m s.tasks
AwaitedNext m (Ends e s) = Unit {0}

module _ (m : Module) (bound : ℕ) where
  abbrev told : ModuleFacts
  told = facts_of m

  dropping_awaited : (os : List ObjectId) (tasks : List (Task Frame)) → AreAwaited m tasks → AreAwaited m (dropping os tasks)
  dropping_awaited os tasks h =
      going_dropping (λ frame rest. Unit {0}) (AwaitsCall m) (λ callee o. Unit {0}) (λ references. Unit {0}) (λ deinits o. Unit {0}) os tasks tt h

  -- nothing is said of a callee
  below_other : (callee other : Frame) (tasks : List (Task Frame)) → AreAwaitedBelow m callee tasks → AreAwaitedBelow m other tasks
  below_other callee other tasks h =
      below_another (λ frame rest. Unit {0}) (AwaitsCall m) (λ callee o. Unit {0}) (λ references. Unit {0}) (λ deinits o. Unit {0}) callee other tasks
      (λ frame rest x. x) (λ o x. x) h

  behind_awaited : (s : HolderState) (rest : List (Task Frame)) (frame : Frame) (f : Function) (i : Item) (c : Change) → AreAwaitedBelow m frame rest
      → (next : HolderNext) → GoesBehind m told bound s rest frame f i c next → AwaitedNext m next
  behind_awaited s rest frame f i c below _ (GoesBehind.goes slots entries is put) =
      let behind : Frame = record frame { trail = i ∷ frame.trail; entries = entries; slots = slots; lent = [] } in
      dropping_awaited c.dropped (Runs behind ∷ rest) (tt, below_other frame behind rest below)
  behind_awaited s rest frame f i c below _ (GoesBehind.wrong_slot x e) = tt
  behind_awaited s rest frame f i c below _ (GoesBehind.wrong_result slots x is put) = tt

  enters_awaited : (s : HolderState) (rest : List (Task Frame)) (g : FuncId) (callee : Function) (args : List Datum) → ((new : Frame) → AreAwaitedBelow m new rest)
      → (next : HolderNext) → Enters m told bound s rest g callee args next → AwaitedNext m next
  enters_awaited s rest g callee args below _ (Enters.enters entries put deep turn) = (tt, below _)
  enters_awaited s rest g callee args below _ (Enters.wrong_argument x put) = tt
  enters_awaited s rest g callee args below _ (Enters.too_deep deep) = tt
  enters_awaited s rest g callee args below _ (Enters.no_turn deep turn) = tt

  reaches_awaited : (s : HolderState) (x : Datum) (callee : Frame) (rest : List (Task Frame)) → AreAwaitedBelow m callee rest
      → (next : HolderNext) → Reaches m told bound s x rest next → AwaitedNext m next
  reaches_awaited s x callee _ below _ (Reaches.ends v is) = tt
  reaches_awaited s x callee _ below next (Reaches.resumes frame rest f n there moves) =
      behind_awaited s rest frame f (item.Inst (stands_at f frame.trail)) _ below.1 next moves
  reaches_awaited s x callee _ below _ (Reaches.finishes deinits o rest) = (below.1, below.2)
  reaches_awaited s x callee _ below _ (Reaches.no_value is) = tt
  reaches_awaited s x callee _ below _ (Reaches.no_function frame rest there) = tt
  reaches_awaited s x callee _ below _ (Reaches.on_drops os rest) = tt

  module _ (s : HolderState) (rest : List (Task Frame)) (frame : Frame) (f : Function) (there : slice_get m.functions frame.function.0 ≡ Some f)
      (below : AreAwaitedBelow m frame rest) where
    takes_awaited : (e : EdgeId) (next : HolderNext) → TakesEdge m told bound s rest frame f e next → AwaitedNext m next
    takes_awaited e next (TakesEdge.takes ops carried n found is turn moves) =
        behind_awaited _ rest (left_with m told bound frame ops) f (item.Edge e) _ (below_other frame (left_with m told bound frame ops) rest below) next moves
    takes_awaited e _ (TakesEdge.no_turn ops carried found is turn) = tt
    takes_awaited e _ (TakesEdge.wrong_operand x found) = tt
    takes_awaited e _ (TakesEdge.not_carried ops found is) = tt

    -- the frame waits at the instruction that called
    module _ (i : Inst) (here : inst_at f (stands_at f frame.trail) ≡ Some i) (xs : List Datum) where
      waits_so : (waiting : Frame) → waiting.function ≡ frame.function → waiting.trail ≡ frame.trail → (g : FuncId) (args : List Datum)
          → steps.effect_in m told bound s frame i xs ≡ effects.Calls g args → (h : Function) → slice_get m.functions waiting.function.0 ≡ Some h → WaitsAtCall h waiting
      waits_so waiting same trail g args is h at =
          let one : f ≡ h = same_Some f h (sym there ∙ ap (λ (k : FuncId). slice_get m.functions k.0) (sym same) ∙ at) in
          subst (λ k. WaitsAtCall k waiting) one (record {
            call = i;
            here = ap (λ t. inst_at f (stands_at f t)) trail ∙ here;
            is = calls_alone (declarations_of m) (shapes_of m) (shapes_in (shapes_of m) frame.function) s.memory i xs g args is;
          })

      performs_awaited : (left : Frame) → left.function ≡ frame.function → left.trail ≡ frame.trail → (e : effects.Effect HolderFault)
          → steps.effect_in m told bound s frame i xs ≡ e → (next : HolderNext)
          → Performs m told bound s rest left f (item.Inst (stands_at f frame.trail)) e next → AwaitedNext m next
      performs_awaited left same trail _ is next (Performs.makes c n moves) =
          behind_awaited s rest left f (item.Inst (stands_at f frame.trail)) c (below_other frame left rest below) next moves
      performs_awaited left same trail _ is next (Performs.calls g args callee n called bodied before entering) =
          let waiting : Frame = record left { lent = lent_at m told bound f (item.Inst (stands_at f frame.trail)) args } in
          enters_awaited _ (Runs waiting ∷ rest) g callee _ (λ new. (waits_so waiting same trail g args is, below_other frame waiting rest below)) next entering
      performs_awaited left same trail _ is next (Performs.calls_out g args callee numbers n called bare counted turn moves) =
          behind_awaited _ rest left f (item.Inst (stands_at f frame.trail)) _ (below_other frame left rest below) next moves
      performs_awaited left same trail _ is _ (Performs.no_turn g args callee numbers called bare counted turn) = tt
      performs_awaited left same trail _ is _ (Performs.traps t) = tt
      performs_awaited left same trail _ is _ (Performs.no_callee g args called) = tt
      performs_awaited left same trail _ is _ (Performs.no_numbers g args callee called bare counted) = tt
      performs_awaited left same trail _ is _ (Performs.wrong_place g args callee called bodied before) = tt
      performs_awaited left same trail _ is _ (Performs.faults x) = tt
      performs_awaited left same trail _ is _ Performs.unfit = tt

    leaves_awaited : (left : Frame) (x : Datum) (next : HolderNext) → Leaves m told bound s rest left f x next → AwaitedNext m next
    leaves_awaited left x next (Leaves.leaves n held slots places reaches) = reaches_awaited s x frame rest below next reaches
    leaves_awaited left x _ (Leaves.holds held) = tt
    leaves_awaited left x _ (Leaves.has_slot slots) = tt
    leaves_awaited left x _ (Leaves.wrong_place places) = tt

    acts_awaited : (next : HolderNext) → Acts m told bound s rest frame f next → AwaitedNext m next
    acts_awaited next (Acts.does i ops n here found performed) =
        performs_awaited i here ops.given (left_with m told bound frame ops) refl refl (steps.effect_in m told bound s frame i ops.given) refl next performed
    acts_awaited next (Acts.branches i n stands one along_edge) = takes_awaited _ next along_edge
    acts_awaited next (Acts.chooses i choose x v k n stands how by worth chosen along_edge) = takes_awaited _ next along_edge
    acts_awaited next (Acts.returns i ops x n stands return found one leaving) = leaves_awaited _ x next leaving
    acts_awaited _ (Acts.unreachable i stands e) = tt
    acts_awaited _ (Acts.wrong_operand i x here found) = tt
    acts_awaited _ (Acts.no_operand i choose stands how none) = tt
    acts_awaited _ (Acts.no_entry i choose stands how by) = tt
    acts_awaited _ (Acts.no_value i choose x stands how by none) = tt
    acts_awaited _ (Acts.no_choice i choose x v stands how by worth none) = tt
    acts_awaited _ (Acts.wrong_returned i x stands return found) = tt
    acts_awaited _ (Acts.not_one_returned i ops stands return found none) = tt
    acts_awaited _ (Acts.no_ending i stands e) = tt
    acts_awaited _ (Acts.no_terminator behind none) = tt

  drops_awaited : (s : HolderState) (o : ObjectId) → AreAwaited m s.tasks → (next : HolderNext) → DropsOne m told bound s o next → AwaitedNext m next
  drops_awaited s o h _ (DropsOne.held_still left is) = h
  drops_awaited s o h _ (DropsOne.not_live none dead) = h
  drops_awaited s o h _ (DropsOne.deinitialises none live turn) = (tt, h)
  drops_awaited s o h _ (DropsOne.no_turn none live turn) = tt

  finishes_awaited : (s : HolderState) (o : ObjectId) → AreAwaited m s.tasks → (next : HolderNext) → FinishesOne m told bound s o next → AwaitedNext m next
  finishes_awaited s o h _ (FinishesOne.finishes none) = dropping_awaited (field_references (object_at s.memory o)) s.tasks h
  finishes_awaited s o h _ (FinishesOne.escapes left is) = tt

  ways_awaited : (s : HolderState) → AreAwaited m s.tasks → (next : HolderNext) → StepsBy m told bound s next → AwaitedNext m next
  ways_awaited s h next (StepsBy.runs frame rest f n is there acts) = let k = subst (AreAwaited m) is h in acts_awaited s rest frame f there k.1 next acts
  ways_awaited s h _ (StepsBy.dropped rest is) = (subst (AreAwaited m) is h).1
  ways_awaited s h next (StepsBy.drops o os rest n is dropping_one) = drops_awaited _ o (tt, (subst (AreAwaited m) is h).1) next dropping_one
  ways_awaited s h next (StepsBy.finishes o rest n is finishing) = finishes_awaited _ o (subst (AreAwaited m) is h).1 next finishing
  ways_awaited s h next (StepsBy.calls_deinit g gs o rest f n is there entering) =
      let k = subst (AreAwaited m) is h in enters_awaited _ _ g f _ (λ new. (tt, tt, k.1)) next entering
  ways_awaited s h _ (StepsBy.no_task is) = tt
  ways_awaited s h _ (StepsBy.no_function frame rest is there) = tt
  ways_awaited s h _ (StepsBy.no_deinit g gs o rest is there) = tt

pub begin_awaited : BeginAwaited
begin_awaited m e f = (tt, tt)

pub steps_awaited : AreStepsAwaited
steps_awaited m bound s next h is = subst (AwaitedNext m) is (ways_awaited m bound s h (steps.step m (facts_of m) bound s) (steps_told m (facts_of m) bound s))
