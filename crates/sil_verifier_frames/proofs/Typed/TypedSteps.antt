-- A run begins in a typed state, each step leads from a typed state to a typed one, and none meets a value of another shape.
use Rattle.std.proofs.Common.{◌≡◌, ◌∙◌, ◌<◌, ℕ, zero, suc, List, [], ◌∷◌, length, map, refl, sym, ap, subst, arith, true, Option, Some, None}
use Rattle.std.specs.Prelude.{Ok, slice_get, not}
use Rattle.std.proofs.lemmas.Bool.{and_parts}
use Rattle.std.proofs.lemmas.Option.{none-some, same_Some}
use Rattle.holder_model_laws.specs.holder_model.RunTyping.CallForms.{IsOf}
use Rattle.holder_model_laws.specs.holder_model.RunTyping.EndForms.{EndForms, value_in}
use Rattle.holder_model_laws.specs.holder_model.RunTyping.Forms.{OfValue}
use Rattle.holder_model_laws.specs.holder_model.LoweredRun.LowStepParts.{values_taken}
use Rattle.sil_verifier_trails.specs.sil_verifier_accepted.AcceptedModules.inner.Checked.{IsVerified}
use Rattle.sil_verifier_trails.proofs.AcceptedFacts.Facts.{accepted_facts}
use Rattle.sil_verifier_trails.proofs.holder_model_typing.RunTypingLaws.BlockFacts.{block_there}
use Rattle.sil_verifier_trails.proofs.holder_model_typing.RunTypingLaws.FunctionFacts.{TypedFunction, typed_function}
use Rattle.argument_conventions.specs.Arguments.{arguments_of}
use Rattle.holder_model_laws.specs.HolderLaws.inner.Steps.Ways.{Acts, Performs, StandsAtEnd, StepsBy, TakesEdge, left_with}
use Rattle.holder_model_laws.proofs.HolderLaws.Steps.StepsTold.{steps_told}
use Rattle.sil_cfg_items.specs.Items.{item_taken}
use Rattle.sil_cfg_items.specs.Parts.{edge_at, edge_in, inst_at, inst_in, terminator_in, terminator_of}
use Rattle.numbered_form.specs.Lists.{Each}
use Rattle.sil_verifier_trails.specs.holder_model_typing.OwnedRunTyping.inner.OwnedEnds.{OwnedEndForms}
use Rattle.sil_verifier_trails.specs.holder_model_typing.OwnedRunTyping.inner.OwnedTyped.{OwnedFunction, OwnedInst}
use Rattle.holder_model_laws.specs.ownership_kinds_chains.declared.ownership_chains.facts.Facts.{Facts}
use Rattle.holder_model_laws.specs.holder_model.Data.{Datum, ValueOf, as_value}
use Rattle.holder_model_laws.specs.holder_model.Edges.{edge_of}
use Rattle.holder_model_laws.specs.holder_model.Faults.{HolderFault, NoEntry, WrongShape}
use Rattle.holder_model_laws.specs.holder_model.Frames.{Frame, Operands, datum_in, entry_at, has_any, operands_of}
use Rattle.holder_model_laws.specs.holder_model.HolderStates.{HolderNext, HolderState}
use Rattle.holder_model_laws.specs.holder_model.ModuleFacts.{facts_of, facts_told}
use Rattle.holder_model_laws.specs.holder_model.ModuleShapes.{shapes_in, shapes_of}
use Rattle.holder_model_laws.specs.holder_model.Standing.{stands_at, target_of}
use Rattle.holder_model_laws.specs.holder_model.States.{Drops, Ends, Faulted, Finishes, Goes, Runs, Task, Trapped}
use Rattle.holder_model_laws.specs.holder_model.Steps.{effect_in, step}
use Rattle.holder_model_laws.specs.holder_model.declared.trap.Trap.TheVariants as trap
use Rattle.sil_verifier_trails.specs.RunTrails.inner.RunTrails.{GoesOn, IsNext, IsRunTrail}
use Rattle.sil_verifier_trails.specs.RunTrails.inner.RunTrails as trails
use Rattle.holder_model_values.specs.RunValues.Values.{Value}
use Rattle.sil_ast.specs.declared.function.Block.{Block}
use Rattle.sil_ast.specs.declared.function.Function.{Function}
use Rattle.sil_ast.specs.declared.inst.Edge.{Edge}
use Rattle.sil_ast.specs.declared.inst.Inst.{Inst}
use Rattle.sil_ast.specs.declared.module.Module.{Module}
use Rattle.sil_ast.specs.declared.operands.Operand.{Operand}
use Rattle.sil_ast.specs.declared.place.BlockId.{BlockId}
use Rattle.sil_ast.specs.declared.place.EdgeId.{EdgeId}
use Rattle.sil_ast.specs.declared.place.PointId.{PointId}
use Rattle.sil_ast.specs.declared.place.ValueId.{ValueId}
use Rattle.sil_cfg.specs.declared.item.Item.{Item}
use Rattle.sil_cfg.specs.declared.item.Item.TheVariants as item
use Rattle.sil_types_declarations.specs.TypeDefinitions.Declarations.{Declarations, declarations_of}
use Rattle.sil_verifier_frames.specs.inner.Typed.Laws.{AreShapesRight, AreStepsTyped, BeginTyped}
use Rattle.sil_verifier_frames.specs.inner.Typed.TypedStates.{EntriesAre, FrameIs, IsTypedState, TasksAre}
use Rattle.sil_verifier_frames.proofs.Typed.Data.{read_value}
use Rattle.sil_verifier_frames.proofs.Typed.Drops.{calls_deinit, drops_one, finishes_one}
use Rattle.sil_verifier_frames.proofs.Typed.Edges.{ChoosesTyped, chooses_typed, end_forms, jumps, left_is, one_operand, operands_are_of}
use Rattle.sil_verifier_frames.proofs.Typed.Entries.{FitEach, entry_fits, fit_data, no_entries_typed, operands_fit}
use Rattle.sil_verifier_frames.proofs.Typed.GoesOn.{NextTyped, Running, goes, has_blocks, other_fault, typed_module}
use Rattle.sil_verifier_frames.proofs.Typed.GoesOn as go
use Rattle.sil_verifier_frames.proofs.Typed.Operands.{operands_other}
use Rattle.sil_verifier_frames.proofs.Typed.Performs.{performs}
use Rattle.sil_verifier_frames.proofs.Typed.Returns.{one_returned, return_typed}
use Rattle.sil_verifier_frames.proofs.Typed.RowForms.{row_fits}
use Rattle.sil_verifier_frames.proofs.Typed.ShapesTold.{result_told}
use Rattle.sil_verifier_frames.proofs.Typed.Stacks.{below_same}

-- ---- a frame stands in a block

inst_block : (o : Option Block) (k : ℕ) (i : Inst) → inst_in o k ≡ Some i → (j : Inst) × (terminator_in o ≡ Some j)
inst_block None k i e = absurd (none-some i e)
inst_block (Some b) k i e = (b.terminator, refl)

block_below : (bs : List Block) (k : ℕ) → k < length bs → (i : Inst) × (terminator_in (slice_get bs k) ≡ Some i)
block_below [] k lt = absurd (omega arith)
block_below (b ∷ bs) zero lt = (b.terminator, refl)
block_below (b ∷ bs) (suc k) lt = block_below bs k (omega arith)

some_edge : (es : List Edge) (k : ℕ) → k < length es → (e : Edge) × (slice_get es k ≡ Some e)
some_edge [] k lt = absurd (omega arith)
some_edge (e ∷ es) zero lt = (e, refl)
some_edge (e ∷ es) (suc k) lt = some_edge es k (omega arith)

module _ (m : Module) (f : Function) (typed : TypedFunction m f) where
  inst_next : (t : List Item) (p : PointId) → IsNext f t (item.Inst p) → (i : Inst) × (inst_at f p ≡ Some i)
  inst_next [] p h = absurd h
  inst_next (item.Entry ∷ t) p h = (h.1, ap (inst_at f) h.0 ∙ h.2)
  inst_next (item.Inst q ∷ t) p h = (h.1, ap (inst_at f) h.0 ∙ h.2)
  inst_next (item.Edge e ∷ t) p h = (h.1, ap (inst_at f) h.0 ∙ h.2)
  inst_next (item.Exit q ∷ t) p h = absurd h

  -- the edge is one of its block, and leads to a block
  edge_block : (p : PointId) (e : EdgeId) → e.block ≡ p.block → trails.TakesEdge f p e.index → (x : Edge) × (edge_at f e ≡ Some x) × (x.block.0 < length f.blocks)
  edge_block p e same takes =
      let i = takes.at_end.terminator in
      let x = some_edge i.edges e.index takes.has_edge in
      let there : terminator_of f e.block.0 ≡ Some i = ap (λ (b : BlockId). terminator_of f b.0) same ∙ takes.at_end.there in
      let end = typed.ends e.block.0 i there in
      (x.0, ap (λ t. edge_in t e.index) there ∙ x.1, block_there m f typed i (typed.insts e.block.0 end.0 i end.2) e.index x.0 x.1)

  edge_next : (t : List Item) (e : EdgeId) → IsNext f t (item.Edge e) → (x : Edge) × (edge_at f e ≡ Some x) × (x.block.0 < length f.blocks)
  edge_next [] e h = absurd h
  edge_next (item.Entry ∷ t) e h = edge_block _ e h.0 h.1
  edge_next (item.Inst q ∷ t) e h = edge_block _ e h.0 h.1
  edge_next (item.Edge q ∷ t) e h = edge_block _ e h.0 h.1
  edge_next (item.Exit q ∷ t) e h = absurd h

  stands_in_block : 0 < length f.blocks → (t : List Item) → IsRunTrail f t → GoesOn t → (i : Inst) × (terminator_of f (stands_at f t).block.0 ≡ Some i)
  stands_in_block some [] trail on = absurd on
  stands_in_block some (item.Entry ∷ t) trail on = block_below f.blocks 0 some
  stands_in_block some (item.Inst p ∷ t) trail on = let i = inst_next t p trail.0 in inst_block (slice_get f.blocks p.block.0) p.index i.0 i.1
  stands_in_block some (item.Edge e ∷ t) trail on =
      let x = edge_next t e trail.0 in
      let block = block_below f.blocks x.0.block.0 x.2 in
      (block.0, ap (λ o. terminator_of f (target_of o)) x.1 ∙ block.1)
  stands_in_block some (item.Exit p ∷ t) trail on = absurd on

module _ (m : Module) (v : IsVerified m) (bound : ℕ) (s : HolderState) (rest : List (Task Frame)) (frame : Frame) (f : Function) (r : Running m s rest frame f) where
  abbrev p : PointId
  p = stands_at f frame.trail

  abbrev facts : ValueId → Option Facts
  facts = facts_told (facts_of m) frame.function

  typed : OwnedFunction m f
  typed = (typed_module m v).functions frame.function.0 f r.typed.is

  -- an instruction
  instruction : (i : Inst) → inst_at f p ≡ Some i → (ops : Operands) → operands_of facts s.memory frame.entries (item_taken f (item.Inst p)) ≡ Ok ops → (n : HolderNext)
      → Performs m (facts_of m) bound s rest (left_with m (facts_of m) bound frame ops) f (item.Inst p) (effect_in m (facts_of m) bound s frame i ops.given) n → NextTyped m n
  instruction i there ops ok n way =
      performs m v bound s rest (left_with m (facts_of m) bound frame ops) f (record {
        w = r.w;
        of = r.of;
        memory = r.memory;
        typed = left_is m v bound s rest frame f r ops.left read.1;
        below = below_same m r.w frame (left_with m (facts_of m) bound frame ops) rest refl r.below;
      }) i there ops.given taken (effect_in m (facts_of m) bound s frame i ops.given)
      (row_fits (record { w = r.w; of = r.of; memory = s.memory; typed = r.memory; values = shapes_in (shapes_of m) frame.function; i = i }) (typed_module m v).classes inst.row
      (fit_data m r.w f taken) (result_told m frame.function f r.typed.is s.memory i)) n way
    where
      inst : OwnedInst m f p i
      inst = typed.insts p i there

      read : FitEach m r.w f (values_taken f (item.Inst p)) ops.given × EntriesAre m r.w f ops.left
      read = operands_fit m r.w f facts s.memory (item_taken f (item.Inst p)) frame.entries ops r.typed.entries (typed.items (item.Inst p)).taken ok

      taken : FitEach m r.w f (map value_in i.operands) ops.given
      taken = subst (λ vs. FitEach m r.w f vs ops.given) inst.takes read.0

  -- the operand by which a terminator chooses
  module _ (i : Inst) (choose : Value → Option ℕ) (stands : StandsAtEnd m (facts_of m) bound frame f i) (c : ChoosesTyped m v bound s rest frame f r i stands choose) where
    abbrev d : Declarations
    d = declarations_of m

    first_is : (o : Operand) (os : List Operand) → i.operands ≡ o ∷ os → (q : Operand) → slice_get i.operands 0 ≡ Some q → o ≡ q
    first_is o os is q e = same_Some o q (sym (ap (λ qs. slice_get qs 0) is) ∙ e)

    there_is : (o : Operand) → slice_get i.operands 0 ≡ Some o → (x : Datum) → datum_in (entry_at frame.entries o.value) ≡ Some x
        → (y : Value) × (x ≡ ValueOf y) × ((k : ℕ) × (choose y ≡ Some k) × ((n : HolderNext) → TakesEdge m (facts_of m) bound s rest frame f (edge_of p k) n → NextTyped m n))
    there_is o first x there =
        let one = one_operand d f i (OfValue c.shape) c.operand in
        let same : one.0 ≡ o = first_is one.0 [] one.1 o first in
        let of : IsOf f one.0.value = (subst (Each (IsOf f)) (ap (map value_in) one.1) (operands_are_of m v bound s rest frame f r i stands)).0 in
        let at : datum_in (entry_at frame.entries one.0.value) ≡ Some x = ap (λ (q : Operand). datum_in (entry_at frame.entries q.value)) same ∙ there in
        let fit = entry_fits m r.w f one.0.value (r.typed.entries.each one.0.value of) x at in
        let y = read_value m r.w fit.is c.shape one.2 in
        (y.0, y.1, c.leads one.0 one.1 x at y.0 y.1 y.2)

  -- what a frame does
  pub acts : (n : HolderNext) → Acts m (facts_of m) bound s rest frame f n → NextTyped m n
  acts _ (Acts.does i ops n there ok way) = instruction i there ops ok n way
  acts _ (Acts.branches i n stands is way) = jumps m v bound s rest frame f r i stands is n way
  acts _ (Acts.chooses i choose x y k n stands chooses chosen value is way) =
      let at = there_is i choose stands (chooses_typed m v bound s rest frame f r i stands choose chooses) chosen.operand chosen.first x chosen.is in
      let same : at.0 ≡ y = same_Some at.0 y (sym (ap as_value at.1) ∙ value) in
      let index : at.2.0 ≡ k = same_Some at.2.0 k (sym at.2.1 ∙ ap choose same ∙ is) in
      at.2.2 n (subst (λ j. TakesEdge m (facts_of m) bound s rest frame f (edge_of p j) n) (sym index) way)
  acts _ (Acts.returns i ops x n stands is ok alone way) =
      return_typed m v bound s rest frame f r i stands is ops ok x alone (left_with m (facts_of m) bound frame ops) refl n way
  acts _ (Acts.unreachable i stands is) = go.ends (Trapped trap.Unreachable) s (λ e. cc)
  acts _ (Acts.wrong_operand i x there is) = other_fault m s x (operands_other facts s.memory (item_taken f (item.Inst p)) frame.entries x is)
  acts _ (Acts.no_operand i choose stands chooses none) =
      let c = chooses_typed m v bound s rest frame f r i stands choose chooses in
      let one = one_operand (declarations_of m) f i (OfValue c.shape) c.operand in
      absurd (none-some one.0 (sym none ∙ ap (λ os. slice_get os 0) one.1))
  acts _ (Acts.no_entry i choose stands chooses none) = other_fault m s NoEntry (λ e. cc)
  acts _ (Acts.no_value i choose x stands chooses chosen none) =
      let at = there_is i choose stands (chooses_typed m v bound s rest frame f r i stands choose chooses) chosen.operand chosen.first x chosen.is in
      absurd (none-some at.0 (sym none ∙ ap as_value at.1))
  acts _ (Acts.no_choice i choose x y stands chooses chosen value none) =
      let at = there_is i choose stands (chooses_typed m v bound s rest frame f r i stands choose chooses) chosen.operand chosen.first x chosen.is in
      let same : at.0 ≡ y = same_Some at.0 y (sym (ap as_value at.1) ∙ value) in
      absurd (none-some at.2.0 (sym none ∙ ap choose (sym same) ∙ at.2.1))
  acts _ (Acts.wrong_returned i x stands is wrong) = other_fault m s x (operands_other facts s.memory (item_taken f (item.Exit p)) frame.entries x wrong)
  acts _ (Acts.not_one_returned i ops stands is ok none) = absurd (one_returned m v bound s rest frame f r i stands is ops ok none)
  acts _ (Acts.no_ending i stands is) = absurd (not_inside (end_forms m v bound s rest frame f r i stands))
    where
      not_inside : OwnedEndForms (declarations_of m) f i → ⊥
      not_inside (OwnedEndForms.also_lowered other (EndForms.branch e is' bare at forms)) = cc
      not_inside (OwnedEndForms.also_lowered other (EndForms.branches set clear is' operands set_is clear_is set_forms clear_forms)) = cc
      not_inside (OwnedEndForms.also_lowered other (EndForms.cases shape is' operands is_enum all)) = cc
      not_inside (OwnedEndForms.also_lowered other (EndForms.returns is' operands)) = cc
      not_inside (OwnedEndForms.also_lowered other (EndForms.unreachable is')) = cc
      not_inside (OwnedEndForms.cases shape is' operands is_enum all) = cc
  acts _ (Acts.no_terminator behind none) =
      let function = typed_function m (accepted_facts.modules_are_well_typed m v) frame.function.0 f r.typed.is in
      let block = stands_in_block m f function (has_blocks f.blocks r.typed.bodied) frame.trail r.typed.trail r.typed.goes in
      absurd (none-some block.0 (sym none ∙ block.1))

-- ---- a step

module _ (m : Module) (v : IsVerified m) (bound : ℕ) (s : HolderState) (is : IsTypedState m s) where
  tasks_are : (tasks : List (Task Frame)) → s.tasks ≡ tasks → TasksAre m is.world tasks
  tasks_are tasks e = subst (TasksAre m is.world) e is.tasks

  steps_by : (n : HolderNext) → StepsBy m (facts_of m) bound s n → NextTyped m n
  steps_by _ (StepsBy.runs frame rest f n e there way) =
      let tasks = tasks_are (Runs frame ∷ rest) e in
      let same : tasks.0.0 ≡ f = same_Some tasks.0.0 f (sym tasks.0.1.is ∙ there) in
      acts m v bound s rest frame f (record { w = is.world; of = is.of; memory = is.memory; typed = subst (λ g. FrameIs m is.world g frame) same tasks.0.1; below = tasks.1 }) n way
  steps_by _ (StepsBy.dropped rest e) = goes _ (record { world = is.world; of = is.of; memory = is.memory; tasks = (tasks_are (Drops [] ∷ rest) e).1 })
  steps_by _ (StepsBy.drops o os rest n e way) =
      let tasks = tasks_are (Drops (o ∷ os) ∷ rest) e in
      drops_one m v bound is.world is.of _ is.memory (tasks.0.1, tasks.1) o tasks.0.0 n way
  steps_by _ (StepsBy.finishes o rest n e way) =
      let tasks = tasks_are (Finishes [] o ∷ rest) e in
      finishes_one m v bound is.world is.of _ is.memory rest refl tasks.1 o tasks.0.0 n way
  steps_by _ (StepsBy.calls_deinit g gs o rest f n e there way) = calls_deinit m v bound is.world is.of s is.memory g gs o rest (tasks_are (Finishes (g ∷ gs) o ∷ rest) e) f there n way
  steps_by _ (StepsBy.no_task e) = absurd (tasks_are [] e)
  steps_by _ (StepsBy.no_function frame rest e none) = let tasks = tasks_are (Runs frame ∷ rest) e in absurd (none-some tasks.0.0 (sym none ∙ tasks.0.1.is))
  steps_by _ (StepsBy.no_deinit g gs o rest e none) =
      let tasks = tasks_are (Finishes (g ∷ gs) o ∷ rest) e in
      let first = tasks.0.1.0 in
      let deinit = (typed_module m v).deinits first.class g first.is in
      absurd (none-some deinit.body (sym none ∙ deinit.there))

  pub next_typed : NextTyped m (step m (facts_of m) bound s)
  next_typed = steps_by (step m (facts_of m) bound s) (steps_told m (facts_of m) bound s)

went : (m : Module) (n : HolderNext) (next : HolderState) → NextTyped m n → n ≡ Goes next → IsTypedState m next
went m _ next (NextTyped.goes s is) e = let same : s ≡ next = cc in subst (IsTypedState m) same is
went m _ next (NextTyped.ends x s other) e = absurd (cc)

ended : (m : Module) (n : HolderNext) (last : HolderState) (x : HolderFault) → NextTyped m n → n ≡ Ends (Faulted x) last → x ≡ WrongShape → ⊥
ended m _ last x (NextTyped.goes s is) e shape = absurd (cc)
ended m _ last x (NextTyped.ends y s other) e shape = let same : y ≡ Faulted WrongShape = cc in other same

pub steps_typed : AreStepsTyped
steps_typed m bound s next v is e = went m (step m (facts_of m) bound s) next (next_typed m v bound s is) e

pub shapes_right : AreShapesRight
shapes_right m bound s last x v is e = ended m (step m (facts_of m) bound s) last x (next_typed m v bound s is) e

-- ---- the beginning

pub begin_typed : BeginTyped
begin_typed m e f v there starts = record {
  world = record { classes = []; slots = [] };
  of = tt;
  memory = record { stack = tt; objects = tt };
  tasks = (
    (
      f,
      record {
        is = there;
        bodied = bodied;
        trail = (has_blocks f.blocks bodied, tt);
        goes = tt;
        entries = no_entries_typed m (record { classes = []; slots = [] }) f;
      },
    ),
    tt,
  );
}
  where
    bodied : has_any f.blocks ≡ true
    bodied = (and_parts (has_any f.blocks) (not (has_any (arguments_of f.signature))) starts).0
