-- A step from a state whose objects are right leads to one whose objects are right.
use Rattle.std.proofs.Common.{◌≡◌, inl, ℕ, List, [], ◌∷◌, length, map, refl, sym, ap, ◌∙◌, subst, true, false, not, Some, Ok}
use Rattle.std.specs.Prelude.{slice_get}
use Rattle.std.proofs.lemmas.Bool.{and_parts, true≢false}
use Rattle.std.proofs.lemmas.Option.{same_Some}
use Rattle.argument_conventions.specs.Arguments.{arguments_of}
use Rattle.instruction_table.specs.Forms.{ending_of}
use Rattle.instruction_table.specs.declared.entries.Ending.TheVariants as ending
use Rattle.sil_verifier_frames.specs.sil_verifier_accepted.AcceptedModules.inner.Checked.{IsVerified}
use Rattle.sil_verifier_frames.specs.holder_model.Calling.{as_argument, handed_over}
use Rattle.sil_verifier_frames.specs.holder_model.Data.{Datum, ValueOf, references_in}
use Rattle.sil_verifier_frames.specs.holder_model.Edges.{edge_of}
use Rattle.sil_verifier_frames.specs.holder_model.Effects as effects
use Rattle.sil_verifier_frames.specs.holder_model.Effects.{effect_of, only, unchanged}
use Rattle.sil_verifier_frames.specs.holder_model.Faults.{HolderFault}
use Rattle.sil_verifier_frames.specs.holder_model.Frames.{Entry, Frame, Operands, has_any, operands_of, results_put}
use Rattle.sil_verifier_frames.specs.holder_model.HolderStates.{HolderNext, HolderState}
use Rattle.sil_verifier_frames.specs.holder_model.ModuleFacts.{facts_of}
use Rattle.sil_verifier_frames.specs.holder_model.ModuleShapes.{shapes_in, shapes_of}
use Rattle.sil_verifier_frames.specs.holder_model.Standing.{stands_at}
use Rattle.sil_verifier_frames.specs.holder_model.States.{Finishes, Runs, Task}
use Rattle.sil_verifier_frames.specs.holder_model.Steps as steps
use Rattle.sil_verifier_frames.specs.memory_rules_accesses.Operations.{access_kind_of}
use Rattle.sil_verifier_frames.specs.memory_rules_accesses.Sources.{sources_of}
use Rattle.sil_verifier_frames.specs.ownership_kinds_origins.Facts.{facts_in}
use Rattle.sil_verifier_frames.specs.sil_verifier_trails.RunTrails.inner.RunTrails.{ComesAt, IsRunTrail, IsTurnedTrail}
use Rattle.sil_verifier_frames.proofs.sil_verifier_trails.RunTrails.RunPaths.{are_trails}
use Rattle.sil_verifier_frames.proofs.sil_verifier_trails.RunTrails.WalkEdges.{are_next}
use Rattle.sil_verifier_frames.proofs.sil_verifier_trails.AcceptedPlaces.ItemStacks.{accepted_in}
use Rattle.sil_verifier_frames.specs.sil_verifier_values.inner.Known.{IsAcceptedBody}
use Rattle.sil_verifier_frames.proofs.sil_verifier_values.Accepted.{typed}
use Rattle.sil_verifier_frames.proofs.sil_verifier_values.Facts.{run_facts}
use Rattle.sil_verifier_frames.specs.sil_verifier_trails.HeldEntries.inner.Entries.{End}
use Rattle.sil_verifier_frames.specs.holder_model_laws.HolderLaws.inner.Held.Items.{LosesEntries, Stands}
use Rattle.sil_verifier_frames.specs.holder_model_laws.HolderLaws.inner.Held.ObjectStates.{AreObjectsRight, BelowBuild, TasksBuild}
use Rattle.sil_verifier_frames.proofs.holder_model_laws.HolderLaws.Held.Drops.{drops_right, finishes_right}
use Rattle.sil_verifier_frames.proofs.holder_model_laws.HolderLaws.Held.Entering.{begin_right, calls_right, deinits_right}
use Rattle.sil_cfg_items.specs.Items.{item_defined, item_taken}
use Rattle.sil_cfg_items.specs.Parts.{inst_at}
use Rattle.numbered_form.specs.Lists.{Each}
use Rattle.holder_model_values.specs.RunValues.Places.{Place}
use Rattle.holder_model_values.specs.RunValues.Values as value
use Rattle.sil_ast.specs.declared.function.Function.{Function}
use Rattle.sil_ast.specs.declared.inst.Inst.{Inst}
use Rattle.sil_ast.specs.declared.module.Module.{Module}
use Rattle.sil_ast.specs.declared.place.FuncId.{FuncId}
use Rattle.sil_ast.specs.declared.place.ObjectId.{ObjectId}
use Rattle.sil_ast.specs.declared.place.PointId.{PointId}
use Rattle.sil_cfg.specs.Items.{leaves_function}
use Rattle.sil_cfg.specs.declared.item.Item.{Item}
use Rattle.sil_cfg.specs.declared.item.Item.TheVariants as item
use Rattle.sil_types_declarations.specs.TypeDefinitions.Declarations.{declarations_of}
use Rattle.sil_verifier_frames.specs.inner.Tracked.TrackedStates.{AreTasksTracked, GoesAlong, IsTrackedState}
use Rattle.sil_verifier_frames.proofs.Tracked.NextItems.{chooses_on, chosen_within, edge_comes, exit_comes, inst_comes, one_edge}
use Rattle.sil_verifier_frames.proofs.Tracked.OperandsFound.{ended, operands_left, size_left}
use Rattle.sil_verifier_frames.specs.holder_model_laws.HolderLaws.inner.Steps.Ways.{Acts, DropsOne, Enters, FinishesOne, Leaves, Performs, Reaches, StandsAtEnd, StepsBy, TakesEdge, left_with}
use Rattle.sil_verifier_frames.specs.holder_model_laws.HolderLaws.inner.Steps.Ways.{lent_at, operands_in}
use Rattle.sil_verifier_frames.specs.inner.Typed.TypedStates.{FrameIs, IsTypedState, TasksAre, WaitsTyped}
use Rattle.sil_verifier_frames.proofs.Typed.GoesOn.{accepted_body, typed_module}
use Rattle.sil_verifier_frames.proofs.holder_model_laws.HolderLaws.Steps.StepsTold.{steps_told}
use Rattle.sil_verifier_frames.specs.holder_model_laws.HolderLaws.inner.Whole.Whole.{IsWhole, IsWholeMemory, NameWhole}
use Rattle.sil_verifier_runs.specs.inner.Built.BuiltStates.{AreObjectsKept, BeginBuilt, DoPlacesServe}
use Rattle.sil_verifier_runs.specs.inner.Built.Said.{said}
use Rattle.sil_verifier_runs.proofs.Built.Apart.{KeepsApart, edge_apart, keeps_apart}
use Rattle.sil_verifier_runs.proofs.Built.BuiltBehind.{BuiltNext, LeadsBy, behind_built, callee_entries, given_built}
use Rattle.sil_verifier_runs.proofs.Built.CallsMade.{is_call}
use Rattle.sil_verifier_runs.proofs.Built.EdgeValues.{ending_makes, terminator_whole}
use Rattle.sil_verifier_runs.proofs.Built.Ends.{lose_others}
use Rattle.sil_verifier_runs.proofs.Built.Entered.{HandsSo, entered, hands_so}
use Rattle.sil_verifier_runs.proofs.Built.EntriesNamed.{operands_named}
use Rattle.sil_verifier_runs.proofs.Built.Filling.{ending_still, is_field, stores}
use Rattle.sil_verifier_runs.proofs.Built.Found.{body, frame_is}
use Rattle.sil_verifier_runs.proofs.Built.ItemsDone.{Doing, MakesNone, makes_object}
use Rattle.sil_verifier_runs.proofs.Built.OperandPlaces.{OthersOnStack}
use Rattle.sil_verifier_runs.proofs.Built.RowsRight.{row_right}
use Rattle.sil_verifier_runs.proofs.Built.StillRows.{is_special, still_row}
use Rattle.sil_verifier_runs.proofs.Built.Steps.{none_at_entry}
use Rattle.sil_verifier_runs.proofs.Built.WholeOperands.{Ready}
use Rattle.sil_verifier_runs.proofs.Built.WholeValues.{carried_names}

module _ (m : Module) (bound : ℕ) (verified : IsVerified m) where
  -- ---- a state

  module _ (s : HolderState) (is_typed : IsTypedState m s) (tracked : IsTrackedState m s) (serve : DoPlacesServe m s) (right : AreObjectsRight m (said m) s) where
    -- ---- what is returned

    module _ (callee : Frame) (x : Datum) (whole : NameWhole s.memory (references_in x)) where
      reaches_built : (rest : List (Task Frame)) → s.tasks ≡ Runs callee ∷ rest → (next : HolderNext) → Reaches m (facts_of m) bound s x rest next → BuiltNext m next
      reaches_built _ first _ (Reaches.ends v is) = tt
      reaches_built _ first next (Reaches.resumes frame rest f n there moves) =
          behind_built m bound s rest frame f there (item.Inst (stands_at f frame.trail)) (record (unchanged s.memory) { results = x ∷ [] })
          (λ slots entries so put. given_built m bound s.memory rest frame f (item.Inst (stands_at f frame.trail)) frame.entries doing apart makes writes (x ∷ []) (whole, tt) slots entries put)
          n moves
        where
          waits : WaitsTyped m is_typed.world callee frame rest
          waits = (subst (TasksAre m is_typed.world) first is_typed.tasks).1.0

          same : waits.f ≡ f
          same = same_Some waits.f f (sym waits.of.is ∙ there)

          own : FrameIs m is_typed.world f frame
          own = subst (λ g. FrameIs m is_typed.world g frame) same waits.of

          here : inst_at f (stands_at f frame.trail) ≡ Some waits.call
          here = subst (λ g. inst_at g (stands_at g frame.trail) ≡ Some waits.call) same waits.stands

          still : is_special (effect_of waits.call.op) ≡ false
          still = ap is_special (serve.waits callee frame rest f waits.call first there here)

          below : BelowBuild m (said m) s.memory callee (Runs frame ∷ rest)
          below = (subst (TasksBuild m (said m) s.memory) first right.tasks).1

          doing : Doing m s.memory rest frame f (item.Inst (stands_at f frame.trail)) frame.entries
          doing = record {
            body = accepted_body m verified frame.function f there own.bodied;
            trail = (are_next f frame.trail (item.Inst (stands_at f frame.trail)) own.goes (inst_comes f (stands_at f frame.trail) waits.call here), own.trail);
            stands = record { is = there; whole = right.memory; builds = below.0; below = below.1 };
            loses = record { gone = λ v. inl refl; kept = λ object un. refl };
          }

          its : (y : Inst) → inst_at f (stands_at f frame.trail) ≡ Some y → waits.call ≡ y
          its y so = same_Some waits.call y (sym here ∙ so)

          apart : KeepsApart f (item.Inst (stands_at f frame.trail))
          apart y so = subst (λ (z : Inst). keeps_apart (access_kind_of z.op) ≡ true) (its y so) (still_row waits.call.op still).apart

          makes : MakesNone m s.memory rest frame f (item.Inst (stands_at f frame.trail)) frame.entries
          makes y so = subst (λ (z : Inst). makes_object (access_kind_of z.op) ≡ false) (its y so) (still_row waits.call.op still).makes

          writes : (y : Inst) → inst_at f (stands_at f frame.trail) ≡ Some y → stores (access_kind_of y.op) ≡ false
          writes y so = subst (λ (z : Inst). stores (access_kind_of z.op) ≡ false) (its y so) (still_row waits.call.op still).writes
      reaches_built _ first _ (Reaches.finishes deinits o rest) =
          let below = (subst (TasksBuild m (said m) s.memory) first right.tasks).1 in record { memory = right.memory; tasks = (below.1, below.2) }
      reaches_built _ first _ (Reaches.no_value is) = tt
      reaches_built _ first _ (Reaches.no_function frame rest there) = tt
      reaches_built _ first _ (Reaches.on_drops os rest) = tt

    -- ---- the first frame

    module _ (rest : List (Task Frame)) (frame : Frame) (f : Function) (first : s.tasks ≡ Runs frame ∷ rest) (is : slice_get m.functions frame.function.0 ≡ Some f) where
      own : FrameIs m is_typed.world f frame
      own = frame_is m s verified is_typed right frame rest f first is

      a : IsAcceptedBody m frame.function.0 f
      a = body m s verified is_typed right frame rest f first is

      along : GoesAlong (declarations_of m) f frame
      along = (subst (AreTasksTracked m) first tracked).0 f is

      stands : Stands m (said m) s.memory rest frame f
      stands = let tasks = subst (TasksBuild m (said m) s.memory) first right.tasks in record { is = is; whole = right.memory; builds = tasks.0; below = tasks.1 }

      -- ---- an item that it does

      module _ (i : Item) (comes : ComesAt f (stands_at f frame.trail) i) (ops : Operands) (found : operands_in m (facts_of m) bound s frame f i ≡ Ok ops) where
        trail : IsRunTrail f (i ∷ frame.trail)
        trail = (are_next f frame.trail i own.goes comes, own.trail)

        turned : IsTurnedTrail f (i ∷ frame.trail)
        turned = are_trails f (accepted_in m frame.function.0 f a).once (i ∷ frame.trail) trail

        read : operands_of (facts_in (declarations_of m) f) s.memory frame.entries (item_taken f i) ≡ Ok ops
        read = sym (ap (λ facts. operands_of facts s.memory frame.entries (item_taken f i)) (run_facts m frame.function f is)) ∙ found

        abbrev ends : End (facts_in (declarations_of m) f) (item_taken f i) frame.entries
        ends = ended m frame.function.0 f a is_typed.world frame.trail i turned frame.entries own.entries along.tracked along.others

        same_left : ops.left ≡ ends.left
        same_left =
            operands_left m frame.function.0 f a is_typed.world frame.trail i turned frame.entries own.entries along.tracked along.others s.memory ops read

        loses : LosesEntries (sources_of (declarations_of m) f) (said m f frame.trail) frame.entries ops.left
        loses =
            subst (LosesEntries (sources_of (declarations_of m) f) (said m f frame.trail) frame.entries) (sym same_left)
            (lose_others m frame.function.0 f a frame.trail i trail frame.entries ends.left ends.ended)

        ready : Ready m s.memory rest frame f i ops
        ready = record {
          doing = record { body = a; trail = trail; stands = stands; loses = loses };
          w = is_typed.world;
          of = is_typed.of;
          typed = is_typed.memory;
          entries = own.entries;
          size = ap length same_left
              ∙ size_left m frame.function.0 f a is_typed.world frame.trail i turned frame.entries own.entries along.tracked along.others;
          named = operands_named (facts_in (declarations_of m) f) s.memory (item_taken f i) frame.entries ops loses.gone read;
        }

      -- ---- an instruction

      module _ (x : Inst) (here : inst_at f (stands_at f frame.trail) ≡ Some x) (ops : Operands)
          (found : operands_in m (facts_of m) bound s frame f (item.Inst (stands_at f frame.trail)) ≡ Ok ops) where
        abbrev p : PointId
        p = stands_at f frame.trail

        abbrev frame_left : Frame
        frame_left = left_with m (facts_of m) bound frame ops

        its_operands : Ready m s.memory rest frame f (item.Inst p) ops
        its_operands = ready (item.Inst p) (inst_comes f p x here) ops found

        others : OthersOnStack m frame f p
        others y c l at off q names =
            serve.others frame rest f x first is here y c l at (λ of k trivial so. true≢false (sym (ap is_field so) ∙ off)) q names

        -- a function with a body is called
        module _ (g : FuncId) (args : List Datum) (callee : Function) (there : slice_get m.functions g.0 ≡ Some callee) (bodied : has_any callee.blocks ≡ true)
            (so : steps.effect_in m (facts_of m) bound s frame x ops.given ≡ effects.Calls g args) where
          hands : HandsSo m s.memory rest frame f p ops its_operands x here others
              (is_call (declarations_of m) (shapes_of m) (shapes_in (shapes_of m) frame.function) s.memory x ops.given g args so).calls args
          hands =
              let call = is_call (declarations_of m) (shapes_of m) (shapes_in (shapes_of m) frame.function) s.memory x ops.given g args so in
              hands_so m s.memory rest frame f p ops its_operands x here others call.calls call.callee args call.given

          enters_built : (next : HolderNext) → Enters m (facts_of m) bound (record s { memory = handed_over s.memory (lent_at m (facts_of m) bound f (item.Inst p) args) })
              (Runs (record frame_left { lent = lent_at m (facts_of m) bound f (item.Inst p) args }) ∷ rest) g callee (map as_argument args) next → BuiltNext m next
          enters_built _ (Enters.enters entries put deep turn) =
              let leads = calls_right m (said m) s.memory rest frame f ops.left (lent_at m (facts_of m) bound f (item.Inst p) args) g callee entries stands
              its_operands.doing.loses hands.lent there
              (entered m g callee (accepted_body m verified g callee there bodied) s.memory (facts_in (declarations_of m) callee) (map as_argument args) entries hands.whole
              (callee_entries m bound g callee there (map as_argument args) entries put)) in
              record { memory = leads.0; tasks = leads.1 }
          enters_built _ (Enters.wrong_argument y put) = tt
          enters_built _ (Enters.too_deep deep) = tt
          enters_built _ (Enters.no_turn deep turn) = tt

        -- one without a body is called
        module _ (g : FuncId) (args : List Datum) (so : steps.effect_in m (facts_of m) bound s frame x ops.given ≡ effects.Calls g args) where
          usual : is_special (effect_of x.op) ≡ false
          usual = ap is_special (is_call (declarations_of m) (shapes_of m) (shapes_in (shapes_of m) frame.function) s.memory x ops.given g args so).calls

          its : (y : Inst) → inst_at f p ≡ Some y → x ≡ y
          its y at = same_Some x y (sym here ∙ at)

          called_out : (slots : List Place) (entries : List Entry)
              → results_put (facts_in (declarations_of m) f) (item_defined f (item.Inst p)) (ValueOf (value.Group value.NoValue) ∷ []) ops.left ≡ Ok entries
              → LeadsBy m bound rest frame (item.Inst p) (record (unchanged s.memory) { results = ValueOf (value.Group value.NoValue) ∷ [] }) slots entries
          called_out slots entries put =
              given_built m bound s.memory rest frame f (item.Inst p) ops.left its_operands.doing
              (λ y at. subst (λ (z : Inst). keeps_apart (access_kind_of z.op) ≡ true) (its y at) (still_row x.op usual).apart)
              (λ y at. subst (λ (z : Inst). makes_object (access_kind_of z.op) ≡ false) (its y at) (still_row x.op usual).makes)
              (λ y at. subst (λ (z : Inst). stores (access_kind_of z.op) ≡ false) (its y at) (still_row x.op usual).writes)
              (ValueOf (value.Group value.NoValue) ∷ []) (tt, tt) slots entries put

        performs_built : (e : effects.Effect HolderFault) → steps.effect_in m (facts_of m) bound s frame x ops.given ≡ e → (next : HolderNext)
            → Performs m (facts_of m) bound s rest frame_left f (item.Inst p) e next → BuiltNext m next
        performs_built _ so next (Performs.makes c n moves) =
            behind_built m bound s rest frame_left f is (item.Inst p) c
            (λ slots entries closes put. row_right m s.memory rest frame f p ops its_operands x here others c so frame.slots slots closes entries put) n moves
        performs_built _ so next (Performs.calls g args callee n there bodied before entering) = enters_built g args callee there bodied so n entering
        performs_built _ so next (Performs.calls_out g args callee numbers n there bare is_numbers turn moves) =
            behind_built m bound _ rest frame_left f is (item.Inst p) (record (unchanged s.memory) { results = ValueOf (value.Group value.NoValue) ∷ [] })
            (λ slots entries closes put. called_out g args so slots entries put) n moves
        performs_built _ so _ (Performs.no_turn g args callee numbers there bare is_numbers turn) = tt
        performs_built _ so _ (Performs.traps t) = tt
        performs_built _ so _ (Performs.no_callee g args there) = tt
        performs_built _ so _ (Performs.no_numbers g args callee there bare none) = tt
        performs_built _ so _ (Performs.wrong_place g args callee there bodied before) = tt
        performs_built _ so _ (Performs.faults y) = tt
        performs_built _ so _ Performs.unfit = tt

      -- ---- a terminator

      module _ (x : Inst) (at_end : StandsAtEnd m (facts_of m) bound frame f x) where
        abbrev block : ℕ
        block = (stands_at f frame.trail).block.0

        takes_built : (k : ℕ) → ComesAt f (stands_at f frame.trail) (item.Edge (edge_of (stands_at f frame.trail) k)) → (ending_of x.op ≡ ending.Unreachable → ⊥)
            → (next : HolderNext) → TakesEdge m (facts_of m) bound s rest frame f (edge_of (stands_at f frame.trail) k) next → BuiltNext m next
        takes_built k comes goes next (TakesEdge.takes ops carried n found along_it turn moves) =
            behind_built m bound _ rest (left_with m (facts_of m) bound frame ops) f is (item.Edge (edge_of (stands_at f frame.trail) k))
            (record (unchanged s.memory) { results = carried })
            (λ slots entries closes put. given_built m bound s.memory rest frame f (item.Edge (edge_of (stands_at f frame.trail) k)) ops.left its.doing
            (edge_apart m frame.function.0 f a (edge_of (stands_at f frame.trail) k))
            (λ y so. ending_makes y.op ((typed m frame.function.0 f a).ends block y so).1.ends)
            (λ y so. ending_still y.op ((typed m frame.function.0 f a).ends block y so).1.ends)
            carried
            (carried_names (IsWhole s.memory) f (edge_of (stands_at f frame.trail) k) ops.given carried
            (terminator_whole m s.memory rest frame f (item.Edge (edge_of (stands_at f frame.trail) k)) ops its block x at_end.terminator at_end.terminator goes) along_it)
            slots entries put) n moves
          where
            its : Ready m s.memory rest frame f (item.Edge (edge_of (stands_at f frame.trail) k)) ops
            its = ready (item.Edge (edge_of (stands_at f frame.trail) k)) comes ops found
        takes_built k comes goes _ (TakesEdge.no_turn ops carried found along_it turn) = tt
        takes_built k comes goes _ (TakesEdge.wrong_operand y found) = tt
        takes_built k comes goes _ (TakesEdge.not_carried ops found none) = tt

        -- a `return`
        module _ (returns : ending_of x.op ≡ ending.Return) (ops : Operands)
            (found : operands_in m (facts_of m) bound s frame f (item.Exit (stands_at f frame.trail)) ≡ Ok ops) where
          its_operands_at_exit : Ready m s.memory rest frame f (item.Exit (stands_at f frame.trail)) ops
          its_operands_at_exit =
              ready (item.Exit (stands_at f frame.trail)) (exit_comes m (facts_of m) bound frame.function.0 f a frame x at_end returns) ops found

          not_unreachable : ending_of x.op ≡ ending.Unreachable → ⊥
          not_unreachable e = let two : ending.Return ≡ ending.Unreachable = sym returns ∙ e in cc

          returned_whole : (y : Datum) → only ops.given ≡ Some y → NameWhole s.memory (references_in y)
          returned_whole y one =
              by ops.given one
              (terminator_whole m s.memory rest frame f (item.Exit (stands_at f frame.trail)) ops its_operands_at_exit block x at_end.terminator at_end.terminator not_unreachable)
            where
              by : (ys : List Datum) → only ys ≡ Some y → Each (λ z. NameWhole s.memory (references_in z)) ys → NameWhole s.memory (references_in y)
              by [] e h = absurd (cc)
              by (z ∷ []) e h = subst (λ u. NameWhole s.memory (references_in u)) (same_Some z y e) h.0
              by (z ∷ u ∷ ys) e h = absurd (cc)

          leaves_built : (y : Datum) → only ops.given ≡ Some y → (next : HolderNext)
              → Leaves m (facts_of m) bound s rest (left_with m (facts_of m) bound frame ops) f y next → BuiltNext m next
          leaves_built y one next (Leaves.leaves n held slots places reaches) = reaches_built frame y (returned_whole y one) rest first n reaches
          leaves_built y one _ (Leaves.holds held) = tt
          leaves_built y one _ (Leaves.has_slot slots) = tt
          leaves_built y one _ (Leaves.wrong_place places) = tt

      -- ---- what the frame does

      acts_built : (next : HolderNext) → Acts m (facts_of m) bound s rest frame f next → BuiltNext m next
      acts_built next (Acts.does x ops n here found performed) =
          performs_built x here ops found (steps.effect_in m (facts_of m) bound s frame x ops.given) refl n performed
      acts_built next (Acts.branches x n at_end one along_edge) =
          takes_built x at_end 0
          (edge_comes m (facts_of m) bound frame.function.0 f a frame x at_end 0 (ap leaves_function one)
          (one_edge m frame.function.0 f a (stands_at f frame.trail).block.0 x at_end.terminator one))
          (λ e. let two : ending.OneBranch ≡ ending.Unreachable = sym one ∙ e in cc) n along_edge
      acts_built next (Acts.chooses x choose y v k n at_end how by worth chosen along_edge) =
          takes_built x at_end k
          (edge_comes m (facts_of m) bound frame.function.0 f a frame x at_end k (chooses_on m (facts_of m) bound frame.function.0 f a frame x at_end choose how)
          (chosen_within m (facts_of m) bound frame.function.0 f a frame x at_end choose how v k chosen))
          (λ e. true≢false (sym (ap leaves_function e) ∙ chooses_on m (facts_of m) bound frame.function.0 f a frame x at_end choose how)) n along_edge
      acts_built next (Acts.returns x ops y n at_end return found one leaving) = leaves_built x at_end return ops found y one n leaving
      acts_built _ (Acts.unreachable x at_end e) = tt
      acts_built _ (Acts.wrong_operand x y here found) = tt
      acts_built _ (Acts.no_operand x choose at_end how none) = tt
      acts_built _ (Acts.no_entry x choose at_end how by) = tt
      acts_built _ (Acts.no_value x choose y at_end how by none) = tt
      acts_built _ (Acts.no_choice x choose y v at_end how by worth none) = tt
      acts_built _ (Acts.wrong_returned x y at_end return found) = tt
      acts_built _ (Acts.not_one_returned x ops at_end return found none) = tt
      acts_built _ (Acts.no_ending x at_end e) = tt
      acts_built _ (Acts.no_terminator behind none) = tt

    -- ---- drops and finishes

    right_with : (t : HolderState) → t.memory ≡ s.memory → TasksBuild m (said m) s.memory t.tasks → AreObjectsRight m (said m) t
    right_with t same tasks = record {
      memory = subst IsWholeMemory (sym same) right.memory;
      tasks = subst (λ memory. TasksBuild m (said m) memory t.tasks) (sym same) tasks;
    }

    drops_built : (t : HolderState) (o : ObjectId) → AreObjectsRight m (said m) t → IsWhole t.memory o → (next : HolderNext) → DropsOne m (facts_of m) bound t o next → BuiltNext m next
    drops_built t o so whole _ (DropsOne.held_still left is) = so
    drops_built t o so whole _ (DropsOne.not_live none dead) = so
    drops_built t o so whole _ (DropsOne.deinitialises none live turn) = drops_right m (said m) (facts_of m) bound t _ o so whole (DropsOne.deinitialises none live turn)
    drops_built t o so whole _ (DropsOne.no_turn none live turn) = tt

    finishes_built : (t : HolderState) (o : ObjectId) → AreObjectsRight m (said m) t → IsWhole t.memory o → (next : HolderNext) → FinishesOne m (facts_of m) bound t o next → BuiltNext m next
    finishes_built t o so whole _ (FinishesOne.finishes none) = finishes_right m (said m) (facts_of m) bound t _ o so whole (FinishesOne.finishes none)
    finishes_built t o so whole _ (FinishesOne.escapes left is) = tt

    -- a deinitialiser is called
    module _ (g : FuncId) (gs : List FuncId) (o : ObjectId) (rest : List (Task Frame)) (callee : Function) (first : s.tasks ≡ Finishes (g ∷ gs) o ∷ rest)
        (there : slice_get m.functions g.0 ≡ Some callee) where
      tasks : TasksBuild m (said m) s.memory (Finishes (g ∷ gs) o ∷ rest)
      tasks = subst (TasksBuild m (said m) s.memory) first right.tasks

      bodied : has_any callee.blocks ≡ true
      bodied =
          let deinit = (subst (TasksAre m is_typed.world) first is_typed.tasks).0.1.0 in
          let deinit_body = (typed_module m verified).deinits deinit.class g deinit.is in
          subst (λ x. has_any x.blocks ≡ true) (same_Some deinit_body.body callee (sym deinit_body.there ∙ there)) deinit_body.bodied

      deinit_built : (next : HolderNext) → Enters m (facts_of m) bound (record s { tasks = Finishes gs o ∷ rest }) (Finishes gs o ∷ rest) g callee (ValueOf (value.Object o) ∷ []) next
          → BuiltNext m next
      deinit_built _ (Enters.enters entries put deep turn) = record {
        memory = right.memory;
        tasks = deinits_right m (said m) s.memory rest gs o g g callee entries tasks there
            (entered m g callee (accepted_body m verified g callee there bodied) s.memory (facts_in (declarations_of m) callee) (ValueOf (value.Object o) ∷ []) entries ((tasks.0, tt), tt)
            (callee_entries m bound g callee there (ValueOf (value.Object o) ∷ []) entries put));
      }
      deinit_built _ (Enters.wrong_argument y put) = tt
      deinit_built _ (Enters.too_deep deep) = tt
      deinit_built _ (Enters.no_turn deep turn) = tt

    -- ---- a step

    steps_built : (next : HolderNext) → StepsBy m (facts_of m) bound s next → BuiltNext m next
    steps_built next (StepsBy.runs frame rest f n first there acts) = acts_built rest frame f first there n acts
    steps_built _ (StepsBy.dropped rest first) = right_with _ refl (subst (TasksBuild m (said m) s.memory) first right.tasks).1
    steps_built next (StepsBy.drops o os rest n first dropping_one) =
        let tasks = subst (TasksBuild m (said m) s.memory) first right.tasks in
        drops_built _ o (right_with _ refl (tasks.0.1, tasks.1)) tasks.0.0 n dropping_one
    steps_built next (StepsBy.finishes o rest n first finishing) =
        let tasks = subst (TasksBuild m (said m) s.memory) first right.tasks in
        finishes_built _ o (right_with _ refl tasks.1) tasks.0 n finishing
    steps_built next (StepsBy.calls_deinit g gs o rest f n first there entering) = deinit_built g gs o rest f first there n entering
    steps_built _ (StepsBy.no_task first) = tt
    steps_built _ (StepsBy.no_function frame rest first there) = tt
    steps_built _ (StepsBy.no_deinit g gs o rest first there) = tt

pub objects_kept : AreObjectsKept
objects_kept m bound s next verified is_typed tracked serve right e =
    subst (BuiltNext m) e (steps_built m bound verified s is_typed tracked serve right (steps.step m (facts_of m) bound s) (steps_told m (facts_of m) bound s))

pub begin_built : BeginBuilt
begin_built m e f verified there starts =
    begin_right m (said m) e f there
    (none_at_entry m e.0 f
    (accepted_body m verified e f there (and_parts (has_any f.blocks) (not (has_any (arguments_of f.signature))) starts).0))
