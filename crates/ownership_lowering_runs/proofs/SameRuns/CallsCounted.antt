-- Behind a call stored numbers stay the counts of holders.
use Rattle.std.proofs.Common.{◌≡◌, ℕ, ℤ, List, [], ◌∷◌, ◌++◌, length, drop, map, refl, sym, ap, ◌∙◌, subst, true, Option, Some, None, Ok}
use Rattle.std.specs.Prelude.{slice_get}
use Rattle.std.specs.declared.result.Result.{Result}
use Rattle.std.proofs.lemmas.Option.{none-some, same_Some}
use Rattle.numbered_form.specs.Lists.{Each}
use Rattle.numbered_form.proofs.PointChecks.Among.{Among}
use Rattle.sil_ast.specs.declared.function.Function.{Function}
use Rattle.sil_ast.specs.declared.inst.Inst.{Inst}
use Rattle.sil_ast.specs.declared.module.Module.{Module}
use Rattle.sil_ast.specs.declared.place.FuncId.{FuncId}
use Rattle.sil_ast.specs.declared.place.ObjectId.{ObjectId}
use Rattle.sil_ast.specs.declared.place.PointId.{PointId}
use Rattle.sil_ast.specs.declared.place.ValueId.{ValueId}
use Rattle.sil_cfg.specs.declared.item.Item.{Item}
use Rattle.sil_cfg.specs.declared.item.Item.TheVariants as item
use Rattle.sil_cfg_items.specs.Items.{item_defined, item_taken}
use Rattle.sil_cfg_items.specs.declared.taken.Taken.{Taken}
use Rattle.ownership_kinds_chains.specs.declared.ownership_chains.facts.Facts.{Facts}
use Rattle.sil_types_declarations.specs.TypeDefinitions.Declarations.{Declarations, declarations_of}
use Rattle.holder_model_values.specs.RunValues.Memory.{Memory}
use Rattle.holder_model_values.specs.RunValues.Places.{OnStack}
use Rattle.holder_model_values.specs.RunValues.Shapes.{Shape}
use Rattle.holder_model_values.specs.RunValues.Values as value
use Rattle.sil_verifier_runs.specs.sil_verifier_accepted.AcceptedModules.inner.Checked.{IsVerified}
use Rattle.sil_verifier_runs.specs.ownership_kinds_origins.Facts.{facts_in}
use Rattle.sil_verifier_runs.specs.sil_verifier_values.inner.Known.{IsAcceptedBody}
use Rattle.sil_verifier_runs.specs.inner.RightStates.{IsRightState}
use Rattle.sil_verifier_runs.proofs.sil_verifier_trails.RunTrails.WalkEdges.{are_next}
use Rattle.sil_verifier_runs.proofs.sil_verifier_values.Facts.{run_facts}
use Rattle.sil_verifier_runs.proofs.sil_verifier_values.Made.{items_of}
use Rattle.sil_verifier_runs.specs.holder_model.declared.event.Event.TheVariants as event
use Rattle.sil_verifier_runs.specs.holder_model.declared.row_effect.RowEffect.TheVariants as row
use Rattle.sil_verifier_runs.specs.holder_model.Calling.{are_as_before, as_argument, handed_over}
use Rattle.sil_verifier_runs.specs.holder_model.Data.{Datum, ValueOf, as_function, references_in}
use Rattle.sil_verifier_runs.specs.holder_model.Effects as effects
use Rattle.sil_verifier_runs.specs.holder_model.Effects.{Change, Effect, effect_by, effect_of, unchanged, with_some}
use Rattle.sil_verifier_runs.specs.holder_model.Faults.{HolderFault}
use Rattle.sil_verifier_runs.specs.holder_model.Frames.{Frame, LentPlace, Operands, has_any, operands_of}
use Rattle.sil_verifier_runs.specs.holder_model.HolderStates.{HolderNext, HolderState}
use Rattle.sil_verifier_runs.specs.holder_model.Holders.{of_references, one_object}
use Rattle.sil_verifier_runs.specs.holder_model.MemoryEffects.{at_places}
use Rattle.sil_verifier_runs.specs.holder_model.ModuleFacts.{ModuleFacts, facts_of, facts_told}
use Rattle.sil_verifier_runs.specs.holder_model.ModuleShapes.{ModuleShapes, shapes_in, shapes_of}
use Rattle.sil_verifier_runs.specs.holder_model.Outcomes.{Numbers}
use Rattle.sil_verifier_runs.specs.holder_model.Standing.{stands_at}
use Rattle.sil_verifier_runs.specs.holder_model.States.{Drops, Finishes, Runs, Task}
use Rattle.sil_verifier_runs.specs.holder_model.Steps as holder_run
use Rattle.sil_verifier_runs.specs.holder_model_laws.HolderLaws.inner.Counts.Taking.{IsBelow, references_begun, references_ended}
use Rattle.sil_verifier_runs.specs.holder_model_laws.HolderLaws.inner.Steps.Ways.{Acts, Enters, GoesBehind, Performs, StepsBy, left_with, lent_at, turned, waiting}
use Rattle.sil_verifier_runs.proofs.holder_model_laws.HolderLaws.Steps.StepsTold.{steps_told}
use Rattle.sil_verifier_runs.specs.holder_model_laws.StoredCounts.inner.Numbers.{AreCounts}
use Rattle.sil_verifier_runs.proofs.holder_model_laws.StoredCounts.FrameTurns.{calls_stored}
use Rattle.sil_verifier_runs.proofs.holder_model_laws.StoredCounts.Turns.{kept_stored}
use Rattle.ownership_lowering_runs.proofs.OwnedCounts.BroughtOwned.{brings_bare}
use Rattle.ownership_lowering_runs.proofs.StoredRuns.CallsAlone.{op_of}
use Rattle.sil_verifier_runs.proofs.sil_verifier_frames.Placed.CallsPlaced as placed
use Rattle.sil_verifier_runs.proofs.sil_verifier_frames.Placed.CallsPlaced.{CallsBody}
use Rattle.sil_verifier_runs.proofs.sil_verifier_frames.Placed.FirstFrames.{IsFirst}
use Rattle.sil_verifier_runs.proofs.sil_verifier_frames.Placed.Lent.{lent_inside}
use Rattle.sil_verifier_runs.proofs.sil_verifier_frames.Placed.TrailsSo.{trail_laws}
use Rattle.sil_verifier_runs.proofs.sil_verifier_frames.Placed.TypingSo.{typing_laws}
use Rattle.sil_verifier_runs.specs.sil_verifier_frames.inner.Placed.FramePlaces.{HoldsPlaces}
use Rattle.sil_verifier_runs.specs.sil_verifier_frames.inner.Placed.PlaceStates.{TasksPlaced}
use Rattle.sil_verifier_runs.specs.sil_verifier_frames.inner.Typed.TypedStates.{EntriesAre, FrameIs, TasksAre}
use Rattle.ownership_lowering_laws.specs.holder_model_typing.TypedMemory.inner.Worlds.{World}
use Rattle.sil_verifier_runs.proofs.sil_verifier_frames.Typed.Entries.{fit_data, operands_fit}
use Rattle.sil_verifier_runs.proofs.sil_verifier_frames.Typed.GoesOn.{accepted_body}
use Rattle.ownership_lowering_runs.specs.SameRuns.inner.InRightStates.{AreCallsCounted, AtInst, effect_there}
use Rattle.ownership_lowering_runs.proofs.SameRuns.CallsCountedArguments.{NamesNothing, args_fit, arguments_hold, bare_ended, given, named_function, numbers_bare}
use Rattle.ownership_lowering_runs.proofs.SameRuns.CallsCountedPlaces.{HoldsTheSame, handed_same, lent_typed, may_be_handed}
use Rattle.ownership_lowering_runs.proofs.SameRuns.CountedEnds.{CountedNext}
use Rattle.ownership_lowering_runs.proofs.SameRuns.CountedMoves.{moved_counted}

-- ---- a row that calls

-- the callee comes first, and then the arguments
record IsCallOf (xs : List Datum) (g : FuncId) (args : List Datum) : Type 0 where
  first : Datum
  are : xs ≡ first ∷ args
  names : as_function first ≡ Some g

module _ (d : Declarations) (shapes : ModuleShapes) (values : List Shape) (memory : Memory) (i : Inst) where
  no_change : (xs : List Datum) (c : Change) → ◌≡◌ {A = Effect HolderFault} (effects.calls d shapes values memory i xs) (effects.Makes c) → ⊥
  no_change [] c e = cc
  no_change (y ∷ ys) c e = by (as_function y) e
    where
      by : (o : Option FuncId) → ◌≡◌ {A = Effect HolderFault} (with_some (λ h. effects.Calls h ys) o) (effects.Makes c) → ⊥
      by None h = cc
      by (Some k) h = cc

  call_of : (xs : List Datum) (g : FuncId) (args : List Datum) → ◌≡◌ {A = Effect HolderFault} (effects.calls d shapes values memory i xs) (effects.Calls g args)
      → IsCallOf xs g args
  call_of [] g args e = absurd (no_call e)
    where
      no_call : ◌≡◌ {A = Effect HolderFault} effects.Unfit (effects.Calls g args) → ⊥
      no_call e = cc
  call_of (y ∷ ys) g args e = by (as_function y) refl e
    where
      by : (o : Option FuncId) → as_function y ≡ o → ◌≡◌ {A = Effect HolderFault} (with_some (λ h. effects.Calls h ys) o) (effects.Calls g args) → IsCallOf (y ∷ ys) g args
      by None is h = absurd (cc)
      by (Some k) is h =
          let same : k ≡ g = cc in
          let others : ys ≡ args = cc in
          record { first = y; are = ap (λ zs. y ∷ zs) others; names = is ∙ ap Some same }

-- ---- the first frame calls

module _ (m : Module) (bound : ℕ) (s : HolderState) (verified : IsVerified m) (right : IsRightState m s) (x : AtInst m s) (call : effect_of x.i.op ≡ row.CallsFunction)
    (stored : List Numbers) (counts : AreCounts s stored) where
  abbrev told : ModuleFacts
  told = facts_of m

  abbrev d : Declarations
  d = declarations_of m

  abbrev w : World
  w = right.typed.world

  abbrev p : PointId
  p = stands_at x.f x.frame.trail

  abbrev it : Item
  it = item.Inst p

  abbrev ts : List Taken
  ts = item_taken x.f it

  abbrev facts : ValueId → Option Facts
  facts = facts_in d x.f

  abbrev values : List Shape
  values = shapes_in (shapes_of m) x.frame.function

  are_typed : TasksAre m w (Runs x.frame ∷ x.rest)
  are_typed = subst (TasksAre m w) x.is right.typed.tasks

  are_placed : TasksPlaced m s.memory (Runs x.frame ∷ x.rest)
  are_placed = subst (TasksPlaced m s.memory) x.is right.placed

  first : IsFirst m w s.memory x.frame x.rest x.f
  first = record {
    typed = subst (λ h. FrameIs m w h x.frame) (same_Some are_typed.0.0 x.f (sym are_typed.0.1.is ∙ x.there)) are_typed.0.1;
    holds = subst (λ h. HoldsPlaces m s.memory h x.frame x.rest) (same_Some are_placed.0.f x.f (sym are_placed.0.is ∙ x.there)) are_placed.0.holds;
    none_lent = are_placed.0.none_lent;
    below = are_placed.1;
  }

  a : IsAcceptedBody m x.frame.function.0 x.f
  a = accepted_body m verified x.frame.function x.f x.there first.typed.bodied

  same_facts : facts_told told x.frame.function ≡ facts
  same_facts = run_facts m x.frame.function x.f x.there

  found : operands_of facts s.memory x.frame.entries ts ≡ Ok x.ops
  found = subst (λ fs. operands_of fs s.memory x.frame.entries ts ≡ Ok x.ops) same_facts x.found

  left_typed : EntriesAre m w x.f x.ops.left
  left_typed = (operands_fit m w x.f facts s.memory ts x.frame.entries x.ops first.typed.entries (items_of m x.frame.function.0 x.f a it).taken found).1

  below : Each (IsBelow (length x.ops.left)) (item_defined x.f it)
  below = subst (λ n. Each (IsBelow n) (item_defined x.f it)) (sym left_typed.size) (items_of m x.frame.function.0 x.f a it).defined

  by_call : ◌≡◌ {A = Effect HolderFault} (effects.calls d (shapes_of m) values s.memory x.i x.ops.given) (effect_there m bound s x)
  by_call = ap (λ r. effect_by d (shapes_of m) values s.memory x.i (at_places d (shapes_of m) values s.memory x.i) r x.ops.given) (sym call)

  module _ (g : FuncId) (args : List Datum) (is : effect_there m bound s x ≡ effects.Calls g args) (callee : Function) (there : slice_get m.functions g.0 ≡ Some callee) where
    of : IsCallOf x.ops.given g args
    of = call_of d (shapes_of m) values s.memory x.i x.ops.given g args (by_call ∙ is)

    -- ---- a function with a body

    module _ (bodied : has_any callee.blocks ≡ true) (before : are_as_before s.memory (lent_at m told bound x.f it args) ≡ true) where
      abbrev lent : List LentPlace
      lent = lent_at m told bound x.f it args

      b : IsAcceptedBody m g.0 callee
      b = accepted_body m verified g callee there bodied

      calls_body : CallsBody trail_laws typing_laws m verified w s.memory x.frame x.rest x.f first (facts_told told x.frame.function) x.i x.ops (shapes_of m) values g args callee
      calls_body = record {
        reads = record { body = a; typed = first.typed.entries; read = x.found };
        here = x.here;
        trail = (are_next x.f x.frame.trail it first.typed.goes (refl, x.i, x.here), first.typed.trail);
        is = is;
        there = there;
        bodied = bodied;
      }

      on_stack : (l : LentPlace) → Among l lent → l.place.home ≡ OnStack
      on_stack l c =
          (lent_inside trail_laws m x.frame.function.0 x.f
          (placed.accepted trail_laws typing_laws m verified w s.memory x.frame x.rest x.f first (facts_told told x.frame.function) x.i x.ops (shapes_of m) values g args callee calls_body)
          p x.i s.memory (record x.frame { entries = x.ops.left }) x.rest lent
          (placed.calling trail_laws typing_laws m verified w s.memory x.frame x.rest x.f first (facts_told told x.frame.function) x.i x.ops (shapes_of m) values g args callee calls_body)
          l c).0

      same_memory : HoldsTheSame s.memory (handed_over s.memory lent)
      same_memory =
          handed_same m w lent s.memory right.typed.memory
          (may_be_handed m w s.memory lent
          (lent_typed m w (drop 1 ts)
          (fit_data m w x.f
          (args_fit m x.frame.function x.f a w s.memory x.frame.entries first.typed.entries p x.i x.here x.ops found (op_of x.i.op call) of.first g args of.are of.names callee there b)))
          on_stack before)

      same : (o : ObjectId) → of_references (one_object o) (references_begun (facts_told told g) (item_defined callee item.Entry) (map as_argument args))
          ≡ of_references (one_object o) (references_ended (facts_told told x.frame.function) x.frame.entries ts)
      same o =
          ap (λ fs. of_references (one_object o) (references_begun fs (item_defined callee item.Entry) (map as_argument args))) (run_facts m g callee there)
          ∙ sym (arguments_hold m x.frame.function x.f a w s.memory x.frame.entries first.typed.entries p x.i x.here x.ops found (op_of x.i.op call) of.first g args of.are of.names
          callee there b (one_object o))
          ∙ sym (ap (λ fs. of_references (one_object o) (references_ended fs x.frame.entries ts)) same_facts)

      entered : (n : HolderNext)
          → Enters m told bound (record s { memory = handed_over s.memory lent }) (waiting m told bound x.rest (left_with m told bound x.frame x.ops) lent) g callee (map as_argument args) n
          → CountedNext stored n
      entered _ (Enters.enters entries put deep turn) =
          calls_stored m told bound s x.rest x.frame x.f it x.ops lent g callee (map as_argument args) entries stored (record {
            reads = record { at = x.is; taken = x.found };
            put = put;
            each = (items_of m g.0 callee b item.Entry).defined;
            same = same;
            hands = record { size = same_memory.size; named = λ how o. same_memory.held (one_object o) how };
          }) counts
      entered _ (Enters.wrong_argument y put) = tt
      entered _ (Enters.too_deep deep) = tt
      entered _ (Enters.no_turn deep turn) = tt

    -- ---- a function without one

    module _ (numbers : List ℤ) (are : holder_run.numbers_of m told bound args ≡ Some numbers) where
      abbrev called : HolderState
      called = record (turned s) { events = s.events ++ event.Call g numbers ∷ [] }

      abbrev rs : List Datum
      rs = ValueOf (value.Group value.NoValue) ∷ []

      bare : Each NamesNothing x.ops.given
      bare = subst (Each NamesNothing) (sym of.are) (ap references_in (named_function of.first g of.names), numbers_bare args numbers are)

      ended : (weight : ObjectId → ℕ) → of_references weight (references_ended (facts_told told x.frame.function) x.frame.entries ts) ≡ 0
      ended weight =
          ap (λ fs. of_references weight (references_ended fs x.frame.entries ts)) same_facts
          ∙ bare_ended facts x.frame.entries weight ts x.ops.given (given m x.frame.function x.f a w s.memory x.frame.entries first.typed.entries p x.i x.here x.ops found) bare

      went_out : (n : HolderNext) → GoesBehind m told bound called x.rest (left_with m told bound x.frame x.ops) x.f it (record (unchanged s.memory) { results = rs }) n
          → CountedNext stored n
      went_out _ (GoesBehind.goes slots entries left put) =
          moved_counted m bound called x.rest x.frame x.f it x.ops rs slots entries stored x.is x.found put below
          (λ weight. brings_bare (facts_told told x.frame.function) [] [] (item_defined x.f it) [] rs (refl, tt) weight ∙ sym (ended weight))
          (kept_stored s called stored (record { size = refl; strongly = λ o. refl; named = λ how o. refl }) counts)
      went_out _ (GoesBehind.wrong_slot y e) = tt
      went_out _ (GoesBehind.wrong_result slots y e put) = tt

  -- ---- the step

  performed : (e : Effect HolderFault) → effect_there m bound s x ≡ e → (n : HolderNext)
      → Performs m told bound s x.rest (left_with m told bound x.frame x.ops) x.f it e n → CountedNext stored n
  performed _ is n (Performs.makes c _ moves) = absurd (no_change d (shapes_of m) values s.memory x.i x.ops.given c (by_call ∙ is))
  performed _ is n (Performs.calls g args callee _ there bodied before entering) = entered g args is callee there bodied before n entering
  performed _ is n (Performs.calls_out g args callee numbers _ there bodiless are turn moves) = went_out g args is callee there numbers are n moves
  performed _ is _ (Performs.no_turn g args callee numbers there bodiless are turn) = tt
  performed _ is _ (Performs.traps t) = tt
  performed _ is _ (Performs.no_callee g args there) = tt
  performed _ is _ (Performs.no_numbers g args callee there bodiless are) = tt
  performed _ is _ (Performs.wrong_place g args callee there bodied before) = tt
  performed _ is _ (Performs.faults y) = tt
  performed _ is _ Performs.unfit = tt

  acted : (n : HolderNext) → Acts m told bound s x.rest x.frame x.f n → CountedNext stored n
  acted n (Acts.does i ops _ here taken way) =
      let inst_is : i ≡ x.i = same_Some i x.i (sym here ∙ x.here) in
      let both : ◌≡◌ {A = Result Operands HolderFault} (Ok ops) (Ok x.ops) = sym taken ∙ x.found in
      let ops_are : ops ≡ x.ops = cc in
      performed (effect_there m bound s x) refl n
      (subst (λ (o : Operands). Performs m told bound s x.rest (left_with m told bound x.frame o) x.f it (holder_run.effect_in m told bound s x.frame x.i o.given) n) ops_are
      (subst (λ j. Performs m told bound s x.rest (left_with m told bound x.frame ops) x.f it (holder_run.effect_in m told bound s x.frame j ops.given) n) inst_is way))
  acted n (Acts.branches j _ stands one way) = absurd (none-some x.i (sym stands.behind ∙ x.here))
  acted n (Acts.chooses j choose y v k _ stands how by worth chosen way) = absurd (none-some x.i (sym stands.behind ∙ x.here))
  acted n (Acts.returns j ops y _ stands returns taken one way) = absurd (none-some x.i (sym stands.behind ∙ x.here))
  acted _ (Acts.unreachable j stands e) = tt
  acted _ (Acts.wrong_operand j y here taken) = tt
  acted _ (Acts.no_operand j choose stands how e) = tt
  acted _ (Acts.no_entry j choose stands how by) = tt
  acted _ (Acts.no_value j choose y stands how by e) = tt
  acted _ (Acts.no_choice j choose y v stands how by worth e) = tt
  acted _ (Acts.wrong_returned j y stands returns taken) = tt
  acted _ (Acts.not_one_returned j ops stands returns taken e) = tt
  acted _ (Acts.no_ending j stands e) = tt
  acted _ (Acts.no_terminator behind e) = tt

  never_drops : (os : List ObjectId) (rest : List (Task Frame)) → s.tasks ≡ Drops os ∷ rest → ⊥
  never_drops os rest is = let e : ◌≡◌ {A = List (Task Frame)} (Runs x.frame ∷ x.rest) (Drops os ∷ rest) = sym x.is ∙ is in cc

  never_finishes : (gs : List FuncId) (o : ObjectId) (rest : List (Task Frame)) → s.tasks ≡ Finishes gs o ∷ rest → ⊥
  never_finishes gs o rest is = let e : ◌≡◌ {A = List (Task Frame)} (Runs x.frame ∷ x.rest) (Finishes gs o ∷ rest) = sym x.is ∙ is in cc

  stepped : (n : HolderNext) → StepsBy m told bound s n → CountedNext stored n
  stepped n (StepsBy.runs frame rest f _ is there way) =
      let both : ◌≡◌ {A = List (Task Frame)} (Runs frame ∷ rest) (Runs x.frame ∷ x.rest) = sym is ∙ x.is in
      let frame_is : frame ≡ x.frame = cc in
      let rest_is : rest ≡ x.rest = cc in
      let body_is : f ≡ x.f = same_Some f x.f (sym there ∙ ap (λ (h : Frame). slice_get m.functions h.function.0) frame_is ∙ x.there) in
      acted n
      (subst (λ h. Acts m told bound s x.rest x.frame h n) body_is
      (subst (λ h. Acts m told bound s x.rest h f n) frame_is (subst (λ r. Acts m told bound s r frame f n) rest_is way)))
  stepped _ (StepsBy.dropped rest is) = absurd (never_drops [] rest is)
  stepped n (StepsBy.drops o os rest _ is way) = absurd (never_drops (o ∷ os) rest is)
  stepped n (StepsBy.finishes o rest _ is way) = absurd (never_finishes [] o rest is)
  stepped n (StepsBy.calls_deinit g gs o rest f _ is there way) = absurd (never_finishes (g ∷ gs) o rest is)
  stepped _ (StepsBy.no_task is) = tt
  stepped _ (StepsBy.no_function frame rest is there) = tt
  stepped _ (StepsBy.no_deinit g gs o rest is there) = tt

pub calls_counted : AreCallsCounted
calls_counted m bound s verified right next stored x call step counts =
    subst (CountedNext stored) step
    (stepped m bound s verified right x call stored counts (holder_run.step m (facts_of m) bound s) (steps_told m (facts_of m) bound s))
