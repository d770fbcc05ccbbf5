-- An edge is taken: both runs read the same, carry it over, and put it under the numbers of the block's arguments.
use Rattle.std.proofs.Common.{◌≡◌, ◌⊎◌, inl, inr, ℕ, ◌+◌, List, [], ◌∷◌, ◌++◌, length, map, drop, refl, sym, ap, ◌∙◌, subst, Bool, true, false, cond, Option, Some, None, Ok, Err}
use Rattle.std.specs.Prelude.{◌==◌, nat_lt, option_and_then, option_map, slice_get}
use Rattle.std.specs.declared.result.Result.{Result}
use Rattle.std.proofs.lemmas.List.{length-map, map-append}
use Rattle.std.proofs.lemmas.Option.{none-some, same_Some}
use Rattle.instruction_table.specs.Forms.{ending_of, roles_of}
use Rattle.instruction_table.specs.declared.entries.Ending.{Ending}
use Rattle.instruction_table.specs.declared.entries.Ending.TheVariants as ending
use Rattle.instruction_table.specs.declared.op.Op.{Op}
use Rattle.instruction_table.specs.declared.op.Op.TheVariants as op
use Rattle.argument_conventions.specs.declared.convention.ArgumentConvention.{ArgumentConvention}
use Rattle.sil_cfg_items.specs.Items.{item_defined, item_taken, taken_along_in, taken_in}
use Rattle.sil_cfg_items.specs.Parts.{edge_at, item_operands, operands_in, terminator_of}
use Rattle.sil_cfg_items.specs.Roles.{conventions_in, consumed, roles_for, taken_along, taken_by, taken_each}
use Rattle.numbered_form.specs.Lists.{Each}
use Rattle.ownership_kinds_chains.specs.declared.ownership_chains.facts.Facts.{Facts}
use Rattle.sil_ast.specs.Blocks.{args_of}
use Rattle.sil_ast.specs.declared.function.Function.{Function}
use Rattle.sil_ast.specs.declared.inst.Edge.{Edge}
use Rattle.sil_ast.specs.declared.inst.Inst.{Inst}
use Rattle.sil_ast.specs.declared.module.Module.{Module}
use Rattle.sil_ast.specs.declared.operands.Operand.{Operand}
use Rattle.sil_ast.specs.declared.place.EdgeId.{EdgeId}
use Rattle.sil_ast.specs.declared.place.ValueId.{ValueId}
use Rattle.sil_cfg.specs.Items.{IsItem}
use Rattle.sil_cfg.specs.declared.item.Item.TheVariants as item
use Rattle.sil_types_declarations.specs.TypeDefinitions.Declarations.{Declarations, declarations_of}
use Rattle.holder_model_values.specs.RunValues.Values.{Value}
use Rattle.numbered_form.specs.ValueTables.FirstValue.{first_value, value_of}
use Rattle.sil_verifier_runs.specs.sil_verifier_trails.RunTrails.inner.RunTrails.{IsTurnedTrail}
use Rattle.sil_verifier_runs.specs.holder_model.Data.{Datum, ValueOf, AddressOf, FunctionOf, as_value}
use Rattle.sil_verifier_runs.specs.holder_model.Edges.{carried_along, carried_by, first_value_of, is_default, payload_data, switched_data}
use Rattle.sil_verifier_runs.specs.holder_model.Effects.{unchanged}
use Rattle.sil_verifier_runs.specs.holder_model.Faults.{HolderFault, WrongShape}
use Rattle.sil_verifier_runs.specs.holder_model.Frames.{Entry, Frame, Operands, operands_of, result_put, results_put, with_ok}
use Rattle.sil_verifier_runs.specs.holder_model.HolderStates.{HolderNext, HolderState}
use Rattle.sil_verifier_runs.specs.holder_model.ModuleFacts.{facts_of, facts_told}
use Rattle.sil_verifier_runs.specs.holder_model.ModuleShapes.{ModuleShapes, shapes_of}
use Rattle.sil_verifier_runs.specs.holder_model.Standing.{behind, first_point, target_of}
use Rattle.sil_verifier_runs.specs.holder_model.States.{Ends, OutOfTurns, Runs, Task}
use Rattle.sil_verifier_runs.specs.holder_model.LoweredRun.LowFrames as low_frames
use Rattle.sil_verifier_runs.specs.holder_model.LoweredRun.LowFrames.{LowFrame, and_others, read_all}
use Rattle.sil_verifier_runs.specs.holder_model.LoweredRun.LowStepParts.{LowNext, LowState, taken_value, values_taken}
use Rattle.ownership_lowering_laws.specs.ownership_lowering_model.LoweredModules.{lowered, lowered_body}
use Rattle.ownership_lowering_laws.specs.ownership_lowering_model.Numbers.{renumbered_edge, renumbered_inst, renumbered_operand}
use Rattle.sil_verifier_runs.specs.holder_model_laws.HolderLaws.inner.Steps.Ways as holder
use Rattle.sil_verifier_runs.specs.holder_model_laws.LoweredSteps.inner.LowWays as ways
use Rattle.ownership_lowering_runs.specs.StoredRuns.inner.Along.{AreTotalsFor, IsNextAlong, IsNoFault, TakesNoAddress}
use Rattle.ownership_lowering_runs.specs.StoredRuns.inner.EdgesTaken.{AreEdgesTaken}
use Rattle.ownership_lowering_runs.specs.StoredRuns.inner.Frames.{AreTasksFor, AreValuesFor, HasFullParts, IsFrameAt}
use Rattle.ownership_lowering_runs.specs.StoredRuns.inner.Lowering.{IsEdgeLowered, IsOtherName, IsOwnName, LowersSo}
use Rattle.ownership_lowering_runs.specs.StoredRuns.inner.Memories.{IsMemoryFor}
use Rattle.ownership_lowering_runs.specs.StoredRuns.inner.Names.{lowered_number}
use Rattle.ownership_lowering_runs.specs.StoredRuns.inner.Points.{lowered_point}
use Rattle.ownership_lowering_runs.specs.StoredRuns.inner.Runs.{IsEndingFor}
use Rattle.ownership_lowering_runs.proofs.StoredRuns.Along.GoesAlong.{LowBehind, PutsSo, goes_along, puts_none, puts_own}
use Rattle.ownership_lowering_runs.proofs.StoredRuns.Lowered.LoweredCode.{first_lowered, low_edge, low_terminator}
use Rattle.ownership_lowering_runs.proofs.StoredRuns.Reading.{AreReadSo, behind_nothing, behind_renamed, taken_exact, taken_read, taken_renumbered}
use Rattle.ownership_lowering_runs.proofs.StoredRuns.ValuesFor.{AreTakenSo, err-ok, ok-ok, operands_given}

-- ---- options

some_parts : {A B : Type 0} (go : A → Option B) (o : Option A) (y : B) → option_and_then go o ≡ Some y → (x : A) × (o ≡ Some x) × (go x ≡ Some y)
some_parts go None y e = absurd (none-some y e)
some_parts go (Some x) y e = (x, refl, e)

mapped_parts : {A B : Type 0} (go : A → B) (o : Option A) (y : B) → option_map go o ≡ Some y → (x : A) × (o ≡ Some x) × (go x ≡ y)
mapped_parts go None y e = absurd (none-some y e)
mapped_parts go (Some x) y e = (x, refl, same_Some (go x) y e)

-- ---- what an edge carries

module _ (f : Function) (e : EdgeId) (xs : List Datum) where
  pub record IsCarried (carried : List Datum) : Type 0 where
    pub t : Inst
    pub y : Edge
    pub ends : terminator_of f e.block.0 ≡ Some t
    pub there : edge_at f e ≡ Some y
    pub by : carried_by (ending_of t.op) f e y xs ≡ Some carried

  pub carried_parts : (carried : List Datum) → carried_along f e xs ≡ Some carried → IsCarried carried
  carried_parts carried h =
      let t = some_parts (λ (i : Inst). option_and_then (λ (y : Edge). carried_by (ending_of i.op) f e y xs) (edge_at f e)) (terminator_of f e.block.0) carried h in
      let y = some_parts (λ (y : Edge). carried_by (ending_of t.0.op) f e y xs) (edge_at f e) carried t.2 in
      record { t = t.0; y = y.0; ends = t.1; there = y.1; by = y.2 }

  pub parts_carried : (t : Inst) (y : Edge) (carried : List Datum) → terminator_of f e.block.0 ≡ Some t → edge_at f e ≡ Some y
      → carried_by (ending_of t.op) f e y xs ≡ Some carried → carried_along f e xs ≡ Some carried
  parts_carried t y carried ends there h =
      ap (option_and_then (λ (i : Inst). option_and_then (λ (y : Edge). carried_by (ending_of i.op) f e y xs) (edge_at f e))) ends
      ∙ ap (option_and_then (λ (y : Edge). carried_by (ending_of t.op) f e y xs)) there ∙ h

-- ---- what the item of an edge takes, under other numbers

module _ (number : ValueId → ValueId) where
  along_renumbered : (os : List Operand) → map taken_value (map consumed (map (renumbered_operand number) os)) ≡ map number (map taken_value (map consumed os))
  along_renumbered [] = refl
  along_renumbered (o ∷ os) = ap (λ vs. number o.value ∷ vs) (along_renumbered os)

  pub edge_renumbered : (t : Inst) (y : Edge)
      → map taken_value (taken_by (renumbered_inst number t) ++ taken_along (renumbered_edge number y)) ≡ map number (map taken_value (taken_by t ++ taken_along y))
  edge_renumbered t y =
      map-append taken_value (taken_by (renumbered_inst number t)) (taken_along (renumbered_edge number y))
      ∙ ap (λ vs. vs ++ map taken_value (taken_along (renumbered_edge number y))) (taken_renumbered number t)
      ∙ ap (λ vs. map number (map taken_value (taken_by t)) ++ vs) (along_renumbered y.args)
      ∙ sym (map-append number (map taken_value (taken_by t)) (map taken_value (taken_along y)))
      ∙ ap (map number) (sym (map-append taken_value (taken_by t) (taken_along y)))

-- a terminator that chooses takes what it chooses by first of all
chosen_first : (o : Op) → (ending_of o ≡ ending.TwoBranches) ⊎ (ending_of o ≡ ending.Cases) → (cs : List ArgumentConvention) (a : Operand) (os : List Operand)
    → (more : List ValueId) × (map taken_value (taken_each (a ∷ os) (roles_for (roles_of o) cs (length (a ∷ os)))) ≡ a.value ∷ more)
chosen_first op.CondBr e cs a os = (_, refl)
chosen_first op.SwitchEnum e cs a os = (_, refl)
chosen_first _ (inl e) cs a os = absurd (cc)
chosen_first _ (inr e) cs a os = absurd (cc)

pub first_taken_of : (t : Inst) (w : ValueId) → (ending_of t.op ≡ ending.TwoBranches) ⊎ (ending_of t.op ≡ ending.Cases) → first_value t ≡ Some w
    → (more : List ValueId) × (map taken_value (taken_by t) ≡ w ∷ more)
first_taken_of t w chooses first = at t.operands first
  where
    at : (os : List Operand) → option_map value_of (slice_get os 0) ≡ Some w
        → (more : List ValueId) × (map taken_value (taken_each os (roles_for (roles_of t.op) (conventions_in t) (length os))) ≡ w ∷ more)
    at [] h = absurd (none-some w h)
    at (a ∷ os) h =
        let more = chosen_first t.op chooses (conventions_in t) a os in
        (more.0, more.1 ∙ ap (λ v. v ∷ more.0) (same_Some a.value w h))

-- what is read first
and_parts : (r : _) (rest : _) (z : Datum) (zs : List Datum) → and_others r rest ≡ Ok (z ∷ zs) → r ≡ Ok z
and_parts (Err x) rest z zs e = absurd (cc)
and_parts (Ok x) (Err y) z zs e = absurd (cc)
and_parts (Ok x) (Ok xs) z zs e = cc

read_first : (values : List (Option Datum)) (v : ValueId) (vs : List ValueId) (z : Datum) (zs : List Datum) → read_all values (v ∷ vs) ≡ Ok (z ∷ zs)
    → low_frames.value_at values v ≡ Some z
read_first values v vs z zs e = at (low_frames.value_at values v) (and_parts (low_frames.there v (low_frames.value_at values v)) (read_all values vs) z zs e)
  where
    at : (o : Option Datum) → low_frames.there v o ≡ Ok z → o ≡ Some z
    at None h = absurd (cc)
    at (Some x) h = cc

pub value_is : (z : Datum) (x : Value) → as_value z ≡ Some x → z ≡ ValueOf x
value_is (ValueOf y) x e = ap ValueOf (same_Some y x e)
value_is (AddressOf p) x e = absurd (none-some x e)
value_is (FunctionOf g) x e = absurd (none-some x e)

first_is : (zs : List Datum) (x : Value) → first_value_of zs ≡ Some x → (more : List Datum) × (zs ≡ ValueOf x ∷ more)
first_is [] x e = absurd (none-some x e)
first_is (z ∷ zs) x e = (zs, ap (λ y. y ∷ zs) (value_is z x e))

-- one argument, or none
put_few : (facts : ValueId → Option Facts) (rs : List ValueId) (one : Bool) (z : Datum) (left entries : List Entry)
    → results_put facts rs (cond one [] (z ∷ [])) left ≡ Ok entries
    → ((rs ≡ []) × (left ≡ entries)) ⊎ ((r : ValueId) × (rs ≡ r ∷ []) × (results_put facts (r ∷ []) (z ∷ []) left ≡ Ok entries))
put_few facts [] true z left entries e = inl (refl, ok-ok left entries e)
put_few facts [] false z left entries e = absurd (err-ok WrongShape entries e)
put_few facts (r ∷ rs) true z left entries e = absurd (err-ok WrongShape entries e)
put_few facts (r ∷ []) false z left entries e = inr (r, refl, e)
put_few facts (r ∷ q ∷ rs) false z left entries e = absurd (at (result_put facts r z left) e)
  where
    at : (o : Result (List Entry) HolderFault) → with_ok (results_put facts (q ∷ rs) []) o ≡ Ok entries → ⊥
    at (Ok es) h = err-ok WrongShape entries h
    at (Err x) h = err-ok x entries h

module _ (m : Module) (bound : ℕ) (s : HolderState) (l : LowState) (frame : Frame) (rest : List (Task Frame)) (f : Function)
    (low : LowFrame) (lrest : List (Task LowFrame)) (e : EdgeId)
    (totals : AreTotalsFor s l) (memory : IsMemoryFor s.memory l.memory) (size : length l.numbers ≡ length s.memory.objects)
    (there : slice_get m.functions frame.function.0 ≡ Some f) (lowers : LowersSo m frame.function f) (frames : IsFrameAt (declarations_of m) f frame low)
    (rest_for : AreTasksFor m rest lrest) (full : Each (HasFullParts m l.memory) (Runs low ∷ lrest))
    (is_item : IsItem f (item.Edge e)) (trail : IsTurnedTrail f (item.Edge e ∷ frame.trail)) (plain : TakesNoAddress m s frame f (item.Edge e)) where
  abbrev d : Declarations
  d = declarations_of m

  abbrev low_told : ModuleShapes
  low_told = shapes_of (lowered m)

  abbrev lf : Function
  lf = lowered_body d f

  abbrev number : ValueId → ValueId
  number v = lowered_number d f v

  abbrev facts : ValueId → Option Facts
  facts v = facts_told (facts_of m) frame.function v

  turn : (b : Bool) → nat_lt s.turns bound ≡ b → nat_lt l.turns bound ≡ b
  turn b h = ap (λ n. nat_lt n bound) totals.turns ∙ h

  abbrev totals' : AreTotalsFor (holder.turned s) (ways.turned l)
  totals' = record { events = totals.events; turns = ap (λ n. n + 1) totals.turns; retains = totals.retains; releases = totals.releases }

  module _ (ops : Operands) (found : operands_of facts s.memory frame.entries (item_taken f (item.Edge e)) ≡ Ok ops)
      (carried : List Datum) (along : carried_along f e ops.given ≡ Some carried) where
    taken_so : AreTakenSo facts s.memory frame.entries (item_taken f (item.Edge e)) ops
    taken_so = operands_given facts s.memory frame.entries (item_taken f (item.Edge e)) ops found

    reads : AreReadSo d f lowers.named low.values (item_taken f (item.Edge e)) ops.given
    reads =
        taken_read d f lowers.named low.values frame.trail s.memory facts frame.entries (item_taken f (item.Edge e)) ops.given frames.values
        (lowers.taken (item.Edge e) is_item) (lowers.current frame.trail (item.Edge e) trail) taken_so.given

    exact : reads.ys ≡ ops.given
    exact = taken_exact d f lowers.named low.values (item_taken f (item.Edge e)) ops.given reads.ys reads.like (plain ops found)

    parts : IsCarried f e ops.given carried
    parts = carried_parts f e ops.given carried along

    abbrev t' : Inst
    t' = renumbered_inst number parts.t

    abbrev y' : Edge
    y' = renumbered_edge number parts.y

    low_ends : terminator_of lf e.block.0 ≡ Some t'
    low_ends = low_terminator d f e.block.0 parts.t parts.ends

    low_there : edge_at lf e ≡ Some y'
    low_there = low_edge d f e parts.y parts.there

    taken_are : (g : Function) (t : Inst) (y : Edge) → terminator_of g e.block.0 ≡ Some t → edge_at g e ≡ Some y
        → values_taken g (item.Edge e) ≡ map taken_value (taken_by t ++ taken_along y)
    taken_are g t y ends is =
        ap (λ o. map taken_value (taken_in o ++ taken_along_in (edge_at g e))) ends ∙ ap (λ o. map taken_value (taken_by t ++ taken_along_in o)) is

    low_taken : values_taken lf (item.Edge e) ≡ map number (map taken_value (item_taken f (item.Edge e)))
    low_taken =
        taken_are lf t' y' low_ends low_there ∙ edge_renumbered number parts.t parts.y
        ∙ ap (map number) (sym (taken_are f parts.t parts.y parts.ends parts.there))

    low_read : read_all low.values (values_taken lf (item.Edge e)) ≡ Ok ops.given
    low_read = ap (read_all low.values) low_taken ∙ reads.read ∙ ap Ok exact

    abbrev left : Frame
    left = record frame { entries = ops.left }

    left_frames : IsFrameAt d f left low
    left_frames = record {
      function = frames.function;
      at = frames.at;
      slots = frames.slots;
      size = frames.size;
      values = λ v x h ok. frames.values v x (taken_so.stays v x h) ok;
    }

    target : behind lf (item.Edge e) ≡ lowered_point d f (behind f (item.Edge e))
    target =
        ap (λ o. first_point (target_of o)) low_there ∙ first_lowered d f parts.y.block.0
        ∙ ap (λ o. lowered_point d f (first_point (target_of o))) (sym parts.there)

    abbrev Puts : List Datum → List Entry → Type 0
    Puts ys entries =
        PutsSo m bound (holder.turned s) (ways.turned l) totals' memory size left rest f lowers there low lrest left_frames rest_for full (item.Edge e) (item.Edge e) ys entries

    abbrev IsPut : List Entry → Type 0
    IsPut entries = results_put facts (item_defined f (item.Edge e)) carried ops.left ≡ Ok entries

    -- what the lowered edge carries, and that it is put
    record LowCarried : Type 0 where
      low_carried : List Datum
      low_along : carried_along lf e ops.given ≡ Some low_carried
      puts : (entries : List Entry) → IsPut entries → Puts low_carried entries

    -- ---- the block keeps its arguments

    as_many_operands : length (item_operands lf (item.Edge e)) ≡ length (item_operands f (item.Edge e))
    as_many_operands =
        ap (λ o. length (operands_in o)) low_ends ∙ length-map parts.t.operands (renumbered_operand number) ∙ ap (λ o. length (operands_in o)) (sym parts.ends)

    same_carried : length (args_of lf parts.y.block.0) ≡ length (args_of f parts.y.block.0) → (x : Ending)
        → carried_by x lf e y' ops.given ≡ carried_by x f e parts.y ops.given
    same_carried many ending.Inside = refl
    same_carried many ending.OneBranch = ap (λ n. Some (drop n ops.given)) as_many_operands
    same_carried many ending.TwoBranches = ap (λ n. Some (drop n ops.given)) as_many_operands
    same_carried many ending.Cases = ap (λ n. option_map (switched_data parts.y n) (first_value_of ops.given)) many
    same_carried many ending.Return = refl
    same_carried many ending.Unreachable = refl

    no_entry : item.Edge e ≡ item.Entry → ⊥
    no_entry h = absurd (cc)

    kept : length (args_of lf parts.y.block.0) ≡ length (args_of f parts.y.block.0)
        → item_defined lf (item.Edge e) ≡ map number (item_defined f (item.Edge e)) → Each (IsOwnName f) (item_defined f (item.Edge e)) → LowCarried
    kept many defines own = record {
      low_carried = carried;
      low_along = parts_carried lf e ops.given t' y' carried low_ends low_there (same_carried many (ending_of parts.t.op) ∙ parts.by);
      puts = λ entries put. puts_own m bound (holder.turned s) (ways.turned l) totals' memory size left rest f lowers there low lrest left_frames rest_for full
          (item.Edge e) no_entry own (item.Edge e) defines carried entries put;
    }

    -- ---- the block's argument is another name for what is switched

    module _ (w : ValueId) (switches : ending_of parts.t.op ≡ ending.Cases) (first : first_value parts.t ≡ Some w) (default : is_default parts.y ≡ true)
        (no_args : args_of lf parts.y.block.0 ≡ []) (none : item_defined lf (item.Edge e) ≡ []) (names : Each (IsOtherName d f w) (item_defined f (item.Edge e))) where
      by_cases : option_map (switched_data parts.y (length (args_of f parts.y.block.0))) (first_value_of ops.given) ≡ Some carried
      by_cases = ap (λ x. carried_by x f e parts.y ops.given) (sym switches) ∙ parts.by

      switched : (x : Value) × (first_value_of ops.given ≡ Some x) × (switched_data parts.y (length (args_of f parts.y.block.0)) x ≡ carried)
      switched = mapped_parts (switched_data parts.y (length (args_of f parts.y.block.0))) (first_value_of ops.given) carried by_cases

      abbrev x : Value
      x = switched.0

      carried_is : cond (length (args_of f parts.y.block.0) == 0) [] (ValueOf x ∷ []) ≡ carried
      carried_is = ap (λ b. cond b (cond (length (args_of f parts.y.block.0) == 0) [] (ValueOf x ∷ [])) (payload_data x)) (sym default) ∙ switched.2

      low_along : carried_along lf e ops.given ≡ Some []
      low_along =
          parts_carried lf e ops.given t' y' [] low_ends low_there
          (ap (λ z. carried_by z lf e y' ops.given) switches
          ∙ ap (λ args. option_map (switched_data parts.y (length args)) (first_value_of ops.given)) no_args
          ∙ ap (option_map (switched_data parts.y 0)) switched.1
          ∙ ap (λ b. Some (cond b (cond (0 == 0) [] (ValueOf x ∷ [])) (payload_data x))) default)

      under : low_frames.value_at low.values (number w) ≡ Some (ValueOf x)
      under =
          let head = first_taken_of parts.t w (inr switches) first in
          let given = first_is ops.given x switched.1 in
          let values : values_taken lf (item.Edge e) ≡ number w ∷ map number (head.0 ++ map taken_value (taken_along parts.y)) =
          low_taken
          ∙ ap (map number) (taken_are f parts.t parts.y parts.ends parts.there ∙ map-append taken_value (taken_by parts.t) (taken_along parts.y)
          ∙ ap (λ vs. vs ++ map taken_value (taken_along parts.y)) head.1) in
          read_first low.values (number w) (map number (head.0 ++ map taken_value (taken_along parts.y))) (ValueOf x) given.0
          (ap (read_all low.values) (sym values) ∙ low_read ∙ ap Ok given.1)

      shown_behind : (entries : List Entry) → IsPut entries → AreValuesFor d f (item.Edge e ∷ frame.trail) entries low.values
      shown_behind entries put =
          at (put_few facts (item_defined f (item.Edge e)) (length (args_of f parts.y.block.0) == 0) (ValueOf x) ops.left entries
          (ap (λ zs. results_put facts (item_defined f (item.Edge e)) zs ops.left) carried_is ∙ put))
        where
          at : ((item_defined f (item.Edge e) ≡ []) × (ops.left ≡ entries))
              ⊎ ((r : ValueId) × (item_defined f (item.Edge e) ≡ r ∷ []) × (results_put facts (r ∷ []) (ValueOf x ∷ []) ops.left ≡ Ok entries))
              → AreValuesFor d f (item.Edge e ∷ frame.trail) entries low.values
          at (inl (defines, same)) =
              subst (λ es. AreValuesFor d f (item.Edge e ∷ frame.trail) es low.values) same
              (behind_nothing d f lowers.named frame.trail (item.Edge e) defines ops.left low.values left_frames.values)
          at (inr (r, defines, put_one)) =
              let other = subst (Each (IsOtherName d f w)) defines names in
              behind_renamed d f lowers.named facts frame.trail (item.Edge e) r (ValueOf x) defines ops.left entries low.values put_one
              (ap (low_frames.value_at low.values) other.0.1 ∙ under) left_frames.values

      gone : LowCarried
      gone = record {
        low_carried = [];
        low_along = low_along;
        puts = λ entries put. puts_none m bound (holder.turned s) (ways.turned l) totals' memory size left rest f lowers there low lrest left_frames rest_for full
            (item.Edge e) (item.Edge e) none entries (shown_behind entries put);
      }

    low_carried : LowCarried
    low_carried = at (lowers.edges e parts.y parts.there)
      where
        at : IsEdgeLowered d f e parts.y → LowCarried
        at (IsEdgeLowered.keeps many defines own) = kept many defines own
        at (IsEdgeLowered.names t w ends switches first default no_args none names) =
            let same : t ≡ parts.t = same_Some t parts.t (sym ends ∙ parts.ends) in
            gone w (ap (λ (i : Inst). ending_of i.op) (sym same) ∙ switches) (ap first_value (sym same) ∙ first) default no_args none names

    took : (next : HolderNext) → holder.GoesBehind m (facts_of m) bound (holder.turned s) rest left f (item.Edge e) (record (unchanged s.memory) { results = carried }) next
        → IsNoFault next
        → LowBehind m bound (holder.turned s) (ways.turned l) totals' memory size left rest f lowers there low lrest left_frames rest_for full (item.Edge e) low_carried.low_carried next
    took next way none =
        goes_along m bound (holder.turned s) (ways.turned l) totals' memory size left rest f lowers there low lrest left_frames rest_for full
        (item.Edge e) (item.Edge e) target carried low_carried.low_carried low_carried.puts next way none

  pub record LowTaken (next : HolderNext) : Type 0 where
    pub low_next : LowNext
    pub way : ways.TakesEdge (lowered m) low_told bound l lrest low lf e low_next
    pub for : IsNextAlong m l.numbers next low_next

  taken : (next : HolderNext) → holder.TakesEdge m (facts_of m) bound s rest frame f e next → IsNoFault next → LowTaken next
  taken _ (holder.TakesEdge.takes ops carried next found along some way) none =
      let c = low_carried ops found carried along in
      let b = took ops found carried along next way none in
      record {
        low_next = b.low_next;
        way = ways.TakesEdge.takes ops.given c.low_carried b.low_next (low_read ops found carried along) c.low_along (turn true some) b.way;
        for = b.for;
      }
  taken _ (holder.TakesEdge.no_turn ops carried found along some) none =
      let c = low_carried ops found carried along in
      record {
        low_next = Ends OutOfTurns l;
        way = ways.TakesEdge.no_turn ops.given c.low_carried (low_read ops found carried along) c.low_along (turn false some);
        for = IsNextAlong.ends OutOfTurns s OutOfTurns l
            (record { events = totals.events; ending = IsEndingFor.out_of_turns; left = refl; retains = totals.retains; releases = totals.releases });
      }
  taken _ (holder.TakesEdge.wrong_operand x h) none = absurd (none x s refl)
  taken _ (holder.TakesEdge.not_carried ops found h) none = absurd (none WrongShape s refl)

pub are_edges_taken : AreEdgesTaken
are_edges_taken m bound s l frame rest f low lrest e next totals memory size there lowers frames rest_for full is_item trail plain way none =
    let t = taken m bound s l frame rest f low lrest e totals memory size there lowers frames rest_for full is_item trail plain next way none in
    (t.low_next, t.way, t.for)
