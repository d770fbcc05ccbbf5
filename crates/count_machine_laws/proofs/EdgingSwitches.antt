-- Switches.
use Rattle.std.proofs.Common.{◌≡◌, ◌<◌, ◌+◌, ◌++◌, ◌∙◌, ℕ, List, [], ◌∷◌, true, Option, Some, None, drop, length, map, refl, set, sym, ap, subst, take, arith}
use Rattle.std.specs.Prelude.{Ok, option_and_then, option_map, slice_get, unwrap_or}
use Rattle.std.proofs.lemmas.Option.{none-some, same_Some, slice_get-map}
use Rattle.count_machine_model.specs.holder_model.Data.{Datum, ValueOf}
use Rattle.count_machine_model.specs.holder_model.Edges.{carried_along, carried_by, case_edge, edge_of, switched_data}
use Rattle.count_machine_model.specs.holder_model.Effects.{unchanged}
use Rattle.count_machine_model.specs.holder_model.ModuleShapes.{shape_at, shapes_in, shapes_of}
use Rattle.count_machine_model.specs.holder_model.Standing.{first_point, target_of}
use Rattle.count_machine_model.specs.holder_model.States as low
use Rattle.count_machine_model.specs.holder_model.StepParts.{switched_shape}
use Rattle.instruction_table.specs.Forms.{ending_of}
use Rattle.instruction_table.specs.declared.entries.Ending.TheVariants as ending
use Rattle.sil_cfg_items.specs.Parts.{args_behind, edge_at}
use Rattle.count_machine_model.specs.holder_model.LoweredRun.LowFrames.{LowFrame, put_all, read_all}
use Rattle.count_machine_model.specs.holder_model.LoweredRun.LowStepParts.{LowNext, LowState, numbers_for, on_ok, on_some, values_taken}
use Rattle.count_machine_model.specs.holder_model.LoweredRun.LowSteps as run
use Rattle.count_machine_model.specs.declared.machine_steps.frame.Frame.{Frame}
use Rattle.count_machine_model.specs.declared.machine_steps.frame.Task.{Task}
use Rattle.count_machine_model.specs.MachineSteps.Ends as machine
use Rattle.count_machine_model.specs.MachineSteps.Operands.{contents, first_leaf, put}
use Rattle.count_machine_model.specs.MachineSteps.Views.{Goes, MachineView, Went}
use Rattle.numbered_form.specs.Lists.{Each}
use Rattle.count_machine_model.specs.declared.ready_code.block.ReadyCase.{ReadyCase}
use Rattle.count_machine_model.specs.declared.ready_code.block.ReadyEnd.TheVariants as end
use Rattle.count_machine_model.specs.declared.ready_code.function.ReadyModule.{ReadyModule}
use Rattle.count_machine_model.specs.ReadyCode.Layout.{leaves_in, local, size_of}
use Rattle.count_machine_model.specs.ReadyCode.ReadyEnds.{AreReadyCases, ready_case}
use Rattle.count_machine_model.specs.ReadyCode.ReadyOps.{first_of, operands_of}
use Rattle.count_machine_model.specs.holder_model.RunTyping.CallForms.{IsOf}
use Rattle.count_machine_model.specs.holder_model.RunTyping.EndForms.{EndForms, TakenCase, arguments_at, branch, branches, cases, handed_over, returns, unreachable, value_in}
use Rattle.count_machine_model.specs.holder_model.RunTyping.Forms.{OfValue, form_of, given_shape}
use Rattle.count_machine_model.specs.holder_model.RunTyping.RowForms.{IsEnum}
use Rattle.count_machine_model.specs.holder_model.RunTyping.RunTyped.{RunTyped}
use Rattle.holder_model_values.specs.RunValues.Layers.{CaseLayer}
use Rattle.holder_model_values.specs.RunValues.Leaves.{leaves_of}
use Rattle.holder_model_values.specs.RunValues.Shapes.{Shape, Unknown, case_shapes}
use Rattle.holder_model_values.specs.RunValues.Values.{Value}
use Rattle.holder_model_values.specs.declared.run_values.leaf.Leaf.{Leaf}
use Rattle.sil_ast.specs.declared.function.Block.{Block}
use Rattle.sil_ast.specs.declared.function.Function.{Function}
use Rattle.sil_ast.specs.declared.inst.Edge.{Edge}
use Rattle.sil_ast.specs.declared.inst.Inst.{Inst}
use Rattle.sil_ast.specs.declared.module.Module.{Module}
use Rattle.sil_ast.specs.declared.operands.Operand.{Operand}
use Rattle.sil_ast.specs.declared.place.EdgeId.{EdgeId}
use Rattle.sil_ast.specs.declared.place.ValueId.{ValueId}
use Rattle.sil_cfg.specs.declared.item.Item.TheVariants as item
use Rattle.sil_types_declarations.specs.TypeDefinitions.Declarations.{Declarations, declarations_of}
use Rattle.holder_model_values.specs.ValueParts.inner.Suits.{suits}
use Rattle.count_machine_laws.proofs.Agreement.{Agrees, PartsAgree, ends_of}
use Rattle.count_machine_laws.proofs.CallingValues.{only_put, parts_values}
use Rattle.count_machine_laws.proofs.DropTasks.{tasks_move}
use Rattle.count_machine_laws.proofs.Edging.{EdgeThere, edge_defines, edge_is, edge_takes}
use Rattle.count_machine_laws.proofs.EdgingBranches.{OperandRead, StandsAtEnd, operand_alike}
use Rattle.count_machine_laws.proofs.EdgingCases.{Brings, brings, case_is, nothing, payload, ready_there}
use Rattle.count_machine_laws.proofs.Ending.{Alike, alike_by, goes, turn_alike}
use Rattle.count_machine_laws.proofs.Entries.{Ends, FrameAgrees}
use Rattle.count_machine_laws.proofs.FrameGoes.{frame_goes_on, frame_moves, goes_on_plain}
use Rattle.count_machine_laws.proofs.FrameSteps.{Running}
use Rattle.count_machine_laws.proofs.Grows.{WereMade, were_made}
use Rattle.count_machine_laws.proofs.GrowsSame.{tasks_same}
use Rattle.count_machine_laws.proofs.GrowsTasks.{at_most_itself}
use Rattle.count_machine_laws.proofs.LayoutsLists.{there_below}
use Rattle.count_machine_laws.proofs.Numbers.{numbers_stay}
use Rattle.count_machine_laws.proofs.Objects.{is_of_class}
use Rattle.count_machine_laws.proofs.Puts.{frame_stands, put_agrees, put_ends, put_keeps}
use Rattle.count_machine_laws.proofs.Rows.Shapes.{shape_in_form, shape_told}
use Rattle.count_machine_laws.proofs.Slots.{Made}
use Rattle.count_machine_laws.proofs.Tasks.{Beginning, TasksAgree, to_take}

switch_forms : (d : Declarations) (f : Function) (i : Inst) (v : ValueId) (s : Shape) → ending_of i.op ≡ ending.Cases → operands_of i ≡ v ∷ [] → form_of d f v ≡ OfValue s
    → EndForms d f i → IsEnum s × ((k : ℕ) (c : CaseLayer Shape) → slice_get (case_shapes s) k ≡ Some c → TakenCase d f i s k c)
switch_forms d f i v s is one form (branch e is' bare edge forms) = absurd (cc)
switch_forms d f i v s is one form (branches set clear is' operands set_is clear_is set_forms clear_forms) = absurd (cc)
switch_forms d f i v s is one form (cases t is' operands shape all) =
    let same : OfValue t ≡ OfValue s = same_Some (OfValue t) (OfValue s) (ap (λ fs. slice_get fs 0) (sym operands) ∙ ap (λ vs. slice_get (map (form_of d f) vs) 0) one ∙ ap (λ x. Some x) form) in
    let shapes : t ≡ s = cc in
    (subst IsEnum shapes shape, subst (λ u. (k : ℕ) (c : CaseLayer Shape) → slice_get (case_shapes u) k ≡ Some c → TakenCase d f i u k c) shapes all)
switch_forms d f i v s is one form (returns is' operands) = absurd (cc)
switch_forms d f i v s is one form (unreachable is') = absurd (cc)

-- control arrives at a block that is given nothing, or one value
module _ (m : Module) (ready : ReadyModule) (entry : Beginning) (bound : ℕ) (made : List Made) (s : LowState) (st : MachineView) (f : Function) (lf : LowFrame)
    (mf : Frame) (below : Ends) (rest : List (low.Task LowFrame)) (rest' : List Task) (running : Running m entry made s st f lf mf below rest rest')
    (turned : PartsAgree m made (record s { turns = s.turns + 1 }) (record st { turns = st.turns + 1 })) (e : Edge) (are_of : Each (IsOf f) (arguments_at f e))
    (block : Block) (block_there : slice_get f.blocks e.block.0 ≡ Some block) where
  abbrev next' : MachineView
  next' = record st { turns = st.turns + 1 }

  pub record Arrives (after : MachineView) (ys : List Datum) : Type 0 where
    pub values : List (Option Datum)
    pub put : put_all (arguments_at f e) ys lf.values ≡ Some values
    pub agrees : Agrees m entry made (record s { turns = s.turns + 1; tasks = low.Runs (record lf { at = first_point e.block.0; values = values }) ∷ rest })
        (machine.with_top ready bound st mf rest' after (machine.in_block mf e.block.0))

  were : WereMade made st.slots
  were = were_made running.parts.memory.slots

  frame : FrameAgrees m made s.memory next' f lf mf below (ends_of st)
  frame = frame_moves {st = st} {st' = next'} were refl refl refl refl refl running.frame

  others : TasksAgree m entry made s.memory next' (to_take (given_shape (declarations_of m) f)) below rest rest'
  others = tasks_move {st = st} {st' = next'} were refl refl refl refl refl running.others

  arrives_bare : arguments_at f e ≡ [] → Arrives next' []
  arrives_bare bare = record {
    values = lf.values;
    put = ap (λ vs. put_all vs [] lf.values) bare;
    agrees = frame_goes_on turned running.reached (frame_stands frame (first_point e.block.0) block block_there (omega arith)) others;
  }

  arrives_with : (w : ValueId) (t : Shape) (y : Value) (ls : List Leaf) → arguments_at f e ≡ w ∷ [] → form_of (declarations_of m) f w ≡ OfValue t
      → suits (is_of_class m s.memory) t y ≡ true → ls ≡ leaves_of t y → Arrives (put next' mf (local (declarations_of m) f w) ls) (ValueOf y ∷ [])
  arrives_with w t y ls one form fits leaves = record {
    values = set lf.values w.0 (Some (ValueOf y));
    put = ap (λ vs. put_all vs (ValueOf y ∷ []) lf.values) one;
    agrees = frame_goes_on (parts_values turned (only_put next' after.there after.leaves after.addresses)) running.reached
        (subst (FrameAgrees m made s.memory after f (record lf { at = first_point e.block.0; values = set lf.values w.0 (Some (ValueOf y)) }) (machine.in_block mf e.block.0) below)
        (sym (put_ends frame (at_most_itself (ends_of st)) w is_of t y ls form fits leaves))
        (frame_stands (put_agrees frame (at_most_itself (ends_of st)) w is_of t y ls form fits leaves) (first_point e.block.0) block block_there (omega arith)))
        (tasks_same {st = next'} {st' = after} were refl (put_keeps frame (at_most_itself (ends_of st)) w is_of t y ls form fits leaves) others);
  }
    where
      after : MachineView
      after = put next' mf (local (declarations_of m) f w) ls

      is_of : IsOf f w
      is_of = (subst (Each (IsOf f)) one are_of).0

  -- where the payload's leaves are put
  pub arrives : (shape : Shape) (x : Value) (ls : List Leaf) → ls ≡ leaves_of shape x → Brings (declarations_of m) f (is_of_class m s.memory) shape x e
      → Arrives (machine.put_payload ready bound st mf rest' (ready_case (declarations_of m) f e).payload ls next') (switched_data e (length (args_behind f (Some e))) x)
  arrives shape x ls leaves (nothing bare brought) =
      subst (λ a. Arrives a (switched_data e (length (args_behind f (Some e))) x))
      (sym (ap (λ vs. machine.put_payload ready bound st mf rest' (option_map (local (declarations_of m) f) (first_of vs)) ls next') bare))
      (subst (Arrives next') (sym brought) (arrives_bare bare))
  arrives shape x ls leaves (payload w t y one form fits read brought) =
      subst (λ a. Arrives a (switched_data e (length (args_behind f (Some e))) x))
      (sym (ap (λ vs. machine.put_payload ready bound st mf rest' (option_map (local (declarations_of m) f) (first_of vs)) ls next') one))
      (subst (Arrives (put next' mf (local (declarations_of m) f w) (take (local (declarations_of m) f w).size (drop 1 ls)))) (sym brought)
      (arrives_with w t y (take (local (declarations_of m) f w).size (drop 1 ls)) one form fits
      (ap (λ form. take (leaves_in form) (drop 1 ls)) form ∙ ap (λ l. take (size_of t) (drop 1 l)) leaves ∙ read)))

first_operand : (shapes : List Shape) (v : ValueId) (o : Option Operand) → option_map value_in o ≡ Some v → unwrap_or (option_map (λ o. shape_at shapes o.value) o) Unknown ≡ shape_at shapes v
first_operand shapes v None e = absurd (none-some v e)
first_operand shapes v (Some o) e = ap (shape_at shapes) (same_Some o.value v e)

module _ (m : Module) (ready : ReadyModule) (entry : Beginning) (bound : ℕ) (typed : RunTyped m) (made : List Made) (s : LowState) (st : MachineView) (f : Function) (lf : LowFrame)
    (mf : Frame) (below : Ends) (rest : List (low.Task LowFrame)) (rest' : List Task) (running : Running m entry made s st f lf mf below rest rest')
    (i : Inst) (stands : StandsAtEnd m f lf i) (is : ending_of i.op ≡ ending.Cases) (v : ValueId) (one : operands_of i ≡ v ∷ []) where
  switched : (shape : Shape) → form_of (declarations_of m) f v ≡ OfValue shape → switched_shape (shapes_in (shapes_of m) lf.function) i ≡ shape
  switched shape form =
      first_operand (shapes_in (shapes_of m) lf.function) v (slice_get i.operands 0) (sym (slice_get-map value_in i.operands 0) ∙ ap (λ vs. slice_get vs 0) one)
      ∙ shape_told m lf.function f running.frame.there v ∙ ap shape_in_form form

  -- the edge with a number is taken, where the operand was read
  module _ (k : ℕ) (e : Edge) (edge : slice_get i.edges k ≡ Some e) (bare : e.args ≡ []) (block : e.block.0 < length f.blocks) (shape : Shape) (x : Value)
      (known : read_all lf.values (v ∷ []) ≡ Ok (ValueOf x ∷ [])) (ls : List Leaf) (leaves : ls ≡ leaves_of shape x)
      (brought : Brings (declarations_of m) f (is_of_class m s.memory) shape x e) where
    abbrev eid : EdgeId
    eid = edge_of lf.at k

    there : EdgeThere m f lf i k e
    there = record { terminator = stands.terminator; edge = edge; takes = stands.takes }

    takes_operand : values_taken f (item.Edge eid) ≡ v ∷ []
    takes_operand = edge_takes there ∙ ap (λ vs. vs ++ handed_over e) one ∙ ap (λ os. v ∷ map value_in os) bare

    abbrev ys : List Datum
    ys = switched_data e (length (args_behind f (Some e))) x

    carried_is : carried_along f eid (ValueOf x ∷ []) ≡ Some ys
    carried_is =
        ap (option_and_then (λ i. option_and_then (λ taken. carried_by (ending_of i.op) f eid taken (ValueOf x ∷ [])) (edge_at f eid))) stands.terminator
        ∙ ap (option_and_then (λ taken. carried_by (ending_of i.op) f eid taken (ValueOf x ∷ []))) (edge_is there)
        ∙ ap (λ y. carried_by y f eid e (ValueOf x ∷ [])) is

    abbrev carrying : List Datum → LowNext
    carrying carried = low.turn bound s (λ s'. run.goes_on m (shapes_of m) bound s' rest lf f (item.Edge eid) (record (unchanged s'.memory) { results = carried }))

    case_alike : Alike m entry (run.takes_edge m (shapes_of m) bound s rest lf f eid) (machine.takes_case ready bound st mf rest' ls (Some (ready_case (declarations_of m) f e)))
    case_alike =
        alike_by
        (ap (λ vs. on_ok s taking (read_all lf.values vs)) takes_operand ∙ ap (on_ok s taking) known ∙ ap (on_some s carrying) carried_is) refl
        (turn_alike running.parts bound (λ s'. run.goes_on m (shapes_of m) bound s' rest lf f (item.Edge eid) (record (unchanged s'.memory) { results = ys }))
        (λ after. Goes (to after)) by)
      where
        taking : List Datum → LowNext
        taking xs = on_some s carrying (carried_along f eid xs)

        to : MachineView → MachineView
        to after = machine.with_top ready bound st mf rest' (machine.put_payload ready bound st mf rest' (ready_case (declarations_of m) f e).payload ls after) (machine.in_block mf e.block.0)

        next : LowState
        next = record s { turns = s.turns + 1 }

        stay : numbers_for s.memory s.numbers ≡ s.numbers
        stay = numbers_stay m (is_of_class m s.memory) s.memory s.numbers st.heap running.parts.memory.objects

        are_of : Each (IsOf f) (arguments_at f e)
        are_of = subst (Each (IsOf f)) (edge_defines there) ((typed.functions lf.function.0 f running.frame.there).items (item.Edge eid)).defined

        by : PartsAgree m made next (record st { turns = st.turns + 1 })
            → Alike m entry (run.goes_on m (shapes_of m) bound next rest lf f (item.Edge eid) (record (unchanged s.memory) { results = ys })) (Goes (to (record st { turns = st.turns + 1 })))
        by turned =
            let to_block = there_below f.blocks e.block.0 block in
            let arrived = arrives m ready entry bound made s st f lf mf below rest rest' running turned e are_of to_block.0 to_block.1 shape x ls leaves brought in
            alike_by
            (goes_on_plain m (shapes_of m) bound next rest lf f (item.Edge eid) ys arrived.values stay (ap (λ vs. put_all vs ys lf.values) (edge_defines there) ∙ arrived.put)
            ∙ ap (λ p. low.Goes (record next { tasks = low.Runs (record lf { at = p; values = arrived.values }) ∷ rest })) (ap (λ y. first_point (target_of y)) (edge_is there)))
            refl
            (goes made (record next { tasks = low.Runs (record lf { at = first_point e.block.0; values = arrived.values }) ∷ rest }) (to (record st { turns = st.turns + 1 })) arrived.agrees)

  pub switch_alike : (shape : Shape) (ready_cases : List ReadyCase) → form_of (declarations_of m) f v ≡ OfValue shape → AreReadyCases (declarations_of m) f i shape ready_cases
      → Alike m entry (run.ends_block_by m (shapes_of m) bound (ending_of i.op) s rest lf f i) (machine.ends_with ready bound st mf rest' (end.Switch (local (declarations_of m) f v) ready_cases))
  switch_alike shape ready_cases form are =
      alike_by (ap (λ x. run.ends_block_by m (shapes_of m) bound x s rest lf f i) is) refl
      (operand_alike m ready entry bound typed made s st f lf mf below rest rest' running i stands v shape one form chosen to by)
    where
      ls : List Leaf
      ls = contents st mf (local (declarations_of m) f v)

      to : Went
      to = machine.takes_case ready bound st mf rest' ls (slice_get ready_cases (machine.tag_in_leaf (first_leaf ls)))

      goes_along : ℕ → LowNext
      goes_along k = run.takes_edge m (shapes_of m) bound s rest lf f (edge_of lf.at k)

      chosen : List Datum → LowNext
      chosen = run.chosen_edge m (shapes_of m) bound s (run.switch_edge m (shapes_of m) bound lf i) goes_along

      forms : IsEnum shape × ((k : ℕ) (c : CaseLayer Shape) → slice_get (case_shapes shape) k ≡ Some c → TakenCase (declarations_of m) f i shape k c)
      forms = switch_forms (declarations_of m) f i v shape is one form stands.forms

      by : (read : OperandRead m ready entry bound typed made s st f lf mf below rest rest' running i stands v shape) → Alike m entry (chosen (ValueOf read.value ∷ [])) to
      by read =
          let case_ = case_is (is_of_class m s.memory) shape read.value forms.0 read.fits in
          let taken = forms.1 case_.place case_.case_ case_.there in
          alike_by
          (ap (λ u. on_some s goes_along (case_edge u i.edges read.value)) (switched shape form) ∙ ap (on_some s goes_along) (case_.chosen i.edges ∙ taken.chosen))
          (ap (λ l. machine.takes_case ready bound st mf rest' ls (slice_get ready_cases (machine.tag_in_leaf l))) (ap first_leaf read.leaves ∙ case_.tag)
          ∙ ap (machine.takes_case ready bound st mf rest' ls) (ready_there (declarations_of m) f i shape ready_cases case_.place case_.case_ are case_.there taken))
          (case_alike taken.edge taken.to taken.there taken.forms.bare taken.forms.block shape read.value read.known ls read.leaves
          (brings (declarations_of m) f (is_of_class m s.memory) shape read.value taken.to case_.case_ case_.payload taken.forms))
