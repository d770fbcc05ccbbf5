-- An edge of a `br` or `cond_br` is taken: a turn, and what it hands over becomes the arguments of its block.
use Rattle.std.proofs.Common.{◌≡◌, ◌+◌, ◌++◌, ◌∙◌, ℕ, List, [], ◌∷◌, Some, drop, length, map, refl, sym, ap, subst, arith}
use Rattle.std.specs.Prelude.{option_and_then, slice_get}
use Rattle.std.proofs.Math.Seq.{drop-append_seam}
use Rattle.std.proofs.lemmas.List.{map-append}
use Rattle.std.proofs.lemmas.Option.{same_Some}
use Rattle.count_machine_model.specs.holder_model.Data.{Datum}
use Rattle.count_machine_model.specs.holder_model.Edges.{carried_along, carried_by, edge_of}
use Rattle.count_machine_model.specs.holder_model.Effects.{unchanged}
use Rattle.count_machine_model.specs.holder_model.ModuleShapes.{shapes_of}
use Rattle.count_machine_model.specs.holder_model.Standing.{first_point, target_of}
use Rattle.count_machine_model.specs.holder_model.States as low
use Rattle.instruction_table.specs.Forms.{ending_of}
use Rattle.sil_cfg_items.specs.Items.{arg_value, item_defined, taken_along_in, taken_in}
use Rattle.sil_cfg_items.specs.Parts.{args_behind, edge_at, edge_in, item_operands, operands_in, terminator_of}
use Rattle.sil_cfg_items.specs.Roles.{consumed, taken_along, taken_by}
use Rattle.count_machine_model.specs.holder_model.LoweredRun.LowFrames.{LowFrame, put_all, read_all}
use Rattle.count_machine_model.specs.holder_model.LoweredRun.LowStepParts.{LowNext, LowState, numbers_for, on_ok, on_some, taken_value, values_taken}
use Rattle.count_machine_model.specs.holder_model.LoweredRun.LowSteps as run
use Rattle.count_machine_model.specs.declared.machine_steps.frame.Frame.{Frame}
use Rattle.count_machine_model.specs.declared.machine_steps.frame.Task.{Task}
use Rattle.count_machine_model.specs.MachineSteps.Calling.{carried}
use Rattle.count_machine_model.specs.MachineSteps.Ends as machine
use Rattle.count_machine_model.specs.MachineSteps.Operands.{with_all}
use Rattle.count_machine_model.specs.MachineSteps.Turning.{turn}
use Rattle.count_machine_model.specs.MachineSteps.Views.{Goes, MachineView, Went}
use Rattle.numbered_form.specs.Lists.{Each}
use Rattle.count_machine_model.specs.declared.ready_code.function.ReadyModule.{ReadyModule}
use Rattle.count_machine_model.specs.declared.ready_code.local.Carry.{Carry}
use Rattle.count_machine_model.specs.ReadyCode.Layout.{carry, value_carried, values_carried}
use Rattle.count_machine_model.specs.ReadyCode.ReadyEnds.{ready_edge}
use Rattle.count_machine_model.specs.holder_model.RunTyping.CallForms.{IsOf}
use Rattle.count_machine_model.specs.holder_model.RunTyping.EndForms.{EdgeForms, arguments_at, handed_over, value_in}
use Rattle.count_machine_model.specs.holder_model.RunTyping.Forms.{OfValue, form_of, forms_of, given_shape}
use Rattle.count_machine_model.specs.holder_model.RunTyping.RunTyped.{FunctionIsTyped, RunTyped}
use Rattle.holder_model_values.specs.RunValues.Shapes.{Shape}
use Rattle.sil_ast.specs.declared.function.Block.{Block}
use Rattle.sil_ast.specs.declared.function.Function.{Function}
use Rattle.sil_ast.specs.declared.inst.Edge.{Edge}
use Rattle.sil_ast.specs.declared.inst.Inst.{Inst}
use Rattle.sil_ast.specs.declared.module.Module.{Module}
use Rattle.sil_ast.specs.declared.operands.Operand.{Operand}
use Rattle.sil_ast.specs.declared.place.EdgeId.{EdgeId}
use Rattle.sil_ast.specs.declared.place.ValueId.{ValueId}
use Rattle.sil_cfg.specs.declared.item.Item.TheVariants as item
use Rattle.sil_types_declarations.specs.TypeDefinitions.Declarations.{Declarations, declarations_of}
use Rattle.count_machine_laws.proofs.Agreement.{PartsAgree, ends_of}
use Rattle.count_machine_laws.proofs.CallingValues.{OnlyValues, only_carried, parts_values, read_turned}
use Rattle.count_machine_laws.proofs.DropTasks.{tasks_move}
use Rattle.count_machine_laws.proofs.Ending.{Alike, alike_by, goes, turn_alike}
use Rattle.count_machine_laws.proofs.Entries.{Ends, FrameAgrees}
use Rattle.count_machine_laws.proofs.FrameGoes.{frame_goes_on, frame_moves, goes_on_plain}
use Rattle.count_machine_laws.proofs.FrameSteps.{Running, reads_alike}
use Rattle.count_machine_laws.proofs.Grows.{WereMade, were_made}
use Rattle.count_machine_laws.proofs.GrowsSame.{tasks_same}
use Rattle.count_machine_laws.proofs.GrowsTasks.{KeepsBelow, at_most_itself}
use Rattle.count_machine_laws.proofs.LayoutsLists.{there_below}
use Rattle.count_machine_laws.proofs.Numbers.{numbers_stay}
use Rattle.count_machine_laws.proofs.Objects.{is_of_class}
use Rattle.count_machine_laws.proofs.Operands.{AllRead}
use Rattle.count_machine_laws.proofs.Pushes.{carried_agrees}
use Rattle.count_machine_laws.proofs.Puts.{frame_stands}
use Rattle.count_machine_laws.proofs.Slots.{Made}
use Rattle.count_machine_laws.proofs.Tasks.{Beginning, TasksAgree, to_take}

-- an edge of the block where a frame stands
pub record EdgeThere (m : Module) (f : Function) (lf : LowFrame) (i : Inst) (k : ℕ) (e : Edge) : Type 0 where
  pub terminator : terminator_of f lf.at.block.0 ≡ Some i
  pub edge : slice_get i.edges k ≡ Some e
  pub takes : map taken_value (taken_by i) ≡ map value_in i.operands

module _ {m : Module} {f : Function} {lf : LowFrame} {i : Inst} {k : ℕ} {e : Edge} (there : EdgeThere m f lf i k e) where
  pub edge_is : edge_at f (edge_of lf.at k) ≡ Some e
  edge_is = ap (λ t. edge_in t k) there.terminator ∙ there.edge

  consumed_values : (os : List Operand) → map taken_value (map consumed os) ≡ map value_in os
  consumed_values [] = refl
  consumed_values (o ∷ os) = ap (λ vs. o.value ∷ vs) (consumed_values os)

  -- the terminator's operands are taken, and what the edge hands over
  pub edge_takes : values_taken f (item.Edge (edge_of lf.at k)) ≡ map value_in i.operands ++ handed_over e
  edge_takes =
      ap (λ t. map taken_value (taken_in t ++ taken_along_in (edge_at f (edge_of lf.at k)))) there.terminator
      ∙ ap (λ x. map taken_value (taken_by i ++ taken_along_in x)) edge_is
      ∙ map-append taken_value (taken_by i) (taken_along e)
      ∙ ap (λ vs. vs ++ map taken_value (taken_along e)) there.takes
      ∙ ap (λ vs. map value_in i.operands ++ vs) (consumed_values e.args)

  pub edge_defines : item_defined f (item.Edge (edge_of lf.at k)) ≡ arguments_at f e
  edge_defines = ap (λ x. map arg_value (args_behind f x)) edge_is

-- what is carried is what the edge hands over
pub carried_values : (d : Declarations) (f g : Function) (vs ws : List ValueId) (shapes : List Shape) → forms_of d f vs ≡ map OfValue shapes → forms_of d g ws ≡ map OfValue shapes
    → map machine.carried_value (values_carried d f g vs ws) ≡ vs
carried_values d f g [] ws shapes given taken = refl
carried_values d f g (v ∷ vs) ws [] given taken = absurd (omega (arith, ap length given))
carried_values d f g (v ∷ vs) [] (s ∷ shapes) given taken = absurd (omega (arith, ap length taken))
carried_values d f g (v ∷ vs) (w ∷ ws) (s ∷ shapes) given taken =
    ap (λ form. map machine.carried_value (value_carried d f g form (carry d f g v w) ++ values_carried d f g vs ws)) (same_Some (form_of d f v) (OfValue s) (ap (λ fs. slice_get fs 0) given))
    ∙ ap (λ us. v ∷ us) (carried_values d f g vs ws shapes (ap (drop 1) given) (ap (drop 1) taken))

each_behind : {A : Type 0} (P : A → Type 0) (xs ys : List A) → Each P (xs ++ ys) → Each P ys
each_behind P [] ys each = each
each_behind P (x ∷ xs) ys each = each_behind P xs ys each.1

module _ (m : Module) (ready : ReadyModule) (entry : Beginning) (bound : ℕ) (typed : RunTyped m) (made : List Made) (s : LowState) (st : MachineView) (f : Function) (lf : LowFrame)
    (mf : Frame) (below : Ends) (rest : List (low.Task LowFrame)) (rest' : List Task) (running : Running m entry made s st f lf mf below rest rest')
    (i : Inst) (k : ℕ) (e : Edge) (there : EdgeThere m f lf i k e) (forms : EdgeForms (declarations_of m) f e) where
  abbrev eid : EdgeId
  eid = edge_of lf.at k

  abbrev next : LowState
  next = record s { turns = s.turns + 1 }

  abbrev next' : MachineView
  next' = record st { turns = st.turns + 1 }

  abbrev carries : List Carry
  carries = values_carried (declarations_of m) f f (handed_over e) (arguments_at f e)

  abbrev arrived : MachineView
  arrived = carried next' mf mf carries

  function_typed : FunctionIsTyped m f
  function_typed = typed.functions lf.function.0 f running.frame.there

  are_defined : Each (IsOf f) (arguments_at f e)
  are_defined = subst (Each (IsOf f)) (edge_defines there) (function_typed.items (item.Edge eid)).defined

  are_taken : Each (IsOf f) (handed_over e)
  are_taken = each_behind (IsOf f) (map value_in i.operands) (handed_over e) (subst (Each (IsOf f)) (edge_takes there) (function_typed.items (item.Edge eid)).taken)

  were : WereMade made st.slots
  were = were_made running.parts.memory.slots

  arrives : PartsAgree m made next next' → (ys : List Datum) → AllRead m made s.memory st f mf (handed_over e) ys
      → Alike m entry (run.goes_on m (shapes_of m) bound next rest lf f (item.Edge eid) (record (unchanged next.memory) { results = ys }))
      (Goes (machine.with_top ready bound st mf rest' arrived (machine.in_block mf e.block.0)))
  arrives turned ys read =
      alike_by
      (goes_on_plain m (shapes_of m) bound next rest lf f (item.Edge eid) ys given.0 stay (ap (λ vs. put_all vs ys lf.values) (edge_defines there) ∙ given.1)
      ∙ ap (λ p. low.Goes (record next { tasks = low.Runs (record lf { at = p; values = given.0 }) ∷ rest })) (ap (λ x. first_point (target_of x)) (edge_is there)))
      refl
      (goes made (record next { tasks = low.Runs (record lf { at = first_point e.block.0; values = given.0 }) ∷ rest })
      (machine.with_top ready bound st mf rest' arrived (machine.in_block mf e.block.0))
      (frame_goes_on (parts_values turned only) running.reached
      (subst (FrameAgrees m made s.memory arrived f (record lf { at = first_point e.block.0; values = given.0 }) (machine.in_block mf e.block.0) below)
      (sym given.4) stands) others))
    where
      stay : numbers_for s.memory s.numbers ≡ s.numbers
      stay = numbers_stay m (is_of_class m s.memory) s.memory s.numbers st.heap running.parts.memory.objects

      only : OnlyValues next' arrived
      only = only_carried next' mf mf carries

      frame : FrameAgrees m made s.memory next' f lf mf below (ends_of st)
      frame = frame_moves {st = st} {st' = next'} were refl refl refl refl refl running.frame

      given : (values : _) × (put_all (arguments_at f e) ys lf.values ≡ Some values) × FrameAgrees m made s.memory arrived f (record lf { values = values }) mf below (ends_of st)
          × KeepsBelow below next' arrived × (ends_of arrived ≡ ends_of next')
      given =
          carried_agrees frame (at_most_itself (ends_of st)) (handed_over e) (arguments_at f e) ys forms.shapes are_taken are_defined forms.given forms.taken (read_turned were (st.turns + 1) read)

      block : (b : Block) × (slice_get f.blocks e.block.0 ≡ Some b)
      block = there_below f.blocks e.block.0 forms.block

      stands : FrameAgrees m made s.memory arrived f (record lf { at = first_point e.block.0; values = given.0 }) (machine.in_block mf e.block.0) below (ends_of st)
      stands = frame_stands given.2 (first_point e.block.0) block.0 block.1 (omega arith)

      others : TasksAgree m entry made s.memory arrived (to_take (given_shape (declarations_of m) f)) below rest rest'
      others =
          tasks_same {st = next'} {st' = arrived} were only.slots given.3
          (tasks_move {st = st} {st' = next'} were refl refl refl refl refl running.others)

  -- by the data of all that the edge's item takes
  abbrev carrying : List Datum → LowNext
  carrying carried = low.turn bound s (λ s'. run.goes_on m (shapes_of m) bound s' rest lf f (item.Edge eid) (record (unchanged s'.memory) { results = carried }))

  abbrev taking : List Datum → LowNext
  taking xs = on_some s carrying (carried_along f eid xs)

  -- what the edge carries is what it hands over, where the terminator's operands come first
  abbrev pub CarriesRest : Type 0
  CarriesRest = (xs : List Datum) → carried_by (ending_of i.op) f eid e xs ≡ Some (drop (length (item_operands f (item.Edge eid))) xs)

  carried_is : CarriesRest → (pre ys : List Datum) → length pre ≡ length i.operands → carried_along f eid (pre ++ ys) ≡ Some ys
  carried_is rest_carried pre ys long =
      ap (option_and_then (λ i. option_and_then (λ taken. carried_by (ending_of i.op) f eid taken (pre ++ ys)) (edge_at f eid))) there.terminator
      ∙ ap (option_and_then (λ taken. carried_by (ending_of i.op) f eid taken (pre ++ ys))) (edge_is there)
      ∙ rest_carried (pre ++ ys)
      ∙ ap (λ n. Some (drop n (pre ++ ys))) (ap (λ t. length (operands_in t)) there.terminator ∙ sym long)
      ∙ ap (λ xs. Some xs) (drop-append_seam pre ys)

  -- the edge is taken, after the terminator's operands were read
  pub edge_alike : CarriesRest → (pre : List Datum) → length pre ≡ length i.operands
      → ((go : List Datum → LowNext) → on_ok s go (read_all lf.values (map value_in i.operands ++ handed_over e)) ≡ on_ok s (λ ys. go (pre ++ ys)) (read_all lf.values (handed_over e)))
      → Alike m entry (run.takes_edge m (shapes_of m) bound s rest lf f eid) (machine.takes_edge ready bound st mf rest' (ready_edge (declarations_of m) f e))
  edge_alike rest_carried pre long behind =
      alike_by (ap (λ vs. on_ok s taking (read_all lf.values vs)) (edge_takes there) ∙ behind taking)
      (ap (λ vs. with_all st mf vs turning) (carried_values (declarations_of m) f f (handed_over e) (arguments_at f e) forms.shapes forms.given forms.taken))
      (reads_alike running.parts running.frame (handed_over e) are_taken (λ ys. taking (pre ++ ys)) turning
      (λ ys all. alike_by (ap (on_some s carrying) (carried_is rest_carried pre ys long)) refl
      (turn_alike running.parts bound (λ s'. run.goes_on m (shapes_of m) bound s' rest lf f (item.Edge eid) (record (unchanged s'.memory) { results = ys }))
      (λ after. Goes (machine.with_top ready bound st mf rest' (carried after mf mf carries) (machine.in_block mf e.block.0))) (λ turned. arrives turned ys all))))
    where
      turning : Went
      turning = turn bound st (λ after. Goes (machine.with_top ready bound st mf rest' (carried after mf mf carries) (machine.in_block mf e.block.0)))
