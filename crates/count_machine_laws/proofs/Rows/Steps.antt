-- A frame that runs: memory changes beside it, it is given a value, and it goes on behind its instruction.
use Rattle.std.proofs.Common.{◌≡◌, ◌<◌, ◌∙◌, ℕ, suc, List, [], ◌∷◌, ◌++◌, None, true, Option, Some, length, map, refl, sym, ap, subst, arith}
use Rattle.std.specs.Prelude.{set, slice_get}
use Rattle.std.proofs.lemmas.List.{append-nil, length-map}
use Rattle.std.proofs.lemmas.Option.{none-some, slice_get_within}
use Rattle.count_heap.specs.HeapModel.HeapViews.{HeapView}
use Rattle.count_machine_model.specs.holder_model.Data.{AddressOf, FunctionOf, ValueOf}
use Rattle.count_machine_model.specs.holder_model.Outcomes.{Numbers}
use Rattle.count_machine_model.specs.holder_model.Standing.{point_behind}
use Rattle.count_machine_model.specs.holder_model.States as low
use Rattle.sil_cfg_items.specs.Items.{item_defined}
use Rattle.sil_cfg_items.specs.Parts.{inst_at, inst_in, results_in}
use Rattle.count_machine_model.specs.holder_model.LoweredRun.LowFrames.{LowFrame}
use Rattle.count_machine_model.specs.holder_model.LoweredRun.LowStepParts.{LowState}
use Rattle.count_machine_model.specs.declared.machine_steps.address.Address.{Address}
use Rattle.count_machine_model.specs.declared.machine_steps.frame.Frame.{Frame}
use Rattle.count_machine_model.specs.declared.machine_steps.frame.Task.{Task}
use Rattle.count_machine_model.specs.declared.machine_steps.frame.Task.TheVariants as task
use Rattle.count_machine_model.specs.MachineSteps.Operands.{behind_op, go_on, put, put_address, put_there}
use Rattle.count_machine_model.specs.MachineSteps.Turning.{dropping}
use Rattle.count_machine_model.specs.MachineSteps.Views.{Goes, MachineView}
use Rattle.count_machine_model.specs.ReadyCode.Layout.{local, local_address}
use Rattle.count_machine_model.specs.holder_model.RunTyping.CallForms.{IsOf}
use Rattle.count_machine_model.specs.holder_model.RunTyping.Forms.{OfFunction, OfPlace, OfValue, form_of, given_shape}
use Rattle.holder_model_values.specs.RunValues.Leaves.{leaves_of}
use Rattle.holder_model_values.specs.RunValues.Memory.{Memory, is_dead_phase}
use Rattle.holder_model_values.specs.RunValues.Places.{Place}
use Rattle.holder_model_values.specs.RunValues.Shapes.{Shape}
use Rattle.holder_model_values.specs.RunValues.Values.{Value}
use Rattle.holder_model_values.specs.declared.run_values.leaf.Leaf.{Leaf}
use Rattle.sil_ast.specs.declared.function.Block.{Block}
use Rattle.sil_ast.specs.declared.function.Function.{Function}
use Rattle.sil_ast.specs.declared.inst.Inst.{Inst}
use Rattle.sil_ast.specs.declared.module.Module.{Module}
use Rattle.sil_ast.specs.declared.place.FuncId.{FuncId}
use Rattle.sil_ast.specs.declared.place.ObjectId.{ObjectId}
use Rattle.sil_ast.specs.declared.place.ValueId.{ValueId}
use Rattle.sil_cfg.specs.declared.item.Item.TheVariants as item
use Rattle.sil_types_declarations.specs.TypeDefinitions.Declarations.{declarations_of}
use Rattle.holder_model_values.specs.ValueParts.inner.Suits.{suits}
use Rattle.count_machine_laws.proofs.Agreement.{Agrees, PartsAgree, ends_of}
use Rattle.count_machine_laws.proofs.Changes.{Changes, SameSlots}
use Rattle.count_machine_laws.proofs.DropTasks.{both_dropping, tasks_move}
use Rattle.count_machine_laws.proofs.Ending.{Alike, goes, memory_moves}
use Rattle.count_machine_laws.proofs.Entries.{Ends, FrameAgrees}
use Rattle.count_machine_laws.proofs.FinishTasks.{finishing_phase}
use Rattle.count_machine_laws.proofs.FrameSteps.{Running}
use Rattle.count_machine_laws.proofs.Grows.{were_made}
use Rattle.count_machine_laws.proofs.GrowsBy.{grows_itself, grows_objects, objects_stay, serial_of}
use Rattle.count_machine_laws.proofs.GrowsTasks.{AtMost, KeepsBelow, PhasesStay, at_most_itself, frame_grows, keeps_slots, tasks_keep}
use Rattle.count_machine_laws.proofs.Memories.{NamesPlace}
use Rattle.count_machine_laws.proofs.Numbers.{alive_was_made}
use Rattle.count_machine_laws.proofs.Objects.{is_of_class}
use Rattle.count_machine_laws.proofs.Puts.{frame_stands, put_address_agrees, put_address_ends, put_address_keeps, put_agrees, put_ends, put_keeps, same_ends}
use Rattle.count_machine_laws.proofs.Puts.{put_there_agrees, put_there_ends, put_there_keeps}
use Rattle.count_machine_laws.proofs.Slots.{Made}
use Rattle.count_machine_laws.proofs.Tasks.{Beginning, TasksAgree, runs, to_go_on, to_take}

-- the block of an instruction, and its point

block_of : (f : Function) (block k : ℕ) (i : Inst) → inst_in (slice_get f.blocks block) k ≡ Some i → (b : Block) × (slice_get f.blocks block ≡ Some b) × (k < length b.insts)
block_of f block k i e = at (slice_get f.blocks block) refl
  where
    at : (b : Option Block) → slice_get f.blocks block ≡ b → (b : Block) × (slice_get f.blocks block ≡ Some b) × (k < length b.insts)
    at None is = absurd (none-some i (ap (λ b. inst_in b k) (sym is) ∙ e))
    at (Some b) is = (b, is, slice_get_within b.insts k i (ap (λ b. inst_in b k) (sym is) ∙ e))

-- what an instruction defines are its results
pub defined_by : (f : Function) (lf : LowFrame) (i : Inst) → inst_at f lf.at ≡ Some i → item_defined f (item.Inst lf.at) ≡ i.results
defined_by f lf i e = ap (λ o. results_in o ++ []) e ∙ append-nil i.results

module _ {m : Module} {entry : Beginning} {made : List Made} {s : LowState} {st : MachineView} {f : Function} {lf : LowFrame} {mf : Frame} {below : Ends}
    {rest : List (low.Task LowFrame)} {rest' : List Task} (running : Running m entry made s st f lf mf below rest rest') where
  -- memory changes, and the frame agrees with what it has become
  pub frame_changes : {mem' : Memory} {numbers' : List Numbers} {st' : MachineView} {lf' : LowFrame} (changes : Changes m made s.memory st mem' numbers' st')
      → FrameAgrees m changes.made' mem' st' f lf' mf below (ends_of st') → KeepsBelow below st st'
      → Running m entry changes.made' (record s { memory = mem'; numbers = numbers' }) st' f lf' mf below rest rest'
  frame_changes {mem' = mem'} changes frame keeps = record {
    parts = record {
      memory = changes.agrees;
      events = changes.frames.events ∙ running.parts.events;
      turns = changes.frames.turns ∙ running.parts.turns;
      retains = changes.frames.retains ∙ running.parts.retains;
      releases = changes.frames.releases ∙ running.parts.releases;
    };
    reached = running.reached;
    frame = frame;
    others = tasks_keep changes.grows keeps phases running.others;
    tasks = changes.frames.tasks ∙ running.tasks;
  }
    where
      phases : PhasesStay s.memory mem' rest'
      phases o now = changes.phases o (alive_was_made s.memory o (ap is_dead_phase (finishing_phase running.others o now)))

  -- memory changes, and the slots of frames stay
  pub memory_changes : {mem' : Memory} {numbers' : List Numbers} {st' : MachineView} (changes : Changes m made s.memory st mem' numbers' st') → SameSlots st st'
      → Running m entry changes.made' (record s { memory = mem'; numbers = numbers' }) st' f lf mf below rest rest'
  memory_changes {mem' = mem'} {st' = st'} changes same =
      frame_changes changes (subst (λ e. FrameAgrees m changes.made' mem' st' f lf mf below e) (sym ends) (frame_grows changes.grows (keeps (ends_of st)) running.frame)) (keeps below)
    where
      ends : ends_of st' ≡ ends_of st
      ends = same_ends st st' (ap length changes.frames.there) (ap length changes.frames.leaves) (ap length changes.frames.addresses)
          (sym (length-map st'.slots serial_of) ∙ ap length same ∙ length-map st.slots serial_of) (ap length changes.frames.waiting)

      keeps : (e : Ends) → KeepsBelow e st st'
      keeps e = keeps_slots e st st' changes.frames.there changes.frames.leaves changes.frames.addresses changes.frames.waiting same

  -- it is given a value

  parts_move : (st' : MachineView) → st'.slots ≡ st.slots → st'.slot_leaves ≡ st.slot_leaves → st'.heap ≡ st.heap → st'.serials ≡ st.serials → st'.events ≡ st.events
      → st'.turns ≡ st.turns → PartsAgree m made s st'
  parts_move st' slots leaves heap serials events turns = record {
    memory = memory_moves running.parts.memory slots leaves heap serials;
    events = events ∙ running.parts.events;
    turns = turns ∙ running.parts.turns;
    retains = ap (λ h. h.retains) heap ∙ running.parts.retains;
    releases = ap (λ h. h.releases) heap ∙ running.parts.releases;
  }

  others_keep : (st' : MachineView) → st'.slots ≡ st.slots → KeepsBelow below st st' → TasksAgree m entry made s.memory st' (to_take (given_shape (declarations_of m) f)) below rest rest'
  others_keep st' slots keeps =
      tasks_keep (grows_objects (were_made running.parts.memory.slots) (objects_stay s.memory s.memory refl) (ap (map serial_of) slots)) keeps (λ o now. refl) running.others

  -- what is counted changes
  pub counts_change : (numbers : List Numbers) (n : ℕ) (h : HeapView) → PartsAgree m made (record s { numbers = numbers; retains = n }) (record st { heap = h })
      → Running m entry made (record s { numbers = numbers; retains = n }) (record st { heap = h }) f lf mf below rest rest'
  counts_change numbers n h parts = record {
    parts = parts;
    reached = running.reached;
    frame = frame_grows (grows_itself (were_made running.parts.memory.slots) s.memory) (keeps_slots (ends_of st) st (record st { heap = h }) refl refl refl refl refl) running.frame;
    others = others_keep (record st { heap = h }) refl (keeps_slots below st (record st { heap = h }) refl refl refl refl refl);
    tasks = running.tasks;
  }

  module _ (r : ValueId) (is_of : IsOf f r) where
    pub value_put : (t : Shape) → form_of (declarations_of m) f r ≡ OfValue t → (x : Value) → suits (is_of_class m s.memory) t x ≡ true → (ls : List Leaf) → ls ≡ leaves_of t x
        → Running m entry made s (put st mf (local (declarations_of m) f r) ls) f (record lf { values = set lf.values r.0 (Some (ValueOf x)) }) mf below rest rest'
    value_put t form x fits ls is = record {
      parts = parts_move st' refl refl refl refl refl refl;
      reached = running.reached;
      frame = subst (λ e. FrameAgrees m made s.memory st' f (record lf { values = set lf.values r.0 (Some (ValueOf x)) }) mf below e)
          (sym (put_ends running.frame reach r is_of t x ls form fits is)) (put_agrees running.frame reach r is_of t x ls form fits is);
      others = others_keep st' refl (put_keeps running.frame reach r is_of t x ls form fits is);
      tasks = running.tasks;
    }
      where
        st' : MachineView
        st' = put st mf (local (declarations_of m) f r) ls

        reach : AtMost (ends_of st) (ends_of st)
        reach = at_most_itself (ends_of st)

    pub address_put : (p : Place) → form_of (declarations_of m) f r ≡ OfPlace p.shape → (a : Address) → NamesPlace m made st.slots s.memory a p
        → Running m entry made s (put_address st mf (local_address (declarations_of m) f r) a) f (record lf { values = set lf.values r.0 (Some (AddressOf p)) }) mf below rest rest'
    address_put p form a names = record {
      parts = parts_move st' refl refl refl refl refl refl;
      reached = running.reached;
      frame = subst (λ e. FrameAgrees m made s.memory st' f (record lf { values = set lf.values r.0 (Some (AddressOf p)) }) mf below e)
          (sym (put_address_ends running.frame reach r is_of a)) (put_address_agrees running.frame reach r is_of p a form names);
      others = others_keep st' refl (put_address_keeps running.frame reach r is_of a);
      tasks = running.tasks;
    }
      where
        st' : MachineView
        st' = put_address st mf (local_address (declarations_of m) f r) a

        reach : AtMost (ends_of st) (ends_of st)
        reach = at_most_itself (ends_of st)

    pub function_put : (g : FuncId) → form_of (declarations_of m) f r ≡ OfFunction g
        → Running m entry made s (put_there st mf r) f (record lf { values = set lf.values r.0 (Some (FunctionOf g)) }) mf below rest rest'
    function_put g form = record {
      parts = parts_move st' refl refl refl refl refl refl;
      reached = running.reached;
      frame = subst (λ e. FrameAgrees m made s.memory st' f (record lf { values = set lf.values r.0 (Some (FunctionOf g)) }) mf below e)
          (sym (put_there_ends running.frame reach r is_of)) (put_there_agrees running.frame reach r is_of g form);
      others = others_keep st' refl (put_there_keeps running.frame reach r is_of);
      tasks = running.tasks;
    }
      where
        st' : MachineView
        st' = put_there st mf r

        reach : AtMost (ends_of st) (ends_of st)
        reach = at_most_itself (ends_of st)

  -- it goes on

  behind_frame : (i : Inst) → inst_at f lf.at ≡ Some i → FrameAgrees m made s.memory st f (record lf { at = point_behind lf.at }) (behind_op mf) below (ends_of st)
  behind_frame i there =
      let block = block_of f lf.at.block.0 lf.at.index i there in
      subst (λ fr. FrameAgrees m made s.memory st f (record lf { at = point_behind lf.at }) fr below (ends_of st)) same
      (frame_stands running.frame (point_behind lf.at) block.0 block.1 (omega (arith, block.2)))
    where
      same : record mf { block = lf.at.block.0; index = suc lf.at.index } ≡ behind_op mf
      same =
          ap (λ n. record mf { block = n; index = suc lf.at.index }) (sym running.frame.at_block)
          ∙ ap (λ n. record mf { index = n }) (omega (arith, running.frame.at_index))

  -- with a view whose tasks are others
  tasks_behind : (i : Inst) → inst_at f lf.at ≡ Some i
      → TasksAgree m entry made s.memory st to_go_on (ends_of st) (low.Runs (record lf { at = point_behind lf.at }) ∷ rest) (task.Runs (behind_op mf) ∷ rest')
  tasks_behind i there = runs f (record lf { at = point_behind lf.at }) (behind_op mf) below (ends_of st) rest rest' running.reached (behind_frame i there) running.others

  module _ (i : Inst) (there : inst_at f lf.at ≡ Some i) where
    abbrev low_behind : LowState
    low_behind = record s { tasks = low.Runs (record lf { at = point_behind lf.at }) ∷ rest }

    abbrev machine_behind : MachineView
    machine_behind = record st { tasks = task.Runs (behind_op mf) ∷ rest' }

    agrees_behind : Agrees m entry made low_behind machine_behind
    agrees_behind = record {
      parts = record {
        memory = memory_moves running.parts.memory refl refl refl refl;
        events = running.parts.events;
        turns = running.parts.turns;
        retains = running.parts.retains;
        releases = running.parts.releases;
      };
      tasks = tasks_move (were_made running.parts.memory.slots) refl refl refl refl refl (tasks_behind i there);
    }

    pub goes_behind : Alike m entry (low.Goes low_behind) (go_on st mf rest')
    goes_behind = goes made low_behind machine_behind agrees_behind

    -- references are dropped first
    pub goes_dropping : (os : List ObjectId)
        → Alike m entry (low.Goes (record s { tasks = low.dropping os (low.Runs (record lf { at = point_behind lf.at }) ∷ rest) })) (Goes (dropping os machine_behind))
    goes_dropping os = goes made (record low_behind { tasks = low.dropping os low_behind.tasks }) (dropping os machine_behind) (both_dropping agrees_behind os)
