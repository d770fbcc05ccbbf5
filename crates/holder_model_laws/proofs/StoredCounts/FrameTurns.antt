-- Stored numbers where frames are entered and left, and where an item hands on what it took.
use Rattle.std.proofs.Common.{◌≡◌, ℕ, ◌+◌, List, [], ◌∷◌, refl, sym, ap, ◌∙◌, Bool, true, false, ◌||◌, arith}
use Rattle.std.proofs.lemmas.Bool.{false≢true}
use Rattle.sil_ast.specs.declared.decl.Storage.TheVariants as storage
use Rattle.sil_ast.specs.declared.function.Function.{Function}
use Rattle.sil_ast.specs.declared.module.Module.{Module}
use Rattle.sil_ast.specs.declared.place.ObjectId.{ObjectId}
use Rattle.sil_cfg.specs.declared.item.Item.{Item}
use Rattle.sil_cfg_items.specs.Items.{item_taken}
use Rattle.holder_model.specs.holder_model_values.RunValues.Values.{references_of}
use Rattle.holder_model.specs.Calling.{holds_something}
use Rattle.holder_model.specs.Effects.{unchanged}
use Rattle.holder_model.specs.Frames.{Entry, Frame, Gone, Held, Lent, Operands, Plain, is_held}
use Rattle.holder_model.specs.HolderStates.{HolderState, in_entry, in_task, strong_holders}
use Rattle.holder_model.specs.Holders.{of_references, one_object}
use Rattle.holder_model.specs.ModuleFacts.{ModuleFacts, facts_told}
use Rattle.holder_model.specs.Outcomes.{returned_holders}
use Rattle.holder_model.specs.StepParts.{new_frame}
use Rattle.holder_model.specs.States.{Runs, Task}
use Rattle.holder_model_laws.specs.HolderLaws.inner.Counts.Moving.{in_tasks}
use Rattle.holder_model_laws.specs.HolderLaws.inner.Counts.Taking.{in_entries}
use Rattle.holder_model_laws.proofs.HolderLaws.Counts.Entries.{ends_counted}
use Rattle.holder_model_laws.proofs.HolderLaws.Counts.Moves.{entries_counted, first_task, moves_counted, operands_are}
use Rattle.holder_model_laws.proofs.HolderLaws.Counts.Sums.{total_cons}
use Rattle.holder_model_laws.specs.StoredCounts.inner.FrameTurns.{AreCallsStored, AreLeftStored, AreReturnsStored, LeavesNothing, Reads, ended_in}
use Rattle.holder_model_laws.proofs.StoredCounts.Turns.{kept_stored, same_numbers}

-- entries of which none is held hold nothing
none_held : (weight : ObjectId → ℕ) (entries : List Entry) → holds_something entries ≡ false → in_entries weight entries ≡ 0
none_held weight [] e = refl
none_held weight (x ∷ entries) e =
    let whole : in_entries weight (x ∷ entries) ≡ in_entry weight x + in_entries weight entries = total_cons (in_entry weight) x entries in
    let first = one x (left_off (is_held x) (holds_something entries) e) in
    let rest = none_held weight entries (right_off (is_held x) (holds_something entries) e) in
    omega (arith, whole, first, rest)
  where
    left_off : (a b : Bool) → (a || b) ≡ false → a ≡ false
    left_off true b e = e
    left_off false b e = refl

    right_off : (a b : Bool) → (a || b) ≡ false → b ≡ false
    right_off true b e = absurd (false≢true (sym e))
    right_off false b e = e

    one : (x : Entry) → is_held x ≡ false → in_entry weight x ≡ 0
    one Gone e = refl
    one (Held x) e = absurd (false≢true (sym e))
    one (Lent x) e = refl
    one (Plain x) e = refl

module _ (m : Module) (told : ModuleFacts) (bound : ℕ) where
  -- what the operands that end take away from a frame
  left_counted : (s : HolderState) (rest : List (Task Frame)) (frame : Frame) (f : Function) (i : Item) (ops : Operands) → Reads m told bound s rest frame f i ops → (o : ObjectId)
      → in_entries (one_object o) ops.left + ended_in m told bound frame f i o ≡ in_entries (one_object o) frame.entries
  left_counted s rest frame f i ops h o =
      ends_counted (one_object o) (facts_told told frame.function) (item_taken f i) frame.entries ops.left
      (operands_are (facts_told told frame.function) s.memory frame.entries (item_taken f i) ops h.taken).left

  -- what the first task and the others hold
  tasks_are : (s : HolderState) (t : Task Frame) (rest : List (Task Frame)) → s.tasks ≡ t ∷ rest → (o : ObjectId)
      → in_tasks (one_object o) s.tasks ≡ in_task (one_object o) t + in_tasks (one_object o) rest
  tasks_are s t rest at o = ap (in_tasks (one_object o)) at ∙ first_task (one_object o) t rest

  pub calls_stored : AreCallsStored m told bound
  calls_stored s rest frame f i ops lent g callee args entries stored h counts =
      kept_stored s _ stored (record {
        size = h.hands.size;
        strongly = λ o.
            let waits : Task Frame = Runs (record frame { entries = ops.left; lent = lent }) in
            let enters = entries_counted m told bound (one_object o) s (waits ∷ rest) g callee args entries h.put h.each in
            let first = first_task (one_object o) (Runs (new_frame g entries)) (waits ∷ rest) in
            let second = first_task (one_object o) waits rest in
            let left = left_counted s rest frame f i ops h.reads o in
            let same = h.same o in
            let memory = h.hands.named storage.Strong o in
            let before = tasks_are s (Runs frame) rest h.reads.at o in
            omega (arith, enters, first, second, left, same, memory, before);
        named = h.hands.named;
      }) counts

  -- what the frame held that returns
  returned_total : (s : HolderState) (rest : List (Task Frame)) (frame : Frame) (f : Function) (i : Item) (ops : Operands) → LeavesNothing m told bound s rest frame f i ops → (o : ObjectId)
      → in_tasks (one_object o) s.tasks ≡ ended_in m told bound frame f i o + in_tasks (one_object o) rest
  returned_total s rest frame f i ops h o =
      let left = left_counted s rest frame f i ops h.reads o in
      let none = none_held (one_object o) ops.left h.none in
      let before = tasks_are s (Runs frame) rest h.reads.at o in
      omega (arith, left, none, before)

  pub returns_stored : AreReturnsStored m told bound
  returns_stored s rest callee body i ops x frame f call slots entries stored h counts =
      kept_stored s _ stored (record {
        size = refl;
        strongly = λ o.
            let move = moves_counted m told bound (one_object o) s rest frame f call (record (unchanged s.memory) { results = x ∷ [] }) slots entries h.put h.each in
            let total = returned_total s (Runs frame ∷ rest) callee body i ops h.leaves o in
            let below = first_task (one_object o) (Runs frame) rest in
            let same = h.same o in
            omega (arith, move, total, below, same);
        named = λ how o. refl;
      }) counts

  pub left_stored : AreLeftStored m told bound
  left_stored s callee body i ops x stored h same counts o =
      counts.each o ∙ same_numbers _ (returned_holders (record s { tasks = [] }) (references_of x) o) strong refl refl
    where
      strong : strong_holders s o ≡ strong_holders (record s { tasks = [] }) o + of_references (one_object o) (references_of x)
      strong =
          let total : in_tasks (one_object o) s.tasks ≡ ended_in m told bound callee body i o + 0 = returned_total s [] callee body i ops h o in
          let given = same o in
          omega (arith, total, given)
