-- What the state holds behind each way of a step.
use Rattle.std.proofs.Common.{◌≡◌, ℕ, ◌+◌, List, [], ◌∷◌, refl, sym, ap, ◌∙◌, subst, Ok, arith}
use Rattle.std.specs.declared.result.Result.{Result}
use Rattle.std.proofs.lemmas.List.{length-replicate}
use Rattle.sil_cfg_items.specs.Items.{item_defined, item_taken}
use Rattle.sil_cfg_items.specs.declared.taken.Taken.{Taken}
use Rattle.numbered_form.specs.Lists.{Each}
use Rattle.memory_rules_parts.specs.ownership_kinds_chains.declared.ownership_chains.facts.Facts.{Facts}
use Rattle.sil_ast.specs.declared.decl.Storage.TheVariants as storage
use Rattle.sil_ast.specs.declared.place.ObjectId.{ObjectId}
use Rattle.sil_ast.specs.declared.place.ValueId.{ValueId}
use Rattle.sil_cfg.specs.declared.item.Item.TheVariants as item
use Rattle.holder_model.specs.holder_model_values.declared.run_values.phase.Phase.TheVariants.{Deiniting}
use Rattle.holder_model.specs.holder_model_values.RunValues.Memory.{Memory, object_at}
use Rattle.std.specs.Prelude.{Option}
use Rattle.holder_model.specs.Calling.{value_count}
use Rattle.holder_model.specs.Data.{Datum}
use Rattle.holder_model.specs.Dropping.{deinits_of, field_references}
use Rattle.holder_model.specs.Faults.{HolderFault}
use Rattle.holder_model.specs.Frames.{Entry, Frame, Gone, Operands, no_entries, operand_data, operands_of, with_ok, without_ended}
use Rattle.holder_model.specs.Holders.{of_references}
use Rattle.holder_model.specs.HolderStates.{in_entry, in_task}
use Rattle.holder_model.specs.ModuleFacts.{facts_told}
use Rattle.holder_model.specs.StepParts.{new_frame}
use Rattle.holder_model.specs.States.{Drops, Finishes, Runs, Task}
use Rattle.holder_model_laws.specs.HolderLaws.inner.Steps.Ways.{left_with}
use Rattle.sil_types_declarations.specs.TypeDefinitions.Declarations.{declarations_of}
use Rattle.holder_model_laws.specs.HolderLaws.inner.Counts.Moving.{AreDeinitsCounted, AreDropsCounted, AreEntriesCounted, AreFinishesCounted, AreItemsCounted, AreMovesCounted}
use Rattle.holder_model_laws.specs.HolderLaws.inner.Counts.Moving.{AreWaitingCounted, InEach, in_tasks}
use Rattle.holder_model_laws.specs.HolderLaws.inner.Counts.Taking.{IsBelow, in_entries}
use Rattle.holder_model_laws.proofs.HolderLaws.Counts.Entries.{begins_counted, ends_counted, ok_through}
use Rattle.holder_model_laws.proofs.HolderLaws.Counts.Places.{deaths_counted, live_not_dead, phases_counted, references_counted}
use Rattle.holder_model_laws.proofs.HolderLaws.Counts.Sums.{total_cons, total_none}

pub waiting_counted : AreWaitingCounted
waiting_counted weight [] tasks = omega arith
waiting_counted weight (o ∷ os) tasks = total_cons (in_task weight) (Drops (o ∷ os)) tasks

pub first_task : (weight : ObjectId → ℕ) (t : Task Frame) (tasks : List (Task Frame)) → in_tasks weight (t ∷ tasks) ≡ in_task weight t + in_tasks weight tasks
first_task weight t tasks = total_cons (in_task weight) t tasks

abbrev pub with_left : List Entry → List Datum → Result Operands HolderFault
with_left left xs = Ok (record { given = xs; left = left })

-- what is left of the entries of a frame, and what is given
pub record AreOperands (facts : ValueId → Option Facts) (m : Memory) (entries : List Entry) (ts : List Taken) (ops : Operands) : Type 0 where
  pub left : without_ended facts ts entries ≡ Ok ops.left
  pub given : operand_data facts m entries ops.left ts ≡ Ok ops.given

pub operands_are : (facts : ValueId → Option Facts) (m : Memory) (entries : List Entry) (ts : List Taken) (ops : Operands) → operands_of facts m entries ts ≡ Ok ops
    → AreOperands facts m entries ts ops
operands_are facts m entries ts ops h =
    let left = ok_through (λ left. with_ok (with_left left) (operand_data facts m entries left ts)) (without_ended facts ts entries) ops h in
    let given = ok_through (with_left left.0) (operand_data facts m entries left.0 ts) ops left.2 in
    at left.0 given.0 left.1 given.1 given.2
  where
    at : (left : List Entry) (xs : List Datum) → without_ended facts ts entries ≡ Ok left → operand_data facts m entries left ts ≡ Ok xs → with_left left xs ≡ Ok ops
        → AreOperands facts m entries ts ops
    at left xs is_left is_given e =
        let same : record { given = xs; left = left } ≡ ops = cc in
        subst (AreOperands facts m entries ts) same (record { left = is_left; given = is_given })

pub moves_counted : InEach AreMovesCounted
moves_counted m told bound weight s rest frame f i c slots entries put each =
    let waits = waiting_counted weight c.dropped (Runs (record frame { trail = i ∷ frame.trail; entries = entries; slots = slots; lent = [] }) ∷ rest) in
    let first = first_task weight (Runs (record frame { trail = i ∷ frame.trail; entries = entries; slots = slots; lent = [] })) rest in
    let begins = begins_counted weight (facts_told told frame.function) (item_defined f i) c.results frame.entries entries put each in
    omega (arith, waits, first, begins)

pub items_counted : InEach AreItemsCounted
items_counted m told bound weight s rest frame f i ops c made slots entries at taken put each balanced =
    let move = moves_counted m told bound weight s rest (left_with m told bound frame ops) f i c slots entries put each in
    let ends = ends_counted weight (facts_told told frame.function) (item_taken f i) frame.entries ops.left
    (operands_are (facts_told told frame.function) s.memory frame.entries (item_taken f i) ops taken).left in
    let tasks : in_tasks weight s.tasks ≡ in_tasks weight (Runs frame ∷ rest) = ap (in_tasks weight) at in
    let first = first_task weight (Runs frame) rest in
    let balance = balanced.balance in
    omega (arith, move, ends, tasks, first, balance)

pub entries_counted : InEach AreEntriesCounted
entries_counted m told bound weight s rest g callee args entries put each =
    let begins = begins_counted weight (facts_told told g) (item_defined callee item.Entry) args (no_entries (value_count callee)) entries put
    (subst (λ n. Each (IsBelow n) (item_defined callee item.Entry)) (sym (length-replicate (value_count callee) Gone)) each) in
    let none : in_entries weight (no_entries (value_count callee)) ≡ 0 = total_none (in_entry weight) (value_count callee) Gone refl in
    let first = first_task weight (Runs (new_frame g entries)) rest in
    omega (arith, begins, none, first)

pub drops_counted : InEach AreDropsCounted
drops_counted m told bound weight s o os rest at =
    let tasks : in_tasks weight s.tasks ≡ in_tasks weight (Drops (o ∷ os) ∷ rest) = ap (in_tasks weight) at in
    let before = first_task weight (Drops (o ∷ os)) rest in
    let after = first_task weight (Drops os) rest in
    let one : of_references weight (o ∷ os) ≡ weight o + of_references weight os = total_cons weight o os in
    omega (arith, tasks, before, after, one)

pub deinits_counted : InEach AreDeinitsCounted
deinits_counted m told bound weight s o live =
    let same = phases_counted weight storage.Strong s.memory o Deiniting (live_not_dead s.memory o live) refl in
    let first = first_task weight (Finishes (deinits_of (declarations_of m) (object_at s.memory o).class) o) s.tasks in
    omega (arith, same, first)

pub finishes_counted : InEach AreFinishesCounted
finishes_counted m told bound weight s o alive =
    let dies = deaths_counted weight storage.Strong s.memory o alive in
    let fields = (references_counted weight).1 (object_at s.memory o) in
    let waits = waiting_counted weight (field_references (object_at s.memory o)) s.tasks in
    omega (arith, dies, fields, waits)
