-- Writing a place in a slot.
use Rattle.std.proofs.Common.{◌≡◌, ◌≤◌, ◌+◌, ℕ, List, Bool, true, false, Option, Some, None, length, take, drop, refl, sym, ap, ◌∙◌, subst, arith}
use Rattle.std.specs.Prelude.{is_some}
use Rattle.std.proofs.lemmas.Bool.{false≢true}
use Rattle.std.proofs.lemmas.List.{length-drop, length-take-le}
use Rattle.count_machine_model.specs.holder_model.Outcomes.{Numbers}
use Rattle.count_machine_model.specs.declared.machine_steps.address.Address.{Address}
use Rattle.count_machine_model.specs.MachineSteps.Held.{slot_in, write_slot}
use Rattle.count_machine_model.specs.MachineSteps.Operands.{laid_over}
use Rattle.count_machine_model.specs.MachineSteps.Views.{MachineView}
use Rattle.count_machine_model.specs.ReadyCode.Layout.{size_of}
use Rattle.holder_model_values.specs.RunValues.Cells.{Cell, cell_count, in_cells}
use Rattle.holder_model_values.specs.RunValues.Leaves.{leaves_of}
use Rattle.holder_model_values.specs.RunValues.Memory.{Memory}
use Rattle.holder_model_values.specs.RunValues.Places.{Place, filled, value_at}
use Rattle.holder_model_values.specs.RunValues.Shapes.{Shape}
use Rattle.holder_model_values.specs.RunValues.Values.{Value}
use Rattle.holder_model_values.specs.declared.run_values.leaf.Leaf.{Leaf}
use Rattle.sil_ast.specs.declared.module.Module.{Module}
use Rattle.holder_model_values.specs.ValueParts.inner.Paths.{leaf_count, leaves_before}
use Rattle.holder_model_values.specs.ValueParts.inner.Suits.{ClassTest, suits}
use Rattle.holder_model_values.proofs.ValueParts.CellParts.{suits_cells_length}
use Rattle.holder_model_values.proofs.ValueParts.LeafParts.{suits_leaves_length}
use Rattle.holder_model_values.proofs.ValueParts.Paths.{part_cells_fit, part_leaves_fit}
use Rattle.count_machine_laws.proofs.Changes.{HasChanged}
use Rattle.count_machine_laws.proofs.Held.{IsReachable, empty_slot, gone_slot, slot_open}
use Rattle.count_machine_laws.proofs.HeldSlots.{all_suit, found_slot, slot_right}
use Rattle.count_machine_laws.proofs.Memories.{MemoryAgrees}
use Rattle.count_machine_laws.proofs.Objects.{is_of_class}
use Rattle.count_machine_laws.proofs.Slots.{Content, Empty, Full, Gone, Made, NamesSlot, cells_in, is_open, made_cells}
use Rattle.count_machine_laws.proofs.Stack.{content_length}
use Rattle.count_machine_laws.proofs.StackChanges.{slot_changed}
use Rattle.count_machine_laws.proofs.WritingLeaves.{laid_elsewhere, laid_in_stretch}
use Rattle.count_machine_laws.proofs.WritingParts.{PartWritten, part_written, whole_written}

same_full : (x y : Value) → Full x ≡ Full y → x ≡ y
same_full x y e = cc

pub has_none : (b : Bool) {x : Option Value} → (b ≡ true → is_some x ≡ true) → x ≡ None → b ≡ false
has_none true full none = absurd (false≢true (sym (ap is_some none) ∙ full refl))
has_none false full none = refl

module _ (m : Module) {made : List Made} {mem : Memory} {numbers : List Numbers} {st : MachineView} (agrees : MemoryAgrees m made mem numbers st)
    (a : Address) (p : Place) (x : Value) (reached : IsReachable mem p) (full : p.is_part ≡ true → is_some (value_at mem p) ≡ true) (good : suits (is_of_class m mem) p.shape x ≡ true) where
  abbrev test : ClassTest
  test = is_of_class m mem

  abbrev new : List Cell
  new = (in_cells p.shape).cells x

  abbrev ls : List Leaf
  ls = leaves_of p.shape x

  leaf_size : length ls ≡ leaf_count p.shape
  leaf_size = suits_leaves_length test p.shape x good

  cell_size : length new ≡ cell_count p.shape
  cell_size = suits_cells_length test p.shape x good

  module _ (index serial : ℕ) (names : NamesSlot made st.slots index serial a p) where
    abbrev path : List ℕ
    path = names.path

    abbrev s : Shape
    s = names.of.shape

    -- the value that the slot has behind the write
    written : (leaves : List Leaf) → ((v : Value) → names.of.content ≡ Full v → leaves ≡ leaves_of s v) → length leaves ≡ leaf_count s
        → PartWritten test s path p.shape x (made_cells names.of) leaves
    written leaves holds size = by names.of.content refl
      where
        by : (c : Content) → names.of.content ≡ c → PartWritten test s path p.shape x (made_cells names.of) leaves
        by Gone e = absurd (false≢true (sym (gone_slot m agrees index serial a p names e) ∙ reached.there))
        by Empty e =
            whole_written test names.part (names.whole (has_none p.is_part full (empty_slot m agrees index serial a p names e))) x good (made_cells names.of)
            (content_length test s names.of.content (all_suit agrees.slots serial names.of names.there)) leaves size
        by (Full v) e =
            subst (λ cs. PartWritten test s path p.shape x cs leaves) (ap (cells_in s) (sym e))
            (subst (λ old. PartWritten test s path p.shape x ((in_cells s).cells v) old) (sym (holds v e))
            (part_written test names.part v x (agrees.slots.suit serial names.of v names.there e) good))

    opened : is_open names.of ≡ true
    opened = slot_open m agrees index serial a p names reached.there

    pub write_slot_agrees : HasChanged m made mem st (filled mem p x) numbers (write_slot st index a.from ls (slot_in st index serial))
    write_slot_agrees =
        let now = names.now opened in
        let slot = now.0 in
        let right = slot_right agrees.slots index serial names.of slot names.there now.1 now.2 in
        let width : size_of right.0.of.shape ≡ leaf_count s = ap (λ y. size_of y.shape) right.1 in
        let part = part_leaves_fit names.part in
        let fits : leaves_before s path + length ls ≤ leaf_count s = omega (arith, part, leaf_size) in
        let within : slot.from + leaf_count s ≤ length st.slot_leaves = omega (arith, right.0.within, width) in
        let old = take (leaf_count s) (drop slot.from st.slot_leaves) in
        let holds : (v : Value) → names.of.content ≡ Full v → old ≡ leaves_of s v =
        subst (λ y. (v : Value) → y.content ≡ Full v → take (size_of y.shape) (drop slot.from st.slot_leaves) ≡ leaves_of y.shape v) right.1 right.0.holds in
        let size : length old ≡ leaf_count s = length-take-le (leaf_count s) (drop slot.from st.slot_leaves) (omega (arith, within, length-drop slot.from st.slot_leaves)) in
        let w = written old holds size in
        let cells_fit = part_cells_fit names.part in
        let changed = slot_changed m agrees index serial a p names slot now.1 now.2 opened (Full w.v) refl (λ v e. subst (λ y. suits test s y ≡ true) (same_full w.v v e) w.suit)
        new (omega (arith, cells_fit, cell_size)) w.by_cells (laid_over (slot.from + leaves_before s path) ls st.slot_leaves)
        (laid_elsewhere st.slot_leaves ls slot.from (leaf_count s) (leaves_before s path) fits within)
        (λ v e. laid_in_stretch st.slot_leaves ls slot.from (leaf_count s) (leaves_before s path) fits within ∙ w.by_leaves ∙ ap (leaves_of s) (same_full w.v v e)) in
        subst (λ o. HasChanged m made mem st (filled mem p x) numbers (write_slot st index a.from ls o)) (sym (found_slot st.slots index serial slot now.1 now.2))
        (subst (λ n. HasChanged m made mem st (filled mem p x) numbers (write_slot st index n ls (Some slot))) (sym names.from) changed)
