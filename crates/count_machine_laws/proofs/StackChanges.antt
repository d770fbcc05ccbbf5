-- What an open slot has changes: memory and the machine agree behind it.
use Rattle.std.proofs.Common.{◌≡◌, ◌≤◌, ◌+◌, ◌++◌, ℕ, zero, suc, List, [], ◌∷◌, Some, true, length, map, take, drop, refl, sym, ap, ◌∙◌, subst, arith}
use Rattle.std.specs.Prelude.{set, slice_get}
use Rattle.std.proofs.lemmas.List.{length-set}
use Rattle.std.proofs.lemmas.Option.{same_Some}
use Rattle.count_machine_model.specs.holder_model.Outcomes.{Numbers}
use Rattle.count_machine_model.specs.declared.machine_steps.address.Address.{Address}
use Rattle.count_machine_model.specs.declared.machine_steps.address.OpenSlot.{OpenSlot}
use Rattle.count_machine_model.specs.MachineSteps.Views.{MachineView}
use Rattle.count_machine_model.specs.ReadyCode.Layout.{size_of}
use Rattle.holder_model_values.specs.RunValues.Cells.{Cell, cell_count}
use Rattle.holder_model_values.specs.RunValues.Leaves.{leaves_of}
use Rattle.holder_model_values.specs.RunValues.Memory.{Memory, put_cells}
use Rattle.holder_model_values.specs.RunValues.Places.{Place, home_cells, with_cells, with_home_cells}
use Rattle.holder_model_values.specs.RunValues.Values.{Value}
use Rattle.holder_model_values.specs.declared.run_values.leaf.Leaf.{Leaf}
use Rattle.sil_ast.specs.declared.module.Module.{Module}
use Rattle.holder_model_values.specs.ValueParts.inner.Paths.{cells_before}
use Rattle.holder_model_values.specs.ValueParts.inner.Suits.{ClassTest}
use Rattle.holder_model_values.proofs.ValueParts.Splices.{put_within}
use Rattle.count_machine_laws.proofs.Changes.{HasChanged}
use Rattle.count_machine_laws.proofs.Grows.{were_made}
use Rattle.count_machine_laws.proofs.GrowsBy.{grows_content, objects_stay, serial_of}
use Rattle.count_machine_laws.proofs.HeldSlots.{all_suit}
use Rattle.count_machine_laws.proofs.Memories.{MemoryAgrees}
use Rattle.count_machine_laws.proofs.Objects.{is_of_class}
use Rattle.count_machine_laws.proofs.Slots.{Content, Full, Made, NamesSlot, cells_in, is_full_content, is_open, is_open_content, made_cells, stack_of}
use Rattle.count_machine_laws.proofs.Stack.{AllSuit, ContentSuits, content_length, stack_around}
use Rattle.count_machine_laws.proofs.WritingSlots.{LeavesElsewhere, slots_agree_with, with_content}

-- the serial numbers of slots stay where one is put with the same number
pub serials_with : (slots : List OpenSlot) (index : ℕ) (slot new : OpenSlot) → slice_get slots index ≡ Some slot → new.serial ≡ slot.serial
    → map serial_of (set slots index new) ≡ map serial_of slots
serials_with [] index slot new e same = refl
serials_with (s ∷ slots) zero slot new e same = ap (λ n. n ∷ map serial_of slots) (same ∙ ap serial_of (sym (same_Some s slot e)))
serials_with (s ∷ slots) (suc index) slot new e same = ap (λ ns. s.serial ∷ ns) (serials_with slots index slot new e same)

-- the cells of a place, put among those of its slot, are those of what the slot has now
pub stack_with : (test : ClassTest) (made : List Made) (mem : Memory) (slots : List OpenSlot) (index serial : ℕ) (a : Address) (p : Place) (names : NamesSlot made slots index serial a p)
    → mem.stack ≡ stack_of made → AllSuit test made → (c : Content) (new : List Cell) → cells_before names.of.shape names.path + length new ≤ cell_count names.of.shape
    → put_cells (made_cells names.of) (cells_before names.of.shape names.path) new ≡ cells_in names.of.shape c
    → put_cells mem.stack p.first new ≡ stack_of (set made serial (with_content names.of c))
stack_with test made mem slots index serial a p names stack all c new fits put =
    let around = stack_around test made serial names.of all names.there in
    let off = cells_before names.of.shape names.path in
    let size : length (made_cells names.of) ≡ cell_count names.of.shape = content_length test names.of.shape names.of.content (all serial names.of names.there) in
    let first : p.first ≡ length around.before + off = names.first ∙ omega (arith, around.count) in
    ap (λ cs. put_cells cs p.first new) (stack ∙ around.now)
    ∙ ap (λ n. put_cells (around.before ++ (made_cells names.of ++ around.behind)) n new) first
    ∙ put_within around.before (made_cells names.of) around.behind off new (omega (arith, fits, size))
    ∙ ap (λ cs. around.before ++ (cs ++ around.behind)) put
    ∙ sym (around.with_ (with_content names.of c))

module _ (m : Module) {made : List Made} {mem : Memory} {numbers : List Numbers} {st : MachineView} (agrees : MemoryAgrees m made mem numbers st)
    (index serial : ℕ) (a : Address) (p : Place) (names : NamesSlot made st.slots index serial a p)
    (slot : OpenSlot) (at : slice_get st.slots index ≡ Some slot) (same : slot.serial ≡ serial) (opened : is_open names.of ≡ true)
    (c : Content) (open_ : is_open_content c ≡ true) (suit : ContentSuits (is_of_class m mem) names.of.shape c) where
  module _ (new : List Cell) (fits : cells_before names.of.shape names.path + length new ≤ cell_count names.of.shape)
      (put : put_cells (made_cells names.of) (cells_before names.of.shape names.path) new ≡ cells_in names.of.shape c) where
    module _ (leaves' : List Leaf) (elsewhere : LeavesElsewhere st.slot_leaves leaves' slot.from (size_of names.of.shape))
        (holds : (v : Value) → c ≡ Full v → take (size_of names.of.shape) (drop slot.from leaves') ≡ leaves_of names.of.shape v) where
      abbrev st' : MachineView
      st' = record st { slots = set st.slots index (record slot { is_full = is_full_content c }); slot_leaves = leaves' }

      abbrev mem' : Memory
      mem' = record mem { stack = put_cells mem.stack p.first new }

      changed : HasChanged m made mem st mem' numbers st'
      changed = record {
        changes = record {
          made' = set made serial (with_content names.of c);
          agrees = record {
            stack = stack_with (is_of_class m mem) made mem st.slots index serial a p names agrees.stack (all_suit agrees.slots) c new fits put;
            serials = agrees.serials ∙ sym (length-set made serial (with_content names.of c));
            slots = slots_agree_with agrees.slots index serial names.of slot names.there at same c open_ suit leaves' elsewhere holds;
            objects = agrees.objects;
            declared = agrees.declared;
          };
          grows = grows_content (were_made agrees.slots) serial names.of c (objects_stay mem mem' refl) (serials_with st.slots index slot _ at refl) names.there opened;
          phases = λ o made. refl;
          frames = record { tasks = refl; there = refl; leaves = refl; addresses = refl; waiting = refl; events = refl; turns = refl; retains = refl; releases = refl };
        };
        slots = serials_with st.slots index slot _ at refl;
      }

      pub slot_changed : HasChanged m made mem st (with_cells mem p new) numbers st'
      slot_changed = subst (λ h. HasChanged m made mem st (with_home_cells mem h (put_cells (home_cells mem h) p.first new)) numbers st') (sym names.home) changed
