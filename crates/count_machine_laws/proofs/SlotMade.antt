-- A new slot in the machine is one in the run.
use Rattle.std.proofs.Common.{◌≡◌, ◌≤◌, ◌+◌, ◌++◌, ℕ, suc, List, [], ◌∷◌, Some, false, length, map, sum, refl, sym, ap, ◌∙◌, arith}
use Rattle.std.specs.Prelude.{option_map, slice_get, unwrap_or}
use Rattle.std.proofs.lemmas.List.{flat_map_more, length-append, length_push, take-append-le, take_at}
use Rattle.std.proofs.lemmas.List.Sums.{sum_by-cons}
use Rattle.count_machine_model.specs.holder_model.Outcomes.{Numbers}
use Rattle.count_machine_model.specs.declared.machine_steps.frame.Frame.{Frame}
use Rattle.count_machine_model.specs.declared.machine_steps.frame.Task.{Task}
use Rattle.count_machine_model.specs.MachineSteps.Places.{new_slot, slot_address, with_slot}
use Rattle.count_machine_model.specs.MachineSteps.Views.{MachineView}
use Rattle.count_machine_model.specs.ReadyCode.Layout.{size_of}
use Rattle.count_machine_model.specs.holder_model.RunTyping.StorageForms.{FieldShapeIs}
use Rattle.holder_model_values.specs.RunValues.Memory.{Memory}
use Rattle.holder_model_values.specs.RunValues.Places.{OnStack, Place, empty_slot}
use Rattle.holder_model_values.specs.RunValues.Shapes.{Shape, Unknown}
use Rattle.sil_ast.specs.declared.decl.Storage.{Storage}
use Rattle.sil_ast.specs.declared.module.Module.{Module}
use Rattle.holder_model_values.specs.ValueParts.inner.Paths.{IsPart}
use Rattle.holder_model_values.specs.ValueParts.inner.Suits.{ClassTest}
use Rattle.count_machine_laws.proofs.Changes.{Changes}
use Rattle.count_machine_laws.proofs.Entries.{Ends}
use Rattle.count_machine_laws.proofs.Grows.{were_made}
use Rattle.count_machine_laws.proofs.GrowsBy.{grows_made, objects_stay, serial_of}
use Rattle.count_machine_laws.proofs.GrowsTasks.{KeepsBelow}
use Rattle.count_machine_laws.proofs.HeldSlots.{all_suit}
use Rattle.count_machine_laws.proofs.Memories.{MemoryAgrees, NamesPlace}
use Rattle.count_machine_laws.proofs.ObjectMade.{pushed_last}
use Rattle.count_machine_laws.proofs.Objects.{is_of_class}
use Rattle.count_machine_laws.proofs.Slots.{Empty, Made, first_cell, made_cells, made_shape, made_width, shape_made, slot_place, stack_of}
use Rattle.count_machine_laws.proofs.SlotsMade.{slots_agree_more}
use Rattle.count_machine_laws.proofs.Stack.{AllSuit, content_length}

abbrev pub slot_at_end : Memory → Shape → Place
slot_at_end mem s = record { home = OnStack; first = length mem.stack; shape = s; is_part = false }

abbrev pub with_slot_at_end : Memory → Shape → Memory
with_slot_at_end mem s = record mem { stack = mem.stack ++ empty_slot s }

-- a new slot: its address names its place, which is that of the slot kept by the machine
pub record MakesSlot (m : Module) (made : List Made) (mem : Memory) (numbers : List Numbers) (st : MachineView) (fr : Frame) (rest : List Task) (s : Shape) : Type 0 where
  pub changes : Changes m made mem st (with_slot_at_end mem s) numbers (with_slot st fr rest (size_of s))
  pub names : NamesPlace m changes.made' (with_slot st fr rest (size_of s)).slots (with_slot_at_end mem s) (slot_address st fr rest) (slot_at_end mem s)
  pub place : slot_place changes.made' (new_slot st fr rest) ≡ slot_at_end mem s

abbrev place_from : ℕ → Shape → Place
place_from n s = record { home = OnStack; first = n; shape = s; is_part = false }

-- all cells are as many as the slots are wide
stack_length : (test : ClassTest) (made : List Made) → AllSuit test made → length (stack_of made) ≡ sum (map made_width made)
stack_length test [] all = refl
stack_length test (x ∷ made) all =
    length-append (made_cells x) (stack_of made)
    ∙ omega (arith, content_length test x.shape x.content (all 0 x refl), stack_length test made (λ k. all (suc k)), sum_by-cons (λ n. n) (made_width x) (map made_width made))

module _ (m : Module) {made : List Made} {mem : Memory} {numbers : List Numbers} {st : MachineView} (agrees : MemoryAgrees m made mem numbers st) (fr : Frame) (rest : List Task)
    (w : Storage) (s : Shape) (is : FieldShapeIs w s) where
  abbrev new : Made
  new = record { shape = s; content = Empty }

  abbrev made' : List Made
  made' = made ++ new ∷ []

  abbrev mem' : Memory
  mem' = with_slot_at_end mem s

  new_there : slice_get made' st.serials ≡ Some new
  new_there = ap (slice_get made') agrees.serials ∙ pushed_last made new

  -- the new slot's cells begin where all others end
  new_first : first_cell made' st.serials ≡ length mem.stack
  new_first =
      ap (first_cell made') agrees.serials
      ∙ ap (λ xs. sum (map made_width xs)) (take_at made (new ∷ []) (length made) refl)
      ∙ sym (ap length agrees.stack ∙ stack_length (is_of_class m mem) made (all_suit agrees.slots))

  new_shape : shape_made made' st.serials ≡ s
  new_shape = ap (λ o. unwrap_or (option_map made_shape o) Unknown) new_there

  makes : MakesSlot m made mem numbers st fr rest s
  makes = record {
    changes = record {
      made' = made';
      agrees = record {
        stack = ap (λ cs. cs ++ empty_slot s) agrees.stack ∙ flat_map_more made_cells [] made new;
        serials = ap (λ n. n + 1) agrees.serials ∙ sym (length_push made new);
        slots = slots_agree_more agrees.slots w s is st.serials agrees.serials;
        objects = agrees.objects;
        declared = agrees.declared;
      };
      grows = grows_made (were_made agrees.slots) new (new_slot st fr rest) (objects_stay mem mem' refl);
      phases = λ o within. refl;
      frames = record { tasks = refl; there = refl; leaves = refl; addresses = refl; waiting = refl; events = refl; turns = refl; retains = refl; releases = refl };
    };
    names = NamesPlace.in_slot (length st.slots) st.serials refl (record {
      of = new;
      there = new_there;
      path = [];
      part = IsPart.here;
      home = refl;
      first = omega (arith, new_first);
      from = refl;
      parts = refl;
      whole = λ not_part. refl;
      no_part = λ at_all. refl;
      now = λ opened. (new_slot st fr rest, pushed_last st.slots (new_slot st fr rest), refl);
    });
    place = ap (λ n. place_from n (shape_made made' st.serials)) new_first ∙ ap (place_from (length mem.stack)) new_shape;
  }

module _ (m : Module) {made : List Made} {mem : Memory} {numbers : List Numbers} {st : MachineView} (agrees : MemoryAgrees m made mem numbers st) (fr : Frame) (rest : List Task) where
  pub slot_made : (w : Storage) (s : Shape) → FieldShapeIs w s → MakesSlot m made mem numbers st fr rest s
  slot_made w s is = makes m agrees fr rest w s is

-- what lies below stays
pub slot_made_keeps : (st : MachineView) (fr : Frame) (rest : List Task) (size : ℕ) (ends : Ends) → ends.slots ≤ length st.slots → KeepsBelow ends st (with_slot st fr rest size)
slot_made_keeps st fr rest size ends low = record {
  there = refl;
  leaves = refl;
  addresses = refl;
  serials = ap (map serial_of) (take-append-le ends.slots st.slots (new_slot st fr rest ∷ []) low);
  waiting = refl;
}
