-- The newest slot of a frame goes in the machine as in the run; what is no such slot is a fault in both.
use Rattle.std.proofs.Common.{◌≡◌, ◌≤◌, ◌<◌, ◌+◌, ◌&&◌, ◌==◌, ◌⊎◌, inl, inr}
use Rattle.std.proofs.Common.{ℕ, zero, suc, List, [], ◌∷◌, Bool, Some, Ok, Err, true, false, cond, not, length, map, set, take, refl, sym, ap, ◌∙◌, subst, arith}
use Rattle.std.specs.Prelude.{nat_le, replicate, slice_get}
use Rattle.std.proofs.lemmas.Bool.{and_from, and_left, and_right, cases_eq, cases_lt, eq-eqb, false≢true, le-leb, lt-leb, ne_eqb}
use Rattle.std.proofs.lemmas.List.{length-replicate, length-set, take-take}
use Rattle.std.proofs.lemmas.List.Sums.{sum_by-cons}
use Rattle.std.proofs.lemmas.Option.{same_Some, slice_get_within}
use Rattle.count_machine_model.specs.holder_model.Effects.{ClosesSlot}
use Rattle.count_machine_model.specs.holder_model.Outcomes.{Numbers}
use Rattle.count_machine_model.specs.holder_model.Standing.{is_slot, on_stack}
use Rattle.count_machine_model.specs.holder_model.declared.lowered_run.low_fault.LowFault.TheVariants as fault
use Rattle.count_machine_model.specs.holder_model.LoweredRun.LowFrames.{LowFrame}
use Rattle.count_machine_model.specs.holder_model.LoweredRun.LowStepParts.{slots_behind}
use Rattle.count_machine_model.specs.declared.machine_steps.address.Address.{Address}
use Rattle.count_machine_model.specs.declared.machine_steps.address.OpenSlot.{OpenSlot}
use Rattle.count_machine_model.specs.declared.machine_steps.frame.Frame.{Frame}
use Rattle.count_machine_model.specs.declared.machine_steps.frame.Task.{Task}
use Rattle.count_machine_model.specs.MachineSteps.Held.{slot_in}
use Rattle.count_machine_model.specs.MachineSteps.Operands.{faults, go_on}
use Rattle.count_machine_model.specs.MachineSteps.Places.{removes_home, removes_slot}
use Rattle.count_machine_model.specs.MachineSteps.Views.{MachineView, Went}
use Rattle.holder_model_values.specs.RunValues.Cells as cells
use Rattle.holder_model_values.specs.RunValues.Cells.{cell_count}
use Rattle.holder_model_values.specs.RunValues.Memory.{Memory, put_cells}
use Rattle.holder_model_values.specs.RunValues.Places.{Inside, Place, home_cells, removed, with_home_cells}
use Rattle.sil_ast.specs.declared.module.Module.{Module}
use Rattle.sil_ast.specs.declared.place.ObjectId.{ObjectId}
use Rattle.holder_model_values.specs.ValueParts.inner.Paths.{cells_before}
use Rattle.holder_model_values.proofs.ValueParts.Cells.{has_cell}
use Rattle.holder_model_values.proofs.ValueParts.Paths.{part_cells_fit}
use Rattle.count_machine_laws.proofs.Changes.{Changes}
use Rattle.count_machine_laws.proofs.Entries.{Ends}
use Rattle.count_machine_laws.proofs.Grows.{were_made}
use Rattle.count_machine_laws.proofs.GrowsBy.{grows_gone, objects_stay, serial_of}
use Rattle.count_machine_laws.proofs.GrowsTasks.{KeepsBelow}
use Rattle.count_machine_laws.proofs.HeldSlots.{all_suit, found_slot, no_slot}
use Rattle.count_machine_laws.proofs.Memories.{MemoryAgrees, NamesPlace}
use Rattle.count_machine_laws.proofs.Objects.{is_of_class}
use Rattle.count_machine_laws.proofs.PushesSlots.{NewestSlot}
use Rattle.count_machine_laws.proofs.Slots.{Gone, Made, NamesSlot, first_cell, is_open, made_cells, made_width, slot_place, stack_of}
use Rattle.count_machine_laws.proofs.SlotsGone.{slots_agree_without}
use Rattle.count_machine_laws.proofs.Stack.{content_length}
use Rattle.count_machine_laws.proofs.StackChanges.{stack_with}
use Rattle.count_machine_laws.proofs.WritingParts.{whole_same}
use Rattle.count_machine_laws.proofs.WritingSlots.{with_content}

-- without the newest slot
abbrev pub without_slot : MachineView → ℕ → OpenSlot → MachineView
without_slot st index slot = record st { slots = take index st.slots; slot_leaves = take slot.from st.slot_leaves }

-- a slot goes: it is the newest one of the frame, or both fault
pub data RemovesIs (m : Module) (made : List Made) (mem : Memory) (numbers : List Numbers) (st : MachineView) (fr : Frame) (rest : List Task) (p : Place) (own : List Place) : Went → Type 0 where
  faulted : slots_behind (ClosesSlot p) own ≡ Err fault.Slot → RemovesIs m made mem numbers st fr rest p own (faults fault.Slot st)
  goes : (index : ℕ) (slot : OpenSlot) (older : List Place) → slice_get st.slots index ≡ Some slot → index + 1 ≡ length st.slots → fr.slots ≤ index
      → own ≡ slot_place made slot ∷ older → slots_behind (ClosesSlot p) own ≡ Ok older → Changes m made mem st (removed mem p) numbers (without_slot st index slot)
      → RemovesIs m made mem numbers st fr rest p own (go_on (without_slot st index slot) fr rest)

-- slots lie one behind another, each with a cell
cells_rise : (made : List Made) (j k : ℕ) → j < k → k ≤ length made → first_cell made j < first_cell made k
cells_rise [] j k before within = absurd (omega (arith, before, within))
cells_rise (x ∷ made) j zero before within = absurd (omega (arith, before))
cells_rise (x ∷ made) zero (suc k) before within =
    let all : first_cell (x ∷ made) (suc k) ≡ made_width x + first_cell made k = sum_by-cons (λ n. n) (made_width x) (map made_width (take k made)) in
    omega (arith, all, has_cell x.shape)
cells_rise (x ∷ made) (suc j) (suc k) before within =
    let low : first_cell (x ∷ made) (suc j) ≡ made_width x + first_cell made j = sum_by-cons (λ n. n) (made_width x) (map made_width (take j made)) in
    let high : first_cell (x ∷ made) (suc k) ≡ made_width x + first_cell made k = sum_by-cons (λ n. n) (made_width x) (map made_width (take k made)) in
    omega (arith, low, high, cells_rise made j k (omega (arith, before)) (omega (arith, within)))

one_cell_one_slot : (made : List Made) (j k : ℕ) → j ≤ length made → k ≤ length made → first_cell made j ≡ first_cell made k → j ≡ k
one_cell_one_slot made j k low high same = by (cases_lt j k) (cases_lt k j)
  where
    by : (j < k) ⊎ (k ≤ j) → (k < j) ⊎ (j ≤ k) → j ≡ k
    by (inl before) other = absurd (omega (arith, same, cells_rise made j k before high))
    by (inr a) (inl before) = absurd (omega (arith, same, cells_rise made k j before low))
    by (inr a) (inr b) = omega (arith, a, b)

-- what is no slot of the frame's
no_own : (p : Place) (own : List Place) → ((q : Place) (older : List Place) → own ≡ q ∷ older → is_slot p q ≡ false) → slots_behind (ClosesSlot p) own ≡ Err fault.Slot
no_own p [] other = refl
no_own p (q ∷ older) other = ap (λ b. cond b (Ok older) (Err fault.Slot)) (other q older refl)

module _ (m : Module) {made : List Made} {mem : Memory} {numbers : List Numbers} {st : MachineView} (agrees : MemoryAgrees m made mem numbers st)
    (fr : Frame) (rest : List Task) (a : Address) (p : Place) (lf : LowFrame) (below : Ends) (newest : NewestSlot made st lf below) (same_slots : fr.slots ≡ below.slots) where
  abbrev Removes : Went → Type 0
  Removes w = RemovesIs m made mem numbers st fr rest p lf.slots w

  -- a place that is no slot of the frame's

  none_own : lf.slots ≡ [] → slots_behind (ClosesSlot p) lf.slots ≡ Err fault.Slot
  none_own e = ap (slots_behind (ClosesSlot p)) e

  part_is_none : p.is_part ≡ true → slots_behind (ClosesSlot p) lf.slots ≡ Err fault.Slot
  part_is_none part = no_own p lf.slots (λ q older e.
      and_right (on_stack p.home) (not p.is_part && p.first == q.first) (and_left (not p.is_part) (p.first == q.first) (ap not part)))

  in_object_is_none : (o : ObjectId) → p.home ≡ Inside o → slots_behind (ClosesSlot p) lf.slots ≡ Err fault.Slot
  in_object_is_none o e = no_own p lf.slots (λ q older _. and_left (on_stack p.home) (not p.is_part && p.first == q.first) (ap on_stack e))

  module _ (index serial : ℕ) (names : NamesSlot made st.slots index serial a p) (not_part : p.is_part ≡ false) where
    first_is : p.first ≡ first_cell made serial
    first_is = names.first ∙ ap (λ path. first_cell made serial + cells_before names.of.shape path) (names.whole not_part) ∙ omega arith

    -- the newest slot is another one
    other_newest : (i : ℕ) (slot : OpenSlot) (older : List Place) → slice_get st.slots i ≡ Some slot → lf.slots ≡ slot_place made slot ∷ older → (serial ≡ slot.serial → ⊥)
        → slots_behind (ClosesSlot p) lf.slots ≡ Err fault.Slot
    other_newest i slot older there own other =
        let right = agrees.slots.each i slot there in
        let low = slice_get_within made serial names.of names.there in
        let high = slice_get_within made slot.serial right.of right.there in
        let apart : p.first == first_cell made slot.serial ≡ false =
        ne_eqb p.first (first_cell made slot.serial) (λ e. other (one_cell_one_slot made serial slot.serial (omega (arith, low)) (omega (arith, high)) (sym first_is ∙ e))) in
        ap (slots_behind (ClosesSlot p)) own
        ∙ ap (λ b. cond b (Ok older) (Err fault.Slot))
        (and_right (on_stack p.home) (not p.is_part && p.first == first_cell made slot.serial) (and_right (not p.is_part) (p.first == first_cell made slot.serial) apart))

    is_newest : (slot : OpenSlot) (older : List Place) → lf.slots ≡ slot_place made slot ∷ older → slot.serial ≡ serial → slots_behind (ClosesSlot p) lf.slots ≡ Ok older
    is_newest slot older own same =
        ap (slots_behind (ClosesSlot p)) own
        ∙ ap (λ b. cond b (Ok older) (Err fault.Slot))
        (and_from (on_stack p.home) (not p.is_part && p.first == first_cell made slot.serial) (ap on_stack names.home)
        (and_from (not p.is_part) (p.first == first_cell made slot.serial) (ap not not_part)
        (eq-eqb p.first (first_cell made slot.serial) (first_is ∙ ap (first_cell made) (sym same)))))

    closed_is_none : is_open names.of ≡ false → NewestSlot made st lf below → slots_behind (ClosesSlot p) lf.slots ≡ Err fault.Slot
    closed_is_none closed (NewestSlot.none e whole) = none_own e
    closed_is_none closed (NewestSlot.newest i slot older last low there own) = other_newest i slot older there own (λ same.
        let right = agrees.slots.each i slot there in
        let of_is : right.of ≡ names.of = same_Some right.of names.of (sym right.there ∙ ap (slice_get made) (sym same) ∙ names.there) in
        false≢true (sym closed ∙ ap is_open (sym of_is) ∙ right.open_))

    module _ (slot : OpenSlot) (at : slice_get st.slots index ≡ Some slot) (same : slot.serial ≡ serial) where
      -- slots at other places have other numbers
      other_place : (i : ℕ) (next : OpenSlot) → slice_get st.slots i ≡ Some next → (index ≡ i → ⊥) → serial ≡ next.serial → ⊥
      other_place i next there other e = by (cases_lt index i)
        where
          by : (index < i) ⊎ (i ≤ index) → ⊥
          by (inl before) = let apart = (agrees.slots.each index slot at).before i next there before in omega (arith, apart.0, same, e)
          by (inr behind) = let apart = (agrees.slots.each i next there).before index slot at (omega (arith, behind, other)) in omega (arith, apart.0, same, e)

      abbrev new : List cells.Cell
      new = replicate (cell_count p.shape) cells.Gone

      abbrev gone : Made
      gone = with_content names.of Gone

      stack_without : put_cells mem.stack p.first new ≡ stack_of (set made slot.serial gone)
      stack_without =
          let part = part_cells_fit names.part in
          let count = content_length (is_of_class m mem) names.of.shape names.of.content (all_suit agrees.slots serial names.of names.there) in
          stack_with (is_of_class m mem) made mem st.slots index serial a p names agrees.stack (all_suit agrees.slots) Gone new
          (omega (arith, part, length-replicate (cell_count p.shape) cells.Gone)) (whole_same names.part (names.whole not_part) cells.Gone (made_cells names.of) count)
          ∙ ap (λ n. stack_of (set made n gone)) (sym same)

      goes_so : index + 1 ≡ length st.slots → Changes m made mem st (removed mem p) numbers (without_slot st index slot)
      goes_so last =
          let there : slice_get made slot.serial ≡ Some names.of = ap (slice_get made) same ∙ names.there in
          let mem' : Memory = record mem { stack = put_cells mem.stack p.first new } in
          subst (λ h. Changes m made mem st (with_home_cells mem h (put_cells (home_cells mem h) p.first new)) numbers (without_slot st index slot)) (sym names.home) (record {
            made' = set made slot.serial gone;
            agrees = record {
              stack = stack_without;
              serials = agrees.serials ∙ sym (length-set made slot.serial gone);
              slots = slots_agree_without agrees.slots index names.of slot there at last;
              objects = agrees.objects;
              declared = agrees.declared;
            };
            grows = grows_gone (were_made agrees.slots) index slot names.of (objects_stay mem mem' refl) at last there;
            phases = λ o within. refl;
            frames = record { tasks = refl; there = refl; leaves = refl; addresses = refl; waiting = refl; events = refl; turns = refl; retains = refl; releases = refl };
          })

      abbrev Removed : Bool → Type 0
      Removed b = Removes (cond b (go_on (without_slot st index slot) fr rest) (faults fault.Slot st))

      open_slot : (last : (index + 1 ≡ length st.slots) ⊎ (index + 1 ≡ length st.slots → ⊥)) → NewestSlot made st lf below → Removed (index + 1 == length st.slots && nat_le fr.slots index)
      open_slot (inr not_last) (NewestSlot.none e whole) =
          subst Removed (sym (and_left (index + 1 == length st.slots) (nat_le fr.slots index) (ne_eqb (index + 1) (length st.slots) not_last))) (RemovesIs.faulted (none_own e))
      open_slot (inr not_last) (NewestSlot.newest i next older last low there own) =
          subst Removed (sym (and_left (index + 1 == length st.slots) (nat_le fr.slots index) (ne_eqb (index + 1) (length st.slots) not_last)))
          (RemovesIs.faulted (other_newest i next older there own (other_place i next there (λ e. not_last (ap (λ n. n + 1) e ∙ last)))))
      open_slot (inl is_last) (NewestSlot.none e whole) =
          subst Removed (sym (and_right (index + 1 == length st.slots) (nat_le fr.slots index) (lt-leb fr.slots index (omega (arith, is_last, whole, same_slots))))) (RemovesIs.faulted (none_own e))
      open_slot (inl is_last) (NewestSlot.newest i next older last low there own) =
          let here : i ≡ index = omega (arith, is_last, last) in
          let is : next ≡ slot = same_Some next slot (sym there ∙ ap (slice_get st.slots) here ∙ at) in
          let mine : lf.slots ≡ slot_place made slot ∷ older = own ∙ ap (λ x. slot_place made x ∷ older) is in
          let within : fr.slots ≤ index = omega (arith, low, here, same_slots) in
          subst Removed (sym (and_from (index + 1 == length st.slots) (nat_le fr.slots index) (eq-eqb (index + 1) (length st.slots) is_last) (le-leb fr.slots index within)))
          (RemovesIs.goes index slot older at is_last within mine (is_newest slot older mine same) (goes_so is_last))

    in_slot : (b : Bool) → is_open names.of ≡ b → Removes (removes_slot st fr rest index (slot_in st index serial))
    in_slot true opened =
        let now = names.now opened in
        subst (λ o. Removes (removes_slot st fr rest index o)) (sym (found_slot st.slots index serial now.0 now.1 now.2))
        (open_slot now.0 now.1 now.2 (cases_eq (index + 1) (length st.slots)) newest)
    in_slot false closed =
        subst (λ o. Removes (removes_slot st fr rest index o)) (sym (no_slot agrees.slots index serial names.of names.there closed)) (RemovesIs.faulted (closed_is_none closed newest))

  at_home : (b : Bool) → p.is_part ≡ b → NamesPlace m made st.slots mem a p → Removes (removes_home st fr rest b a.home)
  at_home true part names = RemovesIs.faulted (part_is_none part)
  at_home false not_part (NamesPlace.in_slot index serial at names) =
      subst (λ h. Removes (removes_home st fr rest false h)) (sym at) (in_slot index serial names not_part (is_open names.of) refl)
  at_home false not_part (NamesPlace.in_field o k at names) =
      subst (λ h. Removes (removes_home st fr rest false h)) (sym at) (RemovesIs.faulted (in_object_is_none o names.home))

  pub slot_removed : NamesPlace m made st.slots mem a p → Removes (removes_home st fr rest a.is_part a.home)
  slot_removed names = subst (λ b. Removes (removes_home st fr rest b a.home)) (same_part names) (at_home p.is_part refl names)
    where
      same_part : NamesPlace m made st.slots mem a p → p.is_part ≡ a.is_part
      same_part (NamesPlace.in_slot index serial at names) = sym names.parts
      same_part (NamesPlace.in_field o k at names) = sym names.parts

-- what lies below stays
pub slot_removed_keeps : (st : MachineView) (index : ℕ) (slot : OpenSlot) (ends : Ends) → ends.slots ≤ index → KeepsBelow ends st (without_slot st index slot)
slot_removed_keeps st index slot ends low = record {
  there = refl;
  leaves = refl;
  addresses = refl;
  serials = ap (map serial_of) (take-take ends.slots index st.slots low);
  waiting = refl;
}
