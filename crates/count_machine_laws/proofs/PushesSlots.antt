-- Slots of a frame that come and go.
use Rattle.std.proofs.Common.{◌≡◌, ◌≤◌, ◌<◌, ◌+◌, ◌-◌, ◌++◌, ◌⊎◌, inl, inr, ℕ, suc, List, [], ◌∷◌, Some, length, map, sym, ap, ◌∙◌, arith}
use Rattle.std.specs.Prelude.{drop, reverse, slice_get, take}
use Rattle.std.proofs.lemmas.Bool.{cases_lt}
use Rattle.std.proofs.lemmas.List.{map-append, reverse-append}
use Rattle.count_machine_model.specs.holder_model.LoweredRun.LowFrames.{LowFrame}
use Rattle.count_machine_model.specs.declared.machine_steps.address.OpenSlot.{OpenSlot}
use Rattle.count_machine_model.specs.declared.machine_steps.frame.Frame.{Frame}
use Rattle.count_machine_model.specs.MachineSteps.Views.{MachineView}
use Rattle.holder_model_values.specs.RunValues.Memory.{Memory}
use Rattle.holder_model_values.specs.RunValues.Places.{Place}
use Rattle.sil_ast.specs.declared.function.Function.{Function}
use Rattle.sil_ast.specs.declared.module.Module.{Module}
use Rattle.sil_cfg.proofs.Gets.{last_get, take_one_more}
use Rattle.count_machine_laws.proofs.Entries.{Ends, FrameAgrees, slots_between}
use Rattle.count_machine_laws.proofs.Grows.{Grows}
use Rattle.count_machine_laws.proofs.GrowsTasks.{KeepsBelow, frame_grows}
use Rattle.count_machine_laws.proofs.LayoutsLists.{get_drop, there_below}
use Rattle.count_machine_laws.proofs.Slots.{Made, slot_place}

-- the newest slot of a frame that has its slots up to the end of all
pub data NewestSlot (made : List Made) (st : MachineView) (lf : LowFrame) (below : Ends) : Type 0 where
  none : lf.slots ≡ [] → below.slots ≡ length st.slots → NewestSlot made st lf below
  newest : (index : ℕ) (slot : OpenSlot) (places : List Place) → index + 1 ≡ length st.slots → below.slots ≤ index → slice_get st.slots index ≡ Some slot
      → lf.slots ≡ slot_place made slot ∷ places → NewestSlot made st lf below

-- the places of a frame's slots, the newest first, where one more comes behind
places_more : (made : List Made) (slots : List OpenSlot) (from index : ℕ) (slot : OpenSlot) → from ≤ index → slice_get slots index ≡ Some slot
    → reverse (map (slot_place made) (take (index + 1 - from) (drop from slots))) ≡ slot_place made slot ∷ reverse (map (slot_place made) (take (index - from) (drop from slots)))
places_more made slots from index slot le there =
    let count : index + 1 - from ≡ suc (index - from) = omega (arith, le) in
    let at : from + (index - from) ≡ index = omega (arith, le) in
    let front = take (index - from) (drop from slots) in
    let last : slice_get (drop from slots) (index - from) ≡ Some slot = get_drop slots from (index - from) ∙ ap (slice_get slots) at ∙ there in
    ap (λ n. reverse (map (slot_place made) (take n (drop from slots)))) count
    ∙ ap (λ ss. reverse (map (slot_place made) ss)) (take_one_more (drop from slots) (index - from) slot last)
    ∙ ap reverse (map-append (slot_place made) front (slot ∷ []))
    ∙ reverse-append (map (slot_place made) front) (slot_place made slot ∷ [])

-- a frame with its slots up to another end
with_slots : {m : Module} {made : List Made} {mem : Memory} {st : MachineView} {f : Function} {lf : LowFrame} {mf : Frame} {below above : Ends}
    → FrameAgrees m made mem st f lf mf below above → (end : ℕ) (places : List Place) → below.slots ≤ end → places ≡ reverse (map (slot_place made) (slots_between st below.slots end))
    → FrameAgrees m made mem st f (record lf { slots = places }) mf below (record above { slots = end })
with_slots agrees end places le own = record {
  there = agrees.there;
  same = agrees.same;
  at_block = agrees.at_block;
  at_index = agrees.at_index;
  block = agrees.block;
  block_there = agrees.block_there;
  in_block = agrees.in_block;
  count = agrees.count;
  entries = agrees.entries;
  values = agrees.values;
  leaves = agrees.leaves;
  addresses = agrees.addresses;
  slots = agrees.slots;
  values_end = agrees.values_end;
  leaves_end = agrees.leaves_end;
  addresses_end = agrees.addresses_end;
  slots_end = le;
  waiting_end = agrees.waiting_end;
  own_slots = own;
}

module _ {m : Module} {made : List Made} {mem : Memory} {st : MachineView} {f : Function} {lf : LowFrame} {mf : Frame} {below above : Ends}
    (agrees : FrameAgrees m made mem st f lf mf below above) (up_to : above.slots ≡ length st.slots) where
  own_places : (n : ℕ) → above.slots ≡ n → lf.slots ≡ reverse (map (slot_place made) (take (n - below.slots) (drop below.slots st.slots)))
  own_places n e = agrees.own_slots ∙ ap (λ k. reverse (map (slot_place made) (take (k - below.slots) (drop below.slots st.slots)))) e

  pub newest_slot : NewestSlot made st lf below
  newest_slot = by_order (cases_lt below.slots (length st.slots))
    where
      by_order : (below.slots < length st.slots) ⊎ (length st.slots ≤ below.slots) → NewestSlot made st lf below
      by_order (inl lt) =
          let index = length st.slots - 1 in
          let last : index + 1 ≡ length st.slots = omega (arith, lt) in
          let slot = there_below st.slots index (omega (arith, lt)) in
          let le : below.slots ≤ index = omega (arith, lt) in
          newest index slot.0 (reverse (map (slot_place made) (take (index - below.slots) (drop below.slots st.slots)))) last le slot.1
          (own_places (index + 1) (up_to ∙ sym last) ∙ places_more made st.slots below.slots index slot.0 le slot.1)
      by_order (inr le) =
          let least : below.slots ≤ above.slots = agrees.slots_end in
          let nothing : length st.slots - below.slots ≡ 0 = omega (arith, le) in
          none (own_places (length st.slots) up_to ∙ ap (λ k. reverse (map (slot_place made) (take k (drop below.slots st.slots)))) nothing) (omega (arith, le, least, up_to))

  module _ {made' : List Made} {mem' : Memory} {st' : MachineView} (grows : Grows m made mem st.slots made' mem' st'.slots) where
    pub slot_opens : (slot : OpenSlot) → st'.slots ≡ st.slots ++ slot ∷ [] → KeepsBelow above st st'
        → FrameAgrees m made' mem' st' f (record lf { slots = slot_place made' slot ∷ lf.slots }) mf below (record above { slots = length st.slots + 1 })
    slot_opens slot is keeps =
        let now = frame_grows grows keeps agrees in
        let least : below.slots ≤ length st.slots = omega (arith, agrees.slots_end, up_to) in
        let there : slice_get st'.slots (length st.slots) ≡ Some slot = ap (λ ss. slice_get ss (length st.slots)) is ∙ last_get st.slots slot in
        let same : lf.slots ≡ reverse (map (slot_place made') (take (length st.slots - below.slots) (drop below.slots st'.slots))) =
        now.own_slots ∙ ap (λ k. reverse (map (slot_place made') (take (k - below.slots) (drop below.slots st'.slots)))) up_to in
        with_slots now (length st.slots + 1) (slot_place made' slot ∷ lf.slots) (omega (arith, least))
        (ap (λ ps. slot_place made' slot ∷ ps) same ∙ sym (places_more made' st'.slots below.slots (length st.slots) slot least there))

    pub slot_closes : (index : ℕ) (slot : OpenSlot) (places : List Place) → index + 1 ≡ length st.slots → below.slots ≤ index → slice_get st.slots index ≡ Some slot
        → lf.slots ≡ slot_place made slot ∷ places → KeepsBelow (record above { slots = index }) st st'
        → FrameAgrees m made' mem' st' f (record lf { slots = places }) mf below (record above { slots = index })
    slot_closes index slot places last le there own keeps =
        let all = own_places (index + 1) (up_to ∙ sym last) ∙ places_more made st.slots below.slots index slot le there in
        frame_grows grows keeps (with_slots agrees index places le (ap (drop 1) (sym own ∙ all)))
