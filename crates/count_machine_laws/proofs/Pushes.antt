-- Frames that come and go, and values that are carried into a frame.
use Rattle.std.proofs.Common.{◌≡◌, ◌<◌, ◌+◌, ◌-◌, suc, List, [], ◌∷◌, true, false, Some, None, length, map, refl, sym, ap, ◌∙◌, subst, arith}
use Rattle.std.specs.Prelude.{drop, replicate, reverse, slice_get, take}
use Rattle.std.proofs.lemmas.Bool.{false≢true}
use Rattle.std.proofs.lemmas.List.{get_or-append-add, get_or-replicate, length-append, length-map, length-replicate, length-take-le, take-append-le, take-take}
use Rattle.std.proofs.lemmas.Option.{unwrap_or-slice_get}
use Rattle.count_machine_model.specs.holder_model.Calling.{value_count}
use Rattle.count_machine_model.specs.holder_model.Data.{Datum}
use Rattle.count_machine_model.specs.holder_model.Frames.{has_any}
use Rattle.count_machine_model.specs.holder_model.LoweredRun.LowFrames.{LowFrame, no_values, put_all, value_at}
use Rattle.count_machine_model.specs.holder_model.LoweredRun.LowStepParts as low
use Rattle.count_machine_model.specs.declared.machine_steps.frame.Frame.{Frame}
use Rattle.count_machine_model.specs.declared.machine_steps.frame.Task.{Task}
use Rattle.count_machine_model.specs.MachineSteps.Calling.{addresses_carried, carried, new_frame, with_frame, without_frame}
use Rattle.count_machine_model.specs.MachineSteps.Operands.{address_in, contents, is_there_in, no_address}
use Rattle.count_machine_model.specs.MachineSteps.Views.{MachineView}
use Rattle.numbered_form.specs.Lists.{Each}
use Rattle.count_machine_model.specs.declared.ready_code.function.ReadyFunction.{ReadyFunction}
use Rattle.count_machine_model.specs.ReadyCode.Layout as layout
use Rattle.count_machine_model.specs.ReadyCode.Layout.{local, local_address}
use Rattle.count_machine_model.specs.ReadyCode.ReadyModules.{IsReadyFunction}
use Rattle.count_machine_model.specs.holder_model.RunTyping.CallForms.{IsOf}
use Rattle.count_machine_model.specs.holder_model.RunTyping.Forms.{OfPlace, OfValue, form_of, forms_of}
use Rattle.holder_model_values.specs.RunValues.Memory.{Memory}
use Rattle.holder_model_values.specs.RunValues.Shapes.{Shape}
use Rattle.holder_model_values.specs.declared.run_values.leaf.Leaf.TheVariants as leaf
use Rattle.sil_ast.specs.declared.function.Block.{Block}
use Rattle.sil_ast.specs.declared.function.Function.{Function}
use Rattle.sil_ast.specs.declared.module.Module.{Module}
use Rattle.sil_ast.specs.declared.place.FuncId.{FuncId}
use Rattle.sil_ast.specs.declared.place.ValueId.{ValueId}
use Rattle.sil_types_declarations.specs.TypeDefinitions.Declarations.{Declarations, declarations_of}
use Rattle.count_machine_laws.proofs.Agreement.{ends_of}
use Rattle.count_machine_laws.proofs.Entries.{Ends, EntryAgrees, FrameAgrees, absent}
use Rattle.count_machine_laws.proofs.GrowsTasks.{AtMost, KeepsBelow, at_most_itself, entry_stays, frame_within, keeps_then}
use Rattle.count_machine_laws.proofs.Layouts.{address_within, local_within}
use Rattle.count_machine_laws.proofs.LayoutsLists.{at_taken, part_taken}
use Rattle.count_machine_laws.proofs.Operands.{AllRead, more, none}
use Rattle.count_machine_laws.proofs.PushesAddresses.{addresses_put, carry_addresses}
use Rattle.count_machine_laws.proofs.PushesCarried.{carry_values, values_put}
use Rattle.count_machine_laws.proofs.PushesData.{AreCarried, all_put, values_alone}
use Rattle.count_machine_laws.proofs.Puts.{ends_are, entry_on}
use Rattle.count_machine_laws.proofs.Slots.{Made, slot_place}

first_of : (bs : List Block) → has_any bs ≡ true → (b : Block) × (slice_get bs 0 ≡ Some b)
first_of [] bodied = absurd (false≢true bodied)
first_of (b ∷ bs) bodied = (b, refl)

-- the new frame of a function: none of its values is there yet
pub frame_made : (m : Module) (made : List Made) (mem : Memory) (st : MachineView) (g : FuncId) (callee : Function) (code : ReadyFunction)
    → slice_get m.functions g.0 ≡ Some callee → has_any callee.blocks ≡ true → IsReadyFunction m callee code
    → FrameAgrees m made mem (with_frame st g code) callee (low.new_frame g (no_values (value_count callee))) (new_frame st g) (ends_of st) (ends_of (with_frame st g code))
frame_made m made mem st g callee code there bodied ready = record {
  there = there;
  same = refl;
  at_block = refl;
  at_index = refl;
  block = first.0;
  block_there = first.1;
  in_block = omega arith;
  count = length-replicate (value_count callee) None;
  entries = λ v lt. entry v lt;
  values = refl;
  leaves = refl;
  addresses = refl;
  slots = refl;
  values_end = length-append st.there (replicate code.values false) ∙ ap (λ n. length st.there + n) (length-replicate code.values false ∙ ready.values);
  leaves_end = length-append st.leaves (replicate code.leaves leaf.Blank) ∙ ap (λ n. length st.leaves + n) (length-replicate code.leaves leaf.Blank ∙ ready.leaves);
  addresses_end = length-append st.addresses (replicate code.addresses no_address)
      ∙ ap (λ n. length st.addresses + n) (length-replicate code.addresses no_address ∙ ready.addresses);
  slots_end = omega arith;
  waiting_end = refl;
  own_slots =
      let none_yet : length st.slots - length st.slots ≡ 0 = omega arith in
      sym (ap (λ n. reverse (map (slot_place made) (take n (drop (length st.slots) st.slots)))) none_yet);
}
  where
    first : (b : Block) × (slice_get callee.blocks 0 ≡ Some b)
    first = first_of callee.blocks bodied

    now : MachineView
    now = with_frame st g code

    frame : Frame
    frame = new_frame st g

    entry : (v : ValueId) → v.0 < value_count callee → EntryAgrees m made mem now (form_of (declarations_of m) callee v) (value_at (no_values (value_count callee)) v)
        (is_there_in now frame v) (contents now frame (local (declarations_of m) callee v)) (address_in now frame (local_address (declarations_of m) callee v))
    entry v lt =
        let ls = contents now frame (local (declarations_of m) callee v) in
        let a = address_in now frame (local_address (declarations_of m) callee v) in
        let none_yet : value_at (no_values (value_count callee)) v ≡ None =
        unwrap_or-slice_get (no_values (value_count callee)) v.0 None ∙ get_or-replicate (value_count callee) v.0 None None lt in
        let not_there : is_there_in now frame v ≡ false =
        unwrap_or-slice_get now.there (length st.there + v.0) false ∙ get_or-append-add st.there (replicate code.values false) v.0 false
        ∙ get_or-replicate code.values v.0 false false (omega (arith, lt, ready.values)) in
        subst (λ o. EntryAgrees m made mem now (form_of (declarations_of m) callee v) o (is_there_in now frame v) ls a) (sym none_yet)
        (subst (λ b. EntryAgrees m made mem now (form_of (declarations_of m) callee v) None b ls a) (sym not_there) (absent ls a))

pub with_frame_keeps : (st : MachineView) (g : FuncId) (code : ReadyFunction) → KeepsBelow (ends_of st) st (with_frame st g code)
with_frame_keeps st g code = record {
  there = take-append-le (length st.there) st.there (replicate code.values false) (omega arith);
  leaves = take-append-le (length st.leaves) st.leaves (replicate code.leaves leaf.Blank) (omega arith);
  addresses = take-append-le (length st.addresses) st.addresses (replicate code.addresses no_address) (omega arith);
  serials = refl;
  waiting = refl;
}

-- the values of a frame are read alike where the stacks are the same below its end
pub all_read_keeps : {m : Module} {made : List Made} {mem : Memory} {st st' : MachineView} {f : Function} {lf : LowFrame} {mf : Frame} {below above : Ends}
    → FrameAgrees m made mem st f lf mf below above → KeepsBelow above st st' → st'.slots ≡ st.slots → {vs : List ValueId} {xs : List Datum} → Each (IsOf f) vs
    → AllRead m made mem st f mf vs xs → AllRead m made mem st' f mf vs xs
all_read_keeps agrees keeps slots are_of none = none
all_read_keeps {m = m} {st = st} {st' = st'} {f = f} {mf = mf} {above = above} agrees keeps slots are_of (more v x vs xs read reads) =
    let d = declarations_of m in
    let leaves_within = local_within d f v (value_count f) are_of.0 in
    more v x vs xs
    (entry_stays (entry_on read st' slots) refl
    (part_taken st'.leaves st.leaves above.leaves (mf.leaves + (local d f v).at) (local d f v).size keeps.leaves (omega (arith, leaves_within, agrees.leaves, agrees.leaves_end)))
    (λ s form. at_taken st'.addresses st.addresses above.addresses (mf.addresses + (local_address d f v).at) no_address keeps.addresses
    (omega (arith, address_within d f v (value_count f) s form are_of.0, agrees.addresses, agrees.addresses_end))))
    (all_read_keeps agrees keeps slots are_of.1 reads)

read_length : {m : Module} {made : List Made} {mem : Memory} {st : MachineView} {f : Function} {mf : Frame} {vs : List ValueId} {xs : List Datum}
    → AllRead m made mem st f mf vs xs → length xs ≡ length vs
read_length none = refl
read_length (more v x vs xs read reads) = ap suc (read_length reads)

forms_length : (d : Declarations) (f g : Function) (vs ws : List ValueId) → forms_of d f vs ≡ forms_of d g ws → length vs ≡ length ws
forms_length d f g vs ws same = sym (length-map vs (form_of d f)) ∙ ap length same ∙ length-map ws (form_of d g)

module _ {m : Module} {made : List Made} {mem : Memory} {st : MachineView} {f : Function} {lf : LowFrame} {mf : Frame} {below above : Ends}
    (agrees : FrameAgrees m made mem st f lf mf below above) where
  -- values are carried along an edge
  pub carried_agrees : AtMost above (ends_of st) → (vs ws : List ValueId) (xs : List Datum) (shapes : List Shape) → Each (IsOf f) vs → Each (IsOf f) ws
      → forms_of (declarations_of m) f vs ≡ map OfValue shapes → forms_of (declarations_of m) f ws ≡ map OfValue shapes → AllRead m made mem st f mf vs xs
      → (values : _) × (put_all ws xs lf.values ≡ Some values)
      × FrameAgrees m made mem (carried st mf mf (layout.values_carried (declarations_of m) f f vs ws)) f (record lf { values = values }) mf below above
      × KeepsBelow below st (carried st mf mf (layout.values_carried (declarations_of m) f f vs ws))
      × (ends_of (carried st mf mf (layout.values_carried (declarations_of m) f f vs ws)) ≡ ends_of st)
  carried_agrees reach vs ws xs shapes are_of are_of' given taken read =
      let d = declarations_of m in
      let same : forms_of d f vs ≡ forms_of d f ws = given ∙ sym taken in
      let all = carry_values m made mem f f mf mf below above st read ws are_of' same st lf agrees reach in
      let put = values_alone d f ws xs shapes taken (read_length read ∙ forms_length d f f vs ws same) lf.values in
      (values_put d f ws xs lf.values, put, all.frame, all.keeps, all.ends)

  -- the frame is gone
  pub without_frame_keeps : AtMost above (ends_of st) → (rest : List Task) → KeepsBelow below st (without_frame st mf rest)
  without_frame_keeps reach rest = record {
    there = take-take below.values mf.values st.there (omega (arith, agrees.values));
    leaves = take-take below.leaves mf.leaves st.leaves (omega (arith, agrees.leaves));
    addresses = take-take below.addresses mf.addresses st.addresses (omega (arith, agrees.addresses));
    serials = refl;
    waiting = refl;
  }

  pub without_frame_ends : above ≡ ends_of st → (rest : List Task) → length st.slots ≡ mf.slots → ends_of (without_frame st mf rest) ≡ below
  without_frame_ends reach rest same =
      let least = frame_within agrees in
      let values : above.values ≡ length st.there = ap (λ e. e.values) reach in
      let leaves : above.leaves ≡ length st.leaves = ap (λ e. e.leaves) reach in
      let addresses : above.addresses ≡ length st.addresses = ap (λ e. e.addresses) reach in
      let waiting : above.waiting ≡ length st.waiting = ap (λ e. e.waiting) reach in
      ends_are (ends_of (without_frame st mf rest)) below
      (length-take-le mf.values st.there (omega (arith, agrees.values, least.values, values)) ∙ agrees.values)
      (length-take-le mf.leaves st.leaves (omega (arith, agrees.leaves, least.leaves, leaves)) ∙ agrees.leaves)
      (length-take-le mf.addresses st.addresses (omega (arith, agrees.addresses, least.addresses, addresses)) ∙ agrees.addresses)
      (same ∙ agrees.slots) (omega (arith, waiting, agrees.waiting_end))

-- a function's frame with its arguments, carried from the caller's

abbrev pub entered_state : Module → MachineView → Frame → Function → Function → FuncId → ReadyFunction → List ValueId → List ValueId → MachineView
entered_state m st mf f callee g code vs ws =
    addresses_carried (carried (with_frame st g code) mf (new_frame st g) (layout.values_carried (declarations_of m) f callee vs ws))
    mf (new_frame st g) (layout.addresses_carried (declarations_of m) f callee vs ws)

module _ {m : Module} {made : List Made} {mem : Memory} {st : MachineView} {f : Function} {lf : LowFrame} {mf : Frame} {below : Ends}
    (agrees : FrameAgrees m made mem st f lf mf below (ends_of st)) (g : FuncId) (callee : Function) (code : ReadyFunction)
    (there : slice_get m.functions g.0 ≡ Some callee) (bodied : has_any callee.blocks ≡ true) (ready : IsReadyFunction m callee code) where
  lie : (v : ValueId) (s : Shape) → IsOf f v → form_of (declarations_of m) f v ≡ OfPlace s → mf.addresses + (local_address (declarations_of m) f v).at < length st.addresses
  lie v s is_of form = omega (arith, address_within (declarations_of m) f v (value_count f) s form is_of, agrees.addresses, agrees.addresses_end)

  pub frame_pushed : (vs ws : List ValueId) (xs : List Datum) → Each (IsOf f) vs → Each (IsOf callee) ws
      → forms_of (declarations_of m) f vs ≡ forms_of (declarations_of m) callee ws → AreCarried (forms_of (declarations_of m) callee ws) → AllRead m made mem st f mf vs xs
      → (values : _) × (put_all ws xs (no_values (value_count callee)) ≡ Some values)
      × FrameAgrees m made mem (entered_state m st mf f callee g code vs ws) callee (low.new_frame g values) (new_frame st g) (ends_of st)
      (ends_of (entered_state m st mf f callee g code vs ws))
      × KeepsBelow (ends_of st) st (entered_state m st mf f callee g code vs ws)
  frame_pushed vs ws xs are_of are_of' same carries read =
      let d = declarations_of m in
      let made_now = frame_made m made mem st g callee code there bodied ready in
      let opened = with_frame st g code in
      let reads = all_read_keeps agrees (with_frame_keeps st g code) refl are_of read in
      let reach = at_most_itself (ends_of opened) in
      let first = carry_values m made mem f callee mf (new_frame st g) (ends_of st) (ends_of opened) opened reads ws are_of' same opened
      (low.new_frame g (no_values (value_count callee))) made_now reach in
      let then = carry_addresses m made mem f callee mf (new_frame st g) (ends_of st) (ends_of opened) opened lie reads ws are_of are_of' same _ _
      first.frame (subst (AtMost (ends_of opened)) (sym first.ends) reach) first.keeps first.slots in
      let put = all_put d callee ws xs carries (read_length read ∙ forms_length d f callee vs ws same) (no_values (value_count callee)) in
      let values = addresses_put d callee ws xs (values_put d callee ws xs (no_values (value_count callee))) in
      let state = entered_state m st mf f callee g code vs ws in (
        values,
        put,
        subst (λ e. FrameAgrees m made mem state callee (low.new_frame g values) (new_frame st g) (ends_of st) e) (sym (then.ends ∙ first.ends)) then.frame,
        keeps_then (with_frame_keeps st g code) (keeps_then first.keeps then.keeps),
      )
