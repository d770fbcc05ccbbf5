-- What a frame is given: its value is there, of the form that it has, and all others are as they were.
use Rattle.std.proofs.Common.{◌≡◌, ◌≢◌, ◌≤◌, ◌<◌, ◌+◌, ◌-◌, ◌⊎◌, inl, inr, List, Bool, false, true, Option, None, Some, length, map, refl, sym, ap, ◌∙◌, subst, arith}
use Rattle.std.specs.Prelude.{drop, reverse, set, slice_get, take, unwrap_or}
use Rattle.std.proofs.lemmas.Bool.{cases_eq}
use Rattle.std.proofs.lemmas.List.{length-set, take-set-le}
use Rattle.count_machine_model.specs.holder_model.Calling.{value_count}
use Rattle.count_machine_model.specs.holder_model.Data.{AddressOf, Datum, FunctionOf, ValueOf}
use Rattle.count_machine_model.specs.holder_model.LoweredRun.LowFrames.{LowFrame, value_at}
use Rattle.count_machine_model.specs.declared.machine_steps.address.Address.{Address}
use Rattle.count_machine_model.specs.declared.machine_steps.frame.Frame.{Frame}
use Rattle.count_machine_model.specs.MachineSteps.Operands.{address_in, contents, is_there_in, laid_over, no_address, put, put_address, put_there}
use Rattle.count_machine_model.specs.MachineSteps.Views.{MachineView}
use Rattle.count_machine_model.specs.ReadyCode.Layout.{leaves_in, local, local_address, value_number}
use Rattle.count_machine_model.specs.holder_model.RunTyping.CallForms.{IsOf}
use Rattle.count_machine_model.specs.holder_model.RunTyping.Forms.{Form, OfFunction, OfPlace, OfValue, form_of}
use Rattle.holder_model_values.specs.RunValues.Leaves.{leaves_of}
use Rattle.holder_model_values.specs.RunValues.Memory.{Memory}
use Rattle.holder_model_values.specs.RunValues.Places.{Place}
use Rattle.holder_model_values.specs.RunValues.Shapes.{Shape}
use Rattle.holder_model_values.specs.RunValues.Values.{Value}
use Rattle.holder_model_values.specs.declared.run_values.leaf.Leaf.{Leaf}
use Rattle.sil_ast.specs.declared.function.Block.{Block}
use Rattle.sil_ast.specs.declared.function.Function.{Function}
use Rattle.sil_ast.specs.declared.module.Module.{Module}
use Rattle.sil_ast.specs.declared.place.FuncId.{FuncId}
use Rattle.sil_ast.specs.declared.place.PointId.{PointId}
use Rattle.sil_ast.specs.declared.place.ValueId.{ValueId}
use Rattle.sil_types_declarations.specs.TypeDefinitions.Declarations.{Declarations, declarations_of}
use Rattle.holder_model_values.specs.ValueParts.inner.Suits.{suits}
use Rattle.holder_model_values.proofs.ValueParts.LeafParts.{suits_leaves_length}
use Rattle.count_machine_laws.proofs.Agreement.{ends_of}
use Rattle.count_machine_laws.proofs.Entries.{Ends, EntryAgrees, FrameAgrees, absent, function, place, value}
use Rattle.count_machine_laws.proofs.GrowsTasks.{AtMost, KeepsBelow, entry_stays}
use Rattle.count_machine_laws.proofs.Layouts.{address_within, addresses_apart, local_within, locals_apart}
use Rattle.count_machine_laws.proofs.LayoutsLists.{at_others, at_set, laid_apart, laid_length, laid_take, laid_there}
use Rattle.count_machine_laws.proofs.Memories.{NamesPlace}
use Rattle.count_machine_laws.proofs.Objects.{is_of_class}
use Rattle.count_machine_laws.proofs.Slots.{Made, slot_place}

pub ends_are : (e f : Ends) → e.values ≡ f.values → e.leaves ≡ f.leaves → e.addresses ≡ f.addresses → e.slots ≡ f.slots → e.waiting ≡ f.waiting → e ≡ f
ends_are e f values leaves addresses slots waiting =
    ap (λ n. record e { values = n }) values ∙ ap (λ n. record e { values = f.values; leaves = n }) leaves
    ∙ ap (λ n. record e { values = f.values; leaves = f.leaves; addresses = n }) addresses
    ∙ ap (λ n. record f { slots = n; waiting = e.waiting }) slots ∙ ap (λ n. record f { waiting = n }) waiting

pub same_ends : (st st' : MachineView) → length st'.there ≡ length st.there → length st'.leaves ≡ length st.leaves → length st'.addresses ≡ length st.addresses
    → length st'.slots ≡ length st.slots → length st'.waiting ≡ length st.waiting → ends_of st' ≡ ends_of st
same_ends st st' there leaves addresses slots waiting = ends_are (ends_of st') (ends_of st) there leaves addresses slots waiting

-- an entry depends on the slots alone
pub entry_on : {m : Module} {made : List Made} {mem : Memory} {st : MachineView} {form : Form} {x : Option Datum} {b : Bool} {ls : List Leaf} {a : Address}
    → EntryAgrees m made mem st form x b ls a → (st' : MachineView) → st'.slots ≡ st.slots → EntryAgrees m made mem st' form x b ls a
entry_on (absent ls a) st' same = absent ls a
entry_on (value s x ls a form fits is) st' same = value s x ls a form fits is
entry_on {m = m} {made = made} {mem = mem} (place p ls a form names) st' same = place p ls a form (subst (λ slots. NamesPlace m made slots mem a p) (sym same) names)
entry_on (function g ls a form) st' same = function g ls a form

-- a value that is put is an entry of its form, and the others are as they were
pub record IsGiven (m : Module) (made : List Made) (mem : Memory) (st st' : MachineView) (f : Function) (mf : Frame) (r : ValueId) (x : Datum) : Type 0 where
  pub slots : st'.slots ≡ st.slots
  pub given : EntryAgrees m made mem st' (form_of (declarations_of m) f r) (Some x) (is_there_in st' mf r)
      (contents st' mf (local (declarations_of m) f r)) (address_in st' mf (local_address (declarations_of m) f r))
  pub there : (v : ValueId) → v.0 ≢ r.0 → is_there_in st' mf v ≡ is_there_in st mf v
  pub contents : (v : ValueId) → v.0 ≢ r.0 → contents st' mf (local (declarations_of m) f v) ≡ contents st mf (local (declarations_of m) f v)
  pub address : (v : ValueId) → v.0 ≢ r.0 → (s : Shape) → form_of (declarations_of m) f v ≡ OfPlace s
      → address_in st' mf (local_address (declarations_of m) f v) ≡ address_in st mf (local_address (declarations_of m) f v)

module _ {m : Module} {made : List Made} {mem : Memory} {st : MachineView} {f : Function} {lf : LowFrame} {mf : Frame} {below above : Ends}
    (agrees : FrameAgrees m made mem st f lf mf below above) where
  -- control stands elsewhere
  pub frame_stands : (p : PointId) (b : Block) → slice_get f.blocks p.block.0 ≡ Some b → p.index ≤ length b.insts
      → FrameAgrees m made mem st f (record lf { at = p }) (record mf { block = p.block.0; index = p.index }) below above
  frame_stands p b there within = record {
    there = agrees.there;
    same = agrees.same;
    at_block = refl;
    at_index = refl;
    block = b;
    block_there = there;
    in_block = within;
    count = agrees.count;
    entries = agrees.entries;
    values = agrees.values;
    leaves = agrees.leaves;
    addresses = agrees.addresses;
    slots = agrees.slots;
    values_end = agrees.values_end;
    leaves_end = agrees.leaves_end;
    addresses_end = agrees.addresses_end;
    slots_end = agrees.slots_end;
    waiting_end = agrees.waiting_end;
    own_slots = agrees.own_slots;
  }

  pub frame_given : {st' : MachineView} (r : ValueId) (x : Datum) → IsOf f r → IsGiven m made mem st st' f mf r x
      → FrameAgrees m made mem st' f (record lf { values = set lf.values r.0 (Some x) }) mf below above
  frame_given {st' = st'} r x is_of given = record {
    there = agrees.there;
    same = agrees.same;
    at_block = agrees.at_block;
    at_index = agrees.at_index;
    block = agrees.block;
    block_there = agrees.block_there;
    in_block = agrees.in_block;
    count = length-set lf.values r.0 (Some x) ∙ agrees.count;
    entries = λ v lt. entry v lt (cases_eq v.0 r.0);
    values = agrees.values;
    leaves = agrees.leaves;
    addresses = agrees.addresses;
    slots = agrees.slots;
    values_end = agrees.values_end;
    leaves_end = agrees.leaves_end;
    addresses_end = agrees.addresses_end;
    slots_end = agrees.slots_end;
    waiting_end = agrees.waiting_end;
    own_slots = agrees.own_slots ∙ ap (λ slots. reverse (map (slot_place made) (take (above.slots - below.slots) (drop below.slots slots)))) (sym given.slots);
  }
    where
      d : Declarations
      d = declarations_of m

      Entry : ValueId → Option Datum → Type 0
      Entry v o = EntryAgrees m made mem st' (form_of (declarations_of m) f v) o (is_there_in st' mf v)
          (contents st' mf (local (declarations_of m) f v)) (address_in st' mf (local_address (declarations_of m) f v))

      entry : (v : ValueId) → v.0 < value_count f → (v.0 ≡ r.0) ⊎ (v.0 ≡ r.0 → ⊥) → Entry v (value_at (set lf.values r.0 (Some x)) v)
      entry v lt (inl e) =
          let now = at_set lf.values r.0 (Some x) None (omega (arith, is_of, agrees.count)) in
          subst (λ w. Entry w (value_at (set lf.values r.0 (Some x)) w)) (ap value_number (sym e)) (subst (Entry r) (sym now) given.given)
      entry v lt (inr ne) =
          subst (Entry v) (sym (at_others lf.values r.0 v.0 (Some x) None ne))
          (entry_stays (entry_on (agrees.entries v lt) st' given.slots) (given.there v ne) (given.contents v ne) (given.address v ne))

  module _ (reach : AtMost above (ends_of st)) (r : ValueId) (is_of : IsOf f r) where
    value_place : mf.values + r.0 < length st.there
    value_place = omega (arith, is_of, agrees.values, agrees.values_end, reach.values)

    others_there : (v : ValueId) → v.0 ≢ r.0 → (there : List Bool) → unwrap_or (slice_get (set there (mf.values + r.0) true) (mf.values + v.0)) false
        ≡ unwrap_or (slice_get there (mf.values + v.0)) false
    others_there v ne there = at_others there (mf.values + r.0) (mf.values + v.0) true false (λ e. ne (omega (arith, e)))

    there_given : (now : MachineView) {x : Datum} {ls : List Leaf} {a : Address} → EntryAgrees m made mem now (form_of (declarations_of m) f r) (Some x) true ls a
        → now.there ≡ set st.there (mf.values + r.0) true → EntryAgrees m made mem now (form_of (declarations_of m) f r) (Some x) (is_there_in now mf r) ls a
    there_given now {x = x} {ls = ls} {a = a} entry is =
        let there : is_there_in now mf r ≡ true =
        ap (λ bs. unwrap_or (slice_get bs (mf.values + r.0)) false) is ∙ at_set st.there (mf.values + r.0) true false value_place in
        subst (λ b. EntryAgrees m made mem now (form_of (declarations_of m) f r) (Some x) b ls a) (sym there) entry

    there_ends : length (set st.there (mf.values + r.0) true) ≡ length st.there
    there_ends = length-set st.there (mf.values + r.0) true

    there_keeps : take below.values (set st.there (mf.values + r.0) true) ≡ take below.values st.there
    there_keeps = take-set-le below.values st.there (mf.values + r.0) true (omega (arith, agrees.values))

    -- its leaves have room
    module _ (s : Shape) (x : Value) (ls : List Leaf) (form : form_of (declarations_of m) f r ≡ OfValue s) (fits : suits (is_of_class m mem) s x ≡ true) (is : ls ≡ leaves_of s x) where
      size_is : length ls ≡ (local (declarations_of m) f r).size
      size_is = ap length is ∙ suits_leaves_length (is_of_class m mem) s x fits ∙ sym (ap leaves_in form)

      has_room : (mf.leaves + (local (declarations_of m) f r).at) + length ls ≤ length st.leaves
      has_room =
          let within = local_within (declarations_of m) f r (value_count f) is_of in
          omega (arith, within, size_is, agrees.leaves, agrees.leaves_end, reach.leaves)

      is_put : IsGiven m made mem st (put st mf (local (declarations_of m) f r) ls) f mf r (ValueOf x)
      is_put = record {
        slots = refl;
        given =
            let now = put st mf (local (declarations_of m) f r) ls in
            let from = mf.leaves + (local (declarations_of m) f r).at in
            let mine : contents now mf (local (declarations_of m) f r) ≡ ls =
            ap (λ n. take n (drop from (laid_over from ls st.leaves))) (sym size_is) ∙ laid_there from ls st.leaves has_room in
            there_given now (value s x (contents now mf (local (declarations_of m) f r)) (address_in now mf (local_address (declarations_of m) f r)) form fits (mine ∙ is)) refl;
        there = λ v ne. others_there v ne st.there;
        contents = λ v ne. laid_apart (mf.leaves + (local (declarations_of m) f r).at) ls st.leaves has_room
            (mf.leaves + (local (declarations_of m) f v).at) (local (declarations_of m) f v).size
            (elim (locals_apart (declarations_of m) f v r ne) [ inl le ↦ inl (omega (arith, le)) | inr le ↦ inr (inl (omega (arith, le, size_is))) ]);
        address = λ v ne t place. refl;
      }

      pub put_agrees : FrameAgrees m made mem (put st mf (local (declarations_of m) f r) ls) f (record lf { values = set lf.values r.0 (Some (ValueOf x)) }) mf below above
      put_agrees = frame_given r (ValueOf x) is_of is_put

      -- what is put changes nothing below the frame, nor where the stacks end

      pub put_ends : ends_of (put st mf (local (declarations_of m) f r) ls) ≡ ends_of st
      put_ends = same_ends st (put st mf (local (declarations_of m) f r) ls) there_ends
          (laid_length (mf.leaves + (local (declarations_of m) f r).at) ls st.leaves has_room) refl refl refl

      pub put_keeps : KeepsBelow below st (put st mf (local (declarations_of m) f r) ls)
      put_keeps = record {
        there = there_keeps;
        leaves = laid_take (mf.leaves + (local (declarations_of m) f r).at) ls st.leaves has_room below.leaves (omega (arith, agrees.leaves));
        addresses = refl;
        serials = refl;
        waiting = refl;
      }

    pub put_address_agrees : (p : Place) (a : Address) → form_of (declarations_of m) f r ≡ OfPlace p.shape → NamesPlace m made st.slots mem a p
        → FrameAgrees m made mem (put_address st mf (local_address (declarations_of m) f r) a) f (record lf { values = set lf.values r.0 (Some (AddressOf p)) }) mf below above
    put_address_agrees p a form names = frame_given r (AddressOf p) is_of (record {
      slots = refl;
      given =
          let now = put_address st mf (local_address (declarations_of m) f r) a in
          let within = address_within (declarations_of m) f r (value_count f) p.shape form is_of in
          let at = mf.addresses + (local_address (declarations_of m) f r).at in
          let mine : address_in now mf (local_address (declarations_of m) f r) ≡ a =
          at_set st.addresses at a no_address (omega (arith, within, agrees.addresses, agrees.addresses_end, reach.addresses)) in
          there_given now (place p (contents now mf (local (declarations_of m) f r)) (address_in now mf (local_address (declarations_of m) f r)) form
          (subst (λ b. NamesPlace m made st.slots mem b p) (sym mine) names)) refl;
      there = λ v ne. others_there v ne st.there;
      contents = λ v ne. refl;
      address = λ v ne t form'.
          at_others st.addresses (mf.addresses + (local_address (declarations_of m) f r).at) (mf.addresses + (local_address (declarations_of m) f v).at) a no_address
          (λ e. addresses_apart (declarations_of m) f v r t p.shape form' form ne (omega (arith, e)));
    })

    pub put_there_agrees : (g : FuncId) → form_of (declarations_of m) f r ≡ OfFunction g
        → FrameAgrees m made mem (put_there st mf r) f (record lf { values = set lf.values r.0 (Some (FunctionOf g)) }) mf below above
    put_there_agrees g form = frame_given r (FunctionOf g) is_of (record {
      slots = refl;
      given =
          let now = put_there st mf r in
          there_given now (function g (contents now mf (local (declarations_of m) f r)) (address_in now mf (local_address (declarations_of m) f r)) form) refl;
      there = λ v ne. others_there v ne st.there;
      contents = λ v ne. refl;
      address = λ v ne t form'. refl;
    })

    pub put_address_ends : (a : Address) → ends_of (put_address st mf (local_address (declarations_of m) f r) a) ≡ ends_of st
    put_address_ends a = same_ends st (put_address st mf (local_address (declarations_of m) f r) a) there_ends refl
        (length-set st.addresses (mf.addresses + (local_address (declarations_of m) f r).at) a) refl refl

    pub put_address_keeps : (a : Address) → KeepsBelow below st (put_address st mf (local_address (declarations_of m) f r) a)
    put_address_keeps a = record {
      there = there_keeps;
      leaves = refl;
      addresses = take-set-le below.addresses st.addresses (mf.addresses + (local_address (declarations_of m) f r).at) a (omega (arith, agrees.addresses));
      serials = refl;
      waiting = refl;
    }

    pub put_there_ends : ends_of (put_there st mf r) ≡ ends_of st
    put_there_ends = same_ends st (put_there st mf r) there_ends refl refl refl refl

    pub put_there_keeps : KeepsBelow below st (put_there st mf r)
    put_there_keeps = record { there = there_keeps; leaves = refl; addresses = refl; serials = refl; waiting = refl }
