-- Memory that grows: what addresses and references named is named as before.
use Rattle.std.proofs.Common.{◌≡◌, ◌≤◌, ◌<◌, ◌+◌, ℕ, zero, suc, List, [], ◌∷◌, false, true, Some, Option, length, map, refl, sym, ap, ◌∙◌, subst, arith}
use Rattle.std.specs.Prelude.{nat_lt, option_map, slice_get, sum, take, unwrap_or}
use Rattle.std.proofs.lemmas.Bool.{and_from, and_parts, lt-ltb, ltb-true}
use Rattle.std.proofs.lemmas.Option.{none-some, same_Some, slice_get_within}
use Rattle.count_machine_model.specs.holder_model.ModuleShapes.{field_shapes, shapes_of}
use Rattle.count_machine_model.specs.declared.machine_steps.address.Address.{Address}
use Rattle.count_machine_model.specs.declared.machine_steps.address.OpenSlot.{OpenSlot}
use Rattle.numbered_form.specs.Names.{Name}
use Rattle.count_machine_model.specs.holder_model.RunTyping.Classes.{is_a}
use Rattle.holder_model_values.specs.RunValues.Cells.{cell_count}
use Rattle.holder_model_values.specs.RunValues.Memory.{Memory, object_at}
use Rattle.holder_model_values.specs.RunValues.Places.{OnStack, Place, offset}
use Rattle.holder_model_values.specs.RunValues.Shapes.{Shape, Unknown}
use Rattle.holder_model_values.specs.RunValues.Values.{Value}
use Rattle.holder_model_values.specs.declared.run_values.leaf.Leaf.{Leaf}
use Rattle.sil_ast.specs.declared.module.Module.{Module}
use Rattle.sil_ast.specs.declared.place.ObjectId.{ObjectId}
use Rattle.sil_types_declarations.specs.TypeDefinitions.Declarations.{declarations_of}
use Rattle.holder_model_values.specs.ValueParts.inner.Paths.{IsPart, cells_before, leaves_before}
use Rattle.holder_model_values.specs.ValueParts.inner.Suits.{ClassTest, suits}
use Rattle.holder_model_values.proofs.ValueParts.Suiting.{suits_wider}
use Rattle.count_machine_laws.proofs.LayoutsLists.{there_below}
use Rattle.count_machine_laws.proofs.Memories.{NamesPlace, in_field, in_slot}
use Rattle.count_machine_laws.proofs.Objects.{NamesField, is_of_class}
use Rattle.count_machine_laws.proofs.Slots.{Made, NamesSlot, SlotsAgree, first_cell, is_open, made_shape, made_width, shape_made, slot_place}

-- each slot that is kept was made
abbrev pub WereMade : List Made → List OpenSlot → Type 0
WereMade made slots = (j : ℕ) (slot : OpenSlot) → slice_get slots j ≡ Some slot → slot.serial < length made

-- a slot that was made is there with its shape, and is open only if it was
abbrev pub StaysMade : List Made → List Made → Type 0
StaysMade made made' =
    (k : ℕ) (x : Made) → slice_get made k ≡ Some x → (y : Made) × (slice_get made' k ≡ Some y) × (y.shape ≡ x.shape) × (is_open y ≡ true → is_open x ≡ true)

-- objects keep their classes, and slots their shapes; one that is open still stands where it stood
pub record Grows (m : Module) (made : List Made) (mem : Memory) (slots : List OpenSlot) (made' : List Made) (mem' : Memory) (slots' : List OpenSlot) : Type 0 where
  pub objects : length mem.objects ≤ length mem'.objects
  pub classes : (o : ObjectId) → o.0 < length mem.objects → (object_at mem' o).class ≡ (object_at mem o).class
  pub were_made : WereMade made slots
  pub stays : StaysMade made made'
  pub indexes : (j : ℕ) (slot : OpenSlot) (y : Made) → slice_get slots j ≡ Some slot → slice_get made' slot.serial ≡ Some y → is_open y ≡ true
      → (slot' : OpenSlot) × (slice_get slots' j ≡ Some slot') × (slot'.serial ≡ slot.serial)

pub were_made : {test : ClassTest} {made : List Made} {slots : List OpenSlot} {leaves : List Leaf} → SlotsAgree test made slots leaves → WereMade made slots
were_made {made = made} agree j slot there = let right = agree.each j slot there in slice_get_within made slot.serial right.of right.there

-- slots that keep their shapes have their cells where they had them

same_widths : (made made' : List Made) → StaysMade made made' → (n : ℕ) → n ≤ length made → map made_width (take n made') ≡ map made_width (take n made)
same_widths [] made' stays zero le = refl
same_widths [] made' stays (suc n) le = absurd (omega (arith, le))
same_widths (x ∷ xs) [] stays zero le = refl
same_widths (x ∷ xs) [] stays (suc n) le = let there = stays 0 x refl in absurd (none-some there.0 there.1)
same_widths (x ∷ xs) (y ∷ ys) stays zero le = refl
same_widths (x ∷ xs) (y ∷ ys) stays (suc n) le =
    let there = stays 0 x refl in
    let width : made_width y ≡ made_width x = ap cell_count (ap made_shape (same_Some y there.0 there.1) ∙ there.2) in
    ap (λ w. w ∷ map made_width (take n ys)) width
    ∙ ap (λ ws. made_width x ∷ ws) (same_widths xs ys (λ k. stays (suc k)) n (omega (arith, le)))

pub same_first_cell : (made made' : List Made) → StaysMade made made' → (n : ℕ) → n ≤ length made → first_cell made' n ≡ first_cell made n
same_first_cell made made' stays n le = ap sum (same_widths made made' stays n le)

module _ {m : Module} {made made' : List Made} {mem mem' : Memory} {slots slots' : List OpenSlot} (grows : Grows m made mem slots made' mem' slots') where
  pub is_of_class_grows : (class : Name) (o : ObjectId) → is_of_class m mem class o ≡ true → is_of_class m mem' class o ≡ true
  is_of_class_grows class o h =
      let parts = and_parts (nat_lt o.0 (length mem.objects)) (is_a (declarations_of m) (object_at mem o).class class) h in
      let below = ltb-true o.0 (length mem.objects) parts.0 in
      and_from (nat_lt o.0 (length mem'.objects)) (is_a (declarations_of m) (object_at mem' o).class class)
      (lt-ltb o.0 (length mem'.objects) (omega (arith, below, grows.objects)))
      (ap (λ c. is_a (declarations_of m) c class) (grows.classes o below) ∙ parts.1)

  pub suits_grows : (s : Shape) (x : Value) → suits (is_of_class m mem) s x ≡ true → suits (is_of_class m mem') s x ≡ true
  suits_grows s x h = suits_wider (is_of_class m mem) (is_of_class m mem') is_of_class_grows s x h

  names_slot_grows : {index serial : ℕ} {a : Address} {p : Place} → NamesSlot made slots index serial a p → NamesSlot made' slots' index serial a p
  names_slot_grows {index = index} {serial = serial} {a = a} {p = p} names =
      let there = grows.stays serial names.of names.there in
      let same : names.of.shape ≡ there.0.shape = sym there.2 in
      let within : serial ≤ length made = omega (arith, slice_get_within made serial names.of names.there) in
      record {
        of = there.0;
        there = there.1;
        path = names.path;
        part = subst (λ s. IsPart s names.path p.shape) same names.part;
        home = names.home;
        first = names.first ∙ ap (λ n. n + cells_before names.of.shape names.path) (sym (same_first_cell made made' grows.stays serial within))
            ∙ ap (λ s. first_cell made' serial + cells_before s names.path) same;
        from = names.from ∙ ap (λ s. leaves_before s names.path) same;
        parts = names.parts;
        whole = names.whole;
        no_part = names.no_part;
        now = λ open_.
            let slot = names.now (there.3 open_) in
            let made_at : slice_get made' slot.0.serial ≡ Some there.0 = ap (slice_get made') slot.2 ∙ there.1 in
            let next = grows.indexes index slot.0 there.0 slot.1 made_at open_ in
            (next.0, next.1, next.2 ∙ slot.2);
      }

  names_field_grows : {o : ObjectId} {k : ℕ} {a : Address} {p : Place} → NamesField m mem o k a p → NamesField m mem' o k a p
  names_field_grows {o = o} {k = k} names =
      let fields : Name → List Shape = field_shapes (shapes_of m) in
      let same : (object_at mem o).class ≡ (object_at mem' o).class = sym (grows.classes o names.made) in
      record {
        made = omega (arith, names.made, grows.objects);
        field = names.field;
        there = ap (λ c. slice_get (fields c) k) (sym same) ∙ names.there;
        path = names.path;
        part = names.part;
        home = names.home;
        first = names.first ∙ ap (λ c. offset (fields c) k + cells_before names.field names.path) same;
        from = names.from;
        parts = names.parts;
        whole = names.whole;
        no_part = names.no_part;
      }

  pub names_place_grows : {a : Address} {p : Place} → NamesPlace m made slots mem a p → NamesPlace m made' slots' mem' a p
  names_place_grows (in_slot index serial is names) = in_slot index serial is (names_slot_grows names)
  names_place_grows (in_field o k is names) = in_field o k is (names_field_grows names)

  -- a slot that was kept is the same place
  pub same_slot_place : (j : ℕ) (slot slot' : OpenSlot) → slice_get slots j ≡ Some slot → slot'.serial ≡ slot.serial → slot_place made' slot' ≡ slot_place made slot
  same_slot_place j slot slot' there same =
      ap (λ w. place_from (first_cell made' slot'.serial) w) (ap (shape_made made') same ∙ same_shape)
      ∙ ap (λ n. place_from n (shape_made made slot.serial)) (ap (first_cell made') same ∙ same_first_cell made made' grows.stays slot.serial (omega (arith, below)))
    where
      place_from : ℕ → Shape → Place
      place_from n s = record { home = OnStack; first = n; shape = s; is_part = false }

      below : slot.serial < length made
      below = grows.were_made j slot there

      at : (x : Made) × (slice_get made slot.serial ≡ Some x)
      at = there_below made slot.serial below

      same_shape : shape_made made' slot.serial ≡ shape_made made slot.serial
      same_shape =
          let y = grows.stays slot.serial at.0 at.1 in
          let shape_in = λ (o : Option Made). unwrap_or (option_map made_shape o) Unknown in
          ap shape_in y.1 ∙ y.2 ∙ sym (ap shape_in at.1)
