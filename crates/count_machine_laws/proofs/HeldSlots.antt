-- What the machine finds at a place in a slot.
use Rattle.std.proofs.Common.{◌≡◌, ◌+◌, ◌++◌, ℕ, List, Option, Some, None, false, cond, length, take, drop, refl, sym, ap, ◌∙◌, arith}
use Rattle.std.specs.Prelude.{option_and_then, slice_get}
use Rattle.std.proofs.lemmas.Bool.{eq-eqb, false≢true, ne_eqb}
use Rattle.std.proofs.lemmas.Option.{same_Some}
use Rattle.count_machine_model.specs.declared.machine_steps.address.Address.{Address}
use Rattle.count_machine_model.specs.declared.machine_steps.address.OpenSlot.{OpenSlot}
use Rattle.count_machine_model.specs.MachineSteps.Held.{if_serial}
use Rattle.holder_model_values.specs.RunValues.Cells.{cell_count}
use Rattle.holder_model_values.specs.RunValues.Memory.{Memory}
use Rattle.holder_model_values.specs.RunValues.Places.{Place, cells_at, home_cells}
use Rattle.holder_model_values.specs.declared.run_values.leaf.Leaf.{Leaf}
use Rattle.holder_model_values.specs.ValueParts.inner.Paths.{cells_before}
use Rattle.holder_model_values.specs.ValueParts.inner.Suits.{ClassTest}
use Rattle.holder_model_values.proofs.ValueParts.Paths.{part_cells_fit}
use Rattle.holder_model_values.proofs.ValueParts.Splices.{read_within}
use Rattle.count_machine_laws.proofs.Slots.{Made, NamesSlot, OpenIsRight, SlotsAgree, is_open, made_cells, stack_of}
use Rattle.count_machine_laws.proofs.Stack.{AllSuit, content_length, stack_around}

pub all_suit : {test : ClassTest} {made : List Made} {slots : List OpenSlot} {leaves : List Leaf} → SlotsAgree test made slots leaves → AllSuit test made
all_suit agree = λ k x e v c. agree.suit k x v e c

-- the cells of the place are some of its slot's
pub slot_cells : (test : ClassTest) (made : List Made) (mem : Memory) (slots : List OpenSlot) (index serial : ℕ) (a : Address) (p : Place) (names : NamesSlot made slots index serial a p)
    → mem.stack ≡ stack_of made → AllSuit test made → cells_at mem p ≡ take (cell_count p.shape) (drop (cells_before names.of.shape names.path) (made_cells names.of))
slot_cells test made mem slots index serial a p names stack all =
    let around = stack_around test made serial names.of all names.there in
    let cells : home_cells mem p.home ≡ around.before ++ (made_cells names.of ++ around.behind) = ap (home_cells mem) names.home ∙ stack ∙ around.now in
    let size : length (made_cells names.of) ≡ cell_count names.of.shape = content_length test names.of.shape names.of.content (all serial names.of names.there) in
    let first : p.first ≡ length around.before + cells_before names.of.shape names.path = names.first ∙ omega (arith, around.count) in
    let fits = part_cells_fit names.part in
    ap (λ cs. take (cell_count p.shape) (drop p.first cs)) cells
    ∙ ap (λ i. take (cell_count p.shape) (drop i (around.before ++ (made_cells names.of ++ around.behind)))) first
    ∙ read_within around.before (made_cells names.of) around.behind (cells_before names.of.shape names.path) (cell_count p.shape) (omega (arith, fits, size))

-- the slot that an address names is the one that was made with its number, where it is open

abbrev slot_of : List OpenSlot → ℕ → ℕ → Option OpenSlot
slot_of slots index serial = option_and_then (if_serial serial) (slice_get slots index)

pub found_slot : (slots : List OpenSlot) (index serial : ℕ) (slot : OpenSlot) → slice_get slots index ≡ Some slot → slot.serial ≡ serial → slot_of slots index serial ≡ Some slot
found_slot slots index serial slot there same =
    ap (option_and_then (if_serial serial)) there ∙ ap (λ b. cond b (Some slot) None) (eq-eqb slot.serial serial same)

no_slot_with : (serial : ℕ) (o : Option OpenSlot) → ((slot : OpenSlot) → o ≡ Some slot → slot.serial ≡ serial → ⊥) → option_and_then (if_serial serial) o ≡ None
no_slot_with serial None not = refl
no_slot_with serial (Some slot) not = ap (λ b. cond b (Some slot) None) (ne_eqb slot.serial serial (not slot refl))

module _ {test : ClassTest} {made : List Made} {slots : List OpenSlot} {leaves : List Leaf} (agree : SlotsAgree test made slots leaves) where
  -- what the machine keeps of an open slot
  pub slot_right : (index serial : ℕ) (of : Made) (slot : OpenSlot) → slice_get made serial ≡ Some of → slice_get slots index ≡ Some slot → slot.serial ≡ serial
      → (right : OpenIsRight made slots leaves index slot) × (right.of ≡ of)
  slot_right index serial of slot there at same =
      let right = agree.each index slot at in
      (right, same_Some right.of of (sym right.there ∙ ap (slice_get made) same ∙ there))

  pub no_slot : (index serial : ℕ) (of : Made) → slice_get made serial ≡ Some of → is_open of ≡ false → slot_of slots index serial ≡ None
  no_slot index serial of there gone = no_slot_with serial (slice_get slots index) (λ slot at same.
      let right = slot_right index serial of slot there at same in
      false≢true (sym gone ∙ ap is_open (sym right.1) ∙ right.0.open_))
