-- What the machine finds at a place is what the run has there.
use Rattle.std.proofs.Common.{◌≡◌, ◌+◌, ◌++◌, ℕ, List, [], ◌∷◌, Bool, true, false, Option, Some, None, cond, drop, length, take, replicate, refl, sym, ap, ◌∙◌, subst, arith}
use Rattle.std.specs.Prelude.{find, slice_get, unwrap_or}
use Rattle.std.specs.List.{list_all}
use Rattle.std.proofs.lemmas.List.{drop_all, take_all}
use Rattle.std.proofs.lemmas.Bool.{false≢true}
use Rattle.count_heap.specs.HeapModel.HeapViews.{HeapObject, fields_told, object_in, phase_told}
use Rattle.count_machine_model.specs.holder_model.Data.{home_references}
use Rattle.count_machine_model.specs.holder_model.ModuleShapes.{field_shapes, shapes_of}
use Rattle.count_machine_model.specs.holder_model.Outcomes.{Numbers}
use Rattle.count_machine_model.specs.holder_model.LoweredRun.Stored.{numbers_of}
use Rattle.count_machine_model.specs.declared.machine_steps.address.Address.{Address}
use Rattle.count_machine_model.specs.declared.machine_steps.address.OpenSlot.{OpenSlot}
use Rattle.count_machine_model.specs.MachineSteps.Held as held
use Rattle.count_machine_model.specs.MachineSteps.Held.{Held, held_at, held_by, held_in_field, held_in_slot, slot_in}
use Rattle.count_machine_model.specs.MachineSteps.Views.{MachineView}
use Rattle.count_machine_model.specs.ReadyCode.Layout.{size_of}
use Rattle.holder_model_values.specs.RunValues.Cells as cells
use Rattle.holder_model_values.specs.RunValues.Cells.{Cell, cell_count, in_cells}
use Rattle.holder_model_values.specs.RunValues.Leaves.{leaves_of}
use Rattle.holder_model_values.specs.RunValues.Memory.{Memory, is_dead, is_dead_phase, object_at}
use Rattle.holder_model_values.specs.RunValues.Places.{Inside, Place, cells_at, home_cells, is_there, is_there_at, value_at}
use Rattle.holder_model_values.specs.RunValues.Shapes.{Shape}
use Rattle.holder_model_values.specs.RunValues.Values.{Value}
use Rattle.holder_model_values.specs.declared.run_values.leaf.Leaf.{Leaf}
use Rattle.sil_ast.specs.declared.module.Module.{Module}
use Rattle.sil_ast.specs.declared.place.ObjectId.{ObjectId}
use Rattle.holder_model_values.specs.ValueParts.inner.Paths.{cells_before, leaves_before}
use Rattle.holder_model_values.specs.ValueParts.inner.Suits.{ClassTest, suits}
use Rattle.holder_model_values.proofs.ValueParts.CellParts.{same_cells_read}
use Rattle.holder_model_values.proofs.ValueParts.Paths.{part_cells_fit, part_leaves_fit}
use Rattle.holder_model_values.proofs.ValueParts.Splices.{read_within}
use Rattle.count_machine_laws.proofs.HeldParts.{empty_read, empty_there, full_read, full_there, gone_read, part_read, take_within}
use Rattle.count_machine_laws.proofs.HeldSlots.{all_suit, found_slot, no_slot, slot_cells, slot_right}
use Rattle.count_machine_laws.proofs.Memories.{MemoryAgrees, NamesPlace}
use Rattle.count_machine_laws.proofs.HeldFields.{FieldAround, field_around, field_length}
use Rattle.count_machine_laws.proofs.HeldObjects.{object_cases, object_there}
use Rattle.count_machine_laws.proofs.Objects.{FieldHolds, KeptAgrees, NamesField, is_of_class}
use Rattle.count_machine_laws.proofs.Slots.{Content, Empty, Full, Gone, Made, NamesSlot, cells_in, is_full_content, is_open, is_open_content}

closed_is_gone : (c : Content) → is_open_content c ≡ false → c ≡ Gone
closed_is_gone Gone e = refl
closed_is_gone Empty e = absurd (false≢true (sym e))
closed_is_gone (Full x) e = absurd (false≢true (sym e))

none_left : {A : Type 0} (n i : ℕ) → take n (drop {A = A} i []) ≡ []
none_left n i = ap (take n) (drop_all i [] (omega arith)) ∙ take_all n [] (omega arith)

-- the place's slot isn't gone, and its object isn't dead
pub record IsReachable (mem : Memory) (p : Place) : Type 0 where
  pub there : is_there_at mem p ≡ true
  pub alive : find (is_dead mem) (home_references p.home) ≡ None

alive_where : (o : ObjectId) (b : Bool) → cond b (Some o) None ≡ None → b ≡ false
alive_where o true e = cc
alive_where o false e = refl

pub home_alive : (mem : Memory) (p : Place) (o : ObjectId) → p.home ≡ Inside o → IsReachable mem p → is_dead mem o ≡ false
home_alive mem p o e reached = alive_where o (is_dead mem o) (sym (ap (λ h. find (is_dead mem) (home_references h)) e) ∙ reached.alive)

pub data HeldIs (m : Module) (mem : Memory) (p : Place) : Held → Type 0 where
  gone : is_there_at mem p ≡ false → HeldIs m mem p held.Gone
  of_dead : (o : ObjectId) → is_there_at mem p ≡ true → home_references p.home ≡ o ∷ [] → is_dead mem o ≡ true → HeldIs m mem p (held.OfDead o)
  empty : IsReachable mem p → cells_at mem p ≡ replicate (cell_count p.shape) cells.Empty → value_at mem p ≡ None → HeldIs m mem p held.Empty
  full : (x : Value) (ls : List Leaf) → IsReachable mem p → cells_at mem p ≡ (in_cells p.shape).cells x → value_at mem p ≡ Some x
      → suits (is_of_class m mem) p.shape x ≡ true → ls ≡ leaves_of p.shape x → HeldIs m mem p (held.Full ls)

module _ (m : Module) {made : List Made} {mem : Memory} {numbers : List Numbers} {st : MachineView} (agrees : MemoryAgrees m made mem numbers st) where
  abbrev test : ClassTest
  test = is_of_class m mem

  -- in a slot

  module _ (index serial : ℕ) (a : Address) (p : Place) (names : NamesSlot made st.slots index serial a p) where
    abbrev InSlot : Option OpenSlot → Type 0
    InSlot found = HeldIs m mem p (held_in_slot st a.from (size_of p.shape) found)

    has_cells : (c : Content) → names.of.content ≡ c → cells_at mem p ≡ take (cell_count p.shape) (drop (cells_before names.of.shape names.path) (cells_in names.of.shape c))
    has_cells c e = slot_cells test made mem st.slots index serial a p names agrees.stack (all_suit agrees.slots)
        ∙ ap (λ d. take (cell_count p.shape) (drop (cells_before names.of.shape names.path) (cells_in names.of.shape d))) e

    -- a slot that is there is open, and where the place is empty, so is it

    pub gone_slot : names.of.content ≡ Gone → is_there_at mem p ≡ false
    gone_slot e = gone_read mem p (has_cells Gone e ∙ same_cells_read names.part cells.Gone)

    pub slot_open : is_there_at mem p ≡ true → is_open names.of ≡ true
    slot_open there = by names.of.content refl
      where
        by : (c : Content) → names.of.content ≡ c → is_open names.of ≡ true
        by Gone e = absurd (false≢true (sym (gone_slot e) ∙ there))
        by Empty e = ap is_open_content e
        by (Full v) e = ap is_open_content e

    pub empty_slot : names.of.content ≡ Empty → value_at mem p ≡ None
    empty_slot e = empty_read mem p (has_cells Empty e ∙ same_cells_read names.part cells.Empty)

    in_no_object : find (is_dead mem) (home_references p.home) ≡ None
    in_no_object = ap (λ h. find (is_dead mem) (home_references h)) names.home

    leaves : (slot : OpenSlot) (v w : Value) → take (size_of names.of.shape) (drop slot.from st.slot_leaves) ≡ leaves_of names.of.shape v
        → take (size_of p.shape) (drop (leaves_before names.of.shape names.path) (leaves_of names.of.shape v)) ≡ leaves_of p.shape w
        → take (size_of p.shape) (drop (slot.from + a.from) st.slot_leaves) ≡ leaves_of p.shape w
    leaves slot v w whole part =
        let at = leaves_before names.of.shape names.path in
        ap (λ n. take (size_of p.shape) (drop (slot.from + n) st.slot_leaves)) names.from
        ∙ take_within st.slot_leaves slot.from (size_of names.of.shape) at (size_of p.shape) (part_leaves_fit names.part)
        ∙ ap (λ ls. take (size_of p.shape) (drop at ls)) whole ∙ part

    open_slot : (c : Content) → names.of.content ≡ c → is_open_content c ≡ true → (slot : OpenSlot) → slice_get st.slots index ≡ Some slot → slot.serial ≡ serial → InSlot (Some slot)
    open_slot Gone e open_ slot there same = absurd (false≢true open_)
    open_slot Empty e open_ slot there same =
        let right = slot_right agrees.slots index serial names.of slot names.there there same in
        let not_full : slot.is_full ≡ false = sym right.0.full ∙ ap (λ x. is_full_content x.content) right.1 ∙ ap is_full_content e in
        let read = has_cells Empty e ∙ same_cells_read names.part cells.Empty in
        subst (λ b. HeldIs m mem p (cond b (held.Full (take (size_of p.shape) (drop (slot.from + a.from) st.slot_leaves))) held.Empty)) (sym not_full)
        (HeldIs.empty (record { there = empty_there mem p read; alive = in_no_object }) read (empty_read mem p read))
    open_slot (Full v) e open_ slot there same =
        let right = slot_right agrees.slots index serial names.of slot names.there there same in
        let full : slot.is_full ≡ true = sym right.0.full ∙ ap (λ x. is_full_content x.content) right.1 ∙ ap is_full_content e in
        let suit = agrees.slots.suit serial names.of v names.there e in
        let part = part_read test names.part v suit in
        let read = has_cells (Full v) e ∙ part.by_cells in
        let holds = subst (λ x. (v : Value) → x.content ≡ Full v → take (size_of x.shape) (drop slot.from st.slot_leaves) ≡ leaves_of x.shape v) right.1 right.0.holds in
        subst (λ b. HeldIs m mem p (cond b (held.Full (take (size_of p.shape) (drop (slot.from + a.from) st.slot_leaves))) held.Empty)) (sym full)
        (HeldIs.full part.x _ (record { there = full_there mem p part.x read; alive = in_no_object }) read (full_read mem p test part.x part.suit read) part.suit
        (leaves slot v part.x (holds v e) part.by_leaves))

    in_slot : (b : Bool) → is_open names.of ≡ b → InSlot (slot_in st index serial)
    in_slot true open_ =
        let now = names.now open_ in
        subst InSlot (sym (found_slot st.slots index serial now.0 now.1 now.2)) (open_slot names.of.content refl open_ now.0 now.1 now.2)
    in_slot false closed =
        subst InSlot (sym (no_slot agrees.slots index serial names.of names.there closed)) (HeldIs.gone (gone_slot (closed_is_gone names.of.content closed)))

  -- in a field

  module _ (o : ObjectId) (k : ℕ) (a : Address) (p : Place) (names : NamesField m mem o k a p) where
    abbrev InField : Option HeapObject → Type 0
    InField h = HeldIs m mem p (cond (is_dead_phase (phase_told h)) (held.OfDead o) (held_in_field a.from (size_of p.shape) (unwrap_or (slice_get (fields_told h) k) None)))

    abbrev ss : List Shape
    ss = field_shapes (shapes_of m) (object_at mem o).class

    object_cells : cells_at mem p ≡ take (cell_count p.shape) (drop p.first (object_at mem o).cells)
    object_cells = ap (λ h. take (cell_count p.shape) (drop p.first (home_cells mem h))) names.home

    in_dead : is_dead mem o ≡ true → (object_at mem o).cells ≡ [] → HeldIs m mem p (held.OfDead o)
    in_dead dead none =
        HeldIs.of_dead o (ap (list_all is_there) (object_cells ∙ ap (λ cs. take (cell_count p.shape) (drop p.first cs)) none ∙ none_left (cell_count p.shape) p.first))
        (ap home_references names.home) dead

    reached : is_there_at mem p ≡ true → is_dead mem o ≡ false → IsReachable mem p
    reached there alive = record { there = there; alive = ap (λ h. find (is_dead mem) (home_references h)) names.home ∙ ap (λ b. cond b (Some o) None) alive }

    by_holding : is_dead mem o ≡ false → (own : List Cell) (x : Option (List Leaf)) → FieldHolds test names.field own x
        → cells_at mem p ≡ take (cell_count p.shape) (drop (cells_before names.field names.path) own) → HeldIs m mem p (held_in_field a.from (size_of p.shape) x)
    by_holding alive _ _ FieldHolds.unwritten e =
        let read = e ∙ same_cells_read names.part cells.Empty in
        HeldIs.empty (reached (empty_there mem p read) alive) read (empty_read mem p read)
    by_holding alive _ _ (FieldHolds.written v suit) e =
        let part = part_read test names.part v suit in
        let read = e ∙ part.by_cells in
        HeldIs.full part.x _ (reached (full_there mem p part.x read) alive) read (full_read mem p test part.x part.suit read) part.suit
        (ap (λ n. take (size_of p.shape) (drop n (leaves_of names.field v))) names.from ∙ part.by_leaves)

    -- the cells of the place are some of its field's
    pub field_cells : (fields : List (Option (List Leaf))) (around : FieldAround test ss k names.field (object_at mem o).cells fields)
        → cells_at mem p ≡ take (cell_count p.shape) (drop (cells_before names.field names.path) around.own)
    field_cells fields around =
        let off = cells_before names.field names.path in
        let fits = part_cells_fit names.part in
        let size = field_length test names.field around.holds in
        let first : p.first ≡ length around.before + off = names.first ∙ omega (arith, around.count) in
        object_cells ∙ ap (λ cs. take (cell_count p.shape) (drop p.first cs)) around.now
        ∙ ap (λ n. take (cell_count p.shape) (drop n (around.before ++ (around.own ++ around.behind)))) first
        ∙ read_within around.before around.own around.behind off (cell_count p.shape) (omega (arith, fits, size))

    in_field : (fields : List (Option (List Leaf))) → is_dead mem o ≡ false → FieldAround test ss k names.field (object_at mem o).cells fields
        → HeldIs m mem p (held_in_field a.from (size_of p.shape) (unwrap_or (slice_get fields k) None))
    in_field fields alive around =
        subst (λ x. HeldIs m mem p (held_in_field a.from (size_of p.shape) (unwrap_or x None))) (sym around.has)
        (by_holding alive around.own around.x around.holds (field_cells fields around))

    in_kept : (b : Bool) → is_dead mem o ≡ b → (n : Numbers) (h : HeapObject) → KeptAgrees m test (object_at mem o) n h → InField (Some h)
    in_kept true dead n h agree =
        subst (λ b. HeldIs m mem p (cond b (held.OfDead o) (held_in_field a.from (size_of p.shape) (unwrap_or (slice_get h.fields k) None))))
        (sym (ap is_dead_phase agree.phase ∙ dead)) (in_dead dead (agree.ended dead).0)
    in_kept false alive n h agree =
        subst (λ b. HeldIs m mem p (cond b (held.OfDead o) (held_in_field a.from (size_of p.shape) (unwrap_or (slice_get h.fields k) None))))
        (sym (ap is_dead_phase agree.phase ∙ alive))
        (in_field h.fields alive (field_around test ss k names.field (object_at mem o).cells h.fields (agree.fields alive) names.there))

    in_object : InField (object_in st.heap o)
    in_object =
        let there = object_there mem numbers st.heap agrees.objects o names.made in
        object_cases InField there.agrees (λ dead none. in_dead (ap is_dead_phase dead) none) (in_kept (is_dead mem o) refl (numbers_of numbers o))

  pub held_agrees : (a : Address) (p : Place) → NamesPlace m made st.slots mem a p → HeldIs m mem p (held_at st a (size_of p.shape))
  held_agrees a p (NamesPlace.in_slot index serial at names) =
      subst (λ h. HeldIs m mem p (held_by st a.from (size_of p.shape) h)) (sym at) (in_slot index serial a p names (is_open names.of) refl)
  held_agrees a p (NamesPlace.in_field o k at names) = subst (λ h. HeldIs m mem p (held_by st a.from (size_of p.shape) h)) (sym at) (in_object o k a p names)
