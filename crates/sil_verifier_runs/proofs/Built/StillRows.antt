-- Rows that neither store a value nor make an object, nor hand on an object or an address: they leave the frame's objects as they are.
use Rattle.std.proofs.Common.{◌≡◌, inl, ℕ, List, [], ◌∷◌, map, refl, sym, ap, ◌∙◌, subst, Bool, true, false, Option, Some, None}
use Rattle.std.specs.Prelude.{Contains, cond, option_and_then, slice_get}
use Rattle.std.proofs.lemmas.Bool.{false≢true, true≢false}
use Rattle.std.proofs.lemmas.Option.{none-some, same_Some}
use Rattle.instruction_table.specs.declared.op.Op.{Op}
use Rattle.instruction_table.specs.declared.op.Op.TheVariants as op
use Rattle.sil_verifier_frames.specs.holder_model.Data.{AddressOf, Datum, ValueOf, home_references, references_in, values_of}
use Rattle.sil_verifier_frames.specs.holder_model.Effects as effects
use Rattle.sil_verifier_frames.specs.holder_model.Effects.{Change, ClosesSlot, OpensSlot, effect_of, unchanged}
use Rattle.sil_verifier_frames.specs.holder_model.Frames.{Frame, Operands, any_dead}
use Rattle.sil_verifier_frames.specs.holder_model.MemoryEffects.{after, effect, references_at, takes}
use Rattle.sil_verifier_frames.specs.holder_model.ModuleShapes.{ModuleShapes}
use Rattle.sil_verifier_frames.specs.holder_model.States.{Runs, Task}
use Rattle.sil_verifier_frames.specs.holder_model.declared.row_effect.RowEffect.{RowEffect}
use Rattle.sil_verifier_frames.specs.holder_model.declared.row_effect.RowEffect.TheVariants as row
use Rattle.sil_verifier_frames.specs.memory_rules_accesses.Operations.{access_kind_of, operation_by}
use Rattle.sil_verifier_frames.specs.memory_rules_accesses.declared.access.Operation.{Operation}
use Rattle.sil_verifier_frames.specs.memory_rules_accesses.declared.access.Operation.TheVariants as operation
use Rattle.sil_verifier_frames.specs.holder_model_laws.HolderLaws.inner.Counts.Doing.{Leaves, giving}
use Rattle.sil_verifier_frames.specs.holder_model_laws.HolderLaws.inner.Counts.Doing as doing
use Rattle.sil_verifier_frames.specs.holder_model_laws.HolderLaws.inner.Counts.Keeping.{with_new_slot}
use Rattle.sil_verifier_frames.proofs.holder_model_laws.HolderLaws.Counts.Changes.{changes_told}
use Rattle.sil_cfg_items.specs.Items.{item_taken}
use Rattle.sil_cfg_items.specs.Parts.{inst_at}
use Rattle.sil_cfg_items.specs.Roles.{taken_by}
use Rattle.sil_cfg_items.specs.declared.taken.Taken.{Taken}
use Rattle.sil_verifier_frames.specs.holder_model_laws.HolderLaws.inner.Cells.Cells.{IsInside}
use Rattle.numbered_form.specs.Lists.{Each}
use Rattle.numbered_form.proofs.PointChecks.Among.{Among, contained_among}
use Rattle.holder_model_values.specs.RunValues.Cells.{Cell}
use Rattle.holder_model_values.specs.RunValues.Memory.{Memory, put_cells}
use Rattle.holder_model_values.specs.RunValues.Places.{OnStack, Place, emptied, home_cells, removed, value_at, with_cells, with_home_cells}
use Rattle.holder_model_values.specs.RunValues.Shapes.{Shape}
use Rattle.holder_model_values.specs.RunValues.Values as value
use Rattle.holder_model_values.specs.RunValues.Values.{Value, grouped, members_of, references_of}
use Rattle.sil_ast.specs.declared.function.Function.{Function}
use Rattle.sil_ast.specs.declared.inst.Inst.{Inst}
use Rattle.sil_ast.specs.declared.module.Module.{Module}
use Rattle.sil_ast.specs.declared.place.ObjectId.{ObjectId}
use Rattle.sil_ast.specs.declared.place.PointId.{PointId}
use Rattle.sil_cfg.specs.declared.item.Item.TheVariants as item
use Rattle.sil_types_declarations.specs.TypeDefinitions.Declarations.{declarations_of}
use Rattle.sil_verifier_frames.specs.holder_model_laws.HolderLaws.inner.Whole.Laws.{KeepsWhole}
use Rattle.sil_verifier_frames.specs.holder_model_laws.HolderLaws.inner.Whole.Whole.{IsWhole, IsWholeMemory, NameWhole}
use Rattle.sil_verifier_frames.proofs.holder_model_laws.HolderLaws.Whole.Keeping.{made_whole, read_whole, taken_whole}
use Rattle.sil_verifier_frames.proofs.holder_model_laws.HolderLaws.Whole.Lists.{each_at, each_of}
use Rattle.sil_verifier_runs.proofs.Built.Apart.{KeepsApart, keeps_apart}
use Rattle.sil_verifier_runs.proofs.Built.EntriesNamed.{AreNamed}
use Rattle.sil_verifier_runs.proofs.Built.Filling.{fills_none, stores}
use Rattle.sil_verifier_runs.proofs.Built.GivenValues.{TakesOne, has_value, one_given, takes_one, takes_whole, whole_row}
use Rattle.sil_verifier_runs.proofs.Built.ItemsDone.{IsQuietly, MakesNone, WritesNone, apart_quietly, makes_object, stack_stays}
use Rattle.sil_verifier_runs.proofs.Built.OperandPlaces.{OthersOnStack, inside, taken_on_stack}
use Rattle.sil_verifier_runs.proofs.Built.PlaceRows.{inst_taken, is_at_place, operates_at, place_operand}
use Rattle.sil_verifier_runs.proofs.Built.WholeOperands.{Ready, all_whole, values_each, values_name}
use Rattle.sil_verifier_runs.proofs.Built.WholeValues.{ValueNames, group_names, members_name}

-- ---- rows

abbrev pub is_special : RowEffect → Bool
is_special row.MakesObject = true
is_special row.StoresValue = true
is_special row.GivesOperand = true
is_special row.AddressesMember = true
is_special row.AddressesField = true
is_special _ = false

pub record IsStill (o : Op) : Type 0 where
  pub apart : keeps_apart (access_kind_of o) ≡ true
  pub writes : stores (access_kind_of o) ≡ false
  pub makes : makes_object (access_kind_of o) ≡ false

pub still_row : (o : Op) → is_special (effect_of o) ≡ false → IsStill o
still_row op.AllocRef e = absurd (true≢false e)
still_row op.Store e = absurd (true≢false e)
still_row op.StoreWeak e = absurd (true≢false e)
still_row op.StoreUnowned e = absurd (true≢false e)
still_row op.BeginBorrow e = absurd (true≢false e)
still_row op.Upcast e = absurd (true≢false e)
still_row op.StructElementAddr e = absurd (true≢false e)
still_row op.TupleElementAddr e = absurd (true≢false e)
still_row op.RefElementAddr e = absurd (true≢false e)
still_row _ e = record { apart = refl; writes = refl; makes = refl }

-- what empties its place is a take
take_is : (o : Operation) → takes o ≡ true → o ≡ operation.Take
take_is operation.Take e = refl
take_is _ e = absurd (false≢true e)

-- ---- memory

-- no object changes where cells on the stack do
pub stack_objects : (memory : Memory) (q : Place) (cells : List Cell) → q.home ≡ OnStack → (with_cells memory q cells).objects ≡ memory.objects
stack_objects memory q cells home =
    subst (λ h. (with_home_cells memory h (put_cells (home_cells memory h) q.first cells)).objects ≡ memory.objects) (sym home) refl

-- results that are values
each_value : (P : ObjectId → Type 0) (ys : List Value) → Each (λ y. Each P (references_of y)) ys → Each (λ x. Each P (references_in x)) (map ValueOf ys)
each_value P [] h = tt
each_value P (y ∷ ys) h = (h.0, each_value P ys h.1)

member_there : (o : Option (List Value)) (k : ℕ) (y : Value) → option_and_then (λ (ms : List Value). slice_get ms k) o ≡ Some y
    → (ms : List Value) × (o ≡ Some ms) × (slice_get ms k ≡ Some y)
member_there None k y e = absurd (none-some y e)
member_there (Some ms) k y e = (ms, refl, e)

module _ (m : Module) (memory : Memory) (rest : List (Task Frame)) (frame : Frame) (f : Function) (p : PointId) (ops : Operands)
    (ready : Ready m memory rest frame f (item.Inst p) ops) (x : Inst) (is : inst_at f p ≡ Some x) (others : OthersOnStack m frame f p)
    (shapes : ModuleShapes) (values : List Shape) where
  abbrev P : ObjectId → Type 0
  P o = IsWhole memory o

  abbrev Quietly : Change → Type 0
  Quietly c = IsQuietly m memory rest frame f (item.Inst p) ops.left c

  whole_memory : IsWholeMemory memory
  whole_memory = ready.doing.stands.whole

  as_it_was : KeepsWhole memory memory
  as_it_was = (whole_memory, λ o whole. whole)

  -- the operands that were given, where they are these
  given_as : (zs : List Datum) → ops.given ≡ zs → AreNamed memory frame.entries ops.left (item_taken f (item.Inst p)) zs
  given_as zs given = subst (AreNamed memory frame.entries ops.left (item_taken f (item.Inst p))) given ready.named

  among_taken : (y : Taken) → item_taken f (item.Inst p) ≡ y ∷ [] → Contains (item_taken f (item.Inst p)) y
  among_taken y alone = subst (λ ts. Contains ts y) (sym alone) (contained_among y (y ∷ []) (inl refl))

  one_taken : (z : Datum) → ops.given ≡ z ∷ []
      → TakesOne m frame.function.0 f ready.doing.body ready.w memory frame.entries ops.left ready.entries p x is z
  one_taken z given = takes_one m frame.function.0 f ready.doing.body ready.w memory frame.entries ops.left ready.entries p x is z (given_as (z ∷ []) given)

  one_living : (q : Place) → ops.given ≡ AddressOf q ∷ [] → any_dead memory (references_in (AddressOf q)) ≡ false
  one_living q given = at (item_taken f (item.Inst p)) (given_as (AddressOf q ∷ []) given)
    where
      at : (ts : List Taken) → AreNamed memory frame.entries ops.left ts (AddressOf q ∷ []) → any_dead memory (references_in (AddressOf q)) ≡ false
      at [] h = absurd h
      at (t ∷ ts) h = h.0.1

  -- ---- operands that are values

  whole_given : takes_whole (effect_of x.op) ≡ true → (vs : List Value) → values_of ops.given ≡ Some vs → Each (ValueNames P) vs
  whole_given e vs are =
      values_name P ops.given vs are (all_whole m memory rest frame f (item.Inst p) ops ready x is (whole_row x.op e) (values_each ops.given vs are))

  whole_one : takes_whole (effect_of x.op) ≡ true → (v : Value) → ops.given ≡ ValueOf v ∷ [] → NameWhole memory (references_of v)
  whole_one e v given = (whole_given e (v ∷ []) (ap values_of given)).0

  whole_datum : has_value (effect_of x.op) ≡ true → takes_whole (effect_of x.op) ≡ true → (z : Datum) → ops.given ≡ z ∷ [] → NameWhole memory (references_in z)
  whole_datum has e z given =
      let v = one_given m frame.function.0 f ready.doing.body ready.w memory frame.entries ops.left ready.entries p x is has z (given_as (z ∷ []) given) in
      subst (λ y. NameWhole memory (references_in y)) (sym v.1) (whole_one e v.0 (given ∙ ap (λ y. y ∷ []) v.1))

  -- ---- the one place

  place_inside : (q : Place) → ops.given ≡ AddressOf q ∷ [] → IsInside memory q
  place_inside q given =
      let one = one_taken (AddressOf q) given in
      inside m memory rest frame f p ops ready one.taken.value q one.names (one_living q given)

  take_home : (q : Place) → ops.given ≡ AddressOf q ∷ [] → is_at_place (effect_of x.op) ≡ true → operation_by (access_kind_of x.op) x.qualifier ≡ Some operation.Take
      → q.home ≡ OnStack
  take_home q given e done =
      let one = one_taken (AddressOf q) given in
      let mine : taken_by x ≡ one.taken ∷ [] = sym (inst_taken f p x is) ∙ one.alone in
      taken_on_stack m memory rest frame f p ops ready x is others one.taken (among_taken one.taken one.alone) q one.names
      (operates_at x one.taken operation.Take (subst (Among one.taken) (sym mine) (inl refl)) (place_operand x one.taken e mine) done)

  -- what is left of memory behind an operation at the place
  record Keeps (later : Memory) : Type 0 where
    keeps : KeepsWhole memory later
    objects : later.objects ≡ memory.objects

  after_so : (o : Operation) (q : Place) → ops.given ≡ AddressOf q ∷ [] → is_at_place (effect_of x.op) ≡ true → operation_by (access_kind_of x.op) x.qualifier ≡ Some o
      → Keeps (after (declarations_of m) shapes values memory x o q)
  after_so o q given e done = at (takes o) refl
    where
      at : (b : Bool) → takes o ≡ b → Keeps (cond b (emptied memory q) memory)
      at false so = record { keeps = as_it_was; objects = refl }
      at true so =
          let home = take_home q given e (done ∙ ap (λ k. Some k) (take_is o so)) in
          record { keeps = (taken_whole memory whole_memory q (place_inside q given) home).0; objects = stack_objects memory q _ home }

  -- ---- the rows

  module _ (still : IsStill x.op) (none : is_special (effect_of x.op) ≡ false) where
    same_inst : (y : Inst) → inst_at f p ≡ Some y → x ≡ y
    same_inst y so = same_Some x y (sym is ∙ so)

    apart : KeepsApart f (item.Inst p)
    apart y so = subst (λ (z : Inst). keeps_apart (access_kind_of z.op) ≡ true) (same_inst y so) still.apart

    pub makes_none : MakesNone m memory rest frame f (item.Inst p) ops.left
    makes_none y so = subst (λ (z : Inst). makes_object (access_kind_of z.op) ≡ false) (same_inst y so) still.makes

    pub writes_none : WritesNone m memory rest frame f (item.Inst p) ops.left
    writes_none object k =
        inl (fills_none m frame.function.0 f ready.doing.body (item.Inst p) object k
        (λ y so. subst (λ (z : Inst). stores (access_kind_of z.op) ≡ false) (same_inst y so) still.writes))

    quietly : (c : Change) → Keeps c.memory → NameWhole c.memory c.dropped → Each (λ y. NameWhole c.memory (references_in y)) c.results → Quietly c
    quietly c k dropped results =
        apart_quietly m memory rest frame f (item.Inst p) ops.left ready.doing apart c k.keeps (stack_stays m memory c.memory (Runs frame ∷ rest) k.keeps k.objects) dropped results

    same_memory : Keeps memory
    same_memory = record { keeps = as_it_was; objects = refl }

    special : (e : RowEffect) → effect_of x.op ≡ e → is_special e ≡ true → (c : Change) → Quietly c
    special e so on c = absurd (true≢false (sym on ∙ sym (ap is_special so) ∙ none))

    abbrev Told : Change → Type 0
    Told c = Leaves (declarations_of m) shapes values memory x ops.given c

    -- what is named in the memory before is named whole behind
    later_whole : (later : Memory) → Keeps later → (os : List ObjectId) → NameWhole memory os → NameWhole later os
    later_whole later k os h = each_of (IsWhole memory) (IsWhole later) k.keeps.1 os h

    read_there : (q : Place) (v : Value) → value_at memory q ≡ Some v → NameWhole memory (references_of v)
    read_there q v at = (read_whole memory whole_memory).0 q v at

    by : (c : Change) → Told c → ((q : Place) → c.slots ≡ ClosesSlot q → q.home ≡ OnStack) → Quietly c
    by _ doing.nothing closes = quietly (unchanged memory) same_memory tt tt
    by _ (doing.bare z bare) closes = quietly (giving memory (z ∷ [])) same_memory tt (subst (NameWhole memory) (sym bare) tt, tt)
    by _ (doing.object class e) closes = special row.MakesObject e refl _
    by _ (doing.slot s q e home) closes =
        quietly (record (unchanged memory) { results = AddressOf q ∷ []; memory = with_new_slot memory s; slots = OpensSlot q })
        (record { keeps = (made_whole memory whole_memory).1 s; objects = refl }) tt
        (subst (λ h. NameWhole (with_new_slot memory s) (home_references h)) (sym home) tt, tt)
    by _ (doing.removes q e given) closes =
        let home = closes q refl in
        quietly (record (unchanged (removed memory q)) { slots = ClosesSlot q })
        (record { keeps = (taken_whole memory whole_memory q (place_inside q given) home).1; objects = stack_objects memory q _ home }) tt tt
    by _ (doing.gives z e given) closes = special row.GivesOperand e refl _
    by _ (doing.copies z e given) closes =
        quietly (record (unchanged memory) { results = z ∷ []; retained = references_in z }) same_memory tt
        (whole_datum (ap has_value e) (ap takes_whole e) z given, tt)
    by _ (doing.retains z e given) closes = quietly (record (unchanged memory) { retained = references_in z }) same_memory tt tt
    by _ (doing.drops z e given) closes =
        quietly (record (unchanged memory) { dropped = references_in z }) same_memory (whole_datum (ap has_value e) (ap takes_whole e) z given) tt
    by _ (doing.loads o q v e done given at) closes =
        let k = after_so o q given (ap is_at_place e) done in
        quietly _ k tt (later_whole (after (declarations_of m) shapes values memory x o q) k (references_of v) (read_there q v at), tt)
    by _ (doing.names o q v e done given at live) closes =
        let k = after_so o q given (ap is_at_place e) done in
        quietly _ k tt (later_whole (after (declarations_of m) shapes values memory x o q) k (references_of v) (read_there q v at), tt)
    by _ (doing.names_none o q e done given) closes =
        let k = after_so o q given (ap is_at_place e) done in
        quietly (giving (after (declarations_of m) shapes values memory x o q) (ValueOf (value.Case 0) ∷ [])) k tt (tt, tt)
    by _ (doing.stores o v q e done given) closes = special row.StoresValue e refl _
    by _ (doing.destroys o q e done given) closes =
        let k = after_so o q given (ap is_at_place e) done in
        quietly (record (unchanged (after (declarations_of m) shapes values memory x o q)) { dropped = references_at memory q }) k
        (later_whole (after (declarations_of m) shapes values memory x o q) k (references_at memory q) ((read_whole memory whole_memory).1 q)) tt
    by _ (doing.groups vs e are) closes =
        quietly (giving memory (ValueOf (grouped vs) ∷ [])) same_memory tt (group_names P vs (whole_given (ap takes_whole e) vs are), tt)
    by _ (doing.chooses k v e given) closes =
        quietly (giving memory (ValueOf (value.Full k v) ∷ [])) same_memory tt (whole_one (ap takes_whole e) v given, tt)
    by _ (doing.member k v y e given at) closes =
        let ms = member_there (members_of v) k y at in
        quietly (giving memory (ValueOf y ∷ [])) same_memory tt
        (each_at (ValueNames P) ms.0 k y (members_name P v ms.0 (whole_one (ap takes_whole e) v given) ms.1) ms.2, tt)
    by _ (doing.members v ys e given are) closes =
        quietly (giving memory (map ValueOf ys)) same_memory tt (each_value P ys (members_name P v ys (whole_one (ap takes_whole e) v given) are))
    by _ (doing.part k q r e given at) closes = special row.AddressesMember e refl _
    by _ (doing.field v o q e given object home) closes = special row.AddressesField e refl _

    pub still_quietly : (c : Change) → effect (declarations_of m) shapes values memory x ops.given ≡ effects.Makes c
        → ((q : Place) → c.slots ≡ ClosesSlot q → q.home ≡ OnStack) → Quietly c
    still_quietly c made closes = by c (changes_told (declarations_of m) shapes values memory x ops.given c made) closes
