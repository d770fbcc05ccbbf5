-- Addresses of members and of fields name their places.
use Rattle.std.proofs.Common.{length-append, ◌≡◌, ◌≤◌, ◌+◌, ◌++◌, ℕ, zero, suc, List, [], ◌∷◌, Some, true, false, length, map, nat_lt, sum, take, refl, sym, ap, ◌∙◌, arith}
use Rattle.std.specs.Prelude.{slice_get}
use Rattle.std.proofs.lemmas.Bool.{and_parts, ltb-true, true≢false}
use Rattle.std.proofs.lemmas.List.{take-append-le}
use Rattle.std.proofs.lemmas.Option.{none-some, slice_get_within}
use Rattle.count_machine_model.specs.holder_model.ModuleShapes.{field_shapes, shapes_of}
use Rattle.count_machine_model.specs.holder_model.Outcomes.{Numbers}
use Rattle.count_machine_model.specs.declared.machine_steps.address.Address.{Address}
use Rattle.count_machine_model.specs.declared.machine_steps.address.Home.TheVariants as home
use Rattle.count_machine_model.specs.declared.machine_steps.address.OpenSlot.{OpenSlot}
use Rattle.count_machine_model.specs.MachineSteps.Views.{MachineView}
use Rattle.numbered_form.specs.Names.{Name}
use Rattle.count_machine_model.specs.holder_model.RunTyping.Classes.{is_a}
use Rattle.count_machine_model.specs.holder_model.RunTyping.RunTyped.{RunTyped}
use Rattle.holder_model_values.specs.RunValues.Cells.{cell_count}
use Rattle.holder_model_values.specs.RunValues.Memory.{Memory, object_at}
use Rattle.holder_model_values.specs.RunValues.Places.{Place, field_in, part_of}
use Rattle.holder_model_values.specs.RunValues.Shapes.{Shape, member_shapes}
use Rattle.sil_ast.specs.declared.module.Module.{Module}
use Rattle.sil_ast.specs.declared.place.ObjectId.{ObjectId}
use Rattle.holder_model_values.specs.ValueParts.inner.Paths.{IsPart, leaf_offset}
use Rattle.holder_model_values.proofs.ValueParts.Paths.{cells_before_member, leaves_before_member, member_of_part}
use Rattle.sil_types_declarations.specs.TypeDefinitions.Declarations.{declarations_of}
use Rattle.count_machine_laws.proofs.HeldObjects.{object_there}
use Rattle.count_machine_laws.proofs.Memories.{MemoryAgrees, NamesPlace}
use Rattle.count_machine_laws.proofs.Objects.{NamesField, is_of_class}
use Rattle.count_machine_laws.proofs.Slots.{Made, NamesSlot}

-- the address of a part that lies so many leaves further on
abbrev pub further : Address → ℕ → Address
further a n = record a { from = a.from + n; is_part = true }

has_more : (path : List ℕ) (k : ℕ) → path ++ (k ∷ []) ≡ [] → ⊥
has_more path k e = omega (arith, ap length e, length-append path (k ∷ []))

module _ (a : Address) (p : Place) (k : ℕ) (s : Shape) (e : slice_get (member_shapes p.shape) k ≡ Some s) where
  abbrev member : Place
  member = part_of p (member_shapes p.shape) k s

  abbrev its_address : Address
  its_address = further a (leaf_offset (member_shapes p.shape) k)

  member_in_slot : {made : List Made} {slots : List OpenSlot} (index serial : ℕ) → NamesSlot made slots index serial a p → NamesSlot made slots index serial its_address member
  member_in_slot index serial names = record {
    of = names.of;
    there = names.there;
    path = names.path ++ (k ∷ []);
    part = member_of_part k names.part e;
    home = names.home;
    first = omega (arith, names.first, cells_before_member names.part k);
    from = ap (λ n. n + leaf_offset (member_shapes p.shape) k) names.from ∙ sym (leaves_before_member names.part k);
    parts = refl;
    whole = λ not_part. absurd (true≢false not_part);
    no_part = λ at_all. absurd (has_more names.path k at_all);
    now = names.now;
  }

  member_in_field : {m : Module} {mem : Memory} (o : ObjectId) (i : ℕ) → NamesField m mem o i a p → NamesField m mem o i its_address member
  member_in_field o i names = record {
    made = names.made;
    field = names.field;
    there = names.there;
    path = names.path ++ (k ∷ []);
    part = member_of_part k names.part e;
    home = names.home;
    first = omega (arith, names.first, cells_before_member names.part k);
    from = ap (λ n. n + leaf_offset (member_shapes p.shape) k) names.from ∙ sym (leaves_before_member names.part k);
    parts = refl;
    whole = λ not_part. absurd (true≢false not_part);
    no_part = λ at_all. absurd (has_more names.path k at_all);
  }

pub member_named : (m : Module) {made : List Made} {slots : List OpenSlot} {mem : Memory} (a : Address) (p : Place) (k : ℕ) (s : Shape) → NamesPlace m made slots mem a p
    → slice_get (member_shapes p.shape) k ≡ Some s → NamesPlace m made slots mem (further a (leaf_offset (member_shapes p.shape) k)) (part_of p (member_shapes p.shape) k s)
member_named m a p k s (NamesPlace.in_slot index serial at names) e = NamesPlace.in_slot index serial at (member_in_slot a p k s e index serial names)
member_named m a p k s (NamesPlace.in_field o i at names) e = NamesPlace.in_field o i at (member_in_field a p k s e o i names)

abbrev pub field_at : ObjectId → ℕ → Address
field_at o k = record { home = home.Field o k; from = 0; is_part = false }

there_in_front : {A : Type 0} (xs ys : List A) (k : ℕ) (x : A) → slice_get xs k ≡ Some x → slice_get (xs ++ ys) k ≡ Some x
there_in_front [] ys k x e = absurd (none-some x e)
there_in_front (z ∷ xs) ys zero x e = e
there_in_front (z ∷ xs) ys (suc k) x e = there_in_front xs ys k x e

-- the field may be named by the class of the object, or by one of its ancestors
pub field_named : (m : Module) → RunTyped m → {made : List Made} {mem : Memory} {numbers : List Numbers} {st : MachineView} → MemoryAgrees m made mem numbers st
    → (owner : Name) (o : ObjectId) (k : ℕ) (s : Shape) → is_of_class m mem owner o ≡ true → slice_get (field_shapes (shapes_of m) owner) k ≡ Some s
    → NamesPlace m made st.slots mem (field_at o k) (field_in o (field_shapes (shapes_of m) owner) k s)
field_named m typed {mem = mem} {numbers = numbers} {st = st} agrees owner o k s is e =
    let class = (object_at mem o).class in
    let parts = and_parts (nat_lt o.0 (length mem.objects)) (is_a (declarations_of m) class owner) is in
    let was_made = ltb-true o.0 (length mem.objects) parts.0 in
    let is_class = agrees.objects.classes o.0 (object_at mem o) (object_there mem numbers st.heap agrees.objects o was_made).object in
    let above = typed.classes.fields class owner is_class parts.1 in
    let fields = field_shapes (shapes_of m) owner in
    let within : k ≤ length fields = omega (arith, slice_get_within fields k s e) in
    NamesPlace.in_field o k refl (record {
      made = was_made;
      field = s;
      there = ap (λ ss. slice_get ss k) above.1 ∙ there_in_front fields above.0 k s e;
      path = [];
      part = IsPart.here;
      home = refl;
      first = ap (λ ss. sum (map cell_count ss)) (sym (take-append-le k fields above.0 within) ∙ ap (take k) (sym above.1)) ∙ omega arith;
      from = refl;
      parts = refl;
      whole = λ not_part. refl;
      no_part = λ at_all. refl;
    })
