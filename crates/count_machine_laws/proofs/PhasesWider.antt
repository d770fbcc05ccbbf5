-- What agrees by one test of references agrees by each that lets through more. A memory in which an object of the same class stands in place of another.
use Rattle.std.proofs.Common.{◌≡◌, ◌&&◌, ℕ, zero, suc, List, [], ◌∷◌, true, Option, length, nat_lt, refl, ap, ◌∙◌}
use Rattle.std.specs.Prelude.{set, slice_get, unwrap_or}
use Rattle.std.proofs.lemmas.List.{length-set}
use Rattle.count_heap.specs.HeapModel.HeapViews.{HeapObject, HeapView}
use Rattle.count_machine_model.specs.holder_model.Outcomes.{Numbers}
use Rattle.count_machine_model.specs.MachineSteps.Views.{MachineView}
use Rattle.count_machine_model.specs.declared.machine_steps.address.OpenSlot.{OpenSlot}
use Rattle.numbered_form.specs.Names.{Name}
use Rattle.count_machine_model.specs.holder_model.RunTyping.Classes.{is_a}
use Rattle.holder_model_values.specs.RunValues.Cells.{Cell}
use Rattle.holder_model_values.specs.RunValues.Memory.{Memory, Object, no_object, object_at, with_object}
use Rattle.holder_model_values.specs.RunValues.Shapes.{Shape}
use Rattle.holder_model_values.specs.declared.run_values.leaf.Leaf.{Leaf}
use Rattle.sil_ast.specs.declared.module.Module.{Module}
use Rattle.sil_ast.specs.declared.place.ObjectId.{ObjectId}
use Rattle.sil_types_declarations.specs.TypeDefinitions.Declarations.{declarations_of}
use Rattle.holder_model_values.proofs.ValueParts.Suiting.{suits_wider}
use Rattle.holder_model_values.specs.ValueParts.inner.Suits.{ClassTest}
use Rattle.count_machine_laws.proofs.Memories.{MemoryAgrees}
use Rattle.count_machine_laws.proofs.Objects.{FieldHolds, FieldsHold, ObjectAgrees, ObjectsAgree, freed, is_of_class, kept, more, none, unwritten, written}
use Rattle.count_machine_laws.proofs.Slots.{Made, SlotsAgree}

abbrev pub LetsMore : ClassTest → ClassTest → Type 0
LetsMore test wider = (class : Name) (o : ObjectId) → test class o ≡ true → wider class o ≡ true

module _ (test wider : ClassTest) (lets : LetsMore test wider) where
  pub field_wider : (s : Shape) (cs : List Cell) (x : Option (List Leaf)) → FieldHolds test s cs x → FieldHolds wider s cs x
  field_wider s _ _ unwritten = unwritten
  field_wider s _ _ (written x fit) = written x (suits_wider test wider lets s x fit)

  pub fields_wider : (ss : List Shape) (cs : List Cell) (xs : List (Option (List Leaf))) → FieldsHold test ss cs xs → FieldsHold wider ss cs xs
  fields_wider _ _ _ none = none
  fields_wider _ _ _ (more s ss own rest x xs f fs) = more s ss own rest x xs (field_wider s own x f) (fields_wider ss rest xs fs)

  pub object_wider : (m : Module) (x : Object) (n : Numbers) (h : Option HeapObject) → ObjectAgrees m test x n h → ObjectAgrees m wider x n h
  object_wider m _ _ _ (freed x n dead cells unowned weak) = freed x n dead cells unowned weak
  object_wider m _ _ _ (kept x n h k) = kept x n h (record {
    class = k.class;
    phase = k.phase;
    strong = k.strong;
    unowned = k.unowned;
    weak = k.weak;
    left = k.left;
    fields = λ alive. fields_wider _ _ _ (k.fields alive);
    ended = k.ended;
  })

  pub objects_wider : (m : Module) (xs : List Object) (ns : List Numbers) (hs : List (Option HeapObject)) → ObjectsAgree m test xs ns hs → ObjectsAgree m wider xs ns hs
  objects_wider m xs ns hs a = record {
    numbered = a.numbered;
    kept = a.kept;
    classes = a.classes;
    each = λ k x n h ex en eh. object_wider m x n h (a.each k x n h ex en eh);
  }

  pub slots_wider : (made : List Made) (slots : List OpenSlot) (leaves : List Leaf) → SlotsAgree test made slots leaves → SlotsAgree wider made slots leaves
  slots_wider made slots leaves a = record {
    each = a.each;
    all = a.all;
    shapes = a.shapes;
    suit = λ k x v there full. suits_wider test wider lets x.shape v (a.suit k x v there full);
  }

-- the classes of the objects stay

class_put : (xs : List Object) (k j : ℕ) (x : Object) → x.class ≡ (unwrap_or (slice_get xs k) no_object).class
    → (unwrap_or (slice_get (set xs k x) j) no_object).class ≡ (unwrap_or (slice_get xs j) no_object).class
class_put [] k j x e = refl
class_put (y ∷ xs) zero zero x e = e
class_put (y ∷ xs) zero (suc j) x e = refl
class_put (y ∷ xs) (suc k) zero x e = refl
class_put (y ∷ xs) (suc k) (suc j) x e = class_put xs k j x e

-- what stands in the places of objects

module _ (m : Module) (mem : Memory) (o : ObjectId) (x : Object) (same : x.class ≡ (object_at mem o).class) where
  pub test_stays : (class : Name) (p : ObjectId) → is_of_class m (with_object mem o x) class p ≡ is_of_class m mem class p
  test_stays class p =
      ap (λ n. nat_lt p.0 n && is_a (declarations_of m) (object_at (with_object mem o x) p).class class) (length-set mem.objects o.0 x)
      ∙ ap (λ c. nat_lt p.0 (length mem.objects) && is_a (declarations_of m) c class) (class_put mem.objects o.0 p.0 x same)

  pub lets_more : LetsMore (is_of_class m mem) (is_of_class m (with_object mem o x))
  lets_more class p e = test_stays class p ∙ e

  -- the object stands in place of the one that was there
  pub memory_put : (made : List Made) (numbers after : List Numbers) (st : MachineView) (h : HeapView) → MemoryAgrees m made mem numbers st
      → h.declarations ≡ st.heap.declarations → ObjectsAgree m (is_of_class m mem) (set mem.objects o.0 x) after h.objects
      → MemoryAgrees m made (with_object mem o x) after (record st { heap = h })
  memory_put made numbers after st h a declared objects = record {
    stack = a.stack;
    serials = a.serials;
    slots = slots_wider (is_of_class m mem) (is_of_class m (with_object mem o x)) lets_more made st.slots st.slot_leaves a.slots;
    objects = objects_wider (is_of_class m mem) (is_of_class m (with_object mem o x)) lets_more m (set mem.objects o.0 x) after h.objects objects;
    declared = declared ∙ a.declared;
  }
