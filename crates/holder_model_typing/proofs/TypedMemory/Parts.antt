-- Members of places and fields of objects are places.
use Rattle.std.proofs.Common.{◌≡◌, ◌++◌, ℕ, List, [], ◌∷◌, true, Some, refl, sym, ap, subst, arith}
use Rattle.std.specs.Prelude.{option_map, slice_get}
use Rattle.sil_ast.specs.declared.module.Module.{Module}
use Rattle.sil_ast.specs.declared.place.ObjectId.{ObjectId}
use Rattle.numbered_form.specs.Names.{Name}
use Rattle.holder_model.specs.sil_types_declarations.TypeDefinitions.Declarations.{declarations_of, is_class}
use Rattle.holder_model.specs.holder_model_values.RunValues.Places.{Place, field_in, field_place, member_place, part_of}
use Rattle.holder_model.specs.holder_model_values.RunValues.Shapes.{Shape, member_shapes}
use Rattle.holder_model.specs.holder_model_values.ValueParts.inner.Paths.{here}
use Rattle.holder_model.proofs.holder_model_values.ValueParts.Paths.{cells_before_member, member_of_part}
use Rattle.holder_model.specs.RunTyping.Classes.{ClassesAreSound}
use Rattle.holder_model_typing.specs.TypedMemory.inner.Worlds.{IsIn, IsWorldOf, PlaceIs, World, fields_of_class, names}
use Rattle.holder_model_typing.proofs.TypedMemory.Growth.{in_front}
use Rattle.holder_model_typing.proofs.TypedMemory.Naming.{each_at, named_by}

member_in : (shapes : List Shape) (p : Place) (k : ℕ) (s : Shape) → slice_get (member_shapes p.shape) k ≡ Some s → IsIn shapes p → IsIn shapes (part_of p (member_shapes p.shape) k s)
member_in shapes p k s e at =
    let before = cells_before_member at.part k in
    record {
      number = at.number;
      whole = at.whole;
      there = at.there;
      path = at.path ++ (k ∷ []);
      part = member_of_part k at.part e;
      first = omega (arith, at.first, before);
    }

pub member_there : (p : Place) (k : ℕ) (s : Shape) → slice_get (member_shapes p.shape) k ≡ Some s → member_place p k ≡ Some (part_of p (member_shapes p.shape) k s)
member_there p k s e = ap (option_map (part_of p (member_shapes p.shape) k)) e

own_field : (o : ObjectId) (ss : List Shape) (k : ℕ) (s : Shape) → slice_get ss k ≡ Some s → IsIn ss (field_in o ss k s)
own_field o ss k s e = record { number = k; whole = s; there = e; path = []; part = here; first = omega arith }

pub field_there : (o : ObjectId) (ss : List Shape) (k : ℕ) (s : Shape) → slice_get ss k ≡ Some s → field_place ss o k ≡ Some (field_in o ss k s)
field_there o ss k s e = ap (option_map (field_in o ss k)) e

module _ (m : Module) (w : World) where
  pub member_is : (p : Place) (k : ℕ) (s : Shape) → slice_get (member_shapes p.shape) k ≡ Some s → PlaceIs m w p → PlaceIs m w (part_of p (member_shapes p.shape) k s)
  member_is p k s e (PlaceIs.on_stack home at) = PlaceIs.on_stack home (member_in w.slots p k s e at)
  member_is p k s e (PlaceIs.inside o class home there at) = PlaceIs.inside o class home there (member_in (fields_of_class m w class) p k s e at)

  -- a field, as the class or an ancestor has it

  pub field_is : ClassesAreSound m → IsWorldOf m w → (o : ObjectId) (class : Name) (k : ℕ) (s : Shape) → names m w class o ≡ true → slice_get (fields_of_class m w class) k ≡ Some s
      → PlaceIs m w (field_in o (fields_of_class m w class) k s)
  field_is sound world o class k s h e =
      let by = named_by m w class o h in
      let more = sound.fields by.own class (each_at (λ c. is_class (declarations_of m) c ≡ true) w.classes o.0 by.own world by.there) by.is in
      PlaceIs.inside o by.own refl by.there
      (subst (λ ss. IsIn ss (field_in o (fields_of_class m w class) k s)) (sym more.1) (in_front (fields_of_class m w class) more.0 (field_in o (fields_of_class m w class) k s)
      (own_field o (fields_of_class m w class) k s e)))
