-- Classes and their ancestors: inheriting passes on, and an ancestor's fields come first.
use Rattle.std.proofs.Common.{◌≡◌, List, ◌++◌, true, map, ap, ◌∙◌, sym}
use Rattle.std.specs.Prelude.{◌||◌}
use Rattle.std.proofs.lemmas.List.{map-append}
use Rattle.sil_ast.specs.declared.module.Module.{Module}
use Rattle.numbered_form.specs.Names.{Name}
use Rattle.holder_model.specs.ModuleShapes.{field_shape, field_shapes, shapes_of}
use Rattle.holder_model.specs.holder_model_values.RunValues.Shapes.{Shape}
use Rattle.holder_model.specs.sil_types_declarations.TypeDefinitions.Declarations.{Declarations, declarations_of, inherits, is_class}
use Rattle.holder_model.specs.sil_types_declarations.TypeDefinitions.Lookups.{fields_of}
use Rattle.holder_model.specs.RunTyping.Classes.{ClassesAreSound, is_a}
use Rattle.holder_model_typing.specs.RunTypingLaws.inner.WellTyped.{IsWellTyped}
use Rattle.holder_model_typing.proofs.RunTypingLaws.ClassChains.{fields_first, is_a_passes}
use Rattle.holder_model_typing.proofs.RunTypingLaws.Found.{same_name}
use Rattle.holder_model_typing.proofs.RunTypingLaws.TextClasses.{chains_end, class_placed, class_placed_once, names_once}
pub use Rattle.holder_model_typing.proofs.RunTypingLaws.FieldShapes.{field_shapes_are}
pub use Rattle.holder_model_typing.proofs.RunTypingLaws.FieldFacts.{each_field, fields_are_typed}
pub use Rattle.holder_model_typing.proofs.RunTypingLaws.TextClasses.{ancestor_is_class, placed_is_class}

pub is_a_itself : (d : Declarations) (class : Name) → is_a d class class ≡ true
is_a_itself d class = ap (λ b. b || inherits d class class) (same_name class)

module _ (m : Module) (r : IsWellTyped m) where
  shapes_first : (a b : Name) → is_class (declarations_of m) a ≡ true → is_a (declarations_of m) a b ≡ true
      → (more : List Shape) × (field_shapes (shapes_of m) a ≡ field_shapes (shapes_of m) b ++ more)
  shapes_first a b h above =
      let d = declarations_of m in
      let f = fields_first d (chains_end m r) a b above in (
        map (field_shape d) f.0,
        field_shapes_are m r a h ∙ ap (map (field_shape d)) f.1 ∙ map-append (field_shape d) (fields_of d b) f.0
            ∙ ap (λ ss. ss ++ map (field_shape d) f.0) (sym (field_shapes_are m r b (ancestor_is_class m r a b h above))),
      )

  pub classes : ClassesAreSound m
  classes = record {
    itself = is_a_itself (declarations_of m);
    above = ancestor_is_class m r;
    named = placed_is_class m r;
    passes = is_a_passes (declarations_of m) (chains_end m r);
    fields = shapes_first;
    places = class_placed m;
    once = class_placed_once m (names_once m r);
  }
