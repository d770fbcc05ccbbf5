-- Weak and unowned storage in the words of a run: what it gives, and where it stands.
use Rattle.std.specs.Prelude.{◌≡◌, true}
use Rattle.ownership_kinds_origins.specs.numbered_form.Names.{Name}
use Rattle.holder_model_values.specs.RunValues.Shapes.{Enum, FullCase, NoCase, PlainCase, Reference, Shape, Stored}
use Rattle.sil_ast.specs.declared.decl.Storage.{Storage}
use Rattle.sil_ast.specs.declared.decl.Storage.TheVariants as storage
use Rattle.holder_model.specs.RunTyping.Forms.{has_no_storage}

-- what storage of a kind gives: an Optional of a class, or a class
pub data IsNamed : Storage → Shape → Type 0 where
  weak : (class name none some : Name) → IsNamed storage.Weak (Enum name (PlainCase none (FullCase some (Reference class) NoCase)))
  unowned : (class : Name) → IsNamed storage.Unowned (Reference class)

-- the shape of a field or slot, by how it keeps its value: a value in which no storage stands, or storage of what is named there
pub data FieldShapeIs : Storage → Shape → Type 0 where
  plain : (s : Shape) → has_no_storage s ≡ true → FieldShapeIs storage.Strong s
  named : (w : Storage) (s : Shape) → IsNamed w s → FieldShapeIs w (Stored w s)
