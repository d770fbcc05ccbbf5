-- Classes in a run: which inherits from which, and where their fields lie.
use Rattle.std.specs.Prelude.{◌≡◌, ◌||◌, ℕ, List, ◌++◌, Bool, true, Some, bytes_eq}
use Rattle.holder_model.specs.ModuleShapes.{field_shapes, shapes_of}
use Rattle.ownership_kinds_origins.specs.numbered_form.Names.{Name}
use Rattle.holder_model_values.specs.RunValues.Shapes.{Shape}
use Rattle.sil_ast.specs.declared.module.Module.{Module}
use Rattle.holder_model_values.specs.sil_types_declarations.TypeDefinitions.Declarations.{Declarations, declarations_of, inherits, is_class}
use Rattle.holder_model_values.specs.sil_types_declarations.TypeDefinitions.Lookups.{class_at}

-- the class is the other one or inherits from it
abbrev pub is_a : Declarations → Name → Name → Bool
is_a d class other = bytes_eq other class || inherits d class other

-- what a run relies on of classes
pub record ClassesAreSound (m : Module) : Type 0 where
  pub itself : (a : Name) → is_a (declarations_of m) a a ≡ true
  pub above : (a b : Name) → is_class (declarations_of m) a ≡ true → is_a (declarations_of m) a b ≡ true → is_class (declarations_of m) b ≡ true
  pub passes : (a b c : Name) → is_a (declarations_of m) a b ≡ true → is_a (declarations_of m) b c ≡ true → is_a (declarations_of m) a c ≡ true
  -- the fields of an ancestor come first
  pub fields : (a b : Name) → is_class (declarations_of m) a ≡ true → is_a (declarations_of m) a b ≡ true
      → (more : List Shape) × (field_shapes (shapes_of m) a ≡ field_shapes (shapes_of m) b ++ more)
  -- the place of a class among the declarations tells its name, and is the only one that does
  pub places : (a : Name) → is_class (declarations_of m) a ≡ true → (k : ℕ) × (class_at (declarations_of m) k ≡ Some a)
  pub named : (k : ℕ) (a : Name) → class_at (declarations_of m) k ≡ Some a → is_class (declarations_of m) a ≡ true
  pub once : (j k : ℕ) (a : Name) → class_at (declarations_of m) j ≡ Some a → class_at (declarations_of m) k ≡ Some a → j ≡ k
