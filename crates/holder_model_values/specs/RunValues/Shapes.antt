-- The shape of a type: what it looks like through all declarations, with no name in it left to be looked up.
use Rattle.std.specs.Prelude.{ℕ, List, [], ◌∷◌, Option, Some, None}
use Rattle.sil_ast.specs.declared.decl.Storage.{Storage}
use Rattle.sil_ast.specs.declared.type_name.TypeName.{TypeName}
use Rattle.sil_types_declarations.specs.numbered_form.Names.{Name}
use Rattle.sil_types_declarations.specs.TypeDefinitions.Declarations.{Declarations}
use Rattle.holder_model_values.specs.RunValues.Layers.{CaseLayer, Layer, told}
use Rattle.holder_model_values.specs.RunValues.Layers as layer

mutual
  pub data Shape : Type 0 where
    Integer : (width : ℕ) → Shape
    Reference : (class : Name) → Shape
    Struct : (name : Name) (fields : Shapes) → Shape
    Tuple : (elements : Shapes) → Shape
    Enum : (name : Name) (cases : CaseShapes) → Shape
    Stored : (storage : Storage) (inner : Shape) → Shape
    Unknown : Shape

  pub data Shapes : Type 0 where
    NoMember : Shapes
    Member : (first : Shape) (others : Shapes) → Shapes

  pub data CaseShapes : Type 0 where
    NoCase : CaseShapes
    PlainCase : (name : Name) (others : CaseShapes) → CaseShapes
    FullCase : (name : Name) (payload : Shape) (others : CaseShapes) → CaseShapes

-- the shape with this layer

abbrev pub members_of : List Shape → Shapes
members_of [] = NoMember
members_of (s ∷ ss) = Member s (members_of ss)

abbrev pub with_case : Name → Option Shape → CaseShapes → CaseShapes
with_case name None others = PlainCase name others
with_case name (Some payload) others = FullCase name payload others

abbrev pub cases_of : List (CaseLayer Shape) → CaseShapes
cases_of [] = NoCase
cases_of (c ∷ cs) = with_case c.name c.payload (cases_of cs)

abbrev pub shape_with : Layer Shape → Shape
shape_with (layer.Integer width) = Integer width
shape_with (layer.Reference class) = Reference class
shape_with (layer.Struct name fields) = Struct name (members_of fields)
shape_with (layer.Tuple elements) = Tuple (members_of elements)
shape_with (layer.Enum name cases) = Enum name (cases_of cases)
shape_with (layer.Stored storage inner) = Stored storage inner
shape_with layer.Unknown = Unknown

abbrev pub shape_of : Declarations → TypeName → Shape
shape_of d t = told shape_with d t

-- whatever is told of a shape layer by layer
module _ {A : Type 0} (tell : Layer A → A) where
  abbrev mutual
    pub by_layers : Shape → A
    by_layers (Integer width) = tell (layer.Integer width)
    by_layers (Reference class) = tell (layer.Reference class)
    by_layers (Struct name fields) = tell (layer.Struct name (each_by_layers fields))
    by_layers (Tuple elements) = tell (layer.Tuple (each_by_layers elements))
    by_layers (Enum name cases) = tell (layer.Enum name (cases_by_layers cases))
    by_layers (Stored storage inner) = tell (layer.Stored storage (by_layers inner))
    by_layers Unknown = tell layer.Unknown

    pub each_by_layers : Shapes → List A
    each_by_layers NoMember = []
    each_by_layers (Member first others) = by_layers first ∷ each_by_layers others

    pub cases_by_layers : CaseShapes → List (CaseLayer A)
    cases_by_layers NoCase = []
    cases_by_layers (PlainCase name others) = record { name = name; payload = None } ∷ cases_by_layers others
    cases_by_layers (FullCase name payload others) = record { name = name; payload = Some (by_layers payload) } ∷ cases_by_layers others

-- the outermost layer

abbrev pub listed : Shapes → List Shape
listed NoMember = []
listed (Member first others) = first ∷ listed others

abbrev pub listed_cases : CaseShapes → List (CaseLayer Shape)
listed_cases NoCase = []
listed_cases (PlainCase name others) = record { name = name; payload = None } ∷ listed_cases others
listed_cases (FullCase name payload others) = record { name = name; payload = Some payload } ∷ listed_cases others

-- the members of a struct or tuple
abbrev pub member_shapes : Shape → List Shape
member_shapes (Integer width) = []
member_shapes (Reference class) = []
member_shapes (Struct name fields) = listed fields
member_shapes (Tuple elements) = listed elements
member_shapes (Enum name cases) = []
member_shapes (Stored storage inner) = []
member_shapes Unknown = []

-- the cases of an enum
abbrev pub case_shapes : Shape → List (CaseLayer Shape)
case_shapes (Integer width) = []
case_shapes (Reference class) = []
case_shapes (Struct name fields) = []
case_shapes (Tuple elements) = []
case_shapes (Enum name cases) = listed_cases cases
case_shapes (Stored storage inner) = []
case_shapes Unknown = []

-- the class of a reference
abbrev pub class_in : Shape → Option Name
class_in (Integer width) = None
class_in (Reference class) = Some class
class_in (Struct name fields) = None
class_in (Tuple elements) = None
class_in (Enum name cases) = None
class_in (Stored storage inner) = None
class_in Unknown = None

-- how a place of this shape keeps its value
abbrev pub storage_in : Shape → Option Storage
storage_in (Integer width) = None
storage_in (Reference class) = None
storage_in (Struct name fields) = None
storage_in (Tuple elements) = None
storage_in (Enum name cases) = None
storage_in (Stored storage inner) = Some storage
storage_in Unknown = None
