-- The texts of values by the form of their type.
use Rattle.std.proofs.Common.{◌≡◌, ◌∙◌, ℕ, List, [], ◌∷◌, ◌++◌, None, Option, Some, map, length, refl, sym, ap, ap₂, subst}
use Rattle.std.specs.Prelude.{option_map}
use Rattle.holder_model.specs.declared.left_object.LeftObject.{LeftObject}
use Rattle.numbered_form.specs.Names.{Name}
use Rattle.holder_model.specs.RunReport.ReportLines.{class_among}
use Rattle.holder_model.specs.RunReport.ValueTexts.{Writer, chosen_words, grouped, if_object, text_layer, value_text}
use Rattle.holder_model_typing.proofs.RunTypingLaws.ListFacts.{map_twice}
use Rattle.holder_model_typing.proofs.RunTypingLaws.Opened.{fold-Tuple}
use Rattle.holder_model_typing.proofs.RunTypingLaws.Whole.{no_ring, told_named}
use Rattle.holder_model_values.specs.RunValues.Layers.{CaseLayer, Layer, case_with, decl_with, field_with, named_within, over}
use Rattle.holder_model_values.specs.RunValues.Shapes.{CaseShapes, Enum, Shape, Tuple}
use Rattle.holder_model_values.specs.RunValues.Shapes.{by_layers, cases_by_layers, cases_of, each_by_layers, members_of, shape_of, shape_with, with_case}
use Rattle.holder_model_values.specs.RunValues.Values.{Value, object_of}
use Rattle.holder_model_values.specs.RunValues.Values as value
use Rattle.sil_ast.specs.declared.decl.Case.{Case}
use Rattle.sil_ast.specs.declared.decl.Decl.{Decl}
use Rattle.sil_ast.specs.declared.decl.Decl.TheVariants as decl
use Rattle.sil_ast.specs.declared.decl.Field.{Field}
use Rattle.sil_ast.specs.declared.type_name.TypeName.{TypeName}
use Rattle.sil_ast.specs.declared.type_name.TypeName.TheVariants as type
use Rattle.sil_types_declarations.specs.TypeDefinitions.Contained.{field_type}
use Rattle.sil_types_declarations.specs.TypeDefinitions.Declarations.{Declarations, all_decls, decl_of, declarations_of}
use Rattle.module_runner_report.specs.inner.Layers.{declared_cases, named_case}
use Rattle.module_runner_report.specs.inner.Texts.{AreOfRunnable, case_text, case_writer, group_text, text_of}

-- the shape of a name, as it is looked up
abbrev names : Declarations → Name → Shape
names d = named_within shape_with d (length (all_decls d))

tuple_is : (d : Declarations) (ts : List TypeName) → shape_of d (type.Tuple ts) ≡ Tuple (members_of (map (shape_of d) ts))
tuple_is d ts = fold-Tuple Shape (over shape_with (names d)) ts

-- the shape of a name is that of what it finds
declared_is : (d : Declarations) → AreOfRunnable d → (name : Name) (x : Option Decl) → x ≡ decl_of d name
    → shape_of d (type.Named name) ≡ decl_with shape_with (names d) x
declared_is d r name x found =
    subst (λ e. shape_of e (type.Named name) ≡ decl_with shape_with (names e) (decl_of e name)) (sym r.2)
    (told_named shape_with (declarations_of r.0) (no_ring r.0 r.1.declared) name)
    ∙ ap (decl_with shape_with (names d)) (sym found)

-- what is told of members and of cases, by their types

module _ {A : Type 0} (tell : Layer A → A) where
  abbrev told_type : Declarations → TypeName → A
  told_type d t = by_layers tell (shape_of d t)

  each_member : (ss : List Shape) → each_by_layers tell (members_of ss) ≡ map (by_layers tell) ss
  each_member [] = refl
  each_member (s ∷ ss) = ap (λ l. by_layers tell s ∷ l) (each_member ss)

  each_of_types : (d : Declarations) (ts : List TypeName) → each_by_layers tell (members_of (map (shape_of d) ts)) ≡ map (told_type d) ts
  each_of_types d ts = each_member (map (shape_of d) ts) ∙ map_twice (by_layers tell) (shape_of d) ts

  -- the fields of a struct, as they are looked up
  each_of_fields : (d : Declarations) (fields : List Field) → each_by_layers tell (members_of (map (field_with shape_with (names d)) fields))
      ≡ map (told_type d) (map field_type fields)
  each_of_fields d fields =
      each_member (map (field_with shape_with (names d)) fields) ∙ map_twice (by_layers tell) (field_with shape_with (names d)) fields
      ∙ sym (map_twice (told_type d) field_type fields)

  abbrev told_case : Declarations → Case → CaseLayer A
  told_case d c = record { name = c.name; payload = option_map (told_type d) c.payload }

  one_case : (d : Declarations) (name : Name) (payload : Option TypeName) (others : CaseShapes)
      → cases_by_layers tell (with_case name (option_map (shape_of d) payload) others)
      ≡ record { name = name; payload = option_map (told_type d) payload } ∷ cases_by_layers tell others
  one_case d name None others = refl
  one_case d name (Some t) others = refl

  each_of_cases : (d : Declarations) (cases : List Case) → cases_by_layers tell (cases_of (map (case_with shape_with (names d)) cases)) ≡ map (told_case d) cases
  each_of_cases d [] = refl
  each_of_cases d (c ∷ cases) =
      one_case d c.name c.payload (cases_of (map (case_with shape_with (names d)) cases)) ∙ ap (λ l. told_case d c ∷ l) (each_of_cases d cases)

module _ (d : Declarations) (t : TypeName) (left : List LeftObject) (v : Value) where
  abbrev of_shape : Shape → List ℕ
  of_shape s = value_text (class_among left) s v

  -- by the shape that a type turns out to have
  by_shape : (u : TypeName) (s : Shape) → t ≡ u → shape_of d u ≡ s → text_of d left t v ≡ of_shape s
  by_shape u s is shaped = ap of_shape (ap (shape_of d) is ∙ shaped)

  grouped_text : (ts : List TypeName) → grouped (each_by_layers (text_layer (class_among left)) (members_of (map (shape_of d) ts))) (value.members_of v)
      ≡ group_text d left ts v
  grouped_text ts = ap (λ ws. grouped ws (value.members_of v)) (each_of_types (text_layer (class_among left)) d ts)

  pub tuple_text : (ts elements : List TypeName) → t ≡ type.Tuple ts → elements ≡ ts → text_of d left t v ≡ group_text d left elements v
  tuple_text ts elements is same =
      by_shape (type.Tuple ts) _ is (tuple_is d ts) ∙ grouped_text ts ∙ ap (λ us. group_text d left us v) (sym same)

-- by what a name finds

module _ (d : Declarations) (r : AreOfRunnable d) (name : Name) (left : List LeftObject) (v : Value) where
  abbrev text : List ℕ
  text = text_of d left (type.Named name) v

  abbrev writer : Layer Writer → Writer
  writer = text_layer (class_among left)

  of_found : (x : Option Decl) → x ≡ decl_of d name → text ≡ value_text (class_among left) (decl_with shape_with (names d) x) v
  of_found x found = ap (λ s. value_text (class_among left) s v) (declared_is d r name x found)

  pub struct_text : (n put : Name) (fields given : List Field) → Some (decl.Struct n fields) ≡ decl_of d name → put ≡ n → given ≡ fields
      → text ≡ put ++ group_text d left (map field_type given) v
  struct_text n put fields given found at_name same =
      of_found (Some (decl.Struct n fields)) found ∙ ap (λ ws. n ++ grouped ws (value.members_of v)) (each_of_fields writer d fields)
      ∙ ap₂ (λ x fs. x ++ group_text d left (map field_type fs) v) (sym at_name) (sym same)

  pub enum_text : (n put : Name) (cases given : List Case) → Some (decl.Enum n cases) ≡ decl_of d name → put ≡ n → given ≡ cases
      → text ≡ put ++ case_text d left (declared_cases given) v
  enum_text n put cases given found at_name same =
      of_found (Some (decl.Enum n cases)) found
      ∙ ap (λ ws. n ++ chosen_words ws (value.case_of v)) (each_of_cases writer d cases ∙ sym (map_twice (case_writer d left) named_case cases))
      ∙ ap₂ (λ x cs. x ++ case_text d left (declared_cases cs) v) (sym at_name) (sym same)

  pub class_text : (n : Name) (superclass : Option Name) (fields : List Field) → Some (decl.Class n superclass fields) ≡ decl_of d name
      → text ≡ if_object (class_among left) (object_of v)
  class_text n superclass fields found = of_found (Some (decl.Class n superclass fields)) found

  pub unknown_text : None ≡ decl_of d name → text ≡ []
  unknown_text found = of_found None found
