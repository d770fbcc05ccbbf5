-- The shapes of types of a runnable module.
use Rattle.std.proofs.Common.{◌≡◌, ℕ, List, None, Option, Some, map, length, sym, ap, ◌∙◌}
use Rattle.numbered_form.specs.Names.{Name}
use Rattle.holder_model_typing.proofs.RunTypingLaws.ListFacts.{map_twice}
use Rattle.holder_model_typing.proofs.RunTypingLaws.RunnableTyped.{well_typed}
use Rattle.holder_model_typing.proofs.RunTypingLaws.ShapeFacts.{class_shape, enum_shape, int_shape, struct_shape, tuple_shape, unowned_shape}
use Rattle.holder_model_typing.proofs.RunTypingLaws.Whole.{no_ring, told_named}
use Rattle.holder_model_values.specs.RunValues.Layers.{decl_with, named_within}
use Rattle.holder_model_values.specs.RunValues.Shapes.{Enum, Integer, Reference, Stored, Struct, Tuple, Unknown, cases_of, members_of, shape_of, shape_with}
use Rattle.sil_ast.specs.declared.decl.Case.{Case}
use Rattle.sil_ast.specs.declared.decl.Decl.TheVariants as decl
use Rattle.sil_ast.specs.declared.decl.Field.{Field}
use Rattle.sil_ast.specs.declared.decl.Storage.TheVariants as storage
use Rattle.sil_ast.specs.declared.type_name.TypeName.{TypeName}
use Rattle.sil_ast.specs.declared.type_name.TypeName.TheVariants as type
use Rattle.sil_types_declarations.specs.TypeDefinitions.Contained.{field_type}
use Rattle.sil_types_declarations.specs.TypeDefinitions.Declarations.{Declarations, all_decls, decl_of, declarations_of, is_class_found}
use Rattle.count_machine.specs.ValueReading.inner.Payloads.{case_layer_of}
use Rattle.count_machine.proofs.ValueReading.Sized.{IsOfRunnable, of_module}

pub integer_is : (d : Declarations) → IsOfRunnable d → (w : ℕ) → shape_of d (type.Int w) ≡ Integer w
integer_is = of_module (λ d. (w : ℕ) → shape_of d (type.Int w) ≡ Integer w) (λ m r. int_shape m)

pub tuple_is : (d : Declarations) → IsOfRunnable d → (ts : List TypeName) → shape_of d (type.Tuple ts) ≡ Tuple (members_of (map (shape_of d) ts))
tuple_is = of_module (λ d. (ts : List TypeName) → shape_of d (type.Tuple ts) ≡ Tuple (members_of (map (shape_of d) ts))) (λ m r. tuple_shape m)

pub unowned_is : (d : Declarations) → IsOfRunnable d → (t : TypeName) → shape_of d (type.Unowned t) ≡ Stored storage.Unowned (shape_of d t)
unowned_is = of_module (λ d. (t : TypeName) → shape_of d (type.Unowned t) ≡ Stored storage.Unowned (shape_of d t)) (λ m r. unowned_shape m)

pub struct_is : (d : Declarations) → IsOfRunnable d → (name n : Name) (fields : List Field) → decl_of d name ≡ Some (decl.Struct n fields)
    → shape_of d (type.Named name) ≡ Struct n (members_of (map (shape_of d) (map field_type fields)))
struct_is = of_module
    (λ d. (name n : Name) (fields : List Field) → decl_of d name ≡ Some (decl.Struct n fields)
    → shape_of d (type.Named name) ≡ Struct n (members_of (map (shape_of d) (map field_type fields))))
    (λ m r name n fields e.
    struct_shape m (well_typed m r) name n fields e ∙ ap (λ ss. Struct n (members_of ss)) (sym (map_twice (shape_of (declarations_of m)) field_type fields)))

pub enum_is : (d : Declarations) → IsOfRunnable d → (name n : Name) (cases : List Case) → decl_of d name ≡ Some (decl.Enum n cases)
    → shape_of d (type.Named name) ≡ Enum n (cases_of (map (case_layer_of d) cases))
enum_is = of_module
    (λ d. (name n : Name) (cases : List Case) → decl_of d name ≡ Some (decl.Enum n cases)
    → shape_of d (type.Named name) ≡ Enum n (cases_of (map (case_layer_of d) cases)))
    (λ m r. enum_shape m (well_typed m r))

pub class_is : (d : Declarations) → IsOfRunnable d → (name n : Name) (superclass : Option Name) (fields : List Field)
    → decl_of d name ≡ Some (decl.Class n superclass fields) → shape_of d (type.Named name) ≡ Reference name
class_is = of_module
    (λ d. (name n : Name) (superclass : Option Name) (fields : List Field)
    → decl_of d name ≡ Some (decl.Class n superclass fields) → shape_of d (type.Named name) ≡ Reference name)
    (λ m r name n superclass fields e. class_shape m (well_typed m r) name (ap is_class_found e))

pub unknown_is : (d : Declarations) → IsOfRunnable d → (name : Name) → decl_of d name ≡ None → shape_of d (type.Named name) ≡ Unknown
unknown_is = of_module
    (λ d. (name : Name) → decl_of d name ≡ None → shape_of d (type.Named name) ≡ Unknown)
    (λ m r name e.
    told_named shape_with (declarations_of m) (no_ring m r.declared) name
    ∙ ap (decl_with shape_with (named_within shape_with (declarations_of m) (length (all_decls (declarations_of m))))) e)
