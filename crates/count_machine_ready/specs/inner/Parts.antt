-- Operands and results that an instruction has.
use Rattle.std.specs.Prelude.{◌≡◌, ◌≤◌, ℕ, ℤ, List, [], ◌∷◌, true, Some, option_and_then, length, slice_get}
use Rattle.numbered_form.specs.Names.{Name}
use Rattle.holder_model.specs.memory_rules_accesses.Operations.{load_operation, store_operation}
use Rattle.holder_model.specs.memory_rules_accesses.Sources.{member_place}
use Rattle.holder_model.specs.RunTyping.Forms.{OfFunction, OfPlace, OfValue, form_of}
use Rattle.holder_model.specs.RunTyping.RowForms.{operation_done}
use Rattle.holder_model_values.specs.RunValues.Shapes.{Reference, Shape, Stored, shape_of}
use Rattle.holder_model.specs.Effects.{part_number}
use Rattle.holder_model.specs.ModuleShapes.{case_place}
use Rattle.sil_ast.specs.declared.decl.Storage.{Storage}
use Rattle.sil_ast.specs.declared.function.Function.{Function}
use Rattle.sil_ast.specs.declared.inst.Inst.{Inst}
use Rattle.sil_ast.specs.declared.member.Member.{Member}
use Rattle.sil_ast.specs.declared.place.FuncId.{FuncId}
use Rattle.sil_ast.specs.declared.place.ValueId.{ValueId}
use Rattle.sil_ast.specs.declared.type_name.TypeName.{TypeName}
use Rattle.sil_ast.specs.declared.type_name.TypeName.TheVariants as type
use Rattle.sil_types.specs.Typing.Builtins.{Builtin, builtin_named}
use Rattle.sil_types.specs.Typing.RowTypes.{written}
use Rattle.sil_types.specs.Typing.Shapes.{target}
use Rattle.sil_types_declarations.specs.TypeDefinitions.Declarations.{Declarations, is_class}
use Rattle.sil_types_declarations.specs.TypeDefinitions.Lookups.{Payload, payload_of}
use Rattle.count_machine_model.specs.ReadyCode.ReadyOps.{operands_of}
use Rattle.count_machine_layouts.specs.FrameLayouts.inner.Sized.{HasSize}

pub record TakesOne (i : Inst) : Type 0 where
  pub operand : ValueId
  pub operands : operands_of i ≡ operand ∷ []

pub record GivesOne (i : Inst) : Type 0 where
  pub result : ValueId
  pub results : i.results ≡ result ∷ []

pub record TakesAndGives (i : Inst) : Type 0 where
  pub operand : ValueId
  pub result : ValueId
  pub operands : operands_of i ≡ operand ∷ []
  pub results : i.results ≡ result ∷ []

pub record GivesNumber (i : Inst) : Type 0 where
  pub number : ℤ
  pub result : ValueId
  pub written : i.number ≡ Some number
  pub results : i.results ≡ result ∷ []

pub record ComputesOne (i : Inst) : Type 0 where
  pub builtin : Builtin
  pub left : ValueId
  pub right : ValueId
  pub more : List ValueId
  pub result : ValueId
  pub named : option_and_then builtin_named i.text ≡ Some builtin
  pub operands : operands_of i ≡ left ∷ right ∷ more
  pub results : i.results ≡ result ∷ []

module _ (d : Declarations) (f : Function) (i : Inst) where
  pub record MakesOne : Type 0 where
    pub class : Name
    pub result : ValueId
    pub ty : i.ty ≡ Some (type.Named class)
    pub is : is_class d class ≡ true
    pub results : i.results ≡ result ∷ []
    pub form : form_of d f result ≡ OfValue (Reference class)

  pub record OpensOne : Type 0 where
    pub result : ValueId
    pub shape : Shape
    pub results : i.results ≡ result ∷ []
    pub form : form_of d f result ≡ OfPlace shape

  -- a value is put at a place
  pub record PutsOne : Type 0 where
    pub value : ValueId
    pub address : ValueId
    pub shape : Shape
    pub operands : operands_of i ≡ value ∷ address ∷ []
    pub form : form_of d f address ≡ OfPlace shape
    pub operation : operation_done i ≡ Some (store_operation i.qualifier)

  -- weak or unowned storage is emptied
  pub record EmptiesOne : Type 0 where
    pub address : ValueId
    pub storage : Storage
    pub shape : Shape
    pub operands : operands_of i ≡ address ∷ []
    pub form : form_of d f address ≡ OfPlace (Stored storage shape)

  -- weak or unowned storage is asked for its object
  pub record AsksOne : Type 0 where
    pub address : ValueId
    pub result : ValueId
    pub storage : Storage
    pub shape : Shape
    pub operands : operands_of i ≡ address ∷ []
    pub results : i.results ≡ result ∷ []
    pub form : form_of d f address ≡ OfPlace (Stored storage shape)
    pub operation : operation_done i ≡ Some (load_operation i.qualifier)

  pub record ChoosesOne : Type 0 where
    pub result : ValueId
    pub ty : TypeName
    pub named : Member
    pub payload : Payload
    pub few : length i.operands ≤ 1
    pub results : i.results ≡ result ∷ []
    pub of : i.ty ≡ Some ty
    pub form : form_of d f result ≡ OfValue (shape_of d ty)
    pub member : i.member ≡ Some named
    pub found : payload_of d ty named.name ≡ Some payload
    pub place : case_place (shape_of d ty) i.member ≡ Some payload.place

  -- a member of a value
  pub record ReadsMember : Type 0 where
    pub operand : ValueId
    pub result : ValueId
    pub ty : TypeName
    pub place : ℕ
    pub operands : operands_of i ≡ operand ∷ []
    pub results : i.results ≡ result ∷ []
    pub of : written 0 i ≡ Some ty
    pub form : form_of d f operand ≡ OfValue (shape_of d ty)
    pub number : part_number d i ≡ Some place
    pub size : HasSize d ty

  -- a member of what is at an address
  pub record NamesMember : Type 0 where
    pub address : ValueId
    pub result : ValueId
    pub ty : TypeName
    pub inner : TypeName
    pub place : ℕ
    pub operands : operands_of i ≡ address ∷ []
    pub results : i.results ≡ result ∷ []
    pub of : written 0 i ≡ Some ty
    pub to : target ty ≡ Some inner
    pub form : form_of d f address ≡ OfPlace (shape_of d inner)
    pub number : part_number d i ≡ Some place
    pub size : HasSize d inner

  pub record NamesField : Type 0 where
    pub operand : ValueId
    pub result : ValueId
    pub place : ℕ
    pub operands : operands_of i ≡ operand ∷ []
    pub results : i.results ≡ result ∷ []
    pub number : part_number d i ≡ Some place
    pub member : member_place d i.member ≡ Some place

  -- this function is called, which is there
  pub record CallsThis (functions : List Function) (function : FuncId) (body : Function) : Type 0 where
    pub callee : ValueId
    pub args : List ValueId
    pub result : ValueId
    pub operands : operands_of i ≡ callee ∷ args
    pub results : i.results ≡ result ∷ []
    pub form : form_of d f callee ≡ OfFunction function
    pub there : slice_get functions function.0 ≡ Some body

  pub record CallsOne (functions : List Function) : Type 0 where
    pub function : FuncId
    pub body : Function
    pub call : CallsThis functions function body
