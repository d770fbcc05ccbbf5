-- 204 to 206 and 208: what functions take and give, at themselves, at calls and at returns.
use Rattle.std.specs.Prelude.{List, [], ◌∷◌, Bool, true, false, not, ◌&&◌, ◌||◌, Option, Some, None, is_none, option_and_then, option_map, slice_get}
use Rattle.std.specs.List.{list_all}
use Rattle.std.specs.Option.{option_to_list}
use Rattle.sil_ast.specs.instruction_table.declared.op.Op.{Op}
use Rattle.sil_ast.specs.instruction_table.declared.op.Op.TheVariants as op
use Rattle.sil_ast.specs.Blocks.{args_of}
use Rattle.sil_ast.specs.declared.function.ArgKind.{ArgKind}
use Rattle.sil_ast.specs.declared.function.ArgKind.TheVariants as kind
use Rattle.sil_ast.specs.declared.function.BlockArg.{BlockArg}
use Rattle.sil_ast.specs.declared.function.Form.{Form}
use Rattle.sil_ast.specs.declared.function.Form.TheVariants.{Ossa, Lowered, External}
use Rattle.sil_ast.specs.declared.function.Function.{Function}
use Rattle.sil_ast.specs.declared.inst.Inst.{Inst}
use Rattle.sil_ast.specs.declared.module.Module.{Module}
use Rattle.sil_ast.specs.declared.operands.Operand.{Operand}
use Rattle.sil_ast.specs.declared.place.FuncId.{FuncId}
use Rattle.sil_ast.specs.declared.signature.Convention.TheVariants.{Method}
use Rattle.sil_ast.specs.declared.signature.Given.{Given}
use Rattle.sil_ast.specs.declared.signature.Param.{Param}
use Rattle.sil_ast.specs.declared.signature.Passing.TheVariants as passing
use Rattle.sil_ast.specs.declared.signature.Signature.{Signature}
use Rattle.sil_ast.specs.declared.type_name.TypeName.{TypeName}
use Rattle.sil_ast.specs.declared.type_name.TypeName.TheVariants as type
use Rattle.sil_ast.specs.declared.vtable.DeinitEntry.{DeinitEntry}
use Rattle.sil_ast.specs.declared.vtable.Vtable.{Vtable}
use Rattle.argument_conventions.specs.Arguments.{Told, argument_type, arguments_of, convention_of}
use Rattle.argument_conventions.specs.declared.convention.ArgumentConvention.{ArgumentConvention}
use Rattle.argument_conventions.specs.declared.convention.ArgumentConvention.TheVariants as convention
use Rattle.sil_types_declarations.specs.numbered_form.Names.{Name}
use Rattle.sil_types_declarations.specs.TypeDefinitions.Declarations.{Declarations}
use Rattle.sil_types_declarations.specs.TypeDefinitions.Measures.{is_trivial}
use Rattle.sil_types_declarations.specs.TypeDefinitions.Mentions.{given_type}
use Rattle.sil_types.specs.Typing.RowTypes.{passes, written}
use Rattle.sil_types.specs.Typing.Same.{all_pairs, is_same_flag, is_same_signature, is_same_type}
use Rattle.sil_types.specs.Typing.Shapes.{is_integer, is_nontrivial, is_object, is_trivial_object}
use Rattle.sil_types.specs.Typing.Values.{function_at}

-- 204

abbrev pub callee_value : List (Option FuncId) → Operand → Option FuncId
callee_value functions o = function_at functions o.value.0

-- the function that the first operand stands for
abbrev pub callee : List (Option FuncId) → Inst → Option FuncId
callee functions i = option_and_then (callee_value functions) (slice_get i.operands 0)

abbrev pub calls_none_by : Op → List (Option FuncId) → Inst → Bool
calls_none_by op.Apply functions i = is_none (callee functions i)
calls_none_by _ functions i = false

-- 204: the callee of an `apply` isn't the result of a `function_ref`
unfoldable pub calls_no_function : List (Option FuncId) → Inst → Bool
calls_no_function functions i = calls_none_by i.op functions i

-- 205

abbrev pub is_external : Form → Bool
is_external Ossa = false
is_external Lowered = false
is_external External = true

abbrev pub is_plain : ArgumentConvention → Bool
is_plain convention.Plain = true
is_plain convention.Owned = false
is_plain convention.Guaranteed = false
is_plain (convention.Address c) = false

abbrev pub is_plain_integer : Param → Bool
is_plain_integer p = is_plain (convention_of p.passing) && is_integer p.ty

abbrev pub gives_nothing : List Given → Bool
gives_nothing [] = true
gives_nothing (r ∷ rs) = false

-- 205: a function without a body has a parameter that isn't a plain builtin integer, or a result, with `@out` or without
unfoldable pub is_no_output_call : Function → Bool
is_no_output_call f = is_external f.form && not (list_all is_plain_integer f.signature.params && gives_nothing f.signature.results)

-- 206 at a function

abbrev pub fits_by : Declarations → ArgumentConvention → TypeName → Bool
fits_by d convention.Plain t = is_trivial_object d t
fits_by d convention.Owned t = is_nontrivial d t
fits_by d convention.Guaranteed t = is_nontrivial d t
fits_by d (convention.Address c) t = is_object t

-- `@owned` and `@guaranteed` fit types that aren't trivial, no word those that are, and an address convention each object's type
abbrev pub fits_param : Declarations → Param → Bool
fits_param d p = fits_by d (convention_of p.passing) p.ty

-- `@out` fits each object's type, and another result has `@owned` exactly where its type isn't trivial
abbrev pub fits_result : Declarations → Given → Bool
fits_result d r = is_object r.ty && (r.out || is_same_flag r.owned (not (is_trivial d r.ty)))

abbrev pub has_fitting_conventions : Declarations → Signature → Bool
has_fitting_conventions d s = list_all (fits_param d) s.params && list_all (fits_result d) s.results

abbrev pub annotation_of : ArgumentConvention → ArgKind
annotation_of convention.Plain = kind.Plain
annotation_of convention.Owned = kind.Owned
annotation_of convention.Guaranteed = kind.Guaranteed
annotation_of (convention.Address c) = kind.Plain

abbrev pub is_same_kind : ArgKind → ArgKind → Bool
is_same_kind kind.Plain kind.Plain = true
is_same_kind kind.Owned kind.Owned = true
is_same_kind kind.Guaranteed kind.Guaranteed = true
is_same_kind _ _ = false

-- in ownership form an entry argument is annotated by its convention; in lowered form its type alone counts
abbrev pub is_annotated_for : Form → BlockArg → ArgumentConvention → Bool
is_annotated_for Ossa b c = is_same_kind b.kind (annotation_of c)
is_annotated_for Lowered b c = true
is_annotated_for External b c = true

-- an argument of the entry is the one that the signature tells of
abbrev pub is_argument_for : Form → BlockArg → Told → Bool
is_argument_for form b a = is_same_type b.ty (argument_type a) && is_annotated_for form b a.convention

abbrev pub has_entry_arguments : Function → Bool
has_entry_arguments f = is_external f.form || all_pairs (is_argument_for f.form) (args_of f 0) (arguments_of f.signature)

-- 206: a convention doesn't fit its type, or the entry has other arguments than the signature tells of
unfoldable pub has_wrong_signature : Declarations → Function → Bool
has_wrong_signature d f = not (has_fitting_conventions d f.signature && has_entry_arguments f)

-- 206 at a point

abbrev pub signature_of : Module → FuncId → Option Signature
signature_of m f = option_map (λ g. g.signature) (slice_get m.functions f.0)

abbrev pub is_signature_of : Option Signature → Signature → Bool
is_signature_of None s = true
is_signature_of (Some t) s = is_same_signature s t

-- the signature that is written in the instruction is the function's, where there is a function
abbrev pub has_signature_of : Module → Option FuncId → Inst → Bool
has_signature_of m function i = list_all (is_signature_of (option_and_then (signature_of m) function)) (option_to_list i.signature)

-- the type that is written at the value is the one that the function's signature gives
abbrev pub returns_what_is_given : Function → Inst → Bool
returns_what_is_given f i = passes (is_same_type (given_type f.signature)) (written 0 i)

abbrev pub differs_by : Op → Module → Function → List (Option FuncId) → Inst → Bool
differs_by op.FunctionRef m f functions i = not (has_signature_of m i.function i)
differs_by op.Apply m f functions i = not (has_signature_of m (callee functions i) i)
differs_by op.Return m f functions i = not (returns_what_is_given f i)
differs_by _ m f functions i = false

-- 206: `function_ref`, `apply` or `return` differs from the signature of the function that is named, called or returned from
unfoldable pub differs_from_signature : Module → Function → List (Option FuncId) → Inst → Bool
differs_from_signature m f functions i = differs_by i.op m f functions i

-- 208

abbrev pub deinit_signature : Name → Signature
deinit_signature class = record {
  convention = Method;
  params = record { passing = passing.Guaranteed; ty = type.Named class } ∷ [];
  results = [];
}

abbrev pub is_deinitialiser : Name → Function → Bool
is_deinitialiser class f = not (is_external f.form) && is_same_signature f.signature (deinit_signature class)

abbrev pub names_deinitialiser : Module → Name → DeinitEntry → Bool
names_deinitialiser m class e = passes (is_deinitialiser class) (slice_get m.functions e.function.0)

-- 208: a deinitialiser has no body, or isn't `@convention(method) (@guaranteed C) -> ()`
unfoldable pub has_wrong_deinitialiser : Module → Vtable → Bool
has_wrong_deinitialiser m v = not (list_all (names_deinitialiser m v.class_name) (option_to_list v.entry))
