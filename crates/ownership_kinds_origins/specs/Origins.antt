-- How each value of a function comes by its kind and its bases: by the instruction that defines it, or by an argument's annotation.
use Rattle.std.specs.Prelude.{ℕ, zero, suc, List, [], Bool, true, false, Option, Some, None, map, slice_get, length, cond}
use Rattle.std.specs.List.{range_with_len}
use Rattle.std.specs.Option.{option_to_list}
use Rattle.instruction_table.specs.Forms.{result_kind_of}
use Rattle.instruction_table.specs.declared.entries.ResultKind.{ResultKind}
use Rattle.instruction_table.specs.declared.entries.ResultKind.TheVariants.{NoneResult, OwnedResult, ScopeResult, AddressResult, ForwardedResult, OperandResult}
use Rattle.sil_ast.specs.declared.function.ArgKind.{ArgKind}
use Rattle.sil_ast.specs.declared.function.ArgKind.TheVariants as annotation
use Rattle.sil_ast.specs.declared.function.BlockArg.{BlockArg}
use Rattle.sil_ast.specs.declared.function.Function.{Function}
use Rattle.sil_ast.specs.declared.inst.Inst.{Inst}
use Rattle.sil_ast.specs.declared.place.ValueId.{ValueId}
use Rattle.sil_ast.specs.declared.type_name.TypeName.{TypeName}
use Rattle.ownership_kinds_chains.specs.declared.ownership_chains.definition.Definition.{Definition}
use Rattle.ownership_kinds_chains.specs.declared.ownership_chains.definition.Origin.{Origin}
use Rattle.ownership_kinds_chains.specs.declared.ownership_chains.definition.Origin.TheVariants as origin
use Rattle.sil_types.specs.sil_types_declarations.TypeDefinitions.Declarations.{Declarations}
use Rattle.sil_types.specs.sil_types_declarations.TypeDefinitions.Measures.{is_trivial}
use Rattle.sil_types.specs.Typing.RowTypes.{made_types}
use Rattle.numbered_form.specs.ValueTables.FirstValue.{value_of}
use Rattle.numbered_form.specs.ValueTables.ValueRows.{value_rows}
use Rattle.ownership_kinds_origins.specs.Switched.{switch_to}
use Rattle.ownership_kinds_origins.specs.declared.switched.Switched.{Switched}

abbrev pub defined : Origin → List ValueId → Definition
defined o operands = record { origin = o; operands = operands }

-- results

-- a result without a type, as that of a `function_ref`, counts as trivial
abbrev pub is_trivial_or_untyped : Declarations → Option TypeName → Bool
is_trivial_or_untyped d None = true
is_trivial_or_untyped d (Some t) = is_trivial d t

-- a value of a trivial type has no kind to speak of
abbrev pub unless_trivial : Bool → Origin → Origin
unless_trivial trivial o = cond trivial origin.Plain o

abbrev pub result_origin : ResultKind → Bool → Origin
result_origin NoneResult trivial = origin.Plain
result_origin OwnedResult trivial = unless_trivial trivial origin.Owned
result_origin ScopeResult trivial = unless_trivial trivial origin.Lender
result_origin AddressResult trivial = origin.Address
result_origin ForwardedResult trivial = unless_trivial trivial origin.Forward
result_origin OperandResult trivial = unless_trivial trivial origin.Same

-- a chain goes on from what is forwarded, extracted or an address to the operands
abbrev pub chain_operands : ResultKind → List ValueId → List ValueId
chain_operands NoneResult operands = []
chain_operands OwnedResult operands = []
chain_operands ScopeResult operands = []
chain_operands AddressResult operands = operands
chain_operands ForwardedResult operands = operands
chain_operands OperandResult operands = operands

abbrev pub result_definition_by : ResultKind → Inst → Bool → Definition
result_definition_by kind i trivial = defined (result_origin kind trivial) (chain_operands kind (map value_of i.operands))

abbrev pub result_definition : Declarations → Inst → ℕ → Definition
result_definition d i k = result_definition_by (result_kind_of i.op) i (is_trivial_or_untyped d (slice_get (made_types d i) k))

abbrev pub result_definitions : Declarations → Inst → List Definition
result_definitions d i = map (result_definition d i) (range_with_len 0 (length i.results))

-- arguments

abbrev pub switch_operand : Switched → ValueId
switch_operand s = s.operand

abbrev pub arg_definition_by : Bool → Option Switched → ArgKind → Bool → Definition
arg_definition_by entry s annotation.Plain trivial = defined origin.Plain []
arg_definition_by entry s annotation.Owned trivial = defined (unless_trivial trivial origin.Owned) []
arg_definition_by true s annotation.Guaranteed trivial = defined (unless_trivial trivial origin.Lender) []
arg_definition_by false s annotation.Guaranteed trivial = defined (unless_trivial trivial origin.Lent) (map switch_operand (option_to_list s))

-- an argument goes by its annotation: a `@guaranteed` one of the entry lends itself, and one behind a switch lends on what is switched
abbrev pub arg_definition : Declarations → Bool → Option Switched → BlockArg → Definition
arg_definition d entry s a = arg_definition_by entry s a.kind (is_trivial d a.ty)

abbrev pub is_zero : ℕ → Bool
is_zero zero = true
is_zero (suc n) = false

abbrev pub arg_definitions : Declarations → Function → ℕ → List BlockArg → List Definition
arg_definitions d f n args = map (arg_definition d (is_zero n) (switch_to f n)) args

-- how each value comes by its kind and bases, by the values' numbers
abbrev pub definitions_of : Declarations → Function → List Definition
definitions_of d f = value_rows (arg_definitions d f) (result_definitions d) f
