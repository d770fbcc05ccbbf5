-- When the definition of a result goes by its type.
use Rattle.std.specs.Prelude.{ℕ, List, Bool, true, false, slice_get}
use Rattle.instruction_table.specs.Forms.{result_kind_of}
use Rattle.instruction_table.specs.declared.entries.ResultKind.{ResultKind}
use Rattle.instruction_table.specs.declared.entries.ResultKind.TheVariants.{NoneResult, OwnedResult, ScopeResult, AddressResult, ForwardedResult, OperandResult}
use Rattle.sil_ast.specs.declared.inst.Inst.{Inst}
use Rattle.sil_ast.specs.declared.type_name.TypeName.{TypeName}
use Rattle.ownership_kinds_chains.specs.declared.ownership_chains.definition.Definition.{Definition}
use Rattle.sil_types.specs.sil_types_declarations.TypeDefinitions.Declarations.{Declarations}
use Rattle.ownership_kinds_origins.specs.Origins.{is_trivial_or_untyped, result_definition_by}

abbrev pub asks_type : ResultKind → Bool
asks_type NoneResult = false
asks_type OwnedResult = true
asks_type ScopeResult = true
asks_type AddressResult = false
asks_type ForwardedResult = true
asks_type OperandResult = true

-- of the k-th result, where the results are of these types
abbrev pub definition_by_types : Declarations → Inst → List TypeName → ℕ → Definition
definition_by_types d i types k = result_definition_by (result_kind_of i.op) i (is_trivial_or_untyped d (slice_get types k))
