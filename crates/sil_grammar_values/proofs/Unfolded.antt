-- What proofs unfold together, under one name that stands on their `unfolding` lines.
use Rattle.std.specs.Prelude.{⊤}
use Rattle.sil_grammar_values.specs.Values.{arg_of, args_of, block_of, blocks_of, cases_of, convention_of, debug_of, edge_of}
use Rattle.sil_grammar_values.specs.Values.{edges_of, entry_of, field_before, field_of, fields_of, flags_of, given_before}
use Rattle.sil_grammar_values.specs.Values.{givens_of, imports_of, inst_of, insts_of, item_of, items_of, linkage_of, member_of}
use Rattle.sil_grammar_values.specs.Values.{operand_of, operands_of, ownership_of, param_before, params_of, payload_of}
use Rattle.sil_grammar_values.specs.Values.{qualifier_of, questions_of, signature_of, stage_of, starred, terminator_of, token_of}
use Rattle.sil_grammar_values.specs.Values.{superclass_of, tokens_of, type_of, types_of}

-- what stands in a value, asked only where its variant stands: in one of declarations, of types, of code, and of any kind
unfoldable pub declared_parts : ⊤
unfolding token_of superclass_of tokens_of stage_of imports_of items_of item_of fields_of field_of field_before cases_of linkage_of entry_of
declared_parts = tt

unfoldable pub typed_parts : ⊤
unfolding type_of payload_of types_of questions_of convention_of params_of param_before givens_of given_before signature_of ownership_of starred
typed_parts = tt

unfoldable pub coded_parts : ⊤
unfolding blocks_of block_of args_of arg_of insts_of terminator_of inst_of operands_of operand_of edges_of edge_of member_of flags_of qualifier_of debug_of
coded_parts = tt

unfoldable pub value_parts : ⊤
unfolding declared_parts typed_parts coded_parts
value_parts = tt
