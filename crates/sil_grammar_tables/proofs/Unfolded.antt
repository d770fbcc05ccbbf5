-- What proofs unfold together, each under one name that stands on their `unfolding` lines.
use Rattle.std.specs.Prelude.{⊤}
use Rattle.sil_grammar_tables.specs.Rows.{brings_comma, comma_behind, comma_between, edges_of, ends_block, member_of, operand_of}
use Rattle.sil_grammar_tables.specs.Rows.{parts_row, qualifier_of, row_body, row_part, symbols_of, text_of}

-- what the rows of instructions are made of
unfoldable pub rows : ⊤
unfolding row_body row_part ends_block parts_row symbols_of comma_behind comma_between brings_comma operand_of member_of qualifier_of text_of edges_of
rows = tt
