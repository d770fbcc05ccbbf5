use Rattle.std.proofs.Common.{arith}
use Rattle.sil_grammar_shape.proofs.ParseTableLemmas.{look_inside, part_inside}
use Rattle.sil_grammar_shape.proofs.parse_table.place.Goals as goal

pub overflow_mul-result : goal.overflow_mul-result
overflow_mul-result c = omega (arith, c.args.look.numbered, look_inside c.args.look.class)

pub overflow_add-result : goal.overflow_add-result
overflow_add-result c = omega (arith, c.args.look.numbered, look_inside c.args.look.class, c.part_number.ensures, part_inside c.args.part)

pub returns-clause-inside : goal.returns-clause-inside
returns-clause-inside c = omega (arith, c.args.look.numbered, look_inside c.args.look.class, c.part_number.ensures, part_inside c.args.part)
