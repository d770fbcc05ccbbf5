use Rattle.std.proofs.Common.{◌<◌, ◌≤◌, ap, arith, length, refl}
use Rattle.sil_grammar_tables.proofs.RowLemmas.{length-part, length-row_body, parts_row-end, short_row}
use Rattle.sil_grammar_tables.proofs.rows.row_length.Goals as goal

pub loop-i-init : goal.loop-i-init
loop-i-init c = length-row_body c.args.op c.row_of.ensures.parts

pub overflow_add-length : goal.overflow_add-length
overflow_add-length c =
    let inside : c.loop-i.i < length c.row_of.result.parts.now = omega arith in
    omega (arith, c.loop-i.invariant, short_row c.args.op, length-part c.args.op c.row_of.result.parts.now c.loop-i.i _ inside c.symbols_of.ensures refl)

pub overflow_add-length-in-loop-i : goal.overflow_add-length-in-loop-i
overflow_add-length-in-loop-i c =
    let inside : c.loop-i.i < length c.row_of.result.parts.now = omega arith in
    omega (arith, c.loop-i.invariant, short_row c.args.op, length-part c.args.op c.row_of.result.parts.now c.loop-i.i _ inside c.symbols_of.ensures c.comma_behind.ensures)

pub loop-i-preserved : goal.loop-i-preserved
loop-i-preserved c =
    let inside : c.loop-i.i < length c.row_of.result.parts.now = omega arith in
    omega (arith, c.loop-i.invariant, length-part c.args.op c.row_of.result.parts.now c.loop-i.i _ inside c.symbols_of.ensures c.comma_behind.ensures)

pub returns : goal.returns
returns c =
    let behind : length c.row_of.result.parts.now ≤ c.loop-i.i = omega arith in
    omega (arith, c.loop-i.invariant, ap length (parts_row-end c.args.op c.row_of.result.parts.now c.loop-i.i behind))
