use Rattle.std.proofs.Common.{◌+◌, ◌-◌, ◌≤◌, ◌++◌, ◌≡◌, ◌∙◌, ap, arith, drop, length, reverse, sym}
use Rattle.sil_grammar_tables.specs.Rows.{parts_row}
use Rattle.sil_grammar_tables.proofs.RowLemmas.{parts_row-end, pushed_part, pushed_row}
use Rattle.sil_grammar_tables.proofs.rows.push_row.Goals as goal

pub loop-i-init : goal.loop-i-init
loop-i-init c =
    let parts = c.row_of.result.parts.now in
    let none : length parts ≤ length parts = omega arith in
    ap (λ l. l ++ reverse c.args.stack.now.items) (sym (parts_row-end c.args.op parts (length parts) none))

pub loop-i-preserved : goal.loop-i-preserved
loop-i-preserved c =
    let last : c.loop-i.i ≡ c.loop-i.i - 1 + 1 = omega arith in
    let before = rw last at c.loop-i.invariant in
    pushed_part c.args.op c.row_of.result.parts.now (c.loop-i.i - 1) _ (omega arith) (reverse c.args.stack.now.items)
    before c.comma_behind.ensures c.in_ok-push_symbols.ensures c.symbols_of.ensures c.in_ok-push_symbols-2.ensures

pub returns : goal.returns
returns c =
    let first : c.loop-i.i ≡ 0 = omega arith in
    pushed_row c.args.op _ _ c.row_of.ensures.parts (c.loop-i.invariant
    ∙ ap (λ i. parts_row c.args.op (drop i c.row_of.result.parts.now) ++ reverse c.args.stack.now.items) first) c.in_ok-push.ensures.items
