use Rattle.std.proofs.Common.{◌<◌, ◌∙◌, length, arith}
use Rattle.std.proofs.lemmas.Option.{slice_get_within}
use Rattle.memory_rules_parts.proofs.Rows.{parts_more}
use Rattle.memory_rules_parts.proofs.index.index_of.Goals as goal

pub loop-number-preserved : goal.loop-number-preserved
loop-number-preserved c =
    parts_more c.args.m.now c.args.batch.now c.loop-number.rows.items c.add_to_rows.new.rows.items c.loop-number.number _ c.new-keys.result.items c.as_slice.result.now c.new-keys.ensures.items
    (c.as_slice.ensures.value ∙ c.in_ok-add_keys_of_part.ensures) c.loop-number.invariant c.in_ok-add_to_rows.ensures

pub returns : goal.returns
returns c = λ n p e. let lt : n < length c.args.batch.now = slice_get_within c.args.batch.now n p e in c.loop-number.invariant n p (omega arith) e
