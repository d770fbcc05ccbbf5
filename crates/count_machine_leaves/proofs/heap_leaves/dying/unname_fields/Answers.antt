use Rattle.std.proofs.Common.{sym, ◌∙◌, arith}
use Rattle.count_heap.specs.HeapModel.HeapViews.{field_in, fields_in}
use Rattle.count_machine_leaves.proofs.HeapLeaves.Alike.{alike-along}
use Rattle.count_machine_leaves.proofs.HeapLeaves.Unnamed.{field-alike, field_unnamed-alike, fields-done, fields-more}
use Rattle.count_machine_leaves.proofs.heap_leaves.dying.unname_fields.Goals as goal

pub returns-then-index-count-clause-unnamed : goal.returns-then-index-count-clause-unnamed
returns-then-index-count-clause-unnamed c =
    let loop = c.loop-index in let xs = fields_in c.args.heap.now c.args.object in
    sym (fields-done c.args.fields.now xs loop.index (omega arith) loop.heap) ∙ loop.invariant.left

pub loop-index-preserved : goal.loop-index-preserved
loop-index-preserved c =
    let loop = c.loop-index in let o = c.args.object in let ws = c.args.fields.now in let xs = fields_in c.args.heap.now o in
    let same = field-alike c.args.heap.now loop.heap o loop.index loop.invariant.alike in
    record {
      alike = alike-along _ _ _ loop.invariant.alike (rw c.unname_field.ensures (field_unnamed-alike o _ (field_in loop.heap o loop.index) loop.heap loop.invariant.alike.alive));
      left = rw (c.unname_field.ensures, same) (fields-more ws xs loop.index _ c.loop-index-test.true (omega arith) loop.heap ∙ loop.invariant.left);
    }
