use Rattle.std.proofs.Common.{◌++◌, append_assoc, append-nil, ap, sym, ◌∙◌, arith}
use Rattle.count_heap.specs.HeapModel.HeapViews.{fields_in}
use Rattle.sil_ast.specs.declared.decl.Storage.TheVariants.{Strong}
use Rattle.count_machine_leaves.proofs.HeapLeaves.Unnamed.{strong-done, strong-more}
use Rattle.count_machine_leaves.proofs.heap_leaves.dying.gather_fields.Goals as goal

pub returns-then-index-count : goal.returns-then-index-count
returns-then-index-count c =
    let loop = c.loop-index in let ws = c.args.fields.now in let xs = fields_in c.args.heap.now c.args.object in
    sym (append-nil loop.waiting.items) ∙ sym (ap (λ os. loop.waiting.items ++ os) (strong-done ws xs loop.index (omega arith))) ∙ loop.invariant

pub loop-index-preserved : goal.loop-index-preserved
loop-index-preserved c =
    let loop = c.loop-index in let ws = c.args.fields.now in let xs = fields_in c.args.heap.now c.args.object in
    let more = strong-more ws xs loop.index Strong c.loop-index-test.true (omega arith) in
    rw (c.in_ok-gather_field.ensures, append_assoc) (ap (λ os. loop.waiting.items ++ os) (sym more) ∙ loop.invariant)
