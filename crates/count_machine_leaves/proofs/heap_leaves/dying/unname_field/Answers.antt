use Rattle.std.proofs.Common.{◌≡◌, Some, None, ap, sym, ◌∙◌, arith}
use Rattle.std.specs.Prelude.{option_and_then, slice_get}
use Rattle.count_heap.specs.HeapModel.HeapViews.{field_in}
use Rattle.count_machine_leaves.proofs.HeapLeaves.Alike.{alike-along, leaf_unnamed-alike}
use Rattle.count_machine_leaves.proofs.HeapLeaves.Unnamed.{field-alike, leaf-more, leaf-within, leaves-done}
use Rattle.count_machine_leaves.proofs.heap_leaves.dying.unname_field.Goals as goal

pub loop-leaf-smaller : goal.loop-leaf-smaller
loop-leaf-smaller c =
    let loop = c.loop-leaf in let o = c.args.object in let i = c.args.index in
    let field = field_in c.args.heap.now o i in
    let same = field-alike c.args.heap.now loop.heap o i loop.invariant.alike in
    let found : Some c.in-Some.leaf ≡ option_and_then (λ ls. slice_get ls loop.at) field = c.in-Some.ensures.leaf ∙ ap (λ f. option_and_then (λ ls. slice_get ls loop.at) f) same in
    omega (arith, leaf-within c.args.storage loop.at field c.in-Some.leaf found)

pub loop-leaf-preserved : goal.loop-leaf-preserved
loop-leaf-preserved c =
    let loop = c.loop-leaf in let o = c.args.object in let i = c.args.index in let w = c.args.storage in
    let field = field_in c.args.heap.now o i in
    let same = field-alike c.args.heap.now loop.heap o i loop.invariant.alike in
    let found : Some c.in-Some.leaf ≡ option_and_then (λ ls. slice_get ls loop.at) field = c.in-Some.ensures.leaf ∙ ap (λ f. option_and_then (λ ls. slice_get ls loop.at) f) same in
    record {
      alike = rw c.unname_leaf.ensures (alike-along _ _ _ loop.invariant.alike (leaf_unnamed-alike o w c.in-Some.leaf loop.heap loop.invariant.alike.alive));
      left = leaf-more w loop.at field c.in-Some.leaf loop.heap c.unname_leaf.new.heap found c.unname_leaf.ensures ∙ loop.invariant.left;
    }

pub returns : goal.returns
returns c =
    let loop = c.loop-leaf in let o = c.args.object in let i = c.args.index in
    let field = field_in c.args.heap.now o i in
    let same = field-alike c.args.heap.now loop.heap o i loop.invariant.alike in
    let none : None ≡ option_and_then (λ ls. slice_get ls loop.at) field = c.in_default.ensures.leaf ∙ ap (λ f. option_and_then (λ ls. slice_get ls loop.at) f) same in
    sym (leaves-done c.args.storage loop.at field loop.heap none) ∙ loop.invariant.left
