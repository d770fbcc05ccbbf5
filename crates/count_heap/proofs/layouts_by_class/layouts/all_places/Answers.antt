use Rattle.std.proofs.Common.{◌≡◌, ◌<◌, length, ◌∙◌, subst}
use Rattle.std.specs.Prelude.{slice_index_or}
use Rattle.sil_ast.specs.declared.decl.Decl.{Decl}
use Rattle.count_heap.proofs.LayoutsByClass.Lists.{places_next, sizes_next}
use Rattle.count_heap.proofs.layouts_by_class.layouts.all_places.Goals as goal

pub loop-decl-preserved : goal.loop-decl-preserved
loop-decl-preserved c =
    let d = c.args.table.now in
    let i = c.loop-decl.decl-index in
    let x : Decl = c.decl-item.result in
    let lt : i < length d.decls = subst (λ ds. i < length ds) c.decls-decls.ensures c.loop-decl-test.true in
    let is : x ≡ slice_index_or d.decls i x = subst (λ ds. x ≡ slice_index_or ds i x) c.decls-decls.ensures c.decl-item.is in (
      c.in_ok-push.ensures.ok ∙ places_next d i x lt is c.loop-decl.places c.as_slice.result.now c.loop-decl.invariant.0 (c.as_slice.ensures.value ∙ c.in_ok-of_decl.ensures.places),
      c.in_ok-push-2.ensures.items ∙ sizes_next d i x lt is c.loop-decl.sizes.items c.in_ok-of_decl.of_decl.size c.loop-decl.invariant.1 c.in_ok-of_decl.ensures.size,
    )
