use Rattle.std.proofs.Common.{◌≡◌, sym, subst, arith}
use Rattle.std.specs.Prelude.{length}
use Rattle.holder_model_values.specs.RunValues.Shapes.{case_shapes, shape_of}
use Rattle.count_machine_ready.specs.inner.Bodies.{declared}
use Rattle.count_machine_ready.specs.inner.Cases.{CaseEdge, HaveEdges}
use Rattle.count_machine_ready.proofs.CaseRuns.{is_taken, none_ready, one_ready, own_case, place_is, ready_all}
use Rattle.count_machine_ready.proofs.EnumCases.{count_is}
use Rattle.count_machine_ready.proofs.edges.ready_cases.Goals as goal

pub case_by-requires-clause-taken : goal.case_by-requires-clause-taken
case_by-requires-clause-taken c =
    let d = declared c.args.body.now in
    let f = c.args.body.now.function.now in
    let s = shape_of d c.args.ty.now in
    let edges = c.as_slice-edges.result.now in
    let count = c.unwrap_or-count.result in
    let chosen = c.in_ok-chosen.chosen.items in
    let items = c.as_slice-named-items.result.now in
    let k = c.loop-named.named-index in
    let all : count ≡ length (case_shapes s) =
    count_is c.args.body.now.m.now c.requires.body.runnable c.args.body.now.table.now c.requires.body.table
    c.args.ty.now c.requires.kind c.case_count.result count c.case_count.ensures
    c.unwrap_or-count.ensures in
    let same = c.as_slice-named-items.ensures.value in
    let own : CaseEdge s edges k =
    subst (HaveEdges s) (sym c.as_slice-edges.ensures) c.requires.taken k
    (place_is d f s edges count chosen items c.in_ok-chosen.ensures all same k c.loop-named-test.true) in
    is_taken d f s edges count chosen items c.in_ok-chosen.ensures all same k c.loop-named-test.true
    c.default_edge-default.result c.default_edge-default.ensures own

pub loop-named-init : goal.loop-named-init
loop-named-init c =
    none_ready (declared c.args.body.now) c.args.body.now.function.now
    (shape_of (declared c.args.body.now) c.args.ty.now) c.as_slice-edges.result.now c.in_ok-cases.cases c.in_ok-cases.ensures

pub loop-named-preserved : goal.loop-named-preserved
loop-named-preserved c =
    let d = declared c.args.body.now in
    let f = c.args.body.now.function.now in
    let s = shape_of d c.args.ty.now in
    let edges = c.as_slice-edges.result.now in
    let count = c.unwrap_or-count.result in
    let chosen = c.in_ok-chosen.chosen.items in
    let items = c.as_slice-named-items.result.now in
    let k = c.loop-named.named-index in
    let all : count ≡ length (case_shapes s) =
    count_is c.args.body.now.m.now c.requires.body.runnable c.args.body.now.table.now c.requires.body.table
    c.args.ty.now c.requires.kind c.case_count.result count c.case_count.ensures
    c.unwrap_or-count.ensures in
    let same = c.as_slice-named-items.ensures.value in
    let own : CaseEdge s edges k =
    subst (HaveEdges s) (sym c.as_slice-edges.ensures) c.requires.taken k
    (place_is d f s edges count chosen items c.in_ok-chosen.ensures all same k c.loop-named-test.true) in
    let made = own_case d f s edges count chosen items c.in_ok-chosen.ensures all same k c.loop-named-test.true
    c.default_edge-default.result c.default_edge-default.ensures own c.case_by.result
    c.case_by.ensures in
    one_ready d f s edges c.loop-named.cases c.push.new.self k c.case_by.result c.loop-named.invariant c.in_ok-push.ensures.ok made

pub returns : goal.returns
returns c =
    let d = declared c.args.body.now in
    let f = c.args.body.now.function.now in
    let s = shape_of d c.args.ty.now in
    let edges = c.as_slice-edges.result.now in
    let count = c.unwrap_or-count.result in
    let all : count ≡ length (case_shapes s) =
    count_is c.args.body.now.m.now c.requires.body.runnable c.args.body.now.table.now c.requires.body.table
    c.args.ty.now c.requires.kind c.case_count.result count c.case_count.ensures
    c.unwrap_or-count.ensures in
    ready_all d f s edges count c.in_ok-chosen.chosen.items c.as_slice-named-items.result.now c.in_ok-chosen.ensures
    all c.as_slice-named-items.ensures.value c.args.inst.now c.as_slice-edges.ensures
    c.loop-named.named-index (omega arith) c.loop-named.cases c.loop-named.invariant
