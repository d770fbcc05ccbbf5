use Rattle.std.proofs.Common.{◌≡◌, ◌++◌, arith, ap, length, map, subst, sym, take}
use Rattle.std.specs.List.{flat_map}
use Rattle.std.proofs.lemmas.List.{take_all}
use Rattle.numbered_form.specs.Insts.{insts_of}
use Rattle.numbered_form.specs.ValueTables.ValueRows.{rows_from}
use Rattle.ownership_kinds_origins.specs.inner.InOrder.{LeadsOn}
use Rattle.ownership_kinds_origins.specs.Renamings.{arg_renaming, arg_renamings, renamings_of, result_renamings}
use Rattle.ownership_kinds_origins.proofs.ByTables.{renamings_next}
use Rattle.ownership_kinds_origins.proofs.Ordered.{leads_along, no_ring_in_order}
use Rattle.ownership_kinds_origins.proofs.in_order.are_renamed_in_order.Goals as goal

pub loop-number-preserved : goal.loop-number-preserved
loop-number-preserved c =
    let f = c.args.f.now in
    let n = c.loop-number.number in
    let b = c.block-item.result in
    subst (λ ds. LeadsOn 0 ds c.in-Some.behind)
    (sym (renamings_next f c.args.switches.now c.requires c.as_slice-block-items.result.now n b c.switch_of.result c.as_slice-block-items.ensures c.loop-number-test.true
    c.block-item.is c.switch_of.ensures))
    (leads_along 0 c.loop-number.next c.in-Some.behind (rows_from (arg_renamings f) result_renamings 0 (take n f.blocks))
    (map (arg_renaming c.switch_of.result) b.args ++ flat_map result_renamings (insts_of b))
    c.loop-number.invariant c.in-Some.ensures)

pub returns : goal.returns
returns c =
    let f = c.args.f.now in
    let all : length c.as_slice-block-items.result.now ≡ length f.blocks = ap length c.as_slice-block-items.ensures in
    no_ring_in_order (renamings_of f) c.loop-number.next
    (subst (λ bs. LeadsOn 0 (rows_from (arg_renamings f) result_renamings 0 bs) c.loop-number.next) (take_all c.loop-number.number f.blocks (omega (arith, c.loop-number-test.false)))
    c.loop-number.invariant)
