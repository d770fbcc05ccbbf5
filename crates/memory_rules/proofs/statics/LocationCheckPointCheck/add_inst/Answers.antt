use Rattle.std.proofs.Common.{◌≡◌, [], ◌++◌, ap, false, sym, ◌∙◌}
use Rattle.std.specs.Prelude.{cond}
use Rattle.std.specs.List.{flat_map}
use Rattle.numbered_form.specs.PointChecks.inner.Faults.{least}
use Rattle.numbered_form.proofs.PointChecks.Least.{least_two, ok_along}
use Rattle.memory_rules_accesses.specs.Operations.{addresses_of, deallocates, operations_of}
use Rattle.memory_rules.specs.inner.StaticFaults.{deallocation_faults, no_slot_faults, operated_faults, pair_faults, statics_at}
use Rattle.memory_rules.specs.Statics.{handed, handed_of, pairs_of}
use Rattle.memory_rules.proofs.Idle.{idle}
use Rattle.memory_rules.proofs.statics.LocationCheckPointCheck.add_inst.Goals as goal

pub returns-then-is_idle : goal.returns-then-is_idle
returns-then-is_idle c =
    let m = c.args.self.now.memory.now in
    let n = c.args.point.block.0 in
    let k = c.args.point.index in
    let i = c.args.inst.now in
    let still : (operations_of i ≡ []) × (deallocates i ≡ false) = idle i (sym c.is_idle.ensures ∙ c.if-is_idle.true) in
    ap (λ d. least c.args.found (cond d (flat_map (no_slot_faults m n k) (addresses_of i)) [])) (sym still.1)
    ∙ ap (λ os. least c.args.found (flat_map (pair_faults m n k) (pairs_of (flat_map handed os)) ++ (flat_map (operated_faults m n k) os ++ deallocation_faults m n k i))) (sym still.0)

pub returns : goal.returns
returns c =
    let m = c.args.self.now.memory.now in
    let n = c.args.point.block.0 in
    let k = c.args.point.index in
    let i = c.args.inst.now in
    ok_along c.add_deallocated.result (λ r. r ≡ least c.add_lacking-lacking.result (deallocation_faults m n k i)) (λ r. r ≡ least c.args.found (statics_at m n k i))
    (λ r e.
    least_two c.args.found c.add_overlaps-crossed.result r (flat_map (pair_faults m n k) (pairs_of (handed_of i))) (flat_map (operated_faults m n k) (operations_of i) ++ deallocation_faults m n k i)
    (c.add_overlaps-crossed.ensures
    ∙ ap (λ vs. least c.args.found (flat_map (pair_faults m n k) (pairs_of vs))) (c.as_slice-2.ensures.value ∙ c.in_ok-addresses.ensures
    ∙ ap (flat_map handed) (c.as_slice.ensures.value ∙ c.in_ok-operations.ensures)))
    (least_two c.add_overlaps-crossed.result c.add_lacking-lacking.result r (flat_map (operated_faults m n k) (operations_of i)) (deallocation_faults m n k i)
    (c.add_lacking-lacking.ensures ∙ ap (λ os. least c.add_overlaps-crossed.result (flat_map (operated_faults m n k) os)) (c.as_slice-3.ensures.value ∙ c.in_ok-operations.ensures)) e))
    c.add_deallocated.ensures
