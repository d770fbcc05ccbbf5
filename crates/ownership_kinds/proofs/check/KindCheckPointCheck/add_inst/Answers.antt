use Rattle.std.proofs.Common.{ap, ◌∙◌}
use Rattle.std.specs.List.{flat_map}
use Rattle.numbered_form.specs.PointChecks.inner.Faults.{least}
use Rattle.numbered_form.proofs.PointChecks.Least.{least_four}
use Rattle.ownership_kinds.specs.inner.Faults.{lacking_faults, mixed_faults, ring_faults, taken_faults}
use Rattle.ownership_kinds.specs.inner.Known.{kind_told}
use Rattle.ownership_kinds.specs.Statics.{all_taken}
use Rattle.ownership_kinds.proofs.check.KindCheckPointCheck.add_inst.Goals as goal

pub returns : goal.returns
returns c =
    let k = c.args.self.now in
    let kinds = kind_told k.facts.now in
    let n = c.args.point.block.0 in
    let i = c.args.point.index in
    let inst = c.args.inst.now in
    least_four c.args.found c.add_rings-found.result c.add_mixed-found.result c.add_mismatches-found.result c.add_lacking.result (flat_map (ring_faults k.ring n i) inst.results)
    (mixed_faults kinds n i inst) (flat_map (taken_faults kinds k.borrows.now n i) (all_taken inst)) (lacking_faults kinds c.args.f.now n i inst)
    (c.add_rings-found.ensures ∙ ap (λ vs. least c.args.found (flat_map (ring_faults k.ring n i) vs)) c.as_slice.ensures) c.add_mixed-found.ensures
    (c.add_mismatches-found.ensures ∙
    ap (λ ts. least c.add_mixed-found.result (flat_map (taken_faults kinds k.borrows.now n i) ts)) (c.as_slice-2.ensures.value ∙ c.in_ok-take_all.ensures))
    c.add_lacking.ensures
