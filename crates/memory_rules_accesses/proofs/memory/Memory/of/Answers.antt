use Rattle.std.proofs.Common.{◌≡◌, ap, ◌∙◌, length, arith}
use Rattle.numbered_form.specs.Numbering.{values_of}
use Rattle.memory_rules_accesses.specs.inner.Kept.{locations_of}
use Rattle.memory_rules_accesses.proofs.SourceCount.{sources_count}
use Rattle.memory_rules_accesses.proofs.memory.Memory.of.Goals as goal

pub locations_of-requires : goal.locations_of-requires
locations_of-requires c =
    let counted : length c.as_slice.result.now ≡ length (values_of c.args.f.now.blocks) =
    ap length (c.as_slice.ensures ∙ c.in_ok-sources.ensures) ∙ sources_count c.args.table.now c.args.f.now in
    omega (arith, c.requires)

pub invariant_of-result : goal.invariant_of-result
invariant_of-result c =
    let counted : length c.in_ok-sources.sources ≡ length (values_of c.args.f.now.blocks) = ap length c.in_ok-sources.ensures ∙ sources_count c.args.table.now c.args.f.now in
    (omega (arith, c.requires), c.in_ok-locations.ensures ∙ ap locations_of c.as_slice.ensures)
