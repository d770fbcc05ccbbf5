use Rattle.std.proofs.Common.{ap, length, subst, sym, ◌∙◌}
use Rattle.ownership_kinds_chains.specs.OwnershipChains.Chains.{IsInRange}
use Rattle.ownership_kinds_origins.proofs.Counts.{are_of_values}
use Rattle.ownership_kinds_origins.proofs.Ranges.{are_in_range}
use Rattle.ownership_kinds.proofs.find.find.Goals as goal

pub first_renamed-requires-clause-range : goal.first_renamed-requires-clause-range
first_renamed-requires-clause-range c =
    let m = c.requires.of_module in
    (are_in_range c.args.types.now m.0 c.args.f.now m.1 m.2).1

pub decide-requires-clause-defined_in_range : goal.decide-requires-clause-defined_in_range
decide-requires-clause-defined_in_range c =
    let m = c.requires.of_module in
    subst IsInRange (sym (c.as_slice-4.ensures ∙ c.in_ok-definitions.ensures)) (are_in_range c.args.types.now m.0 c.args.f.now m.1 m.2).0

pub decide-requires-clause-defined_each : goal.decide-requires-clause-defined_each
decide-requires-clause-defined_each c = ap length (c.as_slice-4.ensures ∙ c.in_ok-definitions.ensures) ∙ (are_of_values c.args.types.now c.args.f.now).0

pub decide-requires-clause-renamed_each : goal.decide-requires-clause-renamed_each
decide-requires-clause-renamed_each c = (are_of_values c.args.types.now c.args.f.now).1
