use Rattle.std.proofs.Common.{ap, ◌∙◌}
use Rattle.memory_rules_accesses.specs.inner.Kept.{location_at}
use Rattle.memory_rules_accesses.specs.Locations.{location_of}
use Rattle.memory_rules_accesses.proofs.Following.{location_kept}
use Rattle.memory_rules_accesses.proofs.memory.Memory.location.Goals as goal

pub returns : goal.returns
returns c =
    c.location_at.ensures ∙ ap (λ t. location_at t c.args.address) (c.as_slice.ensures ∙ c.self.invariant.1)
    ∙ location_kept c.self.inside.sources c.args.address ∙ ap (λ s. location_of s c.args.address) c.self.view_is
