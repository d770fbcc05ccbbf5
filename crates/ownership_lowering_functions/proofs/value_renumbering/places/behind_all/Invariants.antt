use Rattle.std.proofs.Common.{◌<◌}
use Rattle.std.specs.List.{AllWithin}
use Rattle.ownership_lowering_functions.proofs.value_renumbering.places.behind_all.Given as goal

abbrev pub invariant-loop-value : goal.invariant-loop-value
invariant-loop-value l = AllWithin (λ v. v.0 < l.behind) l.values 0 l.value-index
