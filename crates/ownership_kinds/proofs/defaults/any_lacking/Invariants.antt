use Rattle.std.proofs.Common.{◌≡◌, take, false}
use Rattle.std.specs.List.{list_any}
use Rattle.ownership_kinds.specs.Statics.{is_lacking_default}
use Rattle.ownership_kinds.proofs.defaults.any_lacking.Given as goal

abbrev pub invariant-loop-edge : goal.invariant-loop-edge
invariant-loop-edge l = list_any (is_lacking_default l.f) (take l.edge-index l.edges) ≡ false
