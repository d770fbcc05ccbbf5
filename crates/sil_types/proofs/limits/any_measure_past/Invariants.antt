use Rattle.std.proofs.Common.{◌≡◌, drop}
use Rattle.std.specs.List.{list_any}
use Rattle.sil_types.specs.inner.Limits.{is_past}
use Rattle.sil_types.proofs.limits.any_measure_past.Given as goal

abbrev pub invariant-loop-measure : goal.invariant-loop-measure
invariant-loop-measure l = list_any (is_past l.what) l.measures ≡ list_any (is_past l.what) (drop l.measure-index l.measures)
