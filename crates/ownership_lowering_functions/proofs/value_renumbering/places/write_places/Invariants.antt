use Rattle.ownership_lowering_functions.specs.ValueRenumbering.inner.Places.{ArePlaced}
use Rattle.ownership_lowering_functions.proofs.value_renumbering.places.write_places.Given as goal

abbrev pub invariant-loop-place : goal.invariant-loop-place
invariant-loop-place l = ArePlaced l.numbers l.defined l.place
