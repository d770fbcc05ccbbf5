use Rattle.std.proofs.Common.{◌≡◌, take}
use Rattle.std.specs.List.{flat_map}
use Rattle.holder_model_typing.specs.holder_model.Dropping.{deinits_of_class}
use Rattle.count_machine_layouts.specs.ReachedFunctions.inner.Names.{names_told}
use Rattle.count_machine_layouts.proofs.reached_functions.classes.deinits_of.Given as goal

abbrev pub invariant-loop-class : goal.invariant-loop-class
invariant-loop-class l = l.deinits ≡ flat_map (deinits_of_class l.table) (names_told (take l.class-index l.chain))
