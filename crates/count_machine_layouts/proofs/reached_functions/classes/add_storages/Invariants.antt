use Rattle.std.proofs.Common.{◌≡◌, ◌++◌, map, take}
use Rattle.count_machine_model.specs.ReadyCode.ReadyModules.{storage_of}
use Rattle.count_machine_layouts.proofs.reached_functions.classes.add_storages.Given as goal

abbrev pub invariant-loop-field : goal.invariant-loop-field
invariant-loop-field l = l.storages ≡ l.initial.storages ++ map storage_of (take l.field-index l.fields)
