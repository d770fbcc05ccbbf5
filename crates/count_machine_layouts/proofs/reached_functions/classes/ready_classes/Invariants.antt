use Rattle.std.proofs.Common.{◌≡◌, map, take}
use Rattle.count_machine_model.specs.ReadyCode.ReadyModules.{ready_class}
use Rattle.count_machine_layouts.proofs.reached_functions.classes.ready_classes.Given as goal

abbrev pub invariant-loop-decl : goal.invariant-loop-decl
invariant-loop-decl l = l.classes ≡ map (ready_class l.table) (take l.decl-index l.decls)
