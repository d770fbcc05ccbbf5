use Rattle.std.proofs.Common.{◌≡◌, ◌++◌, map, take}
use Rattle.sil_types.specs.Typing.Values.{arg_has}
use Rattle.type_check_values.specs.TypingValues.inner.Told.{types_told}
use Rattle.type_check_values.proofs.typing_values.values.add_args.Given as goal

abbrev pub invariant-loop-arg : goal.invariant-loop-arg
invariant-loop-arg l = types_told l.types.items ≡ types_told l.initial.types.items ++ map arg_has (take l.arg-index l.args)
