-- None of the functions so far has a fault.
use Rattle.std.proofs.Common.{◌≡◌, drop}
use Rattle.type_check.specs.inner.FirstFault.{fault_of_function}
use Rattle.type_check.specs.inner.Firsts.{first_from}
use Rattle.type_check.proofs.typing.first_in_functions.Given as goal

abbrev pub invariant-loop-function : goal.invariant-loop-function
invariant-loop-function l =
    (l.number ≡ l.function-index)
    × (first_from (fault_of_function l.m) 0 l.m.functions ≡ first_from (fault_of_function l.m) l.number (drop l.function-index l.m.functions))
