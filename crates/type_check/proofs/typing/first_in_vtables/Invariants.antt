-- None of the vtables so far has a fault.
use Rattle.std.proofs.Common.{◌≡◌, drop}
use Rattle.type_check.specs.inner.FirstFault.{fault_of_vtable}
use Rattle.type_check.specs.inner.Firsts.{first_from}
use Rattle.type_check.proofs.typing.first_in_vtables.Given as goal

abbrev pub invariant-loop-number : goal.invariant-loop-number
invariant-loop-number l = first_from (fault_of_vtable l.m) 0 l.vtables ≡ first_from (fault_of_vtable l.m) l.number (drop l.number l.vtables)
