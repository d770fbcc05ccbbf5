use Rattle.std.proofs.Common.{◌≡◌, drop, find}
use Rattle.std.specs.Prelude.{option_map}
use Rattle.ownership_kinds_chains.specs.OwnershipMarks.Known.{facts_of}
use Rattle.borrow_scopes.specs.Others.{lies_in, taken_value}
use Rattle.borrow_scopes.proofs.others.first_using.Given as goal

abbrev pub invariant-loop-one : goal.invariant-loop-one
invariant-loop-one l =
    option_map taken_value (find (λ t. lies_in (facts_of l.k t.value) l.scope) (drop l.one-index l.taken)) ≡ option_map taken_value (find (λ t. lies_in (facts_of l.k t.value) l.scope) l.taken)
