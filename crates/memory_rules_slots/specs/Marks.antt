-- What accesses mean to two slots.
use Rattle.std.specs.Prelude.{◌==◌, cond, Option, Some, None}
use Rattle.sil_ast.specs.declared.place.ValueId.{ValueId}
use Rattle.memory_rules_accesses.specs.declared.access.Access.{Access}
use Rattle.memory_rules_accesses.specs.declared.access.Access.TheVariants.{Ends, Begins, Allocates, Deallocates, Given, Does, Mentions}
use Rattle.memory_rules_slots.specs.declared.mark.SlotMark.{SlotMark}
use Rattle.memory_rules_slots.specs.declared.mark.SlotMark.TheVariants.{FirstIn, FirstOut, SecondIn, SecondOut}

abbrev pub one_of : ValueId → ValueId → ValueId → SlotMark → SlotMark → Option SlotMark
one_of first second v one other = cond (v.0 == first.0) (Some one) (cond (v.0 == second.0) (Some other) None)

-- what an access means to two slots
abbrev pub pair_mark : ValueId → ValueId → Access → Option SlotMark
pair_mark first second (Ends v) = None
pair_mark first second (Begins v) = None
pair_mark first second (Allocates v) = one_of first second v FirstIn SecondIn
pair_mark first second (Deallocates v) = one_of first second v FirstOut SecondOut
pair_mark first second (Given v content) = None
pair_mark first second (Does x) = None
pair_mark first second (Mentions v a) = None
