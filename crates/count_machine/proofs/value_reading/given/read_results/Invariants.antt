use Rattle.std.proofs.Common.{drop}
use Rattle.sil_rules.specs.declared.limits.TheConstants.{DEPTH}
use Rattle.sil_types_declarations.specs.TypeDefinitions.Mentions.{direct_types}
use Rattle.count_machine.proofs.ValueReading.Loops.{ReadsTypes}
use Rattle.count_machine.proofs.value_reading.given.read_results.Given as goal

abbrev pub invariant-loop-given : goal.invariant-loop-given
invariant-loop-given l =
    ReadsTypes l.table DEPTH (direct_types l.results) l.leaves l.members (direct_types (drop l.given-index l.results)) l.rest
