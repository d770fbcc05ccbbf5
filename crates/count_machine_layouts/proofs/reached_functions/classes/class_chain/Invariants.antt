use Rattle.std.proofs.Common.{◌≡◌, ◌-◌, ◌∷◌, ◌++◌}
use Rattle.std.specs.Option.{option_copied}
use Rattle.sil_rules.specs.declared.limits.TheConstants.{DEPTH}
use Rattle.sil_types_declarations.specs.TypeDefinitions.Declarations.{ancestors_of, chain}
use Rattle.count_machine_layouts.specs.ReachedFunctions.inner.Names.{names_told}
use Rattle.count_machine_layouts.proofs.reached_functions.classes.class_chain.Given as goal

abbrev pub invariant-loop : goal.invariant-loop
invariant-loop l = names_told l.chain.items ++ chain l.table (DEPTH - l.counter) (option_copied l.above) ≡ l.class ∷ ancestors_of l.table l.class
