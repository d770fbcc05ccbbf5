use Rattle.std.proofs.Common.{◌≡◌, ◌++◌, map}
use Rattle.sil_types_declarations.specs.TypeDefinitions.Lookups.{chain_fields}
use Rattle.count_machine_model.specs.ReadyCode.ReadyModules.{storage_of}
use Rattle.count_machine_layouts.specs.ReachedFunctions.inner.Names.{names_told}
use Rattle.count_machine_layouts.proofs.reached_functions.classes.storages_of.Given as goal

-- the fields of the classes that are left come first
abbrev pub invariant-loop-class : goal.invariant-loop-class
invariant-loop-class l =
    l.storages ++ map storage_of (chain_fields l.table (names_told l.chain.items)) ≡ map storage_of (chain_fields l.table (names_told l.initial.chain.items))

abbrev pub decreases-loop-class : goal.decreases-loop-class
decreases-loop-class l = l.chain.len
