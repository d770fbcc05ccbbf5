use Rattle.std.proofs.Common.{◌≡◌, ◌+◌, ◌-◌, ◌*◌, ◌≤◌, length}
use Rattle.std.specs.Option.{option_copied}
use Rattle.sil_rules.specs.declared.limits.TheConstants.{DEPTH, MEMBERS}
use Rattle.sil_types_declarations.specs.TypeDefinitions.Declarations.{chain}
use Rattle.sil_types_declarations.specs.TypeDefinitions.Lookups.{chain_fields}
use Rattle.sil_types_declarations.proofs.type_declarations.table.DeclarationTable.count_from.Given as goal

-- the fields so far and those of the classes that are left are those of all; a class has few
abbrev pub invariant-loop : goal.invariant-loop
invariant-loop l =
    record {
      all : l.count + length (chain_fields l.self (chain l.self (DEPTH - l.counter) (option_copied l.above))) ≡ length (chain_fields l.self (chain l.self DEPTH (option_copied l.class)));
      few : l.count ≤ l.counter * MEMBERS;
    }
