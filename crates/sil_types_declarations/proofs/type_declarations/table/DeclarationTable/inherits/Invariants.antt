use Rattle.std.proofs.Common.{◌≡◌, ◌-◌}
use Rattle.std.specs.List.{list_any}
use Rattle.std.specs.Option.{option_copied}
use Rattle.std.specs.Str.{bytes_eq}
use Rattle.sil_rules.specs.declared.limits.TheConstants.{DEPTH}
use Rattle.sil_types_declarations.specs.TypeDefinitions.Declarations.{chain, inherits}
use Rattle.sil_types_declarations.proofs.type_declarations.table.DeclarationTable.inherits.Given as goal

-- what is found among the classes that are left is what is found among all
abbrev pub invariant-loop : goal.invariant-loop
invariant-loop l = list_any (bytes_eq l.other) (chain l.self (DEPTH - l.counter) (option_copied l.above)) ≡ inherits l.self l.class_name l.other
