use Rattle.std.proofs.Common.{◌≡◌, ◌-◌}
use Rattle.std.specs.Option.{option_copied}
use Rattle.sil_types_declarations.specs.TypeDefinitions.Declarations.{is_longer}
use Rattle.sil_types_declarations.proofs.type_declarations.table.DeclarationTable.is_longer.Given as goal

abbrev pub invariant-loop : goal.invariant-loop
invariant-loop l = is_longer l.self (l.most - l.counter) (option_copied l.at) ≡ is_longer l.self l.most (option_copied l.first)
