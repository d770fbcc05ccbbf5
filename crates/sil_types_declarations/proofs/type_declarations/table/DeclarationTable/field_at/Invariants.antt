use Rattle.std.proofs.Common.{◌≡◌, ◌-◌, ◌++◌, length}
use Rattle.std.specs.Prelude.{slice_get}
use Rattle.sil_rules.specs.declared.limits.TheConstants.{DEPTH}
use Rattle.sil_types_declarations.specs.TypeDefinitions.Declarations.{chain, superclass_of}
use Rattle.sil_types_declarations.specs.TypeDefinitions.Lookups.{chain_fields, field_at, own_fields}
use Rattle.sil_types_declarations.proofs.type_declarations.table.DeclarationTable.field_at.Given as goal

-- the field is among those of this class and of the classes above it, of which so many are left
abbrev pub invariant-loop : goal.invariant-loop
invariant-loop l =
    record {
      before : l.before ≡ length (chain_fields l.self (chain l.self (DEPTH - l.counter) (superclass_of l.self l.class)));
      found : slice_get (chain_fields l.self (chain l.self (DEPTH - l.counter) (superclass_of l.self l.class)) ++ own_fields l.self l.class) l.index ≡ field_at l.self l.owner l.fn.index;
    }
