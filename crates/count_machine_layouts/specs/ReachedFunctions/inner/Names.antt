-- Classes by their names.
use Rattle.std.specs.Prelude.{List, map}
use denote.Ref.{Bor}
use Rattle.numbered_form.specs.Names.{Name}
use Rattle.holder_model_typing.specs.holder_model.Dropping.{deinits_of}
use Rattle.sil_types_declarations.specs.TypeDefinitions.Declarations.{Declarations}
use Rattle.sil_types_declarations.specs.TypeDefinitions.Lookups.{fields_of}
use Rattle.count_machine_model.specs.ReadyCode.ReadyModules.{storage_of}
use Rattle.count_machine_model.specs.declared.ready_code.function.ReadyClass.{ReadyClass}

-- the names that references lead to
abbrev pub names_told : List (Bor Name) → List Name
names_told names = map (λ n. n.now) names

-- the class with this name, made ready
abbrev pub class_named : Declarations → Name → ReadyClass
class_named d name = record { deinits = deinits_of d name; fields = map storage_of (fields_of d name) }
