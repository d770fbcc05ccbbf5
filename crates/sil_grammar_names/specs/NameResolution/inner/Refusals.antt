-- What a refusal of `resolve` says.
use Rattle.std.specs.Prelude.{◌≡◌, ⊤, Some}
use Rattle.sil_grammar_tree.specs.declared.written_tree.written_module.WrittenModule.{WrittenModule}
use Rattle.sil_grammar_names.specs.declared.name_resolution.refusal.NameRefusal.{NameRefusal}
use Rattle.sil_grammar_names.specs.declared.name_resolution.refusal.NameRefusal.TheVariants.{Name, Memory}
use Rattle.sil_grammar_names.specs.NameScopes.NameFaults.{name_fault}

abbrev pub IsRefusalOf : WrittenModule → NameRefusal → Type 0
IsRefusalOf w (Name fault) = name_fault w ≡ Some fault
IsRefusalOf w Memory = ⊤
