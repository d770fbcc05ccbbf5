-- The types of members and cases, as the outermost layer of a type lends them.
use Rattle.std.specs.Prelude.{List, [], ◌∷◌, Some, None, map, codes}
use Rattle.std.specs.Option.{option_copied}
use Rattle.holder_model_values.specs.RunValues.Layers.{CaseLayer}
use Rattle.sil_ast.specs.declared.decl.Case.{Case}
use Rattle.sil_ast.specs.declared.type_name.TypeName.{TypeName}
use Rattle.sil_types_declarations.specs.TypeDefinitions.Contained.{field_type}
use Rattle.module_runner_report.specs.declared.layers.CaseType.{CaseType}
use Rattle.module_runner_report.specs.declared.layers.CaseTypes.{CaseTypes}
use Rattle.module_runner_report.specs.declared.layers.CaseTypes.TheVariants as cases
use Rattle.module_runner_report.specs.declared.layers.MemberTypes.{MemberTypes}
use Rattle.module_runner_report.specs.declared.layers.MemberTypes.TheVariants as members

abbrev pub types_in : MemberTypes → List TypeName
types_in (members.Fields fields) = map field_type fields.now
types_in (members.Elements elements) = elements.now

abbrev pub named_case : Case → CaseLayer TypeName
named_case c = record { name = c.name; payload = c.payload }

abbrev pub declared_cases : List Case → List (CaseLayer TypeName)
declared_cases cases = map named_case cases

abbrev pub optional_cases : TypeName → List (CaseLayer TypeName)
optional_cases t = record { name = codes "none"; payload = None } ∷ record { name = codes "some"; payload = Some t } ∷ []

abbrev pub cases_in : CaseTypes → List (CaseLayer TypeName)
cases_in (cases.Declared cases) = declared_cases cases.now
cases_in (cases.Optional t) = optional_cases t.now

abbrev pub case_told : CaseType → CaseLayer TypeName
case_told c = record { name = c.name.now; payload = option_copied c.payload }
