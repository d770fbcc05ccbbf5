-- The types of values by names that definitions and proofs of the layers above can use. Their code has no use for them.
use Rattle.sil_grammar_values.specs.declared.value.Flags.{Flags}
use Rattle.sil_grammar_values.specs.declared.value.Value.{Value}
use Rattle.sil_grammar_values.specs.declared.value.Value.TheVariants as v
use Rattle.sil_grammar_tree.specs.declared.written_tree.written_module.WrittenModule.{WrittenModule}
use Rattle.sil_grammar_values.specs.declared.written_types.GivenList.{GivenList}
use Rattle.sil_grammar_values.specs.declared.written_types.ParamList.{ParamList}
use Rattle.sil_grammar_values.specs.declared.written_types.TypeList.{TypeList}
use Rattle.sil_grammar_values.specs.declared.written_types.WrittenType.{WrittenType}

abbrev pub PartValue : Type 0
PartValue = Value

abbrev pub PartType : Type 0
PartType = WrittenType

abbrev pub PartTypes : Type 0
PartTypes = TypeList

abbrev pub PartParams : Type 0
PartParams = ParamList

abbrev pub PartGivens : Type 0
PartGivens = GivenList

abbrev pub PartFlags : Type 0
PartFlags = Flags

-- what a whole module stands for
abbrev pub module_value : WrittenModule → PartValue
module_value w = v.Module w
