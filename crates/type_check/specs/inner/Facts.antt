-- What the facts of a function are.
use Rattle.std.specs.Prelude.{◌≡◌, map}
use Rattle.sil_ast.specs.declared.function.Function.{Function}
use Rattle.type_check.specs.TypingForms.inner.Incoming.{AreIncoming}
use Rattle.numbered_form.specs.Insts.{insts_in}
use Rattle.sil_types.specs.sil_types_declarations.TypeDefinitions.Declarations.{Declarations}
use Rattle.sil_types.specs.Typing.Values.{value_functions, value_types}
use Rattle.type_check_values.specs.TypingValues.inner.Given.{given_count}
use Rattle.type_check_values.specs.TypingValues.inner.Told.{types_told}
use Rattle.type_check.specs.declared.function_facts.FunctionFacts.{FunctionFacts}

-- the types and functions are those of the function's values, and the counts those of its instructions' rows and of its blocks
pub record AreFactsOf (d : Declarations) (f : Function) (facts : FunctionFacts) : Type 0 where
  pub types : types_told facts.given.types.items ≡ value_types d f
  pub counts : facts.given.counts.items ≡ map (given_count d) (insts_in f.blocks)
  pub functions : facts.functions.items ≡ value_functions f
  pub incoming : AreIncoming f facts.incoming.items
