-- Signatures of functions: `@convention(thin) (@guaranteed C, Builtin.Int64) -> @owned C`.
use Rattle.std.specs.Prelude.{ℕ, List, [], ◌∷◌, ◌++◌, if◌then◌else◌, codes}
use Rattle.sil_ast.specs.declared.signature.Convention.{Convention}
use Rattle.sil_ast.specs.declared.signature.Convention.TheVariants.{Thin, Method}
use Rattle.sil_ast.specs.declared.signature.Given.{Given}
use Rattle.sil_ast.specs.declared.signature.Param.{Param}
use Rattle.sil_ast.specs.declared.signature.Passing.{Passing}
use Rattle.sil_ast.specs.declared.signature.Passing.TheVariants as passing
use Rattle.sil_ast.specs.declared.signature.Signature.{Signature}
use Rattle.sil_printer.specs.Words.{in_parens, if_set}
use Rattle.sil_printer.specs.CanonicalTypes.{type_text, opens_parens}

abbrev pub convention_text : Convention → List ℕ
convention_text Thin = codes "@convention(thin) "
convention_text Method = codes "@convention(method) "

abbrev pub passing_text : Passing → List ℕ
passing_text passing.Plain = []
passing_text passing.Owned = codes "@owned "
passing_text passing.Guaranteed = codes "@guaranteed "
passing_text passing.Inout = codes "@inout "
passing_text passing.In = codes "@in "
passing_text passing.InGuaranteed = codes "@in_guaranteed "

abbrev pub param_text : Param → List ℕ
param_text param = passing_text param.passing ++ type_text param.ty

abbrev pub given_text : Given → List ℕ
given_text given = if_set (codes "@owned ") given.owned ++ if_set (codes "@out ") given.out ++ type_text given.ty

-- no result is `()`, and several stand in parentheses, as does one that would itself begin with a parenthesis
abbrev pub results_text : List Given → List ℕ
results_text (given ∷ []) = if opens_parens (given_text given) then in_parens given_text (given ∷ []) else given_text given
results_text results = in_parens given_text results

abbrev pub signature_text : Signature → List ℕ
signature_text s =
    convention_text s.convention ++ in_parens param_text s.params ++ codes " -> " ++ results_text s.results
