use Rattle.std.proofs.Common.{◌≡◌, drop}
use Rattle.std.specs.List.{list_all}
use Rattle.sil_types.specs.Typing.SignatureRules.{fits_result}
use Rattle.type_check_values.proofs.typing_signatures.conventions.do_results_fit.Given as goal

abbrev pub invariant-loop-given : goal.invariant-loop-given
invariant-loop-given l = list_all (fits_result l.table) (drop l.given-index l.results) ≡ list_all (fits_result l.table) l.results
