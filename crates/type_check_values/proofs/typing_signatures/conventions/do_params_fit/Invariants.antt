use Rattle.std.proofs.Common.{◌≡◌, drop}
use Rattle.std.specs.List.{list_all}
use Rattle.sil_types.specs.Typing.SignatureRules.{fits_param}
use Rattle.type_check_values.proofs.typing_signatures.conventions.do_params_fit.Given as goal

abbrev pub invariant-loop-param : goal.invariant-loop-param
invariant-loop-param l = list_all (fits_param l.table) (drop l.param-index l.params) ≡ list_all (fits_param l.table) l.params
