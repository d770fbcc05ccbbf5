use Rattle.std.proofs.Common.{◌≡◌, drop}
use Rattle.std.specs.List.{list_all}
use Rattle.sil_types.specs.Typing.SignatureRules.{is_plain_integer}
use Rattle.type_check_values.proofs.typing_signatures.external.are_plain_integers.Given as goal

abbrev pub invariant-loop-param : goal.invariant-loop-param
invariant-loop-param l = list_all is_plain_integer (drop l.param-index l.params) ≡ list_all is_plain_integer l.params
