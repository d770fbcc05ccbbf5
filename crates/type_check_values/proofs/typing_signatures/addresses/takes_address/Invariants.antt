use Rattle.std.proofs.Common.{◌≡◌, drop}
use Rattle.std.specs.List.{list_any}
use Rattle.sil_types.specs.Typing.EdgeRules.{has_address_type}
use Rattle.type_check_values.proofs.typing_signatures.addresses.takes_address.Given as goal

abbrev pub invariant-loop-arg : goal.invariant-loop-arg
invariant-loop-arg l = list_any has_address_type (drop l.arg-index l.args) ≡ list_any has_address_type l.args
