use Rattle.std.proofs.Common.{◌≡◌, drop}
use Rattle.std.specs.List.{list_any}
use Rattle.sil_types.specs.Typing.EdgeRules.{takes_address}
use Rattle.type_check_values.proofs.typing_signatures.addresses.any_takes_address.Given as goal

abbrev pub invariant-loop-block : goal.invariant-loop-block
invariant-loop-block l = list_any takes_address (drop l.block-index l.blocks) ≡ list_any takes_address l.blocks
