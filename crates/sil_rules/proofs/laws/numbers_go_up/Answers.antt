use Rattle.std.proofs.Common.{refl}
use Rattle.sil_rules.specs.declared.rule.TheConstants.{NUMBERS}
use Rattle.sil_rules.proofs.Rising.{increasing}
use Rattle.sil_rules.proofs.laws.numbers_go_up.Goals as goal

pub returns : goal.returns
returns c = increasing NUMBERS refl
