use Rattle.std.proofs.Common.{subst}
use Rattle.sil_rules.specs.Order.{IsLeast}
use Rattle.sil_types_items.specs.TypeItemRules.Faults.{BreaksIn, fault_key}
use Rattle.sil_types.proofs.FirstRefusals.{first_item, refused_rule}
use Rattle.sil_types.proofs.items.check_items.Goals as goal

pub returns-in-Some-clause-err : goal.returns-in-Some-clause-err
returns-in-Some-clause-err c =
    let m = c.args.m.now in
    let fault = c.in-Some.fault in
    let least = subst (λ d. IsLeast fault_key (BreaksIn d m) fault) c.requires.table c.in-Some.ensures in
    refused_rule m fault.rule fault.item c.refused.result c.refused.ensures (first_item m fault least)
