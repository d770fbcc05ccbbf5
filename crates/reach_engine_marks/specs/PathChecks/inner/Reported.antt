-- Faults as they are reported.
use Rattle.sil_cfg.specs.declared.item.Item.{Item}
use Rattle.sil_rules.specs.declared.rule_faults.fault.RuleFault.{RuleFault}
use Rattle.reach_engine_marks.specs.declared.path_checks.fault.PathFault.{PathFault}

-- the reported fault, found at the item
abbrev pub found_at : RuleFault → Item → PathFault
found_at fault item = record { subject = fault.subject.0; rule = fault.rule; walk = fault.walk; point = fault.point; item = item }
