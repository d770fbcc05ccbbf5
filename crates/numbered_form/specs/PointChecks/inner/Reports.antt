-- How a fault at a point is reported.
use Rattle.std.specs.Prelude.{◌≡◌, [], Option}
use Rattle.sil_ast.specs.declared.place.ValueId.{ValueId}
use Rattle.sil_rules.specs.declared.rule_faults.fault.RuleFault.{RuleFault}
use Rattle.numbered_form.specs.declared.point_checks.fault.PointFault.{PointFault}

-- what is reported: no walk shows it
abbrev pub report_of : PointFault → Option ValueId → RuleFault
report_of x o = record { rule = x.rule; subject = x.subject; other = o; point = x.point; walk = [] }

-- the fault, with the other value that takes part in it, is reported so
pub record IsReport (x : PointFault) (o : Option ValueId) (reported : RuleFault) : Type 0 where
  pub rule : reported.rule ≡ x.rule
  pub subject : reported.subject ≡ x.subject
  pub other : reported.other ≡ o
  pub point : reported.point ≡ x.point
  pub walk : reported.walk ≡ []
