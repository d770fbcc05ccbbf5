-- A fault at a point is reported in one way.
use Rattle.std.proofs.Common.{◌≡◌, List, ap, ◌∙◌, Option}
use Rattle.sil_ast.specs.declared.place.ValueId.{ValueId}
use Rattle.sil_ast.specs.declared.place.PointId.{PointId}
use Rattle.sil_ast.specs.declared.place.EdgeId.{EdgeId}
use Rattle.sil_rules.specs.declared.rule.Rule.{Rule}
use Rattle.sil_rules.specs.declared.rule_faults.fault.RuleFault.{RuleFault}
use Rattle.numbered_form.specs.PointChecks.inner.Reports.{IsReport, report_of}
use Rattle.numbered_form.specs.declared.point_checks.fault.PointFault.{PointFault}

pub is_report : (x : PointFault) (o : Option ValueId) (y : RuleFault) → IsReport x o y → y ≡ report_of x o
is_report x o y h =
    ap (λ (r : Rule). let z : RuleFault = record { rule = r; subject = y.subject; other = y.other; point = y.point; walk = y.walk } in z) h.rule
    ∙ ap (λ (v : ValueId). let z : RuleFault = record { rule = x.rule; subject = v; other = y.other; point = y.point; walk = y.walk } in z) h.subject
    ∙ ap (λ (other : Option ValueId). let z : RuleFault = record { rule = x.rule; subject = x.subject; other = other; point = y.point; walk = y.walk } in z) h.other
    ∙ ap (λ (p : PointId). let z : RuleFault = record { rule = x.rule; subject = x.subject; other = o; point = p; walk = y.walk } in z) h.point
    ∙ ap (λ (w : List EdgeId). let z : RuleFault = record { rule = x.rule; subject = x.subject; other = o; point = x.point; walk = w } in z) h.walk
