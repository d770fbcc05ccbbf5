-- What a refusal says of a finding.
use Rattle.std.specs.Prelude.{◌≡◌, [], Option, Some, None}
use Rattle.std.specs.Option.{option_map}
use Rattle.sil_ast.specs.declared.module.Module.{Module}
use Rattle.type_check.specs.Refusals.{function_id}
use Rattle.sil_verifier_accepted.specs.AcceptedModules.Findings.{Finding, item, limit, typing, value, vtable_item}
use Rattle.sil_verifier.specs.declared.refusal.Refusal as declared

-- of an item its number; of a broken rule of typing the function and the point, or the vtable's number among the items; of one on values
-- all that is shown. A limit has no rule
abbrev pub report_of : Module → Finding → Option declared.Refusal
report_of m (item r n) =
    Some (record { rule = r; item = Some n; function = None; point = None; subject = None; other = None; walk = [] })
report_of m (limit what) = None
report_of m (typing f) =
    Some (record { rule = f.rule; item = option_map (vtable_item m) f.vtable; function = f.function; point = f.point; subject = None; other = None; walk = [] })
report_of m (value n s) =
    Some (record {
      rule = s.rule;
      item = None;
      function = Some (function_id n);
      point = Some s.point;
      subject = Some s.subject;
      other = s.other;
      walk = s.walk;
    })

-- the refusal says this of the finding
abbrev pub Reported : Module → Finding → declared.Refusal → Type 0
Reported m x r = report_of m x ≡ Some r
