use Rattle.std.proofs.Common.{◌<◌, ◌∙◌, [], cond, map, subst, sym}
use Rattle.std.proofs.lemmas.Bool.{OnTrue_at, OnTrue_from}
use Rattle.numbered_form.specs.Lists.{Each}
use Rattle.numbered_form.specs.ValueTables.FirstValue.{value_of}
use Rattle.ownership_kinds_origins.proofs.Ordered.{each_from_all}
use Rattle.ownership_kinds_origins.proofs.in_order.renames_before.Goals as goal

pub returns-then-renames : goal.returns-then-renames
returns-then-renames c =
    OnTrue_from c.are_before.result _ (λ e.
    subst (λ b. Each (λ v. v.0 < c.args.number) (cond b (map value_of c.args.inst.now.operands) [])) (sym (sym c.renames.ensures ∙ c.if-renames.true))
    (subst (λ os. Each (λ v. v.0 < c.args.number) (map value_of os)) c.as_slice.ensures (each_from_all (λ v. v.0 < c.args.number) c.as_slice.result.now (OnTrue_at e c.are_before.ensures))))
