use Rattle.std.proofs.Common.{◌≡◌, ◌++◌, ◌∙◌, ap, length, map, subst, sym}
use Rattle.std.specs.Prelude.{OnOk}
use Rattle.sil_cfg_items.specs.Roles.{by_row, conventions_in, roles_for, taken_as, taken_each}
use Rattle.sil_cfg_items.proofs.Roling.{taken_alike}
use Rattle.sil_cfg_items.proofs.taken.add_taken_by.Goals as goal

pub returns-in-Some : goal.returns-in-Some
returns-in-Some c =
    let i = c.args.inst.now in
    let role = c.in-Some.role in
    subst (λ ts. OnOk c.add_alike.result (c.add_alike.new.taken.items ≡ c.args.taken.now.items ++ ts))
    (ap (map (λ o. taken_as o (by_row role))) c.as_slice.ensures ∙ taken_alike i.operands (by_row role) ∙
    ap (taken_each i.operands) (sym (c.in-Some.ensures (conventions_in i) (length i.operands)) ∙ ap (λ row. roles_for row (conventions_in i) (length i.operands)) c.roles_of-row.ensures))
    c.add_alike.ensures
