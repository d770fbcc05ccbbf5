use Rattle.std.proofs.Common.{◌-◌, ◌<◌, ℕ, length, sym, ap, ◌∙◌, arith, Some}
use Rattle.std.specs.Option.{option_copied}
use Rattle.std.proofs.lemmas.Bool.Decides.{nat_tests}
use Rattle.instruction_table.specs.declared.entries.Role.TheVariants.{Consumed}
use Rattle.sil_cfg_items.specs.Roles.{conventions_by}
use Rattle.sil_cfg_items.proofs.Roling.{lead_role, later_role}
use Rattle.sil_cfg_items.proofs.taken.treatment_at.Goals as goal

pub returns-then-i-last : goal.returns-then-i-last
returns-then-i-last c n below =
    ap Some c.by_row.ensures ∙ sym (lead_role c.args.row.now (conventions_by (option_copied c.args.signature)) n c.args.i Consumed (omega arith) below)

pub returns-else-i-last : goal.returns-else-i-last
returns-else-i-last c n below =
    let some : 0 < length c.args.row.now = grind (arith, nat_tests) in
    let last : ℕ = length c.args.row.now - 1 in
    c.last_treatment.ensures (n - last) (omega arith) ∙
    sym (later_role c.args.row.now (conventions_by (option_copied c.args.signature)) n last c.args.i (n - last) (c.args.i - last) Consumed (omega arith) (omega arith) (omega arith) below)
