use Rattle.count_machine_rows.proofs.GoingOn.{all_there}
use Rattle.count_machine_rows.proofs.group_rows.group_of.Goals as goal

pub returns : goal.returns
returns c = λ ready bound rest h. all_there _ _ _ _ _ c.in_default.ensures (c.give_group.ensures rest h)
