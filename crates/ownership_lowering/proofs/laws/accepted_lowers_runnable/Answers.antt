use Rattle.ownership_lowering.proofs.Runnable.{accepted_lowers_runnable}
use Rattle.ownership_lowering.proofs.laws.accepted_lowers_runnable.Goals as goal

pub returns : goal.returns
returns c =
    accepted_lowers_runnable c.kinds_have_no_rings.ensures c.lowered_is_numbered.ensures c.types_are_kept.ensures c.lowered_is_typed.ensures c.declares_the_same.ensures
