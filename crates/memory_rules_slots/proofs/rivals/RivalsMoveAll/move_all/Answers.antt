use Rattle.memory_rules_slots.proofs.rivals.RivalsMoveAll.move_all.Goals as goal

pub turn_touched-requires-clause-others : goal.turn_touched-requires-clause-others
turn_touched-requires-clause-others c = λ u s lu ls none. c.touched.ensures.others u s lu none
