-- Marks, by what they need and what they turn.
use Rattle.std.specs.Prelude.{true, false, Some, None}
use Rattle.sil_rules.specs.declared.rule.Rule.{Rule}
use Rattle.reach_engine_marks.specs.declared.path_patterns.mark.Mark.{Mark}

-- it needs the switch on, or off
abbrev pub needs_on : Rule → Mark
needs_on r = record { needs = Some true; turns = None; rule = r }

abbrev pub needs_off : Rule → Mark
needs_off r = record { needs = Some false; turns = None; rule = r }

-- it turns the switch on, or off, however it is
abbrev pub turns_on : Rule → Mark
turns_on r = record { needs = None; turns = Some true; rule = r }

abbrev pub turns_off : Rule → Mark
turns_off r = record { needs = None; turns = Some false; rule = r }

-- it needs the switch in one state, and leaves it in the other
abbrev pub needs_on_turns_off : Rule → Mark
needs_on_turns_off r = record { needs = Some true; turns = Some false; rule = r }

abbrev pub needs_off_turns_on : Rule → Mark
needs_off_turns_on r = record { needs = Some false; turns = Some true; rule = r }
