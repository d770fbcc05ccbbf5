use Rattle.std.proofs.Common.{◌≡◌, drop}
use Rattle.memory_rules.proofs.Crossed.{crossed}
use Rattle.memory_rules.proofs.overlaps.first_crossed.Given as goal

abbrev pub invariant-loop-i : goal.invariant-loop-i
invariant-loop-i l = crossed l.m l.subject (drop l.i l.addresses) ≡ crossed l.m l.subject l.addresses
