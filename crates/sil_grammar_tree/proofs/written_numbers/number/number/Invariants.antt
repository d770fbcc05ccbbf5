use Rattle.std.proofs.Common.{◌≡◌, ◌^◌, take, min}
use Rattle.sil_grammar_tree.specs.WrittenNumbers.Numbers.{number_of}
use Rattle.sil_grammar_tree.proofs.written_numbers.number.number.Given as goal

abbrev pub invariant-loop-byte : goal.invariant-loop-byte
invariant-loop-byte l = l.number ≡ min (number_of (take l.byte-index l.digits)) (2 ^ 64)
