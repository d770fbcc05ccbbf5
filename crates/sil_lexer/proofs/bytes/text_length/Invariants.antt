use Rattle.std.proofs.Common.{◌≡◌, ◌+◌, drop}
use Rattle.std.specs.List.{prefix_len}
use Rattle.sil_ast.specs.TextBytes.Bytes.{is_text_byte}
use Rattle.sil_lexer.proofs.bytes.text_length.Given as goal

abbrev pub invariant-loop-i : goal.invariant-loop-i
invariant-loop-i l = l.i + prefix_len is_text_byte (drop l.i l.bytes) ≡ prefix_len is_text_byte l.bytes
