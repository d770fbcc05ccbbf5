use Rattle.std.proofs.Common.{◌≡◌, map, take, string_bytes}
use Rattle.sil.proofs.sil_program.texts_of.Given as goal

-- the texts so far are those of the first words
abbrev pub invariant-loop-word : goal.invariant-loop-word
invariant-loop-word l = map (λ text. text.now) l.texts.items ≡ map string_bytes (take l.word-index l.words)
