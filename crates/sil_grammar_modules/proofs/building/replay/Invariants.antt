-- The steps and tokens that are left are still to be replayed.
use Rattle.std.proofs.Common.{◌++◌, ◌≤◌, length, reverse, take}
use Rattle.std.specs.Prelude.{All}
use Rattle.sil_lexer.specs.inner.Lexing.{lexemes_of, IsInside}
use Rattle.sil_grammar_modules.specs.inner.Lacking.{waiting}
use Rattle.sil_grammar_modules.proofs.BuildLemmas.{InReplay}
use Rattle.sil_grammar_modules.proofs.building.replay.Given as goal

abbrev pub invariant-loop-i : goal.invariant-loop-i
invariant-loop-i g l = record {
  at : InReplay (l.fn.steps.items ++ g.rest) (lexemes_of l.text.value.items l.fn.tokens) l.text.value.items (take l.i l.steps.items) (take l.token l.tokens.tokens)
      (waiting l.values (reverse l.left.items)) l.fault;
  steps : l.i ≤ length l.steps.items;
  tokens : l.token ≤ length l.tokens.tokens;
  inside : All (IsInside l.text.value.items) l.tokens.tokens;
}
