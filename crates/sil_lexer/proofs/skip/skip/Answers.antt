use Rattle.std.proofs.Common.{arith}
use Rattle.sil_lexer.proofs.SkipLemmas.{skips_on}
use Rattle.sil_lexer.proofs.skip.skip.Goals as goal

pub loop-at-preserved : goal.loop-at-preserved
loop-at-preserved c =
    let next = c.skip_blanks-at-in-loop-at.ensures in
    record {
      placed = next.placed;
      forward = omega arith;
      skipped = skips_on _ _ _ c.loop-at.invariant.skipped (c.skip_comment.ensures.skipped _ next.skipped);
      no_blank = next.no_blank;
    }
