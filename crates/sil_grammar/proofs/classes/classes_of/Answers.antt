-- For `classes_of`: a class more with each token, and all of them at the end.
use Rattle.std.proofs.Common.{◌<◌, ◌≤◌, length, arith, ◌∙◌}
use Rattle.sil_grammar.proofs.LexemeLemmas.{classes_all, classes_more}
use Rattle.sil_grammar.proofs.classes.classes_of.Goals as goal

pub loop-i-preserved : goal.loop-i-preserved
loop-i-preserved c =
    let below : c.loop-i.i < length c.args.tokens.now.tokens = omega arith in
    c.in_ok-push.ensures.items
    ∙ classes_more c.args.text.now c.args.tokens.now c.loop-i.i _ _ below c.class_at.ensures c.loop-i.invariant

pub returns : goal.returns
returns c =
    let all : length c.args.tokens.now.tokens ≤ c.loop-i.i = omega arith in
    c.loop-i.invariant ∙ classes_all c.args.text.now c.args.tokens.now c.loop-i.i all
