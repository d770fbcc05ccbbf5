-- For `shape_by`: a derivation goes to the end of the text or to the stop, and else the text breaks off.
use Rattle.sil_grammar.proofs.ShapeLemmas.{broken_at, shaped}
use Rattle.sil_grammar.proofs.first_bad.shape_by.Goals as goal

pub returns-in-Ok : goal.returns-in-Ok
returns-in-Ok c =
    shaped c.args.text.now c.args.tokens.now c.args.classes.now c.in-Ok.steps c.shape_to_stop.result
    c.requires.lexed c.requires.classes c.in-Ok.ensures.found c.in-Ok.ensures.taken c.shape_to_stop.ensures

pub returns-in_ok-bad-in-Err-FirstBad : goal.returns-in_ok-bad-in-Err-FirstBad
returns-in_ok-bad-in-Err-FirstBad c =
    let refused = rw c.in-Err-FirstBad.field-0-is at c.in-Err-FirstBad.ensures.refused in
    broken_at c.args.text.now c.args.tokens.now c.args.classes.now c.in_ok-bad-in-Err-FirstBad.bad c.in-Err-FirstBad.count c.in-Err-FirstBad.front
    c.requires.classes refused c.in_ok-bad-in-Err-FirstBad.ensures
