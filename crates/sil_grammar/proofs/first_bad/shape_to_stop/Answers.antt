-- For `shape_to_stop`: nothing is left at the stop.
use Rattle.std.proofs.Common.{◌≡◌, Some, length, refl}
use Rattle.sil_grammar_shape.specs.declared.steps.Front.{Front}
use Rattle.sil_grammar.specs.declared.first_bad.Shape.TheVariants.{Broken}
use Rattle.sil_grammar.specs.FirstBad.{bad_stop}
use Rattle.sil_grammar.proofs.first_bad.shape_to_stop.Goals as goal

pub returns-in-Some : goal.returns-in-Some
returns-in-Some c =
    let stops : c.args.tokens.now.stop ≡ Some c.in-Some.stop = cc c.in-Some.ensures in
    let front : Front = record { steps = c.args.steps; left = c.new.result } in
    let same : Broken c.bad_stop.result c.len.result front ≡ Broken (bad_stop c.in-Some.stop) (length c.args.tokens.now.tokens) front =
    cc (c.bad_stop.ensures, c.len.ensures) in
    rw stops (front, same, refl, c.new.ensures.items)
