-- For `first_bad_of`: steps that derive all tokens of a text are its shape.
use Rattle.std.proofs.Common.{subst}
use Rattle.sil_grammar.specs.inner.Shape.{IsBroken, IsShapeOf, IsWhole}
use Rattle.sil_grammar.proofs.ShapeLemmas.{whole_shape}
use Rattle.sil_grammar.proofs.first_bad.first_bad_of.Goals as goal

pub returns-in-Whole : goal.returns-in-Whole
returns-in-Whole c =
    let steps = c.in-Whole._steps.items in
    let whole : IsWhole c.args.text.now c.args.tokens.now steps = subst (IsShapeOf c.args.text.now c.args.tokens.now) c.in-Whole.is c.in_ok-_steps.ensures in
    whole_shape c.args.text.now c.args.tokens.now steps c.requires.lexed whole

pub returns : goal.returns
returns c =
    let broken : IsBroken c.args.text.now c.args.tokens.now c.in-Broken.bad _ _ =
    subst (IsShapeOf c.args.text.now c.args.tokens.now) c.in-Broken.is c.in_ok-_steps.ensures in
    broken.first
