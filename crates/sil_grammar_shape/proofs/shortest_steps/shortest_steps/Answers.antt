use Rattle.std.proofs.Common.{[], ◌∷◌, ◌++◌, ap, reverse, ◌∙◌}
use Rattle.sil_grammar_tables.specs.declared.grammar.Symbol.TheVariants.{Part}
use Rattle.sil_grammar_shape.proofs.Shortened.{Shortening-start, Shortening-step, Shortening-end, fewer}
use Rattle.sil_grammar_shape.proofs.shortest_steps.shortest_steps.Goals as goal

pub loop-symbol-init : goal.loop-symbol-init
loop-symbol-init c = Shortening-start _ (ap reverse (c.in_ok-push.ensures.items ∙ ap (λ xs. xs ++ Part c.args.part ∷ []) c.new-stack.ensures.items)) c.new-steps.ensures.items

pub loop-symbol-smaller : goal.loop-symbol-smaller
loop-symbol-smaller c = fewer c.in-Some.symbol c.in-Some.ensures c.in_ok-shorten.ensures.stack

pub loop-symbol-preserved : goal.loop-symbol-preserved
loop-symbol-preserved c =
    Shortening-step c.in-Some.symbol _ c.loop-symbol.invariant c.in-Some.ensures c.in_ok-shorten.ensures.stack c.in_ok-shorten.ensures.steps

pub returns : goal.returns
returns c = Shortening-end _ c.loop-symbol.invariant c.in_default.ensures.0
