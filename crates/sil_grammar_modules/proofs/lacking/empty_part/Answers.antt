-- The production of an empty text takes no values, and leaves one.
use Rattle.std.proofs.Common.{◌∙◌, ap, arith, length, sym}
use Rattle.sil_grammar_tables.specs.Grammar.{body}
use Rattle.sil_grammar_modules.proofs.LackingLemmas.{lacking_empty, some_reduced}
use Rattle.sil_grammar_modules.proofs.lacking.empty_part.Goals as goal

pub reduce-requires : goal.reduce-requires
reduce-requires c = omega (arith, c.requires, ap (λ p. length (body p)) c.shortest-production.ensures)

pub pop_front-requires : goal.pop_front-requires
pop_front-requires c = some_reduced c.shortest-production.result _ _ c.in_ok-reduce.ensures.values

pub returns : goal.returns
returns c =
    lacking_empty c.args.part _ _ _ _ c.shortest-production.ensures (omega (arith, c.requires, ap (λ p. length (body p)) c.shortest-production.ensures)) c.new-values.ensures
    (sym c.in_ok-reduce.ensures.values ∙ c.pop_front.ensures)
