use Rattle.std.proofs.Common.{[], ◌∷◌, reverse}
use Rattle.sil_grammar_tables.specs.declared.grammar.Symbol.TheVariants.{Part}
use Rattle.sil_grammar_shape.proofs.Computed.{needed_all}
use Rattle.sil_grammar_shape.proofs.Shortened.{Shortening}
use Rattle.sil_grammar_shape.proofs.shortest_steps.shortest_steps.Given as goal

abbrev pub invariant-loop-symbol : goal.invariant-loop-symbol
invariant-loop-symbol l = Shortening (Part l.fn.part ∷ []) (reverse l.stack.items) l.steps.items

abbrev pub decreases-loop-symbol : goal.decreases-loop-symbol
decreases-loop-symbol l = needed_all (reverse l.stack.items)
