-- What the values that wait are once a production is reduced.
use Rattle.std.specs.Prelude.{⊤, List, ◌∷◌, length, take, drop}
use Rattle.sil_grammar_tables.specs.declared.grammar.Production.{Production}
use Rattle.sil_grammar_tables.specs.Grammar.{body}
use Rattle.sil_grammar_values.specs.declared.value.Value.{Value}
use Rattle.sil_grammar_values.specs.inner.Meaning.{meaning}
use Rattle.sil_grammar_values.specs.inner.PartFaults.{part_fault}

-- the values of the parts that a production has
abbrev pub parts_of : Production → List Value → List Value
parts_of p values = take (length (body p)) values

-- the values of a body give way to what the production stands for
unfoldable pub reduced : Production → List Value → List Value
reduced p values = meaning p (parts_of p values) ∷ drop (length (body p)) values

-- what a check unfolds where it is put together what a production stands for
unfoldable pub standing : ⊤
unfolding reduced meaning body
standing = tt

-- what a check unfolds where a production is reduced
unfoldable pub reducing : ⊤
unfolding reduced meaning part_fault body
reducing = tt
