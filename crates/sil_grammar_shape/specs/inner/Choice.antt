-- The table by which the next token chooses a production. No definition of the language rests on it.
use Rattle.std.specs.Prelude.{Bool, false, List, Option, Some, None, find, if◌then◌else◌}
use Rattle.std.specs.List.{list_any}
use Rattle.sil_grammar_shape.specs.inner.ClassNumbers.{accepts}
use Rattle.sil_grammar_tables.specs.Grammar.{alternatives}
use Rattle.sil_grammar_tables.specs.inner.Starts.{starts, empty_choice}
use Rattle.sil_grammar_tables.specs.Rows.{ends_block}
use Rattle.sil_grammar_classes.specs.declared.classes.Keyword.TheVariants as k
use Rattle.sil_grammar_classes.specs.declared.classes.Class.{Class}
use Rattle.sil_grammar_classes.specs.declared.classes.Class.TheVariants as c
use Rattle.sil_grammar_tables.specs.declared.grammar.Terminal.{Terminal}
use Rattle.sil_grammar_tables.specs.declared.grammar.Nonterminal.{Nonterminal}
use Rattle.sil_grammar_tables.specs.declared.grammar.Nonterminal.TheVariants as n
use Rattle.sil_grammar_tables.specs.declared.grammar.Production.{Production}
use Rattle.sil_grammar_tables.specs.declared.grammar.Production.TheVariants as p

unfoldable pub has_class : List Terminal → Class → Bool
has_class ts k = list_any (λ t. accepts t k) ts

-- whether the next token, if there is one, is among these
unfoldable pub has : List Terminal → Option Class → Bool
has ts None = false
has ts (Some k) = has_class ts k

-- the row that begins with a mnemonic, inside a block and at its end
unfoldable pub row_inside : Option Class → Option Production
row_inside (Some (c.Word (k.Mnemonic o))) = if ends_block o then None else Some (p.Row o)
row_inside _ = None

unfoldable pub row_at_end : Option Class → Option Production
row_at_end (Some (c.Word (k.Mnemonic o))) = if ends_block o then Some (p.Row o) else None
row_at_end _ = None

-- the production whose text begins with the next token
unfoldable pub started : Nonterminal → Option Class → Option Production
started n.Row l = row_inside l
started n.Terminator l = row_at_end l
started part l = find (λ p. has (starts p) l) (alternatives part)

unfoldable pub or_empty : Option Production → Nonterminal → Option Production
or_empty (Some p) n = Some p
or_empty None n = empty_choice n

-- the production that is taken at a next token, or at the end
unfoldable pub choose : Nonterminal → Option Class → Option Production
choose n l = or_empty (started n l) n
