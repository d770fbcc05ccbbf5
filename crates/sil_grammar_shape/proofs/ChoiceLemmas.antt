-- A part that is no row is looked for among its productions.
use Rattle.std.proofs.Common.{◌≡◌, refl}
use Rattle.std.specs.Prelude.{Option, find}
use Rattle.sil_grammar_classes.specs.declared.classes.Class.{Class}
use Rattle.sil_grammar_tables.specs.declared.grammar.Nonterminal.{Nonterminal}
use Rattle.sil_grammar_tables.specs.declared.grammar.Nonterminal.TheVariants as n
use Rattle.sil_grammar_shape.specs.inner.Choice.{has, started}
use Rattle.sil_grammar_tables.specs.inner.Starts.{starts}
use Rattle.sil_grammar_tables.specs.Grammar.{alternatives}

pub started-else : (part : Nonterminal) (l : Option Class) → (part ≡ n.Row → ⊥) → (part ≡ n.Terminator → ⊥) → started part l ≡ find (λ p. has (starts p) l) (alternatives part)
unfolding started
started-else n.Row l row terminator = absurd (row refl)
started-else n.Terminator l row terminator = absurd (terminator refl)
started-else _ l row terminator = refl
