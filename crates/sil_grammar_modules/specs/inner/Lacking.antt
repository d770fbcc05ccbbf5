-- What the replay makes of a symbol in its shortest text, where all tokens are lacking.
use Rattle.std.specs.Prelude.{ℕ, zero, suc, ◌≡◌, ◌≤◌, List, ◌++◌, length, map}
use Rattle.sil_grammar_tables.specs.declared.grammar.Symbol.{Symbol}
use Rattle.sil_grammar_tables.specs.declared.grammar.Symbol.TheVariants.{Read, Part}
use Rattle.sil_grammar_tables.specs.Grammar.{body}
use Rattle.sil_grammar_tables.specs.Shortest.{shortest}
use Rattle.sil_grammar_values.specs.declared.value.Value.{Value}
use Rattle.sil_grammar_values.specs.declared.value.Value.TheVariants as v
use Rattle.sil_grammar_values.specs.inner.Meaning.{meaning}
use Rattle.sil_grammar_values.specs.Values.{no_token}

-- down to so many levels of parts
unfoldable pub lacking_within : ℕ → Symbol → Value
lacking_within zero s = v.Nothing
lacking_within (suc n) (Read t) = v.Token no_token
lacking_within (suc n) (Part part) = meaning (shortest part) (map (lacking_within n) (body (shortest part)))

-- no shortest text has as many levels
unfoldable pub lacking : Symbol → Value
lacking s = lacking_within 12 s

-- what all values are that wait: those that were built, and behind them those of the symbols that are left
abbrev pub waiting : List Value → List Symbol → List Value
waiting built left = built ++ map lacking left

-- so many values were built, and the same values wait
pub record Fills (count : ℕ) (built : List Value) (left : List Symbol) (new_built : List Value) (new_left : List Symbol) : Type 0 where
  pub same : waiting new_built new_left ≡ waiting built left
  pub enough : count ≤ length new_built
