-- The parts of a body, by their places.
use Rattle.std.specs.Prelude.{ℕ, List, slice_index_or}
use Rattle.sil_ast.specs.declared.place.Place.{Place}
use Rattle.sil_grammar_values.specs.Values.{token_of}
use Rattle.sil_grammar_values.specs.declared.value.Value.{Value}
use Rattle.sil_grammar_values.specs.declared.value.Value.TheVariants as v

-- what the i-th part of a body stands for
abbrev pub part : ℕ → List Value → Value
part i parts = slice_index_or parts i v.Nothing

abbrev pub text_at : ℕ → List Value → List ℕ
text_at i parts = (token_of (part i parts)).text

abbrev pub place_at : ℕ → List Value → Place
place_at i parts = (token_of (part i parts)).place
