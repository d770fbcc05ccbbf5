-- A device of the code, on which no definition rests: the table in which it looks keywords up.
use Rattle.std.specs.Prelude.{ℕ, ◌%◌, List, [], Option, bytes_eq, find, map, min, slice_get, slice_index_or, unwrap_or}
use Rattle.sil_grammar_classes.specs.Spelling.{spelling}
use Rattle.sil_grammar_classes.specs.declared.classes.Keyword.{Keyword}
use Rattle.sil_grammar_classes.specs.declared.by_letter.TheConstants.{BY_LETTER}

-- the keywords that the table has at a place
unfoldable pub keywords_at : ℕ → List Keyword
keywords_at place = slice_index_or (map (λ row. row.now) BY_LETTER) place []

-- the number of a word's first letter, small or capital; letters behind w have that of w
abbrev pub place_of : List ℕ → ℕ
place_of word = min (unwrap_or (slice_get word 0) 0 % 32) 23

-- what is found among the keywords there
unfoldable pub looked_up : List ℕ → Option Keyword
looked_up word = find (λ k. bytes_eq (spelling k) word) (keywords_at (place_of word))
