-- Lines and columns of a text.
use Rattle.std.specs.Prelude.{◌≡◌, ℕ, ◌+◌, ◌-◌, ◌≤◌, List, length, take, count_by}
use Rattle.std.specs.List.{suffix_len}
use Rattle.sil_ast.specs.declared.place.Place.{Place}
use Rattle.sil_rules.specs.declared.limits.TheConstants.{TEXT_BYTES}
use Rattle.sil_ast.specs.TextBytes.Bytes.{is_line_feed, is_in_line}

-- one line more than there are line feeds before it, and one column more than there are bytes since the last of them
abbrev pub place_of : List ℕ → ℕ → Place
place_of text offset =
    let before = take offset text in
    record { offset = offset; line = count_by is_line_feed before + 1; column = suffix_len is_in_line before + 1 }

-- the place where these last bytes of the text begin
abbrev pub place_before : List ℕ → List ℕ → Place
place_before text rest = place_of text (length text - length rest)

-- the place that many bytes on in the same line
abbrev pub ahead_of : Place → ℕ → Place
ahead_of at count = record { offset = at.offset + count; line = at.line; column = at.column + count }

pub record IsPlaceIn (text : List ℕ) (at : Place) : Type 0 where
  pub inside : at.offset ≤ length text
  pub exact : at ≡ place_of text at.offset

-- a text isn't longer than the limit
abbrev pub IsInLimit : List ℕ → Type 0
IsInLimit text = length text ≤ TEXT_BYTES
