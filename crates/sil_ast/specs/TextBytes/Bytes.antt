-- What a byte may be in a text: a blank, or a part of a token.
use Rattle.std.specs.Prelude.{ℕ, Bool, not, ◌&&◌, ◌||◌, ◌==◌, nat_le, codes}
use Rattle.std.specs.List.{list_any}
use Rattle.std.specs.Char.{is_ascii_alphabetic, is_ascii_digit}

abbrev pub is_line_feed : ℕ → Bool
is_line_feed b = b == 10

-- a byte that stays on its line
abbrev pub is_in_line : ℕ → Bool
is_in_line b = not (is_line_feed b)

-- a space, a tab, a carriage return or a line feed
abbrev pub is_blank : ℕ → Bool
is_blank b = b == 32 || b == 9 || b == 13 || b == 10

-- a letter or `_`
abbrev pub is_word_start : ℕ → Bool
is_word_start b = is_ascii_alphabetic b || b == 95

-- a letter, a digit, `_` or `$`
abbrev pub is_name_byte : ℕ → Bool
is_name_byte b = is_ascii_alphabetic b || is_ascii_digit b || b == 95 || b == 36

-- from 0x20 to 0x7E, but for `"` and `\`
abbrev pub is_text_byte : ℕ → Bool
is_text_byte b = nat_le 0x20 b && nat_le b 0x7E && not (b == 34) && not (b == 92)

abbrev pub is_punctuation : ℕ → Bool
is_punctuation b = list_any (λ punctuation. b == punctuation) (codes "{}()[]<>,:.?*=!$#")
