-- The table of first bytes is held against the definitions at each of the 256 bytes, by computing.
use Rattle.std.proofs.Common.{◌≡◌, ℕ, ◌<◌, Bool, true, not, List, [], ◌∷◌, length, get_or, refl, subst, arith}
use Rattle.std.specs.Prelude.{◌==◌, ◌&&◌}
use Rattle.std.specs.Char.{is_ascii_digit}
use Rattle.std.proofs.lemmas.Bool.{agree_below, agree_below_at}
use Rattle.sil_lexer.specs.declared.starts.Start.{Start}
use Rattle.sil_lexer.specs.declared.starts.Start.TheVariants.{Nothing, Letter, AtSign, Percent, Digit, Minus, Quote, Mark}
use Rattle.sil_lexer.specs.declared.starts.TheConstants.{STARTS}
use Rattle.sil_ast.specs.TextBytes.Bytes.{is_word_start, is_punctuation}
use Rattle.sil_lexer.specs.Spelling.{begins_with}
use Rattle.sil_lexer.specs.inner.Scan.{begins_longer}

-- a byte is what the table says
abbrev pub is_start : Start → ℕ → Bool
is_start Letter b = is_word_start b
is_start AtSign b = b == 64
is_start Percent b = b == 37
is_start Digit b = is_ascii_digit b
is_start Minus b = b == 45
is_start Quote b = b == 34
is_start Mark b = is_punctuation b
is_start Nothing b = not (begins_longer b) && not (is_punctuation b)

from_table : (table : List Start) (other : Start) (b : ℕ) → b < 256 → agree_below (λ k. is_start (get_or table k other) k) (λ _. true) 256 ≡ true
    → is_start (get_or table b other) b ≡ true
from_table table other b below agree = agree_below_at (λ k. is_start (get_or table k other) k) (λ _. true) 256 b agree below

starts_so : (other start : Start) (b : ℕ) → b < 256 → get_or STARTS b other ≡ start → is_start start b ≡ true
starts_so other start b below same = subst (λ s. is_start s b ≡ true) same (from_table STARTS other b below refl)

-- what the table says of the first byte holds of it
pub begins_so : (other start : Start) (rest : List ℕ) → 0 < length rest → get_or rest 0 0 < 256 → get_or STARTS (get_or rest 0 0) other ≡ start
    → begins_with (is_start start) rest ≡ true
begins_so other start [] some below same = absurd (omega arith)
begins_so other start (b ∷ rest) some below same = starts_so other start b below same
