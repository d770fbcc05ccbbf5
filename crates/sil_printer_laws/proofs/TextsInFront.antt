-- Texts with what stands behind them, from left to right.
use Rattle.std.proofs.Common.{◌≡◌, ℕ, List, ◌∷◌, ◌++◌, codes, refl}
use Rattle.std.proofs.lemmas.List.{append_assoc}
use Rattle.sil_printer.specs.Words.{line, opening}

-- a line
pub line_ahead : (text rest after : List ℕ) → (line text ++ rest) ++ after ≡ text ++ (10 ∷ (rest ++ after))
line_ahead text rest after = simp append_assoc refl

-- a first line, what stands inside, and the closing brace
pub braced_ahead : (word name inside after : List ℕ)
    → (opening word name ++ inside ++ line (codes "}")) ++ after ≡ word ++ (name ++ (32 ∷ 123 ∷ 10 ∷ (inside ++ (125 ∷ 10 ∷ after))))
braced_ahead word name inside after = simp append_assoc refl
