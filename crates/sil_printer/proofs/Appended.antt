-- Texts put one behind the other.
use Rattle.std.proofs.Common.{◌≡◌, ℕ, List, ◌++◌, append_assoc, ap, ◌∙◌}

pub appended_two : (start first second a b : List ℕ) → first ≡ start ++ a → second ≡ first ++ b → second ≡ start ++ (a ++ b)
appended_two start first second a b at_first at_second =
    at_second ∙ ap (λ text. text ++ b) at_first ∙ append_assoc start a b

pub appended_three : (start first second third a b c : List ℕ)
    → first ≡ start ++ a → second ≡ first ++ b → third ≡ second ++ c → third ≡ start ++ ((a ++ b) ++ c)
appended_three start first second third a b c at_first at_second at_third =
    appended_two start second third (a ++ b) c (appended_two start first second a b at_first at_second) at_third

pub appended_four : (start first second third fourth a b c d : List ℕ)
    → first ≡ start ++ a → second ≡ first ++ b → third ≡ second ++ c → fourth ≡ third ++ d
    → fourth ≡ start ++ (((a ++ b) ++ c) ++ d)
appended_four start first second third fourth a b c d at_first at_second at_third at_fourth =
    appended_two start third fourth ((a ++ b) ++ c) d (appended_three start first second third a b c at_first at_second at_third) at_fourth
