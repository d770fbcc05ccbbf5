-- Text that is put is the text of what is shown.
use Rattle.std.proofs.Common.{◌≡◌, ◌∙◌, ℕ, List, ◌++◌, sym, ap}
use Rattle.std.specs.Prelude.{OnOk, Result, Ok, Err}
use Rattle.sil_printer.proofs.Appended.{appended_three}

module _ {T E : Type 0} where
  pub shown : (result : Result T E) (old new put text : List ℕ) → text ≡ put → OnOk result (new ≡ old ++ put) → OnOk result (new ≡ old ++ text)
  shown (Ok x) old new put text same wrote = wrote ∙ ap (λ l. old ++ l) (sym same)
  shown (Err e) old new put text same wrote = wrote

  -- in three pieces
  pub three_shown : (result : Result T E) (start first second new a b c : List ℕ) → first ≡ start ++ a → second ≡ first ++ b
      → OnOk result (new ≡ second ++ c) → OnOk result (new ≡ start ++ ((a ++ b) ++ c))
  three_shown (Ok x) start first second new a b c at_first at_second wrote = appended_three start first second new a b c at_first at_second wrote
  three_shown (Err e) start first second new a b c at_first at_second wrote = wrote
