-- The mode that words ask for: it is the one that is said, and there is one alone.
use Rattle.std.proofs.Common.{◌≡◌, ◌∙◌, ℕ, Bor, List, Option, Some, None, ap, ap₂, arith, get_or, option_map, refl, subst, subst₂, sym}
use Rattle.std.specs.Prelude.{Bool, MatchOption}
use Rattle.sil_command_words.specs.CommandLines.{Says}
use Rattle.sil_command_words.specs.inner.Laws.{SayOneThing}
use Rattle.sil_command.specs.declared.words.Mode.{Mode}
use Rattle.sil_command.specs.declared.words.Mode.TheVariants.{Check, Generate, Lower, Optimize, Print, Run}
use Rattle.sil_command.specs.Words.{AsksFor, IsBoundBy, IsCommandLine, IsSizeBy, Takes, word_of}

-- the mode that is said

abbrev pub told : Option (Bor (List ℕ)) → Option (List ℕ)
told v = option_map (λ text. text.now) v

abbrev pub IsNone : List ℕ → Option (List ℕ) → Option (List ℕ) → Option (List ℕ) → Bool → Type 0
IsNone word number turns entry flag = (mode : Mode) → word ≡ word_of mode → Takes mode number turns entry flag → ⊥

abbrev pub IsSaid : List ℕ → Option (List ℕ) → Option (List ℕ) → Option (List ℕ) → Bool → Mode → Type 0
IsSaid word number turns entry flag mode = (word ≡ word_of mode) × Takes mode number turns entry flag

-- what is taken of the same number and options
taken_alike : (mode : Mode) (n k t u e f : Option (List ℕ)) (b c : Bool) → n ≡ k → t ≡ u → e ≡ f → b ≡ c → Takes mode k u f c → Takes mode n t e b
taken_alike mode n k t u e f b c number turns entry flag takes =
    subst₂ (λ x y. Takes mode n x y b) (sym turns) (sym entry) (subst₂ (λ x y. Takes mode x u f y) (sym number) (sym flag) takes)

module _ (one : SayOneThing) (words : List (List ℕ)) (word : List ℕ) (number turns entry : Option (List ℕ)) (flag : Bool)
    (says : Says words word number turns entry flag) where
  none_asked : IsNone word number turns entry flag → IsCommandLine words → ⊥
  none_asked none (mode, asks) =
      let same = one words word (word_of mode) number asks.number turns asks.turns entry asks.entry flag asks.flag says asks.says in
      none mode same.0 (taken_alike mode number asks.number turns asks.turns entry asks.entry flag asks.flag same.1 same.2 same.3 same.4 asks.takes)

  pub asked : (found : Option Mode) → MatchOption found (IsNone word number turns entry flag) (IsSaid word number turns entry flag)
      → MatchOption found (IsCommandLine words → ⊥) (AsksFor words)
  asked None none = none_asked none
  asked (Some mode) is =
      record { number = number; turns = turns; entry = entry; flag = flag; says = subst (λ w. Says words w number turns entry flag) is.0 says; takes = is.1 }

-- there is one alone

-- the words of modes begin with letters of their own
abbrev first_letter : Mode → ℕ
first_letter mode = get_or (word_of mode) 0 0

one_bound : (turns : Option (List ℕ)) (bound other : ℕ) → IsBoundBy turns bound → IsBoundBy turns other → other ≡ bound
one_bound None bound other is again = again ∙ sym is
one_bound (Some digits) bound other is again = sym again.value ∙ is.value

one_size : (number : Option (List ℕ)) (size other : ℕ) → IsSizeBy number size → IsSizeBy number other → other ≡ size
one_size None size other is again = absurd is
one_size (Some digits) size other is again = sym again.value ∙ is.value

same_run : (name other : List ℕ) (bound more : ℕ) (b c : Bool) → other ≡ name → more ≡ bound → c ≡ b → Run other more c ≡ Run name bound b
same_run name other bound more b c names bounds flags = ap₂ (λ n m. Run n m c) names bounds ∙ ap (Run name bound) flags

-- the same word, and the same number and options, are those of one mode
one_mode : (mode other : Mode) (number turns entry : Option (List ℕ)) (flag : Bool) → first_letter mode ≡ first_letter other → Takes mode number turns entry flag
    → Takes other number turns entry flag → other ≡ mode
one_mode Check Check number turns entry flag same takes again = refl
one_mode Check Print number turns entry flag same takes again = absurd (omega arith)
one_mode Check (Lower c) number turns entry flag same takes again = absurd (omega arith)
one_mode Check Optimize number turns entry flag same takes again = absurd (omega arith)
one_mode Check (Run other more c) number turns entry flag same takes again = absurd (omega arith)
one_mode Check (Generate another) number turns entry flag same takes again = absurd (omega arith)
one_mode Print Check number turns entry flag same takes again = absurd (omega arith)
one_mode Print Print number turns entry flag same takes again = refl
one_mode Print (Lower c) number turns entry flag same takes again = absurd (omega arith)
one_mode Print Optimize number turns entry flag same takes again = absurd (omega arith)
one_mode Print (Run other more c) number turns entry flag same takes again = absurd (omega arith)
one_mode Print (Generate another) number turns entry flag same takes again = absurd (omega arith)
one_mode (Lower b) Check number turns entry flag same takes again = absurd (omega arith)
one_mode (Lower b) Print number turns entry flag same takes again = absurd (omega arith)
one_mode (Lower b) (Lower c) number turns entry flag same takes again = ap Lower (sym again.3 ∙ takes.3)
one_mode (Lower b) Optimize number turns entry flag same takes again = absurd (omega arith)
one_mode (Lower b) (Run other more c) number turns entry flag same takes again = absurd (omega arith)
one_mode (Lower b) (Generate another) number turns entry flag same takes again = absurd (omega arith)
one_mode Optimize Check number turns entry flag same takes again = absurd (omega arith)
one_mode Optimize Print number turns entry flag same takes again = absurd (omega arith)
one_mode Optimize (Lower c) number turns entry flag same takes again = absurd (omega arith)
one_mode Optimize Optimize number turns entry flag same takes again = refl
one_mode Optimize (Run other more c) number turns entry flag same takes again = absurd (omega arith)
one_mode Optimize (Generate another) number turns entry flag same takes again = absurd (omega arith)
one_mode (Run name bound b) Check number turns entry flag same takes again = absurd (omega arith)
one_mode (Run name bound b) Print number turns entry flag same takes again = absurd (omega arith)
one_mode (Run name bound b) (Lower c) number turns entry flag same takes again = absurd (omega arith)
one_mode (Run name bound b) Optimize number turns entry flag same takes again = absurd (omega arith)
one_mode (Run name bound b) (Run other more c) number turns entry flag same takes again =
    same_run name other bound more b c (again.2 ∙ sym takes.2) (one_bound turns bound more takes.1 again.1) (sym again.3 ∙ takes.3)
one_mode (Run name bound b) (Generate another) number turns entry flag same takes again = absurd (omega arith)
one_mode (Generate size) Check number turns entry flag same takes again = absurd (omega arith)
one_mode (Generate size) Print number turns entry flag same takes again = absurd (omega arith)
one_mode (Generate size) (Lower c) number turns entry flag same takes again = absurd (omega arith)
one_mode (Generate size) Optimize number turns entry flag same takes again = absurd (omega arith)
one_mode (Generate size) (Run other more c) number turns entry flag same takes again = absurd (omega arith)
one_mode (Generate size) (Generate another) number turns entry flag same takes again = ap Generate (one_size number size another takes.0 again.0)

-- the same words ask for one mode
pub asks_for_one : SayOneThing → (words : List (List ℕ)) (mode other : Mode) → AsksFor words mode → AsksFor words other → other ≡ mode
asks_for_one one words mode other asks again =
    let same = one words (word_of mode) (word_of other) asks.number again.number asks.turns again.turns asks.entry again.entry asks.flag again.flag
    asks.says again.says in
    one_mode mode other asks.number asks.turns asks.entry asks.flag (ap (λ word. get_or word 0 0) same.0) asks.takes
    (taken_alike other asks.number again.number asks.turns again.turns asks.entry again.entry asks.flag again.flag same.1 same.2 same.3 same.4 again.takes)
