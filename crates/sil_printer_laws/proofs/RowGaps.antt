-- What stands between the parts of a row, in the text and in the grammar.
use Rattle.std.proofs.Common.{◌≡◌, ℕ, List, [], ◌∷◌, ◌++◌, Option, Some, None, Bool, true, false, IsTrue, IsFalse, refl, ap, sym, subst, codes, if◌then◌else◌, ◌&&◌, ◌∙◌}
use Rattle.std.specs.Prelude.{not}
use Rattle.std.proofs.lemmas.List.{append_assoc, append-nil}
use Rattle.instruction_table.specs.Forms.{is_item}
use Rattle.instruction_table.specs.declared.forms.Part.{Part}
use Rattle.instruction_table.specs.declared.forms.Part.TheVariants as part
use Rattle.instruction_table.specs.declared.op.Op.{Op}
use Rattle.sil_printer.specs.CanonicalInsts.{gap}
use Rattle.sil_grammar_tables.specs.Rows.{brings_comma, comma_behind, comma_between, parts_row, symbols_of}
use Rattle.sil_grammar_tables.specs.Terminals.{punctuation}
use Rattle.sil_grammar_tables.specs.declared.grammar.Symbol.{Symbol}
use Rattle.sil_grammar_tables.specs.declared.grammar.Symbol.TheVariants.{Read}
use Rattle.sil_grammar_classes.specs.Spelling.{punctuation_of, punctuation_spelling, signs}
use Rattle.sil_grammar_classes.specs.declared.classes.Punctuation.TheVariants as m
use Rattle.sil_grammar_values.specs.Opened.{PartValue}
use Rattle.numbered_form.specs.inner.Parts.{is_text}
use Rattle.sil_printer_laws.proofs.OperandForms.{impossible}
use Rattle.sil_printer_laws.proofs.Pieces.{Reads, Reads as reads}
use Rattle.sil_printer_laws.proofs.Tokens.{punctuation_token}

-- the part before, of parts with the last one first
abbrev pub last_of : List Part → Option Part
last_of [] = None
last_of (before ∷ done) = Some before

-- the comma before a part
abbrev pub comma_before : Op → List Part → Part → List Symbol
comma_before o [] here = []
comma_before o (before ∷ done) here = comma_between o before here

-- the comma before the first of some parts
abbrev pub comma_first : Op → List Part → List Part → List Symbol
comma_first o [] parts = []
comma_first o (before ∷ done) parts = comma_behind o before parts

-- parts behind others, each with the comma before it
abbrev pub parts_behind : Op → List Part → List Part → List Symbol
parts_behind o done [] = []
parts_behind o done (here ∷ others) = comma_before o done here ++ (symbols_of o here ++ parts_behind o (here ∷ done) others)

pub comma_first_is : (o : Op) (done : List Part) (here : Part) (others : List Part) → comma_first o done (here ∷ others) ≡ comma_before o done here
unfolding comma_behind
comma_first_is o [] here others = refl
comma_first_is o (before ∷ done) here others = refl

-- it makes no difference whether a comma stands with the part before it or behind it
with_first : (o : Op) (here : Part) (done others : List Part) → parts_row o (here ∷ others) ≡ symbols_of o here ++ parts_behind o (here ∷ done) others
unfolding parts_row comma_behind
with_first o here done [] = append-nil (symbols_of o here ++ [])
with_first o here done (next ∷ others) =
    append_assoc (symbols_of o here) (comma_between o here next) (parts_row o (next ∷ others))
    ∙ ap (λ back. symbols_of o here ++ (comma_between o here next ++ back)) (with_first o next (here ∷ done) others)

pub parts_row_is : (o : Op) (parts : List Part) → parts_row o parts ≡ parts_behind o [] parts
unfolding parts_row
parts_row_is o [] = refl
parts_row_is o (here ∷ others) = with_first o here [] others

-- a comma or a blank, in front of a part
pub record ReadsGap (text : List ℕ) (ss : List Symbol) (left middle : List ℕ) : Type 0 where
  pub values : List PartValue
  pub reads : Reads text ss left values middle

no_item : (a : Bool) → (a && false) ≡ false
no_item true = refl
no_item false = refl

-- what is no item has no comma before it
pub no_comma : (o : Op) (done : List Part) (here : Part) → IsFalse (is_item here) → comma_before o done here ≡ []
unfolding comma_between
no_comma o [] here other = refl
no_comma o (before ∷ done) here other =
    ap (λ item. if is_item before && item && not (brings_comma o here) then Read (punctuation m.Comma) ∷ [] else []) other
    ∙ ap (λ both. if both && not (brings_comma o here) then Read (punctuation m.Comma) ∷ [] else []) (no_item (is_item before))

-- nor has what brings its own
pub own_comma : (o : Op) (done : List Part) (here : Part) → IsTrue (brings_comma o here) → comma_before o done here ≡ []
unfolding comma_between
own_comma o [] here own = refl
own_comma o (before ∷ done) here own =
    ap (λ own. if is_item before && is_item here && not own then Read (punctuation m.Comma) ∷ [] else []) own
    ∙ ap (λ both. if both then Read (punctuation m.Comma) ∷ [] else []) (no_item (is_item before && is_item here))

pub no_gap : (text : List ℕ) (o : Op) (done : List Part) (here : Part) (left : List ℕ) → comma_before o done here ≡ [] → Reads text (comma_before o done here) left [] left
no_gap text o done here left none = subst (λ ss. Reads text ss left [] left) (sym none) reads.nothing

-- the part stands behind a blank, or behind a comma and a blank
abbrev pub is_led : List Part → Part → Bool
is_led done part.Typed = true
is_led done part.Bare = true
is_led done part.To = true
is_led done part.TypeWord = true
is_led done part.Member = true
is_led done part.Number = true
is_led done part.Text = true
is_led done part.Callee = true
is_led done part.Edges = true
is_led [] part.TypedArgs = true
is_led (before ∷ done) part.TypedArgs = not (is_text before)
is_led done _ = false

pub first_gap : (here : Part) → IsTrue (is_led [] here) → gap None here ≡ codes " "
first_gap part.Flags led = impossible led
first_gap part.Qualifier led = impossible led
first_gap part.Debug led = impossible led
first_gap part.BareArgs led = impossible led
first_gap part.ResultType led = impossible led
first_gap part.SignatureWord led = impossible led
first_gap _ led = refl

args_gap : (before : Part) → IsTrue (not (is_text before)) → gap (Some before) part.TypedArgs ≡ (if is_item before && false then codes ", " else codes " ")
args_gap part.Text led = impossible led
args_gap _ led = refl

pub next_gap : (before here : Part) (done : List Part) → IsTrue (is_led (before ∷ done) here) → gap (Some before) here ≡ (if is_item before && is_item here then codes ", " else codes " ")
next_gap before part.Flags done led = impossible led
next_gap before part.Qualifier done led = impossible led
next_gap before part.Debug done led = impossible led
next_gap before part.BareArgs done led = impossible led
next_gap before part.ResultType done led = impossible led
next_gap before part.SignatureWord done led = impossible led
next_gap before part.TypedArgs done led = args_gap before led
next_gap before _ done led = refl

-- the operand that brings its own comma stands behind an item
abbrev pub is_behind_item : List Part → Bool
is_behind_item [] = false
is_behind_item (before ∷ done) = is_item before

pub comma_gap : (done : List Part) → IsTrue (is_behind_item done) → gap (last_of done) part.Typed ≡ codes ", "
comma_gap [] behind = impossible behind
comma_gap (before ∷ done) behind = ap (λ item. if item && true then codes ", " else codes " ") behind

module _ (text : List ℕ) where
  gap_reads_by : (a b : Bool) (left : List ℕ)
      → ReadsGap text (if a && b && true then Read (punctuation m.Comma) ∷ [] else []) ((if a && b then codes ", " else codes " ") ++ left) left
  unfolding punctuation_of punctuation_spelling signs
  gap_reads_by true true left = record { values = _; reads = punctuation_token 44 refl refl (reads.blank 32 refl reads.nothing) }
  gap_reads_by true false left = record { values = []; reads = reads.blank 32 refl reads.nothing }
  gap_reads_by false b left = record { values = []; reads = reads.blank 32 refl reads.nothing }

  pub gap_reads : (o : Op) (done : List Part) (here : Part) (left : List ℕ) → IsTrue (is_led done here) → IsFalse (brings_comma o here)
      → ReadsGap text (comma_before o done here) (gap (last_of done) here ++ left) left
  unfolding comma_between
  gap_reads o [] here left led own = rw (first_gap here led) (record { values = []; reads = reads.blank 32 refl reads.nothing })
  gap_reads o (before ∷ done) here left led own = rw (next_gap before here done led, own) (gap_reads_by (is_item before) (is_item here) left)
