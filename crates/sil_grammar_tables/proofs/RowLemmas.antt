-- A row is its mnemonic and then what each of its parts writes, from any part on.
use Rattle.std.proofs.Common.{◌≡◌, ℕ, ◌+◌, ◌-◌, ◌<◌, ◌≤◌, List, [], ◌∷◌, ◌++◌, length, take, drop, get_or, refl, ap, sym, ◌∙◌, append_assoc, length-append, length-drop, arith, true}
use Rattle.std.specs.Prelude.{nat_lt, reverse}
use Rattle.std.proofs.lemmas.Bool.{ltb-true}
use Rattle.std.proofs.lemmas.List.{drop_all, drop_more, reverse-append, take_all}
use Rattle.instruction_table.specs.declared.forms.Part.{Part}
use Rattle.instruction_table.specs.declared.op.Op.{Op}
use Rattle.instruction_table.specs.declared.op.Op.TheVariants as op
use Rattle.instruction_table.specs.Forms.{parts_of}
use Rattle.sil_grammar_classes.specs.declared.classes.Keyword.TheVariants as k
use Rattle.sil_grammar_tables.specs.declared.grammar.Symbol.{Symbol}
use Rattle.sil_grammar_tables.specs.declared.grammar.Symbol.TheVariants.{Read}
use Rattle.sil_grammar_tables.specs.Rows.{comma_behind, parts_row, row_body, symbols_of}
use Rattle.sil_grammar_tables.proofs.Unfolded.{rows}
use Rattle.sil_grammar_tables.specs.Terminals.{word}

-- a slice up to the end
rest_of : {X : Type 0} (xs : List X) (i : ℕ) → take (length xs - i) (drop i xs) ≡ drop i xs
rest_of xs i = take_all (length xs - i) (drop i xs) (omega (arith, length-drop i xs))

module _ (o : Op) (parts : List Part) (i : ℕ) (d : Part) (inside : i < length parts) where
  -- the part at a place writes its symbols, a comma or none, and then what the parts behind it write
  parts_row-at : parts_row o (drop i parts) ≡ symbols_of o (get_or parts i d)
      ++ comma_behind o (get_or parts i d) (take (length parts - (i + 1)) (drop (i + 1) parts)) ++ parts_row o (drop (i + 1) parts)
  unfolding parts_row
  parts_row-at =
      ap (parts_row o) (drop_more parts i d inside)
      ∙ ap (λ others. symbols_of o (get_or parts i d) ++ comma_behind o (get_or parts i d) others ++ parts_row o (drop (i + 1) parts)) (sym (rest_of parts (i + 1)))

  pub pushed_part : (first : List Symbol) {stack between new symbols comma : List Symbol}
      → stack ≡ parts_row o (drop (i + 1) parts) ++ first
      → comma ≡ comma_behind o (get_or parts i d) (take (length parts - (i + 1)) (drop (i + 1) parts)) → between ≡ comma ++ stack
      → symbols ≡ symbols_of o (get_or parts i d) → new ≡ symbols ++ between
      → new ≡ parts_row o (drop i parts) ++ first
  pushed_part first before comma_is between_is symbols_are new_is =
      let mine = symbols_of o (get_or parts i d) in
      let behind = comma_behind o (get_or parts i d) (take (length parts - (i + 1)) (drop (i + 1) parts)) in
      let others = parts_row o (drop (i + 1) parts) in
      let pushed : mine ++ (behind ++ (others ++ first)) ≡ parts_row o (drop i parts) ++ first =
      sym (append_assoc mine behind (others ++ first)) ∙ sym (append_assoc (mine ++ behind) others first) ∙ ap (λ l. l ++ first) (sym parts_row-at) in
      rw (new_is, symbols_are, between_is, comma_is, before) pushed

  pub length-part : {symbols comma : List Symbol}
      → symbols ≡ symbols_of o (get_or parts i d) → comma ≡ comma_behind o (get_or parts i d) (take (length parts - (i + 1)) (drop (i + 1) parts))
      → length (parts_row o (drop i parts)) ≡ length symbols + length comma + length (parts_row o (drop (i + 1) parts))
  length-part symbols_are comma_is =
      let mine = symbols_of o (get_or parts i d) in
      let behind = comma_behind o (get_or parts i d) (take (length parts - (i + 1)) (drop (i + 1) parts)) in
      let others = parts_row o (drop (i + 1) parts) in
      omega (arith, ap length parts_row-at, length-append (mine ++ behind) others, length-append mine behind, ap length symbols_are, ap length comma_is)

-- behind the last part nothing is left
pub parts_row-end : (o : Op) (parts : List Part) (i : ℕ) → length parts ≤ i → parts_row o (drop i parts) ≡ []
unfolding parts_row
parts_row-end o parts i h = ap (parts_row o) (drop_all i parts h)

-- the mnemonic stands first
pub pushed_row : (o : Op) (stack first : List Symbol) {parts : List Part} {new : List Symbol}
    → parts ≡ parts_of o → reverse stack ≡ parts_row o parts ++ first → new ≡ stack ++ Read (word (k.Mnemonic o)) ∷ [] → reverse new ≡ row_body o ++ first
unfolding row_body
pushed_row o stack first parts_are before new_is =
    let mnemonic = Read (word (k.Mnemonic o)) in
    ap reverse new_is ∙ reverse-append stack (mnemonic ∷ []) ∙ ap (λ l. mnemonic ∷ l) (before ∙ ap (λ l. parts_row o l ++ first) parts_are)

computed_short : (o : Op) → nat_lt (length (row_body o)) 16 ≡ true
unfolding rows
computed_short op.IntegerLiteral = refl
computed_short _ = refl

pub short_row : (o : Op) → length (row_body o) < 16
short_row o = ltb-true (length (row_body o)) 16 (computed_short o)

pub length-row_body : (o : Op) {parts : List Part} → parts ≡ parts_of o → 1 + length (parts_row o parts) ≡ length (row_body o)
unfolding row_body
length-row_body o h = omega (arith, ap (λ l. length (parts_row o l)) h)
