-- Each token keeps of its bytes what its class asks for, so that a module that a text spells is in numbered form.
use Rattle.std.proofs.Common.{◌≡◌, ℕ, ◌-◌, ◌≤◌, List, [], ◌∷◌, ◌++◌, length, map, Bool, true, false, ◌&&◌, Option, Some, None, ap, refl, sym, subst, ◌∙◌, arith, length-append, le-leb}
use Rattle.std.proofs.Math.Seq.{take-append_seam}
use Rattle.std.specs.List.{list_all}
use Rattle.sil_lexer.specs.declared.token.LexRefusal.{LexRefusal}
use Rattle.sil_lexer.specs.declared.token.TokenKind.{TokenKind}
use Rattle.sil_ast.specs.TextBytes.Bytes.{is_name_byte, is_word_start}
use Rattle.sil_lexer.specs.Lexes.{Lexeme, Lexes, end, token, stop}
use Rattle.sil_lexer.specs.Spelling.{Spells, arrow, at_name, name_length, negative, number, percent, punctuation, quoted, without_quotes, word}
use Rattle.sil_grammar_classes.specs.declared.classes.Punctuation as sign
use Rattle.instruction_table.specs.BuiltinNames.BuiltinNames.{is_builtin_name}
use Rattle.sil_grammar_classes.specs.Spelling.{punctuation_of}
use Rattle.sil_grammar_modules.specs.Leaves.{kept_of}
use Rattle.numbered_form.specs.Names.{is_quotable, is_short}
use Rattle.numbered_form.specs.inner.NumberedForm.{IsNumbered}
use Rattle.sil_grammar.specs.NumberedReadingLaws.inner.Leaves.{AreOfClasses, IsTextOf}
use Rattle.sil_grammar.proofs.NumberedReadingLaws.ListsAndFaults.{both}
use Rattle.sil_grammar.proofs.NumberedReadingLaws.Numbered.{written_numbered}
use Rattle.sil_grammar.specs.Classes.{class_by, punctuation_class, text_class, token_class}
use Rattle.sil_grammar.specs.inner.Laws.{AreSpelledNumbered}
use Rattle.sil_grammar.proofs.ReplayedSpelling.{replayed}

pub between_quotes : (inside : List ℕ) → without_quotes (34 ∷ inside ++ 34 ∷ []) ≡ inside
between_quotes inside =
    let n : length (34 ∷ inside ++ 34 ∷ []) - 1 - 1 ≡ length inside = omega (arith, length-append inside (34 ∷ [])) in
    rw n (take-append_seam inside (34 ∷ []))

text_of : (known : Bool) (text : List ℕ) → is_builtin_name text ≡ known → is_quotable text ≡ true → IsTextOf (text_class known) text
text_of true text e quotable = record { quotable = quotable; known = e }
text_of false text e quotable = quotable

punctuation_text : (m : Option sign.Punctuation) → IsTextOf (punctuation_class m) []
punctuation_text (Some m) = tt
punctuation_text None = refl

-- the text that a token keeps is one of its class
kept_text : (k : TokenKind) (spelling : List ℕ) → Spells k spelling → name_length k spelling ≤ 255 → IsTextOf (class_by k spelling) (kept_of k spelling)
unfolding class_by kept_of
kept_text k spelling (word first more start rest) short =
    both (is_word_start first && list_all is_name_byte more) (is_short (first ∷ more))
    (both (is_word_start first) (list_all is_name_byte more) start rest)
    (le-leb (length (first ∷ more)) 255 short)
kept_text k spelling (at_name first more bytes) short =
    let few : length (first ∷ more) ≤ 255 = omega arith in
    both (list_all is_name_byte (first ∷ more)) (is_short (first ∷ more)) bytes (le-leb (length (first ∷ more)) 255 few)
kept_text k spelling (percent _ _ _) short = tt
kept_text k spelling (number _ _ _) short = tt
kept_text k spelling (negative _ _ _) short = tt
kept_text k spelling (quoted inside bytes) short =
    let kept : List ℕ = without_quotes (34 ∷ inside ++ 34 ∷ []) in
    text_of (is_builtin_name kept) kept refl (ap is_quotable (between_quotes inside) ∙ bytes)
kept_text k spelling (punctuation byte _) short = punctuation_text (punctuation_of (byte ∷ []))
kept_text k spelling arrow short = punctuation_text (punctuation_of (45 ∷ 62 ∷ []))

lexed_classes : (all left : List ℕ) (lexemes : List Lexeme) (refusal : Option LexRefusal) → Lexes all left lexemes refusal → AreOfClasses (map token_class lexemes) lexemes
lexed_classes all left lexemes refusal (end _ _) = tt
lexed_classes all left lexemes refusal (token _ spelling after k more _ skipped spelled short rest) = (kept_text k spelling spelled.spelled short, lexed_classes all after more refusal rest)
lexed_classes all left lexemes refusal (stop _ _ _ _ _) = tt

pub spelled_numbered : AreSpelledNumbered
spelled_numbered m bytes h =
    let s = h.spells in
    let r = replayed s in
    let leaves : AreOfClasses (map token_class s.lexemes) s.lexemes = lexed_classes bytes bytes s.lexemes None s.lexed in
    subst IsNumbered (sym h.numbered) (written_numbered (map token_class s.lexemes) s.lexemes r.steps h.written
    (record { leaves = leaves; derived = r.derived; no_fault = r.no_fault; writes = r.same; names = h.names }))
