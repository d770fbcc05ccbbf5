-- The tokens of a text as contracts of the lexer show them, one by one.
use Rattle.std.proofs.Common.{◌≡◌, ℕ, ◌+◌, ◌<◌, ◌≤◌, List, [], ◌∷◌, ◌++◌, length, take, get_or, map, ap, sym, ◌∙◌}
use Rattle.std.proofs.Math.ListN.{get_or-map}
use Rattle.std.proofs.lemmas.List.{take_all, take_more, length-map, map-append}
use Rattle.std.proofs.lemmas.Option.{slice_get-get_or, slice_get_past}
use Rattle.std.specs.List.{HoldsAt, slice_get}
use Rattle.std.specs.Prelude.{Some, None}
use Rattle.sil_ast.specs.declared.place.Place.{Place}
use Rattle.sil_lexer.specs.declared.token.Token.{Token}
use Rattle.sil_lexer.specs.declared.token.TokenKind.TheVariants.{Word}
use Rattle.sil_lexer.specs.Lexes.{Lexeme}
use Rattle.sil_lexer.specs.inner.Lexing.{Lexing, lexeme_of, lexemes_of}
use Rattle.sil_lexer.specs.Places.{place_of}
use Rattle.sil_grammar_classes.specs.declared.classes.Class.{Class}
use Rattle.sil_grammar.specs.Classes.{token_class}
use Rattle.sil_grammar.specs.inner.ClassAt.{IsClassAt}
use Rattle.sil_grammar.specs.FirstBad.{token_place}

pub some_token : Token
some_token = record { kind = Word; place = record { offset = 0; line = 0; column = 0 }; length = 0 }

pub some_lexeme : List ℕ → Lexeme
some_lexeme text = lexeme_of text some_token

pub lexeme_at : (text : List ℕ) (lexing : Lexing) (i : ℕ) → get_or (lexemes_of text lexing) i (some_lexeme text) ≡ lexeme_of text (get_or lexing.tokens i some_token)
unfolding some_lexeme
lexeme_at text lexing i = get_or-map (lexeme_of text) lexing.tokens i some_token

-- one class more, with the token at i
pub classes_more : (text : List ℕ) (lexing : Lexing) (i : ℕ) (class : Class) (classes : List Class) → i < length lexing.tokens
    → IsClassAt text lexing i class → classes ≡ map token_class (take i (lexemes_of text lexing))
    → classes ++ class ∷ [] ≡ map token_class (take (i + 1) (lexemes_of text lexing))
classes_more text lexing i class classes below class_is are =
    let lexemes : List Lexeme = lexemes_of text lexing in
    let inside : i < length lexemes = simp length-map below in
    let more : take (i + 1) lexemes ≡ take i lexemes ++ get_or lexemes i (some_lexeme text) ∷ [] = take_more lexemes i (some_lexeme text) inside in
    let here : class ≡ token_class (get_or lexemes i (some_lexeme text)) = class_is some_token ∙ ap token_class (sym (lexeme_at text lexing i)) in
    rw (more, map-append) (cc)

pub classes_all : (text : List ℕ) (lexing : Lexing) (i : ℕ) → length lexing.tokens ≤ i
    → map token_class (take i (lexemes_of text lexing)) ≡ map token_class (lexemes_of text lexing)
classes_all text lexing i past =
    let lexemes : List Lexeme = lexemes_of text lexing in
    let all : length lexemes ≤ i = simp length-map past in
    ap (map token_class) (take_all i lexemes all)

pub token_place_inside : (text : List ℕ) (lexing : Lexing) (i : ℕ) (place : Place) → i < length lexing.tokens
    → HoldsAt (λ token. place ≡ token.place) lexing.tokens i → place ≡ token_place text (lexemes_of text lexing) i
token_place_inside text lexing i place below is =
    let lexemes : List Lexeme = lexemes_of text lexing in
    let inside : i < length lexemes = simp length-map below in
    let found : slice_get lexemes i ≡ Some (get_or lexemes i (some_lexeme text)) = slice_get-get_or lexemes i (some_lexeme text) inside in
    rw found (is some_token ∙ ap (λ (l : Lexeme). l.place) (sym (lexeme_at text lexing i)))

pub token_place_past : (text : List ℕ) (lexing : Lexing) (i : ℕ) (place : Place) → length lexing.tokens ≤ i
    → place ≡ place_of text (length text) → place ≡ token_place text (lexemes_of text lexing) i
token_place_past text lexing i place past is =
    let lexemes : List Lexeme = lexemes_of text lexing in
    let all : length lexemes ≤ i = simp length-map past in
    let none : slice_get lexemes i ≡ None = slice_get_past lexemes i all in
    rw none is
