-- Tokens have shape up to the end of their text, or the text has a first bad place: for `shape_by`.
use Rattle.std.proofs.Common.{◌≡◌, ℕ, ◌+◌, ◌<◌, ◌≤◌, List, [], ◌++◌, length, map, reverse, take, Option, Some, None, Vec, Global, arith, ap, refl, sym, subst, ◌∙◌}
use Rattle.std.specs.Prelude.{MatchOption}
use Rattle.std.proofs.lemmas.List.{append-nil, length-map, length-take-le, take_all, take-map}
use Rattle.sil_lexer.specs.declared.token.LexRefusal.{LexRefusal}
use Rattle.sil_lexer.specs.Lexes.{Lexes}
use Rattle.sil_lexer.specs.inner.Lexing.{Lexing, IsLexingOf, lexeme_of, lexemes_of}
use Rattle.sil_grammar_classes.specs.declared.classes.Class.{Class}
use Rattle.sil_grammar_shape.specs.declared.steps.Step.{Step}
use Rattle.sil_grammar_shape.specs.declared.steps.Front.{Front}
use Rattle.sil_grammar_tables.specs.declared.grammar.Symbol.{Symbol}
use Rattle.sil_grammar_shape.specs.inner.Begun.{LeadsTo}
use Rattle.sil_grammar_shape.specs.Derivation.{BeginsShape, Derives, nothing, start, IsDerivation, HasShape, IsFirstBad}
use Rattle.sil_grammar_shape.specs.inner.Values.{takes_of}
use Rattle.sil_grammar_shape.proofs.DerivedOnce.{no_first_bad}
use Rattle.sil_grammar.specs.declared.first_bad.BadPlace.{BadPlace}
use Rattle.sil_grammar.specs.declared.first_bad.Shape.{Shape}
use Rattle.sil_grammar.specs.declared.first_bad.Shape.TheVariants.{Whole, Broken}
use Rattle.sil_grammar.specs.Classes.{token_class}
use Rattle.sil_grammar.specs.FirstBad as text_shape
use Rattle.sil_grammar.specs.FirstBad.{bad_stop, IsFirstBadPlace}
use Rattle.sil_grammar.specs.inner.Shape.{IsBroken, IsShapeOf, IsWhole}
use Rattle.sil_grammar.proofs.FirstBadLemmas.{stop_first}

length-classes : (text : List ℕ) (lexing : Lexing) → length (map token_class (lexemes_of text lexing)) ≡ length lexing.tokens
length-classes text lexing = length-map (lexemes_of text lexing) token_class ∙ length-map lexing.tokens (lexeme_of text)

-- as many classes as tokens
pub length-front : (text : List ℕ) (lexing : Lexing) (count : ℕ) → count ≤ length lexing.tokens → length (map token_class (take count (lexemes_of text lexing))) ≡ count
length-front text lexing count inside =
    length-map (take count (lexemes_of text lexing)) token_class
    ∙ length-take-le count (lexemes_of text lexing) (omega (arith, inside, length-map lexing.tokens (lexeme_of text)))

pub take-classes : (text : List ℕ) (lexing : Lexing) (count : ℕ)
    → take count (map token_class (lexemes_of text lexing)) ≡ map token_class (take count (lexemes_of text lexing))
take-classes text lexing count = take-map token_class count (lexemes_of text lexing)

-- a class with which no list that has shape goes on
pub broken_at : (text : List ℕ) (lexing : Lexing) (classes : List Class) (bad : BadPlace) (count : ℕ) (front : Front)
    → classes ≡ map token_class (lexemes_of text lexing) → IsFirstBad classes count × LeadsTo (take count classes) front.steps.items (reverse front.left.items)
    → IsFirstBadPlace text bad → IsBroken text lexing bad count front
broken_at text lexing classes bad count front same refused first =
    let here = subst (λ ks. IsFirstBad ks count) same refused.0 in
    let leads = subst (λ ks. LeadsTo (take count ks) front.steps.items (reverse front.left.items)) same refused.1 in
    record {
      first = first;
      inside = subst (λ n. count ≤ n) (length-classes text lexing) here.inside;
      most = λ below. subst (λ ks. BeginsShape ks → ⊥) (take-classes text lexing (count + 1)) (here.bad (subst (λ n. count < n) (sym (length-classes text lexing)) below));
      leads = subst (λ ks. LeadsTo ks front.steps.items (reverse front.left.items)) (take-classes text lexing count) leads;
    }

-- nothing is left behind a whole derivation
nothing_more : {classes more : List Class} {steps rest : List Step} → Derives start classes steps → Derives [] more rest → Derives start (classes ++ more) (steps ++ rest)
nothing_more {classes = classes} {steps = steps} d nothing = rw (append-nil classes, append-nil steps) d

none_left : (classes : List Class) (steps : List Step) (left : List Symbol) → left ≡ [] → Derives start classes steps → LeadsTo classes steps left
none_left classes steps left empty d more rest behind = nothing_more d (subst (λ ss. Derives ss more rest) empty behind)

-- a derivation goes to the end of the text, or to where its tokens stop
pub shaped : (text : List ℕ) (lexing : Lexing) (classes : List Class) (steps : Vec Step Global) (shape : Shape)
    → IsLexingOf text lexing → classes ≡ map token_class (lexemes_of text lexing)
    → IsDerivation classes steps.items → takes_of steps.items ≡ length classes
    → MatchOption lexing.stop (shape ≡ Whole steps)
    (λ stop. (front : Front) × (shape ≡ Broken (bad_stop stop) (length lexing.tokens) front) × (front.steps ≡ steps) × (front.left.items ≡ []))
    → IsShapeOf text lexing shape
shaped text lexing classes steps shape is same derived taken told = by lexing.stop refl told
  where
    here : IsDerivation (map token_class (lexemes_of text lexing)) steps.items
    here = subst (λ ks. IsDerivation ks steps.items) same derived

    good : HasShape (map token_class (lexemes_of text lexing))
    good = (steps.items, here.derives)

    all : take (length lexing.tokens) (map token_class (lexemes_of text lexing)) ≡ map token_class (take (length lexing.tokens) (lexemes_of text lexing))
    all = take-classes text lexing (length lexing.tokens)

    every : map token_class (lexemes_of text lexing) ≡ map token_class (take (length lexing.tokens) (lexemes_of text lexing))
    every = sym (take_all (length lexing.tokens) (map token_class (lexemes_of text lexing)) (omega (arith, length-classes text lexing))) ∙ all

    by : (stop : Option LexRefusal) → lexing.stop ≡ stop
        → MatchOption stop (shape ≡ Whole steps)
        (λ stop. (front : Front) × (shape ≡ Broken (bad_stop stop) (length lexing.tokens) front) × (front.steps ≡ steps) × (front.left.items ≡ []))
        → IsShapeOf text lexing shape
    by None reached told = subst (IsShapeOf text lexing) (sym told) (record {
      reached = reached;
      derived = here;
      taken = taken ∙ ap length same ∙ length-classes text lexing;
    })
    by (Some stop) stops told = subst (IsShapeOf text lexing) (sym told.1) (record {
      first = stop_first text lexing is stop stops (λ i bad. absurd (no_first_bad (map token_class (lexemes_of text lexing)) i good bad));
      inside = omega arith;
      most = λ below. absurd (omega (arith, below));
      leads = none_left (map token_class (take (length lexing.tokens) (lexemes_of text lexing))) told.0.steps.items (reverse told.0.left.items) (ap reverse told.3)
          (subst (λ ks. Derives start ks told.0.steps.items) every (subst (λ s. Derives start (map token_class (lexemes_of text lexing)) s.items) (sym told.2) here.derives));
    })

-- steps that derive the tokens of a whole text
pub whole_shape : (text : List ℕ) (lexing : Lexing) (steps : List Step) → IsLexingOf text lexing → IsWhole text lexing steps → text_shape.HasShape text
whole_shape text lexing steps is whole = record {
  lexemes = lexemes_of text lexing;
  lexed = subst (Lexes text text (lexemes_of text lexing)) whole.reached is.lexed;
  shape = (steps, whole.derived.derives);
}
