-- A text has shape, or it has one first bad place: for `first_bad_place`.
use Rattle.std.proofs.Common.{◌≡◌, ◌↔◌, ℕ, ◌+◌, ◌-◌, ◌<◌, ◌≤◌, List, [], ◌∷◌, length, drop, map, get_or, All, refl, ap, sym, subst, ◌∙◌, arith, inl, inr, length-take}
use Rattle.std.specs.Prelude.{Option, Some, None, IsNone, MatchOption}
use Rattle.std.specs.Option.{option_map_or}
use Rattle.std.proofs.Math.Nat.{eq-or-lt_of_le}
use Rattle.std.proofs.lemmas.List.{length-map}
use Rattle.std.proofs.lemmas.List.Elements.{All-nil, All-cons, All-get_or}
use Rattle.std.proofs.lemmas.Option.{slice_get-get_or}
use Rattle.std.proofs.lemmas.Option.{same_Some}
use Rattle.sil_ast.specs.declared.place.Place.{Place}
use Rattle.sil_lexer.specs.declared.token.LexRefusal.{LexRefusal}
use Rattle.sil_lexer.specs.declared.token.LexRefusal.TheVariants as stop
use Rattle.sil_lexer.specs.declared.token.Token.{Token}
use Rattle.sil_lexer.specs.Lexes.{Lexeme, Lexes, end, token, stop}
use Rattle.sil_lexer.specs.inner.Lexing.{Lexing, IsLexingOf, AreInOrder, lexeme_of, lexemes_of, refusal_place, spelling_of}
use Rattle.sil_lexer.specs.Places.{place_of}
use Rattle.sil_lexer.proofs.OrderLemmas.{in_order}
use Rattle.sil_lexer.proofs.SpellLemmas.{spelling_some}
use Rattle.sil_lexer.proofs.UniqueLemmas.{one_way}
use Rattle.sil_grammar_shape.specs.Derivation.{IsFirstBad}
use Rattle.sil_grammar_shape.specs.Unsupported.{IsUnsupported}
use Rattle.sil_grammar.specs.declared.first_bad.BadKind.{BadKind}
use Rattle.sil_grammar.specs.declared.first_bad.BadKind.TheVariants.{Unsupported, Unexpected}
use Rattle.sil_grammar.specs.declared.first_bad.BadPlace.{BadPlace}
use Rattle.sil_grammar.specs.Classes.{token_class}
use Rattle.sil_grammar.specs.FirstBad.{HasShape, IsBadToken, IsBadPlace, lexical, unsupported, unexpected, bad_stop, rank, IsNoLater, IsFirstBadPlace}
use Rattle.sil_grammar.specs.FirstBad.{token_place}
use Rattle.sil_grammar_shape.proofs.DerivedOnce.{first_bad_once, no_first_bad}
use Rattle.sil_grammar.proofs.LexemeLemmas.{some_token, some_lexeme, lexeme_at}

-- tokens in order end before the stop
ends_before : (from : ℕ) (tokens : List Token) (refusal : LexRefusal) → AreInOrder from tokens (Some refusal)
    → (from ≤ (refusal_place refusal).offset) × All (λ (t : Token). t.place.offset + t.length ≤ (refusal_place refusal).offset) tokens
ends_before from [] refusal ordered = (ordered, All-nil (λ (t : Token). t.place.offset + t.length ≤ (refusal_place refusal).offset))
ends_before from (t ∷ tokens) refusal ordered =
    let later = ends_before (t.place.offset + t.length) tokens refusal ordered.1 in
    (omega (arith, ordered.0, later.0), All-cons (λ (t : Token). t.place.offset + t.length ≤ (refusal_place refusal).offset) t tokens later.0 later.1)

some_bytes : {text left : List ℕ} {lexemes : List Lexeme} {refusal : Option LexRefusal} → Lexes text left lexemes refusal
    → All (λ (l : Lexeme). 0 < length l.spelling) lexemes
some_bytes (end _ _) = All-nil (λ (l : Lexeme). 0 < length l.spelling)
some_bytes (token _ spelling _ kind _ _ _ spelled _ next) =
    All-cons (λ (l : Lexeme). 0 < length l.spelling) _ _ (spelling_some kind spelling spelled.spelled) (some_bytes next)
some_bytes (stop _ _ _ _ _) = All-nil (λ (l : Lexeme). 0 < length l.spelling)

length-spelling_of : (text : List ℕ) (t : Token) → length (spelling_of text t) ≤ t.length
length-spelling_of text t = omega (arith, length-take (t.place.offset + t.length - t.place.offset) (drop t.place.offset text))

-- a token begins before the stop
begins_before : (text : List ℕ) (lexing : Lexing) (i : ℕ) (refusal : LexRefusal) → IsLexingOf text lexing → lexing.stop ≡ Some refusal → i < length lexing.tokens
    → (token_place text (lexemes_of text lexing) i).offset < (refusal_place refusal).offset
begins_before text lexing i refusal is stops below =
    let lexemes : List Lexeme = lexemes_of text lexing in
    let t : Token = get_or lexing.tokens i some_token in
    let inside : i < length lexemes = simp length-map below in
    let ordered : AreInOrder 0 lexing.tokens (Some refusal) = subst (AreInOrder 0 lexing.tokens) stops (in_order text lexing is) in
    let ends : t.place.offset + t.length ≤ (refusal_place refusal).offset =
    All-get_or (λ (t : Token). t.place.offset + t.length ≤ (refusal_place refusal).offset) lexing.tokens i some_token below (ends_before 0 lexing.tokens refusal ordered).1 in
    let same : get_or lexemes i (some_lexeme text) ≡ lexeme_of text t = lexeme_at text lexing i in
    let some : 0 < length (spelling_of text t) =
    subst (λ (l : Lexeme). 0 < length l.spelling) same (All-get_or (λ (l : Lexeme). 0 < length l.spelling) lexemes i (some_lexeme text) inside (some_bytes is.lexed)) in
    let there : token_place text lexemes i ≡ t.place =
    ap (λ o. option_map_or (λ (l : Lexeme). l.place) o (place_of text (length text))) (slice_get-get_or lexemes i (some_lexeme text) inside)
    ∙ ap (λ (l : Lexeme). l.place) same in
    let offset : (token_place text lexemes i).offset ≡ t.place.offset = ap (λ (p : Place). p.offset) there in
    omega (arith, ends, some, offset, length-spelling_of text t)

place-bad_stop : (refusal : LexRefusal) → (bad_stop refusal).place ≡ refusal_place refusal
place-bad_stop (stop.BadByte at) = refl
place-bad_stop (stop.UnclosedText at) = refl
place-bad_stop (stop.NameTooLong at) = refl

rank-bad_stop : (refusal : LexRefusal) → rank (bad_stop refusal).kind ≡ 0
rank-bad_stop (stop.BadByte at) = refl
rank-bad_stop (stop.UnclosedText at) = refl
rank-bad_stop (stop.NameTooLong at) = refl

-- what another cut of the text says of a bad token is so of this one
record IsBadHere (text : List ℕ) (lexing : Lexing) (others : List Lexeme) (i : ℕ) : Type 0 where
  pub tokens : others ≡ lexemes_of text lexing
  pub first_bad : IsFirstBad (map token_class (lexemes_of text lexing)) i
  pub reached : i ≡ length lexing.tokens → lexing.stop ≡ None

module _ (text : List ℕ) (lexing : Lexing) (is : IsLexingOf text lexing) where
  same_lexing : (others : List Lexeme) (other : Option LexRefusal) → Lexes text text others other → (others ≡ lexemes_of text lexing) × (other ≡ lexing.stop)
  same_lexing others other l = one_way text text others (lexemes_of text lexing) other lexing.stop l is.lexed

  bad_here : (others : List Lexeme) (i : ℕ) → IsBadToken text others i → IsBadHere text lexing others i
  bad_here others i bad =
      let same = same_lexing others bad.stop bad.lexed in
      let long : length others ≡ length lexing.tokens = ap length same.0 ∙ length-map lexing.tokens (lexeme_of text) in
      record {
        tokens = same.0;
        first_bad = subst (λ (l : List Lexeme). IsFirstBad (map token_class l) i) same.0 bad.first_bad;
        reached = λ past. sym same.1 ∙ bad.reached (past ∙ sym long);
      }

  -- where the tokens begin a list that has shape, the stop is the first bad place
  pub stop_first : (refusal : LexRefusal) → lexing.stop ≡ Some refusal
      → ((i : ℕ) → IsFirstBad (map token_class (lexemes_of text lexing)) i → i ≡ length lexing.tokens) → IsFirstBadPlace text (bad_stop refusal)
  stop_first refusal stops good = record {
    is_bad = lexical (lexemes_of text lexing) refusal (subst (Lexes text text (lexemes_of text lexing)) stops is.lexed);
    least = least;
  }
    where
      no_bad_token : (others : List Lexeme) (i : ℕ) → IsBadToken text others i → ⊥
      no_bad_token others i bad =
          let here = bad_here others i bad in
          let whole : lexing.stop ≡ None = here.reached (good i here.first_bad) in
          cc

      least : (other : BadPlace) → IsBadPlace text other → IsNoLater (bad_stop refusal) other
      least _ (lexical others other l) =
          let same : other ≡ refusal = same_Some _ _ ((same_lexing others (Some other) l).1 ∙ stops) in
          subst (λ r. IsNoLater (bad_stop refusal) (bad_stop r)) (sym same) (inr (refl, omega arith))
      least _ (unsupported others i bad u) = absurd (no_bad_token others i bad)
      least _ (unexpected others i bad) = absurd (no_bad_token others i bad)

  module _ (i : ℕ) (first_bad : IsFirstBad (map token_class (lexemes_of text lexing)) i) (reached : i ≡ length lexing.tokens → lexing.stop ≡ None) where
    here : IsBadToken text (lexemes_of text lexing) i
    here = record {
      stop = lexing.stop;
      lexed = is.lexed;
      first_bad = first_bad;
      reached = λ past. reached (past ∙ length-map lexing.tokens (lexeme_of text));
    }

    same_place : (others : List Lexeme) (j : ℕ) → IsBadToken text others j → (j ≡ i) × (token_place text (lexemes_of text lexing) i ≡ token_place text others j)
    same_place others j bad =
        let there = bad_here others j bad in
        let same : i ≡ j = first_bad_once (map token_class (lexemes_of text lexing)) i j first_bad there.first_bad in
        (sym same, ap (token_place text (lexemes_of text lexing)) same ∙ ap (λ (l : List Lexeme). token_place text l j) (sym there.tokens))

    before_stop : (refusal : LexRefusal) → lexing.stop ≡ Some refusal → i < length lexing.tokens
    before_stop refusal stops =
        let inside : i ≤ length lexing.tokens = simp length-map at first_bad.inside in
        elim (eq-or-lt_of_le inside) [
          | inl past ↦
              let whole : lexing.stop ≡ None = reached past in
              cc
          | inr below ↦ below
        ]

    no_later : (kind : BadKind) → rank kind ≤ 2 → (IsUnsupported (map token_class (lexemes_of text lexing)) i → rank kind ≤ 1)
        → (other : BadPlace) → IsBadPlace text other → IsNoLater (record { kind = kind; place = token_place text (lexemes_of text lexing) i }) other
    no_later kind low lower _ (lexical others refusal l) =
        let stops : lexing.stop ≡ Some refusal = sym (same_lexing others (Some refusal) l).1 in
        inl (rw place-bad_stop (begins_before text lexing i refusal is stops (before_stop refusal stops)))
    no_later kind low lower _ (unsupported others j bad u) =
        let same = same_place others j bad in
        let there = bad_here others j bad in
        let now = subst (λ k. IsUnsupported (map token_class (lexemes_of text lexing)) k) same.0 (subst (λ (l : List Lexeme). IsUnsupported (map token_class l) j) there.tokens u) in
        inr (same.1, lower now)
    no_later kind low lower _ (unexpected others j bad) = inr ((same_place others j bad).1, low)

    pub unsupported_first : IsUnsupported (map token_class (lexemes_of text lexing)) i
        → IsFirstBadPlace text (record { kind = Unsupported; place = token_place text (lexemes_of text lexing) i })
    unsupported_first u = record {
      is_bad = unsupported (lexemes_of text lexing) i here u;
      least = no_later Unsupported (omega arith) (λ _. omega arith);
    }

    pub unexpected_first : (IsUnsupported (map token_class (lexemes_of text lexing)) i → ⊥)
        → IsFirstBadPlace text (record { kind = Unexpected; place = token_place text (lexemes_of text lexing) i })
    unexpected_first not = record {
      is_bad = unexpected (lexemes_of text lexing) i here;
      least = no_later Unexpected (omega arith) (λ u. absurd (not u));
    }

-- a text that has shape has no bad place
shaped_good : (text : List ℕ) → HasShape text → (others : List Lexeme) (i : ℕ) → IsBadToken text others i → ⊥
shaped_good text shape others i bad =
    let same : others ≡ shape.lexemes = (one_way text text others shape.lexemes bad.stop None bad.lexed shape.lexed).0 in
    no_first_bad (map token_class shape.lexemes) i shape.shape (subst (λ (l : List Lexeme). IsFirstBad (map token_class l) i) same bad.first_bad)

pub no_bad_place : (text : List ℕ) → HasShape text → (bad : BadPlace) → IsBadPlace text bad → ⊥
no_bad_place text shape _ (lexical others refusal l) =
    let stops : Some refusal ≡ None = (one_way text text others shape.lexemes (Some refusal) None l shape.lexed).1 in
    cc
no_bad_place text shape _ (unsupported others i bad u) = shaped_good text shape others i bad
no_bad_place text shape _ (unexpected others i bad) = shaped_good text shape others i bad

-- bad places of one place and rank are one
one_kind : (text : List ℕ) (a b : BadPlace) → IsBadPlace text a → IsBadPlace text b → rank a.kind ≡ rank b.kind → a.kind ≡ b.kind
one_kind text _ _ (lexical others refusal l) (lexical others' refusal' l') same =
    ap (λ r. (bad_stop r).kind) (same_Some _ _ (one_way text text others others' (Some refusal) (Some refusal') l l').1)
one_kind text _ _ (lexical others refusal l) (unsupported others' i bad u) same = absurd (omega (arith, same, rank-bad_stop refusal))
one_kind text _ _ (lexical others refusal l) (unexpected others' i bad) same = absurd (omega (arith, same, rank-bad_stop refusal))
one_kind text _ _ (unsupported others i bad u) (lexical others' refusal l) same = absurd (omega (arith, same, rank-bad_stop refusal))
one_kind text _ _ (unsupported others i bad u) (unsupported others' j bad' u') same = refl
one_kind text _ _ (unsupported others i bad u) (unexpected others' j bad') same = absurd (omega arith)
one_kind text _ _ (unexpected others i bad) (lexical others' refusal l) same = absurd (omega (arith, same, rank-bad_stop refusal))
one_kind text _ _ (unexpected others i bad) (unsupported others' j bad' u') same = absurd (omega arith)
one_kind text _ _ (unexpected others i bad) (unexpected others' j bad') same = refl

-- no later than each other, they stand at one place and have one rank
together : (a b : BadPlace) → IsNoLater a b → IsNoLater b a → (a.place ≡ b.place) × (rank a.kind ≡ rank b.kind)
together a b (inl before) (inl after) = absurd (omega arith)
together a b (inl before) (inr after) = absurd (omega (arith, before, ap (λ (p : Place). p.offset) after.0))
together a b (inr before) (inl after) = absurd (omega (arith, after, ap (λ (p : Place). p.offset) before.0))
together a b (inr before) (inr after) = (before.0, omega (arith, before.1, after.1))

same_bad : (k k' : BadKind) (p p' : Place) → k ≡ k' → p ≡ p' → ◌≡◌ {A = BadPlace} (record { kind = k; place = p }) (record { kind = k'; place = p' })
same_bad k k' p p' e f = cc

-- a text has one first bad place at most
pub once : (text : List ℕ) (a b : BadPlace) → IsFirstBadPlace text a → IsFirstBadPlace text b → a ≡ b
once text a b first other =
    let same = together a b (first.least b other.is_bad) (other.least a first.is_bad) in
    same_bad a.kind b.kind a.place b.place (one_kind text a b first.is_bad other.is_bad same.1) same.0

-- what is known of an answer says both when it comes and that there is no other
pub exact : (text : List ℕ) (r : Option BadPlace) → MatchOption r (HasShape text) (IsFirstBadPlace text)
    → (IsNone r ↔ HasShape text) × ((bad : BadPlace) → (r ≡ Some bad) ↔ IsFirstBadPlace text bad)
exact text None shape =
    ((λ _. shape, λ _. refl), λ bad. (λ e. absurd (cc), λ first. absurd (no_bad_place text shape bad first.is_bad)))
exact text (Some b) first = (
  (λ none. absurd (cc), λ shape. absurd (no_bad_place text shape b first.is_bad)),
  λ bad. (λ e. subst (IsFirstBadPlace text) (same_Some _ _ e) first, λ other. ap Some (once text b bad first other)),
)
