-- The steps of a derivation are replayed from the last to the first: there is a token at each step that takes one, and
-- there are the values of its body at each production.
use Rattle.std.proofs.Common.{◌≡◌, ℕ, ◌<◌, ◌≤◌, List, [], ◌∷◌, ◌++◌, length, map, drop, take, refl, ap, sym, subst, ◌∙◌, arith, append_assoc}
use Rattle.std.specs.Prelude.{All, Option, None}
use Rattle.std.proofs.Math.Seq.{drop-append_seam, take-append_seam}
use Rattle.std.proofs.lemmas.List.{append-nil, length-append, length-take-le, map-append, take-append-drop, take-append-le}
use Rattle.std.proofs.lemmas.List.Elements.{All-take}
use Rattle.sil_lexer.specs.declared.token.Token.{Token}
use Rattle.sil_lexer.specs.Lexes.{Lexeme}
use Rattle.sil_lexer.specs.inner.Lexing.{lexeme_of, IsInside}
use Rattle.sil_grammar_tables.specs.declared.grammar.Production.{Production}
use Rattle.sil_grammar_tables.specs.declared.grammar.Symbol.{Symbol}
use Rattle.sil_grammar_shape.specs.declared.steps.Step.{Step}
use Rattle.sil_grammar_shape.specs.declared.steps.Step.TheVariants.{Take, Expand}
use Rattle.sil_grammar_tables.specs.Grammar.{body}
use Rattle.sil_grammar_shape.specs.Shortest.{Shortens}
use Rattle.sil_grammar_shape.specs.inner.Values.{takes_of, IsEnough}
use Rattle.sil_grammar_shape.proofs.ValuesLemmas.{takes_of-append, IsEnough-drop}
use Rattle.sil_grammar_tree.specs.declared.written_tree.fault.Fault.{Fault}
use Rattle.sil_grammar_values.specs.declared.value.Value.{Value}
use Rattle.sil_grammar_tree.specs.WrittenTree.Faults.{earlier}
use Rattle.sil_grammar_modules.specs.inner.Lacking.{lacking}
use Rattle.sil_grammar_modules.specs.Leaves.{leaf_of}
use Rattle.sil_grammar_values.specs.inner.PartFaults.{part_fault}
use Rattle.sil_grammar_modules.specs.inner.Replay.{first_fault, replay, KeepsFirst}
use Rattle.sil_grammar_values.specs.inner.Reduced.{parts_of, reduced}
use Rattle.sil_grammar_modules.proofs.LackingLemmas.{fault_lacking, replay_lacking}
use Rattle.sil_grammar_modules.proofs.ReplayLength.{length-replay}

-- of all steps and lexemes these steps and tokens are left to be replayed; those behind them have built the values
pub record InReplay (all : List Step) (lexemes : List Lexeme) (text : List ℕ) (steps : List Step) (tokens : List Token) (values : List Value) (fault : Option Fault) : Type 0 where
  pub done : List Step
  pub behind : List Lexeme
  pub steps_are : steps ++ done ≡ all
  pub lexemes_are : map (lexeme_of text) tokens ++ behind ≡ lexemes
  pub inside : All (IsInside text) tokens
  pub taken : takes_of steps ≡ length tokens
  pub values_are : values ≡ replay done behind
  pub fault_is : fault ≡ first_fault done behind

pub begun : (text : List ℕ) (steps rest : List Step) (tokens : List Token) (left : List Symbol)
    → All (IsInside text) tokens → takes_of steps ≡ length tokens → Shortens left rest
    → InReplay (steps ++ rest) (map (lexeme_of text) tokens) text steps tokens (map lacking left) None
begun text steps rest tokens left inside taken way = record {
  done = rest;
  behind = [];
  steps_are = refl;
  lexemes_are = append-nil (map (lexeme_of text) tokens);
  inside = inside;
  taken = taken;
  values_are = sym (replay_lacking way);
  fault_is = sym (fault_lacking way);
}

module _ {all : List Step} {lexemes : List Lexeme} {text : List ℕ} {old : List Step} {tokens : List Token}
    {values : List Value} {fault : Option Fault} (at : InReplay all lexemes text old tokens values fault) where
  -- where a step takes a token, one is left
  pub some_left : (steps : List Step) → old ≡ steps ++ Take ∷ [] → 0 < length tokens
  some_left steps last = omega (arith, at.taken, ap takes_of last, takes_of-append steps (Take ∷ []))

  -- what it stands for comes before the values
  pub token_replayed : (steps : List Step) (others : List Token) (token : Token) (value : Value) → old ≡ steps ++ Take ∷ [] → tokens ≡ others ++ token ∷ []
      → value ≡ leaf_of (lexeme_of text token) → InReplay all lexemes text steps others (value ∷ values) fault
  token_replayed steps others token value last last_token value_is =
      let lexeme : Lexeme = lexeme_of text token in
      let are : map (lexeme_of text) tokens ≡ map (lexeme_of text) others ++ lexeme ∷ [] =
      ap (map (lexeme_of text)) last_token ∙ map-append (lexeme_of text) others (token ∷ []) in
      let front : take (length others) tokens ≡ others = ap (take (length others)) last_token ∙ take-append_seam others (token ∷ []) in
      record {
        done = Take ∷ at.done;
        behind = lexeme ∷ at.behind;
        steps_are = sym (append_assoc steps (Take ∷ []) at.done) ∙ ap (λ s. s ++ at.done) (sym last) ∙ at.steps_are;
        lexemes_are = sym (append_assoc (map (lexeme_of text) others) (lexeme ∷ []) at.behind) ∙ ap (λ ls. ls ++ at.behind) (sym are) ∙ at.lexemes_are;
        inside = subst (All (IsInside text)) front (All-take (IsInside text) (length others) tokens at.inside);
        taken = omega (arith, at.taken, ap takes_of last, takes_of-append steps (Take ∷ []), ap length last_token, length-append others (token ∷ []));
        values_are = ap (λ v. v ∷ values) value_is ∙ ap (λ vs. leaf_of lexeme ∷ vs) at.values_are;
        fault_is = at.fault_is;
      }

  -- where a step expands a production, the values of its body are there
  pub enough_there : (steps : List Step) (p : Production) → old ≡ steps ++ Expand p ∷ [] → IsEnough all → length (body p) ≤ length values
  enough_there steps p last enough =
      let split : all ≡ steps ++ Expand p ∷ at.done =
      sym at.steps_are ∙ ap (λ s. s ++ at.done) last ∙ append_assoc steps (Expand p ∷ []) at.done in
      let here : drop (length steps) all ≡ Expand p ∷ at.done = ap (drop (length steps)) split ∙ drop-append_seam steps (Expand p ∷ at.done) in
      let h = subst IsEnough here (IsEnough-drop (length steps) all enough) in
      omega (arith, h.0, ap length at.values_are, length-replay at.done at.behind)

  -- its value comes in the place of theirs, and its own fault to those behind it
  pub production_replayed : (steps : List Step) (p : Production) (new : List Value) (first : Option Fault) → old ≡ steps ++ Expand p ∷ []
      → new ≡ reduced p values → first ≡ earlier (part_fault p (parts_of p values)) fault → InReplay all lexemes text steps tokens new first
  production_replayed steps p new first last new_are first_is = record {
    done = Expand p ∷ at.done;
    behind = at.behind;
    steps_are = sym (append_assoc steps (Expand p ∷ []) at.done) ∙ ap (λ s. s ++ at.done) (sym last) ∙ at.steps_are;
    lexemes_are = at.lexemes_are;
    inside = at.inside;
    taken = omega (arith, at.taken, ap takes_of last, takes_of-append steps (Expand p ∷ []));
    values_are = new_are ∙ ap (reduced p) at.values_are;
    fault_is = first_is ∙ ap (λ vs. earlier (part_fault p (parts_of p vs)) fault) at.values_are
        ∙ ap (earlier (part_fault p (parts_of p (replay at.done at.behind)))) at.fault_is;
  }

no_tokens : (text : List ℕ) (tokens : List Token) → 0 ≡ length tokens → map (lexeme_of text) tokens ≡ []
no_tokens text [] h = refl
no_tokens text (t ∷ ts) h = absurd (omega (arith, h))

-- where no step is left, all are replayed
module _ {all : List Step} {lexemes : List Lexeme} {text : List ℕ} {steps : List Step} {tokens : List Token}
    {values : List Value} {fault : Option Fault} (at : InReplay all lexemes text steps tokens values fault) (none : steps ≡ []) where
  all_done : at.done ≡ all
  all_done = ap (λ s. s ++ at.done) (sym none) ∙ at.steps_are

  all_behind : at.behind ≡ lexemes
  all_behind =
      let empty : map (lexeme_of text) tokens ≡ [] = no_tokens text tokens (ap takes_of (sym none) ∙ at.taken) in
      ap (λ ls. ls ++ at.behind) (sym empty) ∙ at.lexemes_are

  pub all_replayed : values ≡ replay all lexemes
  all_replayed = at.values_are ∙ ap (λ s. replay s at.behind) all_done ∙ ap (replay all) all_behind

  pub all_faults : fault ≡ first_fault all lexemes
  all_faults = at.fault_is ∙ ap (λ s. first_fault s at.behind) all_done ∙ ap (first_fault all) all_behind

pub none_left : {X : Type 0} (n : ℕ) (xs : List X) → n ≡ 0 → take n xs ≡ []
none_left n xs e = ap (λ k. take k xs) e

-- where the first ones are kept
module _ {X : Type 0} (count : ℕ) (old new : List X) (kept : KeepsFirst count old new) where
  pub kept_front : take count new ≡ take count old
  kept_front = sym (take-append-le count new kept.0 kept.2) ∙ ap (take count) (sym kept.1)

  pub kept_all : (P : X → Type 0) → All P old → All P new
  kept_all P all =
      let front : take (length new) old ≡ new = ap (take (length new)) kept.1 ∙ take-append_seam new kept.0 in
      subst (All P) front (All-take P (length new) old all)

pub keeps_first : {X : Type 0} (count : ℕ) (old new : List X) → count ≤ length old → new ≡ take count old → KeepsFirst count old new
keeps_first count old new there same = (
  drop count old,
  sym (take-append-drop count old) ∙ ap (λ xs. xs ++ drop count old) (sym same),
  omega (arith, ap length same, length-take-le count old there),
)
