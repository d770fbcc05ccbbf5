-- A text has one list of tokens with one list of steps, so it spells one module or none: for `read`.
use Rattle.std.proofs.Common.{◌≡◌, ℕ, ◌<◌, ◌≤◌, List, ◌++◌, map, reverse, take, Option, Some, None, ap, sym, subst, ◌∙◌}
use Rattle.std.specs.Prelude.{Result, IsErrAnd, IfErr}
use Rattle.std.proofs.lemmas.List.{length-map}
use Rattle.std.proofs.lemmas.Result.{err_from_is_err_and}
use Rattle.sil_lexer.specs.Lexes.{Lexeme, Lexes}
use Rattle.sil_lexer.specs.inner.Lexing.{Lexing, IsLexingOf, lexeme_of, lexemes_of}
use Rattle.sil_lexer.proofs.UniqueLemmas.{one_way}
use Rattle.sil_grammar_shape.specs.declared.steps.Step.{Step}
use Rattle.sil_grammar_shape.specs.declared.steps.Front.{Front}
use Rattle.sil_grammar_shape.specs.Derivation.{Derives, start}
use Rattle.sil_grammar_shape.specs.inner.Begun.{LeadsTo}
use Rattle.sil_grammar_shape.specs.Shortest.{Shortens}
use Rattle.sil_grammar_shape.proofs.DerivedOnce.{steps_once}
use Rattle.sil_grammar_tree.specs.declared.written_tree.fault.Fault.{Fault}
use Rattle.sil_grammar_tree.specs.declared.written_tree.written_module.WrittenModule.{WrittenModule}
use Rattle.sil_grammar_modules.specs.inner.Replay.{first_fault, Writes}
use Rattle.sil_grammar_names.specs.NameScopes.NameFaults.{name_fault}
use Rattle.sil_grammar_names.specs.NameResolution.Resolved.{resolved}
use Rattle.sil_grammar.specs.declared.first_bad.BadPlace.{BadPlace}
use Rattle.sil_grammar.specs.declared.refusal.ReadRefusal.{ReadRefusal}
use Rattle.sil_grammar.specs.declared.refusal.ReadRefusal.TheVariants.{Memory}
use Rattle.sil_grammar.specs.Classes.{token_class}
use Rattle.sil_grammar.specs.FirstBad.{HasShape, IsFirstBadPlace}
use Rattle.sil_grammar.specs.inner.Front.{IsFound, IsFrontFault}
use Rattle.sil_grammar.specs.Refusals.{IsFaulty, IsFront, IsRefusalOf, IsShapeless, SpellsNone, exhausted, in_front, in_whole}
use Rattle.sil_grammar.specs.inner.Shape.{IsBroken, IsWhole}
use Rattle.sil_grammar.specs.Spells.{SpellsWritten}
use Rattle.sil_grammar.specs.inner.Laws.{AreSpelledOnce}
use Rattle.sil_grammar.specs.inner.Left.{IsCut}
use Rattle.sil_grammar.proofs.CutLemmas.{cut_completes}
use Rattle.sil_grammar.proofs.FaultLemmas.{is_found, of_front, whole_found}
use Rattle.sil_grammar.proofs.FirstBadLemmas.{no_bad_place}
use Rattle.sil_grammar.proofs.ReplayedSpelling.{replayed, spelled_by}

pub never : {A : Type 0} {a : A} {o : Option A} → o ≡ Some a → o ≡ None → ⊥
never e f = cc

one_module : (steps : List Step) (lexemes : List Lexeme) (w other : WrittenModule) → Writes steps lexemes w → Writes steps lexemes other → other ≡ w
one_module steps lexemes w other a b = cc (a, b)

-- want of memory is a refusal of every text
pub out_of_memory : {T : Type 0} (text : List ℕ) (r : Result T ReadRefusal) → IsErrAnd r (λ e. e ≡ Memory) → IfErr r (IsRefusalOf text)
out_of_memory text r memory =
    let e = err_from_is_err_and r memory in
    rw e.1 (subst (IsRefusalOf text) (sym e.2) exhausted)

-- what is known of a module that the text writes, over the text's tokens and steps
record ByThese (steps : List Step) (lexemes : List Lexeme) (w : WrittenModule) : Type 0 where
  pub no_fault : first_fault steps lexemes ≡ None
  pub writes : Writes steps lexemes w

by_these : (text : List ℕ) (lexemes : List Lexeme) (steps : List Step) (w : WrittenModule)
    → Lexes text text lexemes None → Derives start (map token_class lexemes) steps → SpellsWritten w text → ByThese steps lexemes w
by_these text lexemes steps w lexed derived s =
    let tokens : s.lexemes ≡ lexemes = (one_way text text s.lexemes lexemes None None s.lexed lexed).0 in
    let r = replayed s in
    let here : Derives start (map token_class lexemes) r.steps = subst (λ (l : List Lexeme). Derives start (map token_class l) r.steps) tokens r.derived in
    let same : r.steps ≡ steps = steps_once derived here in
    record {
      no_fault = ap (λ (l : List Step). first_fault l lexemes) (sym same) ∙ ap (first_fault r.steps) (sym tokens) ∙ r.no_fault;
      writes = subst (λ (l : List Lexeme). Writes steps l w) tokens (subst (λ (l : List Step). Writes l s.lexemes w) same r.same);
    }

-- a text writes one module at most
pub written_once : (text : List ℕ) (w other : WrittenModule) → SpellsWritten w text → SpellsWritten other text → other ≡ w
written_once text w other s o =
    let r = replayed s in
    let by = by_these text s.lexemes r.steps other s.lexed r.derived o in
    one_module r.steps s.lexemes w other r.same by.writes

pub spelled_once : AreSpelledOnce
spelled_once text m other s o =
    let same : o.written ≡ s.written = written_once text s.written o.written s.spells o.spells in
    o.numbered ∙ ap resolved same ∙ sym s.numbered

-- a text with a bad place spells nothing
pub bad_spells_none : (text : List ℕ) (bad : BadPlace) → IsFirstBadPlace text bad → SpellsNone text
bad_spells_none text bad first m s =
    let r = replayed s.spells in
    let shape : HasShape text = record { lexemes = s.spells.lexemes; lexed = s.spells.lexed; shape = (r.steps, r.derived) } in
    no_bad_place text shape bad first.is_bad

-- nor does one that writes a module with a name that is wrong
pub misnamed_spells_none : (text : List ℕ) (w : WrittenModule) (fault : Fault) → SpellsWritten w text → name_fault w ≡ Some fault → SpellsNone text
misnamed_spells_none text w fault spells wrong m s =
    never (ap name_fault (written_once text w s.written spells s.spells) ∙ wrong) s.names

-- the first fault of a front that is cut behind its last token, and completed in the shortest way
pub front_found : (text : List ℕ) (lexing : Lexing) (count : ℕ) (front cut : Front) (fault : Option Fault)
    → LeadsTo (map token_class (take count (lexemes_of text lexing))) front.steps.items (reverse front.left.items) → IsCut front cut
    → (rest : List Step) × Shortens (reverse cut.left.items) rest × (fault ≡ first_fault (cut.steps.items ++ rest) (take count (lexemes_of text lexing)))
    → IsFrontFault text lexing count fault
front_found text lexing count front cut fault leads is found =
    let tokens : List Lexeme = take count (lexemes_of text lexing) in
    let begun = cut_completes (map token_class tokens) front cut leads is found.0 found.1 in
    record { steps = cut.steps.items ++ found.0; begun = begun; first = (is_found tokens (cut.steps.items ++ found.0) fault begun).1 (sym found.2) }

module _ (text : List ℕ) (lexing : Lexing) (is : IsLexingOf text lexing) where
  module _ (steps : List Step) (whole : IsWhole text lexing steps) where
    lexed : Lexes text text (lexemes_of text lexing) None
    lexed = subst (Lexes text text (lexemes_of text lexing)) whole.reached is.lexed

    -- nor one whose steps have a fault
    pub fault_spells_none : (fault : Fault) → first_fault steps (lexemes_of text lexing) ≡ Some fault → SpellsNone text
    fault_spells_none fault first m s =
        let by = by_these text (lexemes_of text lexing) steps s.written lexed whole.derived.derives s.spells in
        never first by.no_fault

    -- one whose steps have none spells what their replay comes to
    pub faultless_whole : (w : WrittenModule) → first_fault steps (lexemes_of text lexing) ≡ None → Writes steps (lexemes_of text lexing) w → SpellsWritten w text
    faultless_whole w none writes = spelled_by text w (lexemes_of text lexing) steps lexed whole.derived.derives none writes

    pub faulty_whole : (fault : Fault) → first_fault steps (lexemes_of text lexing) ≡ Some fault → IsFaulty text fault
    faulty_whole fault first =
        in_whole (lexemes_of text lexing) steps lexed whole.derived.derives ((whole_found (lexemes_of text lexing) steps fault whole.derived.derives).1 first)

  module _ (bad : BadPlace) (count : ℕ) (fault : Option Fault) (left : Front) (broken : IsBroken text lexing bad count left) (found : IsFrontFault text lexing count fault) where
    abbrev tokens : List Lexeme
    tokens = take count (lexemes_of text lexing)

    front : IsFront text
    front = record {
      lexemes = lexemes_of text lexing;
      lexed_to = lexing.stop;
      lexed = is.lexed;
      count = count;
      inside = subst (λ n. count ≤ n) (sym (length-map lexing.tokens (lexeme_of text))) broken.inside;
      most = λ below. broken.most (subst (λ n. count < n) (length-map lexing.tokens (lexeme_of text)) below);
      steps = found.steps;
      shortest = found.begun;
    }

    pub faulty_front : (f : Fault) → fault ≡ Some f → f.place.offset < bad.place.offset → IsFaulty text f
    unfolding front
    faulty_front f some before = in_front bad front broken.first (subst (IsFound found.steps tokens) some found.first) before

    pub clear_front : ((f : Fault) → fault ≡ Some f → bad.place.offset ≤ f.place.offset) → IsShapeless text bad
    unfolding front
    clear_front behind = record {
      first_bad = broken.first;
      front = front;
      no_fault = λ f of. behind f (sym ((is_found tokens found.steps fault found.begun).0 found.first) ∙ (of_front front f).0 of);
    }
