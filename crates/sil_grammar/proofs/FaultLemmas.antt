-- The first fault of a text that has shape, or of a front, is the one that the replay finds.
use Rattle.std.proofs.Common.{◌≡◌, ℕ, List, ◌++◌, length-append, map, take, Option, Some, None, arith}
use Rattle.std.specs.Prelude.{◌↔◌}
use Rattle.std.proofs.lemmas.List.{length-map}
use Rattle.sil_lexer.specs.Lexes.{Lexeme}
use Rattle.sil_grammar_shape.specs.declared.steps.Step.{Step}
use Rattle.sil_grammar_shape.specs.Derivation.{Derives, start}
use Rattle.sil_grammar.specs.SpelledPartsLaws.inner.Laws.{IsToldByReplay}
use Rattle.sil_grammar.specs.SpelledPartsLaws.Reading.{IsFirstFault}
use Rattle.sil_grammar.proofs.SpelledPartsLaws.Derived.{told_by_replay}
use Rattle.sil_grammar_modules.specs.inner.Replay.{first_fault}
use Rattle.sil_grammar_tree.specs.declared.written_tree.fault.Fault.{Fault}
use Rattle.sil_grammar.specs.Classes.{token_class}
use Rattle.sil_grammar.specs.Completion.{IsShortestFrom}
use Rattle.sil_grammar.specs.inner.Front.{IsFound}
use Rattle.sil_grammar.specs.Refusals.{IsFaultOf, IsFront}
use Rattle.sil_grammar.proofs.CompletionLemmas.{Completes-derives}

told_whole : (lexemes : List Lexeme) (steps : List Step) → Derives start (map token_class lexemes) steps → IsToldByReplay steps lexemes
told_whole lexemes steps derived = told_by_replay start (map token_class lexemes) steps lexemes derived (omega (arith, length-map lexemes token_class))

pub whole_found : (lexemes : List Lexeme) (steps : List Step) (fault : Fault) → Derives start (map token_class lexemes) steps
    → IsFirstFault steps lexemes fault ↔ (first_fault steps lexemes ≡ Some fault)
whole_found lexemes steps fault derived = (told_whole lexemes steps derived).first fault

told_front : (lexemes : List Lexeme) (steps : List Step) → IsShortestFrom (map token_class lexemes) steps → IsToldByReplay steps lexemes
told_front lexemes steps shortest =
    let d = Completes-derives shortest in
    told_by_replay start (map token_class lexemes ++ d.0) steps lexemes d.1
    (omega (arith, length-map lexemes token_class, length-append (map token_class lexemes) d.0))

pub front_found_some : (lexemes : List Lexeme) (steps : List Step) (fault : Fault) → IsShortestFrom (map token_class lexemes) steps
    → IsFirstFault steps lexemes fault ↔ (first_fault steps lexemes ≡ Some fault)
front_found_some lexemes steps fault shortest = (told_front lexemes steps shortest).first fault

pub is_found : (lexemes : List Lexeme) (steps : List Step) (fault : Option Fault) → IsShortestFrom (map token_class lexemes) steps
    → IsFound steps lexemes fault ↔ (first_fault steps lexemes ≡ fault)
is_found lexemes steps None shortest = (told_front lexemes steps shortest).none
is_found lexemes steps (Some fault) shortest = (told_front lexemes steps shortest).first fault

-- the fault that the replay of a front finds
abbrev pub fault_of : {text : List ℕ} → IsFront text → Option Fault
fault_of front = first_fault front.steps (take front.count front.lexemes)

pub of_front : {text : List ℕ} (front : IsFront text) (fault : Fault) → IsFaultOf front fault ↔ (fault_of front ≡ Some fault)
of_front front fault = front_found_some (take front.count front.lexemes) front.steps fault front.shortest
