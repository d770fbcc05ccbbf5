-- A text is refused for one reason: for the law `refused_once`.
use Rattle.std.proofs.Common.{◌≡◌, ℕ, ◌+◌, ◌<◌, ◌≤◌, List, length, map, take, Option, None, refl, ap, sym, subst, ◌∙◌, arith, inl, inr}
use Rattle.std.proofs.lemmas.Bool.{cases_order}
use Rattle.std.proofs.lemmas.List.{take-map, take-take}
use Rattle.std.proofs.lemmas.Option.{same_Some}
use Rattle.sil_lexer.specs.Lexes.{Lexeme, Lexes}
use Rattle.sil_lexer.proofs.UniqueLemmas.{one_way}
use Rattle.sil_grammar_shape.specs.declared.steps.Step.{Step}
use Rattle.sil_grammar_shape.specs.Derivation.{BeginsShape, Derives, start}
use Rattle.sil_grammar_shape.proofs.DerivedOnce.{front_begins, steps_once}
use Rattle.sil_grammar_tree.specs.declared.written_tree.fault.Fault.{Fault}
use Rattle.sil_grammar_tree.specs.declared.written_tree.written_module.WrittenModule.{WrittenModule}
use Rattle.sil_grammar_modules.specs.inner.Replay.{first_fault}
use Rattle.sil_grammar_names.specs.NameScopes.NameFaults.{name_fault}
use Rattle.sil_grammar.specs.declared.first_bad.BadPlace.{BadPlace}
use Rattle.sil_grammar.specs.Classes.{token_class}
use Rattle.sil_grammar.specs.Completion.{IsShortestFrom}
use Rattle.sil_grammar.specs.FirstBad.{HasShape}
use Rattle.sil_grammar.specs.Refusals.{IsFaulty, IsFront, IsMisnamed, IsShapeless, exhausted, faulty, in_front, in_whole, misnamed, refusal_of_bad, refusal_of_fault, shapeless}
use Rattle.sil_grammar.specs.Spells.{SpellsWritten}
use Rattle.sil_grammar.specs.inner.Laws.{AreRefusedOnce}
use Rattle.sil_grammar.proofs.CompletionLemmas.{shortest_begins, shortest_once}
use Rattle.sil_grammar.proofs.FaultLemmas.{fault_of, of_front, whole_found}
use Rattle.sil_grammar.proofs.FirstBadLemmas.{no_bad_place, once}
use Rattle.sil_grammar.proofs.ReadLemmas.{never, written_once}
use Rattle.sil_grammar.proofs.ReplayedSpelling.{replayed}

-- no more tokens are taken than a module can begin with
not_more : (lexemes : List Lexeme) (m n : ℕ) → (m < length lexemes → BeginsShape (map token_class (take (m + 1) lexemes)) → ⊥)
    → n ≤ length lexemes → BeginsShape (map token_class (take n lexemes)) → m < n → ⊥
not_more lexemes m n most inside begins below =
    let shorter : take (m + 1) (map token_class (take n lexemes)) ≡ map token_class (take (m + 1) lexemes) =
    take-map token_class (m + 1) (take n lexemes) ∙ ap (map token_class) (take-take (m + 1) n lexemes (omega (arith, below))) in
    most (omega (arith, inside, below)) (subst BeginsShape shorter (front_begins (map token_class (take n lexemes)) (m + 1) begins))

-- a front over tokens that are known
record Over (lexemes : List Lexeme) (o : Option Fault) : Type 0 where
  pub count : ℕ
  pub inside : count ≤ length lexemes
  pub most : count < length lexemes → BeginsShape (map token_class (take (count + 1) lexemes)) → ⊥
  pub steps : List Step
  pub shortest : IsShortestFrom (map token_class (take count lexemes)) steps
  pub fault : o ≡ first_fault steps (take count lexemes)

over : {text : List ℕ} (front : IsFront text) → Over front.lexemes (fault_of front)
over front = record { count = front.count; inside = front.inside; most = front.most; steps = front.steps; shortest = front.shortest; fault = refl }

module _ (lexemes : List Lexeme) (o p : Option Fault) (a : Over lexemes o) (b : Over lexemes p) where
  same_count : a.count ≡ b.count
  same_count = elim (cases_order a.count b.count) [
    | inl same ↦ same
    | inr other ↦ elim other [
      | inl below ↦ absurd (not_more lexemes a.count b.count a.most b.inside (shortest_begins b.shortest) below)
      | inr above ↦ absurd (not_more lexemes b.count a.count b.most a.inside (shortest_begins a.shortest) above)
    ]
  ]

  same_fault : o ≡ p
  same_fault =
      let there = subst (λ n. IsShortestFrom (map token_class (take n lexemes)) b.steps) (sym same_count) b.shortest in
      let same : b.steps ≡ a.steps = shortest_once a.shortest there in
      a.fault ∙ ap (λ n. first_fault a.steps (take n lexemes)) same_count ∙ ap (λ s. first_fault s (take b.count lexemes)) (sym same) ∙ sym b.fault

-- fronts of one text have one fault
front_once : (text : List ℕ) (a b : IsFront text) → fault_of a ≡ fault_of b
front_once text a b =
    let same : b.lexemes ≡ a.lexemes = (one_way text text b.lexemes a.lexemes b.lexed_to a.lexed_to b.lexed a.lexed).0 in
    same_fault a.lexemes (fault_of a) (fault_of b) (over a) (subst (λ l. Over l (fault_of b)) same (over b))

-- a text that has shape has one fault
whole_once : (text : List ℕ) (lexemes others : List Lexeme) (steps other : List Step)
    → Lexes text text lexemes None → Derives start (map token_class lexemes) steps → Lexes text text others None → Derives start (map token_class others) other
    → first_fault steps lexemes ≡ first_fault other others
whole_once text lexemes others steps other lexed derived l d =
    let tokens : others ≡ lexemes = (one_way text text others lexemes None None l lexed).0 in
    let here : Derives start (map token_class lexemes) other = subst (λ l. Derives start (map token_class l) other) tokens d in
    let same : other ≡ steps = steps_once derived here in
    ap (λ s. first_fault s lexemes) (sym same) ∙ ap (first_fault other) (sym tokens)

shape_of : (text : List ℕ) (lexemes : List Lexeme) (steps : List Step) → Lexes text text lexemes None → Derives start (map token_class lexemes) steps → HasShape text
shape_of text lexemes steps lexed derived = record { lexemes = lexemes; lexed = lexed; shape = (steps, derived) }

spells_shape : (text : List ℕ) (w : WrittenModule) → SpellsWritten w text → HasShape text
spells_shape text w s = let r = replayed s in shape_of text s.lexemes r.steps s.lexed r.derived

-- a shapeless text has no fault before its first bad place
no_fault_before : (text : List ℕ) (place : BadPlace) (fault : Fault) → IsShapeless text place → IsFaulty text fault → ⊥
no_fault_before text place fault s (in_whole lexemes steps lexed derived first) = no_bad_place text (shape_of text lexemes steps lexed derived) place s.first_bad.is_bad
no_fault_before text place fault s (in_front other front first_bad first before) =
    let same : other ≡ place = once text other place first_bad s.first_bad in
    let behind : place.place.offset ≤ fault.place.offset = s.no_fault fault ((of_front s.front fault).1 (front_once text s.front front ∙ (of_front front fault).0 first)) in
    omega (arith, before, behind, ap (λ (p : BadPlace). p.place.offset) same)

-- a text has one first fault
faulty_once : (text : List ℕ) (a b : Fault) → IsFaulty text a → IsFaulty text b → b ≡ a
faulty_once text a b (in_whole lexemes steps lexed derived first) (in_whole others other l d f) =
    same_Some _ _ (sym ((whole_found others other b d).0 f) ∙ sym (whole_once text lexemes others steps other lexed derived l d) ∙ (whole_found lexemes steps a derived).0 first)
faulty_once text a b (in_whole lexemes steps lexed derived first) (in_front place front first_bad f before) =
    absurd (no_bad_place text (shape_of text lexemes steps lexed derived) place first_bad.is_bad)
faulty_once text a b (in_front place front first_bad f before) (in_whole lexemes steps lexed derived first) =
    absurd (no_bad_place text (shape_of text lexemes steps lexed derived) place first_bad.is_bad)
faulty_once text a b (in_front place front first_bad first before) (in_front other others bad f behind) =
    same_Some _ _ (sym ((of_front others b).0 f) ∙ front_once text others front ∙ (of_front front a).0 first)

-- a text that writes a module without a fault has neither
misnamed_shaped : (text : List ℕ) (place : BadPlace) (fault : Fault) → IsShapeless text place → IsMisnamed text fault → ⊥
misnamed_shaped text place fault s m = no_bad_place text (spells_shape text m.written m.spells) place s.first_bad.is_bad

misnamed_faultless : (text : List ℕ) (a b : Fault) → IsFaulty text a → IsMisnamed text b → ⊥
misnamed_faultless text a b (in_whole lexemes steps lexed derived first) m =
    let r = replayed m.spells in
    never ((whole_found lexemes steps a derived).0 first) (whole_once text lexemes m.spells.lexemes steps r.steps lexed derived m.spells.lexed r.derived ∙ r.no_fault)
misnamed_faultless text a b (in_front place front first_bad first before) m = no_bad_place text (spells_shape text m.written m.spells) place first_bad.is_bad

misnamed_once : (text : List ℕ) (a b : Fault) → IsMisnamed text a → IsMisnamed text b → b ≡ a
misnamed_once text a b m n =
    same_Some _ _ (sym n.first ∙ ap name_fault (written_once text m.written n.written m.spells n.spells) ∙ m.first)

same_bad : (a b : BadPlace) → a ≡ b → refusal_of_bad b.kind b.place ≡ refusal_of_bad a.kind a.place
same_bad a b e = ap (λ (p : BadPlace). refusal_of_bad p.kind p.place) (sym e)

same_reason : (a b : Fault) → b ≡ a → refusal_of_fault b.kind b.place ≡ refusal_of_fault a.kind a.place
same_reason a b e = ap (λ (f : Fault). refusal_of_fault f.kind f.place) e

pub refused_once : AreRefusedOnce
refused_once text _ _ exhausted b known other = absurd (known refl)
refused_once text _ _ a exhausted known other = absurd (other refl)
refused_once text _ _ (shapeless p _ s) (shapeless q _ t) known other = same_bad p q (once text p q s.first_bad t.first_bad)
refused_once text _ _ (shapeless p _ s) (faulty f _ t) known other = absurd (no_fault_before text p f s t)
refused_once text _ _ (shapeless p _ s) (misnamed f _ t) known other = absurd (misnamed_shaped text p f s t)
refused_once text _ _ (faulty f _ s) (shapeless p _ t) known other = absurd (no_fault_before text p f t s)
refused_once text _ _ (faulty f _ s) (faulty g _ t) known other = same_reason f g (faulty_once text f g s t)
refused_once text _ _ (faulty f _ s) (misnamed g _ t) known other = absurd (misnamed_faultless text f g s t)
refused_once text _ _ (misnamed f _ s) (shapeless p _ t) known other = absurd (misnamed_shaped text p f t s)
refused_once text _ _ (misnamed f _ s) (faulty g _ t) known other = absurd (misnamed_faultless text g f t s)
refused_once text _ _ (misnamed f _ s) (misnamed g _ t) known other = same_reason f g (misnamed_once text f g s t)
