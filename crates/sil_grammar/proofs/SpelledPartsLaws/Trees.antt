-- Tokens that are put together as a tree of productions, of which none is at fault, stand for what the tree comes to.
use Rattle.std.proofs.Common.{◌≡◌, suc, List, [], ◌∷◌, ◌++◌, length, drop, map, Option, None, ap, ap₂, sym, refl, subst, ◌∙◌, append_assoc, append-nil}
use Rattle.sil_lexer.specs.Lexes.{Lexeme}
use Rattle.sil_grammar_tables.specs.declared.grammar.Production.{Production}
use Rattle.sil_grammar_tables.specs.declared.grammar.Symbol.{Symbol}
use Rattle.sil_grammar_tables.specs.declared.grammar.Symbol.TheVariants.{Part}
use Rattle.sil_grammar_shape.specs.declared.steps.Step.{Step}
use Rattle.sil_grammar_shape.specs.declared.steps.Step.TheVariants.{Take, Expand}
use Rattle.sil_grammar_shape.specs.Derivation.{Accepts, Derives}
use Rattle.sil_grammar_shape.specs.Derivation.Derives.{nothing as derived_nothing, token as derived_token, rule as derived_rule}
use Rattle.sil_grammar_tables.specs.Grammar.{body, written}
use Rattle.sil_grammar_classes.specs.declared.classes.Class.{Class}
use Rattle.sil_grammar_modules.specs.Leaves.{leaf_of}
use Rattle.sil_grammar_values.specs.inner.Meaning.{meaning}
use Rattle.sil_grammar_values.specs.Opened.{PartValue}
use Rattle.sil_grammar_values.specs.inner.PartFaults.{part_fault}
use Rattle.sil_grammar_modules.specs.inner.Replay.{first_fault, replay}
use Rattle.sil_grammar_values.specs.inner.Reduced.{parts_of, reduced}
use Rattle.sil_grammar_tree.specs.declared.written_tree.fault.Fault.{Fault}
use Rattle.sil_grammar_tree.specs.WrittenTree.Faults.{earlier}
use Rattle.sil_grammar.specs.SpelledPartsLaws.Stands.{Stands}
use Rattle.sil_grammar.proofs.SpelledPartsLaws.Derived.{drop_parts, stood_for, take_parts}

pub data Tree (class_of : Lexeme → Class) : List Symbol → List Lexeme → List PartValue → Type 0 where
  nothing : Tree class_of [] [] []
  token : {s : Symbol} {ss : List Symbol} {lexemes : List Lexeme} {values : List PartValue}
      → (l : Lexeme) → Accepts s (class_of l) → Tree class_of ss lexemes values → Tree class_of (s ∷ ss) (l ∷ lexemes) (leaf_of l ∷ values)
  production : {own : List Lexeme} {parts : List PartValue} {ss : List Symbol} {behind : List Lexeme} {values : List PartValue}
      → (p : Production) → Tree class_of (body p) own parts → part_fault p parts ≡ None
      → Tree class_of ss behind values → Tree class_of (Part (written p) ∷ ss) (own ++ behind) (meaning p parts ∷ values)

lengths : {class_of : Lexeme → Class} {ss : List Symbol} {lexemes : List Lexeme} {values : List PartValue} → Tree class_of ss lexemes values → length values ≡ length ss
lengths nothing = refl
lengths (token l accepted more) = ap suc (lengths more)
lengths (production q inside none more) = ap suc (lengths more)

-- steps by which the tokens derive, before others
record Derived (class_of : Lexeme → Class) (ss : List Symbol) (lexemes : List Lexeme) (values : List PartValue) : Type 0 where
  steps : List Step
  derived : Derives ss (map class_of lexemes) steps
  no_fault : first_fault steps lexemes ≡ None
  same : replay steps lexemes ≡ values

no_fault_by : (q : Production) (values parts : List PartValue) (found : Option Fault) → parts_of q values ≡ parts → part_fault q parts ≡ None → found ≡ None
    → earlier (part_fault q (parts_of q values)) found ≡ None
unfolding earlier
no_fault_by q values parts found e h none = rw e (rw h none)

derive : {class_of : Lexeme → Class} {ss : List Symbol} {lexemes : List Lexeme} {values : List PartValue} → Tree class_of ss lexemes values
    → (tail : List Symbol) (last : List Lexeme) (others : List PartValue) → Derived class_of tail last others → Derived class_of (ss ++ tail) (lexemes ++ last) (values ++ others)
unfolding reduced
derive nothing tail last others d = d
derive (token l accepted more) tail last others d =
    let rest = derive more tail last others d in
    record { steps = Take ∷ rest.steps; derived = derived_token accepted rest.derived; no_fault = rest.no_fault; same = ap (λ vs. leaf_of l ∷ vs) rest.same }
derive {class_of} (production {own = own} {parts = parts} {ss = ss} {behind = behind} {values = values} q inside none more) tail last others d =
    let rest = derive more tail last others d in
    let whole = derive inside (ss ++ tail) (behind ++ last) (values ++ others) rest in
    let taken : parts_of q (replay whole.steps (own ++ (behind ++ last))) ≡ parts = ap (parts_of q) whole.same ∙ take_parts q parts (values ++ others) (lengths inside) in
    let left : drop (length (body q)) (replay whole.steps (own ++ (behind ++ last))) ≡ values ++ others = ap (drop (length (body q))) whole.same
    ∙ drop_parts q parts (values ++ others) (lengths inside) in
    subst (λ ls. Derived class_of (Part (written q) ∷ (ss ++ tail)) ls (meaning q parts ∷ (values ++ others))) (sym (append_assoc own behind last)) (record {
      steps = Expand q ∷ whole.steps;
      derived = derived_rule q whole.derived;
      no_fault = no_fault_by q (replay whole.steps (own ++ (behind ++ last))) parts _ taken none whole.no_fault;
      same = ap₂ (λ x xs. x ∷ xs) (ap (meaning q) taken) left;
    })

nothing_left : (class_of : Lexeme → Class) → Derived class_of [] [] []
nothing_left class_of = record { steps = []; derived = derived_nothing; no_fault = refl; same = refl }

pub tree_stands : {class_of : Lexeme → Class} {ss : List Symbol} {lexemes : List Lexeme} {values : List PartValue} → Tree class_of ss lexemes values → Stands class_of ss lexemes values
tree_stands {class_of} {ss} {lexemes} {values} tree =
    let d = derive tree [] [] [] (nothing_left class_of) in
    let w : Derived class_of ss lexemes values = subst (λ vs. Derived class_of ss lexemes vs) (append-nil values)
    (subst (λ ls. Derived class_of ss ls (values ++ [])) (append-nil lexemes) (subst (λ all. Derived class_of all (lexemes ++ []) (values ++ [])) (append-nil ss) d)) in
    (stood_for class_of ss lexemes values).1 (record { steps = w.steps; derived = w.derived; no_fault = w.no_fault; same = w.same })
