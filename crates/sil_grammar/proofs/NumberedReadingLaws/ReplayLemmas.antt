-- What derived steps stand for is good, part by part, where there is no fault.
use Rattle.std.proofs.Common.{◌≡◌, ℕ, ◌+◌, List, [], ◌∷◌, ◌++◌, length, take, drop, None, sym, refl, subst, add-one, true≢false}
use Rattle.std.specs.Prelude.{⊤}
use Rattle.sil_lexer.specs.Lexes.{Lexeme}
use Rattle.sil_grammar_classes.specs.declared.classes.Class.{Class}
use Rattle.sil_grammar_classes.specs.declared.classes.Class.TheVariants as c
use Rattle.sil_grammar_tables.specs.declared.grammar.Symbol.{Symbol}
use Rattle.sil_grammar_tables.specs.declared.grammar.Symbol.TheVariants.{Read, Part}
use Rattle.sil_grammar_tables.specs.declared.grammar.Terminal.{Terminal}
use Rattle.sil_grammar_tables.specs.declared.grammar.Terminal.TheVariants as t
use Rattle.sil_grammar_shape.specs.declared.steps.Step.{Step}
use Rattle.sil_grammar_shape.specs.Accepts.{Suits}
use Rattle.sil_grammar_shape.specs.Derivation.{Derives}
use Rattle.sil_grammar_shape.specs.Derivation.Derives.{nothing, token, rule}
use Rattle.sil_grammar_tables.specs.Grammar.{body}
use Rattle.sil_grammar_modules.specs.Leaves.{kept_of, leaf_of}
use Rattle.sil_grammar_values.specs.inner.Parts.{part}
use Rattle.sil_grammar_values.specs.Opened.{PartValue}
use Rattle.sil_grammar_modules.specs.inner.Replay.{first_fault, replay}
use Rattle.sil_grammar_values.specs.inner.Reduced.{parts_of, reduced}
use Rattle.sil_grammar_values.specs.Values.{token_of}
use Rattle.sil_grammar.specs.NumberedReadingLaws.inner.Leaves.{AreOfClasses, IsOfClass, IsTextOf}
use Rattle.sil_grammar.proofs.NumberedReadingLaws.FaultlessParts.{AreGoodFrom, IsGood, IsGoodToken}
use Rattle.sil_grammar.proofs.NumberedReadingLaws.PartLemmas.{good_part}
use Rattle.sil_grammar_tree.proofs.WrittenTree.FaultOrder.{no_first, no_second}

-- the values are good for the symbols, one by one
abbrev pub AreGood : List Symbol → List PartValue → Type 0
AreGood [] values = ⊤
AreGood (s ∷ ss) [] = ⊥
AreGood (s ∷ ss) (x ∷ values) = IsGood s x × AreGood ss values

good_front : (front ss : List Symbol) (values : List PartValue) → AreGood (front ++ ss) values → AreGood front (take (length front) values)
good_front [] ss values g = tt
good_front (s ∷ front) ss [] g = g
good_front (s ∷ front) ss (x ∷ values) g = (g.0, good_front front ss values g.1)

good_back : (front ss : List Symbol) (values : List PartValue) → AreGood (front ++ ss) values → AreGood ss (drop (length front) values)
good_back [] ss values g = g
good_back (s ∷ front) ss [] g = absurd g
good_back (s ∷ front) ss (x ∷ values) g = good_back front ss values g.1

part_behind : (i : ℕ) (x : PartValue) (values : List PartValue) → part (i + 1) (x ∷ values) ≡ part i values
part_behind i x values = rw add-one refl

good_behind : (i : ℕ) (ss : List Symbol) (x : PartValue) (values : List PartValue) → AreGoodFrom i ss values → AreGoodFrom (i + 1) ss (x ∷ values)
good_behind i [] x values g = tt
good_behind i (s ∷ ss) x values g = (subst (IsGood s) (sym (part_behind i x values)) g.0, good_behind (i + 1) ss x values g.1)

good_from : (ss : List Symbol) (values : List PartValue) → AreGood ss values → AreGoodFrom 0 ss values
good_from [] values g = tt
good_from (s ∷ ss) [] g = absurd g
good_from (s ∷ ss) (x ∷ values) g = (g.0, good_behind 0 ss x values (good_from ss values g.1))

good_leaf : (terminal : Terminal) (class : Class) (l : Lexeme) → Suits terminal class → IsOfClass class l → IsGoodToken terminal (token_of (leaf_of l)).text
unfolding IsGoodToken token_of
good_leaf t.AnyWord (c.Word w) l e g = g
good_leaf t.TypeWord (c.Word w) l e g = g
good_leaf t.AnyAt (c.At w) l e g = g
good_leaf t.AnyText c.BuiltinText l e g = g.quotable
good_leaf t.AnyText c.OtherText l e g = g
good_leaf t.RowWord class l e g = tt
good_leaf t.EndWord class l e g = tt
good_leaf (t.Just wanted) class l same g = subst (λ (k : Class). IsTextOf k (kept_of l.kind l.spelling)) (sym same) g
good_leaf _ _ l e g = absurd (true≢false (sym e))

pub good_replay : {ss : List Symbol} {ks : List Class} {steps : List Step} → Derives ss ks steps → (lexemes : List Lexeme)
    → AreOfClasses ks lexemes → first_fault steps lexemes ≡ None → AreGood ss (replay steps lexemes)
unfolding reduced
good_replay nothing lexemes leaves e = tt
good_replay (token {s = s} accepted rest) [] leaves e = absurd leaves
good_replay (token {s = Part part} accepted rest) (l ∷ lexemes) leaves e = absurd accepted
good_replay (token {s = Read terminal} {k = class} accepted rest) (l ∷ lexemes) leaves e = (good_leaf terminal class l accepted leaves.0, good_replay rest lexemes leaves.1 e)
good_replay (rule {ss = ss} {steps = steps} q rest) lexemes leaves e =
    let values : List PartValue = replay steps lexemes in
    let g : AreGood (body q ++ ss) values = good_replay rest lexemes leaves (no_second _ _ e) in
    (good_part q (parts_of q values) (good_from (body q) (parts_of q values) (good_front (body q) ss values g)) (no_first _ _ e), good_back (body q) ss values g)
