-- The shortest way to write what is left, replayed with no tokens, builds the values of what is left, and no fault.
use Rattle.std.proofs.Common.{◌≡◌, ℕ, ◌+◌, ◌<◌, ◌≤◌, List, [], ◌∷◌, ◌++◌, length, map, take, drop, refl, ap, sym, subst, ◌∙◌, arith, append_assoc, length-append, reverse}
use Rattle.std.specs.Prelude.{None}
use Rattle.std.proofs.lemmas.List.{drop-append-le, length-map, length-reverse, map-append, take-append-le}
use Rattle.std.proofs.Math.Seq.{take-append_seam, drop-append_seam}
use Rattle.sil_grammar_tables.specs.declared.grammar.Nonterminal.{Nonterminal}
use Rattle.sil_grammar_tables.specs.declared.grammar.Nonterminal.TheVariants as n
use Rattle.sil_grammar_tables.specs.declared.grammar.Production.{Production}
use Rattle.sil_grammar_tables.specs.declared.grammar.Symbol.{Symbol}
use Rattle.sil_grammar_tables.specs.declared.grammar.Symbol.TheVariants.{Read, Part}
use Rattle.sil_grammar_shape.specs.declared.steps.Step.{Step}
use Rattle.sil_grammar_tables.specs.Grammar.{body}
use Rattle.sil_grammar_tables.specs.Rows.{comma_behind, parts_row, row_body, symbols_of}
use Rattle.sil_grammar_shape.specs.Shortest.{Shortens, written, step}
use Rattle.sil_grammar_tables.specs.Shortest.{shortest}
use Rattle.sil_grammar_shape.specs.inner.Values.{IsEnough}
use Rattle.sil_grammar_shape.proofs.Shortened.{Shortens-derives}
use Rattle.sil_grammar_shape.proofs.ValuesLemmas.{IsEnough-derives}
use Rattle.sil_grammar_tree.specs.WrittenTree.Faults.{earlier}
use Rattle.sil_grammar_tree.proofs.WrittenTree.FaultOrder.{neither}
use Rattle.sil_grammar_values.specs.declared.value.Value.{Value}
use Rattle.sil_grammar_values.specs.declared.value.Value.TheVariants as v
use Rattle.sil_grammar_modules.specs.inner.Lacking.{lacking, lacking_within, waiting}
use Rattle.sil_grammar_values.specs.inner.Meaning.{meaning}
use Rattle.sil_grammar_values.specs.inner.PartFaults.{part_fault}
use Rattle.sil_grammar_modules.specs.inner.Replay.{first_fault, replay}
use Rattle.sil_grammar_values.specs.inner.Reduced.{parts_of, reduced}
use Rattle.sil_grammar_values.specs.Types.{tailed}
use Rattle.sil_grammar_values.specs.Values.{no_token}
use Rattle.sil_grammar_values.proofs.Unfolded.{value_parts}

lacking-part : (part : Nonterminal) → lacking (Part part) ≡ meaning (shortest part) (map lacking (body (shortest part)))
unfolding lacking lacking_within shortest body row_body parts_row symbols_of comma_behind meaning tailed value_parts
lacking-part n.Module = refl
lacking-part _ = refl

fault-part : (part : Nonterminal) → part_fault (shortest part) (map lacking (body (shortest part))) ≡ None
unfolding part_fault earlier lacking lacking_within shortest body row_body parts_row symbols_of comma_behind meaning tailed value_parts
fault-part n.Module = refl
fault-part _ = refl

-- a production takes the values of its body, whatever waits behind them
reduced-behind : (p : Production) (own bs : List Value) → length own ≡ length (body p) → reduced p (own ++ bs) ≡ meaning p own ∷ bs
unfolding reduced
reduced-behind p own bs e =
    let front : take (length (body p)) (own ++ bs) ≡ own = subst (λ n. take n (own ++ bs) ≡ own) e (take-append_seam own bs) in
    let rest : drop (length (body p)) (own ++ bs) ≡ bs = subst (λ n. drop n (own ++ bs) ≡ bs) e (drop-append_seam own bs) in
    cc (front, rest)

pub replay_lacking : {ss : List Symbol} {steps : List Step} → Shortens ss steps → replay steps [] ≡ map lacking ss
unfolding lacking lacking_within
replay_lacking written = refl
replay_lacking (step (Read t) h) = ap (λ values. v.Token no_token ∷ values) (replay_lacking h)
replay_lacking (step {ss = ss} (Part part) h) =
    let bodies : List Value = map lacking (body (shortest part)) in
    ap (reduced (shortest part)) (replay_lacking h ∙ map-append lacking (body (shortest part)) ss)
    ∙ reduced-behind (shortest part) bodies (map lacking ss) (length-map (body (shortest part)) lacking)
    ∙ ap (λ value. value ∷ map lacking ss) (sym (lacking-part part))

parts-behind : (p : Production) (own bs : List Value) → length own ≡ length (body p) → parts_of p (own ++ bs) ≡ own
parts-behind p own bs e = subst (λ n. take n (own ++ bs) ≡ own) e (take-append_seam own bs)

pub fault_lacking : {ss : List Symbol} {steps : List Step} → Shortens ss steps → first_fault steps [] ≡ None
fault_lacking written = refl
fault_lacking (step (Read t) h) = fault_lacking h
fault_lacking (step {ss = ss} {steps = steps} (Part part) h) =
    let p : Production = shortest part in
    let values : replay steps [] ≡ map lacking (body p) ++ map lacking ss = replay_lacking h ∙ map-append lacking (body p) ss in
    let here : part_fault p (parts_of p (replay steps [])) ≡ None =
    ap (λ vs. part_fault p (parts_of p vs)) values ∙ ap (part_fault p) (parts-behind p (map lacking (body p)) (map lacking ss) (length-map (body p) lacking)) ∙ fault-part part in
    neither _ _ here (fault_lacking h)

-- the values of a production's body were built, and others wait behind them
pub reduced-waiting : (p : Production) (built left new : List Value) → length (body p) ≤ length built → new ≡ reduced p built → reduced p (built ++ left) ≡ new ++ left
unfolding reduced
reduced-waiting p built left new enough is =
    let front = take-append-le (length (body p)) built left enough in
    let rest = drop-append-le (length (body p)) built left enough in
    let behind : new ++ left ≡ meaning p (take (length (body p)) built) ∷ (drop (length (body p)) built ++ left) = ap (λ vs. vs ++ left) is in
    cc (front, rest, behind)

pub some_reduced : (p : Production) (values new : List Value) → new ≡ reduced p values → 0 < length new
unfolding reduced
some_reduced p values new is = omega (arith, ap length is)

pub parts-waiting : (p : Production) (built left : List Value) → length (body p) ≤ length built → parts_of p (built ++ left) ≡ parts_of p built
parts-waiting p built left enough = take-append-le (length (body p)) built left enough

-- the shortest text of a part is empty
empty_part : (part : Nonterminal) (p : Production) (value : Value) (new : List Value) → p ≡ shortest part → body p ≡ []
    → reduced p [] ≡ value ∷ new → value ≡ lacking (Part part)
unfolding reduced
empty_part part p value new is none reduced_is =
    let first : meaning p [] ≡ value = subst (λ (symbols : List Symbol). meaning p (take (length symbols) []) ∷ drop (length symbols) [] ≡ value ∷ new
    → meaning p [] ≡ value) (sym none) (λ e. cc e) reduced_is in
    let here : meaning p [] ≡ meaning p (map lacking (body p)) = ap (λ symbols. meaning p (map lacking symbols)) (sym none) in
    sym first ∙ here ∙ subst (λ q. meaning q (map lacking (body q)) ≡ lacking (Part part)) (sym is) (sym (lacking-part part))

no_symbols : (symbols : List Symbol) → length symbols ≡ 0 → symbols ≡ []
no_symbols [] h = refl
no_symbols (s ∷ ss) h = absurd (omega (arith, h))

pub lacking_empty : (part : Nonterminal) (p : Production) (values new : List Value) (value : Value) → p ≡ shortest part → length (body p) ≡ 0
    → values ≡ [] → reduced p values ≡ value ∷ new → value ≡ lacking (Part part)
lacking_empty part p values new value is none empty reduced_is =
    empty_part part p value new is (no_symbols (body p) none) (subst (λ vs. reduced p vs ≡ value ∷ new) empty reduced_is)

-- the values of a part alone
pub one_part : (part : Nonterminal) {steps : List Step} → Shortens (Part part ∷ []) steps → replay steps [] ≡ lacking (Part part) ∷ []
one_part part h = replay_lacking h

pub enough_alone : {ss : List Symbol} {steps : List Step} → Shortens ss steps → IsEnough steps
enough_alone h = IsEnough-derives (Shortens-derives h).1

-- what stands first of what is left is built
pub one_moved : (built : List Value) (symbol : Symbol) (value : Value) (rest : List Symbol) → value ≡ lacking symbol
    → waiting (built ++ value ∷ []) rest ≡ waiting built (symbol ∷ rest)
one_moved built symbol value rest is = append_assoc built (value ∷ []) (map lacking rest) ∙ ap (λ v. built ++ v ∷ map lacking rest) is

pub waiting-length : (built : List Value) (left : List Symbol) → length (waiting built left) ≡ length built + length left
waiting-length built left = length-append built (map lacking left) ∙ ap (λ n. length built + n) (length-map left lacking)

-- as many values wait as before, so some are left where too few are built
pub some_left : (built built0 : List Value) (left left0 : List Symbol) (count : ℕ) → waiting built (reverse left) ≡ waiting built0 (reverse left0)
    → count ≤ length built0 + length left0 → length built < count → 0 < length left
some_left built built0 left left0 count same enough few =
    omega (arith, enough, few, ap length same, waiting-length built (reverse left), waiting-length built0 (reverse left0), length-reverse left, length-reverse left0)
