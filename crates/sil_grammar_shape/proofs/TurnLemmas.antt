-- Turns of the machine follow one another, and end.
use Rattle.std.proofs.Common.{◌≡◌, ℕ, ◌+◌, ◌<◌, ◌≤◌, List, [], ◌∷◌, ◌++◌, refl, ap, sym, subst, ◌∙◌, arith, Bool, true, false}
use Rattle.std.specs.Prelude.{Option, Some, None, ◌&&◌, ◌↔◌, IsTrue, drop, slice_get}
use Rattle.std.proofs.lemmas.Bool.{ltb-true, false≢true}
use Rattle.sil_grammar_classes.specs.declared.classes.Class.{Class}
use Rattle.sil_grammar_tables.specs.declared.grammar.Nonterminal.{Nonterminal}
use Rattle.sil_grammar_tables.specs.declared.grammar.Symbol.{Symbol}
use Rattle.sil_grammar_tables.specs.declared.grammar.Symbol.TheVariants.{Read, Part}
use Rattle.sil_grammar_tables.specs.declared.grammar.Production.{Production}
use Rattle.sil_grammar_shape.specs.declared.steps.Step.{Step}
use Rattle.sil_grammar_tables.specs.Grammar.{written, body}
use Rattle.sil_grammar_shape.specs.inner.Choice.{choose}
use Rattle.sil_grammar_shape.specs.Derivation.{Accepts}
use Rattle.sil_grammar_shape.specs.inner.Turns.{Turns, turn, Pops, Expands, IsSettled, Settles, IsAccepted, IsStuck, Refuses}
use Rattle.sil_grammar_shape.proofs.Sets.{weight}
use Rattle.sil_grammar_shape.proofs.Computed.{lead, weight_one, if_vanishes, vanishes, vanishes_one, computed_weight}
use Rattle.sil_grammar_shape.proofs.NextClasses.{choose-way, vanishes_part}

if_both : (a b : Bool) (m n : ℕ) → if_vanishes a (m + if_vanishes b n) ≡ if_vanishes a m + if_vanishes (a && b) n
unfolding if_vanishes
if_both true b m n = refl
if_both false b m n = refl

lead-append : (ss rr : List Symbol) → lead (ss ++ rr) ≡ lead ss + if_vanishes (vanishes ss) (lead rr)
unfolding lead vanishes if_vanishes
lead-append [] rr = omega arith
lead-append (s ∷ ss) rr =
    omega (arith, ap (if_vanishes (vanishes_one s)) (lead-append ss rr), if_both (vanishes_one s) (vanishes ss) (lead ss) (lead rr))

if_more : (a b : Bool) (n : ℕ) → (a ≡ true → b ≡ true) → if_vanishes a n ≤ if_vanishes b n
unfolding if_vanishes
if_more true b n h = subst (λ v. n ≤ if_vanishes v n) (sym (h refl)) (omega arith)
if_more false b n h = omega arith

lead-body : (p : Production) (ss : List Symbol) → lead (body p ++ ss) < lead (Part (written p) ∷ ss)
unfolding lead weight_one
lead-body p ss =
    let smaller : lead (body p) < weight (written p) = ltb-true (lead (body p)) (weight (written p)) (computed_weight p) in
    omega (arith, lead-append (body p) ss, if_more (vanishes (body p)) (vanishes_one (Part (written p))) (lead ss) (vanishes_part p))

-- this part stands first
part_first : {part : Nonterminal} (stack : List Symbol) → slice_get stack 0 ≡ Some (Part part) → stack ≡ Part part ∷ drop 1 stack
part_first [] h = cc
part_first {part = part} (s ∷ ss) h =
    let same : s ≡ Part part = cc in
    ap (λ x. x ∷ ss) same

pub accepted_first : (k : Class) (stack : List Symbol) (s : Symbol) {suits : Bool} → slice_get stack 0 ≡ Some s → IsTrue suits ↔ Accepts s k → IsTrue suits ↔ IsAccepted k stack
accepted_first k [] s h accepts = cc
accepted_first k (x ∷ ss) s {suits = suits} h accepts =
    let same : s ≡ x = cc in
    subst (λ y. IsTrue suits ↔ Accepts y k) same accepts

stuck_at : (k : Class) (stack : List Symbol) → IsSettled (Some k) stack → (IsAccepted k stack → ⊥) → IsStuck (Some k) stack
stuck_at k [] settled no_fit = tt
stuck_at k (Read t ∷ ss) settled no_fit = no_fit
stuck_at k (Part part ∷ ss) settled no_fit = settled

pub turned : {l : Option Class} {part : Nonterminal} {p : Production} {first stack new : List Symbol} {none steps more : List Step}
    → Turns l first none stack steps → slice_get stack 0 ≡ Some (Part part) → choose part l ≡ Some p → Expands p stack steps new more → Turns l first none new more
turned {l = l} {p = p} {first = first} {stack = stack} {none = none} {steps = steps} t is choice e =
    let t2 = subst (λ s. Turns l first none s steps) (part_first stack is) t in
    rw (e.stack_is, e.steps_are) (turn p choice t2)

pub smaller : (l : Option Class) {part : Nonterminal} {p : Production} {stack new : List Symbol} {steps more : List Step}
    → slice_get stack 0 ≡ Some (Part part) → choose part l ≡ Some p → Expands p stack steps new more → lead new < lead stack
smaller l {part = part} {p = p} {stack = stack} is choice e =
    let rest : List Symbol = drop 1 stack in
    let below = subst (λ x. lead (body p ++ rest) < lead (Part x ∷ rest)) (choose-way part l p choice) (lead-body p rest) in
    omega (arith, ap lead e.stack_is, ap lead (part_first stack is), below)

refused_token : {k : Class} {stack last : List Symbol} {steps more : List Step} → Settles (Some k) stack steps last more → (IsAccepted k last → ⊥) → Refuses (Some k) stack steps last more
refused_token {k = k} {last = last} s no_fit = record { turns = s.turns; stuck = stuck_at k last s.settled no_fit }

-- the same of a class with its number, and of the stack as a slice shows it
pub refused_numbered : (k j : Class) (l : Option Class) (shown : List Symbol) {stack last : List Symbol} {steps more : List Step} {suits : Bool}
    → j ≡ k → l ≡ Some j → shown ≡ last → Settles l stack steps last more → IsTrue suits ↔ IsAccepted j shown → suits ≡ false → Refuses (Some k) stack steps last more
refused_numbered k j l shown {stack = stack} {last = last} {steps = steps} {more = more} {suits = suits} same look items s accepts stays =
    let settles : Settles (Some k) stack steps last more = subst (λ x. Settles x stack steps last more) (look ∙ ap Some same) s in
    let fits : IsTrue suits ↔ IsAccepted k last = subst (λ x. IsTrue suits ↔ IsAccepted x last) same (subst (λ x. IsTrue suits ↔ IsAccepted j x) items accepts) in
    refused_token settles (λ a. false≢true (sym stays ∙ fits.1 a))

pub rest_popped : (popped : Option Symbol) (stack rest : List Symbol) → Pops stack popped rest → rest ≡ drop 1 stack
rest_popped None stack rest pops = pops.1 ∙ sym (ap (drop 1) pops.0)
rest_popped (Some s) stack rest pops = sym (ap (drop 1) pops)
