-- A slot is never out of order with itself.
use Rattle.std.proofs.Common.{◌≡◌, ℕ, List, [], ◌∷◌, Bool, true, false, Some, None, refl}
use Rattle.std.specs.Prelude.{◌==◌, cond, filter_map, ⊤}
use Rattle.std.specs.List.{cons_option, flat_map}
use Rattle.sil_verifier_trails.specs.memory_rules_accesses.declared.access.Access.{Access}
use Rattle.sil_verifier_trails.specs.memory_rules_accesses.declared.access.Access.TheVariants.{Allocates, Begins, Deallocates, Does, Ends, Given, Mentions}
use Rattle.sil_verifier_trails.specs.memory_rules_slots.Marks.{pair_mark}
use Rattle.sil_verifier_trails.specs.memory_rules_slots.Order.{IsOrdered, code_of}
use Rattle.sil_verifier_trails.specs.memory_rules_slots.declared.mark.SlotMark.{SlotMark}
use Rattle.sil_verifier_trails.specs.memory_rules_slots.declared.mark.SlotMark.TheVariants.{FirstIn, FirstOut, SecondIn, SecondOut}
use Rattle.sil_verifier_trails.specs.memory_rules_slots.inner.Automaton.{order_step}
use Rattle.sil_verifier_trails.proofs.memory_rules_slots.OrderDecided.{order_decides}
use Rattle.numbered_form.specs.Lists.{Each}
use Rattle.reach_engine_marks.specs.PathPatterns.Lawful.{AreLawful}
use Rattle.reach_engine_marks.proofs.PathPatterns.PatternsDecided.{read_lawful}
use Rattle.reach_engine.specs.declared.scan.Step.TheVariants.{Go}
use Rattle.reach_engine.specs.inner.Run.{run}
use Rattle.sil_ast.specs.declared.place.ValueId.{ValueId}
use Rattle.sil_cfg.specs.declared.item.Item.{Item}
use Rattle.copy_pairing_acceptance.proofs.MovedMemory.EachOf.{each_flat}

abbrev IsOfFirst : SlotMark → Type 0
IsOfFirst FirstIn = ⊤
IsOfFirst FirstOut = ⊤
IsOfFirst SecondIn = ⊥
IsOfFirst SecondOut = ⊥

let_in : (b : Bool) (rest : List SlotMark) → Each IsOfFirst rest → Each IsOfFirst (cons_option (cond b (Some FirstIn) (cond b (Some SecondIn) None)) rest)
let_in true rest h = (tt, h)
let_in false rest h = h

let_out : (b : Bool) (rest : List SlotMark) → Each IsOfFirst rest → Each IsOfFirst (cons_option (cond b (Some FirstOut) (cond b (Some SecondOut) None)) rest)
let_out true rest h = (tt, h)
let_out false rest h = h

module _ (a : ValueId) where
  of_first : (accesses : List Access) → Each IsOfFirst (filter_map (pair_mark a a) accesses)
  of_first [] = tt
  of_first (Ends v ∷ accesses) = of_first accesses
  of_first (Begins v ∷ accesses) = of_first accesses
  of_first (Allocates v ∷ accesses) = let_in (v.0 == a.0) (filter_map (pair_mark a a) accesses) (of_first accesses)
  of_first (Deallocates v ∷ accesses) = let_out (v.0 == a.0) (filter_map (pair_mark a a) accesses) (of_first accesses)
  of_first (Given v content ∷ accesses) = of_first accesses
  of_first (Does x ∷ accesses) = of_first accesses
  of_first (Mentions v m ∷ accesses) = of_first accesses

-- the automaton knows of one slot alone
abbrev state_of : Bool → ℕ
state_of false = 0
state_of true = 1

first_read : (marks : List SlotMark) → Each IsOfFirst marks → (is_in : Bool) → (left : Bool) × (run order_step (Go (state_of is_in)) marks ≡ Go (state_of left))
first_read [] h is_in = (is_in, refl)
first_read (FirstIn ∷ marks) h true = first_read marks h.1 true
first_read (FirstIn ∷ marks) h false = first_read marks h.1 true
first_read (FirstOut ∷ marks) h true = first_read marks h.1 false
first_read (FirstOut ∷ marks) h false = first_read marks h.1 false
first_read (SecondIn ∷ marks) h is_in = absurd h.0
first_read (SecondOut ∷ marks) h is_in = absurd h.0

pub ordered_with_itself : (items : Item → List Access) (a : ValueId) (trail : List Item) → AreLawful IsOrdered (flat_map (λ i. filter_map (pair_mark a a) (items i)) trail)
ordered_with_itself items a trail =
    let marks : List SlotMark = flat_map (λ i. filter_map (pair_mark a a) (items i)) trail in
    let r = first_read marks (each_flat IsOfFirst (λ i. filter_map (pair_mark a a) (items i)) (λ i. of_first a (items i)) trail) false in
    read_lawful order_step IsOrdered code_of order_decides marks (state_of r.0) r.1
