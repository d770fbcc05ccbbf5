-- The places of the parse table are inside it and told apart, so that a production can be put in.
use Rattle.std.proofs.Common.{◌≡◌, ℕ, ◌+◌, ◌*◌, ◌<◌, List, refl, ap, sym, subst, ◌∙◌, arith, slice_index_or, slice_set, length, replicate, eq-eqb, true, inl, inr}
use Rattle.std.specs.Prelude.{Option, Some, None, nat_lt}
use Rattle.std.proofs.Math.Bool.{Bool-set}
use Rattle.std.proofs.Math.Logic.{∥∥₁_elim, ∥∥₁_prop}
use Rattle.std.proofs.lemmas.Bool.{ltb-true}
use Rattle.std.proofs.lemmas.Bool.Decides.{eqb_tells}
use Rattle.std.proofs.lemmas.Grind.{get_or-set_at}
use Rattle.std.proofs.lemmas.List.{get_or-replicate, get_or-set_other, get_or_default}
use Rattle.sil_grammar_classes.specs.declared.classes.Class.{Class}
use Rattle.sil_grammar_tables.specs.declared.grammar.Nonterminal.{Nonterminal}
use Rattle.sil_grammar_tables.specs.declared.grammar.Nonterminal.TheVariants as n
use Rattle.sil_grammar_tables.specs.declared.grammar.Production.{Production}
use Rattle.sil_grammar_shape.specs.declared.parse_table.TheConstants.{LOOKAHEADS, PARTS}
use Rattle.sil_grammar_shape.specs.inner.Choice.{choose}
use Rattle.sil_grammar_shape.specs.inner.ClassNumbers.{keyword_number, at_number, punctuation_number, class_number}
use Rattle.sil_grammar_shape.specs.inner.ParseTable.{look_number, part_number, place, IsParseTable}
use Rattle.sil_grammar_shape.proofs.Numbered.{all_looks, fixed_looks, all_looks-at, each_look, each_look-at, is_it, is_it_some, is_it-self, same_part}

computed_part : (part : Nonterminal) → nat_lt (part_number part) PARTS ≡ true
unfolding part_number
computed_part n.Module = refl
computed_part _ = refl

computed_look : each_look (λ l. nat_lt (look_number l) LOOKAHEADS) ≡ true
unfolding each_look all_looks fixed_looks look_number class_number keyword_number at_number punctuation_number
computed_look = refl

pub part_inside : (part : Nonterminal) → part_number part < PARTS
part_inside part = ltb-true (part_number part) PARTS (computed_part part)

pub look_inside : (l : Option Class) → look_number l < LOOKAHEADS
look_inside l = ltb-true (look_number l) LOOKAHEADS (each_look-at (λ l. nat_lt (look_number l) LOOKAHEADS) computed_look l)

same_row : (i j m n : ℕ) → m < PARTS → n < PARTS → i * PARTS + m ≡ j * PARTS + n → i ≡ j
same_row i j m n a b h = omega arith

own_looks : (l m : Option Class) → look_number l ≡ look_number m → l ≡ m
own_looks l m e = sym (all_looks-at l) ∙ ap (λ i. slice_index_or all_looks i None) e ∙ all_looks-at m

-- no two parts and lookaheads share a place
one_place : (a b : Nonterminal) (l m : Option Class) → place a l ≡ place b m → (a ≡ b) × (l ≡ m)
unfolding place look_number
one_place a b l m h =
    let rows : look_number l ≡ look_number m = same_row (look_number l) (look_number m) (part_number a) (part_number b) (part_inside a) (part_inside b) h in
    let columns : part_number a ≡ part_number b = omega (arith, h, rows) in
    (same_part a b (eq-eqb (part_number a) (part_number b) columns), own_looks l m rows)

place_inside : (part : Nonterminal) (l : Option Class) → place part l < LOOKAHEADS * PARTS
unfolding place
place_inside part l = omega (arith, look_inside l, part_inside part)

-- where nothing is known, nothing is wrong
pub empty_table : (known : List (Option Production)) → known ≡ replicate (LOOKAHEADS * PARTS) None → ∥ IsParseTable known ∥₁
empty_table known e = ∣ (λ part l p h.
    let none : slice_index_or known (place part l) None ≡ None =
    ap (λ xs. slice_index_or xs (place part l) None) e ∙ get_or-replicate (LOOKAHEADS * PARTS) (place part l) None None (place_inside part l) in
    cc) ∣₁

-- a production is put in
pub filled_table : (known : List (Option Production)) {size : ℕ} (i : ℕ) (c : Option Production) (part : Nonterminal) (l : Option Class)
    → i ≡ place part l → c ≡ choose part l → i < size → length known ≡ size
    → ∥ IsParseTable known ∥₁ → ∥ IsParseTable (slice_set known i c) ∥₁
filled_table known i c part l at chosen below sized right = let inside : i < length known = omega (arith, below, sized) in ∥∥₁_elim right ∥∥₁_prop (λ before. ∣ (λ other m p h.
    elim (eqb_tells (place other m) i) [
      | inl here ↦
          let same = one_place other part m l (here.1 ∙ at) in
          let it : c ≡ Some p = sym (get_or-set_at known i (place other m) c None here.1 inside) ∙ h in
          ap (λ x. choose x m) same.0 ∙ ap (λ x. choose part x) same.1 ∙ sym chosen ∙ it
      | inr else ↦ before other m p (sym (get_or-set_other known i (place other m) c None else.1) ∙ h)
    ]) ∣₁)

-- what is known is chosen
pub known_chosen : (known : List (Option Production)) {size : ℕ} (i : ℕ) (read : Option Production) (part : Nonterminal) (l : Option Class) (p : Production)
    → i ≡ place part l → i < size → length known ≡ size
    → read ≡ slice_index_or known i read → read ≡ Some p → ∥ IsParseTable known ∥₁ → choose part l ≡ Some p
known_chosen known i read part l p at below sized e is right =
    let inside : i < length known = omega (arith, below, sized) in
    let h : slice_index_or known (place part l) None ≡ Some p = ap (λ j. slice_index_or known j None) (sym at) ∙ get_or_default known i None read inside ∙ sym e ∙ is in
    is_it_some (choose part l) p (∥∥₁_elim right (Bool-set _ _) (λ table. subst (λ o. is_it o p ≡ true) (sym (table part l p h)) (is_it-self p)))
