-- The first of some faults, in parts.
use Rattle.std.proofs.Common.{◌≡◌, List, [], ◌∷◌, ◌++◌, refl, sym, ap, ◌∙◌}
use Rattle.std.specs.Prelude.{Option}
use Rattle.sil_grammar_tree.specs.declared.written_tree.fault.Fault.{Fault}
use Rattle.sil_grammar_tree.specs.declared.written_tree.written_declarations.WrittenToken.{WrittenToken}
use Rattle.sil_grammar_tree.specs.WrittenTree.Faults.{earlier, earliest}
use Rattle.sil_grammar_tree.proofs.WrittenTree.FaultOrder.{earlier-assoc}
use Rattle.sil_grammar_names.specs.NameScopes.NameFaults.{unknown_in}
use Rattle.sil_grammar_names.specs.NameScopes.Names.{Name}
use Rattle.sil_grammar_names.specs.NameScopes.inner.Symbols.{unknown_of}

pub earliest_append : (xs ys : List (Option Fault)) → earliest (xs ++ ys) ≡ earlier (earliest xs) (earliest ys)
unfolding earlier
earliest_append [] ys = refl
earliest_append (x ∷ xs) ys = ap (earlier x) (earliest_append xs ys) ∙ sym (earlier-assoc x (earliest xs) (earliest ys))

pub unknown_of_append : (names : List Name) (xs ys : List WrittenToken) → unknown_of names (xs ++ ys) ≡ earlier (unknown_of names xs) (unknown_of names ys)
unfolding earlier
unknown_of_append names [] ys = refl
unknown_of_append names (x ∷ xs) ys = ap (earlier (unknown_in names x)) (unknown_of_append names xs ys) ∙ sym (earlier-assoc (unknown_in names x) (unknown_of names xs) (unknown_of names ys))

-- with more that is used behind
pub unknown_more : (names : List Name) (first : Option Fault) (xs ys : List WrittenToken)
    → earlier (earlier first (unknown_of names xs)) (unknown_of names ys) ≡ earlier first (unknown_of names (xs ++ ys))
unknown_more names first xs ys = earlier-assoc first (unknown_of names xs) (unknown_of names ys) ∙ ap (earlier first) (sym (unknown_of_append names xs ys))
