-- Classes are told apart by their numbers, since each stands at its own in the list of all.
use Rattle.std.proofs.Common.{◌≡◌, ◌↔◌, ap, sym, ◌∙◌, eqb-true, eq-eqb, None, Some}
use Rattle.std.specs.Prelude.{slice_index_or, IsTrue}
use Rattle.sil_grammar_classes.specs.declared.classes.Class.{Class}
use Rattle.sil_grammar_tables.specs.declared.grammar.Terminal.{Terminal}
use Rattle.sil_grammar_tables.specs.declared.grammar.Terminal.TheVariants as t
use Rattle.sil_grammar_shape.specs.Accepts.{Suits}
use Rattle.sil_grammar_shape.specs.inner.ClassNumbers.{accepts, class_number}
use Rattle.sil_grammar_shape.specs.inner.ParseTable.{look_number}
use Rattle.sil_grammar_shape.proofs.Numbered.{all_looks, all_looks-at}

own_numbers : (a b : Class) → class_number a ≡ class_number b → a ≡ b
unfolding look_number
own_numbers a b e = let same : Some a ≡ Some b = sym (all_looks-at (Some a)) ∙ ap (λ i. slice_index_or all_looks i None) e ∙ all_looks-at (Some b) in cc

pub accepts-suits : (t : Terminal) (k : Class) → IsTrue (accepts t k) ↔ Suits t k
unfolding accepts
accepts-suits t.AnyWord k = (λ h. h, λ h. h)
accepts-suits t.TypeWord k = (λ h. h, λ h. h)
accepts-suits t.AnyAt k = (λ h. h, λ h. h)
accepts-suits t.AnyText k = (λ h. h, λ h. h)
accepts-suits t.RowWord k = (λ h. h, λ h. h)
accepts-suits t.EndWord k = (λ h. h, λ h. h)
accepts-suits (t.Just wanted) k = (λ h. own_numbers wanted k (eqb-true (class_number wanted) (class_number k) h), λ e. eq-eqb (class_number wanted) (class_number k) (ap class_number e))
