-- Where a part of a text keeps the limits, it isn't at fault.
use Rattle.std.proofs.Common.{◌≡◌, ℕ, ◌+◌, ◌≤◌, List, length, None, false, ◌==◌, refl, ap, ◌∙◌, arith}
use Rattle.std.specs.Option.{option_map}
use Rattle.std.proofs.lemmas.Bool.Decides.{nat_tests}
use Rattle.std.proofs.lemmas.Option.{slice_get_past}
use Rattle.sil_ast.specs.declared.place.Place.{Place}
use Rattle.sil_ast.specs.declared.type_name.TypeName.{TypeName}
use Rattle.sil_grammar_tree.specs.declared.written_tree.fault.FaultKind.TheVariants.{Limit}
use Rattle.sil_rules.specs.declared.limit_word.LimitWord.{LimitWord}
use Rattle.sil_grammar_tree.specs.WrittenTree.Faults.{fault, passed}
use Rattle.sil_grammar_values.specs.inner.PartFaults.{too_deep}
use Rattle.sil_grammar_values.specs.Types.{deeper, kept}
use Rattle.sil_grammar.proofs.NumberedReadingLaws.TypeLemmas.{all_kept, one_more}

-- as many as the limit allows
pub not_passed : (what : LimitWord) (most : ℕ) (places : List Place) → length places ≤ most → passed what most places ≡ None
not_passed what most places h = ap (option_map (fault (Limit what))) (slice_get_past places most h)

at_no_limit : (depth : ℕ) → 1 + depth ≤ 32 → (depth == 32) ≡ false
at_no_limit depth h = grind (arith, nat_tests)

pub not_too_deep : (depth : ℕ) (last : Place) → 1 + depth ≤ 32 → too_deep depth last ≡ None
not_too_deep depth last h = rw (at_no_limit depth h) refl

-- one level more than a type below the limit has
pub one_more_level : (depth : ℕ) → 1 + depth ≤ 32 → deeper depth ≡ 1 + depth
one_more_level depth h = one_more depth (omega arith) ∙ omega arith

pub whole_type : (depth : ℕ) (t : TypeName) → 1 + depth ≤ 32 → kept (deeper depth) t ≡ t
whole_type depth t h = all_kept depth t (omega arith)
