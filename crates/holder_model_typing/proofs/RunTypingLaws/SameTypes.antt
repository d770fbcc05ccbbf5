-- Types that are the same are equal.
use Rattle.std.proofs.Common.{◌≡◌, List, [], ◌∷◌, Bool, true, map, refl, sym, ap, ◌∙◌}
use Rattle.std.proofs.lemmas.Bool.{and_parts, eqb-true, false≢true}
use Rattle.std.specs.Cmp.Lexicographic.{bytes_decides}
use Rattle.sil_ast.specs.declared.type_name.TypeName.{TypeName, TypeName-F, fold-roll-TypeName, map-TypeName, out-TypeName, roll-TypeName, roll-out-TypeName}
use Rattle.holder_model.specs.sil_types.Typing.Same.{all_pairs, applied, is_same_layer, is_same_type}
use Rattle.holder_model_typing.proofs.RunTypingLaws.Opened.{Proved, by_layer, type_in, types_in}

abbrev IsFound : TypeName → Type 0
IsFound t = (u : TypeName) → is_same_type t u ≡ true → t ≡ u

abbrev tests_in : TypeName-F (Proved IsFound) → TypeName-F (TypeName → Bool)
tests_in x = map-TypeName TypeName (TypeName → Bool) is_same_type (types_in IsFound x)

same_parts : (xs : List (Proved IsFound)) (us : List TypeName) → all_pairs applied (map is_same_type (map (type_in IsFound) xs)) us ≡ true
    → map (type_in IsFound) xs ≡ us
same_parts [] [] e = refl
same_parts [] (u ∷ us) e = absurd (false≢true e)
same_parts (x ∷ xs) [] e = absurd (false≢true e)
same_parts (x ∷ xs) (u ∷ us) e =
    let parts = and_parts (is_same_type x.0 u) (all_pairs applied (map is_same_type (map (type_in IsFound) xs)) us) e in
    ap (λ t. t ∷ map (type_in IsFound) xs) (x.1 u parts.0) ∙ ap (λ ts. u ∷ ts) (same_parts xs us parts.1)

same_layer : (x : TypeName-F (Proved IsFound)) (z : TypeName-F TypeName) → is_same_layer (tests_in x) z ≡ true → types_in IsFound x ≡ z
same_layer (TypeName-F.Int width) (TypeName-F.Int other) e = ap TypeName-F.Int (eqb-true width other e)
same_layer (TypeName-F.Named name) (TypeName-F.Named other) e = ap TypeName-F.Named ((bytes_decides name other).0 e)
same_layer (TypeName-F.Optional t) (TypeName-F.Optional u) e = ap TypeName-F.Optional (t.1 u e)
same_layer (TypeName-F.Tuple ts) (TypeName-F.Tuple us) e = ap TypeName-F.Tuple (same_parts ts us e)
same_layer (TypeName-F.Weak t) (TypeName-F.Weak u) e = ap TypeName-F.Weak (t.1 u e)
same_layer (TypeName-F.Unowned t) (TypeName-F.Unowned u) e = ap TypeName-F.Unowned (t.1 u e)
same_layer (TypeName-F.Address t) (TypeName-F.Address u) e = ap TypeName-F.Address (t.1 u e)
same_layer _ _ e = absurd (false≢true e)

test : TypeName-F (TypeName → Bool) → TypeName → Bool
test layer other = is_same_layer layer (out-TypeName other)

found : (t : TypeName) → IsFound t
unfolding test
found = by_layer IsFound (λ x u e.
    ap roll-TypeName (same_layer x (out-TypeName u)
    (sym (ap (λ f. f u) (fold-roll-TypeName (TypeName → Bool) test (types_in IsFound x))) ∙ e))
    ∙ roll-out-TypeName u)

pub same_types : (t u : TypeName) → is_same_type t u ≡ true → t ≡ u
same_types t u e = found t u e
