-- Each type is the same as itself.
use Rattle.std.proofs.Common.{◌≡◌, List, [], ◌∷◌, Bool, true, map, refl, ap, ap₂, ◌∙◌}
use Rattle.std.specs.Prelude.{◌&&◌}
use Rattle.std.proofs.lemmas.Bool.{eq-eqb}
use Rattle.sil_ast.specs.declared.type_name.TypeName.{TypeName, TypeName-F, fold-roll-TypeName, map-TypeName, out-TypeName, out-roll-TypeName, roll-TypeName}
use Rattle.holder_model_typing.specs.sil_types.Typing.Same.{all_pairs, applied, is_same_layer, is_same_type}
use Rattle.holder_model_typing.proofs.RunTypingLaws.Found.{same_name}
use Rattle.holder_model_typing.proofs.RunTypingLaws.Opened.{Proved, by_layer, type_in, types_in}

abbrev IsSelf : TypeName → Type 0
IsSelf t = is_same_type t t ≡ true

abbrev tests_in : TypeName-F (Proved IsSelf) → TypeName-F (TypeName → Bool)
tests_in x = map-TypeName TypeName (TypeName → Bool) is_same_type (types_in IsSelf x)

same_parts : (ts : List (Proved IsSelf)) → all_pairs applied (map is_same_type (map (type_in IsSelf) ts)) (map (type_in IsSelf) ts) ≡ true
same_parts [] = refl
same_parts (t ∷ ts) = ap₂ (λ a b. a && b) t.1 (same_parts ts)

same_layer : (x : TypeName-F (Proved IsSelf)) → is_same_layer (tests_in x) (types_in IsSelf x) ≡ true
same_layer (TypeName-F.Int width) = eq-eqb width width refl
same_layer (TypeName-F.Named name) = same_name name
same_layer (TypeName-F.Optional t) = t.1
same_layer (TypeName-F.Tuple ts) = same_parts ts
same_layer (TypeName-F.Weak t) = t.1
same_layer (TypeName-F.Unowned t) = t.1
same_layer (TypeName-F.Address t) = t.1

test : TypeName-F (TypeName → Bool) → TypeName → Bool
test layer other = is_same_layer layer (out-TypeName other)

pub same_self : (t : TypeName) → is_same_type t t ≡ true
unfolding test
same_self = by_layer IsSelf (λ x.
    ap (λ f. f (roll-TypeName (types_in IsSelf x))) (fold-roll-TypeName (TypeName → Bool) test (types_in IsSelf x))
    ∙ ap (is_same_layer (tests_in x)) (out-roll-TypeName (types_in IsSelf x))
    ∙ same_layer x)
