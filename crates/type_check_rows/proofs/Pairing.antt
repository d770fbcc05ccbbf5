-- Types are the same part by part.
use Rattle.std.proofs.Common.{◌≡◌, List, [], ◌∷◌, map, refl, sym, ap, ◌∙◌, Bool}
use Rattle.std.specs.Prelude.{◌&&◌}
use Rattle.sil_ast.specs.declared.type_name.TypeName.{TypeName, TypeName-F, fold-roll-TypeName, out-roll-TypeName, out-TypeName}
use Rattle.sil_ast.specs.declared.type_name.TypeName.TheVariants as type
use Rattle.sil_ast.specs.declared.type_name.TypeName.TheVariants.{rolls-Tuple}
use Rattle.sil_types.specs.Typing.Same.{all_pairs, applied, are_same_types, is_same_layer, is_same_type}

parts_applied : (parts others : List TypeName) → are_same_types parts others ≡ all_pairs applied (map is_same_type parts) others
parts_applied [] [] = refl
parts_applied [] (y ∷ ys) = refl
parts_applied (x ∷ xs) [] = refl
parts_applied (x ∷ xs) (y ∷ ys) = ap (λ rest. is_same_type x y && rest) (parts_applied xs ys)

by_layer : TypeName-F (TypeName → Bool) → TypeName → Bool
by_layer layer other = is_same_layer layer (out-TypeName other)

out-Tuple : (ts : List TypeName) → out-TypeName (type.Tuple ts) ≡ TypeName-F.Tuple ts
out-Tuple ts = ap out-TypeName (sym (rolls-Tuple ts)) ∙ out-roll-TypeName (TypeName-F.Tuple ts)

-- tuples are the same by their parts
pub same-Tuple : (parts others : List TypeName) → is_same_type (type.Tuple parts) (type.Tuple others) ≡ are_same_types parts others
unfolding by_layer
same-Tuple parts others =
    ap (λ t. is_same_type t (type.Tuple others)) (sym (rolls-Tuple parts))
    ∙ ap (λ test. test (type.Tuple others)) (fold-roll-TypeName (TypeName → Bool) by_layer (TypeName-F.Tuple parts))
    ∙ ap (is_same_layer (TypeName-F.Tuple (map is_same_type parts))) (out-Tuple others)
    ∙ sym (parts_applied parts others)
