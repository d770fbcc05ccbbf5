-- When two types, or two signatures, are the same.
use Rattle.std.specs.Prelude.{List, [], ◌∷◌, Bool, true, false, ◌&&◌, ◌==◌}
use Rattle.std.specs.Str.{bytes_eq}
use Rattle.sil_ast.specs.declared.signature.Convention.{Convention}
use Rattle.sil_ast.specs.declared.signature.Convention.TheVariants.{Thin, Method}
use Rattle.sil_ast.specs.declared.signature.Given.{Given}
use Rattle.sil_ast.specs.declared.signature.Param.{Param}
use Rattle.sil_ast.specs.declared.signature.Passing.{Passing}
use Rattle.sil_ast.specs.declared.signature.Passing.TheVariants as passing
use Rattle.sil_ast.specs.declared.signature.Signature.{Signature}
use Rattle.sil_ast.specs.declared.type_name.TypeName.{TypeName, fold-TypeName, out-TypeName}
use Rattle.sil_ast.specs.declared.type_name.TypeName.TheOpen.{TypeName-F, Int, Named, Optional, Tuple, Weak, Unowned, Address}

-- two lists are of one length, and each pair of elements passes the test
abbrev pub all_pairs : {A B : Type 0} → (A → B → Bool) → List A → List B → Bool
all_pairs test [] [] = true
all_pairs test [] (y ∷ ys) = false
all_pairs test (x ∷ xs) [] = false
all_pairs test (x ∷ xs) (y ∷ ys) = test x y && all_pairs test xs ys

abbrev pub applied : (TypeName → Bool) → TypeName → Bool
applied test t = test t

abbrev pub is_same_layer : TypeName-F (TypeName → Bool) → TypeName-F TypeName → Bool
is_same_layer (Int width) (Int other) = width == other
is_same_layer (Named name) (Named other) = bytes_eq name other
is_same_layer (Optional is_target) (Optional other) = is_target other
is_same_layer (Tuple are_parts) (Tuple others) = all_pairs applied are_parts others
is_same_layer (Weak is_target) (Weak other) = is_target other
is_same_layer (Unowned is_target) (Unowned other) = is_target other
is_same_layer (Address is_target) (Address other) = is_target other
is_same_layer _ _ = false

-- the two types are the same
abbrev pub is_same_type : TypeName → TypeName → Bool
is_same_type = fold-TypeName (TypeName → Bool) (λ layer other. is_same_layer layer (out-TypeName other))

abbrev pub are_same_types : List TypeName → List TypeName → Bool
are_same_types = all_pairs is_same_type

abbrev pub is_same_convention : Convention → Convention → Bool
is_same_convention Thin Thin = true
is_same_convention Thin Method = false
is_same_convention Method Thin = false
is_same_convention Method Method = true

abbrev pub is_same_passing : Passing → Passing → Bool
is_same_passing passing.Plain passing.Plain = true
is_same_passing passing.Owned passing.Owned = true
is_same_passing passing.Guaranteed passing.Guaranteed = true
is_same_passing passing.Inout passing.Inout = true
is_same_passing passing.In passing.In = true
is_same_passing passing.InGuaranteed passing.InGuaranteed = true
is_same_passing _ _ = false

abbrev pub is_same_flag : Bool → Bool → Bool
is_same_flag true true = true
is_same_flag true false = false
is_same_flag false true = false
is_same_flag false false = true

abbrev pub is_same_param : Param → Param → Bool
is_same_param p q = is_same_passing p.passing q.passing && is_same_type p.ty q.ty

abbrev pub is_same_given : Given → Given → Bool
is_same_given r s = is_same_flag r.owned s.owned && is_same_flag r.out s.out && is_same_type r.ty s.ty

-- the two signatures are the same, word for word
abbrev pub is_same_signature : Signature → Signature → Bool
is_same_signature s t =
    is_same_convention s.convention t.convention
    && all_pairs is_same_param s.params t.params
    && all_pairs is_same_given s.results t.results
