-- Tuples are trivial where all their elements are.
use Rattle.std.proofs.Common.{◌≡◌, List, [], ◌∷◌, map, refl, sym, ap, ◌∙◌, Bool, true, false}
use Rattle.std.specs.Prelude.{◌&&◌}
use Rattle.std.specs.List.{flat_map, list_all}
use Rattle.std.proofs.lemmas.List.Folds.{list_all-append}
use Rattle.sil_ast.specs.declared.operands.Operand.{Operand}
use Rattle.sil_ast.specs.declared.type_name.TypeName.{TypeName}
use Rattle.sil_ast.specs.declared.type_name.TypeName.TheVariants as type
use Rattle.sil_types.specs.sil_types_declarations.TypeDefinitions.Declarations.{Declarations, all_names}
use Rattle.sil_types.specs.sil_types_declarations.TypeDefinitions.Measures.{is_trivial, is_trivial_measure, measure_at, measure_of, measures_of}
use Rattle.sil_types.specs.sil_types_declarations.TypeDefinitions.Mentions.{together}
use Rattle.sil_types.proofs.sil_types_items.TypeMeasures.Agreement.{measure-Tuple}
use Rattle.sil_types.specs.Typing.RowTypes.{all_written, types_of}

all_mapped : {A B : Type 0} (test : B → Bool) (f : A → B) (xs : List A) → list_all test (map f xs) ≡ list_all (λ x. test (f x)) xs
all_mapped test f [] = refl
all_mapped test f (x ∷ xs) = ap (λ b. test (f x) && b) (all_mapped test f xs)

all_joined : {A B : Type 0} (test : B → Bool) (f : A → List B) (xs : List A) → list_all test (flat_map f xs) ≡ list_all (λ x. list_all test (f x)) xs
all_joined test f [] = refl
all_joined test f (x ∷ xs) = list_all-append test (f x) (flat_map f xs) ∙ ap (λ b. list_all test (f x) && b) (all_joined test f xs)

and_true : (b : Bool) → (b && true) ≡ b
and_true true = refl
and_true false = refl

tuple_trivial : (d : Declarations) (ts : List TypeName) → is_trivial d (type.Tuple ts) ≡ list_all (is_trivial d) ts
tuple_trivial d ts = ap is_trivial_measure (measure-Tuple (measure_at (all_names d) (measures_of d)) ts) ∙ all_mapped is_trivial_measure (measure_of d) ts

pub together_trivial : (d : Declarations) (ts : List TypeName) → is_trivial d (together ts) ≡ list_all (is_trivial d) ts
together_trivial d [] = tuple_trivial d []
together_trivial d (t ∷ []) = sym (and_true (is_trivial d t))
together_trivial d (t ∷ u ∷ ts) = tuple_trivial d (t ∷ u ∷ ts)

pub operands_trivial : (d : Declarations) (os : List Operand) → is_trivial d (type.Tuple (all_written os)) ≡ list_all (λ o. list_all (is_trivial d) (types_of o)) os
operands_trivial d os = tuple_trivial d (all_written os) ∙ all_joined (is_trivial d) types_of os
