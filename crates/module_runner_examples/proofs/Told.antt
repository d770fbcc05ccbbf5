-- What is told of types, type by type.
use Rattle.std.proofs.Common.{◌≡◌, ℕ, List, [], ◌∷◌, Bool, true, Some, refl, ap, ◌∙◌}
use Rattle.std.specs.Prelude.{◌==◌, map, slice_get}
use Rattle.std.specs.Str.{bytes_eq}
use Rattle.sil_ast.specs.declared.inst.Inst.{Inst}
use Rattle.sil_ast.specs.declared.type_name.TypeName.{TypeName, TypeName-F, out-TypeName}
use Rattle.sil_ast.specs.declared.type_name.TypeName.TheVariants as type
use Rattle.sil_ast.specs.declared.decl.Storage.TheVariants as storage
use Rattle.instruction_table.specs.Forms.{result_kind_of}
use Rattle.ownership_kinds_origins.specs.Origins.{is_trivial_or_untyped, result_definition, result_definition_by}
use Rattle.sil_types.specs.Typing.RowTypes.{made_types}
use Rattle.sil_types.specs.Typing.Same.{all_pairs, applied, is_same_layer, is_same_type}
use Rattle.sil_types_declarations.specs.TypeDefinitions.Declarations.{Declarations, all_names}
use Rattle.sil_types_declarations.specs.TypeDefinitions.Measures.{measure_at, measure_over, measure_with, measures_within, measured, of_members, of_payloads, of_storage}
use Rattle.sil_types_declarations.specs.declared.type_definitions.measure.Measure.{Measure}
use Rattle.holder_model.specs.ModuleShapes.{value_shape}
use Rattle.holder_model_values.specs.RunValues.Layers.{CaseLayer, named_within, over, type_with}
use Rattle.holder_model_values.specs.RunValues.Shapes as shape
use Rattle.holder_model_values.specs.RunValues.Shapes.{Shape, cases_of, members_of, shape_of, shape_with}
use Rattle.module_runner_examples.specs.Parts.{optional}
use Rattle.module_runner_examples.proofs.Opened.{opened, out-Int, out-Named, out-Optional, out-Tuple, fold-Int, fold-Named, fold-Optional, fold-Tuple, fold-Weak, fold-Unowned, fold-Address}

-- a type's shape, where names are looked up so deep

abbrev pub seen : Declarations → ℕ → TypeName → Shape
seen d k t = type_with shape_with (named_within shape_with d k) t

pub seen_int : (d : Declarations) (k n : ℕ) → seen d k (type.Int n) ≡ shape.Integer n
seen_int d k n = fold-Int Shape (over shape_with (named_within shape_with d k)) n

pub seen_named : (d : Declarations) (k : ℕ) (name : List ℕ) → seen d k (type.Named name) ≡ named_within shape_with d k name
seen_named d k name = fold-Named Shape (over shape_with (named_within shape_with d k)) name

pub seen_optional : (d : Declarations) (k : ℕ) (t : TypeName) (s : Shape) → seen d k t ≡ s → seen d k (type.Optional t) ≡ optional s
seen_optional d k t s p = fold-Optional Shape (over shape_with (named_within shape_with d k)) t ∙ ap optional p

pub seen_tuple : (d : Declarations) (k : ℕ) (ts : List TypeName) (ss : List Shape) → map (seen d k) ts ≡ ss → seen d k (type.Tuple ts) ≡ shape.Tuple (members_of ss)
seen_tuple d k ts ss p = fold-Tuple Shape (over shape_with (named_within shape_with d k)) ts ∙ ap (λ ss. shape.Tuple (members_of ss)) p

pub seen_weak : (d : Declarations) (k : ℕ) (t : TypeName) (s : Shape) → seen d k t ≡ s → seen d k (type.Weak t) ≡ shape.Stored storage.Weak s
seen_weak d k t s p = fold-Weak Shape (over shape_with (named_within shape_with d k)) t ∙ ap (shape.Stored storage.Weak) p

pub seen_unowned : (d : Declarations) (k : ℕ) (t : TypeName) (s : Shape) → seen d k t ≡ s → seen d k (type.Unowned t) ≡ shape.Stored storage.Unowned s
seen_unowned d k t s p = fold-Unowned Shape (over shape_with (named_within shape_with d k)) t ∙ ap (shape.Stored storage.Unowned) p

-- a value's shape

pub at_int : (d : Declarations) (n : ℕ) → value_shape d (Some (type.Int n)) ≡ shape_of d (type.Int n)
at_int d n = simp (opened) refl

pub at_named : (d : Declarations) (name : List ℕ) → value_shape d (Some (type.Named name)) ≡ shape_of d (type.Named name)
at_named d name = simp (opened) refl

pub at_optional : (d : Declarations) (t : TypeName) → value_shape d (Some (type.Optional t)) ≡ shape_of d (type.Optional t)
at_optional d t = simp (opened) refl

pub at_tuple : (d : Declarations) (ts : List TypeName) → value_shape d (Some (type.Tuple ts)) ≡ shape_of d (type.Tuple ts)
at_tuple d ts = simp (opened) refl

pub at_address : (d : Declarations) (t : TypeName) → value_shape d (Some (type.Address t)) ≡ shape_of d t
at_address d t = simp (opened) refl

-- a type's measure

abbrev pub weighed : Declarations → ℕ → TypeName → Measure
weighed d k t = measure_with (measure_at (all_names d) (measures_within d k)) t

pub weighed_int : (d : Declarations) (k n : ℕ) → weighed d k (type.Int n) ≡ measured true 1 1
weighed_int d k n = fold-Int Measure (measure_over (measure_at (all_names d) (measures_within d k))) n

pub weighed_named : (d : Declarations) (k : ℕ) (name : List ℕ) → weighed d k (type.Named name) ≡ measure_at (all_names d) (measures_within d k) name
weighed_named d k name = fold-Named Measure (measure_over (measure_at (all_names d) (measures_within d k))) name

pub weighed_optional : (d : Declarations) (k : ℕ) (t : TypeName) (m : Measure) → weighed d k t ≡ m → weighed d k (type.Optional t) ≡ of_payloads (m ∷ [])
weighed_optional d k t m p = fold-Optional Measure (measure_over (measure_at (all_names d) (measures_within d k))) t ∙ ap (λ m. of_payloads (m ∷ [])) p

pub weighed_tuple : (d : Declarations) (k : ℕ) (ts : List TypeName) (ms : List Measure) → map (weighed d k) ts ≡ ms → weighed d k (type.Tuple ts) ≡ of_members ms
weighed_tuple d k ts ms p = fold-Tuple Measure (measure_over (measure_at (all_names d) (measures_within d k))) ts ∙ ap of_members p

pub weighed_weak : (d : Declarations) (k : ℕ) (t : TypeName) (m : Measure) → weighed d k t ≡ m → weighed d k (type.Weak t) ≡ of_storage m
weighed_weak d k t m p = fold-Weak Measure (measure_over (measure_at (all_names d) (measures_within d k))) t ∙ ap of_storage p

pub weighed_unowned : (d : Declarations) (k : ℕ) (t : TypeName) (m : Measure) → weighed d k t ≡ m → weighed d k (type.Unowned t) ≡ of_storage m
weighed_unowned d k t m p = fold-Unowned Measure (measure_over (measure_at (all_names d) (measures_within d k))) t ∙ ap of_storage p

pub weighed_address : (d : Declarations) (k : ℕ) (t : TypeName) (m : Measure) → weighed d k t ≡ m → weighed d k (type.Address t) ≡ m
weighed_address d k t m p = fold-Address Measure (measure_over (measure_at (all_names d) (measures_within d k))) t ∙ p

-- a result's definition

pub definition_by : (d : Declarations) (i : Inst) (k : ℕ) (ts : List TypeName) (b : Bool) → made_types d i ≡ ts → is_trivial_or_untyped d (slice_get ts k) ≡ b
    → result_definition d i k ≡ result_definition_by (result_kind_of i.op) i b
definition_by d i k ts b made trivial =
    ap (λ ts. result_definition_by (result_kind_of i.op) i (is_trivial_or_untyped d (slice_get ts k))) made
    ∙ ap (λ b. result_definition_by (result_kind_of i.op) i b) trivial

-- types are compared by their layers

abbrev same_step : TypeName-F (TypeName → Bool) → TypeName → Bool
same_step layer other = is_same_layer layer (out-TypeName other)

pub same_int : (n m : ℕ) → is_same_type (type.Int n) (type.Int m) ≡ (n == m)
same_int n m = ap (λ f. f (type.Int m)) (fold-Int (TypeName → Bool) same_step n) ∙ ap (is_same_layer (TypeName-F.Int n)) (out-Int m)

pub same_named : (a b : List ℕ) → is_same_type (type.Named a) (type.Named b) ≡ bytes_eq a b
same_named a b = ap (λ f. f (type.Named b)) (fold-Named (TypeName → Bool) same_step a) ∙ ap (is_same_layer (TypeName-F.Named a)) (out-Named b)

pub same_optional : (t u : TypeName) → is_same_type (type.Optional t) (type.Optional u) ≡ is_same_type t u
same_optional t u = ap (λ f. f (type.Optional u)) (fold-Optional (TypeName → Bool) same_step t) ∙ ap (is_same_layer (TypeName-F.Optional (is_same_type t))) (out-Optional u)

pub same_tuple : (ts us : List TypeName) → is_same_type (type.Tuple ts) (type.Tuple us) ≡ all_pairs applied (map is_same_type ts) us
same_tuple ts us = ap (λ f. f (type.Tuple us)) (fold-Tuple (TypeName → Bool) same_step ts) ∙ ap (is_same_layer (TypeName-F.Tuple (map is_same_type ts))) (out-Tuple us)

pub ruleset compared = (same_int, same_named, same_optional, same_tuple)

-- members of a shape or a measure

pub struct_seen : (name : List ℕ) (xs ys : List Shape) → xs ≡ ys → shape.Struct name (members_of xs) ≡ shape.Struct name (members_of ys)
struct_seen name xs ys p = ap (λ ss. shape.Struct name (members_of ss)) p

pub enum_seen : (name : List ℕ) (xs ys : List (CaseLayer Shape)) → xs ≡ ys → shape.Enum name (cases_of xs) ≡ shape.Enum name (cases_of ys)
enum_seen name xs ys p = ap (λ cs. shape.Enum name (cases_of cs)) p

pub members_weighed : (xs ys : List Measure) → xs ≡ ys → of_members xs ≡ of_members ys
members_weighed xs ys p = ap of_members p

pub payloads_weighed : (xs ys : List Measure) → xs ≡ ys → of_payloads xs ≡ of_payloads ys
payloads_weighed xs ys p = ap of_payloads p
