-- A module mentions a type past either limit where it mentions one past the limit on depth, or one past the limit on leaves.
use Rattle.std.proofs.Common.{◌≡◌, List, [], ◌∷◌, refl, sym, ap, ap₂, ◌∙◌, Bool, true, false}
use Rattle.std.specs.Prelude.{◌||◌, Option, Some, None, not, nat_le, min, slice_get, unwrap_or}
use Rattle.std.proofs.Common.{ℕ, zero, suc, ◌+◌, ◌<◌, map, arith}
use Rattle.std.proofs.lemmas.Bool.Decides.{leb_tells}
use Rattle.std.specs.List.{list_any}
use Rattle.sil_rules.specs.declared.limits.TheConstants.{DEPTH, LEAVES}
use Rattle.sil_ast.specs.declared.module.Module.{Module}
use Rattle.sil_ast.specs.declared.type_name.TypeName.TheVariants.{Int, Named}
use Rattle.sil_types_declarations.specs.numbered_form.Names.{Name}
use Rattle.sil_types_declarations.specs.TypeDefinitions.Declarations.{Declarations, all_names, at_place, declarations_of, place_of}
use Rattle.sil_types_declarations.specs.TypeDefinitions.Measures.{measure_at, measure_of, measured, measures_of, unmeasured}
use Rattle.sil_types_declarations.specs.declared.type_definitions.measure.Measure.{Measure}
use Rattle.sil_types_items.proofs.TypeMeasures.Agreement.{measure-Int, measure-Named}
use Rattle.sil_types_items.specs.TypeMeasures.inner.Gathered.{capped}
use Rattle.sil_types_items.specs.TypeItemRules.Faults.{is_wrong_type}
use Rattle.sil_types_items.proofs.TypeItemRules.NoFaults.{any_of_two, first_of_none, second_of_none}
use Rattle.sil_types_declarations.specs.TypeDefinitions.Mentions.{mentions_of}
use Rattle.sil_types_declarations.specs.TypeDefinitions.Rules.{InLimits, exceeds_depth, exceeds_leaves, has_too_many_leaves, is_too_deep, is_too_low}
use Rattle.sil_types.specs.inner.Limits.{any_past, exceeds, is_past}
use Rattle.sil_types.specs.declared.limits.Limit.{Limit}
use Rattle.sil_types.specs.declared.limits.Limit.TheVariants.{Depth, Leaves, Either}

last_swapped : (a b c : Bool) → ((a || b) || c) ≡ ((a || c) || b)
last_swapped true b c = refl
last_swapped false true true = refl
last_swapped false true false = refl
last_swapped false false true = refl
last_swapped false false false = refl

pub exceeds_either : (m : Module) → any_past Either (declarations_of m) m ≡ (exceeds_depth m || exceeds_leaves m)
exceeds_either m =
    let d = declarations_of m in
    ap (λ b. b || list_any (is_too_low d) m.decls) (any_of_two (is_too_deep d) (has_too_many_leaves d) (mentions_of m))
    ∙ last_swapped (list_any (is_too_deep d) (mentions_of m)) (list_any (has_too_many_leaves d) (mentions_of m)) (list_any (is_too_low d) m.decls)

-- where no type and no chain of classes is past one of the two, all are within both
pub within_limits : (m : Module) → any_past Either (declarations_of m) m ≡ false → InLimits m
within_limits m h =
    let none : (exceeds_depth m || exceeds_leaves m) ≡ false = sym (exceeds_either m) ∙ h in
    record {
      depth = first_of_none (exceeds_depth m) (exceeds_leaves m) none;
      leaves = second_of_none (exceeds_depth m) (exceeds_leaves m) none;
    }

-- where no type is wrong, none is past a limit, and none breaks a rule
pub none_past_limit : (m : Module) → list_any (λ t. is_wrong_type (declarations_of m) t || exceeds Either (declarations_of m) t) (mentions_of m) ≡ false
    → list_any (is_too_low (declarations_of m)) m.decls ≡ false → InLimits m
none_past_limit m h low =
    let d = declarations_of m in
    within_limits m (ap₂ (λ a b. a || b) (second_of_none (list_any (is_wrong_type d) (mentions_of m)) (list_any (exceeds Either d) (mentions_of m))
    (sym (any_of_two (is_wrong_type d) (exceeds Either d) (mentions_of m)) ∙ h)) low)

pub no_wrong_type : (m : Module) → list_any (λ t. is_wrong_type (declarations_of m) t || exceeds Either (declarations_of m) t) (mentions_of m) ≡ false
    → list_any (is_wrong_type (declarations_of m)) (mentions_of m) ≡ false
no_wrong_type m h =
    let d = declarations_of m in
    first_of_none (list_any (is_wrong_type d) (mentions_of m)) (list_any (exceeds Either d) (mentions_of m)) (sym (any_of_two (is_wrong_type d) (exceeds Either d) (mentions_of m)) ∙ h)

pub second_of_one : (a b : Bool) → (a || b) ≡ true → a ≡ false → b ≡ true
second_of_one a b h none = sym (ap (λ t. t || b) none) ∙ h

-- counting just past a limit doesn't change which side of it a number is on
le_counted : (n most limit : ℕ) → limit < most → nat_le (min n most) limit ≡ nat_le n limit
le_counted n most limit h = grind (arith, leb_tells)

past_counted : (what : Limit) (m : Measure) → is_past what (capped m) ≡ is_past what m
past_counted Depth m = ap not (le_counted m.depth (DEPTH + 1) DEPTH (omega arith))
past_counted Leaves m = ap not (le_counted m.leaves (LEAVES + 1) LEAVES (omega arith))
past_counted Either m = ap (λ b. not b || not (nat_le (min m.leaves (LEAVES + 1)) LEAVES)) (le_counted m.depth (DEPTH + 1) DEPTH (omega arith))
    ∙ ap (λ b. not (nat_le m.depth DEPTH) || not b) (le_counted m.leaves (LEAVES + 1) LEAVES (omega arith))

unmeasured_within : (what : Limit) → is_past what unmeasured ≡ false
unmeasured_within Depth = refl
unmeasured_within Leaves = refl
unmeasured_within Either = refl

-- an integer has one leaf
pub integer_within : (what : Limit) (d : Declarations) (width : ℕ) → is_past what (measure_of d (Int width)) ≡ false
integer_within what d width = ap (is_past what) (measure-Int (measure_at (all_names d) (measures_of d)) width) ∙ one_leaf what
  where
    one_leaf : (what : Limit) → is_past what (measured true 1 1) ≡ false
    one_leaf Depth = refl
    one_leaf Leaves = refl
    one_leaf Either = refl

none_past : (what : Limit) (ms : List Measure) → list_any (is_past what) (map capped ms) ≡ false → (k : ℕ) → is_past what (unwrap_or (slice_get ms k) unmeasured) ≡ false
none_past what [] none k = unmeasured_within what
none_past what (m ∷ ms) none zero = sym (past_counted what m) ∙ first_of_none (is_past what (capped m)) (list_any (is_past what) (map capped ms)) none
none_past what (m ∷ ms) none (suc k) = none_past what ms (second_of_none (is_past what (capped m)) (list_any (is_past what) (map capped ms)) none) k

-- where no declaration is past a limit, no name is
pub no_name_past : (what : Limit) (d : Declarations) (name : Name) → list_any (is_past what) (map capped (measures_of d)) ≡ false → is_past what (measure_of d (Named name)) ≡ false
no_name_past what d name none = ap (is_past what) (measure-Named (measure_at (all_names d) (measures_of d)) name) ∙ at (place_of (all_names d) name)
  where
    at : (place : Option ℕ) → is_past what (unwrap_or (at_place (measures_of d) place) unmeasured) ≡ false
    at None = unmeasured_within what
    at (Some k) = none_past what (measures_of d) none k
