-- The deinitialisers that wait are those of the object's class and its ancestors.
use Rattle.std.proofs.Common.{◌≡◌, ◌+◌, ◌∙◌, ℕ, zero, suc, List, [], ◌∷◌, ◌++◌, true, Option, Some, None, drop, length, refl, sym, ap, arith}
use Rattle.std.specs.Prelude.{bytes_eq, slice_get}
use Rattle.std.specs.List.{flat_map, list_any}
use Rattle.std.specs.Option.{option_to_list}
use Rattle.std.proofs.lemmas.Bool.{or_left, or_right}
use Rattle.std.proofs.lemmas.Option.{none-some, same_Some}
use Rattle.std.proofs.lemmas.Slice.Eq.{bytes_eq-Decides}
use Rattle.count_machine_model.specs.holder_model.Dropping.{deinits_of}
use Rattle.numbered_form.specs.Names.{Name}
use Rattle.count_machine_model.specs.holder_model.RunTyping.CallForms.{IsDeinitOf}
use Rattle.count_machine_model.specs.holder_model.RunTyping.Classes.{is_a}
use Rattle.count_machine_model.specs.holder_model.RunTyping.RunTyped.{RunTyped}
use Rattle.sil_ast.specs.declared.module.Module.{Module}
use Rattle.sil_ast.specs.declared.place.FuncId.{FuncId}
use Rattle.sil_types_declarations.specs.TypeDefinitions.Declarations.{ancestors_of, declarations_of, inherits}
use Rattle.sil_types_declarations.specs.TypeDefinitions.Lookups.{deinit_of}

-- lists that are read from a place on

first_of : {A : Type 0} (x : A) (rest xs : List A) (n : ℕ) → x ∷ rest ≡ drop n xs → (slice_get xs n ≡ Some x) × (rest ≡ drop (suc n) xs)
first_of x rest [] zero e = absurd (omega (arith, ap length e))
first_of x rest [] (suc n) e = absurd (omega (arith, ap length e))
first_of x rest (y ∷ xs) zero e = (ap (λ ys. slice_get ys 0) (sym e), ap (drop 1) e)
first_of x rest (y ∷ xs) (suc n) e = first_of x rest xs n e

pub first_dropped : {A : Type 0} (x : A) (rest xs : List A) (n : ℕ) → x ∷ rest ≡ drop n xs → (slice_get xs n ≡ Some x) × (rest ≡ drop (n + 1) xs)
first_dropped x rest xs n e = let first = first_of x rest xs n e in let next : suc n ≡ n + 1 = omega arith in (first.0, first.1 ∙ ap (λ k. drop k xs) next)

pub none_dropped : {A : Type 0} (xs : List A) (n : ℕ) → [] ≡ drop n xs → slice_get xs n ≡ None
none_dropped [] n e = refl
none_dropped (x ∷ xs) zero e = absurd (omega (arith, ap length e))
none_dropped (x ∷ xs) (suc n) e = none_dropped xs n e

-- one of those that classes have is that of one of them
found_in : {A B : Type 0} (f : A → Option B) (xs : List A) (k : ℕ) (y : B) → slice_get (flat_map (λ x. option_to_list (f x)) xs) k ≡ Some y
    → (j : ℕ) × (x : A) × (slice_get xs j ≡ Some x) × (f x ≡ Some y)
found_in f [] k y there = absurd (none-some y there)
found_in {A = A} {B = B} f (x ∷ xs) k y there = at (f x) refl k there (λ l. found_in f xs l y)
  where
    Found : List A → Type 0
    Found zs = (j : ℕ) × (z : A) × (slice_get zs j ≡ Some z) × (f z ≡ Some y)

    further : Found xs → Found (x ∷ xs)
    further (j, z, e, is) = (suc j, z, e, is)

    at : (o : Option B) → f x ≡ o → (k : ℕ) → slice_get (option_to_list o ++ flat_map (λ x. option_to_list (f x)) xs) k ≡ Some y
        → ((l : ℕ) → slice_get (flat_map (λ x. option_to_list (f x)) xs) l ≡ Some y → Found xs) → Found (x ∷ xs)
    at None e k there others = further (others k there)
    at (Some z) e zero there others = (0, x, refl, e ∙ there)
    at (Some z) e (suc k) there others = further (others k there)

named_any : (name : Name) (names : List Name) (j : ℕ) → slice_get names j ≡ Some name → list_any (bytes_eq name) names ≡ true
named_any name [] j there = absurd (none-some name there)
named_any name (n ∷ names) zero there =
    or_left (bytes_eq name n) (list_any (bytes_eq name) names) ((bytes_eq-Decides name n).1 (sym (same_Some n name there)))
named_any name (n ∷ names) (suc j) there = or_right (bytes_eq name n) (list_any (bytes_eq name) names) (named_any name names j there)

-- each deinitialiser is that of a class above the object's, or of its own
pub record DeinitFrom (m : Module) (class : Name) (g : FuncId) : Type 0 where
  pub of : Name
  pub above : is_a (declarations_of m) class of ≡ true
  pub is_deinit : IsDeinitOf m of g

pub deinit_from : (m : Module) → RunTyped m → (class : Name) (k : ℕ) (g : FuncId) → slice_get (deinits_of (declarations_of m) class) k ≡ Some g → DeinitFrom m class g
deinit_from m typed class k g there = at (found_in (deinit_of (declarations_of m)) (class ∷ ancestors_of (declarations_of m) class) k g there)
  where
    at : ((j : ℕ) × (of : Name) × (slice_get (class ∷ ancestors_of (declarations_of m) class) j ≡ Some of) × (deinit_of (declarations_of m) of ≡ Some g)) → DeinitFrom m class g
    at (zero, of, e, is) = record {
      of = of;
      above = ap (λ c. is_a (declarations_of m) class c) (sym (same_Some class of e)) ∙ typed.classes.itself class;
      is_deinit = typed.deinits of g is;
    }
    at (suc j, of, e, is) = record {
      of = of;
      above = or_right (bytes_eq of class) (inherits (declarations_of m) class of) (named_any of (ancestors_of (declarations_of m) class) j e);
      is_deinit = typed.deinits of g is;
    }
