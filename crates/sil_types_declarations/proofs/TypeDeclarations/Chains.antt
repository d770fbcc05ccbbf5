-- Chains of classes, one class at a time.
use Rattle.std.proofs.Common.{◌≡◌, ℕ, zero, suc, ◌+◌, ◌-◌, ◌*◌, ◌<◌, ◌≤◌, List, [], ◌∷◌, ◌++◌, length, refl, sym, ap, subst, ◌∙◌, arith, length-append, Bool, false, Option, Some, None}
use Rattle.std.specs.Prelude.{slice_get, ◌||◌}
use Rattle.std.specs.List.{list_any}
use Rattle.std.specs.Str.{bytes_eq}
use Rattle.sil_ast.specs.declared.decl.Field.{Field}
use Rattle.sil_rules.specs.declared.limits.TheConstants.{DEPTH, MEMBERS}
use Rattle.numbered_form.specs.Names.{Name}
use Rattle.sil_types_declarations.specs.TypeDefinitions.Declarations.{Declarations, ancestors_of, chain, is_longer, superclass_of}
use Rattle.sil_types_declarations.specs.TypeDefinitions.Lookups.{chain_fields, field_at, own_fields}

swap : (a b c : ℕ) → a + b + c ≡ a + (c + b)
swap a b c = omega arith

-- as many fields as those of the classes above, and its own
pub count_on : (d : Declarations) (class : Name) (above : List Name) → length (chain_fields d (class ∷ above)) ≡ length (chain_fields d above) + length (own_fields d class)
count_on d class above = length-append (chain_fields d above) (own_fields d class)

module _ (d : Declarations) (most i : ℕ) where
  left : i < most → most - i ≡ suc (most - (i + 1))
  left lt = omega arith

  -- behind a class the chain goes on with its superclass
  pub chain_on : i < most → (class : Name) → chain d (most - i) (Some class) ≡ class ∷ chain d (most - (i + 1)) (superclass_of d class)
  chain_on lt class = ap (λ n. chain d n (Some class)) (left lt)

  pub chain_none : i < most → chain d (most - i) None ≡ []
  chain_none lt = ap (λ n. chain d n None) (left lt)

  pub chain_past : most ≤ i → (class : Option Name) → chain d (most - i) class ≡ []
  chain_past le class = ap (λ n. chain d n class) (let none : most - i ≡ 0 = omega arith in none)

  pub longer_on : i < most → (class : Name) → is_longer d (most - i) (Some class) ≡ is_longer d (most - (i + 1)) (superclass_of d class)
  longer_on lt class = ap (λ n. is_longer d n (Some class)) (left lt)

  -- the loops go from one class to the next
  module _ (lt : i < most) (at : Option Name) (class : Name) (above : Option Name) (is : at ≡ Some class) (next : above ≡ superclass_of d class) where
    here : chain d (most - i) at ≡ class ∷ chain d (most - (i + 1)) (superclass_of d class)
    here = ap (λ o. chain d (most - i) o) is ∙ chain_on lt class

    pub longer_next : (answer : Bool) → is_longer d (most - i) at ≡ answer → is_longer d (most - (i + 1)) above ≡ answer
    longer_next answer so_far =
        ap (λ o. is_longer d (most - (i + 1)) o) next ∙ sym (ap (λ o. is_longer d (most - i) o) is ∙ longer_on lt class) ∙ so_far

    pub inherits_next : (other : Name) (answer : Bool) → bytes_eq other class ≡ false → list_any (bytes_eq other) (chain d (most - i) at) ≡ answer
        → list_any (bytes_eq other) (chain d (most - (i + 1)) above) ≡ answer
    inherits_next other answer differs so_far =
        ap (λ o. list_any (bytes_eq other) (chain d (most - (i + 1)) o)) next
        ∙ ap (λ b. b || list_any (bytes_eq other) (chain d (most - (i + 1)) (superclass_of d class))) (sym differs)
        ∙ sym (ap (λ cs. list_any (bytes_eq other) cs) here) ∙ so_far

    pub count_next : (count total : ℕ) (own : List Field) → own ≡ own_fields d class → count + length (chain_fields d (chain d (most - i) at)) ≡ total
        → count + length own + length (chain_fields d (chain d (most - (i + 1)) above)) ≡ total
    count_next count total own own_is so_far =
        let behind = chain d (most - (i + 1)) (superclass_of d class) in
        ap (λ xs. count + length xs + length (chain_fields d (chain d (most - (i + 1)) above))) own_is
        ∙ ap (λ o. count + length (own_fields d class) + length (chain_fields d (chain d (most - (i + 1)) o))) next
        ∙ swap count (length (own_fields d class)) (length (chain_fields d behind))
        ∙ ap (λ n. count + n) (sym (ap (λ cs. length (chain_fields d cs)) here ∙ count_on d class behind)) ∙ so_far

  counted : (at : Option Name) → chain d (most - i) at ≡ [] → (count total : ℕ) → count + length (chain_fields d (chain d (most - i) at)) ≡ total → count ≡ total
  counted at none count total so_far =
      let nothing : count ≡ count + 0 = omega arith in
      nothing ∙ ap (λ cs. count + length (chain_fields d cs)) (sym none) ∙ so_far

  -- no class is left
  pub count_none : i < most → (at : Option Name) → at ≡ None → (count total : ℕ) → count + length (chain_fields d (chain d (most - i) at)) ≡ total → count ≡ total
  count_none lt at is = counted at (ap (λ o. chain d (most - i) o) is ∙ chain_none lt)

  -- as many classes were gone through as the limit allows
  pub count_end : most ≤ i → (at : Option Name) (count total : ℕ) → count + length (chain_fields d (chain d (most - i) at)) ≡ total → count ≡ total
  count_end le at = counted at (chain_past le at)

pub few_next : (count own i : ℕ) → count ≤ i * MEMBERS → own ≤ MEMBERS → count + own ≤ (i + 1) * MEMBERS
few_next count own i few one = omega arith

pub chain_is : (d : Declarations) (class : Name) (above : Option Name) → above ≡ superclass_of d class → chain d DEPTH above ≡ ancestors_of d class
unfolding ancestors_of
chain_is d class above is = ap (λ o. chain d DEPTH o) is

-- ---- what is behind a list, and what is in it

pub get_behind : {X : Type 0} (xs ys : List X) (i : ℕ) → length xs ≤ i → slice_get (xs ++ ys) i ≡ slice_get ys (i - length xs)
get_behind [] ys i le = ap (slice_get ys) (let same : i ≡ i - 0 = omega arith in same)
get_behind (x ∷ xs) ys zero le = absurd (omega arith)
get_behind (x ∷ xs) ys (suc i) le =
    get_behind xs ys i (omega arith) ∙ ap (slice_get ys) (let same : i - length xs ≡ suc i - suc (length xs) = omega arith in same)

pub get_before : {X : Type 0} (xs ys : List X) (i : ℕ) → i < length xs → slice_get (xs ++ ys) i ≡ slice_get xs i
get_before [] ys i lt = absurd (omega arith)
get_before (x ∷ xs) ys zero lt = refl
get_before (x ∷ xs) ys (suc i) lt = get_before xs ys i (omega arith)

-- ---- the field at a place

taken : (a b : ℕ) → a + b - b ≡ a
taken a b = omega arith

module _ (d : Declarations) (most i : ℕ) (class : Name) (index before : ℕ) (answer : Option Field)
    (counts : before ≡ length (chain_fields d (chain d (most - i) (superclass_of d class))))
    (so_far : slice_get (chain_fields d (chain d (most - i) (superclass_of d class)) ++ own_fields d class) index ≡ answer) where
  -- it is among the class's own
  pub at_own : before ≤ index → slice_get (own_fields d class) (index - before) ≡ answer
  at_own le =
      ap (λ n. slice_get (own_fields d class) (index - n)) counts
      ∙ sym (get_behind (chain_fields d (chain d (most - i) (superclass_of d class))) (own_fields d class) index (subst (λ n. n ≤ index) counts le)) ∙ so_far

  pub at_last : most ≤ i → slice_get (own_fields d class) index ≡ answer
  at_last le = ap (λ cs. slice_get (chain_fields d cs ++ own_fields d class) index) (sym (chain_past d most i le (superclass_of d class))) ∙ so_far

  module _ (lt : i < most) (less : index < before) (above : Name) (is : superclass_of d class ≡ Some above) where
    split : chain_fields d (chain d (most - i) (superclass_of d class)) ≡ chain_fields d (chain d (most - (i + 1)) (superclass_of d above)) ++ own_fields d above
    split = ap (λ o. chain_fields d (chain d (most - i) o)) is ∙ ap (λ cs. chain_fields d cs) (chain_on d most i lt above)

    pub before_next : (own : List Field) → own ≡ own_fields d above → before - length own ≡ length (chain_fields d (chain d (most - (i + 1)) (superclass_of d above)))
    before_next own own_is =
        let all : before ≡ length (chain_fields d (chain d (most - (i + 1)) (superclass_of d above))) + length (own_fields d above) =
        counts ∙ ap (λ xs. length xs) split ∙ length-append (chain_fields d (chain d (most - (i + 1)) (superclass_of d above))) (own_fields d above) in
        ap (λ xs. before - length xs) own_is ∙ ap (λ n. n - length (own_fields d above)) all
        ∙ taken (length (chain_fields d (chain d (most - (i + 1)) (superclass_of d above)))) (length (own_fields d above))

    pub found_next : slice_get (chain_fields d (chain d (most - (i + 1)) (superclass_of d above)) ++ own_fields d above) index ≡ answer
    found_next =
        ap (λ xs. slice_get xs index) (sym split)
        ∙ sym (get_before (chain_fields d (chain d (most - i) (superclass_of d class))) (own_fields d class) index (subst (λ n. index < n) counts less)) ∙ so_far

-- the first class is the owner
pub first_field : (d : Declarations) (owner : Name) (index : ℕ)
    → slice_get (chain_fields d (chain d DEPTH (superclass_of d owner)) ++ own_fields d owner) index ≡ field_at d owner index
unfolding ancestors_of
first_field d owner index = refl
