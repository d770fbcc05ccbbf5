-- The fault that is found first is the first by its key.
use Rattle.std.proofs.Common.{◌≡◌, ℕ, zero, suc, ◌+◌, ◌<◌, ◌≤◌, List, [], ◌∷◌, ◌++◌, length, map, refl, sym, ap, ◌∙◌, subst, arith, Bool, true, false, Option, Some, None, inl, inr}
use Rattle.std.specs.Prelude.{◌⊎◌, IsSomeAnd, slice_get, if◌then◌else◌}
use Rattle.std.specs.Option.{option_or}
use Rattle.std.proofs.lemmas.Bool.{cases_lt}
use Rattle.std.proofs.lemmas.List.{length-map}
use Rattle.std.proofs.Common.{length-append}
use Rattle.sil_ast.specs.declared.module.Module.{Module}
use Rattle.sil_rules.specs.Order.{NotAfter, IsFirst, stage_of}
use Rattle.sil_rules.specs.Rules.{number_of, group_of}
use Rattle.sil_rules.specs.declared.rule.Rule.{Rule}
use Rattle.sil_rules.specs.declared.rule.Rule.TheVariants as rule
use Rattle.sil_types_declarations.specs.TypeDefinitions.Declarations.{Declarations}
use Rattle.sil_types_declarations.specs.TypeDefinitions.Mentions.{Item, decl, function, vtable, items_of}
use Rattle.sil_types_declarations.specs.TypeDefinitions.Rules.{has_unknown_type, has_bad_member, has_misplaced_storage}
use Rattle.sil_types_items.specs.declared.type_item_rules.by_item.ItemFault.{ItemFault}
use Rattle.sil_types_items.specs.TypeItemRules.Faults.{Breaks, BreaksIn, fault_key, broken_by, fault_or, fault_from}
use Rattle.sil_types_items.specs.TypeItemRules.Faults.Breaks.{unknown_type, bad_member, misplaced_storage}

-- the rule that an item breaks first, where it breaks one
abbrev IsFirstRule : Declarations → Item → Option Rule → Type 0
IsFirstRule d i None = (r : Rule) → Breaks d i r → ⊥
IsFirstRule d i (Some r) = Breaks d i r × ((other : Rule) → Breaks d i other → number_of r ≤ number_of other)

first_rule : (d : Declarations) (i : Item) → IsFirstRule d i (broken_by d i)
first_rule d i = by (has_unknown_type d i) (has_bad_member d i) (has_misplaced_storage d i) refl refl refl
  where
    by : (a b c : Bool) → has_unknown_type d i ≡ a → has_bad_member d i ≡ b → has_misplaced_storage d i ≡ c
        → IsFirstRule d i (if a then Some rule.UnknownType else if b then Some rule.BadMember else if c then Some rule.WeakOrUnownedOutsideStorage else None)
    by true b c ea eb ec = (unknown_type ea, least)
      where
        least : (other : Rule) → Breaks d i other → number_of rule.UnknownType ≤ number_of other
        least _ (unknown_type h) = omega arith
        least _ (bad_member h) = omega arith
        least _ (misplaced_storage h) = omega arith
    by false true c ea eb ec = (bad_member eb, least)
      where
        least : (other : Rule) → Breaks d i other → number_of rule.BadMember ≤ number_of other
        least _ (unknown_type h) = absurd (cc (h, ea))
        least _ (bad_member h) = omega arith
        least _ (misplaced_storage h) = omega arith
    by false false true ea eb ec = (misplaced_storage ec, least)
      where
        least : (other : Rule) → Breaks d i other → number_of rule.WeakOrUnownedOutsideStorage ≤ number_of other
        least _ (unknown_type h) = absurd (cc (h, ea))
        least _ (bad_member h) = absurd (cc (h, eb))
        least _ (misplaced_storage h) = omega arith
    by false false false ea eb ec = none
      where
        none : (r : Rule) → Breaks d i r → ⊥
        none _ (unknown_type h) = cc (h, ea)
        none _ (bad_member h) = cc (h, eb)
        none _ (misplaced_storage h) = cc (h, ec)

-- the fault is one of these items, of which the first has the number n
abbrev IsAt : Declarations → ℕ → List Item → ItemFault → Type 0
IsAt d n items f = (k : ℕ) × (f.item ≡ n + k) × IsSomeAnd (slice_get items k) (λ i. Breaks d i f.rule)

abbrev NotLater : ItemFault → ItemFault → Type 0
NotLater f g = (f.item < g.item) ⊎ ((f.item ≡ g.item) × (number_of f.rule ≤ number_of g.rule))

abbrev IsFirstAt : Declarations → ℕ → List Item → Option ItemFault → Type 0
IsFirstAt d n items None = (f : ItemFault) → IsAt d n items f → ⊥
IsFirstAt d n items (Some f) = IsAt d n items f × ((other : ItemFault) → IsAt d n items other → NotLater f other)

none_at : (d : Declarations) (n : ℕ) (f : ItemFault) → IsAt d n [] f → ⊥
none_at d n f h = h.2

module _ (d : Declarations) (n : ℕ) (i : Item) (items : List Item) where
  first_here : (r : Rule) → IsFirstRule d i (Some r) → IsFirstAt d n (i ∷ items) (Some (record { item = n; rule = r }))
  first_here r first = ((0, omega arith, first.0), later)
    where
      later : (other : ItemFault) → IsAt d n (i ∷ items) other → NotLater (record { item = n; rule = r }) other
      later other (zero, e, b) = inr (omega (arith, e), first.1 other.rule b)
      later other (suc k, e, b) = inl (omega (arith, e))

  first_behind : (rest : Option ItemFault) → IsFirstRule d i None → IsFirstAt d (n + 1) items rest → IsFirstAt d n (i ∷ items) rest
  first_behind None none first = nothing
    where
      nothing : (f : ItemFault) → IsAt d n (i ∷ items) f → ⊥
      nothing f (zero, e, b) = none f.rule b
      nothing f (suc k, e, b) = first f (k, omega (arith, e), b)
  first_behind (Some f) none first = ((suc first.0.0, omega (arith, first.0.1), first.0.2), later)
    where
      later : (other : ItemFault) → IsAt d n (i ∷ items) other → NotLater f other
      later other (zero, e, b) = absurd (none other.rule b)
      later other (suc k, e, b) = first.1 other (k, omega (arith, e), b)

  first_of_both : (r : Option Rule) (rest : Option ItemFault) → IsFirstRule d i r → IsFirstAt d (n + 1) items rest → IsFirstAt d n (i ∷ items) (fault_or n r rest)
  first_of_both None rest here behind = first_behind rest here behind
  first_of_both (Some r) rest here behind = first_here r here

first_at : (d : Declarations) (n : ℕ) (items : List Item) → IsFirstAt d n items (fault_from d n items)
first_at d n [] = none_at d n
first_at d n (i ∷ items) = first_of_both d n i items (broken_by d i) (fault_from d (n + 1) items) (first_rule d i) (first_at d (n + 1) items)

-- the three rules are looked for together
one_stage : (d : Declarations) (i : Item) (r : Rule) → Breaks d i r → stage_of (group_of r) ≡ 1
one_stage d i _ (unknown_type h) = refl
one_stage d i _ (bad_member h) = refl
one_stage d i _ (misplaced_storage h) = refl

pub stage_at : (d : Declarations) (items : List Item) (f : ItemFault) (k : ℕ) → IsSomeAnd (slice_get items k) (λ i. Breaks d i f.rule) → stage_of (group_of f.rule) ≡ 1
stage_at d items f k h = by (slice_get items k) h
  where
    by : (o : Option Item) → IsSomeAnd o (λ i. Breaks d i f.rule) → stage_of (group_of f.rule) ≡ 1
    by None h = absurd h
    by (Some i) h = one_stage d i f.rule h

by_key : (f g : ItemFault) → stage_of (group_of f.rule) ≡ stage_of (group_of g.rule) → NotLater f g → NotAfter (fault_key f) (fault_key g)
by_key f g same (inl lt) = inr (same, inl lt)
by_key f g same (inr (e, le)) = inr (same, inr (e, by (cases_lt (number_of f.rule) (number_of g.rule))))
  where
    by : (number_of f.rule < number_of g.rule) ⊎ (number_of g.rule ≤ number_of f.rule) → NotAfter (number_of f.rule ∷ []) (number_of g.rule ∷ [])
    by (inl lt) = inl lt
    by (inr ge) = inr (omega (arith, le, ge), tt)

module _ (d : Declarations) (m : Module) where
  first_in : (r : Option ItemFault) → IsFirstAt d 0 (items_of m) r → IsFirst fault_key (BreaksIn d m) r
  first_in None none = λ f h. none f (f.item, omega arith, h)
  first_in (Some f) first = record {
    shown = here;
    first = λ other h. by_key f other (stage_at d (items_of m) f f.item here ∙ sym (stage_at d (items_of m) other other.item h)) (first.1 other (other.item, omega arith, h));
  }
    where
      here : BreaksIn d m f
      here = subst (λ k. IsSomeAnd (slice_get (items_of m) k) (λ i. Breaks d i f.rule)) (omega (arith, first.0.1)) first.0.2

  fault_more : (n : ℕ) (r : Option Rule) (xs ys : List Item) (size : ℕ) → fault_from d (n + 1) (xs ++ ys) ≡ option_or (fault_from d (n + 1) xs) (fault_from d size ys)
      → fault_or n r (fault_from d (n + 1) (xs ++ ys)) ≡ option_or (fault_or n r (fault_from d (n + 1) xs)) (fault_from d size ys)
  fault_more n None xs ys size h = h
  fault_more n (Some r) xs ys size h = refl

  fault_append : (n : ℕ) (xs ys : List Item) → fault_from d n (xs ++ ys) ≡ option_or (fault_from d n xs) (fault_from d (n + length xs) ys)
  fault_append n [] ys = let same : n ≡ n + 0 = omega arith in ap (λ k. fault_from d k ys) same
  fault_append n (x ∷ xs) ys =
      let same : n + 1 + length xs ≡ n + length (x ∷ xs) = omega arith in
      fault_more n (broken_by d x) xs ys (n + length (x ∷ xs)) (fault_append (n + 1) xs ys ∙ ap (λ k. option_or (fault_from d (n + 1) xs) (fault_from d k ys)) same)

  fault_in_parts : option_or (option_or (fault_from d 0 (map decl m.decls)) (fault_from d (length m.decls) (map function m.functions)))
      (fault_from d (length m.decls + length m.functions) (map vtable m.vtables)) ≡ fault_from d 0 (items_of m)
  fault_in_parts =
      let ds = map decl m.decls in
      let fs = map function m.functions in
      let many : length ds ≡ length m.decls = length-map m.decls decl in
      let more : length fs ≡ length m.functions = length-map m.functions function in
      let both : length (ds ++ fs) ≡ length ds + length fs = length-append ds fs in
      let first : 0 + length ds ≡ length m.decls = omega arith in
      let second : 0 + length (ds ++ fs) ≡ length m.decls + length m.functions = omega arith in
      sym (fault_append 0 (ds ++ fs) (map vtable m.vtables)
      ∙ ap (λ o. option_or o (fault_from d (0 + length (ds ++ fs)) (map vtable m.vtables))) (fault_append 0 ds fs)
      ∙ ap (λ k. option_or (option_or (fault_from d 0 ds) (fault_from d k fs)) (fault_from d (0 + length (ds ++ fs)) (map vtable m.vtables))) first
      ∙ ap (λ k. option_or (option_or (fault_from d 0 ds) (fault_from d (length m.decls) fs)) (fault_from d k (map vtable m.vtables))) second)

  -- from the first faults of declarations, functions and vtables
  pub first_of_parts : (r : Option ItemFault) → r ≡ option_or (option_or (fault_from d 0 (map decl m.decls)) (fault_from d (length m.decls) (map function m.functions)))
      (fault_from d (length m.decls + length m.functions) (map vtable m.vtables)) →
      IsFirst fault_key (BreaksIn d m) r
  first_of_parts r e = subst (IsFirst fault_key (BreaksIn d m)) (sym (e ∙ fault_in_parts)) (first_in (fault_from d 0 (items_of m)) (first_at d 0 (items_of m)))
