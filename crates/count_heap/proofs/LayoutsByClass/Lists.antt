-- Places of fields, one behind another.
use Rattle.std.proofs.Common.{◌≡◌, ℕ, zero, suc, ◌+◌, ◌-◌, ◌<◌, ◌≤◌, List, [], ◌∷◌, ◌++◌, Some, None, inl, inr, length, map, refl, sym, ap, ◌∙◌, arith, append_assoc}
use Rattle.std.specs.Prelude.{slice_get, slice_index_or}
use Rattle.std.specs.List.{range_with_len}
use Rattle.std.proofs.lemmas.Bool.{cases_lt}
use Rattle.std.proofs.lemmas.List.{get_or_past, map-append}
use Rattle.number_tables.specs.PathLists.inner.Lists.{list_at}
use Rattle.std.proofs.lemmas.List.FromFn.{get_or-map-range_with_len, length-map-range_with_len, map-range_with_len_more}
use Rattle.sil_ast.specs.declared.decl.Decl.{Decl}
use Rattle.sil_ast.specs.declared.decl.Field.{Field}
use Rattle.sil_types.specs.numbered_form.Names.{Name}
use Rattle.sil_types.specs.sil_types_declarations.TypeDefinitions.Declarations.{Declarations, ancestors_of, chain, superclass_of}
use Rattle.sil_types.specs.sil_types_declarations.TypeDefinitions.Lookups.{chain_fields, class_named, fields_of, own_fields}
use Rattle.sil_rules.specs.declared.limits.TheConstants.{DEPTH}
use Rattle.count_heap.specs.LayoutsByClass.ClassFields.{field_leaves, leaves_by_field, named_fields}
use Rattle.count_heap.specs.LayoutsByClass.Layouts.{places_from, size_of}
use Rattle.count_heap.specs.declared.layouts_by_class.field_place.FieldPlace.{FieldPlace}
use Rattle.count_heap.specs.LayoutsByClass.inner.Kept.{AreLayouts, class_size, places_of, places_until, sizes_until}

pub size_append : (xs ys : List ℕ) → size_of (xs ++ ys) ≡ size_of xs + size_of ys
size_append [] ys = omega arith
size_append (x ∷ xs) ys = omega (arith, size_append xs ys)

pub places_append : (from : ℕ) (xs ys : List ℕ) → places_from from (xs ++ ys) ≡ places_from from xs ++ places_from (from + size_of xs) ys
places_append from [] ys = ap (λ n. places_from n ys) (let same : from ≡ from + 0 = omega arith in same)
places_append from (x ∷ xs) ys =
    ap (λ ps. record { from = from; count = x } ∷ ps)
    (places_append (from + x + 1) xs ys ∙ ap (λ n. places_from (from + x + 1) xs ++ places_from n ys) (let same : from + x + 1 + size_of xs ≡ from + (x + 1 + size_of xs) = omega arith in same))

pub length_places : (from : ℕ) (ns : List ℕ) → length (places_from from ns) ≡ length ns
length_places from [] = refl
length_places from (n ∷ ns) = ap suc (length_places (from + n + 1) ns)

pub few_places : (ns : List ℕ) → length ns ≤ size_of ns
few_places [] = omega arith
few_places (n ∷ ns) = omega (arith, few_places ns)

-- fields behind fields

module _ (d : Declarations) (start : ℕ) (old : List FieldPlace) (fs gs : List Field) (now then : List FieldPlace) (size size' : ℕ)
    (now_is : now ≡ old ++ places_from start (map (field_leaves d) fs)) (size_is : size ≡ start + size_of (map (field_leaves d) fs))
    (then_is : then ≡ now ++ places_from size (map (field_leaves d) gs)) (size_then : size' ≡ size + size_of (map (field_leaves d) gs)) where
  pub both_places : then ≡ old ++ places_from start (map (field_leaves d) (fs ++ gs))
  both_places =
      then_is ∙ ap (λ ps. ps ++ places_from size (map (field_leaves d) gs)) now_is
      ∙ ap (λ n. (old ++ places_from start (map (field_leaves d) fs)) ++ places_from n (map (field_leaves d) gs)) size_is
      ∙ append_assoc old (places_from start (map (field_leaves d) fs)) (places_from (start + size_of (map (field_leaves d) fs)) (map (field_leaves d) gs))
      ∙ ap (λ ps. old ++ ps) (sym (places_append start (map (field_leaves d) fs) (map (field_leaves d) gs)) ∙ ap (places_from start) (sym (map-append (field_leaves d) fs gs)))

  pub both_sizes : size' ≡ start + size_of (map (field_leaves d) (fs ++ gs))
  both_sizes = omega (arith, size_append (map (field_leaves d) fs) (map (field_leaves d) gs), ap size_of (map-append (field_leaves d) fs gs))

-- ---- chains of classes

chain_on : (d : Declarations) (most : ℕ) (class : Name) → 1 ≤ most → chain d most (Some class) ≡ class ∷ chain d (most - 1) (superclass_of d class)
chain_on d zero class some = absurd (omega arith)
chain_on d (suc n) class some = ap (λ m. class ∷ chain d m (superclass_of d class)) (let e : n ≡ suc n - 1 = omega arith in e)

-- the fields of those above a class, and then its own
pub fields_on : (d : Declarations) (most : ℕ) (class : Name) → 1 ≤ most
    → chain_fields d (chain d most (Some class)) ≡ chain_fields d (chain d (most - 1) (superclass_of d class)) ++ own_fields d class
fields_on d most class some = ap (chain_fields d) (chain_on d most class some)

pub fields_are : (d : Declarations) (class : Name) → fields_of d class ≡ chain_fields d (chain d DEPTH (superclass_of d class)) ++ own_fields d class
unfolding ancestors_of
fields_are d class = refl

-- ---- all declarations

module _ (d : Declarations) where
  none_past : (c : ℕ) → length d.decls ≤ c → leaves_by_field d c ≡ []
  none_past c le = ap (λ o. map (field_leaves d) (named_fields d (class_named o))) (nothing d.decls c le)
    where
      nothing : {X : Type 0} (xs : List X) (i : ℕ) → length xs ≤ i → slice_get xs i ≡ None
      nothing [] i le = refl
      nothing (x ∷ xs) zero le = absurd (omega arith)
      nothing (x ∷ xs) (suc i) le = nothing xs i (omega arith)

  module _ (places : List (List FieldPlace)) (sizes : List ℕ) (are : AreLayouts d places sizes) where
    pub places_at : (c : ℕ) → list_at places c ≡ places_from 0 (leaves_by_field d c)
    places_at c =
        elim (cases_lt c (length d.decls)) [
          | inl lt ↦ ap (λ ps. list_at ps c) are.places_are ∙ at_within (places_of d) 0 (length d.decls) c lt ∙ ap (places_of d) (let e : 0 + c ≡ c = omega arith in e)
          | inr le ↦ ap (λ ps. list_at ps c) are.places_are ∙ at_past (places_of d) 0 (length d.decls) c le ∙ sym (ap (places_from 0) (none_past c le))
        ]
      where
        at_within : {X : Type 0} (f : ℕ → List X) (a n c : ℕ) → c < n → list_at (map f (range_with_len a n)) c ≡ f (a + c)
        at_within f a zero c lt = absurd (omega arith)
        at_within f a (suc n) zero lt = ap f (let e : a ≡ a + 0 = omega arith in e)
        at_within f a (suc n) (suc c) lt = at_within f (a + 1) n c (omega arith) ∙ ap f (let e : a + 1 + c ≡ a + suc c = omega arith in e)

        at_past : {X : Type 0} (f : ℕ → List X) (a n c : ℕ) → n ≤ c → list_at (map f (range_with_len a n)) c ≡ []
        at_past f a zero c le = refl
        at_past f a (suc n) zero le = absurd (omega arith)
        at_past f a (suc n) (suc c) le = at_past f (a + 1) n c (omega arith)

    pub sizes_at : (c : ℕ) → slice_index_or sizes c 0 ≡ size_of (leaves_by_field d c)
    sizes_at c =
        elim (cases_lt c (length d.decls)) [
          | inl lt ↦ ap (λ ss. slice_index_or ss c 0) are.sizes_are ∙ get_or-map-range_with_len (class_size d) 0 (length d.decls) c c 0 lt (omega arith)
          | inr le ↦
              ap (λ ss. slice_index_or ss c 0) are.sizes_are ∙ get_or_past (sizes_until d (length d.decls)) c 0 (omega (arith, length-map-range_with_len (class_size d) 0 (length d.decls)))
              ∙ sym (ap size_of (none_past c le))
        ]

  -- one declaration more
  module _ (i : ℕ) (x : Decl) (lt : i < length d.decls) (is : x ≡ slice_index_or d.decls i x) where
    decl_is : slice_get d.decls i ≡ Some x
    decl_is = by d.decls i lt is
      where
        by : (xs : List Decl) (i : ℕ) → i < length xs → x ≡ slice_index_or xs i x → slice_get xs i ≡ Some x
        by [] i lt is = absurd (omega arith)
        by (y ∷ xs) zero lt is = ap Some (sym is)
        by (y ∷ xs) (suc i) lt is = by xs i (omega arith) is

    leaves_are : map (field_leaves d) (named_fields d (class_named (Some x))) ≡ leaves_by_field d i
    leaves_are = ap (λ o. map (field_leaves d) (named_fields d (class_named o))) (sym decl_is)

    pub places_next : (places : List (List FieldPlace)) (new : List FieldPlace) → places ≡ places_until d i
        → new ≡ places_from 0 (map (field_leaves d) (named_fields d (class_named (Some x)))) → places ++ new ∷ [] ≡ places_until d (i + 1)
    places_next places new are new_is =
        ap (λ ps. ps ++ new ∷ []) are ∙ ap (λ p. places_until d i ++ p ∷ []) (new_is ∙ ap (places_from 0) leaves_are)
        ∙ sym (map-range_with_len_more (places_of d) 0 i i (omega arith))

    pub sizes_next : (sizes : List ℕ) (new : ℕ) → sizes ≡ sizes_until d i → new ≡ size_of (map (field_leaves d) (named_fields d (class_named (Some x))))
        → sizes ++ new ∷ [] ≡ sizes_until d (i + 1)
    sizes_next sizes new are new_is =
        ap (λ ss. ss ++ new ∷ []) are ∙ ap (λ s. sizes_until d i ++ s ∷ []) (new_is ∙ ap size_of leaves_are)
        ∙ sym (map-range_with_len_more (class_size d) 0 i i (omega arith))
