-- The fields of a module within the limits are in theirs, and then no class is too large to be laid out.
use Rattle.std.proofs.Common.{◌≡◌, ℕ, zero, suc, ◌+◌, ◌*◌, ◌<◌, ◌≤◌, ◌^◌, List, [], ◌∷◌, ◌++◌, Bool, true, false, Option, Some, None, length, map, take, refl, sym, ap, ◌∙◌}
use Rattle.std.proofs.Common.{subst, arith}
use Rattle.std.specs.Prelude.{◌||◌, nat_le, slice_get, slice_index_or}
use Rattle.std.specs.List.{flat_map, list_any}
use Rattle.std.proofs.lemmas.Bool.{leb-true, not-false, or_parts}
use Rattle.std.proofs.lemmas.List.{length-map, map-append}
use Rattle.sil_ast.specs.declared.decl.Decl.{Decl}
use Rattle.sil_ast.specs.declared.decl.Decl.TheVariants.{Class, Enum, Struct}
use Rattle.sil_ast.specs.declared.decl.Field.{Field}
use Rattle.sil_ast.specs.declared.decl.Storage.{Storage}
use Rattle.sil_ast.specs.declared.decl.Storage.TheVariants as storage
use Rattle.sil_ast.specs.declared.type_name.TypeName.{TypeName, TypeName-F, fold-TypeName, fold-roll-TypeName}
use Rattle.sil_ast.specs.declared.type_name.TypeName.TheVariants as type
use Rattle.sil_ast.specs.declared.type_name.TypeName.TheVariants.{rolls-Int, rolls-Weak, rolls-Unowned}
use Rattle.sil_rules.specs.declared.limits.TheConstants.{DEPTH, LEAVES, MEMBERS}
use Rattle.sil_types.specs.numbered_form.Lists.{Each}
use Rattle.sil_types.specs.numbered_form.Names.{Name, decl_name, field_name}
use Rattle.sil_types.specs.numbered_form.inner.Limits.{IsDeclInLimits}
use Rattle.sil_types.specs.sil_types_declarations.TypeDefinitions.Declarations.{Declarations, all_decls, all_names, at_place, chain, declarations_of, place_of}
use Rattle.sil_types.specs.sil_types_declarations.TypeDefinitions.Declarations.{superclass_of, swift_structs}
use Rattle.sil_types.specs.sil_types_declarations.TypeDefinitions.Lookups.{chain_fields, class_at, decl_fields, fields_of, own_fields}
use Rattle.sil_types.specs.sil_types_declarations.TypeDefinitions.Measures.{leaves_in, leaves_of, measure_at, measure_over, measures_of}
use Rattle.sil_types.specs.sil_types_declarations.TypeDefinitions.Mentions.{in_decl, in_field, in_function, in_members, mention}
use Rattle.sil_types.specs.sil_types_declarations.TypeDefinitions.Rules.{has_too_many_leaves}
use Rattle.sil_types.specs.sil_types_declarations.declared.type_definitions.measure.Measure.{Measure}
use Rattle.sil_types.specs.sil_types_declarations.declared.type_definitions.standing.Standing.TheVariants.{Unwritten}
use Rattle.sil_types.specs.Typing.Shapes.{stored_as}
use Rattle.count_heap.specs.LayoutsByClass.ClassFields.{AreFieldsInLimits, IsFieldInLimits, field_leaves, named_fields}
use Rattle.count_heap.specs.LayoutsByClass.Layouts.{size_of}
use Rattle.count_heap.specs.inner.Laws.{ClassesAreSmall, FieldsAreInLimits}
use Rattle.count_heap.proofs.LayoutsByClass.Lists.{fields_are, size_append}

-- ---- what holds of each element

pub each_index : {A : Type 0} (P : A → Type 0) (xs : List A) (i : ℕ) (x : A) → Each P xs → i < length xs → x ≡ slice_index_or xs i x → P x
each_index P [] i x h lt is = absurd (omega arith)
each_index P (y ∷ ys) zero x h lt is = subst P (sym is) h.0
each_index P (y ∷ ys) (suc i) x h lt is = each_index P ys i x h.1 (omega arith) is

each_at : {A : Type 0} (P : A → Type 0) (xs : List A) (i : ℕ) (x : A) → Each P xs → slice_get xs i ≡ Some x → P x
each_at P [] i x h e = absurd (cc)
each_at P (y ∷ ys) zero x h e = let same : y ≡ x = cc in subst P same h.0
each_at P (y ∷ ys) (suc i) x h e = each_at P ys i x h.1 e

each_append : {A : Type 0} (P : A → Type 0) (xs ys : List A) → Each P xs → Each P ys → Each P (xs ++ ys)
each_append P [] ys h k = k
each_append P (x ∷ xs) ys h k = (h.0, each_append P xs ys h.1 k)

none_in_both : {A : Type 0} (test : A → Bool) (xs ys : List A) → list_any test (xs ++ ys) ≡ false → (list_any test xs ≡ false) × (list_any test ys ≡ false)
none_in_both test [] ys h = (refl, h)
none_in_both test (x ∷ xs) ys h =
    let here = or_parts (test x) (list_any test (xs ++ ys)) h in
    let rest = none_in_both test xs ys here.1 in
    (subst (λ b. (b || list_any test xs) ≡ false) (sym here.0) rest.0, rest.1)

-- ---- how large fields are

module _ (d : Declarations) where
  pub size_both : (fs gs : List Field) → size_of (map (field_leaves d) (fs ++ gs)) ≡ size_of (map (field_leaves d) fs) + size_of (map (field_leaves d) gs)
  size_both fs gs = ap size_of (map-append (field_leaves d) fs gs) ∙ size_append (map (field_leaves d) fs) (map (field_leaves d) gs)

  -- the first fields with the next one
  pub size_until : (fs : List Field) (i : ℕ) (f : Field) → i < length fs → f ≡ slice_index_or fs i f
      → size_of (map (field_leaves d) (take i fs)) + (field_leaves d f + 1) ≤ size_of (map (field_leaves d) fs)
  size_until [] i f lt is = absurd (omega arith)
  size_until (g ∷ fs) zero f lt is = omega (arith, ap (field_leaves d) is)
  size_until (g ∷ fs) (suc i) f lt is = omega (arith, size_until fs i f (omega arith) is)

  size_within : (fs : List Field) → Each (IsFieldInLimits d) fs → size_of (map (field_leaves d) fs) ≤ length fs * 65
  size_within [] h = omega arith
  size_within (f ∷ fs) h = omega (arith, h.0, size_within fs h.1)

  module _ (limits : AreFieldsInLimits d) where
    pub own_small : (owner : Name) → size_of (map (field_leaves d) (own_fields d owner)) ≤ 4160
    own_small owner = omega (arith, size_within (own_fields d owner) (limits.leaves owner), limits.members owner)

    pub chain_small : (n : ℕ) (class : Option Name) → size_of (map (field_leaves d) (chain_fields d (chain d n class))) ≤ n * 4160
    chain_small zero class = omega arith
    chain_small (suc n) None = omega arith
    chain_small (suc n) (Some class) =
        omega (arith, size_both (chain_fields d (chain d n (superclass_of d class))) (own_fields d class), chain_small n (superclass_of d class), own_small class)

    fields_small : (class : Name) → size_of (map (field_leaves d) (fields_of d class)) ≤ 137280
    fields_small class =
        omega (
          arith,
          ap (λ fs. size_of (map (field_leaves d) fs)) (fields_are d class),
          size_both (chain_fields d (chain d DEPTH (superclass_of d class))) (own_fields d class),
          chain_small DEPTH (superclass_of d class),
          own_small class,
        )

    named_small : (class : Option Name) → size_of (map (field_leaves d) (named_fields d class)) < 2 ^ 32
    named_small None = omega arith
    named_small (Some class) = omega (arith, fields_small class)

pub classes_small : ClassesAreSmall
classes_small d limits class = named_small d limits (class_at d class)

-- ---- a module within the limits

record IsDeclSmall (d : Declarations) (x : Decl) : Type 0 where
  members : length (decl_fields (Some x)) ≤ MEMBERS
  leaves : Each (IsFieldInLimits d) (decl_fields (Some x))

module _ (d : Declarations) where
  abbrev measured : TypeName-F Measure → Measure
  measured = measure_over (measure_at (all_names d) (measures_of d))

  abbrev told : TypeName → Measure
  told = fold-TypeName Measure measured

  leaves-Int : (w : ℕ) → leaves_of d (type.Int w) ≡ 1
  leaves-Int w = ap leaves_in (ap told (sym (rolls-Int w)) ∙ fold-roll-TypeName Measure measured (TypeName-F.Int w))

  pub leaves-Weak : (t : TypeName) → leaves_of d (type.Weak t) ≡ 1
  leaves-Weak t = ap leaves_in (ap told (sym (rolls-Weak t)) ∙ fold-roll-TypeName Measure measured (TypeName-F.Weak t))

  pub leaves-Unowned : (t : TypeName) → leaves_of d (type.Unowned t) ≡ 1
  leaves-Unowned t = ap leaves_in (ap told (sym (rolls-Unowned t)) ∙ fold-roll-TypeName Measure measured (TypeName-F.Unowned t))

  stored_within : (s : Storage) (t : TypeName) → leaves_of d t ≤ LEAVES → leaves_of d (stored_as s t) ≤ LEAVES
  stored_within storage.Strong t le = le
  stored_within storage.Weak t le = let e = leaves-Weak t in omega arith
  stored_within storage.Unowned t le = let e = leaves-Unowned t in omega arith

  fields_within : (fs : List Field) → list_any (has_too_many_leaves d) (map in_field fs) ≡ false → Each (IsFieldInLimits d) fs
  fields_within [] e = tt
  fields_within (f ∷ fs) e =
      let both = or_parts (has_too_many_leaves d (in_field f)) (list_any (has_too_many_leaves d) (map in_field fs)) e in
      (stored_within f.storage f.ty (leb-true (leaves_of d f.ty) LEAVES (not-false (nat_le (leaves_of d f.ty) LEAVES) both.0)), fields_within fs both.1)

  decl_small : (x : Decl) → IsDeclInLimits x → list_any (has_too_many_leaves d) (in_members x) ≡ false → IsDeclSmall d x
  decl_small (Struct name fields) few e = record { members = omega (arith, few, length-map fields field_name); leaves = fields_within fields e }
  decl_small (Enum name cases) few e = record { members = omega arith; leaves = tt }
  decl_small (Class name superclass fields) few e = record { members = omega (arith, few, length-map fields field_name); leaves = fields_within fields e }

  decls_small : (xs : List Decl) → Each IsDeclInLimits xs → list_any (has_too_many_leaves d) (flat_map in_decl xs) ≡ false → Each (IsDeclSmall d) xs
  decls_small [] h e = tt
  decls_small (x ∷ xs) h e =
      let both = none_in_both (has_too_many_leaves d) (in_decl x) (flat_map in_decl xs) e in (
        decl_small x h.0 (or_parts (has_too_many_leaves d (mention Unwritten (type.Named (decl_name x)))) (list_any (has_too_many_leaves d) (in_members x)) both.0).1,
        decls_small xs h.1 both.1,
      )

  int_small : (w : ℕ) → leaves_of d (type.Int w) ≤ LEAVES
  int_small w = let e = leaves-Int w in omega arith

  swift_small : (swift : Bool) → Each (IsDeclSmall d) (swift_structs swift)
  swift_small true = (record { members = omega arith; leaves = (int_small 64, tt) }, (record { members = omega arith; leaves = (int_small 1, tt) }, tt))
  swift_small false = tt

  module _ (all : Each (IsDeclSmall d) (all_decls d)) where
    abbrev IsFoundSmall : Option Decl → Type 0
    IsFoundSmall x = (length (decl_fields x) ≤ MEMBERS) × Each (IsFieldInLimits d) (decl_fields x)

    found_small : (place : Option ℕ) → IsFoundSmall (at_place (all_decls d) place)
    found_small None = (omega arith, tt)
    found_small (Some i) = at (slice_get (all_decls d) i) refl
      where
        at : (x : Option Decl) → slice_get (all_decls d) i ≡ x → IsFoundSmall x
        at None e = (omega arith, tt)
        at (Some x) e = let small = each_at (IsDeclSmall d) (all_decls d) i x all e in (small.members, small.leaves)

    all_small : AreFieldsInLimits d
    all_small = record {
      members = λ owner. (found_small (place_of (all_names d) owner)).0;
      leaves = λ owner. (found_small (place_of (all_names d) owner)).1;
    }

pub fields_in_limits : FieldsAreInLimits
fields_in_limits m few limits =
    let d = declarations_of m in
    let mentioned = none_in_both (has_too_many_leaves d) (flat_map in_decl m.decls) (flat_map in_function m.functions) limits.leaves in
    all_small d (each_append (IsDeclSmall d) (swift_structs m.imports.swift) m.decls (swift_small d m.imports.swift) (decls_small d m.decls few mentioned.0))
