-- Classes stand among the declarations of the text: none is Swift's, each has a place there, and a superclass is one of them.
use Rattle.std.proofs.Common.{◌≡◌, ℕ, zero, suc, ◌-◌, List, [], ◌∷◌, ◌++◌, Bool, true, false, Option, Some, None, map, refl, sym, ap, ◌∙◌, subst, arith}
use Rattle.std.specs.Prelude.{◌||◌, Contains, codes, slice_get}
use Rattle.std.specs.List.{list_any}
use Rattle.std.specs.Option.{option_to_list}
use Rattle.sil_ast.specs.Imports.{swift_names}
use Rattle.sil_ast.specs.declared.decl.Decl.{Decl}
use Rattle.sil_ast.specs.declared.decl.Decl.TheVariants.{Struct, Enum, Class}
use Rattle.sil_ast.specs.declared.decl.Field.{Field}
use Rattle.sil_ast.specs.declared.module.Module.{Module}
use Rattle.sil_rules.specs.declared.limits.TheConstants.{DEPTH}
use Rattle.numbered_form.specs.Lists.{Each}
use Rattle.numbered_form.specs.Names.{AreOnce, Name, decl_name, superclass_in}
use Rattle.holder_model.specs.sil_types_declarations.TypeDefinitions.Declarations.{Declarations, all_decls, ancestors_of, at_place, chain, decl_of, declarations_of, is_class, is_class_decl}
use Rattle.holder_model.specs.sil_types_declarations.TypeDefinitions.Declarations.{is_class_found, is_longer}
use Rattle.holder_model.specs.sil_types_declarations.TypeDefinitions.Declarations.{place_of, superclass_found, superclass_of, swift_structs}
use Rattle.holder_model.specs.sil_types_declarations.TypeDefinitions.Lookups.{class_at, class_named}
use Rattle.holder_model.specs.sil_types_declarations.TypeDefinitions.Mentions.{decl, function, items_of, mentioned_by, members_named_by, mentions_of, vtable}
use Rattle.holder_model.specs.sil_types_declarations.TypeDefinitions.Rules.{IsWellNamed, has_unknown_owner, is_no_class, is_of_unknown_class, is_too_deep, is_too_low, is_unknown}
use Rattle.holder_model.specs.RunTyping.Classes.{is_a}
use Rattle.holder_model_typing.specs.RunTypingLaws.inner.WellTyped.{IsWellTyped}
use Rattle.holder_model_typing.proofs.RunTypingLaws.ClassChains.{ChainsEnd, line_of, line_split}
use Rattle.holder_model_typing.proofs.RunTypingLaws.Found.{all_at, fails_at, found, neither_second, not_false, place_once}

-- the text declares the class at a place
pub record IsInText (d : Declarations) (class : Name) : Type 0 where
  pub place : ℕ
  pub superclass : Option Name
  pub fields : List Field
  pub there : slice_get d.decls place ≡ Some (Class class superclass fields)
  pub found_so : decl_of d class ≡ Some (Class class superclass fields)

-- no struct of Swift is a class
behind_swift : (swift : Bool) (decls : List Decl) (i : ℕ) (x : Decl) → slice_get (swift_structs swift ++ decls) i ≡ Some x → is_class_decl x ≡ true
    → (k : ℕ) × (slice_get decls k ≡ Some x)
behind_swift true decls zero x e class = let same = ap is_class_found e in cc
behind_swift true decls (suc zero) x e class = let same = ap is_class_found e in cc
behind_swift true decls (suc (suc k)) x e class = (k, e)
behind_swift false decls k x e class = (k, e)

pub in_text : (d : Declarations) (class : Name) → is_class d class ≡ true → IsInText d class
in_text d class h = at (decl_of d class) refl h
  where
    at : (o : Option Decl) → decl_of d class ≡ o → is_class_found o ≡ true → IsInText d class
    at None e h = cc
    at (Some (Struct name fields)) e h = cc
    at (Some (Enum name cases)) e h = cc
    at (Some (Class name superclass fields)) e h =
        let f = found d class (Class name superclass fields) e in
        let k = behind_swift d.swift d.decls f.place (Class name superclass fields) f.there refl in
        let same : Class name superclass fields ≡ Class class superclass fields = ap (λ n. Class n superclass fields) f.named in
        record { place = k.0; superclass = superclass; fields = fields; there = k.1 ∙ ap (λ x. Some x) same; found_so = e ∙ ap (λ x. Some x) same }

third_of_none : (a b c : Bool) → (a || b || c) ≡ false → c ≡ false
third_of_none true b c e = cc
third_of_none false true c e = cc
third_of_none false false c e = e

module _ (m : Module) where
  abbrev d : Declarations
  d = declarations_of m

  item_at : (k : ℕ) (x : Decl) → slice_get m.decls k ≡ Some x → slice_get (items_of m) k ≡ Some (decl x)
  item_at k x e = before m.decls k e
    where
      before : (xs : List Decl) (i : ℕ) → slice_get xs i ≡ Some x → slice_get (map decl xs ++ map function m.functions ++ map vtable m.vtables) i ≡ Some (decl x)
      before [] i e = cc
      before (y ∷ xs) zero e = let same : y ≡ x = cc in ap (λ z. Some (decl z)) same
      before (y ∷ xs) (suc i) e = before xs i e

  module _ (r : IsWellTyped m) where
    pub well_named : (k : ℕ) (x : Decl) → slice_get m.decls k ≡ Some x → IsWellNamed d (decl x)
    well_named k x e = all_at (IsWellNamed d) (items_of m) k (decl x) r.declared.items (item_at k x e)

    pub chains_end : ChainsEnd d
    chains_end class = at (decl_of d class) refl
      where
        at : (o : Option Decl) → decl_of d class ≡ o → is_longer d (DEPTH - 1) (superclass_found o) ≡ false
        at None e = refl
        at (Some (Struct name fields)) e = refl
        at (Some (Enum name cases)) e = refl
        at (Some (Class name superclass fields)) e =
            let t = in_text d class (ap is_class_found e) in
            let same : Class class t.superclass t.fields ≡ Class name superclass fields = cc (t.found_so, e) in
            let low = fails_at (is_too_low d) m.decls t.place (Class class t.superclass t.fields)
            (neither_second (list_any (is_too_deep d) (mentions_of m)) (list_any (is_too_low d) m.decls) r.limits.depth) t.there in
            subst (λ x. is_too_low d x ≡ false) same low

    -- a superclass is a class
    pub superclass_is_class : (class above : Name) → superclass_of d class ≡ Some above → is_class d above ≡ true
    superclass_is_class class above e = at (decl_of d class) refl e
      where
        at : (o : Option Decl) → decl_of d class ≡ o → superclass_found o ≡ Some above → is_class d above ≡ true
        at None is e = cc
        at (Some (Struct name fields)) is e = cc
        at (Some (Enum name cases)) is e = cc
        at (Some (Class name superclass fields)) is e =
            let t = in_text d class (ap is_class_found is) in
            let x = Class class t.superclass t.fields in
            let same : x ≡ Class name superclass fields = cc (t.found_so, is) in
            let above_is : t.superclass ≡ Some above = ap superclass_in same ∙ e in
            let known = third_of_none (list_any (is_unknown d) (mentioned_by (decl x))) (list_any (has_unknown_owner d) (members_named_by (decl x))) (is_of_unknown_class d (decl x))
            (well_named t.place x t.there).known in
            not_false (is_class d above) (fails_at (is_no_class d) (option_to_list t.superclass) 0 above known (ap (λ o. slice_get (option_to_list o) 0) above_is))

    abbrev IsClass : Name → Type 0
    IsClass class = is_class d class ≡ true

    classes_in : (n : ℕ) (at : Option Name) → ((class : Name) → at ≡ Some class → IsClass class) → Each IsClass (chain d n at)
    classes_in zero at h = tt
    classes_in (suc n) None h = tt
    classes_in (suc n) (Some class) h = (h class refl, classes_in n (superclass_of d class) (superclass_is_class class))

    -- a class and its ancestors are classes
    pub line_of_classes : (class : Name) → is_class d class ≡ true → Each IsClass (line_of d class)
    unfolding ancestors_of
    line_of_classes class h = (h, classes_in DEPTH (superclass_of d class) (superclass_is_class class))

    behind_front : (front rest : List Name) → Each IsClass (front ++ rest) → Each IsClass rest
    behind_front [] rest h = h
    behind_front (class ∷ front) rest h = behind_front front rest h.1

    pub ancestor_is_class : (a b : Name) → is_class d a ≡ true → is_a d a b ≡ true → is_class d b ≡ true
    ancestor_is_class a b h above =
        let split = line_split d chains_end a b above in
        (behind_front split.0 (line_of d b) (subst (Each IsClass) split.1 (line_of_classes a h))).0

  -- ---- places

  pub class_placed : (class : Name) → is_class d class ≡ true → (k : ℕ) × (class_at d k ≡ Some class)
  class_placed class h = let t = in_text d class h in (t.place, ap class_named t.there)

  -- what stands at the place of a class
  class_there : (k : ℕ) (class : Name) → class_at d k ≡ Some class → (x : Decl) × (slice_get m.decls k ≡ Some x) × (decl_name x ≡ class) × (is_class_decl x ≡ true)
  class_there k class e = at (slice_get m.decls k) refl e
    where
      at : (o : Option Decl) → slice_get m.decls k ≡ o → class_named o ≡ Some class → (x : Decl) × (slice_get m.decls k ≡ Some x) × (decl_name x ≡ class) × (is_class_decl x ≡ true)
      at None is e = cc
      at (Some (Struct name fields)) is e = cc
      at (Some (Enum name cases)) is e = cc
      at (Some (Class name superclass fields)) is e = (Class name superclass fields, is, (let same : name ≡ class = cc in same), refl)

  module _ (once : AreOnce (map decl_name m.decls)) where
    pub class_placed_once : (j k : ℕ) (class : Name) → class_at d j ≡ Some class → class_at d k ≡ Some class → j ≡ k
    class_placed_once j k class e f =
        let x = class_there j class e in
        let y = class_there k class f in
        let one = place_once decl_name m.decls j x.0 once x.1 in
        let two = place_once decl_name m.decls k y.0 once y.1 in
        let same : Some j ≡ Some k = sym one ∙ ap (place_of (map decl_name m.decls)) (x.2 ∙ sym y.2) ∙ two in
        cc

further : (a b x : Name) (names : List Name) → Contains (a ∷ names) x → Contains (a ∷ b ∷ names) x
further a b x names (zero, inside, e) = (zero, omega arith, e)
further a b x names (suc k, inside, e) = (suc (suc k), omega arith, e)

behind : (a x : Name) (names : List Name) → Contains names x → Contains (a ∷ names) x
behind a x names (k, inside, e) = (suc k, omega arith, e)

-- no name of the text is one of Swift's structs
all_once : (swift : Bool) (decls : List Decl) → AreOnce ((codes "Builtin" ∷ swift_names swift) ++ map decl_name decls) → AreOnce (map decl_name (swift_structs swift ++ decls))
all_once false decls h = h.1
all_once true decls h =
    (λ c. h.1.0 (further (codes "Bool") (codes "Optional") (codes "Int") (map decl_name decls) c), (λ c. h.1.1.0 (behind (codes "Optional") (codes "Bool") (map decl_name decls) c), h.1.1.1.1))

text_once : (swift : Bool) (names : List Name) → AreOnce ((codes "Builtin" ∷ swift_names swift) ++ names) → AreOnce names
text_once false names h = h.1
text_once true names h = h.1.1.1.1

among_all : (swift : Bool) (decls : List Decl) (k : ℕ) (x : Decl) → slice_get decls k ≡ Some x → (i : ℕ) × (slice_get (swift_structs swift ++ decls) i ≡ Some x)
among_all true decls k x e = (suc (suc k), e)
among_all false decls k x e = (k, e)

module _ (m : Module) (r : IsWellTyped m) where
  pub names_once : AreOnce (map decl_name m.decls)
  names_once = text_once m.imports.swift (map decl_name m.decls) r.numbered.once.declarations

  -- a name finds the declaration of the text that has it
  pub found_by_name : (k : ℕ) (x : Decl) → slice_get m.decls k ≡ Some x → decl_of (declarations_of m) (decl_name x) ≡ Some x
  found_by_name k x e =
      let all = all_decls (declarations_of m) in
      let i = among_all m.imports.swift m.decls k x e in
      ap (at_place all) (place_once decl_name all i.0 x (all_once m.imports.swift m.decls r.numbered.once.declarations) i.1) ∙ i.1

  -- what stands at the place of a class is a class
  pub placed_is_class : (k : ℕ) (class : Name) → class_at (declarations_of m) k ≡ Some class → is_class (declarations_of m) class ≡ true
  placed_is_class k class e =
      let x = class_there m k class e in
      ap (λ n. is_class (declarations_of m) n) (sym x.2) ∙ ap is_class_found (found_by_name k x.0 x.1) ∙ x.3
