-- What a name finds among the declarations: a declaration of this name, of which holds what holds of all.
use Rattle.std.proofs.Common.{◌≡◌, ℕ, zero, suc, ◌+◌, ◌<◌, List, [], ◌∷◌, ◌++◌, length, get_or, refl, sym, ap, ◌∙◌, subst, true, Option, Some, None}
use Rattle.std.specs.Prelude.{slice_get}
use Rattle.std.specs.Cmp.Lexicographic.{bytes_decides}
use Rattle.std.specs.Str.{bytes_eq}
use Rattle.std.proofs.lemmas.Bool.{false≢true}
use Rattle.std.proofs.lemmas.List.{get_or-map}
use Rattle.std.proofs.lemmas.List.Quantifiers.{position-Some}
use Rattle.std.proofs.lemmas.Option.{get_or_from_slice_get, slice_get_within}
use Rattle.sil_ast.specs.declared.decl.Decl.{Decl}
use Rattle.sil_ast.specs.declared.decl.Decl.TheVariants as decl
use Rattle.sil_ast.specs.declared.decl.Field.{Field}
use Rattle.numbered_form.specs.Lists.{Each}
use Rattle.numbered_form.specs.Names.{Name, decl_name}
use Rattle.holder_model.specs.sil_types_declarations.TypeDefinitions.Declarations.{Declarations, all_decls, all_names, at_place, decl_of, is_class, is_class_found, place_of}

-- the declaration that a name finds stands at the place of the name
pub found_at : (d : Declarations) (name : Name) (x : Decl) → decl_of d name ≡ Some x → (w : ℕ) × (place_of (all_names d) name ≡ Some w) × (slice_get (all_decls d) w ≡ Some x)
found_at d name x e = at (place_of (all_names d) name) refl e
  where
    at : (o : Option ℕ) → place_of (all_names d) name ≡ o → at_place (all_decls d) o ≡ Some x → (w : ℕ) × (place_of (all_names d) name ≡ Some w) × (slice_get (all_decls d) w ≡ Some x)
    at None p e = cc
    at (Some w) p e = (w, p, e)

-- it has this name
pub named_so : (d : Declarations) (name : Name) (x : Decl) → decl_of d name ≡ Some x → name ≡ decl_name x
named_so d name x e =
    let found = found_at d name x e in
    let w = found.0 in
    let inside : w < length (all_decls d) = slice_get_within (all_decls d) w x found.2 in
    let here : get_or (all_names d) w [] ≡ decl_name x =
    get_or-map decl_name (all_decls d) w x [] inside ∙ ap decl_name (get_or_from_slice_get (all_decls d) w x x found.2) in
    (bytes_decides name (get_or (all_names d) w [])).0 (position-Some (bytes_eq name) (all_names d) w [] found.1).1 ∙ here

pub each_at : {A : Type 0} (P : A → Type 0) (xs : List A) (i : ℕ) (x : A) → Each P xs → slice_get xs i ≡ Some x → P x
each_at P [] i x h e = cc
each_at P (y ∷ ys) zero x h e = let same : y ≡ x = cc in subst P same h.0
each_at P (y ∷ ys) (suc i) x h e = each_at P ys i x h.1 e

pub each_append : {A : Type 0} (P : A → Type 0) (xs ys : List A) → Each P xs → Each P ys → Each P (xs ++ ys)
each_append P [] ys h k = k
each_append P (x ∷ xs) ys h k = (h.0, each_append P xs ys h.1 k)

pub each_from : {A : Type 0} (P : A → Type 0) (xs : List A) → ((i : ℕ) (x : A) → slice_get xs i ≡ Some x → P x) → Each P xs
each_from P [] h = tt
each_from P (x ∷ xs) h = (h 0 x refl, each_from P xs (λ i y e. h (suc i) y e))

-- what holds of all declarations holds of the one that is found
pub holds_of_found : (d : Declarations) (P : Decl → Type 0) → Each P (all_decls d) → (name : Name) (x : Decl) → decl_of d name ≡ Some x → P x
holds_of_found d P h name x e = let found = found_at d name x e in each_at P (all_decls d) found.0 x h found.2

-- where a name is a class, it finds this class
pub class_found : (d : Declarations) (name : Name) → is_class d name ≡ true → (superclass : Option Name) × (fields : List Field) × (decl_of d name ≡ Some (decl.Class name superclass fields))
class_found d name e = at (decl_of d name) refl e
  where
    at : (o : Option Decl) → decl_of d name ≡ o → is_class_found o ≡ true → (superclass : Option Name) × (fields : List Field) × (decl_of d name ≡ Some (decl.Class name superclass fields))
    at None p e = absurd (false≢true e)
    at (Some (decl.Struct n fields)) p e = absurd (false≢true e)
    at (Some (decl.Enum n cases)) p e = absurd (false≢true e)
    at (Some (decl.Class n superclass fields)) p e =
        let same : name ≡ n = named_so d name (decl.Class n superclass fields) p in
        (superclass, fields, p ∙ ap (λ n. Some (decl.Class n superclass fields)) (sym same))
