-- A class and its ancestors, where no chain of classes is past the limit: each one's ancestors are its superclass and that one's ancestors.
use Rattle.std.proofs.Common.{◌≡◌, ℕ, zero, suc, ◌-◌, List, [], ◌∷◌, ◌++◌, Bool, true, false, Option, Some, None, refl, sym, ap, ◌∙◌}
use Rattle.std.specs.Prelude.{◌||◌}
use Rattle.std.specs.List.{list_any}
use Rattle.std.specs.Str.{bytes_eq}
use Rattle.std.proofs.Common.{append_assoc, append-nil}
use Rattle.std.proofs.lemmas.List.Folds.{list_any-append}
use Rattle.sil_ast.specs.declared.decl.Field.{Field}
use Rattle.sil_rules.specs.declared.limits.TheConstants.{DEPTH}
use Rattle.numbered_form.specs.Names.{Name}
use Rattle.holder_model.specs.sil_types_declarations.TypeDefinitions.Declarations.{Declarations, ancestors_of, chain, inherits, is_longer, superclass_of}
use Rattle.holder_model.specs.sil_types_declarations.TypeDefinitions.Lookups.{chain_fields, fields_of, own_fields}
use Rattle.holder_model.specs.RunTyping.Classes.{is_a}
use Rattle.holder_model_typing.proofs.RunTypingLaws.Found.{name_is}

-- no chain that begins with a superclass is longer than the limit allows
abbrev pub ChainsEnd : Declarations → Type 0
ChainsEnd d = (class : Name) → is_longer d (DEPTH - 1) (superclass_of d class) ≡ false

-- a class and its ancestors
abbrev pub line_of : Declarations → Name → List Name
line_of d class = class ∷ ancestors_of d class

module _ (d : Declarations) where
  -- a chain is the same by any two limits that it doesn't pass
  same_chain : (n k : ℕ) (at : Option Name) → is_longer d n at ≡ false → is_longer d k at ≡ false → chain d n at ≡ chain d k at
  same_chain zero zero at e f = refl
  same_chain zero (suc k) None e f = refl
  same_chain zero (suc k) (Some class) e f = cc
  same_chain (suc n) zero None e f = refl
  same_chain (suc n) zero (Some class) e f = cc
  same_chain (suc n) (suc k) None e f = refl
  same_chain (suc n) (suc k) (Some class) e f = ap (λ cs. class ∷ cs) (same_chain n k (superclass_of d class) e f)

  one_further : (n : ℕ) (at : Option Name) → is_longer d n at ≡ false → is_longer d (suc n) at ≡ false
  one_further n None e = refl
  one_further zero (Some class) e = cc
  one_further (suc n) (Some class) e = one_further n (superclass_of d class) e

  -- the fields of a chain in two parts
  pub fields_split : (front rest : List Name) → chain_fields d (front ++ rest) ≡ chain_fields d rest ++ chain_fields d front
  fields_split [] rest = sym (append-nil (chain_fields d rest))
  fields_split (class ∷ front) rest =
      ap (λ fs. fs ++ own_fields d class) (fields_split front rest) ∙ append_assoc (chain_fields d rest) (chain_fields d front) (own_fields d class)

  module _ (ends : ChainsEnd d) where
    pub no_ancestors : (class : Name) → superclass_of d class ≡ None → ancestors_of d class ≡ []
    unfolding ancestors_of
    no_ancestors class e = ap (chain d DEPTH) e

    same_ancestors : (n : ℕ) (class : Name) → is_longer d n (superclass_of d class) ≡ false → chain d n (superclass_of d class) ≡ ancestors_of d class
    unfolding ancestors_of
    same_ancestors n class e = same_chain n DEPTH (superclass_of d class) e (one_further (DEPTH - 1) (superclass_of d class) (ends class))

    -- an ancestor stands in a chain with its own ancestors behind it
    split_at : (n : ℕ) (at : Option Name) (other : Name) → is_longer d n at ≡ false → list_any (bytes_eq other) (chain d n at) ≡ true
        → (front : List Name) × (chain d n at ≡ front ++ line_of d other)
    split_at zero at other e h = cc
    split_at (suc n) None other e h = cc
    split_at (suc n) (Some class) other e h = at (bytes_eq other class) refl h (split_at n (superclass_of d class) other e)
      where
        at : (same : Bool) → bytes_eq other class ≡ same → (same || list_any (bytes_eq other) (chain d n (superclass_of d class))) ≡ true
            → (list_any (bytes_eq other) (chain d n (superclass_of d class)) ≡ true → (front : List Name) × (chain d n (superclass_of d class) ≡ front ++ line_of d other))
            → (front : List Name) × (class ∷ chain d n (superclass_of d class) ≡ front ++ line_of d other)
        at true same h later = ([], ap (λ cs. class ∷ cs) (same_ancestors n class e) ∙ ap (line_of d) (sym (name_is other class same)))
        at false same h later = let rest = later h in (class ∷ rest.0, ap (λ cs. class ∷ cs) rest.1)

    -- a class's line ends in that of each of its ancestors
    pub line_split : (a b : Name) → is_a d a b ≡ true → (front : List Name) × (line_of d a ≡ front ++ line_of d b)
    unfolding ancestors_of
    line_split a b h = at (bytes_eq b a) refl h
      where
        at : (same : Bool) → bytes_eq b a ≡ same → (same || inherits d a b) ≡ true → (front : List Name) × (line_of d a ≡ front ++ line_of d b)
        at true same h = ([], ap (line_of d) (sym (name_is b a same)))
        at false same h =
            let rest = split_at DEPTH (superclass_of d a) b (one_further (DEPTH - 1) (superclass_of d a) (ends a)) h in
            (a ∷ rest.0, ap (λ cs. a ∷ cs) rest.1)

    pub is_a_passes : (a b c : Name) → is_a d a b ≡ true → is_a d b c ≡ true → is_a d a c ≡ true
    is_a_passes a b c h k =
        let split = line_split a b h in
        ap (list_any (bytes_eq c)) split.1 ∙ list_any-append (bytes_eq c) split.0 (line_of d b) ∙ ap (λ t. list_any (bytes_eq c) split.0 || t) k
        ∙ any_or (list_any (bytes_eq c) split.0)
      where
        any_or : (t : Bool) → (t || true) ≡ true
        any_or true = refl
        any_or false = refl

    -- the fields of an ancestor come first
    pub fields_first : (a b : Name) → is_a d a b ≡ true → (more : List Field) × (fields_of d a ≡ fields_of d b ++ more)
    fields_first a b h =
        let split = line_split a b h in
        (chain_fields d split.0, ap (chain_fields d) split.1 ∙ fields_split split.0 (line_of d b))
