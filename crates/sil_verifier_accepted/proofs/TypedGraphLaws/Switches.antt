-- A `switch_enum` has at most one edge for each case of its enum, and one more.
use Rattle.std.proofs.Common.{◌≡◌, ℕ, suc, ◌≤◌, List, [], ◌∷◌, length, refl, arith, Bool, true, false, Option, Some, None}
use Rattle.std.specs.Prelude.{◌&&◌, is_some, is_none, option_map, IfSome, if◌then◌else◌}
use Rattle.std.specs.List.{list_all, cons_option}
use Rattle.sil_ast.specs.declared.inst.Edge.{Edge}
use Rattle.sil_ast.specs.declared.type_name.TypeName.{TypeName}
use Rattle.sil_rules.specs.declared.limits.TheConstants.{MEMBERS}
use Rattle.numbered_form.specs.inner.Limits.{IsDeclInLimits}
use Rattle.numbered_form.specs.Lists.{Each, is_empty}
use Rattle.numbered_form.specs.inner.Parts.{are_cases, is_case, is_default as is_default_edge}
use Rattle.ownership_kinds.specs.sil_types_declarations.TypeDefinitions.Declarations.{Declarations}
use Rattle.type_check.specs.sil_types.Typing.SwitchRules.{are_once, case_of_edge, is_default, is_of_enum, place_in_enum, places_of}
use Rattle.sil_verifier_accepted.proofs.TypedGraphLaws.Facts.{and_first, and_second, or_second}
use Rattle.sil_verifier_accepted.proofs.TypedGraphLaws.Places.{IsBelow, few_different, low_place}

-- an edge for a case of the enum has a place
is_some-map : {A B : Type 0} (h : A → B) (o : Option A) → is_some o ≡ true → is_some (option_map h o) ≡ true
is_some-map h None e = e
is_some-map h (Some x) e = refl

not_none : {A : Type 0} (o : Option A) → is_some o ≡ true → is_none o ≡ false
not_none None e = cc
not_none (Some x) e = refl

one_more : (o : Option ℕ) (ns : List ℕ) (n : ℕ) → is_some o ≡ true → n ≤ suc (length ns) → suc n ≤ suc (length (cons_option o ns))
one_more None ns n e le = cc
one_more (Some x) ns n e le = omega arith

pub none_left : {A : Type 0} (xs : List A) → is_empty xs ≡ true → length xs ≡ 0
none_left [] e = refl
none_left (x ∷ xs) e = cc

module _ (d : Declarations) (t : TypeName) where
  has_place : (e : Edge) → is_case e ≡ true → is_of_enum d t e ≡ true → is_some (place_in_enum d t e) ≡ true
  has_place e case of_enum =
      let named : is_some e.case_of ≡ true = and_first (is_some e.case_of) (is_empty e.args) case in
      is_some-map (λ p. p.place) (case_of_edge d t e) (or_second (is_default e) (is_some (case_of_edge d t e)) (not_none e.case_of named) of_enum)

  -- each edge but a last default has a place
  edges_and_places : (es : List Edge) → are_cases es ≡ true → list_all (is_of_enum d t) es ≡ true → length es ≤ suc (length (places_of d t es))
  edges_and_places [] cases of_enum = omega arith
  edges_and_places (e ∷ es) cases of_enum = at (is_case e) refl cases (λ more. edges_and_places es more (and_second (is_of_enum d t e) (list_all (is_of_enum d t) es) of_enum))
    where
      at : (b : Bool) → is_case e ≡ b → (if b then are_cases es else (is_default_edge e && is_empty es)) ≡ true → (are_cases es ≡ true → length es ≤ suc (length (places_of d t es))) →
          length (e ∷ es) ≤ suc (length (places_of d t (e ∷ es)))
      at true case more behind = one_more (place_in_enum d t e) (places_of d t es) (length es) (has_place e case (and_first (is_of_enum d t e) (list_all (is_of_enum d t) es) of_enum)) (behind more)
      at false case more behind = let none : length es ≡ 0 = none_left es (and_second (is_default_edge e) (is_empty es) more) in omega arith

  low_behind : (o : Option ℕ) (ns : List ℕ) → IfSome o (IsBelow MEMBERS) → Each (IsBelow MEMBERS) ns → Each (IsBelow MEMBERS) (cons_option o ns)
  low_behind None ns h rest = rest
  low_behind (Some p) ns h rest = (h, rest)

  low_places : Each IsDeclInLimits d.decls → (es : List Edge) → Each (IsBelow MEMBERS) (places_of d t es)
  low_places members [] = tt
  low_places members (e ∷ es) = low_behind (place_in_enum d t e) (places_of d t es) (low_place d members t e) (low_places members es)

  pub few_edges : Each IsDeclInLimits d.decls → (es : List Edge) → are_cases es ≡ true → list_all (is_of_enum d t) es ≡ true → are_once (places_of d t es) ≡ true → length es ≤ suc MEMBERS
  few_edges members es cases of_enum once =
      let one : length es ≤ suc (length (places_of d t es)) = edges_and_places es cases of_enum in
      let few : length (places_of d t es) ≤ MEMBERS = few_different MEMBERS (places_of d t es) once (low_places members es) in
      omega arith
