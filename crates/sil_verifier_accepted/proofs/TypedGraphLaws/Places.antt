-- The place of a case in its enum is below the limit on members, and different places below a limit are no more than it.
use Rattle.std.proofs.Common.{◌≡◌, ℕ, ◌<◌, ◌≤◌, List, [], ◌∷◌, ◌++◌, length, refl, sym, subst, arith, Bool, true, false, not, inl, inr, Option, Some, None, eqb}
use Rattle.std.specs.Prelude.{◌==◌, ◌⊎◌, map, slice_get, option_map, option_and_then, IfSome, if◌then◌else◌}
use Rattle.std.specs.List.{list_any, AllByRecursion, IsDistinct}
use Rattle.std.proofs.lemmas.Bool.Decides.{eqb_tells}
use Rattle.std.proofs.lemmas.List.{length-map}
use Rattle.std.proofs.lemmas.List.Quantifiers.{position-Some}
use Rattle.std.proofs.lemmas.Map.Steps.{length-le_from_distinct_below}
use Rattle.std.proofs.lemmas.Option.{slice_get_within}
use Rattle.std.specs.Str.{bytes_eq}
use Rattle.sil_ast.specs.declared.decl.Case.{Case}
use Rattle.sil_ast.specs.declared.decl.Decl.{Decl}
use Rattle.sil_ast.specs.declared.decl.Decl.TheVariants.{Struct, Enum, Class}
use Rattle.sil_ast.specs.declared.inst.Edge.{Edge}
use Rattle.sil_ast.specs.declared.member.Member.{Member}
use Rattle.sil_ast.specs.declared.type_name.TypeName.{TypeName, out-TypeName}
use Rattle.sil_ast.specs.declared.type_name.TypeName.TheOpen.{TypeName-F, Int, Named, Optional, Tuple, Weak, Unowned, Address}
use Rattle.sil_rules.specs.declared.limits.TheConstants.{MEMBERS}
use Rattle.numbered_form.specs.inner.Limits.{IsDeclInLimits}
use Rattle.numbered_form.specs.Lists.{Each}
use Rattle.numbered_form.specs.Names.{Name, case_name}
use Rattle.ownership_kinds.specs.sil_types_declarations.TypeDefinitions.Declarations.{Declarations, all_decls, at_place, optional_cases, place_of, swift_structs}
use Rattle.ownership_kinds.specs.sil_types_declarations.TypeDefinitions.Lookups.{Payload, case_payload, cases_of, decl_cases, optional_payload, payload_at, payload_in}
use Rattle.type_check.specs.sil_types.Typing.Shapes.{case_in, is_case_owner_layer}
use Rattle.type_check.specs.sil_types.Typing.SwitchRules.{are_once, has_number, place_in_enum}
use Rattle.sil_verifier_accepted.proofs.TypedGraphLaws.Facts.{and_first, and_second, each_at, from_not, neither_first, neither_second, or_second}

-- ---- different numbers below a limit

other_way : (k n : ℕ) → (k == n) ≡ false → eqb n k ≡ false
other_way k n e = at (eqb_tells n k)
  where
    at : ((eqb n k ≡ true) × (n ≡ k)) ⊎ ((eqb n k ≡ false) × (n ≡ k → ⊥)) → eqb n k ≡ false
    at (inr (test, ne)) = test
    at (inl (test, same)) = let hit : (k == n) ≡ true = subst (λ j. eqb j n ≡ true) same (subst (λ j. eqb n j ≡ true) (sym same) test) in cc

differ : (ns : List ℕ) (n : ℕ) → has_number ns n ≡ false → AllByRecursion (λ y. eqb n y ≡ false) ns
differ [] n h = tt
differ (k ∷ ns) n h = (other_way k n (neither_first (k == n) (has_number ns n) h), differ ns n (neither_second (k == n) (has_number ns n) h))

distinct : (ns : List ℕ) → are_once ns ≡ true → IsDistinct eqb ns
unfolding IsDistinct
distinct [] h = tt
distinct (n ∷ ns) h = (differ ns n (from_not (has_number ns n) (and_first (not (has_number ns n)) (are_once ns) h)), distinct ns (and_second (not (has_number ns n)) (are_once ns) h))

abbrev pub IsBelow : ℕ → ℕ → Type 0
IsBelow limit n = n < limit

found_below : (limit : ℕ) (ns : List ℕ) → Each (IsBelow limit) ns → (q : ℕ) → list_any (eqb q) ns ≡ true → q < limit
found_below limit [] h q e = cc
found_below limit (n ∷ ns) h q e = at (eqb_tells q n) (found_below limit ns h.1 q)
  where
    at : ((eqb q n ≡ true) × (q ≡ n)) ⊎ ((eqb q n ≡ false) × (q ≡ n → ⊥)) → (list_any (eqb q) ns ≡ true → q < limit) → q < limit
    at (inl (test, same)) behind = subst (IsBelow limit) (sym same) h.0
    at (inr (test, ne)) behind = behind (or_second (eqb q n) (list_any (eqb q) ns) test e)

pub few_different : (limit : ℕ) (ns : List ℕ) → are_once ns ≡ true → Each (IsBelow limit) ns → length ns ≤ limit
few_different limit ns once below = length-le_from_distinct_below ns limit (distinct ns once) (found_below limit ns below)

-- ---- places of cases

abbrev place : Payload → ℕ
place p = p.place

abbrev HasLowPlace : Option Payload → Type 0
HasLowPlace p = IfSome (option_map place p) (IsBelow MEMBERS)

few_cases_at : (decls : List Decl) (found : Option ℕ) → Each IsDeclInLimits decls → length (decl_cases (at_place decls found)) ≤ MEMBERS
few_cases_at decls None h = omega arith
few_cases_at decls (Some i) h = at (slice_get decls i) refl
  where
    at : (x : Option Decl) → slice_get decls i ≡ x → length (decl_cases x) ≤ MEMBERS
    at None e = omega arith
    at (Some (Struct name fields)) e = omega arith
    at (Some (Class name superclass fields)) e = omega arith
    at (Some (Enum name cases)) e = let within : length (map case_name cases) ≤ MEMBERS = each_at IsDeclInLimits decls i (Enum name cases) h e in omega (arith, within, length-map cases case_name)

each_all : (d : Declarations) → Each IsDeclInLimits d.decls → Each IsDeclInLimits (all_decls d)
each_all d h = at d.swift
  where
    at : (swift : Bool) → Each IsDeclInLimits (swift_structs swift ++ d.decls)
    at true = (omega arith, (omega arith, h))
    at false = h

low_at : (cases : List Case) (found : Option ℕ) → length cases ≤ MEMBERS → HasLowPlace (payload_at cases found)
low_at cases None le = tt
low_at cases (Some i) le = at (slice_get cases i) refl
  where
    at : (x : Option Case) → slice_get cases i ≡ x → HasLowPlace (option_map (λ c. record { place = i; ty = case_payload c }) x)
    at None e = tt
    at (Some c) e = let lt : i < length cases = slice_get_within cases i c e in omega arith

low_optional : (target : TypeName) (found : Option ℕ) → ((i : ℕ) → found ≡ Some i → i < 2) → HasLowPlace (optional_payload target found)
low_optional target None h = tt
low_optional target (Some i) h = let lt : i < 2 = h i refl in omega arith

optional_place : (name : Name) (i : ℕ) → place_of optional_cases name ≡ Some i → i < 2
optional_place name i e = (position-Some (bytes_eq name) optional_cases i [] e).0

module _ (d : Declarations) (members : Each IsDeclInLimits d.decls) where
  low_in : (name : Name) (layer : TypeName-F TypeName) → HasLowPlace (payload_in d name layer)
  low_in name (Int width) = tt
  low_in name (Named owner) = low_at (cases_of d owner) _ (few_cases_at (all_decls d) _ (each_all d members))
  low_in name (Optional target) = low_optional target (place_of optional_cases name) (optional_place name)
  low_in name (Tuple parts) = tt
  low_in name (Weak target) = tt
  low_in name (Unowned target) = tt
  low_in name (Address target) = tt

  low_case : (t : TypeName) (m : Member) → HasLowPlace (case_in d m t)
  low_case t m = at (is_case_owner_layer m.owner (out-TypeName t))
    where
      at : (owns : Bool) → HasLowPlace (if owns then payload_in d m.name (out-TypeName t) else None)
      at true = low_in m.name (out-TypeName t)
      at false = tt

  pub low_place : (t : TypeName) (e : Edge) → IfSome (place_in_enum d t e) (IsBelow MEMBERS)
  low_place t e = at e.case_of
    where
      at : (o : Option Member) → HasLowPlace (option_and_then (λ m. case_in d m t) o)
      at None = tt
      at (Some m) = low_case t m
