-- No name is given twice and each that is used is known: no fault.
use Rattle.std.proofs.Common.{◌≡◌, List, [], ◌∷◌, ◌++◌, map, Option, Some, None, Bool, true, false, if◌then◌else◌, ◌||◌, Contains, ap, refl, subst, ◌∙◌, arith, append_assoc}
use Rattle.std.specs.List.{list_any}
use Rattle.std.specs.Str.{bytes_eq}
use Rattle.std.proofs.lemmas.List.Elements.{Contains-append_right, Contains-get_or}
use Rattle.sil_grammar_tree.specs.declared.written_tree.fault.Fault.{Fault}
use Rattle.sil_grammar_tree.specs.declared.written_tree.fault.FaultKind.TheVariants.{Twice, UnknownName}
use Rattle.sil_grammar_tree.specs.declared.written_tree.written_declarations.WrittenToken.{WrittenToken}
use Rattle.sil_grammar_tree.specs.WrittenTree.Faults.{earliest, fault}
use Rattle.sil_grammar_tree.proofs.WrittenTree.FaultOrder.{neither}
use Rattle.sil_grammar_names.specs.NameScopes.NameFaults.{is_among, twice_after, unknown_among, unknown_in}
use Rattle.sil_grammar_names.specs.NameScopes.Names.{Name, name_of}
use Rattle.numbered_form.specs.Lists.{Each}
use Rattle.numbered_form.specs.Names.{AreOnce}
use Rattle.sil_grammar.proofs.NumberedReadingLaws.ListsAndFaults.{Each-map}
use Rattle.sil_printer_laws.proofs.Namings.{no_match}

abbrev pub IsNone : Option Fault → Type 0
IsNone fault = fault ≡ None

pub none_of_all : (faults : List (Option Fault)) → Each IsNone faults → earliest faults ≡ None
none_of_all [] e = refl
none_of_all (fault ∷ faults) e = neither fault (earliest faults) e.0 (none_of_all faults e.1)

pub none_of_each : {A : Type 0} (f : A → Option Fault) (xs : List A) → Each (λ x. f x ≡ None) xs → earliest (map f xs) ≡ None
none_of_each f xs e = none_of_all (map f xs) (Each-map f (λ x. f x ≡ None) IsNone (λ x h. h) xs e)

-- given twice

found_later : (name : Name) (names : List Name) (text : Name) (rest : List Name) → (Contains (names ++ text ∷ rest) name → ⊥) → text ≡ name → ⊥
found_later name names text rest h e =
    h (subst (Contains (names ++ text ∷ rest)) e (Contains-append_right names (text ∷ rest) text (Contains-get_or (text ∷ rest) 0 text (omega arith))))

neither_test : (a b : Bool) → a ≡ false → b ≡ false → (a || b) ≡ false
neither_test a b e f = ap (λ first. first || b) e ∙ f

-- a name that stands once stands not among those in front
not_in_front : (names : List Name) (text : Name) (rest : List Name) → AreOnce (names ++ text ∷ rest) → list_any (bytes_eq text) names ≡ false
not_in_front [] text rest once = refl
not_in_front (name ∷ names) text rest once =
    neither_test (bytes_eq text name) (list_any (bytes_eq text) names) (no_match text name (found_later name names text rest once.0)) (not_in_front names text rest once.1)

pub never_twice : (names : List Name) (tokens : List WrittenToken) → AreOnce (names ++ map name_of tokens) → twice_after names tokens ≡ None
never_twice names [] once = refl
never_twice names (token ∷ tokens) once =
    let new : is_among names token ≡ false = not_in_front names token.text (map name_of tokens) once in
    let here : (if is_among names token then Some (fault Twice token.place) else None) ≡ None = ap (λ test. if test then Some (fault Twice token.place) else None) new in
    neither _ _ here (never_twice (names ++ token.text ∷ []) tokens (rw append_assoc once))

-- used and not defined

abbrev pub IsKnown : List Name → WrittenToken → Type 0
IsKnown names token = is_among names token ≡ true

pub never_unknown : (defined used : List WrittenToken) → Each (IsKnown (map name_of defined)) used → unknown_among defined used ≡ None
never_unknown defined used e =
    none_of_all (map (unknown_in (map name_of defined)) used)
    (Each-map (unknown_in (map name_of defined)) (IsKnown (map name_of defined)) IsNone
    (λ token h. ap (λ test. if test then None else Some (fault UnknownName token.place)) h) used e)
