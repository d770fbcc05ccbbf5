-- What `clap` keeps of the values given so far: a row for each.
use Rattle.std.proofs.Common.{◌≡◌, ◌∙◌, ◌||◌, ◌≤◌, ℕ, Bool, cond, true, false, refl, sym, ap, subst, arith, List, [], ◌∷◌, ◌++◌, map, filter, length, Some}
use Rattle.std.proofs.Common.{None, true≢false, slice_get, find, option_and_then, option_to_list}
use Rattle.std.specs.Prelude.{◌+◌}
use Rattle.std.proofs.lemmas.Slice.Eq.{bytes_eq-Decides}
use Rattle.std.proofs.Common.{length-append}
use Rattle.std.specs.Option.{option_map_or}
use Rattle.std.specs.Str.{bytes_eq}
use Rattle.clap.specs.Facts.{explicit_source}
use Rattle.clap.specs.Values.{reading_of}
use Rattle.clap.specs.Walk.{Row, Text, at_row, first_of, has_row, one_of, row_text}
use Rattle.clap.specs.Takes.{is_given}
use Rattle.clap.specs.declared.builder.value_parser.ValueParser.TheVariants as vp
use Rattle.clap.specs.declared.parser.matches.ValueSource.TheVariants.{CommandLine}
use Rattle.sil_command_words.specs.CommandLines.{Argument, Given, name_of, values_of}

abbrev pub row : Given → Row
row g = record {
  id = name_of g.0;
  values = g.1 ∷ [];
  count = None;
  source = Some CommandLine;
  reading = reading_of vp.String;
}

abbrev pub rows : List Given → List Row
rows given = map row given

-- a change of the first row of a name, where there is none
pub at_fresh : (id : Text) (change : Row → List Row) (missing : List Row) (rs : List Row) → has_row id rs ≡ false
    → at_row id change missing rs ≡ rs ++ missing
at_fresh id change missing [] none = refl
at_fresh id change missing (r ∷ rs) none = go (bytes_eq r.id id) none (at_fresh id change missing rs)
  where
    go : (b : Bool) → (b || has_row id rs) ≡ false → (has_row id rs ≡ false → at_row id change missing rs ≡ rs ++ missing)
        → cond b (change r ++ rs) (r ∷ at_row id change missing rs) ≡ r ∷ (rs ++ missing)
    go true n rest = absurd (true≢false n)
    go false n rest = ap (λ l. r ∷ l) (rest n)

-- there is some item
abbrev pub is_there : {X : Type 0} → List X → Bool
is_there [] = false
is_there (x ∷ xs) = true

pub values-append : (a : Argument) (given more : List Given) → values_of a (given ++ more) ≡ values_of a given ++ values_of a more
values-append a [] more = refl
values-append a (g ∷ given) more = go (bytes_eq (name_of g.0) (name_of a)) (values-append a given more)
  where
    go : (b : Bool) → values_of a (given ++ more) ≡ values_of a given ++ values_of a more
        → map (λ (x : Given). x.1) (cond b (g ∷ filter (λ x. bytes_eq (name_of x.0) (name_of a)) (given ++ more)) (filter (λ x. bytes_eq (name_of x.0) (name_of a)) (given ++ more)))
        ≡ map (λ (x : Given). x.1) (cond b (g ∷ filter (λ x. bytes_eq (name_of x.0) (name_of a)) given) (filter (λ x. bytes_eq (name_of x.0) (name_of a)) given)) ++ values_of a more
    go true rest = ap (λ l. g.1 ∷ l) rest
    go false rest = rest

pub row_of_values : (a : Argument) (given : List Given) → has_row (name_of a) (rows given) ≡ is_there (values_of a given)
row_of_values a [] = refl
row_of_values a (g ∷ given) = go (bytes_eq (name_of g.0) (name_of a)) (row_of_values a given)
  where
    go : (b : Bool) → has_row (name_of a) (rows given) ≡ is_there (values_of a given) → (b || has_row (name_of a) (rows given))
        ≡ is_there (map (λ (x : Given). x.1) (cond b (g ∷ filter (λ x. bytes_eq (name_of x.0) (name_of a)) given) (filter (λ x. bytes_eq (name_of x.0) (name_of a)) given)))
    go true rest = refl
    go false rest = rest

pub first_of_values : (a : Argument) (given : List Given) → first_of (name_of a) (rows given) ≡ slice_get (values_of a given) 0
first_of_values a [] = refl
first_of_values a (g ∷ given) = go (bytes_eq (name_of g.0) (name_of a)) (first_of_values a given)
  where
    go : (b : Bool) → first_of (name_of a) (rows given) ≡ slice_get (values_of a given) 0
        → option_and_then (λ (r : Row). slice_get r.values 0) (cond b (Some (row g)) (find (λ r. bytes_eq r.id (name_of a)) (rows given)))
        ≡ slice_get (map (λ (x : Given). x.1) (cond b (g ∷ filter (λ x. bytes_eq (name_of x.0) (name_of a)) given) (filter (λ x. bytes_eq (name_of x.0) (name_of a)) given))) 0
    go true rest = refl
    go false rest = rest

pub one_of_values : (a : Argument) (given : List Given) → one_of (name_of a) (rows given) ≡ slice_get (values_of a given) 0
one_of_values a [] = refl
one_of_values a (g ∷ given) = go (bytes_eq (name_of g.0) (name_of a)) (one_of_values a given)
  where
    go : (b : Bool) → one_of (name_of a) (rows given) ≡ slice_get (values_of a given) 0
        → option_and_then row_text (cond b (Some (row g)) (find (λ r. bytes_eq r.id (name_of a)) (rows given)))
        ≡ slice_get (map (λ (x : Given). x.1) (cond b (g ∷ filter (λ x. bytes_eq (name_of x.0) (name_of a)) given) (filter (λ x. bytes_eq (name_of x.0) (name_of a)) given))) 0
    go true rest = refl
    go false rest = rest

pub given_of_values : (a : Argument) (given : List Given) → is_given (name_of a) (rows given) ≡ is_there (values_of a given)
given_of_values a [] = refl
given_of_values a (g ∷ given) = go (bytes_eq (name_of g.0) (name_of a)) (given_of_values a given)
  where
    go : (b : Bool) → is_given (name_of a) (rows given) ≡ is_there (values_of a given)
        → option_map_or (λ (r : Row). explicit_source r.source) (cond b (Some (row g)) (find (λ r. bytes_eq r.id (name_of a)) (rows given))) false
        ≡ is_there (map (λ (x : Given). x.1) (cond b (g ∷ filter (λ x. bytes_eq (name_of x.0) (name_of a)) given) (filter (λ x. bytes_eq (name_of x.0) (name_of a)) given)))
    go true rest = refl
    go false rest = rest

-- ---- each argument at most once

abbrev pub AtMostOnce : List Given → Type 0
AtMostOnce given = (a : Argument) → length (values_of a given) ≤ 1

-- a further value doesn't repeat an argument
abbrev pub IsNew : Given → List Given → Type 0
IsNew g given = has_row (name_of g.0) (rows given) ≡ false

abbrev named_values : Text → List Given → List (List ℕ)
named_values name given = map (λ g. g.1) (filter (λ g. bytes_eq (name_of g.0) name) given)

pub same_name : (x y : List ℕ) → bytes_eq x y ≡ true → x ≡ y
same_name x y e = (bytes_eq-Decides x y).0 e

same_itself : (x : List ℕ) → bytes_eq x x ≡ true
same_itself x = (bytes_eq-Decides x x).1 refl

pub nothing_there : {X : Type 0} (xs : List X) → is_there xs ≡ false → xs ≡ []
nothing_there [] none = refl
nothing_there (x ∷ xs) none = absurd (true≢false none)

there_none : {X : Type 0} (xs : List X) → length xs ≡ 0 → is_there xs ≡ false
there_none [] none = refl
there_none (x ∷ xs) none = absurd (omega arith)

none_given : (a : Argument) (given : List Given) → has_row (name_of a) (rows given) ≡ false → length (values_of a given) ≡ 0
none_given a given none = ap length (nothing_there (values_of a given) (sym (row_of_values a given) ∙ none))

pub first_once : (given more : List Given) → AtMostOnce (given ++ more) → AtMostOnce given
first_once given more once a =
    omega (arith, once a, ap length (values-append a given more) ∙ length-append (values_of a given) (values_of a more))

pub last_new : (given : List Given) (g : Given) → AtMostOnce (given ++ g ∷ []) → IsNew g given
last_new given g once =
    row_of_values g.0 given ∙ there_none (values_of g.0 given) (omega (arith, once g.0, all))
  where
    itself : values_of g.0 (g ∷ []) ≡ g.1 ∷ []
    itself = rw (same_itself (name_of g.0)) refl

    all : length (values_of g.0 (given ++ g ∷ [])) ≡ length (values_of g.0 given) + 1
    all = ap length (values-append g.0 given (g ∷ [])) ∙ length-append (values_of g.0 given) (values_of g.0 (g ∷ []))
        ∙ ap (λ l. length (values_of g.0 given) + length l) itself

pub once_more : (given : List Given) (g : Given) → AtMostOnce given → IsNew g given → AtMostOnce (given ++ g ∷ [])
once_more given g once new a =
    let all : length (values_of a (given ++ g ∷ [])) ≡ length (values_of a given) + length (values_of a (g ∷ [])) =
    ap length (values-append a given (g ∷ [])) ∙ length-append (values_of a given) (values_of a (g ∷ [])) in
    go (bytes_eq (name_of g.0) (name_of a)) refl all
  where
    go : (b : Bool) → bytes_eq (name_of g.0) (name_of a) ≡ b
        → length (values_of a (given ++ g ∷ [])) ≡ length (values_of a given) + length (map (λ (x : Given). x.1) (cond b (g ∷ []) []))
        → length (values_of a (given ++ g ∷ [])) ≤ 1
    go false e all = omega (arith, all, once a)
    go true e all =
        let none : length (values_of a given) ≡ 0 = subst (λ n. length (named_values n given) ≡ 0) (same_name _ _ e) (none_given g.0 given new) in
        omega (arith, all, none)

-- how many values there are of which there is at most one
pub once_length : (vs : List (List ℕ)) → length vs ≤ 1 → length vs ≡ cond (is_there vs) 1 0
once_length [] most = refl
once_length (v ∷ []) most = refl
once_length (v ∷ w ∷ vs) most = absurd (omega arith)

-- what values of which there is at most one are
pub only_value : (vs : List (List ℕ)) → length vs ≤ 1 → vs ≡ option_to_list (slice_get vs 0)
only_value [] most = refl
only_value (v ∷ []) most = refl
only_value (v ∷ w ∷ vs) most = absurd (omega arith)

pub some_value : (vs : List (List ℕ)) → is_there vs ≡ true → (v : List ℕ) × (slice_get vs 0 ≡ Some v)
some_value [] some = absurd (true≢false (sym some))
some_value (v ∷ vs) some = (v, refl)
