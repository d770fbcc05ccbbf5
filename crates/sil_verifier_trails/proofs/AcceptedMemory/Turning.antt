-- Where a list of things turns a switch, each by its own turn.
use Rattle.std.proofs.Common.{◌≡◌, List, [], ◌∷◌, ◌++◌, refl, ap, ◌∙◌, Bool, Option, Some, None}
use Rattle.std.specs.Prelude.{filter_map, flat_map, map, option_and_then, unwrap_or}
use Rattle.std.specs.List.{cons_option}
use Rattle.numbered_form.specs.Lists.{Each}
use Rattle.sil_verifier_values.specs.reach_engine_marks.declared.path_patterns.mark.Mark.{Mark}
use Rattle.sil_verifier_trails.proofs.AcceptedMemory.Switching.{turned_over}

abbrev pub turned_each : {A : Type 0} → (A → Option Bool) → List A → Bool → Bool
turned_each turn [] on = on
turned_each turn (x ∷ xs) on = turned_each turn xs (unwrap_or (turn x) on)

pub each_append : {A : Type 0} (turn : A → Option Bool) (xs ys : List A) (on : Bool) → turned_each turn (xs ++ ys) on ≡ turned_each turn ys (turned_each turn xs on)
each_append turn [] ys on = refl
each_append turn (x ∷ xs) ys on = each_append turn xs ys (unwrap_or (turn x) on)

-- what turns alike leaves the switch alike
pub each_alike : {A : Type 0} (turn other : A → Option Bool) → ((x : A) → turn x ≡ other x) → (xs : List A) (on : Bool) → turned_each turn xs on ≡ turned_each other xs on
each_alike turn other same [] on = refl
each_alike turn other same (x ∷ xs) on = each_alike turn other same xs (unwrap_or (turn x) on) ∙ ap (λ o. turned_each other xs (unwrap_or o on)) (same x)

-- what doesn't turn it leaves it
pub each_quiet : {A : Type 0} (turn : A → Option Bool) → ((x : A) → turn x ≡ None) → (xs : List A) (on : Bool) → turned_each turn xs on ≡ on
each_quiet turn quiet [] on = refl
each_quiet turn quiet (x ∷ xs) on = each_quiet turn quiet xs (unwrap_or (turn x) on) ∙ ap (λ o. unwrap_or o on) (quiet x)

-- the things that each of a list is turned into
pub each_flat : {A B : Type 0} (turn : B → Option Bool) (other : A → Option Bool) (into : A → List B)
    → ((x : A) (on : Bool) → turned_each turn (into x) on ≡ unwrap_or (other x) on) → (xs : List A) (on : Bool)
    → turned_each turn (flat_map into xs) on ≡ turned_each other xs on
each_flat turn other into same [] on = refl
each_flat turn other into same (x ∷ xs) on =
    each_append turn (into x) (flat_map into xs) on
    ∙ each_flat turn other into same xs (turned_each turn (into x) on)
    ∙ ap (turned_each other xs) (same x on)

-- marks turn it by what they turn
pub over_as_each : (marks : List Mark) (on : Bool) → turned_over marks on ≡ turned_each (λ m. m.turns) marks on
over_as_each [] on = refl
over_as_each (m ∷ marks) on = over_as_each marks (unwrap_or m.turns on)

pub each_mapped : {A B : Type 0} (turn : B → Option Bool) (into : A → B) (xs : List A) (on : Bool) → turned_each turn (map into xs) on ≡ turned_each (λ x. turn (into x)) xs on
each_mapped turn into [] on = refl
each_mapped turn into (x ∷ xs) on = each_mapped turn into xs (unwrap_or (turn (into x)) on)

pub each_filtered : {A B : Type 0} (turn : B → Option Bool) (into : A → Option B) (xs : List A) (on : Bool)
    → turned_each turn (filter_map into xs) on ≡ turned_each (λ x. option_and_then turn (into x)) xs on
each_filtered turn into [] on = refl
each_filtered {A} {B} turn into (x ∷ xs) on = at (into x) (each_filtered turn into xs)
  where
    at : (o : Option B) → ((b : Bool) → turned_each turn (filter_map into xs) b ≡ turned_each (λ x. option_and_then turn (into x)) xs b)
        → turned_each turn (cons_option o (filter_map into xs)) on ≡ turned_each (λ x. option_and_then turn (into x)) xs (unwrap_or (option_and_then turn o) on)
    at None more = more on
    at (Some y) more = more (unwrap_or (turn y) on)

-- what holds of each of a list suffices
pub each_where : {A : Type 0} (P : A → Type 0) (turn other : A → Option Bool) → ((x : A) → P x → turn x ≡ other x) → (xs : List A) → Each P xs → (on : Bool)
    → turned_each turn xs on ≡ turned_each other xs on
each_where P turn other same [] all on = refl
each_where P turn other same (x ∷ xs) all on =
    each_where P turn other same xs all.1 (unwrap_or (turn x) on) ∙ ap (λ o. turned_each other xs (unwrap_or o on)) (same x all.0)

pub each_none : {A : Type 0} (P : A → Type 0) (turn : A → Option Bool) → ((x : A) → P x → turn x ≡ None) → (xs : List A) → Each P xs → (on : Bool) → turned_each turn xs on ≡ on
each_none P turn quiet xs all on = each_where P turn (λ x. None) quiet xs all on ∙ each_quiet (λ x. None) (λ x. refl) xs on
