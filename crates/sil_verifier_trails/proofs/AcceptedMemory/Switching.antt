-- How marks leave a switch, one list behind another, and where they turn it.
use Rattle.std.proofs.Common.{◌≡◌, List, [], ◌∷◌, ◌++◌, refl, sym, ap, ◌∙◌, Bool, true, false, Option, Some, None}
use Rattle.std.specs.Prelude.{option_and_then, unwrap_or}
use Rattle.std.proofs.lemmas.Option.{none-some, same_Some}
use Rattle.sil_verifier_values.specs.reach_engine_marks.declared.path_patterns.mark.Mark.{Mark}
use Rattle.sil_verifier_trails.specs.RunTrails.inner.Switched.{finds, switched_by, switched_over}

pub over_append : (xs ys : List Mark) (on : Bool) → switched_over (xs ++ ys) on ≡ option_and_then (switched_over ys) (switched_over xs on)
over_append [] ys on = refl
over_append (m ∷ xs) ys on = at (switched_by m on) (over_append xs ys)
  where
    at : (o : Option Bool) → ((b : Bool) → switched_over (xs ++ ys) b ≡ option_and_then (switched_over ys) (switched_over xs b))
        → option_and_then (switched_over (xs ++ ys)) o ≡ option_and_then (switched_over ys) (option_and_then (switched_over xs) o)
    at None more = refl
    at (Some b) more = more b

-- what is followed through two steps is followed through the first
pub and_then_some : {A B : Type 0} (go : A → Option B) (o : Option A) (y : B) → option_and_then go o ≡ Some y → (x : A) × (o ≡ Some x) × (go x ≡ Some y)
and_then_some go None y e = absurd (none-some y e)
and_then_some go (Some x) y e = (x, refl, e)

-- a mark that leaves the switch found what it needs
pub mark_found : (m : Mark) (on behind : Bool) → switched_by m on ≡ Some behind → finds m.needs on ≡ true
mark_found m on behind e = at (finds m.needs on) refl
  where
    at : (b : Bool) → finds m.needs on ≡ b → b ≡ true
    at true is = refl
    at false is = let none : switched_by m on ≡ None = rw is in absurd (none-some behind (sym none ∙ e))

-- where marks leave a switch that they don't break: they turn it one after another
abbrev pub turned_over : List Mark → Bool → Bool
turned_over [] on = on
turned_over (m ∷ ms) on = turned_over ms (unwrap_or m.turns on)

pub left_as_turned : (ms : List Mark) (on behind : Bool) → switched_over ms on ≡ Some behind → behind ≡ turned_over ms on
left_as_turned [] on behind e = sym (same_Some on behind e)
left_as_turned (m ∷ ms) on behind e =
    let first = and_then_some (switched_over ms) (switched_by m on) behind e in
    let is : first.0 ≡ unwrap_or m.turns on = by_turn (finds m.needs on) refl first.0 first.1 in
    left_as_turned ms first.0 behind first.2 ∙ ap (turned_over ms) is
  where
    by_turn : (b : Bool) → finds m.needs on ≡ b → (x : Bool) → switched_by m on ≡ Some x → x ≡ unwrap_or m.turns on
    by_turn true is x so = let here : switched_by m on ≡ Some (unwrap_or m.turns on) = rw is in sym (same_Some (unwrap_or m.turns on) x (sym here ∙ so))
    by_turn false is x so = let none : switched_by m on ≡ None = rw is in absurd (none-some x (sym none ∙ so))
