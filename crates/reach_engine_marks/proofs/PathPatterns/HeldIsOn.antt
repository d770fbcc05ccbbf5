-- The switch is on just while the value is held.
use Rattle.std.proofs.Common.{◌≡◌, List, [], ◌∷◌, ◌++◌, refl, sym, ap, ap₂, ◌∙◌, Bool, true, Option, Some, None, All}
use Rattle.std.specs.Prelude.{filter_map, map}
use Rattle.std.specs.List.{cons_option}
use Rattle.std.proofs.lemmas.List.Elements.{All-nil, All-cons, All-head, All-tail, All-weaker, filter_map-append}
use Rattle.sil_rules.specs.declared.rule.Rule.{Rule}
use Rattle.reach_engine_marks.specs.declared.path_patterns.mark.Mark.{Mark}
use Rattle.reach_engine_marks.specs.PathPatterns.Switch.{IsOn}
use Rattle.reach_engine_marks.specs.PathPatterns.inner.Runs.{Sort, End, Use, Begin, IsHeld, IsOnWhileHeld, held_mark, turned_by}

module _ {X : Type 0} (turns : X → Option Bool) where
  abbrev Unturned : X → Type 0
  Unturned x = turns x ≡ None

  -- the last that turns, turns it on
  record IsLast (xs : List X) : Type 0 where
    before : List X
    last : X
    since : List X
    parts : xs ≡ before ++ last ∷ since
    on : turns last ≡ Some true
    unturned : All Unturned since

  none_turned : (xs : List X) → All Unturned xs → filter_map turns xs ≡ []
  none_turned [] h = refl
  none_turned (x ∷ xs) h = ap₂ cons_option (All-head Unturned x xs h) (none_turned xs (All-tail Unturned x xs h))

  all_unturned : (xs : List X) → filter_map turns xs ≡ [] → All Unturned xs
  all_unturned [] e = All-nil Unturned
  all_unturned (x ∷ xs) e = at (turns x) refl e (all_unturned xs)
    where
      at : (o : Option Bool) → turns x ≡ o → cons_option o (filter_map turns xs) ≡ [] → (filter_map turns xs ≡ [] → All Unturned xs) → All Unturned (x ∷ xs)
      at None t e more = All-cons Unturned x xs t (more e)
      at (Some b) t e more = absurd (let wrong : b ∷ filter_map turns xs ≡ [] = e in cc)

  last_turn : (xs : List X) → IsLast xs → (front : List Bool) × (filter_map turns xs ≡ front ++ true ∷ [])
  last_turn xs h = (
    filter_map turns h.before,
    ap (filter_map turns) h.parts ∙ filter_map-append turns h.before (h.last ∷ h.since)
        ∙ ap (λ v. filter_map turns h.before ++ v) (ap₂ cons_option h.on (none_turned h.since h.unturned)),
  )

  behind : (x : X) (xs : List X) → IsLast xs → IsLast (x ∷ xs)
  behind x xs h = record { before = x ∷ h.before; last = h.last; since = h.since; parts = ap (λ v. x ∷ v) h.parts; on = h.on; unturned = h.unturned }

  turn_last : (xs : List X) (front : List Bool) → filter_map turns xs ≡ front ++ true ∷ [] → IsLast xs
  turn_last [] [] e = absurd (cc)
  turn_last [] (b ∷ front) e = absurd (cc)
  turn_last (x ∷ xs) front e = at (turns x) refl front e (turn_last xs)
    where
      at : (o : Option Bool) → turns x ≡ o → (front : List Bool) → cons_option o (filter_map turns xs) ≡ front ++ true ∷ [] →
          ((front : List Bool) → filter_map turns xs ≡ front ++ true ∷ [] → IsLast xs) → IsLast (x ∷ xs)
      at None t front e more = behind x xs (more front e)
      at (Some b) t [] e more =
          let same : b ∷ filter_map turns xs ≡ true ∷ [] = e in
          let on : b ≡ true = cc in
          let rest : filter_map turns xs ≡ [] = cc in
          record { before = []; last = x; since = xs; parts = refl; on = t ∙ ap Some on; unturned = all_unturned xs rest }
      at (Some b) t (c ∷ front) e more =
          let same : b ∷ filter_map turns xs ≡ c ∷ (front ++ true ∷ []) = e in
          behind x xs (more front (let rest : filter_map turns xs ≡ front ++ true ∷ [] = cc in rest))

on_last : (marks : List Mark) → IsOn marks → IsLast (λ (m : Mark). m.turns) marks
on_last marks h = record { before = h.before; last = h.mark; since = h.since; parts = h.parts; on = h.turned_on; unturned = h.unturned }

last_on : (marks : List Mark) → IsLast (λ (m : Mark). m.turns) marks → IsOn marks
last_on marks h = record { before = h.before; mark = h.last; since = h.since; parts = h.parts; turned_on = h.on; unturned = h.unturned }

is_begin : (s : Sort) → turned_by s ≡ Some true → s ≡ Begin
is_begin End e = cc
is_begin Use e = cc
is_begin Begin e = refl

is_use : (s : Sort) → turned_by s ≡ None → s ≡ Use
is_use End e = cc
is_use Use e = refl
is_use Begin e = cc

held_last : (sorts : List Sort) → IsHeld sorts → IsLast turned_by sorts
held_last sorts h = record {
  before = h.before;
  last = Begin;
  since = h.since;
  parts = h.parts;
  on = refl;
  unturned = All-weaker (λ (s : Sort). s ≡ Use) (λ (s : Sort). turned_by s ≡ None) (λ s e. ap turned_by e) h.since h.used;
}

last_held : (sorts : List Sort) → IsLast turned_by sorts → IsHeld sorts
last_held sorts h = record {
  before = h.before;
  since = h.since;
  parts = h.parts ∙ ap (λ s. h.before ++ s ∷ h.since) (is_begin h.last h.on);
  used = All-weaker (λ (s : Sort). turned_by s ≡ None) (λ (s : Sort). s ≡ Use) is_use h.since h.unturned;
}

pub on_while_held : IsOnWhileHeld
on_while_held marks sorts alike = (into, out)
  where
    into : IsOn marks → IsHeld sorts
    into on =
        let t = last_turn (λ (m : Mark). m.turns) marks (on_last marks on) in
        last_held sorts (turn_last turned_by sorts t.0 (sym alike ∙ t.1))

    out : IsHeld sorts → IsOn marks
    out held =
        let t = last_turn turned_by sorts (held_last sorts held) in
        last_on marks (turn_last (λ (m : Mark). m.turns) marks t.0 (alike ∙ t.1))

turn_same : (rules : Sort → Rule) (s : Sort) → (held_mark rules s).turns ≡ turned_by s
turn_same rules End = refl
turn_same rules Use = refl
turn_same rules Begin = refl

-- the marks of a value that is held turn the switch so
pub held_turns : (rules : Sort → Rule) (sorts : List Sort) → filter_map (λ m. m.turns) (map (held_mark rules) sorts) ≡ filter_map turned_by sorts
held_turns rules [] = refl
held_turns rules (s ∷ sorts) = ap₂ cons_option (turn_same rules s) (held_turns rules sorts)
