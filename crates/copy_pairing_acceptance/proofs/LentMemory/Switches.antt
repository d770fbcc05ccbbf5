-- A switch that is followed along every trail is broken on none.
use Rattle.std.proofs.Common.{◌≡◌, List, [], ◌∷◌, ◌++◌, refl, sym, ap, ◌∙◌, subst, Bool, true, false, reverse, Option, Some, None, append-nil, append_assoc}
use Rattle.std.specs.Prelude.{◌↔◌, flat_map, option_and_then, unwrap_or}
use Rattle.std.proofs.lemmas.Bool.{false≢true}
use Rattle.std.proofs.lemmas.List.{reverse-reverse}
use Rattle.std.proofs.lemmas.Option.{none-some, same_Some}
use Rattle.reach_engine_marks.specs.PathPatterns.Switch.{Finds, IsOn}
use Rattle.reach_engine_marks.specs.declared.path_patterns.mark.Mark.{Mark}
use Rattle.reach_engine_marks.proofs.PathPatterns.SwitchDecided.{pop_none, push_none, push_off, push_on}
use Rattle.sil_ast.specs.declared.function.Function.{Function}
use Rattle.sil_cfg.specs.Items.{flow_of}
use Rattle.sil_cfg.specs.Walk.{IsTrail}
use Rattle.sil_cfg.specs.declared.item.Item.{Item}
use Rattle.sil_verifier_trails.specs.RunTrails.inner.RunTrails.{IsTurnedTrail}
use Rattle.sil_verifier_trails.specs.RunTrails.inner.Switched.{IsFollowed, IsUnbroken, finds, switched_by, switched_over}
use Rattle.sil_verifier_trails.proofs.RunTrails.SwitchedTrails.{turned_on}
use Rattle.sil_verifier_trails.proofs.RunTrails.TurnedTrails.{turned_older}
use Rattle.sil_verifier_trails.proofs.AcceptedMemory.Switching.{and_then_some, mark_found, over_append}

-- the switch is on just where the flag says so
abbrev pub Tells : List Mark → Bool → Type 0
Tells before on = IsOn before ↔ (on ≡ true)

turned_by : (m : Mark) (on b : Bool) → switched_by m on ≡ Some b → b ≡ unwrap_or m.turns on
turned_by m on b e = at (finds m.needs on) refl
  where
    at : (x : Bool) → finds m.needs on ≡ x → b ≡ unwrap_or m.turns on
    at true is = let here : switched_by m on ≡ Some (unwrap_or m.turns on) = rw is in sym (same_Some (unwrap_or m.turns on) b (sym here ∙ e))
    at false is = let none : switched_by m on ≡ None = rw is in absurd (none-some b (sym none ∙ e))

told_step : (before : List Mark) (m : Mark) (on b : Bool) → b ≡ unwrap_or m.turns on → Tells before on → Tells (before ++ m ∷ []) b
told_step before m on b e tells = at m.turns refl
  where
    at : (o : Option Bool) → m.turns ≡ o → Tells (before ++ m ∷ []) b
    at None is =
        let same : b ≡ on = e ∙ ap (λ o. unwrap_or o on) is in
        (λ h. same ∙ tells.0 (pop_none before m is h), λ h. push_none before m is (tells.1 (sym same ∙ h)))
    at (Some true) is = (λ _. e ∙ ap (λ o. unwrap_or o on) is, λ _. push_on before m is)
    at (Some false) is =
        let same : b ≡ false = e ∙ ap (λ o. unwrap_or o on) is in
        (λ h. absurd (push_off before m is h), λ h. absurd (false≢true (sym same ∙ h)))

told_over : (ms before : List Mark) (on b : Bool) → switched_over ms on ≡ Some b → Tells before on → Tells (before ++ ms) b
told_over [] before on b e tells =
    subst (λ v. Tells v b) (sym (append-nil before)) (subst (Tells before) (same_Some on b e) tells)
told_over (m ∷ ms) before on b e tells =
    let s = and_then_some (switched_over ms) (switched_by m on) b e in
    let next = told_step before m on s.0 (turned_by m on s.0 s.1) tells in
    subst (λ v. Tells v b) (append_assoc before (m ∷ []) ms) (told_over ms (before ++ m ∷ []) s.0 b s.2 next)

in_place : (needs : Option Bool) (before : List Mark) (on : Bool) → Tells before on → finds needs on ≡ true → Finds needs before
in_place None before on tells e = tt
in_place (Some true) before on tells e = tells.1 e
in_place (Some false) before true tells e = absurd (false≢true e)
in_place (Some false) before false tells e = λ h. false≢true (tells.0 h)

pub unbroken_where_followed : (f : Function) (marks : Item → List Mark) → ((t : List Item) → IsTurnedTrail f t → IsFollowed marks t) → IsUnbroken f marks
unbroken_where_followed f marks followed rule walk point item shown =
    let s = shown.shows in
    let t : List Item = reverse s.before in
    let turned : reverse t ≡ s.before = reverse-reverse s.before in
    let trail : IsTurnedTrail f (item ∷ t) = (walk, subst (λ b. IsTrail (flow_of f) walk (b ++ item ∷ [])) (sym turned) s.trail) in
    let was = followed t (turned_older f item t trail) in
    let is = followed (item ∷ t) trail in
    let over : switched_over (marks item) was.0 ≡ Some is.0 = ap (option_and_then (switched_over (marks item))) (sym was.1) ∙ is.1 in
    let told : Tells (flat_map marks s.before) was.0 =
    subst (λ b. Tells (flat_map marks b) was.0) turned
    (λ h. same_Some was.0 true (sym was.1 ∙ (turned_on marks t was.0 was.1).0 h), λ h. (turned_on marks t was.0 was.1).1 (was.1 ∙ ap Some h)) in
    let b = s.breaks in
    let parts : option_and_then (switched_over (b.mark ∷ b.rest)) (switched_over b.front was.0) ≡ Some is.0 =
    sym (over_append b.front (b.mark ∷ b.rest) was.0) ∙ ap (λ ms. switched_over ms was.0) (sym b.parts) ∙ over in
    let first = and_then_some (switched_over (b.mark ∷ b.rest)) (switched_over b.front was.0) is.0 parts in
    let next = and_then_some (switched_over b.rest) (switched_by b.mark first.0) is.0 first.2 in
    b.out_of_place
    (in_place b.mark.needs (flat_map marks s.before ++ b.front) first.0 (told_over b.front (flat_map marks s.before) was.0 first.0 first.1 told)
    (mark_found b.mark first.0 next.0 next.1))
