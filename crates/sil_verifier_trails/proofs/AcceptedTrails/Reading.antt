-- What the marks of an item say of a value that they find on or off: first ends, then uses, then begins.
use Rattle.std.proofs.Common.{◌≡◌, List, [], ◌∷◌, ◌++◌, map, refl, sym, ap, ◌∙◌, Bool, true, false, cond, not, ◌&&◌, ◌||◌, Option, Some, None}
use Rattle.std.specs.Prelude.{◌==◌, flat_map}
use Rattle.std.specs.List.{list_any}
use Rattle.std.proofs.lemmas.Bool.{false≢true, or_cases}
use Rattle.std.proofs.lemmas.Grind.{flat_map-append}
use Rattle.std.proofs.lemmas.Option.{none-some, same_Some}
use Rattle.sil_verifier_values.specs.holder_model.Frames.{ends, has_any}
use Rattle.sil_cfg_items.specs.declared.taken.Taken.{Taken}
use Rattle.numbered_form.specs.Lists.{Each}
use Rattle.sil_verifier_values.specs.ownership_kinds_chains.declared.ownership_chains.facts.Facts.{Facts}
use Rattle.sil_verifier_values.specs.ownership_kinds_chains.OwnershipMarks.Marks.{begin_of, begun, begun_with, end_of, ended, ended_by, ended_with, ends_owned, ends_scope, is_own_base, use_of, used}
use Rattle.sil_verifier_values.specs.ownership_kinds_chains.OwnershipMarks.Marks.{used_by, used_with}
use Rattle.sil_verifier_values.specs.ownership_kinds_chains.declared.ownership_marks.mark.Mark.{Mark}
use Rattle.sil_verifier_values.specs.ownership_kinds_chains.declared.ownership_marks.mark.MarkSort.{MarkSort}
use Rattle.sil_verifier_values.specs.ownership_kinds_chains.declared.ownership_marks.mark.MarkSort.TheVariants.{Begin, End, Use}
use Rattle.sil_ast.specs.declared.place.ValueId.{ValueId}
use Rattle.sil_verifier_values.specs.sil_types_declarations.declared.type_definitions.kind.Kind.{Kind}
use Rattle.sil_verifier_values.specs.sil_types_declarations.declared.type_definitions.kind.Kind.TheVariants as kind
use Rattle.sil_verifier_trails.specs.RunTrails.inner.Switched.{after_each}
use Rattle.sil_verifier_trails.proofs.RunTrails.AfterEach.{after_one, after_split}
use Rattle.sil_verifier_trails.specs.AcceptedTrails.inner.Passing.{is_begin, is_end, is_use, on_behind}
use Rattle.sil_verifier_trails.proofs.AcceptedTrails.Tests.{either, or_more}

-- a mark of the value itself, or of another one
abbrev pub read_by : Bool → MarkSort → Bool → Option Bool
read_by false sort on = Some on
read_by true End on = cond on (Some false) None
read_by true Use on = cond on (Some true) None
read_by true Begin on = cond on None (Some true)

abbrev pub read_mark : ValueId → Mark → Bool → Option Bool
read_mark v m on = read_by (m.subject.0 == v.0) m.sort on

abbrev pub read : ValueId → List Mark → Bool → Option Bool
read v ms on = after_each (read_mark v) ms on

-- ---- marks that there are or aren't

one_if : (b : Bool) (m : Mark) → cond b (m ∷ []) [] ≡ cond (has_any (cond b (m ∷ []) [])) (m ∷ []) []
one_if true m = refl
one_if false m = refl

end_by : (k : Kind) (x : Taken) → ended_by k x.role x.value ≡ cond (has_any (ended_by k x.role x.value)) (end_of x.value ∷ []) []
end_by kind.Owned x = one_if (ends_owned x.role) (end_of x.value)
end_by kind.Guaranteed x = one_if (ends_scope x.role) (end_of x.value)
end_by kind.Plain x = refl

pub end_with : (o : Option Facts) (x : Taken) → ended_with o x ≡ cond (has_any (ended_with o x)) (end_of x.value ∷ []) []
end_with None x = refl
end_with (Some f) x = end_by f.kind x

begin_with : (o : Option Facts) (w : ValueId) → begun_with o w ≡ cond (has_any (begun_with o w)) (begin_of w ∷ []) []
begin_with None w = refl
begin_with (Some f) w = one_if (is_own_base f.kind w f.bases) (begin_of w)

abbrev IsUse : Mark → Type 0
IsUse m = m.sort ≡ Use

all_uses : (vs : List ValueId) → Each IsUse (map use_of vs)
all_uses [] = tt
all_uses (v ∷ vs) = (refl, all_uses vs)

unless_all : (b : Bool) (ms : List Mark) → Each IsUse ms → Each IsUse (cond b [] ms)
unless_all true ms h = tt
unless_all false ms h = h

uses_by : (k : Kind) (x : Taken) (bases : List ValueId) → Each IsUse (used_by k x.role x.value bases)
uses_by kind.Owned x bases = unless_all (ends_owned x.role) (use_of x.value ∷ []) (refl, tt)
uses_by kind.Guaranteed x bases = unless_all (ends_scope x.role) (map use_of bases) (all_uses bases)
uses_by kind.Plain x bases = tt

uses_with : (o : Option Facts) (x : Taken) → Each IsUse (used_with o x)
uses_with None x = tt
uses_with (Some f) x = uses_by f.kind x f.bases

-- ---- on or off

on_more : (on here more : Bool) → ((on && not here) && not more) ≡ (on && not (here || more))
on_more true true more = refl
on_more true false more = refl
on_more false here more = refl

-- an end, where there is one: it finds the value on, and leaves it off
ends_bits : (there own on c : Bool) → cond there (read_by own End on) (Some on) ≡ Some c → (c ≡ (on && not (there && own))) × ((there && own) ≡ true → on ≡ true)
ends_bits false own true c h = (sym (same_Some true c h), λ e. refl)
ends_bits false own false c h = (sym (same_Some false c h), λ e. e)
ends_bits true false true c h = (sym (same_Some true c h), λ e. refl)
ends_bits true false false c h = (sym (same_Some false c h), λ e. e)
ends_bits true true true c h = (sym (same_Some false c h), λ e. refl)
ends_bits true true false c h = absurd (none-some c h)

uses_bits : (own on c : Bool) → read_by own Use on ≡ Some c → (c ≡ on) × (own ≡ true → on ≡ true)
uses_bits false true c h = (sym (same_Some true c h), λ e. refl)
uses_bits false false c h = (sym (same_Some false c h), λ e. e)
uses_bits true true c h = (sym (same_Some true c h), λ e. refl)
uses_bits true false c h = absurd (none-some c h)

-- a begin, where there is one: it finds the value off, and leaves it on
begins_bits : (there own on c : Bool) → cond there (read_by own Begin on) (Some on) ≡ Some c → (c ≡ ((there && own) || on)) × ((there && own) ≡ true → on ≡ false)
begins_bits false own true c h = (sym (same_Some true c h), λ e. absurd (false≢true e))
begins_bits false own false c h = (sym (same_Some false c h), λ e. refl)
begins_bits true false true c h = (sym (same_Some true c h), λ e. absurd (false≢true e))
begins_bits true false false c h = (sym (same_Some false c h), λ e. refl)
begins_bits true true true c h = absurd (none-some c h)
begins_bits true true false c h = (sym (same_Some true c h), λ e. refl)

-- ---- the marks of an item, where each finds what it needs

module _ (facts : ValueId → Option Facts) (v : ValueId) where
  mark_if : (there : Bool) (m : Mark) (on c : Bool) → read v (cond there (m ∷ []) []) on ≡ Some c → cond there (read_mark v m on) (Some on) ≡ Some c
  mark_if true m on c h = after_one (read_mark v) m on c h
  mark_if false m on c h = h

  pub read_split : (ms ns : List Mark) (on c : Bool) → read v (ms ++ ns) on ≡ Some c → (b : Bool) × (read v ms on ≡ Some b) × (read v ns b ≡ Some c)
  read_split ms ns on c h = after_split (read_mark v) ms ns on c h

  ends_one : (x : Taken) (on c : Bool) → read v (ended facts x) on ≡ Some c → (c ≡ (on && not (is_end facts v x))) × (is_end facts v x ≡ true → on ≡ true)
  ends_one x on c h =
      ends_bits (ends facts x) (x.value.0 == v.0) on c
      (mark_if (ends facts x) (end_of x.value) on c (ap (λ ms. read v ms on) (sym (end_with (facts x.value) x)) ∙ h))

  pub ends_left : (xs : List Taken) (on c : Bool) → read v (flat_map (ended facts) xs) on ≡ Some c → c ≡ on_behind facts v on xs
  ends_left [] true c h = sym (same_Some true c h)
  ends_left [] false c h = sym (same_Some false c h)
  ends_left (x ∷ xs) on c h =
      let s = read_split (ended facts x) (flat_map (ended facts) xs) on c h in
      ends_left xs s.0 c s.2 ∙ ap (λ b. b && not (list_any (is_end facts v) xs)) (ends_one x on s.0 s.1).0
      ∙ on_more on (is_end facts v x) (list_any (is_end facts v) xs)

  pub ends_found : (front rest : List Taken) (x : Taken) (on c : Bool) → read v (flat_map (ended facts) (front ++ x ∷ rest)) on ≡ Some c →
      is_end facts v x ≡ true → on_behind facts v on front ≡ true
  ends_found front rest x on c h there =
      let s = read_split (flat_map (ended facts) front) (flat_map (ended facts) (x ∷ rest)) on c
      (ap (λ ms. read v ms on) (sym (flat_map-append (ended facts) front (x ∷ rest))) ∙ h) in
      let t = read_split (ended facts x) (flat_map (ended facts) rest) s.0 c s.2 in
      sym (ends_left front on s.0 s.1) ∙ (ends_one x s.0 t.0 t.1).1 there

  uses_all : (ms : List Mark) (on c : Bool) → Each IsUse ms → read v ms on ≡ Some c → (c ≡ on) × (list_any (λ m. m.subject.0 == v.0) ms ≡ true → on ≡ true)
  uses_all [] on c each h = (sym (same_Some on c h), λ e. absurd (false≢true e))
  uses_all (m ∷ ms) on c each h =
      let s = read_split (m ∷ []) ms on c h in
      let one = uses_bits (m.subject.0 == v.0) on s.0 (ap (λ k. read_by (m.subject.0 == v.0) k on) (sym each.0) ∙ after_one (read_mark v) m on s.0 s.1) in
      let more = uses_all ms s.0 c each.1 s.2 in
      (more.0 ∙ one.0, λ e. either one.1 (λ u. sym one.0 ∙ more.1 u) (or_cases (m.subject.0 == v.0) (list_any (λ m. m.subject.0 == v.0) ms) e))

  pub uses_found : (xs : List Taken) (on c : Bool) → read v (flat_map (used facts) xs) on ≡ Some c → (c ≡ on) × (list_any (is_use facts v) xs ≡ true → on ≡ true)
  uses_found [] on c h = (sym (same_Some on c h), λ e. absurd (false≢true e))
  uses_found (x ∷ xs) on c h =
      let s = read_split (used facts x) (flat_map (used facts) xs) on c h in
      let one = uses_all (used facts x) on s.0 (uses_with (facts x.value) x) s.1 in
      let more = uses_found xs s.0 c s.2 in
      (more.0 ∙ one.0, λ e. either one.1 (λ u. sym one.0 ∙ more.1 u) (or_cases (is_use facts v x) (list_any (is_use facts v) xs) e))

  begins_one : (w : ValueId) (on c : Bool) → read v (begun facts w) on ≡ Some c → (c ≡ (is_begin facts v w || on)) × (is_begin facts v w ≡ true → on ≡ false)
  begins_one w on c h =
      begins_bits (has_any (begun facts w)) (w.0 == v.0) on c
      (mark_if (has_any (begun facts w)) (begin_of w) on c (ap (λ ms. read v ms on) (sym (begin_with (facts w) w)) ∙ h))

  pub begins_left : (ws : List ValueId) (on c : Bool) → read v (flat_map (begun facts) ws) on ≡ Some c → c ≡ (list_any (is_begin facts v) ws || on)
  begins_left [] on c h = sym (same_Some on c h)
  begins_left (w ∷ ws) on c h =
      let s = read_split (begun facts w) (flat_map (begun facts) ws) on c h in
      begins_left ws s.0 c s.2 ∙ ap (λ b. list_any (is_begin facts v) ws || b) (begins_one w on s.0 s.1).0
      ∙ or_more (is_begin facts v w) (list_any (is_begin facts v) ws) on

  pub begins_found : (front rest : List ValueId) (w : ValueId) (on c : Bool) → read v (flat_map (begun facts) (front ++ w ∷ rest)) on ≡ Some c →
      is_begin facts v w ≡ true → (list_any (is_begin facts v) front || on) ≡ false
  begins_found front rest w on c h there =
      let s = read_split (flat_map (begun facts) front) (flat_map (begun facts) (w ∷ rest)) on c
      (ap (λ ms. read v ms on) (sym (flat_map-append (begun facts) front (w ∷ rest))) ∙ h) in
      let t = read_split (begun facts w) (flat_map (begun facts) rest) s.0 c s.2 in
      sym (begins_left front on s.0 s.1) ∙ (begins_one w s.0 t.0 t.1).1 there
