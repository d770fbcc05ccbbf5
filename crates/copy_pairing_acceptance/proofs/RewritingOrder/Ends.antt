-- An item ends no value but those that it takes.
use Rattle.std.proofs.Common.{◌≡◌, ◌≢◌, List, [], ◌∷◌, ◌++◌, map, refl, ap, ap₂, ◌∙◌, Bool, true, false, cond, Option, Some, None}
use Rattle.std.specs.Prelude.{◌||◌}
use Rattle.std.specs.List.{flat_map, list_any}
use Rattle.std.proofs.lemmas.Bool.{ne_eqb}
use Rattle.std.proofs.lemmas.List.Folds.{list_any-append}
use Rattle.sil_cfg_items.specs.declared.taken.Taken.{Taken}
use Rattle.numbered_form.specs.Lists.{Each}
use Rattle.ownership_kinds_chains.specs.declared.ownership_chains.facts.Facts.{Facts}
use Rattle.ownership_kinds_chains.specs.OwnershipMarks.Marks.{begin_of, begun, begun_with, end_of, ended, ended_by, ended_with, ends_owned, ends_scope, is_own_base, marks_with, use_of, used, used_by}
use Rattle.ownership_kinds_chains.specs.OwnershipMarks.Marks.{used_with}
use Rattle.ownership_kinds_chains.specs.declared.ownership_marks.mark.Mark.{Mark}
use Rattle.ownership_kinds_chains.specs.declared.ownership_marks.mark.MarkSort.TheVariants.{End}
use Rattle.sil_ast.specs.declared.place.ValueId.{ValueId}
use Rattle.sil_types_declarations.specs.declared.type_definitions.kind.Kind.{Kind}
use Rattle.sil_types_declarations.specs.declared.type_definitions.kind.Kind.TheVariants as kind
use Rattle.copy_pairing_model.specs.Removable.{is_mark}

module _ (e : ValueId) where
  abbrev pub ends : Mark → Bool
  ends m = is_mark End (e ∷ []) m

  none_flat : {X : Type 0} (h : X → List Mark) (xs : List X) → ((x : X) → list_any ends (h x) ≡ false) → list_any ends (flat_map h xs) ≡ false
  none_flat h [] all = refl
  none_flat h (x ∷ xs) all = list_any-append ends (h x) (flat_map h xs) ∙ ap₂ (λ a b. a || b) (all x) (none_flat h xs all)

  one_ended : (b : Bool) (w : ValueId) → e.0 ≢ w.0 → list_any ends (cond b (end_of w ∷ []) []) ≡ false
  one_ended true w apart = ap (λ b. (b || false) || false) (ne_eqb e.0 w.0 apart)
  one_ended false w apart = refl

  by_ended : (k : Kind) (t : Taken) → e.0 ≢ t.value.0 → list_any ends (ended_by k t.role t.value) ≡ false
  by_ended kind.Owned t apart = one_ended (ends_owned t.role) t.value apart
  by_ended kind.Guaranteed t apart = one_ended (ends_scope t.role) t.value apart
  by_ended kind.Plain t apart = refl

  ended_none : (o : Option Facts) (t : Taken) → e.0 ≢ t.value.0 → list_any ends (ended_with o t) ≡ false
  ended_none None t apart = refl
  ended_none (Some x) t apart = by_ended x.kind t apart

  uses_none : (ws : List ValueId) → list_any ends (map use_of ws) ≡ false
  uses_none [] = refl
  uses_none (w ∷ ws) = uses_none ws

  some_used : (b : Bool) (ws : List ValueId) → list_any ends (cond b [] (map use_of ws)) ≡ false
  some_used true ws = refl
  some_used false ws = uses_none ws

  by_used : (k : Kind) (t : Taken) (bases : List ValueId) → list_any ends (used_by k t.role t.value bases) ≡ false
  by_used kind.Owned t bases = some_used (ends_owned t.role) (t.value ∷ [])
  by_used kind.Guaranteed t bases = some_used (ends_scope t.role) bases
  by_used kind.Plain t bases = refl

  used_none : (o : Option Facts) (t : Taken) → list_any ends (used_with o t) ≡ false
  used_none None t = refl
  used_none (Some x) t = by_used x.kind t x.bases

  one_begun : (b : Bool) (w : ValueId) → list_any ends (cond b (begin_of w ∷ []) []) ≡ false
  one_begun true w = refl
  one_begun false w = refl

  begun_none : (o : Option Facts) (w : ValueId) → list_any ends (begun_with o w) ≡ false
  begun_none None w = refl
  begun_none (Some x) w = one_begun (is_own_base x.kind w x.bases) w

  module _ (facts : ValueId → Option Facts) where
    all_ended : (ts : List Taken) → Each (λ (t : Taken). e.0 ≢ t.value.0) ts → list_any ends (flat_map (ended facts) ts) ≡ false
    all_ended [] all = refl
    all_ended (t ∷ ts) all =
        list_any-append ends (ended facts t) (flat_map (ended facts) ts) ∙ ap₂ (λ a b. a || b) (ended_none (facts t.value) t all.0) (all_ended ts all.1)

    pub unended : (taken : List Taken) (defined : List ValueId) → Each (λ (t : Taken). e.0 ≢ t.value.0) taken → list_any ends (marks_with facts taken defined) ≡ false
    unended taken defined all =
        list_any-append ends (flat_map (ended facts) taken ++ flat_map (used facts) taken) (flat_map (begun facts) defined)
        ∙ ap₂ (λ a b. a || b)
        (list_any-append ends (flat_map (ended facts) taken) (flat_map (used facts) taken)
        ∙ ap₂ (λ a b. a || b) (all_ended taken all) (none_flat (used facts) taken (λ t. used_none (facts t.value) t)))
        (none_flat (begun facts) defined (λ w. begun_none (facts w) w))
