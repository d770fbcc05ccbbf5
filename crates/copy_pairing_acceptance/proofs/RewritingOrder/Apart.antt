-- A value begins at no point but that of its definition.
use Rattle.std.proofs.Common.{◌≡◌, ◌≢◌, ℕ, zero, suc, List, [], ◌∷◌, ◌++◌, map, refl, sym, ap, ap₂, ◌∙◌, subst, arith, Bool, true, false, cond, Option, Some, None}
use Rattle.std.specs.Prelude.{◌||◌, Contains, slice_get}
use Rattle.std.specs.List.{flat_map, list_any}
use Rattle.std.proofs.lemmas.Bool.{ne_eqb}
use Rattle.std.proofs.lemmas.List.{append-nil}
use Rattle.std.proofs.lemmas.List.Folds.{list_any-append}
use Rattle.sil_verifier_trails.proofs.sil_verifier_values.Places.{results_once}
use Rattle.sil_cfg_items.specs.Items.{item_defined, item_taken}
use Rattle.sil_cfg_items.specs.Parts.{inst_at, inst_in, results_in}
use Rattle.sil_cfg_items.specs.declared.taken.Taken.{Taken}
use Rattle.numbered_form.specs.Lists.{Each}
use Rattle.numbered_form.specs.Numbering.{AreCountedFrom, values_of}
use Rattle.ownership_kinds_chains.specs.declared.ownership_chains.facts.Facts.{Facts}
use Rattle.ownership_kinds_chains.specs.OwnershipMarks.Marks.{begin_of, begun, begun_with, end_of, ended, ended_by, ended_with, ends_owned, ends_scope, is_own_base, marks_of, marks_with, use_of, used}
use Rattle.ownership_kinds_chains.specs.OwnershipMarks.Marks.{used_by, used_with}
use Rattle.ownership_kinds_chains.specs.declared.ownership_marks.mark.Mark.{Mark}
use Rattle.ownership_kinds_chains.specs.declared.ownership_marks.mark.MarkSort.TheVariants.{Begin}
use Rattle.numbered_form.specs.PointChecks.Points.{IsAt}
use Rattle.sil_ast.specs.declared.function.Block.{Block}
use Rattle.sil_ast.specs.declared.function.Function.{Function}
use Rattle.sil_ast.specs.declared.inst.Inst as inst
use Rattle.sil_ast.specs.declared.place.PointId.{PointId}
use Rattle.sil_ast.specs.declared.place.ValueId.{ValueId}
use Rattle.sil_cfg.specs.declared.item.Item.TheVariants as item
use Rattle.sil_types_declarations.specs.declared.type_definitions.kind.Kind.{Kind}
use Rattle.sil_types_declarations.specs.declared.type_definitions.kind.Kind.TheVariants as kind
use Rattle.copy_pairing_model.specs.Copies.{IsCopy}
use Rattle.copy_pairing_model.specs.Removable.{is_mark}
use Rattle.copy_pairing_acceptance.proofs.LentFunctions.Lists.{each_contained}
use Rattle.copy_pairing_acceptance.proofs.LentFunctions.ValueRows.{same_value}

-- ---- marks that begin a value

module _ (e : ValueId) where
  abbrev pub begins : Mark → Bool
  begins m = is_mark Begin (e ∷ []) m

  none_flat : {X : Type 0} (h : X → List Mark) (xs : List X) → ((x : X) → list_any begins (h x) ≡ false) → list_any begins (flat_map h xs) ≡ false
  none_flat h [] all = refl
  none_flat h (x ∷ xs) all = list_any-append begins (h x) (flat_map h xs) ∙ ap₂ (λ a b. a || b) (all x) (none_flat h xs all)

  one_ended : (b : Bool) (w : ValueId) → list_any begins (cond b (end_of w ∷ []) []) ≡ false
  one_ended true w = refl
  one_ended false w = refl

  by_ended : (k : Kind) (t : Taken) → list_any begins (ended_by k t.role t.value) ≡ false
  by_ended kind.Owned t = one_ended (ends_owned t.role) t.value
  by_ended kind.Guaranteed t = one_ended (ends_scope t.role) t.value
  by_ended kind.Plain t = refl

  ended_none : (o : Option Facts) (t : Taken) → list_any begins (ended_with o t) ≡ false
  ended_none None t = refl
  ended_none (Some x) t = by_ended x.kind t

  uses_none : (ws : List ValueId) → list_any begins (map use_of ws) ≡ false
  uses_none [] = refl
  uses_none (w ∷ ws) = uses_none ws

  some_used : (b : Bool) (ws : List ValueId) → list_any begins (cond b [] (map use_of ws)) ≡ false
  some_used true ws = refl
  some_used false ws = uses_none ws

  by_used : (k : Kind) (t : Taken) (bases : List ValueId) → list_any begins (used_by k t.role t.value bases) ≡ false
  by_used kind.Owned t bases = some_used (ends_owned t.role) (t.value ∷ [])
  by_used kind.Guaranteed t bases = some_used (ends_scope t.role) bases
  by_used kind.Plain t bases = refl

  used_none : (o : Option Facts) (t : Taken) → list_any begins (used_with o t) ≡ false
  used_none None t = refl
  used_none (Some x) t = by_used x.kind t x.bases

  one_begun : (b : Bool) (w : ValueId) → e.0 ≢ w.0 → list_any begins (cond b (begin_of w ∷ []) []) ≡ false
  one_begun true w apart = ap (λ b. (b || false) || false) (ne_eqb e.0 w.0 apart)
  one_begun false w apart = refl

  begun_none : (o : Option Facts) (w : ValueId) → e.0 ≢ w.0 → list_any begins (begun_with o w) ≡ false
  begun_none None w apart = refl
  begun_none (Some x) w apart = one_begun (is_own_base x.kind w x.bases) w apart

  module _ (facts : ValueId → Option Facts) where
    all_begun : (ws : List ValueId) → Each (λ (w : ValueId). e.0 ≢ w.0) ws → list_any begins (flat_map (begun facts) ws) ≡ false
    all_begun [] all = refl
    all_begun (w ∷ ws) all =
        list_any-append begins (begun facts w) (flat_map (begun facts) ws) ∙ ap₂ (λ a b. a || b) (begun_none (facts w) w all.0) (all_begun ws all.1)

    marks_none : (taken : List Taken) (defined : List ValueId) → Each (λ (w : ValueId). e.0 ≢ w.0) defined → list_any begins (marks_with facts taken defined) ≡ false
    marks_none taken defined all =
        list_any-append begins (flat_map (ended facts) taken ++ flat_map (used facts) taken) (flat_map (begun facts) defined)
        ∙ ap₂ (λ a b. a || b)
        (list_any-append begins (flat_map (ended facts) taken) (flat_map (used facts) taken)
        ∙ ap₂ (λ a b. a || b) (none_flat (ended facts) taken (λ t. ended_none (facts t.value) t)) (none_flat (used facts) taken (λ t. used_none (facts t.value) t)))
        (all_begun defined all)

-- ---- places

in_front : (xs : List inst.Inst) (t i : inst.Inst) (k : ℕ) → slice_get xs k ≡ Some i → slice_get (xs ++ t ∷ []) k ≡ Some i
in_front [] t i k e = absurd (let wrong : None ≡ Some i = e in cc)
in_front (x ∷ xs) t i zero e = e
in_front (x ∷ xs) t i (suc k) e = in_front xs t i k e

pub stands : (f : Function) (q : PointId) (i : inst.Inst) → inst_at f q ≡ Some i → IsAt f q.block.0 q.index i
stands f q i e = at (slice_get f.blocks q.block.0) refl e
  where
    at : (o : Option Block) → slice_get f.blocks q.block.0 ≡ o → inst_in o q.index ≡ Some i → IsAt f q.block.0 q.index i
    at None is h = absurd (let wrong : None ≡ Some i = h in cc)
    at (Some b) is h = record { within = b; is_block = is; is_inst = in_front b.insts b.terminator i q.index h }

module _ (f : Function) (counted : AreCountedFrom 0 (values_of f.blocks)) (q : PointId) (e w : ValueId) (copy : IsCopy f q e w) where
  made : Contains copy.inst.results e
  made = subst (λ (rs : List ValueId). Contains rs e) (sym copy.copies.result) (0, omega arith, refl)

  -- at any other point no result is it
  apart_at : (x : PointId) → (x.block.0 ≡ q.block.0 → x.index ≡ q.index → ⊥) → (i : inst.Inst) → inst_at f x ≡ Some i → (u : ValueId) → Contains i.results u → e.0 ≢ u.0
  apart_at x other i here u among same =
      let is : u ≡ e = same_value u e (sym same) in
      let places = results_once f counted e x.block.0 q.block.0 x.index q.index i copy.inst (stands f x i here) (stands f q copy.inst copy.stands)
      (subst (Contains i.results) is among) made in
      other places.0 places.1

  pub unbegun_at : (facts : ValueId → Option Facts) (x : PointId) → (x.block.0 ≡ q.block.0 → x.index ≡ q.index → ⊥) → list_any (begins e) (marks_of facts f (item.Inst x)) ≡ false
  unbegun_at facts x other = marks_none e facts (item_taken f (item.Inst x)) (item_defined f (item.Inst x)) (at (inst_at f x) refl)
    where
      at : (o : Option inst.Inst) → inst_at f x ≡ o → Each (λ (u : ValueId). e.0 ≢ u.0) (results_in o ++ [])
      at None is = tt
      at (Some i) is =
          subst (Each (λ (u : ValueId). e.0 ≢ u.0)) (sym (append-nil i.results)) (each_contained (λ (u : ValueId). e.0 ≢ u.0) i.results (apart_at x other i is))

  -- nor another copy there
  pub copies_apart : (x : PointId) → (x.block.0 ≡ q.block.0 → x.index ≡ q.index → ⊥) → (c v : ValueId) → IsCopy f x c v → e.0 ≢ c.0
  copies_apart x other c v h =
      apart_at x other h.inst h.stands c (subst (λ (rs : List ValueId). Contains rs c) (sym h.copies.result) (0, omega arith, refl))
