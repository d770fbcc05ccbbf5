-- Items between the copy and the destroy: none takes the copied value, and none ends the copy.
use Rattle.std.proofs.Common.{◌≡◌, List, [], ◌∷◌, ◌++◌, refl, sym, ap, ◌∙◌, Bool, true, false, cond, Option, Some}
use Rattle.std.specs.Prelude.{◌||◌, ◌&&◌, ◌==◌}
use Rattle.std.specs.List.{flat_map, list_any}
use Rattle.std.proofs.lemmas.Bool.{eq-eqb, true≢false}
use Rattle.copy_pairing_acceptance.specs.copy_pairing_model.Removable.{concerns, is_mark}
use Rattle.sil_cfg_items.specs.declared.taken.Taken.{Taken}
use Rattle.ownership_kinds_chains.specs.OwnershipChains.Facts.{facts_with, is_owned, known_or}
use Rattle.ownership_kinds_chains.specs.declared.ownership_chains.facts.Facts.{Facts}
use Rattle.ownership_kinds_chains.specs.OwnershipMarks.Marks.{begun, end_of, ended, ended_by, ended_with, ends_owned, marks_with, use_of, used, used_by, used_with}
use Rattle.ownership_kinds_chains.specs.declared.ownership_marks.mark.Mark.{Mark}
use Rattle.ownership_kinds_chains.specs.declared.ownership_marks.mark.MarkSort.TheVariants.{End}
use Rattle.sil_ast.specs.declared.place.ValueId.{ValueId}
use Rattle.sil_types_declarations.specs.declared.type_definitions.kind.Kind.TheVariants as kind
use Rattle.holder_model_laws.specs.holder_model.Frames.{ends, has_any}
use Rattle.copy_pairing_acceptance.proofs.LentFunctions.Lists.{any_parts}
use Rattle.copy_pairing_acceptance.proofs.MovedFunctions.Marks.{known}
use Rattle.copy_pairing_runs.proofs.MovedRuns.ClearedEntries.{AreOthers, EndNot}

module _ (facts : ValueId → Option Facts) (c v : ValueId) (owned : is_owned (known_or facts v).kind ≡ true) (copy : facts c ≡ Some (facts_with kind.Owned (c ∷ []))) where
  first_false : (a b : Bool) → (a || b) ≡ false → a ≡ false
  first_false true b e = absurd (true≢false e)
  first_false false b e = refl

  -- a mark of v concerns it, and so does an end of c
  v_concerns : (m : Mark) → m.subject.0 ≡ v.0 → concerns c v m ≡ true
  v_concerns m e = ap (λ b. b || is_mark End (c ∷ []) m) (eq-eqb m.subject.0 v.0 e)

  v_facts : (x : Facts) × (facts v ≡ Some x) × (x.kind ≡ kind.Owned)
  v_facts = known (facts v) owned

  -- an Owned operand is ended or used
  taken_concerns : (t : Taken) → t.value.0 ≡ v.0 → list_any (concerns c v) (ended facts t) ≡ false → list_any (concerns c v) (used facts t) ≡ false → ⊥
  taken_concerns t e none_ended none_used =
      by (ends_owned t.role) refl
      (sym (ap (list_any (concerns c v)) (ap (λ o. ended_with o t) facts_t ∙ ap (λ k. ended_by k t.role t.value) v_facts.2)) ∙ none_ended)
      (sym (ap (list_any (concerns c v)) (ap (λ o. used_with o t) facts_t ∙ ap (λ k. used_by k t.role t.value v_facts.0.bases) v_facts.2)) ∙ none_used)
    where
      value : t.value ≡ v
      value = ap (λ n. let w : ValueId = record { 0 = n } in w) e

      facts_t : facts t.value ≡ Some v_facts.0
      facts_t = ap facts value ∙ v_facts.1

      by : (b : Bool) → ends_owned t.role ≡ b → list_any (concerns c v) (cond b (end_of t.value ∷ []) []) ≡ false
          → list_any (concerns c v) (cond b [] (use_of t.value ∷ [])) ≡ false → ⊥
      by true is x y = true≢false (sym (v_concerns (end_of t.value) e) ∙ first_false (concerns c v (end_of t.value)) false x)
      by false is x y = true≢false (sym (v_concerns (use_of t.value) e) ∙ first_false (concerns c v (use_of t.value)) false y)

  others : (ts : List Taken) → list_any (concerns c v) (flat_map (ended facts) ts) ≡ false → list_any (concerns c v) (flat_map (used facts) ts) ≡ false → AreOthers v ts
  others [] x y = tt
  others (t ∷ ts) x y =
      let a = any_parts (concerns c v) (ended facts t) (flat_map (ended facts) ts) x in
      let b = any_parts (concerns c v) (used facts t) (flat_map (used facts) ts) y in
      (λ e. taken_concerns t e a.0 b.0, others ts a.1 b.1)

  -- an end of the copy
  ends_not : (t : Taken) → list_any (concerns c v) (ended facts t) ≡ false → ends facts t ≡ true → t.value.0 ≡ c.0 → ⊥
  ends_not t none is e =
      by (ends_owned t.role) (sym (ap (list_any (concerns c v)) told) ∙ none) (sym (ap has_any told) ∙ is)
    where
      value : t.value ≡ c
      value = ap (λ n. let w : ValueId = record { 0 = n } in w) e

      told : ended facts t ≡ cond (ends_owned t.role) (end_of t.value ∷ []) []
      told = ap (λ o. ended_with o t) (ap facts value ∙ copy)

      c_concerns : concerns c v (end_of t.value) ≡ true
      c_concerns = at ((t.value.0 == v.0))
        where
          at : (b : Bool) → (b || (true && ((c.0 == t.value.0) || false))) ≡ true
          at true = refl
          at false = ap (λ b. true && (b || false)) (eq-eqb c.0 t.value.0 (sym e))

      by : (b : Bool) → list_any (concerns c v) (cond b (end_of t.value ∷ []) []) ≡ false → has_any (cond b (end_of t.value ∷ []) []) ≡ true → ⊥
      by true x y = true≢false (sym c_concerns ∙ first_false (concerns c v (end_of t.value)) false x)
      by false x y = true≢false (sym y)

  copy_stays : (ts : List Taken) → list_any (concerns c v) (flat_map (ended facts) ts) ≡ false → EndNot facts c ts
  copy_stays [] x = tt
  copy_stays (t ∷ ts) x =
      let a = any_parts (concerns c v) (ended facts t) (flat_map (ended facts) ts) x in
      (λ is e. ends_not t a.0 is e, copy_stays ts a.1)

  pub quiet_operands : (ts : List Taken) (vs : List ValueId) → list_any (concerns c v) (marks_with facts ts vs) ≡ false → AreOthers v ts × EndNot facts c ts
  quiet_operands ts vs quiet =
      let a = any_parts (concerns c v) (flat_map (ended facts) ts ++ flat_map (used facts) ts) (flat_map (begun facts) vs) quiet in
      let b = any_parts (concerns c v) (flat_map (ended facts) ts) (flat_map (used facts) ts) a.0 in
      (others ts b.0 b.1, copy_stays ts b.0)
