-- Operands and results where the copy is lent: they are those that they were, and the entries that are left or made are so but for the copy's.
use Rattle.std.proofs.Common.{◌≡◌, List, [], ◌∷◌, set, refl, sym, ap, ◌∙◌, subst, Bool, true, false, cond, Option, Some, None, Ok, Err, ◌⊎◌, inl, inr, ⊎_elim}
use Rattle.std.specs.Prelude.{◌==◌, ◌||◌, unwrap_or}
use Rattle.std.specs.declared.result.Result.{Result}
use Rattle.std.proofs.lemmas.Bool.{eq-eqb, eqb-true}
use Rattle.instruction_table.specs.declared.entries.Role.{Role}
use Rattle.instruction_table.specs.declared.entries.Role.TheVariants as role
use Rattle.sil_cfg_items.specs.Roles.{by_row, taken_as}
use Rattle.sil_cfg_items.specs.declared.taken.Taken.{Taken}
use Rattle.numbered_form.specs.Lists.{Each}
use Rattle.ownership_kinds_chains.specs.OwnershipChains.Facts.{facts_with, has, known_or}
use Rattle.ownership_kinds_chains.specs.declared.ownership_chains.facts.Facts.{Facts}
use Rattle.ownership_kinds_chains.specs.OwnershipMarks.Marks.{ended_by, ended_with}
use Rattle.holder_model_values.specs.RunValues.Memory.{Memory}
use Rattle.sil_ast.specs.declared.operands.Operand.{Operand}
use Rattle.sil_ast.specs.declared.place.ValueId.{ValueId}
use Rattle.sil_types_declarations.specs.declared.type_definitions.kind.Kind.TheVariants as kind
use Rattle.holder_model_laws.specs.holder_model.Data.{Datum, references_in}
use Rattle.holder_model_laws.specs.holder_model.Faults.{ConsumesLent, HolderFault, NamesDead, NoEntry, OverwritesHeld}
use Rattle.holder_model_laws.specs.holder_model.Frames.{Entry, Gone, Held, Lent, Operands, Plain, and_more, any_dead, datum_in, datum_or_fault, ended_entry, ends}
use Rattle.holder_model_laws.specs.holder_model.Frames.{entry_at, has_any, is_consumed, is_held, made_entry, operand, operand_data, operands_of, put_entry}
use Rattle.holder_model_laws.specs.holder_model.Frames.{result_put, results_put, unless_dead, used_datum, with_ok, without_ended}
use Rattle.holder_model_laws.proofs.HolderLaws.Counts.Entries.{left_of}
use Rattle.copy_pairing_acceptance.proofs.LentFunctions.Roles.{is_mild}
use Rattle.copy_pairing_acceptance.proofs.LentFunctions.ValueRows.{same_value}
use Rattle.copy_pairing_runs.specs.LentRuns.inner.LentEntries.{lent_entries, lent_entry}
use Rattle.copy_pairing_runs.proofs.LentRuns.Entries.{copy_free, datum_lent, entry_copy, entry_other, put_copy, put_other, set_elsewhere, set_there}

mild_stays : (r : Role) (v : ValueId) → is_mild r ≡ true → has_any (ended_by kind.Owned r v) ≡ false
mild_stays role.Consumed v m = absurd (let wrong : false ≡ true = m in cc)
mild_stays role.Used v m = refl
mild_stays role.Lent v m = refl
mild_stays role.Forwarded v m = absurd (let wrong : false ≡ true = m in cc)
mild_stays role.AddressRole v m = refl
mild_stays role.AnyRole v m = refl
mild_stays role.ScopeRole v m = refl
mild_stays role.ByParameter v m = refl
mild_stays role.Counted v m = refl

mild_lent_stays : (r : Role) (v : ValueId) → is_mild r ≡ true → has_any (ended_by kind.Guaranteed r v) ≡ false
mild_lent_stays role.Consumed v m = refl
mild_lent_stays role.Used v m = refl
mild_lent_stays role.Lent v m = refl
mild_lent_stays role.Forwarded v m = refl
mild_lent_stays role.AddressRole v m = refl
mild_lent_stays role.AnyRole v m = refl
mild_lent_stays role.ScopeRole v m = absurd (let wrong : false ≡ true = m in cc)
mild_lent_stays role.ByParameter v m = refl
mild_lent_stays role.Counted v m = refl

mild_takes_lent : (r : Role) → is_mild r ≡ true → is_consumed r ≡ false
mild_takes_lent role.Consumed m = absurd (let wrong : false ≡ true = m in cc)
mild_takes_lent role.Used m = refl
mild_takes_lent role.Lent m = refl
mild_takes_lent role.Forwarded m = refl
mild_takes_lent role.AddressRole m = refl
mild_takes_lent role.AnyRole m = refl
mild_takes_lent role.ScopeRole m = refl
mild_takes_lent role.ByParameter m = refl
mild_takes_lent role.Counted m = refl

-- an operand that doesn't end may be lent
used_same : (r : Role) → is_mild r ≡ true → (e : Entry) → used_datum r (lent_entry e) ≡ used_datum r e
used_same r m Gone = refl
used_same r m (Held x) = ap (λ b. cond b (Err ConsumesLent) (Ok x)) (mild_takes_lent r m)
used_same r m (Lent x) = refl
used_same r m (Plain x) = refl

or_second : (a b : Bool) → b ≡ true → (a || b) ≡ true
or_second true b e = refl
or_second false b e = e

or_front : (a b : Bool) → (a || false) ≡ true → (a || b) ≡ true
or_front true b e = refl
or_front false b e = absurd (let wrong : false ≡ true = e in cc)

module _ (facts facts' : ValueId → Option Facts) (c : ValueId) (others : (w : ValueId) → (w.0 ≡ c.0 → ⊥) → facts' w ≡ facts w)
    (owned : facts c ≡ Some (facts_with kind.Owned (c ∷ []))) (lends : facts' c ≡ Some (facts_with kind.Guaranteed (c ∷ []))) where
  -- where the operand is the copy, it doesn't end
  abbrev pub IsGentle : Taken → Type 0
  IsGentle t = t.value.0 ≡ c.0 → is_mild t.role ≡ true

  apart : (w : ValueId) → (w.0 == c.0) ≡ false → w.0 ≡ c.0 → ⊥
  apart w e same = let wrong : true ≡ false = sym (eq-eqb w.0 c.0 same) ∙ e in cc

  abbrev pub lent_ok : Result (List Entry) HolderFault → Result (List Entry) HolderFault
  lent_ok (Ok es) = Ok (lent_entries c es)
  lent_ok (Err x) = Err x

  -- ---- ends

  copy_stays : (t : Taken) → t.value.0 ≡ c.0 → is_mild t.role ≡ true → ends facts t ≡ false
  copy_stays t same m = ap (λ o. has_any (ended_with o t)) (ap facts (same_value t.value c same) ∙ owned) ∙ mild_stays t.role t.value m

  lent_stays : (t : Taken) → t.value.0 ≡ c.0 → is_mild t.role ≡ true → ends facts' t ≡ false
  lent_stays t same m = ap (λ o. has_any (ended_with o t)) (ap facts' (same_value t.value c same) ∙ lends) ∙ mild_lent_stays t.role t.value m

  ends_same : (t : Taken) → IsGentle t → ends facts' t ≡ ends facts t
  ends_same t g = by (t.value.0 == c.0) refl
    where
      by : (b : Bool) → (t.value.0 == c.0) ≡ b → ends facts' t ≡ ends facts t
      by true e = let same = eqb-true t.value.0 c.0 e in lent_stays t same (g same) ∙ sym (copy_stays t same (g same))
      by false e = ap (λ o. has_any (ended_with o t)) (others t.value (apart t.value e))

  -- what ends isn't the copy
  end_apart : (t : Taken) → IsGentle t → ends facts t ≡ true → t.value.0 ≡ c.0 → ⊥
  end_apart t g e same = let wrong : true ≡ false = sym e ∙ copy_stays t same (g same) in cc

  without_lent : (ts : List Taken) → Each IsGentle ts → (es : List Entry) → without_ended facts' ts (lent_entries c es) ≡ lent_ok (without_ended facts ts es)
  without_lent [] g es = refl
  without_lent (t ∷ ts) g es = by (without_lent ts g.1) (ends facts t) refl
    where
      More : Type 0
      More = (es : List Entry) → without_ended facts' ts (lent_entries c es) ≡ lent_ok (without_ended facts ts es)

      go : Entry → Result (List Entry) HolderFault
      go e = with_ok (without_ended facts' ts) (ended_entry t.value (lent_entries c es) e)

      gone : More → (t.value.0 ≡ c.0 → ⊥) → without_ended facts' ts (set (lent_entries c es) t.value.0 Gone) ≡ lent_ok (without_ended facts ts (set es t.value.0 Gone))
      gone more other = ap (without_ended facts' ts) (sym (put_other c t.value es Gone other)) ∙ more (set es t.value.0 Gone)

      of_entry : More → (t.value.0 ≡ c.0 → ⊥) → (e : Entry) → go e ≡ lent_ok (with_ok (without_ended facts ts) (ended_entry t.value es e))
      of_entry more other Gone = refl
      of_entry more other (Held x) = gone more other
      of_entry more other (Lent x) = gone more other
      of_entry more other (Plain x) = more es

      by : More → (b : Bool) → ends facts t ≡ b
          → cond (ends facts' t) (go (entry_at (lent_entries c es) t.value)) (without_ended facts' ts (lent_entries c es))
          ≡ lent_ok (cond b (with_ok (without_ended facts ts) (ended_entry t.value es (entry_at es t.value))) (without_ended facts ts es))
      by more false e =
          ap (λ b. cond b (go (entry_at (lent_entries c es) t.value)) (without_ended facts' ts (lent_entries c es))) (ends_same t g.0 ∙ e) ∙ more es
      by more true e =
          let other = end_apart t g.0 e in
          ap (λ b. cond b (go (entry_at (lent_entries c es) t.value)) (without_ended facts' ts (lent_entries c es))) (ends_same t g.0 ∙ e)
          ∙ (ap go (entry_other c t.value es other) ∙ of_entry more other (entry_at es t.value))

  -- ---- operands

  module _ (m : Memory) (before left : List Entry) where
    used_lent : (t : Taken) → IsGentle t → used_datum t.role (entry_at (lent_entries c left) t.value) ≡ used_datum t.role (entry_at left t.value)
    used_lent t g = by (t.value.0 == c.0) refl
      where
        by : (b : Bool) → (t.value.0 == c.0) ≡ b → used_datum t.role (entry_at (lent_entries c left) t.value) ≡ used_datum t.role (entry_at left t.value)
        by true e =
            let same = eqb-true t.value.0 c.0 e in
            ap (used_datum t.role) (entry_copy c t.value left same) ∙ used_same t.role (g same) (entry_at left t.value)
        by false e = ap (used_datum t.role) (entry_other c t.value left (apart t.value e))

    operand_lent : (t : Taken) → IsGentle t → operand facts' m (lent_entries c before) (lent_entries c left) t ≡ operand facts m before left t
    operand_lent t g =
        ap (λ b. with_ok (unless_dead m) (cond b (datum_or_fault (datum_in (entry_at (lent_entries c before) t.value)))
        (used_datum t.role (entry_at (lent_entries c left) t.value)))) (ends_same t g)
        ∙ (ap (λ o. with_ok (unless_dead m) (cond (ends facts t) (datum_or_fault o) (used_datum t.role (entry_at (lent_entries c left) t.value))))
        (datum_lent c t.value before)
        ∙ ap (λ r. with_ok (unless_dead m) (cond (ends facts t) (datum_or_fault (datum_in (entry_at before t.value))) r)) (used_lent t g))

    data_lent : (ts : List Taken) → Each IsGentle ts
        → operand_data facts' m (lent_entries c before) (lent_entries c left) ts ≡ operand_data facts m before left ts
    data_lent [] g = refl
    data_lent (t ∷ ts) g =
        ap (with_ok (λ x. and_more x (operand_data facts' m (lent_entries c before) (lent_entries c left) ts))) (operand_lent t g.0)
        ∙ ap (λ r. with_ok (λ x. and_more x r) (operand facts m before left t)) (data_lent ts g.1)

  abbrev pub lent_operands : Operands → Operands
  lent_operands ops = record { given = ops.given; left = lent_entries c ops.left }

  abbrev from_left : (ValueId → Option Facts) → Memory → List Entry → List Taken → List Entry → Result Operands HolderFault
  from_left known m es ts left = with_ok (λ xs. Ok (record { given = xs; left = left })) (operand_data known m es left ts)

  -- items whose operands don't end the copy take what they took
  pub operands_lent : (m : Memory) (es : List Entry) (ts : List Taken) → Each IsGentle ts → (ops : Operands) → operands_of facts m es ts ≡ Ok ops
      → operands_of facts' m (lent_entries c es) ts ≡ Ok (lent_operands ops)
  operands_lent m es ts g ops is = by (without_ended facts ts es) refl is
    where
      by_data : (left : List Entry) (r : Result (List Datum) HolderFault) → operand_data facts m es left ts ≡ r
          → with_ok (λ xs. Ok (record { given = xs; left = left })) r ≡ Ok ops → from_left facts' m (lent_entries c es) ts (lent_entries c left) ≡ Ok (lent_operands ops)
      by_data left (Err x) e h = absurd (cc)
      by_data left (Ok xs) e h =
          ap (with_ok (λ ys. Ok (record { given = ys; left = lent_entries c left }))) (data_lent m es left ts g ∙ e) ∙ ap lent_result h
        where
          lent_result : Result Operands HolderFault → Result Operands HolderFault
          lent_result (Ok o) = Ok (lent_operands o)
          lent_result (Err x) = Err x

      by : (r : Result (List Entry) HolderFault) → without_ended facts ts es ≡ r → with_ok (from_left facts m es ts) r ≡ Ok ops
          → operands_of facts' m (lent_entries c es) ts ≡ Ok (lent_operands ops)
      by (Err x) e h = absurd (cc)
      by (Ok left) e h =
          ap (with_ok (from_left facts' m (lent_entries c es) ts)) (without_lent ts g es ∙ ap lent_ok e) ∙ by_data left (operand_data facts m es left ts) refl h

  -- ---- results

  put_same : (v : ValueId) (es behind : List Entry) (e e' : Entry) → lent_entries c (set es v.0 e) ≡ set (lent_entries c es) v.0 e'
      → (is_held (entry_at es v) ≡ false → is_held (entry_at (lent_entries c es) v) ≡ false) → put_entry es v e ≡ Ok behind
      → put_entry (lent_entries c es) v e' ≡ Ok (lent_entries c behind)
  put_same v es behind e e' sets free is = by (is_held (entry_at es v)) refl is
    where
      by : (b : Bool) → is_held (entry_at es v) ≡ b → cond b (Err OverwritesHeld) (Ok (set es v.0 e)) ≡ Ok behind
          → put_entry (lent_entries c es) v e' ≡ Ok (lent_entries c behind)
      by true h q = absurd (cc)
      by false h q =
          ap (λ b. cond b (Err OverwritesHeld) (Ok (set (lent_entries c es) v.0 e'))) (free h) ∙ (ap Ok (sym sets) ∙ ap lent_ok q)

  result_lent : (v : ValueId) (x : Datum) (es behind : List Entry) → result_put facts v x es ≡ Ok behind
      → result_put facts' v x (lent_entries c es) ≡ Ok (lent_entries c behind)
  result_lent v x es behind is = by (v.0 == c.0) refl
    where
      by_made : (v.0 ≡ c.0 → ⊥) → (r : Result Entry HolderFault) → with_ok (put_entry es v) r ≡ Ok behind
          → with_ok (put_entry (lent_entries c es) v) r ≡ Ok (lent_entries c behind)
      by_made other (Err y) h = absurd (cc)
      by_made other (Ok e) h = put_same v es behind e e (put_other c v es e other) (λ free. ap is_held (entry_other c v es other) ∙ free) h

      by : (b : Bool) → (v.0 == c.0) ≡ b → result_put facts' v x (lent_entries c es) ≡ Ok (lent_entries c behind)
      by true e =
          let same = eqb-true v.0 c.0 e in
          let is_c : v ≡ c = same_value v c same in
          let was : (known_or facts v).kind ≡ kind.Owned = ap (λ (o : Option Facts). (unwrap_or o (facts_with kind.Plain [])).kind) (ap facts is_c ∙ owned) in
          let now : (known_or facts' v).kind ≡ kind.Guaranteed = ap (λ (o : Option Facts). (unwrap_or o (facts_with kind.Plain [])).kind) (ap facts' is_c ∙ lends) in
          ap (λ k. with_ok (put_entry (lent_entries c es) v) (made_entry k x)) now
          ∙ put_same v es behind (Held x) (Lent x) (put_copy c v es (Held x) same) (λ free. copy_free c v es same)
          (sym (ap (λ k. with_ok (put_entry es v) (made_entry k x)) was) ∙ is)
      by false e =
          let other = apart v e in
          ap (λ (o : Option Facts). with_ok (put_entry (lent_entries c es) v) (made_entry (unwrap_or o (facts_with kind.Plain [])).kind x)) (others v other)
          ∙ by_made other (made_entry (known_or facts v).kind x) is

  pub results_lent : (vs : List ValueId) (xs : List Datum) (es behind : List Entry) → results_put facts vs xs es ≡ Ok behind
      → results_put facts' vs xs (lent_entries c es) ≡ Ok (lent_entries c behind)
  results_lent [] [] es behind is = ap lent_ok is
  results_lent [] (x ∷ xs) es behind is = absurd (cc)
  results_lent (v ∷ vs) [] es behind is = absurd (cc)
  results_lent (v ∷ vs) (x ∷ xs) es behind is = by (λ now h. results_lent vs xs now behind h) (result_put facts v x es) refl is
    where
      by : ((now : List Entry) → results_put facts vs xs now ≡ Ok behind → results_put facts' vs xs (lent_entries c now) ≡ Ok (lent_entries c behind))
          → (r : Result (List Entry) HolderFault) → result_put facts v x es ≡ r → with_ok (results_put facts vs xs) r ≡ Ok behind
          → results_put facts' (v ∷ vs) (x ∷ xs) (lent_entries c es) ≡ Ok (lent_entries c behind)
      by more (Err y) e h = absurd (cc)
      by more (Ok now) e h = ap (with_ok (results_put facts' vs xs)) (result_lent v x es now e) ∙ more now h

  -- ---- the copy's entry, behind ends and behind results

  pub copy_left : (m : Memory) (es : List Entry) (ts : List Taken) (ops : Operands) → operands_of facts m es ts ≡ Ok ops
      → (entry_at ops.left c ≡ entry_at es c) ⊎ (entry_at ops.left c ≡ Gone)
  copy_left m es ts ops is = by (without_ended facts ts es) refl is
    where
      same_left : (x y : Operands) → ◌≡◌ {A = Result Operands HolderFault} (Ok x) (Ok y) → x.left ≡ y.left
      same_left x y e = let same : x ≡ y = cc in ap (λ (o : Operands). o.left) same

      by_data : (left : List Entry) → without_ended facts ts es ≡ Ok left → (r : Result (List Datum) HolderFault)
          → with_ok (λ xs. Ok (record { given = xs; left = left })) r ≡ Ok ops → (entry_at ops.left c ≡ entry_at es c) ⊎ (entry_at ops.left c ≡ Gone)
      by_data left e (Err x) h = absurd (cc)
      by_data left e (Ok xs) h =
          subst (λ l. (entry_at l c ≡ entry_at es c) ⊎ (entry_at l c ≡ Gone)) (same_left (record { given = xs; left = left }) ops h) (left_of facts ts es left e c)

      by : (r : Result (List Entry) HolderFault) → without_ended facts ts es ≡ r → with_ok (from_left facts m es ts) r ≡ Ok ops
          → (entry_at ops.left c ≡ entry_at es c) ⊎ (entry_at ops.left c ≡ Gone)
      by (Err x) e h = absurd (cc)
      by (Ok left) e h = by_data left e (operand_data facts m es left ts) h

  -- it is as it was, or one of the results is the copy
  pub data IsPutSo (vs : List ValueId) (es behind : List Entry) : Type 0 where
    as_it_was : entry_at behind c ≡ entry_at es c → IsPutSo vs es behind
    gone : entry_at behind c ≡ Gone → IsPutSo vs es behind
    made : (x : Datum) → entry_at behind c ≡ Held x → has vs c.0 ≡ true → IsPutSo vs es behind

  put_so : (v : ValueId) (es behind : List Entry) (e : Entry) → put_entry es v e ≡ Ok behind → set es v.0 e ≡ behind
  put_so v es behind e is = by (is_held (entry_at es v)) is
    where
      by : (b : Bool) → cond b (Err OverwritesHeld) (Ok (set es v.0 e)) ≡ Ok behind → set es v.0 e ≡ behind
      by true h = absurd (cc)
      by false h = same_entries (set es v.0 e) behind h
        where
          same_entries : (x y : List Entry) → ◌≡◌ {A = Result (List Entry) HolderFault} (Ok x) (Ok y) → x ≡ y
          same_entries x y e = cc

  result_so : (v : ValueId) (x : Datum) (es behind : List Entry) → result_put facts v x es ≡ Ok behind → IsPutSo (v ∷ []) es behind
  result_so v x es behind is = by (v.0 == c.0) refl
    where
      by_made : (v.0 ≡ c.0 → ⊥) → (r : Result Entry HolderFault) → with_ok (put_entry es v) r ≡ Ok behind → IsPutSo (v ∷ []) es behind
      by_made other (Err y) h = absurd (cc)
      by_made other (Ok e) h = as_it_was (ap (λ l. entry_at l c) (sym (put_so v es behind e h)) ∙ set_elsewhere c v es e other)

      by : (b : Bool) → (v.0 == c.0) ≡ b → IsPutSo (v ∷ []) es behind
      by true e =
          let same = eqb-true v.0 c.0 e in
          let is_c : v ≡ c = same_value v c same in
          let was : (known_or facts v).kind ≡ kind.Owned = ap (λ (o : Option Facts). (unwrap_or o (facts_with kind.Plain [])).kind) (ap facts is_c ∙ owned) in
          let puts : set es v.0 (Held x) ≡ behind = put_so v es behind (Held x) (sym (ap (λ k. with_ok (put_entry es v) (made_entry k x)) was) ∙ is) in
          let now : set es c.0 (Held x) ≡ behind = ap (λ k. set es k (Held x)) (sym same) ∙ puts in
          ⊎_elim (λ there. made x (ap (λ l. entry_at l c) (sym now) ∙ there) (ap (λ b. b || false) e)) (λ none. gone (ap (λ l. entry_at l c) (sym now) ∙ none))
          (set_there c es (Held x))
      by false e = by_made (apart v e) (made_entry (known_or facts v).kind x) is

  both_so : (v : ValueId) (vs : List ValueId) (es now behind : List Entry) → IsPutSo (v ∷ []) es now → IsPutSo vs now behind → IsPutSo (v ∷ vs) es behind
  both_so v vs es now behind first (gone e) = gone e
  both_so v vs es now behind first (made x e h) = made x e (or_second (v.0 == c.0) (has vs c.0) h)
  both_so v vs es now behind (gone k) (as_it_was e) = gone (e ∙ k)
  both_so v vs es now behind (as_it_was k) (as_it_was e) = as_it_was (e ∙ k)
  both_so v vs es now behind (made x k h) (as_it_was e) = made x (e ∙ k) (or_front (v.0 == c.0) (has vs c.0) h)

  pub results_so : (vs : List ValueId) (xs : List Datum) (es behind : List Entry) → results_put facts vs xs es ≡ Ok behind → IsPutSo vs es behind
  results_so [] [] es behind is = as_it_was (ap (λ l. entry_at l c) (sym (same_list es behind is)))
    where
      same_list : (x y : List Entry) → ◌≡◌ {A = Result (List Entry) HolderFault} (Ok x) (Ok y) → x ≡ y
      same_list x y e = cc
  results_so [] (x ∷ xs) es behind is = absurd (cc)
  results_so (v ∷ vs) [] es behind is = absurd (cc)
  results_so (v ∷ vs) (x ∷ xs) es behind is = by (λ now h. results_so vs xs now behind h) (result_put facts v x es) refl is
    where
      by : ((now : List Entry) → results_put facts vs xs now ≡ Ok behind → IsPutSo vs now behind)
          → (r : Result (List Entry) HolderFault) → result_put facts v x es ≡ r → with_ok (results_put facts vs xs) r ≡ Ok behind → IsPutSo (v ∷ vs) es behind
      by more (Err y) e h = absurd (cc)
      by more (Ok now) e h = both_so v vs es now behind (result_so v x es now e) (more now h)

  -- ---- the destroy of the copy, which becomes the end of its scope

  pub record Destroyed (m : Memory) (es : List Entry) (ts' : List Taken) (ops : Operands) : Type 0 where
    pub datum : Datum
    pub held : entry_at es c ≡ Held datum
    pub given : ops.given ≡ datum ∷ []
    pub left : ops.left ≡ set es c.0 Gone
    pub ends : operands_of facts' m (lent_entries c es) ts' ≡ Ok (lent_operands ops)

  -- one operand, which ends
  abbrev one_ended : Memory → ValueId → List Entry → Entry → Result Operands HolderFault
  one_ended m v es e =
      with_ok (λ left. with_ok (λ xs. Ok (record { given = xs; left = left })) (with_ok (λ x. and_more x (Ok [])) (with_ok (unless_dead m) (datum_or_fault (datum_in e)))))
      (with_ok (λ l. Ok l) (ended_entry v es e))

  one_end : (known : ValueId → Option Facts) (m : Memory) (es : List Entry) (t : Taken) → ends known t ≡ true
      → operands_of known m es (t ∷ []) ≡ one_ended m t.value es (entry_at es t.value)
  one_end known m es t e =
      ap (λ b. with_ok (λ left. with_ok (λ xs. Ok (record { given = xs; left = left }))
      (with_ok (λ x. and_more x (Ok []))
      (with_ok (unless_dead m) (cond b (datum_or_fault (datum_in (entry_at es t.value))) (used_datum t.role (entry_at left t.value))))))
      (cond b (with_ok (λ l. Ok l) (ended_entry t.value es (entry_at es t.value))) (Ok es))) e

  same_operands : (x y : Operands) → ◌≡◌ {A = Result Operands HolderFault} (Ok x) (Ok y) → x ≡ y
  same_operands x y e = cc

  pub destroyed : (o : Operand) → o.value ≡ c → (m : Memory) (es : List Entry) (ops : Operands)
      → (entry_at es c ≡ Gone) ⊎ ((x : Datum) × (entry_at es c ≡ Held x))
      → operands_of facts m es (taken_as o (by_row role.Consumed) ∷ []) ≡ Ok ops
      → Destroyed m es (taken_as o (by_row role.ScopeRole) ∷ []) ops
  destroyed o is m es ops form took =
      subst (λ w. Destroyed m es (record { value = w; role = role.ScopeRole; handed = None } ∷ []) ops) (sym is)
      (by form (sym (one_end facts m es first (ap (λ x. has_any (ended_with x first)) owned))
      ∙ subst (λ w. operands_of facts m es (record { value = w; role = role.Consumed; handed = None } ∷ []) ≡ Ok ops) is took))
    where
      first : Taken
      first = record { value = c; role = role.Consumed; handed = None }

      second : Taken
      second = record { value = c; role = role.ScopeRole; handed = None }

      held : (x : Datum) → entry_at es c ≡ Held x → (b : Bool) → any_dead m (references_in x) ≡ b
          → with_ok (λ xs. Ok (record { given = xs; left = set es c.0 Gone })) (with_ok (λ y. and_more y (Ok [])) (cond b (Err NamesDead) (Ok x))) ≡ Ok ops
          → Destroyed m es (second ∷ []) ops
      held x e true dead h = absurd (cc)
      held x e false alive h =
          let same : record { given = x ∷ []; left = set es c.0 Gone } ≡ ops = same_operands (record { given = x ∷ []; left = set es c.0 Gone }) ops h in
          record {
            datum = x;
            held = e;
            given = sym (ap (λ (y : Operands). y.given) same);
            left = sym (ap (λ (y : Operands). y.left) same);
            ends = one_end facts' m (lent_entries c es) second (ap (λ y. has_any (ended_with y second)) lends)
                ∙ (ap (one_ended m c (lent_entries c es)) (entry_copy c c es refl ∙ ap lent_entry e)
                ∙ (ap (λ b. with_ok (λ xs. Ok (record { given = xs; left = set (lent_entries c es) c.0 Gone }))
                (with_ok (λ y. and_more y (Ok [])) (cond b (Err NamesDead) (Ok x)))) alive
                ∙ (ap (λ l. Ok (record { given = x ∷ []; left = l })) (sym (put_copy c c es Gone refl)) ∙ ap (λ y. Ok (lent_operands y)) same)));
          }

      by : (entry_at es c ≡ Gone) ⊎ ((x : Datum) × (entry_at es c ≡ Held x)) → one_ended m c es (entry_at es c) ≡ Ok ops → Destroyed m es (second ∷ []) ops
      by (inl none) h = absurd (let wrong : Err NoEntry ≡ Ok ops = sym (ap (one_ended m c es) none) ∙ h in cc)
      by (inr z) h = held z.0 z.1 (any_dead m (references_in z.0)) refl (sym (ap (one_ended m c es) z.1) ∙ h)
