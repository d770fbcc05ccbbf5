-- What the entries of a frame hold where operands end and results begin.
use Rattle.std.proofs.Common.{◌≡◌, ℕ, zero, suc, ◌+◌, ◌<◌, List, [], ◌∷◌, ◌++◌, length, set, get_or, refl, sym, ap, ◌∙◌, subst, Bool, true, false, cond}
use Rattle.std.proofs.Common.{◌⊎◌, inl, inr, ⊎_elim, Option, Some, None, Ok, Err, arith}
use Rattle.std.specs.declared.result.Result.{Result}
use Rattle.std.specs.Prelude.{slice_get, unwrap_or}
use Rattle.std.proofs.lemmas.Bool.{false≢true}
use Rattle.std.proofs.lemmas.List.{length-set}
use Rattle.std.proofs.lemmas.Option.{slice_get_within, unwrap_or-slice_get}
use Rattle.sil_cfg_items.specs.declared.taken.Taken.{Taken}
use Rattle.numbered_form.specs.Lists.{Each}
use Rattle.memory_rules_parts.specs.ownership_kinds_chains.OwnershipChains.Facts.{known_or}
use Rattle.memory_rules_parts.specs.ownership_kinds_chains.declared.ownership_chains.facts.Facts.{Facts}
use Rattle.sil_ast.specs.declared.place.ObjectId.{ObjectId}
use Rattle.sil_ast.specs.declared.place.ValueId.{ValueId}
use Rattle.sil_types_declarations.specs.declared.type_definitions.kind.Kind.{Kind}
use Rattle.sil_types_declarations.specs.declared.type_definitions.kind.Kind.TheVariants as kind
use Rattle.holder_model.specs.holder_model_values.RunValues.Places.{Home, Inside, OnStack}
use Rattle.holder_model.specs.holder_model_values.RunValues.Values.{references_of}
use Rattle.holder_model.specs.Data.{AddressOf, Datum, FunctionOf, ValueOf}
use Rattle.holder_model.specs.Faults.{HolderFault, OverwritesHeld, WrongShape}
use Rattle.holder_model.specs.Frames.{Entry, Gone, Held, Lent, Plain, ended_entry, ends, entry_at, has_any, held_references, is_held, made_entry, plain_address}
use Rattle.holder_model.specs.Frames.{plain_entry, put_entry, result_put, results_put, with_ok, without_ended}
use Rattle.holder_model.specs.HolderStates.{in_entry}
use Rattle.holder_model.specs.Holders.{of_references}
use Rattle.holder_model_laws.specs.HolderLaws.inner.Counts.Taking.{AreBeginsCounted, AreEndsCounted, IsBelow, in_entries, owned_references, references_begun, references_ended}
use Rattle.holder_model_laws.specs.HolderLaws.inner.Counts.Taking.{references_ended_by}
use Rattle.holder_model_laws.proofs.HolderLaws.Counts.Sums.{total_append, total_set}

pub ok_through : {A B : Type 0} (go : A → Result B HolderFault) (r : Result A HolderFault) (y : B) → with_ok go r ≡ Ok y → (x : A) × (r ≡ Ok x) × (go x ≡ Ok y)
ok_through go (Ok x) y e = (x, refl, e)
ok_through go (Err fault) y e = cc

pub chosen_ok : {A : Type 0} (b : Bool) (fault : HolderFault) (r : Result A HolderFault) (y : A) → cond b (Err fault) r ≡ Ok y → (b ≡ false) × (r ≡ Ok y)
chosen_ok true fault r y e = cc
chosen_ok false fault r y e = (refl, e)

pub entry_within : (entries : List Entry) (v : ValueId) → (entry_at entries v ≡ Gone → ⊥) → v.0 < length entries
entry_within entries v there = at (slice_get entries v.0) refl there
  where
    at : (o : Option Entry) → slice_get entries v.0 ≡ o → (unwrap_or o Gone ≡ Gone → ⊥) → v.0 < length entries
    at None e h = absurd (h refl)
    at (Some x) e h = slice_get_within entries v.0 x e

entry_total : (weight : ObjectId → ℕ) (entries : List Entry) (v : ValueId) (e : Entry) → v.0 < length entries
    → in_entries weight (set entries v.0 e) + in_entry weight (entry_at entries v) ≡ in_entries weight entries + in_entry weight e
entry_total weight entries v e lt =
    let changed = total_set (in_entry weight) entries v.0 e Gone lt in
    let same : in_entry weight (entry_at entries v) ≡ in_entry weight (get_or entries v.0 Gone) = ap (in_entry weight) (unwrap_or-slice_get entries v.0 Gone) in
    omega (arith, changed, same)

-- ---- ends

-- where an entry was taken away, each is as it was, or gone
set_gone : (entries : List Entry) (n k : ℕ) → (unwrap_or (slice_get (set entries n Gone) k) Gone ≡ unwrap_or (slice_get entries k) Gone) ⊎ (unwrap_or (slice_get (set entries n Gone) k) Gone ≡ Gone)
set_gone [] n k = inl refl
set_gone (x ∷ xs) zero zero = inr refl
set_gone (x ∷ xs) zero (suc k) = inl refl
set_gone (x ∷ xs) (suc n) zero = inl refl
set_gone (x ∷ xs) (suc n) (suc k) = set_gone xs n k

-- the one list has come about from the other by ends
abbrev pub IsLeftOf : List Entry → List Entry → Type 0
IsLeftOf entries now = (v : ValueId) → (entry_at now v ≡ entry_at entries v) ⊎ (entry_at now v ≡ Gone)

left_without : (entries now : List Entry) (v : ValueId) → IsLeftOf entries now → IsLeftOf entries (set now v.0 Gone)
left_without entries now v from w = ⊎_elim (λ same. ⊎_elim (λ before. inl (same ∙ before)) (λ gone. inr (same ∙ gone)) (from w)) (λ gone. inr gone) (set_gone now v.0 w.0)

abbrev EndsLeave : (ValueId → Option Facts) → List Taken → Type 0
EndsLeave facts ts = (entries now left : List Entry) → IsLeftOf entries now → without_ended facts ts now ≡ Ok left → IsLeftOf entries left

-- ends leave each entry as it was, or take it away
ends_leave : (facts : ValueId → Option Facts) (ts : List Taken) → EndsLeave facts ts
ends_leave facts [] entries now left from e = let same : now ≡ left = cc in subst (IsLeftOf entries) same from
ends_leave facts (t ∷ ts) entries now left from e = at (ends_leave facts ts) (ends facts t) e
  where
    of_entry : EndsLeave facts ts → (c : Entry) → with_ok (without_ended facts ts) (ended_entry t.value now c) ≡ Ok left → IsLeftOf entries left
    of_entry more Gone e = cc
    of_entry more (Held x) e = more entries (set now t.value.0 Gone) left (left_without entries now t.value from) e
    of_entry more (Lent x) e = more entries (set now t.value.0 Gone) left (left_without entries now t.value from) e
    of_entry more (Plain x) e = more entries now left from e

    at : EndsLeave facts ts → (b : Bool) → cond b (with_ok (without_ended facts ts) (ended_entry t.value now (entry_at now t.value))) (without_ended facts ts now) ≡ Ok left
        → IsLeftOf entries left
    at more true e = of_entry more (entry_at now t.value) e
    at more false e = more entries now left from e

pub left_of : (facts : ValueId → Option Facts) (ts : List Taken) (entries left : List Entry) → without_ended facts ts entries ≡ Ok left → IsLeftOf entries left
left_of facts ts entries left e = ends_leave facts ts entries entries left (λ v. inl refl) e

-- an entry that is there is the one that was
pub was_there : (entries now : List Entry) (v : ValueId) → IsLeftOf entries now → (entry_at now v ≡ Gone → ⊥) → entry_at entries v ≡ entry_at now v
was_there entries now v from there = ⊎_elim (λ same. sym same) (λ gone. absurd (there gone)) (from v)

module _ (weight : ObjectId → ℕ) (facts : ValueId → Option Facts) where
  module _ (t : Taken) (ts : List Taken) (entries now left : List Entry) (from : IsLeftOf entries now) (ends_it : ends facts t ≡ true) where
    -- what an operand held that ended
    ended_total : (c : Entry) → entry_at now t.value ≡ c → (c ≡ Gone → ⊥) → of_references weight (references_ended_by facts entries t) ≡ in_entry weight c
    ended_total c is there =
        ap (λ b. of_references weight (cond b (held_references (entry_at entries t.value)) [])) ends_it
        ∙ ap (in_entry weight) (was_there entries now t.value from (λ gone. there (sym is ∙ gone)) ∙ is)

  abbrev EndsCounted : List Taken → Type 0
  EndsCounted ts = (entries now left : List Entry) → IsLeftOf entries now → without_ended facts ts now ≡ Ok left
      → in_entries weight left + of_references weight (references_ended facts entries ts) ≡ in_entries weight now

  ends_left : (ts : List Taken) → EndsCounted ts
  ends_left [] entries now left from e = let same : now ≡ left = cc in let held : in_entries weight now ≡ in_entries weight left = ap (in_entries weight) same in omega (arith, held)
  ends_left (t ∷ ts) entries now left from e = at (ends_left ts) (ends facts t) refl e
    where
      both : of_references weight (references_ended facts entries (t ∷ ts)) ≡ of_references weight (references_ended_by facts entries t) + of_references weight (references_ended facts entries ts)
      both = total_append weight (references_ended_by facts entries t) (references_ended facts entries ts)

      gone : EndsCounted ts → (c : Entry) → entry_at now t.value ≡ c → (c ≡ Gone → ⊥) → ends facts t ≡ true → without_ended facts ts (set now t.value.0 Gone) ≡ Ok left
          → in_entries weight left + of_references weight (references_ended facts entries (t ∷ ts)) ≡ in_entries weight now
      gone more c is there ends_it e =
          let rest : in_entries weight left + of_references weight (references_ended facts entries ts) ≡ in_entries weight (set now t.value.0 Gone) =
          more entries (set now t.value.0 Gone) left (left_without entries now t.value from) e in
          let first : of_references weight (references_ended_by facts entries t) ≡ in_entry weight c = ended_total t ts entries now left from ends_it c is there in
          let changed : in_entries weight (set now t.value.0 Gone) + in_entry weight (entry_at now t.value) ≡ in_entries weight now + 0 =
          entry_total weight now t.value Gone (entry_within now t.value (λ none. there (sym is ∙ none))) in
          let same : in_entry weight (entry_at now t.value) ≡ in_entry weight c = ap (in_entry weight) is in
          omega (arith, rest, first, changed, same, both)

      of_entry : EndsCounted ts → (c : Entry) → entry_at now t.value ≡ c → ends facts t ≡ true → with_ok (without_ended facts ts) (ended_entry t.value now c) ≡ Ok left
          → in_entries weight left + of_references weight (references_ended facts entries (t ∷ ts)) ≡ in_entries weight now
      of_entry more Gone is ends_it e = cc
      of_entry more (Held x) is ends_it e = gone more (Held x) is (λ none. cc) ends_it e
      of_entry more (Lent x) is ends_it e = gone more (Lent x) is (λ none. cc) ends_it e
      of_entry more (Plain x) is ends_it e =
          let rest : in_entries weight left + of_references weight (references_ended facts entries ts) ≡ in_entries weight now = more entries now left from e in
          let first : of_references weight (references_ended_by facts entries t) ≡ 0 = ended_total t ts entries now left from ends_it (Plain x) is (λ none. cc) in
          omega (arith, rest, first, both)

      at : EndsCounted ts → (b : Bool) → ends facts t ≡ b
          → cond b (with_ok (without_ended facts ts) (ended_entry t.value now (entry_at now t.value))) (without_ended facts ts now) ≡ Ok left
          → in_entries weight left + of_references weight (references_ended facts entries (t ∷ ts)) ≡ in_entries weight now
      at more true is e = of_entry more (entry_at now t.value) refl is e
      at more false is e =
          let rest : in_entries weight left + of_references weight (references_ended facts entries ts) ≡ in_entries weight now = more entries now left from e in
          let first : of_references weight (references_ended_by facts entries t) ≡ 0 =
          ap (λ b. of_references weight (cond b (held_references (entry_at entries t.value)) [])) is in
          omega (arith, rest, first, both)

  -- ---- begins

  plain_total : (x : Datum) (e : Entry) → plain_entry x ≡ Ok e → in_entry weight e ≡ 0
  plain_total (ValueOf x) e h = let made : Plain (ValueOf x) ≡ e = let r = (chosen_ok (has_any (references_of x)) WrongShape (Ok (Plain (ValueOf x))) e h).1 in cc in ap (in_entry weight) (sym made)
  plain_total (AddressOf p) e h = let made : plain_address p.home (AddressOf p) ≡ e = cc in ap (in_entry weight) (sym made) ∙ at p.home (AddressOf p)
    where
      at : (home : Home) (x : Datum) → in_entry weight (plain_address home x) ≡ 0
      at OnStack x = refl
      at (Inside o) x = refl
  plain_total (FunctionOf g) e h = let made : Plain (FunctionOf g) ≡ e = cc in ap (in_entry weight) (sym made)

  -- an entry that is made holds what its value holds
  pub made_total : (k : Kind) (x : Datum) (e : Entry) → made_entry k x ≡ Ok e → in_entry weight e ≡ of_references weight (owned_references k x)
  made_total kind.Owned x e h = let made : Held x ≡ e = cc in ap (in_entry weight) (sym made)
  made_total kind.Guaranteed x e h = let made : Lent x ≡ e = cc in ap (in_entry weight) (sym made)
  made_total kind.Plain x e h = plain_total x e h

  not_held_total : (e : Entry) → is_held e ≡ false → in_entry weight e ≡ 0
  not_held_total Gone h = refl
  not_held_total (Held x) h = cc
  not_held_total (Lent x) h = refl
  not_held_total (Plain x) h = refl

  put_total : (entries behind : List Entry) (v : ValueId) (x : Datum) → result_put facts v x entries ≡ Ok behind → v.0 < length entries
      → (in_entries weight behind ≡ in_entries weight entries + of_references weight (owned_references (known_or facts v).kind x)) × (length behind ≡ length entries)
  put_total entries behind v x h lt =
      let made = ok_through (put_entry entries v) (made_entry (known_or facts v).kind x) behind h in
      let put = chosen_ok (is_held (entry_at entries v)) OverwritesHeld (Ok (set entries v.0 made.0)) behind made.2 in
      let same : set entries v.0 made.0 ≡ behind = let e = put.1 in cc in
      let changed : in_entries weight (set entries v.0 made.0) + in_entry weight (entry_at entries v) ≡ in_entries weight entries + in_entry weight made.0 =
      entry_total weight entries v made.0 lt in
      let none : in_entry weight (entry_at entries v) ≡ 0 = not_held_total (entry_at entries v) put.0 in
      let one : in_entry weight made.0 ≡ of_references weight (owned_references (known_or facts v).kind x) = made_total (known_or facts v).kind x made.0 made.1 in
      let held : in_entries weight (set entries v.0 made.0) ≡ in_entries weight behind = ap (in_entries weight) same in
      (omega (arith, changed, none, one, held), sym (ap length same) ∙ length-set entries v.0 made.0)

  begins_behind : (vs : List ValueId) (xs : List Datum) (entries behind : List Entry) → results_put facts vs xs entries ≡ Ok behind → Each (IsBelow (length entries)) vs
      → in_entries weight behind ≡ in_entries weight entries + of_references weight (references_begun facts vs xs)
  begins_behind [] [] entries behind h each = let same : entries ≡ behind = cc in let held : in_entries weight entries ≡ in_entries weight behind = ap (in_entries weight) same in omega (arith, held)
  begins_behind [] (x ∷ xs) entries behind h each = cc
  begins_behind (v ∷ vs) [] entries behind h each = cc
  begins_behind (v ∷ vs) (x ∷ xs) entries behind h each =
      let middle = ok_through (results_put facts vs xs) (result_put facts v x entries) behind h in
      let first = put_total entries middle.0 v x middle.1 each.0 in
      let rest : in_entries weight behind ≡ in_entries weight middle.0 + of_references weight (references_begun facts vs xs) =
      begins_behind vs xs middle.0 behind middle.2 (subst (λ n. Each (IsBelow n) vs) (sym first.1) each.1) in
      let here = first.0 in
      let both : of_references weight (references_begun facts (v ∷ vs) (x ∷ xs))
      ≡ of_references weight (owned_references (known_or facts v).kind x) + of_references weight (references_begun facts vs xs) =
      total_append weight (owned_references (known_or facts v).kind x) (references_begun facts vs xs) in
      omega (arith, here, rest, both)

pub ends_counted : AreEndsCounted
ends_counted weight facts ts entries left h = ends_left weight facts ts entries entries left (λ v. inl refl) h

pub begins_counted : AreBeginsCounted
begins_counted weight facts vs xs entries behind h each = begins_behind weight facts vs xs entries behind h each
