-- Entries that are typed: what operands find in them, and what results make of them.
use Rattle.std.proofs.Common.{◌≡◌, ◌<◌, ◌⊎◌, inl, inr, ℕ, zero, suc, List, [], ◌∷◌, length, set, map, refl, sym, ap, ◌∙◌, subst, Bool, true, false, cond, Option, Some}
use Rattle.std.specs.Prelude.{Err, Ok, ◌==◌, replicate, slice_get, unwrap_or}
use Rattle.std.specs.declared.result.Result.{Result}
use Rattle.std.proofs.lemmas.Bool.{cases_Bool, eqb-true}
use Rattle.std.proofs.lemmas.List.{length-replicate, length-set}
use Rattle.std.proofs.lemmas.Option.{same_Some}
use Rattle.sil_verifier_trails.specs.sil_verifier_values.inner.Known.{kind_at}
use Rattle.holder_model_laws.specs.holder_model.RunTyping.CallForms.{IsOf}
use Rattle.holder_model_laws.specs.holder_model.RunTyping.Forms.{Form, form_of, forms_of}
use Rattle.holder_model_laws.specs.holder_model.LoweredRun.LowStepParts.{taken_value}
use Rattle.holder_model_laws.specs.ownership_kinds_origins.Facts.{facts_in}
use Rattle.sil_verifier_trails.proofs.HeldEntries.EntriesEnded.{entry_set_other, entry_set_same}
use Rattle.sil_cfg_items.specs.declared.taken.Taken.{Taken}
use Rattle.numbered_form.specs.Lists.{Each}
use Rattle.holder_model_laws.specs.ownership_kinds_chains.declared.ownership_chains.facts.Facts.{Facts}
use Rattle.holder_model_laws.specs.holder_model.Calling.{value_count}
use Rattle.holder_model_laws.specs.holder_model.Data.{AddressOf, Datum, FunctionOf, ValueOf}
use Rattle.holder_model_laws.specs.holder_model.Faults.{HolderFault, OverwritesHeld, WrongShape}
use Rattle.holder_model_laws.specs.holder_model.Frames.{Entry, Gone, Held, Lent, Operands, Plain, datum_in, ended_entry, ends, entry_at}
use Rattle.holder_model_laws.specs.holder_model.Frames.{has_any, is_held, made_entry, no_entries, operand, operand_data, operands_of, plain_address, plain_entry, put_entry}
use Rattle.holder_model_laws.specs.holder_model.Frames.{results_put, with_ok, without_ended}
use Rattle.holder_model_values.specs.RunValues.Memory.{Memory}
use Rattle.holder_model_values.specs.RunValues.Places.{Home, Inside, OnStack}
use Rattle.holder_model_values.specs.RunValues.Values.{references_of}
use Rattle.sil_ast.specs.declared.function.Function.{Function}
use Rattle.sil_ast.specs.declared.module.Module.{Module}
use Rattle.sil_ast.specs.declared.place.ValueId.{ValueId}
use Rattle.sil_types_declarations.specs.TypeDefinitions.Declarations.{declarations_of}
use Rattle.sil_types_declarations.specs.declared.type_definitions.kind.Kind.{Kind}
use Rattle.sil_types_declarations.specs.declared.type_definitions.kind.Kind.TheVariants as kind
use Rattle.sil_verifier_trails.specs.holder_model_typing.TypedMemory.inner.Worlds.{DatumIs, World}
use Rattle.sil_verifier_frames.specs.inner.Typed.TypedStates.{EntriesAre, EntryIs}
use Rattle.sil_verifier_frames.proofs.Typed.Data.{DataAre, IsBare, bare_entry, entry_bare}
use Rattle.sil_verifier_frames.proofs.Typed.Data as data_are
use Rattle.sil_verifier_frames.proofs.Typed.Operands.{IsOther, joined, operand_there, operands_read, without}

-- ---- one entry

address_datum : (h : Home) (x : Datum) (e : Entry) → ◌≡◌ {A = Result Entry HolderFault} (Ok (plain_address h x)) (Ok e) → datum_in e ≡ Some x
address_datum OnStack x e is = let same : e ≡ Plain x = cc in ap datum_in same
address_datum (Inside o) x e is = let same : e ≡ Lent x = cc in ap datum_in same

plain_datum : (x : Datum) (e : Entry) → plain_entry x ≡ Ok e → datum_in e ≡ Some x
plain_datum (ValueOf v) e is = at (has_any (references_of v)) is
  where
    at : (b : Bool) → cond b (Err WrongShape) (Ok (Plain (ValueOf v))) ≡ Ok e → datum_in e ≡ Some (ValueOf v)
    at true h = absurd (cc)
    at false h = let same : e ≡ Plain (ValueOf v) = cc in ap datum_in same
plain_datum (AddressOf p) e is = address_datum p.home (AddressOf p) e is
plain_datum (FunctionOf g) e is = let same : e ≡ Plain (FunctionOf g) = cc in ap datum_in same

made_datum : (k : Kind) (x : Datum) (e : Entry) → made_entry k x ≡ Ok e → datum_in e ≡ Some x
made_datum kind.Owned x e is = let same : e ≡ Held x = cc in ap datum_in same
made_datum kind.Guaranteed x e is = let same : e ≡ Lent x = cc in ap datum_in same
made_datum kind.Plain x e is = plain_datum x e is

made_for : (k : Kind) (x : Datum) → (k ≡ kind.Plain → IsBare x) → (e : Entry) × (made_entry k x ≡ Ok e)
made_for kind.Owned x bare = (Held x, refl)
made_for kind.Guaranteed x bare = (Lent x, refl)
made_for kind.Plain x bare = bare_entry x (bare refl)

module _ (m : Module) (w : World) (f : Function) where
  -- the datum may be that of the value: it has its form, and names no object where the value has no owner
  pub record Fits (v : ValueId) (x : Datum) : Type 0 where
    pub is : DatumIs m w (form_of (declarations_of m) f v) x
    pub bare : kind_at (declarations_of m) f v ≡ kind.Plain → IsBare x

  pub data FitEach : List ValueId → List Datum → Type 0 where
    none : FitEach [] []
    more : (v : ValueId) (x : Datum) (vs : List ValueId) (xs : List Datum) → Fits v x → FitEach vs xs → FitEach (v ∷ vs) (x ∷ xs)

  pub fit_data : {vs : List ValueId} {xs : List Datum} → FitEach vs xs → DataAre m w (forms_of (declarations_of m) f vs) xs
  fit_data none = data_are.none
  fit_data (more v x vs xs fit rest) = data_are.more (form_of (declarations_of m) f v) x (forms_of (declarations_of m) f vs) xs fit.is (fit_data rest)

  -- data of the forms of values fit these, where each one does
  pub fit_from : (vs : List ValueId) {forms : List Form} {xs : List Datum} → forms_of (declarations_of m) f vs ≡ forms → DataAre m w forms xs
      → Each (λ v. (x : Datum) → DatumIs m w (form_of (declarations_of m) f v) x → Fits v x) vs → FitEach vs xs
  fit_from [] e data_are.none each = none
  fit_from [] e (data_are.more form x forms xs is rest) each = absurd (cc)
  fit_from (v ∷ vs) e data_are.none each = absurd (cc)
  fit_from (v ∷ vs) e (data_are.more form x forms xs is rest) each =
      let same : form_of (declarations_of m) f v ≡ form = cc in
      let others : forms_of (declarations_of m) f vs ≡ forms = cc in
      more v x vs xs (each.0 x (subst (λ y. DatumIs m w y x) (sym same) is)) (fit_from vs others rest each.1)

  -- where the values have no owner the data name no object
  pub fit_bare : {vs : List ValueId} {xs : List Datum} → FitEach vs xs → Each (λ v. kind_at (declarations_of m) f v ≡ kind.Plain) vs → Each IsBare xs
  fit_bare none plain = tt
  fit_bare (more v x vs xs fit rest) plain = (fit.bare plain.0, fit_bare rest plain.1)

  abbrev IsEntry : ValueId → Entry → Type 0
  IsEntry v e = EntryIs m w (kind_at (declarations_of m) f v) (form_of (declarations_of m) f v) e

  pub entry_fits : (v : ValueId) {e : Entry} → IsEntry v e → (x : Datum) → datum_in e ≡ Some x → Fits v x
  entry_fits v EntryIs.gone x is = absurd (cc)
  entry_fits v (EntryIs.made y e made typed) x is =
      let same : y ≡ x = same_Some y x (sym (made_datum (kind_at (declarations_of m) f v) y e made) ∙ is) in
      subst (Fits v) same (record {
        is = typed;
        bare = λ plain. entry_bare y e (sym (ap (λ k. made_entry k y) plain) ∙ made);
      })

  pub fitting_entry : (v : ValueId) (x : Datum) → Fits v x → (e : Entry) × (made_entry (kind_at (declarations_of m) f v) x ≡ Ok e) × IsEntry v e
  fitting_entry v x fit =
      let made = made_for (kind_at (declarations_of m) f v) x fit.bare in
      (made.0, made.1, EntryIs.made x made.0 made.1 fit.is)

  -- ---- one is set

  abbrev Typed : List Entry → Type 0
  Typed entries = EntriesAre m w f entries

  pub entries_set : (entries : List Entry) (v : ValueId) (e : Entry) → Typed entries → IsEntry v e → Typed (set entries v.0 e)
  entries_set entries v e typed is = record {
    size = length-set entries v.0 e ∙ typed.size;
    each = λ u of. by u of (cases_Bool (u.0 == v.0));
  }
    where
      by : (u : ValueId) → IsOf f u → ((u.0 == v.0) ≡ true) ⊎ ((u.0 == v.0) ≡ false) → IsEntry u (entry_at (set entries v.0 e) u)
      by u of (inl same) =
          let eq : v ≡ u = λ i. record { 0 = sym (eqb-true u.0 v.0 same) i } in
          let lt : v.0 < length entries = subst (λ n. v.0 < n) (sym typed.size) (subst (IsOf f) (sym eq) of) in
          subst (λ (x : ValueId). IsEntry x (entry_at (set entries v.0 e) x)) eq (subst (IsEntry v) (sym (entry_set_same entries v e lt)) is)
      by u of (inr other) = subst (IsEntry u) (sym (entry_set_other entries v u e other)) (typed.each u of)

  -- a function's entries before it has begun

  none_there : (n k : ℕ) → unwrap_or (slice_get (replicate n Gone) k) Gone ≡ Gone
  none_there zero k = refl
  none_there (suc n) zero = refl
  none_there (suc n) (suc k) = none_there n k

  pub no_entries_typed : Typed (no_entries (value_count f))
  no_entries_typed = record {
    size = length-replicate (value_count f) Gone;
    each = λ v of. subst (IsEntry v) (sym (none_there (value_count f) v.0)) EntryIs.gone;
  }

  -- ---- results

  abbrev put : List ValueId → List Datum → List Entry → Result (List Entry) HolderFault
  put vs xs entries = results_put (facts_in (declarations_of m) f) vs xs entries

  abbrev one_put : ValueId → Entry → List Entry → Bool → Result (List Entry) HolderFault
  one_put v e entries held = cond held (Err OverwritesHeld) (Ok (set entries v.0 e))

  put_first : (v : ValueId) (x : Datum) (vs : List ValueId) (xs : List Datum) (entries : List Entry) (e : Entry) → made_entry (kind_at (declarations_of m) f v) x ≡ Ok e
      → put (v ∷ vs) (x ∷ xs) entries ≡ with_ok (put vs xs) (one_put v e entries (is_held (entry_at entries v)))
  put_first v x vs xs entries e made = ap (λ r. with_ok (put vs xs) (with_ok (put_entry entries v) r)) made

  pub results_typed : {vs : List ValueId} {xs : List Datum} → FitEach vs xs → (entries behind : List Entry) → Typed entries → put vs xs entries ≡ Ok behind → Typed behind
  results_typed none entries behind typed is = let same : entries ≡ behind = cc in subst Typed same typed
  results_typed (more v x vs xs fit rest) entries behind typed is =
      let e = fitting_entry v x fit in
      at e.0 e.2 (is_held (entry_at entries v)) (sym (put_first v x vs xs entries e.0 e.1) ∙ is) (λ es. results_typed rest es behind)
    where
      at : (e : Entry) → IsEntry v e → (b : Bool) → with_ok (put vs xs) (one_put v e entries b) ≡ Ok behind → ((es : List Entry) → Typed es → put vs xs es ≡ Ok behind → Typed behind)
          → Typed behind
      at e new true h others = absurd (cc)
      at e new false h others = others (set entries v.0 e) (entries_set entries v e typed new) h

  pub results_other : {vs : List ValueId} {xs : List Datum} → FitEach vs xs → (entries : List Entry) (y : HolderFault) → put vs xs entries ≡ Err y → IsOther y
  results_other none entries y is = absurd (cc)
  results_other (more v x vs xs fit rest) entries y is =
      let e = fitting_entry v x fit in
      at e.0 (is_held (entry_at entries v)) (sym (put_first v x vs xs entries e.0 e.1) ∙ is) (λ es. results_other rest es y)
    where
      at : (e : Entry) (b : Bool) → with_ok (put vs xs) (one_put v e entries b) ≡ Err y → ((es : List Entry) → put vs xs es ≡ Err y → IsOther y) → IsOther y
      at e true h others = λ shape. cc
      at e false h others = others (set entries v.0 e) h

  -- ---- operands

  module _ (facts : ValueId → Option Facts) where
    ended_typed : (v : ValueId) (entries left : List Entry) (e : Entry) → Typed entries → ended_entry v entries e ≡ Ok left → Typed left
    ended_typed v entries left Gone typed is = absurd (cc)
    ended_typed v entries left (Held x) typed is = let same : set entries v.0 Gone ≡ left = cc in subst Typed same (entries_set entries v Gone typed EntryIs.gone)
    ended_typed v entries left (Lent x) typed is = let same : set entries v.0 Gone ≡ left = cc in subst Typed same (entries_set entries v Gone typed EntryIs.gone)
    ended_typed v entries left (Plain x) typed is = let same : entries ≡ left = cc in subst Typed same typed

    pub left_typed : (ts : List Taken) (entries left : List Entry) → Typed entries → without_ended facts ts entries ≡ Ok left → Typed left
    left_typed [] entries left typed is = let same : entries ≡ left = cc in subst Typed same typed
    left_typed (t ∷ ts) entries left typed is =
        at (ends facts t) (ended_entry t.value entries (entry_at entries t.value)) refl is (λ es. left_typed ts es left)
      where
        at : (b : Bool) (r : Result (List Entry) HolderFault) → ended_entry t.value entries (entry_at entries t.value) ≡ r → without facts b t ts entries r ≡ Ok left
            → ((es : List Entry) → Typed es → without_ended facts ts es ≡ Ok left → Typed left) → Typed left
        at true (Ok next) e h others = others next (ended_typed t.value entries next (entry_at entries t.value) typed e) h
        at true (Err y) e h others = absurd (cc)
        at false r e h others = others entries typed h

    module _ (memory : Memory) (before left : List Entry) (typed : Typed before) (typed_left : Typed left) where
      operand_fits : (t : Taken) (x : Datum) → IsOf f t.value → operand facts memory before left t ≡ Ok x → Fits t.value x
      operand_fits t x of is = by (operand_there facts memory before left t x is)
        where
          by : (datum_in (entry_at before t.value) ≡ Some x) ⊎ ((ends facts t ≡ false) × (datum_in (entry_at left t.value) ≡ Some x)) → Fits t.value x
          by (inl there) = entry_fits t.value (typed.each t.value of) x there
          by (inr there) = entry_fits t.value (typed_left.each t.value of) x there.1

      data_fit : (ts : List Taken) (xs : List Datum) → Each (IsOf f) (map taken_value ts) → operand_data facts memory before left ts ≡ Ok xs → FitEach (map taken_value ts) xs
      data_fit [] xs of is = let same : [] ≡ xs = cc in subst (FitEach []) same none
      data_fit (t ∷ ts) xs of is = at (operand facts memory before left t) refl (operand_data facts memory before left ts) (λ ys. data_fit ts ys of.1) is
        where
          at : (r : Result Datum HolderFault) → operand facts memory before left t ≡ r → (rs : Result (List Datum) HolderFault)
              → ((ys : List Datum) → rs ≡ Ok ys → FitEach (map taken_value ts) ys) → joined r rs ≡ Ok xs → FitEach (map taken_value (t ∷ ts)) xs
          at (Ok x) e (Ok ys) others h =
              let same : x ∷ ys ≡ xs = cc in
              subst (FitEach (map taken_value (t ∷ ts))) same (more t.value x (map taken_value ts) ys (operand_fits t x of.0 e) (others ys refl))
          at (Ok x) e (Err z) others h = absurd (cc)
          at (Err z) e rs others h = absurd (cc)

    -- the operands of an item
    pub operands_fit : (memory : Memory) (ts : List Taken) (entries : List Entry) (ops : Operands) → Typed entries → Each (IsOf f) (map taken_value ts)
        → operands_of facts memory entries ts ≡ Ok ops → FitEach (map taken_value ts) ops.given × Typed ops.left
    operands_fit memory ts entries ops typed of is =
        let read = operands_read facts memory ts entries ops is in
        let left = left_typed ts entries ops.left typed read.left in
        (data_fit memory entries ops.left typed left ts ops.given of read.given, left)
