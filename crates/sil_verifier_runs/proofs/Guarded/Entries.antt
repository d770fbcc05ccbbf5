-- Entries where operands end and results begin: which stay, and what the new ones are.
use Rattle.std.proofs.Common.{◌≡◌, ℕ, zero, suc, List, [], ◌∷◌, set, refl, sym, ap, ◌∙◌, subst, Bool, true, false, ◌⊎◌, inl, inr, ⊎_elim, Option, Some}
use Rattle.std.proofs.Common.{Ok, eq-eqb, ◌||◌}
use Rattle.std.specs.Prelude.{◌==◌, slice_get, unwrap_or}
use Rattle.std.proofs.lemmas.Bool.{cases_Bool, eqb-true, false≢true, or_cases, true≢false}
use Rattle.sil_verifier_frames.specs.ownership_kinds_chains.OwnershipChains.Facts.{has, known_or, value_of}
use Rattle.sil_verifier_frames.specs.ownership_kinds_chains.declared.ownership_chains.facts.Facts.{Facts}
use Rattle.sil_ast.specs.declared.function.Function.{Function}
use Rattle.sil_ast.specs.declared.place.ObjectId.{ObjectId}
use Rattle.sil_ast.specs.declared.place.ValueId.{ValueId}
use Rattle.sil_types_declarations.specs.TypeDefinitions.Declarations.{Declarations}
use Rattle.sil_types_declarations.specs.declared.type_definitions.kind.Kind.{Kind}
use Rattle.sil_types_declarations.specs.declared.type_definitions.kind.Kind.TheVariants as kind
use Rattle.holder_model_values.specs.RunValues.Places.{Home, Inside, OnStack}
use Rattle.holder_model_values.specs.RunValues.Values.{references_of}
use Rattle.sil_verifier_frames.specs.sil_verifier_values.inner.Known.{kind_at}
use Rattle.sil_verifier_frames.specs.holder_model.Data.{AddressOf, Datum, FunctionOf, ValueOf, home_references, references_in}
use Rattle.sil_verifier_frames.specs.holder_model.Faults.{OverwritesHeld, WrongShape}
use Rattle.sil_verifier_frames.specs.holder_model.Frames.{Entry, Gone, Held, Lent, Plain, entry_at, has_any, is_held, made_entry, plain_address, plain_entry, put_entry, result_put}
use Rattle.sil_verifier_frames.specs.holder_model.Frames.{results_put}
use Rattle.sil_verifier_frames.proofs.holder_model_laws.HolderLaws.Counts.Entries.{chosen_ok, ok_through}
use Rattle.sil_verifier_runs.specs.inner.Guarded.Guards.{AreOfKinds, IsThere}

-- ---- a plain entry names nothing

none_of : (os : List ObjectId) → has_any os ≡ false → os ≡ []
none_of [] h = refl
none_of (o ∷ os) h = absurd (true≢false h)

address_bare : (home : Home) (y x : Datum) → plain_address home y ≡ Plain x → references_in y ≡ home_references home → references_in x ≡ []
address_bare OnStack y x e same = let it : y ≡ x = cc in sym (ap references_in it) ∙ same
address_bare (Inside o) y x e same = cc

plain_entry_bare : (y x : Datum) → plain_entry y ≡ Ok (Plain x) → references_in x ≡ []
plain_entry_bare (ValueOf y) x h =
    let put = chosen_ok (has_any (references_of y)) WrongShape (Ok (Plain (ValueOf y))) (Plain x) h in
    let same : ValueOf y ≡ x = let e = put.1 in cc in
    sym (ap references_in same) ∙ none_of (references_of y) put.0
plain_entry_bare (AddressOf p) x h = let same : plain_address p.home (AddressOf p) ≡ Plain x = cc in address_bare p.home (AddressOf p) x same refl
plain_entry_bare (FunctionOf g) x h = let same : FunctionOf g ≡ x = cc in sym (ap references_in same)

made_bare : (k : Kind) (y x : Datum) → made_entry k y ≡ Ok (Plain x) → references_in x ≡ []
made_bare kind.Owned y x h = cc
made_bare kind.Guaranteed y x h = cc
made_bare kind.Plain y x h = plain_entry_bare y x h

pub plain_bare : (d : Declarations) (f : Function) (entries : List Entry) → AreOfKinds d f entries → (v : ValueId) (x : Datum) → entry_at entries v ≡ Plain x → references_in x ≡ []
plain_bare d f entries kinds v x e = ⊎_elim (λ gone. cc) (λ made. made_bare (kind_at d f v) made.0 x (made.1 ∙ ap Ok e)) (kinds v)

-- a lent entry is of what was put
address_same : (home : Home) (y x : Datum) → plain_address home y ≡ Lent x → y ≡ x
address_same OnStack y x e = cc
address_same (Inside o) y x e = cc

plain_lent_same : (y x : Datum) → plain_entry y ≡ Ok (Lent x) → y ≡ x
plain_lent_same (ValueOf y) x h = let e = (chosen_ok (has_any (references_of y)) WrongShape (Ok (Plain (ValueOf y))) (Lent x) h).1 in cc
plain_lent_same (AddressOf p) x h = let same : plain_address p.home (AddressOf p) ≡ Lent x = cc in address_same p.home (AddressOf p) x same
plain_lent_same (FunctionOf g) x h = cc

pub made_lent_same : (k : Kind) (y x : Datum) → made_entry k y ≡ Ok (Lent x) → y ≡ x
made_lent_same kind.Owned y x h = cc
made_lent_same kind.Guaranteed y x h = cc
made_lent_same kind.Plain y x h = plain_lent_same y x h

-- no entry that is made is missing
plain_there : (y : Datum) → plain_entry y ≡ Ok Gone → ⊥
plain_there (ValueOf y) h = let e = (chosen_ok (has_any (references_of y)) WrongShape (Ok (Plain (ValueOf y))) Gone h).1 in cc
plain_there (AddressOf p) h = let same : plain_address p.home (AddressOf p) ≡ Gone = cc in at p.home (AddressOf p) same
  where
    at : (home : Home) (y : Datum) → plain_address home y ≡ Gone → ⊥
    at OnStack y e = cc
    at (Inside o) y e = cc
plain_there (FunctionOf g) h = cc

made_there : (k : Kind) (y : Datum) → made_entry k y ≡ Ok Gone → ⊥
made_there kind.Owned y h = cc
made_there kind.Guaranteed y h = cc
made_there kind.Plain y h = plain_there y h

-- ---- results

same_value : (a b : ValueId) → a.0 ≡ b.0 → a ≡ b
same_value a b e = ap value_of e

-- where one entry is set, each is as it was, or the new one
set_either : (entries : List Entry) (n k : ℕ) (e : Entry)
    → (unwrap_or (slice_get (set entries n e) k) Gone ≡ unwrap_or (slice_get entries k) Gone) ⊎ ((n ≡ k) × (unwrap_or (slice_get (set entries n e) k) Gone ≡ e))
set_either [] n k e = inl refl
set_either (x ∷ xs) zero zero e = inr (refl, refl)
set_either (x ∷ xs) zero (suc k) e = inl refl
set_either (x ∷ xs) (suc n) zero e = inl refl
set_either (x ∷ xs) (suc n) (suc k) e = ⊎_elim (λ same. inl same) (λ new. inr (ap suc new.0, new.1)) (set_either xs n k e)

module _ (facts : ValueId → Option Facts) where
  -- what one result makes of the entries
  record IsPut (v : ValueId) (x : Datum) (entries behind : List Entry) : Type 0 where
    made : Entry
    is_made : made_entry (known_or facts v).kind x ≡ Ok made
    free : is_held (entry_at entries v) ≡ false
    set_there : set entries v.0 made ≡ behind

  put_one : (v : ValueId) (x : Datum) (entries behind : List Entry) → result_put facts v x entries ≡ Ok behind → IsPut v x entries behind
  put_one v x entries behind h =
      let made = ok_through (put_entry entries v) (made_entry (known_or facts v).kind x) behind h in
      let put = chosen_ok (is_held (entry_at entries v)) OverwritesHeld (Ok (set entries v.0 made.0)) behind made.2 in
      let same : set entries v.0 made.0 ≡ behind = let e = put.1 in cc in
      record { made = made.0; is_made = made.1; free = put.0; set_there = same }

  -- the entry of a value is as it was, or it is the result's
  put_either : (v : ValueId) (x : Datum) (entries behind : List Entry) → IsPut v x entries behind → (w : ValueId)
      → (entry_at behind w ≡ entry_at entries w) ⊎ ((v ≡ w) × (made_entry (known_or facts w).kind x ≡ Ok (entry_at behind w)))
  put_either v x entries behind p w =
      subst (λ (es : List Entry). (entry_at es w ≡ entry_at entries w) ⊎ ((v ≡ w) × (made_entry (known_or facts w).kind x ≡ Ok (entry_at es w)))) p.set_there
      (⊎_elim (λ same. inl same)
      (λ new. let it = same_value v w new.0 in inr (it, subst (λ (u : ValueId). made_entry (known_or facts u).kind x ≡ Ok p.made) it p.is_made ∙ ap Ok (sym new.1)))
      (set_either entries v.0 w.0 p.made))

  put_held : (v : ValueId) (x : Datum) (entries behind : List Entry) → IsPut v x entries behind → (w : ValueId) (y : Datum) → entry_at entries w ≡ Held y → entry_at behind w ≡ Held y
  put_held v x entries behind p w y e = ⊎_elim (λ same. same ∙ e) (λ new. absurd (never new.0)) (put_either v x entries behind p w)
    where
      never : v ≡ w → ⊥
      never it = true≢false (sym (ap is_held (ap (entry_at entries) it ∙ e)) ∙ p.free)

  -- held entries stay
  pub results_held : (vs : List ValueId) (xs : List Datum) (entries behind : List Entry) → results_put facts vs xs entries ≡ Ok behind
      → (w : ValueId) (y : Datum) → entry_at entries w ≡ Held y → entry_at behind w ≡ Held y
  results_held [] [] entries behind h w y e = let same : entries ≡ behind = cc in sym (ap (λ (es : List Entry). entry_at es w) same) ∙ e
  results_held [] (x ∷ xs) entries behind h w y e = cc
  results_held (v ∷ vs) [] entries behind h w y e = cc
  results_held (v ∷ vs) (x ∷ xs) entries behind h w y e =
      let middle = ok_through (results_put facts vs xs) (result_put facts v x entries) behind h in
      results_held vs xs middle.0 behind middle.2 w y (put_held v x entries middle.0 (put_one v x entries middle.0 middle.1) w y e)

  -- which result an entry is
  pub record IsResult (vs : List ValueId) (xs : List Datum) (w : ValueId) (e : Entry) : Type 0 where
    pub n : ℕ
    pub datum : Datum
    pub value_is : slice_get vs n ≡ Some w
    pub datum_is : slice_get xs n ≡ Some datum
    pub made : made_entry (known_or facts w).kind datum ≡ Ok e

  later_result : (v : ValueId) (x : Datum) (vs : List ValueId) (xs : List Datum) (w : ValueId) (e : Entry) → IsResult vs xs w e → IsResult (v ∷ vs) (x ∷ xs) w e
  later_result v x vs xs w e r = record { n = suc r.n; datum = r.datum; value_is = r.value_is; datum_is = r.datum_is; made = r.made }

  -- each entry is as it was, or that of a result
  pub results_either : (vs : List ValueId) (xs : List Datum) (entries behind : List Entry) → results_put facts vs xs entries ≡ Ok behind
      → (w : ValueId) → (entry_at behind w ≡ entry_at entries w) ⊎ IsResult vs xs w (entry_at behind w)
  results_either [] [] entries behind h w = let same : entries ≡ behind = cc in inl (sym (ap (λ (es : List Entry). entry_at es w) same))
  results_either [] (x ∷ xs) entries behind h w = cc
  results_either (v ∷ vs) [] entries behind h w = cc
  results_either (v ∷ vs) (x ∷ xs) entries behind h w =
      let middle = ok_through (results_put facts vs xs) (result_put facts v x entries) behind h in
      let one = put_one v x entries middle.0 middle.1 in
      ⊎_elim
      (λ same. ⊎_elim (λ before. inl (same ∙ before))
      (λ new. inr (record { n = 0; datum = x; value_is = ap Some new.0; datum_is = refl; made = new.1 ∙ ap Ok (sym same) }))
      (put_either v x entries middle.0 one w))
      (λ later. inr (later_result v x vs xs w (entry_at behind w) later))
      (results_either vs xs middle.0 behind middle.2 w)

  -- what is there stays there
  pub results_there : (vs : List ValueId) (xs : List Datum) (entries behind : List Entry) → results_put facts vs xs entries ≡ Ok behind
      → (w : ValueId) → IsThere (entry_at entries w) → IsThere (entry_at behind w)
  results_there vs xs entries behind h w there gone =
      ⊎_elim (λ same. there (sym same ∙ gone)) (λ r. made_there (known_or facts w).kind r.datum (r.made ∙ ap Ok gone)) (results_either vs xs entries behind h w)

  -- the entry of a value that is no result is as it was
  pub result_has : (vs : List ValueId) (xs : List Datum) (w : ValueId) (e : Entry) → IsResult vs xs w e → has vs w.0 ≡ true
  result_has vs xs w e r = at vs r.n r.value_is
    where
      or_later : (a b : Bool) → b ≡ true → (a || b) ≡ true
      or_later true b h = refl
      or_later false b h = h

      at : (vs : List ValueId) (n : ℕ) → slice_get vs n ≡ Some w → has vs w.0 ≡ true
      at [] n h = cc
      at (v ∷ vs) zero h = let same : v ≡ w = cc in ap (λ b. b || has vs w.0) (eq-eqb v.0 w.0 (ap (λ (u : ValueId). u.0) same))
      at (v ∷ vs) (suc n) h = or_later (v.0 == w.0) (has vs w.0) (at vs n h)

  pub results_others : (vs : List ValueId) (xs : List Datum) (entries behind : List Entry) → results_put facts vs xs entries ≡ Ok behind
      → (w : ValueId) → has vs w.0 ≡ false → entry_at behind w ≡ entry_at entries w
  results_others vs xs entries behind h w none =
      ⊎_elim (λ same. same) (λ r. absurd (true≢false (sym (result_has vs xs w (entry_at behind w) r) ∙ none))) (results_either vs xs entries behind h w)

  set_here : (entries : List Entry) (n : ℕ) (e : Entry) → (unwrap_or (slice_get (set entries n e) n) Gone ≡ e) ⊎ (unwrap_or (slice_get (set entries n e) n) Gone ≡ Gone)
  set_here [] n e = inr refl
  set_here (x ∷ xs) zero e = inl refl
  set_here (x ∷ xs) (suc n) e = set_here xs n e

  -- the entry of a result is that of the result, where it is there
  pub results_made : (vs : List ValueId) (xs : List Datum) (entries behind : List Entry) → results_put facts vs xs entries ≡ Ok behind
      → (w : ValueId) → has vs w.0 ≡ true → IsThere (entry_at behind w) → IsResult vs xs w (entry_at behind w)
  results_made [] xs entries behind h w it there = absurd (false≢true it)
  results_made (v ∷ vs) [] entries behind h w it there = cc
  results_made (v ∷ vs) (x ∷ xs) entries behind h w it there =
      ⊎_elim (λ later. later_result v x vs xs w (entry_at behind w) (results_made vs xs middle.0 behind middle.2 w later there))
      (λ none. first none (⊎_elim (λ here. here) (λ later. absurd (true≢false (sym later ∙ none))) (or_cases (v.0 == w.0) (has vs w.0) it))) (cases_Bool (has vs w.0))
    where
      middle : (m : List Entry) × (result_put facts v x entries ≡ Ok m) × (results_put facts vs xs m ≡ Ok behind)
      middle = ok_through (results_put facts vs xs) (result_put facts v x entries) behind h

      one : IsPut v x entries middle.0
      one = put_one v x entries middle.0 middle.1

      first : has vs w.0 ≡ false → (v.0 == w.0) ≡ true → IsResult (v ∷ vs) (x ∷ xs) w (entry_at behind w)
      first none here =
          let it : v ≡ w = same_value v w (eqb-true v.0 w.0 here) in
          let stays : entry_at behind w ≡ entry_at middle.0 w = results_others vs xs middle.0 behind middle.2 w none in
          let set_at : entry_at middle.0 w ≡ unwrap_or (slice_get (set entries v.0 one.made) v.0) Gone =
          ap (λ (es : List Entry). entry_at es w) (sym one.set_there) ∙ ap (λ (u : ValueId). unwrap_or (slice_get (set entries v.0 one.made) u.0) Gone) (sym it) in
          ⊎_elim
          (λ made. record {
            n = 0;
            datum = x;
            value_is = ap Some it;
            datum_is = refl;
            made = subst (λ (u : ValueId). made_entry (known_or facts u).kind x ≡ Ok one.made) it one.is_made ∙ ap Ok (sym (stays ∙ set_at ∙ made));
          })
          (λ gone. absurd (there (stays ∙ set_at ∙ gone)))
          (set_here entries v.0 one.made)
