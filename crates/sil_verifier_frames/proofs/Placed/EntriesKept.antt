-- What becomes of entries: an item takes those of operands that end, and puts its results.
use Rattle.std.proofs.Common.{◌≡◌, ◌⊎◌, ⊎_elim, inl, inr, ◌==◌, ◌<◌, ℕ, zero, suc, List, [], ◌∷◌, length, set}
use Rattle.std.proofs.Common.{Bool, true, false, cond, Option, Some, Ok, Err, refl, sym, ap, ◌∙◌, subst, slice_get, eqb-true, arith}
use Rattle.std.specs.declared.result.Result.{Result}
use Rattle.std.proofs.lemmas.Bool.{cases_Bool, or_parts}
use Rattle.std.proofs.lemmas.List.{length-set}
use Rattle.std.proofs.lemmas.Option.{none-some, same_Some}
use Rattle.holder_model_laws.specs.holder_model.Data.{AddressOf, Datum, FunctionOf, ValueOf}
use Rattle.holder_model_laws.specs.holder_model.Faults.{HolderFault, OverwritesHeld, WrongShape}
use Rattle.holder_model_laws.specs.holder_model.Frames.{Entry, Gone, Held, Lent, Plain, datum_in, ended_entry}
use Rattle.holder_model_laws.specs.holder_model.Frames.{ends, entry_at, is_held, made_entry, plain_address, put_entry, results_put}
use Rattle.holder_model_laws.specs.holder_model.Frames.{result_put, with_ok, without_ended, has_any}
use Rattle.sil_verifier_trails.proofs.HeldEntries.EntriesEnded.{entry_set_other, entry_set_same, other_way}
use Rattle.sil_cfg_items.specs.declared.taken.Taken.{Taken}
use Rattle.holder_model_laws.specs.ownership_kinds_chains.OwnershipChains.Facts.{has, known_or}
use Rattle.holder_model_laws.specs.ownership_kinds_chains.declared.ownership_chains.facts.Facts.{Facts}
use Rattle.holder_model_values.specs.RunValues.Places.{Home, Inside, OnStack}
use Rattle.holder_model_values.specs.RunValues.Values.{references_of}
use Rattle.sil_ast.specs.declared.place.ValueId.{ValueId}
use Rattle.sil_types_declarations.specs.declared.type_definitions.kind.Kind.{Kind}
use Rattle.sil_types_declarations.specs.declared.type_definitions.kind.Kind.TheVariants as kind

abbrev okay : {A : Type 0} → A → Result A HolderFault
okay x = Ok x

abbrev wrong : {A : Type 0} → HolderFault → Result A HolderFault
wrong x = Err x

pub ok_once : {A : Type 0} (x y : A) → okay x ≡ okay y → x ≡ y
ok_once x y e = cc

pub never_ok : {A : Type 0} (x : HolderFault) (y : A) → wrong x ≡ okay y → ⊥
never_ok x y e = cc

module _ (facts : ValueId → Option Facts) where
  -- ---- ends

  -- an entry that stands on its own stays
  pub plain_left : (ts : List Taken) (entries left : List Entry) → without_ended facts ts entries ≡ Ok left → (v : ValueId) (x : Datum) → entry_at entries v ≡ Plain x
      → entry_at left v ≡ Plain x
  plain_left [] entries left is v x plain = ap (λ es. entry_at es v) (sym (ok_once entries left is)) ∙ plain
  plain_left (t ∷ ts) entries left is v x plain = at (ends facts t) (entry_at entries t.value) refl is (λ es h. plain_left ts es left h v x)
    where
      other : (e : Entry) → entry_at entries t.value ≡ e → (e ≡ Plain x → ⊥) → (v.0 == t.value.0) ≡ false
      other e is not_so = ⊎_elim
          (λ (same : (v.0 == t.value.0) ≡ true). absurd (not_so (sym is ∙ ap (λ (k : ℕ). entry_at entries (record { 0 = k })) (sym (eqb-true v.0 t.value.0 same)) ∙ plain)))
          (λ (differ : (v.0 == t.value.0) ≡ false). differ)
          (cases_Bool (v.0 == t.value.0))

      at : (b : Bool) (e : Entry) → entry_at entries t.value ≡ e
          → cond b (with_ok (without_ended facts ts) (ended_entry t.value entries e)) (without_ended facts ts entries) ≡ Ok left
          → ((es : List Entry) → without_ended facts ts es ≡ Ok left → entry_at es v ≡ Plain x → entry_at left v ≡ Plain x) → entry_at left v ≡ Plain x
      at false e is h others = others entries h plain
      at true Gone is h others = absurd (never_ok _ left h)
      at true (Held y) is h others = others (set entries t.value.0 Gone) h (entry_set_other entries t.value v Gone (other (Held y) is (λ e. cc)) ∙ plain)
      at true (Lent y) is h others = others (set entries t.value.0 Gone) h (entry_set_other entries t.value v Gone (other (Lent y) is (λ e. cc)) ∙ plain)
      at true (Plain y) is h others = others entries h plain

  -- what is left was there
  pub left_was : (ts : List Taken) (entries left : List Entry) → without_ended facts ts entries ≡ Ok left → (v : ValueId) (x : Datum) → datum_in (entry_at left v) ≡ Some x
      → datum_in (entry_at entries v) ≡ Some x
  left_was [] entries left is v x there = ap (λ es. datum_in (entry_at es v)) (ok_once entries left is) ∙ there
  left_was (t ∷ ts) entries left is v x there = at (ends facts t) (entry_at entries t.value) refl is (λ es h. left_was ts es left h v x there)
    where
      from_set : (y : Datum) (e : Entry) → entry_at entries t.value ≡ e → datum_in e ≡ Some y → datum_in (entry_at (set entries t.value.0 Gone) v) ≡ Some x → datum_in (entry_at entries v) ≡ Some x
      from_set y e is had h = ⊎_elim
          (λ (same : (v.0 == t.value.0) ≡ true).
          let one : v ≡ t.value = ap (λ (k : ℕ). record { 0 = k }) (eqb-true v.0 t.value.0 same) in
          absurd (none-some x (sym (ap datum_in (ap (entry_at (set entries t.value.0 Gone)) one ∙ by_length (cases_length entries t.value))) ∙ h)))
          (λ (differ : (v.0 == t.value.0) ≡ false). ap datum_in (sym (entry_set_other entries t.value v Gone differ)) ∙ h)
          (cases_Bool (v.0 == t.value.0))
        where
          cases_length : (es : List Entry) (w : ValueId) → (w.0 < length es) ⊎ (entry_at es w ≡ Gone)
          cases_length es w = of es w.0
            where
              of : (es : List Entry) (n : ℕ) → (n < length es) ⊎ (entry_at es (record { 0 = n }) ≡ Gone)
              of [] n = inr refl
              of (e ∷ es) zero = inl (omega arith)
              of (e ∷ es) (suc n) = ⊎_elim (λ (lt : n < length es). inl (omega (arith, lt))) (λ none. inr none) (of es n)

          by_length : (t.value.0 < length entries) ⊎ (entry_at entries t.value ≡ Gone) → entry_at (set entries t.value.0 Gone) t.value ≡ Gone
          by_length (inl lt) = entry_set_same entries t.value Gone lt
          by_length (inr none) = absurd (none-some y (sym (ap datum_in (sym is ∙ none)) ∙ had))

      at : (b : Bool) (e : Entry) → entry_at entries t.value ≡ e
          → cond b (with_ok (without_ended facts ts) (ended_entry t.value entries e)) (without_ended facts ts entries) ≡ Ok left
          → ((es : List Entry) → without_ended facts ts es ≡ Ok left → datum_in (entry_at es v) ≡ Some x) → datum_in (entry_at entries v) ≡ Some x
      at false e is h others = others entries h
      at true Gone is h others = absurd (never_ok _ left h)
      at true (Held y) is h others = from_set y (Held y) is refl (others (set entries t.value.0 Gone) h)
      at true (Lent y) is h others = from_set y (Lent y) is refl (others (set entries t.value.0 Gone) h)
      at true (Plain y) is h others = others entries h

  -- ---- results

  -- an entry that is made holds what it was made of
  pub made_datum : (k : Kind) (x : Datum) (e : Entry) → made_entry k x ≡ Ok e → datum_in e ≡ Some x
  made_datum kind.Owned x e is = ap datum_in (sym (ok_once (Held x) e is))
  made_datum kind.Guaranteed x e is = ap datum_in (sym (ok_once (Lent x) e is))
  made_datum kind.Plain (ValueOf v) e is = at (has_any (references_of v)) is
    where
      at : (b : Bool) → cond b (Err WrongShape) (Ok (Plain (ValueOf v))) ≡ Ok e → datum_in e ≡ Some (ValueOf v)
      at true h = absurd (never_ok WrongShape e h)
      at false h = ap datum_in (sym (ok_once (Plain (ValueOf v)) e h))
  made_datum kind.Plain (AddressOf p) e is = ap datum_in (sym (ok_once _ e is)) ∙ at p.home
    where
      at : (h : Home) → datum_in (plain_address h (AddressOf p)) ≡ Some (AddressOf p)
      at OnStack = refl
      at (Inside o) = refl
  made_datum kind.Plain (FunctionOf g) e is = ap datum_in (sym (ok_once (Plain (FunctionOf g)) e is))

  -- putting one result
  record PutOne (v : ValueId) (x : Datum) (entries behind : List Entry) : Type 0 where
    pub entry : Entry
    pub holds : datum_in entry ≡ Some x
    pub is : behind ≡ set entries v.0 entry

  put_one : (v : ValueId) (x : Datum) (entries behind : List Entry) → result_put facts v x entries ≡ Ok behind → PutOne v x entries behind
  put_one v x entries behind is = made (made_entry (known_or facts v).kind x) refl is
    where
      put : (e : Entry) → made_entry (known_or facts v).kind x ≡ Ok e → (b : Bool) → cond b (Err OverwritesHeld) (Ok (set entries v.0 e)) ≡ Ok behind → PutOne v x entries behind
      put e so true h = absurd (never_ok OverwritesHeld behind h)
      put e so false h = record { entry = e; holds = made_datum (known_or facts v).kind x e so; is = sym (ok_once (set entries v.0 e) behind h) }

      made : (r : Result Entry HolderFault) → made_entry (known_or facts v).kind x ≡ r → with_ok (put_entry entries v) r ≡ Ok behind → PutOne v x entries behind
      made (Ok e) so h = put e so (is_held (entry_at entries v)) h
      made (Err y) so h = absurd (never_ok y behind h)

  -- what isn't a result stays
  pub results_other : (vs : List ValueId) (xs : List Datum) (entries behind : List Entry) → results_put facts vs xs entries ≡ Ok behind → (v : ValueId) → has vs v.0 ≡ false
      → entry_at behind v ≡ entry_at entries v
  results_other [] [] entries behind is v none = ap (λ es. entry_at es v) (sym (ok_once entries behind is))
  results_other [] (x ∷ xs) entries behind is v none = absurd (never_ok WrongShape behind is)
  results_other (w ∷ vs) [] entries behind is v none = absurd (never_ok WrongShape behind is)
  results_other (w ∷ vs) (x ∷ xs) entries behind is v none = at (result_put facts w x entries) refl is (λ es h. results_other vs xs es behind h v parts.1)
    where
      parts : ((w.0 == v.0) ≡ false) × (has vs v.0 ≡ false)
      parts = or_parts (w.0 == v.0) (has vs v.0) none

      at : (r : Result (List Entry) HolderFault) → result_put facts w x entries ≡ r → with_ok (results_put facts vs xs) r ≡ Ok behind
          → ((es : List Entry) → results_put facts vs xs es ≡ Ok behind → entry_at behind v ≡ entry_at es v) → entry_at behind v ≡ entry_at entries v
      at (Ok es) put h others =
          let one = put_one w x entries es put in
          others es h ∙ ap (λ zs. entry_at zs v) one.is ∙ entry_set_other entries w v one.entry (other_way w.0 v.0 parts.0)
      at (Err y) put h others = absurd (never_ok y behind h)

  -- each is put once
  abbrev pub AreOnce : List ValueId → Type 0
  AreOnce [] = Unit {0}
  AreOnce (v ∷ vs) = (has vs v.0 ≡ false) × AreOnce vs

  pub results_size : (vs : List ValueId) (xs : List Datum) (entries behind : List Entry) → results_put facts vs xs entries ≡ Ok behind → length behind ≡ length entries
  results_size [] [] entries behind is = ap length (sym (ok_once entries behind is))
  results_size [] (x ∷ xs) entries behind is = absurd (never_ok WrongShape behind is)
  results_size (w ∷ vs) [] entries behind is = absurd (never_ok WrongShape behind is)
  results_size (w ∷ vs) (x ∷ xs) entries behind is = at (result_put facts w x entries) refl is (λ es h. results_size vs xs es behind h)
    where
      at : (r : Result (List Entry) HolderFault) → result_put facts w x entries ≡ r → with_ok (results_put facts vs xs) r ≡ Ok behind
          → ((es : List Entry) → results_put facts vs xs es ≡ Ok behind → length behind ≡ length es) → length behind ≡ length entries
      at (Ok es) put h others = let one = put_one w x entries es put in others es h ∙ ap length one.is ∙ length-set entries w.0 one.entry
      at (Err y) put h others = absurd (never_ok y behind h)

  -- and is what it was put as
  pub results_there : (vs : List ValueId) (xs : List Datum) (entries behind : List Entry) → results_put facts vs xs entries ≡ Ok behind → AreOnce vs
      → (k : ℕ) (v : ValueId) (x : Datum) → slice_get vs k ≡ Some v → slice_get xs k ≡ Some x → v.0 < length entries → datum_in (entry_at behind v) ≡ Some x
  results_there [] xs entries behind is once k v x a b lt = absurd (none-some v a)
  results_there (w ∷ vs) [] entries behind is once k v x a b lt = absurd (none-some x b)
  results_there (w ∷ vs) (y ∷ ys) entries behind is once k v x a b lt = at (result_put facts w y entries) refl is
      (λ es h j c d less. results_there vs ys es behind h once.1 j v x c d less)
    where
      at : (r : Result (List Entry) HolderFault) → result_put facts w y entries ≡ r → with_ok (results_put facts vs ys) r ≡ Ok behind
          → ((es : List Entry) → results_put facts vs ys es ≡ Ok behind → (j : ℕ) → slice_get vs j ≡ Some v → slice_get ys j ≡ Some x → v.0 < length es → datum_in (entry_at behind v) ≡ Some x)
          → datum_in (entry_at behind v) ≡ Some x
      at (Err z) put h others = absurd (never_ok z behind h)
      at (Ok es) put h others = by k a b
        where
          one : PutOne w y entries es
          one = put_one w y entries es put

          by : (j : ℕ) → slice_get (w ∷ vs) j ≡ Some v → slice_get (y ∷ ys) j ≡ Some x → datum_in (entry_at behind v) ≡ Some x
          by zero c d =
              let same : w ≡ v = same_Some w v c in
              let less : w.0 < length entries = subst (λ (z : ValueId). z.0 < length entries) (sym same) lt in
              ap (λ z. datum_in (entry_at behind z)) (sym same)
              ∙ ap datum_in (results_other vs ys es behind h w once.0 ∙ ap (λ zs. entry_at zs w) one.is ∙ entry_set_same entries w one.entry less)
              ∙ one.holds ∙ ap Some (same_Some y x d)
          by (suc j) c d = others es h j c d (subst (λ n. v.0 < n) (sym (ap length one.is ∙ length-set entries w.0 one.entry)) lt)
