-- What entries name: what operands found in them, and what results put there.
use Rattle.std.proofs.Common.{◌≡◌, ◌<◌, ◌⊎◌, inl, inr, ℕ, suc, List, [], ◌∷◌, length, set, refl, sym, ap, ◌∙◌, subst, Bool, true, false, ◌||◌, Option, Some, None, Ok, Err}
use Rattle.std.proofs.Common.{eq-eqb}
use Rattle.std.specs.Prelude.{◌==◌, cond, slice_get, unwrap_or}
use Rattle.std.specs.declared.result.Result.{Result}
use Rattle.std.proofs.lemmas.Bool.{eqb-true, false≢true, true≢false}
use Rattle.std.proofs.lemmas.List.{length-set}
use Rattle.std.proofs.lemmas.Option.{none-some, slice_get_within}
use Rattle.sil_verifier_frames.specs.holder_model.Data.{AddressOf, Datum, FunctionOf, ValueOf, references_in}
use Rattle.sil_verifier_frames.specs.holder_model.Faults.{ConsumesLent, HolderFault, NamesDead, OverwritesHeld, WrongShape}
use Rattle.sil_verifier_frames.specs.holder_model.Frames.{Entry, Gone, Held, Lent, Operands, Plain, any_dead, datum_in, datum_or_fault, ends, entry_at, has_any}
use Rattle.sil_verifier_frames.specs.holder_model.Frames.{is_consumed, is_held, made_entry, operand, operand_data}
use Rattle.sil_verifier_frames.specs.holder_model.Frames.{operands_of, plain_address, plain_entry, put_entry, result_put}
use Rattle.sil_verifier_frames.specs.holder_model.Frames.{results_put, unless_dead, used_datum, with_ok}
use Rattle.sil_verifier_frames.specs.holder_model_laws.HolderLaws.inner.Built.FrameObjects.{Names}
use Rattle.sil_verifier_frames.proofs.sil_verifier_trails.HeldEntries.EntriesEnded.{entry_set_other, entry_set_same}
use Rattle.instruction_table.specs.declared.entries.Role.{Role}
use Rattle.instruction_table.specs.declared.entries.Role.TheVariants as role
use Rattle.sil_cfg_items.specs.declared.taken.Taken.{Taken}
use Rattle.sil_verifier_frames.specs.ownership_kinds_chains.OwnershipChains.Facts.{has, known_or, value_of}
use Rattle.sil_verifier_frames.specs.ownership_kinds_chains.declared.ownership_chains.facts.Facts.{Facts}
use Rattle.sil_verifier_frames.specs.ownership_kinds_chains.OwnershipMarks.Marks.{ended_by, ended_with}
use Rattle.holder_model_values.specs.RunValues.Memory.{Memory}
use Rattle.holder_model_values.specs.RunValues.Places.{Home, Inside, OnStack}
use Rattle.holder_model_values.specs.RunValues.Values.{references_of}
use Rattle.sil_ast.specs.declared.place.ValueId.{ValueId}
use Rattle.sil_types_declarations.specs.declared.type_definitions.kind.Kind.{Kind}
use Rattle.sil_types_declarations.specs.declared.type_definitions.kind.Kind.TheVariants as kind
use Rattle.sil_verifier_frames.proofs.Typed.Operands.{joined, operand_there, operands_read}

-- ---- results

plain_named : (x : Datum) (e : Entry) → plain_entry x ≡ Ok e → datum_in e ≡ Some x
plain_named (ValueOf v) e is = at (has_any (references_of v)) is
  where
    at : (b : Bool) → cond b (Err WrongShape) (Ok (Plain (ValueOf v))) ≡ Ok e → datum_in e ≡ Some (ValueOf v)
    at true h = absurd (cc)
    at false h = let same : e ≡ Plain (ValueOf v) = cc in ap datum_in same
plain_named (AddressOf p) e is = at p.home is
  where
    at : (h : Home) → ◌≡◌ {A = Result Entry HolderFault} (Ok (plain_address h (AddressOf p))) (Ok e) → datum_in e ≡ Some (AddressOf p)
    at OnStack h = let same : e ≡ Plain (AddressOf p) = cc in ap datum_in same
    at (Inside o) h = let same : e ≡ Lent (AddressOf p) = cc in ap datum_in same
plain_named (FunctionOf g) e is = let same : e ≡ Plain (FunctionOf g) = cc in ap datum_in same

made_named : (k : Kind) (x : Datum) (e : Entry) → made_entry k x ≡ Ok e → datum_in e ≡ Some x
made_named kind.Owned x e is = let same : e ≡ Held x = cc in ap datum_in same
made_named kind.Guaranteed x e is = let same : e ≡ Lent x = cc in ap datum_in same
made_named kind.Plain x e is = plain_named x e is

same_value : (v w : ValueId) → (v.0 == w.0) ≡ true → v ≡ w
same_value v w e = ap value_of (eqb-true v.0 w.0 e)

-- what an entry names is that of one of the entries
pub named_within : (entries : List Entry) (v : ValueId) (x : Datum) → Names entries v x → v.0 < length entries
named_within entries v x names = at (slice_get entries v.0) refl names
  where
    at : (o : Option Entry) → slice_get entries v.0 ≡ o → datum_in (unwrap_or o Gone) ≡ Some x → v.0 < length entries
    at None is h = absurd (none-some x h)
    at (Some e) is h = slice_get_within entries v.0 e is

-- the value is among those that begin, with the datum
pub record Begun (vs : List ValueId) (xs : List Datum) (v : ValueId) (x : Datum) : Type 0 where
  pub place : ℕ
  pub value : slice_get vs place ≡ Some v
  pub datum : slice_get xs place ≡ Some x

module _ (facts : ValueId → Option Facts) where
  -- a value begins
  pub record IsPut (v : ValueId) (x : Datum) (entries behind : List Entry) : Type 0 where
    pub entry : Entry
    pub made : made_entry (known_or facts v).kind x ≡ Ok entry
    pub free : is_held (entry_at entries v) ≡ false
    pub behind_is : behind ≡ set entries v.0 entry

  pub put_so : (v : ValueId) (x : Datum) (entries behind : List Entry) → result_put facts v x entries ≡ Ok behind → IsPut v x entries behind
  put_so v x entries behind is = at (made_entry (known_or facts v).kind x) refl is
    where
      free : (e : Entry) → made_entry (known_or facts v).kind x ≡ Ok e → (b : Bool) → is_held (entry_at entries v) ≡ b
          → cond b (Err OverwritesHeld) (Ok (set entries v.0 e)) ≡ Ok behind → IsPut v x entries behind
      free e made true held h = absurd (cc)
      free e made false held h = record { entry = e; made = made; free = held; behind_is = let same : set entries v.0 e ≡ behind = cc in sym same }

      at : (r : Result Entry HolderFault) → made_entry (known_or facts v).kind x ≡ r → with_ok (put_entry entries v) r ≡ Ok behind → IsPut v x entries behind
      at (Ok e) made h = free e made (is_held (entry_at entries v)) refl h
      at (Err y) made h = absurd (cc)

  -- the first of several, and then the others
  pub first_put : (v : ValueId) (vs : List ValueId) (x : Datum) (xs : List Datum) (entries behind : List Entry) → results_put facts (v ∷ vs) (x ∷ xs) entries ≡ Ok behind
      → (next : List Entry) × IsPut v x entries next × (results_put facts vs xs next ≡ Ok behind)
  first_put v vs x xs entries behind is = at (result_put facts v x entries) refl is
    where
      at : (r : Result (List Entry) HolderFault) → result_put facts v x entries ≡ r → with_ok (results_put facts vs xs) r ≡ Ok behind
          → (next : List Entry) × IsPut v x entries next × (results_put facts vs xs next ≡ Ok behind)
      at (Ok next) e h = (next, put_so v x entries next e, h)
      at (Err y) e h = absurd (cc)

  -- a value that doesn't begin has the entry that it had
  pub put_other : (vs : List ValueId) (xs : List Datum) (entries behind : List Entry) → results_put facts vs xs entries ≡ Ok behind → (v : ValueId) → has vs v.0 ≡ false
      → entry_at behind v ≡ entry_at entries v
  put_other [] [] entries behind is v none = let same : entries ≡ behind = cc in ap (λ es. entry_at es v) (sym same)
  put_other [] (x ∷ xs) entries behind is v none = absurd (cc)
  put_other (w ∷ vs) [] entries behind is v none = absurd (cc)
  put_other (w ∷ vs) (x ∷ xs) entries behind is v none =
      let p = first_put w vs x xs entries behind is in
      let parts = neither (w.0 == v.0) (has vs v.0) none in
      put_other vs xs p.0 behind p.2 v parts.1
      ∙ ap (λ es. entry_at es v) p.1.behind_is ∙ entry_set_other entries w v p.1.entry (turned v.0 w.0 parts.0)
    where
      neither : (a b : Bool) → (a || b) ≡ false → (a ≡ false) × (b ≡ false)
      neither true b e = absurd (true≢false e)
      neither false b e = (refl, e)

      turned : (a b : ℕ) → (b == a) ≡ false → (a == b) ≡ false
      turned a b e = at (a == b) refl
        where
          at : (t : Bool) → (a == b) ≡ t → t ≡ false
          at false h = refl
          at true h = absurd (true≢false (sym (ap (λ c. c == a) (sym (eqb-true a b h)) ∙ eq-eqb a a refl) ∙ e))

  -- and one that begins names its datum
  pub put_named : (vs : List ValueId) (xs : List Datum) (entries behind : List Entry) → results_put facts vs xs entries ≡ Ok behind → (v : ValueId) → has vs v.0 ≡ true
      → (y : Datum) → Names behind v y → Begun vs xs v y
  put_named [] xs entries behind is v some y names = absurd (false≢true some)
  put_named (w ∷ vs) [] entries behind is v some y names = absurd (cc)
  put_named (w ∷ vs) (x ∷ xs) entries behind is v some y names =
      let p = first_put w vs x xs entries behind is in
      at p.0 p.1 p.2 (λ later. put_named vs xs p.0 behind p.2 v later y names) (has vs v.0) refl
    where
      at : (next : List Entry) → IsPut w x entries next → results_put facts vs xs next ≡ Ok behind → (has vs v.0 ≡ true → Begun vs xs v y)
          → (b : Bool) → has vs v.0 ≡ b → Begun (w ∷ vs) (x ∷ xs) v y
      at next p more others true later = let r = others later in record { place = suc r.place; value = r.value; datum = r.datum }
      at next p more others false none =
          let here : w ≡ v = same_value w v (sideways (w.0 == v.0) (has vs v.0) none some) in
          let stays : Names next v y = ap datum_in (sym (put_other vs xs next behind more v none)) ∙ names in
          let set_names : datum_in (entry_at (set entries w.0 p.entry) w) ≡ Some y =
          ap (λ es. datum_in (entry_at es w)) (sym p.behind_is) ∙ ap (λ (u : ValueId). datum_in (entry_at next u)) here ∙ stays in
          let within : w.0 < length entries = subst (λ n. w.0 < n) (length-set entries w.0 p.entry) (named_within (set entries w.0 p.entry) w y set_names) in
          let named : Some x ≡ Some y =
          sym (made_named (known_or facts w).kind x p.entry p.made) ∙ ap datum_in (sym (entry_set_same entries w p.entry within)) ∙ set_names in
          record { place = 0; value = ap (λ u. Some u) here; datum = named }
        where
          sideways : (a b : Bool) → b ≡ false → (a || b) ≡ true → a ≡ true
          sideways true b none e = refl
          sideways false b none e = absurd (true≢false (sym e ∙ none))

-- ---- operands

-- the operands of an item, one by one: each was named by its value's entry, and names no dead object. That of an address is named still behind the ends
abbrev pub AreNamed : Memory → List Entry → List Entry → List Taken → List Datum → Type 0
AreNamed memory entries left [] [] = Unit {0}
AreNamed memory entries left [] (x ∷ xs) = ⊥
AreNamed memory entries left (t ∷ ts) [] = ⊥
AreNamed memory entries left (t ∷ ts) (x ∷ xs) =
    (Names entries t.value x × (any_dead memory (references_in x) ≡ false) × (t.role ≡ role.AddressRole → Names left t.value x)) × AreNamed memory entries left ts xs

-- an address isn't ended
address_unended : (facts : ValueId → Option Facts) (t : Taken) → t.role ≡ role.AddressRole → ends facts t ≡ false
address_unended facts t is = at (facts t.value)
  where
    by_kind : (k : Kind) → has_any (ended_by k role.AddressRole t.value) ≡ false
    by_kind kind.Owned = refl
    by_kind kind.Guaranteed = refl
    by_kind kind.Plain = refl

    at : (o : Option Facts) → has_any (ended_with o t) ≡ false
    at None = refl
    at (Some x) = ap (λ r. has_any (ended_by x.kind r t.value)) is ∙ by_kind x.kind

used_named : (r : Role) (e : Entry) (x : Datum) → used_datum r e ≡ Ok x → datum_in e ≡ Some x
used_named r Gone x is = absurd (cc)
used_named r (Held y) x is = cc
used_named r (Lent y) x is = at (is_consumed r) is
  where
    at : (b : Bool) → cond b (Err ConsumesLent) (Ok y) ≡ Ok x → datum_in (Lent y) ≡ Some x
    at true h = absurd (cc)
    at false h = cc
used_named r (Plain y) x is = cc

module _ (facts : ValueId → Option Facts) (memory : Memory) (entries left : List Entry)
    (stays : (v : ValueId) → (entry_at left v ≡ entry_at entries v) ⊎ (entry_at left v ≡ Gone)) where
  left_named : (v : ValueId) (x : Datum) → Names left v x → Names entries v x
  left_named v x names = by (stays v)
    where
      by : (entry_at left v ≡ entry_at entries v) ⊎ (entry_at left v ≡ Gone) → Names entries v x
      by (inl same) = ap datum_in (sym same) ∙ names
      by (inr gone) = absurd (none-some x (sym (ap datum_in gone) ∙ names))

  -- what is read names no dead object
  alive : (r : Result Datum HolderFault) (x : Datum) → with_ok (unless_dead memory) r ≡ Ok x → (any_dead memory (references_in x) ≡ false) × (◌≡◌ {A = Result Datum HolderFault} r (Ok x))
  alive (Err y) x h = absurd (cc)
  alive (Ok y) x h = at (any_dead memory (references_in y)) refl h
    where
      at : (b : Bool) → any_dead memory (references_in y) ≡ b → ◌≡◌ {A = Result Datum HolderFault} (cond b (Err NamesDead) (Ok y)) (Ok x)
          → (any_dead memory (references_in x) ≡ false) × (◌≡◌ {A = Result Datum HolderFault} (Ok y) (Ok x))
      at true dead h = absurd (cc)
      at false dead h = let same : y ≡ x = cc in (ap (λ z. any_dead memory (references_in z)) (sym same) ∙ dead, ap Ok same)

  abbrev read_at : Taken → Bool → Result Datum HolderFault
  read_at t b = cond b (datum_or_fault (datum_in (entry_at entries t.value))) (used_datum t.role (entry_at left t.value))

  one_named : (t : Taken) (x : Datum) → operand facts memory entries left t ≡ Ok x
      → Names entries t.value x × (any_dead memory (references_in x) ≡ false) × (t.role ≡ role.AddressRole → Names left t.value x)
  one_named t x is = (by (operand_there facts memory entries left t x is), living.0, address)
    where
      living : (any_dead memory (references_in x) ≡ false) × (read_at t (ends facts t) ≡ Ok x)
      living = alive (read_at t (ends facts t)) x is

      by : (datum_in (entry_at entries t.value) ≡ Some x) ⊎ ((ends facts t ≡ false) × (datum_in (entry_at left t.value) ≡ Some x)) → Names entries t.value x
      by (inl there) = there
      by (inr there) = left_named t.value x there.1

      address : t.role ≡ role.AddressRole → Names left t.value x
      address is_address = used_named t.role (entry_at left t.value) x (sym (ap (read_at t) (address_unended facts t is_address)) ∙ living.1)

  all_named : (ts : List Taken) (xs : List Datum) → operand_data facts memory entries left ts ≡ Ok xs → AreNamed memory entries left ts xs
  all_named [] [] is = tt
  all_named [] (x ∷ xs) is = absurd (cc)
  all_named (t ∷ ts) xs is = at (operand facts memory entries left t) refl (operand_data facts memory entries left ts) (λ ys. all_named ts ys) is
    where
      at : (r : Result Datum HolderFault) → operand facts memory entries left t ≡ r → (rs : Result (List Datum) HolderFault)
          → ((ys : List Datum) → rs ≡ Ok ys → AreNamed memory entries left ts ys) → joined r rs ≡ Ok xs → AreNamed memory entries left (t ∷ ts) xs
      at (Ok x) e (Ok ys) others h = let same : x ∷ ys ≡ xs = cc in subst (AreNamed memory entries left (t ∷ ts)) same (one_named t x e, others ys refl)
      at (Ok x) e (Err z) others h = absurd (cc)
      at (Err z) e rs others h = absurd (cc)

pub operands_named : (facts : ValueId → Option Facts) (memory : Memory) (ts : List Taken) (entries : List Entry) (ops : Operands)
    → ((v : ValueId) → (entry_at ops.left v ≡ entry_at entries v) ⊎ (entry_at ops.left v ≡ Gone)) → operands_of facts memory entries ts ≡ Ok ops
    → AreNamed memory entries ops.left ts ops.given
operands_named facts memory ts entries ops stays is =
    let read = operands_read facts memory ts entries ops is in all_named facts memory entries ops.left stays ts ops.given read.given
