-- Values under their lowered numbers: what an item takes in the run by holders is read in the lowered one, and what begins is put there.
use Rattle.std.proofs.Common.{◌≡◌, ◌⊎◌, inl, inr, ⊎_elim, ℕ, zero, suc, ◌<◌, List, [], ◌∷◌, map, length, set, refl, sym, ap, ◌∙◌, subst, Bool, true, false, cond, Option, Some, None, Ok, Err}
use Rattle.std.specs.Prelude.{◌==◌, slice_get, unwrap_or}
use Rattle.std.specs.List.{AllZip}
use Rattle.std.specs.declared.result.Result.{Result}
use Rattle.std.proofs.lemmas.Bool.{cases_Bool, eqb-false, eqb-true, false≢true, or_cases}
use Rattle.std.proofs.lemmas.List.{get_or-set_other, get_or-set_same, length-set}
use Rattle.std.proofs.lemmas.Option.{none-some, same_Some, unwrap_or-slice_get}
use Rattle.instruction_table.specs.declared.entries.Role.{Role}
use Rattle.numbered_form.specs.Lists.{Each}
use Rattle.sil_ast.specs.declared.place.ValueId.{ValueId}
use Rattle.sil_cfg_items.specs.declared.taken.Taken.{Taken}
use Rattle.ownership_kinds_chains.specs.OwnershipChains.Facts.{has, known_or}
use Rattle.ownership_kinds_chains.specs.declared.ownership_chains.facts.Facts.{Facts}
use Rattle.sil_types_declarations.specs.declared.type_definitions.kind.Kind.{Kind}
use Rattle.sil_types_declarations.specs.declared.type_definitions.kind.Kind.TheVariants as kind
use Rattle.holder_model_values.specs.RunValues.Memory.{Memory}
use Rattle.holder_model_values.specs.RunValues.Places.{Home, Inside, OnStack}
use Rattle.holder_model_values.specs.RunValues.Values.{references_of}
use Rattle.sil_verifier_runs.specs.holder_model.Data.{AddressOf, Datum, FunctionOf, ValueOf, references_in}
use Rattle.sil_verifier_runs.specs.holder_model.Faults.{ConsumesLent, HolderFault, NamesDead, NoEntry, OverwritesHeld, WrongShape}
use Rattle.sil_verifier_runs.specs.holder_model.Frames.{Entry, Gone, Held, Lent, Plain, Operands, and_more, any_dead, datum_in, datum_or_fault, ended_entry, ends, entry_at, has_any}
use Rattle.sil_verifier_runs.specs.holder_model.Frames.{is_consumed, is_held, made_entry, operand, plain_address, operand_data, operands_of}
use Rattle.sil_verifier_runs.specs.holder_model.Frames.{plain_entry, put_entry, results_put, unless_dead, used_datum, with_ok, without_ended}
use Rattle.sil_verifier_runs.specs.holder_model.LoweredRun.LowFrames as low_frames
use Rattle.sil_verifier_runs.specs.holder_model.LoweredRun.LowFrames.{and_others, put_all, read_all, there}

-- ---- results of the run by holders

pub ok-ok : {A : Type 0} (x y : A) → ◌≡◌ {A = Result A HolderFault} (Ok x) (Ok y) → x ≡ y
ok-ok x y e = ap (by x) e
  where
    by : {A : Type 0} → A → Result A HolderFault → A
    by d (Ok x) = x
    by d (Err x) = d

pub err-ok : {A : Type 0} (x : HolderFault) (y : A) → ◌≡◌ {A = Result A HolderFault} (Err x) (Ok y) → ⊥
err-ok x y e = subst by e tt
  where
    by : {A : Type 0} → Result A HolderFault → Type 0
    by (Ok x) = ⊥
    by (Err x) = Unit {0}

with_parts : {A B : Type 0} (go : A → Result B HolderFault) (r : Result A HolderFault) (y : B) → with_ok go r ≡ Ok y → (x : A) × (r ≡ Ok x) × (go x ≡ Ok y)
with_parts go (Ok x) y e = (x, refl, e)
with_parts go (Err x) y e = absurd (err-ok x y e)

-- ---- entries that are set

same_number : (v w : ValueId) → v.0 ≡ w.0 → v ≡ w
same_number v w e = ap (λ n. record { 0 = n }) e

entry_other : (entries : List Entry) (v w : ValueId) (e : Entry) → (w.0 == v.0) ≡ false → entry_at (set entries v.0 e) w ≡ entry_at entries w
entry_other entries v w e other =
    unwrap_or-slice_get (set entries v.0 e) w.0 Gone ∙ get_or-set_other entries v.0 w.0 e Gone (eqb-false w.0 v.0 other)
    ∙ sym (unwrap_or-slice_get entries w.0 Gone)

-- what a set entry holds, if there is one
entry_same : (entries : List Entry) (k : ℕ) (e : Entry) (x : Datum) → datum_in (unwrap_or (slice_get (set entries k e) k) Gone) ≡ Some x → datum_in e ≡ Some x
entry_same [] k e x is = absurd (none-some x is)
entry_same (a ∷ entries) zero e x is = is
entry_same (a ∷ entries) (suc k) e x is = entry_same entries k e x is

-- ---- what an item takes

module _ (facts : ValueId → Option Facts) (m : Memory) where
  -- the datum of the value that is taken
  abbrev pub IsGiven : List Entry → Taken → Datum → Type 0
  IsGiven entries t x = datum_in (entry_at entries t.value) ≡ Some x

  abbrev pub Stays : List Entry → List Entry → Type 0
  Stays left entries = (v : ValueId) (x : Datum) → datum_in (entry_at left v) ≡ Some x → datum_in (entry_at entries v) ≡ Some x

  gone_stays : (entries : List Entry) (v : ValueId) → Stays (set entries v.0 Gone) entries
  gone_stays entries v w x e = at (cases_Bool (w.0 == v.0))
    where
      at : ((w.0 == v.0) ≡ true) ⊎ ((w.0 == v.0) ≡ false) → datum_in (entry_at entries w) ≡ Some x
      at (inl same) =
          absurd (none-some x (entry_same entries v.0 Gone x (subst (λ n. datum_in (unwrap_or (slice_get (set entries v.0 Gone) n) Gone) ≡ Some x) (eqb-true w.0 v.0 same) e)))
      at (inr other) = sym (ap datum_in (entry_other entries v w Gone other)) ∙ e

  ended_stays : (v : ValueId) (entries left : List Entry) (e : Entry) → ended_entry v entries e ≡ Ok left → Stays left entries
  ended_stays v entries left Gone is = absurd (err-ok NoEntry left is)
  ended_stays v entries left (Held x) is = subst (λ l. Stays l entries) (ok-ok (set entries v.0 Gone) left is) (gone_stays entries v)
  ended_stays v entries left (Lent x) is = subst (λ l. Stays l entries) (ok-ok (set entries v.0 Gone) left is) (gone_stays entries v)
  ended_stays v entries left (Plain x) is = subst (λ l. Stays l entries) (ok-ok entries left is) (λ w y h. h)

  without_stays : (ts : List Taken) (entries left : List Entry) → without_ended facts ts entries ≡ Ok left → Stays left entries
  without_stays [] entries left is = subst (λ l. Stays l entries) (ok-ok entries left is) (λ w y h. h)
  without_stays (t ∷ ts) entries left is = at (ends facts t) is (λ es. without_stays ts es left)
    where
      at : (b : Bool) → cond b (with_ok (without_ended facts ts) (ended_entry t.value entries (entry_at entries t.value))) (without_ended facts ts entries) ≡ Ok left
          → ((es : List Entry) → without_ended facts ts es ≡ Ok left → Stays left es) → Stays left entries
      at true e more =
          let parts = with_parts (without_ended facts ts) (ended_entry t.value entries (entry_at entries t.value)) left e in
          λ w y h. ended_stays t.value entries parts.0 (entry_at entries t.value) parts.1 w y (more parts.0 parts.2 w y h)
      at false e more = more entries e

  used_given : (r : Role) (e : Entry) (x : Datum) → used_datum r e ≡ Ok x → datum_in e ≡ Some x
  used_given r Gone x is = absurd (err-ok NoEntry x is)
  used_given r (Held y) x is = ap Some (ok-ok y x is)
  used_given r (Lent y) x is = at (is_consumed r) is
    where
      at : (b : Bool) → cond b (Err ConsumesLent) (Ok y) ≡ Ok x → Some y ≡ Some x
      at true e = absurd (err-ok ConsumesLent x e)
      at false e = ap Some (ok-ok y x e)
  used_given r (Plain y) x is = ap Some (ok-ok y x is)

  found_given : (o : Option Datum) (x : Datum) → datum_or_fault o ≡ Ok x → o ≡ Some x
  found_given None x is = absurd (err-ok NoEntry x is)
  found_given (Some y) x is = ap Some (ok-ok y x is)

  alive_given : (y x : Datum) → unless_dead m y ≡ Ok x → (y ≡ x) × (any_dead m (references_in x) ≡ false)
  alive_given y x is = at (any_dead m (references_in y)) refl is
    where
      at : (b : Bool) → any_dead m (references_in y) ≡ b → cond b (Err NamesDead) (Ok y) ≡ Ok x → (y ≡ x) × (any_dead m (references_in x) ≡ false)
      at true d e = absurd (err-ok NamesDead x e)
      at false d e = let same = ok-ok y x e in (same, subst (λ z. any_dead m (references_in z) ≡ false) same d)

  -- the datum is that of the value's entry, and names no dead object
  abbrev pub IsGivenAlive : List Entry → Taken → Datum → Type 0
  IsGivenAlive entries t x = IsGiven entries t x × (any_dead m (references_in x) ≡ false)

  operand_given : (entries left : List Entry) (t : Taken) (x : Datum) → Stays left entries → operand facts m entries left t ≡ Ok x → IsGivenAlive entries t x
  operand_given entries left t x stays is =
      let parts = with_parts (unless_dead m) (cond (ends facts t) (datum_or_fault (datum_in (entry_at entries t.value))) (used_datum t.role (entry_at left t.value))) x is in
      let lives = alive_given parts.0 x parts.2 in
      (at (ends facts t) parts.1 ∙ ap Some lives.0, lives.1)
    where
      at : {y : Datum} (b : Bool) → cond b (datum_or_fault (datum_in (entry_at entries t.value))) (used_datum t.role (entry_at left t.value)) ≡ Ok y
          → datum_in (entry_at entries t.value) ≡ Some y
      at {y} true e = found_given (datum_in (entry_at entries t.value)) y e
      at {y} false e = stays t.value y (used_given t.role (entry_at left t.value) y e)

  more_parts : (x : Datum) (r : Result (List Datum) HolderFault) (ys : List Datum) → and_more x r ≡ Ok ys → (xs : List Datum) × (r ≡ Ok xs) × (x ∷ xs ≡ ys)
  more_parts x (Ok xs) ys e = (xs, refl, ok-ok (x ∷ xs) ys e)
  more_parts x (Err y) ys e = absurd (err-ok y ys e)

  data_given : (entries left : List Entry) (ts : List Taken) (xs : List Datum) → Stays left entries → operand_data facts m entries left ts ≡ Ok xs
      → AllZip (IsGivenAlive entries) ts xs
  data_given entries left [] xs stays is = subst (AllZip (IsGivenAlive entries) []) (ok-ok [] xs is) tt
  data_given entries left (t ∷ ts) xs stays is =
      let first = with_parts (λ x. and_more x (operand_data facts m entries left ts)) (operand facts m entries left t) xs is in
      let rest = more_parts first.0 (operand_data facts m entries left ts) xs first.2 in
      subst (AllZip (IsGivenAlive entries) (t ∷ ts)) rest.2 (operand_given entries left t first.0 stays first.1, data_given entries left ts rest.0 stays rest.1)

  pub record AreTakenSo (entries : List Entry) (ts : List Taken) (ops : Operands) : Type 0 where
    pub given : AllZip (IsGivenAlive entries) ts ops.given
    pub stays : Stays ops.left entries

  -- the operands of an item are the data of its values
  pub operands_given : (entries : List Entry) (ts : List Taken) (ops : Operands) → operands_of facts m entries ts ≡ Ok ops → AreTakenSo entries ts ops
  operands_given entries ts ops is =
      let first = with_parts (λ left. with_ok (λ xs. Ok (record { given = xs; left = left })) (operand_data facts m entries left ts)) (without_ended facts ts entries) ops is in
      let rest = with_parts (λ xs. Ok (record { given = xs; left = first.0 })) (operand_data facts m entries first.0 ts) ops first.2 in
      let stays = without_stays ts entries first.0 first.1 in
      subst (AreTakenSo entries ts) (ok-ok (record { given = rest.0; left = first.0 }) ops rest.2)
      (record { given = data_given entries first.0 ts rest.0 stays rest.1; stays = stays })

-- ---- values of the lowered run

-- what stands under each number is read
pub read_so : (values : List (Option Datum)) (vs : List ValueId) (xs : List Datum) → AllZip (λ v x. low_frames.value_at values v ≡ Some x) vs xs
    → read_all values vs ≡ Ok xs
read_so values [] [] h = refl
read_so values [] (x ∷ xs) h = absurd h
read_so values (v ∷ vs) [] h = absurd h
read_so values (v ∷ vs) (x ∷ xs) h =
    ap (λ o. and_others (there v o) (read_all values vs)) h.0 ∙ ap (and_others (Ok x)) (read_so values vs xs h.1)

pub value_set : (values : List (Option Datum)) (v : ValueId) (x : Datum) → v.0 < length values → low_frames.value_at (set values v.0 (Some x)) v ≡ Some x
value_set values v x lt = unwrap_or-slice_get (set values v.0 (Some x)) v.0 None ∙ get_or-set_same values v.0 (Some x) None lt

pub value_other : (values : List (Option Datum)) (v w : ValueId) (x : Datum) → (w.0 == v.0) ≡ false → low_frames.value_at (set values v.0 (Some x)) w ≡ low_frames.value_at values w
value_other values v w x other =
    unwrap_or-slice_get (set values v.0 (Some x)) w.0 None ∙ get_or-set_other values v.0 w.0 (Some x) None (eqb-false w.0 v.0 other)
    ∙ sym (unwrap_or-slice_get values w.0 None)

-- ---- entries that are made

module _ (facts : ValueId → Option Facts) where
  plain_datum : (x : Datum) (e : Entry) → plain_entry x ≡ Ok e → datum_in e ≡ Some x
  plain_datum (ValueOf x) e is = at (has_any (references_of x)) is
    where
      at : (b : Bool) → cond b (Err WrongShape) (Ok (Plain (ValueOf x))) ≡ Ok e → datum_in e ≡ Some (ValueOf x)
      at true q = absurd (err-ok WrongShape e q)
      at false q = sym (ap datum_in (ok-ok (Plain (ValueOf x)) e q))
  plain_datum (AddressOf p) e is = sym (ap datum_in (ok-ok _ e is)) ∙ at p.home
    where
      at : (h : Home) → datum_in (plain_address h (AddressOf p)) ≡ Some (AddressOf p)
      at OnStack = refl
      at (Inside o) = refl
  plain_datum (FunctionOf g) e is = sym (ap datum_in (ok-ok (Plain (FunctionOf g)) e is))

  made_datum : (k : Kind) (x : Datum) (e : Entry) → made_entry k x ≡ Ok e → datum_in e ≡ Some x
  made_datum kind.Owned x e is = sym (ap datum_in (ok-ok (Held x) e is))
  made_datum kind.Guaranteed x e is = sym (ap datum_in (ok-ok (Lent x) e is))
  made_datum kind.Plain x e is = plain_datum x e is

  put_set : (entries left : List Entry) (v : ValueId) (e : Entry) → put_entry entries v e ≡ Ok left → set entries v.0 e ≡ left
  put_set entries left v e is = at (is_held (entry_at entries v)) is
    where
      at : (b : Bool) → cond b (Err OverwritesHeld) (Ok (set entries v.0 e)) ≡ Ok left → set entries v.0 e ≡ left
      at true q = absurd (err-ok OverwritesHeld left q)
      at false q = ok-ok (set entries v.0 e) left q

  -- one entry is changed, and the others stay
  pub record OneChanged (entries behind : List Entry) (r : ValueId) (x : Datum) : Type 0 where
    pub here : (y : Datum) → datum_in (entry_at behind r) ≡ Some y → Some y ≡ Some x
    pub others : (v : ValueId) → (v.0 == r.0) ≡ false → entry_at behind v ≡ entry_at entries v

  pub one_put : (entries behind : List Entry) (r : ValueId) (x : Datum) → results_put facts (r ∷ []) (x ∷ []) entries ≡ Ok behind → OneChanged entries behind r x
  one_put entries behind r x is =
      let first = with_parts (results_put facts [] []) (with_ok (put_entry entries r) (made_entry (known_or facts r).kind x)) behind is in
      let parts = with_parts (put_entry entries r) (made_entry (known_or facts r).kind x) first.0 first.1 in
      let same : set entries r.0 parts.0 ≡ behind = put_set entries first.0 r parts.0 parts.2 ∙ ok-ok first.0 behind first.2 in
      subst (λ es. OneChanged entries es r x) same (record {
        here = λ y e. sym (entry_same entries r.0 parts.0 y e) ∙ made_datum (known_or facts r).kind x parts.0 parts.1;
        others = λ v other. entry_other entries r v parts.0 other;
      })

-- what stands under a value's number is like the datum of its entry
module _ (number : ValueId → ValueId) (Like : ValueId → Datum → Datum → Type 0) where
  abbrev pub IsLikeAt : ValueId → Datum → Option Datum → Type 0
  IsLikeAt v x o = (y : Datum) × (o ≡ Some y) × Like v x y

  -- each of these values whose entry is there has a datum under its number that is like that of the entry
  abbrev pub Shown : (ValueId → Type 0) → List Entry → List (Option Datum) → Type 0
  Shown ok entries values = (v : ValueId) (x : Datum) → datum_in (entry_at entries v) ≡ Some x → ok v → IsLikeAt v x (low_frames.value_at values (number v))

  -- a value's number was written for it, or is kept from before
  abbrev pub OrWritten : ValueId → (ValueId → Type 0) → ValueId → Type 0
  OrWritten r ok v = (v.0 ≡ r.0) ⊎ ((((number v).0 == (number r).0) ≡ false) × ok v)

  abbrev pub Behind : List ValueId → (ValueId → Type 0) → ValueId → Type 0
  Behind [] ok = ok
  Behind (r ∷ rs) ok = Behind rs (OrWritten r ok)

  -- so many data, each like that of the run by holders, as far as these are results
  abbrev pub AreLike : List ValueId → List Datum → List Datum → Type 0
  AreLike [] [] [] = Unit {0}
  AreLike [] [] (y ∷ ys) = ⊥
  AreLike [] (x ∷ xs) ys = Unit {0}
  AreLike (r ∷ rs) [] ys = Unit {0}
  AreLike (r ∷ rs) (x ∷ xs) [] = ⊥
  AreLike (r ∷ rs) (x ∷ xs) (y ∷ ys) = Like r x y × AreLike rs xs ys

  pub like_same : ((v : ValueId) (x : Datum) → Like v x x) → (rs : List ValueId) (xs : List Datum) → AreLike rs xs xs
  like_same h [] [] = tt
  like_same h [] (x ∷ xs) = tt
  like_same h (r ∷ rs) [] = tt
  like_same h (r ∷ rs) (x ∷ xs) = (h r x, like_same h rs xs)

  module _ (facts : ValueId → Option Facts) where
    -- one result is put under its number
    one_shown : (r : ValueId) (x y : Datum) → Like r x y → (entries behind : List Entry) (values : List (Option Datum)) (ok : ValueId → Type 0)
        → (number r).0 < length values → with_ok (put_entry entries r) (made_entry (known_or facts r).kind x) ≡ Ok behind → Shown ok entries values
        → Shown (OrWritten r ok) behind (set values (number r).0 (Some y))
    one_shown r x y like entries behind values ok small is shown v z there so = at (cases_Bool (v.0 == r.0)) so
      where
        parts : (e : Entry) × (made_entry (known_or facts r).kind x ≡ Ok e) × (put_entry entries r e ≡ Ok behind)
        parts = with_parts (put_entry entries r) (made_entry (known_or facts r).kind x) behind is

        there' : datum_in (entry_at (set entries r.0 parts.0) v) ≡ Some z
        there' = ap (λ es. datum_in (entry_at es v)) (put_set facts entries behind r parts.0 parts.2) ∙ there

        at : ((v.0 == r.0) ≡ true) ⊎ ((v.0 == r.0) ≡ false) → OrWritten r ok v → IsLikeAt v z (low_frames.value_at (set values (number r).0 (Some y)) (number v))
        at (inl same) so =
            let one : v.0 ≡ r.0 = eqb-true v.0 r.0 same in
            let here : datum_in parts.0 ≡ Some z = entry_same entries r.0 parts.0 z (subst (λ n. datum_in (unwrap_or (slice_get (set entries r.0 parts.0) n) Gone) ≡ Some z) one there') in
            let worth : x ≡ z = same_Some x z (sym (made_datum facts (known_or facts r).kind x parts.0 parts.1) ∙ here) in
            subst (λ u. IsLikeAt u z (low_frames.value_at (set values (number r).0 (Some y)) (number u))) (same_number r v (sym one))
            (y, value_set values (number r) y small, subst (λ w. Like r w y) worth like)
        at (inr other) (inl one) = absurd (eqb-false v.0 r.0 other one)
        at (inr other) (inr (differ, k)) =
            let was = shown v z (sym (ap datum_in (entry_other entries r v parts.0 other)) ∙ there') k in
            (was.0, value_other values (number r) (number v) y differ ∙ was.1, was.2)

    pub record ArePut (rs : List ValueId) (ys : List Datum) (behind : List Entry) (values : List (Option Datum)) (ok : ValueId → Type 0) : Type 0 where
      pub values' : List (Option Datum)
      pub is : put_all (map number rs) ys values ≡ Some values'
      pub size : length values' ≡ length values
      pub shown : Shown (Behind rs ok) behind values'

    -- results that have names of their own are put under their numbers
    pub results_shown : (rs : List ValueId) (xs ys : List Datum) → AreLike rs xs ys → (entries behind : List Entry) (values : List (Option Datum)) (ok : ValueId → Type 0)
        → Each (λ r. (number r).0 < length values) rs → results_put facts rs xs entries ≡ Ok behind → Shown ok entries values
        → ArePut rs ys behind values ok
    results_shown [] [] [] like entries behind values ok small is shown =
        record { values' = values; is = refl; size = refl; shown = subst (λ es. Shown ok es values) (ok-ok entries behind is) shown }
    results_shown [] [] (y ∷ ys) like entries behind values ok small is shown = absurd like
    results_shown [] (x ∷ xs) ys like entries behind values ok small is shown = absurd (err-ok WrongShape behind is)
    results_shown (r ∷ rs) [] ys like entries behind values ok small is shown = absurd (err-ok WrongShape behind is)
    results_shown (r ∷ rs) (x ∷ xs) [] like entries behind values ok small is shown = absurd like
    results_shown (r ∷ rs) (x ∷ xs) (y ∷ ys) like entries behind values ok small is shown =
        let parts = with_parts (results_put facts rs xs) (with_ok (put_entry entries r) (made_entry (known_or facts r).kind x)) behind is in
        let same = length-set values (number r).0 (Some y) in
        let rest = results_shown rs xs ys like.1 parts.0 behind (set values (number r).0 (Some y)) (OrWritten r ok)
        (subst (λ n. Each (λ r. (number r).0 < n) rs) (sym same) small.1)
        parts.2 (one_shown r x y like.0 entries parts.0 values ok small.0 parts.1 shown) in
        record { values' = rest.values'; is = rest.is; size = rest.size ∙ same; shown = rest.shown }

  -- a value among those that were put is behind them, where numbers tell values apart
  pub behind_put : (rs : List ValueId) (ok : ValueId → Type 0) (v : ValueId) → Each (λ r. (number v).0 ≡ (number r).0 → v.0 ≡ r.0) rs
      → ok v ⊎ (has rs v.0 ≡ true) → Behind rs ok v
  behind_put [] ok v apart (inl k) = k
  behind_put [] ok v apart (inr h) = absurd (false≢true h)
  behind_put (r ∷ rs) ok v apart k = behind_put rs (OrWritten r ok) v apart.1 (at (cases_Bool ((number v).0 == (number r).0)) k)
    where
      at : (((number v).0 == (number r).0) ≡ true) ⊎ (((number v).0 == (number r).0) ≡ false) → ok v ⊎ (has (r ∷ rs) v.0 ≡ true)
          → OrWritten r ok v ⊎ (has rs v.0 ≡ true)
      at (inl same) k = inl (inl (apart.0 (eqb-true (number v).0 (number r).0 same)))
      at (inr differ) (inl k) = inl (inr (differ, k))
      at (inr differ) (inr h) = ⊎_elim (λ here. inl (inl (sym (eqb-true r.0 v.0 here)))) (λ later. inr later) (or_cases (r.0 == v.0) (has rs v.0) h)
