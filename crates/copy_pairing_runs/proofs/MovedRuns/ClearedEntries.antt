-- Entries of which that of one value is gone: operands and results of an item that doesn't touch the value.
use Rattle.std.proofs.Common.{◌≡◌, ℕ, zero, suc, List, [], ◌∷◌, set, refl, sym, ap, ap₂, ◌∙◌, subst, Bool, true, false, cond, Option, Ok, Err}
use Rattle.std.specs.declared.result.Result.{Result}
use Rattle.std.proofs.lemmas.Bool.{ne_eqb, true≢false}
use Rattle.sil_cfg_items.specs.declared.taken.Taken.{Taken}
use Rattle.numbered_form.specs.Lists.{Each}
use Rattle.ownership_kinds_chains.specs.OwnershipChains.Facts.{known_or}
use Rattle.ownership_kinds_chains.specs.declared.ownership_chains.facts.Facts.{Facts}
use Rattle.sil_ast.specs.declared.place.ValueId.{ValueId}
use Rattle.holder_model_values.specs.RunValues.Memory.{Memory}
use Rattle.holder_model_laws.specs.holder_model.Data.{Datum}
use Rattle.holder_model_laws.specs.holder_model.Faults.{HolderFault, OverwritesHeld}
use Rattle.holder_model_laws.specs.holder_model.Frames.{Entry, Gone, Held, Lent, Plain, Operands, and_more, datum_in, datum_or_fault, ended_entry, ends, entry_at, is_held, made_entry}
use Rattle.holder_model_laws.specs.holder_model.Frames.{operand, operand_data, operands_of, put_entry, results_put, unless_dead, used_datum, with_ok, without_ended}
use Rattle.sil_verifier_runs.proofs.sil_verifier_trails.HeldEntries.EntriesEnded.{entry_set_other}

pub same_ok : {A : Type 0} (a b : A) → (let r : Result A HolderFault = Ok a in r) ≡ Ok b → a ≡ b
same_ok a b e = cc

-- ---- one entry

pub set_swap : (es : List Entry) (a b : ℕ) (x y : Entry) → (b ≡ a → ⊥) → set (set es a x) b y ≡ set (set es b y) a x
set_swap [] a b x y ne = refl
set_swap (e ∷ es) zero zero x y ne = absurd (ne refl)
set_swap (e ∷ es) zero (suc b) x y ne = refl
set_swap (e ∷ es) (suc a) zero x y ne = refl
set_swap (e ∷ es) (suc a) (suc b) x y ne = ap (λ l. e ∷ l) (set_swap es a b x y (λ q. ne (ap suc q)))

-- another value's entry stays
pub stays : (es : List Entry) (v w : ValueId) (e : Entry) → (w.0 ≡ v.0 → ⊥) → entry_at (set es v.0 e) w ≡ entry_at es w
stays es v w e ne = entry_set_other es v w e (ne_eqb w.0 v.0 ne)

-- ---- operands

-- none of the operands is of the value
abbrev pub AreOthers : ValueId → List Taken → Type 0
AreOthers v ts = Each (λ (t : Taken). t.value.0 ≡ v.0 → ⊥) ts

module _ (facts : ValueId → Option Facts) where
  -- none of them ends the value
  abbrev pub EndNot : ValueId → List Taken → Type 0
  EndNot w ts = Each (λ (t : Taken). ends facts t ≡ true → t.value.0 ≡ w.0 → ⊥) ts

  -- what isn't taken isn't ended
  pub others_end_not : (v : ValueId) (ts : List Taken) → AreOthers v ts → EndNot v ts
  others_end_not v [] others = tt
  others_end_not v (t ∷ ts) others = (λ is e. others.0 e, others_end_not v ts others.1)

  pub left_kept : (w : ValueId) (ts : List Taken) (es left : List Entry) → EndNot w ts → without_ended facts ts es ≡ Ok left → entry_at left w ≡ entry_at es w
  left_kept w [] es left none is = let same : es ≡ left = cc in ap (λ l. entry_at l w) (sym same)
  left_kept w (t ∷ ts) es left none is = by (λ l h. left_kept w ts l left none.1 h) (ends facts t) (none.0) is
    where
      at : ((l : List Entry) → without_ended facts ts l ≡ Ok left → entry_at left w ≡ entry_at l w) → (t.value.0 ≡ w.0 → ⊥) → (e : Entry)
          → with_ok (without_ended facts ts) (ended_entry t.value es e) ≡ Ok left → entry_at left w ≡ entry_at es w
      at more ne Gone is = absurd (cc)
      at more ne (Held x) is = more (set es t.value.0 Gone) is ∙ stays es t.value w Gone (λ q. ne (sym q))
      at more ne (Lent x) is = more (set es t.value.0 Gone) is ∙ stays es t.value w Gone (λ q. ne (sym q))
      at more ne (Plain x) is = more es is

      by : ((l : List Entry) → without_ended facts ts l ≡ Ok left → entry_at left w ≡ entry_at l w) → (b : Bool) → (b ≡ true → t.value.0 ≡ w.0 → ⊥)
          → cond b (with_ok (without_ended facts ts) (ended_entry t.value es (entry_at es t.value))) (without_ended facts ts es) ≡ Ok left
          → entry_at left w ≡ entry_at es w
      by more false ne is = more es is
      by more true ne is = at more (ne refl) (entry_at es t.value) is

  abbrev More : ValueId → List Taken → List Entry → Type 0
  More v ts left = (l : List Entry) → without_ended facts ts l ≡ Ok left → without_ended facts ts (set l v.0 Gone) ≡ Ok (set left v.0 Gone)

  pub left_cleared : (v : ValueId) (ts : List Taken) (es left : List Entry) → AreOthers v ts → without_ended facts ts es ≡ Ok left
      → without_ended facts ts (set es v.0 Gone) ≡ Ok (set left v.0 Gone)
  left_cleared v [] es left others is = let same : es ≡ left = cc in ap (λ l. Ok (set l v.0 Gone)) same
  left_cleared v (t ∷ ts) es left others is = by (λ l h. left_cleared v ts l left others.1 h) (ends facts t) is
    where
      ended_too : More v ts left → without_ended facts ts (set es t.value.0 Gone) ≡ Ok left
          → without_ended facts ts (set (set es v.0 Gone) t.value.0 Gone) ≡ Ok (set left v.0 Gone)
      ended_too more is = ap (without_ended facts ts) (set_swap es v.0 t.value.0 Gone Gone others.0) ∙ more (set es t.value.0 Gone) is

      at : More v ts left → (e : Entry) → with_ok (without_ended facts ts) (ended_entry t.value es e) ≡ Ok left
          → with_ok (without_ended facts ts) (ended_entry t.value (set es v.0 Gone) e) ≡ Ok (set left v.0 Gone)
      at more Gone is = absurd (cc)
      at more (Held x) is = ended_too more is
      at more (Lent x) is = ended_too more is
      at more (Plain x) is = more es is

      by : More v ts left → (b : Bool) → cond b (with_ok (without_ended facts ts) (ended_entry t.value es (entry_at es t.value))) (without_ended facts ts es) ≡ Ok left
          → cond b (with_ok (without_ended facts ts) (ended_entry t.value (set es v.0 Gone) (entry_at (set es v.0 Gone) t.value)))
          (without_ended facts ts (set es v.0 Gone)) ≡ Ok (set left v.0 Gone)
      by more false is = more es is
      by more true is =
          ap (λ e. with_ok (without_ended facts ts) (ended_entry t.value (set es v.0 Gone) e)) (stays es v t.value Gone others.0)
          ∙ at more (entry_at es t.value) is

  pub data_cleared : (v : ValueId) (m : Memory) (es left : List Entry) (ts : List Taken) → AreOthers v ts
      → operand_data facts m (set es v.0 Gone) (set left v.0 Gone) ts ≡ operand_data facts m es left ts
  data_cleared v m es left [] others = refl
  data_cleared v m es left (t ∷ ts) others =
      ap₂ (λ a b. with_ok (λ x. and_more x (operand_data facts m (set es v.0 Gone) (set left v.0 Gone) ts))
      (with_ok (unless_dead m) (cond (ends facts t) (datum_or_fault (datum_in a)) (used_datum t.role b))))
      (stays es v t.value Gone others.0) (stays left v t.value Gone others.0)
      ∙ ap (λ o. with_ok (λ x. and_more x o) (operand facts m es left t)) (data_cleared v m es left ts others.1)

  -- what is taken, in its parts
  pub record AreTakenBy (m : Memory) (es : List Entry) (ts : List Taken) (ops : Operands) : Type 0 where
    pub left : without_ended facts ts es ≡ Ok ops.left
    pub given : operand_data facts m es ops.left ts ≡ Ok ops.given

  pub taken_by : (m : Memory) (es : List Entry) (ts : List Taken) (ops : Operands) → operands_of facts m es ts ≡ Ok ops → AreTakenBy m es ts ops
  taken_by m es ts ops is = by_left (without_ended facts ts es) refl is
    where
      by_data : (left : List Entry) → without_ended facts ts es ≡ Ok left → (d : Result (List Datum) HolderFault) → operand_data facts m es left ts ≡ d
          → with_ok (λ xs. Ok (record { given = xs; left = left })) d ≡ Ok ops → AreTakenBy m es ts ops
      by_data left left_is (Err x) data_is is = absurd (cc)
      by_data left left_is (Ok xs) data_is is =
          let same : (let o : Operands = record { given = xs; left = left } in o) ≡ ops = cc in
          subst (AreTakenBy m es ts) same (record { left = left_is; given = data_is })

      by_left : (l : Result (List Entry) HolderFault) → without_ended facts ts es ≡ l
          → with_ok (λ left. with_ok (λ xs. Ok (record { given = xs; left = left })) (operand_data facts m es left ts)) l ≡ Ok ops → AreTakenBy m es ts ops
      by_left (Err x) left_is is = absurd (cc)
      by_left (Ok left) left_is is = by_data left left_is (operand_data facts m es left ts) refl is

  pub taken_from : (m : Memory) (es : List Entry) (ts : List Taken) (ops : Operands) → AreTakenBy m es ts ops → operands_of facts m es ts ≡ Ok ops
  taken_from m es ts ops h =
      ap (with_ok (λ left. with_ok (λ xs. Ok (record { given = xs; left = left })) (operand_data facts m es left ts))) h.left
      ∙ ap (with_ok (λ xs. Ok (record { given = xs; left = ops.left }))) h.given

  pub taken_cleared : (v : ValueId) (m : Memory) (es : List Entry) (ts : List Taken) (ops : Operands) → AreOthers v ts → operands_of facts m es ts ≡ Ok ops
      → operands_of facts m (set es v.0 Gone) ts ≡ Ok (record { given = ops.given; left = set ops.left v.0 Gone })
  taken_cleared v m es ts ops others is =
      let h = taken_by m es ts ops is in
      taken_from m (set es v.0 Gone) ts (record { given = ops.given; left = set ops.left v.0 Gone })
      (record { left = left_cleared v ts es ops.left others h.left; given = data_cleared v m es ops.left ts others ∙ h.given })

  -- ---- results

  -- the first of some results
  pub record PutsFirst (u : ValueId) (vs : List ValueId) (x : Datum) (xs : List Datum) (es behind : List Entry) : Type 0 where
    pub entry : Entry
    pub made : made_entry (known_or facts u).kind x ≡ Ok entry
    pub free : is_held (entry_at es u) ≡ false
    pub more : results_put facts vs xs (set es u.0 entry) ≡ Ok behind

  pub puts_first : (u : ValueId) (vs : List ValueId) (x : Datum) (xs : List Datum) (es behind : List Entry)
      → results_put facts (u ∷ vs) (x ∷ xs) es ≡ Ok behind → PutsFirst u vs x xs es behind
  puts_first u vs x xs es behind is = by_made (made_entry (known_or facts u).kind x) refl is
    where
      by_free : (e : Entry) → made_entry (known_or facts u).kind x ≡ Ok e → (b : Bool) → is_held (entry_at es u) ≡ b
          → with_ok (results_put facts vs xs) (cond b (Err OverwritesHeld) (Ok (set es u.0 e))) ≡ Ok behind → PutsFirst u vs x xs es behind
      by_free e made true held is = absurd (cc)
      by_free e made false held is = record { entry = e; made = made; free = held; more = is }

      by_made : (r : Result Entry HolderFault) → made_entry (known_or facts u).kind x ≡ r
          → with_ok (results_put facts vs xs) (with_ok (put_entry es u) r) ≡ Ok behind → PutsFirst u vs x xs es behind
      by_made (Err y) made is = absurd (cc)
      by_made (Ok e) made is = by_free e made (is_held (entry_at es u)) refl is

  pub put_first : (u : ValueId) (vs : List ValueId) (x : Datum) (xs : List Datum) (es behind : List Entry) → PutsFirst u vs x xs es behind
      → results_put facts (u ∷ vs) (x ∷ xs) es ≡ Ok behind
  put_first u vs x xs es behind h =
      ap (λ r. with_ok (results_put facts vs xs) (with_ok (put_entry es u) r)) h.made
      ∙ ap (λ b. with_ok (results_put facts vs xs) (cond b (Err OverwritesHeld) (Ok (set es u.0 h.entry)))) h.free ∙ h.more

  -- no result begins over a held entry
  free_apart : (u w : ValueId) (es : List Entry) (x : Datum) → is_held (entry_at es u) ≡ false → entry_at es w ≡ Held x → u.0 ≡ w.0 → ⊥
  free_apart u w es x free held same =
      let one : u ≡ w = ap (λ k. let y : ValueId = record { 0 = k } in y) same in
      true≢false (sym (ap is_held held) ∙ ap (λ y. is_held (entry_at es y)) (sym one) ∙ free)

  pub held_behind : (w : ValueId) (y : Datum) (vs : List ValueId) (xs : List Datum) (es behind : List Entry) → results_put facts vs xs es ≡ Ok behind
      → entry_at es w ≡ Held y → entry_at behind w ≡ Held y
  held_behind w y [] [] es behind is held = let same : es ≡ behind = cc in ap (λ l. entry_at l w) (sym same) ∙ held
  held_behind w y [] (x ∷ xs) es behind is held = absurd (cc)
  held_behind w y (u ∷ vs) [] es behind is held = absurd (cc)
  held_behind w y (u ∷ vs) (x ∷ xs) es behind is held =
      let h = puts_first u vs x xs es behind is in
      held_behind w y vs xs (set es u.0 h.entry) behind h.more
      (stays es u w h.entry (λ q. free_apart u w es y h.free held (sym q)) ∙ held)

  pub put_cleared : (v : ValueId) (y : Datum) (vs : List ValueId) (xs : List Datum) (es behind : List Entry) → results_put facts vs xs es ≡ Ok behind
      → entry_at es v ≡ Held y → results_put facts vs xs (set es v.0 Gone) ≡ Ok (set behind v.0 Gone)
  put_cleared v y [] [] es behind is held = let same : es ≡ behind = cc in ap (λ l. Ok (set l v.0 Gone)) same
  put_cleared v y [] (x ∷ xs) es behind is held = absurd (cc)
  put_cleared v y (u ∷ vs) [] es behind is held = absurd (cc)
  put_cleared v y (u ∷ vs) (x ∷ xs) es behind is held =
      let h = puts_first u vs x xs es behind is in
      let ne : u.0 ≡ v.0 → ⊥ = free_apart u v es y h.free held in
      put_first u vs x xs (set es v.0 Gone) (set behind v.0 Gone) (record {
        entry = h.entry;
        made = h.made;
        free = ap is_held (stays es v u Gone ne) ∙ h.free;
        more = ap (results_put facts vs xs) (set_swap es v.0 u.0 Gone h.entry ne)
            ∙ put_cleared v y vs xs (set es u.0 h.entry) behind h.more (stays es u v h.entry (λ q. ne (sym q)) ∙ held);
      })
