-- What operands find in entries, and what faults they meet there.
use Rattle.std.proofs.Common.{◌≡◌, ◌⊎◌, inl, inr, List, [], ◌∷◌, refl, ap, ◌∙◌, subst, Bool, true, false, cond, Option, Some, None}
use Rattle.std.specs.Prelude.{Err, Ok}
use Rattle.std.specs.declared.result.Result.{Result}
use Rattle.holder_model_laws.proofs.HolderLaws.Steps.WhichFaults.{IsOperandFault, operands_err}
use Rattle.sil_cfg_items.specs.declared.taken.Taken.{Taken}
use Rattle.instruction_table.specs.declared.entries.Role.{Role}
use Rattle.holder_model_laws.specs.ownership_kinds_chains.declared.ownership_chains.facts.Facts.{Facts}
use Rattle.holder_model_laws.specs.holder_model.Data.{Datum, references_in}
use Rattle.holder_model_laws.specs.holder_model.Faults.{ConsumesLent, HolderFault, NamesDead, WrongShape}
use Rattle.holder_model_laws.specs.holder_model.Frames.{Entry, Gone, Held, Lent, Operands, Plain, and_more, any_dead, datum_in, datum_or_fault, ended_entry, ends, entry_at}
use Rattle.holder_model_laws.specs.holder_model.Frames.{is_consumed, operand, operand_data, operands_of, unless_dead, used_datum, with_ok, without_ended}
use Rattle.holder_model_values.specs.RunValues.Memory.{Memory}
use Rattle.sil_ast.specs.declared.place.ValueId.{ValueId}

-- a fault of another kind than of shapes
abbrev pub IsOther : HolderFault → Type 0
IsOther x = x ≡ WrongShape → ⊥

used_there : (r : Role) (e : Entry) (x : Datum) → used_datum r e ≡ Ok x → datum_in e ≡ Some x
used_there r Gone x is = absurd (cc)
used_there r (Held y) x is = cc
used_there r (Lent y) x is = at (is_consumed r) is
  where
    at : (b : Bool) → cond b (Err ConsumesLent) (Ok y) ≡ Ok x → datum_in (Lent y) ≡ Some x
    at true h = absurd (cc)
    at false h = cc
used_there r (Plain y) x is = cc

found_there : (o : Option Datum) (x : Datum) → datum_or_fault o ≡ Ok x → o ≡ Some x
found_there None x is = absurd (cc)
found_there (Some y) x is = cc

not_dead : (memory : Memory) (r : Result Datum HolderFault) (x : Datum) → with_ok (unless_dead memory) r ≡ Ok x → r ≡ Ok x
not_dead memory (Ok y) x is = ap Ok (at (any_dead memory (references_in y)) is)
  where
    at : (b : Bool) → cond b (Err NamesDead) (Ok y) ≡ Ok x → y ≡ x
    at true h = absurd (cc)
    at false h = cc
not_dead memory (Err z) x is = absurd (cc)

-- a datum and those of the other operands
abbrev pub joined : Result Datum HolderFault → Result (List Datum) HolderFault → Result (List Datum) HolderFault
joined r rs = with_ok (λ x. and_more x rs) r

module _ (facts : ValueId → Option Facts) where
  -- ---- ends

  -- the first operand ends or doesn't, and then the others
  abbrev pub without : Bool → Taken → List Taken → List Entry → Result (List Entry) HolderFault → Result (List Entry) HolderFault
  without b t ts entries r = cond b (with_ok (without_ended facts ts) r) (without_ended facts ts entries)

  -- one that doesn't end leaves all entries
  none_ended : (t : Taken) (entries left : List Entry) → ends facts t ≡ false → without_ended facts (t ∷ []) entries ≡ Ok left → entries ≡ left
  none_ended t entries left e is = at (ends facts t) e (ended_entry t.value entries (entry_at entries t.value)) is
    where
      at : (b : Bool) → b ≡ false → (r : Result (List Entry) HolderFault) → without b t [] entries r ≡ Ok left → entries ≡ left
      at true stays r h = absurd (cc)
      at false stays r h = cc

  module _ (memory : Memory) where
    -- ---- uses

    module _ (before left : List Entry) where
      -- an operand that ends is that of the entry before, and one that doesn't that of an entry that is left
      abbrev choice : Bool → Taken → Result Datum HolderFault
      choice b t = cond b (datum_or_fault (datum_in (entry_at before t.value))) (used_datum t.role (entry_at left t.value))

      pub operand_there : (t : Taken) (x : Datum) → operand facts memory before left t ≡ Ok x
          → (datum_in (entry_at before t.value) ≡ Some x) ⊎ ((ends facts t ≡ false) × (datum_in (entry_at left t.value) ≡ Some x))
      operand_there t x is = at (ends facts t) refl (not_dead memory (choice (ends facts t) t) x is)
        where
          at : (b : Bool) → ends facts t ≡ b → choice b t ≡ Ok x → (datum_in (entry_at before t.value) ≡ Some x) ⊎ ((ends facts t ≡ false) × (datum_in (entry_at left t.value) ≡ Some x))
          at true e h = inl (found_there (datum_in (entry_at before t.value)) x h)
          at false e h = inr (e, used_there t.role (entry_at left t.value) x h)

      data_one : (t : Taken) (xs : List Datum) → operand_data facts memory before left (t ∷ []) ≡ Ok xs → (x : Datum) × (operand facts memory before left t ≡ Ok x) × (xs ≡ x ∷ [])
      data_one t xs is = at (operand facts memory before left t) refl is
        where
          at : (r : Result Datum HolderFault) → operand facts memory before left t ≡ r → joined r (Ok []) ≡ Ok xs → (x : Datum) × (operand facts memory before left t ≡ Ok x) × (xs ≡ x ∷ [])
          at (Ok x) e h = (x, e, cc)
          at (Err z) e h = absurd (cc)

    -- ---- the operands of an item

    pub record Read (ts : List Taken) (entries : List Entry) (ops : Operands) : Type 0 where
      pub left : without_ended facts ts entries ≡ Ok ops.left
      pub given : operand_data facts memory entries ops.left ts ≡ Ok ops.given

    abbrev read_in : List Entry → Result (List Datum) HolderFault → Result Operands HolderFault
    read_in left rs = with_ok (λ xs. Ok (record { given = xs; left = left })) rs

    pub operands_read : (ts : List Taken) (entries : List Entry) (ops : Operands) → operands_of facts memory entries ts ≡ Ok ops → Read ts entries ops
    operands_read ts entries ops is = at (without_ended facts ts entries) refl is
      where
        given : (left : List Entry) → without_ended facts ts entries ≡ Ok left → (rs : Result (List Datum) HolderFault) → operand_data facts memory entries left ts ≡ rs
            → read_in left rs ≡ Ok ops → Read ts entries ops
        given left e (Ok xs) e' h = let same : record { given = xs; left = left } ≡ ops = cc in subst (Read ts entries) same (record { left = e; given = e' })
        given left e (Err z) e' h = absurd (cc)

        at : (r : Result (List Entry) HolderFault) → without_ended facts ts entries ≡ r → with_ok (λ left. read_in left (operand_data facts memory entries left ts)) r ≡ Ok ops → Read ts entries ops
        at (Ok left) e h = given left e (operand_data facts memory entries left ts) refl h
        at (Err z) e h = absurd (cc)

    pub operands_other : (ts : List Taken) (entries : List Entry) (y : HolderFault) → operands_of facts memory entries ts ≡ Err y → IsOther y
    operands_other ts entries y is = by y (operands_err facts memory entries ts y is)
      where
        by : (y : HolderFault) → IsOperandFault y → IsOther y
        by _ IsOperandFault.no_entry = λ shape. cc
        by _ IsOperandFault.consumes_lent = λ shape. cc
        by _ IsOperandFault.names_dead = λ shape. cc

    -- the operand of an item that has one is the datum of its entry
    pub one_read : (t : Taken) (entries : List Entry) (ops : Operands) → operands_of facts memory entries (t ∷ []) ≡ Ok ops
        → (x : Datum) × (ops.given ≡ x ∷ []) × (datum_in (entry_at entries t.value) ≡ Some x)
    one_read t entries ops is =
        let read = operands_read (t ∷ []) entries ops is in
        let one = data_one entries ops.left t ops.given read.given in
        (one.0, one.2, by read.left one.0 (operand_there entries ops.left t one.0 one.1))
      where
        by : without_ended facts (t ∷ []) entries ≡ Ok ops.left → (x : Datum)
            → (datum_in (entry_at entries t.value) ≡ Some x) ⊎ ((ends facts t ≡ false) × (datum_in (entry_at ops.left t.value) ≡ Some x)) → datum_in (entry_at entries t.value) ≡ Some x
        by left x (inl there) = there
        by left x (inr there) = ap (λ es. datum_in (entry_at es t.value)) (none_ended t entries ops.left there.0 left) ∙ there.1
