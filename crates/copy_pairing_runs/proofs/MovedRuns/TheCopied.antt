-- What the copy, the move and the destroy take, each of one Owned value, and what they do.
use Rattle.std.proofs.Common.{◌≡◌, ◌⊎◌, inl, inr, List, [], ◌∷◌, set, refl, sym, ap, ◌∙◌, Bool, true, false, cond, Option, Some, Ok, Err}
use Rattle.std.specs.declared.result.Result.{Result}
use Rattle.instruction_table.specs.declared.entries.Role.TheVariants as role
use Rattle.instruction_table.specs.declared.op.Op.TheVariants as op
use Rattle.sil_cfg_items.specs.Roles.{by_row, taken_as}
use Rattle.ownership_kinds_chains.specs.OwnershipChains.Facts.{is_owned, known_or}
use Rattle.ownership_kinds_chains.specs.declared.ownership_chains.facts.Facts.{Facts}
use Rattle.ownership_kinds_chains.specs.OwnershipMarks.Marks.{ended_by, ended_with}
use Rattle.holder_model_values.specs.RunValues.Memory.{Memory}
use Rattle.sil_ast.specs.declared.inst.Inst.{Inst}
use Rattle.sil_ast.specs.declared.operands.Operand.{Operand}
use Rattle.sil_ast.specs.declared.place.ValueId.{ValueId}
use Rattle.holder_model_values.specs.RunValues.Shapes.{Shape}
use Rattle.sil_types_declarations.specs.TypeDefinitions.Declarations.{Declarations}
use Rattle.sil_types_declarations.specs.declared.type_definitions.kind.Kind.TheVariants as kind
use Rattle.holder_model_laws.specs.holder_model.Data.{Datum, references_in}
use Rattle.holder_model_laws.specs.holder_model.Effects.{Makes, effect_by, effect_of, unchanged}
use Rattle.holder_model_laws.specs.holder_model.Faults.{HolderFault, NamesDead}
use Rattle.holder_model_laws.specs.holder_model.Frames.{Entry, Gone, Held, Operands, and_more, any_dead, datum_in, datum_or_fault, ended_entry, ends, entry_at, has_any, operand}
use Rattle.holder_model_laws.specs.holder_model.Frames.{operand_data, operands_of, unless_dead, used_datum, with_ok, without_ended}
use Rattle.holder_model_laws.specs.holder_model.MemoryEffects.{at_places, effect}
use Rattle.holder_model_laws.specs.holder_model.ModuleShapes.{ModuleShapes}
use Rattle.copy_pairing_acceptance.proofs.MovedFunctions.Marks.{known}
use Rattle.copy_pairing_runs.proofs.MovedRuns.ClearedEntries.{AreTakenBy, same_ok, taken_by}

module _ (facts : ValueId → Option Facts) (v : ValueId) (owned : is_owned (known_or facts v).kind ≡ true) (x : Operand) (is_v : x.value ≡ v) where
  facts_known : (y : Facts) × (facts v ≡ Some y) × (y.kind ≡ kind.Owned)
  facts_known = known (facts v) owned

  used_stays : ends facts (taken_as x (by_row role.Used)) ≡ false
  used_stays =
      ap (λ o. has_any (ended_with o (taken_as x (by_row role.Used)))) (ap facts is_v ∙ facts_known.1)
      ∙ ap (λ k. has_any (ended_by k role.Used x.value)) facts_known.2

  consumed_ends : ends facts (taken_as x (by_row role.Consumed)) ≡ true
  consumed_ends =
      ap (λ o. has_any (ended_with o (taken_as x (by_row role.Consumed)))) (ap facts is_v ∙ facts_known.1)
      ∙ ap (λ k. has_any (ended_by k role.Consumed x.value)) facts_known.2

  -- ---- the value is used

  pub record IsUsed (mem : Memory) (es : List Entry) (ops : Operands) : Type 0 where
    pub datum : Datum
    pub held : entry_at es v ≡ Held datum
    pub alive : unless_dead mem datum ≡ Ok datum
    pub given : ops.given ≡ datum ∷ []
    pub left : ops.left ≡ es

  pub used : (mem : Memory) (es : List Entry) (ops : Operands) → (entry_at es v ≡ Gone) ⊎ ((y : Datum) × (entry_at es v ≡ Held y))
      → operands_of facts mem es (taken_as x (by_row role.Used) ∷ []) ≡ Ok ops → IsUsed mem es ops
  used mem es ops entry is = by_entry entry
    where
      parts : AreTakenBy facts mem es (taken_as x (by_row role.Used) ∷ []) ops
      parts = taken_by facts mem es (taken_as x (by_row role.Used) ∷ []) ops is

      left_is : (let r : Result (List Entry) HolderFault = Ok es in r) ≡ Ok ops.left
      left_is =
          sym (ap (λ b. cond b (with_ok (without_ended facts []) (ended_entry x.value es (entry_at es x.value))) (Ok es)) used_stays) ∙ parts.left

      left : ops.left ≡ es
      left = sym (same_ok es ops.left left_is)

      given_is : with_ok (λ y. and_more y (Ok [])) (with_ok (unless_dead mem) (used_datum role.Used (entry_at es v))) ≡ Ok ops.given
      given_is =
          sym (ap (λ b. with_ok (λ y. and_more y (Ok [])) (with_ok (unless_dead mem)
          (cond b (datum_or_fault (datum_in (entry_at es x.value))) (used_datum role.Used (entry_at ops.left x.value))))) used_stays
          ∙ ap (λ w. with_ok (λ y. and_more y (Ok [])) (with_ok (unless_dead mem) (used_datum role.Used (entry_at ops.left w)))) is_v
          ∙ ap (λ l. with_ok (λ y. and_more y (Ok [])) (with_ok (unless_dead mem) (used_datum role.Used (entry_at l v)))) left)
          ∙ parts.given

      by_dead : (y : Datum) → entry_at es v ≡ Held y → (b : Bool) → any_dead mem (references_in y) ≡ b
          → with_ok (λ z. and_more z (Ok [])) (cond b (Err NamesDead) (Ok y)) ≡ Ok ops.given → IsUsed mem es ops
      by_dead y held true dead e = absurd (cc)
      by_dead y held false dead e = record {
        datum = y;
        held = held;
        alive = ap (λ b. cond b (Err NamesDead) (Ok y)) dead;
        given = sym (same_ok (y ∷ []) ops.given e);
        left = left;
      }

      by_entry : (entry_at es v ≡ Gone) ⊎ ((y : Datum) × (entry_at es v ≡ Held y)) → IsUsed mem es ops
      by_entry (inl gone) =
          let e = sym (ap (λ y. with_ok (λ z. and_more z (Ok [])) (with_ok (unless_dead mem) (used_datum role.Used y))) gone) ∙ given_is in
          absurd (cc)
      by_entry (inr (y, held)) =
          by_dead y held (any_dead mem (references_in y)) refl
          (sym (ap (λ z. with_ok (λ z. and_more z (Ok [])) (with_ok (unless_dead mem) (used_datum role.Used z))) held) ∙ given_is)

  -- ---- the value is consumed

  -- whether the value's datum names a dead object is what decides it
  pub consumed : (mem : Memory) (es : List Entry) (y : Datum) (b : Bool) → entry_at es v ≡ Held y → any_dead mem (references_in y) ≡ b
      → operands_of facts mem es (taken_as x (by_row role.Consumed) ∷ []) ≡ cond b (Err NamesDead) (Ok (record { given = y ∷ []; left = set es v.0 Gone }))
  consumed mem es y b held dead =
      ap (with_ok {B = Operands} (λ left. with_ok {B = Operands} (λ xs. Ok (record { given = xs; left = left }))
      (operand_data facts mem es left (taken_as x (by_row role.Consumed) ∷ [])))) left_is
      ∙ ap (λ o. with_ok {B = Operands} (λ xs. Ok (record { given = xs; left = set es v.0 Gone })) (with_ok (λ z. and_more z (Ok [])) o)) operand_is
      ∙ by b
    where
      left_is : without_ended facts (taken_as x (by_row role.Consumed) ∷ []) es ≡ Ok (set es v.0 Gone)
      left_is =
          ap (λ b. cond b (with_ok (without_ended facts []) (ended_entry x.value es (entry_at es x.value))) (Ok es)) consumed_ends
          ∙ ap (λ w. with_ok (without_ended facts []) (ended_entry w es (entry_at es w))) is_v
          ∙ ap (λ e. with_ok (without_ended facts []) (ended_entry v es e)) held

      operand_is : operand facts mem es (set es v.0 Gone) (taken_as x (by_row role.Consumed)) ≡ cond b (Err NamesDead) (Ok y)
      operand_is =
          ap (λ b. with_ok (unless_dead mem) (cond b (datum_or_fault (datum_in (entry_at es x.value))) (used_datum role.Consumed (entry_at (set es v.0 Gone) x.value)))) consumed_ends
          ∙ ap (λ w. with_ok (unless_dead mem) (datum_or_fault (datum_in (entry_at es w)))) is_v
          ∙ ap (λ e. with_ok (unless_dead mem) (datum_or_fault (datum_in e))) held
          ∙ ap (λ b. cond b (Err NamesDead) (Ok y)) dead

      by : (b : Bool) → with_ok {B = Operands} (λ xs. Ok (record { given = xs; left = set es v.0 Gone })) (with_ok (λ z. and_more z (Ok [])) (cond b (Err NamesDead) (Ok y)))
          ≡ cond b (Err NamesDead) (Ok (record { given = y ∷ []; left = set es v.0 Gone }))
      by true = refl
      by false = refl

-- ---- what they do

module _ (d : Declarations) (shapes : ModuleShapes) (values : List Shape) (mem : Memory) (i : Inst) (y : Datum) where
  pub copies_so : i.op ≡ op.CopyValue → effect d shapes values mem i (y ∷ []) ≡ Makes (record (unchanged mem) { results = y ∷ []; retained = references_in y })
  copies_so is = ap (λ o. effect_by d shapes values mem i (at_places d shapes values mem i) (effect_of o) (y ∷ [])) is

  pub moves_so : i.op ≡ op.MoveValue → effect d shapes values mem i (y ∷ []) ≡ Makes (record (unchanged mem) { results = y ∷ [] })
  moves_so is = ap (λ o. effect_by d shapes values mem i (at_places d shapes values mem i) (effect_of o) (y ∷ [])) is

  pub destroys_so : i.op ≡ op.DestroyValue → effect d shapes values mem i (y ∷ []) ≡ Makes (record (unchanged mem) { dropped = references_in y })
  destroys_so is = ap (λ o. effect_by d shapes values mem i (at_places d shapes values mem i) (effect_of o) (y ∷ [])) is
