-- Rows that do nothing at places, and are lowered to themselves: full places stay full, and no storage begins or ceases to name an object.
use Rattle.ownership_lowering_runs.specs.StoredRuns.inner.RowsRight.{is_place_row}
use Rattle.std.proofs.Common.{◌≡◌, ℕ, List, [], ◌∷◌, map, refl, sym, ap, ◌∙◌, subst, Bool, true, false, cond, Option, Some, None, Ok}
use Rattle.std.specs.Prelude.{option_and_then}
use Rattle.std.specs.List.{list_any}
use Rattle.sil_ast.specs.declared.inst.Inst.{Inst}
use Rattle.sil_ast.specs.declared.member.Member.{Member}
use Rattle.sil_ast.specs.declared.place.ObjectId.{ObjectId}
use Rattle.sil_ast.specs.declared.place.ValueId.{ValueId}
use Rattle.sil_types_declarations.specs.TypeDefinitions.Declarations.{Declarations, declarations_of}
use Rattle.holder_model_values.specs.RunValues.Memory.{Memory, is_dead}
use Rattle.holder_model_values.specs.RunValues.Places.{Place, empty_slot}
use Rattle.holder_model_values.specs.RunValues.Places as places
use Rattle.holder_model_values.specs.RunValues.Shapes.{Shape, class_in}
use Rattle.holder_model_values.specs.RunValues.Values as value
use Rattle.holder_model_values.specs.RunValues.Values.{Value, grouped, integer_of, members_of, object_of}
use Rattle.sil_verifier_runs.specs.holder_model.Builtins.{builtin_value, is_set}
use Rattle.sil_verifier_runs.specs.holder_model.Data.{AddressOf, Datum, FunctionOf, ValueOf, all_of, as_function, as_place, as_value, values_of}
use Rattle.sil_verifier_runs.specs.holder_model.Effects as effects
use Rattle.sil_verifier_runs.specs.holder_model.Effects.{Change, Effect, Makes, effect_by, gives, gives_value}
use Rattle.sil_verifier_runs.specs.holder_model.Effects.{only, part_number, with_some, effect_of, result_shape}
use Rattle.sil_verifier_runs.specs.holder_model.Effects.{Calls, Faults, Traps, Unfit, chooses, copies, drops, retains}
use Rattle.sil_verifier_runs.specs.holder_model.Effects.{gives_member, gives_members, names_member, names_field, names_field_of, field_of_object, makes_object, traps_where}
use Rattle.sil_verifier_runs.specs.holder_model.ModuleShapes.{ModuleShapes, case_place, shapes_in, shapes_of}
use Rattle.sil_verifier_runs.specs.holder_model.declared.row_effect.RowEffect.{RowEffect}
use Rattle.sil_verifier_runs.specs.holder_model.declared.row_effect.RowEffect.TheVariants as row
use Rattle.sil_verifier_runs.specs.holder_model.declared.lowered_run.low_fault.LowFault.{LowFault}
use Rattle.sil_verifier_runs.specs.holder_model.LoweredRun.LowEffects as low_effects
use Rattle.ownership_lowering_laws.specs.ownership_lowering_model.Numbers.{renumbered_inst}
use Rattle.ownership_lowering_runs.specs.StoredRuns.inner.EffectsFor.{IsEffectFor}
use Rattle.sil_ast.specs.declared.function.Function.{Function}
use Rattle.sil_ast.specs.declared.module.Module.{Module}
use Rattle.sil_cfg.specs.declared.item.Item.TheVariants as item
use Rattle.sil_cfg_items.specs.Items.{item_defined, item_taken}
use Rattle.sil_verifier_runs.specs.holder_model.Frames.{Entry, Frame, Operands, results_put}
use Rattle.sil_verifier_runs.specs.holder_model.HolderStates.{HolderState}
use Rattle.sil_verifier_runs.specs.holder_model.ModuleFacts.{facts_of}
use Rattle.sil_verifier_runs.specs.holder_model.Outcomes.{Numbers}
use Rattle.sil_verifier_runs.specs.holder_model.Standing.{stands_at}
use Rattle.sil_verifier_runs.specs.holder_model.States.{Task}
use Rattle.sil_verifier_runs.specs.holder_model.LoweredRun.LowEffects.{low_effect, stored_by}
use Rattle.sil_verifier_runs.specs.holder_model.LoweredRun.LowStepParts.{LowState}
use Rattle.sil_verifier_runs.specs.ownership_kinds_origins.Renamings.{renames}
use Rattle.sil_verifier_runs.specs.holder_model_laws.HolderLaws.inner.Steps.Ways as holder
use Rattle.ownership_lowering_runs.specs.StoredRuns.inner.PlaceRows.{GoesAlong, StandsAt, stored_for}
use Rattle.ownership_lowering_runs.proofs.StoredRuns.RowSteps.{KeepsFull, parts_kept}
use Rattle.ownership_lowering_runs.proofs.StoredRuns.RowsBehind.{from, low_shapes, low_told, made, num}
use Rattle.ownership_lowering_runs.proofs.StoredRuns.SameRows.{row_for}
use Rattle.ownership_lowering_runs.proofs.StoredRuns.StandsThere.{facts, given_parts, taken_so}
use Rattle.ownership_lowering_runs.proofs.StoredRuns.FullKept.{growing_keeps, making_keeps, same_keeps}
use Rattle.sil_verifier_runs.specs.holder_model.StepParts as parts
use Rattle.ownership_lowering_runs.proofs.StoredRuns.StayingSteps.{operated_alive, operated_none}
use Rattle.sil_verifier_runs.specs.holder_model.MemoryEffects as holder_effects
use Rattle.ownership_lowering_runs.proofs.StoredRuns.Along.StaysAlong.{low_data, shape_same, stays_along}

-- ---- full places stay full

abbrev KeepsIn : Memory → Effect LowFault → Type 0
KeepsIn low (Makes c) = KeepsFull low c.memory
KeepsIn low (effects.Calls g args) = Unit {0}
KeepsIn low (effects.Traps t) = Unit {0}
KeepsIn low (effects.Faults z) = Unit {0}
KeepsIn low effects.Unfit = Unit {0}

some_keeps : {A : Type 0} (low : Memory) (go : A → Effect LowFault) (o : Option A) → ((z : A) → KeepsIn low (go z)) → KeepsIn low (with_some go o)
some_keeps low go None h = tt
some_keeps low go (Some z) h = h z

either_keeps : (low : Memory) (c : Bool) (a b : Effect LowFault) → KeepsIn low a → KeepsIn low b → KeepsIn low (cond c a b)
either_keeps low true a b h k = h
either_keeps low false a b h k = k

module _ (d : Declarations) (told : ModuleShapes) (values : List Shape) (low : Memory) (j : Inst) (at : RowEffect → List Datum → Effect LowFault) where
  abbrev same : KeepsFull low low
  same = same_keeps low

  chooses_keep : (k : ℕ) (vs : List Value) → KeepsIn low (chooses d told values low j k vs)
  chooses_keep k [] = same
  chooses_keep k (v ∷ []) = same
  chooses_keep k (v ∷ w ∷ vs) = tt

  field_keeps : (o : Option Member) (k : Option ℕ) (z : ObjectId) → KeepsIn low (names_field_of d told values low j o k z)
  field_keeps None k z = tt
  field_keeps (Some named) k z =
      some_keeps low (λ q. gives low (AddressOf q ∷ [])) (option_and_then (field_of_object d told values low j named z) k) (λ q. same)

  calls_keep : (xs : List Datum) → KeepsIn low (effects.calls d told values low j xs)
  calls_keep [] = tt
  calls_keep (g ∷ args) = some_keeps low (λ h. effects.Calls h args) (as_function g) (λ h. tt)

  row_keeps : (r : RowEffect) (xs : List Datum) → is_place_row r ≡ false → KeepsIn low (effect_by d told values low j at r xs)
  row_keeps row.NoEffect xs e = same
  row_keeps row.GivesLiteral xs e = some_keeps low (λ n. gives_value low (value.Int n)) j.number (λ n. same)
  row_keeps row.GivesFunction xs e = some_keeps low (λ g. gives low (FunctionOf g ∷ [])) j.function (λ g. same)
  row_keeps row.Computes xs e = some_keeps low (gives_value low) (option_and_then (builtin_value j.text) (option_and_then (all_of integer_of) (values_of xs))) (λ z. same)
  row_keeps row.TrapsWhereSet xs e = some_keeps low (λ z. with_some (traps_where d told values low j) (integer_of z)) (option_and_then as_value (only xs)) (λ z. some_keeps low
      (traps_where d told values low j) (integer_of z) (λ n. either_keeps low (is_set n) _ (gives low []) tt same))
  row_keeps row.MakesObject xs e = some_keeps low (makes_object d told values low j) (class_in (result_shape d told values low j)) (λ c. making_keeps low _)
  row_keeps row.MakesSlot xs e = growing_keeps low (empty_slot (result_shape d told values low j))
  row_keeps row.RemovesSlot xs e = absurd (cc)
  row_keeps row.GivesOperand xs e = some_keeps low (λ z. gives low (z ∷ [])) (only xs) (λ z. same)
  row_keeps row.CopiesOperand xs e = some_keeps low (copies d told values low j) (only xs) (λ z. same)
  row_keeps row.RetainsOperand xs e = some_keeps low (retains d told values low j) (only xs) (λ z. same)
  row_keeps row.DropsOperand xs e = some_keeps low (drops d told values low j) (only xs) (λ z. same)
  row_keeps row.LoadsValue xs e = absurd (cc)
  row_keeps row.StoresValue xs e = absurd (cc)
  row_keeps row.DestroysPlace xs e = absurd (cc)
  row_keeps row.LoadsName xs e = absurd (cc)
  row_keeps row.Groups xs e = some_keeps low (λ vs. gives_value low (grouped vs)) (values_of xs) (λ vs. same)
  row_keeps row.ChoosesCase xs e = some_keeps low (λ k. with_some (chooses d told values low j k) (values_of xs)) (case_place (result_shape d told values low j) j.member)
      (λ k. some_keeps low (chooses d told values low j k) (values_of xs) (chooses_keep k))
  row_keeps row.GivesMember xs e = some_keeps low (gives_member d told values low j (part_number d j)) (option_and_then as_value (only xs)) (λ z. some_keeps low (gives_value low)
      (option_and_then (λ k. effects.member_of d told values low j k z) (part_number d j)) (λ y. same))
  row_keeps row.GivesMembers xs e = some_keeps low (gives_members d told values low j) (option_and_then as_value (only xs)) (λ z. some_keeps low (λ members. gives low (map ValueOf members))
      (members_of z) (λ ys. same))
  row_keeps row.AddressesMember xs e = some_keeps low (names_member d told values low j (part_number d j)) (option_and_then as_place (only xs)) (λ p. some_keeps low (λ q. gives low
      (AddressOf q ∷ [])) (option_and_then (places.member_place p) (part_number d j)) (λ q. same))
  row_keeps row.AddressesField xs e = some_keeps low (names_field d told values low j) (option_and_then as_value (only xs)) (λ z. some_keeps low (names_field_of d told values low j j.member
      (part_number d j)) (object_of z) (field_keeps j.member (part_number d j)))
  row_keeps row.CallsFunction xs e = calls_keep xs

-- ---- no names begin or cease

module _ (d : Declarations) (told : ModuleShapes) (values : List Shape) (memory : Memory) (j : Inst) where
  pub stored_plain : (r : RowEffect) (xs : List Datum) (ns : List Numbers) → is_place_row r ≡ false → stored_by d told values memory j r xs ns ≡ ns
  stored_plain row.NoEffect xs ns e = refl
  stored_plain row.GivesLiteral xs ns e = refl
  stored_plain row.GivesFunction xs ns e = refl
  stored_plain row.Computes xs ns e = refl
  stored_plain row.TrapsWhereSet xs ns e = refl
  stored_plain row.MakesObject xs ns e = refl
  stored_plain row.MakesSlot xs ns e = refl
  stored_plain row.RemovesSlot xs ns e = absurd (cc)
  stored_plain row.GivesOperand xs ns e = refl
  stored_plain row.CopiesOperand xs ns e = refl
  stored_plain row.RetainsOperand xs ns e = refl
  stored_plain row.DropsOperand xs ns e = refl
  stored_plain row.LoadsValue xs ns e = absurd (cc)
  stored_plain row.StoresValue xs ns e = absurd (cc)
  stored_plain row.DestroysPlace xs ns e = absurd (cc)
  stored_plain row.LoadsName xs ns e = absurd (cc)
  stored_plain row.Groups xs ns e = refl
  stored_plain row.ChoosesCase xs ns e = refl
  stored_plain row.GivesMember xs ns e = refl
  stored_plain row.GivesMembers xs ns e = refl
  stored_plain row.AddressesMember xs ns e = refl
  stored_plain row.AddressesField xs ns e = refl
  stored_plain row.CallsFunction xs ns e = refl

  held_unfit : (r : RowEffect) (xs : List Datum) → is_place_row r ≡ false → holder_effects.at_places d told values memory j r xs ≡ Unfit
  held_unfit row.NoEffect xs e = refl
  held_unfit row.GivesLiteral xs e = refl
  held_unfit row.GivesFunction xs e = refl
  held_unfit row.Computes xs e = refl
  held_unfit row.TrapsWhereSet xs e = refl
  held_unfit row.MakesObject xs e = refl
  held_unfit row.MakesSlot xs e = refl
  held_unfit row.RemovesSlot xs e = absurd (cc)
  held_unfit row.GivesOperand xs e = refl
  held_unfit row.CopiesOperand xs e = refl
  held_unfit row.RetainsOperand xs e = refl
  held_unfit row.DropsOperand xs e = refl
  held_unfit row.LoadsValue xs e = absurd (cc)
  held_unfit row.StoresValue xs e = absurd (cc)
  held_unfit row.DestroysPlace xs e = absurd (cc)
  held_unfit row.LoadsName xs e = absurd (cc)
  held_unfit row.Groups xs e = refl
  held_unfit row.ChoosesCase xs e = refl
  held_unfit row.GivesMember xs e = refl
  held_unfit row.GivesMembers xs e = refl
  held_unfit row.AddressesMember xs e = refl
  held_unfit row.AddressesField xs e = refl
  held_unfit row.CallsFunction xs e = refl

-- ---- the rows

module _ (m : Module) (bound : ℕ) (s : HolderState) (l : LowState) (frame : Frame) (rest : List (Task Frame)) (f : Function) (i : Inst) (ops : Operands)
    (x : StandsAt m s l frame rest f i ops) (alone : made m bound s l frame rest f i ops x ≡ i ∷ []) (keeps : renames i.op ≡ false) (plain : is_place_row (effect_of i.op) ≡ false) where
  abbrev d : Declarations
  d = declarations_of m

  abbrev told : ModuleShapes
  told = low_told m bound s l frame rest f i ops x

  abbrev shapes : List Shape
  shapes = low_shapes m bound s l frame rest f i ops x

  abbrev number : ValueId → ValueId
  number v = num m bound s l frame rest f i ops x v

  abbrev inst : Inst
  inst = renumbered_inst number i

  abbrev read_low : List Datum
  read_low = low_data m bound s l frame rest f i ops x alone keeps

  -- what the row does beside memory, by the operands of the run by holders
  pub low_does : IsEffectFor (holder_effects.effect d (shapes_of m) (shapes_in (shapes_of m) frame.function) s.memory i ops.given) (low_effect d told shapes l.memory inst ops.given)
  low_does =
      subst (IsEffectFor (holder_effects.effect d (shapes_of m) (shapes_in (shapes_of m) frame.function) s.memory i ops.given))
      (sym (ap (low_effects.dead_or d told shapes l.memory inst (effect_by d told shapes l.memory inst (low_effects.at_places d told shapes l.memory inst) (effect_of i.op) ops.given))
      (operated_none d told shapes l.memory inst ops.given (effect_of i.op)
      (operated_alive s.memory l.memory x.memory (facts m s l frame rest f i ops x) frame.entries (item_taken f (item.Inst (stands_at f frame.trail))) ops.given
      (taken_so m s l frame rest f i ops x).given))))
      (row_for d (shapes_of m) told (shapes_in (shapes_of m) frame.function) shapes s.memory l.memory number i x.memory refl
      (shape_same m bound s l frame rest f i ops x alone keeps s.memory l.memory)
      (holder_effects.at_places d (shapes_of m) (shapes_in (shapes_of m) frame.function) s.memory i)
      (low_effects.at_places d told shapes l.memory inst) (effect_of i.op) ops.given
      (subst (λ e. IsEffectFor e (low_effects.at_places d told shapes l.memory inst (effect_of i.op) ops.given))
      (sym (held_unfit d (shapes_of m) (shapes_in (shapes_of m) frame.function) s.memory i (effect_of i.op) ops.given plain)) tt))

  -- where its operands don't tell it another thing in the lowered run
  pub plain_along : low_effect d told shapes l.memory inst read_low ≡ low_effect d told shapes l.memory inst ops.given → (c : Change)
      → holder_effects.effect d (shapes_of m) (shapes_in (shapes_of m) frame.function) s.memory i ops.given ≡ Makes c → list_any (is_dead s.memory) c.retained ≡ false
      → (slots : List Place) → parts.slots_behind c.slots frame.slots ≡ Ok slots → (entries : List Entry)
      → results_put (facts m s l frame rest f i ops x) (item_defined f (item.Inst (stands_at f frame.trail))) c.results ops.left ≡ Ok entries
      → GoesAlong m bound l
      (holder.moved m (facts_of m) bound s rest (from m bound s l frame rest f i ops x) (item.Inst (stands_at f frame.trail)) c slots entries)
      (stored_for m s frame i ops.given c l.numbers)
  plain_along alike c is alive slots slots_left entries put =
      let low = subst (λ e. IsEffectFor e (low_effect d told shapes l.memory inst ops.given)) is low_does in
      let kept : KeepsFull l.memory low.0.memory = in_made low.0 (alike ∙ low.1) in
      stays_along m bound s l frame rest f i ops x alone keeps c low.0 low.2 (alike ∙ low.1) alive slots slots_left entries put
      (stored_plain d told shapes l.memory inst (effect_of i.op) read_low l.numbers plain
      ∙ sym (stored_plain d (shapes_of m) (shapes_in (shapes_of m) frame.function) s.memory i (effect_of i.op) ops.given l.numbers plain))
      (λ v p given at part. kept p (given_parts m s l frame rest f i ops x v p given at part)) (parts_kept m l.memory low.0.memory kept x.lrest x.full.1)
    where
      unless : (o : Option ObjectId) (e : Effect LowFault) → KeepsIn l.memory e → KeepsIn l.memory (low_effects.dead_or d told shapes l.memory inst e o)
      unless None e h = h
      unless (Some o) e h = tt

      in_made : (c' : Change) → low_effect d told shapes l.memory inst read_low ≡ Makes c' → KeepsFull l.memory c'.memory
      in_made c' e =
          subst (KeepsIn l.memory) e
          (unless (low_effects.first_dead d told shapes l.memory inst (low_effects.operated_on d told shapes l.memory inst (effect_of i.op) read_low)) _
          (row_keeps d told shapes l.memory inst (low_effects.at_places d told shapes l.memory inst) (effect_of i.op) read_low plain))
