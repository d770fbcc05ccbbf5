-- Rows that are lowered to themselves: the lowered run does what the run by holders does.
use Rattle.std.proofs.Common.{◌≡◌, ℕ, List, [], ◌∷◌, ◌++◌, length, map, refl, sym, ap, ◌∙◌, subst, Bool, true, false, cond, Option, Some, None}
use Rattle.std.specs.Prelude.{◌||◌, find, option_and_then}
use Rattle.std.specs.List.{flat_map, list_any}
use Rattle.std.proofs.lemmas.Bool.{true≢false}
use Rattle.std.proofs.lemmas.Option.{none-some}
use Rattle.std.specs.Option.{option_to_list}
use Rattle.std.proofs.lemmas.Slice.Zip.{AllZip-long}
use Rattle.instruction_table.specs.Forms.{detail_of}
use Rattle.instruction_table.specs.declared.entries.Detail.{Detail}
use Rattle.instruction_table.specs.declared.entries.Detail.TheVariants as detail
use Rattle.sil_ast.specs.declared.inst.Inst.{Inst}
use Rattle.sil_ast.specs.declared.member.Member.{Member}
use Rattle.sil_ast.specs.declared.place.ObjectId.{ObjectId}
use Rattle.sil_ast.specs.declared.place.ValueId.{ValueId}
use Rattle.numbered_form.specs.Names.{Name}
use Rattle.sil_types_declarations.specs.TypeDefinitions.Declarations.{Declarations}
use Rattle.holder_model_values.specs.declared.run_values.phase.Phase.TheVariants.{Live}
use Rattle.holder_model_values.specs.RunValues.Memory.{Memory, is_dead}
use Rattle.holder_model_values.specs.RunValues.Places.{OnStack, empty_fields, empty_slot}
use Rattle.holder_model_values.specs.RunValues.Places as places
use Rattle.holder_model_values.specs.RunValues.Shapes.{Shape, class_in}
use Rattle.holder_model_values.specs.RunValues.Values as value
use Rattle.holder_model_values.specs.RunValues.Values.{Value, grouped, integer_of, members_of, object_of}
use Rattle.sil_verifier_runs.specs.holder_model.Builtins.{builtin_value, is_set}
use Rattle.sil_verifier_runs.specs.holder_model.Data.{AddressOf, Datum, FunctionOf, ValueOf, all_of, as_function, as_place, as_value, values_of}
use Rattle.sil_verifier_runs.specs.holder_model.Effects as effects
use Rattle.sil_verifier_runs.specs.holder_model.Effects.{Effect, OpensSlot, effect_by, gives, gives_value, only, part_number, part_number_by, unchanged, with_some}
use Rattle.sil_verifier_runs.specs.holder_model.Faults.{HolderFault}
use Rattle.sil_verifier_runs.specs.holder_model.ModuleShapes.{ModuleShapes, case_place, field_shapes, fields_in, is_class}
use Rattle.sil_verifier_runs.specs.holder_model.declared.row_effect.RowEffect.{RowEffect}
use Rattle.sil_verifier_runs.specs.holder_model.declared.row_effect.RowEffect.TheVariants as row
use Rattle.sil_verifier_runs.specs.holder_model.declared.lowered_run.low_fault.LowFault.{LowFault}
use Rattle.ownership_lowering_laws.specs.ownership_lowering_model.Numbers.{renumbered_inst}
use Rattle.ownership_lowering_runs.specs.StoredRuns.inner.EffectsFor.{IsEffectFor}
use Rattle.ownership_lowering_runs.specs.StoredRuns.inner.Memories.{IsMemoryFor, IsObjectFor, IsCellFor}
use Rattle.ownership_lowering_runs.proofs.StoredRuns.MemoriesFor.{dead_for, object_added, slot_added}

-- where there is something to go on with, both go on with it
pub some_for : {A : Type 0} (go : A → Effect HolderFault) (low : A → Effect LowFault) (o p : Option A) → p ≡ o → ((x : A) → IsEffectFor (go x) (low x))
    → IsEffectFor (with_some go o) (with_some low p)
some_for go low None p e h = tt
some_for go low (Some x) p e h = subst (λ q. IsEffectFor (go x) (with_some low q)) (sym e) (h x)

-- the objects of the lists are alive in both
pub none_dead : (m low : Memory) → IsMemoryFor m low → (os : List ObjectId) → list_any (is_dead m) os ≡ false → find (is_dead low) os ≡ None
none_dead m low h [] e = refl
none_dead m low h (o ∷ os) e = at (is_dead m o) refl e (none_dead m low h os)
  where
    at : (b : Bool) → is_dead m o ≡ b → (b || list_any (is_dead m) os) ≡ false → (list_any (is_dead m) os ≡ false → find (is_dead low) os ≡ None)
        → cond (is_dead low o) (Some o) (find (is_dead low) os) ≡ None
    at true d q more = absurd (true≢false q)
    at false d q more = ap (λ b. cond b (Some o) (find (is_dead low) os)) (dead_for m low h o ∙ d) ∙ more q

-- and none is dead of two lists together
pub none_in_both : (low : Memory) (os ps : List ObjectId) → find (is_dead low) os ≡ None → find (is_dead low) ps ≡ None → find (is_dead low) (os ++ ps) ≡ None
none_in_both low [] ps e g = g
none_in_both low (o ∷ os) ps e g = at (is_dead low o) e (none_in_both low os ps)
  where
    at : (b : Bool) → cond b (Some o) (find (is_dead low) os) ≡ None → (find (is_dead low) os ≡ None → find (is_dead low) ps ≡ None → find (is_dead low) (os ++ ps) ≡ None)
        → cond b (Some o) (find (is_dead low) (os ++ ps)) ≡ None
    at true q more = absurd (none-some o (sym q))
    at false q more = more q g

pub either_for : (b : Bool) (x y : Effect HolderFault) (x' y' : Effect LowFault) → IsEffectFor x x' → IsEffectFor y y' → IsEffectFor (cond b x y) (cond b x' y')
either_for true x y x' y' h k = h
either_for false x y x' y' h k = k

pub fields_same : (shapes low_shapes : ModuleShapes) → low_shapes.classes ≡ shapes.classes → (class : Name) → field_shapes low_shapes class ≡ field_shapes shapes class
fields_same shapes low_shapes classes class = ap (λ cs. flat_map fields_in (option_to_list (find (is_class class) cs))) classes

module _ (d : Declarations) (shapes low_shapes : ModuleShapes) (values low_values : List Shape) (m low : Memory) (number : ValueId → ValueId) (i : Inst)
    (h : IsMemoryFor m low) (classes : low_shapes.classes ≡ shapes.classes)
    (shape : effects.result_shape d low_shapes low_values low (renumbered_inst number i) ≡ effects.result_shape d shapes values m i) where
  gives_for : (xs : List Datum) → IsEffectFor (gives m xs) (gives low xs)
  gives_for xs = (record (unchanged low) { results = xs }, refl, record { results = refl; dropped = refl; retained = refl; slots = refl; memory = h })

  part_same : part_number d (renumbered_inst number i) ≡ part_number d i
  part_same = by (detail_of i.op)
    where
      by : (x : Detail) → part_number_by x d (renumbered_inst number i) ≡ part_number_by x d i
      by detail.NoDetail = refl
      by detail.Literal = refl
      by detail.Element = refl
      by detail.Operation = refl
      by detail.Message = refl
      by detail.Field = refl
      by detail.Case = refl

  object_for : (class : Name) → IsEffectFor (effects.makes_object d shapes values m i class) (effects.makes_object d low_shapes low_values low (renumbered_inst number i) class)
  object_for class =
      let more : IsMemoryFor (record m { objects = m.objects ++ record { class = class; phase = Live; cells = empty_fields (field_shapes shapes class) } ∷ [] })
      (record low { objects = low.objects ++ record { class = class; phase = Live; cells = empty_fields (field_shapes low_shapes class) } ∷ [] }) =
      subst (λ fs. IsMemoryFor (record m { objects = m.objects ++ record { class = class; phase = Live; cells = empty_fields (field_shapes shapes class) } ∷ [] })
      (record low { objects = low.objects ++ record { class = class; phase = Live; cells = empty_fields fs } ∷ [] })) (sym (fields_same shapes low_shapes classes class))
      (object_added m low h (record { class = class; phase = Live; cells = empty_fields (field_shapes shapes class) })) in (
        _,
        refl,
        record {
          results = ap (λ n. ValueOf (value.Object (record { 0 = n })) ∷ []) (AllZip-long IsObjectFor m.objects low.objects h.objects);
          dropped = refl;
          retained = refl;
          slots = refl;
          memory = more;
        },
      )

  slot_same : effects.new_slot d low_shapes low_values low (renumbered_inst number i) ≡ effects.new_slot d shapes values m i
  slot_same =
      ap (λ n. record { home = OnStack; first = n; shape = effects.result_shape d low_shapes low_values low (renumbered_inst number i); is_part = false })
      (AllZip-long IsCellFor m.stack low.stack h.stack)
      ∙ ap (λ s. record { home = OnStack; first = length m.stack; shape = s; is_part = false }) shape

  slot_for : IsEffectFor (effects.makes_slot d shapes values m i) (effects.makes_slot d low_shapes low_values low (renumbered_inst number i))
  slot_for = (
    _,
    refl,
    record {
      results = ap (λ p. AddressOf p ∷ []) slot_same;
      dropped = refl;
      retained = refl;
      slots = ap OpensSlot slot_same;
      memory = subst (λ s. IsMemoryFor (record m { stack = m.stack ++ empty_slot (effects.result_shape d shapes values m i) }) (record low { stack = low.stack ++ empty_slot s }))
          (sym shape) (slot_added m low h (empty_slot (effects.result_shape d shapes values m i)));
    },
  )

  copies_for : (x : Datum) → IsEffectFor (effects.copies d shapes values m i x) (effects.copies d low_shapes low_values low (renumbered_inst number i) x)
  copies_for x = (_, refl, record { results = refl; dropped = refl; retained = refl; slots = refl; memory = h })

  retains_for : (x : Datum) → IsEffectFor (effects.retains d shapes values m i x) (effects.retains d low_shapes low_values low (renumbered_inst number i) x)
  retains_for x = (_, refl, record { results = refl; dropped = refl; retained = refl; slots = refl; memory = h })

  drops_for : (x : Datum) → IsEffectFor (effects.drops d shapes values m i x) (effects.drops d low_shapes low_values low (renumbered_inst number i) x)
  drops_for x = (_, refl, record { results = refl; dropped = refl; retained = refl; slots = refl; memory = h })

  chooses_for : (k : ℕ) (xs : List Value) → IsEffectFor (effects.chooses d shapes values m i k xs) (effects.chooses d low_shapes low_values low (renumbered_inst number i) k xs)
  chooses_for k [] = gives_for (ValueOf (value.Case k) ∷ [])
  chooses_for k (x ∷ []) = gives_for (ValueOf (value.Full k x) ∷ [])
  chooses_for k (x ∷ y ∷ ys) = tt

  field_for : (o : Option Member) (k : Option ℕ) (x : ObjectId)
      → IsEffectFor (effects.names_field_of d shapes values m i o k x) (effects.names_field_of d low_shapes low_values low (renumbered_inst number i) o k x)
  field_for None k x = tt
  field_for (Some named) k x =
      some_for (λ q. gives m (AddressOf q ∷ [])) (λ q. gives low (AddressOf q ∷ [])) (option_and_then (effects.field_of_object d shapes values m i named x) k)
      (option_and_then (effects.field_of_object d low_shapes low_values low (renumbered_inst number i) named x) k)
      (ap (λ fs. option_and_then (λ k. places.field_place fs x k) k) (fields_same shapes low_shapes classes named.owner)) (λ q. gives_for (AddressOf q ∷ []))

  calls_for : (xs : List Datum) → IsEffectFor (effects.calls d shapes values m i xs) (effects.calls d low_shapes low_values low (renumbered_inst number i) xs)
  calls_for [] = tt
  calls_for (f ∷ args) = some_for (λ g. effects.Calls g args) (λ g. effects.Calls g args) (as_function f) (as_function f) refl (λ g. refl)

  module _ (at : RowEffect → List Datum → Effect HolderFault) (low_at : RowEffect → List Datum → Effect LowFault) where
    -- what the row does beside memory, by its operands. At places it does what is said
    pub row_for : (r : RowEffect) (xs : List Datum) → IsEffectFor (at r xs) (low_at r xs)
        → IsEffectFor (effect_by d shapes values m i at r xs) (effect_by d low_shapes low_values low (renumbered_inst number i) low_at r xs)
    row_for row.NoEffect xs place = gives_for []
    row_for row.GivesLiteral xs place = some_for (λ n. gives_value m (value.Int n)) (λ n. gives_value low (value.Int n)) i.number i.number refl (λ n. gives_for (ValueOf (value.Int n) ∷ []))
    row_for row.GivesFunction xs place = some_for (λ g. gives m (FunctionOf g ∷ [])) (λ g. gives low (FunctionOf g ∷ [])) i.function i.function refl (λ g. gives_for (FunctionOf g ∷ []))
    row_for row.Computes xs place =
        let o = option_and_then (builtin_value i.text) (option_and_then (all_of integer_of) (values_of xs)) in
        some_for (gives_value m) (gives_value low) o o refl (λ x. gives_for (ValueOf x ∷ []))
    row_for row.TrapsWhereSet xs place =
        let o = option_and_then as_value (only xs) in
        some_for (λ x. with_some (effects.traps_where d shapes values m i) (integer_of x))
        (λ x. with_some (effects.traps_where d low_shapes low_values low (renumbered_inst number i)) (integer_of x)) o o refl
        (λ x. some_for (effects.traps_where d shapes values m i) (effects.traps_where d low_shapes low_values low (renumbered_inst number i)) (integer_of x) (integer_of x) refl
        (λ n. either_for (is_set n) _ (gives m []) _ (gives low []) refl (gives_for [])))
    row_for row.MakesObject xs place =
        some_for (effects.makes_object d shapes values m i) (effects.makes_object d low_shapes low_values low (renumbered_inst number i))
        (class_in (effects.result_shape d shapes values m i)) (class_in (effects.result_shape d low_shapes low_values low (renumbered_inst number i))) (ap class_in shape) object_for
    row_for row.MakesSlot xs place = slot_for
    row_for row.RemovesSlot xs place = place
    row_for row.GivesOperand xs place = some_for (λ x. gives m (x ∷ [])) (λ x. gives low (x ∷ [])) (only xs) (only xs) refl (λ x. gives_for (x ∷ []))
    row_for row.CopiesOperand xs place =
        some_for (effects.copies d shapes values m i) (effects.copies d low_shapes low_values low (renumbered_inst number i)) (only xs) (only xs) refl copies_for
    row_for row.RetainsOperand xs place =
        some_for (effects.retains d shapes values m i) (effects.retains d low_shapes low_values low (renumbered_inst number i)) (only xs) (only xs) refl retains_for
    row_for row.DropsOperand xs place =
        some_for (effects.drops d shapes values m i) (effects.drops d low_shapes low_values low (renumbered_inst number i)) (only xs) (only xs) refl drops_for
    row_for row.LoadsValue xs place = place
    row_for row.StoresValue xs place = place
    row_for row.DestroysPlace xs place = place
    row_for row.LoadsName xs place = place
    row_for row.Groups xs place =
        some_for (λ vs. gives_value m (grouped vs)) (λ vs. gives_value low (grouped vs)) (values_of xs) (values_of xs) refl (λ vs. gives_for (ValueOf (grouped vs) ∷ []))
    row_for row.ChoosesCase xs place =
        some_for (λ k. with_some (effects.chooses d shapes values m i k) (values_of xs))
        (λ k. with_some (effects.chooses d low_shapes low_values low (renumbered_inst number i) k) (values_of xs))
        (case_place (effects.result_shape d shapes values m i) i.member) (case_place (effects.result_shape d low_shapes low_values low (renumbered_inst number i)) i.member)
        (ap (λ s. case_place s i.member) shape)
        (λ k. some_for (effects.chooses d shapes values m i k) (effects.chooses d low_shapes low_values low (renumbered_inst number i) k) (values_of xs) (values_of xs) refl (chooses_for k))
    row_for row.GivesMember xs place =
        let o = option_and_then as_value (only xs) in
        some_for (effects.gives_member d shapes values m i (part_number d i))
        (effects.gives_member d low_shapes low_values low (renumbered_inst number i) (part_number d (renumbered_inst number i))) o o refl
        (λ x. some_for (gives_value m) (gives_value low) (option_and_then (λ k. effects.member_of d shapes values m i k x) (part_number d i))
        (option_and_then (λ k. effects.member_of d shapes values m i k x) (part_number d (renumbered_inst number i)))
        (ap (option_and_then (λ k. effects.member_of d shapes values m i k x)) part_same) (λ y. gives_for (ValueOf y ∷ [])))
    row_for row.GivesMembers xs place =
        let o = option_and_then as_value (only xs) in
        some_for (effects.gives_members d shapes values m i) (effects.gives_members d low_shapes low_values low (renumbered_inst number i)) o o refl
        (λ x. some_for (λ members. gives m (map ValueOf members)) (λ members. gives low (map ValueOf members)) (members_of x) (members_of x) refl (λ ys. gives_for (map ValueOf ys)))
    row_for row.AddressesMember xs place =
        let o = option_and_then as_place (only xs) in
        some_for (effects.names_member d shapes values m i (part_number d i))
        (effects.names_member d low_shapes low_values low (renumbered_inst number i) (part_number d (renumbered_inst number i))) o o refl
        (λ p. some_for (λ q. gives m (AddressOf q ∷ [])) (λ q. gives low (AddressOf q ∷ [])) (option_and_then (places.member_place p) (part_number d i))
        (option_and_then (places.member_place p) (part_number d (renumbered_inst number i))) (ap (option_and_then (places.member_place p)) part_same)
        (λ q. gives_for (AddressOf q ∷ [])))
    row_for row.AddressesField xs place =
        let o = option_and_then as_value (only xs) in
        some_for (effects.names_field d shapes values m i) (effects.names_field d low_shapes low_values low (renumbered_inst number i)) o o refl
        (λ x. some_for (effects.names_field_of d shapes values m i i.member (part_number d i))
        (effects.names_field_of d low_shapes low_values low (renumbered_inst number i) i.member (part_number d (renumbered_inst number i))) (object_of x) (object_of x) refl
        (λ q. subst (λ k. IsEffectFor (effects.names_field_of d shapes values m i i.member (part_number d i) q)
        (effects.names_field_of d low_shapes low_values low (renumbered_inst number i) i.member k q)) (sym part_same) (field_for i.member (part_number d i) q)))
    row_for row.CallsFunction xs place = calls_for xs
