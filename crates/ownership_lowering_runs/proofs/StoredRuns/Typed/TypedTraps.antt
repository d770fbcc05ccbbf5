-- A row of a typed state that traps finds what it needs: it is a `cond_fail`, or a name is loaded.
use Rattle.std.proofs.Common.{◌≡◌, ℕ, ℤ, List, [], ◌∷◌, map, refl, sym, ap, subst, Bool, true, false, cond, Option, Some, None}
use Rattle.std.specs.Prelude.{option_and_then}
use Rattle.argument_conventions.specs.declared.row.Content.{Content}
use Rattle.argument_conventions.specs.declared.row.Content.TheVariants as content
use Rattle.numbered_form.specs.Lists.{Each}
use Rattle.sil_ast.specs.declared.inst.Inst.{Inst}
use Rattle.sil_ast.specs.declared.member.Member.{Member}
use Rattle.sil_ast.specs.declared.module.Module.{Module}
use Rattle.sil_ast.specs.declared.place.FuncId.{FuncId}
use Rattle.sil_ast.specs.declared.place.ObjectId.{ObjectId}
use Rattle.sil_types_declarations.specs.TypeDefinitions.Declarations.{Declarations, declarations_of}
use Rattle.holder_model_values.specs.RunValues.Memory.{Memory}
use Rattle.holder_model_values.specs.RunValues.Places.{Place, emptied, filled, is_there_at, member_place, removed, value_at}
use Rattle.holder_model_values.specs.RunValues.Shapes.{Shape, class_in, storage_in}
use Rattle.holder_model_values.specs.RunValues.Values as value
use Rattle.holder_model_values.specs.RunValues.Values.{Value, grouped, integer_of, members_of, object_of, references_of}
use Rattle.sil_verifier_runs.specs.holder_model.RunTyping.Forms.{Form, form_of}
use Rattle.sil_verifier_runs.specs.holder_model.Builtins.{builtin_value}
use Rattle.sil_verifier_runs.specs.holder_model.Data.{AddressOf, Datum, FunctionOf, ValueOf, all_of, as_function, as_place, as_value, references_in, values_of}
use Rattle.sil_verifier_runs.specs.holder_model.Effects as effects
use Rattle.sil_verifier_runs.specs.holder_model.Effects.{Effect, Faults, Makes, Traps, effect_by, effect_of, only, with_some}
use Rattle.sil_verifier_runs.specs.holder_model.Faults.{HolderFault, NotLastSlot}
use Rattle.sil_verifier_runs.specs.holder_model.MemoryEffects as memory_effects
use Rattle.sil_verifier_runs.specs.holder_model.MemoryEffects.{asked_before, fault_of, holds, loaded_name, takes, where_held}
use Rattle.sil_verifier_runs.specs.holder_model.ModuleShapes.{ModuleShapes, case_place, shapes_in, shapes_of}
use Rattle.sil_verifier_runs.specs.holder_model.declared.row_effect.RowEffect.{RowEffect}
use Rattle.sil_verifier_runs.specs.holder_model.declared.row_effect.RowEffect.TheVariants as row
use Rattle.sil_verifier_runs.specs.holder_model.declared.trap.Trap.{Trap}
use Rattle.memory_rules_accesses.specs.Operations.{access_kind_of, operation_by}
use Rattle.memory_rules_accesses.specs.declared.access.Operation.{Operation}
use Rattle.ownership_lowering_laws.specs.holder_model_typing.TypedMemory.inner.Worlds.{World}
use Rattle.sil_verifier_runs.proofs.sil_verifier_frames.Typed.Data.{DataAre}
use Rattle.ownership_lowering_runs.specs.StoredRuns.inner.Frames.{IsNoAddress}
use Rattle.ownership_lowering_runs.specs.StoredRuns.inner.RowsRight.{TrapRight, is_place_row}
use Rattle.ownership_lowering_runs.specs.StoredRuns.inner.TypedTraps.{AreTypedTraps}
use Rattle.ownership_lowering_runs.proofs.StoredRuns.PlacesFound.{names_op, one_of}
use Rattle.ownership_lowering_runs.proofs.StoredRuns.Typed.TypedInsts.{given_typed, operand_forms}
use Rattle.ownership_lowering_runs.proofs.StoredRuns.Typed.TypedPlainRows.{traps_op}

abbrev E : Type 0
E = Effect HolderFault

-- ---- what comes to a trap

module _ (t : Trap) where
  abbrev IsTrap : E → Type 0
  IsTrap e = ◌≡◌ {A = E} e (Traps t)

  some_trapped : {A : Type 0} (go : A → E) (o : Option A) → IsTrap (with_some go o) → (x : A) × (o ≡ Some x) × IsTrap (go x)
  some_trapped go None e = absurd (cc)
  some_trapped go (Some x) e = (x, refl, e)

  never : {A : Type 0} (go : A → E) (o : Option A) → ((x : A) → IsTrap (go x) → ⊥) → IsTrap (with_some go o) → ⊥
  never go None none e = cc
  never go (Some x) none e = none x e

  makes_no_trap : (c : effects.Change) → IsTrap (Makes c) → ⊥
  makes_no_trap c e = cc

  only_value : (xs : List Datum) (v : Value) → option_and_then as_value (only xs) ≡ Some v → xs ≡ ValueOf v ∷ []
  only_value [] v e = absurd (cc)
  only_value (ValueOf x ∷ []) v e = let same : x ≡ v = cc in ap (λ y. ValueOf y ∷ []) same
  only_value (AddressOf x ∷ []) v e = absurd (cc)
  only_value (FunctionOf x ∷ []) v e = absurd (cc)
  only_value (x ∷ y ∷ ys) v e = absurd (cc)

  only_place : (xs : List Datum) (p : Place) → option_and_then as_place (only xs) ≡ Some p → xs ≡ AddressOf p ∷ []
  only_place [] p e = absurd (cc)
  only_place (ValueOf x ∷ []) p e = absurd (cc)
  only_place (AddressOf x ∷ []) p e = let same : x ≡ p = cc in ap (λ y. AddressOf y ∷ []) same
  only_place (FunctionOf x ∷ []) p e = absurd (cc)
  only_place (x ∷ y ∷ ys) p e = absurd (cc)

  module _ (d : Declarations) (shapes : ModuleShapes) (values : List Shape) (m : Memory) (i : Inst) where
    abbrev done : RowEffect → List Datum → E
    done r xs = effect_by d shapes values m i (memory_effects.at_places d shapes values m i) r xs

    held_trapped : (y : Place) (asked : Option Content) (e : E) → IsTrap (where_held d shapes values m i y asked e) → (is_there_at m y ≡ true) × IsTrap e
    held_trapped y None e h = by (is_there_at m y) refl h
      where
        by : (b : Bool) → is_there_at m y ≡ b → IsTrap (cond b e (Faults NotLastSlot)) → (is_there_at m y ≡ true) × IsTrap e
        by true is g = (is, g)
        by false is g = absurd (cc)
    held_trapped y (Some x) e h = by (is_there_at m y) refl (holds m x y) h
      where
        by : (b : Bool) → is_there_at m y ≡ b → (k : Bool) → IsTrap (cond b (cond k e (Faults (fault_of x))) (Faults NotLastSlot)) → (is_there_at m y ≡ true) × IsTrap e
        by true is true g = (is, g)
        by true is false g = absurd (cc)
        by false is k g = absurd (cc)

    held_makes : (y : Place) (asked : Option Content) (c : effects.Change) → IsTrap (where_held d shapes values m i y asked (Makes c)) → ⊥
    held_makes y asked c h = makes_no_trap c (held_trapped y asked (Makes c) h).1

    -- a name that is loaded
    record NameTrapped (xs : List Datum) : Type 0 where
      place : Place
      operation : Operation
      value : Value
      given : xs ≡ AddressOf place ∷ []
      is_done : operation_by (access_kind_of i.op) i.qualifier ≡ Some operation
      there : is_there_at m place ≡ true
      held : value_at m place ≡ Some value
      traps : IsTrap (loaded_name (storage_in place.shape) m (cond (takes operation) (emptied m place) m) value)

    name_trapped : (xs : List Datum) → IsTrap (done row.LoadsName xs) → NameTrapped xs
    name_trapped xs h =
        let o = some_trapped (λ o. with_some (memory_effects.names_by d shapes values m i o) (option_and_then as_place (only xs))) (operation_by (access_kind_of i.op) i.qualifier) h in
        let y = some_trapped (memory_effects.names_by d shapes values m i o.0) (option_and_then as_place (only xs)) o.2 in
        let at = held_trapped y.0 (asked_before y.0.is_part o.0)
        (with_some (loaded_name (storage_in y.0.shape) m (cond (takes o.0) (emptied m y.0) m)) (value_at m y.0)) y.2 in
        let z = some_trapped (loaded_name (storage_in y.0.shape) m (cond (takes o.0) (emptied m y.0) m)) (value_at m y.0) at.1 in
        record { place = y.0; operation = o.0; value = z.0; given = only_place xs y.0 y.1; is_done = o.1; there = at.0; held = z.1; traps = z.2 }

    data TrapsSo (xs : List Datum) (r : RowEffect) : Type 0 where
      set : r ≡ row.TrapsWhereSet → (v : Value) → xs ≡ ValueOf v ∷ [] → TrapsSo xs r
      loads : r ≡ row.LoadsName → NameTrapped xs → TrapsSo xs r

    chooses_none : (k : ℕ) (vs : List Value) → IsTrap (effects.chooses d shapes values m i k vs) → ⊥
    chooses_none k [] e = cc
    chooses_none k (v ∷ []) e = cc
    chooses_none k (v ∷ u ∷ vs) e = cc

    field_none : (o : Option Member) (k : Option ℕ) (object : ObjectId) → IsTrap (effects.names_field_of d shapes values m i o k object) → ⊥
    field_none None k object e = cc
    field_none (Some named) k object e =
        never (λ q. effects.gives m (AddressOf q ∷ [])) (option_and_then (effects.field_of_object d shapes values m i named object) k) (λ q g. cc) e

    calls_none : (xs : List Datum) → IsTrap (effects.calls d shapes values m i xs) → ⊥
    calls_none [] e = cc
    calls_none (x ∷ xs) e = by (as_function x) e
      where
        by : (o : Option FuncId) → IsTrap (with_some (λ g. effects.Calls g xs) o) → ⊥
        by None h = cc
        by (Some g) h = cc

    stores_none : (o : Operation) (xs : List Datum)
        → IsTrap (memory_effects.two (memory_effects.value_and_place (memory_effects.stores_by d shapes values m i o)) xs) → ⊥
    stores_none o [] e = cc
    stores_none o (x ∷ []) e = cc
    stores_none o (x ∷ y ∷ []) e =
        let v = some_trapped (λ v. with_some (memory_effects.stores_by d shapes values m i o v) (as_place y)) (as_value x) e in
        let p = some_trapped (memory_effects.stores_by d shapes values m i o v.0) (as_place y) v.2 in
        held_makes p.0 (asked_before p.0.is_part o) (record (effects.unchanged (filled m p.0 v.0)) { dropped = memory_effects.references_at m p.0 }) p.2
    stores_none o (x ∷ y ∷ z ∷ rest) e = cc

    at_none : (go : Operation → Place → E) → ((o : Operation) (y : Place) → IsTrap (go o y) → ⊥) → (xs : List Datum) → IsTrap (memory_effects.at_place d shapes values m i go xs) → ⊥
    at_none go none xs e =
        never (λ o. with_some (go o) (option_and_then as_place (only xs))) (operation_by (access_kind_of i.op) i.qualifier)
        (λ o h. never (go o) (option_and_then as_place (only xs)) (none o) h) e

    literal_none : (o : Option ℤ) → IsTrap (with_some (λ n. effects.gives_value m (value.Int n)) o) → ⊥
    literal_none o e = never (λ n. effects.gives_value m (value.Int n)) o (λ n h. makes_no_trap _ h) e

    function_none : (o : Option FuncId) → IsTrap (with_some (λ g. effects.gives m (FunctionOf g ∷ [])) o) → ⊥
    function_none o e = never (λ g. effects.gives m (FunctionOf g ∷ [])) o (λ g h. makes_no_trap _ h) e

    value_none : (o : Option Value) → IsTrap (with_some (effects.gives_value m) o) → ⊥
    value_none o e = never (effects.gives_value m) o (λ x h. makes_no_trap _ h) e

    object_none : (o : Option (List ℕ)) → IsTrap (with_some (effects.makes_object d shapes values m i) o) → ⊥
    object_none o e = never (effects.makes_object d shapes values m i) o (λ x h. makes_no_trap _ h) e

    datum_none : (go : Datum → effects.Change) (o : Option Datum) → IsTrap (with_some (λ x. Makes (go x)) o) → ⊥
    datum_none go o e = never (λ x. Makes (go x)) o (λ x h. makes_no_trap _ h) e

    groups_none : (o : Option (List Value)) → IsTrap (with_some (λ vs. effects.gives_value m (grouped vs)) o) → ⊥
    groups_none o e = never (λ vs. effects.gives_value m (grouped vs)) o (λ x h. makes_no_trap _ h) e

    case_none : (k : Option ℕ) (vs : Option (List Value)) → IsTrap (with_some (λ k. with_some (effects.chooses d shapes values m i k) vs) k) → ⊥
    case_none k vs e =
        never (λ k. with_some (effects.chooses d shapes values m i k) vs) k (λ k h. never (effects.chooses d shapes values m i k) vs (chooses_none k) h) e

    member_none : (k : Option ℕ) (o : Option Value) → IsTrap (with_some (effects.gives_member d shapes values m i k) o) → ⊥
    member_none k o e =
        never (effects.gives_member d shapes values m i k) o
        (λ x h. value_none (option_and_then (λ k. effects.member_of d shapes values m i k x) k) h) e

    members_none : (o : Option Value) → IsTrap (with_some (effects.gives_members d shapes values m i) o) → ⊥
    members_none o e =
        never (effects.gives_members d shapes values m i) o
        (λ x h. never (λ members. effects.gives m (map ValueOf members)) (members_of x) (λ y g. makes_no_trap _ g) h) e

    place_none : (o : Option Place) → IsTrap (with_some (λ q. effects.gives m (AddressOf q ∷ [])) o) → ⊥
    place_none o e = never (λ q. effects.gives m (AddressOf q ∷ [])) o (λ x h. makes_no_trap _ h) e

    names_member_none : (k : Option ℕ) (o : Option Place) → IsTrap (with_some (effects.names_member d shapes values m i k) o) → ⊥
    names_member_none k o e =
        never (effects.names_member d shapes values m i k) o (λ p h. place_none (option_and_then (member_place p) k) h) e

    names_field_none : (o : Option Value) → IsTrap (with_some (effects.names_field d shapes values m i) o) → ⊥
    names_field_none o e =
        never (effects.names_field d shapes values m i) o
        (λ x h. never (effects.names_field_of d shapes values m i i.member (effects.part_number d i)) (object_of x)
        (λ y g. field_none i.member (effects.part_number d i) y g) h) e

    loads_none : (o : Operation) (y : Place) → IsTrap (memory_effects.loads_by d shapes values m i o y) → ⊥
    loads_none o y h =
        let go : Value → E = λ x. Makes (record (effects.unchanged (memory_effects.after d shapes values m i o y)) {
          results = ValueOf x ∷ [];
          retained = cond (memory_effects.copies_with i.qualifier) (references_of x) [];
        }) in
        never go (value_at m y) (λ x g. makes_no_trap _ g) (held_trapped y (asked_before y.is_part o) (with_some go (value_at m y)) h).1

    traps_so : (r : RowEffect) (xs : List Datum) → IsTrap (done r xs) → TrapsSo xs r
    traps_so row.NoEffect xs e = absurd (makes_no_trap _ e)
    traps_so row.GivesLiteral xs e = absurd (literal_none i.number e)
    traps_so row.GivesFunction xs e = absurd (function_none i.function e)
    traps_so row.Computes xs e = absurd (value_none (option_and_then (builtin_value i.text) (option_and_then (all_of integer_of) (values_of xs))) e)
    traps_so row.TrapsWhereSet xs e =
        let v = some_trapped (λ x. with_some (effects.traps_where d shapes values m i) (integer_of x)) (option_and_then as_value (only xs)) e in
        TrapsSo.set refl v.0 (only_value xs v.0 v.1)
    traps_so row.MakesObject xs e = absurd (object_none (class_in (effects.result_shape d shapes values m i)) e)
    traps_so row.MakesSlot xs e = absurd (makes_no_trap _ e)
    traps_so row.RemovesSlot xs e =
        absurd (never (memory_effects.removes d shapes values m i) (option_and_then as_place (only xs))
        (λ y h. held_makes y (Some content.Empty) (record (effects.unchanged (removed m y)) { slots = effects.ClosesSlot y }) h) e)
    traps_so row.GivesOperand xs e = absurd (datum_none (λ x. record (effects.unchanged m) { results = x ∷ [] }) (only xs) e)
    traps_so row.CopiesOperand xs e =
        absurd (datum_none (λ x. record (effects.unchanged m) { results = x ∷ []; retained = references_in x }) (only xs) e)
    traps_so row.RetainsOperand xs e = absurd (datum_none (λ x. record (effects.unchanged m) { retained = references_in x }) (only xs) e)
    traps_so row.DropsOperand xs e = absurd (datum_none (λ x. record (effects.unchanged m) { dropped = references_in x }) (only xs) e)
    traps_so row.LoadsValue xs e = absurd (at_none (memory_effects.loads_by d shapes values m i) loads_none xs e)
    traps_so row.StoresValue xs e =
        absurd (never (λ o. memory_effects.two (memory_effects.value_and_place (memory_effects.stores_by d shapes values m i o)) xs)
        (operation_by (access_kind_of i.op) i.qualifier) (λ o h. stores_none o xs h) e)
    traps_so row.DestroysPlace xs e =
        absurd (at_none (memory_effects.destroys_by d shapes values m i) (λ o y h. held_makes y (asked_before y.is_part o)
        (record (effects.unchanged (memory_effects.after d shapes values m i o y)) { dropped = memory_effects.references_at m y }) h) xs e)
    traps_so row.LoadsName xs e = TrapsSo.loads refl (name_trapped xs e)
    traps_so row.Groups xs e = absurd (groups_none (values_of xs) e)
    traps_so row.ChoosesCase xs e = absurd (case_none (case_place (effects.result_shape d shapes values m i) i.member) (values_of xs) e)
    traps_so row.GivesMember xs e = absurd (member_none (effects.part_number d i) (option_and_then as_value (only xs)) e)
    traps_so row.GivesMembers xs e = absurd (members_none (option_and_then as_value (only xs)) e)
    traps_so row.AddressesMember xs e = absurd (names_member_none (effects.part_number d i) (option_and_then as_place (only xs)) e)
    traps_so row.AddressesField xs e = absurd (names_field_none (option_and_then as_value (only xs)) e)
    traps_so row.CallsFunction xs e = absurd (calls_none xs e)

-- ---- typed rows

module _ (m : Module) (w : World) where
  no_form : (forms : List Form) (xs : List Datum) → DataAre m w forms xs → xs ≡ [] → forms ≡ []
  no_form _ _ DataAre.none e = refl
  no_form _ _ (DataAre.more form x forms xs is rest) e = absurd (cc)

  one_form : (forms : List Form) (xs : List Datum) → DataAre m w forms xs → (y : Datum) → xs ≡ y ∷ [] → (form : Form) × (forms ≡ form ∷ [])
  one_form _ _ DataAre.none y e = absurd (cc)
  one_form _ _ (DataAre.more form x forms xs is rest) y e = (form, ap (λ others. form ∷ others) (no_form forms xs rest (cc)))

pub are_typed_traps : AreTypedTraps
are_typed_traps m s l w frame rest f i ops t a frame_is x is =
    by (traps_so t (declarations_of m) (shapes_of m) (shapes_in (shapes_of m) frame.function) s.memory i (effect_of i.op) ops.given is)
  where
    by : TrapsSo t (declarations_of m) (shapes_of m) (shapes_in (shapes_of m) frame.function) s.memory i ops.given (effect_of i.op) → TrapRight m s frame i ops t
    by (TrapsSo.set e v given) =
        TrapRight.plain t is (traps_op i.op e).0 (traps_op i.op e).1 (ap is_place_row e) (subst (Each IsNoAddress) (sym given) (refl, tt))
    by (TrapsSo.loads e h) =
        let form = one_form m w (operand_forms m f i) ops.given (given_typed m s l w frame rest f i ops a frame_is x) (AddressOf h.place) h.given in
        let o = one_of (λ v. form_of (declarations_of m) f v) i.operands form.0 form.1 in
        TrapRight.name t o.0 h.place h.operation h.value e (names_op i.op e).0 (names_op i.op e).1 o.1 h.given h.there h.is_done h.held h.traps
