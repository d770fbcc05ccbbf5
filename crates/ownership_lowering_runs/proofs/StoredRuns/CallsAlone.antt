-- No row but that of an `apply` calls a function.
use Rattle.std.proofs.Common.{◌≡◌, ◌⊎◌, inl, inr, List, [], ◌∷◌, refl, subst, Bool, true, false, cond, Option, Some, None}
use Rattle.std.specs.Prelude.{ℕ, map, option_and_then}
use Rattle.argument_conventions.specs.declared.row.Content.{Content}
use Rattle.argument_conventions.specs.declared.row.Content.TheVariants as content
use Rattle.instruction_table.specs.declared.op.Op.{Op}
use Rattle.instruction_table.specs.declared.op.Op.TheVariants as op
use Rattle.sil_ast.specs.declared.decl.Storage.{Storage}
use Rattle.sil_ast.specs.declared.decl.Storage.TheVariants as storage
use Rattle.sil_ast.specs.declared.inst.Inst.{Inst}
use Rattle.sil_ast.specs.declared.member.Member.{Member}
use Rattle.sil_ast.specs.declared.place.FuncId.{FuncId}
use Rattle.sil_ast.specs.declared.place.ObjectId.{ObjectId}
use Rattle.sil_types_declarations.specs.TypeDefinitions.Declarations.{Declarations}
use Rattle.holder_model_values.specs.RunValues.Memory.{Memory}
use Rattle.holder_model_values.specs.RunValues.Places as places
use Rattle.holder_model_values.specs.RunValues.Places.{Place, is_there_at, value_at}
use Rattle.holder_model_values.specs.RunValues.Shapes.{Shape, class_in, storage_in}
use Rattle.holder_model_values.specs.RunValues.Values as value
use Rattle.holder_model_values.specs.RunValues.Values.{Value, grouped, integer_of, members_of, object_of, references_of}
use Rattle.sil_verifier_runs.specs.holder_model.declared.row_effect.RowEffect.{RowEffect}
use Rattle.sil_verifier_runs.specs.holder_model.declared.row_effect.RowEffect.TheVariants as row
use Rattle.sil_verifier_runs.specs.holder_model.declared.trap.Trap.TheVariants as trap
use Rattle.memory_rules_accesses.specs.declared.access.Operation.{Operation}
use Rattle.sil_verifier_runs.specs.holder_model.Builtins.{builtin_value, is_set}
use Rattle.sil_verifier_runs.specs.holder_model.Data.{AddressOf, Datum, FunctionOf, ValueOf, all_of, as_place, as_value, values_of}
use Rattle.sil_verifier_runs.specs.holder_model.Effects as effects
use Rattle.sil_verifier_runs.specs.holder_model.Effects.{Calls, Effect, Faults, Makes, Traps, Unfit, effect_by, effect_of, gives, only, part_number, unchanged, with_some}
use Rattle.sil_verifier_runs.specs.holder_model.Faults.{HolderFault, NotLastSlot}
use Rattle.sil_verifier_runs.specs.holder_model.MemoryEffects as memory
use Rattle.sil_verifier_runs.specs.holder_model.MemoryEffects.{all_live, asked_before, effect, fault_of, holds, loaded_name, named_again, two, value_and_place}
use Rattle.sil_verifier_runs.specs.holder_model.ModuleShapes.{ModuleShapes, case_place}

abbrev NoCall : Effect HolderFault → Type 0
NoCall (Makes c) = Unit {0}
NoCall (Calls g args) = ⊥
NoCall (Traps t) = Unit {0}
NoCall (Faults x) = Unit {0}
NoCall Unfit = Unit {0}

some : {A : Type 0} (go : A → Effect HolderFault) (o : Option A) → ((x : A) → NoCall (go x)) → NoCall (with_some go o)
some go None h = tt
some go (Some x) h = h x

either_way : (b : Bool) (x y : Effect HolderFault) → NoCall x → NoCall y → NoCall (cond b x y)
either_way true x y h k = h
either_way false x y h k = k

pair : (go : Datum → Datum → Effect HolderFault) (xs : List Datum) → ((x y : Datum) → NoCall (go x y)) → NoCall (two go xs)
pair go [] h = tt
pair go (x ∷ []) h = tt
pair go (x ∷ y ∷ []) h = h x y
pair go (x ∷ y ∷ z ∷ rest) h = tt

pub calls_or : (r : RowEffect) → (r ≡ row.CallsFunction) ⊎ (r ≡ row.CallsFunction → ⊥)
calls_or row.CallsFunction = inl refl
calls_or _ = inr (λ e. cc)

pub op_of : (o : Op) → effect_of o ≡ row.CallsFunction → o ≡ op.Apply
op_of op.Apply e = refl
op_of _ e = cc

module _ (d : Declarations) (shapes : ModuleShapes) (values : List Shape) (m : Memory) (i : Inst) where
  held : (p : Place) (c : Option Content) (e : Effect HolderFault) → NoCall e → NoCall (memory.where_held d shapes values m i p c e)
  held p None e h = either_way (is_there_at m p) e (Faults NotLastSlot) h tt
  held p (Some c) e h =
      either_way (is_there_at m p) (cond (holds m c p) e (Faults (fault_of c))) (Faults NotLastSlot)
      (either_way (holds m c p) e (Faults (fault_of c)) h tt) tt

  loaded : (s : Option Storage) (after : Memory) (x : Value) → NoCall (loaded_name s m after x)
  loaded None after x = tt
  loaded (Some storage.Strong) after x = tt
  loaded (Some storage.Weak) after x = either_way (all_live m (references_of x)) (named_again after x) (effects.gives_value after (value.Case 0)) tt tt
  loaded (Some storage.Unowned) after x = either_way (all_live m (references_of x)) (named_again after x) (Traps trap.Unowned) tt tt

  at_one : (go : Operation → Place → Effect HolderFault) (xs : List Datum) → ((o : Operation) (p : Place) → NoCall (go o p)) → NoCall (memory.at_place d shapes values m i go xs)
  at_one go xs h =
      some (λ o. with_some (go o) (option_and_then as_place (only xs))) (memory.operation_done d shapes values m i)
      (λ o. some (go o) (option_and_then as_place (only xs)) (h o))

  stored : (o : Operation) (x y : Datum) → NoCall (value_and_place (memory.stores_by d shapes values m i o) x y)
  stored o x y =
      some (λ v. with_some (memory.stores_by d shapes values m i o v) (as_place y)) (as_value x)
      (λ v. some (memory.stores_by d shapes values m i o v) (as_place y) (λ p. held p (asked_before p.is_part o) _ tt))

  at_places : (r : RowEffect) (xs : List Datum) → NoCall (memory.at_places d shapes values m i r xs)
  at_places row.RemovesSlot xs =
      some (memory.removes d shapes values m i) (option_and_then as_place (only xs)) (λ p. held p (Some content.Empty) _ tt)
  at_places row.LoadsValue xs =
      at_one (memory.loads_by d shapes values m i) xs (λ o p. held p (asked_before p.is_part o) _ (loads o p (value_at m p)))
    where
      loads : (o : Operation) (p : Place) (v : Option Value) → NoCall (with_some (λ x. Makes (record (unchanged (memory.after d shapes values m i o p)) {
        results = ValueOf x ∷ [];
        retained = cond (memory.copies_with i.qualifier) (references_of x) [];
      })) v)
      loads o p None = tt
      loads o p (Some x) = tt
  at_places row.LoadsName xs =
      at_one (memory.names_by d shapes values m i) xs (λ o p. held p (asked_before p.is_part o) _
      (some (loaded_name (storage_in p.shape) m (memory.after d shapes values m i o p)) (value_at m p) (loaded (storage_in p.shape) (memory.after d shapes values m i o p))))
  at_places row.StoresValue xs =
      some (λ o. two (value_and_place (memory.stores_by d shapes values m i o)) xs) (memory.operation_done d shapes values m i)
      (λ o. pair (value_and_place (memory.stores_by d shapes values m i o)) xs (stored o))
  at_places row.DestroysPlace xs = at_one (memory.destroys_by d shapes values m i) xs (λ o p. held p (asked_before p.is_part o) _ tt)
  at_places row.NoEffect xs = tt
  at_places row.GivesLiteral xs = tt
  at_places row.GivesFunction xs = tt
  at_places row.Computes xs = tt
  at_places row.TrapsWhereSet xs = tt
  at_places row.MakesObject xs = tt
  at_places row.MakesSlot xs = tt
  at_places row.GivesOperand xs = tt
  at_places row.CopiesOperand xs = tt
  at_places row.RetainsOperand xs = tt
  at_places row.DropsOperand xs = tt
  at_places row.Groups xs = tt
  at_places row.ChoosesCase xs = tt
  at_places row.GivesMember xs = tt
  at_places row.GivesMembers xs = tt
  at_places row.AddressesMember xs = tt
  at_places row.AddressesField xs = tt
  at_places row.CallsFunction xs = tt

  the_value : (go : Value → Effect HolderFault) (xs : List Datum) → ((x : Value) → NoCall (go x)) → NoCall (effects.the_value d shapes values m i go xs)
  the_value go xs h = some go (option_and_then as_value (only xs)) h

  the_place : (go : Place → Effect HolderFault) (xs : List Datum) → ((p : Place) → NoCall (go p)) → NoCall (effects.the_place d shapes values m i go xs)
  the_place go xs h = some go (option_and_then as_place (only xs)) h

  chosen : (k : ℕ) (xs : List Value) → NoCall (effects.chooses d shapes values m i k xs)
  chosen k [] = tt
  chosen k (x ∷ []) = tt
  chosen k (x ∷ y ∷ ys) = tt

  field_named : (o : Option Member) (k : Option ℕ) (x : ObjectId) → NoCall (effects.names_field_of d shapes values m i o k x)
  field_named None k x = tt
  field_named (Some named) k x =
      some (λ q. gives m (AddressOf q ∷ [])) (option_and_then (effects.field_of_object d shapes values m i named x) k) (λ q. tt)

  by_row : (r : RowEffect) (xs : List Datum) → (r ≡ row.CallsFunction → ⊥) → NoCall (effect_by d shapes values m i (memory.at_places d shapes values m i) r xs)
  by_row row.NoEffect xs other = tt
  by_row row.GivesLiteral xs other = some (λ n. effects.gives_value m (value.Int n)) i.number (λ n. tt)
  by_row row.GivesFunction xs other = some (λ g. gives m (FunctionOf g ∷ [])) i.function (λ g. tt)
  by_row row.Computes xs other =
      some (effects.gives_value m) (option_and_then (builtin_value i.text) (option_and_then (all_of integer_of) (values_of xs))) (λ x. tt)
  by_row row.TrapsWhereSet xs other =
      the_value (λ x. with_some (effects.traps_where d shapes values m i) (integer_of x)) xs
      (λ x. some (effects.traps_where d shapes values m i) (integer_of x) (λ n. either_way (is_set n) _ (gives m []) tt tt))
  by_row row.MakesObject xs other = some (effects.makes_object d shapes values m i) (class_in (effects.result_shape d shapes values m i)) (λ class. tt)
  by_row row.MakesSlot xs other = tt
  by_row row.RemovesSlot xs other = at_places row.RemovesSlot xs
  by_row row.GivesOperand xs other = some (λ x. gives m (x ∷ [])) (only xs) (λ x. tt)
  by_row row.CopiesOperand xs other = some (effects.copies d shapes values m i) (only xs) (λ x. tt)
  by_row row.RetainsOperand xs other = some (effects.retains d shapes values m i) (only xs) (λ x. tt)
  by_row row.DropsOperand xs other = some (effects.drops d shapes values m i) (only xs) (λ x. tt)
  by_row row.LoadsValue xs other = at_places row.LoadsValue xs
  by_row row.StoresValue xs other = at_places row.StoresValue xs
  by_row row.DestroysPlace xs other = at_places row.DestroysPlace xs
  by_row row.LoadsName xs other = at_places row.LoadsName xs
  by_row row.Groups xs other = some (λ vs. effects.gives_value m (grouped vs)) (values_of xs) (λ vs. tt)
  by_row row.ChoosesCase xs other =
      some (λ k. with_some (effects.chooses d shapes values m i k) (values_of xs)) (case_place (effects.result_shape d shapes values m i) i.member)
      (λ k. some (effects.chooses d shapes values m i k) (values_of xs) (chosen k))
  by_row row.GivesMember xs other =
      the_value (effects.gives_member d shapes values m i (part_number d i)) xs
      (λ x. some (effects.gives_value m) (option_and_then (λ k. effects.member_of d shapes values m i k x) (part_number d i)) (λ y. tt))
  by_row row.GivesMembers xs other =
      the_value (effects.gives_members d shapes values m i) xs (λ x. some (λ members. gives m (map ValueOf members)) (members_of x) (λ members. tt))
  by_row row.AddressesMember xs other =
      the_place (effects.names_member d shapes values m i (part_number d i)) xs
      (λ p. some (λ q. gives m (AddressOf q ∷ [])) (option_and_then (places.member_place p) (part_number d i)) (λ q. tt))
  by_row row.AddressesField xs other =
      the_value (effects.names_field d shapes values m i) xs
      (λ x. some (effects.names_field_of d shapes values m i i.member (part_number d i)) (object_of x) (field_named i.member (part_number d i)))
  by_row row.CallsFunction xs other = absurd (other refl)

  -- what calls is an `apply`
  pub calls_alone : (xs : List Datum) (g : FuncId) (args : List Datum) → effect d shapes values m i xs ≡ Calls g args → i.op ≡ op.Apply
  calls_alone xs g args e = at (calls_or (effect_of i.op))
    where
      at : (effect_of i.op ≡ row.CallsFunction) ⊎ (effect_of i.op ≡ row.CallsFunction → ⊥) → i.op ≡ op.Apply
      at (inl is) = op_of i.op is
      at (inr other) = absurd (subst NoCall e (by_row (effect_of i.op) xs other))
