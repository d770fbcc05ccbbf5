-- What an instruction calls: its row is one of calls, and its operands are the callee and the arguments.
use Rattle.std.proofs.Common.{◌≡◌, ℕ, List, [], ◌∷◌, map, refl, ap, ◌∙◌, subst, Bool, true, false, Option, Some, None}
use Rattle.std.specs.Prelude.{cond, option_and_then, unwrap_or}
use Rattle.argument_conventions.specs.declared.row.Content.{Content}
use Rattle.argument_conventions.specs.declared.row.Content.TheVariants as content
use Rattle.sil_verifier_frames.specs.holder_model.Builtins.{builtin_value, is_set}
use Rattle.sil_verifier_frames.specs.holder_model.Data.{AddressOf, Datum, FunctionOf, ValueOf, all_of, as_function, as_place, as_value, values_of}
use Rattle.sil_verifier_frames.specs.holder_model.Effects as effects
use Rattle.sil_verifier_frames.specs.holder_model.Effects.{Calls, Effect, Faults, Traps, effect_by, effect_of, gives, gives_value, only, part_number}
use Rattle.sil_verifier_frames.specs.holder_model.Effects.{with_some}
use Rattle.sil_verifier_frames.specs.holder_model.Faults.{HolderFault, NotLastSlot}
use Rattle.sil_verifier_frames.specs.holder_model.MemoryEffects as memory
use Rattle.sil_verifier_frames.specs.holder_model.MemoryEffects.{after, all_live, asked_before, at_place, at_places, effect, fault_of, holds, loaded_name, named_again}
use Rattle.sil_verifier_frames.specs.holder_model.MemoryEffects.{operation_done, two, value_and_place, where_held}
use Rattle.sil_verifier_frames.specs.holder_model.ModuleShapes.{ModuleShapes, case_place}
use Rattle.sil_verifier_frames.specs.holder_model.declared.row_effect.RowEffect.{RowEffect}
use Rattle.sil_verifier_frames.specs.holder_model.declared.row_effect.RowEffect.TheVariants as row
use Rattle.sil_verifier_frames.specs.holder_model.declared.trap.Trap.TheVariants as trap
use Rattle.sil_verifier_frames.specs.memory_rules_accesses.declared.access.Operation.{Operation}
use Rattle.holder_model_values.specs.RunValues.Memory.{Memory}
use Rattle.holder_model_values.specs.RunValues.Places as places
use Rattle.holder_model_values.specs.RunValues.Places.{Place, is_there_at, value_at}
use Rattle.holder_model_values.specs.RunValues.Shapes.{Shape, class_in, storage_in}
use Rattle.holder_model_values.specs.RunValues.Values as value
use Rattle.holder_model_values.specs.RunValues.Values.{Value, grouped, integer_of, members_of, object_of, references_of}
use Rattle.sil_ast.specs.declared.decl.Storage.{Storage}
use Rattle.sil_ast.specs.declared.decl.Storage.TheVariants as storage
use Rattle.sil_ast.specs.declared.inst.Inst.{Inst}
use Rattle.sil_ast.specs.declared.member.Member.{Member}
use Rattle.sil_ast.specs.declared.place.FuncId.{FuncId}
use Rattle.sil_ast.specs.declared.place.ObjectId.{ObjectId}
use Rattle.sil_types_declarations.specs.TypeDefinitions.Declarations.{Declarations}

-- the effect is no call
abbrev CallsNone : Effect HolderFault → Type 0
CallsNone (Calls g args) = ⊥
CallsNone _ = Unit {0}

some_none : {A : Type 0} (go : A → Effect HolderFault) (o : Option A) → ((x : A) → CallsNone (go x)) → CallsNone (with_some go o)
some_none go None h = tt
some_none go (Some x) h = h x

either_none : (b : Bool) (e g : Effect HolderFault) → CallsNone e → CallsNone g → CallsNone (cond b e g)
either_none true e g h k = h
either_none false e g h k = k

module _ (d : Declarations) (shapes : ModuleShapes) (values : List Shape) (m : Memory) (i : Inst) where
  held_none : (p : Place) (c : Option Content) (e : Effect HolderFault) → CallsNone e → CallsNone (where_held d shapes values m i p c e)
  held_none p None e h = either_none (is_there_at m p) e (Faults NotLastSlot) h tt
  held_none p (Some c) e h =
      either_none (is_there_at m p) (cond (holds m c p) e (Faults (fault_of c))) (Faults NotLastSlot) (either_none (holds m c p) e (Faults (fault_of c)) h tt) tt

  name_none : (how : Option Storage) (behind : Memory) (x : Value) → CallsNone (loaded_name how m behind x)
  name_none None behind x = tt
  name_none (Some storage.Strong) behind x = tt
  name_none (Some storage.Weak) behind x = either_none (all_live m (references_of x)) (named_again behind x) (gives_value behind (value.Case 0)) tt tt
  name_none (Some storage.Unowned) behind x = either_none (all_live m (references_of x)) (named_again behind x) (Traps trap.Unowned) tt tt

  place_none : (go : Operation → Place → Effect HolderFault) → ((o : Operation) (p : Place) → CallsNone (go o p)) → (xs : List Datum)
      → CallsNone (at_place d shapes values m i go xs)
  place_none go h xs =
      some_none (λ o. with_some (go o) (option_and_then as_place (only xs))) (operation_done d shapes values m i)
      (λ o. some_none (go o) (option_and_then as_place (only xs)) (h o))

  two_none : (go : Datum → Datum → Effect HolderFault) → ((x y : Datum) → CallsNone (go x y)) → (xs : List Datum) → CallsNone (two go xs)
  two_none go h [] = tt
  two_none go h (x ∷ []) = tt
  two_none go h (x ∷ y ∷ []) = h x y
  two_none go h (x ∷ y ∷ z ∷ rest) = tt

  chosen_none : (k : ℕ) (vs : List Value) → CallsNone (effects.chooses d shapes values m i k vs)
  chosen_none k [] = tt
  chosen_none k (x ∷ []) = tt
  chosen_none k (x ∷ y ∷ vs) = tt

  field_none : (named : Option Member) (k : Option ℕ) (o : ObjectId) → CallsNone (effects.names_field_of d shapes values m i named k o)
  field_none None k o = tt
  field_none (Some named) k o =
      some_none (λ q. gives m (AddressOf q ∷ [])) (option_and_then (effects.field_of_object d shapes values m i named o) k) (λ q. tt)

  value_none : (o : Option Value) → CallsNone (with_some (gives_value m) o)
  value_none o = some_none (gives_value m) o (λ x. tt)

  abbrev calls_row : RowEffect → Bool
  calls_row row.CallsFunction = true
  calls_row _ = false

  none_called : (e : RowEffect) → calls_row e ≡ false → (xs : List Datum) → CallsNone (effect_by d shapes values m i (at_places d shapes values m i) e xs)
  none_called row.NoEffect none xs = tt
  none_called row.GivesLiteral none xs = some_none (λ n. gives_value m (value.Int n)) i.number (λ n. tt)
  none_called row.GivesFunction none xs = some_none (λ g. gives m (FunctionOf g ∷ [])) i.function (λ n. tt)
  none_called row.Computes none xs = value_none (option_and_then (builtin_value i.text) (option_and_then (all_of integer_of) (values_of xs)))
  none_called row.TrapsWhereSet none xs =
      some_none (λ x. with_some (effects.traps_where d shapes values m i) (integer_of x)) (option_and_then as_value (only xs))
      (λ x. some_none (effects.traps_where d shapes values m i) (integer_of x)
      (λ n. either_none (is_set n) (Traps (trap.CondFail (unwrap_or i.text []))) (gives m []) tt tt))
  none_called row.MakesObject none xs = some_none (effects.makes_object d shapes values m i) (class_in (effects.result_shape d shapes values m i)) (λ n. tt)
  none_called row.MakesSlot none xs = tt
  none_called row.RemovesSlot none xs =
      some_none (memory.removes d shapes values m i) (option_and_then as_place (only xs)) (λ p. held_none p (Some content.Empty) _ tt)
  none_called row.GivesOperand none xs = some_none (λ x. gives m (x ∷ [])) (only xs) (λ n. tt)
  none_called row.CopiesOperand none xs = some_none (effects.copies d shapes values m i) (only xs) (λ n. tt)
  none_called row.RetainsOperand none xs = some_none (effects.retains d shapes values m i) (only xs) (λ n. tt)
  none_called row.DropsOperand none xs = some_none (effects.drops d shapes values m i) (only xs) (λ n. tt)
  none_called row.LoadsValue none xs =
      place_none (memory.loads_by d shapes values m i)
      (λ o p. held_none p (asked_before p.is_part o) _ (some_none _ (value_at m p) (λ x. tt))) xs
  none_called row.StoresValue none xs =
      some_none (λ o. two (value_and_place (memory.stores_by d shapes values m i o)) xs) (operation_done d shapes values m i)
      (λ o. two_none (value_and_place (memory.stores_by d shapes values m i o))
      (λ x y. some_none (λ v. with_some (memory.stores_by d shapes values m i o v) (as_place y)) (as_value x)
      (λ v. some_none (memory.stores_by d shapes values m i o v) (as_place y) (λ p. held_none p (asked_before p.is_part o) _ tt))) xs)
  none_called row.DestroysPlace none xs = place_none (memory.destroys_by d shapes values m i) (λ o p. held_none p (asked_before p.is_part o) _ tt) xs
  none_called row.LoadsName none xs =
      place_none (memory.names_by d shapes values m i)
      (λ o p. held_none p (asked_before p.is_part o) _
      (some_none (loaded_name (storage_in p.shape) m (after d shapes values m i o p)) (value_at m p) (name_none (storage_in p.shape) (after d shapes values m i o p)))) xs
  none_called row.Groups none xs = some_none (λ vs. gives_value m (grouped vs)) (values_of xs) (λ n. tt)
  none_called row.ChoosesCase none xs =
      some_none (λ k. with_some (effects.chooses d shapes values m i k) (values_of xs)) (case_place (effects.result_shape d shapes values m i) i.member)
      (λ k. some_none (effects.chooses d shapes values m i k) (values_of xs) (chosen_none k))
  none_called row.GivesMember none xs =
      some_none (effects.gives_member d shapes values m i (part_number d i)) (option_and_then as_value (only xs))
      (λ x. value_none (option_and_then (λ k. effects.member_of d shapes values m i k x) (part_number d i)))
  none_called row.GivesMembers none xs =
      some_none (effects.gives_members d shapes values m i) (option_and_then as_value (only xs))
      (λ x. some_none (λ members. gives m (map ValueOf members)) (members_of x) (λ n. tt))
  none_called row.AddressesMember none xs =
      some_none (effects.names_member d shapes values m i (part_number d i)) (option_and_then as_place (only xs))
      (λ p. some_none (λ q. gives m (AddressOf q ∷ [])) (option_and_then (places.member_place p) (part_number d i)) (λ n. tt))
  none_called row.AddressesField none xs =
      some_none (effects.names_field d shapes values m i) (option_and_then as_value (only xs))
      (λ x. some_none (effects.names_field_of d shapes values m i i.member (part_number d i)) (object_of x) (field_none i.member (part_number d i)))
  none_called row.CallsFunction none xs = absurd (let two : true ≡ false = none in cc)

  -- a call, with its operands
  pub record IsCall (xs args : List Datum) : Type 0 where
    pub calls : effect_of i.op ≡ row.CallsFunction
    pub callee : Datum
    pub given : xs ≡ callee ∷ args

  pub is_call : (xs : List Datum) (g : FuncId) (args : List Datum) → effect d shapes values m i xs ≡ Calls g args → IsCall xs args
  is_call xs g args e = by (effect_of i.op) refl e
    where
      called : (ys : List Datum) → xs ≡ ys → effect_of i.op ≡ row.CallsFunction → ◌≡◌ {A = Effect HolderFault} (effects.calls d shapes values m i ys) (Calls g args) → IsCall xs args
      called [] same is h = absurd (cc)
      called (c ∷ rest) same is h = at (as_function c) h
        where
          at : (o : Option FuncId) → ◌≡◌ {A = Effect HolderFault} (with_some (λ k. Calls k rest) o) (Calls g args) → IsCall xs args
          at None h = absurd (cc)
          at (Some k) h = let args_are : rest ≡ args = cc in record { calls = is; callee = c; given = same ∙ ap (λ ys. c ∷ ys) args_are }

      refuted : (r : RowEffect) → calls_row r ≡ false → effect_by d shapes values m i (at_places d shapes values m i) r xs ≡ Calls g args → IsCall xs args
      refuted r none h = absurd (subst CallsNone h (none_called r none xs))

      by : (r : RowEffect) → effect_of i.op ≡ r → effect_by d shapes values m i (at_places d shapes values m i) r xs ≡ Calls g args → IsCall xs args
      by row.CallsFunction is h = called xs refl is h
      by r is h = refuted r refl h
