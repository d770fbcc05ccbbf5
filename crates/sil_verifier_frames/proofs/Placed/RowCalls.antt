-- No row but that of calls calls a function.
use Rattle.std.proofs.Common.{◌≡◌, List, [], ◌∷◌, refl, subst, Bool, true, false, cond, Option, Some, None}
use Rattle.std.specs.Prelude.{ℕ, map, option_and_then}
use Rattle.std.proofs.lemmas.Bool.{false≢true, true≢false}
use Rattle.argument_conventions.specs.declared.row.Content.{Content}
use Rattle.argument_conventions.specs.declared.row.Content.TheVariants as content
use Rattle.holder_model_laws.specs.holder_model.Builtins.{builtin_value, is_set}
use Rattle.holder_model_laws.specs.holder_model.Data.{AddressOf, Datum, FunctionOf, ValueOf, all_of, as_place, as_value, values_of}
use Rattle.holder_model_laws.specs.holder_model.Effects as effects
use Rattle.holder_model_laws.specs.holder_model.Effects.{Calls, Effect, Faults, Makes, Traps, Unfit, effect_by, effect_of, gives, only, part_number, unchanged, with_some}
use Rattle.holder_model_laws.specs.holder_model.Faults.{HolderFault, NotLastSlot}
use Rattle.holder_model_laws.specs.holder_model.MemoryEffects as memory
use Rattle.holder_model_laws.specs.holder_model.MemoryEffects.{all_live, asked_before, effect, fault_of, holds, loaded_name, named_again, two, value_and_place}
use Rattle.holder_model_laws.specs.holder_model.ModuleShapes.{ModuleShapes, case_place}
use Rattle.holder_model_laws.specs.holder_model.declared.row_effect.RowEffect.{RowEffect}
use Rattle.holder_model_laws.specs.holder_model.declared.row_effect.RowEffect.TheVariants as row
use Rattle.holder_model_laws.specs.holder_model.declared.trap.Trap.TheVariants as trap
use Rattle.holder_model_laws.specs.memory_rules_accesses.declared.access.Operation.{Operation}
use Rattle.holder_model_values.specs.RunValues.Memory.{Memory}
use Rattle.holder_model_values.specs.RunValues.Places as places
use Rattle.holder_model_values.specs.RunValues.Places.{Place, is_there_at, value_at}
use Rattle.holder_model_values.specs.RunValues.Shapes.{Shape, class_in, storage_in}
use Rattle.holder_model_values.specs.RunValues.Values as value
use Rattle.holder_model_values.specs.RunValues.Values.{Value, grouped, integer_of, members_of, object_of, references_of}
use Rattle.sil_ast.specs.declared.decl.Storage.{Storage}
use Rattle.sil_ast.specs.declared.decl.Storage.TheVariants as storage
use Rattle.sil_ast.specs.declared.inst.Inst.{Inst}
use Rattle.sil_ast.specs.declared.member.Member.{Member}
use Rattle.sil_ast.specs.declared.place.FuncId.{FuncId}
use Rattle.sil_ast.specs.declared.place.ObjectId.{ObjectId}
use Rattle.sil_types_declarations.specs.TypeDefinitions.Declarations.{Declarations}

-- the effect is no call
abbrev CallsNone : Effect HolderFault → Type 0
CallsNone (Makes c) = Unit {0}
CallsNone (Calls g args) = ⊥
CallsNone (Traps t) = Unit {0}
CallsNone (Faults x) = Unit {0}
CallsNone Unfit = Unit {0}

some : {A : Type 0} (go : A → Effect HolderFault) (o : Option A) → ((x : A) → CallsNone (go x)) → CallsNone (with_some go o)
some go None h = tt
some go (Some x) h = h x

either_way : (b : Bool) (x y : Effect HolderFault) → CallsNone x → CallsNone y → CallsNone (cond b x y)
either_way true x y h k = h
either_way false x y h k = k

pair : (go : Datum → Datum → Effect HolderFault) (xs : List Datum) → ((x y : Datum) → CallsNone (go x y)) → CallsNone (two go xs)
pair go [] h = tt
pair go (x ∷ []) h = tt
pair go (x ∷ y ∷ []) h = h x y
pair go (x ∷ y ∷ z ∷ rest) h = tt

-- the row calls a function
abbrev pub is_call : RowEffect → Bool
is_call row.CallsFunction = true
is_call _ = false

is_the_call : (r : RowEffect) → is_call r ≡ true → r ≡ row.CallsFunction
is_the_call row.CallsFunction e = refl
is_the_call r e = absurd (false≢true e)

module _ (d : Declarations) (shapes : ModuleShapes) (values : List Shape) (m : Memory) (i : Inst) where
  held : (p : Place) (c : Option Content) (e : Effect HolderFault) → CallsNone e → CallsNone (memory.where_held d shapes values m i p c e)
  held p None e h = either_way (is_there_at m p) e (Faults NotLastSlot) h tt
  held p (Some c) e h =
      either_way (is_there_at m p) (cond (holds m c p) e (Faults (fault_of c))) (Faults NotLastSlot) (either_way (holds m c p) e (Faults (fault_of c)) h tt) tt

  loaded : (s : Option Storage) (after : Memory) (x : Value) → CallsNone (loaded_name s m after x)
  loaded None after x = tt
  loaded (Some storage.Strong) after x = tt
  loaded (Some storage.Weak) after x = either_way (all_live m (references_of x)) (named_again after x) (effects.gives_value after (value.Case 0)) tt tt
  loaded (Some storage.Unowned) after x = either_way (all_live m (references_of x)) (named_again after x) (Traps trap.Unowned) tt tt

  at_one : (go : Operation → Place → Effect HolderFault) (xs : List Datum) → ((o : Operation) (p : Place) → CallsNone (go o p)) → CallsNone (memory.at_place d shapes values m i go xs)
  at_one go xs h =
      some (λ o. with_some (go o) (option_and_then as_place (only xs))) (memory.operation_done d shapes values m i)
      (λ o. some (go o) (option_and_then as_place (only xs)) (h o))

  stored : (o : Operation) (x y : Datum) → CallsNone (value_and_place (memory.stores_by d shapes values m i o) x y)
  stored o x y =
      some (λ v. with_some (memory.stores_by d shapes values m i o v) (as_place y)) (as_value x)
      (λ v. some (memory.stores_by d shapes values m i o v) (as_place y) (λ p. held p (asked_before p.is_part o) _ tt))

  the_value : (go : Value → Effect HolderFault) (xs : List Datum) → ((x : Value) → CallsNone (go x)) → CallsNone (effects.the_value d shapes values m i go xs)
  the_value go xs h = some go (option_and_then as_value (only xs)) h

  chosen : (k : ℕ) (xs : List Value) → CallsNone (effects.chooses d shapes values m i k xs)
  chosen k [] = tt
  chosen k (x ∷ []) = tt
  chosen k (x ∷ y ∷ ys) = tt

  field_named : (o : Option Member) (k : Option ℕ) (x : ObjectId) → CallsNone (effects.names_field_of d shapes values m i o k x)
  field_named None k x = tt
  field_named (Some named) k x =
      some (λ q. gives m (AddressOf q ∷ [])) (option_and_then (effects.field_of_object d shapes values m i named x) k) (λ q. tt)

  by_row : (r : RowEffect) → is_call r ≡ false → (xs : List Datum) → CallsNone (effect_by d shapes values m i (memory.at_places d shapes values m i) r xs)
  by_row row.NoEffect e xs = tt
  by_row row.GivesLiteral e xs = some (λ n. effects.gives_value m (value.Int n)) i.number (λ n. tt)
  by_row row.GivesFunction e xs = some (λ g. gives m (FunctionOf g ∷ [])) i.function (λ g. tt)
  by_row row.Computes e xs =
      some (effects.gives_value m) (option_and_then (builtin_value i.text) (option_and_then (all_of integer_of) (values_of xs))) (λ x. tt)
  by_row row.TrapsWhereSet e xs =
      the_value (λ x. with_some (effects.traps_where d shapes values m i) (integer_of x)) xs
      (λ x. some (effects.traps_where d shapes values m i) (integer_of x) (λ n. either_way (is_set n) _ (gives m []) tt tt))
  by_row row.MakesObject e xs = some (effects.makes_object d shapes values m i) (class_in (effects.result_shape d shapes values m i)) (λ class. tt)
  by_row row.MakesSlot e xs = tt
  by_row row.RemovesSlot e xs =
      some (memory.removes d shapes values m i) (option_and_then as_place (only xs)) (λ p. held p (Some content.Empty) _ tt)
  by_row row.GivesOperand e xs = some (λ x. gives m (x ∷ [])) (only xs) (λ x. tt)
  by_row row.CopiesOperand e xs = some (effects.copies d shapes values m i) (only xs) (λ x. tt)
  by_row row.RetainsOperand e xs = some (effects.retains d shapes values m i) (only xs) (λ x. tt)
  by_row row.DropsOperand e xs = some (effects.drops d shapes values m i) (only xs) (λ x. tt)
  by_row row.LoadsValue e xs =
      at_one (memory.loads_by d shapes values m i) xs (λ o p. held p (asked_before p.is_part o) _ (loads o p (value_at m p)))
    where
      loads : (o : Operation) (p : Place) (v : Option Value) → CallsNone (with_some (λ x. Makes (record (unchanged (memory.after d shapes values m i o p)) {
        results = ValueOf x ∷ [];
        retained = cond (memory.copies_with i.qualifier) (references_of x) [];
      })) v)
      loads o p None = tt
      loads o p (Some x) = tt
  by_row row.StoresValue e xs =
      some (λ o. two (value_and_place (memory.stores_by d shapes values m i o)) xs) (memory.operation_done d shapes values m i)
      (λ o. pair (value_and_place (memory.stores_by d shapes values m i o)) xs (stored o))
  by_row row.DestroysPlace e xs = at_one (memory.destroys_by d shapes values m i) xs (λ o p. held p (asked_before p.is_part o) _ tt)
  by_row row.LoadsName e xs =
      at_one (memory.names_by d shapes values m i) xs (λ o p. held p (asked_before p.is_part o) _
      (some (loaded_name (storage_in p.shape) m (memory.after d shapes values m i o p)) (value_at m p) (loaded (storage_in p.shape) (memory.after d shapes values m i o p))))
  by_row row.Groups e xs = some (λ vs. effects.gives_value m (grouped vs)) (values_of xs) (λ vs. tt)
  by_row row.ChoosesCase e xs =
      some (λ k. with_some (effects.chooses d shapes values m i k) (values_of xs)) (case_place (effects.result_shape d shapes values m i) i.member)
      (λ k. some (effects.chooses d shapes values m i k) (values_of xs) (chosen k))
  by_row row.GivesMember e xs =
      the_value (effects.gives_member d shapes values m i (part_number d i)) xs
      (λ x. some (effects.gives_value m) (option_and_then (λ k. effects.member_of d shapes values m i k x) (part_number d i)) (λ y. tt))
  by_row row.GivesMembers e xs =
      the_value (effects.gives_members d shapes values m i) xs (λ x. some (λ members. gives m (map ValueOf members)) (members_of x) (λ members. tt))
  by_row row.AddressesMember e xs =
      some (effects.names_member d shapes values m i (part_number d i)) (option_and_then as_place (only xs))
      (λ p. some (λ q. gives m (AddressOf q ∷ [])) (option_and_then (places.member_place p) (part_number d i)) (λ q. tt))
  by_row row.AddressesField e xs =
      the_value (effects.names_field d shapes values m i) xs
      (λ x. some (effects.names_field_of d shapes values m i i.member (part_number d i)) (object_of x) (field_named i.member (part_number d i)))
  by_row row.CallsFunction e xs = absurd (true≢false e)

  -- what calls is the row of calls
  pub calls_by_row : (xs : List Datum) (g : FuncId) (args : List Datum) → effect d shapes values m i xs ≡ Calls g args → effect_of i.op ≡ row.CallsFunction
  calls_by_row xs g args is = at (is_call (effect_of i.op)) refl
    where
      at : (b : Bool) → is_call (effect_of i.op) ≡ b → effect_of i.op ≡ row.CallsFunction
      at true e = is_the_call (effect_of i.op) e
      at false e = absurd (subst CallsNone is (by_row (effect_of i.op) e xs))
