-- Only the row of an `apply` calls: its first operand is the function that is called, and the others are the arguments.
use Rattle.std.proofs.Common.{◌≡◌, ℕ, List, [], ◌∷◌, refl, sym, ap, ◌∙◌, subst, Bool, true, false, cond, Option, Some, None}
use Rattle.std.specs.Prelude.{map, option_and_then, unwrap_or}
use Rattle.argument_conventions.specs.declared.row.Content.{Content}
use Rattle.argument_conventions.specs.declared.row.Content.TheVariants as content
use Rattle.instruction_table.specs.declared.op.Op.{Op}
use Rattle.instruction_table.specs.declared.op.Op.TheVariants as op
use Rattle.sil_ast.specs.declared.decl.Storage.{Storage}
use Rattle.sil_ast.specs.declared.decl.Storage.TheVariants as storage
use Rattle.sil_ast.specs.declared.inst.Inst.{Inst}
use Rattle.sil_ast.specs.declared.member.Member.{Member}
use Rattle.sil_ast.specs.declared.place.FuncId.{FuncId}
use Rattle.sil_ast.specs.declared.place.ObjectId.{ObjectId}
use Rattle.sil_types_declarations.specs.TypeDefinitions.Declarations.{Declarations}
use Rattle.holder_model_values.specs.RunValues.Memory.{Memory}
use Rattle.holder_model_values.specs.RunValues.Places as places
use Rattle.holder_model_values.specs.RunValues.Places.{Place, is_there_at, removed, value_at}
use Rattle.holder_model_values.specs.RunValues.Shapes.{Shape, class_in, storage_in}
use Rattle.holder_model_values.specs.RunValues.Values as value
use Rattle.holder_model_values.specs.RunValues.Values.{Value, grouped, integer_of, members_of, object_of, references_of}
use Rattle.sil_verifier_frames.specs.holder_model.declared.row_effect.RowEffect.{RowEffect}
use Rattle.sil_verifier_frames.specs.holder_model.declared.row_effect.RowEffect.TheVariants as row
use Rattle.sil_verifier_frames.specs.holder_model.declared.trap.Trap.TheVariants as trap
use Rattle.sil_verifier_frames.specs.memory_rules_accesses.declared.access.Operation.{Operation}
use Rattle.sil_verifier_frames.specs.holder_model.Builtins.{builtin_value, is_set}
use Rattle.sil_verifier_frames.specs.holder_model.Data.{AddressOf, Datum, FunctionOf, ValueOf, all_of, as_function, as_place, as_value, values_of}
use Rattle.sil_verifier_frames.specs.holder_model.Effects as effects
use Rattle.sil_verifier_frames.specs.holder_model.Effects.{Calls, Effect, Faults, Makes, Traps, Unfit, effect_by, effect_of, gives, gives_value, only, unchanged, with_some}
use Rattle.sil_verifier_frames.specs.holder_model.Faults.{HolderFault, NotLastSlot}
use Rattle.sil_verifier_frames.specs.holder_model.MemoryEffects as memory
use Rattle.sil_verifier_frames.specs.holder_model.MemoryEffects.{all_live, asked_before, effect, fault_of, holds, loaded_name, named_again, two, value_and_place}
use Rattle.sil_verifier_frames.specs.holder_model.ModuleShapes.{ModuleShapes, case_place}

pub calls_apply : (o : Op) → effect_of o ≡ row.CallsFunction → o ≡ op.Apply
calls_apply op.Apply e = refl
calls_apply _ e = absurd (cc)

-- what isn't a call
abbrev NoCall : Effect HolderFault → Type 0
NoCall (Makes c) = Unit {0}
NoCall (Calls g args) = ⊥
NoCall (Traps t) = Unit {0}
NoCall (Faults x) = Unit {0}
NoCall Unfit = Unit {0}

abbrev E : Type 0
E = Effect HolderFault

none_some : {A : Type 0} (go : A → E) (o : Option A) → ((x : A) → NoCall (go x)) → NoCall (with_some go o)
none_some go None h = tt
none_some go (Some x) h = h x

none_either : (b : Bool) (e g : E) → NoCall e → NoCall g → NoCall (cond b e g)
none_either true e g h k = h
none_either false e g h k = k

abbrev is_call : RowEffect → Bool
is_call row.CallsFunction = true
is_call _ = false

only_call : (r : RowEffect) → is_call r ≡ true → r ≡ row.CallsFunction
only_call row.CallsFunction e = refl
only_call _ e = absurd (cc)

module _ (d : Declarations) (shapes : ModuleShapes) (values : List Shape) (m : Memory) (i : Inst) where
  held : (p : Place) (c : Option Content) (e : E) → NoCall e → NoCall (memory.where_held d shapes values m i p c e)
  held p None e h = none_either (is_there_at m p) e (Faults NotLastSlot) h tt
  held p (Some c) e h =
      none_either (is_there_at m p) (cond (holds m c p) e (Faults (fault_of c))) (Faults NotLastSlot) (none_either (holds m c p) e (Faults (fault_of c)) h tt) tt

  at_one : (go : Operation → Place → E) (xs : List Datum) → ((o : Operation) (p : Place) → NoCall (go o p)) → NoCall (memory.at_place d shapes values m i go xs)
  at_one go xs h = none_some (λ o. with_some (go o) (option_and_then as_place (only xs))) (memory.operation_done d shapes values m i)
      (λ o. none_some (go o) (option_and_then as_place (only xs)) (λ p. h o p))

  named_name : (how : Option Storage) (after : Memory) (x : Value) → NoCall (loaded_name how m after x)
  named_name None after x = tt
  named_name (Some storage.Strong) after x = tt
  named_name (Some storage.Weak) after x = none_either (all_live m (references_of x)) (named_again after x) (gives_value after (value.Case 0)) tt tt
  named_name (Some storage.Unowned) after x = none_either (all_live m (references_of x)) (named_again after x) (Traps trap.Unowned) tt tt

  two_none : (go : Datum → Datum → E) (xs : List Datum) → ((x y : Datum) → NoCall (go x y)) → NoCall (two go xs)
  two_none go [] h = tt
  two_none go (x ∷ []) h = tt
  two_none go (x ∷ y ∷ []) h = h x y
  two_none go (x ∷ y ∷ z ∷ rest) h = tt

  at_places_none : (r : RowEffect) (xs : List Datum) → NoCall (memory.at_places d shapes values m i r xs)
  at_places_none row.RemovesSlot xs = none_some (memory.removes d shapes values m i) (option_and_then as_place (only xs))
      (λ p. held p (Some content.Empty) (Makes (record (unchanged (removed m p)) { slots = effects.ClosesSlot p })) tt)
  at_places_none row.LoadsValue xs = at_one (memory.loads_by d shapes values m i) xs
      (λ o p. held p (asked_before p.is_part o) _ (none_some _ (value_at m p) (λ x. tt)))
  at_places_none row.LoadsName xs = at_one (memory.names_by d shapes values m i) xs
      (λ o p. held p (asked_before p.is_part o) _
      (none_some (loaded_name (storage_in p.shape) m (memory.after d shapes values m i o p)) (value_at m p) (λ x. named_name (storage_in p.shape) (memory.after d shapes values m i o p) x)))
  at_places_none row.StoresValue xs = none_some (λ o. two (value_and_place (memory.stores_by d shapes values m i o)) xs) (memory.operation_done d shapes values m i)
      (λ o. two_none (value_and_place (memory.stores_by d shapes values m i o)) xs
      (λ x y. none_some (λ v. with_some (memory.stores_by d shapes values m i o v) (as_place y)) (as_value x)
      (λ v. none_some (memory.stores_by d shapes values m i o v) (as_place y) (λ p. held p (asked_before p.is_part o) _ tt))))
  at_places_none row.DestroysPlace xs = at_one (memory.destroys_by d shapes values m i) xs (λ o p. held p (asked_before p.is_part o) _ tt)
  at_places_none row.NoEffect xs = tt
  at_places_none row.GivesLiteral xs = tt
  at_places_none row.GivesFunction xs = tt
  at_places_none row.Computes xs = tt
  at_places_none row.TrapsWhereSet xs = tt
  at_places_none row.MakesObject xs = tt
  at_places_none row.MakesSlot xs = tt
  at_places_none row.GivesOperand xs = tt
  at_places_none row.CopiesOperand xs = tt
  at_places_none row.RetainsOperand xs = tt
  at_places_none row.DropsOperand xs = tt
  at_places_none row.Groups xs = tt
  at_places_none row.ChoosesCase xs = tt
  at_places_none row.GivesMember xs = tt
  at_places_none row.GivesMembers xs = tt
  at_places_none row.AddressesMember xs = tt
  at_places_none row.AddressesField xs = tt
  at_places_none row.CallsFunction xs = tt

  chosen : (k : ℕ) (xs : List Value) → NoCall (effects.chooses d shapes values m i k xs)
  chosen k [] = tt
  chosen k (x ∷ []) = tt
  chosen k (x ∷ y ∷ xs) = tt

  named : (o : Option Member) (k : Option ℕ) (x : ObjectId) → NoCall (effects.names_field_of d shapes values m i o k x)
  named None k x = tt
  named (Some owner) k x = none_some (λ q. gives m (AddressOf q ∷ [])) (option_and_then (effects.field_of_object d shapes values m i owner x) k) (λ q. tt)

  no_call : (r : RowEffect) → is_call r ≡ false → (xs : List Datum) → NoCall (effect_by d shapes values m i (memory.at_places d shapes values m i) r xs)
  no_call row.NoEffect e xs = tt
  no_call row.GivesLiteral e xs = none_some (λ n. gives_value m (value.Int n)) i.number (λ n. tt)
  no_call row.GivesFunction e xs = none_some (λ g. gives m (FunctionOf g ∷ [])) i.function (λ n. tt)
  no_call row.Computes e xs = none_some (gives_value m) (option_and_then (builtin_value i.text) (option_and_then (all_of integer_of) (values_of xs))) (λ n. tt)
  no_call row.TrapsWhereSet e xs = none_some (λ x. with_some (effects.traps_where d shapes values m i) (integer_of x)) (option_and_then as_value (only xs))
      (λ x. none_some (effects.traps_where d shapes values m i) (integer_of x)
      (λ n. none_either (is_set n) (Traps (trap.CondFail (unwrap_or i.text []))) (gives m []) tt tt))
  no_call row.MakesObject e xs = none_some (effects.makes_object d shapes values m i) (class_in (effects.result_shape d shapes values m i)) (λ n. tt)
  no_call row.MakesSlot e xs = tt
  no_call row.RemovesSlot e xs = at_places_none row.RemovesSlot xs
  no_call row.GivesOperand e xs = none_some (λ x. gives m (x ∷ [])) (only xs) (λ n. tt)
  no_call row.CopiesOperand e xs = none_some (effects.copies d shapes values m i) (only xs) (λ n. tt)
  no_call row.RetainsOperand e xs = none_some (effects.retains d shapes values m i) (only xs) (λ n. tt)
  no_call row.DropsOperand e xs = none_some (effects.drops d shapes values m i) (only xs) (λ n. tt)
  no_call row.LoadsValue e xs = at_places_none row.LoadsValue xs
  no_call row.StoresValue e xs = at_places_none row.StoresValue xs
  no_call row.DestroysPlace e xs = at_places_none row.DestroysPlace xs
  no_call row.LoadsName e xs = at_places_none row.LoadsName xs
  no_call row.Groups e xs = none_some (λ vs. gives_value m (grouped vs)) (values_of xs) (λ n. tt)
  no_call row.ChoosesCase e xs = none_some (λ k. with_some (effects.chooses d shapes values m i k) (values_of xs))
      (case_place (effects.result_shape d shapes values m i) i.member)
      (λ k. none_some (effects.chooses d shapes values m i k) (values_of xs) (λ vs. chosen k vs))
  no_call row.GivesMember e xs = none_some (effects.gives_member d shapes values m i (effects.part_number d i)) (option_and_then as_value (only xs))
      (λ x. none_some (gives_value m) (option_and_then (λ k. effects.member_of d shapes values m i k x) (effects.part_number d i)) (λ n. tt))
  no_call row.GivesMembers e xs = none_some (effects.gives_members d shapes values m i) (option_and_then as_value (only xs))
      (λ x. none_some (λ members. gives m (map ValueOf members)) (members_of x) (λ n. tt))
  no_call row.AddressesMember e xs = none_some (effects.names_member d shapes values m i (effects.part_number d i)) (option_and_then as_place (only xs))
      (λ p. none_some (λ q. gives m (AddressOf q ∷ [])) (option_and_then (places.member_place p) (effects.part_number d i)) (λ n. tt))
  no_call row.AddressesField e xs = none_some (effects.names_field d shapes values m i) (option_and_then as_value (only xs))
      (λ x. none_some (effects.names_field_of d shapes values m i i.member (effects.part_number d i)) (object_of x)
      (λ o. named i.member (effects.part_number d i) o))
  no_call row.CallsFunction e xs = absurd (cc)

  -- ---- a call

  pub record IsCall (xs : List Datum) (g : FuncId) (args : List Datum) : Type 0 where
    pub is : i.op ≡ op.Apply
    pub callee : Datum
    pub given : xs ≡ callee ∷ args
    pub names : as_function callee ≡ Some g

  some_call : {A : Type 0} (go : A → E) (o : Option A) (g : FuncId) (args : List Datum) → with_some go o ≡ Calls g args → (x : A) × (o ≡ Some x) × (go x ≡ Calls g args)
  some_call go None g args e = absurd (cc)
  some_call go (Some x) g args e = (x, refl, e)

  abbrev made_call : List Datum → E
  made_call xs = effects.calls d shapes values m i xs

  of_call : i.op ≡ op.Apply → (xs : List Datum) (g : FuncId) (args : List Datum) → made_call xs ≡ Calls g args → IsCall xs g args
  of_call is [] g args e = absurd (cc)
  of_call is (f ∷ ys) g args e =
      let h = some_call (λ g. Calls g ys) (as_function f) g args e in
      let made = h.2 in
      let same : h.0 ≡ g = cc in
      let rest : ys ≡ args = cc in
      record { is = is; callee = f; given = ap (λ zs. f ∷ zs) rest; names = h.1 ∙ ap Some same }

  by_row : (r : RowEffect) → effect_of i.op ≡ r → (xs : List Datum) (g : FuncId) (args : List Datum)
      → effect_by d shapes values m i (memory.at_places d shapes values m i) r xs ≡ Calls g args → IsCall xs g args
  by_row r is xs g args e = at (is_call r) refl
    where
      calling : r ≡ row.CallsFunction → IsCall xs g args
      calling same =
          of_call (calls_apply i.op (is ∙ same)) xs g args
          (ap (λ q. effect_by d shapes values m i (memory.at_places d shapes values m i) q xs) (sym same) ∙ e)

      at : (b : Bool) → is_call r ≡ b → IsCall xs g args
      at true so = calling (only_call r so)
      at false so = absurd (subst NoCall e (no_call r so xs))

  pub call_row : (xs : List Datum) (g : FuncId) (args : List Datum) → effect d shapes values m i xs ≡ Calls g args → IsCall xs g args
  call_row xs g args e = by_row (effect_of i.op) refl xs g args e
