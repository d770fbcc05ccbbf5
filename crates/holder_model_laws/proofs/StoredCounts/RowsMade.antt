-- The changes of rows that hand on, drop, name, write or destroy, each just as its row says.
use Rattle.std.proofs.Common.{◌≡◌, ℕ, List, [], ◌∷◌, map, refl, ap, ◌∙◌, subst, Bool, true, false, cond, Option, Some, None}
use Rattle.std.specs.Prelude.{option_and_then}
use Rattle.std.proofs.lemmas.Option.{same_Some}
use Rattle.argument_conventions.specs.declared.row.Content.{Content}
use Rattle.sil_ast.specs.declared.decl.Storage.{Storage}
use Rattle.sil_ast.specs.declared.decl.Storage.TheVariants as storage
use Rattle.sil_ast.specs.declared.inst.Inst.{Inst}
use Rattle.sil_types_declarations.specs.TypeDefinitions.Declarations.{Declarations}
use Rattle.holder_model.specs.holder_model_values.RunValues.Memory.{Memory}
use Rattle.holder_model.specs.holder_model_values.RunValues.Places.{Place, filled, is_there_at, value_at}
use Rattle.holder_model.specs.holder_model_values.RunValues.Shapes.{Shape, storage_in}
use Rattle.holder_model.specs.holder_model_values.RunValues.Values as value
use Rattle.holder_model.specs.holder_model_values.RunValues.Values.{Value, references_of}
use Rattle.memory_rules_parts.specs.memory_rules_accesses.declared.access.Operation.{Operation}
use Rattle.holder_model.specs.Data.{AddressOf, Datum, FunctionOf, ValueOf, as_place, as_value, references_in, values_of, with_first}
use Rattle.holder_model.specs.Effects as effects
use Rattle.holder_model.specs.Effects.{Change, Effect, Faults, Makes, Traps, effect_by, only, unchanged, with_some}
use Rattle.holder_model.specs.Faults.{HolderFault, NotLastSlot}
use Rattle.holder_model.specs.MemoryEffects as memory
use Rattle.holder_model.specs.MemoryEffects.{after, all_live, asked_before, at_places, effect, fault_of, holds}
use Rattle.holder_model.specs.MemoryEffects.{loaded_name, named_again, operation_done, references_at, two, value_and_place, where_held}
use Rattle.holder_model.specs.ModuleShapes.{ModuleShapes, case_place}
use Rattle.holder_model.specs.declared.row_effect.RowEffect.{RowEffect}
use Rattle.holder_model.specs.declared.row_effect.RowEffect.TheVariants as row
use Rattle.holder_model.specs.declared.trap.Trap.TheVariants as trap
use Rattle.holder_model_laws.specs.HolderLaws.inner.Counts.Doing.{giving}

abbrev E : Type 0
E = Effect HolderFault

-- the effect is the change
abbrev pub IsChange : Change → E → Type 0
IsChange c e = e ≡ Makes c

-- the rows whose changes are told exactly here
abbrev pub is_told : RowEffect → Bool
is_told row.GivesOperand = true
is_told row.DropsOperand = true
is_told row.LoadsName = true
is_told row.StoresValue = true
is_told row.DestroysPlace = true
is_told row.Groups = true
is_told row.ChoosesCase = true
is_told row.GivesMembers = true
is_told r = false

-- where something was found that the row needs
pub found_in : {A : Type 0} (go : A → E) (x : Option A) (c : Change) → IsChange c (with_some go x) → (y : A) × (x ≡ Some y) × IsChange c (go y)
found_in go None c h = cc
found_in go (Some y) c h = (y, refl, h)

first_found : {A B : Type 0} (f : A → Option B) (x : Option A) (y : B) → option_and_then f x ≡ Some y → (z : A) × (x ≡ Some z) × (f z ≡ Some y)
first_found f None y h = cc
first_found f (Some z) y h = (z, refl, h)

alone : {A : Type 0} (xs : List A) (x : A) → only xs ≡ Some x → xs ≡ x ∷ []
alone [] x h = cc
alone (y ∷ []) x h = ap (λ z. z ∷ []) (same_Some y x h)
alone (y ∷ z ∷ zs) x h = cc

is_value : (x : Datum) (v : Value) → as_value x ≡ Some v → x ≡ ValueOf v
is_value (ValueOf y) v h = ap ValueOf (same_Some y v h)
is_value (AddressOf p) v h = cc
is_value (FunctionOf g) v h = cc

is_place : (x : Datum) (p : Place) → as_place x ≡ Some p → x ≡ AddressOf p
is_place (ValueOf y) p h = cc
is_place (AddressOf q) p h = ap AddressOf (same_Some q p h)
is_place (FunctionOf g) p h = cc

value_alone : (xs : List Datum) (v : Value) → option_and_then as_value (only xs) ≡ Some v → xs ≡ ValueOf v ∷ []
value_alone xs v h = let x = first_found as_value (only xs) v h in alone xs x.0 x.1 ∙ ap (λ (y : Datum). y ∷ []) (is_value x.0 v x.2)

place_alone : (xs : List Datum) (p : Place) → option_and_then as_place (only xs) ≡ Some p → xs ≡ AddressOf p ∷ []
place_alone xs p h = let x = first_found as_place (only xs) p h in alone xs x.0 x.1 ∙ ap (λ (y : Datum). y ∷ []) (is_place x.0 p x.2)

-- no values are of no data
no_values : (xs : List Datum) → values_of xs ≡ Some [] → xs ≡ []
no_values [] h = refl
no_values (x ∷ xs) h = absurd (at (as_value x) (values_of xs) h)
  where
    at : (y : Option Value) (vs : Option (List Value)) → with_first y vs ≡ Some [] → ⊥
    at None vs e = cc
    at (Some y) None e = cc
    at (Some y) (Some vs) e = cc

module _ (d : Declarations) (shapes : ModuleShapes) (values : List Shape) (m : Memory) (i : Inst) (xs : List Datum) where
  abbrev pub behind : Operation → Place → Memory
  behind o p = after d shapes values m i o p

  abbrev IsDone : Operation → Type 0
  IsDone o = operation_done d shapes values m i ≡ Some o

  -- what the row makes, exactly
  pub data MakesBy : RowEffect → Change → Type 0 where
    gives : (x : Datum) → xs ≡ x ∷ [] → MakesBy row.GivesOperand (giving m (x ∷ []))
    drops : (x : Datum) → xs ≡ x ∷ [] → MakesBy row.DropsOperand (record (unchanged m) { dropped = references_in x })
    names : (o : Operation) (p : Place) (x : Value) → IsDone o → xs ≡ AddressOf p ∷ []
        → MakesBy row.LoadsName (record (unchanged (behind o p)) { results = ValueOf x ∷ []; retained = references_of x })
    names_none : (o : Operation) (p : Place) → IsDone o → xs ≡ AddressOf p ∷ [] → MakesBy row.LoadsName (giving (behind o p) (ValueOf (value.Case 0) ∷ []))
    stores : (o : Operation) (x : Value) (p : Place) → IsDone o → xs ≡ ValueOf x ∷ AddressOf p ∷ []
        → MakesBy row.StoresValue (record (unchanged (filled m p x)) { dropped = references_at m p })
    destroys : (o : Operation) (p : Place) → IsDone o → xs ≡ AddressOf p ∷ [] → MakesBy row.DestroysPlace (record (unchanged (behind o p)) { dropped = references_at m p })
    groups : (vs : List Value) → values_of xs ≡ Some vs → MakesBy row.Groups (giving m (ValueOf (value.grouped vs) ∷ []))
    case_alone : (k : ℕ) → xs ≡ [] → MakesBy row.ChoosesCase (giving m (ValueOf (value.Case k) ∷ []))
    case_full : (k : ℕ) (x : Value) → values_of xs ≡ Some (x ∷ []) → MakesBy row.ChoosesCase (giving m (ValueOf (value.Full k x) ∷ []))
    members : (x : Value) (ys : List Value) → xs ≡ ValueOf x ∷ [] → value.members_of x ≡ Some ys → MakesBy row.GivesMembers (giving m (map ValueOf ys))

  module _ (c : Change) where
    same_made : (a : Change) → IsChange c (Makes a) → a ≡ c
    same_made a h = cc

    so : (r : RowEffect) (a : Change) → IsChange c (Makes a) → MakesBy r a → MakesBy r c
    so r a h by = subst (λ k. MakesBy r k) (same_made a h) by

    -- what is made where the place is as it is asked for
    made_there : (p : Place) (asked : Option Content) (e : E) → IsChange c (where_held d shapes values m i p asked e) → IsChange c e
    made_there p None e h = at (is_there_at m p) h
      where
        at : (b : Bool) → IsChange c (cond b e (Faults NotLastSlot)) → IsChange c e
        at true h = h
        at false h = cc
    made_there p (Some a) e h = at (is_there_at m p) (holds m a p) h
      where
        at : (b k : Bool) → IsChange c (cond b (cond k e (Faults (fault_of a))) (Faults NotLastSlot)) → IsChange c e
        at true true h = h
        at true false h = cc
        at false k h = cc

    record AtOne (go : Operation → Place → E) : Type 0 where
      operation : Operation
      place : Place
      done : IsDone operation
      given : xs ≡ AddressOf place ∷ []
      made : IsChange c (go operation place)

    at_one : (go : Operation → Place → E) → IsChange c (memory.at_place d shapes values m i go xs) → AtOne go
    at_one go h =
        let o = found_in (λ o. with_some (go o) (option_and_then as_place (only xs))) (operation_done d shapes values m i) c h in
        let p = found_in (go o.0) (option_and_then as_place (only xs)) c o.2 in
        record { operation = o.0; place = p.0; done = o.1; given = place_alone xs p.0 p.1; made = p.2 }

    gives_made : IsChange c (with_some (λ x. effects.gives m (x ∷ [])) (only xs)) → MakesBy row.GivesOperand c
    gives_made h = let x = found_in (λ x. effects.gives m (x ∷ [])) (only xs) c h in so row.GivesOperand _ x.2 (gives x.0 (alone xs x.0 x.1))

    drops_made : IsChange c (with_some (effects.drops d shapes values m i) (only xs)) → MakesBy row.DropsOperand c
    drops_made h = let x = found_in (effects.drops d shapes values m i) (only xs) c h in so row.DropsOperand _ x.2 (drops x.0 (alone xs x.0 x.1))

    names_made : IsChange c (at_places d shapes values m i row.LoadsName xs) → MakesBy row.LoadsName c
    names_made h =
        let a = at_one (memory.names_by d shapes values m i) h in
        let later = behind a.operation a.place in
        let x = found_in (loaded_name (storage_in a.place.shape) m later) (value_at m a.place) c
        (made_there a.place (asked_before a.place.is_part a.operation) (with_some (loaded_name (storage_in a.place.shape) m later) (value_at m a.place)) a.made) in
        by_storage a.operation a.place a.done a.given x.0 (storage_in a.place.shape) x.2
      where
        by_live : (o : Operation) (p : Place) → IsDone o → xs ≡ AddressOf p ∷ [] → (x : Value) (b : Bool) (other : E) → (IsChange c other → MakesBy row.LoadsName c)
            → IsChange c (cond b (named_again (behind o p) x) other) → MakesBy row.LoadsName c
        by_live o p done given x true other told h = so row.LoadsName _ h (names o p x done given)
        by_live o p done given x false other told h = told h

        by_storage : (o : Operation) (p : Place) → IsDone o → xs ≡ AddressOf p ∷ [] → (x : Value) (how : Option Storage) → IsChange c (loaded_name how m (behind o p) x)
            → MakesBy row.LoadsName c
        by_storage o p done given x None h = cc
        by_storage o p done given x (Some storage.Strong) h = cc
        by_storage o p done given x (Some storage.Weak) h =
            by_live o p done given x (all_live m (references_of x)) (effects.gives_value (behind o p) (value.Case 0)) (λ k. so row.LoadsName _ k (names_none o p done given)) h
        by_storage o p done given x (Some storage.Unowned) h =
            by_live o p done given x (all_live m (references_of x)) (Traps trap.Unowned) (λ k. cc) h

    two_made : (go : Datum → Datum → E) (ys : List Datum) → IsChange c (two go ys) → (x : Datum) × (y : Datum) × (ys ≡ x ∷ y ∷ []) × IsChange c (go x y)
    two_made go [] h = cc
    two_made go (x ∷ []) h = cc
    two_made go (x ∷ y ∷ []) h = (x, y, refl, h)
    two_made go (x ∷ y ∷ z ∷ zs) h = cc

    stores_made : IsChange c (at_places d shapes values m i row.StoresValue xs) → MakesBy row.StoresValue c
    stores_made h =
        let o = found_in (λ o. two (value_and_place (memory.stores_by d shapes values m i o)) xs) (operation_done d shapes values m i) c h in
        let both = two_made (value_and_place (memory.stores_by d shapes values m i o.0)) xs o.2 in
        let v = found_in (λ v. with_some (memory.stores_by d shapes values m i o.0 v) (as_place both.1)) (as_value both.0) c both.3 in
        let p = found_in (memory.stores_by d shapes values m i o.0 v.0) (as_place both.1) c v.2 in
        let given : xs ≡ ValueOf v.0 ∷ AddressOf p.0 ∷ [] =
        both.2 ∙ ap (λ (x : Datum). x ∷ both.1 ∷ []) (is_value both.0 v.0 v.1) ∙ ap (λ (y : Datum). ValueOf v.0 ∷ y ∷ []) (is_place both.1 p.0 p.1) in
        so row.StoresValue _ (made_there p.0 (asked_before p.0.is_part o.0) (Makes (record (unchanged (filled m p.0 v.0)) { dropped = references_at m p.0 })) p.2)
        (stores o.0 v.0 p.0 o.1 given)

    destroys_made : IsChange c (at_places d shapes values m i row.DestroysPlace xs) → MakesBy row.DestroysPlace c
    destroys_made h =
        let a = at_one (memory.destroys_by d shapes values m i) h in
        so row.DestroysPlace _
        (made_there a.place (asked_before a.place.is_part a.operation)
        (Makes (record (unchanged (behind a.operation a.place)) { dropped = references_at m a.place })) a.made)
        (destroys a.operation a.place a.done a.given)

    groups_made : IsChange c (with_some (λ vs. effects.gives_value m (value.grouped vs)) (values_of xs)) → MakesBy row.Groups c
    groups_made h = let vs = found_in (λ vs. effects.gives_value m (value.grouped vs)) (values_of xs) c h in so row.Groups _ vs.2 (groups vs.0 vs.1)

    case_made : (k : Option ℕ) → IsChange c (with_some (λ k. with_some (effects.chooses d shapes values m i k) (values_of xs)) k) → MakesBy row.ChoosesCase c
    case_made k h =
        let n = found_in (λ k. with_some (effects.chooses d shapes values m i k) (values_of xs)) k c h in
        let vs = found_in (effects.chooses d shapes values m i n.0) (values_of xs) c n.2 in
        at n.0 vs.0 vs.1 vs.2
      where
        at : (k : ℕ) (vs : List Value) → values_of xs ≡ Some vs → IsChange c (effects.chooses d shapes values m i k vs) → MakesBy row.ChoosesCase c
        at k [] are h = so row.ChoosesCase _ h (case_alone k (no_values xs are))
        at k (x ∷ []) are h = so row.ChoosesCase _ h (case_full k x are)
        at k (x ∷ y ∷ ys) are h = cc

    members_made : IsChange c (with_some (effects.gives_members d shapes values m i) (option_and_then as_value (only xs))) → MakesBy row.GivesMembers c
    members_made h =
        let x = found_in (effects.gives_members d shapes values m i) (option_and_then as_value (only xs)) c h in
        let ys = found_in (λ ys. effects.gives m (map ValueOf ys)) (value.members_of x.0) c x.2 in
        so row.GivesMembers _ ys.2 (members x.0 ys.0 (value_alone xs x.0 x.1) ys.1)

    abbrev pub effect_at : RowEffect → E
    effect_at r = effect_by d shapes values m i (at_places d shapes values m i) r xs

    pub made_by : (r : RowEffect) → IsChange c (effect_at r) → is_told r ≡ true → MakesBy r c
    made_by row.GivesOperand h told = gives_made h
    made_by row.DropsOperand h told = drops_made h
    made_by row.LoadsName h told = names_made h
    made_by row.StoresValue h told = stores_made h
    made_by row.DestroysPlace h told = destroys_made h
    made_by row.Groups h told = groups_made h
    made_by row.ChoosesCase h told = case_made (case_place (effects.result_shape d shapes values m i) i.member) h
    made_by row.GivesMembers h told = members_made h
    made_by row.NoEffect h told = cc
    made_by row.GivesLiteral h told = cc
    made_by row.GivesFunction h told = cc
    made_by row.Computes h told = cc
    made_by row.TrapsWhereSet h told = cc
    made_by row.MakesObject h told = cc
    made_by row.MakesSlot h told = cc
    made_by row.RemovesSlot h told = cc
    made_by row.CopiesOperand h told = cc
    made_by row.RetainsOperand h told = cc
    made_by row.LoadsValue h told = cc
    made_by row.GivesMember h told = cc
    made_by row.AddressesMember h told = cc
    made_by row.AddressesField h told = cc
    made_by row.CallsFunction h told = cc
