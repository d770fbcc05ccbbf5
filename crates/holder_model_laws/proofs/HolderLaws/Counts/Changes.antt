-- What an instruction leaves, row by row.
use Rattle.std.proofs.Common.{◌≡◌, ℕ, ℤ, List, [], ◌∷◌, map, refl, sym, ap, ◌∙◌, subst, Bool, true, false, cond, Option, Some, None}
use Rattle.std.specs.Prelude.{option_and_then, option_map, slice_get, unwrap_or}
use Rattle.std.proofs.lemmas.Option.{same_Some}
use Rattle.argument_conventions.specs.declared.row.Content.{Content}
use Rattle.argument_conventions.specs.declared.row.Content.TheVariants as content
use Rattle.numbered_form.specs.Names.{Name}
use Rattle.instruction_table.specs.declared.builtin_names.names.Operation.{Operation}
use Rattle.instruction_table.specs.declared.builtin_names.names.Operation.TheVariants as o
use Rattle.sil_ast.specs.declared.decl.Storage.{Storage}
use Rattle.sil_ast.specs.declared.decl.Storage.TheVariants as storage
use Rattle.sil_ast.specs.declared.inst.Inst.{Inst}
use Rattle.sil_ast.specs.declared.member.Member.{Member}
use Rattle.sil_ast.specs.declared.place.FuncId.{FuncId}
use Rattle.sil_ast.specs.declared.place.ObjectId.{ObjectId}
use Rattle.sil_types_declarations.specs.TypeDefinitions.Declarations.{Declarations}
use Rattle.holder_model.specs.holder_model_values.RunValues.Memory.{Memory}
use Rattle.holder_model.specs.holder_model_values.RunValues.Places.{Place, field_in, filled, is_there_at, member_place, removed, value_at}
use Rattle.holder_model.specs.holder_model_values.RunValues.Shapes.{Shape, class_in, storage_in}
use Rattle.holder_model.specs.holder_model_values.RunValues.Values as value
use Rattle.holder_model.specs.holder_model_values.RunValues.Values.{Value, object_of, references_of}
use Rattle.memory_rules_parts.specs.sil_types.Typing.Builtins.{Builtin, bits, builtin_named}
use Rattle.memory_rules_parts.specs.memory_rules_accesses.declared.access.Operation as access
use Rattle.holder_model.specs.declared.row_effect.RowEffect.{RowEffect}
use Rattle.holder_model.specs.declared.row_effect.RowEffect.TheVariants as row
use Rattle.holder_model.specs.declared.trap.Trap.{Trap}
use Rattle.holder_model.specs.declared.trap.Trap.TheVariants as trap
use Rattle.holder_model.specs.Builtins.{builtin_value, computed, computed_by, is_set}
use Rattle.holder_model.specs.Data.{AddressOf, Datum, FunctionOf, ValueOf, all_of, as_function, as_place, as_value, values_of, with_first}
use Rattle.holder_model.specs.Effects as effects
use Rattle.holder_model.specs.Effects.{Calls, Change, Effect, Faults, Makes, Traps, effect_by, effect_of, only, with_some}
use Rattle.holder_model.specs.Faults.{HolderFault, NotLastSlot}
use Rattle.holder_model.specs.MemoryEffects as memory
use Rattle.holder_model.specs.MemoryEffects.{all_live, asked_before, at_place, at_places, copies_with, fault_of, holds, loaded_name, named_again, operation_done}
use Rattle.holder_model.specs.MemoryEffects.{references_at, two, value_and_place, where_held}
use Rattle.holder_model.specs.ModuleShapes.{ModuleShapes, case_place, field_shapes}
use Rattle.holder_model_laws.specs.HolderLaws.inner.Counts.Doing.{AreChangesTold, Leaves}
use Rattle.holder_model_laws.specs.HolderLaws.inner.Counts.Doing as doing

abbrev E : Type 0
E = Effect HolderFault

-- the effect is the change
abbrev IsChange : Change → E → Type 0
IsChange c e = e ≡ Makes c

-- ---- ways through an effect

some_made : {A : Type 0} (go : A → E) (x : Option A) (c : Change) → IsChange c (with_some go x) → (y : A) × (x ≡ Some y) × IsChange c (go y)
some_made go None c h = cc
some_made go (Some y) c h = (y, refl, h)

then_some : {A B : Type 0} (f : A → Option B) (x : Option A) (y : B) → option_and_then f x ≡ Some y → (z : A) × (x ≡ Some z) × (f z ≡ Some y)
then_some f None y h = cc
then_some f (Some z) y h = (z, refl, h)

map_some : {A B : Type 0} (f : A → B) (x : Option A) (y : B) → option_map f x ≡ Some y → (z : A) × (x ≡ Some z) × (f z ≡ y)
map_some f None y h = cc
map_some f (Some z) y h = (z, refl, same_Some (f z) y h)

cond_made : (b : Bool) (x y : E) (c : Change) → IsChange c (cond b x y) → (IsChange c y → ⊥) → (b ≡ true) × IsChange c x
cond_made true x y c h never = (refl, h)
cond_made false x y c h never = absurd (never h)

only_one : {A : Type 0} (xs : List A) (x : A) → only xs ≡ Some x → xs ≡ x ∷ []
only_one [] x h = cc
only_one (y ∷ []) x h = ap (λ z. z ∷ []) (same_Some y x h)
only_one (y ∷ z ∷ zs) x h = cc

value_in : (x : Datum) (v : Value) → as_value x ≡ Some v → x ≡ ValueOf v
value_in (ValueOf y) v h = ap ValueOf (same_Some y v h)
value_in (AddressOf p) v h = cc
value_in (FunctionOf g) v h = cc

place_in : (x : Datum) (p : Place) → as_place x ≡ Some p → x ≡ AddressOf p
place_in (ValueOf y) p h = cc
place_in (AddressOf q) p h = ap AddressOf (same_Some q p h)
place_in (FunctionOf g) p h = cc

one_value : (xs : List Datum) (v : Value) → option_and_then as_value (only xs) ≡ Some v → xs ≡ ValueOf v ∷ []
one_value xs v h = let x = then_some as_value (only xs) v h in only_one xs x.0 x.1 ∙ ap (λ (y : Datum). y ∷ []) (value_in x.0 v x.2)

one_place : (xs : List Datum) (p : Place) → option_and_then as_place (only xs) ≡ Some p → xs ≡ AddressOf p ∷ []
one_place xs p h = let x = then_some as_place (only xs) p h in only_one xs x.0 x.1 ∙ ap (λ (y : Datum). y ∷ []) (place_in x.0 p x.2)

-- what builtins give names no object
computed_bare : (op : Operation) (w : ℕ) (a b : ℤ) → references_of (computed_by op w a b) ≡ []
computed_bare o.AddWithOverflow w a b = refl
computed_bare o.SubWithOverflow w a b = refl
computed_bare o.MulWithOverflow w a b = refl
computed_bare o.Equal w a b = refl
computed_bare o.NotEqual w a b = refl
computed_bare o.Less w a b = refl
computed_bare o.LessOrEqual w a b = refl
computed_bare o.Greater w a b = refl
computed_bare o.GreaterOrEqual w a b = refl
computed_bare o.And w a b = refl
computed_bare o.Or w a b = refl
computed_bare o.Xor w a b = refl

two_bare : (b : Builtin) (ns : List ℤ) (x : Value) → computed b ns ≡ Some x → references_of x ≡ []
two_bare b [] x h = cc
two_bare b (n ∷ []) x h = cc
two_bare b (n ∷ k ∷ rest) x h = sym (ap references_of (same_Some (computed_by b.operation (bits b.width) n k) x h)) ∙ computed_bare b.operation (bits b.width) n k

builtin_bare : (name : Option (List ℕ)) (ns : List ℤ) (x : Value) → builtin_value name ns ≡ Some x → references_of x ≡ []
builtin_bare name ns x h = let b = then_some (λ b. computed b ns) (option_and_then builtin_named name) x h in two_bare b.0 ns x b.2

module _ (d : Declarations) (shapes : ModuleShapes) (values : List Shape) (m : Memory) (i : Inst) (xs : List Datum) (c : Change) where
  abbrev Told : Type 0
  Told = Leaves d shapes values m i xs c

  abbrev effect_at : RowEffect → E
  effect_at e = effect_by d shapes values m i (at_places d shapes values m i) e xs

  same_change : (a : Change) → IsChange c (Makes a) → a ≡ c
  same_change a h = cc

  -- where a change is the one
  is_it : (a : Change) → IsChange c (Makes a) → Leaves d shapes values m i xs a → Told
  is_it a h told = subst (λ (k : Change). Leaves d shapes values m i xs k) (same_change a h) told

  -- ---- rows that give values

  literal : (n : Option ℤ) → IsChange c (with_some (λ n. effects.gives_value m (value.Int n)) n) → Told
  literal n h = let k = some_made (λ n. effects.gives_value m (value.Int n)) n c h in is_it (doing.giving m (ValueOf (value.Int k.0) ∷ [])) k.2 (doing.bare (ValueOf (value.Int k.0)) refl)

  function : (g : Option FuncId) → IsChange c (with_some (λ g. effects.gives m (FunctionOf g ∷ [])) g) → Told
  function g h = let k = some_made (λ g. effects.gives m (FunctionOf g ∷ [])) g c h in is_it (doing.giving m (FunctionOf k.0 ∷ [])) k.2 (doing.bare (FunctionOf k.0) refl)

  computes : (ns : Option (List ℤ)) → IsChange c (with_some (effects.gives_value m) (option_and_then (builtin_value i.text) ns)) → Told
  computes ns h =
      let x = some_made (effects.gives_value m) (option_and_then (builtin_value i.text) ns) c h in
      let k = then_some (builtin_value i.text) ns x.0 x.1 in
      is_it (doing.giving m (ValueOf x.0 ∷ [])) x.2 (doing.bare (ValueOf x.0) (builtin_bare i.text k.0 x.0 k.2))

  passes : (b : Bool) (t : Trap) → IsChange c (cond b (Traps t) (Makes (effects.unchanged m))) → Told
  passes true t h = cc
  passes false t h = is_it (effects.unchanged m) h doing.nothing

  tests : (x : Option Value) → IsChange c (with_some (λ x. with_some (effects.traps_where d shapes values m i) (value.integer_of x)) x) → Told
  tests x h =
      let y = some_made (λ x. with_some (effects.traps_where d shapes values m i) (value.integer_of x)) x c h in
      let n = some_made (effects.traps_where d shapes values m i) (value.integer_of y.0) c y.2 in
      passes (is_set n.0) (trap.CondFail (unwrap_or i.text [])) n.2

  makes_object : effect_of i.op ≡ row.MakesObject → (class : Option Name) → IsChange c (with_some (effects.makes_object d shapes values m i) class) → Told
  makes_object is class h = let k = some_made (effects.makes_object d shapes values m i) class c h in is_it _ k.2 (doing.object k.0 is)

  gives_operand : effect_of i.op ≡ row.GivesOperand → IsChange c (with_some (λ x. effects.gives m (x ∷ [])) (only xs)) → Told
  gives_operand is h =
      let k = some_made (λ x. effects.gives m (x ∷ [])) (only xs) c h in is_it (doing.giving m (k.0 ∷ [])) k.2 (doing.gives k.0 is (only_one xs k.0 k.1))

  copies_operand : effect_of i.op ≡ row.CopiesOperand → IsChange c (with_some (effects.copies d shapes values m i) (only xs)) → Told
  copies_operand is h = let k = some_made (effects.copies d shapes values m i) (only xs) c h in is_it _ k.2 (doing.copies k.0 is (only_one xs k.0 k.1))

  retains_operand : effect_of i.op ≡ row.RetainsOperand → IsChange c (with_some (effects.retains d shapes values m i) (only xs)) → Told
  retains_operand is h = let k = some_made (effects.retains d shapes values m i) (only xs) c h in is_it _ k.2 (doing.retains k.0 is (only_one xs k.0 k.1))

  drops_operand : effect_of i.op ≡ row.DropsOperand → IsChange c (with_some (effects.drops d shapes values m i) (only xs)) → Told
  drops_operand is h = let k = some_made (effects.drops d shapes values m i) (only xs) c h in is_it _ k.2 (doing.drops k.0 is (only_one xs k.0 k.1))

  groups : effect_of i.op ≡ row.Groups → IsChange c (with_some (λ vs. effects.gives_value m (value.grouped vs)) (values_of xs)) → Told
  groups is h =
      let k = some_made (λ vs. effects.gives_value m (value.grouped vs)) (values_of xs) c h in is_it (doing.giving m (ValueOf (value.grouped k.0) ∷ [])) k.2 (doing.groups k.0 is k.1)

  one_of : (ys : List Datum) (v : Value) → values_of ys ≡ Some (v ∷ []) → ys ≡ ValueOf v ∷ []
  one_of [] v h = cc
  one_of (x ∷ ys) v h = at (as_value x) refl (values_of ys) refl h
    where
      none_left : (zs : List Datum) → values_of zs ≡ Some [] → zs ≡ []
      none_left [] e = refl
      none_left (z ∷ zs) e = first (as_value z) (values_of zs) e
        where
          first : (y : Option Value) (vs : Option (List Value)) → with_first y vs ≡ Some [] → z ∷ zs ≡ []
          first None vs e = cc
          first (Some y) None e = cc
          first (Some y) (Some vs) e = cc

      at : (y : Option Value) → as_value x ≡ y → (vs : Option (List Value)) → values_of ys ≡ vs → with_first y vs ≡ Some (v ∷ []) → x ∷ ys ≡ ValueOf v ∷ []
      at None is vs are e = cc
      at (Some y) is None are e = cc
      at (Some y) is (Some ws) are e =
          let first : y ≡ v = cc in
          let rest : ws ≡ [] = cc in
          ap (λ z. z ∷ ys) (value_in x v (is ∙ ap Some first)) ∙ ap (λ zs. ValueOf v ∷ zs) (none_left ys (are ∙ ap Some rest))

  chooses : effect_of i.op ≡ row.ChoosesCase → (k : ℕ) (vs : List Value) → values_of xs ≡ Some vs → IsChange c (effects.chooses d shapes values m i k vs) → Told
  chooses is k [] are h = is_it (doing.giving m (ValueOf (value.Case k) ∷ [])) h (doing.bare (ValueOf (value.Case k)) refl)
  chooses is k (x ∷ []) are h = is_it (doing.giving m (ValueOf (value.Full k x) ∷ [])) h (doing.chooses k x is (one_of xs x are))
  chooses is k (x ∷ y ∷ ys) are h = cc

  chooses_case : effect_of i.op ≡ row.ChoosesCase → (k : Option ℕ) → IsChange c (with_some (λ k. with_some (effects.chooses d shapes values m i k) (values_of xs)) k) → Told
  chooses_case is k h =
      let n = some_made (λ k. with_some (effects.chooses d shapes values m i k) (values_of xs)) k c h in
      let vs = some_made (effects.chooses d shapes values m i n.0) (values_of xs) c n.2 in
      chooses is n.0 vs.0 vs.1 vs.2

  gives_member : effect_of i.op ≡ row.GivesMember → (k : Option ℕ) → IsChange c (with_some (effects.gives_member d shapes values m i k) (option_and_then as_value (only xs))) → Told
  gives_member is k h =
      let x = some_made (effects.gives_member d shapes values m i k) (option_and_then as_value (only xs)) c h in
      let y = some_made (effects.gives_value m) (option_and_then (λ k. effects.member_of d shapes values m i k x.0) k) c x.2 in
      let n = then_some (λ k. effects.member_of d shapes values m i k x.0) k y.0 y.1 in
      is_it (doing.giving m (ValueOf y.0 ∷ [])) y.2 (doing.member n.0 x.0 y.0 is (one_value xs x.0 x.1) n.2)

  gives_members : effect_of i.op ≡ row.GivesMembers → IsChange c (with_some (effects.gives_members d shapes values m i) (option_and_then as_value (only xs))) → Told
  gives_members is h =
      let x = some_made (effects.gives_members d shapes values m i) (option_and_then as_value (only xs)) c h in
      let ys = some_made (λ ys. effects.gives m (map ValueOf ys)) (value.members_of x.0) c x.2 in
      is_it (doing.giving m (map ValueOf ys.0)) ys.2 (doing.members x.0 ys.0 is (one_value xs x.0 x.1) ys.1)

  names_member : effect_of i.op ≡ row.AddressesMember → (k : Option ℕ) → IsChange c (with_some (effects.names_member d shapes values m i k) (option_and_then as_place (only xs))) → Told
  names_member is k h =
      let p = some_made (effects.names_member d shapes values m i k) (option_and_then as_place (only xs)) c h in
      let q = some_made (λ q. effects.gives m (AddressOf q ∷ [])) (option_and_then (member_place p.0) k) c p.2 in
      let n = then_some (member_place p.0) k q.0 q.1 in
      is_it (doing.giving m (AddressOf q.0 ∷ [])) q.2 (doing.part n.0 p.0 q.0 is (one_place xs p.0 p.1) n.2)

  names_field_of : effect_of i.op ≡ row.AddressesField → (named : Option Member) (k : Option ℕ) (x : Value) (o : ObjectId) → xs ≡ ValueOf x ∷ [] → object_of x ≡ Some o
      → IsChange c (effects.names_field_of d shapes values m i named k o) → Told
  names_field_of is None k x o are is_o h = cc
  names_field_of is (Some named) k x o are is_o h =
      let q = some_made (λ q. effects.gives m (AddressOf q ∷ [])) (option_and_then (effects.field_of_object d shapes values m i named o) k) c h in
      let n = then_some (effects.field_of_object d shapes values m i named o) k q.0 q.1 in
      let s = map_some (field_in o (field_shapes shapes named.owner) n.0) (slice_get (field_shapes shapes named.owner) n.0) q.0 n.2 in
      is_it (doing.giving m (AddressOf q.0 ∷ [])) q.2 (doing.field x o q.0 is are is_o (sym (ap (λ (p : Place). p.home) s.2)))

  names_field : effect_of i.op ≡ row.AddressesField → IsChange c (with_some (effects.names_field d shapes values m i) (option_and_then as_value (only xs))) → Told
  names_field is h =
      let x = some_made (effects.names_field d shapes values m i) (option_and_then as_value (only xs)) c h in
      let o = some_made (effects.names_field_of d shapes values m i i.member (effects.part_number d i)) (object_of x.0) c x.2 in
      names_field_of is i.member (effects.part_number d i) x.0 o.0 (one_value xs x.0 x.1) o.1 o.2

  calls_nothing : (ys : List Datum) → IsChange c (effects.calls d shapes values m i ys) → Told
  calls_nothing [] h = cc
  calls_nothing (f ∷ args) h = let g = some_made (λ g. Calls g args) (as_function f) c h in let e = g.2 in cc

  -- ---- rows at places

  held_made : (p : Place) (asked : Option Content) (e : E) → IsChange c (where_held d shapes values m i p asked e) → IsChange c e
  held_made p None e h = (cond_made (is_there_at m p) e (Faults NotLastSlot) c h (λ k. cc)).1
  held_made p (Some a) e h =
      let there = cond_made (is_there_at m p) (cond (holds m a p) e (Faults (fault_of a))) (Faults NotLastSlot) c h (λ k. cc) in
      (cond_made (holds m a p) e (Faults (fault_of a)) c there.1 (λ k. cc)).1

  abbrev removal : Place → E
  removal p = Makes (record (effects.unchanged (removed m p)) { slots = effects.ClosesSlot p })

  removes_slot : effect_of i.op ≡ row.RemovesSlot → IsChange c (at_places d shapes values m i row.RemovesSlot xs) → Told
  removes_slot is h =
      let p = some_made (memory.removes d shapes values m i) (option_and_then as_place (only xs)) c h in
      is_it _ (held_made p.0 (Some content.Empty) (removal p.0) p.2) (doing.removes p.0 is (one_place xs p.0 p.1))

  -- a row at one place
  record AtPlace (go : access.Operation → Place → E) : Type 0 where
    operation : access.Operation
    place : Place
    done : operation_done d shapes values m i ≡ Some operation
    given : xs ≡ AddressOf place ∷ []
    made : go operation place ≡ Makes c

  at_one : (go : access.Operation → Place → E) → IsChange c (at_place d shapes values m i go xs) → AtPlace go
  at_one go h =
      let o = some_made (λ o. with_some (go o) (option_and_then as_place (only xs))) (operation_done d shapes values m i) c h in
      let p = some_made (go o.0) (option_and_then as_place (only xs)) c o.2 in
      record { operation = o.0; place = p.0; done = o.1; given = one_place xs p.0 p.1; made = p.2 }

  abbrev loading : access.Operation → Place → Value → E
  loading o p x = Makes (record (effects.unchanged (memory.after d shapes values m i o p)) { results = ValueOf x ∷ []; retained = cond (copies_with i.qualifier) (references_of x) [] })

  loads_value : effect_of i.op ≡ row.LoadsValue → IsChange c (at_places d shapes values m i row.LoadsValue xs) → Told
  loads_value is h =
      let a = at_one (memory.loads_by d shapes values m i) h in
      let x = some_made (loading a.operation a.place) (value_at m a.place) c
      (held_made a.place (asked_before a.place.is_part a.operation) (with_some (loading a.operation a.place) (value_at m a.place)) a.made) in
      is_it _ x.2 (doing.loads a.operation a.place x.0 is a.done a.given x.1)

  loads_name : effect_of i.op ≡ row.LoadsName → IsChange c (at_places d shapes values m i row.LoadsName xs) → Told
  loads_name is h =
      let a = at_one (memory.names_by d shapes values m i) h in
      let behind = memory.after d shapes values m i a.operation a.place in
      let x = some_made (loaded_name (storage_in a.place.shape) m behind) (value_at m a.place) c
      (held_made a.place (asked_before a.place.is_part a.operation) (with_some (loaded_name (storage_in a.place.shape) m behind) (value_at m a.place)) a.made) in
      by_storage a.operation a.place a.done a.given x.0 x.1 (storage_in a.place.shape) x.2
    where
      by_live : (o : access.Operation) (p : Place) → operation_done d shapes values m i ≡ Some o → xs ≡ AddressOf p ∷ [] → (x : Value) → value_at m p ≡ Some x
          → (b : Bool) → all_live m (references_of x) ≡ b → (other : E) → (IsChange c other → Told)
          → IsChange c (cond b (named_again (memory.after d shapes values m i o p) x) other) → Told
      by_live o p done given x at true live other told h = is_it _ h (doing.names o p x is done given at live)
      by_live o p done given x at false live other told h = told h

      by_storage : (o : access.Operation) (p : Place) → operation_done d shapes values m i ≡ Some o → xs ≡ AddressOf p ∷ [] → (x : Value) → value_at m p ≡ Some x
          → (how : Option Storage) → IsChange c (loaded_name how m (memory.after d shapes values m i o p) x) → Told
      by_storage o p done given x at None h = cc
      by_storage o p done given x at (Some storage.Strong) h = cc
      by_storage o p done given x at (Some storage.Weak) h =
          by_live o p done given x at (all_live m (references_of x)) refl (effects.gives_value (memory.after d shapes values m i o p) (value.Case 0))
          (λ k. is_it _ k (doing.names_none o p is done given)) h
      by_storage o p done given x at (Some storage.Unowned) h =
          by_live o p done given x at (all_live m (references_of x)) refl (Traps trap.Unowned) (λ k. cc) h

  two_made : (go : Datum → Datum → E) (ys : List Datum) → IsChange c (two go ys) → (x : Datum) × (y : Datum) × (ys ≡ x ∷ y ∷ []) × IsChange c (go x y)
  two_made go [] h = cc
  two_made go (x ∷ []) h = cc
  two_made go (x ∷ y ∷ []) h = (x, y, refl, h)
  two_made go (x ∷ y ∷ z ∷ zs) h = cc

  stores_value : effect_of i.op ≡ row.StoresValue → IsChange c (at_places d shapes values m i row.StoresValue xs) → Told
  stores_value is h =
      let o = some_made (λ o. two (value_and_place (memory.stores_by d shapes values m i o)) xs) (operation_done d shapes values m i) c h in
      let both = two_made (value_and_place (memory.stores_by d shapes values m i o.0)) xs o.2 in
      let v = some_made (λ v. with_some (memory.stores_by d shapes values m i o.0 v) (as_place both.1)) (as_value both.0) c both.3 in
      let p = some_made (memory.stores_by d shapes values m i o.0 v.0) (as_place both.1) c v.2 in
      let given : xs ≡ ValueOf v.0 ∷ AddressOf p.0 ∷ [] =
      both.2 ∙ ap (λ (x : Datum). x ∷ both.1 ∷ []) (value_in both.0 v.0 v.1) ∙ ap (λ (y : Datum). ValueOf v.0 ∷ y ∷ []) (place_in both.1 p.0 p.1) in
      is_it _ (held_made p.0 (asked_before p.0.is_part o.0) (Makes (record (effects.unchanged (filled m p.0 v.0)) { dropped = references_at m p.0 })) p.2)
      (doing.stores o.0 v.0 p.0 is o.1 given)

  destroys_place : effect_of i.op ≡ row.DestroysPlace → IsChange c (at_places d shapes values m i row.DestroysPlace xs) → Told
  destroys_place is h =
      let a = at_one (memory.destroys_by d shapes values m i) h in
      is_it _
      (held_made a.place (asked_before a.place.is_part a.operation)
      (Makes (record (effects.unchanged (memory.after d shapes values m i a.operation a.place)) { dropped = references_at m a.place })) a.made)
      (doing.destroys a.operation a.place is a.done a.given)

  by_row : (e : RowEffect) → effect_of i.op ≡ e → IsChange c (effect_at e) → Told
  by_row row.NoEffect is h = is_it (effects.unchanged m) h doing.nothing
  by_row row.GivesLiteral is h = literal i.number h
  by_row row.GivesFunction is h = function i.function h
  by_row row.Computes is h = computes (option_and_then (all_of value.integer_of) (values_of xs)) h
  by_row row.TrapsWhereSet is h = tests (option_and_then as_value (only xs)) h
  by_row row.MakesObject is h = makes_object is (class_in (effects.result_shape d shapes values m i)) h
  by_row row.MakesSlot is h = is_it _ h (doing.slot (effects.result_shape d shapes values m i) (effects.new_slot d shapes values m i) is refl)
  by_row row.RemovesSlot is h = removes_slot is h
  by_row row.GivesOperand is h = gives_operand is h
  by_row row.CopiesOperand is h = copies_operand is h
  by_row row.RetainsOperand is h = retains_operand is h
  by_row row.DropsOperand is h = drops_operand is h
  by_row row.LoadsValue is h = loads_value is h
  by_row row.StoresValue is h = stores_value is h
  by_row row.DestroysPlace is h = destroys_place is h
  by_row row.LoadsName is h = loads_name is h
  by_row row.Groups is h = groups is h
  by_row row.ChoosesCase is h = chooses_case is (case_place (effects.result_shape d shapes values m i) i.member) h
  by_row row.GivesMember is h = gives_member is (effects.part_number d i) h
  by_row row.GivesMembers is h = gives_members is h
  by_row row.AddressesMember is h = names_member is (effects.part_number d i) h
  by_row row.AddressesField is h = names_field is h
  by_row row.CallsFunction is h = calls_nothing xs h

pub changes_told : AreChangesTold
changes_told d shapes values m i xs c h = by_row d shapes values m i xs c (effect_of i.op) refl h
