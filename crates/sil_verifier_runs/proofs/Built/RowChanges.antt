-- What a row leaves that stores a value, makes an object, hands its operand on, or names a field or a member: with what it found.
use Rattle.std.proofs.Common.{◌≡◌, ℕ, List, [], ◌∷◌, ◌++◌, refl, sym, ap, ◌∙◌, Bool, true, false, Option, Some, None}
use Rattle.std.specs.Prelude.{cond, option_and_then, option_map, slice_get}
use Rattle.std.proofs.lemmas.Option.{same_Some}
use Rattle.argument_conventions.specs.declared.row.Content.{Content}
use Rattle.sil_verifier_frames.specs.holder_model.Data.{AddressOf, Datum, ValueOf, as_place, as_value}
use Rattle.sil_verifier_frames.specs.holder_model.Effects as effects
use Rattle.sil_verifier_frames.specs.holder_model.Effects.{Change, Effect, Faults, Makes, effect_by, effect_of, only, part_number, unchanged, with_some}
use Rattle.sil_verifier_frames.specs.holder_model.Faults.{HolderFault, NotLastSlot}
use Rattle.sil_verifier_frames.specs.holder_model.MemoryEffects as memory
use Rattle.sil_verifier_frames.specs.holder_model.MemoryEffects.{asked_before, at_places, effect, fault_of, holds, operation_done, references_at, two, value_and_place, where_held}
use Rattle.sil_verifier_frames.specs.holder_model.ModuleShapes.{ModuleShapes, field_shapes}
use Rattle.sil_verifier_frames.specs.holder_model.declared.row_effect.RowEffect.{RowEffect}
use Rattle.sil_verifier_frames.specs.holder_model.declared.row_effect.RowEffect.TheVariants as row
use Rattle.sil_verifier_frames.specs.memory_rules_accesses.declared.access.Operation.{Operation}
use Rattle.numbered_form.specs.Names.{Name}
use Rattle.holder_model_values.specs.RunValues.Memory.{Memory, new_object}
use Rattle.holder_model_values.specs.declared.run_values.phase.Phase.TheVariants.{Live}
use Rattle.holder_model_values.specs.RunValues.Places.{Place, empty_fields, field_in, filled, is_there_at, member_place}
use Rattle.holder_model_values.specs.RunValues.Shapes.{Shape, class_in}
use Rattle.holder_model_values.specs.RunValues.Values as value
use Rattle.holder_model_values.specs.RunValues.Values.{Value, object_of}
use Rattle.sil_ast.specs.declared.inst.Inst.{Inst}
use Rattle.sil_ast.specs.declared.member.Member.{Member}
use Rattle.sil_ast.specs.declared.place.ObjectId.{ObjectId}
use Rattle.sil_types_declarations.specs.TypeDefinitions.Declarations.{Declarations}

abbrev E : Type 0
E = Effect HolderFault

some_made : {A : Type 0} (go : A → E) (x : Option A) (c : Change) → with_some go x ≡ Makes c → (y : A) × (x ≡ Some y) × (go y ≡ Makes c)
some_made go None c h = cc
some_made go (Some y) c h = (y, refl, h)

then_some : {A B : Type 0} (f : A → Option B) (x : Option A) (y : B) → option_and_then f x ≡ Some y → (z : A) × (x ≡ Some z) × (f z ≡ Some y)
then_some f None y h = cc
then_some f (Some z) y h = (z, refl, h)

map_some : {A B : Type 0} (f : A → B) (x : Option A) (y : B) → option_map f x ≡ Some y → (z : A) × (x ≡ Some z) × (f z ≡ y)
map_some f None y h = cc
map_some f (Some z) y h = (z, refl, same_Some (f z) y h)

only_one : {A : Type 0} (xs : List A) (x : A) → only xs ≡ Some x → xs ≡ x ∷ []
only_one [] x h = cc
only_one (y ∷ []) x h = ap (λ z. z ∷ []) (same_Some y x h)
only_one (y ∷ z ∷ zs) x h = cc

value_in : (x : Datum) (v : Value) → as_value x ≡ Some v → x ≡ ValueOf v
value_in (ValueOf y) v h = ap ValueOf (same_Some y v h)
value_in (AddressOf p) v h = cc
value_in _ v h = cc

place_in : (x : Datum) (p : Place) → as_place x ≡ Some p → x ≡ AddressOf p
place_in (AddressOf q) p h = ap AddressOf (same_Some q p h)
place_in (ValueOf y) p h = cc
place_in _ p h = cc

module _ (d : Declarations) (shapes : ModuleShapes) (values : List Shape) (m : Memory) (i : Inst) (xs : List Datum) (c : Change) (made : effect d shapes values m i xs ≡ Makes c) where
  abbrev effect_at : RowEffect → E
  effect_at e = effect_by d shapes values m i (at_places d shapes values m i) e xs

  at_row : (e : RowEffect) → effect_of i.op ≡ e → effect_at e ≡ Makes c
  at_row e is = ap effect_at (sym is) ∙ made

  same_change : (a : Change) → ◌≡◌ {A = E} (Makes a) (Makes c) → c ≡ a
  same_change a h = cc

  -- ---- a store

  -- where the place is there and holds what is asked, it goes on
  held_made : (p : Place) (asked : Option Content) (e : E) → where_held d shapes values m i p asked e ≡ Makes c → e ≡ Makes c
  held_made p None e h = there (is_there_at m p) h
    where
      there : (b : Bool) → cond b e (Faults NotLastSlot) ≡ Makes c → e ≡ Makes c
      there true h = h
      there false h = cc
  held_made p (Some a) e h = there (is_there_at m p) (holds m a p) h
    where
      there : (b holds_it : Bool) → cond b (cond holds_it e (Faults (fault_of a))) (Faults NotLastSlot) ≡ Makes c → e ≡ Makes c
      there true true h = h
      there true false h = cc
      there false b h = cc

  pub record Stores : Type 0 where
    pub operation : Operation
    pub new : Value
    pub place : Place
    pub done : operation_done d shapes values m i ≡ Some operation
    pub given : xs ≡ ValueOf new ∷ AddressOf place ∷ []
    pub is : c ≡ record (unchanged (filled m place new)) { dropped = references_at m place }

  two_made : (go : Datum → Datum → E) (ys : List Datum) → two go ys ≡ Makes c → (x : Datum) × (y : Datum) × (ys ≡ x ∷ y ∷ []) × (go x y ≡ Makes c)
  two_made go [] h = cc
  two_made go (x ∷ []) h = cc
  two_made go (x ∷ y ∷ []) h = (x, y, refl, h)
  two_made go (x ∷ y ∷ z ∷ zs) h = cc

  pub stored : effect_of i.op ≡ row.StoresValue → Stores
  stored e =
      let o = some_made (λ o. two (value_and_place (memory.stores_by d shapes values m i o)) xs) (operation_done d shapes values m i) c (at_row row.StoresValue e) in
      let both = two_made (value_and_place (memory.stores_by d shapes values m i o.0)) xs o.2 in
      let v = some_made (λ v. with_some (memory.stores_by d shapes values m i o.0 v) (as_place both.1)) (as_value both.0) c both.3 in
      let p = some_made (memory.stores_by d shapes values m i o.0 v.0) (as_place both.1) c v.2 in
      record {
        operation = o.0;
        new = v.0;
        place = p.0;
        done = o.1;
        given = both.2 ∙ ap (λ (x : Datum). x ∷ both.1 ∷ []) (value_in both.0 v.0 v.1) ∙ ap (λ (y : Datum). ValueOf v.0 ∷ y ∷ []) (place_in both.1 p.0 p.1);
        is = same_change (record (unchanged (filled m p.0 v.0)) { dropped = references_at m p.0 })
            (held_made p.0 (asked_before p.0.is_part o.0) (Makes (record (unchanged (filled m p.0 v.0)) { dropped = references_at m p.0 })) p.2);
      }

  -- ---- a new object

  pub record MakesObject : Type 0 where
    pub class : Name
    pub shape : class_in (effects.result_shape d shapes values m i) ≡ Some class
    pub is : c ≡ record (unchanged m) {
      results = ValueOf (value.Object (new_object m)) ∷ [];
      memory = record m { objects = m.objects ++ record { class = class; phase = Live; cells = empty_fields (field_shapes shapes class) } ∷ [] };
    }

  pub made_object : effect_of i.op ≡ row.MakesObject → MakesObject
  made_object e =
      let k = some_made (effects.makes_object d shapes values m i) (class_in (effects.result_shape d shapes values m i)) c (at_row row.MakesObject e) in
      record { class = k.0; shape = k.1; is = same_change _ k.2 }

  -- ---- what is handed on

  pub record Gives : Type 0 where
    pub datum : Datum
    pub given : xs ≡ datum ∷ []
    pub is : c ≡ record (unchanged m) { results = datum ∷ [] }

  pub gave : effect_of i.op ≡ row.GivesOperand → Gives
  gave e =
      let k = some_made (λ x. effects.gives m (x ∷ [])) (only xs) c (at_row row.GivesOperand e) in
      record { datum = k.0; given = only_one xs k.0 k.1; is = same_change (record (unchanged m) { results = k.0 ∷ [] }) k.2 }

  -- ---- addresses

  pub record NamesMember : Type 0 where
    pub number : ℕ
    pub part : part_number d i ≡ Some number
    pub at : Place
    pub place : Place
    pub given : xs ≡ AddressOf at ∷ []
    pub member : member_place at number ≡ Some place
    pub is : c ≡ record (unchanged m) { results = AddressOf place ∷ [] }

  pub named_member : effect_of i.op ≡ row.AddressesMember → NamesMember
  named_member e =
      let p = some_made (effects.names_member d shapes values m i (part_number d i)) (option_and_then as_place (only xs)) c (at_row row.AddressesMember e) in
      let x = then_some as_place (only xs) p.0 p.1 in
      let q = some_made (λ q. effects.gives m (AddressOf q ∷ [])) (option_and_then (member_place p.0) (part_number d i)) c p.2 in
      let n = then_some (member_place p.0) (part_number d i) q.0 q.1 in
      record {
        number = n.0;
        part = n.1;
        at = p.0;
        place = q.0;
        given = only_one xs x.0 x.1 ∙ ap (λ (y : Datum). y ∷ []) (place_in x.0 p.0 x.2);
        member = n.2;
        is = same_change (record (unchanged m) { results = AddressOf q.0 ∷ [] }) q.2;
      }

  pub record NamesField : Type 0 where
    pub named : Member
    pub number : ℕ
    pub member : i.member ≡ Some named
    pub part : part_number d i ≡ Some number
    pub from : Value
    pub object : ObjectId
    pub given : xs ≡ ValueOf from ∷ []
    pub object_is : object_of from ≡ Some object
    pub shape : Shape
    pub there : slice_get (field_shapes shapes named.owner) number ≡ Some shape
    pub place : Place
    pub place_is : place ≡ field_in object (field_shapes shapes named.owner) number shape
    pub is : c ≡ record (unchanged m) { results = AddressOf place ∷ [] }

  field_of : (o : Option Member) → i.member ≡ o → (x : Value) (object : ObjectId) → xs ≡ ValueOf x ∷ [] → object_of x ≡ Some object
      → ◌≡◌ {A = E} (effects.names_field_of d shapes values m i o (part_number d i) object) (Makes c) → NamesField
  field_of None member x object given is_object h = cc
  field_of (Some named) member x object given is_object h =
      let q = some_made (λ q. effects.gives m (AddressOf q ∷ [])) (option_and_then (effects.field_of_object d shapes values m i named object) (part_number d i)) c h in
      let n = then_some (effects.field_of_object d shapes values m i named object) (part_number d i) q.0 q.1 in
      let s = map_some (field_in object (field_shapes shapes named.owner) n.0) (slice_get (field_shapes shapes named.owner) n.0) q.0 n.2 in
      record {
        named = named;
        number = n.0;
        member = member;
        part = n.1;
        from = x;
        object = object;
        given = given;
        object_is = is_object;
        shape = s.0;
        there = s.1;
        place = q.0;
        place_is = sym s.2;
        is = same_change (record (unchanged m) { results = AddressOf q.0 ∷ [] }) q.2;
      }

  pub named_field : effect_of i.op ≡ row.AddressesField → NamesField
  named_field e =
      let x = some_made (effects.names_field d shapes values m i) (option_and_then as_value (only xs)) c (at_row row.AddressesField e) in
      let y = then_some as_value (only xs) x.0 x.1 in
      let o = some_made (effects.names_field_of d shapes values m i i.member (part_number d i)) (object_of x.0) c x.2 in
      field_of i.member refl x.0 o.0 (only_one xs y.0 y.1 ∙ ap (λ (z : Datum). z ∷ []) (value_in y.0 x.0 y.2)) o.1 o.2
