-- Rows that make objects and slots, read and write places, or name parts of them.
use Rattle.std.proofs.Common.{◌≡◌, inl, inr, ℕ, List, [], ◌∷◌, ◌++◌, length, refl, sym, ap, ◌∙◌, subst, Bool, true, false, Option, Some}
use Rattle.std.specs.Prelude.{cond, slice_get}
use Rattle.holder_model_laws.specs.holder_model.RunTyping.Classes.{ClassesAreSound}
use Rattle.holder_model_laws.specs.holder_model.RunTyping.Forms.{Form, OfPlace, OfValue}
use Rattle.holder_model_laws.specs.holder_model.RunTyping.StorageForms.{IsNamed}
use Rattle.argument_conventions.specs.declared.row.Content.{Content}
use Rattle.argument_conventions.specs.declared.row.Content.TheVariants as content
use Rattle.instruction_table.specs.Forms.{result_kind_of}
use Rattle.instruction_table.specs.declared.entries.ResultKind.TheVariants.{OwnedResult}
use Rattle.instruction_table.specs.declared.op.Op.{Op}
use Rattle.instruction_table.specs.declared.op.Op.TheVariants as op
use Rattle.numbered_form.specs.Lists.{Each}
use Rattle.numbered_form.specs.Names.{Name}
use Rattle.sil_verifier_trails.specs.holder_model_typing.OwnedRunTyping.inner.OwnedRows.{IsReadOf}
use Rattle.holder_model_laws.specs.holder_model.RunTyping.RowForms.{IsLoadOf}
use Rattle.holder_model_laws.specs.holder_model.Data.{AddressOf, Datum, ValueOf}
use Rattle.holder_model_laws.specs.holder_model.Effects.{ClosesSlot, Effect, Makes, OpensSlot, Traps, effect_of, gives, gives_value, makes_object, names_field_of, names_member}
use Rattle.holder_model_laws.specs.holder_model.Effects.{part_number, unchanged, with_some}
use Rattle.holder_model_laws.specs.holder_model.Faults.{HolderFault}
use Rattle.holder_model_laws.specs.holder_model.MemoryEffects.{after, all_live, asked_before, at_place, destroys_by, loaded_name, loads_by, named_again, names_by}
use Rattle.holder_model_laws.specs.holder_model.MemoryEffects.{operation_done, where_held, references_at, stores_by, takes}
use Rattle.holder_model_laws.specs.holder_model.ModuleShapes.{field_shapes, shapes_of}
use Rattle.holder_model_laws.specs.holder_model.declared.row_effect.RowEffect.TheVariants as row
use Rattle.holder_model_laws.specs.holder_model.declared.trap.Trap.TheVariants as trap
use Rattle.holder_model_laws.specs.memory_rules_accesses.declared.access.Operation.{Operation}
use Rattle.holder_model_values.specs.RunValues.Memory.{Memory, new_object}
use Rattle.holder_model_values.specs.RunValues.Places.{OnStack, Place, emptied, empty_slot, field_in, filled, part_of, removed, value_at}
use Rattle.holder_model_values.specs.RunValues.Shapes.{Reference, Shape, Stored, class_in, member_shapes, storage_in}
use Rattle.holder_model_values.specs.RunValues.Values as value
use Rattle.holder_model_values.specs.RunValues.Values.{Value, references_of}
use Rattle.sil_ast.specs.declared.decl.Storage.{Storage}
use Rattle.sil_ast.specs.declared.decl.Storage.TheVariants as storage
use Rattle.sil_ast.specs.declared.member.Member.{Member}
use Rattle.sil_ast.specs.declared.module.Module.{Module}
use Rattle.sil_types_declarations.specs.TypeDefinitions.Declarations.{is_class}
use Rattle.holder_model_values.proofs.ValueParts.Plain.{suits_reference}
use Rattle.sil_verifier_trails.specs.holder_model_typing.TypedMemory.inner.Laws.{with_class, with_slot}
use Rattle.sil_verifier_trails.specs.holder_model_typing.TypedMemory.inner.Worlds.{DatumIs, MemoryIs, PlaceIs, Suits, World, names}
use Rattle.sil_verifier_trails.proofs.holder_model_typing.TypedMemory.Homes.{place_emptied, place_filled, place_read, place_removed}
use Rattle.sil_verifier_trails.proofs.holder_model_typing.TypedMemory.Makes.{class_is_more, class_of_world, new_is_named, new_slot_is, object_made, slot_is_more, slot_made}
use Rattle.sil_verifier_trails.proofs.holder_model_typing.TypedMemory.Parts.{field_is, field_there, member_is, member_there}
use Rattle.sil_verifier_trails.proofs.holder_model_typing.TypedMemory.Referring.{place_references_made}
use Rattle.sil_verifier_trails.proofs.holder_model_typing.TypedMemory.StoredValues.{named_suits_storage, none_suits, storage_suits_named}
use Rattle.sil_verifier_frames.specs.inner.Typed.TypedStates.{IsMade}
use Rattle.sil_verifier_frames.proofs.Typed.Data.{more, none, read_place, read_value}
use Rattle.sil_verifier_frames.proofs.Typed.Effects.{Done, EffectFits, Fitting, by_row, d, effect_at, gives_one, result_shape, some_value, stays, where_any, where_asked}
use Rattle.sil_verifier_frames.proofs.Typed.WithoutOwner.{IsOwningRow}

-- ---- whose results have owners

objects_own : (o : Op) → effect_of o ≡ row.MakesObject → IsOwningRow o
objects_own op.AllocRef e = inl refl
objects_own _ e = absurd (cc)

loads_own : (o : Op) → effect_of o ≡ row.LoadsValue → IsOwningRow o
loads_own op.Load e = inl refl
loads_own op.LoadBorrow e = inr refl
loads_own _ e = absurd (cc)

names_own : (o : Op) → effect_of o ≡ row.LoadsName → IsOwningRow o
names_own op.LoadWeak e = inl refl
names_own op.LoadUnowned e = inl refl
names_own _ e = absurd (cc)

pub calls_own : (o : Op) → effect_of o ≡ row.CallsFunction → result_kind_of o ≡ OwnedResult
calls_own op.Apply e = refl
calls_own _ e = absurd (cc)

-- ---- what is asked of a place that is read

asked_full : (part : Bool) (o : Operation) → IsReadOf o → asked_before part o ≡ Some content.Full
asked_full part _ IsReadOf.reads = refl
asked_full part _ IsReadOf.lends = refl
asked_full part _ IsReadOf.takes = refl

loaded_full : (part : Bool) (o : Operation) → IsLoadOf o → asked_before part o ≡ Some content.Full
loaded_full part _ IsLoadOf.reads = refl
loaded_full part _ IsLoadOf.takes = refl

module _ {m : Module} (x : Done m) where
  abbrev w : World
  w = x.w

  abbrev after_it : Operation → Place → Memory
  after_it o p = after (d x) (shapes_of m) x.values x.memory x.i o p

  after_typed : (o : Operation) (p : Place) → PlaceIs m w p → MemoryIs m w (after_it o p)
  after_typed o p at = by (takes o)
    where
      by : (b : Bool) → MemoryIs m w (cond b (emptied x.memory p) x.memory)
      by true = place_emptied m w x.memory x.typed p at
      by false = x.typed

  references_typed : (p : Place) → PlaceIs m w p → Each (IsMade m w) (references_at x.memory p)
  references_typed p at = place_references_made m w x.memory x.typed storage.Strong p at

  -- ---- objects and slots are made

  pub object_fits : ClassesAreSound m → (class : Name) → effect_of x.i.op ≡ row.MakesObject → is_class (d x) class ≡ true → Reference class ≡ result_shape x
      → Fitting x [] (OfValue (Reference class) ∷ []) (effect_at x (effect_of x.i.op) [])
  object_fits sound class is declared told =
      by_row x row.MakesObject is [] (OfValue (Reference class) ∷ [])
      (subst (λ s. Fitting x [] (OfValue (Reference class) ∷ []) (with_some (makes_object (d x) (shapes_of m) x.values x.memory x.i) (class_in s))) told
      (EffectFits.makes _ (record {
        later = with_class w class;
        grows = class_is_more w class;
        of = class_of_world m w class x.of declared;
        memory = object_made m w x.memory x.typed class;
        results = more (OfValue (Reference class)) (ValueOf (value.Object (new_object x.memory))) [] []
            (DatumIs.value (Reference class) (value.Object (new_object x.memory)) (new_is_named m w x.memory x.typed class sound)) none;
        dropped = tt;
      }) (inr (objects_own x.i.op is))))

  abbrev slot_at : Shape → Place
  slot_at s = record { home = OnStack; first = length x.memory.stack; shape = s; is_part = false }

  pub slot_fits : (s : Shape) → effect_of x.i.op ≡ row.MakesSlot → s ≡ result_shape x → Fitting x [] (OfPlace s ∷ []) (effect_at x (effect_of x.i.op) [])
  slot_fits s is told =
      by_row x row.MakesSlot is [] (OfPlace s ∷ [])
      (subst (λ u. Fitting x [] (OfPlace s ∷ []) (Makes (record (unchanged x.memory) {
        results = AddressOf (slot_at u) ∷ [];
        memory = record x.memory { stack = x.memory.stack ++ empty_slot u };
        slots = OpensSlot (slot_at u);
      }))) told
      (EffectFits.makes _ (record {
        later = with_slot w s;
        grows = slot_is_more w s;
        of = x.of;
        memory = slot_made m w x.memory x.typed s;
        results = more (OfPlace s) (AddressOf (slot_at s)) [] [] (DatumIs.place (slot_at s) (new_slot_is m w x.memory x.typed s)) none;
        dropped = tt;
      }) (inl (λ bare. (tt, tt)))))

  pub removes_fits : (s : Shape) (y : Datum) → effect_of x.i.op ≡ row.RemovesSlot → DatumIs m w (OfPlace s) y → Fitting x (y ∷ []) [] (effect_at x (effect_of x.i.op) (y ∷ []))
  removes_fits s y is typed_as =
      let p = read_place m w typed_as s refl in
      by_row x row.RemovesSlot is (y ∷ []) []
      (subst (λ z. Fitting x (y ∷ []) [] (effect_at x row.RemovesSlot (z ∷ []))) (sym p.1)
      (where_any x (y ∷ []) [] p.0 _ (Some content.Empty)
      (stays x (y ∷ []) [] (record (unchanged (removed x.memory p.0)) { slots = ClosesSlot p.0 }) (place_removed m w x.memory x.typed p.0 p.3) none tt (inl (λ bare. tt)))))

  -- ---- places are read

  -- where the place is full, go on with its value
  full_place : (xs : List Datum) (ys : List Form) (p : Place) (asked : Option Content) → asked ≡ Some content.Full → (go : Value → Effect HolderFault)
      → ((v : Value) → value_at x.memory p ≡ Some v → Fitting x xs ys (go v))
      → Fitting x xs ys (where_held (d x) (shapes_of m) x.values x.memory x.i p asked (with_some go (value_at x.memory p)))
  full_place xs ys p asked is go fits =
      subst (λ c. Fitting x xs ys (where_held (d x) (shapes_of m) x.values x.memory x.i p c (with_some go (value_at x.memory p)))) (sym is)
      (where_asked x xs ys p (with_some go (value_at x.memory p)) content.Full (λ full.
      let v = some_value (value_at x.memory p) full in
      subst (λ o. Fitting x xs ys (with_some go o)) (sym v.1) (fits v.0 v.1)))

  -- the operation at the operand's place
  at_its_place : (xs : List Datum) (ys : List Form) (o : Operation) (p : Place) (go : Operation → Place → Effect HolderFault)
      → operation_done (d x) (shapes_of m) x.values x.memory x.i ≡ Some o → (y : Datum) → y ≡ AddressOf p → Fitting x xs ys (go o p)
      → Fitting x xs ys (at_place (d x) (shapes_of m) x.values x.memory x.i go (y ∷ []))
  at_its_place xs ys o p go done y is fits =
      subst (λ z. Fitting x xs ys (at_place (d x) (shapes_of m) x.values x.memory x.i go (z ∷ []))) (sym is)
      (subst (λ t. Fitting x xs ys (with_some (λ o. with_some (go o) (Some p)) t)) (sym done) fits)

  pub loads_fits : (s : Shape) (o : Operation) (y : Datum) → effect_of x.i.op ≡ row.LoadsValue → operation_done (d x) (shapes_of m) x.values x.memory x.i ≡ Some o → IsReadOf o
      → DatumIs m w (OfPlace s) y → Fitting x (y ∷ []) (OfValue s ∷ []) (effect_at x (effect_of x.i.op) (y ∷ []))
  loads_fits s o y is done read typed_as =
      let p = read_place m w typed_as s refl in
      by_row x row.LoadsValue is (y ∷ []) (OfValue s ∷ [])
      (at_its_place (y ∷ []) (OfValue s ∷ []) o p.0 (loads_by (d x) (shapes_of m) x.values x.memory x.i) done y p.1
      (full_place (y ∷ []) (OfValue s ∷ []) p.0 (asked_before p.0.is_part o) (asked_full p.0.is_part o read) _ (λ v there.
      stays x (y ∷ []) (OfValue s ∷ []) _ (after_typed o p.0 p.3)
      (more (OfValue s) (ValueOf v) [] [] (DatumIs.value s v (subst (λ u. Suits m w u v) p.2 (place_read m w x.memory x.typed p.0 v p.3 there))) none) tt
      (inr (loads_own x.i.op is)))))

  -- what storage of a kind gives
  name_given : (how : Storage) (s : Shape) → IsNamed how s → (ys : List Datum) (after : Memory) → MemoryIs m w after → (v : Value) → Suits m w s v → IsOwningRow x.i.op
      → Fitting x ys (OfValue s ∷ []) (loaded_name (Some how) x.memory after v)
  name_given how s named ys after typed v good own = by how s named good
    where
      once_more : (s : Shape) → Suits m w s v → Fitting x ys (OfValue s ∷ []) (named_again after v)
      once_more s good = stays x ys (OfValue s ∷ []) _ typed (more (OfValue s) (ValueOf v) [] [] (DatumIs.value s v good) none) tt (inr own)

      weakly : (s : Shape) → IsNamed storage.Weak s → Suits m w s v → (b : Bool) → Fitting x ys (OfValue s ∷ []) (cond b (named_again after v) (gives_value after (value.Case 0)))
      weakly s named good true = once_more s good
      weakly s named good false =
          stays x ys (OfValue s ∷ []) _ typed (more (OfValue s) (ValueOf (value.Case 0)) [] [] (DatumIs.value s (value.Case 0) (none_suits (names m w) s named)) none) tt (inr own)

      unowned : (s : Shape) → Suits m w s v → (b : Bool) → Fitting x ys (OfValue s ∷ []) (cond b (named_again after v) (Traps trap.Unowned))
      unowned s good true = once_more s good
      unowned s good false = EffectFits.traps trap.Unowned

      by : (how : Storage) (s : Shape) → IsNamed how s → Suits m w s v → Fitting x ys (OfValue s ∷ []) (loaded_name (Some how) x.memory after v)
      by _ _ (IsNamed.weak class name first second) good = weakly _ (IsNamed.weak class name first second) good (all_live x.memory (references_of v))
      by _ _ (IsNamed.unowned class) good = unowned _ good (all_live x.memory (references_of v))

  pub loads_name_fits : (how : Storage) (s : Shape) (o : Operation) (y : Datum) → effect_of x.i.op ≡ row.LoadsName → IsNamed how s
      → operation_done (d x) (shapes_of m) x.values x.memory x.i ≡ Some o → IsLoadOf o → DatumIs m w (OfPlace (Stored how s)) y
      → Fitting x (y ∷ []) (OfValue s ∷ []) (effect_at x (effect_of x.i.op) (y ∷ []))
  loads_name_fits how s o y is named done read typed_as =
      let p = read_place m w typed_as (Stored how s) refl in
      by_row x row.LoadsName is (y ∷ []) (OfValue s ∷ [])
      (at_its_place (y ∷ []) (OfValue s ∷ []) o p.0 (names_by (d x) (shapes_of m) x.values x.memory x.i) done y p.1
      (full_place (y ∷ []) (OfValue s ∷ []) p.0 (asked_before p.0.is_part o) (loaded_full p.0.is_part o read) _ (λ v there.
      let good : Suits m w (Stored how s) v = subst (λ u. Suits m w u v) p.2 (place_read m w x.memory x.typed p.0 v p.3 there) in
      subst (λ h. Fitting x (y ∷ []) (OfValue s ∷ []) (loaded_name h x.memory (after_it o p.0) v)) (sym (ap storage_in p.2))
      (name_given how s named (y ∷ []) (after_it o p.0) (after_typed o p.0 p.3) v (storage_suits_named (names m w) how s v good) (names_own x.i.op is)))))

  -- ---- places are written

  pub stores_fits : (s t : Shape) (o : Operation) (y z : Datum) → effect_of x.i.op ≡ row.StoresValue → operation_done (d x) (shapes_of m) x.values x.memory x.i ≡ Some o
      → ((v : Value) → Suits m w s v → Suits m w t v) → DatumIs m w (OfValue s) y → DatumIs m w (OfPlace t) z
      → Fitting x (y ∷ z ∷ []) [] (effect_at x (effect_of x.i.op) (y ∷ z ∷ []))
  stores_fits s t o y z is done suit given there =
      let v = read_value m w given s refl in
      let p = read_place m w there t refl in
      by_row x row.StoresValue is (y ∷ z ∷ []) []
      (subst (λ a. Fitting x (y ∷ z ∷ []) [] (effect_at x row.StoresValue (a ∷ z ∷ []))) (sym v.1)
      (subst (λ b. Fitting x (y ∷ z ∷ []) [] (effect_at x row.StoresValue (ValueOf v.0 ∷ b ∷ []))) (sym p.1)
      (subst (λ q. Fitting x (y ∷ z ∷ []) [] (with_some (λ o. stores_by (d x) (shapes_of m) x.values x.memory x.i o v.0 p.0) q)) (sym done)
      (where_any x (y ∷ z ∷ []) [] p.0 _ (asked_before p.0.is_part o)
      (stays x (y ∷ z ∷ []) [] (record (unchanged (filled x.memory p.0 v.0)) { dropped = references_at x.memory p.0 })
      (place_filled m w x.memory x.typed p.0 v.0 p.3 (subst (λ u. Suits m w u v.0) (sym p.2) (suit v.0 v.2))) none (references_typed p.0 p.3) (inl (λ bare. tt)))))))

  pub stores_name_fits : (how : Storage) (s : Shape) (o : Operation) (y z : Datum) → effect_of x.i.op ≡ row.StoresValue → IsNamed how s
      → operation_done (d x) (shapes_of m) x.values x.memory x.i ≡ Some o → DatumIs m w (OfValue s) y → DatumIs m w (OfPlace (Stored how s)) z
      → Fitting x (y ∷ z ∷ []) [] (effect_at x (effect_of x.i.op) (y ∷ z ∷ []))
  stores_name_fits how s o y z is named done given there =
      stores_fits s (Stored how s) o y z is done (λ v good. named_suits_storage (names m w) how s v named good) given there

  pub destroys_fits : (s : Shape) (o : Operation) (y : Datum) → effect_of x.i.op ≡ row.DestroysPlace → operation_done (d x) (shapes_of m) x.values x.memory x.i ≡ Some o
      → DatumIs m w (OfPlace s) y → Fitting x (y ∷ []) [] (effect_at x (effect_of x.i.op) (y ∷ []))
  destroys_fits s o y is done typed_as =
      let p = read_place m w typed_as s refl in
      by_row x row.DestroysPlace is (y ∷ []) []
      (at_its_place (y ∷ []) [] o p.0 (destroys_by (d x) (shapes_of m) x.values x.memory x.i) done y p.1
      (where_any x (y ∷ []) [] p.0 _ (asked_before p.0.is_part o)
      (stays x (y ∷ []) [] (record (unchanged (after_it o p.0)) { dropped = references_at x.memory p.0 }) (after_typed o p.0 p.3) none (references_typed p.0 p.3) (inl (λ bare. tt)))))

  -- ---- parts are named

  pub member_address_fits : (s part : Shape) (k : ℕ) (y : Datum) → effect_of x.i.op ≡ row.AddressesMember → part_number (d x) x.i ≡ Some k
      → slice_get (member_shapes s) k ≡ Some part → DatumIs m w (OfPlace s) y → Fitting x (y ∷ []) (OfPlace part ∷ []) (effect_at x (effect_of x.i.op) (y ∷ []))
  member_address_fits s part k y is number there typed_as =
      let p = read_place m w typed_as s refl in
      let at : slice_get (member_shapes p.0.shape) k ≡ Some part = ap (λ u. slice_get (member_shapes u) k) p.2 ∙ there in
      by_row x row.AddressesMember is (y ∷ []) (OfPlace part ∷ [])
      (subst (λ z. Fitting x (y ∷ []) (OfPlace part ∷ []) (effect_at x row.AddressesMember (z ∷ []))) (sym p.1)
      (subst (λ n. Fitting x (y ∷ []) (OfPlace part ∷ []) (names_member (d x) (shapes_of m) x.values x.memory x.i n p.0)) (sym number)
      (subst (λ o. Fitting x (y ∷ []) (OfPlace part ∷ []) (with_some (λ q. gives x.memory (AddressOf q ∷ [])) o)) (sym (member_there p.0 k part at))
      (gives_one x (y ∷ []) (OfPlace part) (AddressOf (part_of p.0 (member_shapes p.0.shape) k part))
      (DatumIs.place (part_of p.0 (member_shapes p.0.shape) k part) (member_is m w p.0 k part at p.3)) (λ bare. tt)))))

  pub field_address_fits : ClassesAreSound m → (named : Member) (s : Shape) (k : ℕ) (y : Datum) → effect_of x.i.op ≡ row.AddressesField → x.i.member ≡ Some named
      → part_number (d x) x.i ≡ Some k → slice_get (field_shapes (shapes_of m) named.owner) k ≡ Some s → DatumIs m w (OfValue (Reference named.owner)) y
      → Fitting x (y ∷ []) (OfPlace s ∷ []) (effect_at x (effect_of x.i.op) (y ∷ []))
  field_address_fits sound named s k y is member number there typed_as =
      let v = read_value m w typed_as (Reference named.owner) refl in
      let o = suits_reference (names m w) named.owner v.0 v.2 in
      let fields = field_shapes (shapes_of m) named.owner in
      by_row x row.AddressesField is (y ∷ []) (OfPlace s ∷ [])
      (subst (λ z. Fitting x (y ∷ []) (OfPlace s ∷ []) (effect_at x row.AddressesField (z ∷ []))) (sym (v.1 ∙ ap ValueOf o.1))
      (subst (λ n. Fitting x (y ∷ []) (OfPlace s ∷ []) (names_field_of (d x) (shapes_of m) x.values x.memory x.i n (part_number (d x) x.i) o.0)) (sym member)
      (subst (λ n. Fitting x (y ∷ []) (OfPlace s ∷ []) (names_field_of (d x) (shapes_of m) x.values x.memory x.i (Some named) n o.0)) (sym number)
      (subst (λ q. Fitting x (y ∷ []) (OfPlace s ∷ []) (with_some (λ q. gives x.memory (AddressOf q ∷ [])) q)) (sym (field_there o.0 fields k s there))
      (gives_one x (y ∷ []) (OfPlace s) (AddressOf (field_in o.0 fields k s))
      (DatumIs.place (field_in o.0 fields k s) (field_is m w sound x.of o.0 named.owner k s o.2 there)) (λ bare. tt))))))
