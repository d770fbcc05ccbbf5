-- Rows that give values made of their operands, or look at them: nothing in memory changes.
use Rattle.std.proofs.Common.{◌≡◌, inl, ℕ, zero, suc, ℤ, List, [], ◌∷◌, ◌++◌, map, refl, sym, ap, ◌∙◌, subst, Bool, true, false, Some, None}
use Rattle.std.specs.Prelude.{cond, option_and_then, slice_get, unwrap_or}
use Rattle.std.proofs.lemmas.Bool.{and_from, and_parts}
use Rattle.std.proofs.lemmas.Option.{none-some, same_Some}
use Rattle.holder_model_laws.specs.holder_model.RunTyping.Classes.{ClassesAreSound, is_a}
use Rattle.holder_model_laws.specs.holder_model.RunTyping.Forms.{Form, OfFunction, OfValue}
use Rattle.holder_model_laws.specs.holder_model.RunTyping.RowForms.{IsGroup, bit, computed_shape, operand_shapes, shape_by}
use Rattle.holder_model_laws.specs.sil_types.Typing.Builtins.{Builtin, Sort, bits, builtin_named, combining, comparing, overflowing, sort_of}
use Rattle.numbered_form.specs.Lists.{Each}
use Rattle.numbered_form.specs.Names.{Name}
use Rattle.numbered_form.specs.inner.Literals.{is_residue}
use Rattle.holder_model_laws.specs.holder_model.Builtins.{builtin_value, is_set}
use Rattle.holder_model_laws.specs.holder_model.Data.{Datum, FunctionOf, ValueOf, all_of, as_value, references_in, values_of, with_first}
use Rattle.holder_model_laws.specs.holder_model.Effects.{Traps, chooses, effect_of, gives, gives_member, gives_value, part_number, unchanged, with_some}
use Rattle.holder_model_laws.specs.holder_model.ModuleShapes.{case_place, shapes_of}
use Rattle.holder_model_laws.specs.holder_model.declared.row_effect.RowEffect.TheVariants as row
use Rattle.holder_model_laws.specs.holder_model.declared.trap.Trap.TheVariants as trap
use Rattle.holder_model_values.specs.RunValues.inner.Fits.{fit_each}
use Rattle.holder_model_values.specs.RunValues.Layers.{CaseLayer}
use Rattle.holder_model_values.specs.RunValues.Shapes.{Integer, Reference, Shape, case_shapes, member_shapes}
use Rattle.holder_model_values.specs.RunValues.Trivial.{is_trivial}
use Rattle.holder_model_values.specs.RunValues.Values as value
use Rattle.holder_model_values.specs.RunValues.Values.{Value, grouped, integer_of, members_of, references_in_each, references_of}
use Rattle.sil_ast.specs.declared.module.Module.{Module}
use Rattle.sil_ast.specs.declared.place.FuncId.{FuncId}
use Rattle.holder_model_values.specs.ValueParts.inner.Paths.{member_at}
use Rattle.holder_model_values.specs.ValueParts.inner.Suits.{suits}
use Rattle.holder_model_values.proofs.ValueParts.Cases.{case_suits, full_suits}
use Rattle.holder_model_values.proofs.ValueParts.Members.{has_member}
use Rattle.holder_model_values.proofs.ValueParts.Plain.{suits_integer}
use Rattle.sil_verifier_trails.specs.holder_model_typing.TypedMemory.inner.Worlds.{DatumIs, World, names}
use Rattle.sil_verifier_trails.proofs.holder_model_typing.TypedMemory.Computed.{builtin_gives}
use Rattle.sil_verifier_trails.proofs.holder_model_typing.TypedMemory.Grouped.{group_suits, suits_group}
use Rattle.sil_verifier_trails.proofs.holder_model_typing.TypedMemory.Trivials.{no_references}
use Rattle.sil_verifier_trails.proofs.holder_model_typing.TypedMemory.Upcasts.{upcast_suits}
use Rattle.sil_verifier_trails.proofs.holder_model_typing.TypedMemory.Referring.{data_made}
use Rattle.sil_verifier_frames.proofs.Typed.Data.{DataAre, IsBare, more, none, read_value}
use Rattle.sil_verifier_frames.proofs.Typed.Effects.{Done, EffectFits, Fitting, by_row, d, effect_at, gives_nothing, gives_one, result_shape, stays}

-- ---- references of members

first_none : {A : Type 0} (xs ys : List A) → xs ++ ys ≡ [] → (xs ≡ []) × (ys ≡ [])
first_none [] ys e = (refl, e)
first_none (x ∷ xs) ys e = absurd (cc)

member_bare : (members : value.Values) (k : ℕ) (y : Value) → references_in_each members ≡ [] → slice_get (value.listed members) k ≡ Some y → references_of y ≡ []
member_bare value.NoValue k y bare e = absurd (none-some y e)
member_bare (value.More v vs) zero y bare e = ap references_of (sym (same_Some v y e)) ∙ (first_none (references_of v) (references_in_each vs) bare).0
member_bare (value.More v vs) (suc k) y bare e = member_bare vs k y (first_none (references_of v) (references_in_each vs) bare).1 e

part_bare : (x : Value) (k : ℕ) (y : Value) → references_of x ≡ [] → member_at x k ≡ Some y → references_of y ≡ []
part_bare (value.Int n) k y bare e = absurd (none-some y e)
part_bare (value.Object o) k y bare e = absurd (none-some y e)
part_bare (value.Group members) k y bare e = member_bare members k y bare e
part_bare (value.Case j) k y bare e = absurd (none-some y e)
part_bare (value.Full j x) k y bare e = absurd (none-some y e)

group_bare : (vs : List Value) → Each IsBare (map ValueOf vs) → references_in_each (value.values_of vs) ≡ []
group_bare [] bare = refl
group_bare (v ∷ vs) bare = ap (λ os. os ++ references_in_each (value.values_of vs)) bare.0 ∙ group_bare vs bare.1

listed_bare : (members : value.Values) → references_in_each members ≡ [] → Each IsBare (map ValueOf (value.listed members))
listed_bare value.NoValue bare = tt
listed_bare (value.More v vs) bare =
    let parts = first_none (references_of v) (references_in_each vs) bare in
    (parts.0, listed_bare vs parts.1)

-- what a group has as members
members_bare : (x : Value) (vs : List Value) → members_of x ≡ Some vs → references_of x ≡ [] → Each IsBare (map ValueOf vs)
members_bare (value.Int n) vs e bare = absurd (none-some vs e)
members_bare (value.Object o) vs e bare = absurd (none-some vs e)
members_bare (value.Group members) vs e bare = subst (λ ys. Each IsBare (map ValueOf ys)) (same_Some (value.listed members) vs e) (listed_bare members bare)
members_bare (value.Case j) vs e bare = absurd (none-some vs e)
members_bare (value.Full j x) vs e bare = absurd (none-some vs e)

-- ---- values of shapes, one by one

pub record AreValues (m : Module) (w : World) (ss : List Shape) (xs : List Datum) : Type 0 where
  pub values : List Value
  pub is : xs ≡ map ValueOf values
  pub read : values_of xs ≡ Some values
  pub fit : fit_each (map (suits (names m w)) ss) values ≡ true

module _ (m : Module) (w : World) where
  pub values_read : (ss : List Shape) {forms : List Form} {xs : List Datum} → forms ≡ map OfValue ss → DataAre m w forms xs → AreValues m w ss xs
  values_read [] e none = record { values = []; is = refl; read = refl; fit = refl }
  values_read [] e (more form x forms xs is rest) = absurd (cc)
  values_read (s ∷ ss) e none = absurd (cc)
  values_read (s ∷ ss) e (more form x forms xs is rest) =
      let first : form ≡ OfValue s = cc in
      let others : forms ≡ map OfValue ss = cc in
      let v = read_value m w is s first in
      let vs = values_read ss others rest in
      record {
        values = v.0 ∷ vs.values;
        is = ap (λ y. y ∷ xs) v.1 ∙ ap (λ ys. ValueOf v.0 ∷ ys) vs.is;
        read = ap (λ y. with_first (as_value y) (values_of xs)) v.1 ∙ ap (with_first (Some v.0)) vs.read;
        fit = and_from (suits (names m w) s v.0) (fit_each (map (suits (names m w)) ss) vs.values) v.2 vs.fit;
      }

  members_typed : (ss : List Shape) (vs : List Value) → fit_each (map (suits (names m w)) ss) vs ≡ true → DataAre m w (map OfValue ss) (map ValueOf vs)
  members_typed [] [] fit = none
  members_typed [] (v ∷ vs) fit = absurd (cc)
  members_typed (s ∷ ss) [] fit = absurd (cc)
  members_typed (s ∷ ss) (v ∷ vs) fit =
      let parts = and_parts (suits (names m w) s v) (fit_each (map (suits (names m w)) ss) vs) fit in
      more (OfValue s) (ValueOf v) (map OfValue ss) (map ValueOf vs) (DatumIs.value s v parts.0) (members_typed ss vs parts.1)

-- ---- the rows

computed_trivial : (s : Sort) (w : ℕ) → is_trivial (shape_by s w) ≡ true
computed_trivial overflowing w = refl
computed_trivial comparing w = refl
computed_trivial combining w = refl

module _ {m : Module} (x : Done m) where
  abbrev w : World
  w = x.w

  pub literal_fits : (n : ℤ) (width : ℕ) → effect_of x.i.op ≡ row.GivesLiteral → x.i.number ≡ Some n → is_residue width n ≡ true
      → Fitting x [] (OfValue (Integer width) ∷ []) (effect_at x (effect_of x.i.op) [])
  literal_fits n width is number within =
      by_row x row.GivesLiteral is [] (OfValue (Integer width) ∷ [])
      (subst (λ o. Fitting x [] (OfValue (Integer width) ∷ []) (with_some (λ n. gives_value x.memory (value.Int n)) o)) (sym number)
      (gives_one x [] (OfValue (Integer width)) (ValueOf (value.Int n)) (DatumIs.value (Integer width) (value.Int n) within) (λ bare. refl)))

  pub function_fits : (g : FuncId) → effect_of x.i.op ≡ row.GivesFunction → x.i.function ≡ Some g → Fitting x [] (OfFunction g ∷ []) (effect_at x (effect_of x.i.op) [])
  function_fits g is function =
      by_row x row.GivesFunction is [] (OfFunction g ∷ [])
      (subst (λ o. Fitting x [] (OfFunction g ∷ []) (with_some (λ g. gives x.memory (FunctionOf g ∷ [])) o)) (sym function)
      (gives_one x [] (OfFunction g) (FunctionOf g) (DatumIs.function g) (λ bare. tt)))

  pub looks_fits : (xs : List Datum) → effect_of x.i.op ≡ row.NoEffect → Fitting x xs [] (effect_at x (effect_of x.i.op) xs)
  looks_fits xs is = by_row x row.NoEffect is xs [] (gives_nothing x xs)

  pub computes_fits : (b : Builtin) (xs : List Datum) → effect_of x.i.op ≡ row.Computes → option_and_then builtin_named x.i.text ≡ Some b
      → DataAre m w (map OfValue (operand_shapes b)) xs → Fitting x xs (OfValue (computed_shape b) ∷ []) (effect_at x (effect_of x.i.op) xs)
  computes_fits b xs is named typed_as =
      let vs = values_read m w (operand_shapes b) refl typed_as in
      let y = builtin_gives (names m w) x.i.text b vs.values named vs.fit in
      by_row x row.Computes is xs (OfValue (computed_shape b) ∷ [])
      (subst (λ o. Fitting x xs (OfValue (computed_shape b) ∷ [])
      (with_some (gives_value x.memory) (option_and_then (builtin_value x.i.text) (option_and_then (all_of integer_of) o)))) (sym vs.read)
      (subst (λ o. Fitting x xs (OfValue (computed_shape b) ∷ []) (with_some (gives_value x.memory) o)) (sym y.1)
      (gives_one x xs (OfValue (computed_shape b)) (ValueOf y.0) (DatumIs.value (computed_shape b) y.0 y.2)
      (λ bare. no_references (names m w) (computed_shape b) y.0 y.2 (computed_trivial (sort_of b.operation) (bits b.width))))))

  pub traps_fits : (y : Datum) → effect_of x.i.op ≡ row.TrapsWhereSet → DatumIs m w (OfValue bit) y → Fitting x (y ∷ []) [] (effect_at x (effect_of x.i.op) (y ∷ []))
  traps_fits y is typed_as =
      let v = read_value m w typed_as bit refl in
      let n = suits_integer (names m w) 1 v.0 v.2 in
      by_row x row.TrapsWhereSet is (y ∷ []) []
      (subst (λ z. Fitting x (y ∷ []) [] (effect_at x row.TrapsWhereSet (z ∷ []))) (sym (v.1 ∙ ap ValueOf n.1)) (at n.0 (is_set n.0)))
    where
      at : (n : ℤ) (b : Bool) → Fitting x (y ∷ []) [] (cond b (Traps (trap.CondFail (unwrap_or x.i.text []))) (gives x.memory []))
      at n true = EffectFits.traps (trap.CondFail (unwrap_or x.i.text []))
      at n false = gives_nothing x (y ∷ [])

  -- the operand itself, be it of another class
  pub operand_fits : (y : Datum) (form : Form) → effect_of x.i.op ≡ row.GivesOperand → DatumIs m w form y → Fitting x (y ∷ []) (form ∷ []) (effect_at x (effect_of x.i.op) (y ∷ []))
  operand_fits y form is typed_as = by_row x row.GivesOperand is (y ∷ []) (form ∷ []) (gives_one x (y ∷ []) form y typed_as (λ bare. bare.0))

  pub upcast_fits : ClassesAreSound m → (class above : Name) (y : Datum) → effect_of x.i.op ≡ row.GivesOperand → is_a (d x) class above ≡ true
      → DatumIs m w (OfValue (Reference class)) y → Fitting x (y ∷ []) (OfValue (Reference above) ∷ []) (effect_at x (effect_of x.i.op) (y ∷ []))
  upcast_fits sound class above y is below typed_as =
      let v = read_value m w typed_as (Reference class) refl in
      operand_fits y (OfValue (Reference above)) is
      (subst (DatumIs m w (OfValue (Reference above))) (sym v.1) (DatumIs.value (Reference above) v.0 (upcast_suits m w sound class above v.0 below v.2)))

  pub copies_fits : (y : Datum) (form : Form) → effect_of x.i.op ≡ row.CopiesOperand → DatumIs m w form y → Fitting x (y ∷ []) (form ∷ []) (effect_at x (effect_of x.i.op) (y ∷ []))
  copies_fits y form is typed_as =
      by_row x row.CopiesOperand is (y ∷ []) (form ∷ [])
      (stays x (y ∷ []) (form ∷ []) (record (unchanged x.memory) { results = y ∷ []; retained = references_in y }) x.typed (more form y [] [] typed_as none) tt (inl (λ bare. (bare.0, tt))))

  pub retains_fits : (y : Datum) → effect_of x.i.op ≡ row.RetainsOperand → Fitting x (y ∷ []) [] (effect_at x (effect_of x.i.op) (y ∷ []))
  retains_fits y is =
      by_row x row.RetainsOperand is (y ∷ []) []
      (stays x (y ∷ []) [] (record (unchanged x.memory) { retained = references_in y }) x.typed none tt (inl (λ bare. tt)))

  pub drops_fits : (y : Datum) (form : Form) → effect_of x.i.op ≡ row.DropsOperand → DatumIs m w form y → Fitting x (y ∷ []) [] (effect_at x (effect_of x.i.op) (y ∷ []))
  drops_fits y form is typed_as =
      by_row x row.DropsOperand is (y ∷ []) []
      (stays x (y ∷ []) [] (record (unchanged x.memory) { dropped = references_in y }) x.typed none (data_made m w form y typed_as) (inl (λ bare. tt)))

  -- ---- structs, tuples and enums

  pub groups_fits : (s : Shape) (ss : List Shape) (xs : List Datum) → effect_of x.i.op ≡ row.Groups → IsGroup s ss → DataAre m w (map OfValue ss) xs
      → Fitting x xs (OfValue s ∷ []) (effect_at x (effect_of x.i.op) xs)
  groups_fits s ss xs is group typed_as =
      let vs = values_read m w ss refl typed_as in
      by_row x row.Groups is xs (OfValue s ∷ [])
      (subst (λ o. Fitting x xs (OfValue s ∷ []) (with_some (λ vs. gives_value x.memory (grouped vs)) o)) (sym vs.read)
      (gives_one x xs (OfValue s) (ValueOf (grouped vs.values)) (DatumIs.value s (grouped vs.values) (group_suits (names m w) s ss group vs.values vs.fit))
      (λ bare. group_bare vs.values (subst (Each IsBare) vs.is bare))))

  -- the shape of the result is the enum
  chosen : (s : Shape) (k : ℕ) (xs : List Datum) → s ≡ result_shape x → case_place s x.i.member ≡ Some k
      → Fitting x xs (OfValue s ∷ []) (with_some (chooses (d x) (shapes_of m) x.values x.memory x.i k) (values_of xs)) → effect_of x.i.op ≡ row.ChoosesCase
      → Fitting x xs (OfValue s ∷ []) (effect_at x (effect_of x.i.op) xs)
  chosen s k xs told at fits is =
      by_row x row.ChoosesCase is xs (OfValue s ∷ [])
      (subst (λ u. Fitting x xs (OfValue s ∷ []) (with_some (λ k. with_some (chooses (d x) (shapes_of m) x.values x.memory x.i k) (values_of xs)) (case_place u x.i.member))) told
      (subst (λ o. Fitting x xs (OfValue s ∷ []) (with_some (λ k. with_some (chooses (d x) (shapes_of m) x.values x.memory x.i k) (values_of xs)) o)) (sym at) fits))

  pub plain_case_fits : (s : Shape) (k : ℕ) (c : CaseLayer Shape) → effect_of x.i.op ≡ row.ChoosesCase → case_place s x.i.member ≡ Some k
      → slice_get (case_shapes s) k ≡ Some c → c.payload ≡ None → s ≡ result_shape x → Fitting x [] (OfValue s ∷ []) (effect_at x (effect_of x.i.op) [])
  plain_case_fits s k c is at there no_payload told =
      chosen s k [] told at
      (gives_one x [] (OfValue s) (ValueOf (value.Case k)) (DatumIs.value s (value.Case k) (case_suits (names m w) s k c there no_payload)) (λ bare. refl)) is

  pub full_case_fits : (s payload : Shape) (k : ℕ) (c : CaseLayer Shape) (y : Datum) → effect_of x.i.op ≡ row.ChoosesCase → case_place s x.i.member ≡ Some k
      → slice_get (case_shapes s) k ≡ Some c → c.payload ≡ Some payload → s ≡ result_shape x → DatumIs m w (OfValue payload) y
      → Fitting x (y ∷ []) (OfValue s ∷ []) (effect_at x (effect_of x.i.op) (y ∷ []))
  full_case_fits s payload k c y is at there has told typed_as =
      let v = read_value m w typed_as payload refl in
      chosen s k (y ∷ []) told at
      (subst (λ z. Fitting x (y ∷ []) (OfValue s ∷ []) (with_some (chooses (d x) (shapes_of m) x.values x.memory x.i k) (values_of (z ∷ [])))) (sym v.1)
      (gives_one x (y ∷ []) (OfValue s) (ValueOf (value.Full k v.0)) (DatumIs.value s (value.Full k v.0) (full_suits (names m w) s k c payload v.0 there has v.2))
      (λ bare. subst IsBare v.1 bare.0))) is

  pub member_fits : (s part : Shape) (k : ℕ) (y : Datum) → effect_of x.i.op ≡ row.GivesMember → part_number (d x) x.i ≡ Some k → slice_get (member_shapes s) k ≡ Some part
      → DatumIs m w (OfValue s) y → Fitting x (y ∷ []) (OfValue part ∷ []) (effect_at x (effect_of x.i.op) (y ∷ []))
  member_fits s part k y is number there typed_as =
      let v = read_value m w typed_as s refl in
      let z = has_member (names m w) s part k v.0 there v.2 in
      by_row x row.GivesMember is (y ∷ []) (OfValue part ∷ [])
      (subst (λ u. Fitting x (y ∷ []) (OfValue part ∷ []) (effect_at x row.GivesMember (u ∷ []))) (sym v.1)
      (subst (λ n. Fitting x (y ∷ []) (OfValue part ∷ []) (gives_member (d x) (shapes_of m) x.values x.memory x.i n v.0)) (sym number)
      (subst (λ o. Fitting x (y ∷ []) (OfValue part ∷ []) (with_some (gives_value x.memory) o)) (sym z.1)
      (gives_one x (y ∷ []) (OfValue part) (ValueOf z.0) (DatumIs.value part z.0 z.2) (λ bare. part_bare v.0 k z.0 (subst IsBare v.1 bare.0) z.1)))))

  pub members_fits : (s : Shape) (ss : List Shape) (y : Datum) → effect_of x.i.op ≡ row.GivesMembers → IsGroup s ss → DatumIs m w (OfValue s) y
      → Fitting x (y ∷ []) (map OfValue ss) (effect_at x (effect_of x.i.op) (y ∷ []))
  members_fits s ss y is group typed_as =
      let v = read_value m w typed_as s refl in
      let parts = suits_group (names m w) s ss group v.0 v.2 in
      by_row x row.GivesMembers is (y ∷ []) (map OfValue ss)
      (subst (λ u. Fitting x (y ∷ []) (map OfValue ss) (effect_at x row.GivesMembers (u ∷ []))) (sym v.1)
      (subst (λ o. Fitting x (y ∷ []) (map OfValue ss) (with_some (λ members. gives x.memory (map ValueOf members)) o)) (sym parts.are)
      (stays x (y ∷ []) (map OfValue ss) (record (unchanged x.memory) { results = map ValueOf parts.values }) x.typed (members_typed m w ss parts.values parts.fit) tt
      (inl (λ bare. members_bare v.0 parts.values parts.are (subst IsBare v.1 bare.0))))))
