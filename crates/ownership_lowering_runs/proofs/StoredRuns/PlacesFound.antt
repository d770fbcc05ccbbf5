-- What rows at places found where they made a change: the place, that it is there, and what it holds.
use Rattle.ownership_lowering_runs.specs.StoredRuns.inner.RowsRight.{held_effect, operation_done}
use Rattle.std.proofs.Common.{◌≡◌, ◌⊎◌, inl, inr, List, [], ◌∷◌, map, refl, sym, ap, ap₂, ◌∙◌, Bool, true, false, cond, Option, Some, None}
use Rattle.std.specs.Prelude.{is_some, option_and_then}
use Rattle.std.specs.List.{list_all}
use Rattle.std.proofs.lemmas.Bool.{and_parts, false≢true}
use Rattle.std.proofs.lemmas.Option.{none-some, same_Some}
use Rattle.argument_conventions.specs.declared.row.Content.{Content}
use Rattle.argument_conventions.specs.declared.row.Content.TheVariants as content
use Rattle.instruction_table.specs.declared.op.Op.{Op}
use Rattle.instruction_table.specs.declared.op.Op.TheVariants as op
use Rattle.sil_ast.specs.declared.function.Function.{Function}
use Rattle.sil_ast.specs.declared.inst.Inst.{Inst}
use Rattle.sil_ast.specs.declared.module.Module.{Module}
use Rattle.sil_ast.specs.declared.operands.Operand.{Operand}
use Rattle.sil_ast.specs.declared.place.ValueId.{ValueId}
use Rattle.sil_types_declarations.specs.TypeDefinitions.Declarations.{Declarations, declarations_of}
use Rattle.holder_model_values.specs.RunValues.Cells.{Cell, Empty, Gone, Keeps}
use Rattle.holder_model_values.specs.RunValues.Places.{Place, emptied, filled, is_empty_cell, is_there_at, removed, value_at}
use Rattle.holder_model_values.specs.RunValues.Shapes.{Shape, storage_in}
use Rattle.holder_model_values.specs.RunValues.Values.{Value, references_of}
use Rattle.sil_verifier_runs.specs.holder_model.Data.{AddressOf, Datum, ValueOf, as_place}
use Rattle.sil_verifier_runs.specs.holder_model.Effects.{Change, ClosesSlot, Effect, Faults, Makes, effect_by, effect_of, only, unchanged, with_some}
use Rattle.sil_verifier_runs.specs.holder_model.Faults.{HolderFault, NotLastSlot}
use Rattle.sil_verifier_runs.specs.holder_model.Frames.{Frame, Operands}
use Rattle.sil_verifier_runs.specs.holder_model.HolderStates.{HolderState}
use Rattle.sil_verifier_runs.specs.holder_model.MemoryEffects as memory_effects
use Rattle.sil_verifier_runs.specs.holder_model.MemoryEffects.{asked_before, copies_with, fault_of, holds, loaded_name, references_at, takes, two, value_and_place, where_held}
use Rattle.sil_verifier_runs.specs.holder_model.ModuleShapes.{ModuleShapes, shapes_in, shapes_of}
use Rattle.sil_verifier_runs.specs.holder_model.declared.row_effect.RowEffect.{RowEffect}
use Rattle.sil_verifier_runs.specs.holder_model.declared.row_effect.RowEffect.TheVariants as row
use Rattle.memory_rules_accesses.specs.declared.access.Operation.{Operation}
use Rattle.sil_verifier_runs.specs.holder_model.LoweredRun.LowStepParts.{LowState}
use Rattle.ownership_lowering_laws.specs.ownership_lowering_model.LoweredInsts.{lowering_of}
use Rattle.ownership_lowering_laws.specs.ownership_lowering_model.declared.lowering.Lowering.TheVariants as lowering
use Rattle.sil_verifier_runs.specs.ownership_kinds_origins.Renamings.{renames}
use Rattle.sil_verifier_runs.specs.holder_model.RunTyping.Forms.{Form, OfPlace, OfValue}
use Rattle.ownership_lowering_laws.specs.holder_model_typing.TypedMemory.inner.Worlds.{PlaceIs, Suits, World}
use Rattle.sil_verifier_runs.proofs.sil_verifier_frames.Typed.Data.{DataAre, read_place, read_value}
use Rattle.ownership_lowering_runs.proofs.StoredRuns.StrongCells.{held}

-- ---- rows and their operations

pub loads_op : (o : Op) → effect_of o ≡ row.LoadsValue → (lowering_of o ≡ lowering.Loads) × (renames o ≡ false)
loads_op op.Load e = (refl, refl)
loads_op op.LoadBorrow e = (refl, refl)
loads_op _ e = absurd (cc)

pub names_op : (o : Op) → effect_of o ≡ row.LoadsName → (lowering_of o ≡ lowering.Stays) × (renames o ≡ false)
names_op op.LoadWeak e = (refl, refl)
names_op op.LoadUnowned e = (refl, refl)
names_op _ e = absurd (cc)

pub destroys_op : (o : Op) → effect_of o ≡ row.DestroysPlace → (lowering_of o ≡ lowering.Destroys) × (renames o ≡ false)
destroys_op op.DestroyAddr e = (refl, refl)
destroys_op _ e = absurd (cc)

pub removes_op : (o : Op) → effect_of o ≡ row.RemovesSlot → (lowering_of o ≡ lowering.Stays) × (renames o ≡ false)
removes_op op.DeallocStack e = (refl, refl)
removes_op _ e = absurd (cc)

pub stores_op : (o : Op) → effect_of o ≡ row.StoresValue → (o ≡ op.Store) ⊎ ((lowering_of o ≡ lowering.Stays) × (renames o ≡ false))
stores_op op.Store e = inl refl
stores_op op.StoreWeak e = inr (refl, refl)
stores_op op.StoreUnowned e = inr (refl, refl)
stores_op _ e = absurd (cc)

-- ---- operands by their forms

pub one_of : (g : ValueId → Form) (os : List Operand) (a : Form) → map g (map (λ (o : Operand). o.value) os) ≡ a ∷ [] → (o : Operand) × (os ≡ o ∷ [])
one_of g [] a e = absurd (cc)
one_of g (o ∷ []) a e = (o, refl)
one_of g (o ∷ p ∷ os) a e = absurd (cc)

pub two_of : (g : ValueId → Form) (os : List Operand) (a b : Form) → map g (map (λ (o : Operand). o.value) os) ≡ a ∷ b ∷ [] → (o : Operand) × (p : Operand) × (os ≡ o ∷ p ∷ [])
two_of g [] a b e = absurd (cc)
two_of g (o ∷ []) a b e = absurd (cc)
two_of g (o ∷ p ∷ []) a b e = (o, p, refl)
two_of g (o ∷ p ∷ r ∷ os) a b e = absurd (cc)

pub one_result : (g : ValueId → Form) (rs : List ValueId) (a : Form) → map g rs ≡ a ∷ [] → (r : ValueId) × (rs ≡ r ∷ [])
one_result g [] a e = absurd (cc)
one_result g (r ∷ []) a e = (r, refl)
one_result g (r ∷ q ∷ rs) a e = absurd (cc)

pub no_result : (g : ValueId → Form) (rs : List ValueId) → map g rs ≡ [] → rs ≡ []
no_result g [] e = refl
no_result g (r ∷ rs) e = absurd (cc)

module _ (m : Module) (w : World) where
  pub record OnePlace (s : Shape) (xs : List Datum) : Type 0 where
    pub place : Place
    pub given : xs ≡ AddressOf place ∷ []
    pub shape : place.shape ≡ s
    pub typed : PlaceIs m w place

  no_more : (forms : List Form) (xs : List Datum) → DataAre m w forms xs → forms ≡ [] → xs ≡ []
  no_more _ _ DataAre.none e = refl
  no_more _ _ (DataAre.more form x forms xs is rest) e = absurd (cc)

  pub one_place_of : (forms : List Form) (xs : List Datum) → DataAre m w forms xs → (s : Shape) → forms ≡ OfPlace s ∷ [] → OnePlace s xs
  one_place_of _ _ DataAre.none s e = absurd (cc)
  one_place_of _ _ (DataAre.more form x forms xs is rest) s e =
      let p = read_place m w is s (cc) in
      record { place = p.0; given = ap₂ (λ y ys. y ∷ ys) p.1 (no_more forms xs rest (cc)); shape = p.2; typed = p.3 }

  pub record ValueAndPlace (s t : Shape) (xs : List Datum) : Type 0 where
    pub value : Value
    pub at : Place
    pub given : xs ≡ ValueOf value ∷ AddressOf at ∷ []
    pub suits : Suits m w s value
    pub shape : at.shape ≡ t
    pub typed : PlaceIs m w at

  pub value_and_place_of : (forms : List Form) (xs : List Datum) → DataAre m w forms xs → (s t : Shape) → forms ≡ OfValue s ∷ OfPlace t ∷ [] → ValueAndPlace s t xs
  value_and_place_of _ _ DataAre.none s t e = absurd (cc)
  value_and_place_of _ _ (DataAre.more form x forms xs is rest) s t e =
      let v = read_value m w is s (cc) in
      let p = one_place_of forms xs rest t (cc) in
      record { value = v.0; at = p.place; given = ap₂ (λ y ys. y ∷ ys) v.1 p.given; suits = v.2; shape = p.shape; typed = p.typed }

-- ---- what the row found

pub some_made : {A : Type 0} (go : A → Effect HolderFault) (o : Option A) (c : Change) → with_some go o ≡ Makes c → (x : A) × (o ≡ Some x) × (go x ≡ Makes c)
some_made go None c e = absurd (cc)
some_made go (Some x) c e = (x, refl, e)

pub empty_held : (cells : List Cell) → list_all is_empty_cell cells ≡ true → held cells ≡ []
empty_held [] e = refl
empty_held (c ∷ cells) e = let parts = and_parts (is_empty_cell c) (list_all is_empty_cell cells) e in one c parts.0 (empty_held cells parts.1)
  where
    one : (c : Cell) → is_empty_cell c ≡ true → held cells ≡ [] → held (c ∷ cells) ≡ []
    one Gone h g = absurd (false≢true h)
    one Empty h g = g
    one (Keeps how x) h g = absurd (false≢true h)

module _ (m : Module) (s : HolderState) (l : LowState) (frame : Frame) (f : Function) (i : Inst) (ops : Operands) (c : Change) where
  abbrev d : Declarations
  d = declarations_of m

  abbrev told : ModuleShapes
  told = shapes_of m

  abbrev values : List Shape
  values = shapes_in (shapes_of m) frame.function

  abbrev E : Type 0
  E = Effect HolderFault

  pub record HeldSo (y : Place) (asked : Option Content) (e : E) : Type 0 where
    pub there : is_there_at s.memory y ≡ true
    pub holding : (x : Content) → asked ≡ Some x → holds s.memory x y ≡ true
    pub makes : e ≡ Makes c

  held_so : (y : Place) (asked : Option Content) (e : E) → where_held d told values s.memory i y asked e ≡ Makes c → HeldSo y asked e
  held_so y None e h = by (is_there_at s.memory y) refl h
    where
      by : (b : Bool) → is_there_at s.memory y ≡ b → ◌≡◌ {A = E} (cond b e (Faults NotLastSlot)) (Makes c) → HeldSo y None e
      by true t g = record { there = t; holding = λ x k. absurd (none-some x k); makes = g }
      by false t g = absurd (cc)
  held_so y (Some x) e h = by (is_there_at s.memory y) refl (holds s.memory x y) refl h
    where
      by : (b : Bool) → is_there_at s.memory y ≡ b → (k : Bool) → holds s.memory x y ≡ k
          → ◌≡◌ {A = E} (cond b (cond k e (Faults (fault_of x))) (Faults NotLastSlot)) (Makes c) → HeldSo y (Some x) e
      by true t true k g = record { there = t; holding = λ z same. ap (λ u. holds s.memory u y) (sym (same_Some x z same)) ∙ k; makes = g }
      by true t false k g = absurd (cc)
      by false t k q g = absurd (cc)

  pub full_of : (o : Option Value) → is_some o ≡ true → (z : Value) × (o ≡ Some z)
  full_of None e = absurd (false≢true e)
  full_of (Some z) e = (z, refl)

  module _ (is : held_effect m s l frame f i ops ≡ Makes c) where
    by_row : (r : RowEffect) → effect_of i.op ≡ r → effect_by d told values s.memory i (memory_effects.at_places d told values s.memory i) r ops.given ≡ Makes c
    by_row r e = sym (ap (λ z. effect_by d told values s.memory i (memory_effects.at_places d told values s.memory i) z ops.given) e) ∙ is

    module _ (y : Place) (given : ops.given ≡ AddressOf y ∷ []) (done : Operation) (is_done : operation_done m s l frame f i ops ≡ Some done) where
      pub loads_so : effect_of i.op ≡ row.LoadsValue → HeldSo y (asked_before y.is_part done)
          (with_some (λ x. Makes (record (unchanged (cond (takes done) (emptied s.memory y) s.memory)) {
            results = ValueOf x ∷ [];
            retained = cond (copies_with i.qualifier) (references_of x) [];
          })) (value_at s.memory y))
      loads_so e =
          held_so y (asked_before y.is_part done) _
          (sym (ap (λ xs. memory_effects.at_place d told values s.memory i (memory_effects.loads_by d told values s.memory i) xs) given
          ∙ ap (λ z. with_some (λ z. with_some (memory_effects.loads_by d told values s.memory i z) (Some y)) z) is_done)
          ∙ by_row row.LoadsValue e)

      pub names_so : effect_of i.op ≡ row.LoadsName → HeldSo y (asked_before y.is_part done)
          (with_some (loaded_name (storage_in y.shape) s.memory (cond (takes done) (emptied s.memory y) s.memory)) (value_at s.memory y))
      names_so e =
          held_so y (asked_before y.is_part done) _
          (sym (ap (λ xs. memory_effects.at_place d told values s.memory i (memory_effects.names_by d told values s.memory i) xs) given
          ∙ ap (λ z. with_some (λ z. with_some (memory_effects.names_by d told values s.memory i z) (Some y)) z) is_done)
          ∙ by_row row.LoadsName e)

      pub destroys_so : effect_of i.op ≡ row.DestroysPlace → HeldSo y (asked_before y.is_part done)
          (Makes (record (unchanged (cond (takes done) (emptied s.memory y) s.memory)) { dropped = references_at s.memory y }))
      destroys_so e =
          held_so y (asked_before y.is_part done) _
          (sym (ap (λ xs. memory_effects.at_place d told values s.memory i (memory_effects.destroys_by d told values s.memory i) xs) given
          ∙ ap (λ z. with_some (λ z. with_some (memory_effects.destroys_by d told values s.memory i z) (Some y)) z) is_done)
          ∙ by_row row.DestroysPlace e)

    pub removes_so : (y : Place) → ops.given ≡ AddressOf y ∷ [] → effect_of i.op ≡ row.RemovesSlot
        → HeldSo y (Some content.Empty) (Makes (record (unchanged (removed s.memory y)) { slots = ClosesSlot y }))
    removes_so y given e =
        held_so y (Some content.Empty) _
        (sym (ap (λ xs. with_some (memory_effects.removes d told values s.memory i) (option_and_then as_place (only xs))) given) ∙ by_row row.RemovesSlot e)

    pub stores_so : (v : Value) (y : Place) → ops.given ≡ ValueOf v ∷ AddressOf y ∷ [] → (done : Operation) → operation_done m s l frame f i ops ≡ Some done
        → effect_of i.op ≡ row.StoresValue → HeldSo y (asked_before y.is_part done) (Makes (record (unchanged (filled s.memory y v)) { dropped = references_at s.memory y }))
    stores_so v y given done is_done e =
        held_so y (asked_before y.is_part done) _
        (sym (ap (λ xs. with_some (λ o. two (value_and_place (memory_effects.stores_by d told values s.memory i o)) xs) (operation_done m s l frame f i ops)) given
        ∙ ap (λ z. with_some (λ o. two (value_and_place (memory_effects.stores_by d told values s.memory i o)) (ValueOf v ∷ AddressOf y ∷ [])) z) is_done)
        ∙ by_row row.StoresValue e)
