-- Rows at places of typed states find what they need.
use Rattle.sil_ast.specs.declared.place.PointId.{PointId}
use Rattle.sil_ast.specs.declared.inst.Qualifier.{Qualifier}
use Rattle.sil_cfg.specs.declared.item.Item.TheVariants as item
use Rattle.sil_cfg_items.specs.Items.{item_taken}
use Rattle.sil_verifier_runs.specs.holder_model.LoweredRun.LowEffects.{is_first_write}
use Rattle.sil_verifier_runs.specs.holder_model.ModuleFacts.{facts_of, facts_told}
use Rattle.sil_verifier_runs.specs.holder_model.Standing.{stands_at}
use Rattle.memory_rules_accesses.specs.Operations.{access_kind_of, operation_by}
use Rattle.sil_verifier_runs.specs.sil_verifier_values.inner.Known.{IsAcceptedBody}
use Rattle.ownership_lowering_laws.specs.holder_model_typing.OwnedRunTyping.inner.OwnedTyped.{OwnedFunction, OwnedInst}
use Rattle.ownership_lowering_laws.specs.holder_model_typing.OwnedRunTyping.inner.OwnedRows.{OwnedRowForms}
use Rattle.ownership_lowering_laws.specs.holder_model_typing.OwnedRunTyping.inner.OwnedRows as owned
use Rattle.sil_verifier_runs.specs.holder_model.RunTyping.RowForms.{IsStoreOf, RowForms}
use Rattle.sil_verifier_runs.specs.holder_model.RunTyping.RowForms as lowered
use Rattle.sil_verifier_runs.specs.holder_model.RunTyping.EndForms.{value_in}
use Rattle.sil_verifier_runs.specs.holder_model.RunTyping.StorageForms.{IsNamed}
use Rattle.sil_verifier_runs.specs.sil_verifier_frames.inner.Typed.TypedStates.{FrameIs}
use Rattle.sil_verifier_runs.proofs.sil_verifier_frames.Typed.Entries.{FitEach, fit_data, operands_fit}
use Rattle.sil_verifier_runs.proofs.sil_verifier_frames.Typed.GoesOn.{typed_module}
use Rattle.ownership_lowering_runs.specs.StoredRuns.inner.Frames.{HasFullParts}
use Rattle.ownership_lowering_runs.specs.StoredRuns.inner.PlaceRows.{StandsAt}
use Rattle.ownership_lowering_runs.specs.StoredRuns.inner.RowsRight.{ArePartsFull, RowRight, StoresStrong, held_effect, is_place_row, operation_done}
use Rattle.std.proofs.Common.{◌≡◌, ◌⊎◌, inl, inr, List, [], ◌∷◌, map, refl, sym, ap, ap₂, ◌∙◌, subst, Bool, true, false, cond, Some, None}
use Rattle.std.specs.Prelude.{is_some}
use Rattle.std.proofs.lemmas.Bool.{false≢true, or_cases, true≢false}
use Rattle.std.proofs.lemmas.Option.{none-some}
use Rattle.argument_conventions.specs.declared.row.Content.TheVariants as content
use Rattle.instruction_table.specs.declared.op.Op.TheVariants as op
use Rattle.numbered_form.specs.Lists.{Each}
use Rattle.sil_ast.specs.declared.decl.Storage.{Storage}
use Rattle.sil_ast.specs.declared.function.Function.{Function}
use Rattle.sil_ast.specs.declared.inst.Inst.{Inst}
use Rattle.sil_ast.specs.declared.inst.Qualifier.TheVariants as word
use Rattle.sil_ast.specs.declared.module.Module.{Module}
use Rattle.sil_ast.specs.declared.operands.Operand.{Operand}
use Rattle.sil_ast.specs.declared.place.ValueId.{ValueId}
use Rattle.sil_types_declarations.specs.TypeDefinitions.Declarations.{declarations_of}
use Rattle.holder_model_values.specs.RunValues.Places.{Place, cells_at, emptied, filled, is_empty_at, is_there_at, value_at}
use Rattle.holder_model_values.specs.RunValues.Shapes.{Shape, Stored, storage_in}
use Rattle.holder_model_values.specs.RunValues.Trivial.{is_trivial}
use Rattle.holder_model_values.specs.RunValues.Values.{Value}
use Rattle.sil_verifier_runs.specs.holder_model.Data.{AddressOf, ValueOf}
use Rattle.sil_verifier_runs.specs.holder_model.Effects.{Change, Effect, Makes, effect_of, unchanged}
use Rattle.sil_verifier_runs.specs.holder_model.Faults.{HolderFault}
use Rattle.sil_verifier_runs.specs.holder_model.Frames.{Frame, Operands}
use Rattle.sil_verifier_runs.specs.holder_model.HolderStates.{HolderState}
use Rattle.sil_verifier_runs.specs.holder_model.MemoryEffects.{asked_before, holds, references_at, takes}
use Rattle.sil_verifier_runs.specs.holder_model.States.{Task}
use Rattle.sil_verifier_runs.specs.holder_model.declared.row_effect.RowEffect.{RowEffect}
use Rattle.sil_verifier_runs.specs.holder_model.declared.row_effect.RowEffect.TheVariants as row
use Rattle.memory_rules_accesses.specs.declared.access.Operation.{Operation}
use Rattle.memory_rules_accesses.specs.declared.access.Operation.TheVariants as operation
use Rattle.sil_verifier_runs.specs.holder_model.LoweredRun.LowStepParts.{LowState}
use Rattle.ownership_lowering_laws.specs.ownership_lowering_model.LoweredInsts.{lowering_of}
use Rattle.ownership_lowering_laws.specs.ownership_lowering_model.declared.lowering.Lowering.TheVariants as lowering
use Rattle.sil_verifier_runs.specs.ownership_kinds_origins.Renamings.{renames}
use Rattle.sil_verifier_runs.specs.holder_model.RunTyping.Forms.{Form, OfPlace, OfValue, form_of, has_no_storage}
use Rattle.ownership_lowering_laws.specs.holder_model_typing.TypedMemory.inner.Worlds.{IsWorldOf, MemoryIs, PlaceIs, Suits, World}
use Rattle.sil_verifier_runs.proofs.sil_verifier_frames.Typed.Data.{DataAre}
use Rattle.ownership_lowering_runs.specs.StoredRuns.inner.TypedPlaces.{IsPlainPlace}
use Rattle.ownership_lowering_runs.specs.StoredRuns.inner.TypedRows.{AreTypedPlaceRows, PlacesTold}
use Rattle.ownership_lowering_runs.proofs.StoredRuns.Typed.TypedPlaces.{are_plain_places, are_storage_places, are_trivial_places}
use Rattle.ownership_lowering_runs.proofs.StoredRuns.PlacesFound.{HeldSo, ValueAndPlace, destroys_op, destroys_so, empty_held, full_of, loads_op, loads_so, names_op, names_so}
use Rattle.ownership_lowering_runs.proofs.StoredRuns.PlacesFound.{no_result, one_of, one_place_of, one_result, removes_op, removes_so, some_made, stores_op, stores_so, two_of, value_and_place_of}

-- ---- typed rows

module _ (m : Module) (s : HolderState) (l : LowState) (w : World) (frame : Frame) (rest : List (Task Frame)) (f : Function) (i : Inst) (ops : Operands) (c : Change)
    (a : IsAcceptedBody m frame.function.0 f) (of : IsWorldOf m w) (memory : MemoryIs m w s.memory) (frame_is : FrameIs m w f frame) (x : StandsAt m s l frame rest f i ops)
    (t : PlacesTold m s l frame f i ops) (at_place : is_place_row (effect_of i.op) ≡ true) (is : held_effect m s l frame f i ops ≡ Makes c) where
  abbrev p : PointId
  p = stands_at f frame.trail

  typed : OwnedFunction m f
  typed = (typed_module m a.verified).functions frame.function.0 f frame_is.is

  inst : OwnedInst m f p i
  inst = typed.insts p i x.here

  abbrev form : ValueId → Form
  form v = form_of (declarations_of m) f v

  abbrev ins_are : List Form
  ins_are = map form (map value_in i.operands)

  abbrev outs_are : List Form
  outs_are = map form i.results

  given_typed : DataAre m w ins_are ops.given
  given_typed =
      fit_data m w f (subst (λ vs. FitEach m w f vs ops.given) inst.takes
      (operands_fit m w f (λ v. facts_told (facts_of m) frame.function v) s.memory (item_taken f (item.Inst p)) frame.entries ops frame_is.entries (typed.items (item.Inst p)).taken x.found).0)

  abbrev Right : Change → Type 0
  Right k = RowRight m s l frame f i ops k

  -- it is the change that was made
  is_made : (k : Change) → Right k → ◌≡◌ {A = Effect HolderFault} (Makes k) (Makes c) → Right c
  is_made k right e = subst Right (cc) right

  other : {r : RowEffect} → effect_of i.op ≡ r → is_place_row r ≡ false → Right c
  other e none = absurd (false≢true (sym none ∙ sym (ap is_place_row e) ∙ at_place))

  full_now : ArePartsFull m s l frame f i ops l.memory
  full_now = subst (Each (HasFullParts m l.memory)) (sym x.is_top) x.full

  plain_at : (y : Place) (u : Shape) → PlaceIs m w y → y.shape ≡ u → has_no_storage u ≡ true → IsPlainPlace m w s.memory y
  plain_at y u at shape bare = are_plain_places m w s.memory y memory at (subst (λ z. has_no_storage z ≡ true) (sym shape) bare)

  -- loads
  loads_right : (u : Shape) (done : Operation) → effect_of i.op ≡ row.LoadsValue → operation_done m s l frame f i ops ≡ Some done → has_no_storage u ≡ true
      → ins_are ≡ OfPlace u ∷ [] → outs_are ≡ OfValue u ∷ [] → Right c
  loads_right u done e is_done bare ins outs =
      let y = one_place_of m w ins_are ops.given given_typed u ins in
      let o = one_of form i.operands (OfPlace u) ins in
      let r = one_result form i.results (OfValue u) outs in
      let h = loads_so m s l frame f i ops c is y.place y.given done is_done e in
      let z = some_made _ (value_at s.memory y.place) c h.makes in
      is_made _ (RowRight.loads o.0 y.place r.0 done z.0 e (loads_op i.op e).0 (loads_op i.op e).1 (record { one = o.1; given = y.given; there = h.there }) r.1 z.1
      (λ k. (plain_at y.place u y.typed y.shape bare).strong h.there)) z.2

  -- storage that is emptied
  stays_full : (y : Place) (done : Operation) → ops.given ≡ AddressOf y ∷ [] → is_some (storage_in y.shape) ≡ true
      → ArePartsFull m s l frame f i ops (cond (takes done) (emptied l.memory y) l.memory)
  stays_full y done given storage = by (takes done)
    where
      by : (b : Bool) → ArePartsFull m s l frame f i ops (cond b (emptied l.memory y) l.memory)
      by true = t.emptied y given storage
      by false = full_now

  names_right : (how : Storage) (u : Shape) (done : Operation) → effect_of i.op ≡ row.LoadsName → operation_done m s l frame f i ops ≡ Some done
      → ins_are ≡ OfPlace (Stored how u) ∷ [] → Right c
  names_right how u done e is_done ins =
      let y = one_place_of m w ins_are ops.given given_typed (Stored how u) ins in
      let o = one_of form i.operands (OfPlace (Stored how u)) ins in
      let h = names_so m s l frame f i ops c is y.place y.given done is_done e in
      let z = some_made _ (value_at s.memory y.place) c h.makes in
      RowRight.names c o.0 y.place done z.0 e (names_op i.op e).0 (names_op i.op e).1 (record { one = o.1; given = y.given; there = h.there }) is_done z.1 z.2
      (stays_full y.place done y.given (ap (λ v. is_some (storage_in v)) y.shape))

  -- what is destroyed
  destroys_right : (u : Shape) → effect_of i.op ≡ row.DestroysPlace → operation_done m s l frame f i ops ≡ Some operation.Take → has_no_storage u ≡ true
      → ins_are ≡ OfPlace u ∷ [] → outs_are ≡ [] → Right c
  destroys_right u e is_done bare ins outs =
      let y = one_place_of m w ins_are ops.given given_typed u ins in
      let o = one_of form i.operands (OfPlace u) ins in
      let h = destroys_so m s l frame f i ops c is y.place y.given operation.Take is_done e in
      let z = full_of m s l frame f i ops c (value_at s.memory y.place) (h.holding content.Full refl) in
      let plain = plain_at y.place u y.typed y.shape bare in
      is_made _ (RowRight.destroys o.0 y.place z.0 e (destroys_op i.op e).0 (destroys_op i.op e).1 (t.at_storage y.place y.given e ∙ ap is_some plain.bare) (no_result form i.results outs)
      (record { one = o.1; given = y.given; there = h.there })
      (record { held = z.1; strong = plain.strong h.there; references = plain.references z.0 h.there z.1 })) h.makes

  destroys_name_right : (how : Storage) (u : Shape) → effect_of i.op ≡ row.DestroysPlace → IsNamed how u → operation_done m s l frame f i ops ≡ Some operation.Take
      → ins_are ≡ OfPlace (Stored how u) ∷ [] → Right c
  destroys_name_right how u e named is_done ins =
      let y = one_place_of m w ins_are ops.given given_typed (Stored how u) ins in
      let o = one_of form i.operands (OfPlace (Stored how u)) ins in
      let h = destroys_so m s l frame f i ops c is y.place y.given operation.Take is_done e in
      let z = full_of m s l frame f i ops c (value_at s.memory y.place) (h.holding content.Full refl) in
      let storage : is_some (storage_in y.place.shape) ≡ true = ap (λ v. is_some (storage_in v)) y.shape in
      is_made _ (RowRight.destroys_storage o.0 y.place operation.Take z.0 e (destroys_op i.op e).0 (destroys_op i.op e).1 (t.at_storage y.place y.given e ∙ storage)
      (record { one = o.1; given = y.given; there = h.there }) is_done z.1 (are_storage_places m w s.memory y.place how u memory y.typed y.shape named)
      (stays_full y.place operation.Take y.given storage)) h.makes

  -- slots that go
  removes_right : (u : Shape) → effect_of i.op ≡ row.RemovesSlot → ins_are ≡ OfPlace u ∷ [] → Right c
  removes_right u e ins =
      let y = one_place_of m w ins_are ops.given given_typed u ins in
      let o = one_of form i.operands (OfPlace u) ins in
      let h = removes_so m s l frame f i ops c is y.place y.given e in
      is_made _ (RowRight.removes o.0 y.place e (removes_op i.op e).0 (removes_op i.op e).1 (record { one = o.1; given = y.given; there = h.there }) (t.own_slot o.0 o.1 e)
      (t.removed y.place y.given e)) h.makes

  -- stores of names
  stores_name_right : (how : Storage) (u : Shape) (done : Operation) → effect_of i.op ≡ row.StoresValue → IsNamed how u → operation_done m s l frame f i ops ≡ Some done → IsStoreOf done
      → ins_are ≡ OfValue u ∷ OfPlace (Stored how u) ∷ [] → Right c
  stores_name_right how u done e named is_done store ins =
      let y = value_and_place_of m w ins_are ops.given given_typed u (Stored how u) ins in
      let o = two_of form i.operands (OfValue u) (OfPlace (Stored how u)) ins in
      let h = stores_so m s l frame f i ops c is y.value y.at y.given done is_done e in
      by y o.0 o.1 o.2 h (stores_op i.op e)
    where
      first : (y : Place) (v : Value) (o : Operation) → IsStoreOf o
          → HeldSo m s l frame f i ops c y (asked_before y.is_part o) (Makes (record (unchanged (filled s.memory y v)) { dropped = references_at s.memory y }))
          → is_first_write o ≡ false → is_some (value_at s.memory y) ≡ true
      first y v _ IsStoreOf.first h k = absurd (cc)
      first y v _ IsStoreOf.again h k = h.holding content.Full refl

      by : (y : ValueAndPlace m w u (Stored how u) ops.given) (o q : Operand) → i.operands ≡ o ∷ q ∷ []
          → HeldSo m s l frame f i ops c y.at (asked_before y.at.is_part done) (Makes (record (unchanged (filled s.memory y.at y.value)) { dropped = references_at s.memory y.at }))
          → (i.op ≡ op.Store) ⊎ ((lowering_of i.op ≡ lowering.Stays) × (renames i.op ≡ false)) → Right c
      by y o q both h (inl is_op) = absurd (none-some how (sym (t.store_bare y.value y.at y.given is_op) ∙ ap storage_in y.shape))
      by y o q both h (inr stays) =
          is_made _ (RowRight.stores_name o q y.value y.at done e stays.0 stays.1 (record { both = both; given = y.given; there = h.there }) is_done (ap (λ v. is_some (storage_in v)) y.shape)
          (first y.at y.value done store h) (are_storage_places m w s.memory y.at how u memory y.typed y.shape named)) h.makes

  -- stores
  stores_right : (u : Shape) → effect_of i.op ≡ row.StoresValue → has_no_storage u ≡ true → ins_are ≡ OfValue u ∷ OfPlace u ∷ [] → outs_are ≡ [] → Right c
  stores_right u e bare ins outs = by (t.words is_op)
    where
      y : ValueAndPlace m w u u ops.given
      y = value_and_place_of m w ins_are ops.given given_typed u u ins

      o : (a : Operand) × (b : Operand) × (i.operands ≡ a ∷ b ∷ [])
      o = two_of form i.operands (OfValue u) (OfPlace u) ins

      plain : IsPlainPlace m w s.memory y.at
      plain = plain_at y.at u y.typed y.shape bare

      is_op : i.op ≡ op.Store
      is_op = t.bare_store y.value y.at y.given e plain.bare

      found : (done : Operation) → operation_done m s l frame f i ops ≡ Some done
          → HeldSo m s l frame f i ops c y.at (asked_before y.at.is_part done) (Makes (record (unchanged (filled s.memory y.at y.value)) { dropped = references_at s.memory y.at }))
      found done is_done = stores_so m s l frame f i ops c is y.value y.at y.given done is_done e

      strong : is_there_at s.memory y.at ≡ true → (y.at.is_part ≡ true → is_some (value_at s.memory y.at) ≡ true) → StoresStrong m s l frame f i ops o.0 o.1 y.value y.at
      strong there part = record {
        at = record { both = o.2; given = y.given; there = there };
        none = no_result form i.results outs;
        is_op = is_op;
        bare = plain.bare;
        part = part;
        new = plain.new y.value (subst (λ z. Suits m w z y.value) (sym y.shape) y.suits);
        old = plain.strong there;
      }

      nothing : holds s.memory content.Empty y.at ≡ true → references_at s.memory y.at ≡ []
      nothing h = at (or_cases (is_trivial y.at.shape) (is_empty_at s.memory y.at) h)
        where
          at : (is_trivial y.at.shape ≡ true) ⊎ (is_empty_at s.memory y.at ≡ true) → references_at s.memory y.at ≡ []
          at (inl trivial) = are_trivial_places m w s.memory y.at memory y.typed trivial
          at (inr none) = empty_held (cells_at s.memory y.at) none

      done_is : (q : Qualifier) → i.qualifier ≡ q → operation_done m s l frame f i ops ≡ operation_by (access_kind_of op.Store) q
      done_is q e = ap₂ (λ k r. operation_by (access_kind_of k) r) is_op e

      by : (i.qualifier ≡ word.Init) ⊎ (i.qualifier ≡ word.Assign)
          ⊎ ((i.qualifier ≡ word.Trivial) × ((v : Value) (z : Place) → ops.given ≡ ValueOf v ∷ AddressOf z ∷ [] → is_trivial z.shape ≡ true)) → Right c
      by (inl q) =
          let h = found operation.FirstWrite (done_is word.Init q) in
          is_made _ (RowRight.fills o.0 o.1 y.value y.at
          (strong h.there (λ part. absurd (true≢false (sym part ∙ t.whole y.value y.at y.given (done_is word.Init q))))) (inl q) (nothing (h.holding content.Empty refl))) h.makes
      by (inr (inl q)) =
          let h = found operation.Write (done_is word.Assign q) in
          let z = full_of m s l frame f i ops c (value_at s.memory y.at) (h.holding content.Full refl) in
          is_made _ (RowRight.assigns o.0 o.1 y.value y.at z.0 (strong h.there (λ part. h.holding content.Full refl)) q
          (record { held = z.1; strong = plain.strong h.there; references = plain.references z.0 h.there z.1 })) h.makes
      by (inr (inr (q, trivial))) =
          let h = found operation.TrivialStore (done_is word.Trivial q) in
          is_made _ (RowRight.fills o.0 o.1 y.value y.at (strong h.there (λ part. h.holding content.Full (ap (λ b. cond b (Some content.Full) None) part))) (inr q)
          (are_trivial_places m w s.memory y.at memory y.typed (trivial y.value y.at y.given))) h.makes

  -- ---- by the forms of the row

  by_lowered : (xs ys : List Form) → RowForms m i xs ys → ins_are ≡ xs → outs_are ≡ ys → Right c
  by_lowered _ _ (lowered.looks a0 e) ins outs = other e refl
  by_lowered _ _ (lowered.literal a0 a1 e b0 b1) ins outs = other e refl
  by_lowered _ _ (lowered.function a0 e b0) ins outs = other e refl
  by_lowered _ _ (lowered.computes a0 e b0) ins outs = other e refl
  by_lowered _ _ (lowered.traps a0 e b0) ins outs = other e refl
  by_lowered _ _ (lowered.object a0 e b0) ins outs = other e refl
  by_lowered _ _ (lowered.slot a0 a1 e b0) ins outs = other e refl
  by_lowered _ _ (lowered.upcast a0 a1 e b0) ins outs = other e refl
  by_lowered _ _ (lowered.retains a0 e b0) ins outs = other e refl
  by_lowered _ _ (lowered.drops a0 e b0) ins outs = other e refl
  by_lowered _ _ (lowered.groups a0 a1 e b0) ins outs = other e refl
  by_lowered _ _ (lowered.chooses_plain a0 a1 a2 e b0 b1 b2 b3) ins outs = other e refl
  by_lowered _ _ (lowered.chooses_full a0 a1 a2 a3 e b0 b1 b2 b3) ins outs = other e refl
  by_lowered _ _ (lowered.member a0 a1 a2 e b0 b1) ins outs = other e refl
  by_lowered _ _ (lowered.member_address a0 a1 a2 e b0 b1) ins outs = other e refl
  by_lowered _ _ (lowered.field_address a0 a1 a2 a3 e b0 b1 b2 b3) ins outs = other e refl
  by_lowered _ _ (lowered.calls a0 a1 e b0 b1) ins outs = other e refl
  by_lowered _ _ (lowered.calls_out a0 a1 a2 e b0 b1) ins outs = other e refl
  by_lowered _ _ (lowered.removes u e) ins outs = removes_right u e ins
  by_lowered _ _ (lowered.loads u e is_done bare) ins outs = loads_right u operation.Read e is_done bare ins outs
  by_lowered _ _ (lowered.stores u e is_done bare) ins outs = stores_right u e bare ins outs
  by_lowered _ _ (lowered.loads_name how u done e named is_done load) ins outs = names_right how u done e is_done ins
  by_lowered _ _ (lowered.stores_name how u done e named is_done store) ins outs = stores_name_right how u done e named is_done store ins
  by_lowered _ _ (lowered.destroys_name how u e named is_done) ins outs = destroys_name_right how u e named is_done ins

  by_owned : (xs ys : List Form) → OwnedRowForms m i xs ys → ins_are ≡ xs → outs_are ≡ ys → Right c
  by_owned _ _ (owned.also_lowered xs ys row) ins outs = by_lowered xs ys row ins outs
  by_owned _ _ (owned.gives u e bare) ins outs = other e refl
  by_owned _ _ (owned.copies u e bare) ins outs = other e refl
  by_owned _ _ (owned.loads u done e is_done what bare) ins outs = loads_right u done e is_done bare ins outs
  by_owned _ _ (owned.stores u done e is_done write bare) ins outs = stores_right u e bare ins outs
  by_owned _ _ (owned.destroys u e is_done bare) ins outs = destroys_right u e is_done bare ins outs
  by_owned _ _ (owned.members u us e group) ins outs = other e refl

pub are_typed_place_rows : AreTypedPlaceRows
are_typed_place_rows m s l w frame rest f i ops c a of memory frame_is x t at_place is =
    by_owned m s l w frame rest f i ops c a of memory frame_is x t at_place is _ _ (inst m s l w frame rest f i ops c a of memory frame_is x t at_place is).row refl refl
