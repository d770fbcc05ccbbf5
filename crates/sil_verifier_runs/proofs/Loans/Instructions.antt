-- An instruction that leaves a change: of the stack it changes no cell that an open scope lends, and none that a frame below keeps for itself.
use Rattle.std.proofs.Common.{◌≡◌, ◌⊎◌, ⊎_elim, inl, inr, ◌==◌, ◌&&◌, ◌<◌, ◌++◌, append-nil, ℕ, List, [], ◌∷◌, length}
use Rattle.std.proofs.Common.{Bool, true, false, cond, Contains, Some, refl, sym, ap, ◌∙◌, subst, slice_get, eq-eqb}
use Rattle.std.proofs.lemmas.Bool.{false_from_ne_true, or_left, true≢false}
use Rattle.std.proofs.lemmas.List.Elements.{Contains-push}
use Rattle.sil_verifier_frames.specs.holder_model.Data.{AddressOf, Datum, ValueOf}
use Rattle.sil_verifier_frames.specs.holder_model.Effects as effects
use Rattle.sil_verifier_frames.specs.holder_model.Effects.{Change, effect_of}
use Rattle.sil_verifier_frames.specs.holder_model.Frames.{Entry, Frame, Operands}
use Rattle.sil_verifier_frames.specs.holder_model.MemoryEffects.{effect, operation_done, takes}
use Rattle.sil_verifier_frames.specs.holder_model.ModuleShapes.{ModuleShapes, field_shapes}
use Rattle.sil_verifier_frames.specs.holder_model.HolderStates.{HolderState}
use Rattle.sil_verifier_frames.specs.holder_model.States.{Task}
use Rattle.sil_verifier_frames.specs.holder_model.declared.row_effect.RowEffect.TheVariants as row
use Rattle.sil_verifier_frames.specs.memory_rules_accesses.Operations.{addresses_of, deallocates}
use Rattle.sil_verifier_frames.specs.memory_rules_accesses.Sources.{is_slot_source, source_at, sources_of}
use Rattle.sil_verifier_frames.specs.memory_rules_accesses.declared.access.Operation.{Operation}
use Rattle.sil_verifier_frames.specs.memory_rules_accesses.declared.access.Operation.TheVariants.{Take, TrivialStore}
use Rattle.sil_verifier_frames.specs.memory_rules_accesses.declared.source.Source.{Source}
use Rattle.sil_verifier_frames.specs.memory_rules_accesses.declared.source.Source.TheVariants as source
use Rattle.sil_verifier_frames.proofs.sil_verifier_trails.AcceptedPlaces.OperationsRight.{of_slots}
use Rattle.sil_verifier_frames.specs.sil_verifier_trails.AcceptedPlaces.inner.Located.{IsAddress}
use Rattle.sil_verifier_frames.proofs.holder_model_typing.RunTypingLaws.Rows.Points.{is_at}
use Rattle.sil_verifier_frames.specs.sil_verifier_accepted.AcceptedModules.inner.Checked.{IsVerified}
use Rattle.sil_verifier_frames.specs.sil_types.Typing.Shapes.{is_trivial_object, target}
use Rattle.sil_verifier_frames.specs.sil_verifier_values.inner.Known.{IsAcceptedBody, type_in}
use Rattle.sil_verifier_frames.proofs.holder_model_laws.HolderLaws.Counts.Changes.{changes_told}
use Rattle.sil_verifier_frames.specs.holder_model_laws.HolderLaws.inner.Counts.Doing.{Leaves}
use Rattle.sil_verifier_frames.specs.holder_model_laws.HolderLaws.inner.Counts.Keeping.{with_new_object, with_new_slot}
use Rattle.sil_cfg_items.specs.Items.{item_taken, taken_in}
use Rattle.sil_cfg_items.specs.Parts.{inst_at}
use Rattle.sil_cfg_items.specs.Roles.{conventions_in, roles_for, taken_as, taken_by, taken_each}
use Rattle.sil_cfg_items.specs.declared.taken.Taken.{Taken}
use Rattle.sil_cfg_items.specs.declared.taken.Treatment.{Treatment}
use Rattle.instruction_table.specs.Forms.{roles_of}
use Rattle.sil_verifier_frames.specs.holder_model_laws.HolderLaws.inner.Cells.Cells.{ChangesAt, IsInside, cell_at, has_cell}
use Rattle.sil_verifier_frames.proofs.holder_model_laws.HolderLaws.Cells.PlaceCells.{not_cell}
use Rattle.sil_verifier_frames.proofs.holder_model_laws.HolderLaws.Cells.Writes.{removed_changes, slots_new}
use Rattle.sil_verifier_frames.specs.ownership_kinds_chains.OwnershipChains.Facts.{has}
use Rattle.holder_model_values.specs.RunValues.inner.Fits.{fits}
use Rattle.holder_model_values.specs.RunValues.Memory.{Memory}
use Rattle.holder_model_values.specs.RunValues.Places.{OnStack, Place, emptied, filled, removed}
use Rattle.holder_model_values.specs.RunValues.Shapes.{Shape}
use Rattle.holder_model_values.specs.RunValues.Values.{Value}
use Rattle.sil_ast.specs.declared.function.Function.{Function}
use Rattle.sil_ast.specs.declared.inst.Inst.{Inst}
use Rattle.sil_ast.specs.declared.module.Module.{Module}
use Rattle.sil_ast.specs.declared.operands.Operand.{Operand}
use Rattle.sil_ast.specs.declared.place.PointId.{PointId}
use Rattle.sil_ast.specs.declared.place.ValueId.{ValueId}
use Rattle.sil_ast.specs.declared.type_name.TypeName.{TypeName}
use Rattle.sil_cfg.specs.declared.item.Item.TheVariants as item
use Rattle.sil_types_declarations.specs.TypeDefinitions.Declarations.{Declarations, declarations_of}
use Rattle.sil_verifier_frames.specs.inner.Placed.FramePlaces.{HoldsPlaces, IsFree, Names}
use Rattle.sil_verifier_frames.specs.inner.Placed.PlaceStates.{AreSlotsRight}
use Rattle.sil_verifier_frames.specs.inner.Placed.Roots.{IsThere, is_shared, is_shared_source, slot}
use Rattle.sil_verifier_frames.specs.inner.Placed.TakenPlaces.{AreNamedBy}
use Rattle.sil_verifier_frames.proofs.Placed.EffectsAt.{is_at_place, is_reading}
use Rattle.sil_verifier_frames.proofs.Placed.Locating.{IsOperandAt, operand_at}
use Rattle.sil_verifier_frames.proofs.Placed.Naming.{names_once}
use Rattle.sil_verifier_frames.proofs.Placed.OperandsNamed.{operands_named}
use Rattle.sil_verifier_frames.proofs.Placed.Operating.{Fills, Looks}
use Rattle.sil_verifier_frames.proofs.Placed.PlaceRows.{DoesOne, does_first, does_second, looked_after, named_first, place_kept, reading_done, storing_done, taken_after}
use Rattle.sil_verifier_frames.proofs.Placed.PlainAddresses.{named_address, typed_place}
use Rattle.sil_verifier_frames.proofs.Placed.RowsAt.{Removes, is_at_one, is_removal, is_store, not_removed, removal}
use Rattle.sil_verifier_frames.proofs.Placed.StoresFit.{stores_fit}
use Rattle.sil_verifier_frames.proofs.Placed.TrailsSo.{trail_laws}
use Rattle.sil_verifier_runs.specs.inner.Loans.Loans.{loans_of}
use Rattle.sil_verifier_runs.specs.inner.Guarded.LoansKept.{TakesOperands}
use Rattle.sil_verifier_runs.proofs.Loans.AtItems.{IsLentLeft, accepted, now, reads, run}
use Rattle.sil_verifier_runs.proofs.Loans.Clear.{other_root, same_root}
use Rattle.sil_verifier_runs.proofs.Loans.RootsStay.{never_closed}
use Rattle.sil_verifier_runs.proofs.Loans.TrivialStores.{has_word, stored_trivial, trivial_row}
use Rattle.sil_verifier_runs.proofs.Loans.Undisturbed.{DoesThere, IsUndisturbed, emptied_undisturbed, filled_undisturbed}

second_operand : (os : List Operand) (rs : List Treatment) (s t : Taken) → taken_each os rs ≡ s ∷ t ∷ [] → (z : Operand) × (slice_get os 1 ≡ Some z) × (z.value ≡ t.value)
second_operand [] rs s t e = absurd (cc)
second_operand (o ∷ os) [] s t e = absurd (cc)
second_operand (o ∷ []) (r ∷ rs) s t e = absurd (cc)
second_operand (o ∷ p ∷ os) (r ∷ []) s t e = absurd (cc)
second_operand (o ∷ p ∷ os) (r ∷ q ∷ rs) s t e = let same : taken_as p q ≡ t = cc in (p, refl, ap (λ x. x.value) same)

two_named : (entries : List Entry) (y z : Datum) (ts : List Taken) → AreNamedBy entries ts (y ∷ z ∷ []) → (s t : Taken) × (ts ≡ s ∷ t ∷ [])
two_named entries y z [] h = absurd h
two_named entries y z (s ∷ []) h = absurd h.1
two_named entries y z (s ∷ t ∷ []) h = (s, t, refl)
two_named entries y z (s ∷ t ∷ u ∷ ts) h = absurd (h.1).1

last_taken : (front : List Taken) (a s t : Taken) → front ++ a ∷ [] ≡ s ∷ t ∷ [] → a ≡ t
last_taken [] a s t e = absurd (cc)
last_taken (u ∷ []) a s t e = cc
last_taken (u ∷ v ∷ []) a s t e = absurd (cc)
last_taken (u ∷ v ∷ x ∷ front) a s t e = absurd (cc)

slot_is : (s : Source) → is_slot_source s ≡ true → (trivial : Bool) × (s ≡ source.Slot trivial)
slot_is (source.Slot trivial) e = (trivial, refl)
slot_is _ e = absurd (true≢false (sym e))

module _ (m : Module) (verified : IsVerified m) (s : HolderState) (rest : List (Task Frame)) (frame : Frame) (f : Function) (point : PointId) (ops : Operands)
    (x : TakesOperands m (loans_of m) (AreSlotsRight m) s rest frame f (item.Inst point) ops) (i : Inst) (here : inst_at f point ≡ Some i) where
  abbrev n : ℕ
  n = frame.function.0

  abbrev body : IsAcceptedBody m frame.function.0 f
  body = accepted m verified s rest frame f (item.Inst point) ops x

  abbrev behind : Frame
  behind = record frame { entries = ops.left }

  abbrev holds : HoldsPlaces m s.memory f (record frame { entries = ops.left }) rest
  holds = (now m verified s rest frame f (item.Inst point) ops x).holds

  abbrev pub IsLent : ℕ → Type 0
  IsLent k = IsLentLeft m verified s rest frame f (item.Inst point) ops x k

  taken_is : item_taken f (item.Inst point) ≡ taken_by i
  taken_is = ap (λ o. taken_in o ++ []) here ∙ append-nil (taken_by i)

  named : AreNamedBy ops.left (taken_by i) ops.given
  named = subst (λ ts. AreNamedBy ops.left ts ops.given) taken_is
      (operands_named m n f x.state.typed.world _ s.memory frame.entries (item.Inst point) ops (reads m verified s rest frame f (item.Inst point) ops x))

  -- what memory keeps behind it
  pub record KeepsCells (later : Memory) : Type 0 where
    pub lent : (k : ℕ) → k < length s.memory.stack → IsLent k → cell_at later OnStack k ≡ cell_at s.memory OnStack k
    pub below : (k : ℕ) → k < length s.memory.stack → IsFree m rest k ⊎ (cell_at later OnStack k ≡ cell_at s.memory OnStack k)

  still : (later : Memory) → later.stack ≡ s.memory.stack → KeepsCells later
  still later same = record { lent = λ k lt l. ap (λ cells. slice_get cells k) same; below = λ k lt. inr (ap (λ cells. slice_get cells k) same) }

  -- ---- at a place

  module _ (o : Operation) (p : Place) (one : DoesOne i ops.left o p) (kept : deallocates i ≡ false)
      (trivially : o ≡ TrivialStore → (ty t : TypeName) → type_in (declarations_of m) f one.taken.value ≡ Some ty → target ty ≡ Some t → is_trivial_object (declarations_of m) t ≡ true) where
    address : IsAddress (declarations_of m) f one.taken.value
    address = named_address m x.state.typed.world n f body ops.left (now m verified s rest frame f (item.Inst point) ops x).typed.entries one.taken.value p one.names

    operand : IsOperandAt trail_laws m frame.function.0 f body frame.trail one.taken.value
    operand = operand_at trail_laws m n f body frame.trail (item.Inst point) (run m verified s rest frame f (item.Inst point) ops x) one.taken
        (subst (λ ts. Contains ts one.taken) (sym (taken_is ∙ one.operands)) (Contains-push one.front one.taken)) address

    there : DoesThere trail_laws m frame.function.0 f body s.memory (record frame { entries = ops.left }) rest holds point (run m verified s rest frame f (item.Inst point) ops x) i
        one.taken.value o p operand one.names
    there = record {
      inst = here;
      goes = (now m verified s rest frame f (item.Inst point) ops x).typed.goes;
      none_lent = (now m verified s rest frame f (item.Inst point) ops x).none_lent;
      does = record { operations = one.operations; kept = kept };
      trivially = trivially;
      address = typed_place m f one.taken.value address.shape address.is;
    }

    keeps : (later : Memory) → IsUndisturbed trail_laws m frame.function.0 f body s.memory (record frame { entries = ops.left }) rest holds point
        (run m verified s rest frame f (item.Inst point) ops x) i one.taken.value o p operand one.names there later → KeepsCells later
    keeps later u = record { lent = λ k lt l. u.lent k l; below = λ k lt. u.below k }

    filled_keeps : (y : Value) → Fills o → fits p.shape y ≡ true → KeepsCells (filled s.memory p y)
    filled_keeps y how fit = keeps (filled s.memory p y)
        (filled_undisturbed trail_laws m n f body s.memory behind rest holds point (run m verified s rest frame f (item.Inst point) ops x) i one.taken.value o p operand one.names there y how fit)

    emptied_keeps : o ≡ Take → KeepsCells (emptied s.memory p)
    emptied_keeps how = keeps (emptied s.memory p)
        (emptied_undisturbed trail_laws m n f body s.memory behind rest holds point (run m verified s rest frame f (item.Inst point) ops x) i one.taken.value o p operand one.names there how)

  -- what reads leaves memory, or takes
  read_keeps : (d : Declarations) (shapes : ModuleShapes) (values : List Shape) (o : Operation) (p : Place) → is_reading (effect_of i.op) ≡ true → is_at_one (effect_of i.op) ≡ true
      → is_at_place (effect_of i.op) ≡ true → operation_done d shapes values s.memory i ≡ Some o → ops.given ≡ AddressOf p ∷ []
      → KeepsCells (cond (takes o) (emptied s.memory p) s.memory)
  read_keeps d shapes values o p reading one_place at done given =
      let one = does_first i ops.left p o one_place done (subst (AreNamedBy ops.left (taken_by i)) given named) in
      ⊎_elim
      (λ (how : Looks o). subst KeepsCells (sym (looked_after o how s.memory p)) (still s.memory refl))
      (λ (how : o ≡ Take). subst KeepsCells (sym (taken_after o how s.memory p))
      (emptied_keeps o p one (not_removed i (place_kept (effect_of i.op) at)) (λ e. absurd (not_both how e)) how))
      (reading_done i.op i.qualifier o reading done)
    where
      not_both : o ≡ Take → o ≡ TrivialStore → ⊥
      not_both a b = let two : Take ≡ TrivialStore = sym a ∙ b in cc

  -- what stores fills
  store_keeps : (d : Declarations) (shapes : ModuleShapes) (values : List Shape) (o : Operation) (y : Value) (p : Place) → effect_of i.op ≡ row.StoresValue
      → operation_done d shapes values s.memory i ≡ Some o → ops.given ≡ ValueOf y ∷ AddressOf p ∷ [] → KeepsCells (filled s.memory p y)
  store_keeps d shapes values o y p stores done given =
      filled_keeps o p one (not_removed i (place_kept (effect_of i.op) (ap is_at_place stores))) trivially y
      (storing_done i.op i.qualifier o (ap is_store stores) done)
      (stores_fit m n f x.state.typed.world _ s.memory frame.entries point ops (reads m verified s rest frame f (item.Inst point) ops x) i here stores y p given)
    where
      one : DoesOne i ops.left o p
      one = does_second i ops.left p o (ap is_store stores) done (ValueOf y) (subst (AreNamedBy ops.left (taken_by i)) given named)

      trivially : o ≡ TrivialStore → (ty t : TypeName) → type_in (declarations_of m) f one.taken.value ≡ Some ty → target ty ≡ Some t → is_trivial_object (declarations_of m) t ≡ true
      trivially e ty t has_type points =
          let at = is_at f point i here in
          let is = trivial_row i.op i.qualifier (has_word m n f body point.block.0 point.index i at) (done ∙ ap Some e) in
          let two = two_named ops.left (ValueOf y) (AddressOf p) (taken_by i) (subst (AreNamedBy ops.left (taken_by i)) given named) in
          let last = last_taken one.front one.taken two.0 two.1 (sym one.operands ∙ two.2) in
          let z = second_operand i.operands (roles_for (roles_of i.op) (conventions_in i) (length i.operands)) two.0 two.1 two.2 in
          stored_trivial m n f body point.block.0 point.index i at is.0 is.1 z.0 z.1 ty t
          (ap (type_in (declarations_of m) f) (z.2 ∙ sym (ap (λ (u : Taken). u.value) last)) ∙ has_type) points

  -- ---- a slot that goes

  module _ (p : Place) (removes : effect_of i.op ≡ row.RemovesSlot) (given : ops.given ≡ AddressOf p ∷ []) where
    operand_of : (t : Taken) × (taken_by i ≡ t ∷ []) × Names ops.left t.value p
    operand_of = named_first i ops.left p Take (ap is_at_one removes) (subst (AreNamedBy ops.left (taken_by i)) given named)

    abbrev v : ValueId
    v = operand_of.0.value

    goes : Removes i operand_of.0.value
    goes = removal i operand_of.0 (ap is_removal removes) operand_of.1

    among : Contains (addresses_of i) operand_of.0.value
    among = subst (λ vs. Contains vs operand_of.0.value) (sym goes.addresses) (Contains-push [] operand_of.0.value)

    src : (trivial : Bool) × (source_at (sources_of (declarations_of m) f) operand_of.0.value ≡ source.Slot trivial)
    src = slot_is (source_at (sources_of (declarations_of m) f) v)
        (of_slots (declarations_of m) f (trail_laws.accepted m n f body) (item.Inst point) i here goes.deallocates_it v among)

    is_there : IsThere (declarations_of m) f frame.trail operand_of.0.value
    is_there =
        let closed = trail_laws.slots_closed m n f body frame.trail (item.Inst point) i v (run m verified s rest frame f (item.Inst point) ops x) here goes.deallocates_it goes.addresses in
        slot src.0 src.1 (ap (λ vs. has vs v.0) closed.0 ∙ or_left (v.0 == v.0) _ (eq-eqb v.0 v.0 refl))

    own : is_shared (declarations_of m) f operand_of.0.value ≡ false
    own = ap is_shared_source src.1

    inside : IsInside s.memory p
    inside = let y = holds.named operand_of.0.value is_there in subst (IsInside s.memory) (names_once ops.left operand_of.0.value y.place p y.names operand_of.2) y.inside

    changes : ChangesAt p s.memory (removed s.memory p)
    changes = removed_changes s.memory p inside

    clear : (k : ℕ) → IsLent k → has_cell p k ≡ true → ⊥
    clear k l has =
        other_root m f s.memory behind rest holds l.scope k l.cell operand_of.0.value is_there
        (false_from_ne_true _ (λ e. never_closed m n f body frame.trail (item.Inst point) (run m verified s rest frame f (item.Inst point) ops x) l.scope l.cell.address l.on
        l.cell.location l.cell.at (root_slot e) i here goes.deallocates_it operand_of.0.value among e))
        (ap (λ b. b && is_shared (declarations_of m) f l.cell.location.root) own) p operand_of.2 has
      where
        root_slot : (operand_of.0.value.0 == l.cell.location.root.0) ≡ true → is_slot_source (source_at (sources_of (declarations_of m) f) l.cell.location.root) ≡ true
        root_slot e =
            sym (ap (λ r. is_slot_source (source_at (sources_of (declarations_of m) f) r)) (same_root operand_of.0.value l.cell.location.root e)) ∙ ap is_slot_source src.1

    free_or_same : (k : ℕ) (b : Bool) → has_cell p k ≡ b → IsFree m rest k ⊎ (cell_at (removed s.memory p) OnStack k ≡ cell_at s.memory OnStack k)
    free_or_same k true has = inl (holds.free operand_of.0.value is_there own p operand_of.2 k has)
    free_or_same k false out = inr (changes.others OnStack k (λ e. out))

    removed_keeps : KeepsCells (removed s.memory p)
    removed_keeps = record {
      lent = λ k lt l. changes.others OnStack k (λ e. not_cell p k (λ has. clear k l has));
      below = λ k lt. free_or_same k (has_cell p k) refl;
    }

  -- ---- each change

  same_below : (later : Memory) → ((k : ℕ) → k < length s.memory.stack → cell_at later OnStack k ≡ cell_at s.memory OnStack k) → KeepsCells later
  same_below later same = record { lent = λ k lt l. same k lt; below = λ k lt. inr (same k lt) }

  pub instruction_keeps : (shapes : ModuleShapes) (values : List Shape) (c : Change) → effect (declarations_of m) shapes values s.memory i ops.given ≡ effects.Makes c
      → KeepsCells c.memory
  instruction_keeps shapes values c makes = by c (changes_told (declarations_of m) shapes values s.memory i ops.given c makes)
    where
      by : (c : Change) → Leaves (declarations_of m) shapes values s.memory i ops.given c → KeepsCells c.memory
      by _ Leaves.nothing = still s.memory refl
      by _ (Leaves.bare y none) = still s.memory refl
      by _ (Leaves.object class is) = still (with_new_object s.memory class (field_shapes shapes class)) refl
      by _ (Leaves.slot t p is home) = same_below (with_new_slot s.memory t) (slots_new s.memory t).0
      by _ (Leaves.removes p is given) = removed_keeps p is given
      by _ (Leaves.gives y is given) = still s.memory refl
      by _ (Leaves.copies y is given) = still s.memory refl
      by _ (Leaves.retains y is given) = still s.memory refl
      by _ (Leaves.drops y is given) = still s.memory refl
      by _ (Leaves.loads o p y is done given held) =
          read_keeps (declarations_of m) shapes values o p (ap is_reading is) (ap is_at_one is) (ap is_at_place is) done given
      by _ (Leaves.names o p y is done given held live) =
          read_keeps (declarations_of m) shapes values o p (ap is_reading is) (ap is_at_one is) (ap is_at_place is) done given
      by _ (Leaves.names_none o p is done given) =
          read_keeps (declarations_of m) shapes values o p (ap is_reading is) (ap is_at_one is) (ap is_at_place is) done given
      by _ (Leaves.stores o y p is done given) = store_keeps (declarations_of m) shapes values o y p is done given
      by _ (Leaves.destroys o p is done given) =
          read_keeps (declarations_of m) shapes values o p (ap is_reading is) (ap is_at_one is) (ap is_at_place is) done given
      by _ (Leaves.groups vs is given) = still s.memory refl
      by _ (Leaves.chooses k y is given) = still s.memory refl
      by _ (Leaves.member k y z is given held) = still s.memory refl
      by _ (Leaves.members y ys is given held) = still s.memory refl
      by _ (Leaves.part k p q is given held) = still s.memory refl
      by _ (Leaves.field y o q is given held home) = still s.memory refl
