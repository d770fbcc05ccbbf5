-- Each row that finds what it needs goes along in the lowered run.
use Rattle.sil_ast.specs.declared.place.FuncId.{FuncId}
use Rattle.sil_types.specs.Typing.FormRules.{is_at_storage}
use Rattle.ownership_lowering_runs.specs.StoredRuns.inner.RowsRight.{AreRowsAlong, ArePartsFull, RowRight}
use Rattle.sil_ast.specs.declared.decl.Storage.TheVariants as storage
use Rattle.sil_verifier_runs.specs.holder_model.declared.trap.Trap.TheVariants as trap
use Rattle.sil_verifier_runs.specs.holder_model.MemoryEffects.{copies_with, takes, references_at, all_live, loaded_name, named_again}
use Rattle.sil_ast.specs.declared.decl.Storage.{Storage}
use Rattle.std.proofs.Common.{◌≡◌, ℕ, List, [], ◌∷◌, map, sym, ap, ◌∙◌, subst, Bool, true, false, cond, Option, Some, None, Ok, flat_map, option_to_list, ◌⊎◌, inl, inr}
use Rattle.std.specs.Prelude.{slice_get}
use Rattle.std.specs.List.{flat_map, list_any}
use Rattle.std.specs.Option.{option_to_list}
use Rattle.sil_ast.specs.declared.inst.Inst.{Inst}
use Rattle.sil_ast.specs.declared.place.ValueId.{ValueId}
use Rattle.sil_types_declarations.specs.TypeDefinitions.Declarations.{Declarations, declarations_of}
use Rattle.holder_model_values.specs.RunValues.Memory.{Memory, is_dead}
use Rattle.holder_model_values.specs.RunValues.Places.{Place, emptied, filled}
use Rattle.holder_model_values.specs.RunValues.Shapes.{storage_in}
use Rattle.holder_model_values.specs.RunValues.Values as value
use Rattle.holder_model_values.specs.RunValues.Values.{Value, references_of}
use Rattle.sil_verifier_runs.specs.holder_model.Data.{AddressOf, ValueOf}
use Rattle.sil_verifier_runs.specs.holder_model.Effects.{Change, Effect, Makes, gives_value, unchanged, Traps, SameSlots}
use Rattle.sil_verifier_runs.specs.holder_model.Faults.{HolderFault}
use Rattle.ownership_lowering_runs.proofs.StoredRuns.Lowered.SpareValues.{spare}
use Rattle.ownership_lowering_runs.specs.StoredRuns.inner.Spares.{AreSparesApart}
use Rattle.ownership_lowering_runs.specs.StoredRuns.inner.Frames.{HasFullParts, AreGivenPartsFull}
use Rattle.instruction_table.specs.declared.op.Op.TheVariants as op
use Rattle.numbered_form.specs.Lists.{Each}
use Rattle.sil_ast.specs.declared.function.Function.{Function}
use Rattle.sil_ast.specs.declared.inst.Qualifier.TheVariants as word
use Rattle.sil_ast.specs.declared.module.Module.{Module}
use Rattle.sil_ast.specs.declared.operands.Operand.{Operand}
use Rattle.sil_cfg.specs.declared.item.Item.TheVariants as item
use Rattle.sil_cfg_items.specs.Items.{item_defined}
use Rattle.sil_verifier_runs.specs.holder_model.Frames.{Entry, Frame, Operands, results_put}
use Rattle.sil_verifier_runs.specs.holder_model.HolderStates.{HolderState}
use Rattle.sil_verifier_runs.specs.holder_model.ModuleFacts.{facts_of}
use Rattle.sil_verifier_runs.specs.holder_model.Standing.{stands_at}
use Rattle.sil_verifier_runs.specs.holder_model.States.{Task}
use Rattle.memory_rules_accesses.specs.declared.access.Operation.{Operation}
use Rattle.sil_verifier_runs.specs.holder_model.LoweredRun.LowStepParts.{LowState}
use Rattle.ownership_lowering_laws.specs.ownership_lowering_model.LoweredInsts.{becomes_by, lowering_of, plain_store, stores_by, assigns, destroys_by}
use Rattle.ownership_lowering_laws.specs.ownership_lowering_model.NewInsts.{loaded_from, load, release}
use Rattle.ownership_lowering_laws.specs.ownership_lowering_model.declared.lowering.Lowering.TheVariants as lowering
use Rattle.sil_verifier_runs.specs.holder_model_laws.HolderLaws.inner.Steps.Ways as holder
use Rattle.ownership_lowering_runs.specs.StoredRuns.inner.PlaceRows.{GoesAlong, StandsAt, stored_for}
use Rattle.ownership_lowering_runs.proofs.StoredRuns.RowsBehind.{from, made}
use Rattle.ownership_lowering_runs.proofs.StoredRuns.StandsThere.{facts, one_place}
use Rattle.ownership_lowering_runs.proofs.StoredRuns.ValuesFor.{ok-ok}
use Rattle.ownership_lowering_runs.proofs.StoredRuns.LoadSteps.{load_along}
use Rattle.sil_verifier_runs.specs.holder_model.StepParts as parts
use Rattle.ownership_lowering_runs.proofs.StoredRuns.Along.StaysAlong.{stays_alone}
use Rattle.ownership_lowering_runs.proofs.StoredRuns.Along.NamesAlong.{exact_along, looks_along, member_along, name_along, slot_along, storage_along, stored_along}
use Rattle.ownership_lowering_runs.proofs.StoredRuns.DestroySteps.{destroy_along}
use Rattle.ownership_lowering_runs.proofs.StoredRuns.Along.NamedAlong.{copying_along, destroying_along, ending_along, renaming_along}
use Rattle.ownership_lowering_runs.proofs.StoredRuns.Along.PartedAlong.{parted_along, struct_extracts, tuple_extracts}
use Rattle.ownership_lowering_runs.proofs.StoredRuns.StoreSteps.{store_alone, store_assigned}

module _ (m : Module) (bound : ℕ) (s : HolderState) (l : LowState) (frame : Frame) (rest : List (Task Frame)) (f : Function) (i : Inst) (ops : Operands)
    (x : StandsAt m s l frame rest f i ops) (spares : AreSparesApart (declarations_of m) f) (entries : List Entry) where
  abbrev d : Declarations
  d = declarations_of m

  abbrev Goal : Change → List Place → Type 0
  Goal c slots =
      GoesAlong m bound l
      (holder.moved m (facts_of m) bound s rest (from m bound s l frame rest f i ops x) (item.Inst (stands_at f frame.trail)) c slots entries)
      (stored_for m s frame i ops.given c l.numbers)

  abbrev Put : Change → Type 0
  Put c = results_put (facts m s l frame rest f i ops x) (item_defined f (item.Inst (stands_at f frame.trail))) c.results ops.left ≡ Ok entries

  -- the slots stay
  with_low : (c : Change) (slots : List Place) → parts.slots_behind SameSlots frame.slots ≡ Ok slots → Goal c x.low.slots → Goal c slots
  with_low c slots e = subst (Goal c) (x.frames.slots ∙ ok-ok frame.slots slots e)

  with_same : (c : Change) (slots : List Place) → parts.slots_behind SameSlots frame.slots ≡ Ok slots → Goal c frame.slots → Goal c slots
  with_same c slots e = subst (Goal c) (ok-ok frame.slots slots e)

  stay_of : (memory : Memory) → ArePartsFull m s l frame f i ops memory → AreGivenPartsFull d f x.low.values memory × Each (HasFullParts m memory) x.lrest
  stay_of memory h =
      let all = subst (Each (HasFullParts m memory)) x.is_top h in
      (all.0 f (ap (λ (g : FuncId). slice_get m.functions g.0) x.frames.function ∙ x.there), all.1)

  -- the place under the operand's number is the same but for parts
  after_at : (o : Operand) (y : Place) (one : i.operands ≡ o ∷ []) (given : ops.given ≡ AddressOf y ∷ []) (done : Operation)
      → ArePartsFull m s l frame f i ops (cond (takes done) (emptied l.memory y) l.memory)
      → ArePartsFull m s l frame f i ops (cond (takes done) (emptied l.memory (one_place m s l frame rest f i ops x o y one given).place) l.memory)
  after_at o y one given done h =
      subst (λ (z : Place). ArePartsFull m s l frame f i ops (cond (takes done) (emptied l.memory z) l.memory)) (sym (one_place m s l frame rest f i ops x o y one given).same) h

  abbrev now : ValueId
  now = spare m bound s l frame rest f i ops x

  abbrev these : List Inst
  these = made m bound s l frame rest f i ops x

  store_made : i.op ≡ op.Store → these ≡ stores_by d now i.qualifier i
  store_made is_op = ap (λ z. becomes_by d now z i) (ap lowering_of is_op)

  fills_made : i.op ≡ op.Store → (i.qualifier ≡ word.Init) ⊎ (i.qualifier ≡ word.Trivial) → these ≡ plain_store i ∷ []
  fills_made is_op (inl q) = store_made is_op ∙ ap (λ c. stores_by d now c i) q
  fills_made is_op (inr q) = store_made is_op ∙ ap (λ c. stores_by d now c i) q

  assigns_made : (a b : Operand) → i.operands ≡ a ∷ b ∷ [] → i.op ≡ op.Store → i.qualifier ≡ word.Assign → these ≡ load b now ∷ plain_store i ∷ release d (loaded_from b now) ∷ []
  assigns_made a b both is_op q =
      store_made is_op ∙ ap (λ c. stores_by d now c i) q ∙ ap (λ os. flat_map (assigns d now i) (option_to_list (slice_get os 1))) both

  storage_made : lowering_of i.op ≡ lowering.Destroys → is_at_storage i ≡ true → these ≡ i ∷ []
  storage_made destroys storage_there = ap (λ z. becomes_by d now z i) destroys ∙ ap (λ c. destroys_by d now c i) storage_there

  row_along : (c : Change) (slots : List Place) → RowRight m s l frame f i ops c → list_any (is_dead s.memory) c.retained ≡ false
      → parts.slots_behind c.slots frame.slots ≡ Ok slots → Put c → Goal c slots
  row_along _ slots (RowRight.plain c is stays keeps plain none) alive left put =
      exact_along m bound s l frame rest f i ops x (stays_alone m bound s l frame rest f i ops x stays) keeps plain none c is alive slots left entries put
  row_along _ slots (RowRight.looks c is stays keeps row_is) alive left put =
      looks_along m bound s l frame rest f i ops x (stays_alone m bound s l frame rest f i ops x stays) keeps row_is c is alive slots left entries put
  row_along _ slots (RowRight.member c o y is stays keeps row_is one given) alive left put =
      member_along m bound s l frame rest f i ops x (stays_alone m bound s l frame rest f i ops x stays) keeps o y one given row_is c is alive slots left entries put
  row_along _ slots (RowRight.ends row_is gone none) alive left put =
      with_low (unchanged s.memory) slots left (ending_along m bound s l frame rest f i ops x row_is gone none entries put)
  row_along _ slots (RowRight.renaming o w r row_is gone renamed one given result) alive left put =
      with_low (record (unchanged s.memory) { results = ValueOf w ∷ [] }) slots left (renaming_along m bound s l frame rest f i ops x o w one given row_is gone r result renamed entries put)
  row_along _ slots (RowRight.copies o w r row_is kept renamed one given result) alive left put =
      with_low (record (unchanged s.memory) {
        results = ValueOf w ∷ [];
        retained = references_of w;
      }) slots left (copying_along m bound s l frame rest f i ops x o w one given row_is kept r result renamed alive entries put)
  row_along _ slots (RowRight.drops o w row_is released one given none) alive left put =
      with_low (record (unchanged s.memory) { dropped = references_of w }) slots left (destroying_along m bound s l frame rest f i ops x o w one given row_is released none entries put)
  row_along _ slots (RowRight.loads o y r done z row_is loads keeps at result held may) alive left put =
      with_low (record (unchanged (cond (takes done) (emptied s.memory y) s.memory)) { results = ValueOf z ∷ []; retained = cond (copies_with i.qualifier) (references_of z) [] }) slots left
      (load_along m bound s l frame rest f i ops x o y r at.one at.given result row_is loads keeps done z at.there held may entries put alive)
  row_along _ slots (RowRight.fills a b w y st q empty) alive left put =
      with_low (record (unchanged (filled s.memory y w)) { dropped = references_at s.memory y }) slots left
      (store_alone m bound s l frame rest f i ops x a b w y st.at.both st.at.given st.none st.is_op st.bare st.at.there st.part st.new st.old entries put (fills_made st.is_op q) empty)
  row_along _ slots (RowRight.assigns a b w y z st q h) alive left put =
      with_low (record (unchanged (filled s.memory y w)) { dropped = references_at s.memory y }) slots left
      (store_assigned m bound s l frame rest f i ops x a b w y st.at.both st.at.given st.none st.is_op st.bare st.at.there st.part st.new st.old entries put spares z h.held h.references
      (assigns_made a b st.at.both st.is_op q))
  row_along _ slots (RowRight.destroys o y z row_is destroys keeps no_storage none at h) alive left put =
      with_low (record (unchanged (emptied s.memory y)) { dropped = references_at s.memory y }) slots left
      (destroy_along m bound s l frame rest f i ops x o y at.one at.given none row_is destroys keeps no_storage at.there z h.held h.references h.strong spares entries put)
  row_along _ slots (RowRight.names c o y done z row_is stays keeps at is_done held e stay) alive left put =
      let alone = stays_alone m bound s l frame rest f i ops x stays in
      with_same c slots (same_of c (storage_in y.shape) z (cond (takes done) (emptied s.memory y) s.memory) e ∙ left)
      (name_along m bound s l frame rest f i ops x alone keeps o y at.one at.given done is_done at.there row_is z held
      (stay_of _ (after_at o y at.one at.given done stay)) c e entries put)
    where
      made_slots : (a c : Change) → ◌≡◌ {A = Effect HolderFault} (Makes a) (Makes c) → a.slots ≡ c.slots
      made_slots a c g = cc

      same_of : (c : Change) (how : Option Storage) (z : Value) (behind : Memory) → ◌≡◌ {A = Effect HolderFault} (loaded_name how s.memory behind z) (Makes c)
          → parts.slots_behind SameSlots frame.slots ≡ parts.slots_behind c.slots frame.slots
      same_of c None z behind g = absurd (cc)
      same_of c (Some storage.Strong) z behind g = absurd (cc)
      same_of c (Some storage.Weak) z behind g = by (all_live s.memory (references_of z)) g
        where
          by : (b : Bool) → ◌≡◌ {A = Effect HolderFault} (cond b (named_again behind z) (gives_value behind (value.Case 0))) (Makes c)
              → parts.slots_behind SameSlots frame.slots ≡ parts.slots_behind c.slots frame.slots
          by true h = ap (λ k. parts.slots_behind k frame.slots) (made_slots _ c h)
          by false h = ap (λ k. parts.slots_behind k frame.slots) (made_slots _ c h)
      same_of c (Some storage.Unowned) z behind g = by (all_live s.memory (references_of z)) g
        where
          by : (b : Bool) → ◌≡◌ {A = Effect HolderFault} (cond b (named_again behind z) (Traps trap.Unowned)) (Makes c)
              → parts.slots_behind SameSlots frame.slots ≡ parts.slots_behind c.slots frame.slots
          by true h = ap (λ k. parts.slots_behind k frame.slots) (made_slots _ c h)
          by false h = absurd (cc)
  row_along _ slots (RowRight.stores_name a b w y done row_is stays keeps st is_done storage_there held empty) alive left put =
      with_same (record (unchanged (filled s.memory y w)) { dropped = references_at s.memory y }) slots left
      (stored_along m bound s l frame rest f i ops x (stays_alone m bound s l frame rest f i ops x stays) keeps a b w y st.both st.given row_is done is_done st.there storage_there held empty
      entries put)
  row_along _ slots (RowRight.destroys_storage o y done z row_is destroys keeps storage_there at is_done held empty stay) alive left put =
      with_same (record (unchanged (cond (takes done) (emptied s.memory y) s.memory)) { dropped = references_at s.memory y }) slots left
      (storage_along m bound s l frame rest f i ops x (storage_made destroys storage_there) keeps o y at.one at.given done is_done at.there row_is z held empty
      (stay_of _ (after_at o y at.one at.given done stay)) entries put)
  row_along _ slots (RowRight.removes o y row_is stays keeps at own_slot stay) alive left put =
      slot_along m bound s l frame rest f i ops x (stays_alone m bound s l frame rest f i ops x stays) keeps o y at.one at.given row_is own_slot at.there (stay_of _ stay) slots left entries put
  row_along _ slots (RowRight.struct_apart o w ys row_is keeps t extracts long places) alive left put =
      with_low (record (unchanged s.memory) { results = map ValueOf ys }) slots left
      (parted_along m bound s l frame rest f i ops x o w t.one t.given row_is keeps ys
      (struct_extracts m bound s l frame rest f i ops x o w t.one t.given row_is keeps ys t.members extracts long (t.as_many ∙ long) places) t.others entries put)
  row_along _ slots (RowRight.tuple_apart o w ys row_is keeps t extracts) alive left put =
      with_low (record (unchanged s.memory) { results = map ValueOf ys }) slots left
      (parted_along m bound s l frame rest f i ops x o w t.one t.given row_is keeps ys
      (tuple_extracts m bound s l frame rest f i ops x o w t.one t.given row_is keeps ys t.members extracts t.as_many) t.others entries put)

pub are_rows_along : AreRowsAlong
are_rows_along m bound s l frame rest f i ops c slots entries x spares right alive left put =
    row_along m bound s l frame rest f i ops x spares entries c slots right alive left put
