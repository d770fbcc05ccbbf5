-- Behind an instruction stored numbers are counts.
use Rattle.std.proofs.Common.{◌≡◌, ℕ, ◌<◌, List, [], ◌∷◌, length, map, sym, ◌∙◌, subst, Bool, true, false, cond, Option, Some, Ok}
use Rattle.std.specs.Prelude.{slice_get}
use Rattle.std.proofs.lemmas.Option.{same_Some}
use Rattle.numbered_form.specs.Lists.{Each}
use Rattle.sil_ast.specs.declared.function.Function.{Function}
use Rattle.sil_ast.specs.declared.inst.Inst.{Inst}
use Rattle.sil_ast.specs.declared.module.Module.{Module}
use Rattle.sil_ast.specs.declared.place.PointId.{PointId}
use Rattle.sil_ast.specs.declared.place.ValueId.{ValueId}
use Rattle.sil_cfg.specs.declared.item.Item.{Item}
use Rattle.sil_cfg.specs.declared.item.Item.TheVariants as item
use Rattle.sil_cfg_items.specs.Items.{item_defined, item_taken}
use Rattle.ownership_kinds_chains.specs.declared.ownership_chains.facts.Facts.{Facts}
use Rattle.sil_types_declarations.specs.TypeDefinitions.Declarations.{Declarations, declarations_of}
use Rattle.holder_model_values.specs.RunValues.Memory.{Memory}
use Rattle.holder_model_values.specs.RunValues.Places.{Place, value_at}
use Rattle.holder_model_values.specs.RunValues.Shapes.{Shape}
use Rattle.holder_model_values.specs.RunValues.Values.{Value, references_of}
use Rattle.sil_verifier_runs.specs.ownership_kinds_origins.Facts.{facts_in}
use Rattle.sil_verifier_runs.specs.holder_model.RunTyping.CallForms.{IsOf}
use Rattle.sil_verifier_runs.specs.holder_model.RunTyping.EndForms.{value_in}
use Rattle.sil_verifier_runs.specs.holder_model.RunTyping.Forms.{Form, forms_of}
use Rattle.sil_verifier_runs.proofs.sil_verifier_values.Facts.{run_facts}
use Rattle.sil_verifier_runs.specs.holder_model.Data.{AddressOf, Datum, references_in}
use Rattle.sil_verifier_runs.specs.holder_model.Effects.{Change}
use Rattle.sil_verifier_runs.specs.holder_model.Frames.{Entry, Frame, Operands, operands_of, results_put}
use Rattle.sil_verifier_runs.specs.holder_model.HolderStates.{HolderState}
use Rattle.sil_verifier_runs.specs.holder_model.Holders.{one_object}
use Rattle.sil_verifier_runs.specs.holder_model.MemoryEffects.{copies_with}
use Rattle.sil_verifier_runs.specs.holder_model.ModuleFacts.{facts_of, facts_told}
use Rattle.sil_verifier_runs.specs.holder_model.ModuleShapes.{ModuleShapes, shapes_in, shapes_of}
use Rattle.sil_verifier_runs.specs.holder_model.Outcomes.{Numbers}
use Rattle.sil_verifier_runs.specs.holder_model.Standing.{stands_at}
use Rattle.sil_verifier_runs.specs.holder_model.States.{Runs, Task}
use Rattle.sil_verifier_runs.specs.holder_model_laws.HolderLaws.inner.Counts.Doing as doing
use Rattle.sil_verifier_runs.specs.holder_model_laws.HolderLaws.inner.Counts.Doing.{Leaves}
use Rattle.sil_verifier_runs.specs.holder_model_laws.HolderLaws.inner.Counts.Taking.{IsBelow}
use Rattle.sil_verifier_runs.proofs.holder_model_laws.HolderLaws.Counts.Changes.{changes_told}
use Rattle.sil_verifier_runs.specs.holder_model_laws.StoredCounts.inner.Numbers.{AreCounts, IsStoredOf}
use Rattle.sil_verifier_runs.specs.holder_model_laws.StoredCounts.inner.Rows.{IsRowCounted}
use Rattle.sil_verifier_runs.proofs.holder_model_laws.StoredCounts.Items.{items_stored}
use Rattle.sil_verifier_runs.proofs.holder_model_laws.StoredCounts.RowBalance.{rows_counted}
use Rattle.ownership_lowering_laws.specs.holder_model_typing.TypedMemory.inner.Worlds.{IsWorldOf, MemoryIs, World}
use Rattle.ownership_lowering_laws.proofs.holder_model_typing.TypedMemory.Homes.{place_read}
use Rattle.ownership_lowering_laws.proofs.holder_model_typing.TypedMemory.Referring.{WasMade, data_made, references_made}
use Rattle.sil_verifier_runs.specs.sil_verifier_frames.inner.Typed.TypedStates.{FrameIs, IsTypedState, TasksAre}
use Rattle.sil_verifier_runs.proofs.sil_verifier_frames.Typed.Data.{DataAre}
use Rattle.sil_verifier_runs.proofs.sil_verifier_frames.Typed.Entries.{left_typed}
use Rattle.sil_verifier_runs.proofs.sil_verifier_frames.Typed.GoesOn.{accepted_body, typed_module}
use Rattle.sil_verifier_runs.proofs.sil_verifier_frames.Typed.Operands.{operands_read}
use Rattle.ownership_lowering_runs.specs.OwnedCounts.inner.CountedInsts.{AreInstsCounted, MakesChange}
use Rattle.ownership_lowering_runs.specs.OwnedCounts.inner.OwnedRows.{IsDone}
use Rattle.ownership_lowering_runs.proofs.OwnedCounts.OwnedInsts as inst
use Rattle.ownership_lowering_runs.proofs.OwnedCounts.OwnedInsts.{each_weaker}
use Rattle.ownership_lowering_runs.proofs.OwnedCounts.RowsOwned.{one_place, rows_owned}
use Rattle.ownership_lowering_runs.proofs.OwnedCounts.TypedPlaces.{all_stored}
use Rattle.ownership_lowering_runs.proofs.OwnedCounts.Words.{its_words}

-- ---- what is retained was made

module _ (m : Module) (w : World) (memory : Memory) (typed : MemoryIs m w memory) where
  one_made : (forms : List Form) (xs : List Datum) (x : Datum) → DataAre m w forms xs → xs ≡ x ∷ [] → Each (WasMade w) (references_in x)
  one_made _ _ x DataAre.none e = cc
  one_made _ _ x (DataAre.more form y _ _ is rest) e = let same : y ≡ x = cc in subst (λ z. Each (WasMade w) (references_in z)) same (data_made m w form y is)

  retained_made : (d : Declarations) (shapes : ModuleShapes) (values : List Shape) (i : Inst) (forms : List Form) (xs : List Datum) (c : Change) → DataAre m w forms xs
      → Leaves d shapes values memory i xs c → ((x : Value) (p : Place) → xs ≡ AddressOf p ∷ [] → value_at memory p ≡ Some x → Each (WasMade w) (references_of x))
      → Each (WasMade w) c.retained
  retained_made d shapes values i forms xs _ are doing.nothing read = tt
  retained_made d shapes values i forms xs _ are (doing.bare x e) read = tt
  retained_made d shapes values i forms xs _ are (doing.object class is) read = tt
  retained_made d shapes values i forms xs _ are (doing.slot s p is home) read = tt
  retained_made d shapes values i forms xs _ are (doing.removes p is given) read = tt
  retained_made d shapes values i forms xs _ are (doing.gives x is given) read = tt
  retained_made d shapes values i forms xs _ are (doing.copies x is given) read = one_made forms xs x are given
  retained_made d shapes values i forms xs _ are (doing.retains x is given) read = one_made forms xs x are given
  retained_made d shapes values i forms xs _ are (doing.drops x is given) read = tt
  retained_made d shapes values i forms xs _ are (doing.loads o p x is done given at) read = by (copies_with i.qualifier)
    where
      by : (b : Bool) → Each (WasMade w) (cond b (references_of x) [])
      by true = read x p given at
      by false = tt
  retained_made d shapes values i forms xs _ are (doing.names o p x is done given at live) read = read x p given at
  retained_made d shapes values i forms xs _ are (doing.names_none o p is done given) read = tt
  retained_made d shapes values i forms xs _ are (doing.stores o x p is done given) read = tt
  retained_made d shapes values i forms xs _ are (doing.destroys o p is done given) read = tt
  retained_made d shapes values i forms xs _ are (doing.groups vs is found) read = tt
  retained_made d shapes values i forms xs _ are (doing.chooses k x is given) read = tt
  retained_made d shapes values i forms xs _ are (doing.member k x y is given at) read = tt
  retained_made d shapes values i forms xs _ are (doing.members x ys is given found) read = tt
  retained_made d shapes values i forms xs _ are (doing.part k p q is given at) read = tt
  retained_made d shapes values i forms xs _ are (doing.field x o q is given is_o home) read = tt

-- ---- the first frame of a typed state

pub record FirstFrame (m : Module) (s : HolderState) (frame : Frame) (f : Function) : Type 0 where
  pub w : World
  pub of : IsWorldOf m w
  pub typed : MemoryIs m w s.memory
  pub frame_is : FrameIs m w f frame

pub first_frame : (m : Module) (s : HolderState) (frame : Frame) (rest : List (Task Frame)) (f : Function) → IsTypedState m s → s.tasks ≡ Runs frame ∷ rest
    → slice_get m.functions frame.function.0 ≡ Some f → FirstFrame m s frame f
first_frame m s frame rest f typed at there =
    let going = subst (TasksAre m typed.world) at typed.tasks in
    let is = going.0.1 in
    record { w = typed.world; of = typed.of; typed = typed.memory; frame_is = subst (λ g. FrameIs m typed.world g frame) (same_Some going.0.0 f (sym is.is ∙ there)) is }

module _ (m : Module) (bound : ℕ) (s : HolderState) (rest : List (Task Frame)) (frame : Frame) (f : Function) (i : Inst) (ops : Operands) (c : Change)
    (entries : List Entry) (stored : List Numbers) (h : MakesChange m bound s rest frame f i ops c entries) (counts : AreCounts s stored) where
  abbrev d : Declarations
  d = declarations_of m

  abbrev p : PointId
  p = stands_at f frame.trail

  abbrev it : Item
  it = item.Inst p

  abbrev values : List Shape
  values = shapes_in (shapes_of m) frame.function

  abbrev told : ValueId → Option Facts
  told = facts_told (facts_of m) frame.function

  first : FirstFrame m s frame f
  first = first_frame m s frame rest f h.typed h.at h.there

  same_facts : told ≡ facts_in d f
  same_facts = run_facts m frame.function f h.there

  done : IsDone m frame.function f first.w s.memory frame.entries p i ops c
  done = record {
    accepted = accepted_body m h.verified frame.function f h.there first.frame_is.bodied;
    of = first.of;
    typed = first.typed;
    entries_are = first.frame_is.entries;
    here = h.here;
    found = subst (λ facts. operands_of facts s.memory frame.entries (item_taken f it) ≡ Ok ops) same_facts h.taken;
    makes = h.makes;
    behind = entries;
    put = subst (λ facts. results_put facts (item_defined f it) c.results ops.left ≡ Ok entries) same_facts h.put;
  }

  row_counted : IsRowCounted told frame.entries (item_taken f it) (item_defined f it) d (shapes_of m) values s.memory i ops.given stored c
  row_counted =
      subst (λ facts. IsRowCounted facts frame.entries (item_taken f it) (item_defined f it) d (shapes_of m) values s.memory i ops.given stored c) (sym same_facts)
      (rows_counted (facts_in d f) frame.entries (item_taken f it) (item_defined f it) d (shapes_of m) values s.memory i ops.given stored c h.makes
      (rows_owned m frame.function f first.w s.memory frame.entries p i ops c stored done
      (its_words m frame.function f first.w s.memory frame.entries p i ops c done) counts.size))

  operands_are : DataAre m first.w (forms_of d f (map value_in i.operands)) ops.given
  operands_are = inst.operands_typed m frame.function f first.w s.memory frame.entries p i ops c done

  retained : Each (IsStoredOf stored) c.retained
  retained =
      all_stored m first.w s.memory first.typed stored counts.size c.retained
      (retained_made m first.w s.memory first.typed d (shapes_of m) values i (forms_of d f (map value_in i.operands)) ops.given c operands_are
      (changes_told d (shapes_of m) values s.memory i ops.given c h.makes)
      (λ x q given at. references_made m first.w q.shape x
      (place_read m first.w s.memory first.typed q x (one_place m first.w (forms_of d f (map value_in i.operands)) ops.given q operands_are given) at)))

  below : Each (IsBelow (length ops.left)) (item_defined f it)
  below =
      let left = left_typed m first.w f (facts_in d f) (item_taken f it) frame.entries ops.left first.frame_is.entries
      (operands_read (facts_in d f) s.memory (item_taken f it) frame.entries ops done.found).left in
      each_weaker (IsOf f) (IsBelow (length ops.left)) (λ v of. subst (λ n. v.0 < n) (sym left.size) of) (item_defined f it)
      (((typed_module m h.verified).functions frame.function.0 f h.there).items it).defined

pub insts_counted : AreInstsCounted
insts_counted m bound s rest frame f i ops c slots entries stored h counts =
    let row = row_counted m bound s rest frame f i ops c entries stored h counts in
    items_stored m (facts_of m) bound s rest frame f (item.Inst (stands_at f frame.trail)) ops c row.made slots entries stored _ (record {
      at = h.at;
      taken = h.taken;
      put = h.put;
      each = below m bound s rest frame f i ops c entries stored h counts;
      balanced = λ o. record { balance = row.balance (one_object o) };
      are_made = row.are_made;
      retained = retained m bound s rest frame f i ops c entries stored h counts;
      named = row.named;
    }) counts
