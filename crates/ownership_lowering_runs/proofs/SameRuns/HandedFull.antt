-- A part that a call hands over is full: what is a part at its location is handed over where it stays full.
use Rattle.std.proofs.Common.{◌≡◌, ⊎_elim, ℕ, zero, suc, List, [], ◌∷◌, inl, drop, Bool, true, false, Option, Some, None, refl, sym, ap, ap₂, ◌∙◌, subst}
use Rattle.std.specs.Prelude.{is_some, slice_get}
use Rattle.std.specs.List.{AllZip}
use Rattle.std.proofs.lemmas.Bool.{and_parts, false≢true, true≢false}
use Rattle.std.proofs.lemmas.Option.{same_Some}
use Rattle.argument_conventions.specs.Arguments.{Told, arguments_of}
use Rattle.argument_conventions.specs.Rows.{address_row, keeps_full_by}
use Rattle.argument_conventions.specs.declared.row.AddressRow.{AddressRow}
use Rattle.argument_conventions.specs.declared.row.Content.{Content}
use Rattle.argument_conventions.specs.declared.row.Content.TheVariants as content
use Rattle.sil_cfg_items.specs.Items.{item_defined, item_taken}
use Rattle.sil_cfg_items.specs.declared.taken.Taken.{Taken}
use Rattle.numbered_form.specs.Lists.{Each}
use Rattle.sil_verifier_runs.proofs.sil_verifier_frames.Placed.CallsPlaced as placed
use Rattle.sil_verifier_runs.proofs.sil_verifier_frames.Placed.CallsPlaced.{CallsBody}
use Rattle.sil_verifier_runs.proofs.sil_verifier_frames.Placed.FirstFrames.{IsFirst, body}
use Rattle.sil_verifier_runs.proofs.sil_verifier_frames.Placed.Keeping.{slot_no_part}
use Rattle.sil_verifier_runs.proofs.sil_verifier_frames.Placed.Lending.{lent_by_one, part_full}
use Rattle.sil_verifier_runs.proofs.sil_verifier_frames.Placed.Reading.{operand_within}
use Rattle.sil_verifier_runs.proofs.sil_verifier_frames.Placed.TrailsSo.{trail_laws}
use Rattle.sil_verifier_runs.proofs.sil_verifier_frames.Placed.TypingSo.{typing_laws}
use Rattle.sil_verifier_runs.proofs.sil_verifier_trails.PlacedValues.ArgumentsTold.{entry_source}
use Rattle.memory_rules_accesses.specs.Operations.{operations_of}
use Rattle.memory_rules_accesses.specs.Rows.{is_part}
use Rattle.memory_rules_accesses.specs.Sources.{argument_source_or, handed_source, source_at, sources_of}
use Rattle.memory_rules_accesses.specs.declared.source.Source.{Source}
use Rattle.memory_rules_accesses.specs.declared.source.Source.TheVariants as source
use Rattle.sil_verifier_runs.specs.sil_verifier_trails.AcceptedPlaces.inner.Stacks.{slots_on}
use Rattle.sil_verifier_runs.specs.sil_verifier_frames.inner.Placed.FramePlaces.{HoldsPlaces, Names}
use Rattle.sil_verifier_runs.specs.sil_verifier_frames.inner.Placed.PlaceStates.{TasksPlaced}
use Rattle.sil_verifier_runs.specs.sil_verifier_frames.inner.Placed.Premises.{HandsOver, ReadsOperands}
use Rattle.sil_verifier_runs.specs.sil_verifier_frames.inner.Placed.Roots.{IsThere}
use Rattle.sil_verifier_runs.specs.sil_verifier_frames.inner.Placed.TakenPlaces.{AreAlike}
use Rattle.numbered_form.proofs.PointChecks.Among.{Among, among_left, among_right}
use Rattle.holder_model_values.specs.RunValues.Memory.{Memory}
use Rattle.holder_model_values.specs.RunValues.Places.{Place, is_there_at, value_at}
use Rattle.sil_ast.specs.declared.function.Function.{Function}
use Rattle.sil_ast.specs.declared.module.Module.{Module}
use Rattle.sil_ast.specs.declared.place.FuncId.{FuncId}
use Rattle.sil_ast.specs.declared.place.ValueId.{ValueId}
use Rattle.sil_cfg.specs.declared.item.Item.TheVariants as item
use Rattle.sil_types_declarations.specs.TypeDefinitions.Declarations.{Declarations, declarations_of}
use Rattle.sil_verifier_runs.proofs.sil_verifier_trails.AcceptedTrails.Tests.{each_among}
use Rattle.sil_verifier_runs.proofs.sil_verifier_trails.RunTrails.WalkEdges.{are_next}
use Rattle.sil_verifier_runs.specs.sil_verifier_trails.AcceptedTrails.inner.Defined.{makes}
use Rattle.sil_verifier_runs.specs.sil_verifier_accepted.AcceptedModules.inner.Checked.{IsVerified}
use Rattle.sil_verifier_runs.specs.sil_verifier_values.inner.Known.{IsAcceptedBody}
use Rattle.sil_verifier_runs.specs.inner.RightStates.{IsRightState}
use Rattle.sil_verifier_runs.specs.holder_model.Calling.{are_as_before, is_as_before, lent_by, lent_places, lent_with}
use Rattle.sil_verifier_runs.specs.holder_model.Data.{Datum, as_place}
use Rattle.sil_verifier_runs.specs.holder_model.Effects as effects
use Rattle.sil_verifier_runs.specs.holder_model.Frames.{Frame, LentPlace, has_any}
use Rattle.sil_verifier_runs.specs.holder_model.HolderStates.{HolderState}
use Rattle.sil_verifier_runs.specs.holder_model.MemoryEffects.{holds}
use Rattle.sil_verifier_runs.specs.holder_model.ModuleFacts.{facts_of, facts_told}
use Rattle.sil_verifier_runs.specs.holder_model.ModuleShapes.{shapes_in, shapes_of}
use Rattle.sil_verifier_runs.specs.holder_model.Standing.{stands_at}
use Rattle.sil_verifier_runs.specs.holder_model.States.{Runs, Task}
use Rattle.sil_verifier_runs.specs.sil_verifier_frames.inner.Typed.TypedStates.{FrameIs, TasksAre}
use Rattle.sil_verifier_runs.proofs.sil_verifier_frames.Typed.GoesOn.{accepted_body}
use Rattle.ownership_lowering_runs.specs.StoredRuns.inner.CallsAlong.{lent_in}
use Rattle.ownership_lowering_runs.specs.StoredRuns.inner.Entering.{IsAddressFor, IsFullPart}
use Rattle.ownership_lowering_runs.specs.SameRuns.inner.InRightStates.{ArePartsHandedFull, AtInst, effect_there}
use Rattle.ownership_lowering_runs.proofs.SameRuns.GivenParts.{given_source}

-- ---- places that are lent

-- a part that is lent is full
abbrev IsFullLent : Memory → LentPlace → Type 0
IsFullLent memory l = l.place.is_part ≡ true → is_some (value_at memory l.place) ≡ true

lent_before : (memory : Memory) (ls : List LentPlace) → are_as_before memory ls ≡ true → (l : LentPlace) → Among l ls → is_as_before memory l ≡ true
lent_before memory [] e l c = absurd c
lent_before memory (k ∷ ls) e l c =
    let parts = and_parts (is_as_before memory k) (are_as_before memory ls) e in
    ⊎_elim (λ (here : l ≡ k). ap (is_as_before memory) here ∙ parts.0) (λ (more : Among l ls). lent_before memory ls parts.1 l more) c

-- what stays full is asked to be so
asked_full : (before after : Content) → keeps_full_by before after ≡ true → before ≡ content.Full
asked_full content.Empty after e = absurd (false≢true e)
asked_full content.Full after e = refl

-- the place of a root is a whole one
pub root_whole : (m : Module) (memory : Memory) (f : Function) (frame : Frame) (rest : List (Task Frame)) → HoldsPlaces m memory f frame rest → (v : ValueId)
    → IsThere (declarations_of m) f frame.trail v → (p : Place) → Names frame.entries v p → p.is_part ≡ false
root_whole m memory f frame rest h v (IsThere.slot trivial src on) p names = slot_no_part frame.entries (slots_on (declarations_of m) f frame.trail) frame.slots v h.slots on p names
root_whole m memory f frame rest h v (IsThere.argument row trivial src) p names = h.handed v row trivial src p names

module _ (m : Module) (bound : ℕ) (s : HolderState) (verified : IsVerified m) (right : IsRightState m s) (x : AtInst m s) (g : FuncId) (callee : Function)
    (args : List Datum) (calls : effect_there m bound s x ≡ effects.Calls g args) (there : slice_get m.functions g.0 ≡ Some callee)
    (bodied : has_any callee.blocks ≡ true) where
  are_typed : TasksAre m right.typed.world (Runs x.frame ∷ x.rest)
  are_typed = subst (TasksAre m right.typed.world) x.is right.typed.tasks

  are_placed : TasksPlaced m s.memory (Runs x.frame ∷ x.rest)
  are_placed = subst (TasksPlaced m s.memory) x.is right.placed

  first : IsFirst m right.typed.world s.memory x.frame x.rest x.f
  first = record {
    typed = subst (λ h. FrameIs m right.typed.world h x.frame) (same_Some are_typed.0.0 x.f (sym are_typed.0.1.is ∙ x.there)) are_typed.0.1;
    holds = subst (λ h. HoldsPlaces m s.memory h x.frame x.rest) (same_Some are_placed.0.f x.f (sym are_placed.0.is ∙ x.there)) are_placed.0.holds;
    none_lent = are_placed.0.none_lent;
    below = are_placed.1;
  }

  accepted : IsAcceptedBody m x.frame.function.0 x.f
  accepted = body trail_laws typing_laws m verified right.typed.world s.memory x.frame x.rest x.f first

  reads : ReadsOperands m x.frame.function.0 x.f right.typed.world (facts_told (facts_of m) x.frame.function) s.memory x.frame.entries
      (item.Inst (stands_at x.f x.frame.trail)) x.ops
  reads = record { body = accepted; typed = first.typed.entries; read = x.found }

  abbrev Called : Type 0
  Called = CallsBody trail_laws typing_laws m verified right.typed.world s.memory x.frame x.rest x.f first (facts_told (facts_of m) x.frame.function) x.i x.ops
      (shapes_of m) (shapes_in (shapes_of m) x.frame.function) g args callee

  called : Called
  called = record {
    reads = reads;
    here = x.here;
    trail = (are_next x.f x.frame.trail (item.Inst (stands_at x.f x.frame.trail)) first.typed.goes (refl, x.i, x.here), first.typed.trail);
    is = calls;
    there = there;
    bodied = bodied;
  }

  over : HandsOver x.f (stands_at x.f x.frame.trail) x.i x.ops.left args callee
  over = typing_laws.calls m x.frame.function.0 x.f right.typed.world (facts_told (facts_of m) x.frame.function) s.memory x.frame.entries (stands_at x.f x.frame.trail)
      x.ops reads x.i x.here (shapes_of m) (shapes_in (shapes_of m) x.frame.function) g args callee calls there

  abbrev left : Frame
  left = record x.frame { entries = x.ops.left }

  pub lent_full : are_as_before s.memory (lent_in x.f x.frame args) ≡ true → (l : LentPlace) → Among l (lent_in x.f x.frame args) → IsFullLent s.memory l
  lent_full before l c part =
      let the_call = placed.call trail_laws typing_laws m verified right.typed.world s.memory x.frame x.rest x.f first (facts_told (facts_of m) x.frame.function) x.i x.ops
      (shapes_of m) (shapes_in (shapes_of m) x.frame.function) g args callee called in
      let now = placed.now trail_laws typing_laws m verified right.typed.world s.memory x.frame x.rest x.f first (facts_told (facts_of m) x.frame.function) x.i x.ops
      (shapes_of m) (shapes_in (shapes_of m) x.frame.function) g args callee called in
      let own = placed.accepted trail_laws typing_laws m verified right.typed.world s.memory x.frame x.rest x.f first (facts_told (facts_of m) x.frame.function) x.i x.ops
      (shapes_of m) (shapes_in (shapes_of m) x.frame.function) g args callee called in
      let o = lent_by_one x.ops.left (operations_of x.i) (lent_in x.f x.frame args) over.lent l c in
      let at = the_call.located o.by o.among in
      let w = operand_within m s.memory x.f left x.rest now.holds o.by.address at.location at.is at.there at.made l.place o.names in
      let inner : is_part at.location ≡ true = ⊎_elim
      (λ (whole : (is_part at.location ≡ false) × (l.place ≡ w.whole)).
      absurd (true≢false (sym part ∙ ap (λ (p : Place). p.is_part) whole.1 ∙ root_whole m s.memory x.f left x.rest now.holds at.location.root at.there w.whole w.names)))
      (λ (inner : (is_part at.location ≡ true) × (l.place.is_part ≡ true)). inner.0)
      w.how in
      let keeps = part_full trail_laws m x.frame.function.0 x.f own x.frame.trail (stands_at x.f x.frame.trail) x.i the_call o.by o.among l.row o.operation inner in
      let parts = and_parts (is_there_at s.memory l.place) (holds s.memory l.row.before l.place) (lent_before s.memory (lent_in x.f x.frame args) before l c) in
      ap (λ b. holds s.memory b l.place) (sym (asked_full l.row.before l.row.after keeps)) ∙ parts.1

-- ---- arguments

-- an argument that is an address is handed over by its row
row_told : (d : Declarations) (a : Told) (row : AddressRow) (trivial : Bool) → argument_source_or d (Some a) ≡ source.Argument row trivial
    → address_row a.convention ≡ Some row
row_told d a row trivial e = by _ (address_row a.convention) e
  where
    by : (b : Bool) (r : Option AddressRow) → handed_source b r ≡ source.Argument row trivial → r ≡ Some row
    by b None e = absurd (cc)
    by b (Some r) e = let same : r ≡ row = cc in ap Some same

module _ (m : Module) (n : ℕ) (callee : Function) (a : IsAcceptedBody m n callee) (memory : Memory) where
  abbrev sources : List Source
  sources = sources_of (declarations_of m) callee

  one_full : (v : ValueId) (told : Told) (t : Taken) (y : Datum) → makes callee v item.Entry ≡ true → source_at sources v ≡ argument_source_or (declarations_of m) (Some told)
      → IsAddressFor (declarations_of m) callee v y → t.handed ≡ address_row told.convention
      → ((l : LentPlace) → Among l (lent_with t.handed (as_place y)) → IsFullLent memory l) → IsFullPart memory y
  one_full v told t y made src address alike lent p is part =
      let form = address p is in
      let given = given_source m n callee a v (record { made = made; shape = form.0; is = form.1 }) in
      let handed : t.handed ≡ Some given.row = alike ∙ row_told (declarations_of m) told given.row given.trivial (sym src ∙ given.is) in
      lent (lent_by given.row p) (subst (λ ls. Among (lent_by given.row p) ls) (sym (ap₂ lent_with handed (ap as_place is))) (inl refl)) part

  never_told : (v : ValueId) (y : Datum) → makes callee v item.Entry ≡ true → source_at sources v ≡ source.Other → IsAddressFor (declarations_of m) callee v y → IsFullPart memory y
  never_told v y made src address p is part =
      let form = address p is in
      let given = given_source m n callee a v (record { made = made; shape = form.0; is = form.1 }) in
      let two : source.Argument given.row given.trivial ≡ source.Other = sym given.is ∙ src in
      absurd (cc)

  all_full : (vs : List ValueId) (told : List Told) (ts : List Taken) (ys : List Datum) → Each (λ v. makes callee v item.Entry ≡ true) vs
      → ((k : ℕ) (v : ValueId) → slice_get vs k ≡ Some v → source_at sources v ≡ argument_source_or (declarations_of m) (slice_get told k))
      → AllZip (IsAddressFor (declarations_of m) callee) vs ys → AreAlike told ts → ((l : LentPlace) → Among l (lent_places ts ys) → IsFullLent memory l)
      → Each (IsFullPart memory) ys
  all_full [] told ts [] made src address alike lent = tt
  all_full [] told ts (y ∷ ys) made src address alike lent = absurd address
  all_full (v ∷ vs) told ts [] made src address alike lent = absurd address
  all_full (v ∷ vs) [] [] (y ∷ ys) made src address alike lent =
      (never_told v y made.0 (src zero v refl) address.0, all_full vs [] [] ys made.1 (λ k u e. src (suc k) u e) address.1 tt (λ l c. absurd c))
  all_full (v ∷ vs) [] (t ∷ ts) (y ∷ ys) made src address alike lent = absurd alike
  all_full (v ∷ vs) (told ∷ more) [] (y ∷ ys) made src address alike lent = absurd alike
  all_full (v ∷ vs) (told ∷ more) (t ∷ ts) (y ∷ ys) made src address alike lent = (
    one_full v told t y made.0 (src zero v refl) address.0 alike.0 (λ l c. lent l (among_left l (lent_with t.handed (as_place y)) (lent_places ts ys) c)),
    all_full vs more ts ys made.1 (λ k u e. src (suc k) u e) address.1 alike.1 (λ l c. lent l (among_right l (lent_with t.handed (as_place y)) (lent_places ts ys) c)),
  )

pub parts_handed_full : ArePartsHandedFull
parts_handed_full m bound s verified right x g callee args calls there bodied addresses before =
    let a = accepted_body m verified g callee there bodied in
    all_full m g.0 callee a s.memory (item_defined callee item.Entry) (arguments_of callee.signature) (drop 1 (item_taken x.f (item.Inst (stands_at x.f x.frame.trail)))) args
    (each_among (λ (r : ValueId). r) (λ v. makes callee v item.Entry ≡ true) (item_defined callee item.Entry) (λ r h. h))
    (λ k v is. entry_source m g.0 callee a k v is) addresses (over m bound s verified right x g callee args calls there bodied).alike
    (lent_full m bound s verified right x g callee args calls there bodied before)
