-- Parts that frames were given stay full in a memory in which each place that names their cells does. What a frame was given by its address is on the stack.
use Rattle.std.proofs.Common.{◌≡◌, List, [], ◌∷◌, Bool, true, false, ◌||◌, Contains, Option, Some, None, inl, inr, ℕ, not, ◌&&◌, refl, sym, ap, ◌∙◌, subst}
use Rattle.std.specs.Prelude.{is_some, slice_get}
use Rattle.std.proofs.lemmas.Option.{same_Some}
use Rattle.argument_conventions.specs.Arguments.{Told, arguments_of}
use Rattle.argument_conventions.specs.Rows.{address_row}
use Rattle.argument_conventions.specs.declared.row.AddressRow.{AddressRow}
use Rattle.sil_cfg_items.specs.Items.{item_defined}
use Rattle.numbered_form.specs.Lists.{Each}
use Rattle.sil_verifier_runs.proofs.sil_verifier_trails.AcceptedPlaces.Fields.{has_among}
use Rattle.sil_verifier_runs.proofs.sil_verifier_trails.AcceptedPlaces.Naming.{MakesAddress, address_made}
use Rattle.sil_verifier_runs.proofs.sil_verifier_values.Counted.{stands}
use Rattle.sil_verifier_runs.proofs.sil_verifier_trails.PlacedValues.ArgumentsTold.{entry_source}
use Rattle.memory_rules_accesses.specs.Sources.{argument_source_or, handed_source, source_at, sources_of}
use Rattle.memory_rules_accesses.specs.declared.source.Source.{Source}
use Rattle.memory_rules_accesses.specs.declared.source.Source.TheVariants as source
use Rattle.sil_verifier_runs.specs.sil_verifier_trails.AcceptedPlaces.inner.Located.{IsRoot}
use Rattle.sil_verifier_runs.specs.sil_verifier_frames.inner.Placed.FramePlaces.{HoldsPlaces, Names}
use Rattle.sil_verifier_runs.specs.sil_verifier_frames.inner.Placed.PlaceStates.{BelowPlaced, TasksPlaced}
use Rattle.sil_verifier_runs.specs.sil_verifier_frames.inner.Placed.Roots.{argument}
use Rattle.numbered_form.proofs.PointChecks.Among.{contained_among}
use Rattle.holder_model_values.specs.RunValues.Memory.{Memory}
use Rattle.holder_model_values.specs.RunValues.Places.{OnStack, Place, value_at}
use Rattle.sil_ast.specs.declared.function.Function.{Function}
use Rattle.sil_ast.specs.declared.module.Module.{Module}
use Rattle.sil_ast.specs.declared.place.FuncId.{FuncId}
use Rattle.sil_ast.specs.declared.place.ObjectId.{ObjectId}
use Rattle.sil_ast.specs.declared.place.ValueId.{ValueId}
use Rattle.sil_cfg.specs.declared.item.Item.{Item}
use Rattle.sil_cfg.specs.declared.item.Item.TheVariants as item
use Rattle.sil_types_declarations.specs.TypeDefinitions.Declarations.{Declarations, declarations_of}
use Rattle.sil_verifier_runs.specs.sil_verifier_trails.AcceptedTrails.inner.Defined.{makes}
use Rattle.sil_verifier_runs.specs.sil_verifier_trails.RunTrails.inner.RunTrails.{ComesFirst, GoesOn, IsRunTrail}
use Rattle.sil_verifier_runs.specs.sil_verifier_trails.RunTrails.inner.Since.{is_none_since}
use Rattle.sil_verifier_runs.specs.sil_verifier_accepted.AcceptedModules.inner.Checked.{IsVerified}
use Rattle.sil_verifier_runs.specs.sil_verifier_values.inner.Known.{IsAcceptedBody}
use Rattle.sil_verifier_runs.specs.holder_model.Calling.{as_argument}
use Rattle.sil_verifier_runs.specs.holder_model.Data.{AddressOf, Datum, as_place}
use Rattle.sil_verifier_runs.specs.holder_model.Frames.{Frame}
use Rattle.sil_verifier_runs.specs.holder_model.States.{Drops, Finishes, Runs, Task}
use Rattle.sil_verifier_runs.specs.holder_model.LoweredRun.LowFrames as low_frames
use Rattle.sil_verifier_runs.specs.holder_model.LoweredRun.LowFrames.{LowFrame}
use Rattle.sil_verifier_runs.specs.sil_verifier_frames.inner.Typed.TypedStates.{DeinitsTyped, DroppedTyped, FinishedTyped, FrameIs, GoesTyped, TasksAre, WaitsTyped}
use Rattle.sil_verifier_runs.specs.holder_model_laws.HolderLaws.inner.Steps.Stacks.{Below}
use Rattle.ownership_lowering_laws.specs.holder_model_typing.TypedMemory.inner.Worlds.{World}
use Rattle.sil_verifier_runs.proofs.sil_verifier_frames.Typed.GoesOn.{accepted_body}
use Rattle.ownership_lowering_runs.specs.StoredRuns.inner.Frames.{AreTasksFor, AreValuesFor, HasFullParts, IsDatumFor, IsFrameFor, IsGivenPlace, IsTaskFor}
use Rattle.ownership_lowering_runs.specs.StoredRuns.inner.Lowering.{IsOwnName}
use Rattle.ownership_lowering_runs.specs.StoredRuns.inner.Names.{IsCurrent, lowered_number}
use Rattle.ownership_lowering_runs.proofs.StoredRuns.Lowered.LoweredSo.{are_lowered_so}
use Rattle.ownership_lowering_runs.proofs.StoredRuns.StayingSteps.{low_frame}
use Rattle.sil_verifier_runs.specs.holder_model_laws.HolderLaws.inner.Cells.Cells.{AreApart}

-- ---- an argument of the entry is as it was given

-- each trail begins at the entry
since_entry : (f : Function) (p : Item → Bool) → p item.Entry ≡ true → (i : Item) (t : List Item) → IsRunTrail f (i ∷ t) → is_none_since p p (i ∷ t) ≡ true
since_entry f p e i [] h = first i h.0
  where
    first : (i : Item) → ComesFirst f i → is_none_since p p (i ∷ []) ≡ true
    first item.Entry h = ap (λ b. b || (not b && false)) e
    first (item.Inst q) h = absurd h
    first (item.Edge q) h = absurd h
    first (item.Exit q) h = absurd h
since_entry f p e i (j ∷ t) h = at (p i) (is_none_since p p (j ∷ t)) (since_entry f p e j t h.1)
  where
    at : (a b : Bool) → b ≡ true → (a || (not a && b)) ≡ true
    at true b k = refl
    at false b k = k

since_given : (f : Function) (p : Item → Bool) → p item.Entry ≡ true → (t : List Item) → IsRunTrail f t → GoesOn t → is_none_since p p t ≡ true
since_given f p e [] h goes = absurd goes
since_given f p e (i ∷ t) h goes = since_entry f p e i t h

-- ---- an argument that is an address is one by the signature

data IsToldSource : Source → Type 0 where
  told : (row : AddressRow) (trivial : Bool) → IsToldSource (source.Argument row trivial)
  nothing : IsToldSource source.Other

handed_told : (trivial : Bool) (o : Option AddressRow) → IsToldSource (handed_source trivial o)
handed_told trivial None = IsToldSource.nothing
handed_told trivial (Some row) = IsToldSource.told row trivial

signature_told : (d : Declarations) (o : Option Told) → IsToldSource (argument_source_or d o)
signature_told d None = IsToldSource.nothing
signature_told d (Some a) = handed_told _ (address_row a.convention)

no_root : (s : Source) → IsRoot s → s ≡ source.Other → ⊥
no_root _ IsRoot.slot e = cc
no_root _ IsRoot.argument e = cc
no_root _ IsRoot.field e = cc

pub record IsArgumentSource (s : Source) : Type 0 where
  pub row : AddressRow
  pub trivial : Bool
  pub is : s ≡ source.Argument row trivial

module _ (m : Module) (n : ℕ) (f : Function) (a : IsAcceptedBody m n f) (v : ValueId) (given : IsGivenPlace (declarations_of m) f v) where
  abbrev sources : List Source
  sources = sources_of (declarations_of m) f

  defined : Contains (item_defined f item.Entry) v
  defined = contained_among v (item_defined f item.Entry) (has_among (item_defined f item.Entry) v given.made)

  told_source : IsToldSource (source_at sources v)
  told_source =
      let k = stands (item_defined f item.Entry) v defined in
      subst IsToldSource (sym (entry_source m n f a k.0 v k.1)) (signature_told (declarations_of m) (slice_get (arguments_of f.signature) k.0))

  never : source_at sources v ≡ source.Other → MakesAddress (declarations_of m) f item.Entry v → ⊥
  never e (MakesAddress.makes_root root) = no_root _ root e
  never e (MakesAddress.makes_member of k is taken at) = let two : source.Part of k ≡ source.Other = sym is ∙ e in cc

  pub given_source : IsArgumentSource (source_at sources v)
  given_source = at (source_at sources v) refl told_source
    where
      at : (s : Source) → source_at sources v ≡ s → IsToldSource s → IsArgumentSource s
      at _ e (IsToldSource.told row trivial) = record { row = row; trivial = trivial; is = refl }
      at _ e IsToldSource.nothing =
          absurd (never e (address_made m n f a item.Entry v defined (record { shape = given.shape; is = given.is })))

-- ---- what stands under its number in the lowered run

module _ (m : Module) (verified : IsVerified m) (w : World) (memory : Memory) (frame : Frame) (rest : List (Task Frame)) (f : Function)
    (is : FrameIs m w f frame) (holds : HoldsPlaces m memory f frame rest)
    (values : List (Option Datum)) (shown : AreValuesFor (declarations_of m) f frame.trail frame.entries values) where
  accepted : IsAcceptedBody m frame.function.0 f
  accepted = accepted_body m verified frame.function f is.is is.bodied

  current : (v : ValueId) → makes f v item.Entry ≡ true → IsOwnName f v → IsCurrent f frame.trail v
  current v made own =
      subst (λ (u : ValueId). is_none_since (makes f u) (makes f v) frame.trail ≡ true) (sym own.1) (since_given f (makes f v) made frame.trail is.trail is.goes)

  -- the address that stands under its number in the lowered run names the cells of an entry's place on the stack
  record IsGivenAs (v : ValueId) (p : Place) : Type 0 where
    entry : Place
    names : Names frame.entries v entry
    on_stack : entry.home ≡ OnStack
    home : p.home ≡ OnStack
    apart : (z : Place) → AreApart entry z → AreApart p z

  given_as : (v : ValueId) (p : Place) → IsGivenPlace (declarations_of m) f v
      → low_frames.value_at values (lowered_number (declarations_of m) f v) ≡ Some (AddressOf p) → IsGivenAs v p
  given_as v p given at =
      let src = given_source m frame.function.0 f accepted v given in
      let q = holds.named v (argument src.row src.trivial src.is) in
      let own = (are_lowered_so m frame.function f accepted).given v given.made in
      let low = shown v (AddressOf q.place) q.names (own.0, current v given.made own) in
      let like = by q.place low.0 (same_Some low.0 (AddressOf p) (sym low.1 ∙ at)) low.2 in
      record { entry = q.place; names = q.names; on_stack = q.home; home = like.0 ∙ q.home; apart = like.1 }
    where
      by : (q : Place) (x : Datum) → x ≡ AddressOf p → IsDatumFor (declarations_of m) f v (AddressOf q) x → (p.home ≡ q.home) × ((z : Place) → AreApart q z → AreApart p z)
      by q x e (inl same) =
          let is : q ≡ p = same_Some q p (ap as_place (sym same ∙ e)) in
          (ap (λ (r : Place). r.home) (sym is), λ z h. subst (λ r. AreApart r z) is h)
      by q x e (inr (made, whole)) =
          let is : q ≡ record p { is_part = false } = same_Some q (record p { is_part = false }) (ap as_place (sym whole ∙ ap as_argument e)) in
          (ap (λ (r : Place). r.home) (sym is), λ z h. subst (λ r. AreApart r z) is h)

-- ---- so it is of each frame

-- of each frame that runs
abbrev pub OfFrames : (Frame → Type 0) → List (Task Frame) → Type 0
OfFrames P [] = Unit {0}
OfFrames P (Runs frame ∷ rest) = P frame × OfFrames P rest
OfFrames P (Drops references ∷ rest) = OfFrames P rest
OfFrames P (Finishes deinits o ∷ rest) = OfFrames P rest

pub of_each : (P : Frame → Type 0) → ((frame : Frame) → P frame) → (tasks : List (Task Frame)) → OfFrames P tasks
of_each P so [] = tt
of_each P so (Runs frame ∷ rest) = (so frame, of_each P so rest)
of_each P so (Drops references ∷ rest) = of_each P so rest
of_each P so (Finishes deinits o ∷ rest) = of_each P so rest

pub of_weaker : (P Q : Frame → Type 0) → ((frame : Frame) → P frame → Q frame) → (tasks : List (Task Frame)) → OfFrames P tasks → OfFrames Q tasks
of_weaker P Q so [] h = tt
of_weaker P Q so (Runs frame ∷ rest) h = (so frame h.0, of_weaker P Q so rest h.1)
of_weaker P Q so (Drops references ∷ rest) h = of_weaker P Q so rest h
of_weaker P Q so (Finishes deinits o ∷ rest) h = of_weaker P Q so rest h

-- a place that names the same cells on the stack as one that the frame was given stays full
abbrev pub StaysFull : Module → Memory → Memory → Frame → Type 0
StaysFull m low low' frame = (f : Function) → slice_get m.functions frame.function.0 ≡ Some f → IsAcceptedBody m frame.function.0 f
    → (v : ValueId) → IsGivenPlace (declarations_of m) f v → (entry p : Place) → Names frame.entries v entry → entry.home ≡ OnStack → p.home ≡ OnStack
    → ((z : Place) → AreApart entry z → AreApart p z) → is_some (value_at low p) ≡ true → is_some (value_at low' p) ≡ true

module _ (m : Module) (verified : IsVerified m) (w : World) (memory low low' : Memory) where
  abbrev Stays : Frame → Type 0
  Stays = StaysFull m low low'

  abbrev TypedBelow : Frame → List (Task Frame) → Type 0
  TypedBelow callee tasks = Below (GoesTyped m w) (WaitsTyped m w) (DeinitsTyped m w) (DroppedTyped m w) (FinishedTyped m w) callee tasks

  frame_still : (frame : Frame) (rest : List (Task Frame)) (f g : Function) → FrameIs m w f frame → slice_get m.functions frame.function.0 ≡ Some g
      → HoldsPlaces m memory g frame rest → Stays frame → (u : Task LowFrame) → IsTaskFor m (Runs frame) u → HasFullParts m low u → HasFullParts m low' u
  frame_still frame rest f g is there holds stays u for full =
      let lw = low_frame m frame u for in
      subst (HasFullParts m low') (sym lw.1) (one lw.0 lw.2 (subst (HasFullParts m low) lw.1 full))
    where
      one : (lw : LowFrame) → IsFrameFor m frame lw → HasFullParts m low (Runs lw) → HasFullParts m low' (Runs lw)
      one lw of full h is_h v p given at part =
          let there_h : slice_get m.functions frame.function.0 ≡ Some h = ap (λ (k : FuncId). slice_get m.functions k.0) (sym of.frames.function) ∙ is_h in
          let f_is : f ≡ h = same_Some f h (sym is.is ∙ there_h) in
          let g_is : g ≡ h = same_Some g h (sym there ∙ there_h) in
          let of_is : of.f ≡ h = same_Some of.f h (sym of.there ∙ there_h) in
          let h_is : FrameIs m w h frame = subst (λ x. FrameIs m w x frame) f_is is in
          let so = given_as m verified w memory frame rest h h_is (subst (λ x. HoldsPlaces m memory x frame rest) g_is holds)
          lw.values (subst (λ x. AreValuesFor (declarations_of m) x frame.trail frame.entries lw.values) of_is of.frames.values) v p given at in
          stays h there_h (accepted_body m verified frame.function h there_h h_is.bodied) v given so.entry p so.names so.on_stack so.home so.apart (full h is_h v p given at part)

  drops_still : (references : List ObjectId) (u : Task LowFrame) → IsTaskFor m (Drops references) u → HasFullParts m low' u
  drops_still _ _ (IsTaskFor.drops references) = tt

  finish_still : (deinits : List FuncId) (o : ObjectId) (u : Task LowFrame) → IsTaskFor m (Finishes deinits o) u → HasFullParts m low' u
  finish_still _ _ _ (IsTaskFor.finishes deinits o) = tt

  mutual
    pub parts_stay : (tasks : List (Task Frame)) (lows : List (Task LowFrame)) → TasksAre m w tasks → TasksPlaced m memory tasks → OfFrames Stays tasks
        → AreTasksFor m tasks lows → Each (HasFullParts m low) lows → Each (HasFullParts m low') lows
    parts_stay [] lows t p stay h k = absurd p
    parts_stay (x ∷ tasks) [] t p stay h k = tt
    parts_stay (Runs frame ∷ tasks) (u ∷ lows) t p stay h k =
        (frame_still frame tasks t.0.0 p.0.f t.0.1 p.0.is p.0.holds stay.0 u h.0 k.0, below_stay frame tasks lows t.1 p.1 stay.1 h.1 k.1)
    parts_stay (Drops references ∷ tasks) (u ∷ lows) t p stay h k = (drops_still references u h.0, parts_stay tasks lows t.1 p.1 stay h.1 k.1)
    parts_stay (Finishes deinits o ∷ tasks) (u ∷ lows) t p stay h k = (finish_still deinits o u h.0, parts_stay tasks lows t.1 p.1 stay h.1 k.1)

    below_stay : (callee : Frame) (tasks : List (Task Frame)) (lows : List (Task LowFrame)) → TypedBelow callee tasks → BelowPlaced m memory callee tasks
        → OfFrames Stays tasks → AreTasksFor m tasks lows → Each (HasFullParts m low) lows → Each (HasFullParts m low') lows
    below_stay callee [] [] t p stay h k = tt
    below_stay callee [] (u ∷ lows) t p stay h k = absurd h
    below_stay callee (x ∷ tasks) [] t p stay h k = tt
    below_stay callee (Runs frame ∷ tasks) (u ∷ lows) t p stay h k =
        (frame_still frame tasks t.0.f p.0.f t.0.of p.0.is p.0.holds stay.0 u h.0 k.0, below_stay frame tasks lows t.1 p.1 stay.1 h.1 k.1)
    below_stay callee (Drops references ∷ tasks) (u ∷ lows) t p stay h k = absurd p
    below_stay callee (Finishes deinits o ∷ tasks) (u ∷ lows) t p stay h k = (finish_still deinits o u h.0, parts_stay tasks lows t.2 p.2 stay h.1 k.1)
