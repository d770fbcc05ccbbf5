-- A state in which an item comes next: the first frame without the operands that end, and what its open scopes lend.
use Rattle.std.proofs.Common.{◌≡◌, ℕ, List, [], ◌∷◌, true, Option, Ok, sym, ap, ◌∙◌, subst}
use Rattle.std.proofs.lemmas.Option.{same_Some}
use Rattle.sil_verifier_frames.specs.holder_model.Data.{AddressOf, Datum}
use Rattle.sil_verifier_frames.specs.holder_model.Frames.{Entry, Frame, Lent, Operands, datum_in, entry_at, results_put, without_ended}
use Rattle.sil_verifier_frames.specs.holder_model.HolderStates.{HolderState}
use Rattle.sil_verifier_frames.specs.holder_model.States.{Runs, Task}
use Rattle.sil_verifier_frames.specs.sil_verifier_trails.RunTrails.inner.RunTrails.{IsRunTrail, IsTurnedTrail}
use Rattle.sil_verifier_frames.specs.sil_verifier_trails.AcceptedPlaces.inner.Loans.{IsLentOn}
use Rattle.sil_verifier_frames.specs.sil_verifier_accepted.AcceptedModules.inner.Checked.{IsVerified}
use Rattle.sil_verifier_frames.specs.sil_verifier_values.inner.Known.{IsAcceptedBody}
use Rattle.sil_verifier_frames.proofs.sil_verifier_trails.RunTrails.WalkEdges.{are_next}
use Rattle.sil_verifier_frames.specs.ownership_kinds_origins.Facts.{facts_in}
use Rattle.sil_verifier_frames.specs.sil_verifier_trails.HeldEntries.inner.Tracked.{AreTrackedLeft}
use Rattle.sil_cfg_items.specs.Items.{item_defined, item_taken}
use Rattle.sil_verifier_frames.specs.ownership_kinds_chains.declared.ownership_chains.facts.Facts.{Facts}
use Rattle.holder_model_values.specs.RunValues.Places.{Place}
use Rattle.sil_ast.specs.declared.function.Function.{Function}
use Rattle.sil_ast.specs.declared.module.Module.{Module}
use Rattle.sil_ast.specs.declared.place.ValueId.{ValueId}
use Rattle.sil_cfg.specs.declared.item.Item.{Item}
use Rattle.sil_types_declarations.specs.TypeDefinitions.Declarations.{declarations_of}
use Rattle.sil_verifier_frames.proofs.Typed.GoesOn.{accepted_body}
use Rattle.sil_verifier_frames.proofs.Typed.Operands.{operands_read}
use Rattle.sil_verifier_frames.proofs.Typed.Stacks.{BelowTyped}
use Rattle.sil_verifier_frames.specs.inner.Typed.TypedStates.{FrameIs, TasksAre}
use Rattle.sil_verifier_frames.specs.holder_model_typing.TypedMemory.inner.Worlds.{World}
use Rattle.sil_verifier_frames.proofs.Tracked.NextItems.{turned_next}
use Rattle.sil_verifier_frames.proofs.Tracked.OperandsFound.{operands_left, tracked_left}
use Rattle.sil_verifier_frames.specs.inner.Tracked.TrackedStates.{AreTasksTracked, GoesAlong}
use Rattle.numbered_form.specs.ValueTables.Borrows.{is_borrow}
use Rattle.sil_verifier_frames.specs.inner.Placed.FramePlaces.{HoldsPlaces, Names}
use Rattle.sil_verifier_frames.specs.inner.Placed.PlaceStates.{AreSlotsRight, TasksPlaced}
use Rattle.sil_verifier_frames.specs.inner.Placed.Premises.{ReadsOperands}
use Rattle.sil_verifier_frames.proofs.Placed.EntriesKept.{left_was, results_other}
use Rattle.sil_verifier_frames.proofs.Placed.FirstFrames.{IsFirst, left_first}
use Rattle.sil_verifier_frames.proofs.Placed.Naming.{names_once}
use Rattle.sil_verifier_frames.proofs.Placed.TrailsSo.{trail_laws}
use Rattle.sil_verifier_frames.proofs.Placed.TypingSo.{typing_laws}
use Rattle.sil_verifier_runs.specs.inner.Loans.Loans.{loans_of}
use Rattle.sil_verifier_runs.specs.inner.Guarded.LoansKept.{TakesOperands}
use Rattle.sil_verifier_runs.proofs.Loans.Below.{TrackedBelow}
use Rattle.sil_verifier_runs.proofs.Loans.LoanAt.{LendsCell, lends_cell, lent_still}
use Rattle.sil_verifier_runs.proofs.Loans.OpenScopes.{lent_on}
use Rattle.sil_verifier_runs.proofs.Loans.RootsStay.{root_there}
use Rattle.sil_verifier_runs.proofs.Loans.Undisturbed.{IsLentCell}

module _ (m : Module) (verified : IsVerified m) (s : HolderState) (rest : List (Task Frame)) (frame : Frame) (f : Function) (i : Item) (ops : Operands)
    (x : TakesOperands m (loans_of m) (AreSlotsRight m) s rest frame f i ops) where
  abbrev pub w : World
  w = x.state.typed.world

  abbrev pub number : ℕ
  number = frame.function.0

  abbrev pub left : Frame
  left = record frame { entries = ops.left }

  abbrev facts : ValueId → Option Facts
  facts = facts_in (declarations_of m) f

  are_typed : TasksAre m x.state.typed.world (Runs frame ∷ rest)
  are_typed = subst (TasksAre m x.state.typed.world) x.tasks x.state.typed.tasks

  are_placed : TasksPlaced m s.memory (Runs frame ∷ rest)
  are_placed = subst (TasksPlaced m s.memory) x.tasks x.state.placed

  are_tracked : AreTasksTracked m (Runs frame ∷ rest)
  are_tracked = subst (AreTasksTracked m) x.tasks x.state.tracked

  pub first : IsFirst m x.state.typed.world s.memory frame rest f
  first = record {
    typed = subst (λ g. FrameIs m x.state.typed.world g frame) (same_Some are_typed.0.0 f (sym are_typed.0.1.is ∙ x.there)) are_typed.0.1;
    holds = subst (λ g. HoldsPlaces m s.memory g frame rest) (same_Some are_placed.0.f f (sym are_placed.0.is ∙ x.there)) are_placed.0.holds;
    none_lent = are_placed.0.none_lent;
    below = are_placed.1;
  }

  -- ---- the frames below

  pub typed_below : BelowTyped m x.state.typed.world frame rest
  typed_below = are_typed.1

  pub tracked_below : TrackedBelow m frame rest
  tracked_below = are_tracked.1

  -- ---- the frame

  along : GoesAlong (declarations_of m) f frame
  along = are_tracked.0 f x.there

  pub accepted : IsAcceptedBody m frame.function.0 f
  accepted = accepted_body m verified frame.function f first.typed.is first.typed.bodied

  pub run : IsRunTrail f (i ∷ frame.trail)
  run = (are_next f frame.trail i first.typed.goes x.comes, first.typed.trail)

  pub turned : IsTurnedTrail f (i ∷ frame.trail)
  turned = turned_next m number f accepted frame.trail i first.typed.trail first.typed.goes x.comes

  pub reads : ReadsOperands m frame.function.0 f x.state.typed.world (facts_in (declarations_of m) f) s.memory frame.entries i ops
  reads = record { body = accepted; typed = first.typed.entries; read = x.ops_are }

  pub now : IsFirst m x.state.typed.world s.memory (record frame { entries = ops.left }) rest f
  now = left_first trail_laws typing_laws m verified w s.memory frame rest f first facts i ops reads

  pub tracked_behind : AreTrackedLeft (declarations_of m) f frame.trail i ops.left
  tracked_behind = subst (AreTrackedLeft (declarations_of m) f frame.trail i)
      (sym (operands_left m number f accepted w frame.trail i turned frame.entries first.typed.entries along.tracked along.others s.memory ops x.ops_are))
      (tracked_left m number f accepted w frame.trail i turned frame.entries first.typed.entries along.tracked along.others)

  ended : without_ended (facts_in (declarations_of m) f) (item_taken f i) frame.entries ≡ Ok ops.left
  ended = (operands_read facts s.memory (item_taken f i) frame.entries ops x.ops_are).left

  -- what is lent before the ends is lent behind them
  pub cell_left : (scope : ValueId) (n : ℕ) → loans_of m f frame scope n ≡ true → LendsCell m f (record frame { entries = ops.left }) scope n
  cell_left scope n lends = at (lends_cell m f frame scope n lends)
    where
      at : LendsCell m f frame scope n → LendsCell m f (record frame { entries = ops.left }) scope n
      at c =
          let y = now.holds.named c.location.root c.root.there in
          let was : Names frame.entries c.location.root y.place = left_was facts (item_taken f i) frame.entries ops.left ended c.location.root (AddressOf y.place) y.names in
          record {
            address = c.address;
            source = c.source;
            location = c.location;
            at = c.at;
            root = record { there = c.root.there; nontrivial = c.root.nontrivial };
            whole = c.whole;
            names = subst (Names ops.left c.location.root) (names_once frame.entries c.location.root y.place c.whole was c.names) y.names;
            place = c.place;
            leads = c.leads;
            has = c.has;
          }

  abbrev pub IsLentLeft : ℕ → Type 0
  IsLentLeft n = IsLentCell trail_laws m frame.function.0 f accepted s.memory (record frame { entries = ops.left }) rest now.holds i run n

  -- by a scope that stays open
  pub scope_on : (scope : ValueId) (y : Datum) (n : ℕ) → is_borrow f scope ≡ true → entry_at ops.left scope ≡ Lent y → (lends : loans_of m f frame scope n ≡ true)
      → IsLentOn (declarations_of m) f frame.trail i scope (cell_left scope n lends).address
  scope_on scope y n borrow lent lends =
      let c = cell_left scope n lends in
      lent_on m number f accepted frame.trail i run turned ops.left tracked_behind scope c.address y borrow lent c.source

  -- it is a cell that an open scope lends
  pub cell_lent_left : (scope : ValueId) (y : Datum) (n : ℕ) → is_borrow f scope ≡ true → entry_at ops.left scope ≡ Lent y → loans_of m f frame scope n ≡ true → IsLentLeft n
  cell_lent_left scope y n borrow lent lends =
      record { scope = scope; cell = cell_left scope n lends; on = scope_on scope y n borrow lent lends }

  -- behind the item it is lent still
  pub lent_behind : (results : List Datum) (entries : List Entry) → results_put (facts_in (declarations_of m) f) (item_defined f i) results ops.left ≡ Ok entries
      → (slots : List Place) (scope : ValueId) (y : Datum) (n : ℕ) → is_borrow f scope ≡ true → entry_at ops.left scope ≡ Lent y → loans_of m f frame scope n ≡ true
      → loans_of m f (record frame { trail = i ∷ frame.trail; entries = entries; slots = slots; lent = [] }) scope n ≡ true
  lent_behind results entries put slots scope y n borrow lent lends =
      let c = cell_left scope n lends in
      let on = scope_on scope y n borrow lent lends in
      lent_still m f left (record frame { trail = i ∷ frame.trail; entries = entries; slots = slots; lent = [] }) scope n c
      (root_there m number f accepted frame.trail i run scope c.address on c.location c.at c.root.there)
      (ap datum_in (results_other facts (item_defined f i) results ops.left entries put c.location.root
      (trail_laws.made_once m number f accepted frame.trail i run first.typed.goes c.location.root c.root.there)) ∙ c.names)
