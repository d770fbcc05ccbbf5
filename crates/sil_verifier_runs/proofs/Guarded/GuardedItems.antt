-- The first frame of a guarded state goes on behind an item: what is lent anew is guarded, and open scopes keep what they lend.
use Rattle.std.proofs.Common.{◌≡◌, ℕ, ◌+◌, List, [], ◌∷◌, refl, sym, ap, ◌∙◌, subst, true, false, ⊎_elim, Some, Ok, arith}
use Rattle.std.specs.Prelude.{slice_get}
use Rattle.sil_cfg_items.specs.Items.{item_defined, item_taken}
use Rattle.sil_cfg_items.specs.declared.taken.Taken.{Taken}
use Rattle.numbered_form.specs.Lists.{Each}
use Rattle.sil_ast.specs.declared.decl.Storage.TheVariants as storage
use Rattle.sil_ast.specs.declared.function.Function.{Function}
use Rattle.sil_ast.specs.declared.module.Module.{Module}
use Rattle.sil_ast.specs.declared.place.ObjectId.{ObjectId}
use Rattle.sil_ast.specs.declared.place.ValueId.{ValueId}
use Rattle.sil_cfg.specs.declared.item.Item.{Item}
use Rattle.sil_cfg.specs.declared.item.Item.TheVariants as item
use Rattle.sil_types_declarations.specs.TypeDefinitions.Declarations.{Declarations, declarations_of}
use Rattle.holder_model_values.specs.RunValues.Memory.{Memory, is_dead}
use Rattle.holder_model_values.specs.RunValues.Places.{Place}
use Rattle.holder_model_values.specs.RunValues.Values as value
use Rattle.sil_verifier_frames.specs.sil_verifier_trails.AcceptedTrails.inner.Defined.{makes}
use Rattle.sil_verifier_frames.specs.ownership_kinds_origins.Facts.{facts_in}
use Rattle.sil_verifier_frames.specs.sil_verifier_trails.RunTrails.inner.RunTrails.{ComesAt, IsTurnedTrail}
use Rattle.sil_verifier_frames.proofs.sil_verifier_trails.RunTrails.WalkEdges.{are_next}
use Rattle.sil_verifier_frames.specs.sil_verifier_values.inner.Known.{IsAcceptedBody, kind_at}
use Rattle.sil_verifier_frames.proofs.sil_verifier_values.Facts.{run_facts}
use Rattle.sil_verifier_frames.specs.holder_model_typing.TypedMemory.inner.Worlds.{MemoryIs, World}
use Rattle.sil_verifier_frames.specs.inner.Typed.TypedStates.{FrameIs}
use Rattle.sil_verifier_frames.specs.inner.Tracked.TrackedStates.{GoesAlong}
use Rattle.sil_verifier_frames.proofs.Tracked.NextItems.{turned_next}
use Rattle.sil_verifier_frames.specs.holder_model.Data.{Datum, ValueOf, references_in}
use Rattle.sil_verifier_frames.specs.holder_model.Effects.{Change, unchanged}
use Rattle.sil_verifier_frames.specs.holder_model.Frames.{Entry, Frame, Lent, Operands, entry_at, made_entry, operands_of, results_put, without_ended}
use Rattle.sil_verifier_frames.specs.holder_model.Holders.{in_memory, one_object}
use Rattle.sil_verifier_frames.specs.holder_model.HolderStates.{HolderNext, HolderState}
use Rattle.sil_verifier_frames.specs.holder_model.ModuleFacts.{ModuleFacts, facts_of}
use Rattle.sil_verifier_frames.specs.holder_model.Standing.{stands_at}
use Rattle.sil_verifier_frames.specs.holder_model.States.{Ends, Goes, Runs, Task}
use Rattle.sil_verifier_frames.specs.holder_model_laws.HolderLaws.inner.Steps.Ways.{GoesBehind, left_with, moved}
use Rattle.sil_verifier_frames.specs.holder_model_laws.HolderLaws.inner.Counts.Moving.{in_tasks}
use Rattle.sil_verifier_frames.specs.holder_model_laws.HolderLaws.inner.Counts.Naming.{HoldsNone, IsAlive, in_data}
use Rattle.sil_verifier_frames.proofs.holder_model_laws.HolderLaws.Counts.Moves.{operands_are}
use Rattle.sil_verifier_runs.specs.inner.Guarded.Guards.{AreLentGuarded, AreOfKinds, IsArgument, IsCurrent, IsNamed, Lending}
use Rattle.sil_verifier_runs.specs.inner.Guarded.GuardedStates.{IsGuardedRun, IsGuardedState, Loans}
use Rattle.sil_verifier_runs.specs.inner.Guarded.Kept.{IsAnchor, IsNewlyGuarded}
use Rattle.sil_verifier_runs.specs.inner.Guarded.LoansKept.{IsPlacedState, LeadsTo, LendOn, LoansAreKept, TakesOperands}
use Rattle.sil_verifier_runs.specs.inner.Guarded.Premises.{AreFramesCurrent, AreTypedForRows, CarryTypedValues}
use Rattle.sil_verifier_runs.specs.inner.Guarded.Stepping.{KeepLoans, KeepsBorrowed, KeepsPhases, frame_behind}
use Rattle.sil_verifier_runs.proofs.Guarded.Changing.{given_alive}
use Rattle.sil_verifier_runs.proofs.Guarded.FirstFrames.{first_kinds, first_left}
use Rattle.sil_verifier_runs.proofs.Guarded.Following.{arguments_of_entry, borrowed_kept, scopes_not_renewed}
use Rattle.sil_verifier_runs.proofs.Guarded.GuardedReturns.{one_only}
use Rattle.sil_verifier_runs.proofs.Guarded.Named.{named_nowhere}
use Rattle.sil_verifier_runs.proofs.Guarded.Stepping.{items_guarded, same_phases, stack_kept}

-- the next state is guarded where it is placed
abbrev pub GuardedNext : (m : Module) → Loans → (HolderState → Type 0) → HolderNext → Type 0
GuardedNext m loans Placed (Goes next) = IsPlacedState m loans Placed next → IsGuardedState m loans next
GuardedNext m loans Placed (Ends e last) = Unit {0}

-- what an accepted module gives
pub record Given : Type 0 where
  pub current : AreFramesCurrent
  pub rows : AreTypedForRows
  pub edges : CarryTypedValues

-- dead objects are held by no cell
pub none_in_memory : (m : Module) (loans : Loans) (memory : Memory) (tasks : List (Task Frame)) → IsGuardedRun m loans memory tasks → (o : ObjectId) → is_dead memory o ≡ true
    → in_memory (one_object o) storage.Strong memory ≡ 0
none_in_memory m loans memory tasks h o dead =
    let before : in_tasks (one_object o) tasks + in_memory (one_object o) storage.Strong memory ≡ 0 = h.dead o dead in
    omega (arith, before)

module _ (m : Module) (loans : Loans) (Placed : HolderState → Type 0) where
  abbrev d : Declarations
  d = declarations_of m

  abbrev told : ModuleFacts
  told = facts_of m

  -- the first frame of a placed and guarded state
  pub record IsFirst (s : HolderState) (rest : List (Task Frame)) (frame : Frame) (f : Function) : Type 0 where
    pub state : IsPlacedState m loans Placed s
    pub tasks : s.tasks ≡ Runs frame ∷ rest
    pub run : IsGuardedRun m loans s.memory (Runs frame ∷ rest)
    pub body : IsAcceptedBody m frame.function.0 f
    pub w : World
    pub memory : MemoryIs m w s.memory
    pub is : FrameIs m w f frame
    pub along : GoesAlong (declarations_of m) f frame

  module _ (given : Given) (kept : LoansAreKept m loans Placed) (bound : ℕ) (s : HolderState) (rest : List (Task Frame)) (frame : Frame) (f : Function)
      (first : IsFirst s rest frame f) (i : Item) (comes : ComesAt f (stands_at f frame.trail) i) (ops : Operands)
      (ops_are : operands_of (facts_in (declarations_of m) f) s.memory frame.entries (item_taken f i) ≡ Ok ops) where
    abbrev n : ℕ
    n = frame.function.0

    pub takes : TakesOperands m loans Placed s rest frame f i ops
    takes = record { state = first.state; tasks = first.tasks; there = first.is.is; comes = comes; ops_are = ops_are }

    turned : IsTurnedTrail f (i ∷ frame.trail)
    turned = turned_next m n f first.body frame.trail i first.is.trail first.is.goes comes

    left_is : without_ended (facts_in d f) (item_taken f i) frame.entries ≡ Ok ops.left
    left_is = (operands_are (facts_in d f) s.memory frame.entries (item_taken f i) ops ops_are).left

    pub current : Each (λ (x : Taken). IsCurrent (declarations_of m) f (loans f frame) s.memory frame.entries frame.trail x.value) (item_taken f i)
    current = given.current m n f first.body (loans f frame) s.memory frame i (are_next f frame.trail i first.is.goes comes, first.is.trail) first.along

    pub borrowed : KeepsBorrowed m loans f frame.entries ops.left
    borrowed = borrowed_kept m n f first.body frame.entries ops.left frame.trail i turned first.along.tracked left_is

    pub kinds : AreOfKinds d f frame.entries
    kinds = first_kinds m loans s.memory rest frame f first.run first.is.is

    pub left : AreLentGuarded d f (loans f frame) s.memory ops.left frame.trail
    left = first_left m loans s.memory rest frame f first.run first.is.is ops.left (item_taken f i) left_is borrowed

    no_entry : i ≡ item.Entry → ⊥
    no_entry e = subst (ComesAt f (stands_at f frame.trail)) e comes

    unmade : (v : ValueId) → IsArgument f v → makes f v i ≡ false
    unmade v argument = arguments_of_entry m n f first.body i no_entry v argument

    anchors : (v : ValueId) (x : Datum) → IsAnchor f v → entry_at ops.left v ≡ Lent x → makes f v i ≡ false
    anchors v x anchor e = ⊎_elim
        (λ borrow. scopes_not_renewed m n f first.body frame.entries ops.left frame.trail i turned first.along.tracked left_is v x borrow e)
        (λ argument. unmade v argument) anchor

    pub alive : Each (IsAlive s.memory) ops.given
    alive = given_alive (facts_in d f) s.memory frame.entries (item_taken f i) ops ops_are

    -- what keeps the state guarded behind the item
    pub record IsKeptBehind (c : Change) (slots : List Place) (behind : List Entry) : Type 0 where
      pub lending : LendOn f (loans f frame) (loans f (frame_behind m loans frame i behind slots)) s.memory c.memory ops.left
      pub made : (k : ℕ) (v : ValueId) (x : Datum) (o : ObjectId) → slice_get (item_defined f i) k ≡ Some v → slice_get c.results k ≡ Some x
          → made_entry (kind_at (declarations_of m) f v) x ≡ Ok (Lent x) → IsNamed o (references_in x)
          → IsNewlyGuarded (declarations_of m) f (loans f frame) (loans f (frame_behind m loans frame i behind slots)) s.memory c.memory ops.left o v
      pub phases : KeepsPhases s.memory c.memory
      pub none : (o : ObjectId) → is_dead c.memory o ≡ true → HoldsNone (one_object o) c
      pub below : KeepLoans m loans s.memory c.memory rest

    pub goes_so : (s' : HolderState) (c : Change)
        → ((next : HolderState) (slots : List Place) (behind : List Entry) → LeadsTo m loans Placed next rest frame f i c ops.left slots behind → IsKeptBehind c slots behind)
        → (next : HolderNext) → GoesBehind m told bound s' rest (left_with m told bound frame ops) f i c next → GuardedNext m loans Placed next
    goes_so s' c keeps _ (GoesBehind.goes slots behind slots_are put) = λ placed.
        let put' : results_put (facts_in d f) (item_defined f i) c.results ops.left ≡ Ok behind =
        ap (λ facts. results_put facts (item_defined f i) c.results ops.left) (sym (run_facts m frame.function f first.is.is)) ∙ put in
        let so = keeps (moved m told bound s' rest (left_with m told bound frame ops) i c slots behind) slots behind
        (record { state = placed; tasks = refl; memory = refl; slots_are = slots_are; put = put' }) in
        items_guarded m loans s.memory rest frame f i ops c slots behind first.run (record {
          is = first.is.is;
          ops_are = ops_are;
          put = put';
          borrowed = borrowed;
          arguments = unmade;
          right = record { anchors = anchors; lending = so.lending; made = so.made };
          phases = so.phases;
          none = so.none;
          below = so.below;
        })
    goes_so s' c keeps _ (GoesBehind.wrong_slot x e) = tt
    goes_so s' c keeps _ (GoesBehind.wrong_result slots x is put) = tt

    -- memory stays as it is, and results name nothing dead
    pub stays_so : (results : List Datum) → ((lends' : Lending) (k : ℕ) (v : ValueId) (x : Datum) (o : ObjectId) → slice_get (item_defined f i) k ≡ Some v → slice_get results k ≡ Some x
        → made_entry (kind_at (declarations_of m) f v) x ≡ Ok (Lent x) → IsNamed o (references_in x)
        → IsNewlyGuarded (declarations_of m) f (loans f frame) lends' s.memory s.memory ops.left o v)
        → ((o : ObjectId) → is_dead s.memory o ≡ true → in_data (one_object o) results ≡ 0)
        → (next : HolderState) (slots : List Place) (behind : List Entry)
        → LeadsTo m loans Placed next rest frame f i (record (unchanged s.memory) { results = results }) ops.left slots behind
        → IsKeptBehind (record (unchanged s.memory) { results = results }) slots behind
    stays_so results made none next slots behind leads = record {
      lending = kept.stays s next rest frame f i ops (record (unchanged s.memory) { results = results }) slots behind
          (record { takes = takes; memory = refl; same_slots = refl; leads = leads });
      made = made (loans f (frame_behind m loans frame i behind slots));
      phases = same_phases s.memory;
      none = λ o dead. record { results = none o dead; dropped = refl; memory = none_in_memory m loans s.memory (Runs frame ∷ rest) first.run o dead };
      below = stack_kept m loans s.memory s.memory refl rest;
    }

    -- a function without a body is called
    pub called_out : (s' : HolderState) (next : HolderNext)
        → GoesBehind m told bound s' rest (left_with m told bound frame ops) f i (record (unchanged s.memory) { results = ValueOf (value.Group value.NoValue) ∷ [] }) next
        → GuardedNext m loans Placed next
    called_out s' next moves =
        goes_so s' (record (unchanged s.memory) { results = ValueOf (value.Group value.NoValue) ∷ [] })
        (stays_so (ValueOf (value.Group value.NoValue) ∷ [])
        (λ lends' k v x o defined at made named. absurd (named_nowhere o (subst (λ (y : Datum). IsNamed o (references_in y)) (sym (one_only (ValueOf (value.Group value.NoValue)) x k at)) named)))
        (λ o dead. refl))
        next moves
