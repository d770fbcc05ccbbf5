-- Two runs by holders in lockstep: all but frames is the same, and frames of one function are related by their trails and entries. The first
-- run may make steps of its own before the second one follows.
use Rattle.std.specs.Prelude.{◌≡◌, ◌≤◌, ◌⊎◌, ◌<◌, ◌+◌, ℕ, List, [], ◌∷◌, Ok}
use Rattle.std.specs.declared.result.Result.{Result}
use Rattle.sil_ast.specs.declared.module.Module.{Module}
use Rattle.sil_ast.specs.declared.place.FuncId.{FuncId}
use Rattle.sil_ast.specs.declared.place.ObjectId.{ObjectId}
use Rattle.sil_cfg.specs.declared.item.Item.{Item}
use Rattle.holder_model.specs.holder_model_values.RunValues.Places.{Place}
use Rattle.holder_model.specs.Faults.{HolderFault}
use Rattle.holder_model.specs.Frames.{Entry, Frame, LentPlace}
use Rattle.holder_model.specs.HolderStates.{HolderNext, HolderState}
use Rattle.holder_model.specs.ModuleFacts.{ModuleFacts}
use Rattle.holder_model.specs.Outcomes.{run}
use Rattle.holder_model.specs.States.{Drops, Ending, Ends, Faulted, Finishes, Goes, OutOfTurns, Returned, Runs, Task, Trapped}
use Rattle.holder_model.specs.Steps.{step}
use Rattle.holder_model_laws.specs.LockstepRuns.inner.Agreeing.{EndsAsItDid}

-- all but the tasks
pub record AreLevel (h r : HolderState) : Type 0 where
  pub memory : r.memory ≡ h.memory
  pub events : r.events ≡ h.events
  pub turns : r.turns ≡ h.turns
  pub retains : r.retains ≤ h.retains
  pub releases : r.releases ≤ h.releases

abbrev pub frame_at : FuncId → List Place → List LentPlace → List Item → List Entry → Frame
frame_at g slots lent trail entries = record { function = g; trail = trail; entries = entries; slots = slots; lent = lent }

-- ---- tasks

-- Like g trail entries trail' entries': frames of the function g in the two runs are related, by their trails and entries
module _ (Like : FuncId → List Item → List Entry → List Item → List Entry → Type 0) where
  pub data AreTasksLike : List (Task Frame) → List (Task Frame) → Type 0 where
    none : AreTasksLike [] []
    runs : (g : FuncId) (slots : List Place) (lent : List LentPlace) (trail trail' : List Item) (entries entries' : List Entry) (rest rest' : List (Task Frame))
        → Like g trail entries trail' entries' → AreTasksLike rest rest'
        → AreTasksLike (Runs (frame_at g slots lent trail entries) ∷ rest) (Runs (frame_at g slots lent trail' entries') ∷ rest')
    drops : (references : List ObjectId) (rest rest' : List (Task Frame)) → AreTasksLike rest rest'
        → AreTasksLike (Drops references ∷ rest) (Drops references ∷ rest')
    finishes : (deinits : List FuncId) (o : ObjectId) (rest rest' : List (Task Frame)) → AreTasksLike rest rest'
        → AreTasksLike (Finishes deinits o ∷ rest) (Finishes deinits o ∷ rest')

  -- entries that are put in the one run have their like in the other
  abbrev pub ArePutAlike : FuncId → List Item → List Item → Result (List Entry) HolderFault → Result (List Entry) HolderFault → Type 0
  ArePutAlike g trail trail' put put' = (entries : List Entry) → put ≡ Ok entries
      → (entries' : List Entry) × (put' ≡ Ok entries') × Like g trail entries trail' entries'

-- ---- states

-- Alone g trail: where a frame of the function has come so far, the first run makes a step of its own
module _ (Like : FuncId → List Item → List Entry → List Item → List Entry → Type 0) (Alone : FuncId → List Item → Type 0) where
  -- no frame goes on alone
  abbrev pub AreAtRest : List (Task Frame) → Type 0
  AreAtRest [] = Unit {0}
  AreAtRest (Runs frame ∷ rest) = ¬ Alone frame.function frame.trail
  AreAtRest (Drops references ∷ rest) = Unit {0}
  AreAtRest (Finishes deinits o ∷ rest) = Unit {0}

  -- both runs make their next step together
  pub record AreTogether (h r : HolderState) : Type 0 where
    pub tasks : AreTasksLike Like h.tasks r.tasks
    pub level : AreLevel h r
    pub rest : AreAtRest h.tasks

  -- they will be together once the first run has made so many steps more
  pub record AreInStep (m : Module) (told : ModuleFacts) (bound : ℕ) (h r : HolderState) : Type 0 where
    pub ahead : ℕ
    pub later : HolderState
    pub comes : run (step m told bound) ahead h ≡ Goes later
    pub together : AreTogether later r

-- ---- steps

abbrev pub IsFaulted : Ending HolderFault → Type 0
IsFaulted (Returned x) = ⊥
IsFaulted (Trapped t) = ⊥
IsFaulted OutOfTurns = ⊥
IsFaulted (Faulted x) = Unit {0}

abbrev pub IsFault : HolderNext → Type 0
IsFault (Goes s) = ⊥
IsFault (Ends e s) = IsFaulted e

-- R: how states are related to which two steps lead. First, Second: what holds of the states of either run
module _ (First Second : HolderState → Type 0) (R : HolderState → HolderState → Type 0) where
  abbrev pub Follows : HolderNext → HolderNext → Type 0
  Follows (Goes h) (Goes r) = First h → Second r → R h r
  Follows (Goes h) (Ends e r) = ⊥
  Follows (Ends e h) (Goes r) = ⊥
  Follows (Ends e h) (Ends e' r) = (e' ≡ e) × EndsAsItDid e h r

  -- a step that ends in a fault needs no other
  abbrev pub AreStepsAlike : HolderNext → HolderNext → Type 0
  AreStepsAlike x y = IsFault x ⊎ Follows x y

-- what holds of the states of a run, from one to the next, and none of them ends in a fault
pub record IsKeptBy (m : Module) (told : ModuleFacts) (bound : ℕ) (Holds : HolderState → Type 0) : Type 0 where
  pub goes : (s next : HolderState) → Holds s → step m told bound s ≡ Goes next → Holds next
  pub faultless : (s last : HolderState) (x : HolderFault) → Holds s → step m told bound s ≡ Ends (Faulted x) last → ⊥

-- ---- what the first run holds more

-- so many holders of an object in the first run, so many in the second one: no fewer, and where they are more the second one has one too,
-- or the object is spared
pub record Excess (left left' : ℕ) (Spared : Type 0) : Type 0 where
  pub more : ℕ
  pub sum : left ≡ left' + more
  pub covered : 0 < more → (0 < left') ⊎ Spared
