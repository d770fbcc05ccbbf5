-- The parts of steps in two runs in lockstep: where one goes on so does the other, and they are in step again.
use Rattle.std.proofs.Common.{◌≡◌, ◌≤◌, ℕ, ◌+◌, arith, List, [], ◌∷◌, length, refl, sym, ap, ◌∙◌, subst, Bool, true, false, cond, Option, Some, None, Ok, Err, inl, inr}
use Rattle.std.specs.Prelude.{nat_lt}
use Rattle.std.specs.declared.result.Result.{Result}
use Rattle.sil_ast.specs.declared.function.Function.{Function}
use Rattle.sil_ast.specs.declared.module.Module.{Module}
use Rattle.sil_ast.specs.declared.place.FuncId.{FuncId}
use Rattle.sil_ast.specs.declared.place.ObjectId.{ObjectId}
use Rattle.sil_cfg.specs.declared.item.Item.{Item}
use Rattle.sil_cfg.specs.declared.item.Item.TheVariants as item
use Rattle.holder_model.specs.holder_model_values.RunValues.Places.{Place}
use Rattle.holder_model.specs.declared.limits.TheConstants.{FRAMES}
use Rattle.holder_model.specs.declared.trap.Trap.TheVariants as trap
use Rattle.holder_model.specs.Data.{Datum}
use Rattle.holder_model.specs.Effects.{Change}
use Rattle.holder_model.specs.Faults.{HolderFault}
use Rattle.holder_model.specs.Frames.{Entry, Frame, LentPlace}
use Rattle.holder_model.specs.HolderStates.{HolderNext, HolderState}
use Rattle.holder_model.specs.ModuleFacts.{ModuleFacts}
use Rattle.holder_model.specs.Outcomes.{left_by}
use Rattle.holder_model.specs.StepParts.{new_frame, on_ok, on_some, slots_behind}
use Rattle.holder_model.specs.States.{Ending, Ends, Goes, OutOfTurns, Runs, Task, Trapped, dropping, enter, frame_count, turn}
use Rattle.holder_model.specs.Steps as steps
use Rattle.holder_model_laws.specs.LockstepRuns.inner.Lockstep.{AreInStep, AreLevel, ArePutAlike, AreStepsAlike, AreTasksLike, frame_at}
use Rattle.holder_model_laws.specs.LockstepRuns.inner.Parts.{entered, puts}

-- one more turn has begun
abbrev pub turned : HolderState → HolderState
turned s = record s { turns = s.turns + 1 }

pub level_turned : (s s' : HolderState) → AreLevel s s' → AreLevel (turned s) (turned s')
level_turned s s' l = record { memory = l.memory; events = l.events; turns = ap (λ k. k + 1) l.turns; retains = l.retains; releases = l.releases }

module _ (Like : FuncId → List Item → List Entry → List Item → List Entry → Type 0) where
  pub frames_alike : (tasks tasks' : List (Task Frame)) → AreTasksLike Like tasks tasks' → frame_count tasks' ≡ frame_count tasks
  frames_alike _ _ AreTasksLike.none = refl
  frames_alike _ _ (AreTasksLike.runs g slots lent trail trail' entries entries' rest rest' like below) = ap (λ n. 1 + n) (frames_alike rest rest' below)
  frames_alike _ _ (AreTasksLike.drops os rest rest' below) = frames_alike rest rest' below
  frames_alike _ _ (AreTasksLike.finishes gs o rest rest' below) = frames_alike rest rest' below

  pub dropping_alike : (os : List ObjectId) (tasks tasks' : List (Task Frame)) → AreTasksLike Like tasks tasks'
      → AreTasksLike Like (dropping os tasks) (dropping os tasks')
  dropping_alike [] tasks tasks' like = like
  dropping_alike (o ∷ os) tasks tasks' like = AreTasksLike.drops (o ∷ os) tasks tasks' like

module _ (m m' : Module) (told told' : ModuleFacts) (bound : ℕ) (First Second : HolderState → Type 0)
    (Like : FuncId → List Item → List Entry → List Item → List Entry → Type 0) (Alone : FuncId → List Item → Type 0) where
  abbrev pub Alike : HolderNext → HolderNext → Type 0
  Alike x y = AreStepsAlike First Second (AreInStep Like Alone m told bound) x y

  -- ---- ways to go on

  pub ends_alike : (e : Ending HolderFault) (h r : HolderState) → left_by r e ≡ left_by h e → AreLevel h r → Alike (Ends e h) (Ends e r)
  ends_alike e h r left l =
      inr (refl, record { events = l.events; memory = l.memory; left = left; turns = l.turns; retains = l.retains; releases = l.releases })

  pub cond_alike : (b b' : Bool) (x y x' y' : HolderNext) → b' ≡ b → (b ≡ true → Alike x x') → (b ≡ false → Alike y y') → Alike (cond b x y) (cond b' x' y')
  cond_alike true b' x y x' y' same so other = subst (λ q. Alike x (cond q x' y')) (sym same) (so refl)
  cond_alike false b' x y x' y' same so other = subst (λ q. Alike y (cond q x' y')) (sym same) (other refl)

  pub ok_alike : {A : Type 0} (s s' : HolderState) (go go' : A → HolderNext) (o o' : Result A HolderFault)
      → ((x : A) → o ≡ Ok x → (x' : A) × (o' ≡ Ok x') × Alike (go x) (go' x')) → Alike (on_ok s go o) (on_ok s' go' o')
  ok_alike s s' go go' (Err x) o' h = inl tt
  ok_alike s s' go go' (Ok x) o' h = let z = h x refl in subst (λ q. Alike (go x) (on_ok s' go' q)) (sym z.1) z.2

  pub some_alike : {A : Type 0} (s s' : HolderState) (go go' : A → HolderNext) (o o' : Option A)
      → ((x : A) → o ≡ Some x → (x' : A) × (o' ≡ Some x') × Alike (go x) (go' x')) → Alike (on_some s go o) (on_some s' go' o')
  some_alike s s' go go' None o' h = inl tt
  some_alike s s' go go' (Some x) o' h = let z = h x refl in subst (λ q. Alike (go x) (on_some s' go' q)) (sym z.1) z.2

  pub turn_alike : (s s' : HolderState) (go go' : HolderState → HolderNext) → AreLevel s s'
      → (AreLevel (turned s) (turned s') → Alike (go (turned s)) (go' (turned s'))) → Alike (turn bound s go) (turn bound s' go')
  turn_alike s s' go go' l h =
      cond_alike (nat_lt s.turns bound) (nat_lt s'.turns bound) (go (turned s)) (Ends OutOfTurns s) (go' (turned s')) (Ends OutOfTurns s')
      (ap (λ k. nat_lt k bound) l.turns) (λ so. h (level_turned s s' l)) (λ other. ends_alike OutOfTurns s s' refl l)

  pub enter_alike : (s s' : HolderState) (rest rest' : List (Task Frame)) (go go' : HolderState → HolderNext) → AreLevel s s' → AreTasksLike Like rest rest'
      → (AreLevel (turned s) (turned s') → Alike (go (turned s)) (go' (turned s'))) → Alike (enter bound rest s go) (enter bound rest' s' go')
  enter_alike s s' rest rest' go go' l below h =
      cond_alike (nat_lt (frame_count rest) FRAMES) (nat_lt (frame_count rest') FRAMES) (turn bound s go) (Ends (Trapped trap.Depth) s) (turn bound s' go')
      (Ends (Trapped trap.Depth) s') (ap (λ k. nat_lt k FRAMES) (frames_alike Like rest rest' below)) (λ so. turn_alike s s' go go' l h)
      (λ other. ends_alike (Trapped trap.Depth) s s' refl l)

  -- ---- with the part that says when the runs are in step again
  module _ (alone : (h r : HolderState) → First h → Second r → AreTasksLike Like h.tasks r.tasks → AreLevel h r
      → AreInStep Like Alone m told bound h r) where
    pub goes_alike : (h r : HolderState) → AreTasksLike Like h.tasks r.tasks → AreLevel h r → Alike (Goes h) (Goes r)
    goes_alike h r tasks l = inr (λ first second. alone h r first second tasks l)

    -- behind an item, by what the changes of the two have in common
    pub record ChangesAlike (c c' : Change) : Type 0 where
      pub dropped : c'.dropped ≡ c.dropped
      pub memory : c'.memory ≡ c.memory
      pub slots : c'.slots ≡ c.slots
      pub retained : length c'.retained ≤ length c.retained

    pub goes_on_alike : (s s' : HolderState) (rest rest' : List (Task Frame)) (g : FuncId) (f f' : Function) (slots : List Place) (lent lent' : List LentPlace)
        (trail trail' : List Item) (entries entries' : List Entry) (i i' : Item) (c c' : Change) → AreLevel s s' → AreTasksLike Like rest rest' → ChangesAlike c c'
        → ArePutAlike Like g (i ∷ trail) (i' ∷ trail') (puts told g f i c.results entries) (puts told' g f' i' c'.results entries')
        → Alike (steps.goes_on m told bound s rest (frame_at g slots lent trail entries) f i c)
        (steps.goes_on m' told' bound s' rest' (frame_at g slots lent' trail' entries') f' i' c')
    goes_on_alike s s' rest rest' g f f' slots lent lent' trail trail' entries entries' i i' c c' l below same put =
        ok_alike s s' _ _ (slots_behind c.slots slots) (slots_behind c'.slots slots) (λ behind is. (
          behind,
          ap (λ q. slots_behind q slots) same.slots ∙ is,
          ok_alike s s' _ _ (puts told g f i c.results entries) (puts told' g f' i' c'.results entries') (λ es put_is.
              let z = put es put_is in (
                z.0,
                z.1,
                goes_alike _ _
                    (subst (λ os. AreTasksLike Like (dropping c.dropped (Runs (frame_at g behind [] (i ∷ trail) es) ∷ rest))
                    (dropping os (Runs (frame_at g behind [] (i' ∷ trail') z.0) ∷ rest'))) (sym same.dropped)
                    (dropping_alike Like c.dropped (Runs (frame_at g behind [] (i ∷ trail) es) ∷ rest) (Runs (frame_at g behind [] (i' ∷ trail') z.0) ∷ rest')
                    (AreTasksLike.runs g behind [] (i ∷ trail) (i' ∷ trail') es z.0 rest rest' z.2 below)))
                    (record {
                      memory = same.memory;
                      events = l.events;
                      turns = l.turns;
                      retains = let a = l.retains in let b = same.retained in omega (arith, a, b);
                      releases = l.releases;
                    }),
              )),
        ))

    -- a function with a body is called over the tasks
    pub calls_in_alike : (s s' : HolderState) (rest rest' : List (Task Frame)) (g : FuncId) (f f' : Function) (args : List Datum) → AreLevel s s'
        → AreTasksLike Like rest rest' → ArePutAlike Like g (item.Entry ∷ []) (item.Entry ∷ []) (entered told g f args) (entered told' g f' args)
        → Alike (steps.calls_in m told bound s rest g f args) (steps.calls_in m' told' bound s' rest' g f' args)
    calls_in_alike s s' rest rest' g f f' args l below put =
        ok_alike s s' _ _ (entered told g f args) (entered told' g f' args) (λ es is.
        let z = put es is in (
          z.0,
          z.1,
          enter_alike s s' rest rest' (λ t. Goes (record t { tasks = Runs (new_frame g es) ∷ rest })) (λ t. Goes (record t { tasks = Runs (new_frame g z.0) ∷ rest' }))
              l below (λ t. goes_alike _ _
              (AreTasksLike.runs g [] [] (item.Entry ∷ []) (item.Entry ∷ []) es z.0 rest rest' z.2 below)
              (record { memory = t.memory; events = t.events; turns = t.turns; retains = t.retains; releases = t.releases })),
        ))
