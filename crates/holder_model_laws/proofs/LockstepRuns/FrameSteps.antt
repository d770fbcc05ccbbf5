-- The items of frames, where those of each function do alike: calls and returns too.
use Rattle.std.proofs.Common.{◌≡◌, ℕ, arith, List, [], ◌∷◌, ◌++◌, map, refl, sym, ap, ◌∙◌, subst, Some, Ok, inl, inr}
use Rattle.std.specs.Prelude.{ℤ, slice_get}
use Rattle.sil_ast.specs.declared.function.Function.{Function}
use Rattle.sil_ast.specs.declared.module.Module.{Module}
use Rattle.sil_ast.specs.declared.place.FuncId.{FuncId}
use Rattle.sil_cfg.specs.declared.item.Item.{Item}
use Rattle.holder_model.specs.holder_model_values.RunValues.Places.{Place}
use Rattle.holder_model.specs.declared.event.Event.TheVariants as event
use Rattle.holder_model.specs.Calling.{are_as_before, as_argument, handed_over}
use Rattle.holder_model.specs.Data.{Datum, as_value}
use Rattle.holder_model.specs.Effects as effects
use Rattle.holder_model.specs.Effects.{Change, Effect, unchanged}
use Rattle.holder_model.specs.Faults.{HolderFault, PlaceNotAsAsked}
use Rattle.holder_model.specs.Frames.{Entry, Frame, LentPlace, has_any}
use Rattle.holder_model.specs.HolderStates.{HolderNext, HolderState}
use Rattle.holder_model.specs.ModuleFacts.{ModuleFacts}
use Rattle.holder_model.specs.Outcomes.{left_by}
use Rattle.holder_model.specs.StepParts.{fault, on_some, slots_behind}
use Rattle.holder_model.specs.States.{Ends, Finishes, Returned, Runs, Task, Trapped, dropping}
use Rattle.holder_model.specs.Steps as steps
use Rattle.holder_model_laws.specs.LockstepRuns.inner.Frames.{AreSpared, AreCallsAlike, AreChangesAlike, AreDropsAlike, AreEffectsAlike, DoAlike, lends, no_value}
use Rattle.holder_model_laws.specs.LockstepRuns.inner.Lockstep.{AreInStep, AreLevel, ArePutAlike, AreTasksLike, IsKeptBy, frame_at}
use Rattle.holder_model_laws.specs.LockstepRuns.inner.Parts.{HasFunctions, call_at, puts}
use Rattle.holder_model_laws.proofs.LockstepRuns.Alike as alike
use Rattle.holder_model_laws.proofs.LockstepRuns.Drained.{in_step_drained}

module _ (m m' : Module) (told told' : ModuleFacts) (bound : ℕ) (First Second : HolderState → Type 0)
    (Like : FuncId → List Item → List Entry → List Item → List Entry → Type 0) (Alone : FuncId → List Item → Type 0)
    (kept : IsKeptBy m told bound First) (functions : HasFunctions m m')
    (alone : (h r : HolderState) → First h → Second r → AreTasksLike Like h.tasks r.tasks → AreLevel h r → AreInStep Like Alone m told bound h r)
    (frames : (g : FuncId) (f f' : Function) → slice_get m.functions g.0 ≡ Some f → slice_get m'.functions g.0 ≡ Some f'
    → DoAlike m m' told told' bound First Second Like Alone g f f') where
  abbrev Alike : HolderNext → HolderNext → Type 0
  Alike = alike.Alike m m' told told' bound First Second Like Alone

  -- ---- an item

  module _ (g : FuncId) (f f' : Function) (slots : List Place) (lent lent' : List LentPlace) (trail trail' : List Item) (i i' : Item) (left left' : List Entry)
      (rest rest' : List (Task Frame)) (below : AreTasksLike Like rest rest') (s s' : HolderState) (l : AreLevel s s') where
    abbrev Changes : Change → Change → Type 0
    Changes = AreChangesAlike m m' told told' bound First Second Like Alone g f f' trail trail' i i' left left' rest

    -- behind an item at which the first run alone drops references
    drains : (c c' : Change) → Changes c c' → c'.dropped ≡ [] → ((slots : List Place) (entries : List Entry) → puts told g f i c.results left ≡ Ok entries
        → AreSpared c.memory (Runs (frame_at g slots [] (i ∷ trail) entries) ∷ rest) c.dropped)
        → Alike (steps.goes_on m told bound s rest (frame_at g slots lent trail left) f i c)
        (steps.goes_on m' told' bound s' rest' (frame_at g slots lent' trail' left') f' i' c')
    drains c c' a none spared =
        alike.ok_alike m m' told told' bound First Second Like Alone s s' _ _ (slots_behind c.slots slots) (slots_behind c'.slots slots) (λ behind is. (
          behind,
          ap (λ q. slots_behind q slots) a.slots ∙ is,
          alike.ok_alike m m' told told' bound First Second Like Alone s s' _ _ (puts told g f i c.results left) (puts told' g f' i' c'.results left')
              (λ es put_is.
              let z = a.put es put_is in (
                z.0,
                z.1,
                inr (λ first second. in_step_drained m told bound First kept Second Like Alone alone _ _ c.dropped (Runs (frame_at g behind [] (i ∷ trail) es) ∷ rest)
                    first second refl (spared behind es put_is)
                    (subst (λ os. AreTasksLike Like (Runs (frame_at g behind [] (i ∷ trail) es) ∷ rest) (dropping os (Runs (frame_at g behind [] (i' ∷ trail') z.0) ∷ rest')))
                    (sym none) (AreTasksLike.runs g behind [] (i ∷ trail) (i' ∷ trail') es z.0 rest rest' z.2 below))
                    (record {
                      memory = a.memory;
                      events = l.events;
                      turns = l.turns;
                      retains = let x = l.retains in let y = a.retained in omega (arith, x, y);
                      releases = l.releases;
                    })),
              )),
        ))

    pub goes_behind : (c c' : Change) → Changes c c'
        → Alike (steps.goes_on m told bound s rest (frame_at g slots lent trail left) f i c)
        (steps.goes_on m' told' bound s' rest' (frame_at g slots lent' trail' left') f' i' c')
    goes_behind c c' a = by a.dropped
      where
        by : AreDropsAlike m m' told told' bound First Second Like Alone g f f' trail trail' i i' left left' rest c c'
            → Alike (steps.goes_on m told bound s rest (frame_at g slots lent trail left) f i c)
            (steps.goes_on m' told' bound s' rest' (frame_at g slots lent' trail' left') f' i' c')
        by (AreDropsAlike.both same) =
            alike.goes_on_alike m m' told told' bound First Second Like Alone alone s s' rest rest' g f f' slots lent lent' trail trail' left left' i i' c c' l below
            (record { dropped = same; memory = a.memory; slots = a.slots; retained = a.retained }) a.put
        by (AreDropsAlike.alone none spared) = drains c c' a none spared

    -- ---- calls

    module _ (k : FuncId) (args : List Datum) (callee callee' : Function) (is : slice_get m.functions k.0 ≡ Some callee)
        (is' : slice_get m'.functions k.0 ≡ Some callee') where
      -- the places are as the call asks for, and the callee is entered over the frame that waits
      lends_alike : (places : List LentPlace) → Like g trail left trail' left'
          → Alike (steps.lends m told bound s rest (frame_at g slots lent trail left) k callee places args)
          (steps.lends m' told' bound s' rest' (frame_at g slots lent' trail' left') k callee' places args)
      lends_alike places like =
          alike.cond_alike m m' told told' bound First Second Like Alone (are_as_before s.memory places) (are_as_before s'.memory places) _ (fault s PlaceNotAsAsked) _
          (fault s' PlaceNotAsAsked) (ap (λ y. are_as_before y places) l.memory)
          (λ so. alike.calls_in_alike m m' told told' bound First Second Like Alone alone (record s { memory = handed_over s.memory places })
          (record s' { memory = handed_over s'.memory places }) (Runs (frame_at g slots places trail left) ∷ rest) (Runs (frame_at g slots places trail' left') ∷ rest')
          k callee callee' (map as_argument args)
          (record {
            memory = ap (λ y. handed_over y places) l.memory;
            events = l.events;
            turns = l.turns;
            retains = l.retains;
            releases = l.releases;
          })
          (AreTasksLike.runs g slots places trail trail' left left' rest rest' like below) ((frames k callee callee' is is').enter (map as_argument args)))
          (λ other. inl tt)

      -- a function without a body: a turn and an event
      calls_out_alike : (numbers : List ℤ) → ArePutAlike Like g (i ∷ trail) (i' ∷ trail') (puts told g f i no_value left) (puts told' g f' i' no_value left')
          → Alike (steps.calls_out m told bound s rest (frame_at g slots lent trail left) f i k numbers)
          (steps.calls_out m' told' bound s' rest' (frame_at g slots lent' trail' left') f' i' k numbers)
      calls_out_alike numbers out =
          alike.turn_alike m m' told told' bound First Second Like Alone s s'
          (λ t. steps.goes_on m told bound (record t { events = t.events ++ event.Call k numbers ∷ [] }) rest (frame_at g slots lent trail left) f i
          (record (unchanged t.memory) { results = no_value }))
          (λ t. steps.goes_on m' told' bound (record t { events = t.events ++ event.Call k numbers ∷ [] }) rest' (frame_at g slots lent' trail' left') f' i'
          (record (unchanged t.memory) { results = no_value })) l
          (λ t. alike.goes_on_alike m m' told told' bound First Second Like Alone alone _ _ rest rest' g f f' slots lent lent' trail trail' left left' i i'
          (record (unchanged s.memory) { results = no_value }) (record (unchanged s'.memory) { results = no_value })
          (record {
            memory = l.memory;
            events = ap (λ x. x ++ event.Call k numbers ∷ []) l.events;
            turns = t.turns;
            retains = l.retains;
            releases = l.releases;
          }) below
          (record { dropped = refl; memory = l.memory; slots = refl; retained = omega arith }) out)

      called_alike : lends f' i' args ≡ lends f i args → Like g trail left trail' left'
          → ArePutAlike Like g (i ∷ trail) (i' ∷ trail') (puts told g f i no_value left) (puts told' g f' i' no_value left')
          → Alike (steps.calls m told bound s rest (frame_at g slots lent trail left) f i k args callee)
          (steps.calls m' told' bound s' rest' (frame_at g slots lent' trail' left') f' i' k args callee')
      called_alike places like out =
          alike.cond_alike m m' told told' bound First Second Like Alone (has_any callee.blocks) (has_any callee'.blocks)
          (steps.lends m told bound s rest (frame_at g slots lent trail left) k callee (lends f i args) args)
          (on_some s (steps.calls_out m told bound s rest (frame_at g slots lent trail left) f i k) (steps.numbers_of m told bound args))
          (steps.lends m' told' bound s' rest' (frame_at g slots lent' trail' left') k callee' (lends f' i' args) args)
          (on_some s' (steps.calls_out m' told' bound s' rest' (frame_at g slots lent' trail' left') f' i' k) (steps.numbers_of m' told' bound args))
          (functions.stands k callee callee' is is').bodied
          (λ so. subst (λ x. Alike (steps.lends m told bound s rest (frame_at g slots lent trail left) k callee (lends f i args) args)
          (steps.lends m' told' bound s' rest' (frame_at g slots lent' trail' left') k callee' x args)) (sym places) (lends_alike (lends f i args) like))
          (λ other. alike.some_alike m m' told told' bound First Second Like Alone s s' _ _ (steps.numbers_of m told bound args) (steps.numbers_of m' told' bound args)
          (λ numbers found. (numbers, found, calls_out_alike numbers out)))

    calls_alike : (k k' : FuncId) (args args' : List Datum)
        → AreCallsAlike m m' told told' bound First Second Like Alone g f f' trail trail' i i' left left' rest k k' args args'
        → Alike (steps.performs m told bound s rest (frame_at g slots lent trail left) f i (effects.Calls k args))
        (steps.performs m' told' bound s' rest' (frame_at g slots lent' trail' left') f' i' (effects.Calls k' args'))
    calls_alike k k' args args' a =
        subst (λ x. Alike (steps.performs m told bound s rest (frame_at g slots lent trail left) f i (effects.Calls k args))
        (steps.performs m' told' bound s' rest' (frame_at g slots lent' trail' left') f' i' (effects.Calls x args'))) (sym a.callee)
        (subst (λ x. Alike (steps.performs m told bound s rest (frame_at g slots lent trail left) f i (effects.Calls k args))
        (steps.performs m' told' bound s' rest' (frame_at g slots lent' trail' left') f' i' (effects.Calls k x))) (sym a.given)
        (alike.some_alike m m' told told' bound First Second Like Alone s s' _ _ (slice_get m.functions k.0) (slice_get m'.functions k.0) (λ callee is.
        let z = functions.function k callee is in (z.0, z.1, called_alike k args callee z.0 is z.1 a.lent a.waits a.out))))

    -- ---- what an instruction does

    pub effects_alike : (e e' : Effect HolderFault) → AreEffectsAlike m m' told told' bound First Second Like Alone g f f' trail trail' i i' left left' rest e e'
        → Alike (steps.performs m told bound s rest (frame_at g slots lent trail left) f i e)
        (steps.performs m' told' bound s' rest' (frame_at g slots lent' trail' left') f' i' e')
    effects_alike (effects.Makes c) (effects.Makes c') a = goes_behind c c' a
    effects_alike (effects.Makes c) (effects.Calls k' args') a = absurd a
    effects_alike (effects.Makes c) (effects.Traps t') a = absurd a
    effects_alike (effects.Makes c) (effects.Faults x') a = absurd a
    effects_alike (effects.Makes c) effects.Unfit a = absurd a
    effects_alike (effects.Calls k args) (effects.Makes c') a = absurd a
    effects_alike (effects.Calls k args) (effects.Calls k' args') a = calls_alike k k' args args' a
    effects_alike (effects.Calls k args) (effects.Traps t') a = absurd a
    effects_alike (effects.Calls k args) (effects.Faults x') a = absurd a
    effects_alike (effects.Calls k args) effects.Unfit a = absurd a
    effects_alike (effects.Traps t) (effects.Makes c') a = absurd a
    effects_alike (effects.Traps t) (effects.Calls k' args') a = absurd a
    effects_alike (effects.Traps t) (effects.Traps t') a =
        subst (λ x. Alike (Ends (Trapped t) s) (Ends (Trapped x) s')) (sym a) (alike.ends_alike m m' told told' bound First Second Like Alone (Trapped t) s s' refl l)
    effects_alike (effects.Traps t) (effects.Faults x') a = absurd a
    effects_alike (effects.Traps t) effects.Unfit a = absurd a
    effects_alike (effects.Faults x) other a = inl tt
    effects_alike effects.Unfit other a = inl tt

  -- ---- returns

  pub returned_alike : (callee : Frame) (s s' : HolderState) → First s → AreLevel s s' → (x : Datum) (rest rest' : List (Task Frame))
      → s.tasks ≡ Runs callee ∷ rest → AreTasksLike Like rest rest'
      → Alike (steps.returns_to m told bound s x rest) (steps.returns_to m' told' bound s' x rest')
  returned_alike callee s s' first l x _ _ tasks AreTasksLike.none =
      alike.some_alike m m' told told' bound First Second Like Alone s s' _ _ (as_value x) (as_value x) (λ v is. (
        v,
        is,
        alike.ends_alike m m' told told' bound First Second Like Alone (Returned v) (record s { tasks = [] }) (record s' { tasks = [] })
            (ap (λ y. left_by (record s { tasks = []; memory = y }) (Returned v)) l.memory)
            (record { memory = l.memory; events = l.events; turns = l.turns; retains = l.retains; releases = l.releases }),
      ))
  returned_alike callee s s' first l x _ _ tasks (AreTasksLike.runs g slots lent trail trail' entries entries' rest rest' like below) =
      alike.some_alike m m' told told' bound First Second Like Alone s s' _ _ (slice_get m.functions g.0) (slice_get m'.functions g.0) (λ f is.
      let z = functions.function g f is in (
        z.0,
        z.1,
        alike.goes_on_alike m m' told told' bound First Second Like Alone alone s s' rest rest' g f z.0 slots lent lent trail trail' entries entries'
            (call_at f trail) (call_at z.0 trail') (record (unchanged s.memory) { results = x ∷ [] }) (record (unchanged s'.memory) { results = x ∷ [] }) l below
            (record { dropped = refl; memory = l.memory; slots = refl; retained = omega arith })
            ((frames g f z.0 is z.1).resume s callee slots lent trail trail' entries entries' rest x first tasks like),
      ))
  returned_alike callee s s' first l x _ _ tasks (AreTasksLike.drops os rest rest' below) = inl tt
  returned_alike callee s s' first l x _ _ tasks (AreTasksLike.finishes gs o rest rest' below) =
      alike.goes_alike m m' told told' bound First Second Like Alone alone (record s { tasks = Finishes gs o ∷ rest }) (record s' { tasks = Finishes gs o ∷ rest' })
      (AreTasksLike.finishes gs o rest rest' below)
      (record { memory = l.memory; events = l.events; turns = l.turns; retains = l.retains; releases = l.releases })
