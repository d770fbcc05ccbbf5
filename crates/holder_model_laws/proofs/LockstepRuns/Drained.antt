-- References that the first run alone drops, where each of their objects has another holder or isn't live: nothing comes of them.
use Rattle.std.proofs.Common.{◌≡◌, ◌<◌, ◌≤◌, ℕ, zero, suc, ◌+◌, arith, List, [], ◌∷◌, refl, sym, ap, ◌∙◌, subst, false, cond, ◌⊎◌, ⊎_elim, inl, inr, eq-eqb}
use Rattle.sil_ast.specs.declared.module.Module.{Module}
use Rattle.sil_ast.specs.declared.place.FuncId.{FuncId}
use Rattle.sil_ast.specs.declared.place.ObjectId.{ObjectId}
use Rattle.sil_cfg.specs.declared.item.Item.{Item}
use Rattle.sil_types_declarations.specs.TypeDefinitions.Declarations.{declarations_of}
use Rattle.holder_model.specs.holder_model_values.RunValues.Memory.{is_live}
use Rattle.holder_model.specs.Dropping.{deinitialises, drop_with}
use Rattle.holder_model.specs.Frames.{Entry, Frame}
use Rattle.holder_model.specs.Holders.{of_references, one_object}
use Rattle.holder_model.specs.HolderStates.{HolderNext, HolderState, strong_holders}
use Rattle.holder_model.specs.ModuleFacts.{ModuleFacts}
use Rattle.holder_model.specs.Outcomes.{run}
use Rattle.holder_model.specs.States.{Drops, Ends, Goes, Task, dropping, step_on}
use Rattle.holder_model.specs.Steps as steps
use Rattle.holder_model_laws.proofs.HolderLaws.Counts.Moves.{first_task}
use Rattle.holder_model_laws.proofs.HolderLaws.Counts.Sums.{total_cons}
use Rattle.holder_model_laws.specs.LockstepRuns.inner.Frames.{AreSpared}
use Rattle.holder_model_laws.specs.LockstepRuns.inner.Lockstep.{AreInStep, AreLevel, AreTasksLike, IsKeptBy}

counts_itself : (o : ObjectId) → one_object o o ≡ 1
counts_itself o = ap (λ b. cond b 1 0) (eq-eqb o.0 o.0 refl)

module _ (m : Module) (told : ModuleFacts) (bound : ℕ) where
  abbrev dropping_one : HolderState → ObjectId → ℕ → HolderNext
  dropping_one s o n = drop_with (declarations_of m) bound s o n

  -- one drop leads on to the next
  one_drop : (s : HolderState) (o : ObjectId) (n : ℕ) → (0 < n) ⊎ (is_live s.memory o ≡ false) → dropping_one s o n ≡ Goes s
  one_drop s o (suc n) h = refl
  one_drop s o zero h =
      let dead : is_live s.memory o ≡ false = ⊎_elim (λ a. absurd (omega (arith, a))) (λ a. a) h in
      ap (λ b. cond b (deinitialises (declarations_of m) bound s o) (Goes s)) dead

  drop_step : (s : HolderState) (o : ObjectId) (os : List ObjectId) (rest : List (Task Frame)) → s.tasks ≡ Drops (o ∷ os) ∷ rest
      → AreSpared s.memory rest (o ∷ os) → steps.step m told bound s ≡ Goes (record s { tasks = Drops os ∷ rest; releases = s.releases + 1 })
  drop_step s o os rest is spared =
      ap (steps.task_step m told bound s) is ∙ one_drop (record s { tasks = Drops os ∷ rest; releases = s.releases + 1 }) o
      (strong_holders (record s { tasks = Drops os ∷ rest; releases = s.releases + 1 }) o)
      (let named : of_references (one_object o) (o ∷ os) ≡ one_object o o + of_references (one_object o) os = total_cons (one_object o) o os in
      let itself = counts_itself o in
      let first = first_task (one_object o) (Drops os) rest in
      ⊎_elim (λ a. inl (omega (arith, a, first))) (λ a. inr a) (spared o (omega (arith, named, itself))))

  -- the references are gone, and nothing else has changed
  pub record IsDrained (s : HolderState) (rest : List (Task Frame)) : Type 0 where
    pub count : ℕ
    pub later : HolderState
    pub comes : run (steps.step m told bound) count s ≡ Goes later
    pub tasks : later.tasks ≡ rest
    pub memory : later.memory ≡ s.memory
    pub events : later.events ≡ s.events
    pub turns : later.turns ≡ s.turns
    pub retains : later.retains ≡ s.retains
    pub releases : s.releases ≤ later.releases

  pub drained : (s : HolderState) (os : List ObjectId) (rest : List (Task Frame)) → s.tasks ≡ Drops os ∷ rest → AreSpared s.memory rest os → IsDrained s rest
  drained s [] rest is spared = record {
    count = 1;
    later = record s { tasks = rest };
    comes = ap (step_on (run (steps.step m told bound) 0)) (ap (steps.task_step m told bound s) is);
    tasks = refl;
    memory = refl;
    events = refl;
    turns = refl;
    retains = refl;
    releases = omega arith;
  }
  drained s (o ∷ os) rest is spared =
      let next : HolderState = record s { tasks = Drops os ∷ rest; releases = s.releases + 1 } in
      let d = drained next os rest refl (λ p some. spared p (let named = total_cons (one_object p) o os in omega (arith, some, named))) in
      record {
        count = suc d.count;
        later = d.later;
        comes = ap (step_on (run (steps.step m told bound) d.count)) (drop_step s o os rest is spared) ∙ d.comes;
        tasks = d.tasks;
        memory = d.memory;
        events = d.events;
        turns = d.turns;
        retains = d.retains;
        releases = let a = d.releases in omega (arith, a);
      }

  module _ (First : HolderState → Type 0) (kept : IsKeptBy m told bound First) where
    kept_along : (a : ℕ) (s t : HolderState) → First s → run (steps.step m told bound) a s ≡ Goes t → First t
    kept_along zero s t first to = let same : s ≡ t = cc in subst First same first
    kept_along (suc a) s t first to = by (steps.step m told bound s) refl to (λ next first to. kept_along a next t first to)
      where
        by : (n : HolderNext) → steps.step m told bound s ≡ n → step_on (run (steps.step m told bound) a) n ≡ Goes t
            → ((next : HolderState) → First next → run (steps.step m told bound) a next ≡ Goes t → First t) → First t
        by (Goes next) is to go = go next (kept.goes s next first is) to
        by (Ends e last) is to go = absurd (cc)

    module _ (Second : HolderState → Type 0) (Like : FuncId → List Item → List Entry → List Item → List Entry → Type 0) (Alone : FuncId → List Item → Type 0)
        (alone : (h r : HolderState) → First h → Second r → AreTasksLike Like h.tasks r.tasks → AreLevel h r → AreInStep Like Alone m told bound h r) where
      -- who is in step after some steps of the first run is so before them
      in_step_over : (a : ℕ) (h t r : HolderState) → run (steps.step m told bound) a h ≡ Goes t → AreInStep Like Alone m told bound t r
          → AreInStep Like Alone m told bound h r
      in_step_over zero h t r to z = let same : h ≡ t = cc in subst (λ x. AreInStep Like Alone m told bound x r) (sym same) z
      in_step_over (suc a) h t r to z = by (steps.step m told bound h) refl to (λ next to. in_step_over a next t r to z)
        where
          by : (n : HolderNext) → steps.step m told bound h ≡ n → step_on (run (steps.step m told bound) a) n ≡ Goes t
              → ((next : HolderState) → run (steps.step m told bound) a next ≡ Goes t → AreInStep Like Alone m told bound next r)
              → AreInStep Like Alone m told bound h r
          by (Goes next) is to go =
              let y = go next to in
              record { ahead = suc y.ahead; later = y.later; comes = ap (step_on (run (steps.step m told bound) y.ahead)) is ∙ y.comes; together = y.together }
          by (Ends e last) is to go = absurd (cc)

      pub in_step_drained : (h r : HolderState) (os : List ObjectId) (tasks : List (Task Frame)) → First h → Second r → h.tasks ≡ dropping os tasks
          → AreSpared h.memory tasks os → AreTasksLike Like tasks r.tasks → AreLevel h r → AreInStep Like Alone m told bound h r
      in_step_drained h r [] tasks first second is spared like l = alone h r first second (subst (λ ts. AreTasksLike Like ts r.tasks) (sym is) like) l
      in_step_drained h r (o ∷ os) tasks first second is spared like l =
          let d = drained h (o ∷ os) tasks is spared in
          let z = alone d.later r (kept_along d.count h d.later first d.comes) second (subst (λ ts. AreTasksLike Like ts r.tasks) (sym d.tasks) like) (record {
            memory = l.memory ∙ sym d.memory;
            events = l.events ∙ sym d.events;
            turns = l.turns ∙ sym d.turns;
            retains = let a = l.retains in let b = d.retains in omega (arith, a, b);
            releases = let a = l.releases in let b = d.releases in omega (arith, a, b);
          }) in
          in_step_over d.count h d.later r d.comes z
