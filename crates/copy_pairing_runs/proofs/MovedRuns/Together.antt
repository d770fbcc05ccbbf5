-- The destroy that is gone: the first run makes it alone, and drops what the copied value held, while the copy holds the same. Then frames are level.
use Rattle.std.proofs.Common.{◌≡◌, ◌⊎◌, inl, inr, ℕ, suc, ◌+◌, List, [], ◌∷◌, set, refl, sym, ap, ◌∙◌, subst, arith, Bool, true, false, cond, Option, Some, Ok, Err}
use Rattle.std.specs.Prelude.{slice_get}
use Rattle.std.proofs.lemmas.Bool.{cases_eq}
use Rattle.sil_cfg_items.specs.Items.{item_defined, item_taken}
use Rattle.sil_cfg_items.specs.Parts.{inst_at}
use Rattle.ownership_kinds_chains.specs.OwnershipChains.Facts.{is_owned, known_or}
use Rattle.ownership_kinds_chains.specs.declared.ownership_chains.facts.Facts.{Facts}
use Rattle.holder_model_values.specs.RunValues.Places.{Place}
use Rattle.sil_ast.specs.declared.function.Function.{Function}
use Rattle.sil_ast.specs.declared.module.Module.{Module}
use Rattle.sil_ast.specs.declared.place.FuncId.{FuncId}
use Rattle.sil_ast.specs.declared.place.ObjectId.{ObjectId}
use Rattle.sil_ast.specs.declared.place.PointId.{PointId}
use Rattle.sil_ast.specs.declared.place.ValueId.{ValueId}
use Rattle.sil_cfg.specs.Items.{point_at}
use Rattle.sil_cfg.specs.declared.item.Item.{Item}
use Rattle.sil_cfg.specs.declared.item.Item.TheVariants as item
use Rattle.sil_types_declarations.specs.TypeDefinitions.Declarations.{declarations_of}
use Rattle.holder_model_laws.specs.holder_model.Data.{references_in}
use Rattle.holder_model_laws.specs.holder_model.Faults.{NamesDead}
use Rattle.holder_model_laws.specs.holder_model.Frames.{Entry, Frame, Gone, Held, Operands, any_dead, operands_of, results_put}
use Rattle.holder_model_laws.specs.holder_model.HolderStates.{HolderNext, HolderState}
use Rattle.holder_model_laws.specs.holder_model.Holders.{one_object}
use Rattle.holder_model_laws.specs.holder_model.ModuleFacts.{ModuleFacts, facts_told}
use Rattle.holder_model_laws.specs.holder_model.ModuleShapes.{shapes_in}
use Rattle.holder_model_laws.specs.holder_model.Outcomes.{run}
use Rattle.holder_model_laws.specs.holder_model.Standing.{point_behind, stands_at}
use Rattle.holder_model_laws.specs.holder_model.StepParts.{on_ok, on_some}
use Rattle.holder_model_laws.specs.holder_model.States.{Drops, Finishes, Goes, Runs, Task, dropping, step_on}
use Rattle.holder_model_laws.specs.holder_model.Steps as steps
use Rattle.holder_model_laws.proofs.HolderLaws.Counts.Moves.{first_task}
use Rattle.holder_model_laws.specs.LockstepRuns.inner.Frames.{AreSpared}
use Rattle.holder_model_laws.specs.LockstepRuns.inner.Lockstep.{AreAtRest, AreInStep, AreLevel, AreTasksLike, IsKeptBy, frame_at}
use Rattle.holder_model_laws.specs.LockstepRuns.inner.Parts.{ComeTogether}
use Rattle.holder_model_laws.proofs.LockstepRuns.Drained.{drained}
use Rattle.copy_pairing_acceptance.specs.MovedFunctions.inner.Structure.{old_point}
use Rattle.copy_pairing_acceptance.proofs.MovedFunctions.Marks.{destroy_defines, destroy_takes}
use Rattle.copy_pairing_acceptance.proofs.MovedFunctions.Places.{after, destroy_stood}
use Rattle.copy_pairing_acceptance.proofs.MovedFunctions.Split.{IsSplit}
use Rattle.copy_pairing_acceptance.proofs.MovedFunctions.TheCopy.{destroy_op}
use Rattle.copy_pairing_runs.specs.MovedRuns.inner.MovedFrames.{AreAt, IsAlone, IsCleared, IsLike, KnowsFrames, Lags}
use Rattle.copy_pairing_runs.proofs.MovedRuns.ClearedEntries.{stays}
use Rattle.copy_pairing_runs.proofs.MovedRuns.Covered.{total_cleared}
use Rattle.copy_pairing_runs.proofs.MovedRuns.EndsMoved.{is_point}
use Rattle.copy_pairing_runs.proofs.MovedRuns.MovedPoints.{copy_first, level_behind_gone}
use Rattle.copy_pairing_runs.proofs.MovedRuns.TheCopied.{consumed, destroys_so}

module _ (m m' : Module) (told told' : ModuleFacts) (n : ℕ) (f : Function) (in_module : slice_get m.functions n ≡ Some f)
    {p : PointId} {last : ℕ} {c v : ValueId} (s : IsSplit f p last c v) (bare : s.destroy.results ≡ []) (apart : c.0 ≡ v.0 → ⊥)
    (owned : (g : FuncId) → g.0 ≡ n → is_owned (known_or (facts_told told g) v).kind ≡ true)
    (bound : ℕ) (First Second : HolderState → Type 0) (kept : IsKeptBy m told bound First) where
  abbrev Like : FuncId → List Item → List Entry → List Item → List Entry → Type 0
  Like = IsLike p c v last n f (after s)

  abbrev Alone : FuncId → List Item → Type 0
  Alone = IsAlone p c v last n f (after s)

  abbrev gone_point : PointId
  gone_point = point_at p.block.0 last

  abbrev InStep : HolderState → HolderState → Type 0
  InStep = AreInStep Like Alone m told bound

  is_alone : (g : FuncId) (trail : List Item) → (Alone g trail) ⊎ (Alone g trail → ⊥)
  is_alone g trail = by (cases_eq g.0 n) (is_point (stands_at f trail) gone_point)
    where
      by : (g.0 ≡ n) ⊎ (g.0 ≡ n → ⊥) → (stands_at f trail ≡ gone_point) ⊎ (stands_at f trail ≡ gone_point → ⊥) → (Alone g trail) ⊎ (Alone g trail → ⊥)
      by (inl a) (inl b) = inl (a, b)
      by (inl a) (inr b) = inr (λ x. b x.1)
      by (inr a) b = inr (λ x. a x.0)

  now : (h r : HolderState) → AreTasksLike Like h.tasks r.tasks → AreLevel h r → AreAtRest Like Alone h.tasks → InStep h r
  now h r like level rest = record { ahead = 0; later = h; comes = refl; together = record { tasks = like; level = level; rest = rest } }

  -- ---- the destroy

  module _ (h r : HolderState) (g : FuncId) (slots : List Place) (trail trail' : List Item) (entries entries' : List Entry) (rest rest' : List (Task Frame))
      (first : First h) (g_is : g.0 ≡ n) (at : stands_at f trail ≡ gone_point) (at' : stands_at (after s) trail' ≡ gone_point)
      (tasks : h.tasks ≡ Runs (frame_at g slots [] trail entries) ∷ rest) (tasks' : r.tasks ≡ Runs (frame_at g slots [] trail' entries') ∷ rest')
      (level : AreLevel h r) (below : AreTasksLike Like rest rest') (is : IsCleared c v entries entries') where
    abbrev facts : ValueId → Option Facts
    facts = facts_told told g

    abbrev here : Item
    here = item.Inst (stands_at f trail)

    abbrev frame : Frame
    frame = frame_at g slots [] trail entries

    abbrev left : List Entry
    left = set entries v.0 Gone

    abbrev behind : Frame
    behind = frame_at g slots [] (here ∷ trail) left

    abbrev references : List ObjectId
    references = references_in is.datum

    abbrev next : HolderState
    next = record h { tasks = dropping references (Runs behind ∷ rest); retains = h.retains + 0 }

    abbrev go : Operands → HolderNext
    go ops = steps.performs m told bound h rest (record frame { entries = ops.left }) f here (steps.effect_in m told bound h frame s.destroy ops.given)

    step_is : steps.step m told bound h ≡ on_ok h go (operands_of facts h.memory entries (item_taken f here))
    step_is =
        ap (steps.task_step m told bound h) tasks
        ∙ ap (on_some h (λ k. steps.acts m told bound h rest frame k (stands_at k trail) (inst_at k (stands_at k trail)))) (ap (slice_get m.functions) g_is ∙ in_module)
        ∙ ap (steps.acts m told bound h rest frame f (stands_at f trail)) (ap (inst_at f) at ∙ destroy_stood s)

    operands : (b : Bool) → any_dead h.memory references ≡ b
        → operands_of facts h.memory entries (item_taken f here) ≡ cond b (Err NamesDead) (Ok (record { given = is.datum ∷ []; left = left }))
    operands b dead =
        ap (operands_of facts h.memory entries) (ap (λ q. item_taken f (item.Inst q)) at ∙ destroy_takes s)
        ∙ consumed facts v (owned g g_is) s.destroys.operand s.destroys.destroyed h.memory entries is.datum b is.copied dead

    names_none : any_dead h.memory references ≡ true → ⊥
    names_none dead = kept.faultless h h NamesDead first (step_is ∙ ap (on_ok h go) (operands true dead))

    goes : any_dead h.memory references ≡ false → steps.step m told bound h ≡ Goes next
    goes dead =
        step_is ∙ ap (on_ok h go) (operands false dead)
        ∙ ap (steps.performs m told bound h rest (frame_at g slots [] trail left) f here)
        (destroys_so (declarations_of m) told.shapes (shapes_in told.shapes g) h.memory s.destroy is.datum (destroy_op s))
        ∙ ap (λ vs. on_ok h (λ es. Goes (record h {
          tasks = dropping references (Runs (frame_at g slots [] (here ∷ trail) es) ∷ rest);
          memory = h.memory;
          retains = h.retains + 0;
        })) (results_put facts vs [] left)) (ap (λ q. item_defined f (item.Inst q)) at ∙ destroy_defines s bare)

    -- the copy holds each of them still
    spared : AreSpared h.memory (Runs behind ∷ rest) references
    spared o some =
        let top = first_task (one_object o) (Runs behind) rest in
        let copy = total_cleared (one_object o) left c (Held is.datum) (stays entries v c Gone apart ∙ is.copy) (λ q. cc) in
        inl (omega (arith, some, top, copy))

    like_behind : AreTasksLike Like (Runs behind ∷ rest) r.tasks
    like_behind =
        let points = level_behind_gone s in
        subst (AreTasksLike Like (Runs behind ∷ rest)) (sym tasks')
        (AreTasksLike.runs g slots [] (here ∷ trail) trail' left entries' rest rest'
        (IsLike.here g_is (AreAt.level (ap point_behind at ∙ points.0 ∙ ap (old_point p last) (sym at')) (λ lags. points.1 (subst (λ q. Lags p c v last (point_behind q)) at lags))
        is.cleared)) below)

    not_alone : Alone g (here ∷ trail) → ⊥
    not_alone alone =
        let index : suc (stands_at f trail).index ≡ last = ap (λ (q : PointId). q.index) alone.1 in
        let was : (stands_at f trail).index ≡ last = ap (λ (q : PointId). q.index) at in
        omega (arith, index, was)

    dropped : (os : List ObjectId) → next.tasks ≡ dropping os (Runs behind ∷ rest) → AreSpared h.memory (Runs behind ∷ rest) os → InStep next r
    dropped [] e free =
        now next r (subst (λ ts. AreTasksLike Like ts r.tasks) (sym e) like_behind)
        (record {
          memory = level.memory;
          events = level.events;
          turns = level.turns;
          retains = let a = level.retains in omega (arith, a);
          releases = level.releases;
        })
        (subst (AreAtRest Like Alone) (sym e) not_alone)
    dropped (o ∷ os) e free =
        let d = drained m told bound next (o ∷ os) (Runs behind ∷ rest) e free in
        record {
          ahead = d.count;
          later = d.later;
          comes = d.comes;
          together = record {
            tasks = subst (λ ts. AreTasksLike Like ts r.tasks) (sym d.tasks) like_behind;
            level = record {
              memory = level.memory ∙ sym d.memory;
              events = level.events ∙ sym d.events;
              turns = level.turns ∙ sym d.turns;
              retains = let a = level.retains in let b = d.retains in omega (arith, a, b);
              releases = let a = level.releases in let b = d.releases in omega (arith, a, b);
            };
            rest = subst (AreAtRest Like Alone) (sym d.tasks) not_alone;
          };
        }

    pub destroyed : InStep h r
    destroyed = by (any_dead h.memory references) refl
      where
        by : (b : Bool) → any_dead h.memory references ≡ b → InStep h r
        by true dead = absurd (names_none dead)
        by false dead =
            let x = dropped references refl spared in
            record {
              ahead = suc x.ahead;
              later = x.later;
              comes = ap (step_on (run (steps.step m told bound) x.ahead)) (goes dead) ∙ x.comes;
              together = x.together;
            }

  -- ---- all tasks

  module _ (knows : KnowsFrames p c v last n f (after s) First) where
    pub come_together : ComeTogether m m' told told' bound First Second Like Alone
    come_together h r first second like level = by h.tasks r.tasks refl refl like
      where
        rests : (ts : List (Task Frame)) → h.tasks ≡ ts → AreAtRest Like Alone ts → InStep h r
        rests ts e rest = now h r like level (subst (AreAtRest Like Alone) (sym e) rest)

        gone_lags : Lags p c v last gone_point
        gone_lags = let lt = copy_first s in record { block = refl; behind = lt; until = omega arith }

        by : (ts ts' : List (Task Frame)) → h.tasks ≡ ts → r.tasks ≡ ts' → AreTasksLike Like ts ts' → InStep h r
        by _ _ e e' AreTasksLike.none = rests [] e tt
        by _ _ e e' (AreTasksLike.drops os rest rest' below) = rests (Drops os ∷ rest) e tt
        by _ _ e e' (AreTasksLike.finishes gs o rest rest' below) = rests (Finishes gs o ∷ rest) e tt
        by _ _ e e' (AreTasksLike.runs g slots lent trail trail' entries entries' rest rest' similar below) = decide (is_alone g trail) similar
          where
            decide : (Alone g trail) ⊎ (Alone g trail → ⊥) → Like g trail entries trail' entries' → InStep h r
            decide (inr other) similar = rests (Runs (frame_at g slots lent trail entries) ∷ rest) e other
            decide (inl alone) (IsLike.elsewhere other t es) = absurd (other alone.0)
            decide (inl alone) (IsLike.here is (AreAt.level point outside same)) =
                absurd (outside (subst (Lags p c v last) (sym alone.1) gone_lags))
            decide (inl alone) (IsLike.here is (AreAt.lagging same lags cleared)) =
                let none_lent : lent ≡ [] = (knows.held h first g is slots lent trail entries rest e).2 in
                destroyed h r g slots trail trail' entries entries' rest rest' first is alone.1 (same ∙ alone.1)
                (e ∙ ap (λ ls. Runs (frame_at g slots ls trail entries) ∷ rest) none_lent) (e' ∙ ap (λ ls. Runs (frame_at g slots ls trail' entries') ∷ rest') none_lent)
                level below cleared
