-- What the first run holds more, where a copy became a move: the copied value's entry, while the copy's entry holds the same.
use Rattle.std.proofs.Common.{◌≡◌, inl, ℕ, zero, suc, ◌+◌, ◌<◌, List, ◌∷◌, set, get_or, length, refl, sym, ap, ◌∙◌, arith, false}
use Rattle.std.proofs.lemmas.Option.{unwrap_or-slice_get}
use Rattle.holder_model_values.specs.RunValues.Memory.{is_live}
use Rattle.sil_ast.specs.declared.decl.Storage.TheVariants as storage
use Rattle.sil_ast.specs.declared.function.Function.{Function}
use Rattle.sil_ast.specs.declared.module.Module.{Module}
use Rattle.sil_ast.specs.declared.place.FuncId.{FuncId}
use Rattle.sil_ast.specs.declared.place.ObjectId.{ObjectId}
use Rattle.sil_ast.specs.declared.place.PointId.{PointId}
use Rattle.sil_ast.specs.declared.place.ValueId.{ValueId}
use Rattle.sil_cfg.specs.declared.item.Item.{Item}
use Rattle.holder_model_laws.specs.holder_model.Frames.{Entry, Frame, Gone, Held, entry_at}
use Rattle.holder_model_laws.specs.holder_model.HolderStates.{HolderState, in_entry, in_task, strong_holders}
use Rattle.holder_model_laws.specs.holder_model.Holders.{in_memory, of_references, one_object}
use Rattle.holder_model_laws.specs.holder_model.ModuleFacts.{ModuleFacts}
use Rattle.holder_model_laws.specs.holder_model.Standing.{stands_at}
use Rattle.holder_model_laws.specs.holder_model.States.{Drops, Finishes, Runs, Task}
use Rattle.holder_model_laws.specs.HolderLaws.inner.Counts.Moving.{in_tasks}
use Rattle.holder_model_laws.specs.HolderLaws.inner.Counts.Taking.{in_entries}
use Rattle.holder_model_laws.proofs.HolderLaws.Counts.Entries.{entry_within}
use Rattle.holder_model_laws.proofs.HolderLaws.Counts.Moves.{first_task}
use Rattle.holder_model_laws.proofs.HolderLaws.Counts.Sums.{total_set}
use Rattle.holder_model_laws.specs.LockstepRuns.inner.Lockstep.{AreLevel, AreTasksLike, Excess, frame_at}
use Rattle.holder_model_laws.specs.LockstepRuns.inner.Parts.{AreDropsCovered, AreFinishesCovered, with_tasks}
use Rattle.copy_pairing_runs.specs.MovedRuns.inner.MovedFrames.{AreAt, IsAlone, IsCleared, IsLike}
use Rattle.copy_pairing_runs.proofs.MovedRuns.ClearedEntries.{stays}

-- ---- entries

held_within : (es : List Entry) (w : ValueId) (e : Entry) → entry_at es w ≡ e → (e ≡ Gone → ⊥) → w.0 < length es
held_within es w e is there = entry_within es w (λ x. there (sym is ∙ x))

module _ (weight : ObjectId → ℕ) where
  -- where the entry of a value goes, what it held isn't held any more
  pub total_cleared : (es : List Entry) (w : ValueId) (e : Entry) → entry_at es w ≡ e → (e ≡ Gone → ⊥)
      → in_entries weight es ≡ in_entries weight (set es w.0 Gone) + in_entry weight e
  total_cleared es w e is there =
      let changed = total_set (in_entry weight) es w.0 Gone Gone (held_within es w e is there) in
      let same : in_entry weight e ≡ in_entry weight (get_or es w.0 Gone) = ap (in_entry weight) (sym is ∙ unwrap_or-slice_get es w.0 Gone) in
      let none : in_entry weight Gone ≡ 0 = refl in
      omega (arith, changed, same, none)

-- what the one list holds more, and it's held in the other one too
pub record IsMore (total total' : ℕ) : Type 0 where
  pub more : ℕ
  pub sum : total ≡ total' + more
  pub held : 0 < more → 0 < total'

same_total : (a b : ℕ) → a ≡ b → IsMore a b
same_total a b e = record { more = 0; sum = omega (arith, e); held = λ some. absurd (omega (arith, some)) }

both_more : (a a' b b' : ℕ) → IsMore a a' → IsMore b b' → IsMore (a + b) (a' + b')
both_more a a' b b' x y =
    let i = x.sum in
    let j = y.sum in
    let k = x.more in
    let l = y.more in
    record { more = k + l; sum = omega (arith, i, j); held = λ some. held k l x.held y.held some }
  where
    held : (k l : ℕ) → (0 < k → 0 < a') → (0 < l → 0 < b') → 0 < k + l → 0 < a' + b'
    held zero l f g some = let z = g (omega (arith, some)) in omega (arith, z)
    held (suc k) l f g some = let z = f (omega arith) in omega (arith, z)

module _ (p : PointId) (c v : ValueId) (last : ℕ) (n : ℕ) (f f' : Function) (apart : c.0 ≡ v.0 → ⊥) where
  abbrev Like : FuncId → List Item → List Entry → List Item → List Entry → Type 0
  Like = IsLike p c v last n f f'

  abbrev Alone : FuncId → List Item → Type 0
  Alone = IsAlone p c v last n f f'

  module _ (weight : ObjectId → ℕ) where
    cleared_more : (es es' : List Entry) → IsCleared c v es es' → IsMore (in_entries weight es) (in_entries weight es')
    cleared_more es es' is =
        let gone = total_cleared weight es v (Held is.datum) is.copied (λ x. cc) in
        let left = total_cleared weight (set es v.0 Gone) c (Held is.datum) (stays es v c Gone apart ∙ is.copy) (λ x. cc) in
        let same : in_entries weight es' ≡ in_entries weight (set es v.0 Gone) = ap (in_entries weight) is.cleared in
        record {
          more = in_entry weight (Held is.datum);
          sum = omega (arith, gone, same);
          held = λ some. omega (arith, left, same, some);
        }

    frames_more : (g : FuncId) (t t' : List Item) (es es' : List Entry) → Like g t es t' es' → IsMore (in_entries weight es) (in_entries weight es')
    frames_more g t t' es es' (IsLike.elsewhere other trail same) = same_total _ _ (ap (in_entries weight) (sym same))
    frames_more g t t' es es' (IsLike.here is at) = by at
      where
        by : AreAt p c v last (stands_at f t) (stands_at f' t') es es' → IsMore (in_entries weight es) (in_entries weight es')
        by (AreAt.level point outside same) = same_total _ _ (ap (in_entries weight) (sym same))
        by (AreAt.lagging point lags cleared) = cleared_more es es' cleared

    moved_total : (t t' : Task Frame) (rest rest' : List (Task Frame)) → IsMore (in_task weight t + in_tasks weight rest) (in_task weight t' + in_tasks weight rest')
        → IsMore (in_tasks weight (t ∷ rest)) (in_tasks weight (t' ∷ rest'))
    moved_total t t' rest rest' x =
        let a = first_task weight t rest in
        let b = first_task weight t' rest' in
        let i = x.sum in
        record { more = x.more; sum = omega (arith, a, b, i); held = λ some. let z = x.held some in omega (arith, b, z) }

    pub tasks_more : (tasks tasks' : List (Task Frame)) → AreTasksLike Like tasks tasks' → IsMore (in_tasks weight tasks) (in_tasks weight tasks')
    tasks_more _ _ AreTasksLike.none = same_total 0 0 refl
    tasks_more _ _ (AreTasksLike.runs g slots lent trail trail' entries entries' rest rest' like below) =
        moved_total (Runs (frame_at g slots lent trail entries)) (Runs (frame_at g slots lent trail' entries')) rest rest'
        (both_more _ _ _ _ (frames_more g trail trail' entries entries' like) (tasks_more rest rest' below))
    tasks_more _ _ (AreTasksLike.drops os rest rest' below) =
        moved_total (Drops os) (Drops os) rest rest' (both_more _ _ _ _ (same_total (of_references weight os) (of_references weight os) refl) (tasks_more rest rest' below))
    tasks_more _ _ (AreTasksLike.finishes gs o rest rest' below) =
        moved_total (Finishes gs o) (Finishes gs o) rest rest' (both_more 0 0 _ _ (same_total 0 0 refl) (tasks_more rest rest' below))

  -- in whole states
  excess : (h r : HolderState) (o : ObjectId) (tasks tasks' : List (Task Frame)) (Spared : Type 0) → AreLevel h r → AreTasksLike Like tasks tasks'
      → Excess (strong_holders (with_tasks h tasks) o) (strong_holders (with_tasks r tasks') o) Spared
  excess h r o tasks tasks' Spared level below =
      let x = tasks_more (one_object o) tasks tasks' below in
      let i = x.sum in
      let memory : in_memory (one_object o) storage.Strong r.memory ≡ in_memory (one_object o) storage.Strong h.memory =
      ap (in_memory (one_object o) storage.Strong) level.memory in
      record { more = x.more; sum = omega (arith, i, memory); covered = λ some. inl (let z = x.held some in omega (arith, z)) }

  module _ (m m' : Module) (told told' : ModuleFacts) (bound : ℕ) (First Second : HolderState → Type 0) where
    pub drops_covered : AreDropsCovered m m' told told' bound First Second Like Alone
    drops_covered h r o os rest rest' at =
        excess h r o (Drops os ∷ rest) (Drops os ∷ rest') (is_live r.memory o ≡ false) at.level (AreTasksLike.drops os rest rest' at.below)

    pub finishes_covered : AreFinishesCovered m m' told told' bound First Second Like Alone
    finishes_covered h r o rest rest' at = excess h r o rest rest' ⊥ at.level at.below
