-- An instruction that is no call, in both runs: the lowered run moves, or less is left of the block.
use Rattle.std.proofs.Common.{◌≡◌, inl, ℕ, suc, ◌-◌, ◌<◌, List, [], ◌∷◌, length, arith, refl, sym, ap, ◌∙◌, subst, Option, Some, None}
use Rattle.std.specs.Prelude.{slice_get}
use Rattle.std.proofs.lemmas.Option.{none-some, slice_get_within}
use Rattle.sil_ast.specs.declared.function.Block.{Block}
use Rattle.sil_ast.specs.declared.function.Function.{Function}
use Rattle.sil_ast.specs.declared.inst.Inst.{Inst}
use Rattle.sil_ast.specs.declared.module.Module.{Module}
use Rattle.sil_ast.specs.declared.place.ObjectId.{ObjectId}
use Rattle.sil_ast.specs.declared.place.PointId.{PointId}
use Rattle.sil_cfg.specs.declared.item.Item.TheVariants as item
use Rattle.sil_cfg_items.specs.Parts.{inst_at, inst_in}
use Rattle.holder_model_values.specs.RunValues.Places.{Place}
use Rattle.sil_verifier_runs.specs.holder_model.Effects.{Change}
use Rattle.sil_verifier_runs.specs.holder_model.Frames.{Entry, Frame}
use Rattle.sil_verifier_runs.specs.holder_model.HolderStates.{HolderState}
use Rattle.sil_verifier_runs.specs.holder_model.Standing.{point_behind, stands_at}
use Rattle.sil_verifier_runs.specs.holder_model.States.{Drops, Runs, Task, dropping}
use Rattle.sil_verifier_runs.specs.holder_model.LoweredRun.LowFrames.{LowFrame}
use Rattle.sil_verifier_runs.specs.holder_model.LoweredRun.LowStepParts.{LowState}
use Rattle.sil_verifier_runs.specs.holder_model_laws.StoredCounts.inner.Numbers.{AreCounts}
use Rattle.ownership_lowering_runs.specs.StoredRuns.inner.Frames.{AreTasksFor, IsTaskFor}
use Rattle.ownership_lowering_runs.specs.StoredRuns.inner.PlaceRows.{GoesAlong, LowGoes}
use Rattle.ownership_lowering_runs.specs.StoredRuns.inner.Points.{insts_of}
use Rattle.ownership_lowering_runs.specs.StoredRuns.inner.States.{IsStateFor}
use Rattle.ownership_lowering_runs.specs.SameRuns.inner.Followed.{GoesToo, left_from, left_in, left_of, low_next_of}
use Rattle.ownership_lowering_runs.specs.SameRuns.inner.InRightStates.{AtInst, behind_it}

-- behind an instruction less is left
pub less_from : (f : Function) (p : PointId) (i : Inst) → inst_at f p ≡ Some i → left_from f (point_behind p) < left_from f p
less_from f p i here = at (slice_get f.blocks p.block.0) here
  where
    at : (o : Option Block) → inst_in o p.index ≡ Some i → length (insts_of o) - suc p.index < length (insts_of o) - p.index
    at None e = absurd (none-some i e)
    at (Some b) e = let within = slice_get_within b.insts p.index i e in omega (arith, within)

-- a task that drops is beside none that runs
no_drops : (m : Module) (frame : Frame) (os : List ObjectId) (x : Task LowFrame) → IsTaskFor m (Runs frame) x → IsTaskFor m (Drops os) x → ⊥
no_drops m _ os _ (IsTaskFor.runs frame low h) k = dropped (Drops os) (Runs low) k refl refl
  where
    dropped : (a : Task Frame) (y : Task LowFrame) → IsTaskFor m a y → a ≡ Drops os → y ≡ Runs low → ⊥
    dropped _ _ (IsTaskFor.runs g lg hg) e g2 = absurd (cc)
    dropped _ _ (IsTaskFor.drops ps) e g2 = absurd (cc)
    dropped _ _ (IsTaskFor.finishes gs p) e g2 = absurd (cc)

no_drops_first : (m : Module) (frame : Frame) (os : List ObjectId) (rest others : List (Task Frame)) (xs : List (Task LowFrame))
    → AreTasksFor m (Runs frame ∷ rest) xs → AreTasksFor m (Drops os ∷ others) xs → ⊥
no_drops_first m frame os rest others [] h k = h
no_drops_first m frame os rest others (x ∷ xs) h k = no_drops m frame os x h.0 k.0

module _ (m : Module) (bound : ℕ) (s : HolderState) (l : LowState) (x : AtInst m s) (related : IsStateFor m s l)
    (c : Change) (slots : List Place) (entries : List Entry) where
  abbrev next : HolderState
  next = behind_it m bound s x c slots entries

  -- the lowered run hasn't moved: nothing is dropped
  less_left : IsStateFor m next l → left_of m next.tasks < left_of m s.tasks
  less_left after = at c.dropped after.tasks
    where
      moved : Frame
      moved = record x.frame { trail = item.Inst (stands_at x.f x.frame.trail) ∷ x.frame.trail; entries = entries; slots = slots; lent = [] }

      at : (os : List ObjectId) → AreTasksFor m (dropping os (Runs moved ∷ x.rest)) l.tasks → left_of m (dropping os (Runs moved ∷ x.rest)) < left_of m s.tasks
      at [] h =
          subst (λ n. n < left_of m s.tasks) (sym (ap (λ o. left_in o moved) x.there))
          (subst (λ ts. left_from x.f (point_behind (stands_at x.f x.frame.trail)) < left_of m ts) (sym x.is)
          (subst (λ n. left_from x.f (point_behind (stands_at x.f x.frame.trail)) < n) (sym (ap (λ o. left_in o x.frame) x.there))
          (less_from x.f (stands_at x.f x.frame.trail) x.i x.here)))
      at (o ∷ os) h = absurd (no_drops_first m x.frame (o ∷ os) x.rest (Runs moved ∷ x.rest) l.tasks (subst (λ ts. AreTasksFor m ts l.tasks) x.is related.tasks) h)

  pub row_followed : {stored : _} → (g : GoesAlong m bound l next stored) → AreCounts next stored → GoesToo m bound s l next
  row_followed g counts = by l g.low_next g.steps refl after
    where
      after : IsStateFor m next g.low_next
      after = record {
        tasks = g.along.tasks;
        memory = g.along.memory;
        parts = g.along.parts;
        counts = subst (AreCounts next) (sym g.numbers) counts;
        events = g.along.totals.events;
        turns = g.along.totals.turns;
        retains = g.along.totals.retains;
        releases = g.along.totals.releases;
      }

      by : (from low_next : LowState) → LowGoes m bound low_next from → from ≡ l → IsStateFor m next low_next → GoesToo m bound s l next
      by _ low_next LowGoes.there e h = let same = subst (IsStateFor m next) e h in GoesToo.stays (less_left same) same
      by _ low_next (LowGoes.more from behind step steps) e h = GoesToo.moves behind low_next (ap (low_next_of m bound) (sym e) ∙ step) steps (inl refl) h
