use Rattle.std.proofs.Common.{◌≡◌, ◌<◌, length, set, ap, true, List, ℕ, subst, ◌∙◌, arith, inl, inr}
use Rattle.sil_cfg.specs.Flow.{block_count, edge_to, edge_id, numbered}
use Rattle.reach_engine.specs.inner.Reached.{EdgeTaken}
use Rattle.reach_engine.proofs.RowsMoved.{edges_more}
use Rattle.reach_engine.proofs.DirtyBlocks.{marks_more}
use Rattle.reach_engine.proofs.rows.take_edges.Goals as goal
use Rattle.reach_engine.proofs.rows.take_edges.Goals.{then-take_edge, else-take_edge}

pub loop-index-preserved : goal.loop-index-preserved
loop-index-preserved g c =
    let P : List ℕ → Type 0 = λ bundle. EdgeTaken (numbered c.args.g.now) (g.F.Family.step_of c.args.family.now) (g.F.Family.state_count c.args.family.now) (g.F.Family.subject_count c.args.family.now)
    c.args.width (record { block = c.args.block; index = c.loop-index.index }) bundle c.loop-index.rows c.take_edge.new.rows c.loop-index.bad c.take_edge.new.bad c.take_edge.result in
    let target : c.edge_to-target.result.0 < block_count (numbered c.args.g.now) = c.edge_to-target.ensures.below in
    let there : c.edge_to-target.result.0 ≡ edge_to (numbered c.args.g.now) (edge_id c.args.block.0 c.loop-index.index) = c.edge_to-target.ensures.to in
    let size : length c.loop-index.dirty ≡ block_count (numbered c.args.g.now) = c.loop-index.invariant.dirty_size in
    let within : edge_to (numbered c.args.g.now) (edge_id c.args.block.0 c.loop-index.index) < length c.loop-index.dirty = omega arith in
    let dirty_at : length c.if-take_edge.dirty ≡ block_count (numbered c.args.g.now) = c.if-take_edge.auto.dirty ∙ size in
    record {
      size = c.take_edge.auto.rows ∙ c.loop-index.invariant.size;
      bad_size = c.take_edge.auto.bad ∙ c.loop-index.invariant.bad_size;
      taken = edges_more (numbered c.args.g.now) (g.F.Family.step_of c.args.family.now) (g.F.Family.state_count c.args.family.now) (g.F.Family.subject_count c.args.family.now) c.args.width
          c.args.block.0 c.args.bundle.now c.args.rows.now c.loop-index.rows c.take_edge.new.rows c.args.bad.now c.loop-index.bad c.take_edge.new.bad c.loop-index.index c.loop-index.is_new
          c.take_edge.result c.if-take_edge.is_new
          (omega arith) c.loop-index.invariant.taken
          (subst P c.copy_from_slice.ensures.after c.take_edge.ensures)
          (elim c.if-take_edge.branch [ then-take_edge w ↦ inl (w.if-take_edge.true, w.is_new-is) | else-take_edge w ↦ inr (w.if-take_edge.false, w.is_new-is) ]);
      dirty_size = dirty_at;
      marks = marks_more (numbered c.args.g.now) (g.F.Family.step_of c.args.family.now) (g.F.Family.state_count c.args.family.now) (g.F.Family.subject_count c.args.family.now) c.args.width
          (edge_id c.args.block.0 c.loop-index.index) c.args.bundle.now c.args.rows.now c.loop-index.rows c.take_edge.new.rows c.loop-index.bad c.take_edge.new.bad c.args.dirty.now c.loop-index.dirty
          c.if-take_edge.dirty c.loop-index.is_new c.take_edge.result c.if-take_edge.is_new
          within c.loop-index.invariant.marks
          (subst P c.copy_from_slice.ensures.after c.take_edge.ensures)
          (elim c.if-take_edge.branch [
            | then-take_edge w ↦ inl (w.if-take_edge.true, w.is_new-is, w.dirty-is ∙ ap (λ k. set c.loop-index.dirty k true) there)
            | else-take_edge w ↦ inr (w.if-take_edge.false, w.is_new-is, w.dirty-is)
          ]);
    }
