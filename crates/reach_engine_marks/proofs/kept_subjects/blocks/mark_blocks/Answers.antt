use Rattle.std.proofs.Common.{◌≡◌, ◌≤◌, ◌+◌, ℕ, refl, ◌∙◌, subst, arith}
use Rattle.sil_cfg.specs.Flow.{block_count, numbered}
use Rattle.number_tables.specs.PathLists.inner.Lists.{list_at}
use Rattle.reach_engine.specs.declared.scan.Step.{Step}
use Rattle.reach_engine_marks.specs.KeptSubjects.inner.Broken.{AreMarked, GoesBrokenBefore}
use Rattle.reach_engine_marks.specs.KeptSubjects.inner.Settled.{subject_settled}
use Rattle.reach_engine_marks.proofs.KeptSubjects.Marked.{more_blocks, no_blocks}
use Rattle.reach_engine_marks.proofs.kept_subjects.blocks.mark_blocks.Goals as goal

pub loop-b-init : goal.loop-b-init
loop-b-init c =
    let f : ℕ → ℕ → ℕ → Step = λ u. subject_settled (list_at c.args.family.now.entries.now) (c.args.family.now.first + u) in
    record { size = refl; marked = no_blocks (numbered c.args.g.now) f c.args.map.now.width c.args.map.now.words c.args.family.now.first c.args.family.now.count c.args.broken.now }

pub loop-b-preserved : goal.loop-b-preserved
loop-b-preserved c =
    let f : ℕ → ℕ → ℕ → Step = λ u. subject_settled (list_at c.args.family.now.entries.now) (c.args.family.now.first + u) in
    record {
      size = c.mark_block.auto.broken ∙ c.loop-b.invariant.size;
      marked =
          more_blocks (numbered c.args.g.now) f c.args.map.now.width c.args.map.now.words c.args.family.now.first c.args.family.now.count c.args.broken.now
          c.loop-b.b c.loop-b.broken c.mark_block.new.broken c.loop-b.invariant.marked c.in_ok-mark_block.ensures;
    }

pub returns : goal.returns
returns c =
    let f : ℕ → ℕ → ℕ → Step = λ u. subject_settled (list_at c.args.family.now.entries.now) (c.args.family.now.first + u) in
    let many : c.blocks-b-end.result ≡ block_count (numbered c.args.g.now) = c.blocks-b-end.ensures.count in
    let most : c.loop-b.b ≤ c.blocks-b-end.result = c.loop-b.auto.b-end in
    let end : c.blocks-b-end.result ≤ c.loop-b.b = c.loop-b-test.false in
    let all : c.loop-b.b ≡ block_count (numbered c.args.g.now) = omega arith in
    subst
    (λ n. AreMarked c.args.family.now.first c.args.family.now.count (GoesBrokenBefore (numbered c.args.g.now) f c.args.map.now.width c.args.map.now.words n) c.args.broken.now c.loop-b.broken)
    all c.loop-b.invariant.marked
