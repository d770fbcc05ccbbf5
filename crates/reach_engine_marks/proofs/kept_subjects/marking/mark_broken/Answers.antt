use Rattle.std.proofs.Common.{◌+◌, ℕ, subst}
use Rattle.std.proofs.lemmas.Result.{on_ok_weaker}
use Rattle.sil_cfg.specs.Flow.{numbered}
use Rattle.number_tables.specs.PathLists.inner.Lists.{list_at}
use Rattle.reach_engine.specs.declared.scan.Step.{Step}
use Rattle.reach_engine.specs.declared.together.FoundAll.{FoundAll}
use Rattle.reach_engine.specs.inner.Grid.{Grid}
use Rattle.reach_engine.specs.inner.Reach.{ReachesPoint}
use Rattle.reach_engine.specs.inner.Reached.{AreExact}
use Rattle.reach_engine.specs.inner.Together.{IfClean, IfFault}
use Rattle.reach_engine.proofs.ItemsInRange.{edge_target}
use Rattle.reach_engine_marks.specs.KeptSubjects.inner.Settled.{subject_settled}
use Rattle.reach_engine_marks.proofs.KeptSubjects.StaysBroken.{are_broken, never_breaks}
use Rattle.reach_engine_marks.proofs.kept_subjects.marking.mark_broken.Goals as goal

pub returns-in-Fault : goal.returns-in-Fault
returns-in-Fault c =
    let f : ℕ → ℕ → ℕ → Step = λ u. subject_settled (list_at c.args.entries.now) (c.args.first + u) in
    let reaches : ReachesPoint c.args.g.now (f c.in-Fault.subject) c.in-Fault.walk c.in-Fault.code c.in-Fault.point =
    subst (λ (r : FoundAll). IfFault r (λ subject walk point code. ReachesPoint c.args.g.now (f subject) walk code point)) c.in-Fault.is c.in_ok-search_all.ensures.fault in
    absurd (never_breaks (numbered c.args.g.now) (list_at c.args.entries.now) (c.args.first + c.in-Fault.subject) c.in-Fault.walk c.in-Fault.code reaches.item reaches.reaches)

pub returns : goal.returns
returns c =
    let f : ℕ → ℕ → ℕ → Step = λ u. subject_settled (list_at c.args.entries.now) (c.args.first + u) in
    let exact : AreExact (numbered c.args.g.now) f 3 c.args.count c.in-Clean.map.width c.in-Clean.map.words =
    subst (λ (r : FoundAll). IfClean r (λ (m : Grid). AreExact (numbered c.args.g.now) f 3 c.args.count m.width m.words)) c.in-Clean.is c.in_ok-search_all.ensures.map in
    on_ok_weaker c.mark_blocks.result
    (λ h.
    are_broken (numbered c.args.g.now) (list_at c.args.entries.now) c.args.first c.args.count c.in-Clean.map.width c.in-Clean.map.words c.args.broken.now c.mark_blocks.new.broken
    c.blocks-blocks.ensures.sound.some_block (λ e is. edge_target c.args.g.now c.blocks-blocks.ensures.sound e is) exact h)
    c.mark_blocks.ensures
