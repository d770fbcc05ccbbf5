use Rattle.std.proofs.Common.{ap, ◌∙◌, List, map}
use Rattle.std.specs.List.{range_with_len}
use Rattle.std.specs.Prelude.{Bool}
use Rattle.std.proofs.lemmas.Result.{IfOk-weaker}
use Rattle.sil_cfg.specs.declared.item.Item.{Item}
use Rattle.reach_engine_marks.specs.PathPatterns.inner.Reads.{AgreesWith}
use Rattle.reach_engine_marks.specs.PathChecks.First.{IsFirst}
use Rattle.reach_engine_marks.specs.PathChecks.inner.Shared.{entries_with, is_sharing}
use Rattle.reach_engine_marks.specs.declared.path_checks.entry.Entry.{Entry}
use Rattle.lifetime_worklist.specs.inner.Lifetimes.{IsFirstLife}
use Rattle.ownership_kinds_chains.specs.OwnershipMarks.Known.{facts_of}
use Rattle.lifetime_worklist.specs.Lives.{left_mark, lives_of}
use Rattle.lifetime_worklist.proofs.Tables.{lives_agree}
use Rattle.lifetime_worklist.proofs.lifetimes.first_broken.Goals as goal

pub returns : goal.returns
returns c =
    let own : List (List Entry) = c.in_ok-entries.entries in
    IfOk-weaker c.first_fault.result
    (λ r. (table : Item → List Entry) → AgreesWith c.args.g.now (entries_with own c.deref.result.now c.deref-2.result.now) table → IsFirst c.args.f.now table r)
    (IsFirstLife c.args.f.now c.args.g.now c.args.k.now)
    (λ r h count facts by.
    h (lives_of count facts c.args.f.now)
    (lives_agree c.args.f.now c.args.g.now c.args.k.now own c.deref.result.now c.deref-2.result.now
    c.in_ok-entries.ensures.entries
    (c.deref.ensures.value ∙ c.in_ok-marks.ensures.marks ∙ ap (λ n. map (left_mark (facts_of c.args.k.now)) (range_with_len 0 n)) c.values.ensures.count)
    (λ n item e. ap (λ (v : List Bool). is_sharing v n) c.deref-2.ensures.value ∙ c.in_ok-returns.ensures n item e)
    count facts by))
    c.first_fault.ensures
