use Rattle.std.proofs.Common.{◌∙◌, List, sym}
use Rattle.std.proofs.lemmas.Result.{IfOk-weaker}
use Rattle.sil_cfg.specs.declared.item.Item.{Item}
use Rattle.reach_engine_marks.specs.PathPatterns.inner.Reads.{AgreesWith}
use Rattle.reach_engine_marks.specs.PathChecks.First.{IsFirst}
use Rattle.reach_engine_marks.specs.PathChecks.inner.Shared.{entries_with}
use Rattle.reach_engine_marks.specs.declared.path_checks.entry.Entry.{Entry}
use Rattle.memory_rules_parts.specs.inner.Batches.{IsFirstNumber, batch_table}
use Rattle.memory_rules_parts.proofs.Joint.{batch_agrees, returns_listed}
use Rattle.memory_rules_parts.proofs.search.first_number.Goals as goal

pub returns : goal.returns
returns c =
    let own : List (List Entry) = c.in_ok-entries.entries in
    IfOk-weaker c.first_fault.result
    (λ r. (table : Item → List Entry) → AgreesWith c.args.g.now (entries_with own c.deref.result.now c.args.returns.now) table → IsFirst c.args.f.now table r)
    (IsFirstNumber c.args.m.now c.args.f.now c.args.g.now c.args.k.now c.args.parts.now)
    (λ r h count facts by.
    h (batch_table c.args.m.now facts c.args.f.now c.args.parts.now)
    (batch_agrees c.args.m.now c.args.f.now c.args.g.now c.args.k.now c.args.returns.now c.args.parts.now own c.deref.result.now c.requires.returns
    c.in_ok-entries.ensures.entries
    (c.deref.ensures.value ∙ c.in_ok-marks.ensures.marks ∙ sym (returns_listed c.args.parts.now))
    count facts by))
    c.first_fault.ensures
