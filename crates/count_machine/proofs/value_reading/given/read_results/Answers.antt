use Rattle.std.proofs.Common.{◌+◌, drop, ap, ◌∙◌}
use Rattle.sil_rules.specs.declared.limits.TheConstants.{DEPTH}
use Rattle.sil_types_declarations.specs.TypeDefinitions.Mentions.{direct_types}
use Rattle.count_machine.proofs.ValueReading.Loops.{all_read, direct_left, next_read, none_left, out_left, same_read}
use Rattle.count_machine.proofs.value_reading.given.read_results.Goals as goal
use Rattle.count_machine.proofs.value_reading.given.read_results.Goals.{then-not-given+in_ok-member+in_ok-push, else-not-given}

pub loop-given-preserved : goal.loop-given-preserved
loop-given-preserved c =
    let d = c.args.table.now in
    let results = c.args.results.now in
    let i = c.loop-given.given-index in
    let x = c.given-item.result in
    let left = direct_types (drop i results) in
    let more = direct_types (drop (i + 1) results) in
    elim c.if-not-given.branch [
      | then-not-given+in_ok-member+in_ok-push w ↦
          next_read d DEPTH (direct_types results) c.args.leaves.now x.ty left more c.loop-given.members c.if-not-given.members c.loop-given.rest.now
          w.first_leaves.result.now c.if-not-given.rest.now w.leaf_count-count.result w.in_ok-member.member
          (direct_left results i x c.loop-given-test.true c.given-item.is w.if-not-given.true) c.loop-given.invariant w.leaf_count-count.ensures w.first_leaves.ensures
          w.in_ok-member.ensures (w.members-is ∙ w.in_ok-push.ensures.ok) (ap (λ r. r.now) w.rest-is ∙ w.leaves_behind-rest.ensures)
      | else-not-given w ↦
          same_read d DEPTH (direct_types results) c.args.leaves.now left more c.loop-given.members c.if-not-given.members c.loop-given.rest.now c.if-not-given.rest.now
          (out_left results i x c.loop-given-test.true c.given-item.is w.if-not-given.false) c.loop-given.invariant w.members-is (ap (λ r. r.now) w.rest-is)
    ]

pub returns : goal.returns
returns c =
    let results = c.args.results.now in
    let i = c.loop-given.given-index in
    all_read c.args.table.now DEPTH (direct_types results) c.args.leaves.now (direct_types (drop i results)) c.loop-given.members c.in_ok-new.field-0
    c.loop-given.rest.now (ap direct_types (none_left results i c.loop-given-test.false)) c.loop-given.invariant c.in_ok-new.ensures
