use Rattle.std.proofs.Common.{sym, ◌∙◌}
use Rattle.sil_types.specs.Typing.SwitchRules.{is_alone}
use Rattle.type_check.proofs.TypingForms.Counts.{all_stop}
use Rattle.type_check.proofs.typing_forms.switches.are_alone.Goals as goal

pub returns-then-not-is_alone : goal.returns-then-not-is_alone
returns-then-not-is_alone c =
    sym (all_stop (is_alone c.args.f.now) c.args.edges.now c.loop-edge.edge-index c.edge-item.result c.loop-edge-test.true c.edge-item.is (sym c.if-not-is_alone.ensures))
    ∙ c.loop-edge.invariant.alone
