use Rattle.std.proofs.Common.{arith}
use Rattle.type_check.proofs.TypingForms.Counts.{edges_from}
use Rattle.type_check.proofs.typing_forms.incoming.count_edges.Goals as goal

pub loop-edge-preserved : goal.loop-edge-preserved
loop-edge-preserved c = record {
  small = λ k lt. omega (arith, c.count_to.ensures k lt);
  counted = λ k lt.
      omega (
        arith,
        c.count_to.ensures k lt,
        c.loop-edge.invariant.counted k (omega arith),
        edges_from k c.loop-edge.edge-index c.args.edges.now c.edge-item.result c.loop-edge-test.true c.edge-item.is,
      );
}
