use Rattle.sil_types_items.proofs.TypeMeasures.ByParts.{by_parts}
use Rattle.sil_types.proofs.FirstRefusals.{all_declared}
use Rattle.sil_types.proofs.table.TypeTable.build.Goals as goal

pub returns-clause-ok : goal.returns-clause-ok
returns-clause-ok c = record {
  copied = c.in_ok-declarations.ensures;
  declared = all_declared c.args.m.now c.in_ok-check_items_and_limits.ensures.items c.in_ok-order.ensures.finite;
  limits = c.in_ok-check_items_and_limits.ensures.limits;
}

pub returns-clause-measures : goal.returns-clause-measures
returns-clause-measures c = by_parts c.in_ok-declarations.declarations _ c.in_ok-order.ensures.order
