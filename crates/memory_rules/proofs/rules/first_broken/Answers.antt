use Rattle.std.proofs.Common.{subst}
use Rattle.memory_rules.specs.Broken.{IsFirstBreak}
use Rattle.memory_rules.proofs.FirstOfAll.{all_first}
use Rattle.memory_rules.proofs.rules.first_broken.Goals as goal

pub returns : goal.returns
returns c =
    let f = c.args.f.now in
    subst (λ sources. IsFirstBreak sources f c.args.g.now c.args.k.now c.earlier.result) c.in_ok-memory.ensures
    (all_first c.in_ok-memory.memory f c.args.g.now c.args.k.now c.in_ok-walk_fault.walk_fault c.in_ok-static_fault.static_fault c.earlier.result
    c.in_ok-walk_fault.ensures c.in_ok-static_fault.ensures c.earlier.ensures)
