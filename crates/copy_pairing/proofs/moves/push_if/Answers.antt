use Rattle.std.proofs.Common.{ap, ◌∙◌}
use Rattle.ownership_kinds_chains.specs.OwnershipChains.Facts.{has}
use Rattle.copy_pairing.proofs.MovedCopies.{pushed_if, unpushed}
use Rattle.copy_pairing.proofs.moves.push_if.Goals as goal

pub returns-then-not-is_one : goal.returns-then-not-is_one
returns-then-not-is_one c = λ n. unpushed c.args.scopes.now.items c.args.scope c.args.is_one n c.if-not-is_one.true

pub returns : goal.returns
returns c = λ n. ap (λ v. has v n) c.in_ok-push.ensures.items ∙ pushed_if c.args.scopes.now.items c.args.scope c.args.is_one n c.if-not-is_one.false
