use Rattle.std.proofs.Common.{sym}
use Rattle.ownership_kinds_chains.specs.OwnershipChains.Facts.{told_at}
use Rattle.copy_pairing.proofs.MovedCopies.{none_without}
use Rattle.copy_pairing.proofs.moves.destroyed_next.Goals as goal

pub returns-in-None-clause-none : goal.returns-in-None-clause-none
returns-in-None-clause-none c =
    none_without (told_at c.args.k.now.table) c.args.f.now c.args.p c.args.copied.value c.args.copied.operand c.requires.owned (sym c.in-None.ensures.value)

pub destroyed_in-requires-clause-block : goal.destroyed_in-requires-clause-block
destroyed_in-requires-clause-block c = sym c.in-Some.ensures.value
