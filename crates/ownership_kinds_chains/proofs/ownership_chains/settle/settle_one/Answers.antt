use Rattle.std.proofs.Common.{sym, ◌∙◌, arith}
use Rattle.ownership_kinds_chains.specs.OwnershipChains.Facts.{told_at}
use Rattle.ownership_kinds_chains.proofs.OwnershipChains.Depths.{sound_listed}
use Rattle.ownership_kinds_chains.proofs.OwnershipChains.Settled.{fewer, stays_sound, unknown_none}
use Rattle.ownership_kinds_chains.proofs.ownership_chains.settle.settle_one.Goals as goal

pub facts_of-requires-clause-listed : goal.facts_of-requires-clause-listed
facts_of-requires-clause-listed c = sound_listed c.args.defs.now c.args.table.now c.requires.size c.requires.sound

pub returns-in-Some-clause-sound : goal.returns-in-Some-clause-sound
returns-in-Some-clause-sound c =
    stays_sound c.args.defs.now c.args.table.now c.args.value c.in-Some.facts (omega (arith, c.requires.inside, c.requires.size))
    (unknown_none (told_at c.args.table.now c.args.value) (sym c.is_known.ensures ∙ c.if-is_known.false))
    (sym c.in_ok-facts_of.ensures ∙ c.in-Some.is) c.requires.sound

pub returns-in-Some-clause-settles : goal.returns-in-Some-clause-settles
returns-in-Some-clause-settles c =
    fewer c.args.defs.now c.args.table.now c.args.value c.in-Some.facts (omega (arith, c.requires.inside, c.requires.size))
    (unknown_none (told_at c.args.table.now c.args.value) (sym c.is_known.ensures ∙ c.if-is_known.false))
