-- The first that is wrong with items, with a type's size or with typing is the first of all.
use Rattle.std.proofs.Common.{refl, subst}
use Rattle.sil_verifier_accepted.specs.AcceptedModules.Findings.{item}
use Rattle.sil_verifier_accepted.specs.AcceptedModules.Refusals as types
use Rattle.sil_verifier.proofs.Stages.{first_item, first_limit}
use Rattle.sil_verifier.proofs.verifier.end_of_types.Goals as goal

pub returns-in-Item : goal.returns-in-Item
returns-in-Item c =
    let m = c.args.m in
    let least = subst (types.IsRefusal m) c.in-Item.is c.requires.refusal in (
      refl,
      record {
        found = item c.in-Item.rule c.in-Item.item;
        first = first_item m c.in-Item.rule c.in-Item.item least;
        reported = c.item_refusal.ensures m;
      },
    )

pub returns-in-Limit : goal.returns-in-Limit
returns-in-Limit c = (refl, first_limit c.args.m c.in-Limit.what (subst (types.IsRefusal c.args.m) c.in-Limit.is c.requires.refusal))
