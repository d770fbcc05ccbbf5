-- What passes over the module, where it stands, come to.
use Rattle.std.proofs.Common.{refl}
use Rattle.std.proofs.lemmas.Result.{on_ok_weaker}
use Rattle.copy_pairing_model.proofs.Fewer.{copies_lost}
use Rattle.copy_pairing_model.proofs.NoneLeft.{none_left}
use Rattle.copy_pairing.proofs.Passed.{declared_again, optimised_copy}
use Rattle.copy_pairing.proofs.optimiser.optimize_in_place.Goals as goal

pub pass_module-requires-clause-verified : goal.pass_module-requires-clause-verified
pass_module-requires-clause-verified c = c.requires.verified

pub pass_module-requires-clause-types : goal.pass_module-requires-clause-types
pass_module-requires-clause-types c = c.requires.declarations.copied

pub returns-clause-optimised : goal.returns-clause-optimised
returns-clause-optimised c =
    on_ok_weaker c.pass_module.result (optimised_copy c.args.m.now c.args.m.now c.pass_module.new.m refl) c.pass_module.ensures

pub returns-clause-none_removable : goal.returns-clause-none_removable
returns-clause-none_removable c =
    on_ok_weaker c.pass_module.result (λ passed.
    none_left c.args.m.now c.pass_module.new.m (optimised_copy c.args.m.now c.args.m.now c.pass_module.new.m refl passed))
    c.pass_module.ensures

pub returns-clause-fewer : goal.returns-clause-fewer
returns-clause-fewer c =
    on_ok_weaker c.pass_module.result (λ passed.
    copies_lost c.args.m.now c.pass_module.new.m (optimised_copy c.args.m.now c.args.m.now c.pass_module.new.m refl passed))
    c.pass_module.ensures

pub returns-clause-runs : goal.returns-clause-runs
returns-clause-runs c =
    on_ok_weaker c.pass_module.result (λ passed.
    c.optimised_runs_as_it_did.ensures c.args.m.now c.pass_module.new.m c.requires.verified
    (optimised_copy c.args.m.now c.args.m.now c.pass_module.new.m refl passed))
    c.pass_module.ensures

pub returns-clause-verified : goal.returns-clause-verified
returns-clause-verified c =
    on_ok_weaker c.pass_module.result (λ passed. record {
      verified = passed.verified;
      declarations = declared_again c.args.m.now c.pass_module.new.m c.args.table.now passed.verified passed.declarations c.requires.declarations.copied;
    }) c.pass_module.ensures
