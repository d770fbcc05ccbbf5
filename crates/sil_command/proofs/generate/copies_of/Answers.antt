-- An accepted module has few copies, since it is in numbered form.
use Rattle.std.proofs.Common.{◌<◌, subst, sym}
use Rattle.std.specs.Prelude.{◌^◌}
use Rattle.module_runner.specs.copy_pairing_model.Counts as counts
use Rattle.sil_command.proofs.FewCopies.{few_copies}
use Rattle.sil_command.proofs.generate.copies_of.Goals as goal

pub copies_in-requires : goal.copies_in-requires
copies_in-requires c =
    subst (λ m. counts.copies_of m < 2 ^ 64) (sym c.module.ensures.value) (few_copies c.args.checked.now c.module.ensures.verified.numbered)
