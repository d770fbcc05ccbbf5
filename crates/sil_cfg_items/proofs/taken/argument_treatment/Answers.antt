use Rattle.std.proofs.Common.{◌∙◌, ap, map, sym, Some}
use Rattle.std.specs.List.{slice_get}
use Rattle.std.specs.Option.{option_copied}
use Rattle.argument_conventions.specs.Arguments.{as_told}
use Rattle.sil_cfg_items.specs.Roles.{by_convention, conventions_by}
use Rattle.sil_cfg_items.proofs.Roling.{told_treatment}
use Rattle.sil_cfg_items.proofs.taken.argument_treatment.Goals as goal

pub returns : goal.returns
returns c =
    ap Some c.by_convention.ensures ∙ told_treatment c.in_ok-signature.signature.now c.args.k (Some (as_told c.in_ok-found.found)) c.in_ok-found.ensures
    ∙ ap (λ s. slice_get (map by_convention (conventions_by (option_copied s))) c.args.k) (sym c.in_ok-signature.was)
