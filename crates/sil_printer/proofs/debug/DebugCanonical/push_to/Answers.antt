use Rattle.sil_printer.proofs.Appended.{appended_four}
use Rattle.sil_printer.proofs.debug.DebugCanonical.push_to.Goals as goal

pub returns : goal.returns
returns c =
    appended_four _ _ _ _ _ _ _ _ _ c.in_ok-push_binding.ensures c.in_ok-push_quoted.ensures c.in_ok-push_argno.ensures
    c.in_ok-push_if_set.ensures
