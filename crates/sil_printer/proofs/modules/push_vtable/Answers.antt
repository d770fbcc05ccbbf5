use Rattle.std.proofs.Common.{◌++◌, codes, ap, ◌∙◌}
use Rattle.sil_printer.specs.Words.{opening}
use Rattle.sil_printer.proofs.Appended.{appended_three}
use Rattle.sil_printer.proofs.modules.push_vtable.Goals as goal

pub returns : goal.returns
returns c =
    let opened = c.in_ok-push_opening.ensures ∙ ap (λ name. c.args.out.now.items ++ opening (codes "sil_vtable ") name) c.as_slice.ensures in
    appended_three _ _ _ _ _ _ _ opened c.in_ok-push_entry.ensures c.in_ok-push_bytes.ensures
