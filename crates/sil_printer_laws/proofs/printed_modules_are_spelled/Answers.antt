-- For the law `printed_modules_are_spelled`.
use Rattle.sil_printer_laws.proofs.ReadBack.{printed_spelled}
use Rattle.sil_printer_laws.proofs.printed_modules_are_spelled.Goals as goal

pub returns : goal.returns
returns c = printed_spelled
