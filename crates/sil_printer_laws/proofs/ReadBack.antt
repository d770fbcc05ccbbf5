-- What is printed is spelled.
use Rattle.sil_printer.specs.CanonicalModules.{canonical_text}
use Rattle.sil_printer_laws.specs.inner.Laws.{ArePrintedSpelled}
use Rattle.sil_printer_laws.proofs.ModuleReading.{module_reads}
use Rattle.sil_printer_laws.proofs.Names.{no_name_fault, stands_for}
use Rattle.sil_printer_laws.proofs.Whole.{spelled_whole}

pub printed_spelled : ArePrintedSpelled
printed_spelled m numbered =
    let r = module_reads m numbered in
    let w = r.stands.written in
    record {
      written = w;
      spells = spelled_whole (canonical_text m) r.value w r.reads r.stands.value;
      names = no_name_fault m w numbered r.stands.is_written;
      numbered = stands_for m w numbered r.stands.is_written;
    }
