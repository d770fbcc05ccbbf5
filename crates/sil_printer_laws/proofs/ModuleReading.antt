-- A printed module reads as itself.
use Rattle.std.proofs.Common.{[]}
use Rattle.sil_ast.specs.declared.module.Module.{Module}
use Rattle.sil_printer.specs.CanonicalModules.{canonical_text}
use Rattle.sil_grammar_tables.specs.declared.grammar.Nonterminal.TheVariants as n
use Rattle.numbered_form.specs.inner.NumberedForm.{IsNumbered}
use Rattle.sil_printer_laws.proofs.NumberedPrintable.{module_printable}
use Rattle.sil_printer_laws.proofs.Pieces.{Stands}
use Rattle.sil_printer_laws.proofs.WholeReading.{IsModuleValue, whole_reads}

pub module_reads : (m : Module) → IsNumbered m → Stands (canonical_text m) n.Module (IsModuleValue m) (canonical_text m) []
module_reads m numbered = whole_reads (canonical_text m) m (module_printable m numbered)
