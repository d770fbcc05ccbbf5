-- A printed instruction reads as itself.
use Rattle.std.proofs.Common.{◌≡◌, ℕ, List, [], ◌++◌, IsFalse, IsTrue}
use Rattle.sil_ast.specs.declared.function.Function.{Function}
use Rattle.sil_ast.specs.declared.inst.Inst.{Inst}
use Rattle.sil_printer.specs.CanonicalInsts.{inst_text}
use Rattle.sil_grammar_tables.specs.declared.grammar.Nonterminal.TheVariants as n
use Rattle.sil_grammar_values.specs.Values.{inst_of}
use Rattle.instruction_table.specs.Forms.{is_terminator}
use Rattle.sil_printer_laws.proofs.Pieces.{Ends, Stands}
use Rattle.sil_printer_laws.proofs.Printable.{IsInstPrintable}
use Rattle.sil_printer_laws.proofs.ResultReading.{inst_unnamed, inst_with_results}
use Rattle.sil_printer_laws.proofs.Rows.{end_reads, row_reads}
use Rattle.sil_printer_laws.proofs.Written.{IsInstWritten}

pub inst_reads : (text : List ℕ) (functions : List Function) (i : Inst) (after : List ℕ) → IsInstPrintable functions i → IsFalse (is_terminator i.op) → Ends after
    → Stands text n.Inst (λ x. IsInstWritten functions i (inst_of x)) (inst_text functions i ++ after) after
inst_reads text functions i after printable inside ends =
    inst_with_results text functions after i (row_reads text functions i printable after ends inside) printable.results printable.limits.results

pub terminator_reads : (text : List ℕ) (functions : List Function) (i : Inst) (after : List ℕ) → IsInstPrintable functions i → IsTrue (is_terminator i.op) → i.results ≡ [] → Ends after
    → Stands text n.Terminator (λ x. IsInstWritten functions i (inst_of x)) (inst_text functions i ++ after) after
terminator_reads text functions i after printable last unnamed ends = inst_unnamed text functions after i (end_reads text functions i printable after ends last) unnamed
