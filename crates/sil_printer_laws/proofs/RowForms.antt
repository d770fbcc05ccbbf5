-- A row of the table of instructions: its text, and that it reads as itself.
use Rattle.std.proofs.Common.{ℕ, List, [], ◌++◌, None, false}
use Rattle.instruction_table.specs.Forms.{mnemonic_of, parts_of}
use Rattle.sil_ast.specs.declared.function.Function.{Function}
use Rattle.sil_ast.specs.declared.inst.Inst.{Inst}
use Rattle.sil_ast.specs.declared.inst.Qualifier.TheVariants as qualifier
use Rattle.instruction_table.specs.declared.op.Op.{Op}
use Rattle.sil_printer.specs.CanonicalInsts.{parts_text}
use Rattle.sil_grammar_tables.specs.declared.grammar.Nonterminal.{Nonterminal}
use Rattle.sil_grammar_values.specs.Values.{inst_of, no_debug}
use Rattle.sil_printer_laws.proofs.Pieces.{Stands}
use Rattle.sil_printer_laws.proofs.Written.{IsInstWritten}

-- the mnemonic, and what stands behind it
abbrev pub row_text : List Function → Inst → List ℕ
row_text functions i = mnemonic_of i.op ++ parts_text functions i None i.operands (parts_of i.op)

-- an instruction of which nothing but its mnemonic is there
abbrev pub bare : Op → Inst
bare o = record {
  op = o;
  results = [];
  operands = [];
  ty = None;
  signature = None;
  function = None;
  member = None;
  number = None;
  text = None;
  qualifier = qualifier.Plain;
  lexical = false;
  var_decl = false;
  debug = no_debug;
  edges = [];
}

-- the row of the instruction, without its results
abbrev pub RowStands : List ℕ → List Function → List ℕ → Nonterminal → Inst → Type 0
RowStands text functions after part i = Stands text part (λ x. IsInstWritten functions (record i { results = [] }) (inst_of x)) (row_text functions i ++ after) after
