-- What a printed function uses has a name that is known there.
use Rattle.std.proofs.Common.{◌≡◌, ℕ, ◌<◌, List, length, map, Option, Some, None, IfSome, flat_map, decimal}
use Rattle.std.specs.List.{AllZip}
use Rattle.std.specs.Option.{option_map, option_to_list}
use Rattle.sil_ast.specs.declared.function.Block.{Block}
use Rattle.sil_ast.specs.declared.function.Function.{Function}
use Rattle.sil_ast.specs.declared.inst.Edge.{Edge}
use Rattle.sil_ast.specs.declared.inst.Inst.{Inst}
use Rattle.sil_ast.specs.declared.operands.Operand.{Operand}
use Rattle.sil_ast.specs.declared.place.FuncId.{FuncId}
use Rattle.sil_printer.specs.CanonicalInsts.{block_name}
use Rattle.sil_grammar_tree.specs.declared.written_tree.written_declarations.WrittenToken.{WrittenToken}
use Rattle.sil_grammar_tree.specs.declared.written_tree.written_functions.WrittenBlock.{WrittenBlock}
use Rattle.sil_grammar_tree.specs.declared.written_tree.written_instructions.WrittenEdge.{WrittenEdge}
use Rattle.sil_grammar_tree.specs.declared.written_tree.written_instructions.WrittenInst.{WrittenInst}
use Rattle.sil_grammar_tree.specs.declared.written_tree.written_instructions.WrittenOperand.{WrittenOperand}
use Rattle.sil_grammar_names.specs.NameScopes.Names.{Name, code_of, edge_label, edge_values, functions_used, labels_used, name_of, operand_name, values_used}
use Rattle.numbered_form.specs.Lists.{Each}
use Rattle.numbered_form.specs.Insts.{insts_in}
use Rattle.numbered_form.specs.Numbering.{IsEdgeInRange, IsValueBelow}
use Rattle.sil_grammar.proofs.NumberedReadingLaws.ListsAndFaults.{Each-append, Each-flat_map, Each-map}
use Rattle.sil_printer_laws.proofs.Namings.{IsNaming, known}
use Rattle.sil_printer_laws.proofs.NoFaults.{IsKnown}
use Rattle.sil_printer_laws.proofs.WrittenCode.{Counts, IsBlockRead, IsInstRead, code_read}
use Rattle.sil_printer_laws.proofs.SideBySide.{with_each, zip_each}
use Rattle.sil_printer_laws.proofs.Written.{IsEdgeWritten, IsOperandWritten, name_in}

-- the k-th name of a function of the module
abbrev pub nth_name : List Function → ℕ → Name
nth_name functions k = name_in functions (record { 0 = k })

-- the names of the values and blocks of a function, and of its module's functions
pub record Names : Type 0 where
  pub values : List Name
  pub blocks : List Name
  pub functions : List Name

pub record AreNamesOf (c : Counts) (names : Names) : Type 0 where
  pub values : IsNaming c.values decimal names.values
  pub blocks : IsNaming c.blocks block_name names.blocks
  pub functions : IsNaming (length c.functions) (nth_name c.functions) names.functions

-- what an instruction uses is known
pub record UsesKnown (names : Names) (w : WrittenInst) : Type 0 where
  pub values : Each (IsKnown names.values) (values_used w)
  pub labels : Each (IsKnown names.blocks) (labels_used w)
  pub functions : Each (IsKnown names.functions) (functions_used w)

operands_known : (values : ℕ) (names : List Name) → IsNaming values decimal names → (os : List Operand) (ws : List WrittenOperand) → Each (IsValueBelow values) os → AllZip IsOperandWritten os ws
    → Each (IsKnown names) (map operand_name ws)
operands_known values names n os ws below z =
    Each-map operand_name (λ w. IsKnown names w.name) (IsKnown names) (λ w h. h) ws
    (zip_each (λ o w. IsValueBelow values o × IsOperandWritten o w) (λ w. IsKnown names w.name) (λ o w h. known n o.value.0 w.name h.0 h.1.name) os ws
    (with_each (IsValueBelow values) IsOperandWritten os ws below z))

edges_each : (values blocks : ℕ) (P : WrittenEdge → Type 0) → ((e : Edge) (w : WrittenEdge) → IsEdgeInRange values blocks e → IsEdgeWritten e w → P w)
    → (es : List Edge) (ws : List WrittenEdge) → Each (IsEdgeInRange values blocks) es → AllZip IsEdgeWritten es ws → Each P ws
edges_each values blocks P h es ws range z =
    zip_each (λ e w. IsEdgeInRange values blocks e × IsEdgeWritten e w) P (λ e w both. h e w both.0 both.1) es ws (with_each (IsEdgeInRange values blocks) IsEdgeWritten es ws range z)

callee_known : (functions : List Function) (names : List Name) → IsNaming (length functions) (nth_name functions) names → (callee : Option FuncId) (w : Option WrittenToken)
    → IfSome callee (λ f. f.0 < length functions) → option_map name_of w ≡ option_map (name_in functions) callee → Each (IsKnown names) (option_to_list w)
callee_known functions names n callee None below e = tt
callee_known functions names n None (Some token) below e = absurd (cc)
callee_known functions names n (Some f) (Some token) below e = (known n f.0 token below (let same : token.text ≡ name_in functions f = cc in same), tt)

inst_uses : (c : Counts) (names : Names) → AreNamesOf c names → (i : Inst) (w : WrittenInst) → IsInstRead c i w → UsesKnown names w
inst_uses c names n i w r = record {
  values = Each-append (IsKnown names.values) (map operand_name w.operands) (flat_map edge_values w.edges)
      (operands_known c.values names.values n.values i.operands w.operands r.used.operands r.is_written.operands)
      (Each-flat_map edge_values (λ e. Each (IsKnown names.values) (edge_values e)) (IsKnown names.values) (λ e h. h) w.edges
      (edges_each c.values c.blocks (λ e. Each (IsKnown names.values) (edge_values e)) (λ e w range is. operands_known c.values names.values n.values e.args w.args range.args is.args)
      i.edges w.edges r.used.edges r.is_written.edges));
  labels = Each-map edge_label (λ e. IsKnown names.blocks e.label) (IsKnown names.blocks) (λ e h. h) w.edges
      (edges_each c.values c.blocks (λ e. IsKnown names.blocks e.label) (λ e w range is. known n.blocks e.block.0 w.label range.block is.label) i.edges w.edges r.used.edges r.is_written.edges);
  functions = callee_known c.functions names.functions n.functions i.function w.function r.used.function r.is_written.function;
}

pub code_uses : (c : Counts) (names : Names) → AreNamesOf c names → (bs : List Block) (ws : List WrittenBlock) → AllZip (IsBlockRead c) bs ws → Each (UsesKnown names) (flat_map code_of ws)
code_uses c names n bs ws z = zip_each (IsInstRead c) (UsesKnown names) (inst_uses c names n) (insts_in bs) (flat_map code_of ws) (code_read c bs ws z)

-- all that some instructions use
pub all_used : (names : List Name) (used : WrittenInst → List WrittenToken) (ws : List WrittenInst) → Each (λ w. Each (IsKnown names) (used w)) ws → Each (IsKnown names) (flat_map used ws)
all_used names used ws e = Each-flat_map used (λ w. Each (IsKnown names) (used w)) (IsKnown names) (λ w h. h) ws e
