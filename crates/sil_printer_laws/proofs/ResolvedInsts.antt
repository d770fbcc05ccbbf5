-- A printed instruction stands for itself: its names lead to its own numbers.
use Rattle.std.proofs.Common.{◌≡◌, ℕ, ◌+◌, ◌<◌, List, [], ◌∷◌, ◌++◌, length, map, Option, Some, None, IfSome, ap, ap₂, sym, refl, subst, arith}
use Rattle.std.specs.List.{AllZip}
use Rattle.std.specs.Option.{option_map}
use Rattle.sil_ast.specs.declared.function.Function.{Function}
use Rattle.sil_ast.specs.declared.inst.Edge.{Edge}
use Rattle.sil_ast.specs.declared.inst.Inst.{Inst}
use Rattle.sil_ast.specs.declared.operands.Operand.{Operand}
use Rattle.sil_ast.specs.declared.place.FuncId.{FuncId}
use Rattle.sil_ast.specs.declared.place.ValueId.{ValueId}
use Rattle.sil_grammar_tree.specs.declared.written_tree.written_declarations.WrittenToken.{WrittenToken}
use Rattle.sil_grammar_tree.specs.declared.written_tree.written_instructions.WrittenEdge.{WrittenEdge}
use Rattle.sil_grammar_tree.specs.declared.written_tree.written_instructions.WrittenInst.{WrittenInst}
use Rattle.sil_grammar_tree.specs.declared.written_tree.written_instructions.WrittenOperand.{WrittenOperand}
use Rattle.sil_grammar_names.specs.NameScopes.Names.{Name, name_of}
use Rattle.sil_grammar_names.specs.NameResolution.Resolved.{Scope, counted, defined_by_inst, function_of, resolved_edge, resolved_inst, resolved_operand}
use Rattle.numbered_form.specs.Lists.{Each}
use Rattle.numbered_form.specs.Numbering.{AreCountedFrom, IsEdgeInRange, IsValueBelow}
use Rattle.sil_printer_laws.proofs.Namings.{IsNaming, placed, value_placed}
use Rattle.sil_printer_laws.proofs.WrittenCode.{Counts, IsInstRead, inst_defined}
use Rattle.sil_printer_laws.proofs.ResultNames.{IsDefinedAs}
use Rattle.sil_printer_laws.proofs.SideBySide.{with_each, zip_read, zip_weaker}
use Rattle.sil_printer_laws.proofs.UsedNames.{AreNamesOf, Names, nth_name}
use Rattle.sil_printer_laws.proofs.Written.{IsEdgeWritten, IsOperandWritten, name_in}

-- the scope that has these names
abbrev pub scope_with : Names → Scope
scope_with names = record { functions = names.functions; blocks = names.blocks; values = map (λ name. Some name) names.values }

-- counting

pub counted_split : (n : ℕ) (xs ys : List ValueId) → AreCountedFrom n (xs ++ ys) → AreCountedFrom n xs × AreCountedFrom (n + length xs) ys
counted_split n [] ys c = let same : n ≡ n + 0 = omega arith in (tt, subst (λ (m : ℕ). AreCountedFrom m ys) same c)
counted_split n (x ∷ xs) ys c =
    let rest = counted_split (n + 1) xs ys c.1 in
    let same : (n + 1) + length xs ≡ n + length (x ∷ xs) = omega arith in
    ((c.0, rest.0), subst (λ (m : ℕ). AreCountedFrom m ys) same rest.1)

counted_is : (n : ℕ) (vs : List ValueId) (names : List (Option Name)) → AllZip IsDefinedAs vs names → AreCountedFrom n vs → vs ≡ counted n names
counted_is n [] [] z c = refl
counted_is n [] (name ∷ names) z c = absurd z
counted_is n (v ∷ vs) [] z c = absurd z
counted_is n (v ∷ vs) (name ∷ names) z c = ap₂ (λ a rest. a ∷ rest) (λ k. record { 0 = c.0 k }) (counted_is (n + 1) vs names z.1 c.1)

-- parts

operand_is : (c : Counts) (names : Names) → AreNamesOf c names → (o : Operand) (w : WrittenOperand) → IsValueBelow c.values o → IsOperandWritten o w → o ≡ resolved_operand (scope_with names) w
operand_is c names n o w below is =
    λ k. record { value = sym (value_placed n.values o.value w.name below is.name) k; ty = sym is.ty k }

operands_are : (c : Counts) (names : Names) → AreNamesOf c names → (os : List Operand) (ws : List WrittenOperand) → Each (IsValueBelow c.values) os → AllZip IsOperandWritten os ws
    → os ≡ map (resolved_operand (scope_with names)) ws
operands_are c names n os ws below z =
    zip_read (resolved_operand (scope_with names)) os ws
    (zip_weaker (λ o w. IsValueBelow c.values o × IsOperandWritten o w) (λ o w. o ≡ resolved_operand (scope_with names) w) (λ o w h. operand_is c names n o w h.0 h.1) os ws
    (with_each (IsValueBelow c.values) IsOperandWritten os ws below z))

edge_is : (c : Counts) (names : Names) → AreNamesOf c names → (e : Edge) (w : WrittenEdge) → IsEdgeInRange c.values c.blocks e → IsEdgeWritten e w → e ≡ resolved_edge (scope_with names) w
edge_is c names n e w range is =
    let block : e.block ≡ (resolved_edge (scope_with names) w).block = (λ k. record { 0 = sym (placed n.blocks e.block.0 w.label range.block is.label) k }) in
    let args : e.args ≡ map (resolved_operand (scope_with names)) w.args = operands_are c names n e.args w.args range.args is.args in
    λ k. record { block = block k; args = args k; case_of = sym is.case_of k }

edges_are : (c : Counts) (names : Names) → AreNamesOf c names → (es : List Edge) (ws : List WrittenEdge) → Each (IsEdgeInRange c.values c.blocks) es → AllZip IsEdgeWritten es ws
    → es ≡ map (resolved_edge (scope_with names)) ws
edges_are c names n es ws range z =
    zip_read (resolved_edge (scope_with names)) es ws
    (zip_weaker (λ e w. IsEdgeInRange c.values c.blocks e × IsEdgeWritten e w) (λ e w. e ≡ resolved_edge (scope_with names) w) (λ e w h. edge_is c names n e w h.0 h.1) es ws
    (with_each (IsEdgeInRange c.values c.blocks) IsEdgeWritten es ws range z))

callee_is : (functions : List Function) (s : Scope) → IsNaming (length functions) (nth_name functions) s.functions → (callee : Option FuncId) (w : Option WrittenToken)
    → IfSome callee (λ f. f.0 < length functions) → option_map name_of w ≡ option_map (name_in functions) callee → callee ≡ option_map (function_of s) w
callee_is functions s n None None below e = refl
callee_is functions s n None (Some token) below e = absurd (cc)
callee_is functions s n (Some f) None below e = absurd (cc)
callee_is functions s n (Some f) (Some token) below e =
    ap (λ (k : ℕ). let f : FuncId = record { 0 = k } in Some f) (sym (placed n f.0 token below (let same : token.text ≡ name_in functions f = cc in same)))

-- instructions

pub inst_is : (c : Counts) (names : Names) → AreNamesOf c names → (first : ℕ) (i : Inst) (w : WrittenInst)
    → IsInstRead c i w → AreCountedFrom first i.results → i ≡ resolved_inst (scope_with names) first w
inst_is c names n first i w r count =
    let is = r.is_written in
    let results : i.results ≡ counted first (defined_by_inst w) = counted_is first i.results (defined_by_inst w) (inst_defined c i w r) count in
    let operands : i.operands ≡ map (resolved_operand (scope_with names)) w.operands = operands_are c names n i.operands w.operands r.used.operands is.operands in
    let callee : i.function ≡ option_map (function_of (scope_with names)) w.function = callee_is c.functions (scope_with names) n.functions i.function w.function r.used.function is.function in
    let edges : i.edges ≡ map (resolved_edge (scope_with names)) w.edges = edges_are c names n i.edges w.edges r.used.edges is.edges in
    λ k. record {
      op = sym is.op k;
      results = results k;
      operands = operands k;
      ty = sym is.ty k;
      signature = sym is.signature k;
      function = callee k;
      member = sym is.member k;
      number = sym is.number k;
      text = sym is.text k;
      qualifier = sym is.qualifier k;
      lexical = sym is.lexical k;
      var_decl = sym is.var_decl k;
      debug = sym is.debug k;
      edges = edges k;
    }
