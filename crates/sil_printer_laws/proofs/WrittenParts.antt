-- What is written of an instruction, part by part.
use Rattle.std.proofs.Common.{◌≡◌, ℕ, List, Option, Some, Bool, refl, ap, ap₂}
use Rattle.std.specs.Prelude.{ℤ}
use Rattle.std.specs.List.{AllZip}
use Rattle.std.specs.Option.{option_map}
use Rattle.sil_ast.specs.declared.debug.Debug.{Debug}
use Rattle.sil_ast.specs.declared.function.Function.{Function}
use Rattle.sil_ast.specs.declared.inst.Edge.{Edge}
use Rattle.sil_ast.specs.declared.inst.Inst.{Inst}
use Rattle.sil_ast.specs.declared.inst.Qualifier.{Qualifier}
use Rattle.sil_ast.specs.declared.member.Member.{Member}
use Rattle.instruction_table.specs.declared.op.Op.{Op}
use Rattle.sil_ast.specs.declared.operands.Operand.{Operand}
use Rattle.sil_ast.specs.declared.place.FuncId.{FuncId}
use Rattle.sil_ast.specs.declared.place.Place.{Place}
use Rattle.sil_ast.specs.declared.place.ValueId.{ValueId}
use Rattle.sil_ast.specs.declared.signature.Signature.{Signature}
use Rattle.sil_ast.specs.declared.type_name.TypeName.{TypeName}
use Rattle.sil_grammar_values.specs.Values.{bare_inst}
use Rattle.sil_grammar_tree.specs.declared.written_tree.written_declarations.WrittenToken.{WrittenToken}
use Rattle.sil_grammar_tree.specs.declared.written_tree.written_instructions.WrittenEdge.{WrittenEdge}
use Rattle.sil_grammar_tree.specs.declared.written_tree.written_instructions.WrittenInst.{WrittenInst}
use Rattle.sil_grammar_tree.specs.declared.written_tree.written_instructions.WrittenOperand.{WrittenOperand}
use Rattle.sil_grammar_tree.specs.declared.written_tree.written_instructions.WrittenQualifier.{WrittenQualifier}
use Rattle.sil_grammar_names.specs.NameScopes.Names.{name_of}
use Rattle.sil_printer_laws.proofs.RowForms.{bare}
use Rattle.sil_printer_laws.proofs.Written.{IsEdgeWritten, IsInstWritten, IsOperandWritten, IsValueNamed, name_in}

-- the mnemonic
pub mnemonic_written : (functions : List Function) (o : Op) (place : Place) → IsInstWritten functions (bare o) (bare_inst o place)
mnemonic_written functions o place = record {
  op = refl;
  results = tt;
  operands = tt;
  ty = refl;
  signature = refl;
  function = refl;
  member = refl;
  number = refl;
  text = refl;
  qualifier = refl;
  lexical = refl;
  var_decl = refl;
  debug = refl;
  edges = tt;
}

-- the parts of an instruction that have no names stand in it as they are written
abbrev with_plain : WrittenInst → Inst → Inst
with_plain w i = record i {
  op = w.op;
  ty = w.ty;
  signature = w.signature;
  member = w.member;
  number = w.number;
  text = w.text;
  qualifier = w.qualifier.word;
  lexical = w.lexical;
  var_decl = w.var_decl;
  debug = w.debug;
}

-- what has names: its results, its operands, its function and its edges
abbrev Named : List Function → Inst → WrittenInst → Type 0
Named functions i w = AllZip IsValueNamed i.results w.results × AllZip IsOperandWritten i.operands w.operands
    × (option_map name_of w.function ≡ option_map (name_in functions) i.function) × AllZip IsEdgeWritten i.edges w.edges

abbrev Parts : List Function → Inst → WrittenInst → Type 0
Parts functions i w = (with_plain w i ≡ i) × Named functions i w

module _ {functions : List Function} where
  parts : {i : Inst} {w : WrittenInst} → IsInstWritten functions i w → Parts functions i w
  parts h = (
    rw (h.op, h.ty, h.signature, h.member, h.number, h.text, h.qualifier, h.lexical, h.var_decl, h.debug) refl,
    (h.results, h.operands, h.function, h.edges),
  )

  whole : {i : Inst} {w : WrittenInst} → Parts functions i w → IsInstWritten functions i w
  whole (plain, (results, operands, function, edges)) = record {
    op = ap (λ j. j.op) plain;
    results = results;
    operands = operands;
    ty = ap (λ j. j.ty) plain;
    signature = ap (λ j. j.signature) plain;
    function = function;
    member = ap (λ j. j.member) plain;
    number = ap (λ j. j.number) plain;
    text = ap (λ j. j.text) plain;
    qualifier = ap (λ j. j.qualifier) plain;
    lexical = ap (λ j. j.lexical) plain;
    var_decl = ap (λ j. j.var_decl) plain;
    debug = ap (λ j. j.debug) plain;
    edges = edges;
  }

-- where one part of what is written is another, the instruction has that part too

pub with_results : (functions : List Function) (i : Inst) (w : WrittenInst) (vs : List ValueId) (ts : List WrittenToken) → IsInstWritten functions i w → AllZip IsValueNamed vs ts
    → IsInstWritten functions (record i { results = vs }) (record w { results = ts })
with_results functions i w vs ts h results =
    let p = parts h in
    whole (ap (λ (j : Inst). record j { results = vs }) p.0, (results, p.1.1, p.1.2, p.1.3))

pub with_operands : (functions : List Function) (i : Inst) (w : WrittenInst) (os : List Operand) (ws : List WrittenOperand) → IsInstWritten functions i w → AllZip IsOperandWritten os ws
    → IsInstWritten functions (record i { operands = os }) (record w { operands = ws })
with_operands functions i w os ws h operands =
    let p = parts h in
    whole (ap (λ (j : Inst). record j { operands = os }) p.0, (p.1.0, operands, p.1.2, p.1.3))

pub with_function : (functions : List Function) (i : Inst) (w : WrittenInst) (f : Option FuncId) (token : WrittenToken)
    → IsInstWritten functions i w → Some token.text ≡ option_map (name_in functions) f
    → IsInstWritten functions (record i { function = f }) (record w { function = Some token })
with_function functions i w f token h same =
    let p = parts h in
    whole (ap (λ (j : Inst). record j { function = f }) p.0, (p.1.0, p.1.1, same, p.1.3))

pub with_edges : (functions : List Function) (i : Inst) (w : WrittenInst) (es : List Edge) (ws : List WrittenEdge) → IsInstWritten functions i w → AllZip IsEdgeWritten es ws
    → IsInstWritten functions (record i { edges = es }) (record w { edges = ws })
with_edges functions i w es ws h edges =
    let p = parts h in
    whole (ap (λ (j : Inst). record j { edges = es }) p.0, (p.1.0, p.1.1, p.1.2, edges))

pub with_type : (functions : List Function) (i : Inst) (w : WrittenInst) (t : Option TypeName) (u : TypeName) → IsInstWritten functions i w → Some u ≡ t
    → IsInstWritten functions (record i { ty = t }) (record w { ty = Some u })
with_type functions i w t u h same =
    let p = parts h in
    whole (ap₂ (λ (j : Inst) x. record j { ty = x }) p.0 same, p.1)

pub with_signature : (functions : List Function) (i : Inst) (w : WrittenInst) (s : Option Signature) (u : Signature) → IsInstWritten functions i w → Some u ≡ s
    → IsInstWritten functions (record i { signature = s }) (record w { signature = Some u })
with_signature functions i w s u h same =
    let p = parts h in
    whole (ap₂ (λ (j : Inst) x. record j { signature = x }) p.0 same, p.1)

pub with_member : (functions : List Function) (i : Inst) (w : WrittenInst) (m : Option Member) (u : Member) → IsInstWritten functions i w → Some u ≡ m
    → IsInstWritten functions (record i { member = m }) (record w { member = Some u })
with_member functions i w m u h same =
    let p = parts h in
    whole (ap₂ (λ (j : Inst) x. record j { member = x }) p.0 same, p.1)

pub with_number : (functions : List Function) (i : Inst) (w : WrittenInst) (n : Option ℤ) (u : Option ℤ) → IsInstWritten functions i w → u ≡ n
    → IsInstWritten functions (record i { number = n }) (record w { number = u })
with_number functions i w n u h same =
    let p = parts h in
    whole (ap₂ (λ (j : Inst) x. record j { number = x }) p.0 same, p.1)

pub with_text : (functions : List Function) (i : Inst) (w : WrittenInst) (t : Option (List ℕ)) (u : List ℕ) → IsInstWritten functions i w → Some u ≡ t
    → IsInstWritten functions (record i { text = t }) (record w { text = Some u })
with_text functions i w t u h same =
    let p = parts h in
    whole (ap₂ (λ (j : Inst) x. record j { text = x }) p.0 same, p.1)

pub with_qualifier : (functions : List Function) (i : Inst) (w : WrittenInst) (q : Qualifier) (u : WrittenQualifier) → IsInstWritten functions i w → u.word ≡ q
    → IsInstWritten functions (record i { qualifier = q }) (record w { qualifier = u })
with_qualifier functions i w q u h same =
    let p = parts h in
    whole (ap₂ (λ (j : Inst) x. record j { qualifier = x }) p.0 same, p.1)

pub with_flags : (functions : List Function) (i : Inst) (w : WrittenInst) (lexical var_decl u v : Bool) → IsInstWritten functions i w → u ≡ lexical → v ≡ var_decl
    → IsInstWritten functions (record i { lexical = lexical; var_decl = var_decl }) (record w { lexical = u; var_decl = v })
with_flags functions i w lexical var_decl u v h first second =
    let p = parts h in
    whole (ap₂ (λ (j : Inst) x. record j { lexical = x }) (ap₂ (λ (j : Inst) x. record j { var_decl = x }) p.0 second) first, p.1)

pub with_debug : (functions : List Function) (i : Inst) (w : WrittenInst) (d u : Debug) → IsInstWritten functions i w → u ≡ d
    → IsInstWritten functions (record i { debug = d }) (record w { debug = u })
with_debug functions i w d u h same =
    let p = parts h in
    whole (ap₂ (λ (j : Inst) x. record j { debug = x }) p.0 same, p.1)
