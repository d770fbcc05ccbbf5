-- Tests of an instruction, one for each part of numbered form.
use Rattle.std.proofs.Common.{ℕ, List, [], ◌∷◌, length, Bool, not, ◌&&◌, ◌||◌, IsTrue, is_none, is_some, nat_lt, nat_le, ltb-true, leb-true}
use Rattle.std.specs.List.{list_all}
use Rattle.std.proofs.lemmas.Bool.{and_parts}
use Rattle.instruction_table.specs.Forms.{is_terminator}
use Rattle.numbered_form.specs.Lists.{is_empty}
use Rattle.numbered_form.specs.Names.{IsInstSpelled, IsEdgeSpelled, IsMemberSpelled, is_quotable, is_word}
use Rattle.numbered_form.specs.Numbering.{IsEdgeInRange, IsInstInRange, IsValueBelow}
use Rattle.numbered_form.specs.inner.Limits.{IsEdgeInLimits, IsInstInLimits, IsSignatureInLimits}
use Rattle.numbered_form.specs.inner.Literals.{HasLiterals, is_number_of, is_text_of}
use Rattle.numbered_form.specs.inner.Parts.{BlockHasParts, HasItsParts, IsInside, IsTerminator, has_edges, has_operands, has_results, is_callee, is_debug, is_flags, is_member}
use Rattle.numbered_form.specs.inner.Parts.{is_number, is_signature, is_silent, is_text, is_type, may_have, row_has}
use Rattle.numbered_form.specs.inner.Types.{HasEdgeTypes, HasInstTypes, HasOperandType, HasParamType, HasSignatureTypes, IsGivenWritten, IsPlacedType, IsPlainType}
use Rattle.numbered_form.specs.inner.Types.{is_placed_type, is_plain_type}
use Rattle.sil_ast.specs.TypeName.{depth_of}
use Rattle.sil_ast.specs.declared.function.Block.{Block}
use Rattle.sil_ast.specs.declared.inst.Edge.{Edge}
use Rattle.sil_ast.specs.declared.inst.Inst.{Inst}
use Rattle.sil_ast.specs.declared.member.Member.{Member}
use Rattle.sil_ast.specs.declared.operands.Operand.{Operand}
use Rattle.sil_ast.specs.declared.signature.Signature.{Signature}
use Rattle.sil_ast.specs.declared.type_name.TypeName.{TypeName}
use Rattle.sil_rules.specs.declared.limits.TheConstants.{ARGUMENTS, DEPTH}
use Rattle.sil_command_generator.proofs.Tests.{all, all_told, each_by, empty_each, empty_short, empty_told, if_some, none_told, not_told, same_bool, same_told, some_by}

-- ---- what it uses is there

abbrev value_below : ℕ → Operand → Bool
value_below values o = nat_lt o.value.0 values

value_is_below : (values : ℕ) (o : Operand) → IsTrue (value_below values o) → IsValueBelow values o
value_is_below values o h = ltb-true o.value.0 values h

abbrev edge_in_range : ℕ → ℕ → Edge → Bool
edge_in_range values blocks e = nat_lt e.block.0 blocks && list_all (value_below values) e.args

edge_is_in_range : (values blocks : ℕ) (e : Edge) → IsTrue (edge_in_range values blocks e) → IsEdgeInRange values blocks e
edge_is_in_range values blocks e h =
    let both = and_parts (nat_lt e.block.0 blocks) (list_all (value_below values) e.args) h in
    record { block = ltb-true e.block.0 blocks both.0; args = each_by (IsValueBelow values) (value_below values) (value_is_below values) e.args both.1 }

abbrev range_tests : ℕ → ℕ → Inst → List Bool
range_tests values blocks i = list_all (value_below values) i.operands ∷ list_all (edge_in_range values blocks) i.edges ∷ is_none i.function ∷ []

-- of one that names no function
abbrev pub in_range : ℕ → ℕ → Inst → Bool
in_range values blocks i = all (range_tests values blocks i)

pub is_in_range : (values blocks functions : ℕ) (i : Inst) → IsTrue (in_range values blocks i) → IsInstInRange values blocks functions i
is_in_range values blocks functions i h =
    let t = all_told (range_tests values blocks i) h in
    record {
      operands = each_by (IsValueBelow values) (value_below values) (value_is_below values) i.operands t.0;
      edges = each_by (IsEdgeInRange values blocks) (edge_in_range values blocks) (edge_is_in_range values blocks) i.edges t.1.0;
      function = none_told _ i.function t.1.1.0;
    }

-- ---- it has the parts of its row

abbrev parts_tests : Inst → List Bool
parts_tests i =
    same_bool (is_some i.ty) (row_has is_type i.op)
    ∷ same_bool (is_some i.signature) (row_has is_signature i.op)
    ∷ same_bool (is_some i.function) (row_has is_callee i.op)
    ∷ same_bool (is_some i.member) (row_has is_member i.op)
    ∷ same_bool (is_some i.number) (row_has is_number i.op)
    ∷ same_bool (is_some i.text) (row_has is_text i.op)
    ∷ may_have i.op i.qualifier
    ∷ (row_has is_flags i.op || not (i.lexical || i.var_decl))
    ∷ (row_has is_debug i.op || is_silent i.debug)
    ∷ has_operands i.op i.operands
    ∷ has_edges i.op i.edges
    ∷ has_results i.op i.results
    ∷ []

has_its_parts : (i : Inst) → IsTrue (all (parts_tests i)) → HasItsParts i
has_its_parts i h =
    let t = all_told (parts_tests i) h in
    record {
      ty = same_told (is_some i.ty) (row_has is_type i.op) t.0;
      signature = same_told (is_some i.signature) (row_has is_signature i.op) t.1.0;
      function = same_told (is_some i.function) (row_has is_callee i.op) t.1.1.0;
      member = same_told (is_some i.member) (row_has is_member i.op) t.1.1.1.0;
      number = same_told (is_some i.number) (row_has is_number i.op) t.1.1.1.1.0;
      text = same_told (is_some i.text) (row_has is_text i.op) t.1.1.1.1.1.0;
      qualifier = t.1.1.1.1.1.1.0;
      flags = t.1.1.1.1.1.1.1.0;
      debug = t.1.1.1.1.1.1.1.1.0;
      operands = t.1.1.1.1.1.1.1.1.1.0;
      edges = t.1.1.1.1.1.1.1.1.1.1.0;
      results = t.1.1.1.1.1.1.1.1.1.1.1.0;
    }

abbrev pub inside : Inst → Bool
inside i = not (is_terminator i.op) && all (parts_tests i)

pub is_inside : (i : Inst) → IsTrue (inside i) → IsInside i
is_inside i h =
    let both = and_parts (not (is_terminator i.op)) (all (parts_tests i)) h in
    record { goes_on = not_told (is_terminator i.op) both.0; parts = has_its_parts i both.1 }

abbrev terminator_tests : Inst → List Bool
terminator_tests i = is_terminator i.op ∷ is_empty i.results ∷ all (parts_tests i) ∷ []

abbrev pub terminates : Inst → Bool
terminates i = all (terminator_tests i)

pub is_terminating : (i : Inst) → IsTrue (terminates i) → IsTerminator i
is_terminating i h =
    let t = all_told (terminator_tests i) h in
    record { ends = t.0; no_results = empty_told i.results t.1.0; parts = has_its_parts i t.1.1.0 }

abbrev pub block_with_parts : Block → Bool
block_with_parts b = list_all inside b.insts && terminates b.terminator

pub block_has_parts : (b : Block) → IsTrue (block_with_parts b) → BlockHasParts b
block_has_parts b h =
    let both = and_parts (list_all inside b.insts) (terminates b.terminator) h in
    record { insts = each_by IsInside inside is_inside b.insts both.0; terminator = is_terminating b.terminator both.1 }

-- ---- its numbers and texts are in range

abbrev literal_tests : Inst → List Bool
literal_tests i = if_some (is_number_of i.op i.ty) i.number ∷ if_some (is_text_of i.op) i.text ∷ is_none i.debug.argno ∷ []

abbrev pub with_literals : Inst → Bool
with_literals i = all (literal_tests i)

pub has_literals : (i : Inst) → IsTrue (with_literals i) → HasLiterals i
has_literals i h =
    let t = all_told (literal_tests i) h in
    record {
      number = some_by (λ n. IsTrue (is_number_of i.op i.ty n)) (is_number_of i.op i.ty) (λ n e. e) i.number t.0;
      text = some_by (λ text. IsTrue (is_text_of i.op text)) (is_text_of i.op) (λ text e. e) i.text t.1.0;
      argno = none_told _ i.debug.argno t.1.1.0;
    }

-- ---- its names have a spelling

abbrev member_spelled : Member → Bool
member_spelled r = is_word r.owner && is_word r.name

member_is_spelled : (r : Member) → IsTrue (member_spelled r) → IsMemberSpelled r
member_is_spelled r h = let both = and_parts (is_word r.owner) (is_word r.name) h in record { owner = both.0; name = both.1 }

abbrev edge_spelled : Edge → Bool
edge_spelled e = is_none e.case_of

edge_is_spelled : (e : Edge) → IsTrue (edge_spelled e) → IsEdgeSpelled e
edge_is_spelled e h = none_told IsMemberSpelled e.case_of h

abbrev spelled_tests : Inst → List Bool
spelled_tests i = if_some member_spelled i.member ∷ if_some is_quotable i.text ∷ is_none i.debug.name ∷ list_all edge_spelled i.edges ∷ []

abbrev pub spelled : Inst → Bool
spelled i = all (spelled_tests i)

pub is_spelled : (i : Inst) → IsTrue (spelled i) → IsInstSpelled i
is_spelled i h =
    let t = all_told (spelled_tests i) h in
    record {
      member = some_by IsMemberSpelled member_spelled member_is_spelled i.member t.0;
      text = some_by (λ text. IsTrue (is_quotable text)) is_quotable (λ text e. e) i.text t.1.0;
      debug = none_told _ i.debug.name t.1.1.0;
      edges = each_by IsEdgeSpelled edge_spelled edge_is_spelled i.edges t.1.1.1.0;
    }

-- ---- its types are written as the grammar writes them

abbrev pub plain : TypeName → Bool
plain t = is_plain_type t && nat_le (depth_of t) DEPTH

pub is_plain : (t : TypeName) → IsTrue (plain t) → IsPlainType t
is_plain t h =
    let both = and_parts (is_plain_type t) (nat_le (depth_of t) DEPTH) h in record { written = both.0; depth = leb-true (depth_of t) DEPTH both.1 }

abbrev pub placed : TypeName → Bool
placed t = is_placed_type t && nat_le (depth_of t) DEPTH

pub is_placed : (t : TypeName) → IsTrue (placed t) → IsPlacedType t
is_placed t h =
    let both = and_parts (is_placed_type t) (nat_le (depth_of t) DEPTH) h in record { written = both.0; depth = leb-true (depth_of t) DEPTH both.1 }

-- a signature without parameters and results
abbrev of_none : Signature → Bool
of_none s = is_empty s.params && is_empty s.results

signature_types : (s : Signature) → IsTrue (of_none s) → HasSignatureTypes s
signature_types s h =
    let both = and_parts (is_empty s.params) (is_empty s.results) h in
    record { params = empty_each HasParamType s.params both.0; results = empty_each IsGivenWritten s.results both.1 }

abbrev operand_typed : Operand → Bool
operand_typed o = if_some placed o.ty

operand_types : (o : Operand) → IsTrue (operand_typed o) → HasOperandType o
operand_types o h = some_by IsPlacedType placed is_placed o.ty h

abbrev edge_typed : Edge → Bool
edge_typed e = list_all operand_typed e.args

edge_types : (e : Edge) → IsTrue (edge_typed e) → HasEdgeTypes e
edge_types e h = each_by HasOperandType operand_typed operand_types e.args h

abbrev type_tests : Inst → List Bool
type_tests i = if_some plain i.ty ∷ if_some of_none i.signature ∷ list_all operand_typed i.operands ∷ list_all edge_typed i.edges ∷ []

abbrev pub with_types : Inst → Bool
with_types i = all (type_tests i)

pub has_types : (i : Inst) → IsTrue (with_types i) → HasInstTypes i
has_types i h =
    let t = all_told (type_tests i) h in
    record {
      ty = some_by IsPlainType plain is_plain i.ty t.0;
      signature = some_by HasSignatureTypes of_none signature_types i.signature t.1.0;
      operands = each_by HasOperandType operand_typed operand_types i.operands t.1.1.0;
      edges = each_by HasEdgeTypes edge_typed edge_types i.edges t.1.1.1.0;
    }

-- ---- it keeps the limits

signature_limits : (s : Signature) → IsTrue (of_none s) → IsSignatureInLimits s
signature_limits s h =
    let both = and_parts (is_empty s.params) (is_empty s.results) h in
    record { params = empty_short s.params ARGUMENTS both.0; results = empty_short s.results ARGUMENTS both.1 }

abbrev edge_limited : Edge → Bool
edge_limited e = nat_le (length e.args) ARGUMENTS

edge_limits : (e : Edge) → IsTrue (edge_limited e) → IsEdgeInLimits e
edge_limits e h = leb-true (length e.args) ARGUMENTS h

abbrev limit_tests : Inst → List Bool
limit_tests i =
    nat_le (length i.operands) ARGUMENTS ∷ nat_le (length i.results) ARGUMENTS ∷ if_some of_none i.signature ∷ list_all edge_limited i.edges ∷ []

abbrev pub limited : Inst → Bool
limited i = all (limit_tests i)

pub has_limits : (i : Inst) → IsTrue (limited i) → IsInstInLimits i
has_limits i h =
    let t = all_told (limit_tests i) h in
    record {
      operands = leb-true (length i.operands) ARGUMENTS t.0;
      results = leb-true (length i.results) ARGUMENTS t.1.0;
      signature = some_by IsSignatureInLimits of_none signature_limits i.signature t.1.1.0;
      edges = each_by IsEdgeInLimits edge_limited edge_limits i.edges t.1.1.1.0;
    }
