-- An instruction without some of its parts, and that one with just the parts of its row is itself.
use Rattle.std.proofs.Common.{◌≡◌, ℕ, List, [], ◌∷◌, Option, Some, None, Bool, true, false, IsTrue, refl, ◌∙◌, if◌then◌else◌, is_some, ◌||◌, ◌&&◌, true≢false}
use Rattle.std.specs.Prelude.{not}
use Rattle.std.specs.List.{list_any}
use Rattle.std.proofs.Math.Bool.{or-false}
use Rattle.instruction_table.specs.Forms.{ending_of, parts_of, words_of}
use Rattle.sil_ast.specs.declared.debug.Binding.{Binding}
use Rattle.sil_ast.specs.declared.debug.Debug.{Debug}
use Rattle.instruction_table.specs.declared.entries.Ending.{Ending}
use Rattle.instruction_table.specs.declared.entries.Ending.TheVariants as ending
use Rattle.instruction_table.specs.declared.entries.Words.{Words}
use Rattle.instruction_table.specs.declared.entries.Words.TheVariants as words
use Rattle.instruction_table.specs.declared.forms.Part.{Part}
use Rattle.instruction_table.specs.declared.forms.Part.TheVariants as part
use Rattle.sil_ast.specs.declared.inst.Edge.{Edge}
use Rattle.sil_ast.specs.declared.inst.Inst.{Inst}
use Rattle.sil_ast.specs.declared.inst.Qualifier.{Qualifier}
use Rattle.sil_ast.specs.declared.inst.Qualifier.TheVariants as qualifier
use Rattle.instruction_table.specs.declared.op.Op.{Op}
use Rattle.instruction_table.specs.declared.op.Op.TheVariants as op
use Rattle.sil_ast.specs.declared.operands.Operand.{Operand}
use Rattle.sil_grammar_values.specs.Values.{no_debug}
use Rattle.numbered_form.specs.Lists.{is_empty}
use Rattle.numbered_form.specs.inner.Parts.{HasItsParts, are_edges_by, is_among, is_callee, is_debug, is_flags, is_member, is_number, is_plain, is_signature, is_silent, is_text, is_type, row_has}
use Rattle.sil_printer_laws.proofs.OperandForms.{impossible}

abbrev is_qualifier : Part → Bool
is_qualifier part.Qualifier = true
is_qualifier _ = false

abbrev is_edges : Part → Bool
is_edges part.Edges = true
is_edges _ = false

-- the part takes operands
abbrev pub has_operand : Part → Bool
has_operand part.Typed = true
has_operand part.Bare = true
has_operand part.TypedArgs = true
has_operand part.BareArgs = true
has_operand _ = false

abbrev pub kept_if : {A : Type 0} → Bool → Option A → Option A
kept_if flag o = if flag then o else None

-- the instruction with these operands, without results and without what isn't said to be kept
abbrev pub kept_by : ((Part → Bool) → Bool) → List Operand → Inst → Inst
kept_by has os i = record {
  op = i.op;
  results = [];
  operands = os;
  ty = kept_if (has is_type) i.ty;
  signature = kept_if (has is_signature) i.signature;
  function = kept_if (has is_callee) i.function;
  member = kept_if (has is_member) i.member;
  number = kept_if (has is_number) i.number;
  text = kept_if (has is_text) i.text;
  qualifier = if has is_qualifier then i.qualifier else qualifier.Plain;
  lexical = has is_flags && i.lexical;
  var_decl = has is_flags && i.var_decl;
  debug = if has is_debug then i.debug else no_debug;
  edges = if has is_edges then i.edges else [];
}

-- with just these parts
abbrev pub so_far : List Part → List Operand → Inst → Inst
so_far parts os i = kept_by (λ test. list_any test parts) os i

-- parts, the last one first
abbrev pub turned : List Part → List Part → List Part
turned [] done = done
turned (here ∷ others) done = turned others (here ∷ done)

or_moved : (a b c : Bool) → (b || (a || c)) ≡ (a || b || c)
or_moved true true c = refl
or_moved true false c = refl
or_moved false true c = refl
or_moved false false c = refl

any_turned : (test : Part → Bool) (parts done : List Part) → list_any test (turned parts done) ≡ (list_any test parts || list_any test done)
any_turned test [] done = refl
any_turned test (here ∷ others) done = any_turned test others (here ∷ done) ∙ or_moved (test here) (list_any test others) (list_any test done)

any_of_row : (o : Op) (test : Part → Bool) → list_any test (turned (parts_of o) []) ≡ row_has test o
any_of_row o test = any_turned test (parts_of o) [] ∙ or-false (row_has test o)

same_option : {A : Type 0} (flag : Bool) (o : Option A) → is_some o ≡ flag → kept_if flag o ≡ o
same_option true o h = refl
same_option false None h = refl
same_option false (Some x) h = absurd (true≢false h)

is_plain_one : (q : Qualifier) → IsTrue (is_plain q) → qualifier.Plain ≡ q
is_plain_one qualifier.Plain h = refl
is_plain_one _ h = impossible h

-- a row has a place for words in brackets, or takes none: computed for all rows
abbrev is_no_word : Words → Bool
is_no_word words.NoWord = true
is_no_word _ = false

words_have_a_place : (o : Op) → IsTrue (row_has is_qualifier o || is_no_word (words_of o))
words_have_a_place op.Load = refl
words_have_a_place _ = refl

no_word : (words : Words) (q : Qualifier) → IsTrue (is_no_word words) → IsTrue (is_among words q) → qualifier.Plain ≡ q
no_word words.NoWord q none h = is_plain_one q h
no_word _ q none h = impossible none

same_qualifier : (flag : Bool) (words : Words) (q : Qualifier) → IsTrue (flag || is_no_word words) → IsTrue (is_among words q) → (if flag then q else qualifier.Plain) ≡ q
same_qualifier true words q place h = refl
same_qualifier false words q place h = no_word words q place h

-- the first flag, and the second
same_first : (flag a b : Bool) → IsTrue (flag || not (a || b)) → (flag && a) ≡ a
same_first true a b h = refl
same_first false true b h = impossible h
same_first false false b h = refl

same_second : (flag a b : Bool) → IsTrue (flag || not (a || b)) → (flag && b) ≡ b
same_second true a b h = refl
same_second false true b h = impossible h
same_second false false true h = impossible h
same_second false false false h = refl

is_silent_one : (binding : Option Binding) (name : Option (List ℕ)) (argno : Option ℕ) (deref : Bool)
    → IsTrue (is_silent (record { binding = binding; name = name; argno = argno; deref = deref })) → no_debug ≡ record { binding = binding; name = name; argno = argno; deref = deref }
is_silent_one None None None false h = refl
is_silent_one None None None true h = impossible h
is_silent_one None None (Some n) deref h = impossible h
is_silent_one None (Some name) argno deref h = impossible h
is_silent_one (Some b) name argno deref h = impossible h

same_debug : (flag : Bool) (d : Debug) → IsTrue (flag || is_silent d) → (if flag then d else no_debug) ≡ d
same_debug true d h = refl
same_debug false d h = is_silent_one d.binding d.name d.argno d.deref h

is_empty_one : {A : Type 0} (xs : List A) → IsTrue (is_empty xs) → [] ≡ xs
is_empty_one [] h = refl
is_empty_one (x ∷ xs) h = impossible h

-- a row has a place for blocks, or goes to none: computed for all rows
abbrev goes_nowhere : Ending → Bool
goes_nowhere ending.Inside = true
goes_nowhere ending.Return = true
goes_nowhere ending.Unreachable = true
goes_nowhere _ = false

blocks_have_a_place : (o : Op) → IsTrue (row_has is_edges o || goes_nowhere (ending_of o))
blocks_have_a_place op.Br = refl
blocks_have_a_place _ = refl

no_block : (ending : Ending) (es : List Edge) → IsTrue (goes_nowhere ending) → IsTrue (are_edges_by ending es) → [] ≡ es
no_block ending.Inside es none h = is_empty_one es h
no_block ending.Return es none h = is_empty_one es h
no_block ending.Unreachable es none h = is_empty_one es h
no_block _ es none h = impossible none

same_edges : (flag : Bool) (ending : Ending) (es : List Edge) → IsTrue (flag || goes_nowhere ending) → IsTrue (are_edges_by ending es) → (if flag then es else []) ≡ es
same_edges true ending es place h = refl
same_edges false ending es place h = no_block ending es place h

row_kept : (i : Inst) → HasItsParts i → kept_by (λ test. row_has test i.op) i.operands i ≡ record i { results = [] }
row_kept i h = λ j. record {
  op = i.op;
  results = [];
  operands = i.operands;
  ty = same_option (row_has is_type i.op) i.ty h.ty j;
  signature = same_option (row_has is_signature i.op) i.signature h.signature j;
  function = same_option (row_has is_callee i.op) i.function h.function j;
  member = same_option (row_has is_member i.op) i.member h.member j;
  number = same_option (row_has is_number i.op) i.number h.number j;
  text = same_option (row_has is_text i.op) i.text h.text j;
  qualifier = same_qualifier (row_has is_qualifier i.op) (words_of i.op) i.qualifier (words_have_a_place i.op) h.qualifier j;
  lexical = same_first (row_has is_flags i.op) i.lexical i.var_decl h.flags j;
  var_decl = same_second (row_has is_flags i.op) i.lexical i.var_decl h.flags j;
  debug = same_debug (row_has is_debug i.op) i.debug h.debug j;
  edges = same_edges (row_has is_edges i.op) (ending_of i.op) i.edges (blocks_have_a_place i.op) h.edges j;
}

-- all parts of its row, in whatever order, are all that an instruction has
pub all_kept : (i : Inst) → HasItsParts i → so_far (turned (parts_of i.op) []) i.operands i ≡ record i { results = [] }
all_kept i h = (λ j. kept_by (λ test. any_of_row i.op test j) i.operands i) ∙ row_kept i h
