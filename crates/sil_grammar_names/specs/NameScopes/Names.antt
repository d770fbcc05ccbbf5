-- The names of a written module: where each is defined, and where it is used, in the order of the text.
use Rattle.std.specs.Prelude.{ℕ, List, [], ◌∷◌, ◌++◌, map}
use Rattle.std.specs.List.{flat_map}
use Rattle.std.specs.Option.{option_to_list}
use Rattle.sil_grammar_tree.specs.declared.written_tree.written_declarations.WrittenCase.{WrittenCase}
use Rattle.sil_grammar_tree.specs.declared.written_tree.written_declarations.WrittenDecl.{WrittenDecl}
use Rattle.sil_grammar_tree.specs.declared.written_tree.written_declarations.WrittenDecl.TheVariants as decl
use Rattle.sil_grammar_tree.specs.declared.written_tree.written_declarations.WrittenField.{WrittenField}
use Rattle.sil_grammar_tree.specs.declared.written_tree.written_declarations.WrittenToken.{WrittenToken}
use Rattle.sil_grammar_tree.specs.declared.written_tree.written_functions.WrittenArg.{WrittenArg}
use Rattle.sil_grammar_tree.specs.declared.written_tree.written_functions.WrittenBlock.{WrittenBlock}
use Rattle.sil_grammar_tree.specs.declared.written_tree.written_functions.WrittenFunction.{WrittenFunction}
use Rattle.sil_grammar_tree.specs.declared.written_tree.written_instructions.WrittenEdge.{WrittenEdge}
use Rattle.sil_grammar_tree.specs.declared.written_tree.written_instructions.WrittenInst.{WrittenInst}
use Rattle.sil_grammar_tree.specs.declared.written_tree.written_instructions.WrittenOperand.{WrittenOperand}
use Rattle.sil_grammar_tree.specs.declared.written_tree.written_module.WrittenEntry.{WrittenEntry}
use Rattle.sil_grammar_tree.specs.declared.written_tree.written_module.WrittenItem.{WrittenItem}
use Rattle.sil_grammar_tree.specs.declared.written_tree.written_module.WrittenItem.TheVariants as item
use Rattle.sil_grammar_tree.specs.declared.written_tree.written_module.WrittenVtable.{WrittenVtable}

-- a name, without its sigil
abbrev pub Name : Type 0
Name = List ℕ

abbrev pub name_of : WrittenToken → Name
name_of token = token.text

abbrev pub decls_of : WrittenItem → List WrittenDecl
decls_of (item.Decl d) = d ∷ []
decls_of (item.Function f) = []
decls_of (item.Vtable t) = []

abbrev pub functions_of : WrittenItem → List WrittenFunction
functions_of (item.Decl d) = []
functions_of (item.Function f) = f ∷ []
functions_of (item.Vtable t) = []

abbrev pub vtables_of : WrittenItem → List WrittenVtable
vtables_of (item.Decl d) = []
vtables_of (item.Function f) = []
vtables_of (item.Vtable t) = t ∷ []

abbrev pub field_name : WrittenField → WrittenToken
field_name f = f.name

abbrev pub case_name : WrittenCase → WrittenToken
case_name c = c.name

abbrev pub member_names : WrittenDecl → List WrittenToken
member_names (decl.Class name superclass fields) = map field_name fields
member_names (decl.Struct name fields) = map field_name fields
member_names (decl.Enum name cases) = map case_name cases

abbrev pub function_name : WrittenFunction → WrittenToken
function_name f = f.name

abbrev pub vtable_name : WrittenVtable → WrittenToken
vtable_name t = t.class_name

abbrev pub label_of : WrittenBlock → WrittenToken
label_of b = b.label

abbrev pub arg_name : WrittenArg → WrittenToken
arg_name a = a.name

abbrev pub operand_name : WrittenOperand → WrittenToken
operand_name o = o.name

abbrev pub edge_label : WrittenEdge → WrittenToken
edge_label e = e.label

abbrev pub results_of : WrittenInst → List WrittenToken
results_of i = i.results

-- the instructions of a block, its terminator last
abbrev pub code_of : WrittenBlock → List WrittenInst
code_of b = b.insts ++ b.terminator ∷ []

-- the values that a block names where it defines them: its arguments, then the results
abbrev pub values_defined : WrittenBlock → List WrittenToken
values_defined b = map arg_name b.args ++ flat_map results_of (code_of b)

abbrev pub edge_values : WrittenEdge → List WrittenToken
edge_values e = map operand_name e.args

-- the values that an instruction uses: its operands, then the arguments of its edges
abbrev pub values_used : WrittenInst → List WrittenToken
values_used i = map operand_name i.operands ++ flat_map edge_values i.edges

abbrev pub labels_used : WrittenInst → List WrittenToken
labels_used i = map edge_label i.edges

abbrev pub functions_used : WrittenInst → List WrittenToken
functions_used i = option_to_list i.function

-- the instructions of a function
abbrev pub insts_of : WrittenFunction → List WrittenInst
insts_of f = flat_map code_of f.blocks

abbrev pub entry_function : WrittenEntry → WrittenToken
entry_function e = e.function

-- the functions that an item uses
abbrev pub used_by_item : WrittenItem → List WrittenToken
used_by_item (item.Decl d) = []
used_by_item (item.Function f) = flat_map functions_used (insts_of f)
used_by_item (item.Vtable t) = map entry_function (option_to_list t.entry)
