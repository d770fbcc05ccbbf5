-- The tokens by which the parts of a written module are counted.
use Rattle.std.specs.Prelude.{List, [], ◌∷◌, ◌++◌, Bool, if◌then◌else◌, not, map, filter, codes}
use Rattle.std.specs.List.{flat_map}
use Rattle.std.specs.Str.{bytes_eq}
use Rattle.instruction_table.specs.Forms.{extra_value_of, has_one_result}
use Rattle.instruction_table.specs.declared.entries.ExtraValue.{ExtraValue}
use Rattle.instruction_table.specs.declared.entries.ExtraValue.TheVariants as extra
use Rattle.sil_ast.specs.declared.inst.Qualifier.{Qualifier}
use Rattle.sil_ast.specs.declared.inst.Qualifier.TheVariants as qualifier
use Rattle.instruction_table.specs.declared.op.Op.{Op}
use Rattle.sil_ast.specs.declared.place.Place.{Place}
use Rattle.sil_grammar_tree.specs.declared.written_tree.written_declarations.WrittenCase.{WrittenCase}
use Rattle.sil_grammar_tree.specs.declared.written_tree.written_declarations.WrittenDecl.{WrittenDecl}
use Rattle.sil_grammar_tree.specs.declared.written_tree.written_declarations.WrittenDecl.TheVariants as decl
use Rattle.sil_grammar_tree.specs.declared.written_tree.written_declarations.WrittenField.{WrittenField}
use Rattle.sil_grammar_tree.specs.declared.written_tree.written_declarations.WrittenToken.{WrittenToken}
use Rattle.sil_grammar_tree.specs.declared.written_tree.written_functions.WrittenArg.{WrittenArg}
use Rattle.sil_grammar_tree.specs.declared.written_tree.written_functions.WrittenBlock.{WrittenBlock}
use Rattle.sil_grammar_tree.specs.declared.written_tree.written_instructions.WrittenInst.{WrittenInst}
use Rattle.sil_grammar_tree.specs.declared.written_tree.written_instructions.WrittenOperand.{WrittenOperand}
use Rattle.sil_grammar_tree.specs.declared.written_tree.written_module.WrittenItem.{WrittenItem}
use Rattle.sil_grammar_tree.specs.declared.written_tree.written_module.WrittenItem.TheVariants as item

abbrev pub token_place : WrittenToken → Place
token_place t = t.place

abbrev pub name_of_decl : WrittenDecl → WrittenToken
name_of_decl (decl.Class name superclass fields) = name
name_of_decl (decl.Struct name fields) = name
name_of_decl (decl.Enum name cases) = name

abbrev pub decl_names : WrittenItem → List WrittenToken
decl_names (item.Decl d) = name_of_decl d ∷ []
decl_names (item.Function f) = []
decl_names (item.Vtable t) = []

abbrev pub function_names : WrittenItem → List WrittenToken
function_names (item.Decl d) = []
function_names (item.Function f) = f.name ∷ []
function_names (item.Vtable t) = []

abbrev pub field_place : WrittenField → Place
field_place f = f.name.place

abbrev pub case_place : WrittenCase → Place
case_place c = c.name.place

abbrev pub arg_place : WrittenArg → Place
arg_place a = a.name.place

abbrev pub operand_place : WrittenOperand → Place
operand_place o = o.name.place

-- `[ossa]` is no attribute that is kept
abbrev pub is_ossa : WrittenToken → Bool
is_ossa word = bytes_eq word.text (codes "ossa")

abbrev pub is_kept : WrittenToken → Bool
is_kept word = not (is_ossa word)

abbrev pub attribute_places : List WrittenToken → List Place
attribute_places words = map token_place (filter is_kept words)

abbrev pub label_place : WrittenBlock → Place
label_place b = b.label.place

abbrev pub mnemonic_place : WrittenInst → Place
mnemonic_place i = i.mnemonic

-- the mnemonics of a block, with that of its terminator
abbrev pub mnemonics_of : WrittenBlock → List Place
mnemonics_of b = map mnemonic_place b.insts ++ b.terminator.mnemonic ∷ []

-- where the results of an instruction are defined: at their names, or without any at the mnemonic
abbrev pub result_places : Op → Place → List WrittenToken → List Place
result_places o mnemonic [] = if has_one_result o then mnemonic ∷ [] else []
result_places o mnemonic (name ∷ names) = map token_place (name ∷ names)

abbrev pub extra_places_by : ExtraValue → Place → Qualifier → Place → List Place
extra_places_by extra.Never mnemonic word place = []
extra_places_by extra.Always mnemonic word place = mnemonic ∷ []
extra_places_by extra.WhereAssigned mnemonic qualifier.Assign place = place ∷ []
extra_places_by extra.WhereAssigned mnemonic _ place = []

-- a `store [assign]` and a `destroy_addr` count as one value more
unfoldable pub extra_places : Op → Place → Qualifier → Place → List Place
extra_places o mnemonic word place = extra_places_by (extra_value_of o) mnemonic word place

-- where the values that an instruction counts for are defined
abbrev pub value_places_of : WrittenInst → List Place
value_places_of i =
    result_places i.op i.mnemonic i.results ++ extra_places i.op i.mnemonic i.qualifier.word i.qualifier.place

abbrev pub values_of_block : WrittenBlock → List Place
values_of_block b = map arg_place b.args ++ flat_map value_places_of b.insts
