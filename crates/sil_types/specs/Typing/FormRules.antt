-- 207 and 212: what stands in functions of which form, and which words in brackets.
use Rattle.std.specs.Prelude.{ℕ, Bool, true, false, not, ◌&&◌, ◌||◌, ◌==◌, Option, option_and_then, option_map, find}
use Rattle.std.specs.List.{list_all, list_any}
use Rattle.std.specs.Option.{option_to_list}
use Rattle.sil_ast.specs.instruction_table.Forms.{forms_of, type_words_of}
use Rattle.sil_ast.specs.instruction_table.declared.entries.InForms.{InForms}
use Rattle.sil_ast.specs.instruction_table.declared.entries.InForms.TheVariants.{BothForms, OwnershipForm, LoweredForm, ByWord, ByStorage}
use Rattle.sil_ast.specs.instruction_table.declared.entries.TypeWords.{TypeWords}
use Rattle.sil_ast.specs.instruction_table.declared.entries.TypeWords.TheVariants.{AnyType, ReadWords, WriteWords}
use Rattle.sil_ast.specs.Blocks.{args_of}
use Rattle.sil_ast.specs.declared.function.ArgKind.{ArgKind}
use Rattle.sil_ast.specs.declared.function.ArgKind.TheVariants as kind
use Rattle.sil_ast.specs.declared.function.BlockArg.{BlockArg}
use Rattle.sil_ast.specs.declared.function.Form.{Form}
use Rattle.sil_ast.specs.declared.function.Form.TheVariants.{Ossa, Lowered, External}
use Rattle.sil_ast.specs.declared.function.Function.{Function}
use Rattle.sil_ast.specs.declared.inst.Inst.{Inst}
use Rattle.sil_ast.specs.declared.inst.Qualifier.{Qualifier}
use Rattle.sil_ast.specs.declared.inst.Qualifier.TheVariants as word
use Rattle.sil_ast.specs.declared.module.Module.{Module}
use Rattle.sil_ast.specs.declared.type_name.TypeName.{TypeName}
use Rattle.sil_types_declarations.specs.TypeDefinitions.Declarations.{Declarations}
use Rattle.sil_types.specs.Typing.RowTypes.{passes, written}
use Rattle.sil_types.specs.Typing.Shapes.{is_nontrivial, is_storage, is_trivial_object, target}
use Rattle.sil_types.specs.Typing.SignatureRules.{is_external}

-- 207 at a point

abbrev pub has_no_word : Qualifier → Bool
has_no_word word.Plain = true
has_no_word word.Copy = false
has_no_word word.Take = false
has_no_word word.Trivial = false
has_no_word word.Init = false
has_no_word word.Assign = false

-- the instruction's operand is the address of weak or unowned storage
abbrev pub is_at_storage : Inst → Bool
is_at_storage i = passes is_storage (option_and_then target (written 0 i))

abbrev pub may_stand_lowered : InForms → Inst → Bool
may_stand_lowered BothForms i = true
may_stand_lowered OwnershipForm i = false
may_stand_lowered LoweredForm i = true
may_stand_lowered ByWord i = has_no_word i.qualifier
may_stand_lowered ByStorage i = is_at_storage i

abbrev pub may_stand_owned : InForms → Bool
may_stand_owned BothForms = true
may_stand_owned OwnershipForm = true
may_stand_owned LoweredForm = false
may_stand_owned ByWord = true
may_stand_owned ByStorage = true

-- the instruction is one of this form
abbrev pub is_of_form : Form → Inst → Bool
is_of_form Ossa i = may_stand_owned (forms_of i.op)
is_of_form Lowered i = may_stand_lowered (forms_of i.op) i
is_of_form External i = true

abbrev pub is_annotation : ArgKind → Bool
is_annotation kind.Plain = false
is_annotation kind.Owned = true
is_annotation kind.Guaranteed = true

abbrev pub is_annotated : BlockArg → Bool
is_annotated a = is_annotation a.kind

abbrev pub is_lowered : Form → Bool
is_lowered Ossa = false
is_lowered Lowered = true
is_lowered External = false

-- at its first point, a block in lowered form has an annotated argument
abbrev pub is_annotated_at : Function → ℕ → ℕ → Bool
is_annotated_at f block index = is_lowered f.form && index == 0 && list_any is_annotated (args_of f block)

-- 207: an instruction or an annotation isn't of its function's form
abbrev pub is_of_other_form : Function → ℕ → ℕ → Inst → Bool
is_of_other_form f block index i = not (is_of_form f.form i) || is_annotated_at f block index

-- 207 at a function

abbrev pub has_body : Function → Bool
has_body f = not (is_external f.form)

abbrev pub is_same_form : Form → Form → Bool
is_same_form Ossa Ossa = true
is_same_form Lowered Lowered = true
is_same_form External External = true
is_same_form _ _ = false

abbrev pub form_of : Function → Form
form_of f = f.form

-- the form of the first function that has a body
abbrev pub first_form : Module → Option Form
first_form m = option_map form_of (find has_body m.functions)

-- the function has a body and another form than this one, that of the first function with a body
abbrev pub has_other_form : Option Form → Function → Bool
has_other_form first f = has_body f && not (list_all (is_same_form f.form) (option_to_list first))

-- 207: a function with a body has another form than the first one
abbrev pub mixes_forms : Module → Function → Bool
mixes_forms m f = has_other_form (first_form m) f

-- 212

abbrev pub is_read_word : Declarations → Qualifier → TypeName → Bool
is_read_word d word.Plain t = false
is_read_word d word.Copy t = is_nontrivial d t
is_read_word d word.Take t = is_nontrivial d t
is_read_word d word.Trivial t = is_trivial_object d t
is_read_word d word.Init t = false
is_read_word d word.Assign t = false

abbrev pub is_write_word : Declarations → Qualifier → TypeName → Bool
is_write_word d word.Plain t = false
is_write_word d word.Copy t = false
is_write_word d word.Take t = false
is_write_word d word.Trivial t = is_trivial_object d t
is_write_word d word.Init t = is_nontrivial d t
is_write_word d word.Assign t = is_nontrivial d t

abbrev pub has_word_by : TypeWords → Declarations → Inst → Bool
has_word_by AnyType d i = true
has_word_by ReadWords d i = passes (is_read_word d i.qualifier) (option_and_then target (written 0 i))
has_word_by WriteWords d i = passes (is_write_word d i.qualifier) (option_and_then target (written 1 i))

abbrev pub is_owned_form : Form → Bool
is_owned_form Ossa = true
is_owned_form Lowered = false
is_owned_form External = false

-- 212: the word in brackets isn't one for the type at the address, or there is none
abbrev pub has_wrong_qualifier : Declarations → Function → Inst → Bool
has_wrong_qualifier d f i = is_owned_form f.form && not (has_word_by (type_words_of i.op) d i)
