-- What a part of a text stands for, variant by variant, by names that the layers above can match on. Their code has no use for them.
use Rattle.std.specs.Prelude.{List}
use Rattle.sil_ast.specs.declared.debug.Debug as debug
use Rattle.sil_ast.specs.declared.function.ArgKind.{ArgKind}
use Rattle.sil_ast.specs.declared.function.Linkage as linkage
use Rattle.sil_ast.specs.declared.member.Member as member
use Rattle.sil_ast.specs.declared.module.Imports as imports
use Rattle.sil_ast.specs.declared.module.Stage as stage
use Rattle.sil_ast.specs.declared.place.Place.{Place}
use Rattle.sil_ast.specs.declared.signature.Convention as convention
use Rattle.sil_ast.specs.declared.signature.Given as given
use Rattle.sil_ast.specs.declared.signature.Param as param
use Rattle.sil_ast.specs.declared.signature.Signature as signature
use Rattle.sil_grammar_values.specs.declared.value.Value.TheVariants as v
use Rattle.sil_grammar_values.specs.Opened.{PartFlags, PartGivens, PartParams, PartType, PartTypes, PartValue}
use Rattle.sil_grammar_tree.specs.declared.written_tree.written_declarations.WrittenCase.{WrittenCase}
use Rattle.sil_grammar_tree.specs.declared.written_tree.written_declarations.WrittenField.{WrittenField}
use Rattle.sil_grammar_tree.specs.declared.written_tree.written_declarations.WrittenToken.{WrittenToken}
use Rattle.sil_grammar_tree.specs.declared.written_tree.written_functions.WrittenArg.{WrittenArg}
use Rattle.sil_grammar_tree.specs.declared.written_tree.written_functions.WrittenBlock.{WrittenBlock}
use Rattle.sil_grammar_tree.specs.declared.written_tree.written_instructions.WrittenEdge.{WrittenEdge}
use Rattle.sil_grammar_tree.specs.declared.written_tree.written_instructions.WrittenInst.{WrittenInst}
use Rattle.sil_grammar_tree.specs.declared.written_tree.written_instructions.WrittenOperand.{WrittenOperand}
use Rattle.sil_grammar_tree.specs.declared.written_tree.written_instructions.WrittenQualifier.{WrittenQualifier}
use Rattle.sil_grammar_tree.specs.declared.written_tree.written_module.WrittenEntry.{WrittenEntry}
use Rattle.sil_grammar_tree.specs.declared.written_tree.written_module.WrittenItem.{WrittenItem}
use Rattle.sil_grammar_tree.specs.declared.written_tree.written_module.WrittenModule.{WrittenModule}

pattern abbrev pub Nothing : PartValue
Nothing = v.Nothing

pattern abbrev pub Token : WrittenToken → PartValue
Token x = v.Token x

pattern abbrev pub Stage : stage.Stage → PartValue
Stage x = v.Stage x

pattern abbrev pub Imports : imports.Imports → PartValue
Imports x = v.Imports x

pattern abbrev pub Items : List WrittenItem → PartValue
Items x = v.Items x

pattern abbrev pub Item : WrittenItem → PartValue
Item x = v.Item x

pattern abbrev pub Fields : List WrittenField → PartValue
Fields x = v.Fields x

pattern abbrev pub Field : WrittenField → PartValue
Field x = v.Field x

pattern abbrev pub Cases : List WrittenCase → PartValue
Cases x = v.Cases x

pattern abbrev pub «Type» : PartType → PartValue
«Type» x = v.Type x

pattern abbrev pub Types : PartTypes → PartValue
Types x = v.Types x

pattern abbrev pub Questions : List Place → PartValue
Questions x = v.Questions x

pattern abbrev pub Linkage : linkage.Linkage → PartValue
Linkage x = v.Linkage x

pattern abbrev pub Tokens : List WrittenToken → PartValue
Tokens x = v.Tokens x

pattern abbrev pub Convention : convention.Convention → PartValue
Convention x = v.Convention x

pattern abbrev pub Params : PartParams → PartValue
Params x = v.Params x

pattern abbrev pub Param : param.Param → Place → PartValue
Param x y = v.Param x y

pattern abbrev pub Givens : PartGivens → PartValue
Givens x = v.Givens x

pattern abbrev pub Given : given.Given → Place → PartValue
Given x y = v.Given x y

pattern abbrev pub Signature : signature.Signature → PartValue
Signature x = v.Signature x

pattern abbrev pub Blocks : List WrittenBlock → PartValue
Blocks x = v.Blocks x

pattern abbrev pub Block : WrittenBlock → PartValue
Block x = v.Block x

pattern abbrev pub Args : List WrittenArg → PartValue
Args x = v.Args x

pattern abbrev pub Arg : WrittenArg → PartValue
Arg x = v.Arg x

pattern abbrev pub Ownership : ArgKind → PartValue
Ownership x = v.Ownership x

pattern abbrev pub Star : PartValue
Star = v.Star

pattern abbrev pub Code : List WrittenInst → WrittenInst → PartValue
Code x y = v.Code x y

pattern abbrev pub Inst : WrittenInst → PartValue
Inst x = v.Inst x

pattern abbrev pub Operands : List WrittenOperand → PartValue
Operands x = v.Operands x

pattern abbrev pub Operand : WrittenOperand → PartValue
Operand x = v.Operand x

pattern abbrev pub Edges : List WrittenEdge → PartValue
Edges x = v.Edges x

pattern abbrev pub Edge : WrittenEdge → PartValue
Edge x = v.Edge x

pattern abbrev pub Member : member.Member → PartValue
Member x = v.Member x

pattern abbrev pub Flags : PartFlags → PartValue
Flags x = v.Flags x

pattern abbrev pub Qualifier : WrittenQualifier → PartValue
Qualifier x = v.Qualifier x

pattern abbrev pub Debug : debug.Debug → PartValue
Debug x = v.Debug x

pattern abbrev pub Entry : WrittenEntry → PartValue
Entry x = v.Entry x

pattern abbrev pub Module : WrittenModule → PartValue
Module x = v.Module x
