-- Functions: a line with the name and the type, the blocks with an empty line between two, and the closing brace.
use Rattle.std.specs.Prelude.{ℕ, List, [], ◌∷◌, ◌++◌, codes}
use Rattle.std.specs.List.{join_by, enumerate_from}
use Rattle.sil_ast.specs.declared.function.ArgKind.{ArgKind}
use Rattle.sil_ast.specs.declared.function.ArgKind.TheVariants as kind
use Rattle.sil_ast.specs.declared.function.Block.{Block}
use Rattle.sil_ast.specs.declared.function.BlockArg.{BlockArg}
use Rattle.sil_ast.specs.declared.function.Form.{Form}
use Rattle.sil_ast.specs.declared.function.Form.TheVariants.{Ossa, Lowered, External}
use Rattle.sil_ast.specs.declared.function.Function.{Function}
use Rattle.sil_ast.specs.declared.function.Linkage.{Linkage}
use Rattle.sil_ast.specs.declared.function.Linkage.TheVariants as linkage
use Rattle.sil_printer.specs.Words.{line_feed, line, parens_if_any, each_behind, indented}
use Rattle.sil_printer.specs.CanonicalInsts.{value_text, block_name, type_word, signature_word, inst_text}

abbrev pub kind_text : ArgKind → List ℕ
kind_text kind.Plain = []
kind_text kind.Owned = codes "@owned "
kind_text kind.Guaranteed = codes "@guaranteed "

-- `%3 : @owned $T`
abbrev pub arg_text : BlockArg → List ℕ
arg_text a = value_text a.value ++ codes " : " ++ kind_text a.kind ++ type_word a.ty

-- `bb0:` or `bb1(%2 : $T, %3 : @owned $U):`, and the lines of its instructions; k is the block's place in its function
abbrev pub block_text : List Function → ℕ → Block → List ℕ
block_text functions k b =
    line (block_name k ++ parens_if_any arg_text b.args ++ codes ":")
    ++ indented (inst_text functions) b.insts
    ++ indented (inst_text functions) (b.terminator ∷ [])

abbrev pub blocks_text : List Function → List Block → List ℕ
blocks_text functions blocks = join_by (λ (k, b). block_text functions k b) line_feed (enumerate_from 0 blocks)

abbrev pub linkage_text : Linkage → List ℕ
linkage_text linkage.Plain = []
linkage_text linkage.Hidden = codes " hidden"
linkage_text linkage.Private = codes " private"
linkage_text linkage.Shared = codes " shared"
linkage_text linkage.Public = codes " public"

abbrev pub form_text : Form → List ℕ
form_text Ossa = codes " [ossa]"
form_text Lowered = []
form_text External = []

-- `a]`, behind ` [`
abbrev pub attribute_text : List ℕ → List ℕ
attribute_text word = word ++ codes "]"

-- `sil hidden [a] [ossa]`
abbrev pub words_text : Function → List ℕ
words_text f =
    codes "sil" ++ linkage_text f.linkage ++ each_behind (codes " [") attribute_text f.attributes ++ form_text f.form

-- `sil hidden [a] [ossa] @f : $@convention(thin) () -> ()`
abbrev pub head_text : Function → List ℕ
head_text f = words_text f ++ codes " @" ++ f.name ++ codes " : " ++ signature_word f.signature

-- nothing where there are no blocks
abbrev pub body_text : List Function → List Block → List ℕ
body_text functions [] = line []
body_text functions (b ∷ bs) = line (codes " {") ++ blocks_text functions (b ∷ bs) ++ line (codes "}")

abbrev pub function_text : List Function → Function → List ℕ
function_text functions f = head_text f ++ body_text functions f.blocks
