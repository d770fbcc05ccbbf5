-- 209: the cases of a `switch_enum`, and the blocks that they go to.
use Rattle.std.specs.Prelude.{ℕ, List, [], ◌∷◌, Bool, true, false, not, ◌&&◌, ◌||◌, ◌==◌, Option, Some, None}
use Rattle.std.specs.Prelude.{is_some, is_none, option_and_then, option_map, map, unwrap_or, count_by}
use Rattle.std.specs.List.{flat_map, list_all, list_any, filter_map, range_with_len}
use Rattle.std.specs.Option.{option_to_list}
use Rattle.sil_ast.specs.instruction_table.declared.op.Op.{Op}
use Rattle.sil_ast.specs.instruction_table.declared.op.Op.TheVariants as op
use Rattle.sil_ast.specs.Blocks.{args_of}
use Rattle.sil_ast.specs.declared.function.Block.{Block}
use Rattle.sil_ast.specs.declared.function.BlockArg.{BlockArg}
use Rattle.sil_ast.specs.declared.function.Form.{Form}
use Rattle.sil_ast.specs.declared.function.Function.{Function}
use Rattle.sil_ast.specs.declared.inst.Edge.{Edge}
use Rattle.sil_ast.specs.declared.inst.Inst.{Inst}
use Rattle.sil_ast.specs.declared.type_name.TypeName.{TypeName}
use Rattle.sil_types_declarations.specs.TypeDefinitions.Declarations.{Declarations}
use Rattle.sil_types_declarations.specs.TypeDefinitions.Lookups.{Payload}
use Rattle.sil_types.specs.Typing.FormRules.{is_lowered}
use Rattle.sil_types.specs.Typing.RowTypes.{written}
use Rattle.sil_types.specs.Typing.Same.{are_same_types, is_same_type}
use Rattle.sil_types.specs.Typing.Shapes.{case_count, case_in}
use Rattle.sil_types.specs.Typing.Values.{arg_type}

-- the case of an edge, where the enum has it
abbrev pub case_of_edge : Declarations → TypeName → Edge → Option Payload
case_of_edge d t e = option_and_then (λ m. case_in d m t) e.case_of

abbrev pub has_case : Edge → Bool
has_case e = is_some e.case_of

abbrev pub is_default : Edge → Bool
is_default e = is_none e.case_of

-- the edge's case is one of the enum; a default has none
abbrev pub is_of_enum : Declarations → TypeName → Edge → Bool
is_of_enum d t e = is_default e || is_some (case_of_edge d t e)

abbrev pub place_in_enum : Declarations → TypeName → Edge → Option ℕ
place_in_enum d t e = option_map (λ p. p.place) (case_of_edge d t e)

-- the places of the cases in their enum
abbrev pub places_of : Declarations → TypeName → List Edge → List ℕ
places_of d t es = filter_map (place_in_enum d t) es

abbrev pub has_number : List ℕ → ℕ → Bool
has_number ns n = list_any (λ k. k == n) ns

-- no number stands twice
abbrev pub are_once : List ℕ → Bool
are_once [] = true
are_once (n ∷ ns) = not (has_number ns n) && are_once ns

-- each case of the enum has an edge, or there is a default
abbrev pub are_all_there : Declarations → TypeName → List Edge → Bool
are_all_there d t es =
    list_any is_default es
    || list_all (has_number (places_of d t es)) (range_with_len 0 (unwrap_or (case_count d t) 0))

abbrev pub edges_of_block : Block → List Edge
edges_of_block b = b.terminator.edges

-- the edges of a function
abbrev pub edges_of : Function → List Edge
edges_of f = flat_map edges_of_block f.blocks

abbrev pub is_to : ℕ → Edge → Bool
is_to block e = e.block.0 == block

-- how many edges go to a block
abbrev pub incoming : Function → ℕ → ℕ
incoming f block = count_by (is_to block) (edges_of f)

abbrev pub is_alone : Function → Edge → Bool
is_alone f e = incoming f e.block.0 == 1

-- the block has the payload as its argument, or none where the case has none
abbrev pub fits_payload : Function → Edge → Payload → Bool
fits_payload f e p = are_same_types (map arg_type (args_of f e.block.0)) (option_to_list p.ty)

abbrev pub fits_case : Declarations → Function → TypeName → Edge → Bool
fits_case d f t e = list_all (fits_payload f e) (option_to_list (case_of_edge d t e))

-- there is no argument, or the enum itself, which a lowered function doesn't hand on
abbrev pub is_default_argument : Form → TypeName → List BlockArg → Bool
is_default_argument form t [] = true
is_default_argument form t (a ∷ []) = not (is_lowered form) && is_same_type a.ty t
is_default_argument form t (a ∷ b ∷ more) = false

abbrev pub fits_default : Function → TypeName → Edge → Bool
fits_default f t e = has_case e || is_default_argument f.form t (args_of f e.block.0)

-- a case belongs to another enum
abbrev pub names_other_case : Declarations → TypeName → List Edge → Bool
names_other_case d t es = not (list_all (is_of_enum d t) es)

-- a case is repeated
abbrev pub repeats_case : Declarations → TypeName → List Edge → Bool
repeats_case d t es = not (are_once (places_of d t es))

-- a case of the enum is left out, and there is no default
abbrev pub leaves_out_case : Declarations → TypeName → List Edge → Bool
leaves_out_case d t es = not (are_all_there d t es)

-- a block has another edge to it
abbrev pub shares_block : Function → List Edge → Bool
shares_block f es = not (list_all (is_alone f) es)

-- the arguments of a case's block don't fit the payload, in number or type
abbrev pub misfits_payload : Declarations → Function → TypeName → List Edge → Bool
misfits_payload d f t es = not (list_all (fits_case d f t) es)

-- the default's block has more than one argument, or one of another type than the enum, or any in a lowered function
abbrev pub misfits_default : Function → TypeName → List Edge → Bool
misfits_default f t es = not (list_all (fits_default f t) es)

-- one of these is so; in numbered form the type of what is switched is written
abbrev pub switches_wrongly : Declarations → Function → List Edge → Option TypeName → Bool
switches_wrongly d f es None = true
switches_wrongly d f es (Some t) =
    names_other_case d t es
    || repeats_case d t es
    || leaves_out_case d t es
    || shares_block f es
    || misfits_payload d f t es
    || misfits_default f t es

abbrev pub has_wrong_cases_by : Op → Declarations → Function → Inst → Bool
has_wrong_cases_by op.SwitchEnum d f i = switches_wrongly d f i.edges (written 0 i)
has_wrong_cases_by _ d f i = false

-- 209: a case of a `switch_enum` belongs to another enum, is repeated, or is left out without a default; a block has another edge to it;
-- or a block's arguments aren't the case's payload, or for a default the enum
abbrev pub has_wrong_cases : Declarations → Function → Inst → Bool
has_wrong_cases d f i = has_wrong_cases_by i.op d f i
