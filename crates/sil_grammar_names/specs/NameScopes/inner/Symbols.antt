-- The names of one scope: which are defined, and the numbers that they get.
use Rattle.std.specs.Prelude.{ℕ, ◌+◌, List, [], ◌∷◌, ◌++◌, Option, Some, None, if◌then◌else◌, fold, is_some, map, unwrap_or}
use Rattle.std.specs.List.{flat_map}
use Rattle.std.specs.Map.{keys_of, lookup}
use Rattle.std.specs.Option.{option_or}
use Rattle.std.specs.Str.{bytes_eq}
use Rattle.indexmap.specs.IndexMap.{insert_entry}
use Rattle.instruction_table.specs.Forms.{has_one_result}
use Rattle.instruction_table.specs.declared.op.Op.{Op}
use Rattle.sil_grammar_tree.specs.declared.written_tree.fault.Fault.{Fault}
use Rattle.sil_grammar_tree.specs.declared.written_tree.fault.FaultKind.TheVariants.{Twice}
use Rattle.sil_grammar_tree.specs.declared.written_tree.written_declarations.WrittenToken.{WrittenToken}
use Rattle.sil_grammar_tree.specs.declared.written_tree.written_functions.WrittenBlock.{WrittenBlock}
use Rattle.sil_grammar_tree.specs.declared.written_tree.written_instructions.WrittenInst.{WrittenInst}
use Rattle.sil_grammar_tree.specs.WrittenTree.Faults.{earlier, earliest, fault}
use Rattle.sil_grammar_names.specs.NameScopes.NameFaults.{is_among, unknown_in}
use Rattle.sil_grammar_names.specs.NameScopes.Names.{Name, arg_name, label_of}

-- each name with its number, if it has one; how many numbers are given; and the first token whose name stood before
pub record Symbols : Type 0 where
  pub entries : List (Name × Option ℕ)
  pub count : ℕ
  pub twice : Option Fault

-- what gets the next number, with or without a name; or a name that gets none
pub data Definition : Type 0 where
  numbered : WrittenToken → Definition
  unnamed : Definition
  unnumbered : WrittenToken → Definition

-- names that are defined from the start
abbrev pub reserved_only : List Name → Symbols
reserved_only names = record { entries = map (λ name. (name, None)) names; count = 0; twice = None }

abbrev pub names_in : Symbols → List Name
names_in t = keys_of t.entries

-- the number of a name, if it is defined and has one
abbrev pub number_among : List (Name × Option ℕ) → Name → Option ℕ
number_among entries name = unwrap_or (lookup (bytes_eq name) entries) None

abbrev pub number_in : Symbols → Name → ℕ
number_in t name = unwrap_or (number_among t.entries name) 0

abbrev pub twice_here : List Name → WrittenToken → Option Fault
twice_here names token = if is_among names token then Some (fault Twice token.place) else None

-- a name keeps the number that it has
abbrev pub with_entry : List (Name × Option ℕ) → Name → Option ℕ → List (Name × Option ℕ)
with_entry entries name number = insert_entry bytes_eq entries name (option_or (number_among entries name) number)

abbrev pub with_name : Symbols → WrittenToken → Option ℕ → Symbols
with_name t token number = record { entries = with_entry t.entries token.text number; count = t.count; twice = earlier t.twice (twice_here (names_in t) token) }

-- a name that stood before and has had its number replaced
abbrev pub with_kept : Symbols → WrittenToken → Option ℕ → Symbols
with_kept t token number = record {
  entries = if is_some number then insert_entry bytes_eq t.entries token.text number else t.entries;
  count = t.count;
  twice = earlier t.twice (Some (fault Twice token.place));
}

abbrev pub with_next : Symbols → Symbols
with_next t = record { entries = t.entries; count = t.count + 1; twice = t.twice }

abbrev pub with_definition : Symbols → Definition → Symbols
with_definition t (numbered token) = with_name (with_next t) token (Some t.count)
with_definition t unnamed = with_next t
with_definition t (unnumbered token) = with_name t token None

-- with names that are defined from the start
abbrev pub with_reserved : Symbols → List Name → Symbols
with_reserved t names = record { entries = fold (λ entries name. insert_entry bytes_eq entries name None) t.entries names; count = t.count; twice = t.twice }

-- after these definitions
abbrev pub with_definitions : Symbols → List Definition → Symbols
with_definitions t definitions = fold with_definition t definitions

-- the first of these that is used and stands not among the names
abbrev pub unknown_of : List Name → List WrittenToken → Option Fault
unknown_of names used = earliest (map (unknown_in names) used)

-- what an instruction defines
abbrev pub definitions_of : Op → List WrittenToken → List Definition
definitions_of o [] = if has_one_result o then unnamed ∷ [] else []
definitions_of o (token ∷ tokens) = map numbered (token ∷ tokens)

abbrev pub definitions_by : WrittenInst → List Definition
definitions_by i = definitions_of i.op i.results

-- what a block defines: a result of its terminator has no number
abbrev pub definitions_in : WrittenBlock → List Definition
definitions_in b = map numbered (map arg_name b.args) ++ (flat_map definitions_by b.insts ++ map unnumbered b.terminator.results)

-- the names that need no number
abbrev pub unnumbered_after : List Name → List WrittenToken → Symbols
unnumbered_after names tokens = with_definitions (reserved_only names) (map unnumbered tokens)

abbrev pub numbered_by : List WrittenToken → Symbols
numbered_by tokens = with_definitions (reserved_only []) (map numbered tokens)

abbrev pub labels_in : List WrittenBlock → Symbols
labels_in blocks = numbered_by (map label_of blocks)

abbrev pub values_in : List WrittenBlock → Symbols
values_in blocks = with_definitions (reserved_only []) (flat_map definitions_in blocks)
