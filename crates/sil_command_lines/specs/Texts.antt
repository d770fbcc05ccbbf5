-- What the command writes, line by line.
use Rattle.std.specs.Prelude.{ℕ, List, [], ◌∷◌, ◌++◌, Option, Some, None, slice_get, codes, decimal}
use Rattle.std.specs.Option.{option_map}
use Rattle.sil_ast.specs.declared.function.Function.{Function}
use Rattle.sil_ast.specs.declared.module.Module.{Module}
use Rattle.sil_ast.specs.declared.place.FuncId.{FuncId}
use Rattle.sil_ast.specs.declared.place.Place.{Place}
use Rattle.sil_ast.specs.declared.place.PointId.{PointId}
use Rattle.sil_rules.specs.declared.limit_word.LimitWord.{LimitWord}
use Rattle.sil_rules.specs.declared.rule.Rule.{Rule}
use Rattle.sil_rules.specs.LimitWords.{word_of}
use Rattle.sil_rules.specs.Rules.{number_of, name_of}
use Rattle.type_check.specs.declared.fault.TypingFault.{TypingFault}
use Rattle.sil_verifier_accepted.specs.AcceptedModules.Findings.{vtable_item}

-- the bytes, and a line feed
abbrev pub line : List ℕ → List ℕ
line bytes = bytes ++ 10 ∷ []

abbrev pub usage_text : List ℕ
usage_text = line (codes "usage: sil check, print, lower, optimize, run or generate N [--turns N] [--entry NAME] [--optimize]")

abbrev pub limit_text : List ℕ
limit_text = line (codes "limit text")

abbrev pub read_fault_text : List ℕ
read_fault_text = line (codes "read fault")

abbrev pub accepted_text : List ℕ
accepted_text = line (codes "accepted")

-- the module has no entry function of this name
abbrev pub no_entry_text : List ℕ → List ℕ
no_entry_text name = line (codes "no entry " ++ name)

-- a place is written as its line and its column, both from 1
abbrev pub place_words : Place → List ℕ
place_words place = codes " at " ++ decimal place.line ++ codes ":" ++ decimal place.column

-- what is wrong with the text, and where
abbrev pub not_a_module_text : List ℕ → Place → List ℕ
not_a_module_text what place = line (codes "not a module: " ++ what ++ place_words place)

-- the limit that is passed, and the token that passes it
abbrev pub passed_limit_text : LimitWord → Place → List ℕ
passed_limit_text what place = line (codes "limit " ++ word_of what ++ place_words place)

-- the first words of a refusal by a rule
abbrev pub rule_words : Rule → List ℕ
rule_words r = codes "refused " ++ decimal (number_of r) ++ codes " " ++ name_of r

-- a point: its block, and the index in it
abbrev pub typed_point_words : Option PointId → List ℕ
typed_point_words None = []
typed_point_words (Some p) = codes " bb" ++ decimal p.block.0 ++ codes ":" ++ decimal p.index

abbrev pub name_found : Option Function → List ℕ
name_found None = []
name_found (Some f) = f.name

-- the name of the function with this number
abbrev pub name_at : Module → ℕ → List ℕ
name_at m n = name_found (slice_get m.functions n)

-- an item by its number, from 0 over declarations, functions and vtables, in that order
abbrev pub item_words : Option ℕ → List ℕ
item_words None = []
item_words (Some n) = codes " item " ++ decimal n

abbrev pub site_words : Module → Option FuncId → Option ℕ → Option PointId → List ℕ
site_words m None item point = item_words item
site_words m (Some n) item point = codes " @" ++ name_at m n.0 ++ typed_point_words point

-- the rule, and the function with the point, or the item
abbrev pub refused_text : Module → Rule → Option FuncId → Option ℕ → Option PointId → List ℕ
refused_text m r function item point = line (rule_words r ++ site_words m function item point)

-- the rule, and the item
abbrev pub refused_item_text : Rule → ℕ → List ℕ
refused_item_text r item = line (rule_words r ++ item_words (Some item))

-- the rule, and the function, with the point where there is one; or the vtable as an item
abbrev pub typing_text : Module → TypingFault → List ℕ
typing_text m f = line (rule_words f.rule ++ site_words m f.function (option_map (vtable_item m) f.vtable) f.point)

-- the limit that a type is past, which has no place
abbrev pub type_limit_text : LimitWord → List ℕ
type_limit_text what = line (codes "limit " ++ word_of what)
