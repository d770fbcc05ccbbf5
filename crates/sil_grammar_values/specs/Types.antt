-- Types built up level by level, with how deep they are and where they begin and end. The depth is counted up to one past the limit.
use Rattle.std.specs.Prelude.{ℕ, ◌+◌, List, [], ◌∷◌, if◌then◌else◌, ◌&&◌, max, nat_lt}
use Rattle.sil_ast.specs.declared.place.Place.{Place}
use Rattle.sil_ast.specs.declared.type_name.TypeName.{TypeName, out-TypeName}
use Rattle.sil_ast.specs.declared.type_name.TypeName.TheOpen as level
use Rattle.sil_ast.specs.declared.type_name.TypeName.TheOpen.{TypeName-F}
use Rattle.sil_ast.specs.declared.type_name.TypeName.TheVariants as ty
use Rattle.sil_rules.specs.declared.limits.TheConstants.{DEPTH}
use Rattle.sil_grammar_values.specs.declared.value.Value.{Value}
use Rattle.sil_grammar_values.specs.declared.value.Value.TheVariants as v
use Rattle.sil_grammar_tree.specs.declared.written_tree.written_declarations.WrittenToken.{WrittenToken}
use Rattle.sil_grammar_values.specs.declared.written_types.TypeList.{TypeList}
use Rattle.sil_grammar_values.specs.declared.written_types.WrittenType.{WrittenType}

-- one level more
abbrev pub deeper : ℕ → ℕ
deeper depth = if nat_lt DEPTH depth then depth else depth + 1

-- a type that is too deep isn't kept
abbrev pub kept : ℕ → TypeName → TypeName
kept depth t = if nat_lt DEPTH depth then ty.Tuple [] else t

-- a type one level deeper, and from where to where it stands
abbrev pub one_deeper : ℕ → TypeName → Place → Place → WrittenType
one_deeper depth t first last = record { ty = kept (deeper depth) t; depth = deeper depth; first = first; last = last }

-- a type that is one token
abbrev pub one_token : TypeName → Place → WrittenType
one_token t place = record { ty = t; depth = 1; first = place; last = place }

abbrev pub named_type : WrittenToken → WrittenType
named_type token = one_token (ty.Named token.text) token.place

-- `Builtin` and `Optional` name a type by themselves, or begin a longer one
unfoldable pub tailed : WrittenToken → Value → WrittenType
tailed token (v.Type t) = record t { first = token.place }
tailed token _ = named_type token

-- a type with some `?` behind it
abbrev pub with_questions : WrittenType → List Place → WrittenType
with_questions t [] = t
with_questions t (question ∷ questions) = with_questions (one_deeper t.depth (ty.Optional t.ty) t.first question) questions

-- the types between two parentheses: one alone is that type, and others are a tuple
abbrev pub between : List TypeName → ℕ → Place → Place → WrittenType
between (t ∷ []) depth first last = record { ty = t; depth = depth; first = first; last = last }
between types depth first last = one_deeper depth (ty.Tuple types) first last

abbrev pub in_parens : Place → TypeList → Place → WrittenType
in_parens first list last = between list.types list.depth first last

abbrev pub type_before : WrittenType → TypeList → TypeList
type_before t others = record { types = t.ty ∷ others.types; firsts = t.first ∷ others.firsts; depth = max t.depth others.depth }

abbrev pub width_in_range : ℕ → ℕ
width_in_range width = if nat_lt 0 width && nat_lt width 65 then width else 64

-- the bits of a literal of a level of a type: those of a builtin integer, and 64 of any other type
abbrev pub width_over : {A : Type 0} → TypeName-F A → ℕ
width_over (level.Int width) = width_in_range width
width_over other = 64

abbrev pub width_of : TypeName → ℕ
width_of t = width_over (out-TypeName t)
