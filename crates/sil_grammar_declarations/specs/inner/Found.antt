-- A search for the place at an index among places that stand in parts.
use Rattle.std.specs.Prelude.{◌≡◌, ℕ, ◌+◌, List, [], ◌∷◌, length, Some, if◌then◌else◌, slice_get, map}
use Rattle.sil_ast.specs.declared.place.Place.{Place}
use Rattle.sil_grammar_declarations.specs.declared.found.Found.{Found}
use Rattle.sil_grammar_declarations.specs.declared.found.Found.TheVariants.{At, Past}
use Rattle.sil_grammar_tree.specs.declared.written_tree.written_declarations.WrittenToken.{WrittenToken}
use Rattle.sil_grammar_tree.specs.declared.written_tree.written_module.WrittenItem.{WrittenItem}
use Rattle.sil_grammar_tree.specs.WrittenTree.Places.{decl_names, function_names, is_kept, token_place}

-- the place at the index, or by how much the index is past all places
abbrev pub Finds : List Place → ℕ → Found → Type 0
Finds places i (At place) = slice_get places i ≡ Some place
Finds places i (Past rest) = length places + rest ≡ i

abbrev pub decl_places : WrittenItem → List Place
decl_places i = map token_place (decl_names i)

abbrev pub function_places : WrittenItem → List Place
function_places i = map token_place (function_names i)

-- the place of an attribute that is kept
abbrev pub kept_places : WrittenToken → List Place
kept_places word = if is_kept word then word.place ∷ [] else []
