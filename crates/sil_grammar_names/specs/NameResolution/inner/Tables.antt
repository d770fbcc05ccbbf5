-- The tables by which names are looked up.
use Rattle.std.specs.Prelude.{◌≡◌, List, Option, map, position, unwrap_or}
use Rattle.std.specs.List.{flat_map}
use Rattle.std.specs.Str.{bytes_eq}
use Rattle.sil_grammar_tree.specs.declared.written_tree.written_functions.WrittenBlock.{WrittenBlock}
use Rattle.sil_grammar_tree.specs.declared.written_tree.written_module.WrittenItem.{WrittenItem}
use Rattle.sil_grammar_names.specs.NameScopes.Names.{Name, function_name, functions_of, label_of, name_of}
use Rattle.sil_grammar_names.specs.NameResolution.Resolved.{Scope, defined_in, has_name}
use Rattle.sil_grammar_names.specs.NameScopes.inner.Symbols.{Symbols, number_in}

-- a look-up finds the place of a name in this list
abbrev pub FindsNames : Symbols → List Name → Type 0
FindsNames n names = (name : Name) → number_in n name ≡ unwrap_or (position (bytes_eq name) names) 0

abbrev pub FindsValues : Symbols → List (Option Name) → Type 0
FindsValues n values = (name : Name) → number_in n name ≡ unwrap_or (position (has_name name) values) 0

-- the names by which functions are looked up
abbrev pub names_of_functions : List WrittenItem → List Name
names_of_functions items = map (λ f. name_of (function_name f)) (flat_map functions_of items)

-- the names of a function with these blocks
abbrev pub scope_in : List Name → List WrittenBlock → Scope
scope_in functions blocks = record { functions = functions; blocks = map (λ b. name_of (label_of b)) blocks; values = flat_map defined_in blocks }

-- look-ups find the places of functions, blocks and values
pub record FindsScope (f b v : Symbols) (s : Scope) : Type 0 where
  pub functions : FindsNames f s.functions
  pub blocks : FindsNames b s.blocks
  pub values : FindsValues v s.values
