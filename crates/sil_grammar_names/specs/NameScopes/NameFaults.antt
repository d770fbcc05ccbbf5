-- The first name that is defined twice, or used and not defined.
use Rattle.std.specs.Prelude.{List, [], ◌∷◌, ◌++◌, Option, Some, None, Bool, if◌then◌else◌, map}
use Rattle.std.specs.List.{flat_map, list_any}
use Rattle.std.specs.Str.{bytes_eq}
use Rattle.sil_grammar_tree.specs.declared.written_tree.fault.Fault.{Fault}
use Rattle.sil_grammar_tree.specs.declared.written_tree.fault.FaultKind.TheVariants.{Twice, UnknownName}
use Rattle.sil_grammar_tree.specs.declared.written_tree.written_declarations.WrittenDecl.{WrittenDecl}
use Rattle.sil_grammar_tree.specs.declared.written_tree.written_declarations.WrittenToken.{WrittenToken}
use Rattle.sil_grammar_tree.specs.declared.written_tree.written_functions.WrittenFunction.{WrittenFunction}
use Rattle.sil_grammar_tree.specs.declared.written_tree.written_module.WrittenModule.{WrittenModule}
use Rattle.sil_grammar_tree.specs.WrittenTree.Faults.{earlier, earliest, fault}
use Rattle.sil_grammar_tree.specs.WrittenTree.Places.{name_of_decl}
use Rattle.sil_grammar_names.specs.NameScopes.Names.{Name, decls_of, function_name, functions_of, insts_of, label_of, labels_used, member_names, name_of}
use Rattle.sil_grammar_names.specs.NameScopes.Names.{used_by_item, values_defined, values_used, vtable_name, vtables_of}
use Rattle.sil_ast.specs.Imports.{reserved}

-- whether a name stands among these
abbrev pub is_among : List Name → WrittenToken → Bool
is_among names token = list_any (bytes_eq token.text) names

-- the first that has the name of one before it, or of one that is there from the start
abbrev pub twice_after : List Name → List WrittenToken → Option Fault
twice_after names [] = None
twice_after names (token ∷ tokens) = earlier
    (if is_among names token then Some (fault Twice token.place) else None)
    (twice_after (names ++ token.text ∷ []) tokens)

abbrev pub unknown_in : List Name → WrittenToken → Option Fault
unknown_in defined token = if is_among defined token then None else Some (fault UnknownName token.place)

-- the first that is used and not defined
abbrev pub unknown_among : List WrittenToken → List WrittenToken → Option Fault
unknown_among defined used = earliest (map (unknown_in (map name_of defined)) used)

-- the first that is defined twice, or used and not defined
abbrev pub twice_or_unknown : List WrittenToken → List WrittenToken → Option Fault
twice_or_unknown defined used = earlier (twice_after [] defined) (unknown_among defined used)

abbrev pub members_fault : WrittenDecl → Option Fault
members_fault d = twice_after [] (member_names d)

-- in a function: a block or a value that is defined twice, or used and not defined
abbrev pub function_fault : WrittenFunction → Option Fault
function_fault f =
    let labels : List WrittenToken = map label_of f.blocks in
    let values : List WrittenToken = flat_map values_defined f.blocks in
    earliest (
    twice_after [] labels
    ∷ unknown_among labels (flat_map labels_used (insts_of f))
    ∷ twice_after [] values
    ∷ unknown_among values (flat_map values_used (insts_of f))
    ∷ []
    )

-- in a module: a declaration, a function, a vtable of one class, or a member, a block or a value
unfoldable pub name_fault : WrittenModule → Option Fault
name_fault w =
    let decls : List WrittenDecl = flat_map decls_of w.items in
    let functions : List WrittenFunction = flat_map functions_of w.items in
    earliest (
    twice_after (reserved w.imports) (map name_of_decl decls)
    ∷ twice_after [] (map function_name functions)
    ∷ twice_after [] (map vtable_name (flat_map vtables_of w.items))
    ∷ unknown_among (map function_name functions) (flat_map used_by_item w.items)
    ∷ earliest (map members_fault decls)
    ∷ earliest (map function_fault functions)
    ∷ []
    )
