use Rattle.std.proofs.Common.{◌≡◌, take, map}
use Rattle.std.specs.List.{flat_map}
use Rattle.sil_grammar_tree.specs.WrittenTree.Places.{name_of_decl}
use Rattle.sil_grammar_names.specs.NameScopes.Names.{decls_of}
use Rattle.sil_ast.specs.Imports.{reserved}
use Rattle.sil_grammar_names.specs.NameScopes.inner.Symbols.{unnumbered_after}
use Rattle.sil_grammar_names.proofs.name_scopes.defining.declared.Given as goal

abbrev pub invariant-loop-item : goal.invariant-loop-item
invariant-loop-item l = l.table ≡ unnumbered_after (reserved l.fn.imports) (map name_of_decl (flat_map decls_of (take l.item-index l.items)))
