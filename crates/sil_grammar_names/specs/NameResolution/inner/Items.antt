-- A module to which items are added.
use Rattle.std.specs.Prelude.{List, ◌++◌, map}
use Rattle.std.specs.List.{flat_map}
use Rattle.sil_ast.specs.declared.module.Module.{Module}
use Rattle.sil_grammar_tree.specs.declared.written_tree.written_module.WrittenItem.{WrittenItem}
use Rattle.sil_grammar_names.specs.NameScopes.Names.{Name, decls_of, functions_of, vtables_of}
use Rattle.sil_grammar_names.specs.NameResolution.Resolved.{resolved_decl, resolved_function, resolved_vtable}

-- with these items behind those that it has, each in the list of its kind
abbrev pub with_items : List Name → Module → List WrittenItem → Module
with_items functions m items = record {
  stage = m.stage;
  imports = m.imports;
  decls = m.decls ++ map resolved_decl (flat_map decls_of items);
  functions = m.functions ++ map (resolved_function functions) (flat_map functions_of items);
  vtables = m.vtables ++ map (resolved_vtable functions) (flat_map vtables_of items);
}
