-- The first faults so far, of each kind of name, after more of a module.
use Rattle.std.specs.Prelude.{⊤, List, Option, map}
use Rattle.std.specs.List.{flat_map}
use Rattle.sil_grammar_tree.specs.declared.written_tree.fault.Fault.{Fault}
use Rattle.sil_grammar_tree.specs.declared.written_tree.written_functions.WrittenBlock.{WrittenBlock}
use Rattle.sil_grammar_tree.specs.declared.written_tree.written_instructions.WrittenEdge.{WrittenEdge}
use Rattle.sil_grammar_tree.specs.declared.written_tree.written_instructions.WrittenInst.{WrittenInst}
use Rattle.sil_grammar_tree.specs.declared.written_tree.written_module.WrittenItem.{WrittenItem}
use Rattle.sil_grammar_tree.specs.WrittenTree.Faults.{earlier, earliest}
use Rattle.sil_grammar_names.specs.declared.name_resolution.first_faults.CodeFaults.{CodeFaults}
use Rattle.sil_grammar_names.specs.declared.name_resolution.first_faults.ItemFaults.{ItemFaults}
use Rattle.sil_grammar_names.specs.NameScopes.NameFaults.{function_fault, members_fault, twice_or_unknown}
use Rattle.sil_grammar_names.specs.NameScopes.Names.{Name, code_of, decls_of, edge_label, edge_values, functions_of, functions_used, label_of}
use Rattle.sil_grammar_names.specs.NameScopes.Names.{labels_used, used_by_item, values_defined, values_used}
use Rattle.sil_grammar_names.specs.NameScopes.inner.Symbols.{Symbols, names_in, unknown_of}

-- the names that are defined where a function is
pub record Known : Type 0 where
  pub functions : List Name
  pub labels : List Name
  pub values : List Name

abbrev pub known_in : Symbols → Symbols → Symbols → Known
known_in functions labels values = record { functions = names_in functions; labels = names_in labels; values = names_in values }

-- after its edges
unfoldable pub with_edges : Known → CodeFaults → List WrittenEdge → CodeFaults
with_edges k c edges = record {
  functions = c.functions;
  labels = earlier c.labels (unknown_of k.labels (map edge_label edges));
  values = earlier c.values (unknown_of k.values (flat_map edge_values edges));
}

-- after these instructions
unfoldable pub with_code : Known → CodeFaults → List WrittenInst → CodeFaults
with_code k c insts = record {
  functions = earlier c.functions (unknown_of k.functions (flat_map functions_used insts));
  labels = earlier c.labels (unknown_of k.labels (flat_map labels_used insts));
  values = earlier c.values (unknown_of k.values (flat_map values_used insts));
}

-- what a check unfolds where an instruction is resolved
unfoldable pub with_parts : ⊤
unfolding with_code with_edges
with_parts = tt

-- in the blocks of a function: a label or a value
abbrev pub body_fault : List WrittenBlock → Option Fault
body_fault blocks = earlier
    (twice_or_unknown (map label_of blocks) (flat_map labels_used (flat_map code_of blocks)))
    (twice_or_unknown (flat_map values_defined blocks) (flat_map values_used (flat_map code_of blocks)))

-- after the blocks of a function
abbrev pub with_body : List Name → ItemFaults → List WrittenBlock → ItemFaults
with_body functions i blocks = record {
  functions = earlier i.functions (unknown_of functions (flat_map functions_used (flat_map code_of blocks)));
  members = i.members;
  bodies = earlier i.bodies (body_fault blocks);
}

-- after these items
unfoldable pub with_faults : List Name → ItemFaults → List WrittenItem → ItemFaults
with_faults functions i items = record {
  functions = earlier i.functions (unknown_of functions (flat_map used_by_item items));
  members = earlier i.members (earliest (map members_fault (flat_map decls_of items)));
  bodies = earlier i.bodies (earliest (map function_fault (flat_map functions_of items)));
}
