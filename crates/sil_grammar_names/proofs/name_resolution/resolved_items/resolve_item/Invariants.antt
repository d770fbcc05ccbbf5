use Rattle.sil_grammar_names.proofs.name_resolution.resolved_items.resolve_item.Given as goal

abbrev pub ghost-resolve_function : goal.ghost-resolve_function
ghost-resolve_function g a = g.names

abbrev pub ghost-resolve_vtable : goal.ghost-resolve_vtable
ghost-resolve_vtable g a = g.names
