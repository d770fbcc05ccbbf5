use Rattle.sil_grammar_names.proofs.name_resolution.resolved_items.resolve_vtable.Given as goal

abbrev pub ghost-resolve_entry : goal.ghost-resolve_entry
ghost-resolve_entry g a = g.names
