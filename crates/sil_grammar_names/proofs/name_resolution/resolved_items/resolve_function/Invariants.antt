use Rattle.sil_grammar_names.proofs.name_resolution.resolved_items.resolve_function.Given as goal

abbrev pub ghost-resolve_parts : goal.ghost-resolve_parts
ghost-resolve_parts g a = g.names
