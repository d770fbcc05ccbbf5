use Rattle.sil_grammar_names.proofs.name_resolution.resolved_items.resolve_parts.Given as goal

abbrev pub ghost-resolve_body : goal.ghost-resolve_body
ghost-resolve_body g a = g.names
