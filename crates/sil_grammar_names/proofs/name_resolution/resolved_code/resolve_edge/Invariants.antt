use Rattle.sil_grammar_names.proofs.name_resolution.resolved_code.resolve_edge.Given as goal

abbrev pub ghost-resolve_edge_args : goal.ghost-resolve_edge_args
ghost-resolve_edge_args g a = g.s
