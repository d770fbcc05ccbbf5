use Rattle.sil_grammar_names.proofs.name_resolution.resolved_code.resolve_names.Given as goal

abbrev pub ghost-resolve_callee : goal.ghost-resolve_callee
ghost-resolve_callee g a = g.s

abbrev pub ghost-resolve_operands : goal.ghost-resolve_operands
ghost-resolve_operands g a = g.s

abbrev pub ghost-resolve_edges : goal.ghost-resolve_edges
ghost-resolve_edges g a = g.s
