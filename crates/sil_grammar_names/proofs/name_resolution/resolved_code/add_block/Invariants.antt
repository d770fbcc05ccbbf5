use Rattle.sil_grammar_names.proofs.name_resolution.resolved_code.add_block.Given as goal

abbrev pub ghost-resolve_block : goal.ghost-resolve_block
ghost-resolve_block g a = g.s
