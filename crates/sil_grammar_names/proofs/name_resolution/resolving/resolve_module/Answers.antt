use Rattle.std.specs.List.{flat_map}
use Rattle.sil_grammar_names.specs.NameScopes.Names.{function_name, functions_of}
use Rattle.sil_grammar_names.proofs.NameResolution.NumberLemmas.{finds_each}
use Rattle.sil_grammar_names.proofs.name_resolution.resolving.resolve_module.Goals as goal

pub resolve_items-requires : goal.resolve_items-requires
resolve_items-requires c = rw c.requires (finds_each function_name (flat_map functions_of c.args.w.items))
