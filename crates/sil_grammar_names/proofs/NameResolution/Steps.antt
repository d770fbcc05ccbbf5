-- What the steps of this crate's loops are proved by, each list under one name.
use Rattle.std.proofs.lemmas.Grind.{common_steps}
use Rattle.sil_grammar_names.proofs.NameResolution.FaultLemmas.{blocks_more, code_done, decl_faults, edges_done, edges_more, function_faults, insts_more}
use Rattle.sil_grammar_names.proofs.NameResolution.FaultLemmas.{item_faults_done, item_faults_more, vtable_faults}
use Rattle.sil_grammar_names.proofs.NameResolution.FaultOrder.{unknown_more}
use Rattle.sil_grammar_names.proofs.NameResolution.ResolvedLemmas.{items_done, items_more}
use Rattle.sil_grammar_tree.proofs.WrittenTree.FaultOrder.{earlier-assoc, earlier-none}

pub ruleset items = (common_steps, items_more, items_done, item_faults_more, item_faults_done)

pub ruleset item = (common_steps, decl_faults, function_faults, vtable_faults)

pub ruleset blocks = (common_steps, blocks_more, code_done)

pub ruleset insts = (common_steps, insts_more, code_done)

pub ruleset edges = (common_steps, edges_more, edges_done)

pub ruleset operands = (common_steps, earlier-none, earlier-assoc)

pub ruleset one_inst = (common_steps, unknown_more)

pub ruleset one_use = (common_steps, earlier-none)
