-- What is found among the instructions that are left is found among all of them.
use Rattle.std.proofs.Common.{drop}
use Rattle.std.specs.List.{flat_map}
use Rattle.sil_grammar_declarations.specs.declared.found.Found.{Found}
use Rattle.sil_grammar_declarations.specs.inner.Found.{Finds}
use Rattle.sil_grammar_tree.specs.WrittenTree.Places.{value_places_of}
use Rattle.sil_grammar_declarations.proofs.counted_parts.find_in_insts.Given as goal

abbrev pub invariant-loop-inst : goal.invariant-loop-inst
invariant-loop-inst l = (r : Found) → Finds (flat_map value_places_of (drop l.inst-index l.insts)) l.left r → Finds (flat_map value_places_of l.insts) l.fn.i r
