use Rattle.sil_grammar_declarations.proofs.FoundLemmas.{found_here, found_past}
use Rattle.sil_grammar_declarations.proofs.found.held_place.Goals as goal

pub returns-in-At : goal.returns-in-At
returns-in-At g c = found_here g.H.Holds.places _ _ _ _ _ _ c.at.ensures c.loop-k.invariant c.in-At.ensures

pub loop-k-preserved : goal.loop-k-preserved
loop-k-preserved g c = found_past g.H.Holds.places _ _ _ _ _ _ c.at.ensures c.loop-k.invariant c.in-Past.ensures
