-- What is left to be found among the parts that are left is what is searched.
use Rattle.std.proofs.Common.{◌≡◌, drop}
use Rattle.std.specs.List.{flat_map, slice_get}
use Rattle.sil_grammar_declarations.proofs.found.held_place.Given as goal

abbrev pub invariant-loop-k : goal.invariant-loop-k
invariant-loop-k g l = slice_get (flat_map g.H.Holds.places (drop l.k l.parts)) l.left ≡ slice_get (flat_map g.H.Holds.places l.parts) l.fn.i
