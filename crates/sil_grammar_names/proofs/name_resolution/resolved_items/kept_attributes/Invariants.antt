use Rattle.std.proofs.Common.{◌≡◌, ◌++◌, filter, map}
use Rattle.std.specs.Vec.Iter.{into_iter_items}
use Rattle.sil_grammar_tree.specs.WrittenTree.Places.{is_kept}
use Rattle.sil_grammar_names.specs.NameScopes.Names.{name_of}
use Rattle.sil_grammar_names.proofs.name_resolution.resolved_items.kept_attributes.Given as goal

abbrev pub invariant-loop-word : goal.invariant-loop-word
invariant-loop-word l = map name_of (filter is_kept l.fn.words) ≡ l.kept ++ map name_of (filter is_kept (into_iter_items l.word-iterator))
