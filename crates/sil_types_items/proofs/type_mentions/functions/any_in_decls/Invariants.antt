use Rattle.std.proofs.Common.{◌≡◌, drop}
use Rattle.std.specs.List.{list_any, flat_map}
use Rattle.sil_types_declarations.specs.TypeDefinitions.Mentions.{in_decl}
use Rattle.sil_types_items.proofs.type_mentions.functions.any_in_decls.Given as goal

abbrev pub invariant-loop-decl : goal.invariant-loop-decl
invariant-loop-decl g l = list_any (g.T.MentionTest.holds l.test) (flat_map in_decl (drop l.decl-index l.decls)) ≡ list_any (g.T.MentionTest.holds l.test) (flat_map in_decl l.decls)
