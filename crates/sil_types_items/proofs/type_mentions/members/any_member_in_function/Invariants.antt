use Rattle.std.proofs.Common.{◌≡◌, drop}
use Rattle.std.specs.List.{list_any, flat_map}
use Rattle.sil_types_declarations.specs.TypeDefinitions.Mentions.{block_members}
use Rattle.sil_types_items.proofs.type_mentions.members.any_member_in_function.Given as goal

abbrev pub invariant-loop-block : goal.invariant-loop-block
invariant-loop-block g l = list_any (g.T.MemberTest.fails l.test) (flat_map block_members (drop l.block-index l.block-items))
    ≡ list_any (g.T.MemberTest.fails l.test) (flat_map block_members l.block-items)
