use Rattle.std.proofs.Common.{◌≡◌, drop}
use Rattle.std.specs.List.{list_any, flat_map}
use Rattle.sil_types_declarations.specs.TypeDefinitions.Mentions.{in_block}
use Rattle.sil_types_items.proofs.type_mentions.functions.any_in_blocks.Given as goal

abbrev pub invariant-loop-block : goal.invariant-loop-block
invariant-loop-block g l = list_any (g.T.MentionTest.holds l.test) (flat_map in_block (drop l.block-index l.blocks)) ≡ list_any (g.T.MentionTest.holds l.test) (flat_map in_block l.blocks)
