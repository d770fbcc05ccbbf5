use Rattle.std.proofs.Common.{◌≡◌, drop}
use Rattle.std.specs.List.{list_any, flat_map}
use Rattle.sil_types_declarations.specs.TypeDefinitions.Mentions.{inst_members}
use Rattle.sil_types_items.proofs.type_mentions.members.any_in_insts.Given as goal

abbrev pub invariant-loop-inst : goal.invariant-loop-inst
invariant-loop-inst g l = list_any (g.T.MemberTest.fails l.test) (flat_map inst_members (drop l.inst-index l.insts)) ≡ list_any (g.T.MemberTest.fails l.test) (flat_map inst_members l.insts)
