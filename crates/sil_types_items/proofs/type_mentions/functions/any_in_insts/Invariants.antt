use Rattle.std.proofs.Common.{◌≡◌, drop}
use Rattle.std.specs.List.{list_any, flat_map}
use Rattle.sil_types_declarations.specs.TypeDefinitions.Mentions.{in_inst}
use Rattle.sil_types_items.proofs.type_mentions.functions.any_in_insts.Given as goal

abbrev pub invariant-loop-inst : goal.invariant-loop-inst
invariant-loop-inst g l = list_any (g.T.MentionTest.holds l.test) (flat_map in_inst (drop l.inst-index l.insts)) ≡ list_any (g.T.MentionTest.holds l.test) (flat_map in_inst l.insts)
