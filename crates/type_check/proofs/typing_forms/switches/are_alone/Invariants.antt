use Rattle.std.proofs.Common.{◌≡◌, length, drop}
use Rattle.std.specs.List.{list_all}
use Rattle.numbered_form.specs.Lists.{Each}
use Rattle.numbered_form.specs.Numbering.{IsEdgeInRange, values_of}
use Rattle.sil_types.specs.Typing.SwitchRules.{is_alone}
use Rattle.type_check.proofs.typing_forms.switches.are_alone.Given as goal

abbrev pub invariant-loop-edge : goal.invariant-loop-edge
invariant-loop-edge l = record {
  edges : Each (IsEdgeInRange (length (values_of l.f.blocks)) (length l.f.blocks)) (drop l.edge-index l.edges);
  alone : list_all (is_alone l.f) (drop l.edge-index l.edges) ≡ list_all (is_alone l.f) l.edges;
}
