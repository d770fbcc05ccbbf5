use Rattle.std.proofs.Common.{◌≡◌, ℕ, ◌<◌, false, length, drop}
use Rattle.std.specs.Prelude.{◌&&◌, ◌||◌, slice_index_or}
use Rattle.std.specs.List.{list_all}
use Rattle.sil_rules.specs.declared.limits.TheConstants.{MEMBERS}
use Rattle.sil_types.specs.Typing.SwitchRules.{are_once, has_number, places_of}
use Rattle.type_check.proofs.TypingForms.MetCases.{is_free}
use Rattle.type_check.proofs.typing_forms.switch_cases.cases_met.Given as goal

abbrev pub invariant-loop-edge : goal.invariant-loop-edge
invariant-loop-edge l = record {
  size : length l.met ≡ MEMBERS;
  once : are_once (places_of l.table l.ty l.edges) ≡ (are_once (places_of l.table l.ty (drop l.edge-index l.edges)) && list_all (is_free l.met) (places_of l.table l.ty (drop l.edge-index l.edges)));
  met : (k : ℕ) → k < MEMBERS → has_number (places_of l.table l.ty l.edges) k ≡ (slice_index_or l.met k false || has_number (places_of l.table l.ty (drop l.edge-index l.edges)) k);
}
