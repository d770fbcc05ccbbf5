-- Measures counted just past the limits, and what some of them come to.
-- A number above its limit is kept as the limit and one. Sums, maxima and comparisons with the limit don't tell such numbers apart.
use Rattle.std.specs.Prelude.{ℕ, ◌+◌, List, ◌&&◌, fold, map, min, max, unwrap_or, slice_get}
use Rattle.sil_types_declarations.specs.TypeDefinitions.Measures.{all_trivial, all_leaves, most_leaves, most_depth, measured, unmeasured}
use Rattle.sil_types_declarations.specs.declared.type_definitions.measure.Measure.{Measure}
use Rattle.sil_types_items.specs.declared.type_measures.gathered.Gathered.{Gathered}
use Rattle.sil_types_items.specs.declared.type_measures.gathered.TheConstants.{MOST_DEPTH, MOST_LEAVES}

abbrev pub capped : Measure → Measure
capped m = measured m.trivial (min m.leaves MOST_LEAVES) (min m.depth MOST_DEPTH)

abbrev pub known_at : List Measure → ℕ → Measure
known_at known place = unwrap_or (slice_get known place) unmeasured

-- what these measures come to
abbrev pub gathered : List Measure → Gathered
gathered ms = record {
  trivial = all_trivial ms;
  leaves = min (all_leaves ms) MOST_LEAVES;
  most = min (most_leaves ms) MOST_LEAVES;
  depth = min (most_depth ms) MOST_DEPTH;
}

-- with one more that is counted just past the limits
abbrev pub with_member : Gathered → Measure → Gathered
with_member g m = record {
  trivial = g.trivial && m.trivial;
  leaves = min (g.leaves + m.leaves) MOST_LEAVES;
  most = max g.most m.leaves;
  depth = max g.depth m.depth;
}

abbrev pub with_members : Gathered → List Measure → Gathered
with_members g ms = fold with_member g (map capped ms)

abbrev pub as_members : Gathered → Measure
as_members g = measured g.trivial g.leaves (min (g.depth + 1) MOST_DEPTH)

abbrev pub as_payloads : Gathered → Measure
as_payloads g = measured g.trivial (min (g.most + 1) MOST_LEAVES) (min (g.depth + 1) MOST_DEPTH)
