-- Numbers by places, while they are written from the last place on.
use Rattle.std.specs.Prelude.{◌≡◌, ℕ, ◌+◌, List, length, drop, slice_index_or}
use Rattle.std.specs.List.{position_or_len}
use Rattle.sil_ast.specs.declared.place.ValueId.{ValueId}
use Rattle.ownership_lowering_model.specs.LoweredBlocks.{value_with}
use Rattle.numbered_form.specs.Numbering.{is_value}

-- each value has the place of the first that is it, of those that stand at this place or behind it, and else the number of all
abbrev pub ArePlaced : List ValueId → List ValueId → ℕ → Type 0
ArePlaced numbers defined from =
    (v : ValueId) → slice_index_or numbers v.0 (value_with (length defined)) ≡ value_with (from + position_or_len (is_value v) (drop from defined))
