-- The values of a function under their lowered numbers.
use Rattle.std.specs.Prelude.{◌≡◌, ℕ, ◌<◌, ◌≤◌, List, true, None, length, ◌∷◌}
use Rattle.sil_ast.specs.declared.function.Function.{Function}
use Rattle.sil_ast.specs.declared.place.ValueId.{ValueId}
use Rattle.sil_cfg.specs.declared.item.Item.{Item}
use Rattle.numbered_form.specs.Lists.{Each}
use Rattle.numbered_form.specs.Numbering.{values_of}
use Rattle.sil_cfg_items.specs.Items.{item_taken}
use Rattle.sil_cfg_items.specs.declared.taken.Taken.{Taken}
use Rattle.sil_types_declarations.specs.TypeDefinitions.Declarations.{Declarations}
use Rattle.sil_verifier_runs.specs.ownership_kinds_origins.Renamings.{renamings_of}
use Rattle.ownership_lowering_laws.specs.ownership_lowering_model.Names.{renamed_from, stands_for}
use Rattle.ownership_lowering_laws.specs.ownership_lowering_model.LoweredModules.{lowered_body}
use Rattle.ownership_lowering_laws.specs.ownership_lowering_model.Numbers.{new_number, numbering_of}
use Rattle.sil_verifier_runs.specs.sil_verifier_trails.AcceptedTrails.inner.Defined.{makes}
use Rattle.sil_verifier_runs.specs.sil_verifier_trails.RunTrails.inner.RunTrails.{IsTurnedTrail}
use Rattle.sil_verifier_runs.specs.sil_verifier_trails.RunTrails.inner.Since.{is_none_since}

-- the value that this one stands for hasn't been made anew since this one was made: so its lowered number still has this one's datum
abbrev pub IsCurrent : Function → List Item → ValueId → Type 0
IsCurrent f t v = is_none_since (makes f (stands_for (renamings_of f) v)) (makes f v) t ≡ true

abbrev pub lowered_number : Declarations → Function → ValueId → ValueId
lowered_number d f v = new_number (numbering_of d f) v

-- how many values the lowered function has
abbrev pub lowered_count : Declarations → Function → ℕ
lowered_count d f = length (values_of (lowered_body d f).blocks)

abbrev pub IsOld : Function → ValueId → Type 0
IsOld f v = v.0 < length (values_of f.blocks)

abbrev pub IsSpare : Function → ValueId → Type 0
IsSpare f v = length (values_of f.blocks) ≤ v.0

-- lowered numbers tell apart the values that have names of their own, and no value has that of a spare one
pub record AreNamed (d : Declarations) (f : Function) : Type 0 where
  pub few : (v : ValueId) → IsOld f v → (lowered_number d f v).0 < lowered_count d f
  pub through : (v : ValueId) → lowered_number d f v ≡ lowered_number d f (stands_for (renamings_of f) v)
  pub own : (v : ValueId) → IsOld f v → renamed_from (renamings_of f) (stands_for (renamings_of f) v) ≡ None
  pub apart : (v w : ValueId) → IsOld f v → IsOld f w → lowered_number d f v ≡ lowered_number d f w
      → stands_for (renamings_of f) v ≡ stands_for (renamings_of f) w

abbrev pub IsTakenCurrent : Function → List Item → Taken → Type 0
IsTakenCurrent f t x = IsCurrent f t x.value

-- what the next item takes is current
abbrev pub AreOperandsCurrent : Declarations → Function → Type 0
AreOperandsCurrent d f = (t : List Item) (i : Item) → IsTurnedTrail f (i ∷ t) → Each (IsTakenCurrent f t) (item_taken f i)
