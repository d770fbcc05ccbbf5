-- In an accepted function what the next item takes is current: what an operand stands for hasn't been made anew since the operand was made.
use Rattle.std.specs.Prelude.{◌≡◌, ◌==◌, Bool, true, Some}
use Rattle.std.specs.List.{list_any}
use Rattle.sil_ast.specs.declared.function.Function.{Function}
use Rattle.sil_ast.specs.declared.place.ValueId.{ValueId}
use Rattle.sil_cfg.specs.Items.{IsItem}
use Rattle.sil_cfg.specs.declared.item.Item.{Item}
use Rattle.sil_cfg_items.specs.Items.{item_taken}
use Rattle.sil_cfg_items.specs.declared.taken.Taken.{Taken}
use Rattle.sil_types_declarations.specs.TypeDefinitions.Declarations.{Declarations}
use Rattle.sil_verifier_runs.specs.ownership_kinds_origins.Renamings.{renamings_of}
use Rattle.ownership_lowering_laws.specs.ownership_lowering_model.Names.{renamed_from}
use Rattle.sil_verifier_runs.specs.sil_verifier_trails.AcceptedTrails.inner.Accepted.{IsAcceptedIn}
use Rattle.sil_verifier_runs.specs.sil_verifier_trails.AcceptedTrails.inner.Bases.{MakesAtStops}
use Rattle.sil_verifier_runs.specs.sil_verifier_trails.AcceptedTrails.inner.Defined.{makes}
use Rattle.sil_verifier_runs.specs.sil_verifier_values.inner.Known.{InAccepted}
use Rattle.ownership_lowering_runs.specs.StoredRuns.inner.Names.{AreOperandsCurrent}

-- it is the value that is taken
abbrev pub is_of : ValueId → Taken → Bool
is_of w x = x.value.0 == w.0

-- what makes another name for a value takes the value
abbrev pub TakesNamed : Function → Type 0
TakesNamed f = (i : Item) (v w : ValueId) → IsItem f i → makes f v i ≡ true → renamed_from (renamings_of f) v ≡ Some w
    → list_any (is_of w) (item_taken f i) ≡ true

-- where that is so, and each value is made by one item or by all edges into one block
abbrev pub AreAcceptedCurrent : Type 0
AreAcceptedCurrent = (d : Declarations) (f : Function) → IsAcceptedIn d f → TakesNamed f → MakesAtStops f → AreOperandsCurrent d f

-- it is so in each function with a body of an accepted module
abbrev pub AreNamesTaken : Type 0
AreNamesTaken = InAccepted (λ d f. TakesNamed f)

abbrev pub AreAllCurrent : Type 0
AreAllCurrent = InAccepted AreOperandsCurrent
