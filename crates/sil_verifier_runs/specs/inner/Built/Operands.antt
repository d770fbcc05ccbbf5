-- What items do with the new objects of an accepted function: operations at their fields, and what takes an unfinished one.
use Rattle.std.specs.Prelude.{◌≡◌, ℕ, List, ◌∷◌, true, false, Contains, Some}
use Rattle.sil_verifier_frames.specs.memory_rules_accesses.Accesses.{allowance_of}
use Rattle.sil_verifier_frames.specs.memory_rules_accesses.Operations.{deallocates}
use Rattle.sil_verifier_frames.specs.memory_rules_accesses.Sources.{sources_of}
use Rattle.sil_verifier_frames.specs.memory_rules_accesses.declared.access.Operated.{Operated}
use Rattle.sil_verifier_frames.specs.memory_rules_accesses.declared.location.Location.{Location}
use Rattle.sil_verifier_frames.specs.memory_rules_parts.Building.{builds, goes_by_borrow, takes_borrow, takes_object}
use Rattle.sil_verifier_frames.specs.sil_verifier_trails.RunTrails.inner.RunTrails.{IsRunTrail}
use Rattle.sil_verifier_frames.specs.sil_verifier_trails.AcceptedPlaces.inner.Cells.{IsDoneAt}
use Rattle.sil_verifier_frames.specs.sil_verifier_values.inner.Known.{InAccepted, facts_at}
use Rattle.sil_verifier_frames.specs.holder_model_laws.HolderLaws.inner.Built.Building.{IsFieldAddress, IsNewField}
use Rattle.sil_verifier_frames.specs.holder_model_laws.HolderLaws.inner.Built.Laws.{IsRightAt}
use Rattle.sil_cfg_items.specs.Items.{item_taken}
use Rattle.sil_cfg_items.specs.Parts.{item_inst}
use Rattle.sil_cfg_items.specs.declared.taken.Taken.{Taken}
use Rattle.sil_ast.specs.declared.inst.Inst.{Inst}
use Rattle.sil_ast.specs.declared.place.PointId.{PointId}
use Rattle.sil_ast.specs.declared.place.ValueId.{ValueId}
use Rattle.sil_cfg.specs.declared.item.Item.{Item}
use Rattle.sil_cfg.specs.declared.item.Item.TheVariants as item
use Rattle.sil_verifier_runs.specs.inner.Built.Said.{IsUnfinishedOn, said_in}

-- ---- fields

-- a field that is named by way of a building borrow of a new object is one of its class's
abbrev pub AreFieldsNew : Type 0
AreFieldsNew = InAccepted (λ d f. (v object : ValueId) (l : Location) (of : ValueId) (k : ℕ) → IsFieldAddress (sources_of d f) v l of k
    → builds (sources_of d f) object of ≡ true → IsNewField (sources_of d f) object k)

-- each operation of the next item at the address of a field is one that asks of the field what the trail says of it
abbrev pub AreFieldsRight : Type 0
AreFieldsRight = InAccepted (λ d f. (t : List Item) (p : PointId) → IsRunTrail f (item.Inst p ∷ t) → (o : Operated) (l : Location) → IsDoneAt d f p o l
    → (of : ValueId) (k : ℕ) → IsFieldAddress (sources_of d f) o.address l of k → IsRightAt (sources_of d f) (said_in d f t) o.address l of k o.operation)

-- ---- operands

-- a building borrow goes by a borrow of its object
abbrev pub AreBuildersByBorrow : Type 0
AreBuildersByBorrow = InAccepted (λ d f. (v object : ValueId) → builds (sources_of d f) object v ≡ true
    → goes_by_borrow (sources_of d f) (facts_at d f v) object ≡ true)

-- the next item takes an unfinished object, or a building borrow of one, only where its row allows it
abbrev pub AreUnfinishedOperands : Type 0
AreUnfinishedOperands = InAccepted (λ d f. (t : List Item) (i : Item) → IsRunTrail f (i ∷ t) → (x : Inst) → item_inst f i ≡ Some x → deallocates x ≡ false
    → (y : Taken) → Contains (item_taken f i) y → (object : ValueId) → IsUnfinishedOn d f t object
    → (y.value ≡ object → takes_object (allowance_of x.op) ≡ true) × (builds (sources_of d f) object y.value ≡ true → takes_borrow (allowance_of x.op) ≡ true))
