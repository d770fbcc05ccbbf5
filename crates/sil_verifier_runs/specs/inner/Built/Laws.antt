-- How items go on with the new objects of an accepted function.
use Rattle.std.specs.Prelude.{◌≡◌, ◌⊎◌, ℕ, List, [], ◌∷◌, Bool, true, false, Contains, Some, unwrap_or}
use Rattle.sil_verifier_frames.specs.sil_verifier_trails.AcceptedTrails.inner.Defined.{IsDefinedOn, makes}
use Rattle.sil_verifier_frames.specs.holder_model.Frames.{Entry}
use Rattle.sil_verifier_frames.specs.memory_rules_accesses.Locations.{location_of}
use Rattle.sil_verifier_frames.specs.memory_rules_accesses.Operations.{operations_of}
use Rattle.sil_verifier_frames.specs.memory_rules_accesses.Sources.{sources_of}
use Rattle.sil_verifier_frames.specs.memory_rules_accesses.declared.access.Operated.{Operated}
use Rattle.sil_verifier_frames.specs.memory_rules_accesses.declared.location.Location.{Location}
use Rattle.sil_verifier_frames.specs.memory_rules_parts.Building.{builds, fills}
use Rattle.sil_verifier_frames.specs.ownership_kinds_origins.Facts.{facts_in}
use Rattle.sil_verifier_frames.specs.sil_verifier_trails.RunTrails.inner.RunTrails.{IsRunTrail}
use Rattle.sil_verifier_frames.specs.sil_verifier_trails.RunTrails.inner.Since.{is_none_since}
use Rattle.sil_verifier_frames.specs.sil_verifier_trails.RunTrails.inner.Switched.{finds}
use Rattle.sil_verifier_frames.specs.sil_verifier_trails.AcceptedPlaces.inner.Cells.{mark_at}
use Rattle.sil_verifier_frames.specs.sil_verifier_values.inner.Known.{InAccepted}
use Rattle.sil_verifier_frames.specs.holder_model_laws.HolderLaws.inner.Built.Building.{IsFieldAddress, IsNewField}
use Rattle.sil_verifier_frames.specs.holder_model_laws.HolderLaws.inner.Built.Laws.{IsMadeNow, IsWrittenNow}
use Rattle.sil_verifier_frames.specs.sil_verifier_trails.HeldEntries.inner.Entries.{AreEnded}
use Rattle.sil_verifier_frames.specs.holder_model_laws.HolderLaws.inner.Held.Items.{LosesEntries}
use Rattle.sil_cfg_items.specs.Items.{item_defined, item_taken}
use Rattle.sil_cfg_items.specs.Parts.{inst_at, item_inst}
use Rattle.reach_engine_marks.specs.declared.path_patterns.mark.Mark.{Mark}
use Rattle.sil_ast.specs.declared.function.Function.{Function}
use Rattle.sil_ast.specs.declared.inst.Inst.{Inst}
use Rattle.sil_ast.specs.declared.place.PointId.{PointId}
use Rattle.sil_ast.specs.declared.place.ValueId.{ValueId}
use Rattle.sil_cfg.specs.declared.item.Item.{Item}
use Rattle.sil_cfg.specs.declared.item.Item.TheVariants as item
use Rattle.sil_types_declarations.specs.TypeDefinitions.Declarations.{Declarations}
use Rattle.sil_verifier_runs.specs.inner.Built.Said.{IsUnfinishedOn, said_in}

-- ---- fields that are to be written

-- nothing is unfinished where a function is entered
abbrev pub AreNoneAtEntry : Type 0
AreNoneAtEntry = InAccepted (λ d f. (object : ValueId) → IsUnfinishedOn d f (item.Entry ∷ []) object → ⊥)

-- an object that is the one of which a value was made was that before an item that doesn't make the value, which doesn't make the object either
abbrev pub AreAsMadeBefore : Type 0
AreAsMadeBefore = (f : Function) (t : List Item) (i : Item) (object v : ValueId) → makes f v i ≡ false
    → is_none_since (makes f object) (makes f v) (i ∷ t) ≡ true
    → (makes f object i ≡ false) × (is_none_since (makes f object) (makes f v) t ≡ true)

-- no operation of the item fills the field
abbrev pub FillsNone : Declarations → Function → Item → ValueId → ℕ → Type 0
FillsNone d f i object k = (x : Inst) → item_inst f i ≡ Some x → (o : Operated) → Contains (operations_of x) o
    → fills (sources_of d f) (record { subject = object; field = Some k }) o.operation (location_of (sources_of d f) o.address) ≡ false

-- it is left as it was where none does, or where it was written before, by an item that doesn't make the object
abbrev pub AreFieldsLeft : Type 0
AreFieldsLeft = InAccepted (λ d f. (t : List Item) (i : Item) → IsRunTrail f (i ∷ t) → (object : ValueId) (k : ℕ) → makes f object i ≡ false
    → FillsNone d f i object k ⊎ ((said_in d f t).unwritten object k ≡ Some false)
    → (said_in d f (i ∷ t)).unwritten object k ≡ (said_in d f t).unwritten object k)

-- what is full behind it, as it may find it
abbrev pub LeavesFull : Mark → Type 0
LeavesFull mark = (on : Bool) → finds mark.needs on ≡ true → unwrap_or mark.turns on ≡ true

-- an instruction without results does one thing alone: it leaves the field of a new object full, by its address
pub record FillsField (d : Declarations) (f : Function) (t : List Item) (p : PointId) (object : ValueId) (k : ℕ) : Type 0 where
  pub inst : Inst
  pub is : inst_at f p ≡ Some inst
  pub does : Operated
  pub alone : operations_of inst ≡ does ∷ []
  pub none : item_defined f (item.Inst p) ≡ []
  pub defined : IsDefinedOn f t object
  pub field : IsNewField (sources_of d f) object k
  pub location : Location
  pub of : ValueId
  pub address : IsFieldAddress (sources_of d f) does.address location of k
  pub built : builds (sources_of d f) object of ≡ true
  pub full : LeavesFull (mark_at d f location does.operation)

abbrev pub AreFieldsFilled : Type 0
AreFieldsFilled = InAccepted (λ d f. (t : List Item) (p : PointId) → IsRunTrail f (item.Inst p ∷ t) → (object : ValueId) (k : ℕ)
    → FillsField d f t p object k → IsWrittenNow (said_in d f t) (said_in d f (item.Inst p ∷ t)) object k)

-- an instruction makes the object, and does nothing else
pub record MakesObject (f : Function) (p : PointId) (object : ValueId) : Type 0 where
  pub inst : Inst
  pub is : inst_at f p ≡ Some inst
  pub none : operations_of inst ≡ []
  pub alone : item_defined f (item.Inst p) ≡ object ∷ []

abbrev pub AreObjectsMade : Type 0
AreObjectsMade = InAccepted (λ d f. (t : List Item) (p : PointId) → IsRunTrail f (item.Inst p ∷ t) → (object : ValueId) → MakesObject f p object
    → IsMadeNow (sources_of d f) (said_in d f t) (said_in d f (item.Inst p ∷ t)) object)

-- ---- unfinished objects

-- so its entry stays
abbrev pub LoseOthers : Type 0
LoseOthers = InAccepted (λ d f. (t : List Item) (i : Item) → IsRunTrail f (i ∷ t) → (entries left : List Entry)
    → AreEnded (facts_in d f) (item_taken f i) entries left → LosesEntries (sources_of d f) (said_in d f t) entries left)
