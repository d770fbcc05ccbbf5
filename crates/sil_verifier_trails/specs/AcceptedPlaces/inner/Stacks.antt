-- The slots that are allocated where a trail has come to: a stack, the newest first.
use Rattle.std.specs.Prelude.{◌≡◌, List, [], ◌∷◌, ◌++◌, Bool, true, false, cond, Option, Some, None}
use Rattle.sil_verifier_values.specs.memory_rules_accesses.Operations.{access_kind_of, addresses_of, deallocates}
use Rattle.sil_verifier_values.specs.memory_rules_accesses.Sources.{is_slot, sources_of}
use Rattle.sil_verifier_values.specs.memory_rules_accesses.declared.access.Access.{Access}
use Rattle.sil_verifier_values.specs.memory_rules_accesses.declared.access.Access.TheVariants.{Allocates, Begins, Deallocates, Does, Ends, Given, Mentions}
use Rattle.sil_verifier_values.specs.memory_rules_accesses.declared.columns.AccessKind.{AccessKind}
use Rattle.sil_verifier_values.specs.memory_rules_accesses.declared.columns.AccessKind.TheVariants as access
use Rattle.sil_verifier_values.specs.memory_rules_accesses.declared.source.Source.{Source}
use Rattle.sil_verifier_values.specs.memory_rules_parts.Switches.{is_same}
use Rattle.sil_verifier_values.specs.memory_rules_parts.declared.part.Part.TheVariants.{Allocation}
use Rattle.sil_verifier_trails.specs.AcceptedTrails.inner.Accepted.{IsAcceptedIn}
use Rattle.sil_verifier_trails.specs.RunTrails.inner.RunTrails.{IsRunTrail}
use Rattle.sil_verifier_trails.specs.AcceptedMemory.inner.PartTrails.{accesses_in, is_on}
use Rattle.sil_verifier_values.specs.inner.Known.{InAccepted}
use Rattle.sil_cfg_items.specs.Items.{item_defined}
use Rattle.sil_cfg_items.specs.Parts.{item_inst}
use Rattle.numbered_form.specs.Lists.{Each}
use Rattle.sil_verifier_values.specs.ownership_kinds_chains.OwnershipChains.Facts.{has}
use Rattle.sil_ast.specs.declared.function.Function.{Function}
use Rattle.sil_ast.specs.declared.inst.Inst.{Inst}
use Rattle.sil_ast.specs.declared.place.ValueId.{ValueId}
use Rattle.sil_cfg.specs.Returns.{is_return}
use Rattle.sil_cfg.specs.declared.item.Item.{Item}
use Rattle.sil_verifier_values.specs.sil_types_declarations.TypeDefinitions.Declarations.{Declarations}

-- all but this one
abbrev pub without : ValueId → List ValueId → List ValueId
without v [] = []
without v (w ∷ slots) = cond (is_same w v) (without v slots) (w ∷ without v slots)

-- the slots behind an access
abbrev pub slots_by : List Source → Access → List ValueId → List ValueId
slots_by sources (Ends v) slots = slots
slots_by sources (Begins v) slots = slots
slots_by sources (Allocates v) slots = cond (is_slot sources v) (v ∷ slots) slots
slots_by sources (Deallocates v) slots = without v slots
slots_by sources (Given v content) slots = slots
slots_by sources (Does x) slots = slots
slots_by sources (Mentions v a) slots = slots

abbrev pub slots_behind : List Source → List Access → List ValueId → List ValueId
slots_behind sources [] slots = slots
slots_behind sources (a ∷ accesses) slots = slots_behind sources accesses (slots_by sources a slots)

-- the slots that are allocated behind a trail, the newest first
abbrev pub slots_on : Declarations → Function → List Item → List ValueId
slots_on d f [] = []
slots_on d f (i ∷ t) = slots_behind (sources_of d f) (accesses_in d f i) (slots_on d f t)

-- ---- access by access

-- a slot is among them just while it is allocated
abbrev pub AreSlotsAllocated : Type 0
AreSlotsAllocated = (d : Declarations) (f : Function) → IsAcceptedIn d f → (slot : ValueId) → is_slot (sources_of d f) slot ≡ true
    → (t : List Item) → IsRunTrail f t → is_on d f (Allocation slot) t ≡ Some (has (slots_on d f t) slot.0)

-- they are slots
abbrev pub AreSlots : Type 0
AreSlots = (d : Declarations) (f : Function) (t : List Item) → Each (λ v. is_slot (sources_of d f) v ≡ true) (slots_on d f t)

-- the slot is the newest, and is there once
pub record IsNewest (slots : List ValueId) (slot : ValueId) : Type 0 where
  pub older : List ValueId
  pub parts : slots ≡ slot ∷ older
  pub once : has older slot.0 ≡ false

-- what the next item deallocates is the newest slot, behind the accesses before
abbrev pub AreNewestDeallocated : Type 0
AreNewestDeallocated = (d : Declarations) (f : Function) → IsAcceptedIn d f → (t : List Item) (i : Item) → IsRunTrail f (i ∷ t)
    → (front rest : List Access) (slot : ValueId) → accesses_in d f i ≡ front ++ Deallocates slot ∷ rest → is_slot (sources_of d f) slot ≡ true
    → IsNewest (slots_behind (sources_of d f) front (slots_on d f t)) slot

-- a slot that is allocated isn't there yet
abbrev pub AreAllocatedOnce : Type 0
AreAllocatedOnce = (d : Declarations) (f : Function) → IsAcceptedIn d f → (t : List Item) (i : Item) → IsRunTrail f (i ∷ t)
    → (front rest : List Access) (slot : ValueId) → accesses_in d f i ≡ front ++ Allocates slot ∷ rest → is_slot (sources_of d f) slot ≡ true
    → has (slots_behind (sources_of d f) front (slots_on d f t)) slot.0 ≡ false

-- ---- item by item

-- by its row an instruction neither allocates nor deallocates a slot
abbrev pub keeps_slots_by : AccessKind → Bool
keeps_slots_by access.NoAccess = true
keeps_slots_by access.AllocatesSlot = false
keeps_slots_by access.AllocatesObject = true
keeps_slots_by access.DeallocatesSlot = false
keeps_slots_by access.LendsValue = true
keeps_slots_by access.Upcasts = true
keeps_slots_by access.LendsLocation = true
keeps_slots_by access.NamesField = true
keeps_slots_by access.NamesMember = true
keeps_slots_by access.NamesElement = true
keeps_slots_by access.Loads = true
keeps_slots_by access.Stores = true
keeps_slots_by access.Destroys = true
keeps_slots_by access.Passes = true

abbrev pub keeps_slots : Option Inst → Bool
keeps_slots None = true
keeps_slots (Some i) = keeps_slots_by (access_kind_of i.op)

-- such an item leaves the slots as they are
abbrev pub AreSlotsKept : Type 0
AreSlotsKept = InAccepted (λ d f. (t : List Item) (i : Item) → keeps_slots (item_inst f i) ≡ true → slots_on d f (i ∷ t) ≡ slots_on d f t)

-- an item that allocates a slot makes it the newest
abbrev pub AreSlotsOpened : Type 0
AreSlotsOpened = InAccepted (λ d f. (t : List Item) (i : Item) (x : Inst) (slot : ValueId) → IsRunTrail f (i ∷ t) → item_inst f i ≡ Some x
    → access_kind_of x.op ≡ access.AllocatesSlot → item_defined f i ≡ slot ∷ [] → is_slot (sources_of d f) slot ≡ true
    → (slots_on d f (i ∷ t) ≡ slot ∷ slots_on d f t) × (has (slots_on d f t) slot.0 ≡ false))

-- one that deallocates a slot finds it the newest, and leaves the others
abbrev pub AreSlotsClosed : Type 0
AreSlotsClosed = InAccepted (λ d f. (t : List Item) (i : Item) (x : Inst) (slot : ValueId) → IsRunTrail f (i ∷ t) → item_inst f i ≡ Some x
    → deallocates x ≡ true → addresses_of x ≡ slot ∷ []
    → (slots_on d f t ≡ slot ∷ slots_on d f (i ∷ t)) × (has (slots_on d f (i ∷ t)) slot.0 ≡ false))

-- no item makes a slot that is allocated
abbrev pub AreSlotsMadeOnce : Type 0
AreSlotsMadeOnce = InAccepted (λ d f. (t : List Item) (i : Item) → IsRunTrail f (i ∷ t) → (slot : ValueId) → has (slots_on d f t) slot.0 ≡ true
    → has (item_defined f i) slot.0 ≡ false)

-- where the next item returns there are none
abbrev pub AreNoneLeft : Type 0
AreNoneLeft = InAccepted (λ d f. (t : List Item) (i : Item) → IsRunTrail f (i ∷ t) → is_return f i ≡ true → slots_on d f t ≡ [])
