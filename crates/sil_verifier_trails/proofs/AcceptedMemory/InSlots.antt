-- An address lies in its slot just while the slot is allocated: the same accesses turn both parts.
use Rattle.std.proofs.Common.{◌≡◌, refl, sym, ◌∙◌, Bool, true, false, None}
use Rattle.std.specs.Prelude.{option_and_then}
use Rattle.sil_verifier_values.specs.memory_rules_accesses.Sources.{sources_of}
use Rattle.sil_verifier_values.specs.memory_rules_accesses.declared.access.Access.{Access}
use Rattle.sil_verifier_values.specs.memory_rules_accesses.declared.access.Access.TheVariants.{Allocates, Begins, Deallocates, Does, Ends, Given, Mentions}
use Rattle.sil_verifier_values.specs.memory_rules_parts.Shown.{part_marks}
use Rattle.sil_verifier_values.specs.memory_rules_parts.Switches.{is_same, when}
use Rattle.sil_verifier_values.specs.memory_rules_parts.declared.part.Part.TheVariants.{Allocation, InSlot}
use Rattle.sil_verifier_values.specs.ownership_kinds_origins.Facts.{facts_in}
use Rattle.sil_verifier_values.specs.reach_engine_marks.declared.path_patterns.mark.Mark.{Mark}
use Rattle.sil_ast.specs.declared.function.Function.{Function}
use Rattle.sil_ast.specs.declared.place.ValueId.{ValueId}
use Rattle.sil_verifier_values.specs.sil_types_declarations.TypeDefinitions.Declarations.{Declarations}
use Rattle.sil_verifier_trails.specs.AcceptedMemory.inner.Companions.{AreInSlots}
use Rattle.sil_verifier_trails.specs.AcceptedMemory.inner.PartTrails.{accesses_in}
use Rattle.sil_verifier_trails.proofs.AcceptedMemory.PartsFollowed.{parts_followed}
use Rattle.sil_verifier_trails.proofs.AcceptedMemory.PartsTurned.{on_together, turn_by, turned_by_accesses}
use Rattle.sil_verifier_trails.proofs.AcceptedMemory.Turning.{each_alike}

-- a mark that comes in the same case, and turns in the same way
pub when_alike : (b : Bool) (m n : Mark) → m.turns ≡ n.turns → option_and_then (λ m. m.turns) (when b m) ≡ option_and_then (λ m. m.turns) (when b n)
when_alike true m n e = e
when_alike false m n e = refl

-- a mark that turns nothing
pub when_quiet : (b : Bool) (m : Mark) → m.turns ≡ None → option_and_then (λ m. m.turns) (when b m) ≡ None
when_quiet true m e = e
when_quiet false m e = refl

slot_turned : (d : Declarations) (f : Function) (address slot : ValueId) (a : Access) → turn_by d f (InSlot address slot) a ≡ turn_by d f (Allocation slot) a
slot_turned d f address slot (Ends v) = refl
slot_turned d f address slot (Begins v) = refl
slot_turned d f address slot (Allocates v) = when_alike (is_same v slot) _ _ refl
slot_turned d f address slot (Deallocates v) = when_alike (is_same v slot) _ _ refl
slot_turned d f address slot (Given v content) = refl
slot_turned d f address slot (Does x) = refl
slot_turned d f address slot (Mentions v a) = when_quiet (is_same v address) _ refl

pub in_slots : AreInSlots
in_slots d f accepted address slot there too t h =
    on_together f (part_marks (sources_of d f) (facts_in d f) f (InSlot address slot)) (part_marks (sources_of d f) (facts_in d f) f (Allocation slot))
    (parts_followed d f accepted (InSlot address slot) there) (parts_followed d f accepted (Allocation slot) too)
    (λ i on. turned_by_accesses d f (InSlot address slot) refl i on
    ∙ each_alike (turn_by d f (InSlot address slot)) (turn_by d f (Allocation slot)) (slot_turned d f address slot) (accesses_in d f i) on
    ∙ sym (turned_by_accesses d f (Allocation slot) refl i on)) t h
