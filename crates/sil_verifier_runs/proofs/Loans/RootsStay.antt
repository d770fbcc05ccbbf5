-- The root of a loan is there behind an item, if the loan stays: the item doesn't deallocate it.
use Rattle.std.proofs.Common.{◌≡◌, ◌==◌, ◌||◌, ℕ, List, [], ◌∷◌, Bool, true, false, Contains, Some, refl, sym, ap, ◌∙◌, eq-eqb, eqb-true}
use Rattle.std.specs.Prelude.{option_and_then}
use Rattle.std.specs.List.{starts_with}
use Rattle.std.proofs.lemmas.Bool.{and_from, or_right, true≢false}
use Rattle.std.proofs.lemmas.Option.{none-some}
use Rattle.sil_verifier_frames.proofs.sil_verifier_trails.AcceptedMemory.PartsTurned.{turn_by}
use Rattle.sil_verifier_frames.proofs.sil_verifier_trails.AcceptedMemory.Turning.{turned_each}
use Rattle.sil_verifier_frames.specs.sil_verifier_trails.AcceptedMemory.inner.PartTrails.{accesses_in}
use Rattle.sil_verifier_frames.specs.memory_rules_accesses.Accesses.{made_by}
use Rattle.sil_verifier_frames.specs.memory_rules_accesses.Locations.{location_of, meet, same_step, whole}
use Rattle.sil_verifier_frames.specs.memory_rules_accesses.Operations.{addresses_of, deallocates}
use Rattle.sil_verifier_frames.specs.memory_rules_accesses.Sources.{is_slot_source, source_at, sources_of}
use Rattle.sil_verifier_frames.specs.memory_rules_accesses.declared.access.Access.{Access}
use Rattle.sil_verifier_frames.specs.memory_rules_accesses.declared.location.Location.{Location}
use Rattle.sil_verifier_frames.specs.memory_rules_accesses.declared.source.Source.{Source}
use Rattle.sil_verifier_frames.specs.memory_rules_accesses.declared.source.Source.TheVariants as source
use Rattle.sil_verifier_frames.specs.memory_rules_parts.Switches.{is_same, when}
use Rattle.sil_verifier_frames.specs.memory_rules_parts.declared.part.Part.TheVariants.{Allocation}
use Rattle.sil_verifier_frames.specs.ownership_kinds_origins.Facts.{facts_in}
use Rattle.sil_verifier_frames.specs.sil_verifier_trails.RunTrails.inner.RunTrails.{IsRunTrail}
use Rattle.sil_verifier_frames.proofs.sil_verifier_trails.AcceptedPlaces.Fields.{when_turned}
use Rattle.sil_verifier_frames.proofs.sil_verifier_trails.AcceptedPlaces.Items.{accesses_each}
use Rattle.sil_verifier_frames.proofs.sil_verifier_trails.AcceptedPlaces.Locating.{root_location}
use Rattle.sil_verifier_frames.proofs.sil_verifier_trails.AcceptedPlaces.LoansKept.{loans_there}
use Rattle.sil_verifier_frames.proofs.sil_verifier_trails.AcceptedPlaces.MadeOnce.{StaysOn, stays_on}
use Rattle.sil_verifier_frames.proofs.sil_verifier_trails.AcceptedPlaces.Mentioned.{slot_root}
use Rattle.sil_verifier_frames.proofs.sil_verifier_trails.AcceptedPlaces.Stacked.{has_behind}
use Rattle.sil_verifier_frames.specs.sil_verifier_trails.AcceptedPlaces.inner.Loans.{IsLentOn}
use Rattle.sil_verifier_frames.specs.sil_verifier_trails.AcceptedPlaces.inner.Stacks.{slots_on}
use Rattle.sil_verifier_frames.specs.sil_verifier_values.inner.Known.{IsAcceptedBody}
use Rattle.sil_cfg_items.specs.Parts.{item_inst}
use Rattle.numbered_form.specs.Lists.{Each}
use Rattle.sil_verifier_frames.specs.ownership_kinds_chains.OwnershipChains.Facts.{has}
use Rattle.reach_engine_marks.specs.declared.path_patterns.mark.Mark.{Mark}
use Rattle.sil_ast.specs.declared.function.Function.{Function}
use Rattle.sil_ast.specs.declared.inst.Inst.{Inst}
use Rattle.sil_ast.specs.declared.module.Module.{Module}
use Rattle.sil_ast.specs.declared.place.ValueId.{ValueId}
use Rattle.sil_cfg.specs.declared.item.Item.{Item}
use Rattle.sil_types_declarations.specs.TypeDefinitions.Declarations.{Declarations, declarations_of}
use Rattle.sil_verifier_frames.specs.inner.Placed.Roots.{IsThere, argument, slot}

turned_true : (b : Bool) (k : Mark) → k.turns ≡ Some true → option_and_then (λ (x : Mark). x.turns) (when b k) ≡ Some false → ⊥
turned_true true k is e = let two : Some true ≡ Some false = sym is ∙ e in cc
turned_true false k is e = absurd (none-some false e)

-- a whole overlaps each location at its root
whole_overlaps : (root : ValueId) (l : Location) → root.0 ≡ l.root.0 → meet (Some (whole root)) (Some l) ≡ true
whole_overlaps root l same =
    and_from (root.0 == l.root.0) (starts_with same_step [] l.path || starts_with same_step l.path []) (eq-eqb root.0 l.root.0 same) (at l.path)
  where
    at : (path : List ℕ) → (starts_with same_step [] path || starts_with same_step path []) ≡ true
    at [] = refl
    at (k ∷ path) = or_right (starts_with same_step [] (k ∷ path)) true refl

module _ (m : Module) (n : ℕ) (f : Function) (a : IsAcceptedBody m n f) (t : List Item) (i : Item) (run : IsRunTrail f (i ∷ t)) (scope address : ValueId)
    (on : IsLentOn (declarations_of m) f t i scope address) (l : Location) (at : location_of (sources_of (declarations_of m) f) address ≡ Some l) where
  abbrev d : Declarations
  d = declarations_of m

  abbrev sources : List Source
  sources = sources_of d f

  module _ (is_slot_root : is_slot_source (source_at sources l.root) ≡ true) where
    abbrev Stays : Access → Type 0
    Stays x = StaysOn (turn_by d f (Allocation l.root) x)

    made_stays : (v : ValueId) (s : Source) → Each Stays (made_by v s)
    made_stays v (source.Slot b) = ((λ e. turned_true (is_same v l.root) _ refl e), tt)
    made_stays v (source.Argument row b) = ((λ e. none-some false e), tt)
    made_stays v (source.Object fields) = ((λ e. turned_true (is_same v l.root) _ refl e), tt)
    made_stays v (source.Borrow of) = tt
    made_stays v (source.Upcast of) = tt
    made_stays v (source.Loan of) = tt
    made_stays v (source.Field of k b) = tt
    made_stays v (source.Part of k) = tt
    made_stays v source.Other = tt

    -- a deallocation would overlap the loan
    pub never_closed : (x : Inst) → item_inst f i ≡ Some x → deallocates x ≡ true → (v : ValueId) → Contains (addresses_of x) v → is_same v l.root ≡ true → ⊥
    never_closed x is closes v c same =
        let number : v.0 ≡ l.root.0 = eqb-true v.0 l.root.0 same in
        let root : v ≡ l.root = ap (λ (k : ℕ). record { 0 = k }) number in
        let slot_v : is_slot_source (source_at sources v) ≡ true = ap (λ r. is_slot_source (source_at sources r)) root ∙ is_slot_root in
        true≢false (sym (ap (λ o. meet o (location_of sources address)) (root_location m n f a v (slot_root (source_at sources v) slot_v))
        ∙ ap (meet (Some (whole v))) at ∙ whole_overlaps v l number)
        ∙ loans_there m n f a t i run scope address on x v is closes c)

    all_stay : Each Stays (accesses_in d f i)
    all_stay =
        accesses_each Stays sources (facts_in d f) f i (λ v e. none-some false e) (λ v e. none-some false e) (λ v b e. none-some false e) (λ x is o c e. none-some false e)
        (λ x is closes v c e. never_closed x is closes v c (when_turned (is_same v l.root) _ false e).0)
        (λ v c. made_stays v (source_at sources v))

    slot_stays : has (slots_on d f t) l.root.0 ≡ true → has (slots_on d f (i ∷ t)) l.root.0 ≡ true
    slot_stays was =
        has_behind d f l.root is_slot_root (accesses_in d f i) (slots_on d f t)
        ∙ ap (turned_each (turn_by d f (Allocation l.root)) (accesses_in d f i)) was
        ∙ stays_on (turn_by d f (Allocation l.root)) (accesses_in d f i) all_stay

  pub root_there : IsThere d f t l.root → IsThere d f (i ∷ t) l.root
  root_there (slot trivial is there) = slot trivial is (slot_stays (ap is_slot_source is) there)
  root_there (argument row trivial is) = argument row trivial is
