-- A frame behind an item that neither allocates nor deallocates a slot: the same roots are there, and name what they named.
use Rattle.std.proofs.Common.{◌≡◌, ℕ, ◌==◌, ⊎_elim, List, [], ◌∷◌, Bool, true, false, refl, sym, ap, ◌∙◌, subst, eq-eqb, eqb-true}
use Rattle.std.proofs.lemmas.Bool.{false≢true, or_cases, or_left, or_right}
use Rattle.holder_model_laws.specs.holder_model.Frames.{Entry, Frame, entry_at}
use Rattle.holder_model_laws.specs.holder_model.States.{Task}
use Rattle.holder_model_laws.specs.memory_rules_accesses.Sources.{is_slot, is_slot_source, source_at, sources_of}
use Rattle.holder_model_laws.specs.memory_rules_accesses.declared.source.Source.{Source}
use Rattle.holder_model_laws.specs.memory_rules_accesses.declared.source.Source.TheVariants as source
use Rattle.sil_verifier_trails.specs.AcceptedPlaces.inner.Stacks.{slots_on}
use Rattle.sil_verifier_trails.specs.sil_verifier_values.inner.Known.{IsAcceptedBody}
use Rattle.numbered_form.specs.Lists.{Each}
use Rattle.holder_model_laws.specs.ownership_kinds_chains.OwnershipChains.Facts.{has}
use Rattle.holder_model_values.specs.RunValues.Memory.{Memory}
use Rattle.holder_model_values.specs.RunValues.Places.{Place}
use Rattle.sil_ast.specs.declared.function.Function.{Function}
use Rattle.sil_ast.specs.declared.module.Module.{Module}
use Rattle.sil_ast.specs.declared.place.ValueId.{ValueId}
use Rattle.sil_cfg.specs.declared.item.Item.{Item}
use Rattle.sil_types_declarations.specs.TypeDefinitions.Declarations.{declarations_of}
use Rattle.sil_verifier_frames.specs.inner.Placed.FramePlaces.{AreSlotsOf, HoldsPlaces, Names}
use Rattle.sil_verifier_frames.specs.inner.Placed.Roots.{IsThere, argument, slot}
use Rattle.sil_verifier_frames.specs.inner.Placed.TrailLaws.{TrailLaws}
use Rattle.sil_verifier_frames.proofs.Placed.GoingOn.{KeepsRoots}
use Rattle.sil_verifier_frames.proofs.Placed.Naming.{names_once, names_still}
use Rattle.sil_verifier_frames.proofs.Placed.PartsNamed.{ArePartsNamed}

-- ---- slots

is_the_slot : (s : Source) → is_slot_source s ≡ true → (trivial : Bool) × (s ≡ source.Slot trivial)
is_the_slot (source.Slot trivial) e = (trivial, refl)
is_the_slot (source.Argument row trivial) e = absurd (false≢true e)
is_the_slot (source.Object fields) e = absurd (false≢true e)
is_the_slot (source.Borrow of) e = absurd (false≢true e)
is_the_slot (source.Upcast of) e = absurd (false≢true e)
is_the_slot (source.Loan of) e = absurd (false≢true e)
is_the_slot (source.Field of k trivial) e = absurd (false≢true e)
is_the_slot (source.Part of k) e = absurd (false≢true e)
is_the_slot source.Other e = absurd (false≢true e)

pub each_has : (P : ValueId → Type 0) (vs : List ValueId) (v : ValueId) → Each P vs → has vs v.0 ≡ true → P v
each_has P [] v each h = absurd (false≢true h)
each_has P (w ∷ vs) v each h = ⊎_elim
    (λ (here : (w.0 == v.0) ≡ true). subst P (ap (λ (k : ℕ). record { 0 = k }) (eqb-true w.0 v.0 here)) each.0)
    (λ (later : has vs v.0 ≡ true). each_has P vs v each.1 later)
    (or_cases (w.0 == v.0) (has vs v.0) h)

-- the slots name what they named
pub slots_still : (old new : List Entry) (vs : List ValueId) (ps : List Place) → ((v : ValueId) → has vs v.0 ≡ true → entry_at new v ≡ entry_at old v)
    → AreSlotsOf old vs ps → AreSlotsOf new vs ps
slots_still old new [] [] same h = tt
slots_still old new [] (p ∷ ps) same h = absurd h
slots_still old new (v ∷ vs) [] same h = absurd h
slots_still old new (v ∷ vs) (p ∷ ps) same h = (
  names_still old new v (same v (or_left (v.0 == v.0) (has vs v.0) (eq-eqb v.0 v.0 refl))) p h.0,
  h.1,
  slots_still old new vs ps (λ w there. same w (or_right (v.0 == w.0) (has vs w.0) there)) h.2,
)

-- a slot of the frame isn't a part
pub slot_no_part : (entries : List Entry) (vs : List ValueId) (ps : List Place) (v : ValueId) → AreSlotsOf entries vs ps → has vs v.0 ≡ true
    → (p : Place) → Names entries v p → p.is_part ≡ false
slot_no_part entries [] ps v h there p names = absurd (false≢true there)
slot_no_part entries (w ∷ vs) [] v h there p names = absurd h
slot_no_part entries (w ∷ vs) (q ∷ ps) v h there p names = ⊎_elim
    (λ (here : (w.0 == v.0) ≡ true).
    let same : w ≡ v = ap (λ (k : ℕ). record { 0 = k }) (eqb-true w.0 v.0 here) in
    ap (λ x. x.is_part) (names_once entries v p q names (subst (λ x. Names entries x q) same h.0)) ∙ h.1)
    (λ (later : has vs v.0 ≡ true). slot_no_part entries vs ps v h.2 later p names)
    (or_cases (w.0 == v.0) (has vs v.0) there)

module _ (laws : TrailLaws) (m : Module) (number : ℕ) (f : Function) (body : IsAcceptedBody m number f) where
  pub slot_there : (t : List Item) (v : ValueId) → has (slots_on (declarations_of m) f t) v.0 ≡ true → IsThere (declarations_of m) f t v
  slot_there t v h =
      let is = is_the_slot (source_at (sources_of (declarations_of m) f) v)
      (each_has (λ v. is_slot (sources_of (declarations_of m) f) v ≡ true) (slots_on (declarations_of m) f t) v (laws.slots (declarations_of m) f t) h) in
      slot is.0 is.1 h

  -- roots stay there while the slots stay
  pub there_still : (t u : List Item) → slots_on (declarations_of m) f u ≡ slots_on (declarations_of m) f t → (v : ValueId)
      → IsThere (declarations_of m) f u v → IsThere (declarations_of m) f t v
  there_still t u same v (slot trivial is there) = slot trivial is (ap (λ vs. has vs v.0) (sym same) ∙ there)
  there_still t u same v (argument row trivial is) = argument row trivial is

  module _ (frame next : Frame) (rest : List (Task Frame)) (before after : Memory) where
    pub record Keeps : Type 0 where
      pub same_slots : slots_on (declarations_of m) f next.trail ≡ slots_on (declarations_of m) f frame.trail
      pub places : next.slots ≡ frame.slots
      pub entries : (v : ValueId) → IsThere (declarations_of m) f frame.trail v → entry_at next.entries v ≡ entry_at frame.entries v
      pub parts : ArePartsNamed (sources_of (declarations_of m) f) f next.trail next.entries

    pub keeps_roots : HoldsPlaces m before f frame rest → Keeps → KeepsRoots m f frame next rest before after
    keeps_roots h k = record {
      roots = there_still frame.trail next.trail k.same_slots;
      entries = λ v there. k.entries v (there_still frame.trail next.trail k.same_slots v there);
      parts = k.parts;
      slots = subst (λ vs. AreSlotsOf next.entries vs next.slots) (sym k.same_slots)
          (subst (λ ps. AreSlotsOf next.entries (slots_on (declarations_of m) f frame.trail) ps) (sym k.places)
          (slots_still frame.entries next.entries (slots_on (declarations_of m) f frame.trail) frame.slots
          (λ v there. k.entries v (slot_there frame.trail v there)) h.slots));
    }
