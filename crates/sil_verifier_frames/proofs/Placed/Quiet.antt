-- An item that does nothing to the places on the stack: edges, calls of functions without a body, and all rows that touch no place.
use Rattle.std.proofs.Common.{◌≡◌, ◌≤◌, ℕ, zero, suc, List, [], ◌∷◌, length, Bool, true, false, Option, Some, Ok, refl, sym, ap, ◌∙◌}
use Rattle.std.proofs.lemmas.Bool.{false≢true}
use Rattle.std.proofs.lemmas.Option.{none-some, same_Some}
use Rattle.sil_verifier_trails.specs.AcceptedTrails.inner.Defined.{makes}
use Rattle.holder_model_laws.specs.holder_model.Data.{Datum}
use Rattle.holder_model_laws.specs.holder_model.Frames.{Entry, Frame, datum_in, entry_at, results_put}
use Rattle.holder_model_laws.specs.holder_model.States.{Task}
use Rattle.holder_model_laws.specs.memory_rules_accesses.Locations.{locate, located_by, location_of, whole}
use Rattle.holder_model_laws.specs.memory_rules_accesses.Rows.{is_part}
use Rattle.holder_model_laws.specs.memory_rules_accesses.Sources.{source_at, sources_of}
use Rattle.holder_model_laws.specs.memory_rules_accesses.declared.location.Location.{Location}
use Rattle.holder_model_laws.specs.memory_rules_accesses.declared.source.Source.{Source}
use Rattle.holder_model_laws.specs.memory_rules_accesses.declared.source.Source.TheVariants as source
use Rattle.holder_model_laws.specs.memory_rules_parts.Parts.{whole_cell}
use Rattle.sil_verifier_trails.specs.RunTrails.inner.RunTrails.{GoesOn, IsRunTrail}
use Rattle.sil_verifier_trails.specs.AcceptedPlaces.inner.Cells.{touches}
use Rattle.sil_verifier_trails.specs.AcceptedPlaces.inner.Stacks.{slots_on}
use Rattle.sil_verifier_trails.specs.sil_verifier_values.inner.Known.{IsAcceptedBody}
use Rattle.sil_cfg_items.specs.Items.{item_defined}
use Rattle.sil_cfg_items.specs.Parts.{item_inst}
use Rattle.holder_model_laws.specs.HolderLaws.inner.Cells.Cells.{cell_at}
use Rattle.holder_model_laws.specs.ownership_kinds_chains.declared.ownership_chains.facts.Facts.{Facts}
use Rattle.holder_model_values.specs.RunValues.Memory.{Memory}
use Rattle.holder_model_values.specs.RunValues.Places.{OnStack}
use Rattle.sil_ast.specs.declared.function.Function.{Function}
use Rattle.sil_ast.specs.declared.module.Module.{Module}
use Rattle.sil_ast.specs.declared.place.ValueId.{ValueId}
use Rattle.sil_cfg.specs.declared.item.Item.{Item}
use Rattle.sil_types_declarations.specs.TypeDefinitions.Declarations.{declarations_of}
use Rattle.sil_verifier_frames.specs.inner.Placed.FramePlaces.{HoldsPlaces}
use Rattle.sil_verifier_frames.specs.inner.Placed.Roots.{IsThere}
use Rattle.sil_verifier_frames.specs.inner.Placed.TrailLaws.{TrailLaws}
use Rattle.sil_verifier_frames.proofs.Placed.Contents.{on_stack, stays_full}
use Rattle.sil_verifier_frames.proofs.Placed.EntriesKept.{results_other}
use Rattle.sil_verifier_frames.proofs.Placed.GoingOn.{goes_on, stays_quiet}
use Rattle.sil_verifier_frames.proofs.Placed.Keeping.{Keeps, keeps_roots, there_still}
use Rattle.sil_verifier_frames.specs.inner.Placed.PartsNamed.{AreNewNamed, AreOldKept, ArePartsNamed}
use Rattle.sil_verifier_frames.proofs.Placed.PartsNamed.{parts_behind}
use Rattle.sil_verifier_frames.proofs.Placed.Reading.{root_itself}

-- ---- a part is named as a member of another address

pub record IsMember (sources : List Source) (v : ValueId) : Type 0 where
  pub of : ValueId
  pub number : ℕ
  pub source : source_at sources v ≡ source.Part of number

by_source : (sources : List Source) (others : ValueId → Option Location) (v : ValueId) (s : Source) → source_at sources v ≡ s → (l : Location) → located_by others v s ≡ Some l
    → is_part l ≡ true → IsMember sources v
by_source sources others v (source.Part of k) e l is part = record { of = of; number = k; source = e }
by_source sources others v (source.Slot trivial) e l is part = absurd (false≢true (ap is_part (same_Some (whole v) l is) ∙ part))
by_source sources others v (source.Argument row trivial) e l is part = absurd (false≢true (ap is_part (same_Some (whole v) l is) ∙ part))
by_source sources others v (source.Field of k trivial) e l is part = absurd (false≢true (ap is_part (same_Some (whole v) l is) ∙ part))
by_source sources others v (source.Object fields) e l is part = absurd (none-some l is)
by_source sources others v (source.Borrow of) e l is part = absurd (none-some l is)
by_source sources others v (source.Upcast of) e l is part = absurd (none-some l is)
by_source sources others v (source.Loan of) e l is part = absurd (none-some l is)
by_source sources others v source.Other e l is part = absurd (none-some l is)

by_steps : (sources : List Source) (n : ℕ) (v : ValueId) (l : Location) → locate sources n v ≡ Some l → is_part l ≡ true → IsMember sources v
by_steps sources zero v l is part = absurd (none-some l is)
by_steps sources (suc n) v l is part = by_source sources (locate sources n) v (source_at sources v) refl l is part

pub part_is_member : (sources : List Source) (v : ValueId) (l : Location) → location_of sources v ≡ Some l → is_part l ≡ true → IsMember sources v
part_is_member sources v l is part = by_steps sources (length sources) v l is part

-- a member of another address, or the address of a field
pub data IsInner (sources : List Source) (v : ValueId) : Type 0 where
  member : IsMember sources v → IsInner sources v
  field : (of : ValueId) (k : ℕ) (trivial : Bool) → source_at sources v ≡ source.Field of k trivial → IsInner sources v

-- no result is such
pub none_named : (sources : List Source) (f : Function) (t : List Item) (i : Item) (old new : List Entry) → ((v : ValueId) → makes f v i ≡ true → IsInner sources v → ⊥)
    → AreNewNamed sources f t i old new
none_named sources f t i old new never = record {
  parts = λ v made l is part at whole p one two. absurd (never v made (member (part_is_member sources v l is part)));
  fields = λ v made l is of k trivial src p names home. by v made l is of k trivial src (is_part l) refl;
}
  where
    by : (v : ValueId) → makes f v i ≡ true → (l : Location) → location_of sources v ≡ Some l → (of : ValueId) (k : ℕ) (trivial : Bool)
        → source_at sources l.root ≡ source.Field of k trivial → (b : Bool) → is_part l ≡ b → ⊥
    by v made l is of k trivial src true e = never v made (member (part_is_member sources v l is e))
    by v made l is of k trivial src false e = never v made (field of k trivial (ap (source_at sources) (sym (root_itself sources v l is e)) ∙ src))

-- ---- the frame behind the item

module _ (laws : TrailLaws) (m : Module) (number : ℕ) (f : Function) (body : IsAcceptedBody m number f) (facts : ValueId → Option Facts)
    (before after : Memory) (frame : Frame) (rest : List (Task Frame)) (i : Item) (results : List Datum) (entries : List Entry) where
  -- the frame goes on, and the results are put
  pub record PutsResults : Type 0 where
    pub holds : HoldsPlaces m before f frame rest
    pub goes : GoesOn frame.trail
    pub trail : IsRunTrail f (i ∷ frame.trail)
    pub put : results_put facts (item_defined f i) results frame.entries ≡ Ok entries

  abbrev pub behind : Frame
  behind = record frame { trail = i ∷ frame.trail; entries = entries; lent = [] }

  module _ (s : PutsResults) where
    pub root_kept : (v : ValueId) → IsThere (declarations_of m) f frame.trail v → entry_at entries v ≡ entry_at frame.entries v
    root_kept v there = results_other facts (item_defined f i) results frame.entries entries s.put v (laws.made_once m number f body frame.trail i s.trail s.goes v there)

    pub old_kept : AreOldKept f i frame.entries entries
    old_kept v not_made p names = sym (ap datum_in (results_other facts (item_defined f i) results frame.entries entries s.put v not_made)) ∙ names

    pub all_parts : AreNewNamed (sources_of (declarations_of m) f) f frame.trail i frame.entries entries
        → ArePartsNamed (sources_of (declarations_of m) f) f (i ∷ frame.trail) entries
    all_parts news = parts_behind (sources_of (declarations_of m) f) f frame.trail i frame.entries entries
        (record { parts = s.holds.parts; fields = s.holds.fields }) news old_kept

    pub keeps : slots_on (declarations_of m) f (i ∷ frame.trail) ≡ slots_on (declarations_of m) f frame.trail
        → AreNewNamed (sources_of (declarations_of m) f) f frame.trail i frame.entries entries → Keeps laws m number f body frame behind rest before after
    keeps slots news = record { same_slots = slots; places = refl; entries = root_kept; parts = all_parts news }

    -- what touches no root leaves all as it is
    pub quiet_behind : frame.lent ≡ [] → length before.stack ≤ length after.stack → ((n : ℕ) → cell_at after OnStack n ≡ cell_at before OnStack n)
        → slots_on (declarations_of m) f (i ∷ frame.trail) ≡ slots_on (declarations_of m) f frame.trail
        → ((v : ValueId) → IsThere (declarations_of m) f frame.trail v → touches (sources_of (declarations_of m) f) (whole_cell v) (item_inst f i) ≡ false)
        → AreNewNamed (sources_of (declarations_of m) f) f frame.trail i frame.entries entries → HoldsPlaces m after f behind rest
    quiet_behind none more same slots untouched news =
        let roots = keeps_roots laws m number f body frame behind rest before after s.holds (keeps slots news) in
        goes_on m f frame behind rest before after s.holds more roots
        (stays_quiet m f frame behind rest before after s.holds none roots same (λ v there.
        let was = there_still laws m number f body frame.trail (i ∷ frame.trail) slots v there in
        stays_full laws m number f body frame.trail i s.trail v (on_stack laws m number f body frame.trail v was) (untouched v was)
        (laws.made_once m number f body frame.trail i s.trail s.goes v was)))
