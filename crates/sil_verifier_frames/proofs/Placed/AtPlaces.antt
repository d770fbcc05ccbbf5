-- What an instruction does at its operand's place on the stack: the place is as the run asks, and the frame holds its places behind it.
use Rattle.std.proofs.Common.{◌≡◌, ◌⊎◌, ⊎_elim, inl, inr, ◌==◌, ◌≤◌, ℕ, List, [], ◌∷◌, length, Bool, true, false, Contains, Some, refl, sym, ap, ◌∙◌, subst, arith, eqb-true}
use Rattle.std.specs.Prelude.{unwrap_or}
use Rattle.std.proofs.lemmas.Bool.{true≢false}
use Rattle.std.proofs.lemmas.List.Elements.{Contains-push}
use Rattle.sil_verifier_trails.specs.AcceptedTrails.inner.Bases.{IsAsMade}
use Rattle.holder_model_laws.specs.holder_model.Frames.{Frame}
use Rattle.holder_model_laws.specs.holder_model.MemoryEffects.{asked_before}
use Rattle.holder_model_laws.specs.holder_model.States.{Task}
use Rattle.holder_model_laws.specs.memory_rules_accesses.Locations.{location_of}
use Rattle.holder_model_laws.specs.memory_rules_accesses.Operations.{operated}
use Rattle.holder_model_laws.specs.memory_rules_accesses.Rows.{has_operation, is_part}
use Rattle.holder_model_laws.specs.memory_rules_accesses.Sources.{is_trivial_at, source_at, sources_of}
use Rattle.holder_model_laws.specs.memory_rules_accesses.declared.access.Operation.{Operation}
use Rattle.holder_model_laws.specs.memory_rules_accesses.declared.access.Operation.TheVariants.{Handed, Take}
use Rattle.holder_model_laws.specs.memory_rules_accesses.declared.location.Location.{Location}
use Rattle.holder_model_laws.specs.memory_rules_parts.Parts.{whole_cell}
use Rattle.sil_verifier_trails.specs.RunTrails.inner.RunTrails.{GoesOn, IsRunTrail}
use Rattle.sil_verifier_trails.specs.AcceptedPlaces.inner.Cells.{IsDoneAt, mark_at, touches}
use Rattle.sil_verifier_trails.specs.AcceptedPlaces.inner.Stacks.{slots_on}
use Rattle.sil_verifier_trails.specs.sil_verifier_values.inner.Known.{IsAcceptedBody}
use Rattle.argument_conventions.specs.declared.row.AddressRow.{AddressRow}
use Rattle.sil_cfg_items.specs.Parts.{item_inst}
use Rattle.holder_model_laws.specs.HolderLaws.inner.Cells.Cells.{ChangesAt, IsPlace, cell_at}
use Rattle.holder_model_laws.proofs.HolderLaws.Cells.Writes.{emptied_changes, emptied_empty, filled_changes, filled_full}
use Rattle.holder_model_values.specs.RunValues.inner.Fits.{fits}
use Rattle.holder_model_values.specs.RunValues.Memory.{Memory}
use Rattle.holder_model_values.specs.RunValues.Places.{OnStack, Place, emptied, filled}
use Rattle.holder_model_values.specs.RunValues.Values.{Value}
use Rattle.sil_ast.specs.declared.function.Function.{Function}
use Rattle.sil_ast.specs.declared.inst.Inst.{Inst}
use Rattle.sil_ast.specs.declared.module.Module.{Module}
use Rattle.sil_ast.specs.declared.place.PointId.{PointId}
use Rattle.sil_ast.specs.declared.place.ValueId.{ValueId}
use Rattle.sil_cfg.specs.declared.item.Item.{Item}
use Rattle.sil_cfg.specs.declared.item.Item.TheVariants as item
use Rattle.sil_types_declarations.specs.TypeDefinitions.Declarations.{declarations_of}
use Rattle.sil_verifier_frames.specs.inner.Placed.FramePlaces.{HoldsPlaces, IsFree, Names}
use Rattle.sil_verifier_frames.specs.inner.Placed.Roots.{IsThere, argument, is_full_on, is_shared, slot}
use Rattle.sil_verifier_frames.specs.inner.Placed.TrailLaws.{TrailLaws}
use Rattle.sil_verifier_frames.proofs.Placed.Asking.{IsAsked, asked_by}
use Rattle.sil_verifier_frames.proofs.Placed.Contents.{FoundAt, OperatesAt, found_at, on_stack, others_untouched, stays_full}
use Rattle.sil_verifier_frames.proofs.Placed.GoingOn.{IsDoneAt as DoneAt, OthersStay, cells_behind, goes_on, stays_below, stays_quiet}
use Rattle.sil_verifier_frames.proofs.Placed.Keeping.{Keeps, keeps_roots, slot_no_part, there_still}
use Rattle.sil_verifier_frames.proofs.Placed.Operating.{Fills, Looks, leaves_empty, leaves_full, leaves_same}
use Rattle.sil_verifier_frames.proofs.Placed.Reading.{IsWithin, as_the_root, operand_within}

module _ (laws : TrailLaws) (m : Module) (number : ℕ) (f : Function) (body : IsAcceptedBody m number f) (frame next : Frame) (rest : List (Task Frame))
    (memory : Memory) (point : PointId) (x : Inst) where
  abbrev i : Item
  i = item.Inst point

  -- the frame stands before the item, whose instruction does one thing, at one operand's place
  pub record StandsAt (v : ValueId) (o : Operation) (l : Location) (p : Place) : Type 0 where
    pub holds : HoldsPlaces m memory f frame rest
    pub none_lent : frame.lent ≡ []
    pub goes : GoesOn frame.trail
    pub inst : item_inst f i ≡ Some x
    pub trail : IsRunTrail f (i ∷ frame.trail)
    pub does : OperatesAt laws m number f body x v o
    pub location : location_of (sources_of (declarations_of m) f) v ≡ Some l
    pub row : has_operation (sources_of (declarations_of m) f) l o ≡ true
    pub there : IsThere (declarations_of m) f frame.trail l.root
    pub made : IsAsMade f frame.trail l.root v
    pub names : Names frame.entries v p

  module _ (v : ValueId) (o : Operation) (l : Location) (p : Place) (s : StandsAt v o l p) where
    pub within : IsWithin m memory f frame rest v l p
    within = operand_within m memory f frame rest s.holds v l s.location s.there s.made p s.names

    done : IsDoneAt (declarations_of m) f point (operated v o) l
    done = record {
      inst = x;
      is = s.inst;
      among = subst (λ os. Contains os (operated v o)) (sym s.does.operations) (Contains-push [] (operated v o));
      at = s.location;
    }

    pub found : FoundAt laws m number f body frame.trail i l o
    found = found_at laws m number f body frame.trail point s.trail (operated v o) l done (on_stack laws m number f body frame.trail l.root s.there)

    pub as_full : IsPlace found.on memory p
    as_full = as_the_root m memory f frame rest s.holds s.none_lent v l p within found.on found.was

    -- a place that counts as a part in the run is one of a root that is full, where the location isn't a part
    part_by_location : p.is_part ≡ true → is_part l ≡ true
    part_by_location part = ⊎_elim (λ whole. absurd (by s.there whole.0 whole.1)) (λ inner. inner.0) within.how
      where
        by : IsThere (declarations_of m) f frame.trail l.root → is_part l ≡ false → p ≡ within.whole → ⊥
        by (slot t is there) e same =
            absurd (true≢false (sym (ap (λ q. q.is_part) (sym same) ∙ part)
            ∙ slot_no_part frame.entries (slots_on (declarations_of m) f frame.trail) frame.slots l.root s.holds.slots there within.whole within.names))
        by (argument row t is) e same = absurd (true≢false (sym (ap (λ q. q.is_part) (sym same) ∙ part) ∙ s.holds.handed l.root row t is within.whole within.names))

    pub asked_so : ((row : AddressRow) → o ≡ Handed row → ⊥) → IsAsked (asked_before p.is_part o) found.on
    asked_so own = asked_by (is_trivial_at (sources_of (declarations_of m) f) l.root) (is_part l) o found.on p.is_part own found.found part_by_location

    -- ---- behind it

    -- the other roots stay
    others : next.trail ≡ i ∷ frame.trail → (after : Memory) → ((w : ValueId) → IsThere (declarations_of m) f next.trail w → IsThere (declarations_of m) f frame.trail w)
        → OthersStay m f frame next rest memory after l.root
    others trail after old w there other =
        let on = on_stack laws m number f body frame.trail w (old w there) in
        ap (is_full_on (declarations_of m) f w) trail
        ∙ stays_full laws m number f body frame.trail i s.trail w on
        (ap (touches (sources_of (declarations_of m) f) (whole_cell w)) s.inst
        ∙ others_untouched laws m number f body x v o l s.does s.location w other on)
        (laws.made_once m number f body frame.trail i s.trail s.goes w (old w there))

    module _ (trail : next.trail ≡ i ∷ frame.trail) where
      -- one thing is done at the place, and the root is left so
      done_at : (after : Memory) (on : Bool) → Keeps laws m number f body frame next rest memory after → ChangesAt p memory after → IsPlace on after p
          → is_shared (declarations_of m) f l.root ≡ false → unwrap_or (mark_at (declarations_of m) f l o).turns found.on ≡ on
          → (is_part l ≡ false) ⊎ (found.on ≡ on) → DoneAt m f frame next rest memory after l.root p on
      done_at after on keeps changes is alone left how = record {
        there = there_still laws m number f body next.trail frame.trail (sym keeps.same_slots) l.root s.there;
        alone = alone;
        whole = within.whole;
        names = within.names;
        home = within.home;
        within = within.within;
        changes = changes;
        behind = is;
        left = ap (is_full_on (declarations_of m) f l.root) trail ∙ found.left ∙ ap Some left;
        how = ⊎_elim
            (λ (not_so : is_part l ≡ false). ⊎_elim (λ whole. inl whole.1) (λ inner. absurd (true≢false (sym inner.0 ∙ not_so))) within.how)
            (λ (same : found.on ≡ on). inr (found.was ∙ ap Some same))
            how;
      }

      pub record Behind (after : Memory) : Type 0 where
        pub holds : HoldsPlaces m after f next rest
        pub below : (n : ℕ) → IsFree m rest n ⊎ (cell_at after OnStack n ≡ cell_at memory OnStack n)

      behind_at : (after : Memory) (on : Bool) → Keeps laws m number f body frame next rest memory after → DoneAt m f frame next rest memory after l.root p on
          → length memory.stack ≤ length after.stack → Behind after
      behind_at after on keeps at more =
          let roots = keeps_roots laws m number f body frame next rest memory after s.holds keeps in
          record {
            holds = goes_on m f frame next rest memory after s.holds more roots
                (cells_behind m f frame next rest memory after s.holds s.none_lent roots l.root p on at (others trail after roots.roots));
            below = stays_below m f frame next rest memory after s.holds roots l.root p on at;
          }

      -- the place is filled
      pub fills : Fills o → (y : Value) → fits p.shape y ≡ true → Keeps laws m number f body frame next rest memory (filled memory p y) → Behind (filled memory p y)
      fills how y fit keeps =
          let changes = filled_changes memory p y within.inside fit in
          let full = leaves_full (sources_of (declarations_of m) f) (source_at (sources_of (declarations_of m) f) l.root)
          (on_stack laws m number f body frame.trail l.root s.there) (is_trivial_at (sources_of (declarations_of m) f) l.root) (is_part l) found.on o how s.row found.found in
          let size = changes.sizes OnStack in
          behind_at (filled memory p y) true keeps
          (done_at (filled memory p y) true keeps changes (filled_full memory p y within.inside fit) full.alone full.full full.how) (omega (arith, size))

      -- or emptied
      pub empties : o ≡ Take → Keeps laws m number f body frame next rest memory (emptied memory p) → Behind (emptied memory p)
      empties e keeps =
          let changes = emptied_changes memory p within.inside in
          let empty = leaves_empty (sources_of (declarations_of m) f) (source_at (sources_of (declarations_of m) f) l.root)
          (on_stack laws m number f body frame.trail l.root s.there) (is_trivial_at (sources_of (declarations_of m) f) l.root) (is_part l) found.on
          (ap (has_operation (sources_of (declarations_of m) f) l) (sym e) ∙ s.row) in
          let size = changes.sizes OnStack in
          behind_at (emptied memory p) false keeps
          (done_at (emptied memory p) false keeps changes (emptied_empty memory p within.inside) empty.alone
          (ap (λ o. unwrap_or (mark_at (declarations_of m) f l o).turns found.on) e ∙ empty.empty) (inl empty.whole)) (omega (arith, size))

      -- or looked at
      pub looks : Looks o → Keeps laws m number f body frame next rest memory memory → HoldsPlaces m memory f next rest
      looks how keeps =
          let roots = keeps_roots laws m number f body frame next rest memory memory s.holds keeps in
          goes_on m f frame next rest memory memory s.holds (omega arith) roots
          (stays_quiet m f frame next rest memory memory s.holds s.none_lent roots (λ n. refl) (λ w there. at w there (w.0 == l.root.0) refl))
        where
          at : (w : ValueId) → IsThere (declarations_of m) f next.trail w → (b : Bool) → (w.0 == l.root.0) ≡ b
              → is_full_on (declarations_of m) f w next.trail ≡ is_full_on (declarations_of m) f w frame.trail
          at w there true e =
              let same : w ≡ l.root = ap (λ (k : ℕ). record { 0 = k }) (eqb-true w.0 l.root.0 e) in
              ap (λ u. is_full_on (declarations_of m) f u next.trail) same
              ∙ ap (is_full_on (declarations_of m) f l.root) trail
              ∙ found.left
              ∙ ap Some (leaves_same (is_trivial_at (sources_of (declarations_of m) f) l.root) (is_part l) found.on o how)
              ∙ sym found.was
              ∙ ap (λ u. is_full_on (declarations_of m) f u frame.trail) (sym same)
          at w there false e =
              others trail memory (there_still laws m number f body frame.trail next.trail keeps.same_slots) w there e
