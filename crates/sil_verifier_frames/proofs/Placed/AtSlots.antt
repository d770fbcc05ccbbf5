-- A slot is allocated, or the newest one is deallocated.
use Rattle.std.proofs.Common.{◌≡◌, ◌⊎◌, ⊎_elim, ◌==◌, ◌&&◌, ◌≤◌, ℕ, List, [], ◌∷◌, length, Bool, true, false, cond, not, Some, None, Ok, Err, refl, sym, ap, ◌∙◌, subst, arith, eq-eqb, eqb-true}
use Rattle.std.specs.List.{list_any}
use Rattle.std.proofs.lemmas.Bool.{and_from, and_right, false≢true, or_cases, or_from, or_left, or_right, true≢false}
use Rattle.holder_model_laws.specs.holder_model.Effects.{ClosesSlot, Effect, Faults}
use Rattle.holder_model_laws.specs.holder_model.Faults.{HolderFault, NotLastSlot}
use Rattle.holder_model_laws.specs.holder_model.Frames.{Frame, entry_at}
use Rattle.holder_model_laws.specs.holder_model.MemoryEffects.{fault_of, holds, where_held}
use Rattle.holder_model_laws.specs.holder_model.ModuleShapes.{ModuleShapes}
use Rattle.holder_model_laws.specs.holder_model.Standing as standing
use Rattle.holder_model_laws.specs.holder_model.StepParts as parts
use Rattle.holder_model_laws.specs.holder_model.States.{Task}
use Rattle.holder_model_laws.specs.memory_rules_accesses.Operations.{access_kind_of, deallocates, operations_of}
use Rattle.holder_model_laws.specs.memory_rules_accesses.Sources.{is_slot, is_slot_source, source_at, sources_of}
use Rattle.holder_model_laws.specs.memory_rules_accesses.declared.columns.AccessKind.TheVariants as access
use Rattle.holder_model_laws.specs.memory_rules_accesses.declared.source.Source.TheVariants as source
use Rattle.holder_model_laws.specs.memory_rules_parts.Contents.{deallocation_mark}
use Rattle.holder_model_laws.specs.memory_rules_parts.Parts.{whole_cell}
use Rattle.holder_model_laws.specs.memory_rules_parts.Switches.{is_same}
use Rattle.holder_model_laws.specs.memory_rules_parts.declared.part.Part.TheVariants.{Contents}
use Rattle.sil_verifier_trails.specs.RunTrails.inner.RunTrails.{GoesOn, IsRunTrail}
use Rattle.sil_verifier_trails.specs.RunTrails.inner.Switched.{finds}
use Rattle.sil_verifier_trails.specs.AcceptedPlaces.inner.Cells.{IsFoundSo, operates_on, part_by, touches}
use Rattle.sil_verifier_trails.specs.AcceptedPlaces.inner.Stacks.{slots_on}
use Rattle.sil_verifier_trails.specs.sil_verifier_values.inner.Known.{IsAcceptedBody}
use Rattle.argument_conventions.specs.declared.row.AddressRow.{AddressRow}
use Rattle.argument_conventions.specs.declared.row.Content.TheVariants as content
use Rattle.sil_cfg_items.specs.Items.{item_defined}
use Rattle.sil_cfg_items.specs.Parts.{item_inst}
use Rattle.holder_model_laws.specs.HolderLaws.inner.Cells.Cells.{IsCell, IsInside, IsPlace, cell_at}
use Rattle.holder_model_laws.proofs.HolderLaws.Cells.PlaceCells.{there_test}
use Rattle.holder_model_laws.proofs.HolderLaws.Cells.Writes.{removed_changes}
use Rattle.holder_model_laws.specs.ownership_kinds_chains.OwnershipChains.Facts.{has}
use Rattle.holder_model_values.specs.RunValues.Memory.{Memory}
use Rattle.holder_model_values.specs.RunValues.Places.{OnStack, Place, is_empty_at, removed}
use Rattle.holder_model_values.specs.RunValues.Shapes.{Shape}
use Rattle.holder_model_values.specs.RunValues.Trivial.{is_trivial}
use Rattle.sil_ast.specs.declared.function.Function.{Function}
use Rattle.sil_ast.specs.declared.inst.Inst.{Inst}
use Rattle.sil_ast.specs.declared.module.Module.{Module}
use Rattle.sil_ast.specs.declared.place.ValueId.{ValueId}
use Rattle.sil_cfg.specs.declared.item.Item.{Item}
use Rattle.sil_types_declarations.specs.TypeDefinitions.Declarations.{Declarations, declarations_of}
use Rattle.sil_verifier_frames.specs.inner.Placed.FramePlaces.{AreSlotsOf, HoldsPlaces, IsFree, Names, is_lent}
use Rattle.sil_verifier_frames.specs.inner.Placed.Roots.{IsThere, argument, full_by, is_full_on, is_shared_source, slot}
use Rattle.sil_verifier_frames.specs.inner.Placed.TrailLaws.{TrailLaws}
use Rattle.sil_verifier_frames.proofs.Placed.Asking.{holds_so}
use Rattle.sil_verifier_frames.proofs.Placed.Contents.{nothing_touched, on_stack, stays_full}
use Rattle.sil_verifier_frames.proofs.Placed.GoingOn.{KeepsRoots, goes_on}
use Rattle.sil_verifier_frames.proofs.Placed.Keeping.{slot_no_part, slot_there, slots_still}
use Rattle.sil_verifier_frames.proofs.Placed.Naming.{names_once, other_way}
use Rattle.sil_verifier_frames.proofs.Placed.Opening.{Closes, closed_cells, closes_below, opens, slot_of, with_slot}
use Rattle.sil_verifier_frames.proofs.Placed.PartsNamed.{ArePartsNamed}
use Rattle.sil_verifier_frames.proofs.Placed.RowsAt.{Removes}

-- one of others, or itself
in_others : (s : ValueId) (vs : List ValueId) (v : ValueId) → has (s ∷ vs) v.0 ≡ true → (v.0 == s.0) ≡ false → has vs v.0 ≡ true
in_others s vs v h other = ⊎_elim
    (λ (here : (s.0 == v.0) ≡ true). absurd (true≢false (sym here ∙ other_way v.0 s.0 other)))
    (λ (later : has vs v.0 ≡ true). later)
    (or_cases (s.0 == v.0) (has vs v.0) h)

module _ (laws : TrailLaws) (m : Module) (number : ℕ) (f : Function) (body : IsAcceptedBody m number f) (frame next : Frame) (rest : List (Task Frame))
    (memory : Memory) (i : Item) (x : Inst) where
  abbrev slots_of : List Item → List ValueId
  slots_of t = slots_on (declarations_of m) f t

  -- the frame stands before the item
  pub record StandsHere : Type 0 where
    pub holds : HoldsPlaces m memory f frame rest
    pub none_lent : frame.lent ≡ []
    pub goes : GoesOn frame.trail
    pub inst : item_inst f i ≡ Some x
    pub trail : IsRunTrail f (i ∷ frame.trail)

  -- ---- a slot is allocated

  -- behind it the new slot's entry names the new cells, the others stay, and the slot is the newest
  pub record Allocates (s : ValueId) (shape : Shape) : Type 0 where
    pub kind : access_kind_of x.op ≡ access.AllocatesSlot
    pub defined : item_defined f i ≡ s ∷ []
    pub trivial : Bool
    pub source : source_at (sources_of (declarations_of m) f) s ≡ source.Slot trivial
    pub nothing : operations_of x ≡ []
    pub kept : deallocates x ≡ false
    pub trail : next.trail ≡ i ∷ frame.trail
    pub slots : next.slots ≡ slot_of memory shape ∷ frame.slots
    pub names : Names next.entries s (slot_of memory shape)
    pub entries : (v : ValueId) → IsThere (declarations_of m) f frame.trail v → entry_at next.entries v ≡ entry_at frame.entries v
    pub parts : ArePartsNamed (sources_of (declarations_of m) f) f next.trail next.entries

  pub allocates : StandsHere → ((n : ℕ) → length memory.stack ≤ n → IsFree m rest n) → (s : ValueId) (shape : Shape) → Allocates s shape
      → HoldsPlaces m (with_slot memory shape) f next rest
  allocates here free s shape a = opens m f frame next rest memory shape here.holds here.none_lent free s (record {
    trivial = a.trivial;
    source = a.source;
    names = a.names;
    empty = ap (is_full_on (declarations_of m) f s) a.trail
        ∙ ap (full_by (declarations_of m) f (i ∷ frame.trail)) part
        ∙ laws.new_empty m number f body frame.trail i here.trail (whole_cell s) a.trivial
        (laws.followed m number f body s (Contents (whole_cell s) a.trivial None) part (λ of k b is. not_field of k b (sym a.source ∙ is)))
        made;
    roots = was_there;
    entries = λ v there other. a.entries v (was_there v there other);
    stay = λ v there other.
        let old = was_there v there other in
        ap (is_full_on (declarations_of m) f v) a.trail
        ∙ stays_full laws m number f body frame.trail i here.trail v (on_stack laws m number f body frame.trail v old)
        (ap (touches (sources_of (declarations_of m) f) (whole_cell v)) here.inst ∙ nothing_touched laws m number f body x a.nothing a.kept (whole_cell v))
        (laws.made_once m number f body frame.trail i here.trail here.goes v old);
    parts = a.parts;
    slots = subst (λ ps. AreSlotsOf next.entries (slots_of next.trail) ps) (sym a.slots)
        (subst (λ vs. AreSlotsOf next.entries vs (slot_of memory shape ∷ frame.slots)) (sym (ap slots_of a.trail ∙ opened.0)) (
          a.names,
          refl,
          slots_still frame.entries next.entries (slots_of frame.trail) frame.slots
              (λ v there. a.entries v (slot_there laws m number f body frame.trail v there)) here.holds.slots,
        ));
  })
    where
      part : part_by (sources_of (declarations_of m) f) s (source_at (sources_of (declarations_of m) f) s) ≡ Some (Contents (whole_cell s) a.trivial None)
      part = ap (part_by (sources_of (declarations_of m) f) s) a.source

      not_field : (of : ValueId) (k : ℕ) (b : Bool) → source.Slot a.trivial ≡ source.Field of k b → ⊥
      not_field of k b e = cc

      made : has (item_defined f i) s.0 ≡ true
      made = ap (λ vs. has vs s.0) a.defined ∙ or_left (s.0 == s.0) false (eq-eqb s.0 s.0 refl)

      opened : (slots_of (i ∷ frame.trail) ≡ s ∷ slots_of frame.trail) × (has (slots_of frame.trail) s.0 ≡ false)
      opened = laws.slots_opened m number f body frame.trail i x s here.trail here.inst a.kind a.defined (ap is_slot_source a.source)

      was_there : (v : ValueId) → IsThere (declarations_of m) f next.trail v → (v.0 == s.0) ≡ false → IsThere (declarations_of m) f frame.trail v
      was_there v (slot trivial is there) other =
          slot trivial is (in_others s (slots_of frame.trail) v (sym (ap (λ vs. has vs v.0) (ap slots_of a.trail ∙ opened.0)) ∙ there) other)
      was_there v (argument row trivial is) other = argument row trivial is

  -- ---- the newest slot is deallocated

  pub record Deallocates (v : ValueId) (p : Place) : Type 0 where
    pub removes : Removes x v
    pub names : Names frame.entries v p
    pub trivial : Bool
    pub source : source_at (sources_of (declarations_of m) f) v ≡ source.Slot trivial

  module _ (here : StandsHere) (v : ValueId) (p : Place) (a : Deallocates v p) where
    closed : (slots_of frame.trail ≡ v ∷ slots_of (i ∷ frame.trail)) × (has (slots_of (i ∷ frame.trail)) v.0 ≡ false)
    closed = laws.slots_closed m number f body frame.trail i x v here.trail here.inst a.removes.deallocates_it a.removes.addresses

    pub is_there : IsThere (declarations_of m) f frame.trail v
    is_there = slot a.trivial a.source (ap (λ vs. has vs v.0) closed.0 ∙ or_left (v.0 == v.0) (has (slots_of (i ∷ frame.trail)) v.0) (eq-eqb v.0 v.0 refl))

    home : p.home ≡ OnStack
    home =
        let x = here.holds.named v is_there in
        ap (λ q. q.home) (names_once frame.entries v p x.place a.names x.names) ∙ x.home

    inside : IsInside memory p
    inside =
        let x = here.holds.named v is_there in
        subst (IsInside memory) (sym (names_once frame.entries v p x.place a.names x.names)) x.inside

    found : IsFoundSo (declarations_of m) f frame.trail i (Contents (whole_cell v) a.trivial None) (deallocation_mark a.trivial)
    found = laws.left_empty m number f body frame.trail i here.trail x v a.trivial here.inst a.removes.deallocates_it a.removes.addresses a.source

    as_full : IsPlace found.on memory p
    as_full n has = subst (λ g. IsCell found.on (cell_at memory g n)) (sym home)
        (here.holds.cells v is_there p a.names found.on
        (ap (full_by (declarations_of m) f frame.trail) (ap (part_by (sources_of (declarations_of m) f) v) a.source) ∙ found.was)
        n has (ap (λ ls. is_lent ls n) here.none_lent))

    -- it is empty, or of a trivial type
    pub holds_empty : (a.trivial ≡ true → is_trivial p.shape ≡ true) → holds memory content.Empty p ≡ true
    holds_empty shape = at a.trivial refl
      where
        at : (b : Bool) → a.trivial ≡ b → holds memory content.Empty p ≡ true
        at true e = or_left (is_trivial p.shape) (is_empty_at memory p) (shape e)
        at false e = holds_so memory p found.on as_full content.Empty (off found.on (sym (ap (λ b. finds (deallocation_mark b).needs found.on) e) ∙ found.found))
          where
            off : (on : Bool) → finds (Some false) on ≡ true → on ≡ false
            off true e = absurd (false≢true e)
            off false e = refl

    pub removes_it : (d : Declarations) (shapes : ModuleShapes) (values : List Shape) → (a.trivial ≡ true → is_trivial p.shape ≡ true) → (e : Effect HolderFault)
        → where_held d shapes values memory x p (Some content.Empty) e ≡ e
    removes_it d shapes values shape e =
        ap (λ b. cond b (cond (holds memory content.Empty p) e (Faults (fault_of content.Empty))) (Faults NotLastSlot)) (there_test memory p found.on as_full)
        ∙ ap (λ b. cond b e (Faults (fault_of content.Empty))) (holds_empty shape)

    -- it is the newest slot of the frame
    pub record IsNewest : Type 0 where
      pub older : List Place
      pub is : frame.slots ≡ p ∷ older
      pub slots : AreSlotsOf frame.entries (slots_of (i ∷ frame.trail)) older

    pub newest : IsNewest
    newest = at frame.slots refl (subst (λ vs. AreSlotsOf frame.entries vs frame.slots) closed.0 here.holds.slots)
      where
        at : (ps : List Place) → frame.slots ≡ ps → AreSlotsOf frame.entries (v ∷ slots_of (i ∷ frame.trail)) ps → IsNewest
        at [] e h = absurd h
        at (q ∷ older) e h = record {
          older = older;
          is = e ∙ ap (λ r. r ∷ older) (names_once frame.entries v q p h.0 a.names);
          slots = h.2;
        }

    pub slots_left : parts.slots_behind (ClosesSlot p) frame.slots ≡ Ok newest.older
    slots_left =
        ap (parts.slots_behind (ClosesSlot p)) newest.is
        ∙ ap (λ b. cond b (Ok newest.older) (Err NotLastSlot)) itself
      where
        itself : standing.is_slot p p ≡ true
        itself = and_from (standing.on_stack p.home) (not p.is_part && p.first == p.first) (ap standing.on_stack home)
            (and_from (not p.is_part) (p.first == p.first)
            (ap not (slot_no_part frame.entries (slots_of frame.trail) frame.slots v here.holds.slots (in_slots is_there) p a.names))
            (eq-eqb p.first p.first refl))
          where
            in_slots : IsThere (declarations_of m) f frame.trail v → has (slots_of frame.trail) v.0 ≡ true
            in_slots (slot trivial is there) = there
            in_slots (argument row trivial is) = absurd (not_both row trivial (sym a.source ∙ is))
              where
                not_both : (row : AddressRow) (b : Bool) → source.Slot a.trivial ≡ source.Argument row b → ⊥
                not_both row b e = cc

    -- behind it
    pub record IsBehind : Type 0 where
      pub trail : next.trail ≡ i ∷ frame.trail
      pub slots : next.slots ≡ newest.older
      pub entries : (w : ValueId) → IsThere (declarations_of m) f frame.trail w → entry_at next.entries w ≡ entry_at frame.entries w
      pub parts : ArePartsNamed (sources_of (declarations_of m) f) f next.trail next.entries

    module _ (b : IsBehind) where
      was_there : (w : ValueId) → IsThere (declarations_of m) f next.trail w → IsThere (declarations_of m) f frame.trail w
      was_there w (slot trivial is there) =
          slot trivial is (ap (λ vs. has vs w.0) closed.0 ∙ or_right (v.0 == w.0) (has (slots_of (i ∷ frame.trail)) w.0) (sym (ap (λ t. has (slots_of t) w.0) b.trail) ∙ there))
      was_there w (argument row trivial is) = argument row trivial is

      other : (w : ValueId) → IsThere (declarations_of m) f next.trail w → (w.0 == v.0) ≡ false
      other w there = at (w.0 == v.0) refl
        where
          gone : IsThere (declarations_of m) f next.trail v → ⊥
          gone (slot trivial is there) = true≢false (sym (sym (ap (λ t. has (slots_of t) v.0) b.trail) ∙ there) ∙ closed.1)
          gone (argument row trivial is) = not_both row trivial (sym a.source ∙ is)
            where
              not_both : (row : AddressRow) (b : Bool) → source.Slot a.trivial ≡ source.Argument row b → ⊥
              not_both row b e = cc

          at : (c : Bool) → (w.0 == v.0) ≡ c → c ≡ false
          at true e = absurd (gone (subst (IsThere (declarations_of m) f next.trail) (ap (λ (k : ℕ). record { 0 = k }) (eqb-true w.0 v.0 e)) there))
          at false e = refl

      keeps : KeepsRoots m f frame next rest memory (removed memory p)
      keeps = record {
        roots = was_there;
        entries = λ w there. b.entries w (was_there w there);
        parts = b.parts;
        slots = subst (λ ps. AreSlotsOf next.entries (slots_of next.trail) ps) (sym b.slots)
            (subst (λ t. AreSlotsOf next.entries (slots_of t) newest.older) (sym b.trail)
            (slots_still frame.entries next.entries (slots_of (i ∷ frame.trail)) newest.older
            (λ w there. b.entries w (was_there w (slot_there laws m number f body next.trail w (ap (λ t. has (slots_of t) w.0) b.trail ∙ there)))) newest.slots));
      }

      closes : Closes m f frame next rest memory (removed memory p) v p
      closes = record {
        there = is_there;
        alone = ap is_shared_source a.source;
        names = a.names;
        changes = removed_changes memory p inside;
        gone = other;
        stay = λ w there.
            let old = was_there w there in
            ap (is_full_on (declarations_of m) f w) b.trail
            ∙ stays_full laws m number f body frame.trail i here.trail w (on_stack laws m number f body frame.trail w old)
            (ap (touches (sources_of (declarations_of m) f) (whole_cell w)) here.inst ∙ untouched w (other w there))
            (laws.made_once m number f body frame.trail i here.trail here.goes w old);
      }
        where
          untouched : (w : ValueId) → (w.0 == v.0) ≡ false → touches (sources_of (declarations_of m) f) (whole_cell w) (Some x) ≡ false
          untouched w not_so = or_from (list_any (operates_on (sources_of (declarations_of m) f) (whole_cell w)) (operations_of x)) _
              (ap (list_any (operates_on (sources_of (declarations_of m) f) (whole_cell w))) a.removes.nothing)
              (and_right (deallocates x) _
              (ap (list_any (λ u. is_slot (sources_of (declarations_of m) f) u && is_same u w)) a.removes.addresses
              ∙ or_from (is_slot (sources_of (declarations_of m) f) v && is_same v w) false
              (and_right (is_slot (sources_of (declarations_of m) f) v) (is_same v w) (other_way w.0 v.0 not_so)) refl))

      pub removed_behind : HoldsPlaces m (removed memory p) f next rest
      removed_behind =
          let size = closes.changes.sizes OnStack in
          goes_on m f frame next rest memory (removed memory p) here.holds (omega (arith, size)) keeps
          (closed_cells m f frame next rest memory (removed memory p) here.holds here.none_lent keeps v p closes)

      pub removed_below : (n : ℕ) → IsFree m rest n ⊎ (cell_at (removed memory p) OnStack n ≡ cell_at memory OnStack n)
      removed_below n = closes_below m f frame next rest memory (removed memory p) here.holds v p closes n

      pub removed_more : length memory.stack ≤ length (removed memory p).stack
      removed_more = let size = closes.changes.sizes OnStack in omega (arith, size)
