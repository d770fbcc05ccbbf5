-- The tasks behind the allocation of a slot, and behind the deallocation of the newest one.
use Rattle.std.proofs.Common.{◌≡◌, ◌<◌, ◌==◌, eq-eqb, ℕ, List, [], ◌∷◌, length, Bool, true, false, Contains, Option, Some, None, Ok, Err, refl, sym, ap, ◌∙◌, subst}
use Rattle.std.specs.declared.result.Result.{Result}
use Rattle.std.proofs.lemmas.Bool.{false≢true, or_left}
use Rattle.std.proofs.lemmas.List.Elements.{Contains-push}
use Rattle.holder_model_laws.specs.holder_model.Calling.{places_given}
use Rattle.holder_model_laws.specs.holder_model.Data.{AddressOf, Datum}
use Rattle.holder_model_laws.specs.holder_model.Effects.{Change, ClosesSlot, Effect, OpensSlot, effect_of}
use Rattle.holder_model_laws.specs.holder_model.Faults.{HolderFault}
use Rattle.holder_model_laws.specs.holder_model.Frames.{Entry, Frame, entry_at, result_put, results_put, with_ok}
use Rattle.holder_model_laws.specs.holder_model.MemoryEffects.{where_held}
use Rattle.holder_model_laws.specs.holder_model.ModuleShapes.{ModuleShapes}
use Rattle.holder_model_laws.specs.holder_model.StepParts as parts
use Rattle.holder_model_laws.specs.holder_model.States.{Runs, Task, dropping}
use Rattle.holder_model_laws.specs.holder_model.declared.row_effect.RowEffect.TheVariants as row
use Rattle.holder_model_laws.specs.memory_rules_accesses.Operations.{access_kind_of}
use Rattle.holder_model_laws.specs.memory_rules_accesses.Sources.{is_slot_source, is_trivial_source, slot_source, source_at, source_by, sources_of}
use Rattle.holder_model_laws.specs.memory_rules_accesses.declared.access.Operation.TheVariants as operation
use Rattle.holder_model_laws.specs.memory_rules_accesses.declared.columns.AccessKind.TheVariants as access
use Rattle.holder_model_laws.specs.memory_rules_accesses.declared.source.Source.{Source}
use Rattle.holder_model_laws.specs.memory_rules_accesses.declared.source.Source.TheVariants as source
use Rattle.sil_verifier_trails.specs.AcceptedPlaces.inner.Located.{IsRoot}
use Rattle.sil_verifier_trails.proofs.AcceptedPlaces.Naming.{MakesAddress, address_made, makes_member, makes_root}
use Rattle.sil_verifier_trails.proofs.AcceptedPlaces.OperationsRight.{of_slots}
use Rattle.sil_verifier_trails.specs.sil_verifier_values.inner.Known.{IsAcceptedBody}
use Rattle.argument_conventions.specs.declared.row.Content.TheVariants as content
use Rattle.instruction_table.specs.declared.op.Op.{Op}
use Rattle.instruction_table.specs.declared.op.Op.TheVariants as op
use Rattle.sil_cfg_items.specs.Items.{item_defined}
use Rattle.sil_cfg_items.specs.Roles.{taken_by}
use Rattle.sil_cfg_items.specs.declared.taken.Taken.{Taken}
use Rattle.numbered_form.specs.Lists.{Each}
use Rattle.holder_model_laws.specs.ownership_kinds_chains.OwnershipChains.Facts.{has}
use Rattle.holder_model_laws.specs.ownership_kinds_chains.declared.ownership_chains.facts.Facts.{Facts}
use Rattle.holder_model_values.specs.RunValues.Memory.{Memory}
use Rattle.holder_model_values.specs.RunValues.Places.{Place, removed}
use Rattle.holder_model_values.specs.RunValues.Shapes.{Shape}
use Rattle.sil_ast.specs.declared.function.Function.{Function}
use Rattle.sil_ast.specs.declared.inst.Inst.{Inst}
use Rattle.sil_ast.specs.declared.module.Module.{Module}
use Rattle.sil_ast.specs.declared.place.PointId.{PointId}
use Rattle.sil_ast.specs.declared.place.ValueId.{ValueId}
use Rattle.sil_ast.specs.declared.type_name.TypeName.{TypeName}
use Rattle.sil_cfg.specs.declared.item.Item.TheVariants as item
use Rattle.sil_types_declarations.specs.TypeDefinitions.Declarations.{Declarations, declarations_of}
use Rattle.sil_verifier_frames.specs.inner.Placed.FramePlaces.{Names}
use Rattle.sil_verifier_frames.specs.inner.Placed.PartsNamed.{ArePartsNamed}
use Rattle.sil_verifier_frames.specs.inner.Placed.PlaceStates.{TasksPlaced}
use Rattle.sil_verifier_frames.specs.inner.Placed.Roots.{IsThere, argument}
use Rattle.sil_verifier_frames.specs.inner.Placed.TakenPlaces.{AreNamedBy}
use Rattle.sil_verifier_frames.specs.inner.Placed.TrailLaws.{TrailLaws}
use Rattle.sil_verifier_frames.proofs.Placed.AtSlots.{Allocates, Deallocates, IsBehind, IsNewest, StandsHere, allocates, is_there}
use Rattle.sil_verifier_frames.proofs.Placed.AtSlots.{newest, removed_behind, removed_below, removed_more, removes_it, slots_left}
use Rattle.sil_verifier_frames.proofs.Placed.EffectsAt.{LeavesOut}
use Rattle.sil_verifier_frames.proofs.Placed.EntriesKept.{ok_once, results_there}
use Rattle.sil_verifier_frames.proofs.Placed.Opening.{slot_of, with_slot}
use Rattle.sil_verifier_frames.proofs.Placed.PlaceRows.{named_first}
use Rattle.sil_verifier_frames.proofs.Placed.Quiet.{all_parts, root_kept}
use Rattle.sil_verifier_frames.proofs.Placed.RowsAt.{Removes, is_at_one, is_quiet, is_removal, no_operation, not_removed, removal}
use Rattle.sil_verifier_frames.proofs.Placed.RowsPlaced.{ArePlaced, GoesWith, StandsBefore, next_frame, puts}
use Rattle.sil_verifier_frames.proofs.Placed.SlotsMoved.{new_below, slot_allocated}
use Rattle.sil_verifier_frames.proofs.Placed.Taking.{given_kept, goes_placed}

-- ---- a result

-- what is put is the one result
one_defined : (facts : ValueId → Option Facts) (vs : List ValueId) (x : Datum) (entries behind : List Entry) → results_put facts vs (x ∷ []) entries ≡ Ok behind
    → (v : ValueId) × (vs ≡ v ∷ [])
one_defined facts [] x entries behind is = absurd (cc)
one_defined facts (v ∷ []) x entries behind is = (v, refl)
one_defined facts (v ∷ w ∷ vs) x entries behind is = absurd (at (result_put facts v x entries) is)
  where
    at : (r : Result (List Entry) HolderFault) → with_ok (results_put facts (w ∷ vs) []) r ≡ Ok behind → ⊥
    at (Ok es) h = cc
    at (Err y) h = cc

makes_slots : (o : Op) → effect_of o ≡ row.MakesSlot → access_kind_of o ≡ access.AllocatesSlot
makes_slots op.AllocStack e = refl
makes_slots _ e = absurd (cc)

-- a root or a member is something to memory
not_other : (s : Source) → s ≡ source.Other → IsRoot s → ⊥
not_other _ e IsRoot.slot = cc
not_other _ e IsRoot.argument = cc
not_other _ e IsRoot.field = cc

slot_there : (s : Source) → is_slot_source s ≡ true → (trivial : Bool) × (s ≡ source.Slot trivial)
slot_there (source.Slot trivial) e = (trivial, refl)
slot_there _ e = absurd (false≢true e)

module _ (laws : TrailLaws) (m : Module) (number : ℕ) (f : Function) (body : IsAcceptedBody m number f) (facts : ValueId → Option Facts)
    (memory : Memory) (frame : Frame) (rest : List (Task Frame)) (point : PointId) (x : Inst) (xs : List Datum)
    (s : StandsBefore laws m number f body facts memory frame rest point x xs) where
  here : (ahead : Frame) → StandsHere laws m number f body frame ahead rest memory (item.Inst point) x
  here ahead = record { holds = s.holds; none_lent = s.none_lent; goes = s.goes; inst = s.inst; trail = s.trail }

  -- the source of an address that the instruction makes as a new slot
  slot_is : effect_of x.op ≡ row.MakesSlot → (v : ValueId) → item_defined f (item.Inst point) ≡ v ∷ []
      → (trivial : Bool) × (source_at (sources_of (declarations_of m) f) v ≡ source.Slot trivial)
  slot_is is v one = at x.ty told
    where
      made : MakesAddress (declarations_of m) f (item.Inst point) v
      made = address_made m number f body (item.Inst point) v (subst (λ vs. Contains vs v) (sym one) (Contains-push [] v)) (s.made is v one)

      told : source_at (sources_of (declarations_of m) f) v ≡ slot_source (declarations_of m) x.ty
      told = laws.results_told m number f body point x s.inst v (ap (λ vs. has vs v.0) one ∙ itself)
          ∙ ap (λ k. source_by k (declarations_of m) x) (makes_slots x.op is)
        where
          itself : has (v ∷ []) v.0 ≡ true
          itself = or_left (v.0 == v.0) false (eq-eqb v.0 v.0 refl)

      at : (t : Option TypeName) → source_at (sources_of (declarations_of m) f) v ≡ slot_source (declarations_of m) t
          → (trivial : Bool) × (source_at (sources_of (declarations_of m) f) v ≡ source.Slot trivial)
      at (Some t) e = (_, e)
      at None e = absurd (by made)
        where
          by : MakesAddress (declarations_of m) f (item.Inst point) v → ⊥
          by (makes_root root) = not_other _ e root
          by (makes_member of k part among address) = let two : source.Part of k ≡ source.Other = sym part ∙ e in cc

  module _ (c : Change) (slots : List Place) (entries : List Entry) (g : GoesWith laws m number f body facts memory frame rest point x xs c slots entries) where
    abbrev next : Frame
    next = next_frame laws m number f body facts memory frame rest point x xs slots entries

    kept : (after : Memory) (v : ValueId) → IsThere (declarations_of m) f frame.trail v → entry_at entries v ≡ entry_at frame.entries v
    kept after v there = root_kept laws m number f body facts memory after frame rest (item.Inst point) c.results entries
        (puts laws m number f body facts memory frame rest point x xs s c slots entries g after) v there

    named : (after : Memory) → ArePartsNamed (sources_of (declarations_of m) f) f (item.Inst point ∷ frame.trail) entries
    named after = all_parts laws m number f body facts memory after frame rest (item.Inst point) c.results entries
        (puts laws m number f body facts memory frame rest point x xs s c slots entries g after) g.news

    given : (after : Memory) → places_given f entries ≡ places_given f frame.entries
    given after = given_kept laws m number f body frame.entries entries (λ v row trivial src. kept after v (argument row trivial src))

    -- ---- a new slot

    module _ (is : effect_of x.op ≡ row.MakesSlot) (shape : Shape) (results : c.results ≡ AddressOf (slot_of memory shape) ∷ [])
        (opens : c.slots ≡ OpensSlot (slot_of memory shape)) where
      put_one : results_put facts (item_defined f (item.Inst point)) (AddressOf (slot_of memory shape) ∷ []) frame.entries ≡ Ok entries
      put_one = subst (λ ys. results_put facts (item_defined f (item.Inst point)) ys frame.entries ≡ Ok entries) results g.put

      one : (v : ValueId) × (item_defined f (item.Inst point) ≡ v ∷ [])
      one = one_defined facts (item_defined f (item.Inst point)) (AddressOf (slot_of memory shape)) frame.entries entries put_one

      names_new : Names entries one.0 (slot_of memory shape)
      names_new = results_there facts (one.0 ∷ []) (AddressOf (slot_of memory shape) ∷ []) frame.entries entries
          (subst (λ vs. results_put facts vs (AddressOf (slot_of memory shape) ∷ []) frame.entries ≡ Ok entries) one.1 put_one) (refl, tt) 0 one.0
          (AddressOf (slot_of memory shape)) refl refl (subst (Each (λ (v : ValueId). v.0 < length frame.entries)) one.1 s.room).0

      new_slot : Allocates laws m number f body frame next rest memory (item.Inst point) x one.0 shape
      new_slot =
          let src = slot_is is one.0 one.1 in
          record {
            kind = makes_slots x.op is;
            defined = one.1;
            trivial = src.0;
            source = src.1;
            nothing = no_operation x (ap is_quiet is);
            kept = not_removed x (ap is_removal is);
            trail = refl;
            slots = sym (ok_once (slot_of memory shape ∷ frame.slots) slots (sym (ap (λ k. parts.slots_behind k frame.slots) opens) ∙ g.slots_are));
            names = names_new;
            entries = kept (with_slot memory shape);
            parts = named (with_slot memory shape);
          }

      pub slot_placed : c.memory ≡ with_slot memory shape → c.dropped ≡ [] → ArePlaced laws m number f body facts memory frame rest point x xs c slots entries
      slot_placed memory_is dropped =
          subst (λ k. TasksPlaced m k (dropping c.dropped (Runs next ∷ rest))) (sym memory_is)
          (subst (λ os. TasksPlaced m (with_slot memory shape) (dropping os (Runs next ∷ rest))) (sym dropped)
          (slot_allocated m memory f frame next rest s.is refl refl (given (with_slot memory shape)) s.below shape
          (allocates laws m number f body frame next rest memory (item.Inst point) x (here next)
          (new_below m memory f frame next rest s.is refl refl (given (with_slot memory shape)) s.below) one.0 shape new_slot)))

  -- ---- the newest slot goes

  module _ (is : effect_of x.op ≡ row.RemovesSlot) (p : Place) (operand : xs ≡ AddressOf p ∷ []) where
    first : (t : Taken) × (taken_by x ≡ t ∷ []) × Names frame.entries t.value p
    first = named_first x frame.entries p operation.Take (ap is_at_one is) (subst (AreNamedBy frame.entries (taken_by x)) operand s.named)

    removes : Removes x first.0.value
    removes = removal x first.0 (ap is_removal is) first.1

    old : (trivial : Bool) × (source_at (sources_of (declarations_of m) f) first.0.value ≡ source.Slot trivial)
    old = slot_there (source_at (sources_of (declarations_of m) f) first.0.value)
        (of_slots (declarations_of m) f (laws.accepted m number f body) (item.Inst point) x s.inst removes.deallocates_it first.0.value
        (subst (λ vs. Contains vs first.0.value) (sym removes.addresses) (Contains-push [] first.0.value)))

    abbrev goes_out : (ahead : Frame) → Deallocates laws m number f body frame ahead rest memory (item.Inst point) x first.0.value p
    goes_out ahead = record { removes = removes; names = first.2; trivial = old.0; source = old.1 }

    -- it is empty or of a trivial type, as it is asked to be
    pub removal_met : (d : Declarations) (shapes : ModuleShapes) (values : List Shape) (e : Effect HolderFault)
        → where_held d shapes values memory x p (Some content.Empty) e ≡ e
    removal_met d shapes values e =
        removes_it laws m number f body frame frame rest memory (item.Inst point) x (here frame) first.0.value p (goes_out frame) d shapes values
        (λ trivial. s.shaped frame.trail first.0.value
        (is_there laws m number f body frame frame rest memory (item.Inst point) x (here frame) first.0.value p (goes_out frame)) p first.2
        ∙ ap is_trivial_source old.1 ∙ trivial) e

    -- and it is the newest
    pub removal_last : (c : Change) → c.slots ≡ ClosesSlot p → (y : HolderFault) → parts.slots_behind c.slots frame.slots ≡ Err y → ⊥
    removal_last c closes y e =
        let ok = slots_left laws m number f body frame frame rest memory (item.Inst point) x (here frame) first.0.value p (goes_out frame) in
        let two = sym ok ∙ sym (ap (λ k. parts.slots_behind k frame.slots) closes) ∙ e in
        cc

    module _ (c : Change) (slots : List Place) (entries : List Entry) (g : GoesWith laws m number f body facts memory frame rest point x xs c slots entries) where
      abbrev later : Frame
      later = next_frame laws m number f body facts memory frame rest point x xs slots entries

      abbrev last : IsNewest laws m number f body frame later rest memory (item.Inst point) x (here later) first.0.value p (goes_out later)
      last = newest laws m number f body frame later rest memory (item.Inst point) x (here later) first.0.value p (goes_out later)

      is_behind : c.slots ≡ ClosesSlot p → IsBehind laws m number f body frame later rest memory (item.Inst point) x (here later) first.0.value p (goes_out later)
      is_behind closes = record {
        trail = refl;
        slots = sym (ok_once last.older slots
            (sym (slots_left laws m number f body frame later rest memory (item.Inst point) x (here later) first.0.value p (goes_out later))
            ∙ sym (ap (λ k. parts.slots_behind k frame.slots) closes) ∙ g.slots_are));
        entries = kept c slots entries g (removed memory p);
        parts = named c slots entries g (removed memory p);
      }

      pub removal_placed : LeavesOut memory p c → ArePlaced laws m number f body facts memory frame rest point x xs c slots entries
      removal_placed leaves =
          let b = is_behind leaves.0 in
          subst (λ k. TasksPlaced m k (dropping c.dropped (Runs later ∷ rest))) (sym leaves.1)
          (subst (λ os. TasksPlaced m (removed memory p) (dropping os (Runs later ∷ rest))) (sym leaves.2)
          (goes_placed m memory (removed memory p) f frame later rest s.is refl refl (given c slots entries g (removed memory p))
          (removed_behind laws m number f body frame later rest memory (item.Inst point) x (here later) first.0.value p (goes_out later) b)
          (removed_more laws m number f body frame later rest memory (item.Inst point) x (here later) first.0.value p (goes_out later) b)
          (removed_below laws m number f body frame later rest memory (item.Inst point) x (here later) first.0.value p (goes_out later) b) s.below))
