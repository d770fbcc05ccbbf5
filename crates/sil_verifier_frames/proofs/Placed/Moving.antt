-- The state behind an item: its frame and those below hold what they should.
use Rattle.std.proofs.Common.{◌≡◌, ◌⊎◌, ⊎_elim, inr, ◌≤◌, ◌==◌, ℕ, List, [], ◌∷◌, length, Bool, true, false, Option, Some, Contains, refl, sym, ap, ◌∙◌, subst, slice_get, arith, eqb-true}
use Rattle.std.proofs.lemmas.Bool.{false_from_ne_true}
use Rattle.std.proofs.lemmas.List.Elements.{Contains-push}
use Rattle.holder_model_laws.specs.holder_model.Calling.{places_given}
use Rattle.holder_model_laws.specs.holder_model.Data.{Datum}
use Rattle.holder_model_laws.specs.holder_model.Frames.{Entry, Frame}
use Rattle.holder_model_laws.specs.holder_model.States.{Runs, Task, dropping}
use Rattle.holder_model_laws.specs.memory_rules_accesses.Operations.{operated}
use Rattle.holder_model_laws.specs.memory_rules_accesses.Rows.{has_operation}
use Rattle.holder_model_laws.specs.memory_rules_accesses.Sources.{source_at, sources_of}
use Rattle.holder_model_laws.specs.memory_rules_accesses.declared.access.Operation.{Operation}
use Rattle.holder_model_laws.specs.memory_rules_accesses.declared.access.Operation.TheVariants.{Take}
use Rattle.holder_model_laws.specs.memory_rules_accesses.declared.source.Source.TheVariants as source
use Rattle.holder_model_laws.specs.memory_rules_parts.Parts.{whole_cell}
use Rattle.sil_verifier_trails.specs.AcceptedPlaces.inner.Cells.{touches}
use Rattle.sil_verifier_trails.specs.AcceptedPlaces.inner.Stacks.{keeps_slots, slots_on}
use Rattle.sil_verifier_trails.specs.sil_verifier_values.inner.Known.{IsAcceptedBody}
use Rattle.sil_cfg_items.specs.Parts.{inst_at, item_inst}
use Rattle.holder_model_laws.specs.HolderLaws.inner.Cells.Cells.{cell_at}
use Rattle.holder_model_laws.proofs.HolderLaws.Cells.Writes.{emptied_changes, filled_changes}
use Rattle.holder_model_laws.specs.ownership_kinds_chains.declared.ownership_chains.facts.Facts.{Facts}
use Rattle.holder_model_values.specs.RunValues.inner.Fits.{fits}
use Rattle.holder_model_values.specs.RunValues.Memory.{Memory}
use Rattle.holder_model_values.specs.RunValues.Places.{OnStack, Place, emptied, filled}
use Rattle.holder_model_values.specs.RunValues.Values.{Value}
use Rattle.sil_ast.specs.declared.function.Function.{Function}
use Rattle.sil_ast.specs.declared.inst.Inst.{Inst}
use Rattle.sil_ast.specs.declared.module.Module.{Module}
use Rattle.sil_ast.specs.declared.place.ObjectId.{ObjectId}
use Rattle.sil_ast.specs.declared.place.PointId.{PointId}
use Rattle.sil_ast.specs.declared.place.ValueId.{ValueId}
use Rattle.sil_cfg.specs.declared.item.Item.{Item}
use Rattle.sil_cfg.specs.declared.item.Item.TheVariants as item
use Rattle.sil_types_declarations.specs.TypeDefinitions.Declarations.{declarations_of}
use Rattle.sil_verifier_frames.specs.inner.Placed.FramePlaces.{HoldsPlaces, IsFree, Names}
use Rattle.sil_verifier_frames.specs.inner.Placed.PlaceStates.{BelowPlaced, TasksPlaced}
use Rattle.sil_verifier_frames.specs.inner.Placed.Roots.{IsThere, argument, slot}
use Rattle.sil_verifier_frames.specs.inner.Placed.TrailLaws.{TrailLaws}
use Rattle.sil_verifier_frames.proofs.Placed.AtPlaces.{StandsAt, empties, fills, looks, within}
use Rattle.sil_verifier_frames.proofs.Placed.Contents.{OperatesAt, others_untouched, on_stack}
use Rattle.sil_verifier_frames.proofs.Placed.Locating.{IsInObject, IsOperandAt}
use Rattle.sil_verifier_frames.proofs.Placed.Operating.{Fills, Looks}
use Rattle.sil_verifier_frames.proofs.Placed.PartsNamed.{AreNewNamed}
use Rattle.sil_verifier_frames.proofs.Placed.Quiet.{PutsResults, behind, keeps, quiet_behind, root_kept}
use Rattle.sil_verifier_frames.proofs.Placed.RowsHeld.{stack_stays}
use Rattle.sil_verifier_frames.proofs.Placed.Taking.{dropping_placed, given_kept, goes_placed}

module _ (laws : TrailLaws) (m : Module) (number : ℕ) (f : Function) (body : IsAcceptedBody m number f) (facts : ValueId → Option Facts)
    (before after : Memory) (frame : Frame) (rest : List (Task Frame)) (i : Item) (results : List Datum) (entries : List Entry) where
  abbrev Puts : Type 0
  Puts = PutsResults laws m number f body facts before after frame rest i results entries

  abbrev next : Frame
  next = behind laws m number f body facts before after frame rest i results entries

  -- what the frame holds behind the item, with the slots that it had
  pub record HoldsBehind : Type 0 where
    pub holds : HoldsPlaces m after f next rest
    pub more : length before.stack ≤ length after.stack
    pub below : (n : ℕ) → IsFree m rest n ⊎ (cell_at after OnStack n ≡ cell_at before OnStack n)

  -- the tasks behind it
  pub moved : Puts → HoldsBehind → slice_get m.functions frame.function.0 ≡ Some f → BelowPlaced m before frame rest → (slots : _) → slots ≡ frame.slots → (os : List ObjectId)
      → TasksPlaced m after (dropping os (Runs (record frame { trail = i ∷ frame.trail; entries = entries; slots = slots; lent = [] }) ∷ rest))
  moved s h is below slots same os =
      dropping_placed m after os _
      (subst (λ ps. TasksPlaced m after (Runs (record frame { trail = i ∷ frame.trail; entries = entries; slots = ps; lent = [] }) ∷ rest)) (sym same)
      (goes_placed m before after f frame next rest is refl refl given h.holds h.more h.below below))
    where
      given : places_given f entries ≡ places_given f frame.entries
      given = given_kept laws m number f body frame.entries entries (λ v row trivial src.
          root_kept laws m number f body facts before after frame rest i results entries s v (argument row trivial src))

  -- it touches no place on the stack
  pub still_behind : Puts → frame.lent ≡ [] → after.stack ≡ before.stack → slots_on (declarations_of m) f (i ∷ frame.trail) ≡ slots_on (declarations_of m) f frame.trail
      → ((v : ValueId) → IsThere (declarations_of m) f frame.trail v → touches (sources_of (declarations_of m) f) (whole_cell v) (item_inst f i) ≡ false)
      → AreNewNamed (sources_of (declarations_of m) f) f frame.trail i frame.entries entries → HoldsBehind
  still_behind s none same slots untouched news =
      let size = ap length same in
      record {
        holds = quiet_behind laws m number f body facts before after frame rest i results entries s none (omega (arith, size)) (λ n. ap (λ cells. slice_get cells n) same) slots untouched news;
        more = omega (arith, size);
        below = λ n. inr (ap (λ cells. slice_get cells n) same);
      }

module _ (laws : TrailLaws) (m : Module) (number : ℕ) (f : Function) (body : IsAcceptedBody m number f) (facts : ValueId → Option Facts)
    (memory : Memory) (frame : Frame) (rest : List (Task Frame)) (point : PointId) (x : Inst) (results : List Datum) (entries : List Entry)
    (v : ValueId) (o : Operation) (p : Place) where
  -- the instruction does one thing at the place of one operand
  pub record DoesAt (after : Memory) : Type 0 where
    pub puts : PutsResults laws m number f body facts memory after frame rest (item.Inst point) results entries
    pub none_lent : frame.lent ≡ []
    pub inst : inst_at f point ≡ Some x
    pub does : OperatesAt laws m number f body x v o
    pub operand : IsOperandAt laws m number f body frame.trail v
    pub slots : keeps_slots (item_inst f (item.Inst point)) ≡ true
    pub names : Names frame.entries v p
    pub news : AreNewNamed (sources_of (declarations_of m) f) f frame.trail (item.Inst point) frame.entries entries
    -- the address of a field names a place in an object
    pub inner : IsInObject laws m number f body operand.location.root → p.home ≡ OnStack → ⊥

  module _ (after : Memory) (s : DoesAt after) where
    abbrev At : Type 0
    At = HoldsBehind laws m number f body facts memory after frame rest (item.Inst point) results entries

    abbrev after_frame : Frame
    after_frame = behind laws m number f body facts memory after frame rest (item.Inst point) results entries

    same_slots : slots_on (declarations_of m) f (item.Inst point ∷ frame.trail) ≡ slots_on (declarations_of m) f frame.trail
    same_slots = laws.slots_kept m number f body frame.trail (item.Inst point) s.slots

    row_there : has_operation (sources_of (declarations_of m) f) s.operand.location o ≡ true
    row_there = laws.rows (declarations_of m) f (laws.accepted m number f body) (item.Inst point) x s.inst (operated v o)
        (subst (λ os. Contains os (operated v o)) (sym s.does.operations) (Contains-push [] (operated v o))) s.operand.location s.operand.is

    -- at a root that is there
    pub stands : IsThere (declarations_of m) f frame.trail s.operand.location.root
        → StandsAt laws m number f body frame after_frame rest memory point x v o s.operand.location p
    stands there = record {
      holds = s.puts.holds;
      none_lent = s.none_lent;
      goes = s.puts.goes;
      inst = s.inst;
      trail = s.puts.trail;
      does = s.does;
      location = s.operand.is;
      row = row_there;
      there = there;
      made = s.operand.made;
      names = s.names;
    }

    -- in an object: no root on the stack is touched
    pub in_object : IsInObject laws m number f body s.operand.location.root → after.stack ≡ memory.stack → At
    in_object field same = still_behind laws m number f body facts memory after frame rest (item.Inst point) results entries s.puts s.none_lent same same_slots
        (λ w there. ap (touches (sources_of (declarations_of m) f) (whole_cell w)) s.inst
        ∙ others_untouched laws m number f body x v o s.operand.location s.does s.operand.is w (other w there) (on_stack laws m number f body frame.trail w there)) s.news
      where
        same_source : (w : ValueId) → (w.0 == s.operand.location.root.0) ≡ true → source_at (sources_of (declarations_of m) f) w ≡ source.Field field.of field.place field.trivial
        same_source w e = ap (λ (k : ℕ). source_at (sources_of (declarations_of m) f) (record { 0 = k })) (eqb-true w.0 s.operand.location.root.0 e) ∙ field.source

        not_slot : (t : Bool) → source.Slot t ≡ source.Field field.of field.place field.trivial → ⊥
        not_slot t e = cc

        not_argument : (r : _) (t : Bool) → source.Argument r t ≡ source.Field field.of field.place field.trivial → ⊥
        not_argument r t e = cc

        other : (w : ValueId) → IsThere (declarations_of m) f frame.trail w → (w.0 == s.operand.location.root.0) ≡ false
        other w (slot t is there) = false_from_ne_true _ (λ e. not_slot t (sym is ∙ same_source w e))
        other w (argument r t is) = false_from_ne_true _ (λ e. not_argument r t (sym is ∙ same_source w e))

  -- it looks at the place
  pub looks_behind : DoesAt memory → Looks o → HoldsBehind laws m number f body facts memory memory frame rest (item.Inst point) results entries
  looks_behind s how = ⊎_elim
      (λ (there : IsThere (declarations_of m) f frame.trail s.operand.location.root).
      record {
        holds = looks laws m number f body frame (after_frame memory s) rest memory point x v o s.operand.location p (stands memory s there) refl how
            (keeps laws m number f body facts memory memory frame rest (item.Inst point) results entries s.puts (same_slots memory s) s.news);
        more = omega arith;
        below = λ n. inr refl;
      })
      (λ (field : IsInObject laws m number f body s.operand.location.root). in_object memory s field refl)
      s.operand.root

  -- it fills the place
  pub fills_behind : (y : Value) → DoesAt (filled memory p y) → Fills o → fits p.shape y ≡ true
      → HoldsBehind laws m number f body facts memory (filled memory p y) frame rest (item.Inst point) results entries
  fills_behind y s how fit = ⊎_elim
      (λ (there : IsThere (declarations_of m) f frame.trail s.operand.location.root).
      let at = stands (filled memory p y) s there in
      let b = fills laws m number f body frame (after_frame (filled memory p y) s) rest memory point x v o s.operand.location p at refl how y fit
      (keeps laws m number f body facts memory (filled memory p y) frame rest (item.Inst point) results entries s.puts (same_slots (filled memory p y) s) s.news) in
      let size = (filled_changes memory p y (within laws m number f body frame (after_frame (filled memory p y) s) rest memory point x v o s.operand.location p at).inside fit).sizes OnStack in
      record { holds = b.holds; more = omega (arith, size); below = b.below })
      (λ (field : IsInObject laws m number f body s.operand.location.root).
      in_object (filled memory p y) s field (stack_stays memory p.home _ (s.inner field)))
      s.operand.root

  -- it takes what is there
  pub empties_behind : DoesAt (emptied memory p) → o ≡ Take → HoldsBehind laws m number f body facts memory (emptied memory p) frame rest (item.Inst point) results entries
  empties_behind s how = ⊎_elim
      (λ (there : IsThere (declarations_of m) f frame.trail s.operand.location.root).
      let at = stands (emptied memory p) s there in
      let b = empties laws m number f body frame (after_frame (emptied memory p) s) rest memory point x v o s.operand.location p at refl how
      (keeps laws m number f body facts memory (emptied memory p) frame rest (item.Inst point) results entries s.puts (same_slots (emptied memory p) s) s.news) in
      let size = (emptied_changes memory p (within laws m number f body frame (after_frame (emptied memory p) s) rest memory point x v o s.operand.location p at).inside).sizes OnStack in
      record { holds = b.holds; more = omega (arith, size); below = b.below })
      (λ (field : IsInObject laws m number f body s.operand.location.root).
      in_object (emptied memory p) s field (stack_stays memory p.home _ (s.inner field)))
      s.operand.root
