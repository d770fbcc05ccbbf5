-- What an instruction's effect leads to: behind each change the tasks hold their places, a slot that goes is the newest, and no place meets a fault.
use Rattle.std.proofs.Common.{◌≡◌, ◌⊎◌, ⊎_elim, inl, inr, ℕ, List, [], ◌∷◌, Bool, true, false, Option, Some, None, Err, refl, sym, ap, ◌∙◌, subst}
use Rattle.std.proofs.lemmas.Bool.{false≢true, true≢false}
use Rattle.holder_model_laws.specs.holder_model.Data.{AddressOf, Datum, as_function}
use Rattle.holder_model_laws.specs.holder_model.Effects as effects
use Rattle.holder_model_laws.specs.holder_model.Effects.{Calls, Change, Effect, Faults, Makes, OpensSlot, Unfit, effect_by, effect_of}
use Rattle.holder_model_laws.specs.holder_model.Faults.{HolderFault}
use Rattle.holder_model_laws.specs.holder_model.Frames.{Entry, Frame}
use Rattle.holder_model_laws.specs.holder_model.MemoryEffects.{at_places, effect}
use Rattle.holder_model_laws.specs.holder_model.ModuleShapes.{ModuleShapes}
use Rattle.holder_model_laws.specs.holder_model.StepParts.{slots_behind}
use Rattle.holder_model_laws.specs.holder_model.States.{Task}
use Rattle.holder_model_laws.specs.holder_model.declared.row_effect.RowEffect.{RowEffect}
use Rattle.holder_model_laws.specs.holder_model.declared.row_effect.RowEffect.TheVariants as row
use Rattle.holder_model_laws.specs.memory_rules_accesses.Operations.{access_kind_of}
use Rattle.holder_model_laws.specs.memory_rules_accesses.declared.access.Operation.{Operation}
use Rattle.sil_verifier_trails.specs.sil_verifier_values.inner.Known.{IsAcceptedBody}
use Rattle.holder_model_laws.specs.ownership_kinds_chains.declared.ownership_chains.facts.Facts.{Facts}
use Rattle.holder_model_values.specs.RunValues.Memory.{Memory}
use Rattle.holder_model_values.specs.RunValues.Places.{Place}
use Rattle.holder_model_values.specs.RunValues.Shapes.{Shape}
use Rattle.sil_ast.specs.declared.function.Function.{Function}
use Rattle.sil_ast.specs.declared.inst.Inst.{Inst}
use Rattle.sil_ast.specs.declared.module.Module.{Module}
use Rattle.sil_ast.specs.declared.place.FuncId.{FuncId}
use Rattle.sil_ast.specs.declared.place.PointId.{PointId}
use Rattle.sil_ast.specs.declared.place.ValueId.{ValueId}
use Rattle.sil_cfg.specs.declared.item.Item.TheVariants as item
use Rattle.sil_types_declarations.specs.TypeDefinitions.Declarations.{Declarations, declarations_of}
use Rattle.sil_verifier_frames.specs.inner.Placed.Items.{IsFoundSo}
use Rattle.sil_verifier_frames.specs.inner.Placed.Roots.{IsThere}
use Rattle.sil_verifier_frames.specs.inner.Placed.TrailLaws.{TrailLaws}
use Rattle.sil_verifier_frames.proofs.Placed.Asking.{never_handed}
use Rattle.sil_verifier_frames.proofs.Placed.EffectsAt.{Leaves, LeavesOut, PlaceRow, RemovalRow, is_at_place, place_row, removal_row}
use Rattle.sil_verifier_frames.proofs.Placed.Locating.{IsInObject, IsOperandAt, operand_at}
use Rattle.sil_verifier_frames.proofs.Placed.Opening.{slot_of, with_slot}
use Rattle.sil_verifier_frames.proofs.Placed.PlaceRows.{DoesOne, place_kept, quiet_kept}
use Rattle.sil_verifier_frames.proofs.Placed.PlacesFound.{met_where_found, there_found}
use Rattle.sil_verifier_frames.proofs.Placed.RowChanges.{MakesSo, StaysStill, is_still, still_change, still_slots}
use Rattle.sil_verifier_frames.proofs.Placed.RowsAt.{is_quiet, no_operation, not_removed}
use Rattle.sil_verifier_frames.proofs.Placed.RowsPlaced.{ArePlaced, GoesWith, StandsBefore, does_one, operand_among, place_placed, still_placed}
use Rattle.sil_verifier_frames.proofs.Placed.SlotRows.{removal_last, removal_met, removal_placed, slot_placed}

-- of the rows that do nothing at places only calls do what may touch one
still_quiet : (r : RowEffect) → is_still r ≡ true → (r ≡ row.CallsFunction) ⊎ (is_quiet r ≡ true)
still_quiet row.CallsFunction e = inl refl
still_quiet row.MakesSlot e = absurd (false≢true e)
still_quiet row.RemovesSlot e = absurd (false≢true e)
still_quiet row.LoadsValue e = absurd (false≢true e)
still_quiet row.LoadsName e = absurd (false≢true e)
still_quiet row.StoresValue e = absurd (false≢true e)
still_quiet row.DestroysPlace e = absurd (false≢true e)
still_quiet _ e = inr refl

-- the other rows
pub data IsOther : RowEffect → Type 0 where
  opens : IsOther row.MakesSlot
  closes : IsOther row.RemovesSlot
  at_place : (r : RowEffect) → is_at_place r ≡ true → IsOther r

other_row : (r : RowEffect) → is_still r ≡ false → IsOther r
other_row row.MakesSlot e = IsOther.opens
other_row row.RemovesSlot e = IsOther.closes
other_row row.LoadsValue e = IsOther.at_place row.LoadsValue refl
other_row row.LoadsName e = IsOther.at_place row.LoadsName refl
other_row row.StoresValue e = IsOther.at_place row.StoresValue refl
other_row row.DestroysPlace e = IsOther.at_place row.DestroysPlace refl
other_row _ e = absurd (true≢false e)

module _ (d : Declarations) (shapes : ModuleShapes) (values : List Shape) (memory : Memory) (x : Inst) (xs : List Datum) where
  abbrev by_row : RowEffect → Effect HolderFault
  by_row r = effect_by d shapes values memory x (at_places d shapes values memory x) r xs

  abbrev here : Effect HolderFault
  here = effect d shapes values memory x xs

  -- ---- by its row

  abbrev AtPlaces : Effect HolderFault → Type 0
  AtPlaces e = (e ≡ Unfit) ⊎ PlaceRow d shapes values memory x (effect_of x.op) xs e

  abbrev Removing : Effect HolderFault → Type 0
  Removing e = (e ≡ Unfit) ⊎ RemovalRow d shapes values memory x xs e

  abbrev new_shape : Shape
  new_shape = effects.result_shape d shapes values memory x

  abbrev Opened : Change → Type 0
  Opened c = (c.results ≡ AddressOf (slot_of memory new_shape) ∷ []) × (c.slots ≡ OpensSlot (slot_of memory new_shape)) × (c.memory ≡ with_slot memory new_shape) × (c.dropped ≡ [])

  still_so : is_still (effect_of x.op) ≡ true → MakesSo ⊥ (StaysStill memory) here
  still_so still =
      still_change d shapes values memory x (at_places d shapes values memory x) (effect_of x.op) still xs

  opened_so : row.MakesSlot ≡ effect_of x.op → MakesSo ⊥ Opened here
  opened_so is = subst (MakesSo ⊥ Opened) (ap by_row is) (refl, refl, refl, refl)

  removal_so : row.RemovesSlot ≡ effect_of x.op → Removing here
  removal_so is = subst Removing (ap by_row is) (removal_row d shapes values memory x xs)

  at_it : (r : RowEffect) → is_at_place r ≡ true → at_places d shapes values memory x r xs ≡ by_row r
  at_it row.LoadsValue e = refl
  at_it row.LoadsName e = refl
  at_it row.StoresValue e = refl
  at_it row.DestroysPlace e = refl
  at_it _ e = absurd (false≢true e)

  place_so : is_at_place (effect_of x.op) ≡ true → AtPlaces here
  place_so is = subst AtPlaces (at_it (effect_of x.op) is) (place_row d shapes values memory x (effect_of x.op) is xs)

  module _ (laws : TrailLaws) (m : Module) (number : ℕ) (f : Function) (body : IsAcceptedBody m number f) (facts : ValueId → Option Facts)
      (frame : Frame) (rest : List (Task Frame)) (point : PointId) (s : StandsBefore laws m number f body facts memory frame rest point x xs) where
    abbrev Placed : Change → List Place → List Entry → Type 0
    Placed c slots entries = ArePlaced laws m number f body facts memory frame rest point x xs c slots entries

    abbrev Going : Change → List Place → List Entry → Type 0
    Going c slots entries = GoesWith laws m number f body facts memory frame rest point x xs c slots entries

    -- ---- a change

    pub change_placed : (c : Change) → here ≡ Makes c → (slots : List Place) (entries : List Entry) → Going c slots entries → Placed c slots entries
    change_placed c e slots entries g = at (is_still (effect_of x.op)) refl
      where
        still : StaysStill memory c → (effect_of x.op ≡ row.CallsFunction) ⊎ (is_quiet (effect_of x.op) ≡ true) → is_still (effect_of x.op) ≡ true → Placed c slots entries
        still same (inl call) is = absurd (never_makes xs (sym (ap by_row call) ∙ e))
          where
            never_makes : (ys : List Datum) → effects.calls d shapes values memory x {X = HolderFault} ys ≡ Makes c → ⊥
            never_makes [] h = cc
            never_makes (y ∷ ys) h = with_function (as_function y) h
              where
                with_function : (o : Option FuncId) → effects.with_some {X = HolderFault} (λ g. Calls g ys) o ≡ Makes c → ⊥
                with_function None h = cc
                with_function (Some g) h = cc
        still same (inr quiet) is =
            still_placed laws m number f body facts memory frame rest point x xs s c slots entries g (no_operation x quiet)
            (not_removed x (quiet_kept (effect_of x.op) quiet)) (still_slots x.op is) same

        by : (r : RowEffect) → r ≡ effect_of x.op → IsOther r → Placed c slots entries
        by _ is IsOther.opens =
            let new : Opened c = subst (MakesSo ⊥ Opened) e (opened_so is) in
            slot_placed laws m number f body facts memory frame rest point x xs s c slots entries g (sym is) new_shape new.0 new.1 new.2 new.3
        by _ is IsOther.closes = ⊎_elim
            (λ (unfit : here ≡ Unfit). let two : Unfit ≡ Makes c = sym unfit ∙ e in absurd (cc))
            (λ (r : RemovalRow d shapes values memory x xs here).
            removal_placed laws m number f body facts memory frame rest point x xs s (sym is) r.place r.given c slots entries g
            (subst (MakesSo (Unit {0}) (LeavesOut memory r.place)) e r.makes))
            (removal_so is)
        by _ is (IsOther.at_place r known) =
            let is_at : is_at_place (effect_of x.op) ≡ true = ap is_at_place (sym is) ∙ known in
            ⊎_elim
            (λ (unfit : here ≡ Unfit). let two : Unfit ≡ Makes c = sym unfit ∙ e in absurd (cc))
            (λ (r : PlaceRow d shapes values memory x (effect_of x.op) xs here).
            place_placed laws m number f body facts memory frame rest point x xs s c slots entries g d shapes values is_at r.operation r.place r.done r.after r.how
            (subst (MakesSo (Unit {0}) (Leaves r.after)) e r.makes))
            (place_so is_at)

        at : (b : Bool) → is_still (effect_of x.op) ≡ b → Placed c slots entries
        at true is = still (subst (MakesSo ⊥ (StaysStill memory)) e (still_so is)) (still_quiet (effect_of x.op) is) is
        at false other = by (effect_of x.op) refl (other_row (effect_of x.op) other)

    -- a slot that goes is the newest one
    pub slot_right : (c : Change) → here ≡ Makes c → (y : HolderFault) → slots_behind c.slots frame.slots ≡ Err y → ⊥
    slot_right c e y wrong = at (is_still (effect_of x.op)) refl
      where
        by_change : (k : effects.SlotChange) → c.slots ≡ k → slots_behind k frame.slots ≡ Err y
        by_change k same = sym (ap (λ z. slots_behind z frame.slots) same) ∙ wrong

        by : (r : RowEffect) → r ≡ effect_of x.op → IsOther r → ⊥
        by _ is IsOther.opens =
            let new : Opened c = subst (MakesSo ⊥ Opened) e (opened_so is) in
            let never = by_change (OpensSlot (slot_of memory new_shape)) new.1 in
            cc
        by _ is IsOther.closes = ⊎_elim
            (λ (unfit : here ≡ Unfit). let two : Unfit ≡ Makes c = sym unfit ∙ e in cc)
            (λ (r : RemovalRow d shapes values memory x xs here).
            removal_last laws m number f body facts memory frame rest point x xs s (sym is) r.place r.given c
            (subst (MakesSo (Unit {0}) (LeavesOut memory r.place)) e r.makes).0 y wrong)
            (removal_so is)
        by _ is (IsOther.at_place r known) = ⊎_elim
            (λ (unfit : here ≡ Unfit). let two : Unfit ≡ Makes c = sym unfit ∙ e in cc)
            (λ (r : PlaceRow d shapes values memory x (effect_of x.op) xs here).
            let never = by_change effects.SameSlots (subst (MakesSo (Unit {0}) (Leaves r.after)) e r.makes).0 in cc)
            (place_so (ap is_at_place (sym is) ∙ known))

        at : (b : Bool) → is_still (effect_of x.op) ≡ b → ⊥
        at true is =
            let never = by_change effects.SameSlots (subst (MakesSo ⊥ (StaysStill memory)) e (still_so is)).0 in cc
        at false other = by (effect_of x.op) refl (other_row (effect_of x.op) other)

    -- ---- a fault

    -- fields at which the instruction does something are found as it asks
    abbrev pub FieldsFound : Type 0
    FieldsFound = (o : Operation) (p : Place) (one : DoesOne x frame.entries o p) (operand : IsOperandAt laws m number f body frame.trail one.taken.value)
        → IsInObject laws m number f body operand.location.root → IsFoundSo memory p o

    -- so there is none
    pub never_faults : FieldsFound → (y : HolderFault) → here ≡ Faults y → ⊥
    never_faults fields y e = at (is_still (effect_of x.op)) refl
      where
        found : is_at_place (effect_of x.op) ≡ true → (r : PlaceRow d shapes values memory x (effect_of x.op) xs here) → IsFoundSo memory r.place r.operation
        found is r = ⊎_elim
            (λ (there : IsThere (declarations_of m) f frame.trail operand.location.root).
            there_found laws m number f body memory frame rest point x one.taken.value r.operation r.place (record {
              holds = s.holds;
              none_lent = s.none_lent;
              goes = s.goes;
              inst = s.inst;
              trail = s.trail;
              operand = operand;
              does = record { operations = one.operations; kept = not_removed x (place_kept (effect_of x.op) is) };
              names = one.names;
            }) (never_handed (access_kind_of x.op) x.qualifier r.operation r.done) there)
            (λ (field : IsInObject laws m number f body operand.location.root). fields r.operation r.place one operand field)
            operand.root
          where
            one : DoesOne x frame.entries r.operation r.place
            one = does_one laws m number f body facts memory frame rest point x xs s d shapes values r.operation r.place r.done r.after r.how

            operand : IsOperandAt laws m number f body frame.trail one.taken.value
            operand = operand_at laws m number f body frame.trail (item.Inst point) s.trail one.taken
                (operand_among laws m number f body facts memory frame rest point x xs s r.operation r.place one) (s.address one.taken.value r.place one.names)

        by : (r : RowEffect) → r ≡ effect_of x.op → IsOther r → ⊥
        by _ is IsOther.opens = subst (MakesSo ⊥ Opened) e (opened_so is)
        by _ is IsOther.closes = ⊎_elim
            (λ (unfit : here ≡ Unfit). let two : Unfit ≡ Faults y = sym unfit ∙ e in cc)
            (λ (r : RemovalRow d shapes values memory x xs here).
            subst (MakesSo ⊥ (LeavesOut memory r.place)) e
            (r.met (removal_met laws m number f body facts memory frame rest point x xs s (sym is) r.place r.given d shapes values)))
            (removal_so is)
        by _ is (IsOther.at_place r known) =
            let is_at : is_at_place (effect_of x.op) ≡ true = ap is_at_place (sym is) ∙ known in
            ⊎_elim
            (λ (unfit : here ≡ Unfit). let two : Unfit ≡ Faults y = sym unfit ∙ e in cc)
            (λ (r : PlaceRow d shapes values memory x (effect_of x.op) xs here).
            subst (MakesSo ⊥ (Leaves r.after)) e (r.met (met_where_found d shapes values memory x r.place r.operation (found is_at r))))
            (place_so is_at)

        at : (b : Bool) → is_still (effect_of x.op) ≡ b → ⊥
        at true is = subst (MakesSo ⊥ (StaysStill memory)) e (still_so is)
        at false other = by (effect_of x.op) refl (other_row (effect_of x.op) other)
