-- What a row changes that does something at a place: whose place that is, and how memory is behind it. Where the place is as it asks, no fault comes.
use Rattle.std.proofs.Common.{◌≡◌, ◌⊎◌, inl, inr, List, [], ◌∷◌, Bool, true, false, cond, Option, Some, None, refl, sym, subst}
use Rattle.std.specs.Prelude.{option_and_then}
use Rattle.std.proofs.lemmas.Bool.{false≢true}
use Rattle.holder_model_laws.specs.holder_model.Data.{AddressOf, Datum, FunctionOf, ValueOf, as_place}
use Rattle.holder_model_laws.specs.holder_model.Effects.{Change, ClosesSlot, Effect, Faults, Makes, SameSlots, Traps, Unfit, gives_value, only, unchanged, with_some}
use Rattle.holder_model_laws.specs.holder_model.Faults.{HolderFault, NotLastSlot}
use Rattle.holder_model_laws.specs.holder_model.MemoryEffects as effects
use Rattle.holder_model_laws.specs.holder_model.MemoryEffects.{all_live, asked_before, at_places, copies_with, fault_of}
use Rattle.holder_model_laws.specs.holder_model.MemoryEffects.{holds, loaded_name, named_again, operation_done, references_at, two}
use Rattle.holder_model_laws.specs.holder_model.MemoryEffects.{value_and_place, where_held}
use Rattle.holder_model_laws.specs.holder_model.ModuleShapes.{ModuleShapes}
use Rattle.holder_model_laws.specs.holder_model.declared.row_effect.RowEffect.{RowEffect}
use Rattle.holder_model_laws.specs.holder_model.declared.row_effect.RowEffect.TheVariants as row
use Rattle.holder_model_laws.specs.holder_model.declared.trap.Trap.TheVariants as trap
use Rattle.holder_model_laws.specs.memory_rules_accesses.declared.access.Operation.{Operation}
use Rattle.argument_conventions.specs.declared.row.Content.{Content}
use Rattle.argument_conventions.specs.declared.row.Content.TheVariants as content
use Rattle.holder_model_values.specs.RunValues.Memory.{Memory}
use Rattle.holder_model_values.specs.RunValues.Places.{Place, filled, is_there_at, removed, value_at}
use Rattle.holder_model_values.specs.RunValues.Shapes.{Shape, storage_in}
use Rattle.holder_model_values.specs.RunValues.Values as value
use Rattle.holder_model_values.specs.RunValues.Values.{Value, references_of}
use Rattle.sil_ast.specs.declared.decl.Storage.{Storage}
use Rattle.sil_ast.specs.declared.decl.Storage.TheVariants as storage
use Rattle.sil_ast.specs.declared.inst.Inst.{Inst}
use Rattle.sil_types_declarations.specs.TypeDefinitions.Declarations.{Declarations}
use Rattle.sil_verifier_frames.proofs.Placed.RowChanges.{MakesSo, makes_either, makes_some}
use Rattle.sil_verifier_frames.proofs.Placed.RowsHeld.{IsMet}

-- the row reads or takes what is at its one operand's place
abbrev pub is_reading : RowEffect → Bool
is_reading row.LoadsValue = true
is_reading row.LoadsName = true
is_reading row.DestroysPlace = true
is_reading _ = false

-- or it writes at its second operand's
abbrev pub is_at_place : RowEffect → Bool
is_at_place row.LoadsValue = true
is_at_place row.LoadsName = true
is_at_place row.DestroysPlace = true
is_at_place row.StoresValue = true
is_at_place _ = false

-- memory is so behind it, and the slots stay
abbrev pub Leaves : Memory → Change → Type 0
Leaves after c = (c.slots ≡ SameSlots) × (c.memory ≡ after)

-- the slot at the place is gone
abbrev pub LeavesOut : Memory → Place → Change → Type 0
LeavesOut m p c = (c.slots ≡ ClosesSlot p) × (c.memory ≡ removed m p) × (c.dropped ≡ [])

module _ (d : Declarations) (shapes : ModuleShapes) (values : List Shape) (m : Memory) (x : Inst) where
  abbrev pub after_it : Operation → Place → Memory
  after_it o p = effects.after d shapes values m x o p

  -- what a row does at a place, by its operands: it leaves memory so
  pub data IsDoneBy (r : RowEffect) (xs : List Datum) (o : Operation) (p : Place) : Memory → Type 0 where
    reads : is_reading r ≡ true → xs ≡ AddressOf p ∷ [] → IsDoneBy r xs o p (after_it o p)
    writes : (y : Value) → r ≡ row.StoresValue → xs ≡ ValueOf y ∷ AddressOf p ∷ [] → IsDoneBy r xs o p (filled m p y)

  pub record PlaceRow (r : RowEffect) (xs : List Datum) (e : Effect HolderFault) : Type 0 where
    pub operation : Operation
    pub place : Place
    pub done : operation_done d shapes values m x ≡ Some operation
    pub after : Memory
    pub how : IsDoneBy r xs operation place after
    pub makes : MakesSo (Unit {0}) (Leaves after) e
    pub met : IsMet d shapes values m x place operation → MakesSo ⊥ (Leaves after) e

  pub record RemovalRow (xs : List Datum) (e : Effect HolderFault) : Type 0 where
    pub place : Place
    pub given : xs ≡ AddressOf place ∷ []
    pub makes : MakesSo (Unit {0}) (LeavesOut m place) e
    pub met : ((g : Effect HolderFault) → where_held d shapes values m x place (Some content.Empty) g ≡ g) → MakesSo ⊥ (LeavesOut m place) e

  -- ---- a place is looked at first

  held_so : (P : Change → Type 0) (p : Place) (c : Option Content) (e : Effect HolderFault) → MakesSo (Unit {0}) P e → MakesSo (Unit {0}) P (where_held d shapes values m x p c e)
  held_so P p None e h = makes_either (Unit {0}) P (is_there_at m p) e (Faults NotLastSlot) h tt
  held_so P p (Some c) e h =
      makes_either (Unit {0}) P (is_there_at m p) (cond (holds m c p) e (Faults (fault_of c))) (Faults NotLastSlot)
      (makes_either (Unit {0}) P (holds m c p) e (Faults (fault_of c)) h tt) tt

  -- ---- what comes then

  abbrev load_of : Operation → Place → Value → Effect HolderFault
  load_of o p y = Makes (record (unchanged (after_it o p)) { results = ValueOf y ∷ []; retained = cond (copies_with x.qualifier) (references_of y) [] })

  module _ (W : Type 0) where
    loads_so : (o : Operation) (p : Place) → MakesSo W (Leaves (after_it o p)) (with_some (load_of o p) (value_at m p))
    loads_so o p = makes_some W (Leaves (after_it o p)) (load_of o p) (value_at m p) (λ y. (refl, refl))

    name_so : (how : Option Storage) (after : Memory) (y : Value) → MakesSo W (Leaves after) (loaded_name how m after y)
    name_so None after y = tt
    name_so (Some storage.Strong) after y = tt
    name_so (Some storage.Weak) after y =
        makes_either W (Leaves after) (all_live m (references_of y)) (named_again after y) (gives_value after (value.Case 0)) (refl, refl) (refl, refl)
    name_so (Some storage.Unowned) after y =
        makes_either W (Leaves after) (all_live m (references_of y)) (named_again after y) (Traps trap.Unowned) (refl, refl) tt

    names_so : (o : Operation) (p : Place) → MakesSo W (Leaves (after_it o p)) (with_some (loaded_name (storage_in p.shape) m (after_it o p)) (value_at m p))
    names_so o p = makes_some W (Leaves (after_it o p)) (loaded_name (storage_in p.shape) m (after_it o p)) (value_at m p) (name_so (storage_in p.shape) (after_it o p))

    destroys_so : (o : Operation) (p : Place) → MakesSo W (Leaves (after_it o p)) (Makes (record (unchanged (after_it o p)) { dropped = references_at m p }))
    destroys_so o p = (refl, refl)

    stores_so : (p : Place) (y : Value) → MakesSo W (Leaves (filled m p y)) (Makes (record (unchanged (filled m p y)) { dropped = references_at m p }))
    stores_so p y = (refl, refl)

  -- ---- at the one operand's place

  abbrev One : RowEffect → List Datum → Effect HolderFault → Type 0
  One r xs e = (e ≡ Unfit) ⊎ PlaceRow r xs e

  module _ (r : RowEffect) (reading : is_reading r ≡ true) (act : Operation → Place → Effect HolderFault)
      (so : (W : Type 0) (o : Operation) (p : Place) → MakesSo W (Leaves (after_it o p)) (act o p)) where
    abbrev go : Operation → Place → Effect HolderFault
    go o p = where_held d shapes values m x p (asked_before p.is_part o) (act o p)

    one_row : (w : Option Operation) → operation_done d shapes values m x ≡ w → (xs : List Datum)
        → One r xs (with_some (λ o. with_some (go o) (option_and_then as_place (only xs))) w)
    one_row None e xs = inl refl
    one_row (Some o) e [] = inl refl
    one_row (Some o) e (ValueOf y ∷ []) = inl refl
    one_row (Some o) e (FunctionOf g ∷ []) = inl refl
    one_row (Some o) e (y ∷ z ∷ ys) = inl refl
    one_row (Some o) e (AddressOf p ∷ []) = inr (record {
      operation = o;
      place = p;
      done = e;
      after = after_it o p;
      how = IsDoneBy.reads reading refl;
      makes = held_so (Leaves (after_it o p)) p (asked_before p.is_part o) (act o p) (so (Unit {0}) o p);
      met = λ met. subst (MakesSo ⊥ (Leaves (after_it o p))) (sym (met (act o p))) (so ⊥ o p);
    })

  -- ---- at the second one's

  store_row : (w : Option Operation) → operation_done d shapes values m x ≡ w → (xs : List Datum)
      → One row.StoresValue xs (with_some (λ o. two (value_and_place (effects.stores_by d shapes values m x o)) xs) w)
  store_row None e xs = inl refl
  store_row (Some o) e [] = inl refl
  store_row (Some o) e (y ∷ []) = inl refl
  store_row (Some o) e (AddressOf q ∷ z ∷ []) = inl refl
  store_row (Some o) e (FunctionOf g ∷ z ∷ []) = inl refl
  store_row (Some o) e (ValueOf y ∷ ValueOf z ∷ []) = inl refl
  store_row (Some o) e (ValueOf y ∷ FunctionOf g ∷ []) = inl refl
  store_row (Some o) e (y ∷ z ∷ w ∷ ws) = inl refl
  store_row (Some o) e (ValueOf y ∷ AddressOf p ∷ []) = inr (record {
    operation = o;
    place = p;
    done = e;
    after = filled m p y;
    how = IsDoneBy.writes y refl refl;
    makes = held_so (Leaves (filled m p y)) p (asked_before p.is_part o) (Makes (record (unchanged (filled m p y)) { dropped = references_at m p })) (stores_so (Unit {0}) p y);
    met = λ met. subst (MakesSo ⊥ (Leaves (filled m p y))) (sym (met (Makes (record (unchanged (filled m p y)) { dropped = references_at m p })))) (stores_so ⊥ p y);
  })

  pub place_row : (r : RowEffect) → is_at_place r ≡ true → (xs : List Datum) → One r xs (at_places d shapes values m x r xs)
  place_row row.LoadsValue is xs =
      one_row row.LoadsValue refl (λ o p. with_some (load_of o p) (value_at m p)) loads_so (operation_done d shapes values m x) refl xs
  place_row row.LoadsName is xs =
      one_row row.LoadsName refl (λ o p. with_some (loaded_name (storage_in p.shape) m (after_it o p)) (value_at m p)) names_so (operation_done d shapes values m x) refl xs
  place_row row.DestroysPlace is xs =
      one_row row.DestroysPlace refl (λ o p. Makes (record (unchanged (after_it o p)) { dropped = references_at m p })) destroys_so (operation_done d shapes values m x) refl xs
  place_row row.StoresValue is xs = store_row (operation_done d shapes values m x) refl xs
  place_row _ is xs = absurd (false≢true is)

  -- ---- a slot is removed

  pub removal_row : (xs : List Datum) → (at_places d shapes values m x row.RemovesSlot xs ≡ Unfit) ⊎ RemovalRow xs (at_places d shapes values m x row.RemovesSlot xs)
  removal_row [] = inl refl
  removal_row (ValueOf y ∷ []) = inl refl
  removal_row (FunctionOf g ∷ []) = inl refl
  removal_row (y ∷ z ∷ ys) = inl refl
  removal_row (AddressOf p ∷ []) = inr (record {
    place = p;
    given = refl;
    makes = held_so (LeavesOut m p) p (Some content.Empty) out (refl, refl, refl);
    met = λ met. subst (MakesSo ⊥ (LeavesOut m p)) (sym (met out)) (refl, refl, refl);
  })
    where
      out : Effect HolderFault
      out = Makes (record (unchanged (removed m p)) { slots = ClosesSlot p })
