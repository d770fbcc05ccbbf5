-- The faults in which the parts of a step can end.
use Rattle.std.proofs.Common.{◌≡◌, List, [], ◌∷◌, set, refl, sym, subst, Bool, true, false, cond, Option, Some, None, Ok, Err}
use Rattle.std.specs.Prelude.{ℕ, map, option_and_then}
use Rattle.std.specs.declared.result.Result.{Result}
use Rattle.argument_conventions.specs.declared.row.Content.{Content}
use Rattle.argument_conventions.specs.declared.row.Content.TheVariants as content
use Rattle.sil_ast.specs.declared.decl.Storage.{Storage}
use Rattle.sil_ast.specs.declared.decl.Storage.TheVariants as storage
use Rattle.sil_ast.specs.declared.inst.Inst.{Inst}
use Rattle.sil_ast.specs.declared.member.Member.{Member}
use Rattle.sil_ast.specs.declared.place.ObjectId.{ObjectId}
use Rattle.sil_ast.specs.declared.place.ValueId.{ValueId}
use Rattle.instruction_table.specs.declared.entries.Role.{Role}
use Rattle.sil_cfg_items.specs.declared.taken.Taken.{Taken}
use Rattle.memory_rules_parts.specs.ownership_kinds_chains.OwnershipChains.Facts.{known_or}
use Rattle.memory_rules_parts.specs.ownership_kinds_chains.declared.ownership_chains.facts.Facts.{Facts}
use Rattle.sil_types_declarations.specs.TypeDefinitions.Declarations.{Declarations}
use Rattle.sil_types_declarations.specs.declared.type_definitions.kind.Kind.{Kind}
use Rattle.sil_types_declarations.specs.declared.type_definitions.kind.Kind.TheVariants as kind
use Rattle.holder_model.specs.holder_model_values.RunValues.Memory.{Memory}
use Rattle.holder_model.specs.holder_model_values.RunValues.Places as places
use Rattle.holder_model.specs.holder_model_values.RunValues.Places.{Place, is_there_at, value_at}
use Rattle.holder_model.specs.holder_model_values.RunValues.Shapes.{Shape, class_in, storage_in}
use Rattle.holder_model.specs.holder_model_values.RunValues.Values as value
use Rattle.holder_model.specs.holder_model_values.RunValues.Values.{Value, grouped, integer_of, members_of, object_of, references_of}
use Rattle.holder_model.specs.declared.row_effect.RowEffect.{RowEffect}
use Rattle.holder_model.specs.declared.row_effect.RowEffect.TheVariants as row
use Rattle.holder_model.specs.declared.trap.Trap.TheVariants as trap
use Rattle.memory_rules_parts.specs.memory_rules_accesses.declared.access.Operation.{Operation}
use Rattle.holder_model.specs.Builtins.{builtin_value, is_set}
use Rattle.holder_model.specs.Data.{AddressOf, Datum, FunctionOf, ValueOf, all_of, as_function, as_place, as_value, references_in, values_of}
use Rattle.holder_model.specs.Effects as effects
use Rattle.holder_model.specs.Effects.{Calls, ClosesSlot, Effect, Faults, Makes, OpensSlot, SameSlots, SlotChange, Traps, Unfit, effect_by, effect_of, gives, only, part_number, unchanged, with_some}
use Rattle.holder_model.specs.Faults.{ConsumesLent, EmptyPlace, FullPlace, HolderFault, NamesDead, NoEntry, NotLastSlot, OverwritesHeld, WrongShape}
use Rattle.holder_model.specs.Frames.{Entry, Gone, Held, Lent, Plain, and_more, any_dead, datum_in, datum_or_fault, ended_entry, ends, entry_at, is_consumed, is_held}
use Rattle.holder_model.specs.Frames.{has_any, made_entry, operand, operand_data, operands_of, put_entry, results_put, unless_dead, used_datum, with_ok, without_ended}
use Rattle.holder_model.specs.MemoryEffects as memory
use Rattle.holder_model.specs.MemoryEffects.{all_live, asked_before, effect, fault_of, holds, loaded_name, named_again, two, value_and_place}
use Rattle.holder_model.specs.ModuleShapes.{ModuleShapes, case_place}
use Rattle.holder_model.specs.Standing.{is_slot}
use Rattle.holder_model.specs.StepParts.{slots_behind}

-- ---- of results

abbrev pub ErrsBy : {A : Type 0} → (HolderFault → Type 0) → Result A HolderFault → Type 0
ErrsBy P (Ok x) = Unit {0}
ErrsBy P (Err x) = P x

pub errs_weaker : {A : Type 0} (P Q : HolderFault → Type 0) → ((x : HolderFault) → P x → Q x) → (r : Result A HolderFault) → ErrsBy P r → ErrsBy Q r
errs_weaker P Q h (Ok x) e = tt
errs_weaker P Q h (Err x) e = h x e

module _ (P : HolderFault → Type 0) where
  pub err_is : {A : Type 0} (r : Result A HolderFault) (x : HolderFault) → ErrsBy P r → r ≡ Err x → P x
  err_is r x h e = subst (ErrsBy P) e h

  pub errs_with : {A B : Type 0} (go : A → Result B HolderFault) (r : Result A HolderFault) → ((x : A) → ErrsBy P (go x)) → ErrsBy P r → ErrsBy P (with_ok go r)
  errs_with go (Ok x) h k = h x
  errs_with go (Err x) h k = k

  pub errs_either : {A : Type 0} (b : Bool) (r q : Result A HolderFault) → ErrsBy P r → ErrsBy P q → ErrsBy P (cond b r q)
  errs_either true r q h k = h
  errs_either false r q h k = k

  pub errs_more : (x : Datum) (r : Result (List Datum) HolderFault) → ErrsBy P r → ErrsBy P (and_more x r)
  errs_more x (Ok xs) h = tt
  errs_more x (Err y) h = h

-- ---- operands

-- an operand isn't there, mustn't be consumed, or names a dead object
pub data IsOperandFault : HolderFault → Type 0 where
  no_entry : IsOperandFault NoEntry
  consumes_lent : IsOperandFault ConsumesLent
  names_dead : IsOperandFault NamesDead

module _ (facts : ValueId → Option Facts) (m : Memory) where
  ended_errs : (v : ValueId) (entries : List Entry) (e : Entry) → ErrsBy IsOperandFault (ended_entry v entries e)
  ended_errs v entries Gone = IsOperandFault.no_entry
  ended_errs v entries (Held x) = tt
  ended_errs v entries (Lent x) = tt
  ended_errs v entries (Plain x) = tt

  without_errs : (ts : List Taken) (entries : List Entry) → ErrsBy IsOperandFault (without_ended facts ts entries)
  without_errs [] entries = tt
  without_errs (t ∷ ts) entries =
      errs_either IsOperandFault (ends facts t) (with_ok (without_ended facts ts) (ended_entry t.value entries (entry_at entries t.value))) (without_ended facts ts entries)
      (errs_with IsOperandFault (without_ended facts ts) (ended_entry t.value entries (entry_at entries t.value)) (without_errs ts)
      (ended_errs t.value entries (entry_at entries t.value)))
      (without_errs ts entries)

  found_errs : (o : Option Datum) → ErrsBy IsOperandFault (datum_or_fault o)
  found_errs None = IsOperandFault.no_entry
  found_errs (Some x) = tt

  used_errs : (r : Role) (e : Entry) → ErrsBy IsOperandFault (used_datum r e)
  used_errs r Gone = IsOperandFault.no_entry
  used_errs r (Held x) = tt
  used_errs r (Lent x) = errs_either IsOperandFault (is_consumed r) (Err ConsumesLent) (Ok x) IsOperandFault.consumes_lent tt
  used_errs r (Plain x) = tt

  dead_errs : (x : Datum) → ErrsBy IsOperandFault (unless_dead m x)
  dead_errs x = errs_either IsOperandFault (any_dead m (references_in x)) (Err NamesDead) (Ok x) IsOperandFault.names_dead tt

  data_errs : (before left : List Entry) (ts : List Taken) → ErrsBy IsOperandFault (operand_data facts m before left ts)
  data_errs before left [] = tt
  data_errs before left (t ∷ ts) =
      errs_with IsOperandFault (λ x. and_more x (operand_data facts m before left ts)) (operand facts m before left t)
      (λ x. errs_more IsOperandFault x (operand_data facts m before left ts) (data_errs before left ts))
      (errs_with IsOperandFault (unless_dead m) (cond (ends facts t) (datum_or_fault (datum_in (entry_at before t.value))) (used_datum t.role (entry_at left t.value))) dead_errs
      (errs_either IsOperandFault (ends facts t) (datum_or_fault (datum_in (entry_at before t.value))) (used_datum t.role (entry_at left t.value))
      (found_errs (datum_in (entry_at before t.value))) (used_errs t.role (entry_at left t.value))))

  pub operands_err : (entries : List Entry) (ts : List Taken) (x : HolderFault) → operands_of facts m entries ts ≡ Err x → IsOperandFault x
  operands_err entries ts x =
      err_is IsOperandFault (operands_of facts m entries ts) x
      (errs_with IsOperandFault (λ left. with_ok (λ xs. Ok (record { given = xs; left = left })) (operand_data facts m entries left ts)) (without_ended facts ts entries)
      (λ left. errs_with IsOperandFault (λ xs. Ok (record { given = xs; left = left })) (operand_data facts m entries left ts) (λ xs. tt) (data_errs entries left ts))
      (without_errs ts entries))

-- ---- results

-- a held entry is overwritten, or a value isn't of its kind
pub data IsResultFault : HolderFault → Type 0 where
  overwrites_held : IsResultFault OverwritesHeld
  wrong_shape : IsResultFault WrongShape

-- a Plain value with references
pub made_errs : (k : Kind) (x : Datum) → ErrsBy (λ y. y ≡ WrongShape) (made_entry k x)
made_errs kind.Owned x = tt
made_errs kind.Guaranteed x = tt
made_errs kind.Plain (ValueOf x) = errs_either (λ y. y ≡ WrongShape) (has_any (references_of x)) (Err WrongShape) (Ok (Plain (ValueOf x))) refl tt
made_errs kind.Plain (AddressOf p) = tt
made_errs kind.Plain (FunctionOf g) = tt

module _ (facts : ValueId → Option Facts) where
  put_errs : (vs : List ValueId) (xs : List Datum) (entries : List Entry) → ErrsBy IsResultFault (results_put facts vs xs entries)
  put_errs [] [] entries = tt
  put_errs [] (x ∷ xs) entries = IsResultFault.wrong_shape
  put_errs (v ∷ vs) [] entries = IsResultFault.wrong_shape
  put_errs (v ∷ vs) (x ∷ xs) entries =
      errs_with IsResultFault (results_put facts vs xs) (with_ok (put_entry entries v) (made_entry (known_or facts v).kind x)) (put_errs vs xs)
      (errs_with IsResultFault (put_entry entries v) (made_entry (known_or facts v).kind x)
      (λ e. errs_either IsResultFault (is_held (entry_at entries v)) (Err OverwritesHeld) (Ok (set entries v.0 e)) IsResultFault.overwrites_held tt)
      (errs_weaker (λ y. y ≡ WrongShape) IsResultFault (λ y e. subst IsResultFault (sym e) IsResultFault.wrong_shape) (made_entry (known_or facts v).kind x)
      (made_errs (known_or facts v).kind x)))

  pub results_err : (vs : List ValueId) (xs : List Datum) (entries : List Entry) (x : HolderFault) → results_put facts vs xs entries ≡ Err x → IsResultFault x
  results_err vs xs entries x = err_is IsResultFault (results_put facts vs xs entries) x (put_errs vs xs entries)

-- ---- slots

pub slots_err : (c : SlotChange) (slots : List Place) (x : HolderFault) → slots_behind c slots ≡ Err x → x ≡ NotLastSlot
slots_err c slots x = err_is (λ y. y ≡ NotLastSlot) (slots_behind c slots) x (by c slots)
  where
    by : (c : SlotChange) (slots : List Place) → ErrsBy (λ y. y ≡ NotLastSlot) (slots_behind c slots)
    by SameSlots slots = tt
    by (OpensSlot p) slots = tt
    by (ClosesSlot p) [] = refl
    by (ClosesSlot p) (slot ∷ slots) = errs_either (λ y. y ≡ NotLastSlot) (is_slot p slot) (Ok slots) (Err NotLastSlot) tt refl

-- ---- what an instruction does

-- a place isn't full or empty as it has to be, or its slot isn't there
pub data IsPlaceFault : HolderFault → Type 0 where
  empty_place : IsPlaceFault EmptyPlace
  full_place : IsPlaceFault FullPlace
  not_last_slot : IsPlaceFault NotLastSlot

abbrev FaultsBy : Effect HolderFault → Type 0
FaultsBy (Makes c) = Unit {0}
FaultsBy (Calls g args) = Unit {0}
FaultsBy (Traps t) = Unit {0}
FaultsBy (Faults x) = IsPlaceFault x
FaultsBy Unfit = Unit {0}

some : {A : Type 0} (go : A → Effect HolderFault) (o : Option A) → ((x : A) → FaultsBy (go x)) → FaultsBy (with_some go o)
some go None h = tt
some go (Some x) h = h x

either_way : (b : Bool) (x y : Effect HolderFault) → FaultsBy x → FaultsBy y → FaultsBy (cond b x y)
either_way true x y h k = h
either_way false x y h k = k

pair : (go : Datum → Datum → Effect HolderFault) (xs : List Datum) → ((x y : Datum) → FaultsBy (go x y)) → FaultsBy (two go xs)
pair go [] h = tt
pair go (x ∷ []) h = tt
pair go (x ∷ y ∷ []) h = h x y
pair go (x ∷ y ∷ z ∷ rest) h = tt

asked : (c : Content) → IsPlaceFault (fault_of c)
asked content.Empty = IsPlaceFault.full_place
asked content.Full = IsPlaceFault.empty_place

module _ (d : Declarations) (shapes : ModuleShapes) (values : List Shape) (m : Memory) (i : Inst) where
  held : (p : Place) (c : Option Content) (e : Effect HolderFault) → FaultsBy e → FaultsBy (memory.where_held d shapes values m i p c e)
  held p None e h = either_way (is_there_at m p) e (Faults NotLastSlot) h IsPlaceFault.not_last_slot
  held p (Some c) e h =
      either_way (is_there_at m p) (cond (holds m c p) e (Faults (fault_of c))) (Faults NotLastSlot)
      (either_way (holds m c p) e (Faults (fault_of c)) h (asked c)) IsPlaceFault.not_last_slot

  loaded : (s : Option Storage) (after : Memory) (x : Value) → FaultsBy (loaded_name s m after x)
  loaded None after x = tt
  loaded (Some storage.Strong) after x = tt
  loaded (Some storage.Weak) after x = either_way (all_live m (references_of x)) (named_again after x) (effects.gives_value after (value.Case 0)) tt tt
  loaded (Some storage.Unowned) after x = either_way (all_live m (references_of x)) (named_again after x) (Traps trap.Unowned) tt tt

  at_one : (go : Operation → Place → Effect HolderFault) (xs : List Datum) → ((o : Operation) (p : Place) → FaultsBy (go o p)) → FaultsBy (memory.at_place d shapes values m i go xs)
  at_one go xs h =
      some (λ o. with_some (go o) (option_and_then as_place (only xs))) (memory.operation_done d shapes values m i)
      (λ o. some (go o) (option_and_then as_place (only xs)) (h o))

  stored : (o : Operation) (x y : Datum) → FaultsBy (value_and_place (memory.stores_by d shapes values m i o) x y)
  stored o x y =
      some (λ v. with_some (memory.stores_by d shapes values m i o v) (as_place y)) (as_value x)
      (λ v. some (memory.stores_by d shapes values m i o v) (as_place y) (λ p. held p (asked_before p.is_part o) _ tt))

  at_places : (r : RowEffect) (xs : List Datum) → FaultsBy (memory.at_places d shapes values m i r xs)
  at_places row.RemovesSlot xs =
      some (memory.removes d shapes values m i) (option_and_then as_place (only xs)) (λ p. held p (Some content.Empty) _ tt)
  at_places row.LoadsValue xs =
      at_one (memory.loads_by d shapes values m i) xs (λ o p. held p (asked_before p.is_part o) _ (loads o p (value_at m p)))
    where
      loads : (o : Operation) (p : Place) (v : Option Value) → FaultsBy (with_some (λ x. Makes (record (unchanged (memory.after d shapes values m i o p)) {
        results = ValueOf x ∷ [];
        retained = cond (memory.copies_with i.qualifier) (references_of x) [];
      })) v)
      loads o p None = tt
      loads o p (Some x) = tt
  at_places row.LoadsName xs =
      at_one (memory.names_by d shapes values m i) xs (λ o p. held p (asked_before p.is_part o) _
      (some (loaded_name (storage_in p.shape) m (memory.after d shapes values m i o p)) (value_at m p) (loaded (storage_in p.shape) (memory.after d shapes values m i o p))))
  at_places row.StoresValue xs =
      some (λ o. two (value_and_place (memory.stores_by d shapes values m i o)) xs) (memory.operation_done d shapes values m i)
      (λ o. pair (value_and_place (memory.stores_by d shapes values m i o)) xs (stored o))
  at_places row.DestroysPlace xs = at_one (memory.destroys_by d shapes values m i) xs (λ o p. held p (asked_before p.is_part o) _ tt)
  at_places row.NoEffect xs = tt
  at_places row.GivesLiteral xs = tt
  at_places row.GivesFunction xs = tt
  at_places row.Computes xs = tt
  at_places row.TrapsWhereSet xs = tt
  at_places row.MakesObject xs = tt
  at_places row.MakesSlot xs = tt
  at_places row.GivesOperand xs = tt
  at_places row.CopiesOperand xs = tt
  at_places row.RetainsOperand xs = tt
  at_places row.DropsOperand xs = tt
  at_places row.Groups xs = tt
  at_places row.ChoosesCase xs = tt
  at_places row.GivesMember xs = tt
  at_places row.GivesMembers xs = tt
  at_places row.AddressesMember xs = tt
  at_places row.AddressesField xs = tt
  at_places row.CallsFunction xs = tt

  the_value : (go : Value → Effect HolderFault) (xs : List Datum) → ((x : Value) → FaultsBy (go x)) → FaultsBy (effects.the_value d shapes values m i go xs)
  the_value go xs h = some go (option_and_then as_value (only xs)) h

  the_place : (go : Place → Effect HolderFault) (xs : List Datum) → ((p : Place) → FaultsBy (go p)) → FaultsBy (effects.the_place d shapes values m i go xs)
  the_place go xs h = some go (option_and_then as_place (only xs)) h

  chosen : (k : ℕ) (xs : List Value) → FaultsBy (effects.chooses d shapes values m i k xs)
  chosen k [] = tt
  chosen k (x ∷ []) = tt
  chosen k (x ∷ y ∷ ys) = tt

  field_named : (o : Option Member) (k : Option ℕ) (x : ObjectId) → FaultsBy (effects.names_field_of d shapes values m i o k x)
  field_named None k x = tt
  field_named (Some named) k x =
      some (λ q. gives m (AddressOf q ∷ [])) (option_and_then (effects.field_of_object d shapes values m i named x) k) (λ q. tt)

  called : (xs : List Datum) → FaultsBy (effects.calls d shapes values m i xs)
  called [] = tt
  called (f ∷ args) = some (λ g. Calls g args) (as_function f) (λ g. tt)

  by_row : (r : RowEffect) (xs : List Datum) → FaultsBy (effect_by d shapes values m i (memory.at_places d shapes values m i) r xs)
  by_row row.NoEffect xs = tt
  by_row row.GivesLiteral xs = some (λ n. effects.gives_value m (value.Int n)) i.number (λ n. tt)
  by_row row.GivesFunction xs = some (λ g. gives m (FunctionOf g ∷ [])) i.function (λ g. tt)
  by_row row.Computes xs =
      some (effects.gives_value m) (option_and_then (builtin_value i.text) (option_and_then (all_of integer_of) (values_of xs))) (λ x. tt)
  by_row row.TrapsWhereSet xs =
      the_value (λ x. with_some (effects.traps_where d shapes values m i) (integer_of x)) xs
      (λ x. some (effects.traps_where d shapes values m i) (integer_of x) (λ n. either_way (is_set n) _ (gives m []) tt tt))
  by_row row.MakesObject xs = some (effects.makes_object d shapes values m i) (class_in (effects.result_shape d shapes values m i)) (λ class. tt)
  by_row row.MakesSlot xs = tt
  by_row row.RemovesSlot xs = at_places row.RemovesSlot xs
  by_row row.GivesOperand xs = some (λ x. gives m (x ∷ [])) (only xs) (λ x. tt)
  by_row row.CopiesOperand xs = some (effects.copies d shapes values m i) (only xs) (λ x. tt)
  by_row row.RetainsOperand xs = some (effects.retains d shapes values m i) (only xs) (λ x. tt)
  by_row row.DropsOperand xs = some (effects.drops d shapes values m i) (only xs) (λ x. tt)
  by_row row.LoadsValue xs = at_places row.LoadsValue xs
  by_row row.StoresValue xs = at_places row.StoresValue xs
  by_row row.DestroysPlace xs = at_places row.DestroysPlace xs
  by_row row.LoadsName xs = at_places row.LoadsName xs
  by_row row.Groups xs = some (λ vs. effects.gives_value m (grouped vs)) (values_of xs) (λ vs. tt)
  by_row row.ChoosesCase xs =
      some (λ k. with_some (effects.chooses d shapes values m i k) (values_of xs)) (case_place (effects.result_shape d shapes values m i) i.member)
      (λ k. some (effects.chooses d shapes values m i k) (values_of xs) (chosen k))
  by_row row.GivesMember xs =
      the_value (effects.gives_member d shapes values m i (part_number d i)) xs
      (λ x. some (effects.gives_value m) (option_and_then (λ k. effects.member_of d shapes values m i k x) (part_number d i)) (λ y. tt))
  by_row row.GivesMembers xs =
      the_value (effects.gives_members d shapes values m i) xs (λ x. some (λ members. gives m (map ValueOf members)) (members_of x) (λ members. tt))
  by_row row.AddressesMember xs =
      the_place (effects.names_member d shapes values m i (part_number d i)) xs
      (λ p. some (λ q. gives m (AddressOf q ∷ [])) (option_and_then (places.member_place p) (part_number d i)) (λ q. tt))
  by_row row.AddressesField xs =
      the_value (effects.names_field d shapes values m i) xs
      (λ x. some (effects.names_field_of d shapes values m i i.member (part_number d i)) (object_of x) (field_named i.member (part_number d i)))
  by_row row.CallsFunction xs = called xs

  pub effect_faults : (xs : List Datum) (x : HolderFault) → effect d shapes values m i xs ≡ Faults x → IsPlaceFault x
  effect_faults xs x e = subst FaultsBy e (by_row (effect_of i.op) xs)
