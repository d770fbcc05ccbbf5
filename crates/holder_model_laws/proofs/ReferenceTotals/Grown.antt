-- What an instruction of lowered code makes of the objects of memory: at most one that is new, and none that was dead comes back.
use Rattle.std.proofs.Common.{◌≡◌, ℕ, ◌++◌, ◌||◌, List, [], ◌∷◌, length, refl, Bool, true, false, cond, not, is_some, Option, Some, None, option_and_then, unwrap_or, subst}
use Rattle.std.specs.Prelude.{ℤ}
use Rattle.std.proofs.lemmas.List.{length-set}
use Rattle.sil_ast.specs.declared.decl.Storage.{Storage}
use Rattle.sil_ast.specs.declared.decl.Storage.TheVariants as storage
use Rattle.sil_ast.specs.declared.inst.Inst.{Inst}
use Rattle.sil_ast.specs.declared.member.Member.{Member}
use Rattle.sil_ast.specs.declared.place.ObjectId.{ObjectId}
use Rattle.sil_types_declarations.specs.TypeDefinitions.Declarations.{Declarations}
use Rattle.holder_model.specs.holder_model_values.RunValues.Cells.{Cell}
use Rattle.holder_model.specs.holder_model_values.RunValues.Memory.{Memory, Object, is_dead, is_dead_phase}
use Rattle.holder_model.specs.holder_model_values.RunValues.Places as places
use Rattle.holder_model.specs.holder_model_values.RunValues.Places.{Home, Inside, OnStack, Place, emptied, is_there_at, value_at, with_home_cells}
use Rattle.holder_model.specs.holder_model_values.RunValues.Shapes.{Shape, class_in, storage_in}
use Rattle.holder_model.specs.holder_model_values.RunValues.Values as value
use Rattle.holder_model.specs.holder_model_values.RunValues.Values.{Value}
use Rattle.holder_model.specs.Builtins.{builtin_value, is_set}
use Rattle.holder_model.specs.Data.{Datum, all_of, as_function, as_place, as_value, home_references, values_of}
use Rattle.holder_model.specs.Effects as effects
use Rattle.holder_model.specs.Effects.{Calls, Effect, Faults, Makes, Traps, Unfit, effect_by, effect_of, only, with_some}
use Rattle.holder_model.specs.MemoryEffects.{all_live, loaded_name, takes, two, value_and_place}
use Rattle.holder_model.specs.ModuleShapes.{ModuleShapes, case_place}
use Rattle.memory_rules_parts.specs.memory_rules_accesses.declared.access.Operation.{Operation}
use Rattle.holder_model.specs.declared.row_effect.RowEffect.{RowEffect}
use Rattle.holder_model.specs.declared.row_effect.RowEffect.TheVariants as row
use Rattle.holder_model.specs.declared.trap.Trap.TheVariants as trap
use Rattle.holder_model.specs.declared.lowered_run.low_fault.LowFault.{LowFault}
use Rattle.holder_model.specs.declared.lowered_run.low_fault.LowFault.TheVariants as fault
use Rattle.holder_model.specs.LoweredRun.LowEffects as low
use Rattle.holder_model_laws.proofs.ReferenceTotals.Objects.{home_same}

pub data Grown (m later : Memory) : Type 0 where
  same : length later.objects ≡ length m.objects → ((o : ObjectId) → is_dead later o ≡ true → is_dead m o ≡ true) → Grown m later
  one : (x : Object) → is_dead_phase x.phase ≡ false → later.objects ≡ m.objects ++ x ∷ [] → Grown m later

pub stays : (m : Memory) → Grown m m
stays m = Grown.same refl (λ o is. is)

abbrev pub GrownBy : Memory → Effect LowFault → Type 0
GrownBy m (Makes c) = Grown m c.memory
GrownBy m (Calls g args) = Unit
GrownBy m (Traps t) = Unit
GrownBy m (Faults x) = Unit
GrownBy m Unfit = Unit

-- ---- memory whose cells are written

written : (m : Memory) (h : Home) (cells : List Cell) → Grown m (with_home_cells m h cells)
written m OnStack cells = Grown.same refl (λ o is. is)
written m (Inside p) cells = Grown.same (length-set m.objects p.0 _) (λ o is. subst (λ b. b ≡ true) (home_same m (Inside p) cells o) is)

by_taking : (m later : Memory) (b : Bool) → Grown m later → Grown m (cond b later m)
by_taking m later true h = h
by_taking m later false h = stays m

module _ (m : Memory) where
  some_grown : {A : Type 0} (go : A → Effect LowFault) → ((x : A) → GrownBy m (go x)) → (o : Option A) → GrownBy m (with_some go o)
  some_grown go h None = tt
  some_grown go h (Some x) = h x

  either : (b : Bool) (e f : Effect LowFault) → GrownBy m e → GrownBy m f → GrownBy m (cond b e f)
  either true e f h k = h
  either false e f h k = k

module _ (d : Declarations) (shapes : ModuleShapes) (values : List Shape) (m : Memory) (i : Inst) where
  abbrev E : Type 0
  E = Effect LowFault

  -- ---- at places

  unless : (e : E) (o : Option ObjectId) → GrownBy m e → GrownBy m (low.dead_or d shapes values m i e o)
  unless e None h = h
  unless e (Some o) h = tt

  accessed : (p : Place) (os : List ObjectId) (full : Bool) (e : E) → GrownBy m e → GrownBy m (low.accessed d shapes values m i p os full e)
  accessed p os full e h =
      either m (is_there_at m p) _ _
      (unless (cond (not full || is_some (value_at m p)) e (Faults fault.Empty)) (low.first_dead d shapes values m i (os ++ home_references p.home))
      (either m (not full || is_some (value_at m p)) e (Faults fault.Empty) h tt))
      tt

  after : (o : Operation) (p : Place) → Grown m (low.after d shapes values m i o p)
  after o p = by_taking m (emptied m p) (takes o) (written m p.home _)

  loads : (o : Operation) (p : Place) → GrownBy m (low.loads_by d shapes values m i o p)
  loads o p = accessed p [] true _ (some_grown m _ (λ x. after o p) (value_at m p))

  name_loaded : (s : Option Storage) (later : Memory) (x : Value) → Grown m later → GrownBy m (loaded_name s m later x)
  name_loaded None later x h = tt
  name_loaded (Some storage.Strong) later x h = tt
  name_loaded (Some storage.Weak) later x h = either m (all_live m (value.references_of x)) _ _ h h
  name_loaded (Some storage.Unowned) later x h = either m (all_live m (value.references_of x)) _ _ h tt

  names : (o : Operation) (p : Place) → GrownBy m (low.names_by d shapes values m i o p)
  names o p = accessed p [] true _
      (some_grown m _ (λ x. name_loaded (storage_in p.shape) (low.after d shapes values m i o p) x (after o p)) (value_at m p))

  stores : (o : Operation) (x : Value) (p : Place) → GrownBy m (low.stores_by d shapes values m i o x p)
  stores o x p = accessed p (low.to_name d shapes values m i x p) (low.has_to_be_full d shapes values m i o p) _ (written m p.home _)

  destroys : (o : Operation) (p : Place) → GrownBy m (low.destroys_by d shapes values m i o p)
  destroys o p = accessed p [] true _ (after o p)

  at_place : (go : Operation → Place → E) → ((o : Operation) (p : Place) → GrownBy m (go o p)) → (xs : List Datum) → GrownBy m (low.at_place d shapes values m i go xs)
  at_place go h xs = some_grown m _ (λ o. some_grown m (go o) (h o) (option_and_then as_place (only xs))) (low.operation_done d shapes values m i)

  two_grown : (go : Datum → Datum → E) → ((x y : Datum) → GrownBy m (go x y)) → (xs : List Datum) → GrownBy m (two go xs)
  two_grown go h [] = tt
  two_grown go h (x ∷ []) = tt
  two_grown go h (x ∷ y ∷ []) = h x y
  two_grown go h (x ∷ y ∷ z ∷ rest) = tt

  stores_value : (xs : List Datum) → GrownBy m (low.at_places d shapes values m i row.StoresValue xs)
  stores_value xs =
      some_grown m _ (λ o. two_grown (value_and_place (low.stores_by d shapes values m i o))
      (λ x y. some_grown m _ (λ v. some_grown m (low.stores_by d shapes values m i o v) (stores o v) (as_place y)) (as_value x)) xs)
      (low.operation_done d shapes values m i)

  removes : (xs : List Datum) → GrownBy m (low.at_places d shapes values m i row.RemovesSlot xs)
  removes xs = some_grown m (low.removes d shapes values m i) (λ p. written m p.home _) (option_and_then as_place (only xs))

  -- ---- beside memory

  the_value : (go : Value → E) → ((x : Value) → GrownBy m (go x)) → (xs : List Datum) → GrownBy m (effects.the_value d shapes values m i go xs)
  the_value go h xs = some_grown m go h (option_and_then as_value (only xs))

  traps_where : (n : ℤ) → GrownBy m (effects.traps_where d shapes values m i n)
  traps_where n = either m (is_set n) (Traps (trap.CondFail (unwrap_or i.text []))) (effects.gives m []) tt (stays m)

  makes_object : (class : List ℕ) → GrownBy m (effects.makes_object d shapes values m i class)
  makes_object class = Grown.one _ refl refl

  chooses : (k : ℕ) (xs : List Value) → GrownBy m (effects.chooses d shapes values m i k xs)
  chooses k [] = stays m
  chooses k (x ∷ []) = stays m
  chooses k (x ∷ y ∷ ys) = tt

  names_field_of : (named : Option Member) (k : Option ℕ) (o : ObjectId) → GrownBy m (effects.names_field_of d shapes values m i named k o)
  names_field_of None k o = tt
  names_field_of (Some named) k o = some_grown m _ (λ q. stays m) (option_and_then (effects.field_of_object d shapes values m i named o) k)

  calls : (xs : List Datum) → GrownBy m (effects.calls d shapes values m i xs)
  calls [] = tt
  calls (f ∷ args) = some_grown m _ (λ g. tt) (as_function f)

  by_row : (r : RowEffect) (xs : List Datum) → GrownBy m (effect_by d shapes values m i (low.at_places d shapes values m i) r xs)
  by_row row.NoEffect xs = stays m
  by_row row.GivesLiteral xs = some_grown m _ (λ n. stays m) i.number
  by_row row.GivesFunction xs = some_grown m _ (λ g. stays m) i.function
  by_row row.Computes xs = some_grown m _ (λ x. stays m) (option_and_then (builtin_value i.text) (option_and_then (all_of value.integer_of) (values_of xs)))
  by_row row.TrapsWhereSet xs =
      the_value _ (λ x. some_grown m (effects.traps_where d shapes values m i) traps_where (value.integer_of x)) xs
  by_row row.MakesObject xs = some_grown m (effects.makes_object d shapes values m i) makes_object (class_in (effects.result_shape d shapes values m i))
  by_row row.MakesSlot xs = Grown.same refl (λ o is. is)
  by_row row.RemovesSlot xs = removes xs
  by_row row.GivesOperand xs = some_grown m _ (λ x. stays m) (only xs)
  by_row row.CopiesOperand xs = some_grown m _ (λ x. stays m) (only xs)
  by_row row.RetainsOperand xs = some_grown m _ (λ x. stays m) (only xs)
  by_row row.DropsOperand xs = some_grown m _ (λ x. stays m) (only xs)
  by_row row.LoadsValue xs = at_place (low.loads_by d shapes values m i) loads xs
  by_row row.StoresValue xs = stores_value xs
  by_row row.DestroysPlace xs = at_place (low.destroys_by d shapes values m i) destroys xs
  by_row row.LoadsName xs = at_place (low.names_by d shapes values m i) names xs
  by_row row.Groups xs = some_grown m _ (λ vs. stays m) (values_of xs)
  by_row row.ChoosesCase xs =
      some_grown m _ (λ k. some_grown m (effects.chooses d shapes values m i k) (chooses k) (values_of xs))
      (case_place (effects.result_shape d shapes values m i) i.member)
  by_row row.GivesMember xs = the_value (effects.gives_member d shapes values m i (effects.part_number d i))
      (λ x. some_grown m _ (λ y. stays m) (option_and_then (λ k. effects.member_of d shapes values m i k x) (effects.part_number d i))) xs
  by_row row.GivesMembers xs = the_value (effects.gives_members d shapes values m i) (λ x. some_grown m _ (λ ys. stays m) (value.members_of x)) xs
  by_row row.AddressesMember xs =
      some_grown m (effects.names_member d shapes values m i (effects.part_number d i))
      (λ p. some_grown m _ (λ q. stays m) (option_and_then (places.member_place p) (effects.part_number d i))) (option_and_then as_place (only xs))
  by_row row.AddressesField xs =
      the_value (effects.names_field d shapes values m i)
      (λ x. some_grown m (effects.names_field_of d shapes values m i i.member (effects.part_number d i)) (names_field_of i.member (effects.part_number d i)) (value.object_of x)) xs
  by_row row.CallsFunction xs = calls xs

  pub effect_grown : (xs : List Datum) → GrownBy m (low.low_effect d shapes values m i xs)
  effect_grown xs =
      unless (effect_by d shapes values m i (low.at_places d shapes values m i) (effect_of i.op) xs)
      (low.first_dead d shapes values m i (low.operated_on d shapes values m i (effect_of i.op) xs)) (by_row (effect_of i.op) xs)
