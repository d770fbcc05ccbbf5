-- Each instruction of an accepted function has what its row needs: all rows.
use Rattle.std.proofs.Common.{◌≡◌, ◌⊎◌, inl, inr, ℕ, ◌+◌, List, [], ◌∷◌, map, length, refl, sym, ap, ◌∙◌, subst, Bool, true, false, cond, ◌&&◌, ◌||◌, Option, Some, Ok, Err, arith}
use Rattle.std.specs.declared.result.Result.{Result}
use Rattle.std.specs.List.{AllZip}
use Rattle.std.proofs.lemmas.Bool.{and_parts, false≢true}
use Rattle.instruction_table.specs.Forms.{result_kind_of, roles_of}
use Rattle.instruction_table.specs.declared.entries.ResultKind.TheVariants.{OwnedResult}
use Rattle.instruction_table.specs.declared.entries.Role.{Role}
use Rattle.instruction_table.specs.declared.entries.Role.TheVariants as role
use Rattle.argument_conventions.specs.declared.convention.ArgumentConvention.{ArgumentConvention}
use Rattle.argument_conventions.specs.declared.row.Content.{Content}
use Rattle.argument_conventions.specs.declared.row.Content.TheVariants as content
use Rattle.numbered_form.specs.Lists.{Each}
use Rattle.sil_ast.specs.declared.decl.Storage.{Storage}
use Rattle.sil_ast.specs.declared.decl.Storage.TheVariants as storage
use Rattle.sil_ast.specs.declared.function.Function.{Function}
use Rattle.sil_ast.specs.declared.inst.Inst.{Inst}
use Rattle.sil_ast.specs.declared.module.Module.{Module}
use Rattle.sil_ast.specs.declared.operands.Operand.{Operand}
use Rattle.sil_ast.specs.declared.place.FuncId.{FuncId}
use Rattle.sil_ast.specs.declared.place.ObjectId.{ObjectId}
use Rattle.sil_ast.specs.declared.place.PointId.{PointId}
use Rattle.sil_ast.specs.declared.place.ValueId.{ValueId}
use Rattle.sil_cfg_items.specs.Roles.{conventions_in, roles_for, taken_each}
use Rattle.sil_cfg_items.specs.declared.taken.Taken.{Taken}
use Rattle.ownership_kinds_chains.specs.declared.ownership_chains.facts.Facts.{Facts}
use Rattle.ownership_kinds_chains.specs.OwnershipMarks.Marks.{ends_owned}
use Rattle.sil_types_declarations.specs.TypeDefinitions.Declarations.{Declarations, declarations_of}
use Rattle.holder_model_values.specs.RunValues.Cells as cells
use Rattle.holder_model_values.specs.RunValues.Memory.{Memory}
use Rattle.holder_model_values.specs.RunValues.Places.{Place, cells_at, filled, is_there_at}
use Rattle.holder_model_values.specs.RunValues.Shapes.{Shape, Stored}
use Rattle.holder_model_values.specs.RunValues.Trivial.{is_trivial}
use Rattle.holder_model_values.specs.RunValues.Values.{Value, references_of}
use Rattle.sil_verifier_runs.specs.ownership_kinds_origins.Facts.{facts_in}
use Rattle.sil_verifier_runs.specs.sil_verifier_values.inner.Operands.{SuitsRole}
use Rattle.sil_verifier_runs.specs.holder_model.RunTyping.EndForms.{value_in}
use Rattle.sil_verifier_runs.specs.holder_model.RunTyping.Forms.{Form, OfPlace, OfValue, forms_of}
use Rattle.sil_verifier_runs.specs.holder_model.RunTyping.RowForms.{operation_done}
use Rattle.sil_verifier_runs.specs.holder_model.RunTyping.StorageForms.{IsNamed}
use Rattle.sil_verifier_runs.specs.holder_model.LoweredRun.LowEffects.{is_first_write}
use Rattle.memory_rules_accesses.specs.declared.access.Operation.{Operation}
use Rattle.memory_rules_accesses.specs.declared.access.Operation.TheVariants as operation
use Rattle.sil_verifier_runs.specs.holder_model.Data.{AddressOf, Datum, ValueOf, references_in}
use Rattle.sil_verifier_runs.specs.holder_model.Effects as effects
use Rattle.sil_verifier_runs.specs.holder_model.Effects.{Change, Effect, Faults, effect_by, effect_of, unchanged}
use Rattle.sil_verifier_runs.specs.holder_model.Faults.{HolderFault, NamesDead, NotLastSlot}
use Rattle.sil_verifier_runs.specs.holder_model.Frames.{Entry, Operands, and_more, any_dead, datum_in, datum_or_fault, ends}
use Rattle.sil_verifier_runs.specs.holder_model.Frames.{entry_at, operand, operand_data, operands_of, unless_dead, used_datum, with_ok}
use Rattle.sil_verifier_runs.specs.holder_model.Holders.{in_cells, of_references}
use Rattle.sil_verifier_runs.specs.holder_model.MemoryEffects as memory_effects
use Rattle.sil_verifier_runs.specs.holder_model.MemoryEffects.{asked_before, at_places, fault_of, holds, references_at, where_held}
use Rattle.sil_verifier_runs.specs.holder_model.ModuleShapes.{shapes_in, shapes_of}
use Rattle.sil_verifier_runs.specs.holder_model.Outcomes.{Numbers}
use Rattle.sil_verifier_runs.specs.holder_model.declared.row_effect.RowEffect.{RowEffect}
use Rattle.sil_verifier_runs.specs.holder_model.declared.row_effect.RowEffect.TheVariants as row
use Rattle.sil_verifier_runs.specs.holder_model_laws.HolderLaws.inner.Counts.Keeping.{IsAliveAt, IsWithin}
use Rattle.sil_verifier_runs.specs.holder_model_laws.HolderLaws.inner.Counts.Naming.{IsAlive}
use Rattle.sil_verifier_runs.specs.holder_model_laws.HolderLaws.inner.Counts.Taking.{references_ended, references_ended_by}
use Rattle.sil_verifier_runs.proofs.holder_model_laws.HolderLaws.Counts.Alive.{alive_home}
use Rattle.sil_verifier_runs.proofs.holder_model_laws.HolderLaws.Counts.Entries.{chosen_ok, ok_through}
use Rattle.sil_verifier_runs.proofs.holder_model_laws.HolderLaws.Counts.Sums.{total_append}
use Rattle.sil_verifier_runs.specs.holder_model_laws.StoredCounts.inner.Numbers.{AreNamesStored}
use Rattle.sil_verifier_runs.specs.holder_model_laws.StoredCounts.inner.Rows.{BringsAll, BringsNone, HandsOn, IsRemoved, IsTaken, KeepNone, Loads, Owns, Stores, TakesNone}
use Rattle.sil_verifier_runs.proofs.holder_model_laws.StoredCounts.RowsMade.{IsChange}
use Rattle.ownership_lowering_laws.specs.holder_model_typing.TypedMemory.inner.Worlds.{DatumIs, PlaceIs, Suits, World, names}
use Rattle.ownership_lowering_laws.proofs.holder_model_typing.TypedMemory.Homes.{PlaceCells, place_cells}
use Rattle.ownership_lowering_laws.proofs.holder_model_typing.TypedMemory.StoredValues.{named_suits_storage}
use Rattle.ownership_lowering_laws.proofs.holder_model_typing.TypedMemory.Trivials.{no_references}
use Rattle.sil_verifier_runs.proofs.sil_verifier_frames.Typed.Data.{DataAre, read_place, read_value}
use Rattle.sil_verifier_runs.proofs.sil_verifier_frames.Typed.Operands.{operands_read}
use Rattle.ownership_lowering_runs.specs.OwnedCounts.inner.OwnedRows.{AreRowsOwned, HasItsWords, IsDone, LoadsBy, StoresBy}
use Rattle.ownership_lowering_runs.proofs.OwnedCounts.BroughtOwned.{brings_bare}
use Rattle.ownership_lowering_runs.proofs.OwnedCounts.OwnedInsts as inst
use Rattle.ownership_lowering_runs.proofs.OwnedCounts.OwnedInsts.{each_weaker}
use Rattle.ownership_lowering_runs.proofs.OwnedCounts.RowTables.{address_is, all_roles, each_role, is_address, is_consumed_role, is_forwarded, is_forwarded_role}
use Rattle.ownership_lowering_runs.proofs.OwnedCounts.RowTables.{is_owned, is_scope, owned_is, scope_is, stays, staying_role, suits}
use Rattle.ownership_lowering_runs.proofs.OwnedCounts.Taken.{IsTakenAs}
use Rattle.ownership_lowering_runs.proofs.OwnedCounts.TakenOwned.{IsValue, gives_one, takes_none}
use Rattle.ownership_lowering_runs.proofs.OwnedCounts.TypedCells.{empty_place, kept_strongly, stored_none, written_length, written_strongly, written_weakly}
use Rattle.ownership_lowering_runs.proofs.OwnedCounts.TypedPlaces.{place_stored, typed_within, written_stored}
use Rattle.ownership_lowering_runs.proofs.OwnedCounts.ValueForms.{asks_values, gives_values}

either : (a b : Bool) → (a || b) ≡ true → (a ≡ true) ⊎ (b ≡ true)
either true b e = inl refl
either false b e = inr e

-- ---- operands that are alive

alive_one : (memory : Memory) (r : Result Datum HolderFault) (x : Datum) → with_ok (unless_dead memory) r ≡ Ok x → IsAlive memory x
alive_one memory r x h =
    let found = ok_through (unless_dead memory) r x h in
    let lives = chosen_ok (any_dead memory (references_in found.0)) NamesDead (Ok found.0) x found.2 in
    let same : found.0 ≡ x = let e = lives.1 in cc in
    subst (IsAlive memory) same lives.0

more_data : (x : Datum) (r : Result (List Datum) HolderFault) (ys : List Datum) → and_more x r ≡ Ok ys → (xs : List Datum) × (r ≡ Ok xs) × (x ∷ xs ≡ ys)
more_data x (Ok xs) ys e = (xs, refl, cc)
more_data x (Err y) ys e = cc

module _ (facts : ValueId → Option Facts) (memory : Memory) (entries : List Entry) where
  alive_data : (left : List Entry) (ts : List Taken) (xs : List Datum) → operand_data facts memory entries left ts ≡ Ok xs → Each (IsAlive memory) xs
  alive_data left [] xs h = let same : [] ≡ xs = cc in subst (Each (IsAlive memory)) same tt
  alive_data left (t ∷ ts) xs h =
      let first = ok_through (λ x. and_more x (operand_data facts memory entries left ts)) (operand facts memory entries left t) xs h in
      let rest = more_data first.0 (operand_data facts memory entries left ts) xs first.2 in
      subst (Each (IsAlive memory)) rest.2 (
        alive_one memory (cond (ends facts t) (datum_or_fault (datum_in (entry_at entries t.value))) (used_datum t.role (entry_at left t.value)))
            first.0 first.1,
        alive_data left ts rest.0 rest.1,
      )

  pub given_alive : (ts : List Taken) (ops : Operands) → operands_of facts memory entries ts ≡ Ok ops → Each (IsAlive memory) ops.given
  given_alive ts ops h = alive_data ops.left ts ops.given (operands_read facts memory ts entries ops h).given

-- ---- places among operands

module _ (m : Module) (w : World) where
  pub one_place : (forms : List Form) (xs : List Datum) (p : Place) → DataAre m w forms xs → xs ≡ AddressOf p ∷ [] → PlaceIs m w p
  one_place _ _ p DataAre.none e = cc
  one_place _ _ p (DataAre.more _ _ _ _ (DatumIs.place q at) rest) e = let same : q ≡ p = cc in subst (PlaceIs m w) same at
  one_place _ _ p (DataAre.more _ _ _ _ (DatumIs.value s v good) rest) e = cc
  one_place _ _ p (DataAre.more _ _ _ _ (DatumIs.function g) rest) e = cc

  pub record IsPair (s t : Shape) (x : Value) (p : Place) : Type 0 where
    pub value : Suits m w s x
    pub shape : p.shape ≡ t
    pub place : PlaceIs m w p

  pair : (s t : Shape) (x : Value) (p : Place) (forms : List Form) (xs : List Datum) → DataAre m w forms xs → forms ≡ OfValue s ∷ OfPlace t ∷ [] → xs ≡ ValueOf x ∷ AddressOf p ∷ [] → IsPair s t x p
  pair s t x p _ _ DataAre.none e g = cc
  pair s t x p _ _ (DataAre.more _ _ _ _ is DataAre.none) e g = cc
  pair s t x p _ _ (DataAre.more form y _ _ is (DataAre.more other z _ _ at rest)) e g =
      let first : form ≡ OfValue s = cc in
      let second : other ≡ OfPlace t = cc in
      let v = read_value m w is s first in
      let q = read_place m w at t second in
      let same : v.0 ≡ x = let a = v.1 in cc in
      let there : q.0 ≡ p = let a = q.1 in cc in
      record {
        value = subst (Suits m w s) same v.2;
        shape = ap (λ (r : Place). r.shape) (sym there) ∙ q.2;
        place = subst (PlaceIs m w) there q.3;
      }

  bare_results : (r : Shape) (forms : List Form) (xs : List Datum) → DataAre m w forms xs → forms ≡ OfValue r ∷ [] → is_trivial r ≡ true → Each (λ x. references_in x ≡ []) xs
  bare_results r _ _ DataAre.none e t = tt
  bare_results r _ _ (DataAre.more form x _ _ is DataAre.none) e t =
      let first : form ≡ OfValue r = cc in
      let v = read_value m w is r first in
      (ap references_in v.1 ∙ no_references (names m w) r v.0 v.2 t, tt)
  bare_results r _ _ (DataAre.more form x _ _ is (DataAre.more other z _ _ at rest)) e t = cc

first_write : (o : Operation) (part : Bool) → is_first_write o ≡ true → asked_before part o ≡ Some content.Empty
first_write operation.FirstWrite part e = refl
first_write operation.Read part e = cc
first_write operation.Lend part e = cc
first_write operation.Write part e = cc
first_write operation.TrivialStore part e = cc
first_write (operation.Handed r) part e = cc
first_write operation.Take part e = cc

named_other : (how : Storage) (s : Shape) → IsNamed how s → how ≡ storage.Strong → ⊥
named_other _ _ (IsNamed.weak class name first second) e = cc
named_other _ _ (IsNamed.unowned class) e = cc

-- the first operand of a store, and the others
abbrev Heads : Role → List Taken → Type 0
Heads r [] = Unit {0}
Heads r (t ∷ us) = (t.role ≡ r) × Each (λ (u : Taken). stays u.role ≡ true) us

store_heads : (r : Role) (cs : List ArgumentConvention) (os : List Operand) → Heads r (taken_each os (roles_for (r ∷ role.AddressRole ∷ []) cs (length os)))
store_heads r cs [] = tt
store_heads r cs (o ∷ os) = (refl, each_role stays refl (role.AddressRole ∷ []) cs os refl)

-- ---- the rows

module _ (m : Module) (g : FuncId) (f : Function) (w : World) (memory : Memory) (entries : List Entry) (p : PointId) (i : Inst) (ops : Operands) (c : Change)
    (done : IsDone m g f w memory entries p i ops c) (words : HasItsWords (declarations_of m) f i ops.given) (stored : List Numbers) (size : length stored ≡ length memory.objects) where
  abbrev d : Declarations
  d = declarations_of m

  abbrev values : List Shape
  values = shapes_in (shapes_of m) g

  abbrev facts : ValueId → Option Facts
  facts = facts_in d f

  abbrev ts : List Taken
  ts = inst.ts m g f w memory entries p i ops c done

  abbrev vs : List ValueId
  vs = inst.vs m g f w memory entries p i ops c done

  abbrev xs : List Datum
  xs = ops.given

  abbrev Row : RowEffect → Type 0
  Row e = Owns facts entries ts vs d (shapes_of m) values memory i xs stored e c.results

  none : all_roles stays (roles_of i.op) ≡ true → TakesNone facts entries ts vs xs
  none = inst.none_taken m g f w memory entries p i ops c done

  values_in : asks_values (effect_of i.op) ≡ true → Each IsValue xs
  values_in = inst.values_given m g f w memory entries p i ops c done

  values_out : gives_values (effect_of i.op) ≡ true → Each IsValue c.results
  values_out = inst.values_brought m g f w memory entries p i ops c done

  owned : result_kind_of i.op ≡ OwnedResult → gives_values (effect_of i.op) ≡ true → BringsAll facts entries ts vs xs c.results
  owned is gives = inst.owned_brought m g f w memory entries p i ops c done is (values_out gives)

  owning : (all_roles stays (roles_of i.op) && is_owned (result_kind_of i.op)) ≡ true → gives_values (effect_of i.op) ≡ true
      → TakesNone facts entries ts vs xs × BringsAll facts entries ts vs xs c.results
  owning so gives =
      let parts = and_parts (all_roles stays (roles_of i.op)) (is_owned (result_kind_of i.op)) so in
      (none parts.0, owned (owned_is (result_kind_of i.op) parts.1) gives)

  addressing : (all_roles stays (roles_of i.op) && is_address (result_kind_of i.op)) ≡ true → TakesNone facts entries ts vs xs × BringsNone facts entries ts vs xs c.results
  addressing so =
      let parts = and_parts (all_roles stays (roles_of i.op)) (is_address (result_kind_of i.op)) so in
      (none parts.0, inst.address_brought m g f w memory entries p i ops c done (address_is (result_kind_of i.op) parts.1))

  forwarding : asks_values (effect_of i.op) ≡ true → gives_values (effect_of i.op) ≡ true → (all_roles is_forwarded_role (roles_of i.op) && is_forwarded (result_kind_of i.op)) ≡ true
      → HandsOn facts entries ts vs xs c.results
  forwarding asks gives so = inst.hands_forward m g f w memory entries p i ops c done so (values_in asks) (values_out gives)

  giving : asks_values (effect_of i.op) ≡ true → gives_values (effect_of i.op) ≡ true
      → ((all_roles is_consumed_role (roles_of i.op) && is_owned (result_kind_of i.op)) || ((all_roles is_forwarded_role (roles_of i.op) && is_forwarded (result_kind_of i.op))
      || (all_roles stays (roles_of i.op) && is_scope (result_kind_of i.op)))) ≡ true
      → HandsOn facts entries ts vs xs c.results
  giving asks gives so = at (either _ _ so)
    where
      at : ((all_roles is_consumed_role (roles_of i.op) && is_owned (result_kind_of i.op)) ≡ true)
          ⊎ (((all_roles is_forwarded_role (roles_of i.op) && is_forwarded (result_kind_of i.op)) || (all_roles stays (roles_of i.op) && is_scope (result_kind_of i.op))) ≡ true)
          → HandsOn facts entries ts vs xs c.results
      at (inl e) =
          let parts = and_parts (all_roles is_consumed_role (roles_of i.op)) (is_owned (result_kind_of i.op)) e in
          HandsOn.all (inst.consumed_all m g f w memory entries p i ops c done parts.0 (values_in asks)) (owned (owned_is (result_kind_of i.op) parts.1) gives)
      at (inr e) = more (either _ _ e)
        where
          more : ((all_roles is_forwarded_role (roles_of i.op) && is_forwarded (result_kind_of i.op)) ≡ true) ⊎ ((all_roles stays (roles_of i.op) && is_scope (result_kind_of i.op)) ≡ true)
              → HandsOn facts entries ts vs xs c.results
          more (inl e) = forwarding asks gives e
          more (inr e) =
              let parts = and_parts (all_roles stays (roles_of i.op)) (is_scope (result_kind_of i.op)) e in
              HandsOn.none (none parts.0) (inst.scope_brought m g f w memory entries p i ops c done (scope_is (result_kind_of i.op) parts.1))

  -- ---- places

  alive : Each (IsAlive memory) xs
  alive = given_alive facts memory entries ts ops done.found

  place_of : (q : Place) → xs ≡ AddressOf q ∷ [] → PlaceIs m w q
  place_of q given = one_place m w _ xs q (inst.operands_typed m g f w memory entries p i ops c done) given

  within_of : (q : Place) → xs ≡ AddressOf q ∷ [] → IsWithin memory q
  within_of q given = typed_within m w memory done.typed q (place_of q given) (alive_home memory q.home (subst (Each (IsAlive memory)) given alive).0)

  row_makes : (e : RowEffect) → effect_of i.op ≡ e → IsChange c (effect_by d (shapes_of m) values memory i (at_places d (shapes_of m) values memory i) e xs)
  row_makes e is = subst (λ r. IsChange c (effect_by d (shapes_of m) values memory i (at_places d (shapes_of m) values memory i) r xs)) is done.makes

  held_there : (q : Place) (a : Content) (e : Effect HolderFault) → IsChange c (where_held d (shapes_of m) values memory i q (Some a) e) → holds memory a q ≡ true
  held_there q a e h = at (is_there_at memory q) (holds memory a q) refl h
    where
      at : (there b : Bool) → holds memory a q ≡ b → IsChange c (cond there (cond b e (Faults (fault_of a))) (Faults NotLastSlot)) → holds memory a q ≡ true
      at true true so h = so
      at true false so h = cc
      at false b so h = cc

  empty_so : (q : Place) → PlaceIs m w q → holds memory content.Empty q ≡ true → (how : Storage) → KeepNone how (cells_at memory q)
  empty_so q at h how = empty_place m w how q.shape (cells_at memory q) h (place_cells m w memory done.typed q at)

  removed : effect_of i.op ≡ row.RemovesSlot → (q : Place) → xs ≡ AddressOf q ∷ [] → IsRemoved memory stored q
  removed is q given = record {
    within = within_of q given;
    none = empty_so q (place_of q given) (held_there q content.Empty _
        (subst (λ ys. IsChange c (effect_by d (shapes_of m) values memory i (at_places d (shapes_of m) values memory i) row.RemovesSlot ys)) given (row_makes row.RemovesSlot is)));
  }

  taken : (q : Place) → xs ≡ AddressOf q ∷ [] → IsTaken memory stored q
  taken q given = record { within = within_of q given; named = place_stored m w memory done.typed stored size q (place_of q given) }

  loads : (gives_values (effect_of i.op) ≡ true) → (o : Operation) (q : Place) → xs ≡ AddressOf q ∷ [] → LoadsBy d f i o q.shape
      → Loads facts entries ts vs d (shapes_of m) values memory i xs stored o q c.results
  loads gives o q given (LoadsBy.taking takes_so copies_so is bare) =
      Loads.takes_it takes_so copies_so (owned is gives)
      (record { within = within_of q given; strongly = kept_strongly m w q.shape (cells_at memory q) bare (place_cells m w memory done.typed q (place_of q given)) })
  loads gives o q given (LoadsBy.copying takes_so copies_so is) = Loads.copies_it takes_so copies_so (owned is gives)
  loads gives o q given (LoadsBy.reading r takes_so copies_so forms trivial) =
      let changed = inst.results_typed m g f w memory entries p i ops c done in
      Loads.reads_it takes_so copies_so (brings_bare facts entries ts vs xs c.results (bare_results m changed.later r _ c.results changed.results forms trivial))
  loads gives o q given (LoadsBy.lending takes_so copies_so is) =
      Loads.reads_it takes_so copies_so (inst.scope_brought m g f w memory entries p i ops c done is)

  -- ---- stores

  stores : effect_of i.op ≡ row.StoresValue → (o : Operation) (x : Value) (q : Place) → operation_done i ≡ Some o → xs ≡ ValueOf x ∷ AddressOf q ∷ []
      → StoresBy d f i → Stores facts entries ts vs d (shapes_of m) values memory i xs stored o x q
  stores is o x q op given by = at by
    where
      makes : IsChange c (memory_effects.stores_by d (shapes_of m) values memory i o x q)
      makes =
          subst (λ k. IsChange c (effects.with_some (λ o. memory_effects.two (memory_effects.value_and_place (memory_effects.stores_by d (shapes_of m) values memory i o))
          (ValueOf x ∷ AddressOf q ∷ [])) k)) op
          (subst (λ ys. IsChange c (effect_by d (shapes_of m) values memory i (at_places d (shapes_of m) values memory i) row.StoresValue ys)) given (row_makes row.StoresValue is))

      empty : PlaceIs m w q → is_first_write o ≡ true → (how : Storage) → KeepNone how (cells_at memory q)
      empty at first =
          empty_so q at (held_there q content.Empty (effects.Makes (record (unchanged (filled memory q x)) { dropped = references_at memory q })) (subst (λ a. IsChange c
          (where_held d (shapes_of m) values memory i q a (effects.Makes (record (unchanged (filled memory q x)) { dropped = references_at memory q })))) (first_write o q.is_part first) makes))

      lives : IsAliveAt memory q.home
      lives = alive_home memory q.home (subst (Each (IsAlive memory)) given alive).1.0

      typed : (s t : Shape) → forms_of d f (map value_in i.operands) ≡ OfValue s ∷ OfPlace t ∷ [] → IsPair m w s t x q
      typed s t forms = pair m w s t x q _ xs (inst.operands_typed m g f w memory entries p i ops c done) forms given

      -- the value's own shape is that of the place
      of_shape : (t : Shape) → q.shape ≡ t → PlaceIs m w q → Suits m w t x
          → ((weight : ObjectId → ℕ) → of_references weight (references_ended facts entries ts) ≡ in_cells weight storage.Strong ((cells.in_cells t).cells x))
          → Stores facts entries ts vs d (shapes_of m) values memory i xs stored o x q
      of_shape t shape at good held = record {
        written = record {
          within = typed_within m w memory done.typed q at lives;
          as_many = ap (λ s. length ((cells.in_cells s).cells x)) shape ∙ written_length m w t x good ∙ ap cells.cell_count (sym shape);
          named = place_stored m w memory done.typed stored size q at;
          names = subst (λ s. AreNamesStored stored ((cells.in_cells s).cells x)) (sym shape) (written_stored m w memory done.typed stored size t x good);
          first = λ first. (empty at first storage.Weak, empty at first storage.Unowned);
        };
        held = λ weight. held weight ∙ ap (λ s. in_cells weight storage.Strong ((cells.in_cells s).cells x)) (sym shape);
      }

      ended : (weight : ObjectId → ℕ) (us : List Taken) (ys : List Datum) → AllZip (IsTakenAs facts entries) us (ValueOf x ∷ ys) → Heads role.Consumed us
          → Each (λ (u : Taken). SuitsRole d f u.role u.value) us
          → of_references weight (references_ended facts entries us) ≡ of_references weight (references_of x)
      ended weight [] ys given' heads kinds = absurd given'
      ended weight (u ∷ us) ys given' heads kinds =
          let both : of_references weight (references_ended facts entries (u ∷ us))
          ≡ of_references weight (references_ended_by facts entries u) + of_references weight (references_ended facts entries us) =
          total_append weight (references_ended_by facts entries u) (references_ended facts entries us) in
          let first : of_references weight (references_ended_by facts entries u) ≡ of_references weight (references_of x) =
          gives_one facts entries weight u (ValueOf x) given'.0 (ap ends_owned heads.0) (subst (λ r. SuitsRole d f r u.value) heads.0 kinds.0) (x, refl) in
          let rest = takes_none facts entries vs us ys given'.1 (each_weaker _ _ (λ t e. inl (staying_role t.role e)) us heads.1) weight in
          omega (arith, both, first, rest)

      at : StoresBy d f i → Stores facts entries ts vs d (shapes_of m) values memory i xs stored o x q
      at (StoresBy.strongly s roles forms bare) =
          let is = typed s s forms in
          of_shape s is.shape is.place is.value (λ weight.
          ended weight ts (AddressOf q ∷ []) (subst (AllZip (IsTakenAs facts entries) ts) given (inst.given m g f w memory entries p i ops c done))
          (subst (Heads role.Consumed) (sym (inst.taken_is m g f w memory entries p i ops c done ∙ ap (λ rs. taken_each i.operands (roles_for rs (conventions_in i) (length i.operands))) roles))
          (store_heads role.Consumed (conventions_in i) i.operands))
          (inst.suited_each m g f w memory entries p i ops c done)
          ∙ written_strongly m w s x bare is.value weight)
      at (StoresBy.weakly how s roles forms named) =
          let is = typed s (Stored how s) forms in
          of_shape (Stored how s) is.shape is.place (named_suits_storage (names m w) how s x named is.value)
          (λ weight. none (ap (all_roles stays) roles) weight ∙ sym (written_weakly m w how (named_other how s named) s x weight))

  -- ---- all

  says : (e : RowEffect) → effect_of i.op ≡ e → suits e i.op ≡ true
  says = inst.table_says m g f w memory entries p i ops c done

  pub rows : (e : RowEffect) → effect_of i.op ≡ e → Row e
  rows row.NoEffect is = none (says row.NoEffect is)
  rows row.GivesLiteral is = none (says row.GivesLiteral is)
  rows row.GivesFunction is = none (says row.GivesFunction is)
  rows row.Computes is = none (says row.Computes is)
  rows row.TrapsWhereSet is = none (says row.TrapsWhereSet is)
  rows row.MakesObject is = owning (says row.MakesObject is) (ap gives_values is)
  rows row.MakesSlot is = none (says row.MakesSlot is)
  rows row.RemovesSlot is = (none (says row.RemovesSlot is), removed is)
  rows row.GivesOperand is = giving (ap asks_values is) (ap gives_values is) (says row.GivesOperand is)
  rows row.CopiesOperand is = owning (says row.CopiesOperand is) (ap gives_values is)
  rows row.RetainsOperand is = absurd (false≢true (says row.RetainsOperand is))
  rows row.DropsOperand is = inst.consumed_all m g f w memory entries p i ops c done (says row.DropsOperand is) (values_in (ap asks_values is))
  rows row.LoadsValue is = (
    none (and_parts (all_roles stays (roles_of i.op)) (is_owned (result_kind_of i.op) || is_scope (result_kind_of i.op)) (says row.LoadsValue is)).0,
    λ o q op given. loads (ap gives_values is) o q given (words.loads is o q op given),
  )
  rows row.StoresValue is = λ o x q op given. stores is o x q op given (words.stores is)
  rows row.DestroysPlace is = (none (says row.DestroysPlace is), λ o q op given. (words.destroys is o op, taken q given))
  rows row.LoadsName is =
      let both = owning (says row.LoadsName is) (ap gives_values is) in (
        both.0,
        both.1,
        λ o q op given.
            let s = words.names is q given in (
              taken q given,
              stored_none m w s.how s.other s.inner (cells_at memory q) (subst (λ t. PlaceCells m w t (cells_at memory q)) s.is
                  (place_cells m w memory done.typed q (place_of q given))),
            ),
      )
  rows row.Groups is = forwarding (ap asks_values is) (ap gives_values is) (says row.Groups is)
  rows row.ChoosesCase is = forwarding (ap asks_values is) (ap gives_values is) (says row.ChoosesCase is)
  rows row.GivesMember is = inst.lent_rows m g f w memory entries p i ops c done (says row.GivesMember is)
  rows row.GivesMembers is = forwarding (ap asks_values is) (ap gives_values is) (says row.GivesMembers is)
  rows row.AddressesMember is = addressing (says row.AddressesMember is)
  rows row.AddressesField is = addressing (says row.AddressesField is)
  rows row.CallsFunction is = tt

pub rows_owned : AreRowsOwned
rows_owned m g f w memory entries p i ops c stored done words size = rows m g f w memory entries p i ops c done words stored size (effect_of i.op) refl
