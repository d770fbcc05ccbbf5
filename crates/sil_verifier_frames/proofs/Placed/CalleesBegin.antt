-- A callee begins: the data of its arguments are those that it was handed, and the places that it was given those that the call lends.
use Rattle.std.proofs.Common.{◌≡◌, ⊎_elim, ◌==◌, ◌||◌, ◌<◌, ℕ, zero, suc, List, [], ◌∷◌, length, map, Bool, true, false, Option, Some, Ok, Err, refl}
use Rattle.std.proofs.Common.{sym, ap, ap₂, ◌∙◌, subst, slice_get, arith, eq-eqb, eqb-true}
use Rattle.std.specs.declared.result.Result.{Result}
use Rattle.std.proofs.lemmas.Bool.{cases_Bool, false≢true, or_cases}
use Rattle.std.proofs.lemmas.List.{length-replicate}
use Rattle.std.proofs.lemmas.Option.{none-some, same_Some}
use Rattle.holder_model_laws.specs.holder_model.Calling.{argument_data, as_argument, given_places, lent_places, places_given, value_count}
use Rattle.holder_model_laws.specs.holder_model.Data.{AddressOf, Datum}
use Rattle.holder_model_laws.specs.holder_model.Faults.{HolderFault}
use Rattle.holder_model_laws.specs.holder_model.Frames.{Entry, Gone, datum_in, entry_at, no_entries, result_put, results_put, with_ok}
use Rattle.holder_model_laws.specs.memory_rules_accesses.Sources.{source_at, sources_of}
use Rattle.holder_model_laws.specs.memory_rules_accesses.declared.source.Source.TheVariants as source
use Rattle.sil_verifier_trails.specs.sil_verifier_values.inner.Known.{IsAcceptedBody}
use Rattle.holder_model_laws.specs.holder_model.RunTyping.CallForms.{IsOf}
use Rattle.sil_verifier_trails.proofs.sil_verifier_values.Made.{distinct, items_of}
use Rattle.argument_conventions.specs.Arguments.{Told, arguments_of}
use Rattle.argument_conventions.specs.Rows.{address_row}
use Rattle.argument_conventions.specs.declared.row.AddressRow.{AddressRow}
use Rattle.sil_cfg_items.specs.Items.{item_defined}
use Rattle.sil_cfg_items.specs.declared.taken.Taken.{Taken}
use Rattle.holder_model_laws.specs.ownership_kinds_chains.OwnershipChains.Facts.{has}
use Rattle.holder_model_laws.specs.ownership_kinds_chains.declared.ownership_chains.facts.Facts.{Facts}
use Rattle.sil_verifier_trails.specs.PlacedValues.inner.Arguments.{IsTold}
use Rattle.holder_model_values.specs.RunValues.Places.{Place}
use Rattle.sil_ast.specs.declared.function.Function.{Function}
use Rattle.sil_ast.specs.declared.module.Module.{Module}
use Rattle.sil_ast.specs.declared.place.ValueId.{ValueId}
use Rattle.sil_cfg.specs.declared.item.Item.TheVariants as item
use Rattle.sil_types_declarations.specs.TypeDefinitions.Declarations.{declarations_of}
use Rattle.sil_verifier_frames.specs.inner.Placed.FramePlaces.{Names}
use Rattle.sil_verifier_frames.specs.inner.Placed.PlaceStates.{as_given}
use Rattle.sil_verifier_frames.specs.inner.Placed.TakenPlaces.{AreAlike, AreHandedAs}
use Rattle.sil_verifier_frames.specs.inner.Placed.TrailLaws.{TrailLaws}
use Rattle.sil_verifier_frames.proofs.Placed.Beginning.{all_gone}
use Rattle.sil_verifier_frames.proofs.Placed.EntriesKept.{AreOnce, results_other, results_size, results_there}
use Rattle.sil_verifier_frames.proofs.Placed.Given.{get_mapped, mapped_get}
use Rattle.sil_verifier_frames.proofs.Placed.Handing.{given_alike}
use Rattle.sil_verifier_frames.proofs.Placed.Keeping.{each_has}

-- ---- values that stand once

found_at : (vs : List ValueId) (v : ValueId) → has vs v.0 ≡ true → (k : ℕ) × (slice_get vs k ≡ Some v)
found_at [] v e = absurd (false≢true e)
found_at (w ∷ vs) v e = ⊎_elim
    (λ (here : (w.0 == v.0) ≡ true). (0, ap (λ (n : ℕ). Some (record { 0 = n })) (eqb-true w.0 v.0 here)))
    (λ (later : has vs v.0 ≡ true). let r = found_at vs v later in (suc r.0, r.1))
    (or_cases (w.0 == v.0) (has vs v.0) e)

abbrev AreDistinct : List ValueId → Type 0
AreDistinct vs = (k l : ℕ) (v : ValueId) → slice_get vs k ≡ Some v → slice_get vs l ≡ Some v → k ≡ l

module _ (facts : ValueId → Option Facts) where
  stand_once : (vs : List ValueId) → AreDistinct vs → AreOnce facts vs
  stand_once [] h = tt
  stand_once (v ∷ vs) h = (
    ⊎_elim
        (λ (again : has vs v.0 ≡ true). let r = found_at vs v again in let never : 0 ≡ suc r.0 = h 0 (suc r.0) v refl r.1 in absurd (omega (arith, never)))
        (λ (none : has vs v.0 ≡ false). none)
        (cases_Bool (has vs v.0)),
    stand_once vs (λ k l w a b. let e : suc k ≡ suc l = h (suc k) (suc l) w a b in omega (arith, e)),
  )

  -- what is put is there, one by one
  data_put : (vs : List ValueId) (xs : List Datum) (entries behind : List Entry) → results_put facts vs xs entries ≡ Ok behind → AreOnce facts vs
      → ((v : ValueId) → has vs v.0 ≡ true → v.0 < length entries) → argument_data behind vs ≡ map Some xs
  data_put [] [] entries behind is once fits = refl
  data_put [] (x ∷ xs) entries behind is once fits = absurd (cc)
  data_put (v ∷ vs) [] entries behind is once fits = absurd (cc)
  data_put (v ∷ vs) (x ∷ xs) entries behind is once fits = ap₂ (λ y ys. y ∷ ys)
      (results_there facts (v ∷ vs) (x ∷ xs) entries behind is once 0 v x refl refl (fits v (ap (λ b. b || has vs v.0) (eq-eqb v.0 v.0 refl))))
      (at (result_put facts v x entries) refl is (λ es put h. data_put vs xs es behind h once.1 (λ u there.
      subst (λ n. u.0 < n) (sym (results_size facts (v ∷ []) (x ∷ []) entries es (ap (with_ok (results_put facts [] [])) put))) (fits u (later (v.0 == u.0) (has vs u.0) there)))))
    where
      later : (a b : Bool) → b ≡ true → (a || b) ≡ true
      later true b e = refl
      later false b e = e

      at : (r : Result (List Entry) HolderFault) → result_put facts v x entries ≡ r → with_ok (results_put facts vs xs) r ≡ Ok behind
          → ((es : List Entry) → result_put facts v x entries ≡ Ok es → results_put facts vs xs es ≡ Ok behind → argument_data behind vs ≡ map Some xs)
          → argument_data behind vs ≡ map Some xs
      at (Ok es) put h go = go es put h
      at (Err y) put h go = absurd (cc)

-- ---- what a callee was handed

map_twice : {A B C : Type 0} (g : A → B) (h : B → C) (xs : List A) → map h (map g xs) ≡ map (λ x. h (g x)) xs
map_twice g h [] = refl
map_twice g h (x ∷ xs) = ap (λ ys. h (g x) ∷ ys) (map_twice g h xs)

-- where an argument is handed over by its address, so is the operand
handed_at : (entries : List Entry) (told : List Told) (ts : List Taken) (xs : List Datum) → AreAlike told ts → AreHandedAs entries ts xs
    → (k : ℕ) (a : Told) (x : Datum) (row : AddressRow) → slice_get told k ≡ Some a → slice_get xs k ≡ Some x → address_row a.convention ≡ Some row → (p : Place) × (x ≡ AddressOf p)
handed_at entries [] ts xs alike handed k a x row there at is = absurd (none-some a there)
handed_at entries (b ∷ told) [] xs alike handed k a x row there at is = absurd alike
handed_at entries (b ∷ told) (t ∷ ts) [] alike handed k a x row there at is = absurd handed
handed_at entries (b ∷ told) (t ∷ ts) (y ∷ xs) alike handed zero a x row there at is =
    let r = handed.0 row (alike.0 ∙ ap (λ (z : Told). address_row z.convention) (same_Some b a there) ∙ is) in
    (r.0, sym (same_Some y x at) ∙ r.1)
handed_at entries (b ∷ told) (t ∷ ts) (y ∷ xs) alike handed (suc k) a x row there at is = handed_at entries told ts xs alike.1 handed.1 k a x row there at is

module _ (laws : TrailLaws) (m : Module) (number : ℕ) (callee : Function) (accepted : IsAcceptedBody m number callee) (facts : ValueId → Option Facts) (entries : List Entry) where
  abbrev vs : List ValueId
  vs = item_defined callee item.Entry

  module _ (xs : List Datum) (put : results_put facts (item_defined callee item.Entry) xs (no_entries (value_count callee)) ≡ Ok entries) where
    pub data_given : argument_data entries (item_defined callee item.Entry) ≡ map Some xs
    data_given = data_put facts vs xs (no_entries (value_count callee)) entries put (stand_once facts vs (λ k l v. distinct m number callee accepted item.Entry k l v))
        (λ v there. subst (λ n. v.0 < n) (sym (length-replicate (value_count callee) Gone)) (each_has (IsOf callee) vs v (items_of m number callee accepted item.Entry).defined there))

    pub others_gone : (v : ValueId) → has (item_defined callee item.Entry) v.0 ≡ false → entry_at entries v ≡ Gone
    others_gone v none = results_other facts vs xs (no_entries (value_count callee)) entries put v none ∙ all_gone (value_count callee) v.0

  module _ (args : List Datum) (left : List Entry) (ts : List Taken) (put : results_put facts (item_defined callee item.Entry) (map as_argument args) (no_entries (value_count callee)) ≡ Ok entries)
      (alike : AreAlike (arguments_of callee.signature) ts) (handed : AreHandedAs left ts args) where
    as_arguments : argument_data entries (item_defined callee item.Entry) ≡ map (λ x. Some (as_argument x)) args
    as_arguments = data_given (map as_argument args) put ∙ map_twice as_argument Some args

    -- it was given what the call lends
    pub given_lent : places_given callee entries ≡ map as_given (lent_places ts args)
    given_lent = ap (given_places (arguments_of callee.signature)) as_arguments ∙ given_alike (arguments_of callee.signature) ts args alike

    -- and each argument that is handed over by its address names its place
    pub arguments_named : (v : ValueId) (row : AddressRow) (trivial : Bool) → source_at (sources_of (declarations_of m) callee) v ≡ source.Argument row trivial → (p : Place) × Names entries v p
    arguments_named v row trivial src = (record p.0 { is_part = false }, sym x.2 ∙ ap (λ y. Some (as_argument y)) p.1)
      where
        told : IsTold (declarations_of m) callee v row trivial
        told = laws.told m number callee accepted v row trivial src

        there : slice_get (map (λ y. Some (as_argument y)) args) told.number ≡ Some (datum_in (entry_at entries v))
        there = sym (ap (λ ys. slice_get ys told.number) as_arguments) ∙ get_mapped (λ w. datum_in (entry_at entries w)) vs told.number v told.is

        x : (y : Datum) × (slice_get args told.number ≡ Some y) × (Some (as_argument y) ≡ datum_in (entry_at entries v))
        x = mapped_get (λ y. Some (as_argument y)) args told.number (datum_in (entry_at entries v)) there

        p : (q : Place) × (x.0 ≡ AddressOf q)
        p = handed_at left (arguments_of callee.signature) ts args alike handed told.number told.told x.0 row told.told_is x.1 told.row_is
