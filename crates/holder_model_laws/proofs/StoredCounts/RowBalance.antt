-- What an instruction leaves is counted: row by row, what it brings, drops and leaves in memory is what it took, made anew and found there.
use Rattle.std.proofs.Common.{◌≡◌, ℕ, suc, ◌+◌, ◌≤◌, List, [], ◌∷◌, ◌++◌, map, length, drop, arith, refl, sym, ap, ◌∙◌, subst, Bool, true, false, cond, Option, Some}
use Rattle.std.specs.Prelude.{option_and_then}
use Rattle.std.proofs.lemmas.Bool.{false≢true}
use Rattle.std.proofs.lemmas.List.{length-drop, length-take-le}
use Rattle.memory_rules_parts.specs.ownership_kinds_chains.OwnershipChains.Facts.{known_or}
use Rattle.memory_rules_parts.specs.ownership_kinds_chains.declared.ownership_chains.facts.Facts.{Facts}
use Rattle.sil_ast.specs.declared.decl.Storage.{Storage}
use Rattle.sil_ast.specs.declared.decl.Storage.TheVariants as storage
use Rattle.sil_ast.specs.declared.inst.Inst.{Inst}
use Rattle.sil_ast.specs.declared.place.ObjectId.{ObjectId}
use Rattle.sil_ast.specs.declared.place.ValueId.{ValueId}
use Rattle.sil_cfg_items.specs.declared.taken.Taken.{Taken}
use Rattle.sil_types_declarations.specs.TypeDefinitions.Declarations.{Declarations}
use Rattle.sil_types_declarations.specs.declared.type_definitions.kind.Kind.{Kind}
use Rattle.sil_types_declarations.specs.declared.type_definitions.kind.Kind.TheVariants as kind
use Rattle.holder_model.specs.holder_model_values.RunValues.Cells.{cell_count}
use Rattle.holder_model.specs.holder_model_values.RunValues.Cells as cells
use Rattle.holder_model.specs.holder_model_values.RunValues.Memory.{Memory, Object, new_object}
use Rattle.holder_model.specs.holder_model_values.RunValues.Places.{Place, cells_at, emptied, filled, home_cells, removed, value_at}
use Rattle.holder_model.specs.holder_model_values.RunValues.Shapes.{Shape}
use Rattle.holder_model.specs.holder_model_values.RunValues.Values as value
use Rattle.holder_model.specs.holder_model_values.RunValues.Values.{Value, references_of}
use Rattle.memory_rules_parts.specs.memory_rules_accesses.declared.access.Operation.{Operation}
use Rattle.holder_model.specs.Data.{AddressOf, Datum, ValueOf, as_function, as_place, home_references, references_in}
use Rattle.holder_model.specs.Effects as effects
use Rattle.holder_model.specs.Effects.{Calls, Change, effect_of, only, unchanged}
use Rattle.holder_model.specs.Frames.{Entry}
use Rattle.holder_model.specs.Holders.{in_cells, in_memory, of_references, one_object}
use Rattle.holder_model.specs.MemoryEffects.{copies_with, operation_done, references_at, takes}
use Rattle.holder_model.specs.ModuleShapes.{ModuleShapes, field_shapes}
use Rattle.holder_model.specs.Outcomes.{Numbers}
use Rattle.holder_model.specs.declared.row_effect.RowEffect.{RowEffect}
use Rattle.holder_model.specs.declared.row_effect.RowEffect.TheVariants as row
use Rattle.holder_model.specs.LoweredRun.LowEffects as low
use Rattle.holder_model.specs.LoweredRun.LowEffects.{stored_behind, stored_by}
use Rattle.holder_model.specs.LoweredRun.Stored.{unnamed}
use Rattle.holder_model_laws.specs.HolderLaws.inner.Counts.Doing as doing
use Rattle.holder_model_laws.specs.HolderLaws.inner.Counts.Doing.{Leaves, giving}
use Rattle.holder_model_laws.specs.HolderLaws.inner.Counts.Naming.{in_data, in_datum}
use Rattle.holder_model_laws.specs.HolderLaws.inner.Counts.Taking.{owned_references, references_begun, references_ended}
use Rattle.holder_model_laws.proofs.HolderLaws.Counts.Alive.{members_named, values_named}
use Rattle.holder_model_laws.proofs.HolderLaws.Counts.Changes.{changes_told}
use Rattle.holder_model_laws.proofs.HolderLaws.Counts.Places.{emptied_counted, new_counted, places_counted, references_counted}
use Rattle.holder_model_laws.proofs.HolderLaws.Counts.Sums.{total_append, total_cons}
use Rattle.holder_model_laws.proofs.HolderLaws.Counts.Values.{read_counted}
use Rattle.holder_model_laws.specs.StoredCounts.inner.Items.{AreMade, AreNamesBehind}
use Rattle.holder_model_laws.specs.StoredCounts.inner.Rows.{AreRowsCounted, HandsOn, IsRemoved, IsRowCounted, IsTaken, Loads, Owns, Stores, TakesNone}
use Rattle.holder_model_laws.proofs.StoredCounts.QuietRows.{changes_names, stays_stored, untold_quiet}
use Rattle.holder_model_laws.proofs.StoredCounts.RowNames.{names_stay, same_objects, strong_none, taken_names, written_names}
use Rattle.holder_model_laws.proofs.StoredCounts.RowsMade as exactly
use Rattle.holder_model_laws.proofs.StoredCounts.RowsMade.{IsChange, MakesBy, found_in, is_told, made_by}

longer : (xs : List Object) (x : Object) → length (xs ++ x ∷ []) ≡ suc (length xs)
longer [] x = refl
longer (y ∷ xs) x = ap suc (longer xs x)

module _ (facts : ValueId → Option Facts) (entries : List Entry) (ts : List Taken) (vs : List ValueId) (d : Declarations) (shapes : ModuleShapes)
    (values : List Shape) (m : Memory) (i : Inst) (xs : List Datum) (stored : List Numbers) where
  abbrev Owned : RowEffect → List Datum → Type 0
  Owned r rs = Owns facts entries ts vs d shapes values m i xs stored r rs

  abbrev Counted : Change → Type 0
  Counted c = IsRowCounted facts entries ts vs d shapes values m i xs stored c

  abbrev None : Type 0
  None = TakesNone facts entries ts vs xs

  abbrev behind : Operation → Place → Memory
  behind o p = exactly.behind d shapes values m i xs o p

  module _ (weight : ObjectId → ℕ) where
    abbrev begun : List Datum → ℕ
    begun rs = of_references weight (references_begun facts vs rs)

    abbrev ended : ℕ
    ended = of_references weight (references_ended facts entries ts)

    abbrev held : Memory → ℕ
    held later = in_memory weight storage.Strong later

    no_results : (us : List ValueId) → of_references weight (references_begun facts us []) ≡ 0
    no_results [] = refl
    no_results (u ∷ us) = refl

    bare_result : (us : List ValueId) (x : Datum) → references_in x ≡ [] → of_references weight (references_begun facts us (x ∷ [])) ≡ 0
    bare_result [] x e = refl
    bare_result (u ∷ us) x e =
        let both : of_references weight (owned_references (known_or facts u).kind x ++ references_begun facts us [])
        ≡ of_references weight (owned_references (known_or facts u).kind x) + of_references weight (references_begun facts us []) =
        total_append weight (owned_references (known_or facts u).kind x) (references_begun facts us []) in
        let first = one (known_or facts u).kind in
        let rest = no_results us in
        omega (arith, both, first, rest)
      where
        one : (k : Kind) → of_references weight (owned_references k x) ≡ 0
        one kind.Owned = ap (of_references weight) e
        one kind.Guaranteed = refl
        one kind.Plain = refl

    one_datum : (x : Datum) → in_data weight (x ∷ []) ≡ in_datum weight x
    one_datum x = let one : in_data weight (x ∷ []) ≡ in_datum weight x + 0 = total_cons (in_datum weight) x [] in omega (arith, one)

    -- what is handed on is held as before
    handed : (rs : List Datum) → HandsOn facts entries ts vs xs rs → in_data weight rs ≡ in_data weight xs → begun rs ≡ ended
    handed rs (HandsOn.all takes brings) e = brings weight ∙ e ∙ sym (takes weight)
    handed rs (HandsOn.none takes brings) e = brings weight ∙ sym (takes weight)

    -- what a place loses
    place_left : (p : Place) → IsTaken m stored p → held (emptied m p) + of_references weight (references_at m p) ≡ held m
    place_left p h =
        let less = (emptied_counted weight storage.Strong m p h.within).0 in
        let same : of_references weight (references_at m p) ≡ in_cells weight storage.Strong (cells_at m p) = (references_counted weight).0 m p in
        omega (arith, less, same)

    quiet_balance : (rs : List Datum) → begun rs ≡ ended → begun rs + 0 + held m ≡ ended + 0 + 0 + held m
    quiet_balance rs e = omega (arith, e)

  -- ---- numbers

  stays_named : changes_names (effect_of i.op) ≡ false → (later : Memory)
      → ((how : Storage) → (how ≡ storage.Strong → ⊥) → (o : ObjectId) → in_memory (one_object o) how later ≡ in_memory (one_object o) how m)
      → AreNamesBehind m later stored (stored_behind d shapes values m i xs stored)
  stays_named quiet later same = subst (λ b. AreNamesBehind m later stored b) (sym (stays_stored d shapes values m i xs stored (effect_of i.op) quiet)) (names_stay m stored later same)

  -- memory stays, and nothing is retained, dropped or made
  quiet : changes_names (effect_of i.op) ≡ false → (rs : List Datum) → ((weight : ObjectId → ℕ) → begun weight rs ≡ ended weight) → Counted (giving m rs)
  quiet stays rs same = record {
    made = [];
    are_made = AreMade.none refl;
    balance = λ weight. quiet_balance weight rs (same weight);
    named = stays_named stays m (λ how other o. refl);
  }

  abbrev taken_at : Operation → Place → List Numbers
  taken_at o p = low.taken_at d shapes values m i o p stored

  -- the numbers that are stored where a place is taken
  place_taken : (o : Operation) (p : Place) → operation_done d shapes values m i ≡ Some o → xs ≡ AddressOf p ∷ []
      → low.place_taken d shapes values m i (low.operation_done d shapes values m i) (option_and_then as_place (only xs)) stored ≡ taken_at o p
  place_taken o p done given =
      ap (λ q. low.place_taken d shapes values m i q (option_and_then as_place (only xs)) stored) done
      ∙ ap (λ (ys : List Datum). low.place_taken d shapes values m i (Some o) (option_and_then as_place (only ys)) stored) given

  after_names : (o : Operation) (p : Place) → IsTaken m stored p → AreNamesBehind m (behind o p) stored (taken_at o p)
  after_names o p h = at (takes o)
    where
      at : (b : Bool) → AreNamesBehind m (cond b (emptied m p) m) stored (cond b (unnamed (cells_at m p) stored) stored)
      at true = taken_names m stored p h
      at false = names_stay m stored m (λ how other o. refl)

  after_objects : (o : Operation) (p : Place) → length (behind o p).objects ≡ length m.objects
  after_objects o p = at (takes o)
    where
      at : (b : Bool) → length (cond b (emptied m p) m).objects ≡ length m.objects
      at true = same_objects m p.home _
      at false = refl

  -- ---- rows that are told exactly

  name_counted : effect_of i.op ≡ row.LoadsName → (o : Operation) (p : Place) (rs : List Datum) (os : List ObjectId) → operation_done d shapes values m i ≡ Some o → xs ≡ AddressOf p ∷ []
      → ((weight : ObjectId → ℕ) → in_data weight rs ≡ of_references weight os) → Owned row.LoadsName rs
      → Counted (record (unchanged (behind o p)) { results = rs; retained = os })
  name_counted is o p rs os done given same owns = record {
    made = [];
    are_made = AreMade.none (after_objects o p);
    balance = λ weight.
        let none = owns.0 weight in
        let brings = owns.1 weight in
        let all = same weight in
        let stays = held_same weight in
        omega (arith, none, brings, all, stays);
    named = subst (λ b. AreNamesBehind m (behind o p) stored b)
        (sym (ap (λ r. stored_by d shapes values m i r xs stored) is ∙ place_taken o p done given)) (after_names o p (owns.2 o p done given).0);
  }
    where
      held_same : (weight : ObjectId → ℕ) → in_memory weight storage.Strong (behind o p) ≡ in_memory weight storage.Strong m
      held_same weight = at (takes o)
        where
          at : (b : Bool) → in_memory weight storage.Strong (cond b (emptied m p) m) ≡ in_memory weight storage.Strong m
          at true =
              let less = (emptied_counted weight storage.Strong m p (owns.2 o p done given).0.within).0 in
              let nothing = (owns.2 o p done given).1 weight in
              omega (arith, less, nothing)
          at false = refl

  exact : (r : RowEffect) (c : Change) → effect_of i.op ≡ r → MakesBy d shapes values m i xs r c → Owned r c.results → Counted c
  exact _ _ is (MakesBy.gives x given) owns =
      quiet (ap changes_names is) (x ∷ []) (λ weight. handed weight (x ∷ []) owns (sym (ap (in_data weight) given)))
  exact _ _ is (MakesBy.drops x given) owns = record {
    made = [];
    are_made = AreMade.none refl;
    balance = λ weight.
        let all = owns weight in
        let one : in_data weight xs ≡ in_datum weight x = ap (in_data weight) given ∙ one_datum weight x in
        let none : begun weight [] ≡ 0 = no_results weight vs in
        omega (arith, all, one, none);
    named = stays_named (ap changes_names is) m (λ how other o. refl);
  }
  exact _ _ is (MakesBy.names o p x done given) owns = name_counted is o p (ValueOf x ∷ []) (references_of x) done given (λ weight. one_datum weight (ValueOf x)) owns
  exact _ _ is (MakesBy.names_none o p done given) owns =
      name_counted is o p (ValueOf (value.Case 0) ∷ []) [] done given (λ weight. one_datum weight (ValueOf (value.Case 0))) owns
  exact _ _ is (MakesBy.stores o x p done given) owns = record {
    made = [];
    are_made = AreMade.none (same_objects m p.home _);
    balance = λ weight.
        let put = places_counted weight storage.Strong m p ((cells.in_cells p.shape).cells x) so.written.within so.written.as_many in
        let took = so.held weight in
        let dropped : of_references weight (references_at m p) ≡ in_cells weight storage.Strong (cells_at m p) = (references_counted weight).0 m p in
        let none : begun weight [] ≡ 0 = no_results weight vs in
        omega (arith, put, took, dropped, none);
    named = subst (λ b. AreNamesBehind m (filled m p x) stored b)
        (sym (ap (λ r. stored_by d shapes values m i r xs stored) is ∙ ap (λ (ys : List Datum). low.both_stored d shapes values m i ys stored) given
        ∙ ap (λ q. low.value_stored d shapes values m i q (Some x) (Some p) stored) done))
        (written_names m stored o x p so.written);
  }
    where
      so : Stores facts entries ts vs d shapes values m i xs stored o x p
      so = owns o x p done given
  exact _ _ is (MakesBy.destroys o p done given) owns = record {
    made = [];
    are_made = AreMade.none (after_objects o p);
    balance = λ weight.
        let none = owns.0 weight in
        let left = place_left weight p so.1 in
        let emptied_so : in_memory weight storage.Strong (behind o p) ≡ in_memory weight storage.Strong (emptied m p) =
        ap (λ b. in_memory weight storage.Strong (cond b (emptied m p) m)) so.0 in
        let nothing : begun weight [] ≡ 0 = no_results weight vs in
        omega (arith, none, left, emptied_so, nothing);
    named = subst (λ b. AreNamesBehind m (behind o p) stored b)
        (sym (ap (λ r. stored_by d shapes values m i r xs stored) is ∙ place_taken o p done given)) (after_names o p so.1);
  }
    where
      so : (takes o ≡ true) × IsTaken m stored p
      so = owns.1 o p done given
  exact _ _ is (MakesBy.groups ws are) owns =
      quiet (ap changes_names is) (ValueOf (value.grouped ws) ∷ [])
      (λ weight. handed weight (ValueOf (value.grouped ws) ∷ []) owns (one_datum weight (ValueOf (value.grouped ws)) ∙ values_named weight xs ws are))
  exact _ _ is (MakesBy.case_alone k given) owns =
      quiet (ap changes_names is) (ValueOf (value.Case k) ∷ []) (λ weight. handed weight (ValueOf (value.Case k) ∷ []) owns
      (one_datum weight (ValueOf (value.Case k)) ∙ sym (ap (in_data weight) given)))
  exact _ _ is (MakesBy.case_full k x are) owns =
      quiet (ap changes_names is) (ValueOf (value.Full k x) ∷ [])
      (λ weight. handed weight (ValueOf (value.Full k x) ∷ []) owns (one_datum weight (ValueOf (value.Full k x)) ∙ last weight ∙ values_named weight xs (x ∷ []) are))
    where
      last : (weight : ObjectId → ℕ) → of_references weight (references_of x) ≡ of_references weight (references_of x ++ [])
      last weight = let both : of_references weight (references_of x ++ []) ≡ of_references weight (references_of x) + 0 = total_append weight (references_of x) [] in omega (arith, both)
  exact _ _ is (MakesBy.members x ys given are) owns =
      quiet (ap changes_names is) (map ValueOf ys)
      (λ weight. handed weight (map ValueOf ys) owns (members_named weight x ys are ∙ sym (one_datum weight (ValueOf x)) ∙ sym (ap (in_data weight) given)))

  -- ---- and the others

  not_told : (r : RowEffect) → is_told (effect_of i.op) ≡ false → effect_of i.op ≡ r → is_told r ≡ true → ⊥
  not_told r told is true' = false≢true (sym told ∙ ap is_told is ∙ true')

  takes_none : (r : RowEffect) (c : Change) → is_told r ≡ false → IsChange c (exactly.effect_at d shapes values m i xs c r) → Owned r c.results → None
  takes_none row.NoEffect c told h owns = owns
  takes_none row.GivesLiteral c told h owns = owns
  takes_none row.GivesFunction c told h owns = owns
  takes_none row.Computes c told h owns = owns
  takes_none row.TrapsWhereSet c told h owns = owns
  takes_none row.MakesObject c told h owns = owns.0
  takes_none row.MakesSlot c told h owns = owns
  takes_none row.RemovesSlot c told h owns = owns.0
  takes_none row.CopiesOperand c told h owns = owns.0
  takes_none row.RetainsOperand c told h owns = absurd owns
  takes_none row.LoadsValue c told h owns = owns.0
  takes_none row.GivesMember c told h owns = owns.0
  takes_none row.AddressesMember c told h owns = owns.0
  takes_none row.AddressesField c told h owns = owns.0
  takes_none row.CallsFunction c told h owns = absurd (no_call xs h)
    where
      no_call : (ys : List Datum) → IsChange c (effects.calls d shapes values m i ys) → ⊥
      no_call [] h = cc
      no_call (f ∷ args) h = let g = found_in (λ g. Calls g args) (as_function f) c h in let e = g.2 in cc
  takes_none row.GivesOperand c told h owns = cc
  takes_none row.DropsOperand c told h owns = cc
  takes_none row.StoresValue c told h owns = cc
  takes_none row.DestroysPlace c told h owns = cc
  takes_none row.LoadsName c told h owns = cc
  takes_none row.Groups c told h owns = cc
  takes_none row.ChoosesCase c told h owns = cc
  takes_none row.GivesMembers c told h owns = cc

  module _ (told : is_told (effect_of i.op) ≡ false) (none : None) where
    abbrev stays : changes_names (effect_of i.op) ≡ false
    stays = untold_quiet (effect_of i.op) told

    load_counted : (o : Operation) (p : Place) (x : Value) → value_at m p ≡ Some x → Loads facts entries ts vs d shapes values m i xs stored o p (ValueOf x ∷ [])
        → Counted (record (unchanged (behind o p)) { results = ValueOf x ∷ []; retained = cond (copies_with i.qualifier) (references_of x) [] })
    load_counted o p x at (Loads.takes_it takes_so copies_so brings read) =
        subst (λ b. Counted (record (unchanged (cond b (emptied m p) m)) { results = ValueOf x ∷ []; retained = cond (copies_with i.qualifier) (references_of x) [] })) (sym takes_so)
        (subst (λ b. Counted (record (unchanged (emptied m p)) { results = ValueOf x ∷ []; retained = cond b (references_of x) [] })) (sym copies_so)
        (record {
          made = [];
          are_made = AreMade.none (same_objects m p.home _);
          balance = λ weight.
              let nothing = none weight in
              let all = brings weight in
              let one = one_datum weight (ValueOf x) in
              let same = read_counted weight p.shape (cells_at m p) x read.strongly count at in
              let less = (emptied_counted weight storage.Strong m p read.within).0 in
              omega (arith, nothing, all, one, same, less);
          named = stays_named stays (emptied m p) (λ how other q.
              let less = (emptied_counted (one_object q) how m p read.within).0 in
              let empty = strong_none how other (cells_at m p) read.strongly (one_object q) in
              omega (arith, less, empty));
        }))
      where
        fits : cell_count p.shape ≤ length (drop p.first (home_cells m p.home))
        fits = let inside = read.within.inside in omega (arith, length-drop p.first (home_cells m p.home), inside)

        count : length (cells_at m p) ≡ cell_count p.shape
        count = length-take-le (cell_count p.shape) (drop p.first (home_cells m p.home)) fits
    load_counted o p x at (Loads.copies_it takes_so copies_so brings) =
        subst (λ b. Counted (record (unchanged (cond b (emptied m p) m)) { results = ValueOf x ∷ []; retained = cond (copies_with i.qualifier) (references_of x) [] })) (sym takes_so)
        (subst (λ b. Counted (record (unchanged m) { results = ValueOf x ∷ []; retained = cond b (references_of x) [] })) (sym copies_so)
        (record {
          made = [];
          are_made = AreMade.none refl;
          balance = λ weight.
              let nothing = none weight in
              let all = brings weight in
              let one = one_datum weight (ValueOf x) in
              omega (arith, nothing, all, one);
          named = stays_named stays m (λ how other q. refl);
        }))
    load_counted o p x at (Loads.reads_it takes_so copies_so brings) =
        subst (λ b. Counted (record (unchanged (cond b (emptied m p) m)) { results = ValueOf x ∷ []; retained = cond (copies_with i.qualifier) (references_of x) [] })) (sym takes_so)
        (subst (λ b. Counted (record (unchanged m) { results = ValueOf x ∷ []; retained = cond b (references_of x) [] })) (sym copies_so)
        (quiet stays (ValueOf x ∷ []) (λ weight. brings weight ∙ sym (none weight))))

    others : (c : Change) → Leaves d shapes values m i xs c → Owned (effect_of i.op) c.results → Counted c
    others _ doing.nothing owns = quiet stays [] (λ weight. no_results weight vs ∙ sym (none weight))
    others _ (doing.bare x e) owns = quiet stays (x ∷ []) (λ weight. bare_result weight vs x e ∙ sym (none weight))
    others _ (doing.object class is) owns = record {
      made = new_object m ∷ [];
      are_made = AreMade.one (longer m.objects _);
      balance = λ weight.
          let nothing = none weight in
          let all = so.1 weight in
          let one = one_datum weight (ValueOf (value.Object (new_object m))) in
          let same = (new_counted weight storage.Strong m).0 class (field_shapes shapes class) in
          omega (arith, nothing, all, one, same);
      named = stays_named stays _ (λ how other q. (new_counted (one_object q) how m).0 class (field_shapes shapes class));
    }
      where
        so : Owned row.MakesObject (ValueOf (value.Object (new_object m)) ∷ [])
        so = subst (λ r. Owned r (ValueOf (value.Object (new_object m)) ∷ [])) is owns
    others _ (doing.slot s p is home) owns = record {
      made = [];
      are_made = AreMade.none refl;
      balance = λ weight.
          let nothing = none weight in
          let bare = bare_result weight vs (AddressOf p) (ap home_references home) in
          let same = (new_counted weight storage.Strong m).1 s in
          omega (arith, nothing, bare, same);
      named = stays_named stays _ (λ how other q. (new_counted (one_object q) how m).1 s);
    }
    others _ (doing.removes p is given) owns = record {
      made = [];
      are_made = AreMade.none (same_objects m p.home _);
      balance = λ weight.
          let nothing = none weight in
          let results = no_results weight vs in
          let gone = (emptied_counted weight storage.Strong m p so.within).1 in
          let empty = so.none storage.Strong weight in
          omega (arith, nothing, results, gone, empty);
      named = stays_named stays (removed m p) (λ how other q.
          let gone = (emptied_counted (one_object q) how m p so.within).1 in
          let empty = so.none how (one_object q) in
          omega (arith, gone, empty));
    }
      where
        so : IsRemoved m stored p
        so = (subst (λ r. Owned r []) is owns).1 p given
    others _ (doing.copies x is given) owns = record {
      made = [];
      are_made = AreMade.none refl;
      balance = λ weight.
          let nothing = none weight in
          let all = (subst (λ r. Owned r (x ∷ [])) is owns).1 weight in
          let one = one_datum weight x in
          omega (arith, nothing, all, one);
      named = stays_named stays m (λ how other q. refl);
    }
    others _ (doing.retains x is given) owns = absurd (subst (λ r. Owned r []) is owns)
    others _ (doing.loads o p x is done given at) owns = load_counted o p x at ((subst (λ r. Owned r (ValueOf x ∷ [])) is owns).1 o p done given)
    others _ (doing.member k x y is given at) owns = quiet stays (ValueOf y ∷ []) (λ weight. (subst (λ r. Owned r (ValueOf y ∷ [])) is owns).1 weight ∙ sym (none weight))
    others _ (doing.part k p q is given at) owns = quiet stays (AddressOf q ∷ []) (λ weight. (subst (λ r. Owned r (AddressOf q ∷ [])) is owns).1 weight ∙ sym (none weight))
    others _ (doing.field x o q is given is_o home) owns = quiet stays (AddressOf q ∷ []) (λ weight. (subst (λ r. Owned r (AddressOf q ∷ [])) is owns).1 weight ∙ sym (none weight))
    others _ (doing.gives x is given) owns = absurd (not_told row.GivesOperand told is refl)
    others _ (doing.drops x is given) owns = absurd (not_told row.DropsOperand told is refl)
    others _ (doing.names o p x is done given at live) owns = absurd (not_told row.LoadsName told is refl)
    others _ (doing.names_none o p is done given) owns = absurd (not_told row.LoadsName told is refl)
    others _ (doing.stores o x p is done given) owns = absurd (not_told row.StoresValue told is refl)
    others _ (doing.destroys o p is done given) owns = absurd (not_told row.DestroysPlace told is refl)
    others _ (doing.groups ws is are) owns = absurd (not_told row.Groups told is refl)
    others _ (doing.chooses k x is given) owns = absurd (not_told row.ChoosesCase told is refl)
    others _ (doing.members x ys is given are) owns = absurd (not_told row.GivesMembers told is refl)

pub rows_counted : AreRowsCounted
rows_counted facts entries ts vs d shapes values m i xs stored c h owns = at (is_told (effect_of i.op)) refl
  where
    at : (b : Bool) → is_told (effect_of i.op) ≡ b → IsRowCounted facts entries ts vs d shapes values m i xs stored c
    at true told = exact facts entries ts vs d shapes values m i xs stored (effect_of i.op) c refl (made_by d shapes values m i xs c (effect_of i.op) h told) owns
    at false told =
        others facts entries ts vs d shapes values m i xs stored told
        (takes_none facts entries ts vs d shapes values m i xs stored (effect_of i.op) c told h owns) c (changes_told d shapes values m i xs c h) owns
