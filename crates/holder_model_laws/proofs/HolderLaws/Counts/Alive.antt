-- What an instruction leaves names nothing dead.
use Rattle.std.proofs.Common.{◌≡◌, ℕ, zero, suc, ◌+◌, ◌≤◌, List, [], ◌∷◌, ◌++◌, map, length, drop, replicate, refl, sym, ap, ◌∙◌, subst, Bool, true, false, cond, ◌||◌}
use Rattle.std.proofs.Common.{Option, Some, None, arith}
use Rattle.std.specs.Prelude.{option_and_then, option_map, slice_get}
use Rattle.std.proofs.lemmas.Bool.{and_parts}
use Rattle.std.proofs.lemmas.List.{length-drop, length-take-le}
use Rattle.std.proofs.lemmas.Option.{same_Some}
use Rattle.numbered_form.specs.Lists.{Each}
use Rattle.sil_ast.specs.declared.decl.Storage.TheVariants as storage
use Rattle.sil_ast.specs.declared.inst.Inst.{Inst}
use Rattle.sil_ast.specs.declared.place.ObjectId.{ObjectId}
use Rattle.sil_types_declarations.specs.TypeDefinitions.Declarations.{Declarations}
use Rattle.holder_model.specs.holder_model_values.RunValues.Cells.{cell_count}
use Rattle.holder_model.specs.holder_model_values.RunValues.Cells as cells
use Rattle.holder_model.specs.holder_model_values.RunValues.Memory as memory
use Rattle.holder_model.specs.holder_model_values.RunValues.Memory.{Memory, is_dead, is_dead_phase, is_live, new_object, phase_of}
use Rattle.holder_model.specs.holder_model_values.RunValues.Places.{Home, Inside, OnStack, Place, cells_at, emptied, filled, home_cells, member_place, part_of, value_at}
use Rattle.holder_model.specs.holder_model_values.RunValues.Shapes.{Shape, member_shapes}
use Rattle.holder_model.specs.holder_model_values.RunValues.Values.{Value, Int, Object, Group, Case, Full, Values, NoValue, More, grouped, listed, object_of, references_in_each, references_of}
use Rattle.holder_model.specs.holder_model_values.RunValues.Values.{values_of}
use Rattle.holder_model.specs.holder_model_values.RunValues.Values as value
use Rattle.memory_rules_parts.specs.memory_rules_accesses.declared.access.Operation.{Operation}
use Rattle.holder_model.specs.Data.{AddressOf, Datum, FunctionOf, ValueOf, as_value, home_references, with_first}
use Rattle.holder_model.specs.Data as given
use Rattle.holder_model.specs.declared.row_effect.RowEffect.TheVariants as row
use Rattle.holder_model.specs.Effects.{Change, effect_of}
use Rattle.holder_model.specs.Frames.{any_dead}
use Rattle.holder_model.specs.Holders.{in_cells, in_memory, of_references}
use Rattle.holder_model.specs.MemoryEffects.{after, all_live, references_at, takes}
use Rattle.holder_model.specs.ModuleShapes.{ModuleShapes, field_shapes}
use Rattle.holder_model_laws.specs.HolderLaws.inner.Counts.Doing.{Leaves}
use Rattle.holder_model_laws.specs.HolderLaws.inner.Counts.Doing as doing
use Rattle.holder_model_laws.specs.HolderLaws.inner.Counts.Keeping.{IsAliveAt}
use Rattle.holder_model_laws.specs.HolderLaws.inner.Counts.Naming.{AreDeadBefore, AreLeftAlive, HoldsNone, IsAlive, LoadsStrongly, WeighsDead, in_data, in_datum}
use Rattle.holder_model_laws.proofs.HolderLaws.Counts.Most.{at_place_most, dead_before_new, emptied_most, new_there, place_most, place_phases, removed_most}
use Rattle.holder_model_laws.proofs.HolderLaws.Counts.Places.{live_not_dead, new_counted, references_counted}
use Rattle.holder_model_laws.proofs.HolderLaws.Counts.Sums.{total_append, total_cons}
use Rattle.holder_model_laws.proofs.HolderLaws.Counts.Values.{read_counted, written_counted}

or_first : (a b : Bool) → (a || b) ≡ false → a ≡ false
or_first true b h = h
or_first false b h = refl

-- the home of an address that names nothing dead
pub alive_home : (m : Memory) (home : Home) → any_dead m (home_references home) ≡ false → IsAliveAt m home
alive_home m OnStack h = tt
alive_home m (Inside o) h = or_first (is_dead m o) false h

pub member_home : (p q : Place) (k : ℕ) → member_place p k ≡ Some q → q.home ≡ p.home
member_home p q k h = at (slice_get (member_shapes p.shape) k) h
  where
    at : (s : Option Shape) → option_map (part_of p (member_shapes p.shape) k) s ≡ Some q → q.home ≡ p.home
    at None e = cc
    at (Some s) e = sym (ap (λ (r : Place). r.home) (same_Some (part_of p (member_shapes p.shape) k s) q e))

pub object_references : (x : Value) (o : ObjectId) → object_of x ≡ Some o → references_of x ≡ o ∷ []
object_references (Int n) o h = cc
object_references (Object p) o h = ap (λ (q : ObjectId). q ∷ []) (same_Some p o h)
object_references (Group members) o h = cc
object_references (Case k) o h = cc
object_references (Full k x) o h = cc

module _ (weight : ObjectId → ℕ) where
  one_datum : (x : Datum) → in_data weight (x ∷ []) ≡ in_datum weight x + 0
  one_datum x = total_cons (in_datum weight) x []

  nothing_named : (xs : List Datum) (x : Datum) → in_data weight xs ≡ 0 → xs ≡ x ∷ [] → in_datum weight x ≡ 0
  nothing_named xs x none e =
      let one = one_datum x in
      let same : in_data weight xs ≡ in_data weight (x ∷ []) = ap (in_data weight) e in
      omega (arith, one, same, none)

  gives_none : (x : Datum) → in_datum weight x ≡ 0 → in_data weight (x ∷ []) ≡ 0
  gives_none x none = let one = one_datum x in omega (arith, one, none)

  -- ---- values made of values, and their members

  each_named : (members : Values) (k : ℕ) (y : Value) → slice_get (listed members) k ≡ Some y → of_references weight (references_of y) ≤ of_references weight (references_in_each members)
  each_named NoValue k y h = cc
  each_named (More v vs) zero y h =
      let both : of_references weight (references_of v ++ references_in_each vs) ≡ of_references weight (references_of v) + of_references weight (references_in_each vs) =
      total_append weight (references_of v) (references_in_each vs) in
      let same : of_references weight (references_of v) ≡ of_references weight (references_of y) = ap (λ (z : Value). of_references weight (references_of z)) (same_Some v y h) in
      omega (arith, both, same)
  each_named (More v vs) (suc k) y h =
      let both : of_references weight (references_of v ++ references_in_each vs) ≡ of_references weight (references_of v) + of_references weight (references_in_each vs) =
      total_append weight (references_of v) (references_in_each vs) in
      let rest = each_named vs k y h in
      omega (arith, both, rest)

  pub member_named : (x y : Value) (k : ℕ) → option_and_then (λ ys. slice_get ys k) (value.members_of x) ≡ Some y
      → of_references weight (references_of y) ≤ of_references weight (references_of x)
  member_named (Int n) y k h = cc
  member_named (Object o) y k h = cc
  member_named (Group members) y k h = each_named members k y h
  member_named (Case j) y k h = cc
  member_named (Full j x) y k h = cc

  listed_named : (members : Values) → in_data weight (map ValueOf (listed members)) ≡ of_references weight (references_in_each members)
  listed_named NoValue = refl
  listed_named (More v vs) =
      let both : of_references weight (references_of v ++ references_in_each vs) ≡ of_references weight (references_of v) + of_references weight (references_in_each vs) =
      total_append weight (references_of v) (references_in_each vs) in
      let first : in_data weight (ValueOf v ∷ map ValueOf (listed vs)) ≡ of_references weight (references_of v) + in_data weight (map ValueOf (listed vs)) =
      total_cons (in_datum weight) (ValueOf v) (map ValueOf (listed vs)) in
      let rest : in_data weight (map ValueOf (listed vs)) ≡ of_references weight (references_in_each vs) = listed_named vs in
      omega (arith, both, first, rest)

  pub members_named : (x : Value) (ys : List Value) → value.members_of x ≡ Some ys → in_data weight (map ValueOf ys) ≡ of_references weight (references_of x)
  members_named (Int n) ys h = cc
  members_named (Object o) ys h = cc
  members_named (Group members) ys h = ap (λ zs. in_data weight (map ValueOf zs)) (sym (same_Some (listed members) ys h)) ∙ listed_named members
  members_named (Case j) ys h = cc
  members_named (Full j x) ys h = cc

  value_named : (x : Datum) (v : Value) → as_value x ≡ Some v → in_datum weight x ≡ of_references weight (references_of v)
  value_named (ValueOf y) v h = ap (λ (z : Value). of_references weight (references_of z)) (same_Some y v h)
  value_named (AddressOf p) v h = cc
  value_named (FunctionOf g) v h = cc

  more_values : (y : Option Value) (vs : Option (List Value)) (ws : List Value) → with_first y vs ≡ Some ws → (z : Value) × (zs : List Value) × (y ≡ Some z) × (vs ≡ Some zs) × (ws ≡ z ∷ zs)
  more_values None vs ws h = cc
  more_values (Some z) None ws h = cc
  more_values (Some z) (Some zs) ws h = (z, zs, refl, refl, sym (same_Some (z ∷ zs) ws h))

  pub values_named : (xs : List Datum) (vs : List Value) → given.values_of xs ≡ Some vs → of_references weight (references_in_each (values_of vs)) ≡ in_data weight xs
  values_named [] vs h = ap (λ ws. of_references weight (references_in_each (values_of ws))) (sym (same_Some [] vs h))
  values_named (x ∷ xs) vs h =
      let p = more_values (as_value x) (given.values_of xs) vs h in
      let first : in_datum weight x ≡ of_references weight (references_of p.0) = value_named x p.0 p.2 in
      let rest : of_references weight (references_in_each (values_of p.1)) ≡ in_data weight xs = values_named xs p.1 p.3 in
      let whole : in_data weight (x ∷ xs) ≡ in_datum weight x + in_data weight xs = total_cons (in_datum weight) x xs in
      let both : of_references weight (references_of p.0 ++ references_in_each (values_of p.1))
      ≡ of_references weight (references_of p.0) + of_references weight (references_in_each (values_of p.1)) =
      total_append weight (references_of p.0) (references_in_each (values_of p.1)) in
      let same : of_references weight (references_in_each (values_of vs)) ≡ of_references weight (references_of p.0 ++ references_in_each (values_of p.1)) =
      ap (λ ws. of_references weight (references_in_each (values_of ws))) p.4 in
      omega (arith, first, rest, whole, both, same)

  live_named : (m : Memory) → WeighsDead weight m → (os : List ObjectId) → all_live m os ≡ true → of_references weight os ≡ 0
  live_named m dead [] h = refl
  live_named m dead (o ∷ os) h =
      let parts = and_parts (is_live m o) (all_live m os) h in
      let first : weight o ≡ 0 = dead o (live_not_dead m o parts.0) in
      let rest : of_references weight os ≡ 0 = live_named m dead os parts.1 in
      let whole : of_references weight (o ∷ os) ≡ weight o + of_references weight os = total_cons weight o os in
      omega (arith, first, rest, whole)

module _ (d : Declarations) (shapes : ModuleShapes) (values : List Shape) (m : Memory) (i : Inst) (xs : List Datum) where
  abbrev behind : Operation → Place → Memory
  behind o p = after d shapes values m i o p

  pub after_phase : (o : Operation) (p : Place) (object : ObjectId) → phase_of (behind o p) object ≡ phase_of m object
  after_phase o p object = at (takes o)
    where
      at : (b : Bool) → phase_of (cond b (emptied m p) m) object ≡ phase_of m object
      at true = place_phases m p (replicate (cell_count p.shape) cells.Empty) object
      at false = refl

  after_most : (weight : ObjectId → ℕ) (o : Operation) (p : Place) → in_memory weight storage.Strong (behind o p) ≤ in_memory weight storage.Strong m
  after_most weight o p = at (takes o)
    where
      at : (b : Bool) → in_memory weight storage.Strong (cond b (emptied m p) m) ≤ in_memory weight storage.Strong m
      at true = emptied_most weight storage.Strong m p
      at false = omega arith

  module _ (weight : ObjectId → ℕ) (alive : Each (IsAlive m) xs) (loads : LoadsStrongly m i xs) (none : in_data weight xs ≡ 0) (empty : in_memory weight storage.Strong m ≡ 0) where
    nothing_held : (n : ℕ) → n ≤ in_memory weight storage.Strong m → n ≡ 0
    nothing_held n le = omega (arith, le, empty)

    place_held : (p : Place) → xs ≡ AddressOf p ∷ [] → of_references weight (references_at m p) ≡ 0
    place_held p given =
        let at_home : IsAliveAt m p.home = alive_home m p.home (subst (Each (IsAlive m)) given alive).0 in
        let most = at_place_most weight storage.Strong m p at_home in
        let same : of_references weight (references_at m p) ≡ in_cells weight storage.Strong (cells_at m p) = (references_counted weight).0 m p in
        omega (arith, most, same, empty)

    second_alive : (x : Value) (p : Place) → xs ≡ ValueOf x ∷ AddressOf p ∷ [] → of_references weight (references_at m p) ≡ 0
    second_alive x p given =
        let at_home : IsAliveAt m p.home = alive_home m p.home (subst (Each (IsAlive m)) given alive).1.0 in
        let most = at_place_most weight storage.Strong m p at_home in
        let same : of_references weight (references_at m p) ≡ in_cells weight storage.Strong (cells_at m p) = (references_counted weight).0 m p in
        omega (arith, most, same, empty)

    loaded : (p : Place) (x : Value) → effect_of i.op ≡ row.LoadsValue → xs ≡ AddressOf p ∷ [] → value_at m p ≡ Some x → of_references weight (references_of x) ≡ 0
    loaded p x is given at =
        let read = loads p is given in
        let fits : cell_count p.shape ≤ length (drop p.first (home_cells m p.home)) = omega (arith, length-drop p.first (home_cells m p.home), read.within.inside) in
        let count : length (cells_at m p) ≡ cell_count p.shape = length-take-le (cell_count p.shape) (drop p.first (home_cells m p.home)) fits in
        let same = read_counted weight p.shape (cells_at m p) x read.strongly count at in
        let most = at_place_most weight storage.Strong m p read.within.alive in
        omega (arith, same, most, empty)

    stored : (x : Value) (p : Place) → xs ≡ ValueOf x ∷ AddressOf p ∷ [] → in_memory weight storage.Strong (filled m p x) ≡ 0
    stored x p given =
        let most = place_most weight storage.Strong m p ((cells.in_cells p.shape).cells x) in
        let written = written_counted weight p.shape x in
        let named : in_data weight xs ≡ of_references weight (references_of x) + in_data weight (AddressOf p ∷ []) =
        ap (in_data weight) given ∙ total_cons (in_datum weight) (ValueOf x) (AddressOf p ∷ []) in
        omega (arith, most, written, named, none, empty)

    left_alive : (c : Change) → Leaves d shapes values m i xs c → WeighsDead weight c.memory → HoldsNone weight c
    left_alive _ doing.nothing dead = record { results = refl; dropped = refl; memory = empty }
    left_alive _ (doing.bare x e) dead = record { results = gives_none weight x (ap (of_references weight) e); dropped = refl; memory = empty }
    left_alive _ (doing.object class is) dead =
        let made = dead (new_object m) (ap (λ (y : memory.Object). is_dead_phase y.phase) (new_there m.objects _)) in
        record {
          results = gives_none weight (ValueOf (Object (new_object m))) (total_cons weight (new_object m) [] ∙ omega (arith, made));
          dropped = refl;
          memory = (new_counted weight storage.Strong m).0 class (field_shapes shapes class) ∙ empty;
        }
    left_alive _ (doing.slot s p is home) dead = record {
      results = gives_none weight (AddressOf p) (ap (λ (h : Home). of_references weight (home_references h)) home);
      dropped = refl;
      memory = (new_counted weight storage.Strong m).1 s ∙ empty;
    }
    left_alive _ (doing.removes p is given) dead = record { results = refl; dropped = refl; memory = nothing_held _ (removed_most weight storage.Strong m p) }
    left_alive _ (doing.gives x is given) dead = record { results = sym (ap (in_data weight) given) ∙ none; dropped = refl; memory = empty }
    left_alive _ (doing.copies x is given) dead = record { results = sym (ap (in_data weight) given) ∙ none; dropped = refl; memory = empty }
    left_alive _ (doing.retains x is given) dead = record { results = refl; dropped = refl; memory = empty }
    left_alive _ (doing.drops x is given) dead = record { results = refl; dropped = nothing_named weight xs x none given; memory = empty }
    left_alive _ (doing.loads o p x is done given at) dead =
        record { results = gives_none weight (ValueOf x) (loaded p x is given at); dropped = refl; memory = nothing_held _ (after_most weight o p) }
    left_alive _ (doing.names o p x is done given at live) dead = record {
      results = gives_none weight (ValueOf x) (live_named weight m (λ object lives. dead object (ap is_dead_phase (after_phase o p object) ∙ lives)) (references_of x) live);
      dropped = refl;
      memory = nothing_held _ (after_most weight o p);
    }
    left_alive _ (doing.names_none o p is done given) dead = record { results = refl; dropped = refl; memory = nothing_held _ (after_most weight o p) }
    left_alive _ (doing.stores o x p is done given) dead = record { results = refl; dropped = second_alive x p given; memory = stored x p given }
    left_alive _ (doing.destroys o p is done given) dead = record { results = refl; dropped = place_held p given; memory = nothing_held _ (after_most weight o p) }
    left_alive _ (doing.groups vs is are) dead =
        record { results = gives_none weight (ValueOf (grouped vs)) (values_named weight xs vs are ∙ none); dropped = refl; memory = empty }
    left_alive _ (doing.chooses k x is given) dead =
        record { results = gives_none weight (ValueOf (Full k x)) (nothing_named weight xs (ValueOf x) none given); dropped = refl; memory = empty }
    left_alive _ (doing.member k x y is given at) dead =
        let most = member_named weight x y k at in
        let whole : of_references weight (references_of x) ≡ 0 = nothing_named weight xs (ValueOf x) none given in
        record { results = gives_none weight (ValueOf y) (omega (arith, most, whole)); dropped = refl; memory = empty }
    left_alive _ (doing.members x ys is given are) dead =
        record { results = members_named weight x ys are ∙ nothing_named weight xs (ValueOf x) none given; dropped = refl; memory = empty }
    left_alive _ (doing.part k p q is given at) dead = record {
      results = gives_none weight (AddressOf q) (ap (λ (h : Home). of_references weight (home_references h)) (member_home p q k at) ∙ nothing_named weight xs (AddressOf p) none given);
      dropped = refl;
      memory = empty;
    }
    left_alive _ (doing.field x o q is given is_o home) dead = record {
      results = gives_none weight (AddressOf q)
          (ap (λ (h : Home). of_references weight (home_references h)) home ∙ sym (ap (of_references weight) (object_references x o is_o))
          ∙ nothing_named weight xs (ValueOf x) none given);
      dropped = refl;
      memory = empty;
    }

  -- no instruction kills
  dead_before : (c : Change) → Leaves d shapes values m i xs c → (object : ObjectId) → is_dead c.memory object ≡ true → is_dead m object ≡ true
  dead_before _ doing.nothing object h = h
  dead_before _ (doing.bare x e) object h = h
  dead_before _ (doing.object class is) object h = dead_before_new m.objects _ object.0 h
  dead_before _ (doing.slot s p is home) object h = h
  dead_before _ (doing.removes p is given) object h = sym (ap is_dead_phase (place_phases m p (replicate (cell_count p.shape) cells.Gone) object)) ∙ h
  dead_before _ (doing.gives x is given) object h = h
  dead_before _ (doing.copies x is given) object h = h
  dead_before _ (doing.retains x is given) object h = h
  dead_before _ (doing.drops x is given) object h = h
  dead_before _ (doing.loads o p x is done given at) object h = sym (ap is_dead_phase (after_phase o p object)) ∙ h
  dead_before _ (doing.names o p x is done given at live) object h = sym (ap is_dead_phase (after_phase o p object)) ∙ h
  dead_before _ (doing.names_none o p is done given) object h = sym (ap is_dead_phase (after_phase o p object)) ∙ h
  dead_before _ (doing.stores o x p is done given) object h = sym (ap is_dead_phase (place_phases m p ((cells.in_cells p.shape).cells x) object)) ∙ h
  dead_before _ (doing.destroys o p is done given) object h = sym (ap is_dead_phase (after_phase o p object)) ∙ h
  dead_before _ (doing.groups vs is are) object h = h
  dead_before _ (doing.chooses k x is given) object h = h
  dead_before _ (doing.member k x y is given at) object h = h
  dead_before _ (doing.members x ys is given are) object h = h
  dead_before _ (doing.part k p q is given at) object h = h
  dead_before _ (doing.field x o q is given is_o home) object h = h

pub all_left_alive : AreLeftAlive
all_left_alive d shapes values m i xs c weight left alive loads dead none empty = left_alive d shapes values m i xs weight alive loads none empty c left dead

pub all_dead_before : AreDeadBefore
all_dead_before d shapes values m i xs c left o h = dead_before d shapes values m i xs c left o h
