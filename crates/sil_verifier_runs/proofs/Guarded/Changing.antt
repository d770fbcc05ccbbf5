-- What the operands of an item, and what is made of them, name.
use Rattle.std.proofs.Common.{◌≡◌, ℕ, zero, suc, ◌+◌, List, [], ◌∷◌, ◌++◌, drop, length, replicate, refl, sym, ap, ◌∙◌, subst, Bool, true, false, cond, ◌||◌}
use Rattle.std.proofs.Common.{⊎_elim, Option, Some, None, Ok, Err, arith}
use Rattle.std.specs.Prelude.{◌==◌, option_map, option_and_then, slice_get, unwrap_or}
use Rattle.std.specs.declared.result.Result.{Result}
use Rattle.std.proofs.lemmas.Bool.{cases_Bool, eqb-true, true≢false}
use Rattle.std.proofs.lemmas.Option.{same_Some}
use Rattle.sil_cfg_items.specs.declared.taken.Taken.{Taken}
use Rattle.sil_cfg_items.specs.Parts.{args_behind, edge_at, item_operands, terminator_of}
use Rattle.instruction_table.specs.Forms.{ending_of}
use Rattle.instruction_table.specs.declared.entries.Ending.{Ending}
use Rattle.instruction_table.specs.declared.entries.Ending.TheVariants as ending
use Rattle.numbered_form.specs.Lists.{Each}
use Rattle.sil_verifier_frames.specs.ownership_kinds_chains.declared.ownership_chains.facts.Facts.{Facts}
use Rattle.sil_ast.specs.declared.function.Function.{Function}
use Rattle.sil_ast.specs.declared.inst.Edge.{Edge}
use Rattle.sil_ast.specs.declared.inst.Inst.{Inst}
use Rattle.sil_ast.specs.declared.place.EdgeId.{EdgeId}
use Rattle.sil_ast.specs.declared.place.ObjectId.{ObjectId}
use Rattle.sil_ast.specs.declared.place.ValueId.{ValueId}
use Rattle.sil_cfg.specs.declared.item.Item.TheVariants as item
use Rattle.sil_types_declarations.specs.TypeDefinitions.Declarations.{Declarations}
use Rattle.holder_model_values.specs.RunValues.Cells as cells
use Rattle.holder_model_values.specs.RunValues.Cells.{cell_count}
use Rattle.holder_model_values.specs.RunValues.Memory as memory
use Rattle.holder_model_values.specs.RunValues.Memory.{Memory, is_dead, is_dead_phase, no_object, phase_of}
use Rattle.holder_model_values.specs.RunValues.Shapes.{Shape}
use Rattle.holder_model_values.specs.RunValues.Values.{Value, Int, Object, Group, Case, Full}
use Rattle.sil_verifier_frames.specs.holder_model.Data.{AddressOf, Datum, FunctionOf, ValueOf, as_value, references_in}
use Rattle.sil_verifier_frames.specs.holder_model.Edges.{carried_by, first_value_of, is_default, payload_data, switched_data}
use Rattle.sil_verifier_frames.specs.holder_model.Effects.{Change}
use Rattle.sil_verifier_frames.specs.holder_model.Faults.{HolderFault, NamesDead}
use Rattle.sil_verifier_frames.specs.holder_model.Frames.{Entry, and_more, any_dead, datum_in, datum_or_fault, ends, entry_at, operand, operand_data, unless_dead, used_datum}
use Rattle.sil_verifier_frames.specs.holder_model.Holders.{of_references, one_object}
use Rattle.sil_verifier_frames.specs.holder_model_laws.HolderLaws.inner.Counts.Doing as doing
use Rattle.sil_verifier_frames.specs.holder_model_laws.HolderLaws.inner.Counts.Doing.{Leaves}
use Rattle.sil_verifier_frames.specs.holder_model_laws.HolderLaws.inner.Counts.Naming.{IsAlive, in_data, in_datum}
use Rattle.sil_verifier_frames.specs.holder_model.ModuleShapes.{ModuleShapes}
use Rattle.sil_verifier_frames.proofs.holder_model_laws.HolderLaws.Counts.Alive.{after_phase, all_dead_before, all_left_alive}
use Rattle.sil_verifier_frames.proofs.holder_model_laws.HolderLaws.Counts.Changes.{changes_told}
use Rattle.sil_verifier_frames.proofs.holder_model_laws.HolderLaws.Counts.Entries.{chosen_ok, ok_through}
use Rattle.sil_verifier_frames.proofs.holder_model_laws.HolderLaws.Counts.Most.{place_phases}
use Rattle.sil_verifier_frames.proofs.holder_model_laws.HolderLaws.Counts.Moves.{operands_are}
use Rattle.sil_verifier_frames.proofs.holder_model_laws.HolderLaws.Counts.Sums.{total_cons}
use Rattle.sil_verifier_runs.specs.inner.Guarded.Changing.{AreCarriedAlive, AreChangesAlive, AreDeadUnnamed, AreGivenAlive}
use Rattle.sil_verifier_runs.specs.inner.Guarded.GuardedStates.{is_deiniting_phase}

-- ---- operands

operand_alive : (facts : ValueId → Option Facts) (m : Memory) (before left : List Entry) (t : Taken) (x : Datum) → operand facts m before left t ≡ Ok x → IsAlive m x
operand_alive facts m before left t x h =
    let y = ok_through (unless_dead m) (cond (ends facts t) (datum_or_fault (datum_in (entry_at before t.value))) (used_datum t.role (entry_at left t.value))) x h in
    let put = chosen_ok (any_dead m (references_in y.0)) NamesDead (Ok y.0) x y.2 in
    let same : y.0 ≡ x = let e = put.1 in cc in
    subst (IsAlive m) same put.0

pub more_parts : (x : Datum) (r : Result (List Datum) HolderFault) (all : List Datum) → and_more x r ≡ Ok all → (xs : List Datum) × (r ≡ Ok xs) × (x ∷ xs ≡ all)
more_parts x (Ok xs) all h = (xs, refl, cc)
more_parts x (Err e) all h = cc

data_alive : (facts : ValueId → Option Facts) (m : Memory) (before left : List Entry) (ts : List Taken) (xs : List Datum) → operand_data facts m before left ts ≡ Ok xs → Each (IsAlive m) xs
data_alive facts m before left [] xs h = let same : [] ≡ xs = cc in subst (Each (IsAlive m)) same tt
data_alive facts m before left (t ∷ ts) xs h =
    let first = ok_through (λ x. and_more x (operand_data facts m before left ts)) (operand facts m before left t) xs h in
    let more = more_parts first.0 (operand_data facts m before left ts) xs first.2 in
    subst (Each (IsAlive m)) more.2 (operand_alive facts m before left t first.0 first.1, data_alive facts m before left ts more.0 more.1)

pub given_alive : AreGivenAlive
given_alive facts memory entries ts ops h = data_alive facts memory entries ops.left ts ops.given (operands_are facts memory entries ts ops h).given

-- ---- what is dead isn't named

counts_other : (o p : ObjectId) → (o.0 == p.0) ≡ false → one_object o p ≡ 0
counts_other o p e = ap (λ b. cond b 1 0) e

or_first : (a b : Bool) → (a || b) ≡ false → a ≡ false
or_first true b h = h
or_first false b h = refl

or_second : (a b : Bool) → (a || b) ≡ false → b ≡ false
or_second true b h = absurd (true≢false h)
or_second false b h = h

object_at_number : (m : Memory) (o p : ObjectId) → o.0 ≡ p.0 → is_dead m o ≡ is_dead m p
object_at_number m o p e = ap (λ n. is_dead_phase (unwrap_or (slice_get m.objects n) no_object).phase) e

-- another object than one that is dead, where it isn't
pub alive_other : (m : Memory) (o p : ObjectId) → is_dead m o ≡ true → is_dead m p ≡ false → one_object o p ≡ 0
alive_other m o p dead alive = ⊎_elim
    (λ same. absurd (true≢false (sym dead ∙ object_at_number m o p (eqb-true o.0 p.0 same) ∙ alive)))
    (λ other. counts_other o p other)
    (cases_Bool (o.0 == p.0))

references_unnamed : (m : Memory) (o : ObjectId) → is_dead m o ≡ true → (os : List ObjectId) → any_dead m os ≡ false → of_references (one_object o) os ≡ 0
references_unnamed m o dead [] h = refl
references_unnamed m o dead (p ∷ os) h =
    let first : one_object o p ≡ 0 = alive_other m o p dead (or_first (is_dead m p) (any_dead m os) h) in
    let rest : of_references (one_object o) os ≡ 0 = references_unnamed m o dead os (or_second (is_dead m p) (any_dead m os) h) in
    let whole : of_references (one_object o) (p ∷ os) ≡ one_object o p + of_references (one_object o) os = total_cons (one_object o) p os in
    omega (arith, first, rest, whole)

pub dead_unnamed : AreDeadUnnamed
dead_unnamed memory [] o alive dead = refl
dead_unnamed memory (x ∷ xs) o alive dead =
    let first : in_datum (one_object o) x ≡ 0 = references_unnamed memory o dead (references_in x) alive.0 in
    let rest : in_data (one_object o) xs ≡ 0 = dead_unnamed memory xs o alive.1 dead in
    let whole : in_data (one_object o) (x ∷ xs) ≡ in_datum (one_object o) x + in_data (one_object o) xs = total_cons (in_datum (one_object o)) x xs in
    omega (arith, first, rest, whole)

-- ---- changes

new_deiniting : (xs : List memory.Object) (x : memory.Object) (k : ℕ) → is_deiniting_phase x.phase ≡ false
    → is_deiniting_phase (unwrap_or (slice_get (xs ++ x ∷ []) k) no_object).phase ≡ is_deiniting_phase (unwrap_or (slice_get xs k) no_object).phase
new_deiniting [] x zero e = e
new_deiniting [] x (suc k) e = refl
new_deiniting (y ∷ ys) x zero e = refl
new_deiniting (y ∷ ys) x (suc k) e = new_deiniting ys x k e

module _ (d : Declarations) (shapes : ModuleShapes) (values : List Shape) (m : Memory) (i : Inst) (xs : List Datum) where
  deiniting_same : (c : Change) → Leaves d shapes values m i xs c → (object : ObjectId) → is_deiniting_phase (phase_of c.memory object) ≡ is_deiniting_phase (phase_of m object)
  deiniting_same _ doing.nothing object = refl
  deiniting_same _ (doing.bare x e) object = refl
  deiniting_same _ (doing.object class is) object = new_deiniting m.objects _ object.0 refl
  deiniting_same _ (doing.slot s p is home) object = refl
  deiniting_same _ (doing.removes p is given) object = ap is_deiniting_phase (place_phases m p (replicate (cell_count p.shape) cells.Gone) object)
  deiniting_same _ (doing.gives x is given) object = refl
  deiniting_same _ (doing.copies x is given) object = refl
  deiniting_same _ (doing.retains x is given) object = refl
  deiniting_same _ (doing.drops x is given) object = refl
  deiniting_same _ (doing.loads o p x is done given at) object = ap is_deiniting_phase (after_phase d shapes values m i xs o p object)
  deiniting_same _ (doing.names o p x is done given at live) object = ap is_deiniting_phase (after_phase d shapes values m i xs o p object)
  deiniting_same _ (doing.names_none o p is done given) object = ap is_deiniting_phase (after_phase d shapes values m i xs o p object)
  deiniting_same _ (doing.stores o x p is done given) object = ap is_deiniting_phase (place_phases m p ((cells.in_cells p.shape).cells x) object)
  deiniting_same _ (doing.destroys o p is done given) object = ap is_deiniting_phase (after_phase d shapes values m i xs o p object)
  deiniting_same _ (doing.groups vs is are) object = refl
  deiniting_same _ (doing.chooses k x is given) object = refl
  deiniting_same _ (doing.member k x y is given at) object = refl
  deiniting_same _ (doing.members x ys is given are) object = refl
  deiniting_same _ (doing.part k p q is given at) object = refl
  deiniting_same _ (doing.field x o q is given is_o home) object = refl

pub changes_alive : AreChangesAlive
changes_alive d shapes values memory tasks i xs c e unheld alive loads = (
  record { dead = λ o dead. all_dead_before d shapes values memory i xs c left o dead; deiniting = λ o. deiniting_same d shapes values memory i xs c left o },
  λ o dead.
      let was = all_dead_before d shapes values memory i xs c left o dead in
      let none = unheld o was in
      all_left_alive d shapes values memory i xs c (one_object o) left alive loads (λ p other. alive_other c.memory o p dead other)
      (dead_unnamed memory xs o alive was) (omega (arith, none)),
)
  where
    left : Leaves d shapes values memory i xs c
    left = changes_told d shapes values memory i xs c e

-- ---- edges

each_drop : {A : Type 0} (P : A → Type 0) (n : ℕ) (xs : List A) → Each P xs → Each P (drop n xs)
each_drop P zero xs h = h
each_drop P (suc n) [] h = h
each_drop P (suc n) (x ∷ xs) h = each_drop P n xs h.1

payload_alive : (m : Memory) (x : Value) → IsAlive m (ValueOf x) → Each (IsAlive m) (payload_data x)
payload_alive m (Int n) h = tt
payload_alive m (Object o) h = tt
payload_alive m (Group members) h = tt
payload_alive m (Case k) h = tt
payload_alive m (Full k x) h = (h, tt)

switched_alive : (m : Memory) (e : Edge) (n : ℕ) (x : Value) → IsAlive m (ValueOf x) → Each (IsAlive m) (switched_data e n x)
switched_alive m e n x h = at (is_default e) (n == 0)
  where
    at : (a b : Bool) → Each (IsAlive m) (cond a (cond b [] (ValueOf x ∷ [])) (payload_data x))
    at true true = tt
    at true false = (h, tt)
    at false b = payload_alive m x h

first_alive : (m : Memory) (xs : List Datum) (v : Value) → first_value_of xs ≡ Some v → Each (IsAlive m) xs → IsAlive m (ValueOf v)
first_alive m [] v e h = cc
first_alive m (x ∷ xs) v e h = at x e h.0
  where
    at : (x : Datum) → as_value x ≡ Some v → IsAlive m x → IsAlive m (ValueOf v)
    at (ValueOf y) e alive = subst (λ (z : Value). IsAlive m (ValueOf z)) (same_Some y v e) alive
    at (AddressOf p) e alive = cc
    at (FunctionOf g) e alive = cc

pub some_through : {A B : Type 0} (f : A → Option B) (x : Option A) (y : B) → option_and_then f x ≡ Some y → (z : A) × (x ≡ Some z) × (f z ≡ Some y)
some_through f None y h = cc
some_through f (Some z) y h = (z, refl, h)

carried_alive_by : (k : Ending) (f : Function) (e : EdgeId) (taken : Edge) (m : Memory) (xs carried : List Datum) → carried_by k f e taken xs ≡ Some carried → Each (IsAlive m) xs
    → Each (IsAlive m) carried
carried_alive_by ending.Inside f e taken m xs carried h alive = cc
carried_alive_by ending.OneBranch f e taken m xs carried h alive =
    subst (Each (IsAlive m)) (same_Some (drop (length (item_operands f (item.Edge e))) xs) carried h) (each_drop (IsAlive m) (length (item_operands f (item.Edge e))) xs alive)
carried_alive_by ending.TwoBranches f e taken m xs carried h alive =
    subst (Each (IsAlive m)) (same_Some (drop (length (item_operands f (item.Edge e))) xs) carried h) (each_drop (IsAlive m) (length (item_operands f (item.Edge e))) xs alive)
carried_alive_by ending.Cases f e taken m xs carried h alive = at (first_value_of xs) refl h
  where
    at : (v : Option Value) → first_value_of xs ≡ v → option_map (switched_data taken (length (args_behind f (Some taken)))) v ≡ Some carried → Each (IsAlive m) carried
    at None is h = cc
    at (Some v) is h =
        subst (Each (IsAlive m)) (same_Some (switched_data taken (length (args_behind f (Some taken))) v) carried h)
        (switched_alive m taken (length (args_behind f (Some taken))) v (first_alive m xs v is alive))
carried_alive_by ending.Return f e taken m xs carried h alive = cc
carried_alive_by ending.Unreachable f e taken m xs carried h alive = cc

pub carried_alive : AreCarriedAlive
carried_alive f e memory xs carried h alive =
    let i = some_through (λ (i : Inst). option_and_then (λ taken. carried_by (ending_of i.op) f e taken xs) (edge_at f e)) (terminator_of f e.block.0) carried h in
    let t = some_through (λ taken. carried_by (ending_of i.0.op) f e taken xs) (edge_at f e) carried i.2 in
    carried_alive_by (ending_of i.0.op) f e t.0 memory xs carried t.2 alive
