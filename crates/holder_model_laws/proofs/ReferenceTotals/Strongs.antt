-- The strong numbers among those that are stored: which changes leave them, and what a retain, a release and a new object make of their sum.
use Rattle.std.proofs.Common.{◌≡◌, ℕ, zero, suc, ◌+◌, ◌<◌, ◌⊎◌, ⊎_elim, inl, inr, List, [], ◌∷◌, ◌++◌, map, length, set, get_or, arith, refl, ap, ◌∙◌}
use Rattle.std.proofs.Common.{Bool, true, false, cond, Option, Some, None, slice_get, unwrap_or, option_and_then, sum_by}
use Rattle.std.proofs.lemmas.List.{length-map, map-set}
use Rattle.std.proofs.lemmas.List.Sums.{sum_by-cons, sum_by-set, sum_by_push}
use Rattle.sil_ast.specs.declared.inst.Inst.{Inst}
use Rattle.sil_ast.specs.declared.place.ObjectId.{ObjectId}
use Rattle.sil_types_declarations.specs.TypeDefinitions.Declarations.{Declarations}
use Rattle.holder_model.specs.holder_model_values.RunValues.Cells.{Cell, in_cells}
use Rattle.holder_model.specs.holder_model_values.RunValues.Memory.{Memory}
use Rattle.holder_model.specs.holder_model_values.RunValues.Places.{Place, cells_at}
use Rattle.holder_model.specs.holder_model_values.RunValues.Shapes.{Shape}
use Rattle.holder_model.specs.holder_model_values.RunValues.Values.{Value}
use Rattle.holder_model.specs.Data.{Datum, as_place, as_value}
use Rattle.holder_model.specs.Effects.{effect_of, only}
use Rattle.holder_model.specs.MemoryEffects.{takes}
use Rattle.holder_model.specs.ModuleShapes.{ModuleShapes}
use Rattle.memory_rules_parts.specs.memory_rules_accesses.declared.access.Operation.{Operation}
use Rattle.holder_model.specs.Outcomes.{Numbers}
use Rattle.holder_model.specs.declared.row_effect.RowEffect.{RowEffect}
use Rattle.holder_model.specs.declared.row_effect.RowEffect.TheVariants as row
use Rattle.holder_model.specs.LoweredRun.LowEffects as effects
use Rattle.holder_model.specs.LoweredRun.Stored.{changed, each_changed, less_unowned, less_weak, more_unowned, more_weak, named, new_numbers, no_numbers, numbers_of}
use Rattle.holder_model.specs.LoweredRun.Stored.{unnamed, unowned_named, weakly_named}
use Rattle.holder_model_laws.specs.ReferenceTotals.inner.Totals.{strong_sum}

abbrev pub strong_of : Numbers → ℕ
strong_of n = n.strong

abbrev pub strongs : List Numbers → List ℕ
strongs stored = map strong_of stored

pub strongs_length : (stored : List Numbers) → length (strongs stored) ≡ length stored
strongs_length stored = length-map stored strong_of

pub strongs_sum : (stored : List Numbers) → sum_by (λ n. n) (strongs stored) ≡ strong_sum stored
strongs_sum [] = refl
strongs_sum (n ∷ stored) =
    let one = sum_by-cons (λ (k : ℕ). k) n.strong (strongs stored) in
    let other = sum_by-cons strong_of n stored in
    omega (arith, one, other, strongs_sum stored)

pub strong_at : (stored : List Numbers) (i : ℕ) → (unwrap_or (slice_get stored i) no_numbers).strong ≡ get_or (strongs stored) i 0
strong_at [] i = refl
strong_at (n ∷ stored) zero = refl
strong_at (n ∷ stored) (suc i) = strong_at stored i

-- ---- what leaves them

abbrev LeavesStrong : (Numbers → Numbers) → Type 0
LeavesStrong f = (n : Numbers) → (f n).strong ≡ n.strong

set_left : (stored : List Numbers) (i : ℕ) (n : Numbers) → n.strong ≡ (unwrap_or (slice_get stored i) no_numbers).strong → strongs (set stored i n) ≡ strongs stored
set_left [] i n e = refl
set_left (x ∷ stored) zero n e = ap (λ k. k ∷ strongs stored) e
set_left (x ∷ stored) (suc i) n e = ap (λ ks. x.strong ∷ ks) (set_left stored i n e)

module _ (f : Numbers → Numbers) (leaves : LeavesStrong f) where
  each_left : (os : List ObjectId) (stored : List Numbers) → strongs (each_changed f os stored) ≡ strongs stored
  each_left [] stored = refl
  each_left (o ∷ os) stored = each_left os (changed f stored o) ∙ set_left stored o.0 (f (numbers_of stored o)) (leaves (numbers_of stored o))

pub named_left : (cells : List Cell) (stored : List Numbers) → strongs (named cells stored) ≡ strongs stored
named_left cells stored =
    each_left more_weak (λ n. refl) (weakly_named cells) (each_changed more_unowned (unowned_named cells) stored)
    ∙ each_left more_unowned (λ n. refl) (unowned_named cells) stored

pub unnamed_left : (cells : List Cell) (stored : List Numbers) → strongs (unnamed cells stored) ≡ strongs stored
unnamed_left cells stored =
    each_left less_weak (λ n. refl) (weakly_named cells) (each_changed less_unowned (unowned_named cells) stored)
    ∙ each_left less_unowned (λ n. refl) (unowned_named cells) stored

module _ (d : Declarations) (shapes : ModuleShapes) (values : List Shape) (m : Memory) (i : Inst) where
  by_first : (b : Bool) (old stored : List Numbers) → strongs old ≡ strongs stored → strongs (cond b stored old) ≡ strongs stored
  by_first true old stored e = refl
  by_first false old stored e = e

  by_take : (b : Bool) (new stored : List Numbers) → strongs new ≡ strongs stored → strongs (cond b new stored) ≡ strongs stored
  by_take true new stored e = e
  by_take false new stored e = refl

  at_place : (o : Option Operation) (p : Option Place) (stored : List Numbers) → strongs (effects.place_taken d shapes values m i o p stored) ≡ strongs stored
  at_place None p stored = refl
  at_place (Some o) None stored = refl
  at_place (Some o) (Some p) stored = by_take (takes o) (unnamed (cells_at m p) stored) stored (unnamed_left (cells_at m p) stored)

  where_stored : (o : Option Operation) (x : Option Value) (p : Option Place) (stored : List Numbers)
      → strongs (effects.value_stored d shapes values m i o x p stored) ≡ strongs stored
  where_stored None x p stored = refl
  where_stored (Some o) None p stored = refl
  where_stored (Some o) (Some x) None stored = refl
  where_stored (Some o) (Some x) (Some p) stored =
      named_left ((in_cells p.shape).cells x) (cond (effects.is_first_write o) stored (unnamed (cells_at m p) stored))
      ∙ by_first (effects.is_first_write o) (unnamed (cells_at m p) stored) stored (unnamed_left (cells_at m p) stored)

  both : (xs : List Datum) (stored : List Numbers) → strongs (effects.both_stored d shapes values m i xs stored) ≡ strongs stored
  both [] stored = refl
  both (x ∷ []) stored = refl
  both (x ∷ y ∷ rest) stored = where_stored (effects.operation_done d shapes values m i) (as_value x) (as_place y) stored

  by_row : (r : RowEffect) (xs : List Datum) (stored : List Numbers) → strongs (effects.stored_by d shapes values m i r xs stored) ≡ strongs stored
  by_row row.StoresValue xs stored = both xs stored
  by_row row.LoadsName xs stored = at_place (effects.operation_done d shapes values m i) (option_and_then as_place (only xs)) stored
  by_row row.DestroysPlace xs stored = at_place (effects.operation_done d shapes values m i) (option_and_then as_place (only xs)) stored
  by_row row.NoEffect xs stored = refl
  by_row row.GivesLiteral xs stored = refl
  by_row row.GivesFunction xs stored = refl
  by_row row.Computes xs stored = refl
  by_row row.TrapsWhereSet xs stored = refl
  by_row row.MakesObject xs stored = refl
  by_row row.MakesSlot xs stored = refl
  by_row row.RemovesSlot xs stored = refl
  by_row row.GivesOperand xs stored = refl
  by_row row.CopiesOperand xs stored = refl
  by_row row.RetainsOperand xs stored = refl
  by_row row.DropsOperand xs stored = refl
  by_row row.LoadsValue xs stored = refl
  by_row row.Groups xs stored = refl
  by_row row.ChoosesCase xs stored = refl
  by_row row.GivesMember xs stored = refl
  by_row row.GivesMembers xs stored = refl
  by_row row.AddressesMember xs stored = refl
  by_row row.AddressesField xs stored = refl
  by_row row.CallsFunction xs stored = refl

  -- an instruction changes the numbers of what storage names alone, but for what it retains and makes
  pub insts_left : (xs : List Datum) (stored : List Numbers) → strongs (effects.stored_behind d shapes values m i xs stored) ≡ strongs stored
  insts_left xs stored = by_row (effect_of i.op) xs stored

-- ---- what changes them

pub changed_strongs : (f : Numbers → Numbers) (stored : List Numbers) (o : ObjectId) → strongs (changed f stored o) ≡ set (strongs stored) o.0 (f (numbers_of stored o)).strong
changed_strongs f stored o = map-set strong_of stored o.0 (f (numbers_of stored o))

pub joined_strongs : (stored : List Numbers) → strongs (stored ++ new_numbers ∷ []) ≡ strongs stored ++ 1 ∷ []
joined_strongs [] = refl
joined_strongs (n ∷ stored) = ap (λ ks. n.strong ∷ ks) (joined_strongs stored)

-- the sum behind a change of one number
pub set_sum : (ks : List ℕ) (i k : ℕ) → i < length ks → sum_by (λ n. n) (set ks i k) + get_or ks i 0 ≡ sum_by (λ n. n) ks + k
set_sum ks i k lt = sum_by-set (λ (n : ℕ). n) ks i k 0 lt

pub push_sum : (ks : List ℕ) (k : ℕ) → sum_by (λ n. n) (ks ++ k ∷ []) ≡ sum_by (λ n. n) ks + k
push_sum ks k = sum_by_push (λ (n : ℕ). n) ks k

-- an element behind a new last one
pub pushed : (ks : List ℕ) (k i : ℕ) → (get_or (ks ++ k ∷ []) i 0 ≡ get_or ks i 0) ⊎ (i ≡ length ks)
pushed [] k zero = inr refl
pushed [] k (suc i) = inl refl
pushed (x ∷ ks) k zero = inl refl
pushed (x ∷ ks) k (suc i) = ⊎_elim (λ e. inl e) (λ e. inr (ap suc e)) (pushed ks k i)
