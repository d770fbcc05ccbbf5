-- Which objects are dead behind a change of one of them.
use Rattle.std.proofs.Common.{◌≡◌, ℕ, zero, suc, ◌<◌, ◌++◌, ◌⊎◌, ⊎_elim, inl, inr, List, [], ◌∷◌, length, set, arith, refl, sym, ap, ◌∙◌, Bool, true, false, slice_get, unwrap_or}
use Rattle.std.proofs.lemmas.Bool.{false≢true}
use Rattle.sil_ast.specs.declared.place.ObjectId.{ObjectId}
use Rattle.holder_model.specs.holder_model_values.RunValues.Cells.{Cell}
use Rattle.holder_model.specs.holder_model_values.RunValues.Memory.{Memory, Object, is_dead, is_dead_phase, no_object}
use Rattle.holder_model.specs.holder_model_values.RunValues.Places.{Home, Inside, OnStack, with_home_cells}

abbrev pub dead_at : List Object → ℕ → Bool
dead_at objects k = is_dead_phase (unwrap_or (slice_get objects k) no_object).phase

-- an object in place of one that is as dead
pub set_same : (objects : List Object) (i k : ℕ) (x : Object) → is_dead_phase x.phase ≡ dead_at objects i → dead_at (set objects i x) k ≡ dead_at objects k
set_same [] i k x e = refl
set_same (y ∷ objects) zero zero x e = e
set_same (y ∷ objects) zero (suc k) x e = refl
set_same (y ∷ objects) (suc i) zero x e = refl
set_same (y ∷ objects) (suc i) (suc k) x e = set_same objects i k x e

-- an object that isn't dead
pub set_alive : (objects : List Object) (i k : ℕ) (x : Object) → is_dead_phase x.phase ≡ false → dead_at (set objects i x) k ≡ true → dead_at objects k ≡ true
set_alive [] i k x e is = is
set_alive (y ∷ objects) zero zero x e is = absurd (false≢true (sym e ∙ is))
set_alive (y ∷ objects) zero (suc k) x e is = is
set_alive (y ∷ objects) (suc i) zero x e is = is
set_alive (y ∷ objects) (suc i) (suc k) x e is = set_alive objects i k x e is

-- any object
pub set_any : (objects : List Object) (i k : ℕ) (x : Object) → dead_at (set objects i x) k ≡ true → (k ≡ i) ⊎ (dead_at objects k ≡ true)
set_any [] i k x is = inr is
set_any (y ∷ objects) zero zero x is = inl refl
set_any (y ∷ objects) zero (suc k) x is = inr is
set_any (y ∷ objects) (suc i) zero x is = inr is
set_any (y ∷ objects) (suc i) (suc k) x is = ⊎_elim (λ e. inl (ap suc e)) (λ e. inr e) (set_any objects i k x is)

-- a new object that isn't dead
pub pushed_alive : (objects : List Object) (x : Object) (k : ℕ) → is_dead_phase x.phase ≡ false → dead_at (objects ++ x ∷ []) k ≡ true
    → (dead_at objects k ≡ true) × (k ≡ length objects → ⊥)
pushed_alive [] x zero e is = absurd (false≢true (sym e ∙ is))
pushed_alive [] x (suc k) e is = (refl, λ o. omega (arith, o))
pushed_alive (y ∷ objects) x zero e is = (is, λ o. omega (arith, o))
pushed_alive (y ∷ objects) x (suc k) e is = let h = pushed_alive objects x k e is in (h.0, λ o. h.1 (omega (arith, o)))

-- an object that isn't dead is there
pub alive_within : (objects : List Object) (k : ℕ) → dead_at objects k ≡ false → k < length objects
alive_within [] k e = absurd (false≢true (sym e))
alive_within (y ∷ objects) zero e = omega arith
alive_within (y ∷ objects) (suc k) e = let lt = alive_within objects k e in omega (arith, lt)

-- cells are written
pub home_same : (m : Memory) (h : Home) (cells : List Cell) (o : ObjectId) → is_dead (with_home_cells m h cells) o ≡ is_dead m o
home_same m OnStack cells o = refl
home_same m (Inside p) cells o = set_same m.objects p.0 o.0 _ refl
