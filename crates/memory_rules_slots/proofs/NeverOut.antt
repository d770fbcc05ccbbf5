-- A slot that is never deallocated isn't deallocated before a later one.
use Rattle.std.proofs.Common.{◌≡◌, ◌≢◌, ℕ, zero, suc, List, ◌∷◌, refl, sym, ap, subst, All, Bool, true, false, Option, Some, None, arith}
use Rattle.std.specs.Prelude.{◌==◌, cond, Contains}
use Rattle.std.proofs.lemmas.Bool.{eqb-true}
use Rattle.std.proofs.lemmas.List.Elements.{All-contains, Contains-append_right}
use Rattle.sil_ast.specs.declared.place.ValueId.{ValueId}
use Rattle.sil_cfg.specs.Layout.{Layout}
use Rattle.reach_engine.specs.declared.scan.Step.TheVariants.{Bad}
use Rattle.reach_engine.proofs.Runs.{BadAt, bad_at, go-bad}
use Rattle.memory_rules_accesses.specs.reach_engine_marks.PathPatterns.inner.Reads.{read_step, step_in}
use Rattle.memory_rules_accesses.specs.declared.access.Access.{Access}
use Rattle.memory_rules_accesses.specs.declared.access.Access.TheVariants.{Ends, Begins, Allocates, Deallocates, Given, Does, Mentions}
use Rattle.memory_rules_slots.specs.inner.Automaton.{order_step}
use Rattle.memory_rules_slots.specs.Marks.{pair_mark}
use Rattle.memory_rules_slots.specs.inner.Searches.{IsUncrossed}
use Rattle.memory_rules_slots.specs.declared.mark.SlotMark.{SlotMark}
use Rattle.memory_rules_slots.specs.declared.mark.SlotMark.TheVariants.{FirstIn, FirstOut, SecondIn, SecondOut}
use Rattle.memory_rules_slots.proofs.SlotsListed.{same_value}

-- only the first slot's deallocation is ever out of place
in_never : (s c : ℕ) → order_step s FirstIn ≡ Bad c → ⊥
in_never zero c e = go-bad _ c e
in_never (suc zero) c e = go-bad _ c e
in_never (suc (suc zero)) c e = go-bad _ c e
in_never (suc (suc (suc zero))) c e = go-bad _ c e
in_never (suc (suc (suc (suc s)))) c e = go-bad _ c e

second_in_never : (s c : ℕ) → order_step s SecondIn ≡ Bad c → ⊥
second_in_never zero c e = go-bad _ c e
second_in_never (suc zero) c e = go-bad _ c e
second_in_never (suc (suc zero)) c e = go-bad _ c e
second_in_never (suc (suc (suc zero))) c e = go-bad _ c e
second_in_never (suc (suc (suc (suc s)))) c e = go-bad _ c e

second_out_never : (s c : ℕ) → order_step s SecondOut ≡ Bad c → ⊥
second_out_never zero c e = go-bad _ c e
second_out_never (suc zero) c e = go-bad _ c e
second_out_never (suc (suc zero)) c e = go-bad _ c e
second_out_never (suc (suc (suc zero))) c e = go-bad _ c e
second_out_never (suc (suc (suc (suc s)))) c e = go-bad _ c e

out_is : (a b : ValueId) (x : Access) → pair_mark a b x ≡ Some FirstOut → x ≡ Deallocates a
out_is a b (Deallocates v) e = at (v.0 == a.0) (v.0 == b.0) refl e
  where
    at : (t u : Bool) → (v.0 == a.0) ≡ t → cond t (Some FirstOut) (cond u (Some SecondOut) None) ≡ Some FirstOut → Deallocates v ≡ Deallocates a
    at true u ea e = ap Deallocates (same_value v a (eqb-true v.0 a.0 ea))
    at false true ea e = cc
    at false false ea e = cc
out_is a b (Allocates v) e = absurd (at (v.0 == a.0) (v.0 == b.0) e)
  where
    at : (t u : Bool) → cond t (Some FirstIn) (cond u (Some SecondIn) None) ≡ Some FirstOut → ⊥
    at true u e = cc
    at false true e = cc
    at false false e = cc
out_is a b (Ends v) e = cc
out_is a b (Begins v) e = cc
out_is a b (Given v content) e = cc
out_is a b (Does x) e = cc
out_is a b (Mentions v m) e = cc

pub never_out : (g : Layout) (accesses : ℕ → List Access) (a b : ValueId) → ((i : ℕ) → All (λ x. x ≢ Deallocates a) (accesses i)) → IsUncrossed g accesses a b
never_out g accesses a b none w code item h = at (pair_mark a b bad.here) refl bad.breaks
  where
    bad : BadAt (read_step order_step (pair_mark a b)) h.state (accesses item) code
    bad = bad_at (read_step order_step (pair_mark a b)) h.state (accesses item) code h.breaks

    there : Contains (accesses item) bad.here
    there = subst (λ l. Contains l bad.here) (sym bad.parts) (Contains-append_right bad.front (bad.here ∷ bad.rest) bad.here (0, omega arith, refl))

    at : (o : Option SlotMark) → pair_mark a b bad.here ≡ o → step_in order_step bad.state o ≡ Bad code → ⊥
    at None e k = go-bad bad.state code k
    at (Some FirstIn) e k = in_never bad.state code k
    at (Some FirstOut) e k = All-contains (λ x. x ≢ Deallocates a) (accesses item) bad.here (none item) there (out_is a b bad.here e)
    at (Some SecondIn) e k = second_in_never bad.state code k
    at (Some SecondOut) e k = second_out_never bad.state code k
