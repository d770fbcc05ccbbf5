-- What is left of a module that is optimised: its declarations, and its entry functions.
use Rattle.std.proofs.Common.{◌≡◌, ◌∙◌, ◌⊎◌, inl, inr, ℕ, true, false, not, ◌&&◌, refl, sym, ap, List, [], ◌∷◌, map, Some, slice_get, true≢false, zero, suc}
use Rattle.std.specs.Prelude.{Bool, OnOk, Result, Ok, Err}
use Rattle.argument_conventions.specs.Arguments.{arguments_of}
use Rattle.copy_pairing.proofs.Shapes.{rewritten_declares}
use Rattle.copy_pairing_model.specs.Optimised.{IsOptimised, Rewrites, done, lends, more, moves}
use Rattle.copy_pairing_model.specs.Rewritten.{changed_at, lent, lent_block, moved, moved_block, with_function}
use Rattle.copy_pairing_model.specs.inner.Laws.{AreUnique}
use Rattle.holder_model.specs.Frames.{has_any}
use Rattle.holder_model.specs.Outcomes.{may_start}
use Rattle.ownership_lowering_model.specs.LoweredModules.{lowered}
use Rattle.numbered_form.specs.Names.{Name}
use Rattle.holder_model.specs.RunTyping.Runnable.{IsRunnable}
use Rattle.sil_ast.specs.declared.function.Block.{Block}
use Rattle.sil_ast.specs.declared.function.Function.{Function}
use Rattle.sil_ast.specs.declared.module.Module.{Module}
use Rattle.sil_ast.specs.declared.place.FuncId.{FuncId}
use Rattle.sil_ast.specs.declared.place.PointId.{PointId}
use Rattle.sil_ast.specs.declared.place.ValueId.{ValueId}
use Rattle.sil_types_declarations.specs.TypeDefinitions.Declarations.{declarations_of}
use Rattle.module_runner.specs.Entries.{IsEntry}
use Rattle.module_runner.specs.Optimising.{IsOptimisedIf}
use Rattle.module_runner.specs.inner.Laws.{IsOne}
use Rattle.module_runner.specs.inner.RunReports.{IsLoweredIf}

pub is_one : AreUnique → IsOne
is_one unique true m k other one two = unique m k other one two
is_one unique false m k other one two = one ∙ sym two

-- declarations

optimised_declares : (m k : Module) → IsOptimised m k → declarations_of k ≡ declarations_of m
optimised_declares m _ (done _ none) = refl
optimised_declares m k (more _ next _ first rest) =
    optimised_declares next k rest ∙ rewritten_declares m first.function first.point next first.rewrites

-- what is lowered of the module that is left
pub lowered_left : {T E : Type 0} (optimises : Bool) (m k made : Module) (r : Result T E) → optimises ≡ true → IsOptimisedIf true m k
    → OnOk r (made ≡ lowered k) → OnOk r (IsRunnable made) → OnOk r (declarations_of made ≡ declarations_of k)
    → OnOk r (IsLoweredIf optimises m made)
lowered_left false m k made r asked left value runnable declares = absurd (true≢false (sym asked))
lowered_left true m k made (Ok _) asked left value runnable declares = record {
  left = k;
  optimised = left;
  lowered = value;
  runnable = runnable;
  declares = declares ∙ optimised_declares m k left;
}
lowered_left true m k made (Err e) asked left value runnable declares = tt

-- entry functions

-- an element is changed, or stays
one_changed : {A : Type 0} (n : ℕ) (change : A → A) (xs : List A) (i : ℕ) (x : A) → slice_get xs i ≡ Some x
    → (slice_get (changed_at n change xs) i ≡ Some x) ⊎ (slice_get (changed_at n change xs) i ≡ Some (change x))
one_changed n change [] i x there = inl there
one_changed zero change (y ∷ ys) zero x there = inr cc
one_changed zero change (y ∷ ys) (suc i) x there = inl there
one_changed (suc n) change (y ∷ ys) zero x there = inl there
one_changed (suc n) change (y ∷ ys) (suc i) x there = one_changed n change ys i x there

-- a function that has the same name, and with which a run may begin as well
pub record StartsAlike (f g : Function) : Type 0 where
  pub named : g.name ≡ f.name
  pub starts : may_start g ≡ may_start f

lent_starts : (c : ValueId) (f : Function) → StartsAlike f (lent c f)
lent_starts c f = record { named = refl; starts = ap (λ b. b && not (has_any (arguments_of f.signature))) (any f.blocks) }
  where
    any : (bs : List Block) → has_any (map (lent_block c) bs) ≡ has_any bs
    any [] = refl
    any (b ∷ bs) = refl

moved_starts : (p : PointId) (last : ℕ) (f : Function) → StartsAlike f (moved p last f)
moved_starts p last f = record { named = refl; starts = ap (λ b. b && not (has_any (arguments_of f.signature))) (any p.block.0 f.blocks) }
  where
    any : (n : ℕ) (bs : List Block) → has_any (changed_at n (moved_block p.index last) bs) ≡ has_any bs
    any n [] = refl
    any zero (b ∷ bs) = refl
    any (suc n) (b ∷ bs) = refl

-- a function in a module with one of its functions changed
changed_entry : (m : Module) (n : ℕ) (change : Function → Function) (name : Name) (e : FuncId) (f : Function) → ((g : Function) → StartsAlike g (change g))
    → IsEntry m name e f → (g : Function) × IsEntry (with_function n change m) name e g
changed_entry m n change name e f alike entry = by (one_changed n change m.functions e.0 f entry.there)
  where
    by : (slice_get (changed_at n change m.functions) e.0 ≡ Some f) ⊎ (slice_get (changed_at n change m.functions) e.0 ≡ Some (change f))
        → (g : Function) × IsEntry (with_function n change m) name e g
    by (inl stays) = (f, record { there = stays; named = entry.named; starts = entry.starts })
    by (inr changed) = (
      change f,
      record {
        there = changed;
        named = (alike f).named ∙ entry.named;
        starts = (alike f).starts ∙ entry.starts;
      },
    )

rewriting_enters : (m : Module) (n : ℕ) (p : PointId) (next : Module) (name : Name) (e : FuncId) (f : Function) → Rewrites m n p next → IsEntry m name e f
    → (g : Function) × IsEntry next name e g
rewriting_enters m n p _ name e f (lends g c v there copy can) entry = changed_entry m n (lent c) name e f (lent_starts c) entry
rewriting_enters m n p _ name e f (moves g c v there copy not_lent can) entry = changed_entry m n (moved p can.last) name e f (moved_starts p can.last) entry

optimised_enters : (m k : Module) (name : Name) (e : FuncId) (f : Function) → IsOptimised m k → IsEntry m name e f → (g : Function) × IsEntry k name e g
optimised_enters m _ name e f (done _ none) entry = (f, entry)
optimised_enters m k name e f (more _ next _ first rest) entry =
    let there = rewriting_enters m first.function first.point next name e f first.rewrites entry in
    optimised_enters next k name e there.0 rest there.1

-- the module that is left has an entry function with the same number and name
pub left_enters : (optimises : Bool) (m k : Module) (name : Name) (e : FuncId) (f : Function) → IsOptimisedIf optimises m k → IsEntry m name e f
    → (g : Function) × IsEntry k name e g
left_enters true m k name e f left entry = optimised_enters m k name e f left entry
left_enters false m k name e f left entry = (f, rw left entry)
