-- What an accepted module has that lowering asks of its functions: names for other values end there, and limits are kept.
use Rattle.std.proofs.Common.{◌≡◌, ℕ, zero, suc, List, [], ◌∷◌, refl, subst, Some}
use Rattle.std.specs.Prelude.{slice_get}
use Rattle.std.proofs.lemmas.Option.{none-some, same_Some}
use Rattle.sil_ast.specs.declared.function.Form.{Form}
use Rattle.sil_ast.specs.declared.function.Form.TheVariants.{Ossa, Lowered, External}
use Rattle.sil_ast.specs.declared.function.Function.{Function}
use Rattle.sil_ast.specs.declared.module.Module.{Module}
use Rattle.numbered_form.specs.Lists.{Each}
use Rattle.numbered_form.specs.inner.Limits.{IsFunctionInLimits}
use Rattle.ownership_lowering_laws.specs.LoweringLaws.inner.Laws as laws
use Rattle.sil_verifier.specs.sil_verifier_accepted.AcceptedModules.inner.Checked.{IsVerified}
use Rattle.ownership_lowering_functions.specs.FunctionLowering.inner.Lowerable.{AreLowerable, IsLowerable, IsLowerableByForm, IsLowerableFunction}
use Rattle.ownership_lowering.proofs.Runnable.{have_kinds}

each_at : {A : Type 0} (P : A → Type 0) (xs : List A) (i : ℕ) (x : A) → Each P xs → slice_get xs i ≡ Some x → P x
each_at P [] i x h e = absurd (none-some x e)
each_at P (y ∷ xs) zero x h e = subst P (same_Some y x e) h.0
each_at P (y ∷ xs) (suc i) x h e = each_at P xs i x h.1 e

each_from : {A : Type 0} (P : A → Type 0) (xs : List A) → ((i : ℕ) (x : A) → slice_get xs i ≡ Some x → P x) → Each P xs
each_from P [] h = tt
each_from P (x ∷ xs) h = (h 0 x refl, each_from P xs (λ i y e. h (suc i) y e))

module _ (m : Module) (verified : IsVerified m) (rings : laws.HaveNoRings) (law : laws.AreLowerable) where
  lowerable_at : (n : ℕ) (f : Function) → slice_get m.functions n ≡ Some f → IsLowerable f
  lowerable_at n f there =
      let none = rings m verified.numbered (have_kinds m verified) in
      let it = law m n f verified.numbered verified.accepted.types.typed none there in
      record {
        range = it.ends.range;
        ends = it.ends.none;
        limits = each_at IsFunctionInLimits m.functions n f verified.numbered.limits.each there;
      }

  by_form : (n : ℕ) (f : Function) → slice_get m.functions n ≡ Some f → (o : Form) → IsLowerableByForm o f
  by_form n f there Ossa = lowerable_at n f there
  by_form n f there Lowered = tt
  by_form n f there External = tt

  pub all_lowerable : AreLowerable m.functions
  all_lowerable = each_from IsLowerableFunction m.functions (λ n f there. by_form n f there f.form)
