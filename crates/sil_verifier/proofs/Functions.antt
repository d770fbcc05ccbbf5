-- What is shown first in a function, where nothing is shown in any before it, is the first of the module.
use Rattle.std.proofs.Common.{◌≡◌, ◌≢◌, ℕ, ◌+◌, ◌<◌, List, ◌∷◌, length, get_or, refl, sym, ◌∙◌, subst, arith, ◌⊎◌, inl, inr, Option, Some}
use Rattle.std.specs.Prelude.{slice_get}
use Rattle.std.proofs.lemmas.Bool.{cases_eq}
use Rattle.std.proofs.lemmas.Option.{slice_get_read, slice_get_within, same_Some}
use Rattle.sil_ast.specs.declared.function.Function.{Function}
use Rattle.sil_ast.specs.declared.module.Module.{Module}
use Rattle.sil_rules.specs.declared.rule_faults.fault.RuleFault.{RuleFault}
use Rattle.sil_rules.specs.Order.{NotAfter}
use Rattle.sil_rules.proofs.Keys.{compared}
use Rattle.sil_types_declarations.specs.TypeDefinitions.Declarations.{declarations_of}
use Rattle.sil_cfg.specs.Items.{HasBlocks}
use Rattle.sil_verifier_accepted.proofs.AcceptedModules.Groups.{stage_told}
use Rattle.sil_verifier_accepted.specs.AcceptedModules.Shown.{IsShownIn, inner_key}
use Rattle.sil_verifier_accepted.specs.AcceptedModules.Values.{IsCleanIn, IsFirstIn, IsFirstOf, IsRefusalIn, IsShown, IsValueRefusal, ModuleShowing, showing_key}
use Rattle.sil_verifier_accepted.specs.declared.accepted_modules.refusals.ValueRefusal.{ValueRefusal}
use Rattle.sil_verifier_accepted.specs.declared.accepted_modules.refusals.ValueRefusal.TheVariants as refusal

-- nothing is shown in the functions before this one
abbrev pub IsCleanBefore : Module → ℕ → Type 0
IsCleanBefore m n = (p : ModuleShowing) → p.function < n → IsShown m p → ⊥

-- a function that a loop has reached
pub is_there : (all fs : List Function) (i n : ℕ) (f : Function) → fs ≡ all → n ≡ i → i < length fs → f ≡ get_or fs i f → slice_get all n ≡ Some f
is_there all fs i n f same e lt is = subst (λ k. slice_get all k ≡ Some f) (sym e) (subst (λ xs. slice_get xs i ≡ Some f) same (slice_get_read fs (length fs) i f refl lt is))

module _ (m : Module) (n : ℕ) (f : Function) (there : slice_get m.functions n ≡ Some f) where
  -- a function of the same number is this one
  is_this : (p : ModuleShowing) → p.function ≡ n → (h : IsShown m p) → h.within ≡ f
  is_this p e h = same_Some h.within f (sym (subst (λ k. slice_get m.functions k ≡ Some h.within) e h.is_body.there) ∙ there)

  shown_here : (p : ModuleShowing) → p.function ≡ n → IsShown m p → HasBlocks f × IsShownIn (declarations_of m) f p.showing
  shown_here p e h = subst (λ g. HasBlocks g × IsShownIn (declarations_of m) g p.showing) (is_this p e h) (h.is_body.body, h.shown)

  -- one clean function more
  pub clean_more : (next : ℕ) → next ≡ n + 1 → IsCleanBefore m n → (HasBlocks f → IsCleanIn (declarations_of m) f) → IsCleanBefore m next
  clean_more next is before clean p lt h = at (cases_eq p.function n)
    where
      at : (p.function ≡ n) ⊎ (p.function ≢ n) → ⊥
      at (inl e) = let here = shown_here p e h in clean here.0 p.showing here.1
      at (inr other) = before p (omega arith) h

  first_here : (x : RuleFault) → HasBlocks f → IsCleanBefore m n → IsFirstIn (declarations_of m) f x → IsFirstOf m n x
  first_here x body before h = record { shown = record { within = f; is_body = record { there = there; body = body }; shown = h.shown }; first = behind }
    where
      behind : (p : ModuleShowing) → IsShown m p → NotAfter (showing_key (record { function = n; showing = x })) (showing_key p)
      behind p s = inr (stage_told (declarations_of m) f x h.shown ∙ sym (stage_told (declarations_of m) s.within p.showing s.shown), at (compared n p.function))
        where
          at : ((n < p.function) ⊎ (p.function < n)) ⊎ (n ≡ p.function) → NotAfter (n ∷ inner_key x) (p.function ∷ inner_key p.showing)
          at (inl (inl lt)) = inl lt
          at (inl (inr gt)) = absurd (before p gt s)
          at (inr e) = inr (e, h.first p.showing (shown_here p (sym e) s).1)

  pub first_refusal : (r : ValueRefusal) → IsCleanBefore m n → IsRefusalIn (declarations_of m) n f r → IsValueRefusal m r
  first_refusal (refusal.Rule k x) before h = subst (λ i. IsFirstOf m i x) (sym h.0) (first_here x h.1 before h.2)
  first_refusal refusal.Memory before h = tt

-- where all functions are clean no rule on values is broken
pub all_clean : (m : Module) (n : ℕ) → length m.functions ≡ n → IsCleanBefore m n → (p : ModuleShowing) → IsShown m p → ⊥
all_clean m n is before p h = before p (subst (λ k. p.function < k) is (slice_get_within m.functions p.function h.within h.is_body.there)) h
