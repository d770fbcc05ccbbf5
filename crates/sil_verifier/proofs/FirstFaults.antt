-- The first fault of typing, with those of functions without `[ossa]`.
use Rattle.std.proofs.Common.{◌≡◌, ℕ, ◌+◌, ◌<◌, ◌≤◌, List, [], ◌∷◌, refl, sym, subst, arith, ◌⊎◌, inl, inr, Bool, true, false, Option, Some, None}
use Rattle.std.specs.Prelude.{if◌then◌else◌, is_none, nat_lt, nat_le, ◌==◌, ◌&&◌, ◌||◌}
use Rattle.std.specs.Option.{option_or}
use Rattle.std.proofs.lemmas.Bool.{cases_lt}
use Rattle.sil_ast.specs.declared.function.Form.{Form}
use Rattle.sil_ast.specs.declared.function.Form.TheVariants.{Ossa, Lowered, External}
use Rattle.sil_ast.specs.declared.function.Function.{Function}
use Rattle.sil_ast.specs.declared.module.Module.{Module}
use Rattle.sil_rules.proofs.Firsts.{first_same}
use Rattle.sil_rules.proofs.Keys.{not_after_refl}
use Rattle.sil_rules.specs.Order.{NotAfter, IsFirst}
use Rattle.sil_rules.specs.Rules.{number_of}
use Rattle.sil_rules.specs.declared.rule.Rule.{Rule}
use Rattle.sil_rules.specs.declared.rule.Rule.TheVariants as rule
use Rattle.sil_types.specs.Typing.FormRules.{is_lowered}
use Rattle.sil_types.specs.Typing.Typed.{BreaksAt, Site, at_function, at_point}
use Rattle.sil_types.specs.Typing.Typed.BreaksAt.{function, point, vtable}
use Rattle.type_check.proofs.FirstFaults.{stage_at_function, stage_at_point}
use Rattle.type_check.proofs.Firsts.{first_of_places, at_zero, of_zero}
use Rattle.type_check.specs.inner.Firsts.{first_from, IsAtSome}
use Rattle.type_check.specs.Refusals.{fault_at, fault_key, IsBroken}
use Rattle.type_check.specs.Refusals.IsBroken.{broken}
use Rattle.type_check.specs.declared.fault.TypingFault.{TypingFault}
use Rattle.sil_verifier.specs.inner.Lowered.{first_lowered, is_before}
use Rattle.sil_verifier_accepted.specs.AcceptedModules.Refusals.{IsLowered}
use Rattle.sil_verifier_accepted.specs.AcceptedModules.Refusals.IsLowered.{lowered}

-- 207 at the function, where it is lowered
abbrev IsLoweredAt : ℕ → Function → TypingFault → Type 0
IsLoweredAt n f a = (f.form ≡ Lowered) × (fault_at (at_function n) rule.MixedForms ≡ a)

abbrev fault_if : ℕ → Form → Option TypingFault
fault_if n form = if is_lowered form then Some (fault_at (at_function n) rule.MixedForms) else None

first_at : (n : ℕ) (f : Function) → IsFirst fault_key (IsLoweredAt n f) (fault_if n f.form)
first_at n f = by f.form refl
  where
    by : (form : Form) → f.form ≡ form → IsFirst fault_key (IsLoweredAt n f) (fault_if n form)
    by Ossa e = λ a h. cc (h.0, e)
    by Lowered e = record {
      shown = (e, refl);
      first = λ b h. subst (λ c. NotAfter (fault_key (fault_at (at_function n) rule.MixedForms)) (fault_key c)) h.1 (not_after_refl (fault_key (fault_at (at_function n) rule.MixedForms)));
    }
    by External e = λ a h. cc (h.0, e)

in_order : (n m : ℕ) (f g : Function) (a b : TypingFault) → n < m → IsLoweredAt n f a → IsLoweredAt m g b → NotAfter (fault_key a) (fault_key b)
in_order n m f g a b lt h k =
    subst (λ c. NotAfter (fault_key c) (fault_key b)) h.1 (subst (λ c. NotAfter (fault_key (fault_at (at_function n) rule.MixedForms)) (fault_key c)) k.1 (inr (refl, inl lt)))

same_search : (n : ℕ) (fs : List Function) → first_from (λ m f. fault_if m f.form) n fs ≡ first_lowered n fs
same_search n [] = refl
same_search n (f ∷ fs) = by f.form (same_search (n + 1) fs)
  where
    by : (form : Form) → first_from (λ m g. fault_if m g.form) (n + 1) fs ≡ first_lowered (n + 1) fs
        → option_or (fault_if n form) (first_from (λ m g. fault_if m g.form) (n + 1) fs) ≡ (if is_lowered form then Some (fault_at (at_function n) rule.MixedForms) else first_lowered (n + 1) fs)
    by Ossa e = e
    by Lowered e = refl
    by External e = e

module _ (m : Module) where
  abbrev InFunctions : TypingFault → Type 0
  InFunctions = IsAtSome IsLoweredAt 0 m.functions

  is_lowered_in : (a : TypingFault) → InFunctions a → IsLowered m a
  is_lowered_in a h = at (of_zero IsLoweredAt h.index h.place a h.is)
    where
      at : IsLoweredAt h.index h.place a → IsLowered m a
      at g = subst (IsLowered m) g.1 (lowered h.index h.place h.there g.0)

  is_found : (a : TypingFault) → IsLowered m a → InFunctions a
  is_found _ (lowered n f there e) = record { index = n; place = f; there = there; is = at_zero IsLoweredAt n f (fault_at (at_function n) rule.MixedForms) (e, refl) }

  -- the first function without `[ossa]` is found
  pub first_function : IsFirst fault_key (IsLowered m) (first_lowered 0 m.functions)
  first_function = subst (IsFirst fault_key (IsLowered m)) (same_search 0 m.functions)
      (first_same fault_key InFunctions (IsLowered m) is_lowered_in is_found (first_from (λ k f. fault_if k f.form) 0 m.functions)
      (first_of_places fault_key IsLoweredAt (λ k f. fault_if k f.form) first_at in_order 0 m.functions))

-- at a function itself, by the function and then by the rule
at_true : (k n r s : ℕ) (own : Bool) → own ≡ true → (nat_lt k n || (k == n && own && nat_le r s)) ≡ true → (k < n) ⊎ ((k ≡ n) × (r ≤ s))
at_true k n r s true own e = grind arith
at_true k n r s false own e = cc own

at_false : (k n r s : ℕ) (own : Bool) → own ≡ true → (nat_lt k n || (k == n && own && nat_le r s)) ≡ false → (n < k) ⊎ ((k ≡ n) × (s ≤ r))
at_false k n r s true own e = grind arith
at_false k n r s false own e = cc own

-- at a point, by the function alone
behind_true : (k n r s : ℕ) (own : Bool) → own ≡ false → (nat_lt k n || (k == n && own && nat_le r s)) ≡ true → k < n
behind_true k n r s true own e = cc own
behind_true k n r s false own e = grind arith

behind_false : (k n r s : ℕ) (own : Bool) → own ≡ false → (nat_lt k n || (k == n && own && nat_le r s)) ≡ false → (n < k) ⊎ (k ≡ n)
behind_false k n r s true own e = cc own
behind_false k n r s false own e = grind arith

last_number : (n m : ℕ) → n ≤ m → NotAfter (n ∷ []) (m ∷ [])
last_number n m le = at (cases_lt n m)
  where
    at : (n < m) ⊎ (m ≤ n) → NotAfter (n ∷ []) (m ∷ [])
    at (inl lt) = inl lt
    at (inr ge) = inr (omega (arith, le, ge), tt)

abbrev lowered_key : ℕ → List ℕ
lowered_key n = fault_key (fault_at (at_function n) rule.MixedForms)

module _ (m : Module) (n : ℕ) where
  -- where the test says so, the broken rule comes first
  comes_first : (s : Site) (r : Rule) → BreaksAt m s r → is_before (fault_at s r) (fault_at (at_function n) rule.MixedForms) ≡ true → NotAfter (fault_key (fault_at s r)) (lowered_key n)
  comes_first _ _ (function k f r there b) e = by (at_true k n (number_of r) (number_of rule.MixedForms) (is_none (fault_at (at_function k) r).point) refl e)
    where
      by : (k < n) ⊎ ((k ≡ n) × (number_of r ≤ number_of rule.MixedForms)) → NotAfter (fault_key (fault_at (at_function k) r)) (lowered_key n)
      by (inl lt) = inr (stage_at_function m k f r b, inl lt)
      by (inr h) = inr (stage_at_function m k f r b, inr (h.0, inr (refl, inr (refl, inr (refl, last_number (number_of r) (number_of rule.MixedForms) h.1)))))
  comes_first _ _ (point k f block index i r there at b) e =
      inr (stage_at_point m k f block index i r b, inl (behind_true k n (number_of r) (number_of rule.MixedForms) (is_none (fault_at (at_point k block index) r).point) refl e))
  comes_first _ _ (vtable v w r there b) e = cc e

  -- and where it doesn't, the function without `[ossa]` does
  comes_behind : (s : Site) (r : Rule) → BreaksAt m s r → is_before (fault_at s r) (fault_at (at_function n) rule.MixedForms) ≡ false → NotAfter (lowered_key n) (fault_key (fault_at s r))
  comes_behind _ _ (function k f r there b) e = by (at_false k n (number_of r) (number_of rule.MixedForms) (is_none (fault_at (at_function k) r).point) refl e)
    where
      by : (n < k) ⊎ ((k ≡ n) × (number_of rule.MixedForms ≤ number_of r)) → NotAfter (lowered_key n) (fault_key (fault_at (at_function k) r))
      by (inl lt) = inr (sym (stage_at_function m k f r b), inl lt)
      by (inr h) = inr (sym (stage_at_function m k f r b), inr (sym h.0, inr (refl, inr (refl, inr (refl, last_number (number_of rule.MixedForms) (number_of r) h.1)))))
  comes_behind _ _ (point k f block index i r there at b) e = by (behind_false k n (number_of r) (number_of rule.MixedForms) (is_none (fault_at (at_point k block index) r).point) refl e)
    where
      by : (n < k) ⊎ (k ≡ n) → NotAfter (lowered_key n) (fault_key (fault_at (at_point k block index) r))
      by (inl lt) = inr (sym (stage_at_point m k f block index i r b), inl lt)
      by (inr same) = inr (sym (stage_at_point m k f block index i r b), inr (sym same, inl (omega arith)))
  comes_behind _ _ (vtable v w r there b) e = inl (omega arith)

-- the test tells which of the two comes first
pub first_where_before : (m : Module) (a b : TypingFault) → IsBroken m a → IsLowered m b → is_before a b ≡ true → NotAfter (fault_key a) (fault_key b)
first_where_before m _ _ (broken s r h) (lowered n f there e) test = comes_first m n s r h test

pub behind_where_not : (m : Module) (a b : TypingFault) → IsBroken m a → IsLowered m b → is_before a b ≡ false → NotAfter (fault_key b) (fault_key a)
behind_where_not m _ _ (broken s r h) (lowered n f there e) test = comes_behind m n s r h test
