-- Where what is broken stands in the order: on walks as any fault, and a static rule never with one on walks.
use Rattle.std.proofs.Common.{◌≡◌, ℕ, [], ◌∷◌, length, refl, sym, ap, ◌∙◌, subst, inl, inr, Bool, false, Option, Some, None}
use Rattle.std.specs.Prelude.{cond, ◌==◌, ◌||◌}
use Rattle.sil_rules.specs.RuleFaults.Keys.{fault_key}
use Rattle.sil_rules.specs.declared.rule_faults.fault.RuleFault.{RuleFault}
use Rattle.sil_rules.specs.Order.{Either, IsEarlier, IsFirst, NotAfter}
use Rattle.sil_rules.specs.Rules.{number_of}
use Rattle.sil_rules.specs.declared.rule.Rule.{Rule}
use Rattle.sil_rules.specs.declared.rule.Rule.TheVariants as rule
use Rattle.sil_rules.proofs.Firsts.{first_earlier}
use Rattle.memory_rules.specs.Broken.{break_key, last_key}
use Rattle.memory_rules.specs.Statics.{is_static}

abbrev static_number : ℕ → Bool
static_number n = n == number_of rule.InoutOverlap || n == number_of rule.PartialAccess

static_alike : (r s : Rule) → number_of r ≡ number_of s → is_static r ≡ is_static s
static_alike r s e = ap static_number e

last_walk : (x : RuleFault) → is_static x.rule ≡ false → last_key x.rule x.walk x.point ≡ length x.walk ∷ []
last_walk x e = ap (λ b. cond b (x.point.block.0 ∷ x.point.index ∷ []) (length x.walk ∷ [])) e

-- on walks what is broken is ordered as a fault
pub walk_key : (x : RuleFault) → is_static x.rule ≡ false → break_key x ≡ fault_key x
walk_key x e = ap (λ rest. x.subject.0 ∷ number_of x.rule ∷ rest) (last_walk x e)

-- where the two are of one rule, neither is static
abbrev AreOnWalks : RuleFault → RuleFault → Type 0
AreOnWalks x z = number_of x.rule ≡ number_of z.rule → (is_static x.rule ≡ false) × (is_static z.rule ≡ false)

by_faults : (x z : RuleFault) → AreOnWalks x z → NotAfter (fault_key x) (fault_key z) → NotAfter (break_key x) (break_key z)
by_faults x z on_walks (inl lt) = inl lt
by_faults x z on_walks (inr (e, inl lt)) = inr (e, inl lt)
by_faults x z on_walks (inr (e, inr (same, rest))) =
    inr (
      e,
      inr (
        same,
        subst (NotAfter (last_key x.rule x.walk x.point)) (sym (last_walk z (on_walks same).1))
            (subst (λ l. NotAfter l (length z.walk ∷ [])) (sym (last_walk x (on_walks same).0)) rest),
      ),
    )

-- two faults of which the first is on walks
alike : (x z : RuleFault) → is_static x.rule ≡ false → AreOnWalks x z
alike x z on_walks same = (on_walks, sym (static_alike x.rule z.rule same) ∙ on_walks)

alike_back : (x z : RuleFault) → is_static x.rule ≡ false → AreOnWalks z x
alike_back x z on_walks same = (static_alike z.rule x.rule same ∙ on_walks, on_walks)

earlier_kept : (a b r : Option RuleFault) → ((x : RuleFault) → a ≡ Some x → is_static x.rule ≡ false) → IsEarlier fault_key a b r → IsEarlier break_key a b r
earlier_kept None b r on_walks e = e
earlier_kept (Some x) None r on_walks e = e
earlier_kept (Some x) (Some z) r on_walks (inl e) = inl (e.0, by_faults x z (alike x z (on_walks x refl)) e.1)
earlier_kept (Some x) (Some z) r on_walks (inr e) = inr (e.0, by_faults z x (alike_back x z (on_walks x refl)) e.1)

-- where the one kind is on walks, the earlier fault is the first of both
module _ (One Other : RuleFault → Type 0) (on_walks : (x : RuleFault) → One x → is_static x.rule ≡ false) where
  shown_on_walks : (a : Option RuleFault) → IsFirst break_key One a → (x : RuleFault) → a ≡ Some x → is_static x.rule ≡ false
  shown_on_walks None none x e = absurd cc
  shown_on_walks (Some y) first x e = let same : y ≡ x = cc in subst (λ z. is_static z.rule ≡ false) same (on_walks y first.shown)

  pub earlier_first : (a b r : Option RuleFault) → IsFirst break_key One a → IsFirst break_key Other b → IsEarlier fault_key a b r → IsFirst break_key (Either One Other) r
  earlier_first a b r one other e = first_earlier break_key One Other a b r one other (earlier_kept a b r (shown_on_walks a one) e)
