-- The walk of a refusal has the fewest edges of all that show its rule of its value.
use Rattle.std.proofs.Common.{◌≡◌, ℕ, ◌≤◌, List, [], ◌∷◌, ◌++◌, Bool, true, false, not, ◌||◌, length, cond, refl, sym, ap, ◌∙◌, subst, arith, inl, inr, true≢false}
use Rattle.sil_ast.specs.declared.module.Module.{Module}
use Rattle.sil_rules.specs.declared.rule_faults.fault.RuleFault.{RuleFault}
use Rattle.sil_rules.specs.Order.{NotAfter, stage_of, subject_key}
use Rattle.sil_rules.specs.Rules.{group_of}
use Rattle.sil_rules.specs.declared.group.Group.{Group}
use Rattle.sil_rules.specs.declared.group.Group.TheVariants as group
use Rattle.ownership_kinds.specs.sil_types_declarations.TypeDefinitions.Declarations.{declarations_of}
use Rattle.memory_rules.specs.Statics.{is_static}
use Rattle.sil_verifier_accepted.proofs.AcceptedModules.Groups.{stage_told}
use Rattle.sil_verifier_accepted.specs.AcceptedModules.Findings.{value}
use Rattle.sil_verifier_accepted.specs.AcceptedModules.inner.Laws.{AreWalksShortest}
use Rattle.sil_verifier_accepted.specs.AcceptedModules.Shown.{has_walk, is_of_kinds, last_key}
use Rattle.sil_verifier_accepted.specs.AcceptedModules.Values.{IsShown}

-- what comes behind a common front is in the same order
behind : (front xs ys : List ℕ) → NotAfter (front ++ xs) (front ++ ys) → NotAfter xs ys
behind [] xs ys h = h
behind (x ∷ front) xs ys (inl lt) = absurd (omega arith)
behind (x ∷ front) xs ys (inr h) = behind front xs ys h.1

not_static : (b : Bool) → not (false || b) ≡ true → b ≡ false
not_static true e = absurd (true≢false (sym e))
not_static false e = refl

-- a rule on walks that is looked for function by function is ordered by the number of edges
edges_last : (g : Group) (s : RuleFault) → stage_of g ≡ 6 → not (is_of_kinds g || is_static s.rule) ≡ true → last_key g s ≡ length s.walk ∷ []
edges_last group.Declarations s stage walk = absurd (omega arith)
edges_last group.Finiteness s stage walk = absurd (omega arith)
edges_last group.Typing s stage walk = absurd (omega arith)
edges_last group.Deinitialisers s stage walk = absurd (omega arith)
edges_last group.Definitions s stage walk = refl
edges_last group.Kinds s stage walk = absurd (true≢false (sym walk))
edges_last group.Lifetimes s stage walk = refl
edges_last group.Scopes s stage walk = refl
edges_last group.Memory s stage walk = ap (λ b. cond b (s.point.block.0 ∷ s.point.index ∷ []) (length s.walk ∷ [])) (not_static (is_static s.rule) walk)

edges_of : (m : Module) (n : ℕ) (s : RuleFault) → IsShown m (record { function = n; showing = s }) → has_walk s.rule ≡ true → last_key (group_of s.rule) s ≡ length s.walk ∷ []
edges_of m n s shown walk = edges_last (group_of s.rule) s (stage_told (declarations_of m) shown.within s shown.shown) walk

no_fewer : (a b : ℕ) → NotAfter (a ∷ []) (b ∷ []) → a ≤ b
no_fewer a b (inl lt) = omega arith
no_fewer a b (inr h) = let same : a ≡ b = h.0 in omega arith

pub are_shortest : AreWalksShortest
are_shortest m n s other h walk shown same_rule same_subject = no_fewer (length s.walk) (length other.walk) (behind front (length s.walk ∷ []) (length other.walk ∷ []) moved)
  where
    front : List ℕ
    front = subject_key n s.subject.0 s.rule

    other_front : List ℕ
    other_front = subject_key n other.subject.0 other.rule

    fronts : other_front ≡ front
    fronts = ap (λ v. subject_key n v.0 other.rule) same_subject ∙ ap (subject_key n s.subject.0) same_rule

    after : NotAfter (front ++ last_key (group_of s.rule) s) (other_front ++ last_key (group_of other.rule) other)
    after = h.first (value n other) shown

    moved : NotAfter (front ++ (length s.walk ∷ [])) (front ++ (length other.walk ∷ []))
    moved =
        subst (λ k. NotAfter (front ++ (length s.walk ∷ [])) (k ++ (length other.walk ∷ []))) fronts
        (subst (λ k. NotAfter (front ++ (length s.walk ∷ [])) (other_front ++ k)) (edges_of m n other shown (subst (λ r. has_walk r ≡ true) (sym same_rule) walk))
        (subst (λ k. NotAfter (front ++ k) (other_front ++ last_key (group_of other.rule) other)) (edges_of m n s h.shown walk) after))
