-- The least fault of a function is its first broken rule, and without one nothing is broken.
use Rattle.std.proofs.Common.{◌≡◌, ℕ, sym, ap, ◌∙◌, Option, Some, None}
use Rattle.std.specs.Prelude.{IfSome, IfNone, option_map}
use Rattle.sil_ast.specs.declared.function.Function.{Function}
use Rattle.sil_ast.specs.declared.place.ValueId.{ValueId}
use Rattle.numbered_form.specs.Numbering.{AreCountedFrom, values_of}
use Rattle.sil_rules.specs.Order.{NotAfter}
use Rattle.sil_rules.specs.declared.rule.Rule.{Rule}
use Rattle.sil_rules.proofs.Keys.{not_after_trans}
use Rattle.numbered_form.specs.PointChecks.Points.{key_at}
use Rattle.numbered_form.specs.PointChecks.inner.Faults.{key_of, least}
use Rattle.numbered_form.specs.declared.point_checks.fault.PointFault.{PointFault}
use Rattle.numbered_form.proofs.PointChecks.Among.{Among}
use Rattle.numbered_form.proofs.PointChecks.Order.{least_among, least_none}
use Rattle.numbered_form.specs.ValueTables.Borrows.{borrows_of}
use Rattle.sil_types_declarations.specs.TypeDefinitions.Declarations.{Declarations}
use Rattle.sil_types_declarations.specs.declared.type_definitions.kind.Kind.{Kind}
use Rattle.ownership_kinds_origins.specs.Facts.{kind_in, kind_of_facts}
use Rattle.ownership_kinds.specs.inner.Ends.{IsFirstFault}
use Rattle.ownership_kinds.specs.inner.Faults.{faults_of}
use Rattle.ownership_kinds.specs.inner.Known.{IsKnown, IsRingOf, kind_told}
use Rattle.ownership_kinds.specs.Statics.{HasKinds}
use Rattle.ownership_kinds.specs.declared.check.KindCheck.{KindCheck}
use Rattle.ownership_kinds.proofs.Broken.{all_faults, answered, faults_break}

-- look-ups that agree everywhere are the same
same_kinds : (one other : ValueId → Option Kind) → ((v : ValueId) → one v ≡ other v) → one ≡ other
same_kinds one other e = λ i v. e v i

pub known_faults : (d : Declarations) (f : Function) (k : KindCheck) → IsKnown d f k →
    faults_of (kind_told k.facts.now) k.ring k.borrows.now d f ≡ all_faults d f k.ring
known_faults d f k is =
    ap (λ b. faults_of (kind_told k.facts.now) k.ring b d f) is.borrows ∙
    ap (λ kinds. faults_of kinds k.ring (borrows_of f) d f)
    (same_kinds (kind_told k.facts.now) (kind_in d f) (λ v. ap (option_map kind_of_facts) (is.facts v)))

module _ (d : Declarations) (f : Function) (ring : Option ValueId) (counted : AreCountedFrom 0 (values_of f.blocks)) (is : IsRingOf d f ring) where
  pub first_some : (o : Option PointFault) → o ≡ least None (all_faults d f ring) → IfSome o (IsFirstFault d f)
  first_some None e = tt
  first_some (Some x) e = at (least_among (all_faults d f ring) x (sym e))
    where
      at : Among x (all_faults d f ring) × ((y : PointFault) → Among y (all_faults d f ring) → NotAfter (key_of x) (key_of y)) → IsFirstFault d f x
      at l = record { broken = faults_break d f ring is x l.0; first = λ s w m n broken. before s w m n (answered d f ring counted is s w m n broken) }
        where
          before : (s : Rule) (w : ValueId) (m n : ℕ) →
              (y : PointFault) × Among y (all_faults d f ring) × NotAfter (key_of y) (key_at s w m n) → NotAfter (key_of x) (key_at s w m n)
          before s w m n r = not_after_trans (key_of x) (key_of r.0) (key_at s w m n) (l.1 r.0 r.1) r.2

  pub first_none : (o : Option PointFault) → o ≡ least None (all_faults d f ring) → IfNone o (HasKinds d f)
  first_none (Some x) e = tt
  first_none None e = λ r v n k broken. none r v n k (answered d f ring counted is r v n k broken)
    where
      none : (r : Rule) (v : ValueId) (n k : ℕ) → (y : PointFault) × Among y (all_faults d f ring) × NotAfter (key_of y) (key_at r v n k) → ⊥
      none r v n k a = least_none (all_faults d f ring) a.0 (sym e) a.1
