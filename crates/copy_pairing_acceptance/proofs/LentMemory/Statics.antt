-- Rules 608 and 611 are kept where a copy is lent: what a location is and which operations it has is the same.
use Rattle.std.proofs.Common.{◌≡◌, ℕ, List, [], ◌++◌, map, refl, sym, ap, ap₂, ◌∙◌, subst, Bool, true, false, cond, not, ◌&&◌, Option, Some, None, Contains}
use Rattle.std.specs.Prelude.{◌==◌, filter, find, option_map}
use Rattle.sil_verifier_trails.specs.memory_rules_accesses.Locations.{location_of}
use Rattle.sil_verifier_trails.specs.memory_rules_accesses.Operations.{addresses_of, deallocates, operations_of}
use Rattle.sil_verifier_trails.specs.memory_rules_accesses.declared.access.Operated.{Operated}
use Rattle.sil_verifier_trails.specs.memory_rules_accesses.declared.access.Operation.{Operation}
use Rattle.sil_verifier_trails.specs.memory_rules_accesses.declared.location.Location.{Location}
use Rattle.sil_verifier_trails.specs.memory_rules_accesses.declared.source.Source.{Source}
use Rattle.sil_verifier_trails.specs.memory_rules.Statics.{AddressPair, IsBrokenAt, address_in, crossed_with, crosses, handed, handed_of, is_no_slot}
use Rattle.sil_verifier_trails.specs.memory_rules.Statics.{lacking, lacking_at, lacks, lacks_by, overlapping, pairs_of, second_of}
use Rattle.numbered_form.specs.PointChecks.Points.{IsAt}
use Rattle.sil_ast.specs.declared.function.Function.{Function}
use Rattle.sil_ast.specs.declared.inst.Inst.{Inst}
use Rattle.sil_ast.specs.declared.place.ValueId.{ValueId}
use Rattle.sil_rules.specs.declared.rule.Rule.{Rule}
use Rattle.std.specs.List.{flat_map}
use Rattle.copy_pairing_acceptance.proofs.LentMemory.Sources.{AreLentSources, has_alike, location_alike, overlap_alike, slot_alike}

-- what an instruction does to locations, and what it deallocates
pub record DoesAlike (i j : Inst) : Type 0 where
  pub operations : operations_of j ≡ operations_of i
  pub deallocated : cond (deallocates j) (addresses_of j) [] ≡ cond (deallocates i) (addresses_of i) []

-- each instruction of g is one of f that does the same
pub record StandsAlike (f g : Function) (n k : ℕ) (j : Inst) : Type 0 where
  pub inst : Inst
  pub at : IsAt f n k inst
  pub does : DoesAlike inst j

module _ (S T : List Source) (c v : ValueId) (h : AreLentSources S T c v) where
  lacks_alike : lacks T ≡ lacks S
  lacks_alike = λ i x. one x i
    where
      by : (l : Option Location) (o : Operation) → lacks_by T l o ≡ lacks_by S l o
      by None o = refl
      by (Some l) o = ap not (has_alike S T c v h l o)

      one : (x : Operated) → lacks T x ≡ lacks S x
      one x = ap (λ l. lacks_by T l x.operation) (location_alike S T c v h x.address) ∙ by (location_of S x.address) x.operation

  no_slot_alike : is_no_slot T ≡ is_no_slot S
  no_slot_alike = λ i w. not (slot_alike S T c v h w i)

  crosses_alike : (subject : ValueId) → crosses T subject ≡ crosses S subject
  crosses_alike subject = λ i p. (p.first.address.0 == subject.0) && (not (p.first.shared && p.second.shared) && overlap_alike S T c v h p.first.address p.second.address i)

  crossed_alike : (i j : Inst) → DoesAlike i j → (subject : ValueId) → crossed_with T j subject ≡ crossed_with S i subject
  crossed_alike i j does subject =
      ap (λ ops. option_map second_of (find (crosses T subject) (pairs_of (flat_map handed ops)))) does.operations
      ∙ ap (λ (test : AddressPair → Bool). option_map second_of (find test (pairs_of (handed_of i)))) (crosses_alike subject)

  deallocated_filter : (sources : List Source) (i : Inst) → cond (deallocates i) (filter (is_no_slot sources) (addresses_of i)) []
      ≡ filter (is_no_slot sources) (cond (deallocates i) (addresses_of i) [])
  deallocated_filter sources i = at (deallocates i)
    where
      at : (b : Bool) → cond b (filter (is_no_slot sources) (addresses_of i)) [] ≡ filter (is_no_slot sources) (cond b (addresses_of i) [])
      at true = refl
      at false = refl

  lacking_alike : (i j : Inst) → DoesAlike i j → lacking_at T j ≡ lacking_at S i
  lacking_alike i j does =
      ap₂ (λ (xs ys : List ValueId). xs ++ ys)
      (ap₂ (λ (test : Operated → Bool) (ops : List Operated). map address_in (filter test ops)) lacks_alike does.operations)
      (deallocated_filter T j
      ∙ ap₂ (λ (test : ValueId → Bool) (ws : List ValueId). filter test ws) no_slot_alike does.deallocated
      ∙ sym (deallocated_filter S i))

  -- what breaks one of the rules in g breaks it in f
  pub static_before : (f g : Function) → ((n k : ℕ) (j : Inst) → IsAt g n k j → StandsAlike f g n k j)
      → (r : Rule) (subject : ValueId) (other : Option ValueId) (n k : ℕ) → IsBrokenAt T g r subject other n k → IsBrokenAt S f r subject other n k
  static_before f g stands _ _ _ _ _ (overlapping n k j a b at crossed) =
      let s = stands n k j at in overlapping n k s.inst a b s.at (sym (crossed_alike s.inst j s.does a) ∙ crossed)
  static_before f g stands _ _ _ _ _ (lacking n k j a at there) =
      let s = stands n k j at in lacking n k s.inst a s.at (subst (λ (ws : List ValueId). Contains ws a) (lacking_alike s.inst j s.does) there)
