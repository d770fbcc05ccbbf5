-- No instruction of the function in which a copy became a move breaks 608 or 611.
use Rattle.std.proofs.Common.{◌≡◌, ℕ, ◌<◌, List, [], ◌++◌, refl, sym, ap, ◌∙◌, subst, arith, Option, Some, None}
use Rattle.std.specs.Prelude.{Contains, filter, find, map, option_map}
use Rattle.std.specs.List.{flat_map}
use Rattle.instruction_table.specs.declared.op.Op.TheVariants as op
use Rattle.copy_pairing_model.specs.Copies.{Copies}
use Rattle.copy_pairing_model.specs.Rewritten.{with_op}
use Rattle.sil_verifier_trails.specs.memory_rules_accesses.Operations.{access_kind_of, operated_at, operations_of}
use Rattle.sil_verifier_trails.specs.memory_rules_accesses.declared.access.Operated.{Operated}
use Rattle.sil_verifier_trails.specs.memory_rules_accesses.declared.source.Source.{Source}
use Rattle.sil_verifier_trails.specs.memory_rules.Broken.{IsBroken, static}
use Rattle.sil_verifier_trails.specs.memory_rules.Statics.{IsBrokenAt, address_in, crossed_with, crosses, handed, lacking, lacking_at, lacks, overlapping, pairs_of, second_of}
use Rattle.ownership_kinds_chains.specs.declared.ownership_chains.facts.Facts.{Facts}
use Rattle.sil_rules.specs.declared.rule_faults.fault.RuleFault.{RuleFault}
use Rattle.sil_ast.specs.declared.function.Function.{Function}
use Rattle.sil_ast.specs.declared.inst.Inst.{Inst}
use Rattle.sil_ast.specs.declared.place.ValueId.{ValueId}
use Rattle.sil_cfg.specs.Items.{point_at}
use Rattle.sil_rules.specs.declared.rule.Rule.{Rule}
use Rattle.sil_rules.specs.declared.rule.Rule.TheVariants as rule
use Rattle.copy_pairing_acceptance.specs.MovedMemory.inner.Items.{ArePointsFrom, PointFrom, became, stood}
use Rattle.copy_pairing_acceptance.proofs.MovedMemory.MovedAccesses.{move_takes}

module _ (sources : List Source) where
  -- a move does nothing to a location
  move_does : (i : Inst) (c v : ValueId) → Copies i c v → operations_of (with_op op.MoveValue i) ≡ []
  move_does i c v h = ap (flat_map (operated_at (access_kind_of op.MoveValue) i.qualifier)) (move_takes i c v h)

  no_crossing : (i : Inst) (c v a b : ValueId) → Copies i c v → crossed_with sources (with_op op.MoveValue i) a ≡ Some b → ⊥
  no_crossing i c v a b h e =
      let none : None ≡ Some b = ap (λ xs. option_map second_of (find (crosses sources a) (pairs_of (flat_map handed xs)))) (sym (move_does i c v h)) ∙ e in
      cc

  none_lacking : (i : Inst) (c v a : ValueId) → Copies i c v → Contains (lacking_at sources (with_op op.MoveValue i)) a → ⊥
  none_lacking i c v a h has =
      let none : Contains [] a = subst (λ (xs : List Operated). Contains (map address_in (filter (lacks sources) xs) ++ []) a) (move_does i c v h) has in
      let lt : none.0 < 0 = none.1 in
      omega arith

  module _ (facts : ValueId → Option Facts) (f other : Function) (c v : ValueId) (clean : (s : RuleFault) → IsBroken sources facts f s → ⊥)
      (points : ArePointsFrom f other c v) where
    unbroken : (r : Rule) (s : ValueId) (o : Option ValueId) (n k : ℕ) → IsBrokenAt sources f r s o n k → ⊥
    unbroken r s o n k h = clean (record { rule = r; subject = s; other = o; point = point_at n k; walk = [] }) (static refl h)

    pub statics_clean : (r : Rule) (s : ValueId) (o : Option ValueId) (n k : ℕ) → IsBrokenAt sources other r s o n k → ⊥
    statics_clean _ _ _ _ _ (overlapping n k i a b at e) = from (points n k i at)
      where
        from : PointFrom f other c v n i → ⊥
        from (stood j there) = unbroken rule.InoutOverlap a (Some b) n j (overlapping n j i a b there e)
        from (became copy h is) = no_crossing copy c v a b h (subst (λ x. crossed_with sources x a ≡ Some b) is e)
    statics_clean _ _ _ _ _ (lacking n k i a at has) = from (points n k i at)
      where
        from : PointFrom f other c v n i → ⊥
        from (stood j there) = unbroken rule.PartialAccess a None n j (lacking n j i a there has)
        from (became copy h is) = none_lacking copy c v a h (subst (λ x. Contains (lacking_at sources x) a) is has)
