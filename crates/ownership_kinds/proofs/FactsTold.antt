-- The facts of a function's values are those that are told by the facts of their operands.
use Rattle.std.proofs.Common.{◌≡◌, ◌<◌, ◌≤◌, List, length, refl, sym, ap, ◌∙◌, subst, arith, Bool, true, false, Option, Some, None}
use Rattle.std.specs.Prelude.{◌↔◌, nat_lt, if◌then◌else◌}
use Rattle.std.proofs.lemmas.Bool.Decides.{nat_tests}
use Rattle.std.proofs.lemmas.Option.{none-some}
use Rattle.sil_ast.specs.declared.place.ValueId.{ValueId}
use Rattle.ownership_kinds_chains.proofs.OwnershipChains.Enough.{told_in_time}
use Rattle.ownership_kinds_chains.specs.OwnershipChains.Chains.{IsInRange}
use Rattle.ownership_kinds_chains.specs.OwnershipChains.Facts.{AreFactsOf}
use Rattle.ownership_kinds_chains.specs.OwnershipChains.Steps.{told_in}
use Rattle.ownership_kinds_chains.specs.declared.ownership_chains.definition.Definition.{Definition}
use Rattle.ownership_kinds_chains.specs.declared.ownership_chains.facts.Facts.{Facts}
use Rattle.ownership_kinds_origins.proofs.Counts.{are_of_values}
use Rattle.ownership_kinds_origins.proofs.Ranges.{are_in_range}
use Rattle.ownership_kinds_origins.specs.Origins.{definitions_of}
use Rattle.ownership_kinds_origins.specs.Facts.{facts_by, facts_in}
use Rattle.ownership_kinds.specs.inner.Laws.{AreFactsTold}

by_steps : (defs : List Definition) (v : ValueId) (x : Facts) → IsInRange defs → (facts_by defs v ≡ Some x) ↔ ((v.0 < length defs) × AreFactsOf defs v x)
by_steps defs v x range = at (nat_lt v.0 (length defs)) refl
  where
    at : (b : Bool) → nat_lt v.0 (length defs) ≡ b → (facts_by defs v ≡ Some x) ↔ ((v.0 < length defs) × AreFactsOf defs v x)
    at true e =
        let lt : v.0 < length defs = grind (arith, nat_tests) in
        let is : facts_by defs v ≡ told_in defs (length defs) v = ap (λ b. if b then told_in defs (length defs) v else None) e in
        (λ h. (lt, (told_in_time defs v x range lt).1 (sym is ∙ h)), λ h. is ∙ (told_in_time defs v x range lt).0 h.1)
    at false e =
        let le : length defs ≤ v.0 = grind (arith, nat_tests) in
        let is : facts_by defs v ≡ None = ap (λ b. if b then told_in defs (length defs) v else None) e in
        (λ h. absurd (none-some x (sym is ∙ h)), λ h. absurd (let lt : v.0 < length defs = h.0 in omega arith))

pub facts_told : AreFactsTold
facts_told d f v x (m, numbered, member) =
    subst (λ n. (facts_in d f v ≡ Some x) ↔ ((v.0 < n) × AreFactsOf (definitions_of d f) v x)) (are_of_values d f).0
    (by_steps (definitions_of d f) v x (are_in_range d m f numbered member).0)
