-- What the table of facts tells, and the first value on a ring of either kind of chain.
use Rattle.std.proofs.Common.{◌≡◌, ℕ, zero, suc, ◌<◌, ◌≤◌, List, [], ◌∷◌, length, refl, sym, ap, ◌∙◌, subst, arith, Bool, true, false, Option, None}
use Rattle.std.specs.Prelude.{nat_lt, slice_get, unwrap_or, if◌then◌else◌}
use Rattle.std.proofs.lemmas.Bool.Decides.{nat_tests}
use Rattle.sil_ast.specs.declared.function.Function.{Function}
use Rattle.sil_ast.specs.declared.place.ValueId.{ValueId}
use Rattle.sil_cfg.specs.Layout.{Layout}
use Rattle.numbered_form.specs.Numbering.{values_of}
use Rattle.ownership_kinds_chains.specs.OwnershipChains.Facts.{told_at}
use Rattle.ownership_kinds_chains.specs.OwnershipChains.Steps.{told_in}
use Rattle.ownership_kinds_chains.specs.OwnershipChains.inner.Outcome.{IsTold}
use Rattle.ownership_kinds_chains.specs.declared.ownership_chains.definition.Definition.{Definition}
use Rattle.ownership_kinds_chains.specs.declared.ownership_chains.facts.Facts.{Facts}
use Rattle.sil_types_declarations.specs.TypeDefinitions.Declarations.{Declarations}
use Rattle.ownership_kinds_origins.specs.Origins.{definitions_of}
use Rattle.ownership_kinds_chains.specs.OwnershipMarks.Known.{AreKindsBy}
use Rattle.ownership_kinds_chains.specs.OwnershipMarks.Known as marks
use Rattle.ownership_kinds_origins.specs.Facts.{facts_by, facts_in}

beyond : (table : List (Option Facts)) (n : ℕ) → length table ≤ n → unwrap_or (slice_get table n) None ≡ None
beyond [] n le = refl
beyond (o ∷ table) zero le = absurd (omega arith)
beyond (o ∷ table) (suc n) le = beyond table n (omega arith)

-- a table of what is told tells of every number what the definitions tell
pub told_everywhere : (defs : List Definition) (table : List (Option Facts)) → length table ≡ length defs → IsTold defs (told_at table) → (v : ValueId) → told_at table v ≡ facts_by defs v
told_everywhere defs table size told v = by (nat_lt v.0 (length defs)) refl
  where
    by : (b : Bool) → nat_lt v.0 (length defs) ≡ b → told_at table v ≡ (if nat_lt v.0 (length defs) then told_in defs (length defs) v else None)
    by true e =
        let lt : v.0 < length defs = grind (arith, nat_tests) in
        subst (λ b. told_at table v ≡ (if b then told_in defs (length defs) v else None)) (sym e) (told v lt)
    by false e =
        let le : length table ≤ v.0 = grind (arith, nat_tests) in
        subst (λ b. told_at table v ≡ (if b then told_in defs (length defs) v else None)) (sym e) (beyond table v.0 le)

pub kinds_by : (count : ℕ) (one other : ValueId → Option Facts) (f : Function) (g : Layout) (k : marks.Known) →
    ((v : ValueId) → one v ≡ other v) → AreKindsBy count one f g k → AreKindsBy count other f g k
kinds_by count one other f g k e h = subst (λ facts. AreKindsBy count facts f g k) (λ i v. e v i) h

-- what is known by a table of what is told is known by the function
pub kinds_told : (d : Declarations) (f : Function) (g : Layout) (k : marks.Known) (defs : List Definition) (table : List (Option Facts)) →
    defs ≡ definitions_of d f → length defs ≡ length (values_of f.blocks) →
    length table ≡ length defs → IsTold defs (told_at table) → AreKindsBy (length table) (told_at table) f g k → AreKindsBy (length (values_of f.blocks)) (facts_in d f) f g k
kinds_told d f g k defs table is each size told known =
    subst (λ n. AreKindsBy n (facts_in d f) f g k) (size ∙ each)
    (kinds_by (length table) (told_at table) (facts_in d f) f g k (λ v. told_everywhere defs table size told v ∙ ap (λ ds. facts_by ds v) is) known)
