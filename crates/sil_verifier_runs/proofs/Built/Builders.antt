-- What holds of each borrow of a new object, and goes on along upcasts, holds of all its building borrows.
use Rattle.std.proofs.Common.{◌≡◌, ◌⊎◌, inl, inr, ℕ, zero, suc, List, length, refl, sym, ◌∙◌, subst, true}
use Rattle.sil_verifier_frames.specs.memory_rules_accesses.Locations.{below, below_by, upcast_from}
use Rattle.sil_verifier_frames.specs.memory_rules_accesses.Sources.{source_at}
use Rattle.sil_verifier_frames.specs.memory_rules_accesses.declared.source.Source.{Source}
use Rattle.sil_verifier_frames.specs.memory_rules_accesses.declared.source.Source.TheVariants as source
use Rattle.sil_verifier_frames.specs.memory_rules_parts.Building.{builds}
use Rattle.sil_ast.specs.declared.place.ValueId.{ValueId}
use Rattle.sil_verifier_runs.proofs.Built.About.{builder, lends, lent, lent_is}

module _ (sources : List Source) (object : ValueId) where
  below_built : (v of : ValueId) → source_at sources v ≡ source.Upcast of → builds sources object v ≡ true → builds sources object of ≡ true
  below_built v of is built = by (builder sources object v built)
    where
      by : (source_at sources v ≡ source.Borrow object) ⊎ ((w : ValueId) × (source_at sources v ≡ source.Upcast w) × (builds sources object w ≡ true))
          → builds sources object of ≡ true
      by (inl borrow) = let two : source.Upcast of ≡ source.Borrow object = sym is ∙ borrow in absurd (cc)
      by (inr (w, upcast, more)) =
          let two : source.Upcast w ≡ source.Upcast of = sym upcast ∙ is in
          let same : w ≡ of = cc in
          subst (λ x. builds sources object x ≡ true) same more

  module _ (P : ValueId → Type 0) (borrows : (v : ValueId) → source_at sources v ≡ source.Borrow object → builds sources object v ≡ true → P v)
      (upcasts : (v of : ValueId) → source_at sources v ≡ source.Upcast of → builds sources object v ≡ true → P of → P v) where
    borrow_holds : (v : ValueId) → lends sources object (source_at sources v) ≡ true → builds sources object v ≡ true → P v
    borrow_holds v e built = borrows v (lent_is sources object (source_at sources v) e) built

    each_lent : (n : ℕ) (v : ValueId) → lent sources object n v ≡ true → builds sources object v ≡ true → P v
    each_lent zero v e built = borrow_holds v e built
    each_lent (suc n) v e built = by (each_lent n) (source_at sources v) refl e
      where
        by : ((of : ValueId) → lent sources object n of ≡ true → builds sources object of ≡ true → P of) → (s : Source) → source_at sources v ≡ s
            → lends sources object (source_at sources (below_by (below sources n) v s)) ≡ true → P v
        by below (source.Upcast of) is h = upcasts v of is built (below of h (below_built v of is built))
        by below (source.Slot trivial) is h = borrow_holds v h built
        by below (source.Argument row trivial) is h = borrow_holds v h built
        by below (source.Object fields) is h = borrow_holds v h built
        by below (source.Borrow of) is h = borrow_holds v h built
        by below (source.Loan of) is h = borrow_holds v h built
        by below (source.Field of k trivial) is h = borrow_holds v h built
        by below (source.Part of k) is h = borrow_holds v h built
        by below source.Other is h = borrow_holds v h built

    -- it holds of each building borrow of the object
    pub each_builder : (v : ValueId) → builds sources object v ≡ true → P v
    unfolding upcast_from
    each_builder v e = each_lent (length sources) v e e
