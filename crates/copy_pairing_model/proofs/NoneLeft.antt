-- Where no copy can go none is rewritten, and the other way round; so none can go in an optimised module.
use Rattle.std.proofs.Common.{◌≡◌, ℕ, refl, Option, Some, None}
use Rattle.std.specs.Prelude.{MatchOption}
use Rattle.std.specs.List.{slice_get}
use Rattle.std.proofs.lemmas.Option.{MatchOption-at_some}
use Rattle.sil_ast.specs.declared.function.Function.{Function}
use Rattle.sil_ast.specs.declared.module.Module.{Module}
use Rattle.sil_ast.specs.declared.place.PointId.{PointId}
use Rattle.sil_ast.specs.declared.place.ValueId.{ValueId}
use Rattle.copy_pairing_model.specs.Copies.{IsCopy}
use Rattle.copy_pairing_model.specs.Optimised.{HasNoRemovable, IsOptimised, Rewrites, done, facts_of, lends, more, moves}
use Rattle.copy_pairing_model.specs.Removable.{IsBorrowable, IsRemoval, IsRemovalIn}
use Rattle.copy_pairing_model.specs.declared.removal.Removal.TheVariants.{No}

module _ (m : Module) where
  none_there : HasNoRemovable m → (n : ℕ) (p : PointId) (f : Function) (c v : ValueId) → slice_get m.functions n ≡ Some f → IsCopy f p c v → IsRemoval (facts_of m f) f p c v No
  none_there none n p f c v there copy = MatchOption-at_some (No ≡ No) (λ g. IsRemovalIn (facts_of m g) g p No) f there (none n p) c v copy

  pub none_rewritten : HasNoRemovable m → (n : ℕ) (p : PointId) (next : Module) → Rewrites m n p next → ⊥
  none_rewritten none n p _ (lends f c v there copy h) = (none_there none n p f c v there copy).0 h
  none_rewritten none n p _ (moves f c v there copy not h) = (none_there none n p f c v there copy).1 h

  module _ (none : (n : ℕ) (p : PointId) (next : Module) → Rewrites m n p next → ⊥) where
    can_not_go : (n : ℕ) (p : PointId) (f : Function) (c v : ValueId) → slice_get m.functions n ≡ Some f → IsCopy f p c v → IsRemoval (facts_of m f) f p c v No
    can_not_go n p f c v there copy =
        let never : IsBorrowable (facts_of m f) f c v → ⊥ = λ h. none n p _ (lends f c v there copy h) in
        (never, λ h. none n p _ (moves f c v there copy never h))

    pub none_removable : HasNoRemovable m
    none_removable n p = at (slice_get m.functions n) refl
      where
        at : (o : Option Function) → slice_get m.functions n ≡ o → MatchOption o (No ≡ No) (λ f. IsRemovalIn (facts_of m f) f p No)
        at None none = refl
        at (Some f) there = λ c v copy. can_not_go n p f c v there copy

pub none_left : (m last : Module) → IsOptimised m last → HasNoRemovable last
none_left m _ (done _ none) = none
none_left m last (more _ next _ h rest) = none_left next last rest
