-- A module in which a copy became a move runs as it did: the parts of the lockstep together.
use Rattle.std.proofs.Common.{◌≡◌, ◌⊎◌, inl, inr, ℕ, zero, suc, ◌<◌, List, [], ◌∷◌, refl, sym, ap, ◌∙◌, subst, true, false, Some}
use Rattle.std.specs.Prelude.{option_map, slice_get}
use Rattle.std.specs.List.{list_any}
use Rattle.std.proofs.lemmas.Bool.{cases_eq}
use Rattle.std.proofs.lemmas.Option.{same_Some}
use Rattle.sil_verifier_runs.specs.sil_verifier_accepted.AcceptedModules.inner.Checked.{IsVerified}
use Rattle.holder_model_laws.specs.ownership_kinds_origins.Facts.{facts_in}
use Rattle.copy_pairing_acceptance.specs.copy_pairing_model.Removable.{concerns}
use Rattle.copy_pairing_acceptance.specs.copy_pairing_model.Rewritten.{changed_at, moved, moved_block, with_function}
use Rattle.ownership_kinds_chains.specs.OwnershipChains.Facts.{is_owned, known_or}
use Rattle.ownership_kinds_chains.specs.OwnershipMarks.Marks.{marks_of}
use Rattle.sil_ast.specs.declared.function.Function.{Function}
use Rattle.sil_ast.specs.declared.module.Module.{Module}
use Rattle.sil_ast.specs.declared.place.FuncId.{FuncId}
use Rattle.sil_ast.specs.declared.place.PointId.{PointId}
use Rattle.sil_ast.specs.declared.place.ValueId.{ValueId}
use Rattle.sil_cfg.specs.Items.{point_at}
use Rattle.sil_cfg.specs.declared.item.Item.{Item}
use Rattle.sil_cfg.specs.declared.item.Item.TheVariants as item
use Rattle.sil_types_declarations.specs.TypeDefinitions.Declarations.{declarations_of}
use Rattle.holder_model_laws.specs.holder_model.Frames.{Entry, has_any}
use Rattle.holder_model_laws.specs.holder_model.HolderStates.{HolderState}
use Rattle.holder_model_laws.specs.holder_model.ModuleFacts.{ModuleFacts, facts_of}
use Rattle.holder_model_laws.specs.LockstepRuns.inner.Agreeing.{RunsAsItDid}
use Rattle.holder_model_laws.specs.LockstepRuns.inner.Frames.{DoAlike, FrameParts}
use Rattle.holder_model_laws.specs.LockstepRuns.inner.Laws.{HoldsOnRuns}
use Rattle.holder_model_laws.specs.LockstepRuns.inner.Lockstep.{IsKeptBy}
use Rattle.holder_model_laws.specs.LockstepRuns.inner.Parts.{HasFunctions, StandsFor}
use Rattle.holder_model_laws.proofs.LockstepRuns.AsTheyDid.{run_as_they_did}
use Rattle.holder_model_laws.proofs.LockstepRuns.Unchanged.{unchanged_does_alike}
use Rattle.copy_pairing_acceptance.proofs.MovedFunctions.Lists.{changed_elsewhere, changed_there}
use Rattle.copy_pairing_acceptance.proofs.MovedFunctions.Places.{after}
use Rattle.copy_pairing_acceptance.proofs.MovedFunctions.SameFacts.{copy_apart, destroy_makes_none}
use Rattle.copy_pairing_acceptance.proofs.MovedFunctions.Split.{IsSplit}
use Rattle.copy_pairing_runs.specs.MovedRuns.inner.MovedFrames.{IsAlone, IsLike, KnowsFrames}
use Rattle.copy_pairing_runs.proofs.MovedRuns.Covered.{drops_covered, finishes_covered}
use Rattle.copy_pairing_runs.proofs.MovedRuns.DoMoved.{v_is_owned}
use Rattle.copy_pairing_runs.proofs.MovedRuns.EndsMoved.{moved_does_alike}
use Rattle.copy_pairing_runs.proofs.MovedRuns.SameTold.{facts_same}
use Rattle.copy_pairing_runs.proofs.MovedRuns.Together.{come_together}

any_still : {A : Type 0} (change : A → A) (n : ℕ) (xs : List A) → has_any (changed_at n change xs) ≡ has_any xs
any_still change n [] = refl
any_still change zero (x ∷ xs) = refl
any_still change (suc n) (x ∷ xs) = refl

module _ (m : Module) (n : ℕ) (f : Function) (verified : IsVerified m) (in_module : slice_get m.functions n ≡ Some f) {p : PointId} {last : ℕ}
    {c v : ValueId} (s : IsSplit f p last c v) where
  abbrev m' : Module
  m' = with_function n (moved p last) m

  abbrev told : ModuleFacts
  told = facts_of m

  abbrev Like : FuncId → List Item → List Entry → List Item → List Entry → Type 0
  Like = IsLike p c v last n f (after s)

  abbrev Alone : FuncId → List Item → Type 0
  Alone = IsAlone p c v last n f (after s)

  -- ---- the functions of both

  other_function : (g : FuncId) → (g.0 ≡ n → ⊥) → slice_get m'.functions g.0 ≡ slice_get m.functions g.0
  other_function g ne = changed_elsewhere (moved p last) n g.0 m.functions ne

  changed_function : (g : FuncId) (k : Function) → g.0 ≡ n → slice_get m.functions g.0 ≡ Some k → slice_get m'.functions g.0 ≡ Some (moved p last k)
  changed_function g k e there =
      ap (slice_get m'.functions) e ∙ changed_there (moved p last) n m.functions ∙ ap (option_map (moved p last)) (ap (slice_get m.functions) (sym e) ∙ there)

  has_functions : HasFunctions m m'
  has_functions = record {
    function = λ g k there. forth g k there (cases_eq g.0 n);
    back = λ g k' there. back g k' there (cases_eq g.0 n);
    stands = λ g k k' there there'. stands g k k' there there' (cases_eq g.0 n);
    deinits = λ class. refl;
  }
    where
      forth : (g : FuncId) (k : Function) → slice_get m.functions g.0 ≡ Some k → (g.0 ≡ n) ⊎ (g.0 ≡ n → ⊥)
          → (k' : Function) × (slice_get m'.functions g.0 ≡ Some k')
      forth g k there (inl e) = (moved p last k, changed_function g k e there)
      forth g k there (inr ne) = (k, other_function g ne ∙ there)

      back : (g : FuncId) (k' : Function) → slice_get m'.functions g.0 ≡ Some k' → (g.0 ≡ n) ⊎ (g.0 ≡ n → ⊥)
          → (k : Function) × (slice_get m.functions g.0 ≡ Some k)
      back g k' there (inl e) = (f, ap (slice_get m.functions) e ∙ in_module)
      back g k' there (inr ne) = (k', sym (other_function g ne) ∙ there)

      stands : (g : FuncId) (k k' : Function) → slice_get m.functions g.0 ≡ Some k → slice_get m'.functions g.0 ≡ Some k' → (g.0 ≡ n) ⊎ (g.0 ≡ n → ⊥) → StandsFor k k'
      stands g k k' there there' (inl e) =
          let one : k' ≡ moved p last k = same_Some k' (moved p last k) (sym there' ∙ changed_function g k e there) in
          record {
            bodied = ap (λ (x : Function). has_any x.blocks) one ∙ any_still (moved_block p.index last) p.block.0 k.blocks;
            signature = ap (λ (x : Function). x.signature) one;
          }
      stands g k k' there there' (inr ne) =
          let one : k' ≡ k = same_Some k' k (sym there' ∙ other_function g ne ∙ there) in
          record { bodied = ap (λ (x : Function). has_any x.blocks) one; signature = ap (λ (x : Function). x.signature) one }

  -- ---- the parts

  module _ (owned : is_owned (known_or (facts_in (declarations_of m) f) v).kind ≡ true)
      (quiet : (k : ℕ) → p.index < k → k < last
      → list_any (concerns c v) (marks_of (facts_in (declarations_of m) f) f (item.Inst (point_at p.block.0 k))) ≡ false) where
    module _ (bound : ℕ) (First Second : HolderState → Type 0) (kept : IsKeptBy m (facts_of m) bound First) (knows : KnowsFrames p c v last n f (after s) First) where
      frames : (g : FuncId) (k k' : Function) → slice_get m.functions g.0 ≡ Some k → slice_get m'.functions g.0 ≡ Some k'
          → DoAlike m m' told told bound First Second Like Alone g k k'
      frames g k k' there there' = by (cases_eq g.0 n)
        where
          by : (g.0 ≡ n) ⊎ (g.0 ≡ n → ⊥) → DoAlike m m' told told bound First Second Like Alone g k k'
          by (inl e) =
              let one : k ≡ f = same_Some k f (sym there ∙ ap (slice_get m.functions) e ∙ in_module) in
              let other : k' ≡ moved p last k = same_Some k' (moved p last k) (sym there' ∙ changed_function g k e there) in
              subst (λ x. DoAlike m m' told told bound First Second Like Alone g x k') (sym one)
              (subst (λ x. DoAlike m m' told told bound First Second Like Alone g f x) (sym (other ∙ ap (moved p last) one))
              (moved_does_alike m n f verified in_module s owned quiet bound First Second knows g e))
          by (inr ne) =
              let one : k' ≡ k = same_Some k' k (sym there' ∙ other_function g ne ∙ there) in
              subst (λ x. DoAlike m m' told told bound First Second Like Alone g k x) (sym one)
              (unchanged_does_alike m m' told told bound First Second Like Alone refl refl g k refl
              (λ trail trail' entries entries' like. same trail trail' entries entries' like) (λ trail entries. IsLike.elsewhere ne refl refl))
            where
              same : (trail trail' : List Item) (entries entries' : List Entry) → Like g trail entries trail' entries' → (trail' ≡ trail) × (entries' ≡ entries)
              same trail trail' entries entries' (IsLike.here e at) = absurd (ne e)
              same trail trail' entries entries' (IsLike.elsewhere other t e) = (t, e)

      parts_as_told : FrameParts m m' told told bound First Second Like Alone
      parts_as_told = record {
        functions = has_functions;
        frames = frames;
        dropped = drops_covered p c v last n f (after s) (copy_apart m n f verified in_module s) m m' told told bound First Second;
        finished = finishes_covered p c v last n f (after s) (copy_apart m n f verified in_module s) m m' told told bound First Second;
        alone = come_together m m' told told n f in_module s (destroy_makes_none m n f verified in_module s) (copy_apart m n f verified in_module s)
            (λ g is. v_is_owned m n f verified in_module s owned quiet bound First Second g is) bound First Second kept knows;
      }

      pub moved_parts : FrameParts m m' (facts_of m) (facts_of m') bound First Second Like Alone
      moved_parts = subst (λ t. FrameParts m m' told t bound First Second Like Alone) (sym (facts_same m n f verified in_module s)) parts_as_told

    -- so the module runs as it did, by what holds on the runs of both
    pub moved_as_it_did : (First Second : ℕ → HolderState → Type 0) → HoldsOnRuns m First → HoldsOnRuns m' Second
        → ((bound : ℕ) → KnowsFrames p c v last n f (after s) (First bound)) → RunsAsItDid m m'
    moved_as_it_did First Second first second knows =
        run_as_they_did m m' First Second Like Alone first second has_functions
        (λ bound. moved_parts bound (First bound) (Second bound) (first.kept bound) (knows bound))
