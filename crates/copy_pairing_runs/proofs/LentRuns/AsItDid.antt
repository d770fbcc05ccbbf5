-- A module in which a copy is lent runs as it did: all parts of lockstep together.
use Rattle.std.proofs.Common.{◌≡◌, ℕ, List, refl, sym, ap, ◌∙◌, subst, Bool, true, false, cond, Some}
use Rattle.std.specs.Prelude.{◌==◌, option_map, slice_get}
use Rattle.std.proofs.lemmas.Bool.{eq-eqb, eqb-true}
use Rattle.std.proofs.lemmas.Option.{same_Some}
use Rattle.sil_ast.specs.declared.function.Function.{Function}
use Rattle.sil_ast.specs.declared.module.Module.{Module}
use Rattle.sil_ast.specs.declared.place.FuncId.{FuncId}
use Rattle.sil_ast.specs.declared.place.PointId.{PointId}
use Rattle.sil_ast.specs.declared.place.ValueId.{ValueId}
use Rattle.sil_cfg.specs.declared.item.Item.{Item}
use Rattle.sil_types_declarations.specs.TypeDefinitions.Declarations.{declarations_of}
use Rattle.copy_pairing_acceptance.specs.copy_pairing_model.Optimised.{lends}
use Rattle.copy_pairing_acceptance.specs.copy_pairing_model.Rewritten.{lent, with_function}
use Rattle.holder_model_laws.specs.holder_model.Frames.{Entry}
use Rattle.holder_model_laws.specs.holder_model.ModuleFacts.{facts_of}
use Rattle.sil_verifier_runs.specs.inner.Loans.Loans.{loans_of}
use Rattle.sil_verifier_runs.specs.inner.RightStates.{IsRightState}
use Rattle.sil_verifier_runs.proofs.RightRuns.{each_excluded, right_kept}
use Rattle.copy_pairing_acceptance.specs.RewritingLaws.inner.Laws.{IsVerifiedAs, RewritingKeepsVerified}
use Rattle.holder_model_laws.specs.LockstepRuns.inner.Frames.{DoAlike, FrameParts}
use Rattle.holder_model_laws.specs.LockstepRuns.inner.Laws.{HoldsOnRuns}
use Rattle.holder_model_laws.proofs.LockstepRuns.AsTheyDid.{run_as_they_did}
use Rattle.holder_model_laws.proofs.LockstepRuns.Unchanged.{unchanged_does_alike}
use Rattle.sil_verifier_runs.specs.sil_verifier_accepted.AcceptedModules.inner.Checked.{IsVerified}
use Rattle.sil_verifier_runs.proofs.sil_verifier_values.Facts.{run_facts}
use Rattle.copy_pairing_acceptance.proofs.LentFunctions.Clean.{lent_ready}
use Rattle.copy_pairing_acceptance.proofs.LentFunctions.Ready.{Ready}
use Rattle.copy_pairing_runs.specs.LentRuns.inner.Laws.{LentRunsAsItDid}
use Rattle.copy_pairing_runs.specs.LentRuns.inner.LentEntries.{IsLentFrame, NeverAlone, lent_entries}
use Rattle.copy_pairing_runs.proofs.LentRuns.Covered.{come_together, copies_spared, drops_covered, finishes_covered}
use Rattle.copy_pairing_runs.proofs.LentRuns.DoesAlike.{lent_does_alike}
use Rattle.copy_pairing_runs.proofs.LentRuns.Told.{count_lent, has_functions, is_stand_in, lent_told, other_told, same_shapes, stand_in, stands_in}

-- states of runs of an accepted module are right
pub right_on_runs : (m : Module) → IsVerified m → HoldsOnRuns m (λ bound. IsRightState m)
right_on_runs m verified = record {
  begin = λ bound e f there may. right_kept.begin m e f verified there may;
  kept = λ bound. record {
    goes = λ s next is by. right_kept.goes m bound s next verified tt tt is by;
    faultless = λ s last x is by. each_excluded x (right_kept.faults m bound s last x verified tt is by);
  };
}

module _ (m : Module) (n : ℕ) (f : Function) (p : PointId) (c v : ValueId) (there : slice_get m.functions n ≡ Some f)
    (r : Ready (declarations_of m) f p c v) (kept : IsVerifiedAs m (with_function n (lent c) m)) where
  abbrev m' : Module
  m' = with_function n (lent c) m

  abbrev Like : FuncId → List Item → List Entry → List Item → List Entry → Type 0
  Like = IsLentFrame n f c

  found : (g : FuncId) → g.0 ≡ n → slice_get m.functions g.0 ≡ Some f
  found g numbered = ap (slice_get m.functions) numbered ∙ there

  stand_in_here : (g : FuncId) (k : Function) → g.0 ≡ n → stand_in m n c kept.declarations g k ≡ lent c k
  stand_in_here g k numbered = ap (λ b. cond b (lent c k) k) (eq-eqb g.0 n numbered)

  found' : (g : FuncId) → g.0 ≡ n → slice_get m'.functions g.0 ≡ Some (lent c f)
  found' g numbered =
      stands_in m n c kept.declarations g ∙ (ap (option_map (stand_in m n c kept.declarations g)) (found g numbered) ∙ ap Some (stand_in_here g f numbered))

  module _ (bound : ℕ) where
    abbrev Does : FuncId → Function → Function → Type 0
    Does g k k' = DoAlike m m' (facts_of m) (facts_of m') bound (IsRightState m) (IsRightState m') Like NeverAlone g k k'

    frames : (g : FuncId) (k k' : Function) → slice_get m.functions g.0 ≡ Some k → slice_get m'.functions g.0 ≡ Some k' → Does g k k'
    frames g k k' is is' = by (g.0 == n) refl
      where
        stands : k' ≡ stand_in m n c kept.declarations g k
        stands = is_stand_in m n c kept.declarations g k k' is is'

        by : (b : Bool) → (g.0 == n) ≡ b → Does g k k'
        by true e =
            let numbered : g.0 ≡ n = eqb-true g.0 n e in
            let one : f ≡ k = same_Some f k (sym (found g numbered) ∙ is) in
            subst (Does g k) (sym (stands ∙ (stand_in_here g k numbered ∙ ap (lent c) (sym one))))
            (subst (λ x. Does g x (lent c f)) one
            (lent_does_alike m m' (facts_of m) (facts_of m') bound (IsRightState m) (IsRightState m') n p c v g numbered f r kept.declarations
            (same_shapes m n c kept.declarations) (run_facts m g f (found g numbered)) (lent_told m n c kept.declarations g f (found' g numbered)) (count_lent c f)
            (copies_spared m m' (facts_of m) (facts_of m') bound (loans_of m') (IsRightState m) (IsRightState m') (λ s right. right.guarded) n f p c v r
            kept.declarations found' g numbered)))
        by false e =
            let apart : g.0 ≡ n → ⊥ = λ same. let wrong : true ≡ false = sym (eq-eqb g.0 n same) ∙ e in cc in
            subst (Does g k) (sym (stands ∙ ap (λ b. cond b (lent c k) k) e))
            (unchanged_does_alike m m' (facts_of m) (facts_of m') bound (IsRightState m) (IsRightState m') Like NeverAlone kept.declarations
            (same_shapes m n c kept.declarations) g k (other_told m n c kept.declarations g apart)
            (λ trail trail' es es' like. (like.trails, like.lent ∙ ap (λ b. cond b (lent_entries c es) es) e))
            (λ trail es. record { trails = refl; lent = sym (ap (λ b. cond b (lent_entries c es) es) e); copy = λ same. absurd (apart same) }))

    parts : FrameParts m m' (facts_of m) (facts_of m') bound (IsRightState m) (IsRightState m') Like NeverAlone
    parts = record {
      functions = has_functions m n c kept.declarations;
      frames = frames;
      dropped = drops_covered m m' (facts_of m) (facts_of m') bound (loans_of m') (IsRightState m) (IsRightState m') (λ s right. right.guarded) n f p c v r
          kept.declarations found';
      finished = finishes_covered m m' (facts_of m) (facts_of m') bound (loans_of m') (IsRightState m) (IsRightState m') (λ s right. right.guarded) n f p c v r
          kept.declarations found';
      alone = come_together m m' (facts_of m) (facts_of m') bound (loans_of m') (IsRightState m) (IsRightState m') (λ s right. right.guarded) n f p c v r
          kept.declarations found';
    }

pub lent_runs_as_it_did : RewritingKeepsVerified → LentRunsAsItDid
lent_runs_as_it_did keeps m n f p c v verified there copy borrowable =
    let kept = keeps m n p (with_function n (lent c) m) verified (lends f c v there copy borrowable) in
    let r = lent_ready m n f p c v verified there copy borrowable in
    run_as_they_did m (with_function n (lent c) m) (λ bound. IsRightState m) (λ bound. IsRightState (with_function n (lent c) m)) (IsLentFrame n f c) NeverAlone
    (right_on_runs m verified) (right_on_runs (with_function n (lent c) m) kept.verified) (has_functions m n c kept.declarations)
    (parts m n f p c v there r kept)
