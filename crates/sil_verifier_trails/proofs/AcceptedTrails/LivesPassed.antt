-- Owned values along the trails of an accepted function.
use Rattle.std.proofs.Common.{ℕ, ◌<◌, ◌∷◌, length, sym, arith, true, false, Option}
use Rattle.std.proofs.lemmas.Bool.{false≢true}
use Rattle.std.proofs.lemmas.Option.{same_Some}
use Rattle.sil_verifier_values.specs.lifetime_worklist.Lives.{lives_by, returned, turned_by}
use Rattle.sil_verifier_values.specs.lifetime_worklist.inner.Runs.{IsOwned}
use Rattle.numbered_form.specs.Numbering.{values_of}
use Rattle.sil_verifier_values.specs.ownership_kinds_chains.OwnershipChains.Facts.{is_owned, known_or, value_of}
use Rattle.sil_verifier_values.specs.ownership_kinds_chains.declared.ownership_chains.facts.Facts.{Facts}
use Rattle.sil_verifier_values.specs.ownership_kinds_origins.Facts.{facts_in}
use Rattle.sil_verifier_values.specs.ownership_kinds_chains.declared.ownership_marks.mark.MarkSort.TheVariants.{Begin, End, Use}
use Rattle.sil_verifier_values.specs.reach_engine_marks.PathChecks.Entries.{marks_for}
use Rattle.sil_ast.specs.declared.place.ValueId.{ValueId}
use Rattle.sil_rules.specs.declared.rule.Rule.TheVariants as rule
use Rattle.sil_verifier_trails.proofs.RunTrails.SwitchedTrails.{followed_turned}
use Rattle.sil_verifier_trails.proofs.RunTrails.TurnedTrails.{turned_older}
use Rattle.sil_verifier_values.specs.sil_verifier_accepted.AcceptedModules.Shown.{lives_in}
use Rattle.sil_verifier_trails.specs.AcceptedTrails.inner.Lives.{AreLivesPassed}
use Rattle.sil_verifier_trails.proofs.AcceptedTrails.Passed.{AsksOff, ReadsMarks, passed}
use Rattle.sil_verifier_trails.proofs.AcceptedTrails.OwnMarks.{TurnsAsRead, own_reads}
use Rattle.sil_verifier_trails.proofs.AcceptedTrails.Quiet.{range_free}
use Rattle.sil_verifier_trails.proofs.AcceptedTrails.Unbroken.{lives_unbroken}

as_read : TurnsAsRead turned_by
as_read End true c h = h
as_read End false c h = h
as_read Use true c h = h
as_read Use false c h = h
as_read Begin true c h = h
as_read Begin false c h = h

module _ (facts : ValueId → Option Facts) (v : ValueId) (owned : IsOwned facts v) (count : ℕ) (is_value : v.0 < count) where
  reads : ReadsMarks v (lives_by (known_or facts))
  reads = own_reads turned_by as_read (λ w. is_owned (known_or facts w).kind) v owned

  asks : AsksOff v (returned (known_or facts) count)
  asks true on c h =
      let r = range_free rule.Leak (λ n. is_owned (known_or facts (value_of n)).kind) v.0 0 count on c h in
      (r.0, λ _. r.1 (omega arith) (omega arith) owned)
  asks false on c h = (sym (same_Some on c h), λ e. absurd (false≢true e))

pub lives_passed : AreLivesPassed
lives_passed d f accepted v is t i trail =
    let follows = followed_turned f (marks_for v.0 (lives_in d f)) (lives_unbroken d f accepted.clean v) in
    let count = length (values_of f.blocks) in
    passed (facts_in d f) v f (lives_by (known_or (facts_in d f))) (returned (known_or (facts_in d f)) count)
    (reads (facts_in d f) v is.owned count is.is_value) (asks (facts_in d f) v is.owned count is.is_value) t i (follows t (turned_older f i t trail)) (follows (i ∷ t) trail)
