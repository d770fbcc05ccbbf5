-- Marks that turn no switch, and tables of which only such marks differ at the copy and go with the destroy.
use Rattle.std.proofs.Common.{◌≡◌, ℕ, zero, suc, List, [], ◌∷◌, ◌++◌, sym, ap, ◌∙◌, subst, Bool, true, false, cond, Some, None}
use Rattle.std.specs.Prelude.{◌==◌, filter_map}
use Rattle.std.specs.List.{cons_option, flat_map}
use Rattle.std.proofs.lemmas.List.Elements.{filter_map-append}
use Rattle.sil_ast.specs.declared.function.Function.{Function}
use Rattle.sil_ast.specs.declared.place.EdgeId.{EdgeId}
use Rattle.sil_ast.specs.declared.place.PointId.{PointId}
use Rattle.sil_ast.specs.declared.place.ValueId.{ValueId}
use Rattle.sil_cfg.specs.Flow.{Flow}
use Rattle.sil_cfg.specs.declared.item.Item.{Item}
use Rattle.sil_cfg.specs.declared.item.Item.TheVariants as item
use Rattle.sil_rules.specs.Rules.{index_of}
use Rattle.sil_rules.specs.declared.rule.Rule.{Rule}
use Rattle.reach_engine.specs.declared.scan.Step.TheVariants.{Go}
use Rattle.reach_engine.specs.inner.Run.{run}
use Rattle.reach_engine.proofs.Runs.{go-bad, same_Go}
use Rattle.reach_engine_marks.specs.PathPatterns.Along.{Shows}
use Rattle.reach_engine_marks.specs.PathPatterns.Marks.{needs_off, needs_on}
use Rattle.reach_engine_marks.specs.PathPatterns.Switch.{IsInPlace, code_of}
use Rattle.reach_engine_marks.specs.declared.path_patterns.mark.Mark.{Mark}
use Rattle.reach_engine_marks.specs.PathPatterns.inner.Automaton.{mark_step}
use Rattle.reach_engine_marks.specs.PathChecks.Entries.{means}
use Rattle.reach_engine_marks.specs.declared.path_checks.entry.Entry.{Entry}
use Rattle.copy_pairing_acceptance.proofs.MovedFunctions.Items.{gone, inside}
use Rattle.copy_pairing_acceptance.proofs.MovedFunctions.KeptOnWalks.{Turns, turns_join, turns_split}
use Rattle.copy_pairing_acceptance.proofs.MovedFunctions.Split.{IsSplit}
use Rattle.copy_pairing_acceptance.proofs.MovedFunctions.Walks.{TurnAlike}

-- ---- marks that turn nothing

abbrev pub IsQuiet : List Mark → Type 0
IsQuiet marks = (s t : ℕ) → Turns marks s t → s ≡ t

pub quiet_none : IsQuiet []
quiet_none s t h = same_Go s t h

pub quiet_both : (xs ys : List Mark) → IsQuiet xs → IsQuiet ys → IsQuiet (xs ++ ys)
quiet_both xs ys a b s t h = let parts = turns_split xs ys s t h in a s parts.0 parts.1 ∙ b parts.0 t parts.2

pub quiet_on : (r : Rule) → IsQuiet (needs_on r ∷ [])
quiet_on r zero t h = absurd (go-bad t (index_of r) (sym h))
quiet_on r (suc s) t h = same_Go (suc s) t h

pub quiet_off : (r : Rule) → IsQuiet (needs_off r ∷ [])
quiet_off r zero t h = same_Go zero t h
quiet_off r (suc s) t h = absurd (go-bad t (index_of r) (sym h))

-- what such marks follow leads where it led
pub without_quiet : (xs ys zs : List Mark) → IsQuiet zs → (a b : ℕ) → Turns (xs ++ (ys ++ zs)) a b → Turns (xs ++ ys) a b
without_quiet xs ys zs quiet a b h =
    let first = turns_split xs (ys ++ zs) a b h in
    let second = turns_split ys zs first.0 b first.2 in
    turns_join xs ys a first.0 b first.1 (subst (Turns ys first.0) (quiet second.0 b second.2) second.1)

-- ---- the entries of a subject

-- no entry of the subject turns its switch
abbrev pub IsQuietFor : ℕ → List Entry → Type 0
IsQuietFor u es = IsQuiet (filter_map (means u) es)

pub quiet_entries : (u : ℕ) (xs ys : List Entry) → IsQuietFor u xs → IsQuietFor u ys → IsQuietFor u (xs ++ ys)
quiet_entries u xs ys a b = subst IsQuiet (sym (filter_map-append (means u) xs ys)) (quiet_both (filter_map (means u) xs) (filter_map (means u) ys) a b)

pub quiet_each : {X : Type 0} (u : ℕ) (of : X → List Entry) → ((x : X) → IsQuietFor u (of x)) → (xs : List X) → IsQuietFor u (flat_map of xs)
quiet_each u of h [] = quiet_none
quiet_each u of h (x ∷ xs) = quiet_entries u (of x) (flat_map of xs) (h x) (quiet_each u of h xs)

pub quiet_entry : (u : ℕ) (e : Entry) → IsQuiet (e.mark ∷ []) → IsQuietFor u (e ∷ [])
quiet_entry u e quiet = at (e.subject == u)
  where
    at : (b : Bool) → IsQuiet (cons_option (cond b (Some e.mark) None) [])
    at true = quiet
    at false = quiet_none

-- ---- tables

module _ {f : Function} {p : PointId} {last : ℕ} {c v : ValueId} (s : IsSplit f p last c v) (old new : Item → List Mark) where
  -- the same marks at the copy, and none at the destroy that turns anything
  pub turn_alike : new (item.Inst p) ≡ old (item.Inst p) → IsQuiet (old (gone s)) → TurnAlike s old new
  turn_alike same quiet w a b walk ends to h =
      ap (λ xs. run mark_step (Go a) (xs ++ flat_map old (inside s))) same ∙ without_quiet (old (item.Inst p)) (flat_map old (inside s)) (old (gone s)) quiet a b h

-- ---- what is shown breaks a rule

pub shown_rule : {I : Type 0} (g : Flow I) (marks : I → List Mark) (w : List EdgeId) (code : ℕ) (i : I) (h : Shows g marks IsInPlace code_of w code i)
    → Shows g marks IsInPlace code_of w (index_of h.breaks.mark.rule) i
shown_rule g marks w code i h = subst (λ n. Shows g marks IsInPlace code_of w n i) h.breaks.code_is h
