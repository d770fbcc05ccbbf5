-- What the automata reach on the graph is what the table shows on the function.
use Rattle.std.proofs.Common.{◌≡◌, ◌≢◌, ℕ, ◌+◌, ◌-◌, ◌<◌, ◌≤◌, List, [], ◌∷◌, length, refl, sym, ap, ◌∙◌, subst, ◌⊎◌, inl, inr, Some, None, All, arith}
use Rattle.std.specs.Prelude.{filter_map}
use Rattle.std.proofs.lemmas.Bool.{cases_eq}
use Rattle.sil_ast.specs.declared.place.EdgeId.{EdgeId}
use Rattle.sil_ast.specs.declared.place.PointId.{PointId}
use Rattle.sil_ast.specs.declared.function.Function.{Function}
use Rattle.sil_rules.specs.Order.{NotAfter}
use Rattle.sil_rules.specs.Rules.{index_of, number_of}
use Rattle.sil_rules.specs.declared.rule.Rule.{Rule}
use Rattle.sil_rules.proofs.Numbers.{numbers_rise, same_rule}
use Rattle.sil_cfg.specs.declared.item.Item.{Item}
use Rattle.sil_cfg.specs.declared.item.Item.TheVariants.{Entry, Inst, Edge, Exit}
use Rattle.sil_cfg.specs.Layout.{Layout, item_at}
use Rattle.sil_cfg.specs.Flow.{numbered, point_of}
use Rattle.sil_cfg.specs.Items.{flow_of}
use Rattle.sil_cfg.specs.inner.Build.{IsGraphOf}
use Rattle.reach_engine.specs.inner.Reach.{ReachesFirst}
use Rattle.reach_engine.specs.inner.Search.{IsClean}
use Rattle.reach_engine.specs.declared.scan.Step.TheVariants.{Go}
use Rattle.reach_engine.specs.inner.Run.{run}
use Rattle.reach_engine.proofs.Runs.{go-bad}
use Rattle.reach_engine_marks.specs.PathPatterns.inner.Reads.{AgreesWith}
use Rattle.reach_engine_marks.specs.PathPatterns.Switch.{IsInPlace, code_of}
use Rattle.reach_engine_marks.specs.PathPatterns.inner.Automaton.{mark_step}
use Rattle.reach_engine_marks.proofs.PathPatterns.MarksRead.{read_run}
use Rattle.reach_engine_marks.proofs.PathPatterns.SwitchDecided.{switch_decides}
use Rattle.reach_engine_marks.proofs.PathPatterns.PatternsDecided.{reached_shown, shown_reached}
use Rattle.reach_engine_marks.proofs.PathPatterns.GraphPatterns.{shown_there, shown_back}
use Rattle.reach_engine_marks.specs.declared.path_checks.entry.Entry as entry
use Rattle.reach_engine_marks.specs.declared.path_checks.fault.PathFault.{PathFault}
use Rattle.reach_engine_marks.specs.PathChecks.Entries.{marks_for, means}
use Rattle.reach_engine_marks.specs.PathChecks.inner.Automata.{subject_step}
use Rattle.reach_engine_marks.specs.PathChecks.inner.Chunks.{IsChunkFault}
use Rattle.reach_engine_marks.specs.PathChecks.First.{IsShownAt, IsShown, IsFirst}
use Rattle.reach_engine_marks.proofs.PathChecks.OtherSubjects.{quiet_run}

point_same : (g : Layout) (f : Function) → IsGraphOf g f → (item : Item) → point_of (numbered g) item ≡ point_of (flow_of f) item
point_same g f is Entry = refl
point_same g f is (Inst p) = refl
point_same g f is (Edge e) = ap (λ n. record { block = e.block; index = n }) (is.last e.block.0)
point_same g f is (Exit p) = refl

-- a number is at most another one: it is less, or the same
first_then : (x y : ℕ) (xs ys : List ℕ) → x ≤ y → (x ≡ y → NotAfter xs ys) → NotAfter (x ∷ xs) (y ∷ ys)
first_then x y xs ys le more = at (cases_eq x y)
  where
    at : (x ≡ y) ⊎ (x ≢ y) → NotAfter (x ∷ xs) (y ∷ ys)
    at (inl e) = inr (e, more e)
    at (inr n) = inl (omega arith)

at_most : (x y : ℕ) → (y < x → ⊥) → x ≤ y
at_most x y h = grind (arith, h)

-- rules are in the order of their indices
rules_then : (a b : Rule) (xs ys : List ℕ) → index_of a ≤ index_of b → (a ≡ b → NotAfter xs ys) → NotAfter (number_of a ∷ xs) (number_of b ∷ ys)
rules_then a b xs ys le more = at (cases_eq (index_of a) (index_of b))
  where
    at : (index_of a ≡ index_of b) ⊎ (index_of a ≢ index_of b) → NotAfter (number_of a ∷ xs) (number_of b ∷ ys)
    at (inl e) = let same : a ≡ b = same_rule a b e in inr (ap number_of same, more same)
    at (inr n) = inl (numbers_rise a b (omega arith))

module _ (g : Layout) (f : Function) (is : IsGraphOf g f) (entries : ℕ → List entry.Entry) (table : Item → List entry.Entry) (agrees : AgreesWith g entries table) where
  marks_agree : (subject : ℕ) → AgreesWith g (marks_for subject entries) (marks_for subject table)
  marks_agree subject i item e = ap (filter_map (means subject)) (agrees i item e)

  entries_read : (subject s i : ℕ) → subject_step entries subject s i ≡ run mark_step (Go s) (marks_for subject entries i)
  entries_read subject s i = read_run mark_step (means subject) (Go s) (entries i)

  -- what is shown is reached
  pub shown_is_reached : (subject : ℕ) (rule : Rule) (walk : List EdgeId) (point : PointId) → IsShown f table subject rule walk point →
      (i : ℕ) × ReachesFirst (numbered g) (subject_step entries subject) walk (index_of rule) i
  shown_is_reached subject rule walk point h =
      let r = shown_back g f is (marks_for subject entries) (marks_for subject table) (marks_agree subject) IsInPlace code_of walk (index_of rule) h.item h.at.shows in (
        r.0,
        shown_reached mark_step IsInPlace code_of switch_decides (marks_for subject entries) (subject_step entries subject) (entries_read subject) (numbered g) walk (index_of rule) r.0 r.2,
      )

  -- and what is reached is shown
  pub reached_is_shown : (subject : ℕ) (rule : Rule) (walk : List EdgeId) (point : PointId) (i : ℕ) (item : Item) →
      ReachesFirst (numbered g) (subject_step entries subject) walk (index_of rule) i → item_at g i ≡ Some item → point ≡ point_of (numbered g) item →
      IsShownAt f table subject rule walk point item
  reached_is_shown subject rule walk point i item h there point_is =
      let shows = reached_shown mark_step IsInPlace code_of switch_decides (marks_for subject entries) (subject_step entries subject) (entries_read subject) (numbered g) walk (index_of rule) i h in
      record {
        point_is = point_is ∙ point_same g f is item;
        shows = shown_there g f is (marks_for subject entries) (marks_for subject table) (marks_agree subject) IsInPlace code_of walk (index_of rule) i item there shows;
      }

  -- a subject without entries is clean
  pub absent_clean : (subject : ℕ) → ((i : ℕ) → All (λ e. e.subject ≡ subject → ⊥) (entries i)) → IsClean (numbered g) (subject_step entries subject)
  absent_clean subject none w code item h = go-bad h.state code (sym (quiet_run subject h.state (entries item) (none item)) ∙ h.breaks)

  clean_unshown : (subject : ℕ) → IsClean (numbered g) (subject_step entries subject) → (rule : Rule) (walk : List EdgeId) (point : PointId) →
      IsShown f table subject rule walk point → ⊥
  clean_unshown subject clean rule walk point h = let r = shown_is_reached subject rule walk point h in clean walk (index_of rule) r.0 r.1

  -- where all subjects are clean nothing is shown
  pub nothing_shown : ((subject : ℕ) → IsClean (numbered g) (subject_step entries subject)) → IsFirst f table None
  nothing_shown clean subject rule walk point h = clean_unshown subject (clean subject) rule walk point h

  -- where those before are clean, the chunk's fault is the first
  pub chunk_fault_first : (first count : ℕ) (fault : PathFault) → ((v : ℕ) → v < first → IsClean (numbered g) (subject_step entries v)) →
      IsChunkFault g entries first count fault → IsFirst f table (Some fault)
  chunk_fault_first first count fault before h = (
    reached_is_shown fault.subject fault.rule fault.walk fault.point h.item fault.item h.reaches h.there h.point,
    λ subject rule walk point s.
        first_then fault.subject subject (number_of fault.rule ∷ (length fault.walk ∷ [])) (number_of rule ∷ (length walk ∷ []))
        (at_most fault.subject subject (λ lt. clean_unshown subject (earlier subject lt) rule walk point s))
        (λ same.
        let r : (i : ℕ) × ReachesFirst (numbered g) (subject_step entries fault.subject) walk (index_of rule) i =
        subst (λ v. (i : ℕ) × ReachesFirst (numbered g) (subject_step entries v) walk (index_of rule) i) (sym same) (shown_is_reached subject rule walk point s) in
        rules_then fault.rule rule (length fault.walk ∷ []) (length walk ∷ []) (h.least walk (index_of rule) r.0 r.1)
        (λ again.
        let t : ReachesFirst (numbered g) (subject_step entries fault.subject) walk (index_of fault.rule) r.0 =
        subst (λ (c : Rule). ReachesFirst (numbered g) (subject_step entries fault.subject) walk (index_of c) r.0) (sym again) r.1 in
        first_then (length fault.walk) (length walk) [] [] (h.shortest walk r.0 t) (λ _. tt))),
  )
    where
      earlier : (v : ℕ) → v < fault.subject → IsClean (numbered g) (subject_step entries v)
      earlier v lt = at (less_or_not v first)
        where
          less_or_not : (x y : ℕ) → (x < y) ⊎ (y ≤ x)
          less_or_not x y = grind arith

          at : (v < first) ⊎ (first ≤ v) → IsClean (numbered g) (subject_step entries v)
          at (inl l) = before v l
          at (inr le) =
              let subject : fault.subject ≡ first + h.offset = h.subject in
              let place : first + (v - first) ≡ v = omega arith in
              subst (λ x. IsClean (numbered g) (subject_step entries x)) place (h.clean (v - first) (omega arith))
