-- Which rules a search of a table may show: those of its marks.
use Rattle.std.proofs.Common.{◌≡◌, ℕ, ◌<◌, List, [], ◌∷◌, ◌++◌, sym, ap, ◌∙◌, subst, Bool, true, false, Some, None}
use Rattle.std.specs.Prelude.{cond, filter_map, map, ◌==◌}
use Rattle.std.specs.List.{AllByRecursion, cons_option, flat_map}
use Rattle.sil_ast.specs.declared.function.Function.{Function}
use Rattle.sil_ast.specs.declared.place.EdgeId.{EdgeId}
use Rattle.sil_ast.specs.declared.place.PointId.{PointId}
use Rattle.sil_rules.specs.Rules.{index_of, rule_at}
use Rattle.sil_rules.specs.declared.rule.Rule.{Rule}
use Rattle.sil_rules.specs.declared.rule.TheConstants.{RULE_COUNT}
use Rattle.sil_rules.proofs.Numbers.{in_place, same_rule}
use Rattle.sil_cfg.specs.declared.item.Item.{Item}
use Rattle.sil_cfg.specs.Flow.{Flow}
use Rattle.reach_engine.specs.declared.scan.Step.TheVariants.{Go, Bad}
use Rattle.reach_engine.specs.inner.Reach.{ReachesFirst}
use Rattle.reach_engine.proofs.Runs.{bad_at, go-bad, same_Bad}
use Rattle.reach_engine_marks.specs.PathPatterns.inner.Reads.{read_step, step_in}
use Rattle.reach_engine_marks.specs.PathPatterns.Switch.{code_of}
use Rattle.reach_engine_marks.specs.PathPatterns.inner.Automaton.{fits, mark_step, turned}
use Rattle.reach_engine_marks.specs.declared.path_patterns.mark.Mark.{Mark}
use Rattle.reach_engine_marks.specs.PathChecks.Entries.{marks_for, means}
use Rattle.reach_engine_marks.specs.PathChecks.inner.Automata.{subject_step}
use Rattle.reach_engine_marks.specs.PathChecks.First.{IsBreakShown, IsShown}
use Rattle.reach_engine_marks.specs.declared.path_checks.entry.Entry.{Entry}

-- the way back from a code to a rule
pub record IsRuleCode (code : ℕ) : Type 0 where
  pub below : code < RULE_COUNT
  pub found : index_of (rule_at code) ≡ code

told_by : (r : Rule) (code : ℕ) → index_of r ≡ code → IsRuleCode code
told_by r code e = record {
  below = subst (λ n. n < RULE_COUNT) e (in_place r).0;
  found = ap (λ n. index_of (rule_at n)) (sym e) ∙ ap index_of (in_place r).1 ∙ e;
}

mark_code : (s : ℕ) (mark : Mark) (b : Bool) (code : ℕ) → cond b (Go (turned s mark.turns)) (Bad (code_of mark)) ≡ Bad code → IsRuleCode code
mark_code s mark true code e = absurd (go-bad (turned s mark.turns) code e)
mark_code s mark false code e = told_by mark.rule code (same_Bad (code_of mark) code e)

entry_code : (s : ℕ) (mark : Mark) (own : Bool) (code : ℕ) → step_in mark_step s (cond own (Some mark) None) ≡ Bad code → IsRuleCode code
entry_code s mark true code e = mark_code s mark (fits s mark.needs) code e
entry_code s mark false code e = absurd (go-bad s code e)

-- each break of a table has the index of a rule as its code
pub reached_rule : (g : Flow ℕ) (entries : ℕ → List Entry) (subject : ℕ) (walk : List EdgeId) (code item : ℕ) →
    ReachesFirst g (subject_step entries subject) walk code item → IsRuleCode code
reached_rule g entries subject walk code item h =
    let b = bad_at (read_step mark_step (means subject)) h.state (entries item) code h.breaks in
    entry_code b.state b.here.mark (b.here.subject == subject) code b.breaks

module _ {X : Type 0} (P : X → Type 0) where
  pub each_append : (xs ys : List X) → AllByRecursion P xs → AllByRecursion P ys → AllByRecursion P (xs ++ ys)
  each_append [] ys a b = b
  each_append (x ∷ xs) ys a b = (a.0, each_append xs ys a.1 b)

  pub each_map : {A : Type 0} (g : A → X) (xs : List A) → ((x : A) → P (g x)) → AllByRecursion P (map g xs)
  each_map g [] h = tt
  each_map g (x ∷ xs) h = (h x, each_map g xs h)

  pub each_flat : {A : Type 0} (g : A → List X) (xs : List A) → ((x : A) → AllByRecursion P (g x)) → AllByRecursion P (flat_map g xs)
  each_flat g [] h = tt
  each_flat g (x ∷ xs) h = each_append (g x) (flat_map g xs) (h x) (each_flat g xs h)

  pub each_if : (b : Bool) (e : X) → P e → AllByRecursion P (cond b (e ∷ []) [])
  each_if true e h = (h, tt)
  each_if false e h = tt

  each_in : (front rest : List X) (x : X) → AllByRecursion P (front ++ x ∷ rest) → P x
  each_in [] rest x h = h.0
  each_in (y ∷ front) rest x h = each_in front rest x h.1

-- what is told of the rules of all marks is told of a rule that a walk shows
pub broken_rule : (Q : Rule → Type 0) (f : Function) (marks : Item → List Mark) → ((item : Item) → AllByRecursion (λ m. Q m.rule) (marks item)) →
    (rule : Rule) (walk : List EdgeId) (point : PointId) (item : Item) → IsBreakShown f marks rule walk point item → Q rule
broken_rule Q f marks each rule walk point item h =
    let b = h.shows.breaks in
    let here : Q b.mark.rule = each_in (λ m. Q m.rule) b.front b.rest b.mark (subst (AllByRecursion (λ m. Q m.rule)) b.parts (each item)) in
    subst Q (sym (same_rule rule b.mark.rule b.code_is)) here

-- the subject's marks are of rules of its entries
each_for : (Q : Rule → Type 0) (subject : ℕ) (entries : List Entry) → AllByRecursion (λ e. Q e.mark.rule) entries → AllByRecursion (λ m. Q m.rule) (filter_map (means subject) entries)
each_for Q subject [] h = tt
each_for Q subject (e ∷ entries) h = at (e.subject == subject) (each_for Q subject entries h.1)
  where
    at : (own : Bool) → AllByRecursion (λ m. Q m.rule) (filter_map (means subject) entries)
        → AllByRecursion (λ m. Q m.rule) (cons_option (cond own (Some e.mark) None) (filter_map (means subject) entries))
    at true rest = (h.0, rest)
    at false rest = rest

-- what is told of the rules of all entries of a table is told of a rule that a walk shows
pub shown_rule : (Q : Rule → Type 0) (f : Function) (table : Item → List Entry) → ((item : Item) → AllByRecursion (λ e. Q e.mark.rule) (table item)) →
    (subject : ℕ) (rule : Rule) (walk : List EdgeId) (point : PointId) → IsShown f table subject rule walk point → Q rule
shown_rule Q f table each subject rule walk point h =
    broken_rule Q f (marks_for subject table) (λ item. each_for Q subject (table item) (each item)) rule walk point h.item h.at
