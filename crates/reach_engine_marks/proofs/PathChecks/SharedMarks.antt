-- The entries that items share.
use Rattle.std.proofs.Common.{◌≡◌, ℕ, ◌+◌, ◌<◌, ◌≤◌, List, [], ◌∷◌, ◌++◌, length, get_or, take, refl, sym, ap, ◌∙◌, Bool, true, false, Option, Some, None, All, arith}
use Rattle.std.proofs.lemmas.List.Elements.{All-nil, All-cons, All-append}
use Rattle.std.proofs.lemmas.List.{append_assoc, take_more, length-take-le}
use Rattle.number_tables.specs.PathLists.inner.Lists.{list_at}
use Rattle.reach_engine_marks.specs.declared.path_patterns.mark.Mark.{Mark}
use Rattle.reach_engine_marks.specs.declared.path_checks.entry.Entry.{Entry}
use Rattle.reach_engine_marks.specs.PathChecks.inner.Shared.{entries_with, entry_if, is_sharing, shared_from, shared_if}

-- one subject more
pub shared_more : (n : ℕ) (marks : List (Option Mark)) (mark : Option Mark) → shared_from n (marks ++ mark ∷ []) ≡ shared_from n marks ++ entry_if (n + length marks) mark
shared_more n [] mark = at mark
  where
    at : (o : Option Mark) → entry_if n o ++ [] ≡ entry_if (n + 0) o
    at None = refl
    at (Some m) = let same : n ≡ n + 0 = omega arith in ap (λ k. record { subject = k; mark = m } ∷ []) same
shared_more n (m ∷ marks) mark =
    let same : (n + 1) + length marks ≡ n + length (m ∷ marks) = omega arith in
    ap (λ v. entry_if n m ++ v) (shared_more (n + 1) marks mark ∙ ap (λ k. shared_from (n + 1) marks ++ entry_if k mark) same)
    ∙ sym (append_assoc (entry_if n m) (shared_from (n + 1) marks) (entry_if (n + length (m ∷ marks)) mark))

pub shared_pushed : (marks : List (Option Mark)) (k : ℕ) (d : Option Mark) (old new : List Entry) → k < length marks → new ≡ old ++ entry_if k (get_or marks k d) → old ≡ shared_from 0 (take k marks)
    → new ≡ shared_from 0 (take (k + 1) marks)
shared_pushed marks k d old new lt pushed before =
    let size : 0 + length (take k marks) ≡ k = omega (arith, length-take-le k marks (omega arith)) in
    pushed ∙ ap (λ v. v ++ entry_if k (get_or marks k d)) before
    ∙ sym (ap (shared_from 0) (take_more marks k d lt) ∙ shared_more 0 (take k marks) (get_or marks k d) ∙ ap (λ n. shared_from 0 (take k marks) ++ entry_if n (get_or marks k d)) size)

shared_below : (bound n : ℕ) (marks : List (Option Mark)) → n + length marks ≤ bound → All (λ (e : Entry). e.subject < bound) (shared_from n marks)
shared_below bound n [] le = All-nil (λ (e : Entry). e.subject < bound)
shared_below bound n (None ∷ marks) le = shared_below bound (n + 1) marks (omega arith)
shared_below bound n (Some m ∷ marks) le =
    All-cons (λ (e : Entry). e.subject < bound) (record { subject = n; mark = m }) (shared_from (n + 1) marks) (omega arith) (shared_below bound (n + 1) marks (omega arith))

pub all_below : (bound : ℕ) (own : List (List Entry)) (marks : List (Option Mark)) (sharing : List Bool) (i : ℕ) → length marks ≤ bound → All (λ (e : Entry). e.subject < bound) (list_at own i)
    → All (λ (e : Entry). e.subject < bound) (entries_with own marks sharing i)
all_below bound own marks sharing i le below = All-append (λ (e : Entry). e.subject < bound) (list_at own i) (shared_if marks (is_sharing sharing i)) below (at (is_sharing sharing i))
  where
    at : (b : Bool) → All (λ (e : Entry). e.subject < bound) (shared_if marks b)
    at true = shared_below bound 0 marks (omega arith)
    at false = All-nil (λ (e : Entry). e.subject < bound)
